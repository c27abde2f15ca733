-- The heads of the captures, one port after another.
use Rattle.std.proofs.Common.{◌≡◌, ℕ, ◌+◌, ◌*◌, ◌<◌, ◌≤◌, List, [], ◌∷◌, ◌++◌, length, length-append, Ok, Err, IsTrue, refl, sym, ap, ◌∙◌, subst, arith, inl, inr}
use Rattle.std.specs.Prelude.{Vec, Result}
use Rattle.std.specs.declared.alloc.Global.{Global}
use Rattle.fab_base.specs.Ending.{End, Said, Read, Uses}
use Rattle.fab_base.specs.Seen.{Seen, OpensIn, Touches, Nothing, Only}
use Rattle.fab_base.specs.declared.values.Failed.{Failed}
use Rattle.fab_base.proofs.EndingLemmas.{uses_none, uses_refused, uses_then, uses_wider, uses_read, rose_only, opens_in_uses}
use Rattle.fab_base.proofs.SeenLemmas.{rose_later, told_stays}
use Rattle.pcap_file.specs.Capture.{HEAD}
use Rattle.pcap_file.specs.Reading.{Reading, OpensReader, to_come}
use Rattle.pcap_file.specs.declared.Budget.{Budget}
use Rattle.pcap_file.specs.declared.CapFault.{CapFault}
use Rattle.pcap_file.specs.declared.CapOpen.{CapOpen}
use Rattle.pcap_file.specs.declared.CapOpen.TheVariants as opens
use Rattle.pcap_file.proofs.lemmas.Numbers.{le_or_lt}
use Rattle.window_records.specs.First.{opened_in}
use Rattle.window_records.specs.declared.shelf.Input.{Input}
use Rattle.run_files.specs.Names.{Among}
use Rattle.fabric_tool.specs.Inputs.{AreOpened}
use Rattle.fabric_tool.specs.Outcome.{outcome_end}
use Rattle.fabric_tool.specs.Reading.{IsHead, HeadRead, HeadEnds, AreHeads, HeadsRead, HeadsEnd, unopened_by}
use Rattle.fabric_tool.specs.declared.outcome.Outcome.{Outcome}
use Rattle.fabric_tool.specs.declared.outcome.Outcome.TheVariants as ends
use Rattle.fabric_tool.proofs.UseLemmas.{used_touches, used_files, used_told}
use Rattle.run_files.proofs.NameLemmas.{among_front, among_back, among_all}

-- ---- one capture

pub head_unopened : (port : ℕ) (name : List ℕ) (a b : Seen) (had : Budget) (e : Failed) → OpensIn {E = Failed} name a b (Err e) → HeadRead port name a b had had (Err ends.ReadFault)
head_unopened port name a b had e o = record { uses = opens_in_uses a b name (Err e) o; head = tt; taken = tt; ended = tt }

module _ (port : ℕ) (name : List ℕ) (s : ℕ) (a b c : Seen) (had left : Budget) (o : OpensIn {E = Failed} name a b (Ok s)) where
  told_b : IsTrue a.told → IsTrue b.told
  told_b = told_stays name a b o.reads.keeps

  behind_it : (end : End) → Uses (Only (b.name s)) Nothing end b c → Uses (Only name) Nothing end a c
  behind_it end u = uses_then (Only name) Nothing end a b c (opens_in_uses a b name (Ok s) o) (subst (λ n. Uses (Only n) Nothing end b c) o.opened.2 u)

  pub head_opened : (i : Input) → i.slot ≡ s → OpensReader s b c had left (Ok i.reader) → HeadRead port name a c had left (Ok i)
  head_opened i at r =
      let same = r.reads.keeps.slots s (inl o.opened.0) in
      record {
        uses = behind_it Said (uses_read (b.name s) Said b c r.reads (r.counts, r.reads.writes));
        head = record {
          slot = subst (λ (k : ℕ). IsTrue (c.input k)) (sym at) (subst IsTrue (sym same.input) o.opened.0);
          name_ = ap c.name at ∙ same.name ∙ o.opened.2;
          fresh = record { at = r.begins.0; greatest = r.begins.1; kept = r.begins.2 };
          opened = λ told. record {
            bytes = b.left s;
            file = o.left told;
            head = (r.head (told_b told)).0;
            body = ap (λ (k : ℕ). to_come i.reader c k) at ∙ (r.head (told_b told)).1;
          };
        };
        taken = r.taken;
        ended = tt;
      }

  -- a fault of the head isn't told where the budget has no room for it
  enough : (fault : CapFault) → (had.bytes < HEAD → (let r : Result Reading CapOpen = Err (opens.Head fault) in r) ≡ Err opens.Bytes) → HEAD ≤ had.bytes
  enough fault none = elim (le_or_lt HEAD had.bytes) [
    | inl le ↦ le
    | inr lt ↦ absurd (let same = none lt in cc)
  ]

  failed_as : (e : CapOpen) → OpensReader s b c had left (Err e) → HeadEnds port name had.bytes a (unopened_by e port)
  failed_as (opens.Head fault) r = (refl, refl, enough fault (r.bytes).1, λ told. record { bytes = b.left s; file = o.left told; fault = fault; says = r.refused (told_b told); word = refl })
  failed_as (opens.Read f) r = tt
  failed_as opens.Bytes r = (refl, (r.bytes).0 refl)

  used_as : (e : CapOpen) → OpensReader s b c had left (Err e) → Uses (Only (b.name s)) Nothing (outcome_end (unopened_by e port)) b c
  used_as (opens.Head fault) r = uses_read (b.name s) Said b c r.reads (r.counts, r.reads.writes)
  used_as (opens.Read f) r = uses_read (b.name s) Read b c r.reads (r.refused, r.reads.writes)
  used_as opens.Bytes r = uses_read (b.name s) Said b c r.reads (r.counts, r.reads.writes)

  pub head_failed : (e : CapOpen) (x : Outcome) → x ≡ unopened_by e port → OpensReader s b c had left (Err e) → HeadRead port name a c had left (Err x)
  head_failed e x is r = subst (λ (y : Outcome). HeadRead port name a c had left (Err y)) (sym is) (record { uses = behind_it (outcome_end (unopened_by e port)) (used_as e r); head = tt; taken = tt; ended = failed_as e r })

-- ---- all captures

-- what later calls on other names leave of the heads
is_head_still : (a b d : Seen) (name : List ℕ) (i : Input) (may counted : List ℕ → Type 0) → Touches may counted b d → (counted name → ⊥) → IsHead a b name i → IsHead a d name i
is_head_still a b d name i may counted k apart h =
    let same = k.slots i.slot (inl h.slot) in
    record {
      slot = subst IsTrue (sym same.input) h.slot;
      name_ = same.name ∙ h.name_;
      fresh = h.fresh;
      opened = λ told.
          let was = h.opened told in
          let left = k.left i.slot h.slot (λ x. apart (subst counted h.name_ x)) in
          record { bytes = was.bytes; file = was.file; head = was.head; body = ap (λ l. i.reader.held ++ l) left ∙ was.body };
    }

pub heads_still : (a b d : Seen) (names : List (List ℕ)) (ins : List Input) (may counted : List ℕ → Type 0) → Touches may counted b d → ((m : List ℕ) → Among names m → counted m → ⊥) → AreHeads a b names ins → AreHeads a d names ins
heads_still a b d [] [] may counted k apart are = tt
heads_still a b d [] (i ∷ ins) may counted k apart are = absurd are
heads_still a b d (n ∷ names) [] may counted k apart are = absurd are
heads_still a b d (n ∷ names) (i ∷ ins) may counted k apart are =
    (is_head_still a b d n i may counted k (apart n (inl refl)) are.0, heads_still a b d names ins may counted k (λ m among. apart m (inr among)) are.1)

head_since : (a b d : Seen) → ((m : List ℕ) → b.file m ≡ a.file m) → (IsTrue a.told → IsTrue b.told) → (name : List ℕ) (i : Input) → IsHead b d name i → IsHead a d name i
head_since a b d files told_b name i h = record {
  slot = h.slot;
  name_ = h.name_;
  fresh = h.fresh;
  opened = λ told. let was = h.opened (told_b told) in record { bytes = was.bytes; file = sym (files name) ∙ was.file; head = was.head; body = was.body };
}

heads_push : (a d : Seen) (names : List (List ℕ)) (name : List ℕ) (ins : List Input) (i : Input) → AreHeads a d names ins → IsHead a d name i → AreHeads a d (names ++ name ∷ []) (ins ++ i ∷ [])
heads_push a d [] name [] i are is = (is, tt)
heads_push a d [] name (x ∷ ins) i are is = absurd are
heads_push a d (n ∷ names) name [] i are is = absurd are
heads_push a d (n ∷ names) name (x ∷ ins) i are is = (are.0, heads_push a d names name ins i are.1 is)

-- the same of the files of an earlier moment
pub heads_since : (a b d : Seen) → ((m : List ℕ) → b.file m ≡ a.file m) → (IsTrue a.told → IsTrue b.told) → (names : List (List ℕ)) (ins : List Input) → AreHeads b d names ins → AreHeads a d names ins
heads_since a b d files told_b [] [] are = tt
heads_since a b d files told_b [] (i ∷ ins) are = absurd are
heads_since a b d files told_b (n ∷ names) [] are = absurd are
heads_since a b d files told_b (n ∷ names) (i ∷ ins) are = (head_since a b d files told_b n i are.0, heads_since a b d files told_b names ins are.1)

pub heads_count : (a d : Seen) (names : List (List ℕ)) (ins : List Input) → AreHeads a d names ins → length ins ≡ length names
heads_count a d [] [] are = refl
heads_count a d [] (i ∷ ins) are = absurd are
heads_count a d (n ∷ names) [] are = absurd are
heads_count a d (n ∷ names) (i ∷ ins) are = let h = heads_count a d names ins are.1 in omega arith

-- what the heads say of the files
pub heads_opened : (a d : Seen) (names : List (List ℕ)) (ins : List Input) → IsTrue a.told → AreHeads a d names ins → AreOpened a names (opened_in d ins)
heads_opened a d [] [] told are = tt
heads_opened a d [] (i ∷ ins) told are = absurd are
heads_opened a d (n ∷ names) [] told are = absurd are
heads_opened a d (n ∷ names) (i ∷ ins) told are = (are.0.opened told, heads_opened a d names ins told are.1)

-- what stands for the loop when the heads under these names were read
pub record HeadsSoFar (names : List (List ℕ)) (a now : Seen) (ins : List Input) (had left : Budget) : Type 0 where
  pub uses : Uses (Among names) Nothing Said a now
  pub heads : AreHeads a now names ins
  pub bytes : left.bytes + 24 * length names ≡ had.bytes
  pub frames : left.frames ≡ had.frames

pub heads_none : (a : Seen) (had : Budget) → HeadsSoFar [] a a [] had had
heads_none a had = record { uses = uses_none (Among []) Nothing a; heads = tt; bytes = omega arith; frames = refl }

module _ (names : List (List ℕ)) (a b : Seen) (ins : List Input) (had left : Budget) (h : HeadsSoFar names a b ins had left) where
  told_now : IsTrue a.told → IsTrue b.told
  told_now = used_told h.uses

  same_files : (m : List ℕ) → b.file m ≡ a.file m
  same_files = used_files h.uses

  module _ (port : ℕ) (name : List ℕ) (d : Seen) (left' : Budget) where
    one_more : (end : End) → Uses (Only name) Nothing end b d → Uses (Among (names ++ name ∷ [])) Nothing end a d
    one_more end u = uses_then (Among (names ++ name ∷ [])) Nothing end a b d
        (uses_wider (Among names) Nothing (Among (names ++ name ∷ [])) Nothing (λ m x. among_front names (name ∷ []) m x) (λ m x. x) Said a b h.uses)
        (uses_wider (Only name) Nothing (Among (names ++ name ∷ [])) Nothing (λ m x. among_back names (name ∷ []) m (inl x)) (λ m x. x) end b d u)

    pub heads_more : (i : Input) → (Among names name → ⊥) → HeadRead port name b d left left' (Ok i) → HeadsSoFar (names ++ name ∷ []) a d (ins ++ i ∷ []) had left'
    heads_more i new read = record {
      uses = one_more Said read.uses;
      heads = heads_push a d names name ins i
          (heads_still a b d names ins Nothing (Only name) (used_touches read.uses) (λ m among is. new (subst (Among names) is among)) h.heads)
          (head_since a b d same_files told_now name i read.head);
      bytes = let taken = read.taken.0 in let was = h.bytes in omega (arith, length-append names (name ∷ []));
      frames = read.taken.1 ∙ h.frames;
    }

    -- no more heads are read, of all these names
    module _ (all behind : List (List ℕ)) (are : all ≡ names ++ name ∷ behind) where
      of_all : (end : End) → Uses (Only name) Nothing end b d → Uses (Among all) Nothing end a d
      of_all end u = uses_wider (Among (names ++ name ∷ [])) Nothing (Among all) Nothing (λ m x. subst (λ l. Among l m) (sym are) (among_all names behind name m x)) (λ m x. x) end a d (one_more end u)

      ended_as : port ≡ length names + 1 → (x : Outcome) → Uses (Only name) Nothing (outcome_end x) b d → HeadEnds port name left.bytes b x → HeadsEnd all had.bytes a d x
      ended_as number (ends.Capture p at reason) u e = (
        e.1,
        (let was = h.bytes in let is = e.0 in let room = e.2 in omega arith),
        λ told. record {
          before = names;
          name = name;
          behind = behind;
          are = are;
          number = e.0 ∙ number;
          opened = opened_in b ins;
          heads = heads_opened a b names ins told h.heads;
          without = let no = e.3 (told_now told) in record { bytes = no.bytes; file = sym (same_files name) ∙ no.file; fault = no.fault; says = no.says; word = no.word };
        },
      )
      ended_as number (ends.Limit kind) u e =
          let was = h.bytes in
          let few = e.1 in (
            e.0,
            (let count = ap (λ (l : List (List ℕ)). length l) are in omega (arith, length-append names (name ∷ behind), count)),
            λ told. record { before = names; name = name; behind = behind; are = are; opened = opened_in b ins; heads = heads_opened a b names ins told h.heads; above = omega arith },
          )
      ended_as number ends.ReadFault u e = λ told. record {
        before = names;
        name = name;
        behind = behind;
        are = are;
        opened = opened_in b ins;
        heads = heads_opened a b names ins told h.heads;
        within = (let was = h.bytes in omega arith);
        rose = rose_later _ _ _ (h.uses.touches.reads_rise name) (rose_only name b.read_faults d.read_faults u.counts.0);
      }
      ended_as number x u e = absurd e

      pub heads_failed : port ≡ length names + 1 → (x : Outcome) → HeadRead port name b d left left' (Err x) → HeadsRead all a d had left' (Err x)
      heads_failed number x read = record { uses = of_all (outcome_end x) read.uses; heads = tt; taken = tt; ended = ended_as number x read.uses read.ended }

      pub heads_no_room : (i : Input) → HeadRead port name b d left left' (Ok i) → HeadsRead all a d had left' (Err ends.Memory)
      heads_no_room i read = record { uses = uses_refused (Among all) Nothing a d (of_all Said read.uses); heads = tt; taken = tt; ended = tt }

  pub heads_all : (v : Vec Input Global) → v.items ≡ ins → HeadsRead names a b had left (Ok v)
  heads_all v is = record { uses = h.uses; heads = subst (AreHeads a b names) (sym is) h.heads; taken = (h.bytes, h.frames); ended = tt }
