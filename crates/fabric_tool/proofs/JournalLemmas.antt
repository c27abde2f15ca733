-- A journal that is read whole, and outputs that are opened to be read.
use Rattle.std.proofs.Common.{◌≡◌, ℕ, ◌+◌, ◌-◌, ◌<◌, ◌≤◌, List, [], ◌∷◌, ◌++◌, length, true, Some, Ok, Err, IsTrue, refl, sym, ap, ◌∙◌, subst, arith, inl, inr}
use Rattle.std.specs.Prelude.{Result, Vec, String, map}
use Rattle.std.specs.Result.{IsErrAnd}
use Rattle.std.specs.declared.alloc.Global.{Global}
use Rattle.fab_base.specs.Ending.{End, Said, Read, Memory, Uses}
use Rattle.fab_base.specs.Seen.{Seen, OpensIn, Touches, Nothing, Only}
use Rattle.fab_base.specs.declared.values.Failed.{Failed}
use Rattle.fab_base.specs.Places.{name_at}
use Rattle.fab_base.proofs.SeenLemmas.{rose_later, told_stays, reads_touches}
use Rattle.fab_base.specs.Whole.{WholeRead, IsWhole}
use Rattle.fab_base.specs.declared.whole.WholeError.{WholeError}
use Rattle.fab_base.specs.declared.whole.WholeError.TheVariants as errors
use Rattle.fab_config.specs.Settings.{Settings}
use Rattle.fab_base.specs.Counting.{counting}
use Rattle.fabric_tool.specs.Checking.{JournalRead, JournalEnds, AreOpenInputs, OutputsRead, unread_by, GivenRead, GivenEnds}
use Rattle.fabric_tool.specs.Command.{RunNames, are_pairs, run_of, show_of, names_of, port_count, output_at}
use Rattle.run_files.specs.Names.{Among}
use Rattle.fabric_tool.specs.Inputs.{MOST_BYTES}
use Rattle.fabric_tool.specs.Outcome.{outcome_end}
use Rattle.fabric_tool.specs.Reading.{ConfigRead}
use Rattle.fabric_tool.specs.declared.command.Width.{Width}
use Rattle.fabric_tool.specs.declared.command.Width.TheVariants as widths
use Rattle.fabric_tool.specs.declared.outcome.Outcome.{Outcome}
use Rattle.fabric_tool.specs.declared.outcome.Outcome.TheVariants as ends
use Rattle.fab_base.proofs.EndingLemmas.{uses_none, uses_then, uses_wider, uses_read, rose_only, opens_in_uses}
use Rattle.fab_replay.proofs.ResultLemmas.{err_is}
use Rattle.run_files.proofs.NameLemmas.{among_front, among_back, among_all, split_names, push_name, length-counted}
use Rattle.fabric_tool.proofs.NameLemmas.{new_output}
use Rattle.fabric_tool.proofs.ReadLemmas.{config_refused}
use Rattle.fabric_tool.proofs.UseLemmas.{used_files, used_told}

-- ---- the journal

pub journal_unopened : (name : List ℕ) (limit : ℕ) (a b : Seen) (e : Failed) → OpensIn {E = Failed} name a b (Err e) → JournalRead name limit a b (Err ends.ReadFault)
journal_unopened name limit a b e o = record { uses = opens_in_uses a b name (Err e) o; ok = λ told. tt; within = tt; ended = tt }

module _ (name : List ℕ) (limit s : ℕ) (a b c : Seen) (o : OpensIn {E = Failed} name a b (Ok s)) where
  told_b : IsTrue a.told → IsTrue b.told
  told_b = told_stays name a b o.reads.keeps

  behind : (end : End) → Uses (Only (b.name s)) Nothing end b c → Uses (Only name) Nothing end a c
  behind end u = uses_then (Only name) Nothing end a b c (opens_in_uses a b name (Ok s) o) (subst (λ n. Uses (Only n) Nothing end b c) o.opened.2 u)

  pub journal_read : (v : Vec ℕ Global) → WholeRead s limit b c (Ok v) → length v.items ≤ limit → JournalRead name limit a c (Ok v)
  journal_read v w within = record {
    uses = behind Said (uses_read (b.name s) Said b c w.reads (w.counts, w.reads.writes));
    ok = λ told. o.left told ∙ ap (λ (l : List ℕ). Some l) (sym (w.whole (told_b told)).0);
    within = within;
    ended = tt;
  }

  pub journal_unread : (e : WholeError) (x : Outcome) → x ≡ unread_by e → WholeRead s limit b c (Err e) → JournalRead name limit a c (Err x)
  journal_unread e x is w = subst (λ (y : Outcome). JournalRead name limit a c (Err y)) (sym is) (record { uses = behind (outcome_end (unread_by e)) (used_as e w); ok = λ told. tt; within = tt; ended = go e w.whole })
    where
      go : (e : WholeError) → IsWhole s limit b c (Err e) → JournalEnds name limit a (unread_by e)
      go errors.Bytes whole = (refl, λ told. (b.left s, o.left told, whole (told_b told)))
      go (errors.Read f) whole = tt
      go errors.Memory whole = tt

      used_as : (e : WholeError) → WholeRead s limit b c (Err e) → Uses (Only (b.name s)) Nothing (outcome_end (unread_by e)) b c
      used_as errors.Bytes w = uses_read (b.name s) Said b c w.reads (w.counts, w.reads.writes)
      used_as (errors.Read f) w = uses_read (b.name s) Read b c w.reads (w.whole, w.reads.writes)
      used_as errors.Memory w = uses_read (b.name s) Memory b c w.reads (w.counts, w.reads.writes)

-- ---- the outputs

-- what stands for the loop when the outputs of these names were opened
pub record ReadSoFar (names : List (List ℕ)) (a now : Seen) (slots : List ℕ) : Type 0 where
  pub uses : Uses (Among names) Nothing Said a now
  pub are : AreOpenInputs a now names slots

pub read_none : (a : Seen) → ReadSoFar [] a a []
read_none a = record { uses = uses_none (Among []) Nothing a; are = tt }

-- open inputs are as they were after calls on other names
pub inputs_still : (a b d : Seen) (names : List (List ℕ)) (slots : List ℕ) (may counted : List ℕ → Type 0) → Touches may counted b d → ((m : List ℕ) → Among names m → counted m → ⊥) → AreOpenInputs a b names slots → AreOpenInputs a d names slots
inputs_still a b d [] [] may counted k apart are = tt
inputs_still a b d [] (s ∷ slots) may counted k apart are = absurd are
inputs_still a b d (n ∷ names) [] may counted k apart are = absurd are
inputs_still a b d (n ∷ names) (s ∷ slots) may counted k apart are =
    let same = k.slots s (inl are.0.0) in
    let own = are.0 in (
      (
        subst IsTrue (sym same.input) own.0,
        same.name ∙ own.1,
        λ told. own.2 told ∙ ap (λ (l : List ℕ). Some l) (sym (k.left s own.0 (λ x. apart n (inl refl) (subst counted own.1 x)))),
      ),
      inputs_still a b d names slots may counted k (λ m among. apart m (inr among)) are.1,
    )

inputs_push : (a d : Seen) (names : List (List ℕ)) (slots : List ℕ) (name : List ℕ) (s : ℕ) → AreOpenInputs a d names slots → IsTrue (d.input s) × (d.name s ≡ name) × (IsTrue a.told → a.file name ≡ Some (d.left s)) → AreOpenInputs a d (names ++ name ∷ []) (slots ++ s ∷ [])
inputs_push a d [] [] name s are is = (is, tt)
inputs_push a d [] (x ∷ slots) name s are is = absurd are
inputs_push a d (n ∷ names) [] name s are is = absurd are
inputs_push a d (n ∷ names) (x ∷ slots) name s are is = (are.0, inputs_push a d names slots name s are.1 is)

module _ (names : List (List ℕ)) (a b : Seen) (slots : List ℕ) (h : ReadSoFar names a b slots) (name : List ℕ) (d : Seen) where
  one_more : (end : End) → Uses (Only name) Nothing end b d → Uses (Among (names ++ name ∷ [])) Nothing end a d
  one_more end u = uses_then (Among (names ++ name ∷ [])) Nothing end a b d
      (uses_wider (Among names) Nothing (Among (names ++ name ∷ [])) Nothing (λ m x. among_front names (name ∷ []) m x) (λ m x. x) Said a b h.uses)
      (uses_wider (Only name) Nothing (Among (names ++ name ∷ [])) Nothing (λ m x. among_back names (name ∷ []) m (inl x)) (λ m x. x) end b d u)

  pub read_more : (s : ℕ) → (Among names name → ⊥) → OpensIn {E = Failed} name b d (Ok s) → ReadSoFar (names ++ name ∷ []) a d (slots ++ s ∷ [])
  read_more s new o = record {
    uses = one_more Said (opens_in_uses b d name (Ok s) o);
    are = inputs_push a d names slots name s
        (inputs_still a b d names slots Nothing (Only name) (reads_touches name b d o.reads) (λ m among is. new (subst (Among names) is among)) h.are)
        (o.opened.0, o.opened.2, λ told. sym (used_files h.uses name) ∙ o.left (used_told h.uses told));
  }

  pub read_failed : (all behind : List (List ℕ)) → all ≡ names ++ name ∷ behind → (e : Failed) → OpensIn {E = Failed} name b d (Err e) → Uses (Among all) Nothing Read a d
  read_failed all behind are e o =
      uses_wider (Among (names ++ name ∷ [])) Nothing (Among all) Nothing (λ m x. subst (λ l. Among l m) (sym are) (among_all names behind name m x)) (λ m x. x) Read a d (one_more Read (opens_in_uses b d name (Err e) o))

-- the outputs of the ports before this one
abbrev pub out_names : List (String Global) → ℕ → List (List ℕ)
out_names words p = map (output_at words) (counting 0 p)

module _ (words : List (String Global)) (run : are_pairs words ≡ true) (p : ℕ) (lt : p < port_count words) (a b d : Seen) (slots : List ℕ) (h : ReadSoFar (map (output_at words) (counting 0 p)) a b slots) where
  pub out_more : (s : ℕ) → OpensIn {E = Failed} (output_at words p) b d (Ok s) → ReadSoFar (map (output_at words) (counting 0 (p + 1))) a d (slots ++ s ∷ [])
  out_more s o =
      subst (λ names. ReadSoFar names a d (slots ++ s ∷ [])) (sym (push_name (output_at words) p))
      (read_more (map (output_at words) (counting 0 p)) a b slots h (output_at words p) d s (λ among. new_output words run p lt (inr among)) o)

  pub out_failed : {T : Type 0} (items : T → List ℕ) (e : Failed) → OpensIn {E = Failed} (output_at words p) b d (Err e) → OutputsRead {T = T} items (run_of words) a d (Err e)
  out_failed {T} items e o =
      let used = read_failed (map (output_at words) (counting 0 p)) a b slots h (output_at words p) d (run_of words).outs (map (output_at words) (counting (p + 1) (port_count words - (p + 1)))) (split_names (output_at words) (port_count words) p lt) e o in
      record { uses = used; slots = tt }

pub outs_count : (a d : Seen) (names : List (List ℕ)) (slots : List ℕ) → AreOpenInputs a d names slots → length slots ≡ length names
outs_count a d [] [] are = refl
outs_count a d [] (s ∷ slots) are = absurd are
outs_count a d (n ∷ names) [] are = absurd are
outs_count a d (n ∷ names) (s ∷ slots) are = let h = outs_count a d names slots are.1 in omega arith

-- as many outputs are open as ports are done
pub outs_so_far : (words : List (String Global)) (p : ℕ) (a b : Seen) (slots : List ℕ) → ReadSoFar (map (output_at words) (counting 0 p)) a b slots → length slots ≡ p
outs_so_far words p a b slots h = outs_count a b (map (output_at words) (counting 0 p)) slots h.are ∙ length-counted (output_at words) 0 p

pub outs_read : (words : List (String Global)) (p : ℕ) (a b : Seen) {T : Type 0} (items : T → List ℕ) (o : T) → p ≡ port_count words → ReadSoFar (map (output_at words) (counting 0 p)) a b (items o) → OutputsRead {T = T} items (run_of words) a b (Ok o)
outs_read words p a b {T} items o all h =
    let r = subst (λ (n : ℕ). ReadSoFar (map (output_at words) (counting 0 n)) a b (items o)) all h in
    record { uses = r.uses; slots = r.are }

-- an output that can't be opened, in a result that hands it on
pub outs_handed : {T : Type 0} (r : Result T Failed) (items : T → List ℕ) {k : RunNames} {a b : Seen} (e : Failed) → IsErrAnd r (λ x. x ≡ e) → OutputsRead {T = T} items k a b (Err e) → OutputsRead {T = T} items k a b r
outs_handed {T} r items {k} {a} {b} e h read = subst (OutputsRead {T = T} items k a b) (err_is r e h) read

-- no outputs
pub no_outs : (words : List (String Global)) (a : Seen) {T : Type 0} (items : T → List ℕ) (o : T) → items o ≡ [] → OutputsRead {T = T} items (show_of words) a a (Ok o)
no_outs words a {T} items o none = record { uses = uses_none (Among []) Nothing a; slots = subst (λ l. AreOpenInputs a a [] l) (sym none) tt }

-- what an opening of a word did
pub in_as : {m n : List ℕ} {b d : Seen} {r : Result ℕ Failed} → m ≡ n → OpensIn {E = Failed} m b d r → OpensIn {E = Failed} n b d r
in_as {m} {n} {b} {d} {r} e o = subst (λ l. OpensIn {E = Failed} l b d r) e o

-- ---- the configuration, and behind it the journal

pub given_no_config : (k : RunNames) (a b : Seen) (x : Outcome) → ConfigRead k.config a b (Err x) → GivenRead k a b (Err x)
given_no_config k a b x r = record {
  uses = uses_wider (Only k.config) Nothing (Among (k.config ∷ k.journal ∷ [])) Nothing (λ m y. inl y) (λ m y. y) (outcome_end x) a b r.uses;
  given = tt;
  within = tt;
  ended = config_refused r (GivenEnds k a b) (λ f used is. is) (λ used. inl (rose_only k.config a.read_faults b.read_faults used.counts.0)) (λ used. tt);
}

module _ (k : RunNames) (a b d : Seen) (c : Settings) (config : ConfigRead k.config a b (Ok c)) where
  told_on : IsTrue a.told → IsTrue b.told
  told_on = used_told config.uses

  same_file : (m : List ℕ) → b.file m ≡ a.file m
  same_file = used_files config.uses

  uses_both : (end : End) → Uses (Only k.journal) Nothing end b d → Uses (Among (k.config ∷ k.journal ∷ [])) Nothing end a d
  uses_both end u = uses_then (Among (k.config ∷ k.journal ∷ [])) Nothing end a b d
      (uses_wider (Only k.config) Nothing (Among (k.config ∷ k.journal ∷ [])) Nothing (λ m y. inl y) (λ m y. y) Said a b config.uses)
      (uses_wider (Only k.journal) Nothing (Among (k.config ∷ k.journal ∷ [])) Nothing (λ m y. inr (inl y)) (λ m y. y) end b d u)

  pub given_whole : (v : Vec ℕ Global) → JournalRead k.journal MOST_BYTES b d (Ok v) → GivenRead k a d (Ok (c, v))
  given_whole v r = record {
    uses = uses_both Said r.uses;
    given = record { uses = uses_both Said r.uses; config = λ told. config.ok told; lines = λ told. sym (same_file k.journal) ∙ r.ok (told_on told) };
    within = r.within;
    ended = tt;
  }

  pub given_unread : (x : Outcome) → JournalRead k.journal MOST_BYTES b d (Err x) → GivenRead k a d (Err x)
  given_unread x r = record { uses = uses_both (outcome_end x) r.uses; given = tt; within = tt; ended = go x r.uses r.ended }
    where
      go : (x : Outcome) → Uses (Only k.journal) Nothing (outcome_end x) b d → JournalEnds k.journal MOST_BYTES b x → GivenEnds k a d x
      go (ends.Limit kind) used e = (e.0, λ told. let l = e.1 (told_on told) in (c, config.ok told, l.0, sym (same_file k.journal) ∙ l.1, l.2))
      go ends.ReadFault used e = inr (rose_later _ _ _ (config.uses.touches.reads_rise k.journal) (rose_only k.journal b.read_faults d.read_faults used.counts.0), λ told. (c, config.ok told))
      go ends.Memory used e = tt
      go x used e = absurd e

-- the names of a command by how many names a port has
pub config_named : (w : Width) (words : List (String Global)) → (names_of w words).config ≡ name_at words 1
config_named widths.One words = refl
config_named widths.Two words = refl

pub journal_named : (w : Width) (words : List (String Global)) → (names_of w words).journal ≡ name_at words 2
journal_named widths.One words = refl
journal_named widths.Two words = refl

pub outs_as : {T : Type 0} (items : T → List ℕ) (w v : Width) (words : List (String Global)) (a b : Seen) (r : Result T Failed) → w ≡ v → OutputsRead {T = T} items (names_of v words) a b r → OutputsRead {T = T} items (names_of w words) a b r
outs_as {T} items w v words a b r e read = subst (λ (x : Width). OutputsRead {T = T} items (names_of x words) a b r) (sym e) read

-- names that are words
pub journal_as : {m n : List ℕ} {a b : Seen} {r : Result (Vec ℕ Global) Outcome} → m ≡ n → JournalRead m MOST_BYTES a b r → JournalRead n MOST_BYTES a b r
journal_as {m} {n} {a} {b} {r} e read = subst (λ x. JournalRead x MOST_BYTES a b r) e read
