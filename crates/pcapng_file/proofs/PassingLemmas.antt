-- Blocks that go by without being held.
use Rattle.std.proofs.Common.{◌≡◌, ◌≢◌, ℕ, ◌+◌, ◌-◌, ◌%◌, ◌<◌, ◌≤◌, inl, inr, Bool, true, false, not, IsTrue, if◌then◌else◌, eqb, List, [], ◌∷◌, ◌++◌, length, length-append, length-drop, take, drop, Option, Some, None, Ok, Err, refl, sym, ap, ◌∙◌, subst, arith}
use Rattle.std.specs.Prelude.{Result}
use Rattle.std.proofs.lemmas.Bool.{le-ltb, eq-eqb, ne_eqb}
use Rattle.std.proofs.lemmas.List.{take_at, drop_at, drop-drop, drop-take, length-take-le}
use Rattle.fab_base.specs.Seen.{Seen, Reads, Rose, SameReadFaults}
use Rattle.fab_base.specs.declared.values.Failed.{Failed}
use Rattle.fab_base.proofs.Depots.{reads_refl, reads_trans, input_name, told_stays, rose_later}
use Rattle.pcap_file.specs.Capture.{at_place, ordered}
use Rattle.pcap_file.specs.Reading.{Pulls, Supply, supply, coming}
use Rattle.pcap_file.specs.declared.Budget.{Budget}
use Rattle.pcap_file.proofs.lemmas.Buffers.{front_is, short_is}
use Rattle.pcap_file.proofs.lemmas.Numbers.{le_or_lt}
use Rattle.pcapng_file.specs.declared.fault.NgWhy.{NgWhy}
use Rattle.pcapng_file.specs.declared.fault.NgWhy.TheVariants as why
use Rattle.pcapng_file.specs.declared.fault.NgLimit.TheVariants as limits
use Rattle.pcapng_file.specs.declared.fault.NgError.TheVariants as errors
use Rattle.pcapng_file.specs.declared.block.Head.{Head}
use Rattle.pcapng_file.specs.declared.block.Kind.{Kind}
use Rattle.pcapng_file.specs.declared.block.Kind.TheVariants as kinds
use Rattle.pcapng_file.specs.declared.block.Interface.{Interface}
use Rattle.pcapng_file.specs.declared.packet.Content.{Content}
use Rattle.pcapng_file.specs.declared.packet.Content.TheVariants as says
use Rattle.pcapng_file.specs.Block.{test, first, unless, kind_tests, content_of, body_read}
use Rattle.pcapng_file.specs.File.{counted, step_in}
use Rattle.pcapng_file.specs.Passing.{Skips, HasSecond, PassesOver, begun, from_front}
use Rattle.std.specs.Result.{IsErrAnd}
use Rattle.pcapng_file.proofs.StepLemmas.{inner}

-- ---- piece by piece

-- so many bytes went by
pub record Passed (slot n : ℕ) (old new : Supply) : Type 0 where
  pub reads : Reads (old.depot.name slot) old.depot new.depot
  pub taken : IsTrue old.depot.told → (n ≤ length (coming slot old)) × (coming slot new ≡ drop n (coming slot old))
  pub counts : SameReadFaults old.depot new.depot

pub passed_none : (slot : ℕ) (a : Seen) (held : List ℕ) → Passed slot 0 (supply held a) (supply held a)
passed_none slot a held = record { reads = reads_refl (a.name slot) a; taken = λ told. (omega arith, refl); counts = λ m. refl }

module _ (slot n : ℕ) (a b c : Seen) (held mid : List ℕ) (is_in : IsTrue (a.input slot)) (p : Passed slot n (supply held a) (supply mid b)) where
  same : b.name slot ≡ a.name slot
  same = input_name (a.name slot) a b p.reads.keeps slot is_in

  told_b : IsTrue a.told → IsTrue b.told
  told_b told = told_stays (a.name slot) a b p.reads.keeps told

  module _ (rest buffer : List ℕ) where
    pub passed_more : (k : ℕ) → Pulls slot buffer (supply mid b) (supply rest c) (Ok k) → Passed slot (n + k) (supply held a) (supply rest c)
    passed_more k r = record {
      reads = reads_trans (a.name slot) a b c p.reads (subst (λ m. Reads m b c) same r.reads);
      taken = λ told.
          let before = p.taken told in
          let after : take k buffer ++ (rest ++ c.left slot) ≡ mid ++ b.left slot = r.taken (told_b told) in
          let front : length (take k buffer) ≡ k = length-take-le k buffer r.bound in
          let behind = length-drop n (held ++ a.left slot) in
          let fewer : k ≤ length (mid ++ b.left slot) = omega (arith, ap length after, length-append (take k buffer) (rest ++ c.left slot), front) in (
            omega (arith, before.0, ap length before.1, behind, fewer),
            sym (drop_at (take k buffer) (rest ++ c.left slot) k front) ∙ ap (drop k) (after ∙ before.1) ∙ drop-drop k n (held ++ a.left slot),
          );
      counts = λ m. r.counts m ∙ p.counts m;
    }

    pub skips_short : (wanted k : ℕ) → Pulls slot buffer (supply mid b) (supply rest c) (Ok k) → k < length buffer → n + k ≤ wanted → Skips slot wanted (supply held a) (supply rest c) (Ok (n + k))
    skips_short wanted k r lt le = let more = passed_more k r in record {
      reads = more.reads;
      bound = le;
      taken = more.taken;
      ended = λ told less. r.ended (told_b told) lt;
      waits = λ told. tt;
      cause = tt;
      counts = more.counts;
    }

    pub skips_failed : (wanted : ℕ) (e : Failed) → n + length buffer ≤ wanted → Pulls slot buffer (supply mid b) (supply rest c) (Err e) → Skips slot wanted (supply held a) (supply rest c) (Err e)
    skips_failed wanted e fits r = record {
      reads = reads_trans (a.name slot) a b c p.reads (subst (λ m. Reads m b c) same r.reads);
      bound = tt;
      taken = λ told. tt;
      ended = λ told. tt;
      waits = λ told. let before = p.taken told in omega (arith, before.0, ap length before.1, length-drop n (held ++ a.left slot), r.waits (told_b told));
      cause = rose_later _ _ _ p.reads.keeps.reads_rise (subst (λ m. Rose (b.read_faults m) (c.read_faults m)) same r.cause);
      counts = tt;
    }

  pub skips_all : (wanted : ℕ) → n ≡ wanted → Skips slot wanted (supply held a) (supply mid b) (Ok n)
  skips_all wanted all = record {
    reads = p.reads;
    bound = omega arith;
    taken = p.taken;
    ended = λ told less. absurd (omega arith);
    waits = λ told. tt;
    cause = tt;
    counts = p.counts;
  }

-- a failure, in a result that hands it on
pub skips_handed : {slot wanted : ℕ} {a b : Seen} {held rest : List ℕ} (r : Result ℕ Failed) (e : Failed) → IsErrAnd r (λ x. x ≡ e) → Skips slot wanted (supply held a) (supply rest b) (Err e) → Skips slot wanted (supply held a) (supply rest b) r
skips_handed {slot} {wanted} {a} {b} {held} {rest} (Ok n) e h p = absurd h
skips_handed {slot} {wanted} {a} {b} {held} {rest} (Err x) e h p = subst (λ y. Skips slot wanted (supply held a) (supply rest b) (Err y)) (sym h) p

-- ---- the second length

pub sixteen : (n : ℕ) → 12 ≤ n → n % 4 ≡ 0 → n ≢ 12 → n ≡ 16 + (n - 12 - 4)
sixteen n le fourths other = elim (le_or_lt n 12) [
  | inl most ↦ absurd (other (omega arith))
  | inr more ↦ omega arith
]

-- the last bytes of a block are these
last_bytes : (big : Bool) (size : ℕ) (l last tail : List ℕ) → 4 ≤ size → length last ≡ 4 → drop (size - 4) l ≡ last ++ tail → at_place big (take size l) (size - 4) 4 ≡ at_place big last 0 4
last_bytes big size l last tail le four is =
    let split : size ≡ (size - 4) + 4 = omega arith in
    let behind : drop (size - 4) (take size l) ≡ last = ap (λ (n : ℕ). drop (size - 4) (take n l)) split ∙ drop-take (size - 4) 4 l ∙ ap (take 4) is ∙ take_at last tail 4 four in
    ap (λ (m : List ℕ). ordered big (take 4 m)) behind

module _ (slot : ℕ) (a b : Seen) (held mid front : List ℕ) (h : Head) (sized : length front ≡ 12) where
  pub second_here : h.size ≡ 12 → (n : ℕ) → n ≡ at_place h.big front 8 4 → HasSecond slot (begun front h) (supply held a) (supply held a) (Ok (Some n))
  second_here is n told_n = record {
    reads = reads_refl (a.name slot) a;
    tells = λ told.
        let l = front ++ (held ++ a.left slot) in (
          omega (arith, length-append front (held ++ a.left slot)),
          ap (λ (m : ℕ). at_place h.big (take m l) (m - 4) 4) is ∙ ap (λ (m : List ℕ). at_place h.big m 8 4) (take_at front (held ++ a.left slot) 12 sized) ∙ sym told_n,
          sym (ap (λ (m : ℕ). drop m l) is ∙ drop_at front (held ++ a.left slot) 12 sized),
        );
    waits = λ told. tt;
    cause = tt;
    counts = λ m. refl;
  }

  module _ (middle : ℕ) (is_size : h.size ≡ 16 + middle) where
    pub second_failed : (e : Failed) → Skips slot middle (supply held a) (supply mid b) (Err e) → HasSecond slot (begun front h) (supply held a) (supply mid b) (Err e)
    second_failed e s = record {
      reads = s.reads;
      tells = λ told. tt;
      waits = λ told. omega (arith, s.waits told, length-append front (held ++ a.left slot));
      cause = s.cause;
      counts = tt;
    }

    pub second_cut : (k : ℕ) → Skips slot middle (supply held a) (supply mid b) (Ok k) → k < middle → HasSecond slot (begun front h) (supply held a) (supply mid b) (Ok None)
    second_cut k s lt = record {
      reads = s.reads;
      tells = λ told.
          let t = s.taken told in
          omega (arith, t.0, ap length t.1, ap length (s.ended told lt), length-drop k (held ++ a.left slot), length-append front (held ++ a.left slot));
      waits = λ told. tt;
      cause = tt;
      counts = s.counts;
    }

    module _ (c : Seen) (rest last : List ℕ) (is_in : IsTrue (a.input slot)) (four : length last ≡ 4) (k : ℕ) (s : Skips slot middle (supply held a) (supply mid b) (Ok k)) (all : middle ≤ k) where
      same_name : b.name slot ≡ a.name slot
      same_name = input_name (a.name slot) a b s.reads.keeps slot is_in

      still : IsTrue a.told → IsTrue b.told
      still told = told_stays (a.name slot) a b s.reads.keeps told

      is_middle : k ≡ middle
      is_middle = omega (arith, s.bound)

      behind : IsTrue a.told → (length (front ++ (held ++ a.left slot)) ≡ 12 + middle + length (mid ++ b.left slot)) × (drop (h.size - 4) (front ++ (held ++ a.left slot)) ≡ mid ++ b.left slot)
      behind told =
          let t = s.taken told in
          let place : h.size - 4 ≡ 12 + middle = omega arith in (
            omega (arith, t.0, ap length t.1, length-drop k (held ++ a.left slot), length-append front (held ++ a.left slot), is_middle),
            ap (λ (m : ℕ). drop m (front ++ (held ++ a.left slot))) place ∙ sym (drop-drop middle 12 (front ++ (held ++ a.left slot))) ∙ ap (drop middle) (drop_at front (held ++ a.left slot) 12 sized) ∙ ap (λ (m : ℕ). drop m (held ++ a.left slot)) (sym is_middle) ∙ sym t.1,
          )

      pub last_failed : (e : Failed) → Pulls slot last (supply mid b) (supply rest c) (Err e) → HasSecond slot (begun front h) (supply held a) (supply rest c) (Err e)
      last_failed e r = record {
        reads = reads_trans (a.name slot) a b c s.reads (subst (λ m. Reads m b c) same_name r.reads);
        tells = λ told. tt;
        waits = λ told. omega (arith, (behind told).0, r.waits (still told), four);
        cause = rose_later _ _ _ s.reads.keeps.reads_rise (subst (λ m. Rose (b.read_faults m) (c.read_faults m)) same_name r.cause);
        counts = tt;
      }

      module _ (n : ℕ) (r : Pulls slot last (supply mid b) (supply rest c) (Ok n)) where
        pub last_cut : n < 4 → HasSecond slot (begun front h) (supply held a) (supply rest c) (Ok None)
        last_cut lt = record {
          reads = reads_trans (a.name slot) a b c s.reads (subst (λ m. Reads m b c) same_name r.reads);
          tells = λ told.
              let none_left : rest ++ c.left slot ≡ [] = r.ended (still told) (omega arith) in
              let left : length (mid ++ b.left slot) ≡ n = short_is last (rest ++ c.left slot) (mid ++ b.left slot) n r.bound none_left (r.taken (still told)) in
              omega (arith, (behind told).0, left);
          waits = λ told. tt;
          cause = tt;
          counts = λ m. r.counts m ∙ s.counts m;
        }

        pub last_there : 4 ≤ n → (size : ℕ) → size ≡ at_place h.big last 0 4 → HasSecond slot (begun front h) (supply held a) (supply rest c) (Ok (Some size))
        last_there le size is_last = record {
          reads = reads_trans (a.name slot) a b c s.reads (subst (λ m. Reads m b c) same_name r.reads);
          tells = λ told.
              let l = front ++ (held ++ a.left slot) in
              let is_four : n ≡ length last = omega (arith, r.bound) in
              let left : mid ++ b.left slot ≡ last ++ (rest ++ c.left slot) = front_is last (rest ++ c.left slot) (mid ++ b.left slot) n (sym is_four) (r.taken (still told)) in
              let whole = (behind told).1 ∙ left in
              let split : h.size ≡ (h.size - 4) + 4 = omega arith in (
                omega (arith, (behind told).0, ap length left, length-append last (rest ++ c.left slot)),
                last_bytes h.big h.size l last (rest ++ c.left slot) (omega arith) four whole ∙ sym is_last,
                sym (ap (λ (m : ℕ). drop m l) split ∙ sym (drop-drop 4 (h.size - 4) l) ∙ ap (drop 4) whole ∙ drop_at last (rest ++ c.left slot) 4 four),
              );
          waits = λ told. tt;
          cause = tt;
          counts = λ m. r.counts m ∙ s.counts m;
        }

-- ---- the block

abbrev judged : Bool → Kind → Bool → List Interface → List ℕ → Result Content NgWhy
judged differs kind big faces b = unless (first (test differs why.Length ∷ kind_tests kind big faces b)) (content_of kind big faces b)

judged_is : (h : Head) (faces : List Interface) (b : List ℕ) → body_read h faces b ≡ judged (not (eqb (at_place h.big b (h.size - 4) 4) h.size)) h.kind h.big faces b
unfolding body_read
judged_is h faces b = refl

module _ (slot : ℕ) (a b : Seen) (held rest front : List ℕ) (h : Head) (at : ℕ) (other : h.kind ≡ kinds.Other) where
  module _ (n : ℕ) (second : Option ℕ) (is_n : second ≡ Some n) (given : HasSecond slot (begun front h) (supply held a) (supply rest b) (Ok second)) where
    s : HasSecond slot (begun front h) (supply held a) (supply rest b) (Ok (Some n))
    s = subst (λ (o : Option ℕ). HasSecond slot (begun front h) (supply held a) (supply rest b) (Ok o)) is_n given

    steps : IsTrue a.told → (budget : Budget) (faces : List Interface) → h.size ≤ budget.bytes → (differs : Bool) → not (eqb n h.size) ≡ differs → step_in budget at faces (from_front slot (begun front h) (supply held a)) h ≡ inner false false at (judged differs kinds.Other h.big faces (take h.size (from_front slot (begun front h) (supply held a)))) (counted budget h.size)
    steps told budget faces room differs is =
        let m = from_front slot (begun front h) (supply held a) in
        let t = s.tells told in
        (λ i. inner (le-ltb budget.bytes h.size room i) (le-ltb (length m) h.size t.0 i) at (judged_is h faces (take h.size m) i) (counted budget h.size))
        ∙ (λ i. inner false false at (judged (not (eqb (t.1 i) h.size)) (other i) h.big faces (take h.size m)) (counted budget h.size))
        ∙ (λ i. inner false false at (judged (is i) kinds.Other h.big faces (take h.size m)) (counted budget h.size))

    pub over_length : ¬ (n ≡ h.size) → PassesOver slot at (begun front h) (supply held a) (supply rest b) (Err (errors.Fault at why.Length))
    over_length differs = record {
      reads = s.reads;
      tells = λ told budget faces room. steps told budget faces room true (ap not (ne_eqb n h.size differs));
      behind = λ told. tt;
      fits = tt;
      asks = λ is. absurd (cc);
      cause = λ f is. absurd (cc);
      waits = λ told f is. absurd (cc);
      counts = s.counts;
    }

    pub over_done : n ≡ h.size → PassesOver slot at (begun front h) (supply held a) (supply rest b) (Ok (Some (record { size = n; content = says.Nothing })))
    over_done is = record {
      reads = s.reads;
      tells = λ told budget faces room. steps told budget faces room false (ap not (eq-eqb n h.size is))
          ∙ (λ i. if le-ltb budget.frames 0 (omega arith) i then Err (errors.Limit limits.Frames) else Ok (Some (record { size = sym is i; content = says.Nothing })));
      behind = λ told. let t = s.tells told in (omega (arith, t.0), t.2 ∙ ap (λ (m : ℕ). drop m (from_front slot (begun front h) (supply held a))) (sym is));
      fits = (is, refl, tt);
      asks = λ e. absurd (cc);
      cause = λ f e. absurd (cc);
      waits = λ told f e. absurd (cc);
      counts = s.counts;
    }
