-- Filling a buffer from what is held and from a slot, piece by piece.
use Rattle.std.proofs.Common.{◌≡◌, ℕ, ◌+◌, ◌-◌, ◌≤◌, ◌<◌, inl, inr, min, List, [], ◌++◌, length, length-append, length-drop, append_assoc, take, drop, Ok, Err, IsTrue, refl, sym, ◌∙◌, ap, subst, arith}
use Rattle.std.proofs.lemmas.List.{take-append-drop, drop-take, drop-drop, drop_all, length-take, length-take-le}
use borrow.Rule.Slice.PartMut.{put_mid}
use Rattle.fab_base.specs.Seen.{Seen, Reads, Rose, SameReadFaults}
use Rattle.fab_base.specs.declared.values.Failed.{Failed}
use Rattle.fab_base.proofs.Depots.{reads_trans, reads_refl, input_name, told_stays, rose_later, take-put_mid-more}
use Rattle.pcap_file.specs.Reading.{Supply, supply, coming, Pulls, Refills}
use Rattle.pcap_file.proofs.lemmas.Numbers.{le_or_lt, none_is}

-- what is held behind the first bytes of a window
pub window_rest : (l : List ℕ) (from to count : ℕ) → take (to - (from + count)) (drop (from + count) l) ≡ drop count (take (to - from) (drop from l))
window_rest l from to count = elim (le_or_lt count (to - from)) [
  | inl le ↦
      let split : to - from ≡ count + (to - (from + count)) = omega arith in
      ap (take (to - (from + count))) (sym (drop-drop count from l)) ∙ sym (drop-take count (to - (from + count)) (drop from l)) ∙ ap (λ (m : ℕ). drop count (take m (drop from l))) (sym split)
  | inr lt ↦
      let none : to - (from + count) ≡ 0 = omega arith in
      ap (λ (m : ℕ). take m (drop (from + count) l)) none ∙ sym (drop_all count (take (to - from) (drop from l)) (omega (arith, length-take (to - from) (drop from l))))
]

-- a fetch that fails leaves what is to come
pub come_again : (s : ℕ) (b c : Seen) (mid more : List ℕ) (e : Failed) → IsTrue b.told → Refills {T = Unit {0}} s (supply mid b) (supply more c) (Err e) → coming s (supply more c) ≡ coming s (supply mid b)
come_again s b c mid more e told r = ap (λ (l : List ℕ). l ++ c.left s) r.empty ∙ r.nothing told ∙ ap (λ (l : List ℕ). l ++ b.left s) (sym r.needed)

-- a buffer that is filled up to a place
pub record Pulled (slot got : ℕ) (into : List ℕ) (before after : Supply) : Type 0 where
  pub reads : Reads (before.depot.name slot) before.depot after.depot
  pub taken : IsTrue before.depot.told → take got into ++ coming slot after ≡ coming slot before
  pub still : length into ≤ length before.held → (after.depot ≡ before.depot) × (got + length after.held ≡ length before.held)
  pub counts : SameReadFaults before.depot after.depot

pub pulled_none : (s : ℕ) (a : Seen) (into held : List ℕ) → Pulled s 0 into (supply held a) (supply held a)
pulled_none s a into held = record { reads = reads_refl (a.name s) a; taken = λ told. refl; still = λ enough. (refl, omega arith); counts = λ m. refl }

module _ (s got : ℕ) (a b c : Seen) (into held mid more : List ℕ) (is_in : IsTrue (a.input s)) (f : Pulled s got into (supply held a) (supply mid b)) where
  same : b.name s ≡ a.name s
  same = input_name (a.name s) a b f.reads.keeps s is_in

  told_b : IsTrue a.told → IsTrue b.told
  told_b told = told_stays (a.name s) a b f.reads.keeps told

  module _ (r : Refills {T = Unit {0}} s (supply mid b) (supply more c) (Ok tt)) where
    both : Reads (a.name s) a c
    both = reads_trans (a.name s) a b c f.reads (subst (λ m. Reads m b c) same r.reads)

    -- nothing is fetched where enough is held
    stays : got < length into → (n : ℕ) (rest : List ℕ) → n ≤ length more → rest ≡ drop n more → length into ≤ length held → (c ≡ a) × (got + n + length rest ≡ length held)
    stays lt n rest le behind enough =
        let before = f.still enough in
        let same_supply : supply more c ≡ supply mid b = r.still (omega (arith, before.1)) in
        let same_held : more ≡ mid = ap (λ (x : Supply). x.held) same_supply in (
          ap (λ (x : Supply). x.depot) same_supply ∙ before.0,
          omega (arith, before.1, ap length same_held, ap length behind, length-drop n more),
        )

    -- a piece of what is held then
    pub pull_step : (n k : ℕ) (piece rest : List ℕ) → got < length into → n ≤ length more → length (put_mid got k into piece) ≡ length into → n ≤ length piece → take n piece ≡ take n more → rest ≡ drop n more → Pulled s (got + n) (put_mid got k into piece) (supply held a) (supply rest c)
    pull_step n k piece rest lt most sized le front behind = record {
      reads = both;
      taken = λ told.
          rw (take-put_mid-more got n k into piece (omega arith) le)
          (append_assoc (take got into) (take n piece) (rest ++ c.left s)
          ∙ ap (λ l. take got into ++ l) (sym (append_assoc (take n piece) rest (c.left s)) ∙ ap (λ l. l ++ c.left s) ((λ i. front i ++ behind i) ∙ take-append-drop n more) ∙ r.taken (told_b told))
          ∙ f.taken told);
      still = λ enough. stays lt n rest most behind (omega (arith, sized));
      counts = λ m. r.counts m ∙ f.counts m;
    }

    pub pull_ended : (n k : ℕ) (piece rest : List ℕ) → got < length into → length (put_mid got k into piece) ≡ length into → n ≡ 0 → n ≡ min (length more) (length piece) → 0 < length piece → take n piece ≡ take n more → rest ≡ drop n more → Pulls s (put_mid got k into piece) (supply held a) (supply rest c) (Ok got)
    pull_ended n k piece rest lt sized none is some front behind =
        let none_held : more ≡ [] = none_is more (omega arith) in
        let none_left : rest ≡ [] = behind ∙ (λ i. drop (none i) (none_held i)) in
        let step : Pulled s (got + n) (put_mid got k into piece) (supply held a) (supply rest c) = pull_step n k piece rest lt (omega arith) sized (omega arith) front behind in
        let same_place : got + n ≡ got = omega arith in
        record {
          reads = both;
          bound = omega arith;
          taken = λ told. subst (λ (m : ℕ). take m (put_mid got k into piece) ++ (rest ++ c.left s) ≡ held ++ a.left s) same_place (step.taken told);
          ended = λ told less. (λ i. none_left i ++ c.left s) ∙ r.ended (told_b told) none_held;
          still = λ enough. (step.still enough).0;
          waits = λ told. tt;
          front = λ told. tt;
          cause = tt;
          counts = step.counts;
        }

  pub pull_failed : (e : Failed) → got < length into → Refills {T = Unit {0}} s (supply mid b) (supply more c) (Err e) → Pulls s into (supply held a) (supply more c) (Err e)
  pull_failed e lt r = record {
    reads = reads_trans (a.name s) a b c f.reads (subst (λ m. Reads m b c) same r.reads);
    bound = tt;
    taken = λ told. tt;
    ended = λ told. tt;
    still = λ enough. let before = f.still enough in absurd (omega (arith, before.1, ap length r.needed));
    waits = λ told.
        let taken = f.taken told in
        let none : mid ++ b.left s ≡ b.left s = ap (λ (l : List ℕ). l ++ b.left s) r.needed in
        omega (arith, ap length taken, length-append (take got into) (mid ++ b.left s), ap length none, ap length (r.nothing (told_b told)), length-take-le got into (omega arith));
    front = λ told. (
      got,
      omega arith,
      ap (λ l. take got into ++ l) (come_again s b c mid more e (told_b told) r) ∙ f.taken told,
    );
    cause = rose_later _ _ _ f.reads.keeps.reads_rise (subst (λ m. Rose (b.read_faults m) (c.read_faults m)) same r.cause);
    counts = tt;
  }
