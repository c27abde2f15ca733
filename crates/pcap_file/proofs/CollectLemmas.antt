-- Filling an empty buffer from what is held and from a slot, piece by piece.
use Rattle.std.proofs.Common.{◌≡◌, ℕ, ◌≤◌, ◌<◌, min, List, [], ◌++◌, length, append_assoc, take, drop, Ok, Err, IsTrue, refl, sym, ◌∙◌, ap, subst, arith}
use Rattle.std.proofs.lemmas.List.{take-append-drop}
use Rattle.fab_base.specs.Seen.{Seen, Reads, Rose, SameReadFaults}
use Rattle.fab_base.specs.declared.values.Failed.{Failed}
use Rattle.fab_base.proofs.Depots.{reads_trans, reads_refl, input_name, told_stays, rose_later}
use Rattle.pcap_file.specs.Reading.{Supply, supply, coming, Collects, Refills}
use Rattle.pcap_file.proofs.lemmas.Numbers.{none_is}
use Rattle.pcap_file.proofs.PullLemmas.{come_again}

-- a buffer that is filled so far
pub record Collected (slot : ℕ) (buffer : List ℕ) (before after : Supply) : Type 0 where
  pub reads : Reads (before.depot.name slot) before.depot after.depot
  pub taken : IsTrue before.depot.told → buffer ++ coming slot after ≡ coming slot before
  pub counts : SameReadFaults before.depot after.depot

pub collected_none : (s : ℕ) (a : Seen) (buffer held : List ℕ) → buffer ≡ [] → Collected s buffer (supply held a) (supply held a)
collected_none s a buffer held none = record { reads = reads_refl (a.name s) a; taken = λ told. ap (λ l. l ++ (held ++ a.left s)) none; counts = λ m. refl }

pub collected_all : (s count : ℕ) (a c : Seen) (buffer held rest : List ℕ) → Collected s buffer (supply held a) (supply rest c) → length buffer ≤ count → count ≤ length buffer → Collects {T = Unit {0}} s count buffer (supply held a) (supply rest c) (Ok tt)
collected_all s count a c buffer held rest f fits full = record {
  reads = f.reads;
  bound = fits;
  taken = f.taken;
  ended = λ told lt. absurd (omega arith);
  cause = tt;
  counts = f.counts;
}

module _ (s : ℕ) (a b c : Seen) (buffer held mid more : List ℕ) (is_in : IsTrue (a.input s)) (f : Collected s buffer (supply held a) (supply mid b)) where
  same : b.name s ≡ a.name s
  same = input_name (a.name s) a b f.reads.keeps s is_in

  told_b : IsTrue a.told → IsTrue b.told
  told_b told = told_stays (a.name s) a b f.reads.keeps told

  -- a piece of what is held then
  pub collect_step : Refills {T = Unit {0}} s (supply mid b) (supply more c) (Ok tt) → (n : ℕ) (after rest : List ℕ) → after ≡ buffer ++ take n more → rest ≡ drop n more → Collected s after (supply held a) (supply rest c)
  collect_step r n after rest front behind = record {
    reads = reads_trans (a.name s) a b c f.reads (subst (λ m. Reads m b c) same r.reads);
    taken = λ told.
        ap (λ l. l ++ (rest ++ c.left s)) front
        ∙ append_assoc buffer (take n more) (rest ++ c.left s)
        ∙ ap (λ l. buffer ++ l) (sym (append_assoc (take n more) rest (c.left s)) ∙ ap (λ l. l ++ c.left s) (ap (λ l. take n more ++ l) behind ∙ take-append-drop n more) ∙ r.taken (told_b told))
        ∙ f.taken told;
    counts = λ m. r.counts m ∙ f.counts m;
  }

  -- none is held though some are wanted
  pub collect_ended : (count : ℕ) → Refills {T = Unit {0}} s (supply mid b) (supply more c) (Ok tt) → (n most : ℕ) (after rest : List ℕ) → n ≡ 0 → n ≡ min (length more) most → 0 < most → after ≡ buffer ++ take n more → rest ≡ drop n more → length after ≤ count → Collects {T = Unit {0}} s count after (supply held a) (supply rest c) (Ok tt)
  collect_ended count r n most after rest none is some front behind fits =
      let none_held : more ≡ [] = none_is more (omega arith) in
      let none_left : rest ≡ [] = behind ∙ (λ i. drop (none i) (none_held i)) in
      let step : Collected s after (supply held a) (supply rest c) = collect_step r n after rest front behind in
      record {
        reads = step.reads;
        bound = fits;
        taken = step.taken;
        ended = λ told lt. (λ i. none_left i ++ c.left s) ∙ r.ended (told_b told) none_held;
        cause = tt;
        counts = step.counts;
      }

  pub collect_failed : (count : ℕ) (e : Failed) → Refills {T = Unit {0}} s (supply mid b) (supply more c) (Err e) → length buffer ≤ count → Collects {T = Unit {0}} s count buffer (supply held a) (supply more c) (Err e)
  collect_failed count e r fits = record {
    reads = reads_trans (a.name s) a b c f.reads (subst (λ m. Reads m b c) same r.reads);
    bound = fits;
    taken = λ told. ap (λ l. buffer ++ l) (come_again s b c mid more e (told_b told) r) ∙ f.taken told;
    ended = λ told. tt;
    cause = rose_later _ _ _ f.reads.keeps.reads_rise (subst (λ m. Rose (b.read_faults m) (c.read_faults m)) same r.cause);
    counts = tt;
  }
