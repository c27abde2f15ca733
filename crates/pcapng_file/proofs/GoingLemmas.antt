-- The loop over the blocks of a file.
use Rattle.std.proofs.Common.{◌≡◌, ℕ, zero, suc, ◌+◌, ◌-◌, ◌≤◌, IsTrue, List, [], ◌∷◌, ◌++◌, length, length-append, length-drop, append_assoc, drop, Option, Some, None, Ok, Err, refl, sym, ap, ◌∙◌, subst, arith}
use Rattle.std.specs.Prelude.{Result}
use Rattle.std.proofs.lemmas.List.{append-nil}
use Rattle.fab_base.specs.Seen.{Seen, Reads, Rose, SameReadFaults}
use Rattle.fab_base.proofs.Depots.{reads_trans, reads_refl, input_name, told_stays, rose_later}
use Rattle.pcap_file.specs.declared.Budget.{Budget}
use Rattle.pcap_file.specs.Reading.{Supply, supply, coming}
use Rattle.pcapng_file.specs.declared.fault.NgError.{NgError}
use Rattle.pcapng_file.specs.declared.fault.NgError.TheVariants as errors
use Rattle.pcapng_file.specs.declared.reading.Block.{Block}
use Rattle.pcapng_file.specs.declared.NgRecord.{NgRecord}
use Rattle.pcapng_file.specs.File.{Section, before_all, after, found, less, in_front, go_on, step_of, read_from, ng_end, ng_read, AreKept, TellsRead, Place, place, BlockRead, NgReads}
use Rattle.fab_base.proofs.EndingLemmas.{said_so, spares_reads_then}

-- What stands for the loop at a place, with these packets read.
pub record Going (slot : ℕ) (had : Budget) (first : Seen) (now : Supply) (here : Place) (v : List NgRecord) : Type 0 where
  pub reads : Reads (first.name slot) first now.depot
  pub place : here.at + here.left.bytes ≡ had.bytes
  pub frames : here.left.frames + length v ≡ had.frames
  pub kept : AreKept v
  pub on : IsTrue first.told → (m : ℕ) × (length (coming slot now) ≤ m) × (here.at + length (coming slot now) ≡ length (first.left slot)) × (in_front v (read_from (suc m) here.left here.at here.section (coming slot now)) ≡ ng_read had (first.left slot))
  pub counts : SameReadFaults first now.depot

kept_append : (v w : List NgRecord) → AreKept v → AreKept w → AreKept (v ++ w)
kept_append [] w a b = b
kept_append (r ∷ v) w a b = (a.0, kept_append v w a.1 b)

no_more : (h l : List ℕ) → h ++ l ≡ [] → l ≡ []
no_more [] l e = e
no_more (x ∷ h) l e = absurd (cc)

in_front_none : (x : Result (List NgRecord) NgError) → in_front [] x ≡ x
in_front_none (Ok w) = refl
in_front_none (Err e) = refl

in_front_more : (v w : List NgRecord) (x : Result (List NgRecord) NgError) → in_front v (in_front w x) ≡ in_front (v ++ w) x
in_front_more v w (Ok u) = ap (λ (q : List NgRecord). Ok q) (sym (append_assoc v w u))
in_front_more v w (Err e) = refl

pub read_is : (had : Budget) (l : List ℕ) → ng_read had l ≡ read_from (suc (length l)) had 0 before_all l
unfolding ng_read
read_is had l = refl

-- before the first block
pub going_none : (slot : ℕ) (had : Budget) (a : Seen) (held : List ℕ) (s : Section) (at : ℕ) (v : List NgRecord) → held ≡ [] → s ≡ before_all → at ≡ 0 → v ≡ [] → Going slot had a (supply held a) (place at s had) v
going_none slot had a held s at v none is_s is_at is_v =
    let all : held ++ a.left slot ≡ a.left slot = ap (λ (h : List ℕ). h ++ a.left slot) none in
    record {
      reads = reads_refl (a.name slot) a;
      place = omega arith;
      frames = omega (arith, ap length is_v);
      kept = subst AreKept (sym is_v) tt;
      on = λ told. (
        length (a.left slot),
        omega (arith, ap length all),
        omega (arith, ap length all),
        (λ i. in_front (is_v i) (read_from (suc (length (a.left slot))) had (is_at i) (is_s i) (all i))) ∙ in_front_none _ ∙ sym (read_is had (a.left slot)),
      );
      counts = λ m. refl;
    }

module _ (slot : ℕ) (had : Budget) (a b c : Seen) (held rest : List ℕ) (s : Section) (left : Budget) (at : ℕ) (v : List NgRecord) (is_in : IsTrue (a.input slot)) (g : Going slot had a (supply held b) (place at s left) v) where
  same : b.name slot ≡ a.name slot
  same = input_name (a.name slot) a b g.reads.keeps slot is_in

  told_b : IsTrue a.told → IsTrue b.told
  told_b told = told_stays (a.name slot) a b g.reads.keeps told

  module _ (result : Result (Option Block) NgError) (r : BlockRead slot (place at s left) (supply held b) (supply rest c) result) where
    both : Reads (a.name slot) a c
    both = reads_trans (a.name slot) a b c g.reads (subst (λ m. Reads m b c) same r.reads)

  -- what is read where the step is known
  from_step : (told : IsTrue a.told) (x : Result (Option Block) NgError) → step_of left at s (held ++ b.left slot) ≡ x → in_front v (go_on (λ k. in_front (found k.content) (read_from (g.on told).0 (less left k) (at + k.size) (after s k.content) (drop k.size (held ++ b.left slot)))) x) ≡ ng_read had (a.left slot)
  from_step told x is = ap (λ (y : Result (Option Block) NgError). in_front v (go_on (λ k. in_front (found k.content) (read_from (g.on told).0 (less left k) (at + k.size) (after s k.content) (drop k.size (held ++ b.left slot)))) y)) (sym is) ∙ (g.on told).3

  error_tells : (told : IsTrue a.told) (e : NgError) → TellsRead {A = Option Block} (step_of left at s (held ++ b.left slot)) (Err e) → TellsRead {A = List NgRecord} (ng_read had (a.left slot)) (Err e)
  error_tells told e = said_so (ng_end e) (λ is. sym (from_step told (Err e) is))

  -- an error of the next block; the budget is the one that was handed in
  pub going_failed : (budget : Budget) (e : NgError) → budget ≡ had → BlockRead slot (place at s left) (supply held b) (supply rest c) (Err e) → NgReads slot a c had budget (Err e)
  going_failed budget e is_had r = record {
    reads = both (Err e) r;
    exact = λ told. error_tells told e (r.tells (told_b told));
    all = λ told. tt;
    bytes = λ told. tt;
    frames = tt;
    untouched = is_had;
    kept = tt;
    cause = λ f is. let same_error : e ≡ errors.Read f = cc in rose_later _ _ _ g.reads.keeps.reads_rise (subst (λ m. Rose (b.read_faults m) (c.read_faults m)) same (r.cause f (ap (λ (x : NgError). Err x) same_error)));
    counts = spares_reads_then (ng_end e) a b c g.counts r.counts;
  }

  -- memory is refused behind a block
  pub going_full : (budget : Budget) (next : Option Block) → budget ≡ had → BlockRead slot (place at s left) (supply held b) (supply rest c) (Ok next) → NgReads slot a c had budget (Err errors.Memory)
  going_full budget next is_had r = record {
    reads = both (Ok next) r;
    exact = λ told. tt;
    all = λ told. tt;
    bytes = λ told. tt;
    frames = tt;
    untouched = is_had;
    kept = tt;
    cause = λ f is. absurd (cc);
    counts = λ m. r.counts m ∙ g.counts m;
  }

  pub going_ended : (next : Option Block) → next ≡ None → BlockRead slot (place at s left) (supply held b) (supply rest c) (Ok next) → NgReads slot a c had left (Ok v)
  going_ended next none read =
      let r : BlockRead slot (place at s left) (supply held b) (supply rest c) (Ok None) = subst (λ (n : Option Block). BlockRead slot (place at s left) (supply held b) (supply rest c) (Ok n)) none read in
      record {
        reads = both (Ok None) r;
        exact = λ told. sym (from_step told (Ok None) (r.tells (told_b told))) ∙ ap (λ (w : List NgRecord). Ok w) (append-nil v);
        all = λ told. no_more rest (c.left slot) (r.ended (told_b told));
        bytes = λ told. omega (arith, (g.on told).2, ap length (r.behind (told_b told)), g.place);
        frames = g.frames;
        untouched = tt;
        kept = g.kept;
        cause = λ f e. absurd (cc);
        counts = λ m. r.counts m ∙ g.counts m;
      }

  module _ (next : Option Block) (k : Block) (some : next ≡ Some k) (read : BlockRead slot (place at s left) (supply held b) (supply rest c) (Ok next)) where
    r : BlockRead slot (place at s left) (supply held b) (supply rest c) (Ok (Some k))
    r = subst (λ (n : Option Block). BlockRead slot (place at s left) (supply held b) (supply rest c) (Ok n)) some read

    fewer : (m : ℕ) → length (held ++ b.left slot) ≤ m → length (drop k.size (held ++ b.left slot)) + 12 ≤ length (held ++ b.left slot) → (d : Section) (w : List NgRecord) (budget : Budget) (place : ℕ) → in_front w (read_from m budget place d (drop k.size (held ++ b.left slot))) ≡ ng_read had (a.left slot) → rest ++ c.left slot ≡ drop k.size (held ++ b.left slot) → place + length (drop k.size (held ++ b.left slot)) ≡ length (a.left slot) →
        (n : ℕ) × (length (rest ++ c.left slot) ≤ n) × (place + length (rest ++ c.left slot) ≡ length (a.left slot)) × (in_front w (read_from (suc n) budget place d (rest ++ c.left slot)) ≡ ng_read had (a.left slot))
    fewer zero le less_by d w budget place is behind total = absurd (omega arith)
    fewer (suc n) le less_by d w budget place is behind total = (n, omega (arith, ap length behind), omega (arith, ap length behind), ap (λ l. in_front w (read_from (suc n) budget place d l)) behind ∙ is)

    pub going_on : (d : Section) (w : List NgRecord) (budget : Budget) → d ≡ after s k.content → w ≡ v ++ found k.content → budget ≡ less left k → Going slot had a (supply rest c) (place (had.bytes - budget.bytes) d budget) w
    going_on d w budget is_d is_w is_budget =
        let bytes : budget.bytes ≡ left.bytes - k.size = ap (λ (q : Budget). q.bytes) is_budget in
        let frames : budget.frames ≡ left.frames - length (found k.content) = ap (λ (q : Budget). q.frames) is_budget in
        let fits = r.fits in
        let whole = g.place in
        let is_place : had.bytes - budget.bytes ≡ at + k.size = omega (arith, fits.1) in
        record {
          reads = both (Ok (Some k)) r;
          place = omega (arith, fits.1, g.place);
          frames = omega (arith, fits.2, g.frames, ap length is_w, length-append v (found k.content));
          kept = subst AreKept (sym is_w) (kept_append v (found k.content) g.kept fits.3);
          on = λ told.
              let behind = r.behind (told_b told) in
              let on = g.on told in
              let reads_on : in_front w (read_from on.0 budget (had.bytes - budget.bytes) d (drop k.size (held ++ b.left slot))) ≡ ng_read had (a.left slot) =
              (λ i. in_front (is_w i) (read_from on.0 (is_budget i) (is_place i) (is_d i) (drop k.size (held ++ b.left slot)))) ∙ sym (in_front_more v (found k.content) _) ∙ from_step told (Ok (Some k)) (r.tells (told_b told)) in
              let shorter = length-drop k.size (held ++ b.left slot) in
              fewer on.0 on.1 (omega (arith, shorter, behind.0, fits.0)) d w budget (had.bytes - budget.bytes) reads_on behind.1 (omega (arith, shorter, behind.0, on.2, is_place));
          counts = λ m. r.counts m ∙ g.counts m;
        }
