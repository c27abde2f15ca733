-- The step of a reader, by what its buffers hold.
use Rattle.std.specs.Prelude.{unwrap_or}
use Rattle.std.proofs.Common.{◌≡◌, ◌≢◌, inl, inr, subst, ◌^◌, IsTrue, Some, None, Ok, Err, ℕ, ◌+◌, ◌<◌, ◌≤◌, max, leb, ltb, nat_lt, not, List, [], ◌++◌, length, take, drop, sym, ap, ◌∙◌, arith}
use Rattle.std.proofs.lemmas.Bool.{le-ltb, lt-ltb, le-leb, lt-leb}
use Rattle.std.proofs.lemmas.List.{length-take-le, take-append-drop, append-nil}
use Rattle.fab_base.specs.Seen.{Seen, Reads, SameReadFaults}
use Rattle.pcap_file.proofs.lemmas.Numbers.{none_is, le_or_lt}
use Rattle.pcap_file.proofs.lemmas.Buffers.{front_is, short_is}
use Rattle.pcap_file.proofs.lemmas.Steps.{no_bytes, no_frames, no_limit}
use Rattle.fab_base.proofs.Depots.{reads_trans, input_name, told_stays}
use Rattle.pcap_file.specs.declared.Record.{Record}
use Rattle.pcap_file.specs.declared.Budget.{Budget}
use Rattle.pcap_file.specs.declared.CaptureHead.{CaptureHead}
use Rattle.pcap_file.specs.declared.reader.Place.{Place}
use Rattle.pcap_file.specs.declared.CapError.TheVariants as errors
use Rattle.pcap_file.specs.Capture.{at_place, milliseconds, stored, Found, next}
use Rattle.pcap_file.specs.Reading.{Pulls, Collects, RecordRead, supply, Why, Cut, NoBytes, NoFrames, limit_of, error_of, Step, Gives, Stops, AsksMemory, step_by, step_of}
use Rattle.pcap_file.proofs.NextLemmas.{next_end, next_short, front_long, front_cut, front_whole}

pub leb_not : (a b : ℕ) → leb a b ≡ not (ltb b a)
leb_not a b = elim (le_or_lt a b) [
  | inl le ↦ le-leb _ _ le ∙ ap not (sym (le-ltb _ _ le))
  | inr lt ↦ lt-leb _ _ lt ∙ ap not (sym (lt-ltb _ _ lt))
]

-- a limit that is passed, whether the record is whole or not
module _ (h : CaptureHead) (g at : ℕ) (budget : Budget) (front m : List ℕ) (sized : length front ≡ 16) (small : stored h front ≤ 65535) where
  step_fails : (why : Why) → limit_of budget.bytes budget.frames (stored h front) ≡ Some why → step_of budget at (next h g (front ++ m)) ≡ Stops (error_of why at)
  step_fails why over = elim (le_or_lt (stored h front) (length m)) [
    | inl le ↦
        let whole : length (take (stored h front) m) ≡ stored h front = length-take-le (stored h front) m le in
        ap (step_of budget at) (front_whole h g front m sized (take (stored h front) m) (drop (stored h front) m) (sym (take-append-drop (stored h front) m)) whole small)
        ∙ ap (λ o. step_by o at (Found (max g (milliseconds h front)) (record { bytes = take (stored h front) m; whole = not (nat_lt (stored h front) (at_place h.big front 12 4)) }) (drop (stored h front) m)))
        (ap (limit_of budget.bytes budget.frames) whole ∙ over)
    | inr lt ↦ ap (step_of budget at) (front_cut h g front m sized small lt) ∙ ap (λ o. Stops (error_of (unwrap_or o Cut) at)) over
  ]

  -- a record within the limits, whether it is whole or not
  step_asks : limit_of budget.bytes budget.frames (stored h front) ≡ None → AsksMemory (step_of budget at (next h g (front ++ m)))
  step_asks within = elim (le_or_lt (stored h front) (length m)) [
    | inl le ↦
        let whole : length (take (stored h front) m) ≡ stored h front = length-take-le (stored h front) m le in
        subst AsksMemory
        (sym (ap (step_of budget at) (front_whole h g front m sized (take (stored h front) m) (drop (stored h front) m) (sym (take-append-drop (stored h front) m)) whole small)
        ∙ ap (λ o. step_by o at (Found (max g (milliseconds h front)) (record { bytes = take (stored h front) m; whole = not (nat_lt (stored h front) (at_place h.big front 12 4)) }) (drop (stored h front) m)))
        (ap (limit_of budget.bytes budget.frames) whole ∙ within))) tt
    | inr lt ↦ subst AsksMemory (sym (ap (step_of budget at) (front_cut h g front m sized small lt) ∙ ap (λ o. Stops (error_of (unwrap_or o Cut) at)) within)) tt
  ]

-- ---- one record, from a buffer for its head and a buffer for its bytes
module _ (s : ℕ) (a b : Seen) (held rest front : List ℕ) (n : ℕ) (p : Place) (budget : Budget) (sized : length front ≡ 16) (first : Pulls s front (supply held a) (supply rest b) (Ok n)) where
  pub read_end : n ≡ 0 → RecordRead s p budget (supply held a) (supply rest b) (Ok None)
  read_end none = record {
    reads = first.reads;
    says = λ told.
        let empty : rest ++ b.left s ≡ [] = first.ended told (omega arith) in
        let all : length (held ++ a.left s) ≡ n = short_is front (rest ++ b.left s) (held ++ a.left s) n first.bound empty (first.taken told) in
        (ap (λ l. step_of budget p.at (next p.head p.greatest l)) (none_is (held ++ a.left s) (all ∙ none)) ∙ ap (step_of budget p.at) (next_end p.head p.greatest), empty);
    fits = tt;
    cause = λ f e. absurd (cc);
    counts = first.counts;
  }

  pub read_short : n ≢ 0 → n < 16 → RecordRead s p budget (supply held a) (supply rest b) (Err (errors.Cut p.at))
  read_short ne lt = record {
    reads = first.reads;
    says = λ told.
        let empty : rest ++ b.left s ≡ [] = first.ended told (omega arith) in
        let all : length (held ++ a.left s) ≡ n = short_is front (rest ++ b.left s) (held ++ a.left s) n first.bound empty (first.taken told) in
        ap (step_of budget p.at) (next_short p.head p.greatest (held ++ a.left s) (omega arith) (omega arith));
    fits = tt;
    cause = λ f e. absurd (cc);
    counts = first.counts;
  }

  whole_front : 16 ≤ n → IsTrue a.told → held ++ a.left s ≡ front ++ (rest ++ b.left s)
  whole_front le told = let is : n ≡ 16 = omega (arith, first.bound) in front_is front (rest ++ b.left s) (held ++ a.left s) 16 sized (subst (λ (k : ℕ). take k front ++ (rest ++ b.left s) ≡ held ++ a.left s) is (first.taken told))

  pub read_long : (len : ℕ) → len ≡ stored p.head front → 16 ≤ n → 65535 < len → RecordRead s p budget (supply held a) (supply rest b) (Err (errors.TooLong p.at len))
  read_long len is le long = record {
    reads = first.reads;
    says = λ told.
        ap (λ l. step_of budget p.at (next p.head p.greatest l)) (whole_front le told) ∙ ap (step_of budget p.at) (front_long p.head p.greatest front (rest ++ b.left s) sized (omega arith))
        ∙ ap (λ (k : ℕ). Stops (errors.TooLong p.at k)) (sym is);
    fits = tt;
    cause = λ f e. absurd (cc);
    counts = first.counts;
  }

  module _ (len : ℕ) (is : len ≡ stored p.head front) (le : 16 ≤ n) (small : len ≤ 65535) where
    pub read_bytes : budget.bytes < 16 + len → RecordRead s p budget (supply held a) (supply rest b) (Err errors.Bytes)
    read_bytes lt = record {
      reads = first.reads;
      says = λ told. ap (λ l. step_of budget p.at (next p.head p.greatest l)) (whole_front le told) ∙ step_fails p.head p.greatest p.at budget front (rest ++ b.left s) sized (omega arith) NoBytes (no_bytes budget.bytes budget.frames (stored p.head front) (omega arith));
      fits = tt;
      cause = λ f e. absurd (cc);
      counts = first.counts;
    }

    pub read_frames : 16 + len ≤ budget.bytes → budget.frames ≡ 0 → RecordRead s p budget (supply held a) (supply rest b) (Err errors.Frames)
    read_frames room none = record {
      reads = first.reads;
      says = λ told. ap (λ l. step_of budget p.at (next p.head p.greatest l)) (whole_front le told) ∙ step_fails p.head p.greatest p.at budget front (rest ++ b.left s) sized (omega arith) NoFrames (no_frames budget.bytes budget.frames (stored p.head front) (omega arith) none);
      fits = tt;
      cause = λ f e. absurd (cc);
      counts = first.counts;
    }

    pub read_refused : 16 + len ≤ budget.bytes → budget.frames ≢ 0 → RecordRead s p budget (supply held a) (supply rest b) (Err errors.Memory)
    read_refused room some = record {
      reads = first.reads;
      says = λ told. subst (λ l. AsksMemory (step_of budget p.at (next p.head p.greatest l))) (sym (whole_front le told)) (step_asks p.head p.greatest p.at budget front (rest ++ b.left s) sized (omega arith) (no_limit budget.bytes budget.frames (stored p.head front) (omega arith) (omega arith)));
      fits = tt;
      cause = λ f e. absurd (cc);
      counts = first.counts;
    }

    module _ (c : Seen) (more body : List ℕ) (is_in : IsTrue (a.input s)) (second : Collects {T = Unit {0}} s len body (supply rest b) (supply more c) (Ok tt)) (room : 16 + len ≤ budget.bytes) (frame : budget.frames ≢ 0) where
      both : Reads (a.name s) a c
      both = reads_trans (a.name s) a b c first.reads (subst (λ m. Reads m b c) (input_name (a.name s) a b first.reads.keeps s is_in) second.reads)

      both_counts : SameReadFaults a c
      both_counts m = second.counts m ∙ first.counts m

      told_b : IsTrue a.told → IsTrue b.told
      told_b told = told_stays (a.name s) a b first.reads.keeps told

      pub read_cut : length body < len → RecordRead s p budget (supply held a) (supply more c) (Err (errors.Cut p.at))
      read_cut lt = record {
        reads = both;
        says = λ told.
            let empty : more ++ c.left s ≡ [] = second.ended (told_b told) lt in
            let all : length (rest ++ b.left s) ≡ length body = sym (ap length (second.taken (told_b told))) ∙ ap (λ l. length (body ++ l)) empty ∙ ap length (append-nil body) in
            ap (λ l. step_of budget p.at (next p.head p.greatest l)) (whole_front le told) ∙ ap (step_of budget p.at) (front_cut p.head p.greatest front (rest ++ b.left s) sized (omega arith) (omega arith))
            ∙ ap (λ o. Stops (error_of (unwrap_or o Cut) p.at)) (no_limit budget.bytes budget.frames (stored p.head front) (omega arith) (omega arith));
        fits = tt;
        cause = λ f e. absurd (cc);
        counts = both_counts;
      }

      pub read_given : (r : Record) → length body ≡ len → p.greatest < 2 ^ 43 → milliseconds p.head front < 2 ^ 43 → r.moment ≡ max (milliseconds p.head front) p.greatest → r.caught.bytes ≡ body → r.caught.whole ≡ not (nat_lt len (at_place p.head.big front 12 4)) → RecordRead s p budget (supply held a) (supply more c) (Ok (Some r))
      read_given r sized_body below range moment bytes whole = record {
        reads = both;
        says = λ told.
            let all : rest ++ b.left s ≡ body ++ (more ++ c.left s) = sym (second.taken (told_b told)) in
            let same : record { bytes = body; whole = not (nat_lt (stored p.head front) (at_place p.head.big front 12 4)) } ≡ r.caught = (λ i. record { bytes = sym bytes i; whole = (ap (λ (k : ℕ). not (nat_lt k (at_place p.head.big front 12 4))) (sym is) ∙ sym whole) i }) in
            let time : max p.greatest (milliseconds p.head front) ≡ r.moment = omega arith in
            ap (λ l. step_of budget p.at (next p.head p.greatest l)) (whole_front le told)
            ∙ ap (step_of budget p.at) (front_whole p.head p.greatest front (rest ++ b.left s) sized body (more ++ c.left s) all (sized_body ∙ is) (omega arith))
            ∙ ap (λ o. step_by o p.at (Found (max p.greatest (milliseconds p.head front)) (record { bytes = body; whole = not (nat_lt (stored p.head front) (at_place p.head.big front 12 4)) }) (more ++ c.left s))) (no_limit budget.bytes budget.frames (length body) (omega arith) (omega arith))
            ∙ (λ i. Gives (time i) (same i) (more ++ c.left s));
        fits = record { onward = omega arith; range = omega arith; stored = omega (arith, ap length bytes); bytes = omega (arith, ap length bytes); frames = omega arith };
        cause = λ f e. absurd (cc);
        counts = both_counts;
      }
