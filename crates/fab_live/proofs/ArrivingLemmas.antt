-- Packets behind others.
use Rattle.std.proofs.Common.{◌≡◌, ◌≢◌, ℕ, zero, suc, ◌+◌, ◌<◌, ◌⊎◌, inl, inr, Bool, true, false, eqb, cond, List, [], ◌∷◌, ◌++◌, length, map, slice_get, Some, refl, sym, ap, ◌∙◌, arith}
use Rattle.std.specs.Prelude.{max}
use Rattle.std.proofs.lemmas.Bool.{eq-eqb, ne_eqb, cases_order}
use Rattle.fab_config.specs.Settings.{Settings}
use Rattle.pcap_file.specs.declared.Record.{Record}
use Rattle.pcapng_file.specs.declared.NgRecord.{NgRecord}
use Rattle.fab_policy.specs.Growing.{with_more}
use Rattle.fab_policy.specs.Journal.{followed}
use Rattle.fab_policy.specs.Legal.{of_port, numbered_from, window_start}
use Rattle.fab_base.specs.Counting.{counting}
use Rattle.fab_policy.specs.Standing.{Contents}
use Rattle.fab_policy.specs.declared.event.Event.{Event}
use Rattle.window_records.specs.Laws.{AllIn, HasSome}
use Rattle.window_records.specs.Port.{AreIn}
use Rattle.fab_shared.specs.Handled.{HandledPort, HoldBatches, Handled}
use Rattle.pcapng_file.specs.Classic.{recorded}
use Rattle.fab_live.specs.Arriving.{arrive, arrived, greatest_of, of_face, port_records, records_of}

-- ---- one packet more

pub arrived-append : (g : ℕ) (packets : List NgRecord) (r : NgRecord) → arrived g (packets ++ r ∷ []) ≡ arrived g packets ++ arrive (greatest_of g packets) r ∷ []
arrived-append g [] r = refl
arrived-append g (x ∷ packets) r = ap (λ l. arrive g x ∷ l) (arrived-append (max g x.moment) packets r)

pub greatest-append : (g : ℕ) (packets : List NgRecord) (r : NgRecord) → greatest_of g (packets ++ r ∷ []) ≡ max (greatest_of g packets) r.moment
greatest-append g [] r = refl
greatest-append g (x ∷ packets) r = greatest-append (max g x.moment) packets r

pub of_face-append : (q : ℕ) (v w : List NgRecord) → of_face q (v ++ w) ≡ of_face q v ++ of_face q w
of_face-append q [] w = refl
of_face-append q (x ∷ v) w = by_test (eqb x.face q) (of_face-append q v w)
  where
    by_test : (b : Bool) → of_face q (v ++ w) ≡ of_face q v ++ of_face q w → cond b (x ∷ of_face q (v ++ w)) (of_face q (v ++ w)) ≡ cond b (x ∷ of_face q v) (of_face q v) ++ of_face q w
    by_test true e = ap (λ l. x ∷ l) e
    by_test false e = e

recorded-append : (v w : List NgRecord) → map recorded (v ++ w) ≡ map recorded v ++ map recorded w
recorded-append [] w = refl
recorded-append (x ∷ v) w = ap (λ l. recorded x ∷ l) (recorded-append v w)

port_records-append : (v w : List NgRecord) (q : ℕ) → port_records (v ++ w) q ≡ port_records v q ++ port_records w q
port_records-append v w q = ap (map recorded) (of_face-append q v w) ∙ recorded-append (of_face q v) (of_face q w)

pub length-recorded : (v : List NgRecord) → length (map recorded v) ≡ length v
length-recorded [] = refl
length-recorded (x ∷ v) = ap suc (length-recorded v)

-- ---- all ports

more_from : (f g h : ℕ → List Record) → ((q : ℕ) → h q ≡ f q ++ g q) → (k n : ℕ) → map h (counting k n) ≡ with_more (map f (counting k n)) (map g (counting k n))
more_from f g h e k zero = refl
more_from f g h e k (suc n) = (λ i. e k i ∷ more_from f g h e (k + 1) n i)

pub records_of-append : (n : ℕ) (v w : List NgRecord) → records_of n (v ++ w) ≡ with_more (records_of n v) (records_of n w)
records_of-append n v w = more_from (port_records v) (port_records w) (port_records (v ++ w)) (port_records-append v w) 0 n

length-ports : (f : ℕ → List Record) (k n : ℕ) → length (map f (counting k n)) ≡ n
length-ports f k zero = refl
length-ports f k (suc n) = ap suc (length-ports f (k + 1) n)

pub length-records_of : (n : ℕ) (v : List NgRecord) → length (records_of n v) ≡ n
length-records_of n v = length-ports (port_records v) 0 n

-- ---- the records of one packet

module _ (r : NgRecord) where
  abbrev pub own : ℕ → List Record
  own q = port_records (r ∷ []) q

  pub own_is : (q : ℕ) → r.face ≡ q → own q ≡ recorded r ∷ []
  own_is q e = ap (λ (b : Bool). map recorded (cond b (r ∷ []) [])) (eq-eqb r.face q e)

  pub other_is : (q : ℕ) → r.face ≢ q → own q ≡ []
  other_is q ne = ap (λ (b : Bool). map recorded (cond b (r ∷ []) [])) (ne_eqb r.face q ne)

  module _ (c : Settings) (w : ℕ) (at : window_start c r.moment ≡ w) where
    all_in : (k n : ℕ) → AllIn c w (map own (counting k n))
    all_in k zero = tt
    all_in k (suc n) = (by_test (eqb r.face k), all_in (k + 1) n)
      where
        by_test : (b : Bool) → AreIn c w (map recorded (cond b (r ∷ []) []))
        by_test true = (at, tt)
        by_test false = tt

    pub all_in_one : (n : ℕ) → AllIn c w (records_of n (r ∷ []))
    all_in_one n = all_in 0 n

  some_at : (k n j : ℕ) → r.face ≡ k + j → j < n → slice_get (map own (counting k n)) j ≡ Some (recorded r ∷ [])
  some_at k zero j e lt = absurd (omega arith)
  some_at k (suc n) zero e lt = ap (λ (l : List Record). Some l) (own_is k (omega arith))
  some_at k (suc n) (suc j) e lt = some_at (k + 1) n j (omega arith) (omega arith)

  pub has_some_one : (n : ℕ) → r.face < n → HasSome (records_of n (r ∷ []))
  has_some_one n lt = (r.face, recorded r, [], some_at 0 n r.face (omega arith) lt)

  module _ (v : List NgRecord) (later : List Event) (each : (q : ℕ) → of_port (q + 1) (followed [] later) ≡ numbered_from (length (port_records v q)) (own q)) where
    held_from : (k n : ℕ) → HoldBatches later (k + 1) (map (λ records. length records) (map (port_records v) (counting k n))) (map own (counting k n))
    held_from k zero = tt
    held_from k (suc n) = (each k, held_from (k + 1) n)

  -- a record of a port that was handled is all that was
  module _ (v : List NgRecord) (port index : ℕ) (G H : Contents) (port_is : port ≡ r.face + 1) (index_is : index ≡ length (port_records v r.face)) (h : HandledPort port index (recorded r ∷ []) G H) where
    each_port : (q : ℕ) → of_port (q + 1) (followed [] h.grown.later) ≡ numbered_from (length (port_records v q)) (own q)
    each_port q = by_order (cases_order q r.face)
      where
        here : q ≡ r.face → of_port (q + 1) (followed [] h.grown.later) ≡ numbered_from (length (port_records v q)) (own q)
        here e =
            ap (λ (p : ℕ). of_port p (followed [] h.grown.later)) (let s : q + 1 ≡ port = omega arith in s)
            ∙ h.own
            ∙ ap (λ (i : ℕ). numbered_from i (recorded r ∷ [])) (index_is ∙ ap (λ (p : ℕ). length (port_records v p)) (sym e))
            ∙ ap (numbered_from (length (port_records v q))) (sym (own_is q (sym e)))

        elsewhere : q ≢ r.face → of_port (q + 1) (followed [] h.grown.later) ≡ numbered_from (length (port_records v q)) (own q)
        elsewhere ne =
            h.others (q + 1) (λ e. ne (let s : q ≡ r.face = omega arith in s))
            ∙ ap (numbered_from (length (port_records v q))) (sym (other_is q (λ e. ne (sym e))))

        by_order : (q ≡ r.face) ⊎ ((q < r.face) ⊎ (r.face < q)) → of_port (q + 1) (followed [] h.grown.later) ≡ numbered_from (length (port_records v q)) (own q)
        by_order (inl e) = here e
        by_order (inr (inl less)) = elsewhere (λ e. absurd (omega arith))
        by_order (inr (inr more)) = elsewhere (λ e. absurd (omega arith))

    pub handled_one : (n : ℕ) → Handled (map (λ records. length records) (records_of n v)) (records_of n (r ∷ [])) G H
    handled_one n = record { grown = h.grown; ports = h.ports; held = held_from v h.grown.later each_port 0 n }
