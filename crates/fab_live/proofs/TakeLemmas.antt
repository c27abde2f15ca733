-- What stands behind a packet stands behind the next one too.
use Rattle.std.proofs.Common.{◌≡◌, ◌≢◌, ℕ, zero, suc, ◌+◌, ◌<◌, ◌≤◌, Bool, true, false, eqb, cond, List, [], ◌∷◌, ◌++◌, length, length-append, slice_get, slice_set, slice_index_or, inl, inr, Option, Some, None, IfSome, refl, sym, ap, ◌∙◌, subst, arith, append_assoc}
use Rattle.std.specs.Prelude.{max, replicate, unwrap_or}
use Rattle.std.proofs.lemmas.Bool.{eq-eqb, ne_eqb, cases_order}
use Rattle.std.proofs.lemmas.Option.{slice_get_read}
use Rattle.std.proofs.lemmas.List.{append-nil}
use Rattle.fab_config.specs.Settings.{Settings}
use Rattle.pcapng_file.specs.declared.NgRecord.{NgRecord}
use Rattle.pcapng_file.specs.File.{IsPacketKept, AreKept}
use Rattle.pcapng_file.specs.Classic.{classic_record, classic_records}
use Rattle.fab_policy.specs.Legal.{window_start}
use Rattle.window_records.specs.Looks.{is_too_late}
use Rattle.fab_policy.specs.Standing.{Contents}
use Rattle.window_records.proofs.SlotLemmas.{some_is, get_set_same, get_set_other}
use Rattle.window_records.proofs.WindowLemmas.{window_start-mono}
use Rattle.fab_live.specs.Arriving.{arrive, arrived, greatest_of, of_face, AllFaces, first_start, NoneTooLate, IsInSpan}
use Rattle.fab_live.specs.Files.{GrowsAt}
use Rattle.fab_live.specs.From.{reach}
use Rattle.fab_live.proofs.ArrivingLemmas.{arrived-append, of_face-append}

-- ---- the clock and the next window

pub reach_some : (F : Contents) (t : ℕ) → F.state.tables.clock ≡ Some t → reach F ≡ t + 1
reach_some F t e = ap (λ (o : Option ℕ). elim o [ None ↦ 0 | Some u ↦ u + 1 ]) e

-- a clock that stands in an earlier moment's window isn't behind a later one's
pub in_order : (c : Settings) (g m : ℕ) (o : Option ℕ) → g ≤ m → IfSome o (λ t. t ≡ window_start c g) → IfSome o (λ t. t ≤ window_start c m)
in_order c g m None le h = tt
in_order c g m (Some t) le h = let up = window_start-mono c g m le in omega arith

pub soon : (F : Contents) (w : ℕ) → IfSome F.state.tables.clock (λ t. t ≤ w) → reach F ≤ w + 1
soon F w h = go F.state.tables.clock h
  where
    go : (o : Option ℕ) → IfSome o (λ t. t ≤ w) → (elim o [ None ↦ 0 | Some t ↦ t + 1 ]) ≤ w + 1
    go None h = omega arith
    go (Some t) h = omega arith

-- ---- the span of the windows

none_late-append : (c : Settings) (first : ℕ) (v : List NgRecord) (x : NgRecord) → NoneTooLate c first v → is_too_late first (Some (window_start c x.moment)) ≡ false → NoneTooLate c first (v ++ x ∷ [])
none_late-append c first [] x h e = (e, tt)
none_late-append c first (y ∷ v) x h e = (h.0, none_late-append c first v x h.1 e)

last_timely : (c : Settings) (first : ℕ) (v : List NgRecord) (x : NgRecord) → NoneTooLate c first (v ++ x ∷ []) → is_too_late first (Some (window_start c x.moment)) ≡ false
last_timely c first [] x h = h.0
last_timely c first (y ∷ v) x h = last_timely c first v x h.1

first_on : (c : Settings) (v : List NgRecord) (x : NgRecord) → first_start c (v ++ x ∷ []) ≡ Some (unwrap_or (first_start c v) (window_start c x.moment))
first_on c [] x = refl
first_on c (y ∷ v) x = refl

span_on : (c : Settings) (v : List NgRecord) (x : NgRecord) → IsInSpan c v → is_too_late (unwrap_or (first_start c v) (window_start c x.moment)) (Some (window_start c x.moment)) ≡ false → IsInSpan c (v ++ x ∷ [])
span_on c [] x h e = (e, tt)
span_on c (y ∷ v) x h e = (h.0, none_late-append c (window_start c y.moment) v x h.1 e)

span_off : (c : Settings) (v : List NgRecord) (x : NgRecord) → is_too_late (unwrap_or (first_start c v) (window_start c x.moment)) (Some (window_start c x.moment)) ≡ true → ¬ IsInSpan c (v ++ x ∷ [])
span_off c [] x e h = absurd (cc)
span_off c (y ∷ v) x e h = let same = last_timely c (window_start c y.moment) v x h.1 in absurd (cc)

module _ (c : Settings) (g : ℕ) (packets : List NgRecord) (r : NgRecord) (o : Option ℕ) (o_is : o ≡ first_start c (arrived g packets)) (w : ℕ) (w_is : window_start c (arrive (greatest_of g packets) r).moment ≡ w) where
  test_is : is_too_late (unwrap_or (first_start c (arrived g packets)) (window_start c (arrive (greatest_of g packets) r).moment)) (Some (window_start c (arrive (greatest_of g packets) r).moment)) ≡ is_too_late (unwrap_or o w) (Some w)
  test_is = (λ i. is_too_late (unwrap_or (sym o_is i) (w_is i)) (Some (w_is i)))

  pub span_more : IsInSpan c (arrived g packets) → is_too_late (unwrap_or o w) (Some w) ≡ false → IsInSpan c (arrived g (packets ++ r ∷ []))
  span_more h e = subst (IsInSpan c) (sym (arrived-append g packets r)) (span_on c (arrived g packets) (arrive (greatest_of g packets) r) h (test_is ∙ e))

  pub span_passed : is_too_late (unwrap_or o w) (Some w) ≡ true → ¬ IsInSpan c (arrived g (packets ++ r ∷ []))
  span_passed e h = span_off c (arrived g packets) (arrive (greatest_of g packets) r) (test_is ∙ e) (subst (IsInSpan c) (arrived-append g packets r) h)

  pub first_more : Some (unwrap_or o w) ≡ first_start c (arrived g (packets ++ r ∷ []))
  first_more =
      (λ i. Some (unwrap_or (o_is i) (sym w_is i)))
      ∙ sym (first_on c (arrived g packets) (arrive (greatest_of g packets) r))
      ∙ ap (first_start c) (sym (arrived-append g packets r))

-- ---- the packets of each interface

faces-append : (n : ℕ) (packets : List NgRecord) (r : NgRecord) → AllFaces n packets → r.face < n → AllFaces n (packets ++ r ∷ [])
faces-append n [] r h lt = (lt, tt)
faces-append n (x ∷ packets) r h lt = (h.0, faces-append n packets r h.1 lt)

pub all_faces : (n : ℕ) (packets : List NgRecord) (r : NgRecord) → AllFaces n packets → r.face < n → AllFaces n (packets ++ r ∷ [])
all_faces = faces-append

module _ (g : ℕ) (packets : List NgRecord) (r : NgRecord) where
  abbrev x : NgRecord
  x = arrive (greatest_of g packets) r

  face_on : (q : ℕ) → of_face q (arrived g (packets ++ r ∷ [])) ≡ of_face q (arrived g packets) ++ of_face q (x ∷ [])
  face_on q = ap (of_face q) (arrived-append g packets r) ∙ of_face-append q (arrived g packets) (x ∷ [])

  pub face_here : (q : ℕ) → r.face ≡ q → of_face q (arrived g (packets ++ r ∷ [])) ≡ of_face q (arrived g packets) ++ x ∷ []
  face_here q e = face_on q ∙ ap (λ (b : Bool). of_face q (arrived g packets) ++ cond b (x ∷ []) []) (eq-eqb r.face q e)

  pub face_elsewhere : (q : ℕ) → r.face ≢ q → of_face q (arrived g (packets ++ r ∷ [])) ≡ of_face q (arrived g packets)
  face_elsewhere q ne = face_on q ∙ ap (λ (b : Bool). of_face q (arrived g packets) ++ cond b (x ∷ []) []) (ne_eqb r.face q ne) ∙ append-nil (of_face q (arrived g packets))

  count_here : (q : ℕ) → r.face ≡ q → length (of_face q (arrived g (packets ++ r ∷ []))) ≡ length (of_face q (arrived g packets)) + 1
  count_here q e = ap length (face_here q e) ∙ (let s = length-append (of_face q (arrived g packets)) (x ∷ []) in omega arith)

  -- ---- captures

  classic-append : (v w : List NgRecord) → classic_records (v ++ w) ≡ classic_records v ++ classic_records w
  classic-append [] w = refl
  classic-append (y ∷ v) w = ap (λ l. classic_record y ++ l) (classic-append v w) ∙ sym (append_assoc (classic_record y) (classic_records v) (classic_records w))

  classic_one : (heads : List ℕ) (v : List NgRecord) → heads ++ classic_records (v ++ x ∷ []) ≡ (heads ++ classic_records v) ++ classic_record x
  classic_one heads v =
      ap (λ l. heads ++ l) (classic-append v (x ∷ []) ∙ ap (λ l. classic_records v ++ l) (append-nil (classic_record x)))
      ∙ sym (append_assoc heads (classic_records v) (classic_record x))

  pub grows : (heads : ℕ → List ℕ) → GrowsAt r.face (classic_record x) (λ q. heads q ++ classic_records (of_face q (arrived g packets))) (λ q. heads q ++ classic_records (of_face q (arrived g (packets ++ r ∷ []))))
  grows heads = record {
    here = ap (λ v. heads r.face ++ classic_records v) (face_here r.face refl) ∙ classic_one (heads r.face) (of_face r.face (arrived g packets));
    others = λ q ne. ap (λ v. heads q ++ classic_records v) (face_elsewhere q (λ e. ne (sym e)));
  }

-- ---- how many there are

few_of : (q : ℕ) (v : List NgRecord) → length (of_face q v) ≤ length v
few_of q [] = omega arith
few_of q (y ∷ v) = by_test (eqb y.face q) (few_of q v)
  where
    by_test : (b : Bool) → length (of_face q v) ≤ length v → length (cond b (y ∷ of_face q v) (of_face q v)) ≤ suc (length v)
    by_test true le = omega arith
    by_test false le = omega arith

length-arrived : (g : ℕ) (packets : List NgRecord) → length (arrived g packets) ≡ length packets
length-arrived g [] = refl
length-arrived g (y ∷ packets) = ap suc (length-arrived (max g y.moment) packets)

pub count_few : (g q : ℕ) (packets : List NgRecord) → length (of_face q (arrived g packets)) ≤ length packets
count_few g q packets = let few = few_of q (arrived g packets) in let all = length-arrived g packets in omega arith

-- a count is read, and is one more behind a packet of its port
pub index_there : (l : List ℕ) (q i n : ℕ) → q < length l → i ≡ slice_index_or l q i → slice_get l q ≡ Some n → i ≡ n
index_there l q i n lt is at = some_is (slice_get l q) i n (slice_get_read l (length l) q i refl lt is) at

pub counts_from : (firsts : List ℕ) (g : ℕ) (packets : List NgRecord) (r : NgRecord) (l : List ℕ) (n i : ℕ) → length l ≡ n → r.face < n → i ≡ unwrap_or (slice_get firsts r.face) 0 + length (of_face r.face (arrived g packets))
    → ((q : ℕ) → q < n → slice_get l q ≡ Some (unwrap_or (slice_get firsts q) 0 + length (of_face q (arrived g packets)))) → (q : ℕ) → q < n
    → slice_get (slice_set l r.face (i + 1)) q ≡ Some (unwrap_or (slice_get firsts q) 0 + length (of_face q (arrived g (packets ++ r ∷ []))))
counts_from firsts g packets r l n i size lt i_is at q less = elim (cases_order q r.face) [
  | inl e ↦ here e
  | inr other ↦ elim other [ inl below ↦ elsewhere (λ e. absurd (omega arith)) | inr above ↦ elsewhere (λ e. absurd (omega arith)) ]
]
  where
    here : q ≡ r.face → slice_get (slice_set l r.face (i + 1)) q ≡ Some (unwrap_or (slice_get firsts q) 0 + length (of_face q (arrived g (packets ++ r ∷ []))))
    here e =
        ap (slice_get (slice_set l r.face (i + 1))) e
        ∙ get_set_same l r.face (i + 1) (omega arith)
        ∙ ap (λ (k : ℕ). Some k)
        ((let more = count_here g packets r r.face refl in
        let s : i + 1 ≡ unwrap_or (slice_get firsts r.face) 0 + length (of_face r.face (arrived g (packets ++ r ∷ []))) = omega (arith, i_is, more) in
        s)
        ∙ ap (λ (p : ℕ). unwrap_or (slice_get firsts p) 0 + length (of_face p (arrived g (packets ++ r ∷ [])))) (sym e))

    elsewhere : q ≢ r.face → slice_get (slice_set l r.face (i + 1)) q ≡ Some (unwrap_or (slice_get firsts q) 0 + length (of_face q (arrived g (packets ++ r ∷ []))))
    elsewhere ne =
        get_set_other l r.face q (i + 1) ne
        ∙ at q less
        ∙ ap (λ (v : List NgRecord). Some (unwrap_or (slice_get firsts q) 0 + length v)) (sym (face_elsewhere g packets r q (λ e. ne (sym e))))

-- before anything came
pub zeros_at : (n q : ℕ) → q < n → slice_get {X = ℕ} (replicate n 0) q ≡ Some 0
zeros_at zero q lt = absurd (omega arith)
zeros_at (suc n) zero lt = refl
zeros_at (suc n) (suc q) lt = zeros_at n q (omega arith)

-- ---- what every packet keeps

pub kept_more : (v : List NgRecord) (x : NgRecord) → AreKept v → IsPacketKept x → AreKept (v ++ x ∷ [])
kept_more [] x h k = (k, tt)
kept_more (y ∷ v) x h k = (h.0, kept_more v x h.1 k)
