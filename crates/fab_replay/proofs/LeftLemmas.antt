-- The windows of the frames that are left, port by port.
use Rattle.std.proofs.Common.{◌≡◌, ℕ, zero, suc, ◌+◌, ◌<◌, Bool, true, false, eqb, leb, ◌&&◌, not, List, [], ◌∷◌, ◌++◌, length, drop, map, slice_get, Option, Some, None, IfSome, refl, sym, ap, ◌∙◌, arith}
use Rattle.std.specs.List.{list_any, list_all}
use Rattle.std.proofs.lemmas.Bool.{le-leb}
use Rattle.std.proofs.lemmas.List.Folds.{list_any-append, list_all-append}
use Rattle.fab_config.specs.Settings.{Settings}
use Rattle.fab_policy.specs.Growing.{AreFrom}
use Rattle.fab_policy.specs.Journal.{Journal}
use Rattle.window_records.specs.Keeping.{IsAhead}
use Rattle.fab_policy.specs.Legal.{IsLeastOf, left_of, window_start, windows_left}
use Rattle.window_records.specs.Looks.{Stop}
use Rattle.pcap_file.specs.declared.Record.{Record}
use Rattle.fab_replay.specs.Front.{IsGatheredTo, expects_tick_at, has_left, is_at}
use Rattle.fab_replay.specs.Steps.{HoldSame}
use Rattle.fab_replay.proofs.ListLemmas.{none_below, none_any, or_first, or_then, both_true, and_not}

abbrev pub start_of : Settings → Record → ℕ
start_of c r = window_start c r.moment

from_all : (c : Settings) (w : ℕ) (records : List Record) → AreFrom c w records → list_all (λ m. leb w m) (map (start_of c) records) ≡ true
from_all c w [] h = refl
from_all c w (r ∷ records) h = both_true _ _ (le-leb w (start_of c r) h.0) (from_all c w records h.1)

-- each port has only records from a window on left
pub left_all : (c : Settings) (w p : ℕ) (ins : List (List Record)) (J : Journal) →
    ((q port : ℕ) (records : List Record) → slice_get ins q ≡ Some records → port ≡ p + q → AreFrom c w (left_of port records J)) →
    list_all (λ m. leb w m) (windows_left c p ins J) ≡ true
left_all c w p [] J h = refl
left_all c w p (records ∷ ins) J h =
    list_all-append (λ m. leb w m) (map (start_of c) (left_of p records J)) (windows_left c (p + 1) ins J)
    ∙ both_true _ _ (from_all c w (left_of p records J) (h 0 p records refl (let e : p ≡ p + 0 = omega arith in e)))
    (left_all c w (p + 1) ins J (λ q port rs at e. h (suc q) port rs at (let f : port ≡ p + suc q = omega (arith, e) in f)))

-- some port has one left whose window passes a test
pub left_some : (c : Settings) (test : ℕ → Bool) (p : ℕ) (ins : List (List Record)) (J : Journal) (q port : ℕ) (records : List Record) (r : Record) (more : List Record) →
    slice_get ins q ≡ Some records → port ≡ p + q → left_of port records J ≡ r ∷ more → test (start_of c r) ≡ true → list_any test (windows_left c p ins J) ≡ true
left_some c test p [] J q port records r more at e left is = absurd (cc)
left_some c test p (rs ∷ ins) J zero port records r more at e left is =
    let same : rs ≡ records = cc in
    let here : port ≡ p = omega (arith, e) in
    let own : left_of p rs J ≡ r ∷ more = ap (λ l. left_of p l J) same ∙ ap (λ (k : ℕ). left_of k records J) (sym here) ∙ left in
    list_any-append test (map (start_of c) (left_of p rs J)) (windows_left c (p + 1) ins J)
    ∙ or_first _ _ (ap (λ l. list_any test (map (start_of c) l)) own ∙ or_first _ _ is)
left_some c test p (rs ∷ ins) J (suc q) port records r more at e left is =
    list_any-append test (map (start_of c) (left_of p rs J)) (windows_left c (p + 1) ins J)
    ∙ or_then _ _ (left_some c test (p + 1) ins J q port records r more at (let f : port ≡ p + 1 + q = omega (arith, e) in f) left is)

-- no port has any left
pub left_none : (c : Settings) (p : ℕ) (ins : List (List Record)) (J : Journal) →
    ((q port : ℕ) (records : List Record) → slice_get ins q ≡ Some records → port ≡ p + q → left_of port records J ≡ []) → windows_left c p ins J ≡ []
left_none c p [] J h = refl
left_none c p (records ∷ ins) J h =
    ap (λ l. map (start_of c) l ++ windows_left c (p + 1) ins J) (h 0 p records refl (let e : p ≡ p + 0 = omega arith in e))
    ∙ left_none c (p + 1) ins J (λ q port rs at e. h (suc q) port rs at (let f : port ≡ p + suc q = omega (arith, e) in f))

-- journals with the same frames leave the same
pub left_same : (c : Settings) (p : ℕ) (ins : List (List Record)) (J K : Journal) → HoldSame J K → windows_left c p ins K ≡ windows_left c p ins J
left_same c p [] J K same = refl
left_same c p (records ∷ ins) J K same = λ j. map (start_of c) (drop (length (same p j)) records) ++ left_same c (p + 1) ins J K same j

-- ---- whether a tick is expected

below_at : (o : Option ℕ) (w : ℕ) (l : List ℕ) → IfSome o (λ t. t < w) → list_all (λ m. leb w m) l ≡ true → list_any (is_at o) l ≡ false
below_at None w l lt all = none_any l
below_at (Some t) w l lt all = none_below w t l all lt

-- some is, where some passes a test
pub any_of : (test : ℕ → Bool) (l : List ℕ) → list_any test l ≡ true → list_any (λ w. true) l ≡ true
any_of test [] h = absurd (cc)
any_of test (m ∷ l) h = refl

-- one is, on the way to the window of the next frames
pub tick_expected : (c : Settings) (o : Option ℕ) (ins : List (List Record)) (J : Journal) (w : ℕ) → IsLeastOf (windows_left c 1 ins J) w → IfSome o (λ t. t < w) → expects_tick_at o c ins J ≡ true
tick_expected c o ins J w least lt =
    both_true _ _ (any_of (λ m. eqb m w) (windows_left c 1 ins J) least.0) (ap not (below_at o w (windows_left c 1 ins J) lt least.1))

-- none is, where some frame of the clock's window is left
pub tick_unexpected : (c : Settings) (o : Option ℕ) (ins : List (List Record)) (J : Journal) → list_any (is_at o) (windows_left c 1 ins J) ≡ true → expects_tick_at o c ins J ≡ false
tick_unexpected c o ins J is = and_not (has_left c ins J) _ is

-- none is, where no frame is left
pub tick_never : (c : Settings) (o : Option ℕ) (ins : List (List Record)) (J : Journal) → windows_left c 1 ins J ≡ [] → (has_left c ins J ≡ false) × (expects_tick_at o c ins J ≡ false)
tick_never c o ins J none = (ap (list_any (λ w. true)) none, ap (λ l. list_any (λ w. true) l && not (list_any (is_at o) l)) none)

-- ---- windows that were gathered

-- that of the next frames was, where each stop comes behind it
pub gathered_next : (c : Settings) (ins : List (List Record)) (s : Option Stop) (J : Journal) (w : ℕ) → IsLeastOf (windows_left c 1 ins J) w → IsAhead (w + 1) s → IsGatheredTo c ins s J
gathered_next c ins None J w least ahead = tt
gathered_next c ins (Some s) J w least ahead = (w, least, ahead)

-- each was, where nothing stops
pub gathered_all : (c : Settings) (ins : List (List Record)) (s : Option Stop) (J : Journal) → s ≡ None → IsGatheredTo c ins s J
gathered_all c ins None J none = tt
gathered_all c ins (Some s) J none = absurd (cc)
