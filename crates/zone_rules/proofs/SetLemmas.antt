-- The rows of the zone sets.
use Rattle.std.proofs.Common.{◌≡◌, ℕ, zero, suc, ◌+◌, ◌<◌, ◌≤◌, List, [], ◌∷◌, ◌++◌, take, length, Bool, true, eqb, ◌||◌, Some, slice_get, Vec, sym, ◌∙◌, ap, arith}
use Rattle.std.specs.declared.alloc.Global.{Global}
use Rattle.std.proofs.lemmas.Bool.{ne_eqb}
use Rattle.fab_config.specs.declared.Zone.{Zone}
use Rattle.fab_config.specs.declared.ZoneSet.{ZoneSet}
use Rattle.zone_rules.specs.Joined.{contains, is_active}
use Rattle.sorted_lists.specs.Row.{has}
use Rattle.zone_rules.specs.Index.{AreRows, of_set, lists}
use Rattle.zone_rules.proofs.JoinLemmas.{take_slice, contains-push}
use Rattle.sorted_lists.proofs.RowLemmas.{has-none}

pub AreRows-push : (n : ℕ) (rows : List (Vec ℕ Global)) (sets : List ZoneSet) (r : Vec ℕ Global) (s : ZoneSet) → AreRows n rows sets → ((q : ℕ) → q < n → has r.items q ≡ contains q s.places) → AreRows n (rows ++ r ∷ []) (sets ++ s ∷ [])
AreRows-push n [] [] r s are is = (is, tt)
AreRows-push n [] (t ∷ sets) r s are is = absurd are
AreRows-push n (g ∷ rows) [] r s are is = absurd are
AreRows-push n (g ∷ rows) (t ∷ sets) r s are is = (are.0, AreRows-push n rows sets r s are.1 is)

-- a row says which zones are active
has-set : (n : ℕ) (rows : List (Vec ℕ Global)) (sets : List ZoneSet) → AreRows n rows sets → (set q : ℕ) → q < n → has (of_set rows set) q ≡ is_active sets (Some set) q
has-set n [] [] are set q lt = has-none q
has-set n [] (s ∷ sets) are set q lt = absurd are
has-set n (r ∷ rows) [] are set q lt = absurd are
has-set n (r ∷ rows) (s ∷ sets) are zero q lt = are.0 q lt
has-set n (r ∷ rows) (s ∷ sets) are (suc set) q lt = has-set n rows sets are.1 set q lt

lists_within : (x q : ℕ) (zones : List Zone) → lists x q zones ≡ true → q < length zones
lists_within x q [] e = absurd (cc)
lists_within x zero (z ∷ zones) e = omega arith
lists_within x (suc q) (z ∷ zones) e = let h = lists_within x q zones e in omega arith

pub has-active : (x : ℕ) (zones : List Zone) (rows : List (Vec ℕ Global)) (sets : List ZoneSet) (set q : ℕ) (row : List ℕ) → AreRows (length zones) rows sets → row ≡ of_set rows set → lists x q zones ≡ true → has row q ≡ is_active sets (Some set) q
has-active x zones rows sets set q row are is e = ap (λ r. has r q) is ∙ has-set (length zones) rows sets are set q (lists_within x q zones e)

-- a place more that stands in the row
pub place_in : (q i p : ℕ) (ps : List ℕ) (was now : Bool) → slice_get ps i ≡ Some p → was ≡ contains q (take i ps) → now ≡ (eqb p q || was) → now ≡ contains q (take (i + 1) ps)
place_in q i p ps was now e before is = is ∙ ap (λ b. eqb p q || b) before ∙ sym (ap (contains q) (take_slice ps i p e) ∙ contains-push q p (take i ps))

-- and one that no zone has
pub place_out : (n q i p : ℕ) (ps : List ℕ) (was : Bool) → slice_get ps i ≡ Some p → q < n → n ≤ p → was ≡ contains q (take i ps) → was ≡ contains q (take (i + 1) ps)
place_out n q i p ps was e lt le before = before ∙ sym (ap (contains q) (take_slice ps i p e) ∙ contains-push q p (take i ps) ∙ ap (λ b. b || contains q (take i ps)) (ne_eqb p q (λ h. omega arith)))
