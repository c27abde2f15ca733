-- Which places may be followed, by the first of each kind.
use Rattle.std.proofs.Common.{◌≡◌, ℕ, zero, suc, ◌+◌, ◌-◌, ◌*◌, ◌^◌, ◌<◌, ◌≤◌, ◌==◌, ◌||◌, ◌⊎◌, inl, inr, nat_lt, nat_le, is_none, Bool, true, false, cond, if◌then◌else◌, List, [], ◌∷◌, length, get_or, Option, Some, None, find, refl, sym, ◌∙◌, ap, subst, arith}
use mathlib.Core.Bool.{false≢true}
use Rattle.std.proofs.lemmas.Bool.Decides.{nat_tests}
use Rattle.fab_base.specs.Keyed.{item_at, AscendFrom}
use Rattle.fab_base.specs.Fabric.{may_have, QUARANTINE}
use Rattle.fab_base.proofs.SamenessLemmas.{found_passes}
use Rattle.sorted_lists.proofs.IndexLemmas.{none_some, some_same, equal, find_by_key, first_least, none_from, found-from}
use Rattle.sorted_lists.specs.Row.{has}
use Rattle.fc_addresses.specs.Holders.{may_follow, nobody, owner_by, release_by, owner_of, release_of, owner_number, end_number, owned_by, over_at, IsUnusedPlace, IsOneOf, IsKept}
use Rattle.fc_addresses.specs.declared.pool.Holder.{Holder}
use Rattle.fc_addresses.specs.declared.released.Owner.{Owner}
use Rattle.fc_addresses.specs.declared.released.Release.{Release}

none_true : (o : Option ℕ) → is_none o ≡ true → o ≡ None
none_true None e = refl
none_true (Some x) e = absurd (false≢true e)

-- what an entry says of its place
owner_says : (name now k : ℕ) (n e : Option ℕ) (o : Owner) → owner_by k n e ≡ Some o → (o.name == name) ≡ true → may_have name now n e ≡ true
owner_says name now k None e o is same = absurd (none_some o is)
owner_says name now k (Some x) None o is same = absurd (none_some o is)
owner_says name now k (Some x) (Some y) o is same =
    ap (λ b. b || nat_lt QUARANTINE (now - y)) (ap (λ (z : Owner). z.name == name) (some_same _ o is) ∙ same)

release_says : (name now k : ℕ) (n e : Option ℕ) (r : Release) → release_by k n e ≡ Some r → nat_lt QUARANTINE (now - r.end) ≡ true → may_have name now n e ≡ true
release_says name now k None e r is over = absurd (none_some r is)
release_says name now k (Some x) None r is over = absurd (none_some r is)
release_says name now k (Some x) (Some y) r is over =
    ap (λ b. (x == name) || b) (ap (λ (z : Release). nat_lt QUARANTINE (now - z.end)) (some_same _ r is) ∙ over) ∙ or_true (x == name)
  where
    or_true : (b : Bool) → (b || true) ≡ true
    or_true true = refl
    or_true false = refl

module _ {first : ℕ} {l : List Holder} {row : List ℕ} {owners : List Owner} {line : List Release} {m n : ℕ} (kept : IsKept first l row owners line m n) (name now : ℕ) where
  -- the place may be followed
  abbrev May : ℕ → Type 0
  May k = (k < length l) × (may_follow name now (get_or l k nobody) ≡ true)

  range : length l < 2 ^ 32
  range = go (length l) kept.range
    where
      go : (a : ℕ) → ((k : ℕ) → k < a → first + k < 0xFF0000) → a < 2 ^ 32
      go zero below = omega arith
      go (suc a) below = omega (arith, below a (omega arith))

  unused_may : (k : ℕ) → IsUnusedPlace row (length l) (Some k) → May k
  unused_may k is =
      (is.0, ap (λ (o : Option ℕ). may_have name now o (get_or l k nobody).ended) (none_true (get_or l k nobody).name (sym (kept.marked k nobody is.0) ∙ is.1)))

  owned_may : (k : ℕ) → owned_by name (find (λ o. nat_le (name * 2 ^ 32) (owner_number o)) owners) ≡ Some k → May k
  owned_may k is = go (find (λ o. nat_le (name * 2 ^ 32) (owner_number o)) owners) refl is
    where
      go : (o : Option Owner) → find (λ o. nat_le (name * 2 ^ 32) (owner_number o)) owners ≡ o → owned_by name o ≡ Some k → May k
      go None f e = absurd (none_some k e)
      go (Some o) f e = by (o.name == name) refl e
        where
          by : (b : Bool) → (o.name == name) ≡ b → (if b then Some o.place else None) ≡ Some k → May k
          by false other e = absurd (none_some k e)
          by true same e =
              let made = kept.are_owners.made (owner_number o) o (find_by_key owner_number _ 0 owners o kept.are_owners.ascending f) in
              subst May (some_same o.place k e) (made.0, owner_says name now o.place _ _ o made.1 same)

  over_may : (k : ℕ) → over_at now line ≡ Some k → May k
  over_may k is = go line refl is
    where
      here : (r : Release) (rest : List Release) → item_at end_number (end_number r) (r ∷ rest) ≡ Some r
      here r rest = ap (λ b. cond b (Some r) (item_at end_number (end_number r) rest)) (same (end_number r))
        where
          same : (a : ℕ) → (a == a) ≡ true
          same a = grind (arith, nat_tests)

      go : (rs : List Release) → line ≡ rs → over_at now rs ≡ Some k → May k
      go [] f e = absurd (none_some k e)
      go (r ∷ rest) f e = by (nat_lt QUARANTINE (now - r.end)) refl e
        where
          by : (b : Bool) → nat_lt QUARANTINE (now - r.end) ≡ b → (if b then Some r.place else None) ≡ Some k → May k
          by false other e = absurd (none_some k e)
          by true over e =
              let made = kept.are_releases.made (end_number r) r (ap (item_at end_number (end_number r)) f ∙ here r rest) in
              subst May (some_same r.place k e) (made.0, release_says name now r.place _ _ r made.1 over)

  -- one of the three is found where some place may be followed
  module _ (none : (k : ℕ) → k < length l → has row k ≡ false) (unowned : None ≡ owned_by name (find (λ o. nat_le (name * 2 ^ 32) (owner_number o)) owners)) (early : None ≡ over_at now line) where
    other_name : (k last end : ℕ) → k < length l → owner_of k (get_or l k nobody) ≡ Some (record { name = last; place = k }) → (last == name) ≡ false
    other_name k last end lt entry = go (last == name) refl
      where
        told : item_at owner_number (last * 2 ^ 32 + k) owners ≡ Some (record { name = last; place = k })
        told = kept.are_owners.told k (record { name = last; place = k }) lt entry

        owned : (o : Owner) → find (λ o. nat_le (name * 2 ^ 32) (owner_number o)) owners ≡ Some o → last ≡ name → ⊥
        owned o f same =
            let made = kept.are_owners.made (owner_number o) o (find_by_key owner_number _ 0 owners o kept.are_owners.ascending f) in
            let from : name * 2 ^ 32 ≤ owner_number o = is_from (owner_number o) (found_passes (λ z. nat_le (name * 2 ^ 32) (owner_number z)) o owners f) in
            let least = first_least owner_number (name * 2 ^ 32) 0 owners o kept.are_owners.ascending f (last * 2 ^ 32 + k) _ told (omega (arith, same)) in
            let named : o.name ≡ name = by_number o.name o.place last k from least made.0 lt same in
            none_some o.place (unowned ∙ ap (owned_by name) f ∙ ap (λ b. if b then Some o.place else None) (is_same o.name name named))
          where
            is_from : (a : ℕ) → nat_le (name * 2 ^ 32) a ≡ true → name * 2 ^ 32 ≤ a
            is_from a e = grind (arith, nat_tests)

            is_same : (a b : ℕ) → a ≡ b → (a == b) ≡ true
            is_same a b e = grind (arith, nat_tests)

            by_number : (a p b q : ℕ) → name * 2 ^ 32 ≤ a * 2 ^ 32 + p → a * 2 ^ 32 + p ≤ b * 2 ^ 32 + q → p < length l → q < length l → b ≡ name → a ≡ name
            by_number a p b q from least low also e = omega (arith, from, least, low, also, e, range)

        go : (b : Bool) → (last == name) ≡ b → b ≡ false
        go false e = refl
        go true e = absurd (by (find (λ o. nat_le (name * 2 ^ 32) (owner_number o)) owners) refl)
          where
            same : last ≡ name
            same = equal last name e

            by : (o : Option Owner) → find (λ o. nat_le (name * 2 ^ 32) (owner_number o)) owners ≡ o → ⊥
            by None f = absurd (omega (arith, same, none_from owner_number (name * 2 ^ 32) owners f (last * 2 ^ 32 + k) _ told))
            by (Some o) f = owned o f same

    still : (k end : ℕ) → k < length l → release_of k (get_or l k nobody) ≡ Some (record { end = end; place = k }) → nat_lt QUARANTINE (now - end) ≡ false
    still k end lt entry = go line refl (kept.are_releases.told k (record { end = end; place = k }) lt entry)
      where
        go : (rs : List Release) → line ≡ rs → item_at end_number (end * 2 ^ 32 + k) line ≡ Some (record { end = end; place = k }) → nat_lt QUARANTINE (now - end) ≡ false
        go [] f told = absurd (none_some _ (sym (ap (item_at end_number (end * 2 ^ 32 + k)) f) ∙ told))
        go (r ∷ rest) f told = by (nat_lt QUARANTINE (now - r.end)) refl
          where
            ascend : AscendFrom end_number (end_number r) (r ∷ rest)
            ascend = (omega arith, (subst (AscendFrom end_number 0) f kept.are_releases.ascending).1)

            least : end_number r ≤ end * 2 ^ 32 + k
            least = found-from end_number (end_number r) (end * 2 ^ 32 + k) (r ∷ rest) _ ascend (sym (ap (item_at end_number (end * 2 ^ 32 + k)) f) ∙ told)

            sooner : (a p : ℕ) → a * 2 ^ 32 + p ≤ end * 2 ^ 32 + k → nat_lt QUARANTINE (now - a) ≡ false → nat_lt QUARANTINE (now - end) ≡ false
            sooner a p le e =
                let before : a ≤ end = omega (arith, le, lt, range) in
                grind (arith, nat_tests, before)

            by : (b : Bool) → nat_lt QUARANTINE (now - r.end) ≡ b → nat_lt QUARANTINE (now - end) ≡ false
            by true over = absurd (none_some r.place (early ∙ ap (over_at now) f ∙ ap (λ b. if b then Some r.place else None) over))
            by false e = sooner r.end r.place least e

    pub none_may : (k : ℕ) → k < length l → may_follow name now (get_or l k nobody) ≡ false
    none_may k lt = go (get_or l k nobody).name (get_or l k nobody).ended refl refl
      where
        go : (x e : Option ℕ) → (get_or l k nobody).name ≡ x → (get_or l k nobody).ended ≡ e → may_follow name now (get_or l k nobody) ≡ false
        go None e is ends = absurd (false≢true (sym (none k lt) ∙ kept.marked k nobody lt ∙ ap is_none is))
        go (Some x) None is ends = ap (λ (a : Option ℕ). may_have name now a (get_or l k nobody).ended) is ∙ ap (may_have name now (Some x)) ends
        go (Some x) (Some y) is ends =
            ap (λ (a : Option ℕ). may_have name now a (get_or l k nobody).ended) is ∙ ap (may_have name now (Some x)) ends
            ∙ ap (λ b. b || nat_lt QUARANTINE (now - y)) (other_name k x y lt (ap (λ (a : Option ℕ). owner_by k a (get_or l k nobody).ended) is ∙ ap (owner_by k (Some x)) ends))
            ∙ still k y lt (ap (λ (a : Option ℕ). release_by k a (get_or l k nobody).ended) is ∙ ap (release_by k (Some x)) ends)

  -- ---- the least of the three

  -- an answer may be followed
  pub some_may : (u o v w : Option ℕ) (k : ℕ) → IsUnusedPlace row (length l) u → o ≡ owned_by name (find (λ o. nat_le (name * 2 ^ 32) (owner_number o)) owners) → v ≡ over_at now line
      → IsOneOf o v w → IsOneOf u w (Some k) → May k
  some_may u o v w k unused owned over inner outer = go outer
    where
      go : (u ≡ Some k) ⊎ (w ≡ Some k) → May k
      go (inl e) = unused_may k (subst (IsUnusedPlace row (length l)) e unused)
      go (inr e) = by (subst (IsOneOf o v) e inner)
        where
          by : (o ≡ Some k) ⊎ (v ≡ Some k) → May k
          by (inl f) = owned_may k (sym owned ∙ f)
          by (inr f) = over_may k (sym over ∙ f)

  -- where there is none no place may be followed
  pub no_may : (u o v w : Option ℕ) → IsUnusedPlace row (length l) u → o ≡ owned_by name (find (λ o. nat_le (name * 2 ^ 32) (owner_number o)) owners) → v ≡ over_at now line
      → IsOneOf o v w → IsOneOf u w None → (k : ℕ) → k < length l → may_follow name now (get_or l k nobody) ≡ false
  no_may u o v w unused owned over inner outer =
      let both = subst (IsOneOf o v) outer.1 inner in
      none_may (subst (IsUnusedPlace row (length l)) outer.0 unused) (sym both.0 ∙ owned) (sym both.1 ∙ over)
