-- A place is put into a list of places, or taken out, where a search by number found it.
use Rattle.std.proofs.Common.{◌≡◌, ◌≢◌, ℕ, zero, suc, ◌+◌, ◌<◌, ◌≤◌, ◌==◌, ◌||◌, ◌&&◌, Bool, true, false, cond, List, [], ◌∷◌, length, get_or, drop, find, position, unwrap_or, slice_get, Some, None, IsSome, IsTrue, nat_lt, nat_le, inl, inr, refl, sym, ◌∙◌, ap, subst, arith}
use Rattle.std.specs.List.{insert, remove, position_or_len}
use Rattle.std.proofs.lemmas.Bool.{cases_eq, le-leb}
use Rattle.std.proofs.lemmas.Bool.Decides.{nat_tests}
use Rattle.std.proofs.lemmas.List.Edits.{length-insert, length-remove}
use Rattle.std.proofs.lemmas.List.Folds.{find_at, list_any_at}
use Rattle.std.proofs.lemmas.Option.{slice_get-get_or, slice_get_past}
use Rattle.slab.specs.Slab.{Slab, get}
use Rattle.fab_base.specs.Keyed.{item_at, AscendFrom, added, without}
use Rattle.fab_base.proofs.KeyedLemmas as keyed
use Rattle.fab_base.proofs.SamenessLemmas.{unwrap_or-position, position_or_len-here, position_or_len-later}
use Rattle.sorted_lists.specs.Orders.{seen, is_among, AreThere, AreSorted, IsOrder, IsOrderBut}
use Rattle.sorted_lists.proofs.IndexLemmas.{none_some, some_same, equal, unequal, differs}
use Rattle.sorted_lists.proofs.OrderLemmas.{or_left, or_right, itself, some_is, is_some_of, length-seen, seen-drop, seen-at, seen-head, among-from, absent-item}
use Rattle.sorted_lists.specs.Reach.{place_of}
use Rattle.sorted_lists.proofs.SearchLemmas.{position-there, position-past, position-other, place-within, find-from}

among_at : (places : List ℕ) (i : ℕ) → i < length places → IsTrue (is_among (get_or places i 0) places)
among_at places i within = list_any_at (λ q. q == get_or places i 0) places i 0 within (itself (get_or places i 0))

among-put : (p : ℕ) (places : List ℕ) (i : ℕ) → i ≤ length places → IsTrue (is_among p (insert places i p))
among-put p [] zero within = or_left (p == p) false (itself p)
among-put p [] (suc i) within = absurd (omega (arith, within))
among-put p (q ∷ qs) zero within = or_left (p == p) (is_among p (q ∷ qs)) (itself p)
among-put p (q ∷ qs) (suc i) within = or_right (q == p) (is_among p (insert qs i p)) (among-put p qs i (omega (arith, within)))

among-kept : (r p : ℕ) (places : List ℕ) (i : ℕ) → IsTrue (is_among r places) → IsTrue (is_among r (insert places i p))
among-kept r p [] i among = absurd (cc)
among-kept r p (q ∷ qs) zero among = or_right (p == r) (is_among r (q ∷ qs)) among
among-kept r p (q ∷ qs) (suc i) among = go (q == r) among (among-kept r p qs i)
  where
    go : (b : Bool) → (b || is_among r qs) ≡ true → (IsTrue (is_among r qs) → IsTrue (is_among r (insert qs i p))) → (b || is_among r (insert qs i p)) ≡ true
    go true this later = refl
    go false this later = later this

among-left : (r : ℕ) (places : List ℕ) (i : ℕ) → i < length places → r ≢ get_or places i 0 → IsTrue (is_among r places) → IsTrue (is_among r (remove places i))
among-left r [] i within other among = absurd (cc)
among-left r (q ∷ qs) zero within other among = subst (λ b. (b || is_among r qs) ≡ true) (differs q r (λ e. other (sym e))) among
among-left r (q ∷ qs) (suc i) within other among = go (q == r) among (among-left r qs i (omega (arith, within)) other)
  where
    go : (b : Bool) → (b || is_among r qs) ≡ true → (IsTrue (is_among r qs) → IsTrue (is_among r (remove qs i))) → (b || is_among r (remove qs i)) ≡ true
    go true this later = refl
    go false this later = later this

module _ {T : Type 0} (slab : Slab T) where
  seen-insert : (p : ℕ) (x : T) (places : List ℕ) (i : ℕ) → get slab p ≡ Some x → AreThere slab places → i ≤ length places → seen slab (insert places i p) ≡ insert (seen slab places) i x
  seen-insert p x [] zero here there within = seen-head slab p [] x here
  seen-insert p x [] (suc i) here there within = absurd (omega (arith, within))
  seen-insert p x (q ∷ qs) zero here there within =
      let (y, is) = some_is (get slab q) there.0 in
      let head = seen-head slab q qs y is in
      seen-head slab p (q ∷ qs) x here ∙ ap (λ l. x ∷ l) head ∙ ap (λ l. insert l 0 x) (sym head)
  seen-insert p x (q ∷ qs) (suc i) here there within =
      let (y, is) = some_is (get slab q) there.0 in
      seen-head slab q (insert qs i p) y is
      ∙ ap (λ l. y ∷ l) (seen-insert p x qs i here there.1 (omega (arith, within)))
      ∙ ap (λ l. insert l (suc i) x) (sym (seen-head slab q qs y is))

  there-insert : (p : ℕ) (places : List ℕ) (i : ℕ) → IsSome (get slab p) → AreThere slab places → AreThere slab (insert places i p)
  there-insert p [] zero here there = (here, tt)
  there-insert p [] (suc i) here there = (here, tt)
  there-insert p (q ∷ qs) zero here there = (here, there)
  there-insert p (q ∷ qs) (suc i) here there = (there.0, there-insert p qs i here there.1)

  seen-remove : (places : List ℕ) (i : ℕ) → AreThere slab places → i < length places → seen slab (remove places i) ≡ remove (seen slab places) i
  seen-remove [] i there within = absurd (omega (arith, within))
  seen-remove (q ∷ qs) zero there within =
      let (y, is) = some_is (get slab q) there.0 in
      ap (λ l. remove l 0) (sym (seen-head slab q qs y is))
  seen-remove (q ∷ qs) (suc i) there within =
      let (y, is) = some_is (get slab q) there.0 in
      seen-head slab q (remove qs i) y is
      ∙ ap (λ l. y ∷ l) (seen-remove qs i there.1 (omega (arith, within)))
      ∙ ap (λ l. remove l (suc i)) (sym (seen-head slab q qs y is))

  there-remove : (places : List ℕ) (i : ℕ) → AreThere slab places → AreThere slab (remove places i)
  there-remove [] zero there = tt
  there-remove [] (suc i) there = tt
  there-remove (q ∷ qs) zero there = there.1
  there-remove (q ∷ qs) (suc i) there = (there.0, there-remove qs i there.1)

module _ {T : Type 0} (key : T → ℕ) where
  -- where no record has the number, the first that isn't below it is above it
  first-above : (a : ℕ) (xs : List T) → item_at key a xs ≡ None → position_or_len (λ x. nat_lt a (key x)) xs ≡ place_of key a xs
  first-above a [] none = refl
  first-above a (x ∷ xs) none = go (key x == a) refl none (first-above a xs)
    where
      go : (b : Bool) → (key x == a) ≡ b → cond b (Some x) (item_at key a xs) ≡ None → (item_at key a xs ≡ None → position_or_len (λ y. nat_lt a (key y)) xs ≡ place_of key a xs)
          → position_or_len (λ y. nat_lt a (key y)) (x ∷ xs) ≡ place_of key a (x ∷ xs)
      go true this gone later = absurd (none_some x (sym gone))
      go false other gone later = by (nat_lt a (key x)) refl (later gone)
        where
          ne : key x ≢ a
          ne = unequal (key x) a other

          by : (b : Bool) → nat_lt a (key x) ≡ b → position_or_len (λ y. nat_lt a (key y)) xs ≡ place_of key a xs → position_or_len (λ y. nat_lt a (key y)) (x ∷ xs) ≡ place_of key a (x ∷ xs)
          by true above rest = position_or_len-here (λ y. nat_lt a (key y)) x xs above ∙ sym (position_or_len-here (λ y. nat_le a (key y)) x xs (grind (arith, nat_tests)))
          by false below rest =
              position_or_len-later (λ y. nat_lt a (key y)) x xs below ∙ ap (λ (n : ℕ). suc n) rest
              ∙ sym (position_or_len-later (λ y. nat_le a (key y)) x xs (grind (arith, nat_tests, ne)))

  module _ (slab : Slab T) (places shown : List ℕ) (from n start : ℕ) (there : AreThere slab places) (same : shown ≡ places) (is : from ≡ n)
      (search : start ≡ unwrap_or (position (λ x. nat_le from (key x)) (seen slab shown)) (length shown)) where
    -- what a search found
    pub start-is : start ≡ place_of key n (seen slab places)
    start-is =
        search
        ∙ ap (λ (l : List ℕ). unwrap_or (position (λ x. nat_le from (key x)) (seen slab l)) (length l)) same
        ∙ ap (λ (m : ℕ). unwrap_or (position (λ x. nat_le from (key x)) (seen slab places)) m) (sym (length-seen slab places there))
        ∙ unwrap_or-position (λ x. nat_le from (key x)) (seen slab places)
        ∙ ap (λ (m : ℕ). place_of key m (seen slab places)) is

    pub next-there : (x : T) → start < length places → get slab (get_or places start 0) ≡ Some x → Some x ≡ find (λ y. nat_le n (key y)) (seen slab places)
    next-there x within here =
        let xs = seen slab places in
        ap (λ y. Some y) (sym (seen-at slab places start x x there within here))
        ∙ sym (slice_get-get_or xs start x (omega (arith, within, length-seen slab places there)))
        ∙ ap (λ (m : ℕ). slice_get xs m) start-is ∙ sym (find_at (λ y. nat_le n (key y)) xs)

    pub next-none : length places ≤ start → None ≡ find (λ y. nat_le n (key y)) (seen slab places)
    next-none past =
        let xs = seen slab places in
        sym (slice_get_past xs start (omega (arith, past, length-seen slab places there)))
        ∙ ap (λ (m : ℕ). slice_get xs m) start-is ∙ sym (find_at (λ y. nat_le n (key y)) xs)

    -- the first that passes from a bound on is the first behind its place
    pub find-behind : (q : T → Bool) → AscendFrom key 0 (seen slab places) → find q (seen slab (drop start places)) ≡ find (λ x. nat_le n (key x) && q x) (seen slab places)
    find-behind q ascend =
        ap (find q) (seen-drop slab places start there ∙ ap (λ (m : ℕ). drop m (seen slab places)) start-is) ∙ find-from key q n 0 (seen slab places) ascend

    pub item-there : (x : T) → AscendFrom key 0 (seen slab places) → start < length places → get slab (get_or places start 0) ≡ Some x → key x ≡ n → get slab (get_or places start 0) ≡ item_at key n (seen slab places)
    item-there x ascend within here this =
        here ∙ sym (ap (λ (m : ℕ). item_at key m (seen slab places)) (sym this) ∙ among-from key slab (get_or places start 0) x 0 places here there ascend (among_at places start within))

    pub item-other : (x : T) → AscendFrom key 0 (seen slab places) → start < length places → get slab (get_or places start 0) ≡ Some x → key x ≢ n → item_at key n (seen slab places) ≡ None
    item-other x ascend within here other =
        let xs = seen slab places in
        let at = seen-at slab places start x x there within here in
        keyed.item_at-not_found key n xs xs None
        (position-other key n 0 start xs x ascend start-is (omega (arith, within, length-seen slab places there)) (ap (λ y. key y == n) at ∙ differs (key x) n other)) refl refl

    pub item-past : AscendFrom key 0 (seen slab places) → start ≡ length places → item_at key n (seen slab places) ≡ None
    item-past ascend end =
        let xs = seen slab places in
        keyed.item_at-not_found key n xs xs None (position-past key n 0 start xs ascend start-is (end ∙ sym (length-seen slab places there))) refl refl

  -- ---- a place more

  module _ (slab : Slab T) (p : ℕ) (x : T) (places new : List ℕ) (start : ℕ) (order : IsOrderBut key p slab places) (here : get slab p ≡ Some x) (none : item_at key (key x) (seen slab places) ≡ None)
      (at : start ≡ place_of key (key x) (seen slab places)) (put : new ≡ insert places start p) where
    within : start ≤ length places
    within = omega (arith, at, place-within key (key x) (seen slab places), length-seen slab places order.sorted.there)

    pub seen-put : seen slab new ≡ added key x (seen slab places)
    seen-put =
        ap (seen slab) put
        ∙ seen-insert slab p x places start here order.sorted.there within
        ∙ ap (λ (n : ℕ). insert (seen slab places) n x) (at ∙ sym (first-above (key x) (seen slab places) none))
        ∙ keyed.insert-added key x 0 (seen slab places) order.sorted.ascending none

    pub IsOrder-put : IsOrder key slab new
    IsOrder-put = record {
      sorted = record {
        there = subst (AreThere slab) (sym put) (there-insert slab p places start order.here order.sorted.there);
        ascending = subst (AscendFrom key 0) (sym seen-put) (keyed.AscendFrom-added key x 0 (seen slab places) order.sorted.ascending (omega arith));
      };
      covers = λ q some. subst (λ (l : List ℕ). IsTrue (is_among q l)) (sym put) (elim (cases_eq q p) [
        | inl this ↦ subst (λ (r : ℕ). IsTrue (is_among r (insert places start p))) (sym this) (among-put p places start within)
        | inr other ↦ among-kept q p places start (order.covers q other some)
      ]);
      count = ap (λ (l : List ℕ). length l) put ∙ length-insert places start p within ∙ order.count;
    }

  -- ---- a place less

  -- a search for the number of a record finds its place
  place-among : (slab : Slab T) (p : ℕ) (x : T) (k : ℕ) (places : List ℕ) → get slab p ≡ Some x → AreThere slab places → AscendFrom key k (seen slab places) → IsTrue (is_among p places)
      → (place_of key (key x) (seen slab places) < length places) × (get_or places (place_of key (key x) (seen slab places)) 0 ≡ p)
  place-among slab p x k [] here there ascend among = absurd (cc)
  place-among slab p x k (q ∷ qs) here there ascend among =
      let (y, is) = some_is (get slab q) there.0 in
      let first = subst (AscendFrom key k) (seen-head slab q qs y is) ascend in
      subst (λ (l : List T). (place_of key (key x) l < suc (length qs)) × (get_or (q ∷ qs) (place_of key (key x) l) 0 ≡ p)) (sym (seen-head slab q qs y is))
      (go y is first.1 (q == p) refl among (λ l. place-among slab p x (key y + 1) qs here there.1 first.1 l))
    where
      go : (y : T) → get slab q ≡ Some y → AscendFrom key (key y + 1) (seen slab qs) → (b : Bool) → (q == p) ≡ b → (b || is_among p qs) ≡ true
          → (IsTrue (is_among p qs) → (place_of key (key x) (seen slab qs) < length qs) × (get_or qs (place_of key (key x) (seen slab qs)) 0 ≡ p))
          → (place_of key (key x) (y ∷ seen slab qs) < suc (length qs)) × (get_or (q ∷ qs) (place_of key (key x) (y ∷ seen slab qs)) 0 ≡ p)
      go y is behind true this l later =
          let e : key y ≡ key x = ap key (some_same y x (sym is ∙ ap (get slab) (equal q p this) ∙ here)) in
          let first = position_or_len-here (λ z. nat_le (key x) (key z)) y (seen slab qs) (le-leb (key x) (key y) (omega (arith, e))) in
          (omega (arith, first), ap (λ (n : ℕ). get_or (q ∷ qs) n 0) first ∙ equal q p this)
      go y is behind false other l later =
          let (within, found) = later l in
          let next = position_or_len-later (λ z. nat_le (key x) (key z)) y (seen slab qs) (below l) in
          (omega (arith, next, within), ap (λ (n : ℕ). get_or (q ∷ qs) n 0) next ∙ found)
        where
          below : IsTrue (is_among p qs) → nat_le (key x) (key y) ≡ false
          below m = by (nat_le (key x) (key y)) refl
            where
              by : (b : Bool) → nat_le (key x) (key y) ≡ b → b ≡ false
              by false e = refl
              by true e = absurd (none_some x (sym (keyed.item_at-below key (key x) (key y + 1) (seen slab qs) behind (grind (arith, nat_tests, e))) ∙ among-from key slab p x (key y + 1) qs here there.1 behind m))

  module _ (slab : Slab T) (p : ℕ) (x : T) (places new : List ℕ) (start : ℕ) (order : IsOrder key slab places) (here : get slab p ≡ Some x)
      (at : start ≡ place_of key (key x) (seen slab places)) where
    taken-at : (start < length places) × (get_or places start 0 ≡ p)
    taken-at = subst (λ (n : ℕ). (n < length places) × (get_or places n 0 ≡ p)) (sym at) (place-among slab p x 0 places here order.sorted.there order.sorted.ascending (order.covers p (is_some_of (get slab p) x here)))

    pub taken-within : start < length places
    taken-within = taken-at.0

    module _ (take : new ≡ remove places start) where
      pub seen-taken : seen slab new ≡ without key (key x) (seen slab places)
      seen-taken =
          let xs = seen slab places in
          let found = seen-at slab places start x x order.sorted.there taken-at.0 (ap (get slab) taken-at.1 ∙ here) in
          let position = position-there key (key x) 0 start xs x order.sorted.ascending at (omega (arith, taken-at.0, length-seen slab places order.sorted.there)) (ap (λ y. key y == key x) found ∙ itself (key x)) in
          ap (seen slab) take
          ∙ seen-remove slab places start order.sorted.there taken-at.0
          ∙ (keyed.IsPlace-found key (key x) 0 xs xs (Some start) start order.sorted.ascending position refl refl).removal

      pub IsOrderBut-taken : IsOrderBut key p slab new
      IsOrderBut-taken = record {
        sorted = sorted;
        here = is_some_of (get slab p) x here;
        absent = absent-item key slab p new x sorted.there here (ap (item_at key (key x)) seen-taken ∙ keyed.item_at-without key (key x) (key x) (seen slab places) ∙ ap (λ b. cond b None (item_at key (key x) (seen slab places))) (itself (key x)));
        covers = λ q other some. subst (λ (l : List ℕ). IsTrue (is_among q l)) (sym take) (among-left q places start taken-at.0 (λ e. other (e ∙ taken-at.1)) (order.covers q some));
        count = ap (λ (l : List ℕ). length l + 1) take ∙ length-remove places start taken-at.0 ∙ order.count;
      }
        where
          sorted : AreSorted key slab new
          sorted = record {
            there = subst (AreThere slab) (sym take) (there-remove slab places start order.sorted.there);
            ascending = subst (AscendFrom key 0) (sym seen-taken) (keyed.AscendFrom-filter key _ 0 (seen slab places) order.sorted.ascending);
          }
