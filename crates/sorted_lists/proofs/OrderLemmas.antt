-- The records at a list of places, after a record is put in, changed, or taken out.
use Rattle.std.proofs.Common.{◌≡◌, ℕ, zero, suc, ◌+◌, ◌<◌, ◌==◌, ◌||◌, Bool, true, false, cond, if◌then◌else◌, List, [], ◌∷◌, length, get_or, drop, count_by, Option, Some, None, is_some, IsSome, IsTrue, inl, inr, refl, sym, ◌∙◌, ap, subst, arith}
use Rattle.std.specs.List.{cons_option}
use Rattle.std.proofs.lemmas.Bool.{cases_eq}
use Rattle.std.proofs.lemmas.Bool.Decides.{nat_tests}
use Rattle.std.proofs.lemmas.List.Sums.{sum_by-set}
use Rattle.slab.specs.Slab.{Slab, get, slab_len, Updates, with_value}
use Rattle.slab.proofs.SlabLemmas.{ContainsKey-within}
use Rattle.fab_base.specs.Keyed.{item_at, AscendFrom, changed, changed_if}
use Rattle.fab_base.proofs.KeyedLemmas as keyed
use Rattle.sorted_lists.specs.Index.{IsIndex}
use Rattle.sorted_lists.specs.Orders.{seen, is_among, AreThere, AreSorted, IsOrder, IsOrderBut}
use Rattle.sorted_lists.proofs.IndexLemmas.{none_some, some_same, equal, unequal, differs, key_found}

pub or_left : (a b : Bool) → a ≡ true → (a || b) ≡ true
or_left true b e = refl
or_left false b e = absurd (cc)

pub or_right : (a b : Bool) → b ≡ true → (a || b) ≡ true
or_right true b e = refl
or_right false b e = e

pub itself : (n : ℕ) → (n == n) ≡ true
itself n = grind (arith, nat_tests)

or_parts : (a b : Bool) → (a || b) ≡ false → (a ≡ false) × (b ≡ false)
or_parts false b e = (refl, e)
or_parts true b e = absurd (cc)

pub some_is : {X : Type 0} (o : Option X) → IsSome o → (x : X) × (o ≡ Some x)
some_is None some = absurd (cc)
some_is (Some x) some = (x, refl)

none_is : {X : Type 0} (o : Option X) → IsSome o → o ≡ None → ⊥
none_is None some none = absurd (cc)
none_is (Some x) some none = none_some x (sym none)

pub is_some_of : {X : Type 0} (o : Option X) (x : X) → o ≡ Some x → IsSome o
is_some_of o x e = ap is_some e

module _ {T : Type 0} where
  -- ---- what is seen

  -- a vacant place isn't among those that have a record
  pub absent-vacant : (slab : Slab T) (p : ℕ) (places : List ℕ) → get slab p ≡ None → AreThere slab places → is_among p places ≡ false
  absent-vacant slab p [] vacant there = refl
  absent-vacant slab p (q ∷ qs) vacant there = go (q == p) refl (absent-vacant slab p qs vacant there.1)
    where
      go : (b : Bool) → (q == p) ≡ b → is_among p qs ≡ false → (b || is_among p qs) ≡ false
      go true same others = absurd (none_is (get slab q) there.0 (ap (get slab) (equal q p same) ∙ vacant))
      go false other others = others

  -- a change at another place isn't seen
  pub seen-updates : (old new : Slab T) (p : ℕ) (slot : Option T) (places : List ℕ) → Updates old new p slot → is_among p places ≡ false → seen new places ≡ seen old places
  seen-updates old new p slot [] updates absent = refl
  seen-updates old new p slot (q ∷ qs) updates absent =
      let parts = or_parts (q == p) (is_among p qs) absent in
      ap (λ o. cons_option o (seen new qs)) (updates.others q (unequal q p parts.0)) ∙ ap (cons_option (get old q)) (seen-updates old new p slot qs updates parts.1)

  pub there-updates : (old new : Slab T) (p : ℕ) (slot : Option T) (places : List ℕ) → Updates old new p slot → is_among p places ≡ false → AreThere old places → AreThere new places
  there-updates old new p slot [] updates absent there = tt
  there-updates old new p slot (q ∷ qs) updates absent there =
      let parts = or_parts (q == p) (is_among p qs) absent in
      (subst IsSome (sym (updates.others q (unequal q p parts.0))) there.0, there-updates old new p slot qs updates parts.1 there.1)

  pub length-seen : (slab : Slab T) (places : List ℕ) → AreThere slab places → length (seen slab places) ≡ length places
  length-seen slab [] there = refl
  length-seen slab (q ∷ qs) there =
      let here = some_is (get slab q) there.0 in
      ap (λ o. length (cons_option o (seen slab qs))) here.1 ∙ ap (λ (n : ℕ). suc n) (length-seen slab qs there.1)

  pub seen-head : (slab : Slab T) (q : ℕ) (qs : List ℕ) (x : T) → get slab q ≡ Some x → seen slab (q ∷ qs) ≡ x ∷ seen slab qs
  seen-head slab q qs x here = ap (λ o. cons_option o (seen slab qs)) here

  -- the record at a place of the list
  pub some-at : (slab : Slab T) (places : List ℕ) (i : ℕ) → AreThere slab places → i < length places → IsSome (get slab (get_or places i 0))
  some-at slab [] i there within = absurd (omega (arith, within))
  some-at slab (q ∷ qs) zero there within = there.0
  some-at slab (q ∷ qs) (suc i) there within = some-at slab qs i there.1 (omega (arith, within))

  pub seen-at : (slab : Slab T) (places : List ℕ) (i : ℕ) (x d : T) → AreThere slab places → i < length places → get slab (get_or places i 0) ≡ Some x → get_or (seen slab places) i d ≡ x
  seen-at slab [] i x d there within is = absurd (omega (arith, within))
  seen-at slab (q ∷ qs) zero x d there within is = ap (λ o. get_or (cons_option o (seen slab qs)) 0 d) is
  seen-at slab (q ∷ qs) (suc i) x d there within is =
      let (y, here) = some_is (get slab q) there.0 in
      ap (λ o. get_or (cons_option o (seen slab qs)) (suc i) d) here ∙ seen-at slab qs i x d there.1 (omega (arith, within)) is

  -- the records behind a place of the list
  pub seen-drop : (slab : Slab T) (places : List ℕ) (i : ℕ) → AreThere slab places → seen slab (drop i places) ≡ drop i (seen slab places)
  seen-drop slab [] zero there = refl
  seen-drop slab [] (suc i) there = refl
  seen-drop slab (q ∷ qs) zero there =
      let (y, here) = some_is (get slab q) there.0 in
      seen-head slab q qs y here ∙ ap (λ l. drop 0 l) (sym (seen-head slab q qs y here))
  seen-drop slab (q ∷ qs) (suc i) there =
      let (y, here) = some_is (get slab q) there.0 in
      seen-drop slab qs i there.1 ∙ ap (λ l. drop (suc i) l) (sym (seen-head slab q qs y here))

  -- a record written in the place of one
  pub slab_len-with_value : (slab : Slab T) (p : ℕ) (x y : T) → get slab p ≡ Some x → slab_len (with_value slab p y) ≡ slab_len slab
  slab_len-with_value slab p x y is =
      let within = ContainsKey-within slab p (is_some_of (get slab p) x is) in
      let sum = sum_by-set (λ (o : Option T). cond (is_some o) 1 0) slab.slots p (Some y) None within in
      let had = ap {B = ℕ} (λ (o : Option T). cond (is_some o) 1 0) is in
      omega (arith, sum, had)

module _ {T : Type 0} (key : T → ℕ) where
  -- what is found has a place
  pub found-place : (slab : Slab T) (places : List ℕ) (n : ℕ) (x : T) → AreThere slab places → item_at key n (seen slab places) ≡ Some x → (p : ℕ) × (get slab p ≡ Some x) × IsTrue (is_among p places)
  found-place slab [] n x there found = absurd (none_some x found)
  found-place slab (q ∷ qs) n x there found = go (get slab q) refl there.0 found (found-place slab qs n x there.1)
    where
      go : (o : Option T) → get slab q ≡ o → IsSome o → item_at key n (cons_option o (seen slab qs)) ≡ Some x → (item_at key n (seen slab qs) ≡ Some x → (p : ℕ) × (get slab p ≡ Some x) × IsTrue (is_among p qs))
          → (p : ℕ) × (get slab p ≡ Some x) × IsTrue (is_among p (q ∷ qs))
      go None here some first later = absurd (cc)
      go (Some y) here some first later = by (key y == n) first
        where
          by : (b : Bool) → cond b (Some y) (item_at key n (seen slab qs)) ≡ Some x → (p : ℕ) × (get slab p ≡ Some x) × IsTrue (is_among p (q ∷ qs))
          by true this = (q, here ∙ this, or_left (q == q) (is_among q qs) (itself q))
          by false other = let (p, there, among) = later other in (p, there, or_right (q == p) (is_among p qs) among)

  pub among-from : (slab : Slab T) (p : ℕ) (x : T) (k : ℕ) (places : List ℕ) → get slab p ≡ Some x → AreThere slab places → AscendFrom key k (seen slab places) → IsTrue (is_among p places) → item_at key (key x) (seen slab places) ≡ Some x
  among-from slab p x k [] here there ascend among = absurd (cc)
  among-from slab p x k (q ∷ qs) here there ascend among =
      let (y, is) = some_is (get slab q) there.0 in
      let first = subst (AscendFrom key k) (seen-head slab q qs y is) ascend in
      ap (item_at key (key x)) (seen-head slab q qs y is) ∙ go y is first.1 (q == p) refl among (λ l. among-from slab p x (key y + 1) qs here there.1 first.1 l)
    where
      go : (y : T) → get slab q ≡ Some y → AscendFrom key (key y + 1) (seen slab qs) → (b : Bool) → (q == p) ≡ b → (b || is_among p qs) ≡ true → (IsTrue (is_among p qs) → item_at key (key x) (seen slab qs) ≡ Some x)
          → item_at key (key x) (y ∷ seen slab qs) ≡ Some x
      go y is behind true same this later =
          let e : y ≡ x = some_same y x (sym is ∙ ap (get slab) (equal q p same) ∙ here) in
          ap (λ z. cond (key z == key x) (Some z) (item_at key (key x) (seen slab qs))) e ∙ ap (λ b. cond b (Some x) (item_at key (key x) (seen slab qs))) (itself (key x))
      go y is behind false other this later = by (key y == key x) refl (later this)
        where
          by : (b : Bool) → (key y == key x) ≡ b → item_at key (key x) (seen slab qs) ≡ Some x → cond b (Some y) (item_at key (key x) (seen slab qs)) ≡ Some x
          by true alike found = absurd (none_some x (sym (keyed.item_at-below key (key x) (key y + 1) (seen slab qs) behind (omega (arith, equal (key y) (key x) alike))) ∙ found))
          by false apart found = found

  -- a record whose place is among them is found
  pub item-among : (slab : Slab T) (p : ℕ) (places : List ℕ) (x : T) → AreSorted key slab places → get slab p ≡ Some x → IsTrue (is_among p places) → item_at key (key x) (seen slab places) ≡ Some x
  item-among slab p places x sorted here among = among-from slab p x 0 places here sorted.there sorted.ascending among

  -- a place whose record's number isn't found isn't among them
  pub absent-item : (slab : Slab T) (p : ℕ) (places : List ℕ) (x : T) → AreThere slab places → get slab p ≡ Some x → item_at key (key x) (seen slab places) ≡ None → is_among p places ≡ false
  absent-item slab p [] x there here none = refl
  absent-item slab p (q ∷ qs) x there here none = go (get slab q) refl there.0 none (absent-item slab p qs x there.1 here)
    where
      go : (o : Option T) → get slab q ≡ o → IsSome o → item_at key (key x) (cons_option o (seen slab qs)) ≡ None → (item_at key (key x) (seen slab qs) ≡ None → is_among p qs ≡ false) → (q == p || is_among p qs) ≡ false
      go None is some first later = absurd (cc)
      go (Some y) is some first later = by (key y == key x) refl first
        where
          by : (b : Bool) → (key y == key x) ≡ b → cond b (Some y) (item_at key (key x) (seen slab qs)) ≡ None → (q == p || is_among p qs) ≡ false
          by true alike gone = absurd (none_some y (sym gone))
          by false apart gone = ap (λ b. b || is_among p qs) (differs q p (λ e. unequal (key y) (key x) apart (ap key (some_same y x (sym is ∙ ap (get slab) e ∙ here))))) ∙ later gone

  one-from : (slab : Slab T) (p q : ℕ) (x y : T) → get slab p ≡ Some x → get slab q ≡ Some y → key x ≡ key y → (k : ℕ) (places : List ℕ) → AreThere slab places → AscendFrom key k (seen slab places) → IsTrue (is_among p places) → IsTrue (is_among q places) → p ≡ q
  one-from slab p q x y here other same k [] there ascend among also = absurd (cc)
  one-from slab p q x y here other same k (r ∷ rs) there ascend among also =
      let (z, is) = some_is (get slab r) there.0 in
      let first = subst (AscendFrom key k) (seen-head slab r rs z is) ascend in
      go z is first.1 (r == p) refl (r == q) refl among also (λ l m. one-from slab p q x y here other same (key z + 1) rs there.1 first.1 l m)
    where
      -- one whose number isn't above that of the first isn't behind it
      behind : (z w : T) (t : ℕ) → AscendFrom key (key z + 1) (seen slab rs) → get slab t ≡ Some w → key w ≡ key z → IsTrue (is_among t rs) → ⊥
      behind z w t ascending at alike later =
          none_some w (sym (keyed.item_at-below key (key w) (key z + 1) (seen slab rs) ascending (omega (arith, alike))) ∙ among-from slab t w (key z + 1) rs at there.1 ascending later)

      go : (z : T) → get slab r ≡ Some z → AscendFrom key (key z + 1) (seen slab rs) → (b : Bool) → (r == p) ≡ b → (c : Bool) → (r == q) ≡ c → (b || is_among p rs) ≡ true → (c || is_among q rs) ≡ true → (IsTrue (is_among p rs) → IsTrue (is_among q rs) → p ≡ q) → p ≡ q
      go z is ascending true this true that l m later = sym (equal r p this) ∙ equal r q that
      go z is ascending true this false that l m later = absurd (behind z y q ascending other (sym same ∙ ap key (some_same x z (sym here ∙ ap (get slab) (sym (equal r p this)) ∙ is))) m)
      go z is ascending false this true that l m later = absurd (behind z x p ascending here (same ∙ ap key (some_same y z (sym other ∙ ap (get slab) (sym (equal r q that)) ∙ is))) l)
      go z is ascending false this false that l m later = later l m

  -- records of one number are at one place
  pub one-place : (slab : Slab T) (places : List ℕ) (p q : ℕ) (x y : T) → AreSorted key slab places → IsTrue (is_among p places) → IsTrue (is_among q places) → get slab p ≡ Some x → get slab q ≡ Some y → key x ≡ key y → p ≡ q
  one-place slab places p q x y sorted among also here there same = one-from slab p q x y here there same 0 places sorted.there sorted.ascending among also

  -- a record is found in the order of all
  pub item-here : (slab : Slab T) (p : ℕ) (places : List ℕ) (x : T) → IsOrder key slab places → get slab p ≡ Some x → item_at key (key x) (seen slab places) ≡ Some x
  item-here slab p places x order here = item-among slab p places x order.sorted here (order.covers p (is_some_of (get slab p) x here))

  -- ---- an order after a change

  pub IsOrder-empty : (slab : Slab T) → slab.slots ≡ [] → IsOrder key slab []
  IsOrder-empty slab empty = record {
    sorted = record { there = tt; ascending = tt };
    covers = λ place some. absurd (none_is (get slab place) some (ap (λ (l : List (Option T)). get_or l place None) empty));
    count = sym (ap (λ (l : List (Option T)). count_by is_some l) empty);
  }

  sorted-updates : (old new : Slab T) (p : ℕ) (slot : Option T) (places : List ℕ) → Updates old new p slot → is_among p places ≡ false → AreSorted key old places → AreSorted key new places
  sorted-updates old new p slot places updates absent sorted = record {
    there = there-updates old new p slot places updates absent sorted.there;
    ascending = subst (AscendFrom key 0) (sym (seen-updates old new p slot places updates absent)) sorted.ascending;
  }

  -- a record was put into a vacant place
  pub IsOrderBut-filled : (old new : Slab T) (p : ℕ) (x : T) (places : List ℕ) → IsOrder key old places → get old p ≡ None → Updates old new p (Some x) → slab_len new ≡ slab_len old + 1 → IsOrderBut key p new places
  IsOrderBut-filled old new p x places order vacant updates more =
      let absent = absent-vacant old p places vacant order.sorted.there in
      record {
        sorted = sorted-updates old new p (Some x) places updates absent order.sorted;
        here = is_some_of (get new p) x updates.changed;
        absent = absent;
        covers = λ place other some. order.covers place (subst IsSome (updates.others place other) some);
        count = omega (arith, order.count, more);
      }

  -- the record whose place isn't in the order was taken out
  pub IsOrder-vacated : (old new : Slab T) (p : ℕ) (places : List ℕ) → IsOrderBut key p old places → Updates old new p None → slab_len new + 1 ≡ slab_len old → IsOrder key new places
  IsOrder-vacated old new p places order updates fewer = record {
    sorted = sorted-updates old new p None places updates order.absent order.sorted;
    covers = λ place some. elim (cases_eq place p) [
      | inl this ↦ absurd (none_is (get new place) some (ap (get new) this ∙ updates.changed))
      | inr other ↦ order.covers place other (subst IsSome (updates.others place other) some)
    ];
    count = omega (arith, order.count, fewer);
  }

  -- the record whose place isn't in the order was changed
  pub IsOrderBut-written : (old new : Slab T) (p : ℕ) (y : T) (places : List ℕ) → IsOrderBut key p old places → Updates old new p (Some y) → slab_len new ≡ slab_len old → IsOrderBut key p new places
  IsOrderBut-written old new p y places order updates same = record {
    sorted = sorted-updates old new p (Some y) places updates order.absent order.sorted;
    here = is_some_of (get new p) y updates.changed;
    absent = order.absent;
    covers = λ place other some. order.covers place other (subst IsSome (updates.others place other) some);
    count = omega (arith, order.count, same);
  }

  -- a record was changed, and has its number still
  module _ (old new : Slab T) (p : ℕ) (x : T) (places : List ℕ) (change : T → T) (keeps : (y : T) → key (change y) ≡ key y) (order : IsOrder key old places) (here : get old p ≡ Some x) (updates : Updates old new p (Some (change x))) where
    changed-from : (k : ℕ) (qs : List ℕ) → AreThere old qs → AscendFrom key k (seen old qs) → IsTrue (is_among p qs) → seen new qs ≡ changed key (key x) change (seen old qs)
    changed-from k [] there ascend among = absurd (cc)
    changed-from k (q ∷ qs) there ascend among =
        let (y, is) = some_is (get old q) there.0 in
        let first = subst (AscendFrom key k) (seen-head old q qs y is) ascend in
        go y is first.1 (q == p) refl among (λ l. changed-from (key y + 1) qs there.1 first.1 l) ∙ ap (changed key (key x) change) (sym (seen-head old q qs y is))
      where
        go : (y : T) → get old q ≡ Some y → AscendFrom key (key y + 1) (seen old qs) → (b : Bool) → (q == p) ≡ b → (b || is_among p qs) ≡ true → (IsTrue (is_among p qs) → seen new qs ≡ changed key (key x) change (seen old qs))
            → seen new (q ∷ qs) ≡ changed key (key x) change (y ∷ seen old qs)
        go y is behind true this l later =
            let e : y ≡ x = some_same y x (sym is ∙ ap (get old) (equal q p this) ∙ here) in
            let none = keyed.item_at-below key (key x) (key y + 1) (seen old qs) behind (omega (arith, ap key e)) in
            seen-head new q qs (change x) (ap (get new) (equal q p this) ∙ updates.changed)
            ∙ ap (λ l. change x ∷ l) (seen-updates old new p (Some (change x)) qs updates (absent-item old p qs x there.1 here none) ∙ sym (keyed.changed-absent key change (key x) (seen old qs) none))
            ∙ ap (λ b. (if b then change x else x) ∷ changed key (key x) change (seen old qs)) (sym (itself (key x)))
            ∙ ap (λ z. changed_if key (key x) change z ∷ changed key (key x) change (seen old qs)) (sym e)
        go y is behind false other l later =
            seen-head new q qs y (updates.others q (unequal q p other) ∙ is)
            ∙ ap (λ m. y ∷ m) (later l)
            ∙ ap (λ b. (if b then change y else y) ∷ changed key (key x) change (seen old qs)) (sym (apart (among-from old p x (key y + 1) qs here there.1 behind l)))
          where
            apart : item_at key (key x) (seen old qs) ≡ Some x → (key y == key x) ≡ false
            apart found = differs (key y) (key x) (λ e. none_some x (sym (keyed.item_at-below key (key x) (key y + 1) (seen old qs) behind (omega (arith, e))) ∙ found))

    there-changed : (qs : List ℕ) → AreThere old qs → AreThere new qs
    there-changed [] there = tt
    there-changed (q ∷ qs) there = (still q there.0, there-changed qs there.1)
      where
        still : (r : ℕ) → IsSome (get old r) → IsSome (get new r)
        still r some = elim (cases_eq r p) [
          | inl this ↦ is_some_of (get new r) (change x) (ap (get new) this ∙ updates.changed)
          | inr other ↦ subst IsSome (sym (updates.others r other)) some
        ]

    pub seen-changed : seen new places ≡ changed key (key x) change (seen old places)
    seen-changed = changed-from 0 places order.sorted.there order.sorted.ascending (order.covers p (is_some_of (get old p) x here))

    pub IsOrder-changed : slab_len new ≡ slab_len old → IsOrder key new places
    IsOrder-changed same = record {
      sorted = record {
        there = there-changed places order.sorted.there;
        ascending = subst (AscendFrom key 0) (sym seen-changed) (keyed.AscendFrom-changed key change keeps (key x) 0 (seen old places) order.sorted.ascending);
      };
      covers = λ place some. elim (cases_eq place p) [
        | inl this ↦ order.covers place (is_some_of (get old place) x (ap (get old) this ∙ here))
        | inr other ↦ order.covers place (subst IsSome (updates.others place other) some)
      ];
      count = omega (arith, order.count, same);
    }

-- two orders of all records see the same ones
pub IsIndex-orders : {T : Type 0} (key number : T → ℕ) (slab : Slab T) (places others : List ℕ) → IsOrder key slab places → IsOrder number slab others → IsIndex key number (λ x. x) (seen slab places) (seen slab others)
IsIndex-orders {T} key number slab places others order other = record {
  ascending = other.sorted.ascending;
  told = told;
  made = λ k d found. let (p, here, among) = found-place number slab others k d other.sorted.there found in (key d, d, item-here key slab p places d order here, refl);
  apart = λ n m x y f g e.
      sym (key_found key n x (seen slab places) f)
      ∙ ap key (some_same x y (sym (told n x f) ∙ ap (λ (k : ℕ). item_at number k (seen slab others)) e ∙ told m y g))
      ∙ key_found key m y (seen slab places) g;
  count = length-seen slab others other.sorted.there ∙ other.count ∙ sym (length-seen slab places order.sorted.there ∙ order.count);
}
  where
    told : (n : ℕ) (x : T) → item_at key n (seen slab places) ≡ Some x → item_at number (number x) (seen slab others) ≡ Some x
    told n x found = let (p, here, among) = found-place key slab places n x order.sorted.there found in item-here number slab p others x other here
