-- What is found in an order of the logins is theirs, and what is kept of a table stays when a login comes, goes or changes.
use Rattle.std.proofs.Common.{◌≡◌, ℕ, ◌+◌, ◌*◌, ◌^◌, ◌<◌, ◌≤◌, ◌==◌, ◌&&◌, nat_le, Bool, true, false, if◌then◌else◌, List, length, find, Option, Some, None, is_some, option_map, refl, sym, ◌∙◌, ap, subst, arith}
use Rattle.std.specs.Prelude.{Vec}
use Rattle.std.specs.declared.alloc.Global.{Global}
use mathlib.Core.Bool.{false≢true}
use Rattle.std.proofs.lemmas.Bool.Decides.{nat_tests}
use Rattle.std.proofs.lemmas.List.Elements.{All-map}
use Rattle.slab.specs.Slab.{Slab, get, slab_len, Updates, with_value}
use Rattle.slab.proofs.SlabLemmas.{Updates-with_value}
use Rattle.fab_base.specs.Keyed as spec
use Rattle.fab_base.specs.Fabric.{same_enode}
use Rattle.fab_base.specs.declared.values.Enode.{Enode}
use Rattle.fab_base.proofs.SamenessLemmas.{found_passes}
use Rattle.sorted_lists.specs.Enodes.{enode_number}
use Rattle.sorted_lists.specs.Index.{IsIndex}
use Rattle.sorted_lists.specs.Orders.{seen, IsOrderBut}
use Rattle.sorted_lists.proofs.EnodeLemmas.{number-same, same_enode-refl, same_enode-true}
use Rattle.sorted_lists.proofs.IndexLemmas.{absent_entry, IsFresh, All-found, key_found, none_some, some_same, equal, find_by_key, first_least, none_from, find_least, find_nothing}
use Rattle.sorted_lists.proofs.OrderLemmas.{IsIndex-orders, IsOrderBut-filled, IsOrder-changed, length-seen, seen-changed, seen-updates, slab_len-with_value}
use Rattle.login_table.specs.Logins.{address_of, name_of, login_at, named, next_of, added, with_size, with_server, AscendFrom}
use Rattle.login_table.specs.Sound.{behind_number, IsWholeEnode, FitsLogin, address_behind, first_behind, IsTableKept}
use Rattle.login_table.specs.declared.login.Login.{Login}
use Rattle.login_table.proofs.LoginLemmas.{IsSound-with_server}

is_same : (a b : ℕ) → a ≡ b → (a == b) ≡ true
is_same a b e = grind (arith, nat_tests)

is_from : (a b : ℕ) → nat_le a b ≡ true → a ≤ b
is_from a b e = grind (arith, nat_tests)

from_is : (a b : ℕ) → a ≤ b → nat_le a b ≡ true
from_is a b e = grind (arith, nat_tests)

two : (b c : Bool) → (b && c) ≡ true → (b ≡ true) × (c ≡ true)
two true c e = (refl, e)
two false c e = absurd (false≢true e)

fails : (b : Bool) → (b ≡ true → ⊥) → b ≡ false
fails true e = absurd (e refl)
fails false e = refl

module _ {limit : ℕ} {slab : Slab Login} {ps ns es : Vec ℕ Global} (kept : IsTableKept limit slab ps ns es) where
  abbrev logins : List Login
  logins = seen slab ps.items

  ascending : AscendFrom 0 logins
  ascending = kept.by_address.sorted.ascending

  names : IsIndex address_of name_of (λ l. l) logins (seen slab ns.items)
  names = IsIndex-orders address_of name_of slab ps.items ns.items kept.by_address kept.by_name

  enodes : IsIndex address_of behind_number (λ l. l) logins (seen slab es.items)
  enodes = IsIndex-orders address_of behind_number slab ps.items es.items kept.by_address kept.by_enode

  pub count : length logins ≡ slab_len slab
  count = length-seen slab ps.items kept.by_address.sorted.there ∙ kept.by_address.count

  -- ---- look-ups

  -- a name finds the same in both orders
  pub named_found : (name : ℕ) → spec.item_at name_of name (seen slab ns.items) ≡ named name logins
  named_found name = go (spec.item_at name_of name (seen slab ns.items)) refl
    where
      go : (o : Option Login) → spec.item_at name_of name (seen slab ns.items) ≡ o → o ≡ named name logins
      go None none = sym (find_nothing address_of (λ (l : Login). l.name == name) 0 logins ascending (λ j y other. fails (y.name == name) (λ passes.
          none_some y (sym none ∙ ap (λ a. spec.item_at name_of a (seen slab ns.items)) (sym (equal y.name name passes)) ∙ names.told j y other))))
      go (Some d) found =
          let (k, x, there, e) = names.made name d found in
          let at : x.address ≡ k = key_found address_of k x logins there in
          let here : x.name ≡ name = ap name_of e ∙ key_found name_of name d (seen slab ns.items) found in
          let mine : login_at x.address logins ≡ Some x = ap (λ a. login_at a logins) at ∙ there in
          ap (λ (z : Login). Some z) (sym e)
          ∙ sym (find_least address_of (λ (l : Login). l.name == name) 0 logins x ascending mine (is_same x.name name here) (λ j y other passes.
          let same : k ≡ j = names.apart k j x y there other (here ∙ sym (equal y.name name passes)) in
          omega (arith, at, same)))

  -- the first of an ENode in the order of ENodes is its first login
  module _ (enode : Enode) (whole : IsWholeEnode enode) (from : ℕ) where
    passes : Login → Bool
    passes l = nat_le from l.address && same_enode l.enode enode

    number_is : (d x : ℕ) (k a b : ℕ) → a < 2 ^ 24 → b < 2 ^ 24 → k * 2 ^ 24 + from ≤ d * 2 ^ 24 + a → d * 2 ^ 24 + a ≤ k * 2 ^ 24 + b → d ≡ k
    number_is d x k a b low also from_d to_d = omega (arith, low, also, from_d, to_d)

    told : (j : ℕ) (y : Login) → login_at j logins ≡ Some y → (nat_le from y.address && same_enode y.enode enode) ≡ true →
        (spec.item_at behind_number (enode_number enode * 2 ^ 24 + y.address) (seen slab es.items) ≡ Some y) × (from ≤ y.address)
    told j y there pass =
        let both = two (nat_le from y.address) (same_enode y.enode enode) pass in
        (subst (λ e. spec.item_at behind_number (enode_number e * 2 ^ 24 + y.address) (seen slab es.items) ≡ Some y) (same_enode-true y.enode enode both.1) (enodes.told j y there), is_from from y.address both.0)

    high : nat_le (2 ^ 24) from ≡ true → None ≡ next_of (λ l. same_enode l.enode enode) from logins
    high e = sym (ap (option_map address_of) (find_nothing address_of (λ (l : Login). nat_le from l.address && same_enode l.enode enode) 0 logins ascending (λ j y other. fails _ (λ pass.
        let at = told j y other pass in
        absurd (omega (arith, at.1, is_from (2 ^ 24) from e, (All-found FitsLogin _ logins y kept.fit other).1))))))

    low : (r : Option Login) → find (λ d. nat_le (enode_number enode * 2 ^ 24 + from) (behind_number d)) (seen slab es.items) ≡ r → address_behind enode r ≡ next_of (λ l. same_enode l.enode enode) from logins
    low None none = sym (ap (option_map address_of) (find_nothing address_of (λ (l : Login). nat_le from l.address && same_enode l.enode enode) 0 logins ascending (λ j y other. fails _ (λ pass.
        let at = told j y other pass in
        absurd (omega (arith, at.1, none_from behind_number (enode_number enode * 2 ^ 24 + from) (seen slab es.items) none (enode_number enode * 2 ^ 24 + y.address) y at.0))))))
    low (Some d) found = by (same_enode d.enode enode) refl
      where
        mine : spec.item_at behind_number (behind_number d) (seen slab es.items) ≡ Some d
        mine = find_by_key behind_number _ 0 (seen slab es.items) d enodes.ascending found

        reached : enode_number enode * 2 ^ 24 + from ≤ behind_number d
        reached = is_from _ (behind_number d) (found_passes (λ z. nat_le (enode_number enode * 2 ^ 24 + from) (behind_number z)) d (seen slab es.items) found)

        least : (j : ℕ) (y : Login) → login_at j logins ≡ Some y → (nat_le from y.address && same_enode y.enode enode) ≡ true → behind_number d ≤ enode_number enode * 2 ^ 24 + y.address
        least j y other pass =
            let at = told j y other pass in
            first_least behind_number (enode_number enode * 2 ^ 24 + from) 0 (seen slab es.items) d enodes.ascending found (enode_number enode * 2 ^ 24 + y.address) y at.0 (omega (arith, at.1))

        -- it is among the logins
        own : login_at d.address logins ≡ Some d
        own =
            let (k, x, there, e) = enodes.made (behind_number d) d mine in
            subst (λ (z : Login). login_at z.address logins ≡ Some z) e (ap (λ a. login_at a logins) (key_found address_of k x logins there) ∙ there)

        fit : FitsLogin d
        fit = All-found FitsLogin _ logins d kept.fit own

        by : (b : Bool) → same_enode d.enode enode ≡ b → (if b then Some d.address else None) ≡ next_of (λ l. same_enode l.enode enode) from logins
        by true same =
            let number : enode_number d.enode ≡ enode_number enode = ap enode_number (same_enode-true d.enode enode same) in
            let behind : from ≤ d.address = omega (arith, reached, number) in
            let pass : (nat_le from d.address && same_enode d.enode enode) ≡ true = ap (λ b. b && same_enode d.enode enode) (from_is from d.address behind) ∙ same in
            sym (ap (option_map address_of) (find_least address_of (λ (l : Login). nat_le from l.address && same_enode l.enode enode) 0 logins d ascending own pass (λ j y other passes_too.
            omega (arith, least j y other passes_too, number, key_found address_of j y logins other))))
        by false other =
            sym (ap (option_map address_of) (find_nothing address_of (λ (l : Login). nat_le from l.address && same_enode l.enode enode) 0 logins ascending (λ j y also. fails _ (λ pass.
            let number : enode_number d.enode ≡ enode_number enode = number_is (enode_number d.enode) 0 (enode_number enode) d.address y.address fit.1 (All-found FitsLogin _ logins y kept.fit also).1 reached (least j y also pass) in
            false≢true (sym other ∙ subst (λ z. same_enode z enode ≡ true) (sym (number-same d.enode enode fit.0 whole number)) (same_enode-refl enode))))))

    pub first_of_enode : first_behind enode from (seen slab es.items) ≡ next_of (λ l. same_enode l.enode enode) from logins
    first_of_enode = go (nat_le (2 ^ 24) from) refl
      where
        go : (b : Bool) → nat_le (2 ^ 24) from ≡ b → (if b then None else address_behind enode (find (λ d. nat_le (enode_number enode * 2 ^ 24 + from) (behind_number d)) (seen slab es.items))) ≡ next_of (λ l. same_enode l.enode enode) from logins
        go true e = high e
        go false e = low _ refl

  -- ---- one more login

  -- an address that is new in the other orders
  module _ (y : Login) (fits : FitsLogin y) (absent : login_at y.address logins ≡ None) where
    fresh_enode : IsFresh address_of behind_number (λ l. l) y logins
    fresh_enode k x there e =
        let same : x.address ≡ y.address = apart (enode_number x.enode) (enode_number y.enode) x.address y.address (All-found FitsLogin _ logins x kept.fit there).1 fits.1 e in
        none_some x (sym absent ∙ ap (λ a. login_at a logins) (sym same ∙ key_found address_of k x logins there) ∙ there)
      where
        apart : (a b p q : ℕ) → p < 2 ^ 24 → q < 2 ^ 24 → a * 2 ^ 24 + p ≡ b * 2 ^ 24 + q → p ≡ q
        apart a b p q low also e = omega (arith, low, also, e)

    pub absent_enode : spec.item_at behind_number (behind_number y) (seen slab es.items) ≡ None
    absent_enode = absent_entry address_of behind_number (λ l. l) y logins (seen slab es.items) enodes fresh_enode

  module _ (new : Slab Login) (p : ℕ) (y : Login) (vacant : get slab p ≡ None) (updates : Updates slab new p (Some y)) (more : slab_len new ≡ slab_len slab + 1) where
    pub but_address : IsOrderBut address_of p new ps.items
    but_address = IsOrderBut-filled address_of slab new p y ps.items kept.by_address vacant updates more

    pub but_name : IsOrderBut name_of p new ns.items
    but_name = IsOrderBut-filled name_of slab new p y ns.items kept.by_name vacant updates more

    pub but_enode : IsOrderBut behind_number p new es.items
    but_enode = IsOrderBut-filled behind_number slab new p y es.items kept.by_enode vacant updates more

    -- a number that wasn't there isn't there yet
    pub still_absent : (key : Login → ℕ) (places : List ℕ) → IsOrderBut key p new places → spec.item_at key (key y) (seen slab places) ≡ None
        → (x : Login) → get new p ≡ Some x → spec.item_at key (key x) (seen new places) ≡ None
    still_absent key places but none x is =
        ap (λ l. spec.item_at key (key x) l) (seen-updates slab new p (Some y) places updates but.absent)
        ∙ subst (λ (z : Login). spec.item_at key (key z) (seen slab places) ≡ None) (some_same y x (sym updates.changed ∙ is)) none

    pub seen_added : (places : List ℕ) → ((x : Login) → get new p ≡ Some x → seen new places ≡ spec.added address_of x (seen new ps.items)) → seen new places ≡ added y logins
    seen_added places put = put y updates.changed ∙ ap (added y) (seen-updates slab new p (Some y) ps.items updates but_address.absent)

  -- ---- another receive size

  module _ (size : Option ℕ) (p : ℕ) (x : Login) (here : get slab p ≡ Some x) where
    updates_sized : Updates slab (with_value slab p (with_size size x)) p (Some (with_size size x))
    updates_sized = Updates-with_value slab p (with_size size x) (ap is_some here)

    same_len : slab_len (with_value slab p (with_size size x)) ≡ slab_len slab
    same_len = slab_len-with_value slab p x (with_size size x) here

    pub seen_sized : seen (with_value slab p (with_size size x)) ps.items ≡ with_server x.address size logins
    seen_sized = seen-changed address_of slab _ p x ps.items (with_size size) (λ l. refl) kept.by_address here updates_sized

    sized_fits : (l : Login) → FitsLogin l → FitsLogin (spec.changed_if address_of x.address (with_size size) l)
    sized_fits l fits = go (l.address == x.address)
      where
        go : (b : Bool) → FitsLogin (if b then with_size size l else l)
        go true = fits
        go false = fits

    pub kept_sized : IsTableKept limit (with_value slab p (with_size size x)) ps ns es
    kept_sized = record {
      sound = rw seen_sized (IsSound-with_server x.address size _ kept.sound);
      fit = rw seen_sized (All-map FitsLogin (spec.changed_if address_of x.address (with_size size)) logins (λ i d lt. sized_fits _ (kept.fit i d lt)));
      by_address = IsOrder-changed address_of slab _ p x ps.items (with_size size) (λ l. refl) kept.by_address here updates_sized same_len;
      by_name = IsOrder-changed name_of slab _ p x ns.items (with_size size) (λ l. refl) kept.by_name here updates_sized same_len;
      by_enode = IsOrder-changed behind_number slab _ p x es.items (with_size size) (λ l. refl) kept.by_enode here updates_sized same_len;
      room = kept.room;
      address_room = kept.address_room;
      name_room = kept.name_room;
      enode_room = kept.enode_room;
      range = kept.range;
    }
