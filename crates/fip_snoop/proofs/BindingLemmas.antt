-- Bindings in two orders.
use Rattle.std.proofs.Common.{◌≡◌, ◌≢◌, ℕ, ◌+◌, ◌<◌, ◌≤◌, ◌^◌, ◌==◌, nat_le, Bool, true, false, not, cond, ◌&&◌, ◌||◌, List, [], ◌∷◌, ◌++◌, filter, find, Option, Some, None, option_to_list, IfSome, IfNone, ◌⊎◌, inl, inr, refl, sym, ◌∙◌, ap, subst, arith}
use mathlib.Core.Bool.{false≢true}
use Rattle.std.specs.List.{All, list_any}
use Rattle.std.proofs.lemmas.Bool.{cases_lt}
use Rattle.std.proofs.lemmas.Bool.Decides.{nat_tests}
use Rattle.std.proofs.lemmas.List.Elements.{All-nil, All-filter}
use Rattle.fab_base.specs.Keyed.{item_at, added, without}
use Rattle.fab_base.proofs.KeyedLemmas as keyed
use Rattle.fab_base.proofs.SamenessLemmas.{found_passes}
use Rattle.fab_config.specs.Settings.{same_bytes}
use Rattle.sorted_lists.proofs.IndexLemmas.{none_some, equal, unequal, first_least, none_from, key_found, All-found, IsFresh, IsIndex-without, IsIndex-added}
use Rattle.fip_snoop.specs.Snoop.{is_binding_of, binding_in, without_binding, with_one, is_moved_in}
use Rattle.fip_snoop.specs.Maps.{IsMac, number_of, mac_number, number_from, enode_number, IsWhole, AreKept, restored, forgotten, SameBindings, is_between, if_its, first_of, IsOf, AreBelow, IsFirst, IsBound}
use Rattle.fip_snoop.specs.declared.bindings.Binding.{Binding}
use Rattle.fip_snoop.proofs.ListLemmas.{Among}
use Rattle.fip_snoop.proofs.NumberLemmas.{itself, same_number, moved_number, enode_number_is, enode_between}
use Rattle.fip_snoop.proofs.KeyLemmas.{find-alike, filter-alike, any-alike, any-or, filter-one, All-among, All-from_among, found-among, one-among, filter-put, numbered, among_back, All-other, any-orders, without-added, added-gone, added-back}
use Rattle.fip_snoop.proofs.SameLemmas.{same_is, is_same}

-- ---- by MAC

pub one_number : (mac : List ℕ) (b c : Binding) → is_binding_of mac b ≡ true → is_binding_of mac c ≡ true → mac_number b ≡ mac_number c
one_number mac b c e f = ap (λ (l : List ℕ). number_of l) (same_is b.mac mac e ∙ sym (same_is c.mac mac f))

module _ (bindings : List Binding) (whole : All IsWhole bindings) (mac : List ℕ) (is : IsMac mac) where
  -- the binding of a MAC is that of its number
  pub binding_found : binding_in bindings mac ≡ item_at mac_number (number_of mac) bindings
  binding_found = find-alike IsWhole (is_binding_of mac) (λ b. mac_number b == number_of mac) (λ b w. same_number b.mac mac w.0 is) bindings whole

  pub without_is : without_binding mac bindings ≡ without mac_number (number_of mac) bindings
  without_is = filter-alike IsWhole (λ b. not (is_binding_of mac b)) (λ b. not (mac_number b == number_of mac)) (λ b w. ap not (same_number b.mac mac w.0 is)) bindings whole

-- what was found for a MAC
pub found_at : (macs now : List Binding) (mac : List ℕ) (n : ℕ) (o : Option Binding) → All IsWhole macs → IsMac mac → n ≡ number_of mac → macs ≡ now → o ≡ item_at mac_number n macs → o ≡ binding_in now mac
found_at macs now mac n o whole is number e found = found ∙ ap (λ (k : ℕ). item_at mac_number k macs) number ∙ sym (binding_found macs whole mac is) ∙ ap (λ (l : List Binding). binding_in l mac) e

-- what is left where that of a MAC is taken out
pub left_at : (macs now : List Binding) (mac : List ℕ) (n : ℕ) (new : List Binding) → All IsWhole macs → IsMac mac → n ≡ number_of mac → macs ≡ now → new ≡ without mac_number n macs → new ≡ without_binding mac now
left_at macs now mac n new whole is number e left = left ∙ ap (λ (k : ℕ). without mac_number k macs) number ∙ sym (without_is macs whole mac is) ∙ ap (λ (l : List Binding). without_binding mac l) e

-- a binding that was found at its MAC is the one of it
pub bound_is : (macs enodes now : List Binding) (n : ℕ) (found x : Binding) → AreKept macs enodes → IsMac x.mac → n ≡ number_of x.mac → macs ≡ now → Some found ≡ item_at mac_number n macs → found ≡ x → IsBound x now
bound_is macs enodes now n found x kept is number e there same =
    subst (λ (l : List Binding). IsBound x l) e
    (filter-one mac_number (is_binding_of x.mac) (one_number x.mac) 0 macs kept.by_mac
    ∙ ap option_to_list (sym (found_at macs macs x.mac n (Some found) kept.whole is number refl there) ∙ ap (λ (b : Binding). Some b) same))

-- ---- by ENode

module _ (macs enodes : List Binding) (kept : AreKept macs enodes) where
  -- an ENode has moved where a number of it is below its port or above
  pub moved_is : (enode : List ℕ) (port : ℕ) → IsMac enode → port < 2 ^ 16 →
      (list_any (is_between (number_from enode 0) (number_from enode port)) enodes || list_any (is_between (number_from enode (port + 1)) (number_from enode (2 ^ 16))) enodes) ≡ is_moved_in macs port enode
  moved_is enode port is range =
      any-or (is_between (number_from enode 0) (number_from enode port)) (is_between (number_from enode (port + 1)) (number_from enode (2 ^ 16))) enodes
      ∙ any-alike IsWhole (λ b. is_between (number_from enode 0) (number_from enode port) b || is_between (number_from enode (port + 1)) (number_from enode (2 ^ 16)) b)
      (λ b. same_bytes b.enode enode && not (b.port == port)) (λ b w. moved_number enode port b is range w) enodes (All-other mac_number enode_number macs enodes kept.by_mac kept.same IsWhole kept.whole)
      ∙ any-orders mac_number enode_number macs enodes kept.by_mac kept.same (λ b. same_bytes b.enode enode && not (b.port == port))

  module _ (enode : List ℕ) (from : ℕ) (is : IsMac enode) (low : number_from enode 0 ≤ from) where
    first_is : (x : Binding) → find (λ b. nat_le from (enode_number b)) enodes ≡ Some x → same_bytes enode x.enode ≡ true → IsFirst enode from macs x
    first_is x found own = record {
      own = own;
      from_ = reached from (enode_number x) (found_passes (λ b. nat_le from (enode_number b)) x enodes found);
      first = All-from_among (λ b. IsOf enode b → (enode_number b < from) ⊎ ((enode_number x < enode_number b) ⊎ (b ≡ x))) macs (λ b here its. elim (cases_lt (enode_number b) from) [
        | inl less ↦ inl less
        | inr more ↦ inr (not_least b here (first_least enode_number from 0 enodes x kept.same.ascending found (enode_number b) b (numbered mac_number enode_number macs enodes kept.by_mac kept.same b here) more))
      ]);
      alone = All-from_among (λ b. is_binding_of x.mac b ≡ true → b ≡ x) macs (λ b here same. one_among b here (ap (λ l. number_of l) (same_is b.mac x.mac same)));
    }
      where
        among : Among x macs
        among = among_back mac_number enode_number macs enodes kept.by_mac kept.same x (found-among _ enodes x found)

        reached : (m n : ℕ) → nat_le m n ≡ true → m ≤ n
        reached m n e = grind (arith, nat_tests)

        one_among : (b : Binding) → Among b macs → mac_number b ≡ mac_number x → b ≡ x
        one_among b here same = one-among mac_number macs kept.by_mac b x here among same

        not_least : (b : Binding) → Among b macs → enode_number x ≤ enode_number b → (enode_number x < enode_number b) ⊎ (b ≡ x)
        not_least b here least = elim (cases_lt (enode_number x) (enode_number b)) [
          | inl less ↦ inl less
          | inr more ↦ inr (one_among b here (enode_number_is b x (All-among IsWhole macs kept.whole b here) (All-among IsWhole macs kept.whole x among) (omega (arith, least, more))))
        ]

    below_none : find (λ b. nat_le from (enode_number b)) enodes ≡ None → AreBelow enode from macs
    below_none none = All-from_among (λ b. IsOf enode b → enode_number b < from) macs (λ b here its. none_from enode_number from enodes none (enode_number b) b (numbered mac_number enode_number macs enodes kept.by_mac kept.same b here))

    below_other : (x : Binding) → find (λ b. nat_le from (enode_number b)) enodes ≡ Some x → same_bytes enode x.enode ≡ false → AreBelow enode from macs
    below_other x found other = All-from_among (λ b. IsOf enode b → enode_number b < from) macs (λ b here its. elim (cases_lt (enode_number b) from) [
      | inl less ↦ less
      | inr more ↦
          let least = first_least enode_number from 0 enodes x kept.same.ascending found (enode_number b) b (numbered mac_number enode_number macs enodes kept.by_mac kept.same b here) more in
          let among = among_back mac_number enode_number macs enodes kept.by_mac kept.same x (found-among _ enodes x found) in
          let same = enode_between enode from x b is (All-among IsWhole macs kept.whole x among) (All-among IsWhole macs kept.whole b here) low
          (reached from (enode_number x) (found_passes (λ b. nat_le from (enode_number b)) x enodes found)) least (sym (same_is enode b.enode its)) in
          absurd (false≢true (sym other ∙ is_same enode x.enode (sym same)))
    ])
      where
        reached : (m n : ℕ) → nat_le m n ≡ true → m ≤ n
        reached m n e = grind (arith, nat_tests)

    -- what a look enodes a bound found
    pub next_is : (r : Option Binding) → r ≡ first_of enode from enodes → IfSome r (λ x. IsFirst enode from macs x) × IfNone r (AreBelow enode from macs)
    next_is r e = subst (λ o. IfSome o (λ x. IsFirst enode from macs x) × IfNone o (AreBelow enode from macs)) (sym e) (go (find (λ b. nat_le from (enode_number b)) enodes) refl)
      where
        by : (x : Binding) → find (λ b. nat_le from (enode_number b)) enodes ≡ Some x → (t : Bool) → same_bytes enode x.enode ≡ t → IfSome (cond t (Some x) None) (λ x. IsFirst enode from macs x) × IfNone (cond t (Some x) None) (AreBelow enode from macs)
        by x found true own = (first_is x found own, tt)
        by x found false other = (tt, below_other x found other)

        go : (o : Option Binding) → find (λ b. nat_le from (enode_number b)) enodes ≡ o → IfSome (if_its enode o) (λ x. IsFirst enode from macs x) × IfNone (if_its enode o) (AreBelow enode from macs)
        go None none = (tt, below_none none)
        go (Some x) found = by x found (same_bytes enode x.enode) refl

-- the first of two tests holds, or the second says it
pub then_is : (r a b m : Bool) → r ≡ a → r ≡ true → (a || b) ≡ m → r ≡ m
then_is r true b m e t f = t ∙ f
then_is r false b m e t f = absurd (false≢true (sym e ∙ t))

pub else_is : (r a b m s : Bool) → r ≡ a → r ≡ false → s ≡ b → (a || b) ≡ m → s ≡ m
else_is r true b m s e t g f = absurd (false≢true (sym t ∙ e))
else_is r false b m s e t g f = g ∙ f

pub between_as : (places : List Binding) (from to m n : ℕ) → from ≡ m → to ≡ n → list_any (is_between from to) places ≡ list_any (is_between m n) places
between_as places from to m n f g = ap (λ (k : ℕ). list_any (is_between k to) places) f ∙ ap (λ (k : ℕ). list_any (is_between m k) places) g

-- ---- changes

pub AreKept-empty : AreKept [] []
AreKept-empty = record {
  whole = All-nil IsWhole;
  by_mac = tt;
  same = record { ascending = tt; told = λ n x e. absurd (none_some x e); made = λ k d e. absurd (none_some d e); apart = λ n m x y e f. absurd (none_some x e); count = refl };
}

module _ (macs enodes : List Binding) (kept : AreKept macs enodes) where
  -- a binding is taken out
  pub AreKept-taken : (n : ℕ) (x : Binding) → item_at mac_number n macs ≡ Some x → AreKept (without mac_number n macs) (without enode_number (enode_number x) enodes)
  AreKept-taken n x there = record {
    whole = All-filter _ IsWhole macs kept.whole;
    by_mac = keyed.AscendFrom-filter mac_number _ 0 macs kept.by_mac;
    same = IsIndex-without mac_number enode_number (λ b. b) n x macs enodes kept.by_mac kept.same there;
  }

  -- a new binding is put in
  module _ (y : Binding) (fits : IsWhole y) (absent : item_at mac_number (mac_number y) macs ≡ None) where
    fresh : IsFresh mac_number enode_number (λ b. b) y macs
    fresh k x there e =
        let same : mac_number x ≡ mac_number y = enode_number_is x y (All-found IsWhole _ macs x kept.whole there) fits e in
        none_some x (sym absent ∙ ap (λ (n : ℕ). item_at mac_number n macs) (sym same ∙ key_found mac_number k x macs there) ∙ there)

    AreKept-put : AreKept (added mac_number y macs) (added enode_number y enodes)
    AreKept-put = record {
      whole = keyed.All-added mac_number IsWhole y macs kept.whole fits;
      by_mac = keyed.AscendFrom-added mac_number y 0 macs kept.by_mac (omega arith);
      same = IsIndex-added mac_number enode_number (λ b. b) y macs enodes kept.by_mac kept.same absent fresh;
    }

-- a binding is put in place of the one of its MAC
module _ (macs enodes : List Binding) (kept : AreKept macs enodes) (y : Binding) (fits : IsWhole y) where
  pub AreKept-replaced : (o : Option Binding) → o ≡ item_at mac_number (mac_number y) macs → AreKept (added mac_number y macs) (forgotten y o (added enode_number y enodes))
  AreKept-replaced None e = AreKept-put macs enodes kept y fits (sym e)
  AreKept-replaced (Some x) e =
      let n : ℕ = mac_number y in
      let ms : List Binding = without mac_number n macs in
      let es : List Binding = without enode_number (enode_number x) enodes in
      let none : item_at mac_number n ms ≡ None = keyed.item_at-without mac_number n n macs ∙ ap (λ b. cond b None (item_at mac_number n macs)) (itself n) in
      subst (λ l. AreKept l (forgotten y (Some x) (added enode_number y enodes))) (keyed.added-without mac_number y macs)
      (subst (λ l. AreKept (added mac_number y ms) l) (go (enode_number x == enode_number y) refl)
      (AreKept-put ms es (AreKept-taken macs enodes kept n x (sym e)) y fits none))
    where
      go : (b : Bool) → (enode_number x == enode_number y) ≡ b
          → added enode_number y (without enode_number (enode_number x) enodes) ≡ cond b (added enode_number y enodes) (without enode_number (enode_number x) (added enode_number y enodes))
      go true f = ap (λ (k : ℕ). added enode_number y (without enode_number k enodes)) (equal (enode_number x) (enode_number y) f) ∙ keyed.added-without enode_number y enodes
      go false f = sym (without-added enode_number enodes kept.same.ascending y (enode_number x) (unequal (enode_number x) (enode_number y) f))

  pub same_put : SameBindings (added mac_number y macs) (with_one y macs)
  same_put mac =
      let n : ℕ = mac_number y in
      let left = without mac_number n macs in
      let none : item_at mac_number n left ≡ None = keyed.item_at-without mac_number n n macs ∙ ap (λ b. cond b None (item_at mac_number n macs)) (itself n) in
      ap (filter (is_binding_of mac)) (sym (keyed.added-without mac_number y macs))
      ∙ filter-put mac_number (is_binding_of mac) (one_number mac) y left (keyed.AscendFrom-filter mac_number _ 0 macs kept.by_mac) none
      ∙ ap (λ l. filter (is_binding_of mac) (l ++ y ∷ [])) (sym (without_is macs kept.whole y.mac fits.0))

  -- or it isn't
  pub restored_is : (o : Option Binding) → o ≡ item_at mac_number (mac_number y) macs → restored (mac_number y) o (added mac_number y macs) ≡ macs
  restored_is None e = added-gone mac_number macs kept.by_mac y (sym e)
  restored_is (Some x) e = added-back mac_number macs kept.by_mac y x (key_found mac_number (mac_number y) x macs (sym e)) (sym e)

  pub old_there : (o : Option Binding) → o ≡ item_at mac_number (mac_number y) macs → IfSome o (λ x. item_at mac_number (mac_number x) (added mac_number y macs) ≢ None)
  old_there None e = tt
  old_there (Some x) e = λ none.
      none_some y (sym none ∙ keyed.item_at-added mac_number y macs (mac_number x) ∙ ap (λ b. cond b (Some y) (item_at mac_number (mac_number x) macs))
      (ap (λ (n : ℕ). mac_number y == n) (key_found mac_number (mac_number y) x macs (sym e)) ∙ itself (mac_number y)))
