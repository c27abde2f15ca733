-- ENodes are told apart by their numbers.
use Rattle.std.proofs.Common.{◌≡◌, ℕ, ◌^◌, ◌<◌, ◌≤◌, ◌==◌, Bool, true, false, List, length, refl, sym, ◌∙◌, ap, subst, arith}
use mathlib.Core.Bool.{false≢true}
use Rattle.std.specs.Str.{bytes_eq}
use Rattle.std.proofs.lemmas.Bool.{and_parts}
use Rattle.std.proofs.lemmas.Bool.Decides.{nat_tests}
use Rattle.std.proofs.lemmas.Slice.Eq.{bytes_eq-Decides}
use Rattle.fab_base.specs.declared.values.Enode.{Enode}
use Rattle.fab_base.specs.Fabric.{same_enode}
use Rattle.fab_base.specs.Layout.{big_endian, spelled}
use Rattle.fab_base.proofs.LayoutLemmas.{AreBytes, big_endian-fits, spelled-big_endian}
use Rattle.sorted_lists.specs.Enodes.{enode_number, IsWhole}
use Rattle.sorted_lists.proofs.IndexLemmas.{equal, unequal}

enode_ext : (x y : Enode) → x.port ≡ y.port → x.mac ≡ y.mac → x ≡ y
enode_ext x y ports macs =
    let at_port : ℕ → Enode = λ p. record { port = p; mac = x.mac } in
    let with_mac : List ℕ → Enode = λ m. record { port = y.port; mac = m } in
    ap at_port ports ∙ ap with_mac macs

pub same_enode-refl : (x : Enode) → same_enode x x ≡ true
same_enode-refl x = grind (arith, nat_tests, (bytes_eq-Decides x.mac x.mac).1 refl)

pub same_enode-true : (x y : Enode) → same_enode x y ≡ true → x ≡ y
same_enode-true x y same =
    let parts = and_parts (x.port == y.port) (bytes_eq x.mac y.mac) same in
    enode_ext x y (grind (arith, nat_tests, parts.0)) ((bytes_eq-Decides x.mac y.mac).0 parts.1)

mac_number : (m : List ℕ) → length m ≡ 6 → AreBytes m → big_endian m < 2 ^ 48
mac_number m six bytes = omega (arith, big_endian-fits m bytes, ap (λ (n : ℕ). 256 ^ n) six)

mac_same : (m n : List ℕ) → length m ≡ 6 → length n ≡ 6 → AreBytes m → AreBytes n → big_endian m ≡ big_endian n → m ≡ n
mac_same m n six too bytes also e =
    sym (spelled-big_endian m bytes) ∙ ap (λ (k : ℕ). spelled k (big_endian m)) (six ∙ sym too) ∙ ap (spelled (length n)) e ∙ spelled-big_endian n also

pub number-range : (x : Enode) → IsWhole x → enode_number x < 2 ^ 56
number-range x (low, high, six, bytes) = omega (arith, mac_number x.mac six bytes)

pub number-low : (x : Enode) → IsWhole x → 2 ^ 48 ≤ enode_number x
number-low x (low, high, six, bytes) = omega (arith, low)

-- ENodes of one number are equal
pub number-same : (x y : Enode) → IsWhole x → IsWhole y → enode_number x ≡ enode_number y → x ≡ y
number-same x y (xl, xh, xs, xb) (yl, yh, ys, yb) e =
    let xm = mac_number x.mac xs xb in
    let ym = mac_number y.mac ys yb in
    enode_ext x y (omega (arith, xm, ym, e)) (mac_same x.mac y.mac xs ys xb yb (omega (arith, xm, ym, e)))

-- the test on two ENodes is that on their numbers
pub same_number : (x y : Enode) → IsWhole x → IsWhole y → same_enode x y ≡ (enode_number x == enode_number y)
same_number x y p q = go (same_enode x y) refl (enode_number x == enode_number y) refl
  where
    go : (b : Bool) → same_enode x y ≡ b → (c : Bool) → (enode_number x == enode_number y) ≡ c → b ≡ c
    go true e true f = refl
    go false e false f = refl
    go true e false f = absurd (unequal _ _ f (ap enode_number (same_enode-true x y e)))
    go false e true f = absurd (false≢true (sym e ∙ subst (λ u. same_enode x u ≡ true) (number-same x y p q (equal _ _ f)) (same_enode-refl x)))
