-- MACs are told apart by their numbers.
use Rattle.std.proofs.Common.{◌≡◌, ◌≢◌, ℕ, ◌+◌, ◌*◌, ◌^◌, ◌<◌, ◌≤◌, ◌==◌, Bool, true, false, not, ◌&&◌, ◌||◌, nat_le, nat_lt, List, length, ◌⊎◌, inl, inr, refl, sym, ◌∙◌, ap, arith}
use mathlib.Core.Bool.{false≢true}
use Rattle.std.proofs.lemmas.Bool.{cases_order}
use Rattle.std.proofs.lemmas.Bool.Decides.{nat_tests}
use Rattle.std.proofs.lemmas.Slice.Eq.{bytes_eq-Decides}
use Rattle.fab_base.specs.Layout.{big_endian, spelled}
use Rattle.fab_base.proofs.LayoutLemmas.{big_endian-fits, spelled-big_endian}
use Rattle.fab_config.specs.Settings.{same_bytes}
use Rattle.fip_snoop.specs.Maps.{IsMac, IsWhole, mac_number, number_from, enode_number, is_between}
use Rattle.fip_snoop.specs.declared.bindings.Binding.{Binding}

pub mac_range : (m : List ℕ) → IsMac m → big_endian m < 2 ^ 48
mac_range m (six, bytes) = omega (arith, big_endian-fits m bytes, ap (λ (n : ℕ). 256 ^ n) six)

pub number_is : (m n : List ℕ) → IsMac m → IsMac n → big_endian m ≡ big_endian n → m ≡ n
number_is m n (six, bytes) (too, also) e =
    sym (spelled-big_endian m bytes) ∙ ap (λ (k : ℕ). spelled k (big_endian m)) (six ∙ sym too) ∙ ap (spelled (length n)) e ∙ spelled-big_endian n also

equal : (m n : ℕ) → (m == n) ≡ true → m ≡ n
equal m n e = grind (arith, nat_tests)

pub itself : (n : ℕ) → (n == n) ≡ true
itself n = grind (arith, nat_tests)

unequal : (m n : ℕ) → m ≢ n → (m == n) ≡ false
unequal m n ne = grind (arith, nat_tests)

pub enode_number_range : (b : Binding) → IsWhole b → enode_number b < 2 ^ 112
enode_number_range b (own, other, fits) = range (big_endian b.enode) b.port (big_endian b.mac) (mac_range b.enode other) fits (mac_range b.mac own)
  where
    range : (e p m : ℕ) → e < 2 ^ 48 → p < 2 ^ 16 → m < 2 ^ 48 → (e * 2 ^ 16 + p) * 2 ^ 48 + m < 2 ^ 112
    range e p m less also too = omega (arith, less, also, too)

-- the test on two MACs is that on numbers which tell them apart
same_by : (f : List ℕ → ℕ) (m n : List ℕ) → (f m ≡ f n → m ≡ n) → same_bytes m n ≡ (f m == f n)
same_by f m n is = go (same_bytes m n) refl (f m == f n) refl
  where
    go : (b : Bool) → same_bytes m n ≡ b → (c : Bool) → (f m == f n) ≡ c → b ≡ c
    go true e true g = refl
    go false e false g = refl
    go true e false g = absurd (false≢true (sym g ∙ ap (λ l. f m == f l) (sym ((bytes_eq-Decides m n).0 e)) ∙ itself (f m)))
    go false e true g = absurd (false≢true (sym e ∙ (bytes_eq-Decides m n).1 (is (equal _ _ g))))

pub same_number : (m n : List ℕ) → IsMac m → IsMac n → same_bytes m n ≡ (big_endian m == big_endian n)
same_number m n p q = same_by big_endian m n (number_is m n p q)

-- ---- ranges

from_is : (a b : ℕ) → a ≤ b → nat_le a b ≡ true
from_is a b e = grind (arith, nat_tests)

from_not : (a b : ℕ) → b < a → nat_le a b ≡ false
from_not a b e = grind (arith, nat_tests)

below_is : (a b : ℕ) → a < b → nat_lt a b ≡ true
below_is a b e = grind (arith, nat_tests)

below_not : (a b : ℕ) → b ≤ a → nat_lt a b ≡ false
below_not a b e = grind (arith, nat_tests)

two : (a b c d : Bool) → a ≡ false → c ≡ false → ((a && b) || (c && d)) ≡ false
two a b c d e f = rw (e, f) refl

ends : (a b c d : Bool) → b ≡ false → d ≡ false → ((a && b) || (c && d)) ≡ false
ends true b true d e f = rw (e, f) refl
ends true b false d e f = rw e refl
ends false b true d e f = f
ends false b false d e f = refl

mixed : (a b c d : Bool) → b ≡ false → c ≡ false → ((a && b) || (c && d)) ≡ false
mixed true b c d e f = rw (e, f) refl
mixed false b c d e f = rw f refl

left : (a b c d : Bool) → a ≡ true → b ≡ true → ((a && b) || (c && d)) ≡ true
left a b c d e f = rw (e, f) refl

right : (a b c d : Bool) → c ≡ true → d ≡ true → ((a && b) || (c && d)) ≡ true
right true true c d e f = refl
right true false c d e f = rw (e, f) refl
right false b c d e f = rw (e, f) refl

-- below and above a port of an ENode, by numbers
elsewhere : (e x p y m : ℕ) → p < 2 ^ 16 → y < 2 ^ 16 → m < 2 ^ 48 →
    ((nat_le ((e * 2 ^ 16 + 0) * 2 ^ 48) ((x * 2 ^ 16 + y) * 2 ^ 48 + m) && nat_lt ((x * 2 ^ 16 + y) * 2 ^ 48 + m) ((e * 2 ^ 16 + p) * 2 ^ 48))
    || (nat_le ((e * 2 ^ 16 + (p + 1)) * 2 ^ 48) ((x * 2 ^ 16 + y) * 2 ^ 48 + m) && nat_lt ((x * 2 ^ 16 + y) * 2 ^ 48 + m) ((e * 2 ^ 16 + 2 ^ 16) * 2 ^ 48)))
    ≡ (x == e && not (y == p))
elsewhere e x p y m pp yy mm = go (cases_order x e)
  where
    apart : (b : Bool) → x ≢ e → (x == e && b) ≡ false
    apart b ne = ap (λ z. z && b) (unequal x e ne)

    go : (x ≡ e) ⊎ ((x < e) ⊎ (e < x)) →
        ((nat_le ((e * 2 ^ 16 + 0) * 2 ^ 48) ((x * 2 ^ 16 + y) * 2 ^ 48 + m) && nat_lt ((x * 2 ^ 16 + y) * 2 ^ 48 + m) ((e * 2 ^ 16 + p) * 2 ^ 48))
        || (nat_le ((e * 2 ^ 16 + (p + 1)) * 2 ^ 48) ((x * 2 ^ 16 + y) * 2 ^ 48 + m) && nat_lt ((x * 2 ^ 16 + y) * 2 ^ 48 + m) ((e * 2 ^ 16 + 2 ^ 16) * 2 ^ 48)))
        ≡ (x == e && not (y == p))
    go (inr (inl less)) =
        two (nat_le ((e * 2 ^ 16 + 0) * 2 ^ 48) ((x * 2 ^ 16 + y) * 2 ^ 48 + m)) (nat_lt ((x * 2 ^ 16 + y) * 2 ^ 48 + m) ((e * 2 ^ 16 + p) * 2 ^ 48)) (nat_le ((e * 2 ^ 16 + (p + 1)) * 2 ^ 48) ((x * 2 ^ 16 + y) * 2 ^ 48 + m)) (nat_lt ((x * 2 ^ 16 + y) * 2 ^ 48 + m) ((e * 2 ^ 16 + 2 ^ 16) * 2 ^ 48)) (from_not _ _ (omega (arith, less, yy, mm))) (from_not _ _ (omega (arith, less, yy, mm))) ∙ sym (apart (not (y == p)) (λ s. omega (arith, less, s)))
    go (inr (inr more)) =
        ends (nat_le ((e * 2 ^ 16 + 0) * 2 ^ 48) ((x * 2 ^ 16 + y) * 2 ^ 48 + m)) (nat_lt ((x * 2 ^ 16 + y) * 2 ^ 48 + m) ((e * 2 ^ 16 + p) * 2 ^ 48)) (nat_le ((e * 2 ^ 16 + (p + 1)) * 2 ^ 48) ((x * 2 ^ 16 + y) * 2 ^ 48 + m)) (nat_lt ((x * 2 ^ 16 + y) * 2 ^ 48 + m) ((e * 2 ^ 16 + 2 ^ 16) * 2 ^ 48)) (below_not _ _ (omega (arith, more, pp))) (below_not _ _ (omega (arith, more, pp))) ∙ sym (apart (not (y == p)) (λ s. omega (arith, more, s)))
    go (inl same) = by (cases_order y p)
      where
        here : (b : Bool) → (y == p) ≡ b → (x == e && not (y == p)) ≡ not b
        here b f = ap (λ z. z && not (y == p)) (ap (λ k. k == e) same ∙ itself e) ∙ ap not f

        by : (y ≡ p) ⊎ ((y < p) ⊎ (p < y)) →
            ((nat_le ((e * 2 ^ 16 + 0) * 2 ^ 48) ((x * 2 ^ 16 + y) * 2 ^ 48 + m) && nat_lt ((x * 2 ^ 16 + y) * 2 ^ 48 + m) ((e * 2 ^ 16 + p) * 2 ^ 48))
            || (nat_le ((e * 2 ^ 16 + (p + 1)) * 2 ^ 48) ((x * 2 ^ 16 + y) * 2 ^ 48 + m) && nat_lt ((x * 2 ^ 16 + y) * 2 ^ 48 + m) ((e * 2 ^ 16 + 2 ^ 16) * 2 ^ 48)))
            ≡ (x == e && not (y == p))
        by (inl own) =
            let over : nat_lt ((x * 2 ^ 16 + y) * 2 ^ 48 + m) ((e * 2 ^ 16 + p) * 2 ^ 48) ≡ false = below_not _ _ (omega (arith, same, own)) in
            let short : nat_le ((e * 2 ^ 16 + (p + 1)) * 2 ^ 48) ((x * 2 ^ 16 + y) * 2 ^ 48 + m) ≡ false = from_not _ _ (omega (arith, same, own, mm)) in
            mixed (nat_le ((e * 2 ^ 16 + 0) * 2 ^ 48) ((x * 2 ^ 16 + y) * 2 ^ 48 + m)) (nat_lt ((x * 2 ^ 16 + y) * 2 ^ 48 + m) ((e * 2 ^ 16 + p) * 2 ^ 48)) (nat_le ((e * 2 ^ 16 + (p + 1)) * 2 ^ 48) ((x * 2 ^ 16 + y) * 2 ^ 48 + m)) (nat_lt ((x * 2 ^ 16 + y) * 2 ^ 48 + m) ((e * 2 ^ 16 + 2 ^ 16) * 2 ^ 48)) over short
            ∙ sym (here true (ap (λ k. k == p) own ∙ itself p))
        by (inr (inl lower)) =
            let reached : nat_le ((e * 2 ^ 16 + 0) * 2 ^ 48) ((x * 2 ^ 16 + y) * 2 ^ 48 + m) ≡ true = from_is _ _ (omega (arith, same)) in
            let under : nat_lt ((x * 2 ^ 16 + y) * 2 ^ 48 + m) ((e * 2 ^ 16 + p) * 2 ^ 48) ≡ true = below_is _ _ (omega (arith, same, lower, mm)) in
            left (nat_le ((e * 2 ^ 16 + 0) * 2 ^ 48) ((x * 2 ^ 16 + y) * 2 ^ 48 + m)) (nat_lt ((x * 2 ^ 16 + y) * 2 ^ 48 + m) ((e * 2 ^ 16 + p) * 2 ^ 48)) (nat_le ((e * 2 ^ 16 + (p + 1)) * 2 ^ 48) ((x * 2 ^ 16 + y) * 2 ^ 48 + m)) (nat_lt ((x * 2 ^ 16 + y) * 2 ^ 48 + m) ((e * 2 ^ 16 + 2 ^ 16) * 2 ^ 48)) reached under
            ∙ sym (here false (unequal y p (λ s. omega (arith, lower, s))))
        by (inr (inr higher)) =
            let reached : nat_le ((e * 2 ^ 16 + (p + 1)) * 2 ^ 48) ((x * 2 ^ 16 + y) * 2 ^ 48 + m) ≡ true = from_is _ _ (omega (arith, same, higher)) in
            let under : nat_lt ((x * 2 ^ 16 + y) * 2 ^ 48 + m) ((e * 2 ^ 16 + 2 ^ 16) * 2 ^ 48) ≡ true = below_is _ _ (omega (arith, same, yy, mm)) in
            right (nat_le ((e * 2 ^ 16 + 0) * 2 ^ 48) ((x * 2 ^ 16 + y) * 2 ^ 48 + m)) (nat_lt ((x * 2 ^ 16 + y) * 2 ^ 48 + m) ((e * 2 ^ 16 + p) * 2 ^ 48)) (nat_le ((e * 2 ^ 16 + (p + 1)) * 2 ^ 48) ((x * 2 ^ 16 + y) * 2 ^ 48 + m)) (nat_lt ((x * 2 ^ 16 + y) * 2 ^ 48 + m) ((e * 2 ^ 16 + 2 ^ 16) * 2 ^ 48)) reached under
            ∙ sym (here false (unequal y p (λ s. omega (arith, higher, s))))

-- a binding is of an ENode and on another port, by its number
pub moved_number : (enode : List ℕ) (port : ℕ) (b : Binding) → IsMac enode → port < 2 ^ 16 → IsWhole b →
    (is_between (number_from enode 0) (number_from enode port) b || is_between (number_from enode (port + 1)) (number_from enode (2 ^ 16)) b)
    ≡ (same_bytes b.enode enode && not (b.port == port))
moved_number enode port b mac range (own, other, fits) =
    elsewhere (big_endian enode) (big_endian b.enode) port b.port (big_endian b.mac) range fits (mac_range b.mac own)
    ∙ ap (λ z. z && not (b.port == port)) (sym (same_number b.enode enode other mac))

-- bindings of one number have one MAC
pub enode_number_is : (b c : Binding) → IsWhole b → IsWhole c → enode_number b ≡ enode_number c → mac_number b ≡ mac_number c
enode_number_is b c (bm, be, bp) (cm, ce, cp) e =
    ap big_endian (number_is b.mac c.mac bm cm (apart (big_endian b.enode * 2 ^ 16 + b.port) (big_endian c.enode * 2 ^ 16 + c.port) (big_endian b.mac) (big_endian c.mac) (mac_range b.mac bm) (mac_range c.mac cm) e))
  where
    apart : (a d p q : ℕ) → p < 2 ^ 48 → q < 2 ^ 48 → a * 2 ^ 48 + p ≡ d * 2 ^ 48 + q → p ≡ q
    apart a d p q low also e = omega (arith, low, also, e)

-- a binding between others of its ENode is of that ENode
pub enode_between : (enode : List ℕ) (from : ℕ) (x b : Binding) → IsMac enode → IsWhole x → IsWhole b → number_from enode 0 ≤ from → from ≤ enode_number x → enode_number x ≤ enode_number b → b.enode ≡ enode → x.enode ≡ enode
enode_between enode from x b mac (xm, xe, xp) (bm, be, bp) low reached least same =
    number_is x.enode enode xe mac (apart (big_endian enode) (big_endian x.enode) (big_endian b.enode) x.port b.port (big_endian x.mac) (big_endian b.mac) from xp bp (mac_range x.mac xm) (mac_range b.mac bm) low reached least (ap big_endian same))
  where
    apart : (e x b p q m n from : ℕ) → p < 2 ^ 16 → q < 2 ^ 16 → m < 2 ^ 48 → n < 2 ^ 48 → (e * 2 ^ 16 + 0) * 2 ^ 48 ≤ from → from ≤ (x * 2 ^ 16 + p) * 2 ^ 48 + m → (x * 2 ^ 16 + p) * 2 ^ 48 + m ≤ (b * 2 ^ 16 + q) * 2 ^ 48 + n → b ≡ e → x ≡ e
    apart e x b p q m n from pp qq mm nn low reached least same = omega (arith, pp, qq, mm, nn, low, reached, least, same)
