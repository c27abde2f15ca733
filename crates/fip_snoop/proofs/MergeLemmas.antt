-- The frames of several captures in the order in which they are handled.
use Rattle.std.proofs.Common.{◌≡◌, ℕ, ◌+◌, ◌≤◌, ◌<◌, ◌==◌, nat_le, Bool, true, false, cond, List, [], ◌∷◌, ◌++◌, map, filter, inl, inr, refl, ◌∙◌, ap, subst, arith}
use Rattle.std.proofs.lemmas.Bool.{cases_lt}
use Rattle.std.proofs.lemmas.Bool.Decides.{nat_tests}
use Rattle.pcap_file.specs.declared.Record.{Record}
use Rattle.pcap_file.specs.Records.{Ascends}
use Rattle.fip_snoop.specs.Bridge.{Arrival, arrival, arrivals_from, with_arrival, in_order, IsBefore, IsBeforeNext, AreInOrder, ArrivalsAreInOrder}
use Rattle.fip_snoop.specs.Queue.{AllAscend, records_of, PortsKeepTheirOrder}
use Rattle.fip_snoop.proofs.EachLemmas.{Each, each_both, each_in_order, each_weaker}

-- ---- ports from one on

abbrev IsPortFrom : ℕ → Arrival → Type 0
IsPortFrom p a = p ≤ a.port

abbrev PortsFrom : ℕ → List Arrival → Type 0
PortsFrom p = Each (IsPortFrom p)

ports_lower : (p q : ℕ) (xs : List Arrival) → q ≤ p → PortsFrom p xs → PortsFrom q xs
ports_lower p q xs le all = each_weaker (IsPortFrom p) (IsPortFrom q) (λ a from. omega (arith, le, from)) xs all

ports_of : (port : ℕ) (rs : List Record) → PortsFrom port (map (arrival port) rs)
ports_of port [] = tt
ports_of port (r ∷ rs) = (omega arith, ports_of port rs)

ports_behind : (port : ℕ) (ins : List (List Record)) → PortsFrom port (arrivals_from port ins)
ports_behind port [] = tt
ports_behind port (records ∷ ins) =
    each_both (IsPortFrom port) (map (arrival port) records) (arrivals_from (port + 1) ins) (ports_of port records) (ports_lower (port + 1) port (arrivals_from (port + 1) ins) (omega arith) (ports_behind (port + 1) ins))

-- ---- by moment and then by port

reached : (m n : ℕ) → nat_le m n ≡ true → m ≤ n
reached m n e = grind (arith, nat_tests)

passed_by : (m n : ℕ) → nat_le m n ≡ false → n < m
passed_by m n e = grind (arith, nat_tests)

before : (x y : Arrival) → x.moment ≤ y.moment → x.port ≤ y.port → IsBefore x y
before x y le port = elim (cases_lt x.moment y.moment) [
  | inl less ↦ inl less
  | inr more ↦ inr (omega (arith, le, more), port)
]

next_with : (x y : Arrival) (ys : List Arrival) → y.moment < x.moment → IsBeforeNext y ys → IsBeforeNext y (with_arrival x ys)
next_with x y [] less is = inl less
next_with x y (z ∷ zs) less is = go (nat_le x.moment z.moment)
  where
    go : (b : Bool) → IsBeforeNext y (cond b (x ∷ z ∷ zs) (z ∷ with_arrival x zs))
    go true = inl less
    go false = is

ordered_with : (x : Arrival) (ys : List Arrival) → PortsFrom x.port ys → AreInOrder ys → AreInOrder (with_arrival x ys)
ordered_with x [] from are = (tt, tt)
ordered_with x (y ∷ ys) from are = go (nat_le x.moment y.moment) refl (ordered_with x ys from.1 are.1)
  where
    go : (b : Bool) → nat_le x.moment y.moment ≡ b → AreInOrder (with_arrival x ys) → AreInOrder (cond b (x ∷ y ∷ ys) (y ∷ with_arrival x ys))
    go true e later = (before x y (reached x.moment y.moment e) from.0, are)
    go false e later = (next_with x y ys (passed_by x.moment y.moment e) are.0, later)

ordered_both : (port : ℕ) (rs : List Record) (rest : List Arrival) → PortsFrom port rest → AreInOrder (in_order rest) → AreInOrder (in_order (map (arrival port) rs ++ rest))
ordered_both port [] rest from are = are
ordered_both port (r ∷ rs) rest from are =
    ordered_with (arrival port r) (in_order (map (arrival port) rs ++ rest)) (each_in_order (IsPortFrom port) (map (arrival port) rs ++ rest) (each_both (IsPortFrom port) (map (arrival port) rs) rest (ports_of port rs) from))
    (ordered_both port rs rest from are)

ordered_from : (port : ℕ) (ins : List (List Record)) → AreInOrder (in_order (arrivals_from port ins))
ordered_from port [] = tt
ordered_from port (records ∷ ins) =
    ordered_both port records (arrivals_from (port + 1) ins) (ports_lower (port + 1) port (arrivals_from (port + 1) ins) (omega arith) (ports_behind (port + 1) ins)) (ordered_from (port + 1) ins)

pub arrivals_are_in_order : ArrivalsAreInOrder
arrivals_are_in_order ins = ordered_from 1 ins

-- ---- the frames of one port

abbrev of : ℕ → List Arrival → List Arrival
of q xs = filter (λ a. a.port == q) xs

-- those of a port have moments from this one on
abbrev IsOwnFrom : ℕ → ℕ → Arrival → Type 0
IsOwnFrom q m a = (a.port == q) ≡ true → m ≤ a.moment

abbrev OwnFrom : ℕ → ℕ → List Arrival → Type 0
OwnFrom q m = Each (IsOwnFrom q m)

own_rises : (q m : ℕ) (rs : List Record) → Ascends m rs → OwnFrom q m (map (arrival q) rs)
own_rises q m [] up = tt
own_rises q m (r ∷ rs) up = ((λ here. up.0), each_weaker (IsOwnFrom q r.moment) (IsOwnFrom q m) (λ a from here. omega (arith, up.0, from here)) (map (arrival q) rs) (own_rises q r.moment rs up.1))

above : (q p : ℕ) → q + 1 ≤ p → (p == q) ≡ true → ⊥
above q p le e = grind (arith, nat_tests)

apart : (q p : ℕ) → q + 1 ≤ p → (p == q) ≡ false
apart q p le = grind (arith, nat_tests)

own_others : (q m : ℕ) (xs : List Arrival) → PortsFrom (q + 1) xs → OwnFrom q m xs
own_others q m [] from = tt
own_others q m (x ∷ xs) from = ((λ here. absurd (above q x.port from.0 here)), own_others q m xs from.1)

none_of : (q : ℕ) (xs : List Arrival) → PortsFrom (q + 1) xs → of q xs ≡ []
none_of q [] from = refl
none_of q (x ∷ xs) from = ap (λ b. cond b (x ∷ of q xs) (of q xs)) (apart q x.port from.0) ∙ none_of q xs from.1

-- one of another port makes no difference
other_with : (q : ℕ) (x : Arrival) (ys : List Arrival) → (x.port == q) ≡ false → of q (with_arrival x ys) ≡ of q ys
other_with q x [] e = ap (λ b. cond b (x ∷ []) []) e
other_with q x (y ∷ ys) e = go (nat_le x.moment y.moment) (other_with q x ys e)
  where
    go : (b : Bool) → of q (with_arrival x ys) ≡ of q ys → of q (cond b (x ∷ y ∷ ys) (y ∷ with_arrival x ys)) ≡ of q (y ∷ ys)
    go true later = ap (λ b. cond b (x ∷ of q (y ∷ ys)) (of q (y ∷ ys))) e
    go false later = ap (λ l. cond (y.port == q) (y ∷ l) l) later

-- one of this port comes before those from its moment on
own_first : (q : ℕ) (x : Arrival) (ys : List Arrival) → (x.port == q) ≡ true → OwnFrom q x.moment ys → of q (with_arrival x ys) ≡ x ∷ of q ys
own_first q x [] e from = ap (λ b. cond b (x ∷ []) []) e
own_first q x (y ∷ ys) e from = go (nat_le x.moment y.moment) refl (own_first q x ys e from.1)
  where
    go : (b : Bool) → nat_le x.moment y.moment ≡ b → of q (with_arrival x ys) ≡ x ∷ of q ys → of q (cond b (x ∷ y ∷ ys) (y ∷ with_arrival x ys)) ≡ x ∷ of q (y ∷ ys)
    go true f later = ap (λ b. cond b (x ∷ of q (y ∷ ys)) (of q (y ∷ ys))) e
    go false f later = by (y.port == q) refl
      where
        by : (c : Bool) → (y.port == q) ≡ c → cond c (y ∷ of q (with_arrival x ys)) (of q (with_arrival x ys)) ≡ x ∷ cond c (y ∷ of q ys) (of q ys)
        by true here = absurd (omega (arith, from.0 here, passed_by x.moment y.moment f))
        by false other = later

of_own : (q m : ℕ) (rs : List Record) (rest : List Arrival) → Ascends m rs → PortsFrom (q + 1) rest → of q (in_order (map (arrival q) rs ++ rest)) ≡ map (arrival q) rs
of_own q m [] rest up from = none_of q (in_order rest) (each_in_order (IsPortFrom (q + 1)) rest from)
of_own q m (r ∷ rs) rest up from =
    own_first q (arrival q r) (in_order (map (arrival q) rs ++ rest)) (itself q)
    (each_in_order (IsOwnFrom q r.moment) (map (arrival q) rs ++ rest) (each_both (IsOwnFrom q r.moment) (map (arrival q) rs) rest (own_rises q r.moment rs up.1) (own_others q r.moment rest from)))
    ∙ ap (λ l. arrival q r ∷ l) (of_own q r.moment rs rest up.1 from)
  where
    itself : (n : ℕ) → (n == n) ≡ true
    itself n = grind (arith, nat_tests)

of_other : (q port : ℕ) (rs : List Record) (rest : List Arrival) → (port == q) ≡ false → of q (in_order (map (arrival port) rs ++ rest)) ≡ of q (in_order rest)
of_other q port [] rest e = refl
of_other q port (r ∷ rs) rest e = other_with q (arrival port r) (in_order (map (arrival port) rs ++ rest)) e ∙ of_other q port rs rest e

of_from : (q port : ℕ) (ins : List (List Record)) → AllAscend ins → of q (in_order (arrivals_from port ins)) ≡ map (arrival q) (records_of q port ins)
of_from q port [] up = refl
of_from q port (records ∷ ins) up = go (port == q) refl (of_from q (port + 1) ins up.1)
  where
    equal : (m n : ℕ) → (m == n) ≡ true → m ≡ n
    equal m n e = grind (arith, nat_tests)

    go : (b : Bool) → (port == q) ≡ b → of q (in_order (arrivals_from (port + 1) ins)) ≡ map (arrival q) (records_of q (port + 1) ins)
        → of q (in_order (map (arrival port) records ++ arrivals_from (port + 1) ins)) ≡ map (arrival q) (cond b records (records_of q (port + 1) ins))
    go true e later =
        subst (λ (p : ℕ). of p (in_order (map (arrival port) records ++ arrivals_from (port + 1) ins)) ≡ map (arrival p) records) (equal port q e)
        (of_own port 0 records (arrivals_from (port + 1) ins) up.0 (ports_behind (port + 1) ins))
    go false e later = of_other q port records (arrivals_from (port + 1) ins) e ∙ later

pub ports_keep_their_order : PortsKeepTheirOrder
ports_keep_their_order ins q up = of_from q 1 ins up
