-- The first frame of captures is the next one in order.
use Rattle.std.proofs.Common.{◌≡◌, ℕ, suc, ◌+◌, ◌≤◌, ◌<◌, ◌==◌, nat_le, Bool, true, false, cond, List, [], ◌∷◌, ◌++◌, map, drop, append_assoc, Option, Some, None, refl, sym, ◌∙◌, ap, subst, arith}
use Rattle.std.proofs.lemmas.Bool.Decides.{nat_tests}
use Rattle.pcap_file.specs.declared.Record.{Record}
use Rattle.pcap_file.specs.Records.{Ascends}
use Rattle.fip_snoop.specs.Bridge.{Arrival, arrival, arrivals_from, with_arrival, in_order}
use Rattle.fip_snoop.specs.Queue.{sooner, least, without_first, AllAscend, LeastIsNext, NoneIsEnd}
use Rattle.fip_snoop.proofs.EachLemmas.{Each, each_both, each_in_order, each_weaker}

-- ---- frames from a moment on

abbrev IsFrom : ℕ → Arrival → Type 0
IsFrom m a = m ≤ a.moment

abbrev AllFrom : ℕ → List Arrival → Type 0
AllFrom m = Each (IsFrom m)

from_earlier : (m n : ℕ) (xs : List Arrival) → n ≤ m → AllFrom m xs → AllFrom n xs
from_earlier m n xs le all = each_weaker (IsFrom m) (IsFrom n) (λ a from. omega (arith, le, from)) xs all

-- ---- who goes first

-- a frame goes before those from its moment on
goes_first : (x : Arrival) (xs : List Arrival) → AllFrom x.moment xs → with_arrival x xs ≡ x ∷ xs
goes_first x [] all = refl
goes_first x (y ∷ ys) all = go (nat_le x.moment y.moment) (grind (arith, nat_tests, all.0))
  where
    go : (b : Bool) → b ≡ true → cond b (x ∷ y ∷ ys) (y ∷ with_arrival x ys) ≡ x ∷ y ∷ ys
    go b e = ap (λ b. cond b (x ∷ y ∷ ys) (y ∷ with_arrival x ys)) e

-- and behind one of an earlier moment
goes_behind : (x y : Arrival) (ys : List Arrival) → y.moment < x.moment → with_arrival x (y ∷ ys) ≡ y ∷ with_arrival x ys
goes_behind x y ys less = go (nat_le x.moment y.moment) (grind (arith, nat_tests, less))
  where
    go : (b : Bool) → b ≡ false → cond b (x ∷ y ∷ ys) (y ∷ with_arrival x ys) ≡ y ∷ with_arrival x ys
    go b e = ap (λ b. cond b (x ∷ y ∷ ys) (y ∷ with_arrival x ys)) e

leads : (us vs : List Arrival) (x : Arrival) → AllFrom (suc x.moment) us → AllFrom x.moment vs → in_order (us ++ x ∷ vs) ≡ x ∷ in_order (us ++ vs)
leads [] vs x later others = goes_first x (in_order vs) (each_in_order (IsFrom x.moment) vs others)
leads (u ∷ us) vs x later others =
    ap (with_arrival u) (leads us vs x later.1 others) ∙ goes_behind u x (in_order (us ++ vs)) (omega (arith, later.0))

-- ---- captures

rises : (port m : ℕ) (rs : List Record) → Ascends m rs → AllFrom m (map (arrival port) rs)
rises port m [] up = tt
rises port m (r ∷ rs) up = (up.0, from_earlier r.moment m (map (arrival port) rs) up.0 (rises port r.moment rs up.1))

-- where the first frame stands among those of all captures
record Stands (port : ℕ) (ins : List (List Record)) (a : Arrival) : Type 0 where
  before : List Arrival
  behind : List Arrival
  are : arrivals_from port ins ≡ before ++ a ∷ behind
  left : arrivals_from port (without_first a.port port ins) ≡ before ++ behind
  later : AllFrom (suc a.moment) before
  others : AllFrom a.moment behind
  beyond : port ≤ a.port

all_from : (port : ℕ) (ins : List (List Record)) (a : Arrival) → Stands port ins a → AllFrom a.moment (arrivals_from port ins)
all_from port ins a s =
    subst (AllFrom a.moment) (sym s.are) (each_both (IsFrom a.moment) s.before (a ∷ s.behind) (from_earlier (suc a.moment) a.moment s.before (omega arith) s.later) (omega arith, s.others))

none_there : NoneIsEnd
none_there port [] e = refl
none_there port ([] ∷ ins) e = none_there (port + 1) ins e
none_there port ((r ∷ rs) ∷ ins) e = absurd (cc)

-- that of a later port stays, whatever stands here
not_here : (port q : ℕ) (records : List Record) (ins : List (List Record)) → port + 1 ≤ q → without_first q port (records ∷ ins) ≡ records ∷ without_first q (port + 1) ins
not_here port q records ins beyond = go (port == q) (grind (arith, nat_tests, beyond))
  where
    go : (b : Bool) → b ≡ false → cond b (drop 1 records ∷ ins) (records ∷ without_first q (port + 1) ins) ≡ records ∷ without_first q (port + 1) ins
    go b e = ap (λ b. cond b (drop 1 records ∷ ins) (records ∷ without_first q (port + 1) ins)) e

here : (port : ℕ) (records : List Record) (ins : List (List Record)) → without_first port port (records ∷ ins) ≡ drop 1 records ∷ ins
here port records ins = go (port == port) (grind (arith, nat_tests))
  where
    go : (b : Bool) → b ≡ true → cond b (drop 1 records ∷ ins) (records ∷ without_first port (port + 1) ins) ≡ drop 1 records ∷ ins
    go b e = ap (λ b. cond b (drop 1 records ∷ ins) (records ∷ without_first port (port + 1) ins)) e

stands : (port : ℕ) (ins : List (List Record)) (a : Arrival) → AllAscend ins → least port ins ≡ Some a → Stands port ins a
stands port [] a up e = absurd (cc)
stands port ([] ∷ ins) a up e =
    let s = stands (port + 1) ins a up.1 e in
    record {
      before = s.before;
      behind = s.behind;
      are = s.are;
      left = ap (arrivals_from port) (not_here port a.port [] ins s.beyond) ∙ s.left;
      later = s.later;
      others = s.others;
      beyond = omega (arith, s.beyond);
    }
stands port ((r ∷ rs) ∷ ins) a up e = go (least (port + 1) ins) refl (λ b e. stands (port + 1) ins b up.1 e) e
  where
    own : AllFrom r.moment (map (arrival port) rs)
    own = rises port r.moment rs up.0.1

    first : AllFrom r.moment (arrivals_from (port + 1) ins) → Stands port ((r ∷ rs) ∷ ins) (arrival port r)
    first others = record {
      before = [];
      behind = map (arrival port) rs ++ arrivals_from (port + 1) ins;
      are = refl;
      left = ap (arrivals_from port) (here port (r ∷ rs) ins);
      later = tt;
      others = each_both (IsFrom r.moment) (map (arrival port) rs) (arrivals_from (port + 1) ins) own others;
      beyond = omega arith;
    }

    behind : (b : Arrival) → b.moment < r.moment → Stands (port + 1) ins b → Stands port ((r ∷ rs) ∷ ins) b
    behind b less s = record {
      before = map (arrival port) (r ∷ rs) ++ s.before;
      behind = s.behind;
      are = ap (λ l. map (arrival port) (r ∷ rs) ++ l) s.are ∙ sym (append_assoc (map (arrival port) (r ∷ rs)) s.before (b ∷ s.behind));
      left = ap (arrivals_from port) (not_here port b.port (r ∷ rs) ins s.beyond) ∙ ap (λ l. map (arrival port) (r ∷ rs) ++ l) s.left ∙ sym (append_assoc (map (arrival port) (r ∷ rs)) s.before s.behind);
      later = each_both (IsFrom (suc b.moment)) (map (arrival port) (r ∷ rs)) s.before (omega (arith, less), from_earlier r.moment (suc b.moment) (map (arrival port) rs) (omega (arith, less)) own) s.later;
      others = s.others;
      beyond = omega (arith, s.beyond);
    }

    go : (o : Option Arrival) → least (port + 1) ins ≡ o → ((b : Arrival) → least (port + 1) ins ≡ Some b → Stands (port + 1) ins b) → Some (sooner (arrival port r) o) ≡ Some a → Stands port ((r ∷ rs) ∷ ins) a
    go None is later e = subst (stands_if) e (first (subst (AllFrom r.moment) (sym (none_there (port + 1) ins is)) tt))
      where
        stands_if : Option Arrival → Type 0
        stands_if None = Unit {0}
        stands_if (Some b) = Stands port ((r ∷ rs) ∷ ins) b
    go (Some b) is later e = by (nat_le r.moment b.moment) refl e
      where
        stands_if : Option Arrival → Type 0
        stands_if None = Unit {0}
        stands_if (Some b) = Stands port ((r ∷ rs) ∷ ins) b

        by : (t : Bool) → nat_le r.moment b.moment ≡ t → Some (cond t (arrival port r) b) ≡ Some a → Stands port ((r ∷ rs) ∷ ins) a
        by true le e = subst (stands_if) e (first (from_earlier b.moment r.moment (arrivals_from (port + 1) ins) (grind (arith, nat_tests)) (all_from (port + 1) ins b (later b is))))
        by false less e = subst (stands_if) e (behind b (grind (arith, nat_tests)) (later b is))

pub least_is_next : LeastIsNext
least_is_next port ins a up e =
    let s = stands port ins a up e in
    ap in_order s.are ∙ leads s.before s.behind a s.later s.others ∙ ap (λ l. a ∷ in_order l) (sym s.left)

pub none_is_end : NoneIsEnd
none_is_end = none_there
