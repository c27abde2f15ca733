-- The span of frames is told by the first and the last record of each capture.
use Rattle.std.proofs.Common.{◌≡◌, ℕ, zero, suc, ◌+◌, ◌-◌, ◌^◌, ◌≤◌, min, max, nat_le, nat_lt, Bool, true, false, cond, List, [], ◌∷◌, ◌++◌, map, drop, length, Some, None, refl, sym, ◌∙◌, ap, subst, arith}
use Rattle.std.specs.Prelude.{slice_get}
use Rattle.std.proofs.lemmas.Bool.Decides.{nat_tests}
use Rattle.pcap_file.specs.declared.Record.{Record}
use Rattle.pcap_file.specs.Records.{Ascends}
use Rattle.pcap_file.specs.Records as records
use Rattle.fip_snoop.specs.Bridge.{Arrival, arrival, arrivals, arrivals_from, with_arrival, in_order, last_moment, is_too_long}
use Rattle.fip_snoop.specs.Queue.{AllAscend}
use Rattle.pcap_file.specs.Captures.{AreFit}
use Rattle.side_runs.specs.Records.{AllFit, first_moment}

-- the greatest moment less the least, beside these two
abbrev pub spread : ℕ → ℕ → List Arrival → ℕ
spread lo hi [] = hi - lo
spread lo hi (x ∷ xs) = spread (min lo x.moment) (max hi x.moment) xs

same : (a b c d : ℕ) (xs : List Arrival) → a ≡ b → c ≡ d → spread a c xs ≡ spread b d xs
same a b c d xs e f = ap (λ (n : ℕ). spread n c xs) e ∙ ap (λ (n : ℕ). spread b n xs) f

-- ---- in any order it is the same

spread_with : (lo hi : ℕ) (x : Arrival) (xs : List Arrival) → spread lo hi (with_arrival x xs) ≡ spread (min lo x.moment) (max hi x.moment) xs
spread_with lo hi x [] = refl
spread_with lo hi x (y ∷ ys) = go (nat_le x.moment y.moment) (spread_with (min lo y.moment) (max hi y.moment) x ys)
  where
    go : (b : Bool) → spread (min lo y.moment) (max hi y.moment) (with_arrival x ys) ≡ spread (min (min lo y.moment) x.moment) (max (max hi y.moment) x.moment) ys
        → spread lo hi (cond b (x ∷ y ∷ ys) (y ∷ with_arrival x ys)) ≡ spread (min lo x.moment) (max hi x.moment) (y ∷ ys)
    go true later = refl
    go false later =
        later
        ∙ same (min (min lo y.moment) x.moment) (min (min lo x.moment) y.moment) (max (max hi y.moment) x.moment) (max (max hi x.moment) y.moment) ys (omega arith) (omega arith)

spread_order : (lo hi : ℕ) (xs : List Arrival) → spread lo hi (in_order xs) ≡ spread lo hi xs
spread_order lo hi [] = refl
spread_order lo hi (x ∷ xs) = spread_with lo hi x (in_order xs) ∙ spread_order (min lo x.moment) (max hi x.moment) xs

-- ---- in order it is the last moment less the first

abbrev Rises : ℕ → List Arrival → Type 0
Rises m [] = Unit {0}
Rises m (x ∷ xs) = (m ≤ x.moment) × Rises x.moment xs

rises_with : (m : ℕ) (x : Arrival) (xs : List Arrival) → m ≤ x.moment → Rises m xs → Rises m (with_arrival x xs)
rises_with m x [] le up = (le, tt)
rises_with m x (y ∷ ys) le up = go (nat_le x.moment y.moment) refl (λ before. rises_with y.moment x ys before up.1)
  where
    go : (b : Bool) → nat_le x.moment y.moment ≡ b → (y.moment ≤ x.moment → Rises y.moment (with_arrival x ys)) → Rises m (cond b (x ∷ y ∷ ys) (y ∷ with_arrival x ys))
    go true e later = (le, (grind (arith, nat_tests, e), up.1))
    go false e later = (up.0, later (grind (arith, nat_tests, e)))

rises_order : (xs : List Arrival) → Rises 0 (in_order xs)
rises_order [] = tt
rises_order (x ∷ xs) = rises_with 0 x (in_order xs) (omega arith) (rises_order xs)

spread_rises : (lo hi : ℕ) (xs : List Arrival) → lo ≤ hi → Rises hi xs → spread lo hi xs ≡ last_moment hi xs - lo
spread_rises lo hi [] le up = refl
spread_rises lo hi (x ∷ xs) le up =
    same (min lo x.moment) lo (max hi x.moment) x.moment xs (omega (arith, le, up.0)) (omega (arith, up.0)) ∙ spread_rises lo x.moment xs (omega (arith, le, up.0)) up.1

-- all moments are at most this one
abbrev AllTo : ℕ → List Arrival → Type 0
AllTo m [] = Unit {0}
AllTo m (x ∷ xs) = (x.moment ≤ m) × AllTo m xs

to_with : (m : ℕ) (x : Arrival) (xs : List Arrival) → x.moment ≤ m → AllTo m xs → AllTo m (with_arrival x xs)
to_with m x [] le all = (le, tt)
to_with m x (y ∷ ys) le all = go (nat_le x.moment y.moment) (to_with m x ys le all.1)
  where
    go : (b : Bool) → AllTo m (with_arrival x ys) → AllTo m (cond b (x ∷ y ∷ ys) (y ∷ with_arrival x ys))
    go true later = (le, all)
    go false later = (all.0, later)

to_order : (m : ℕ) (xs : List Arrival) → AllTo m xs → AllTo m (in_order xs)
to_order m [] all = tt
to_order m (x ∷ xs) all = to_with m x (in_order xs) all.0 (to_order m xs all.1)

ordered_span : (top : ℕ) (xs : List Arrival) → AllTo top xs → Rises 0 xs → is_too_long xs ≡ nat_lt 21600000 (spread top 0 xs)
ordered_span top [] all up = ap (nat_lt 21600000) (let e : 0 ≡ 0 - top = omega arith in e)
ordered_span top (a ∷ more) all up =
    ap (nat_lt 21600000)
    (sym (same (min top a.moment) a.moment (max 0 a.moment) a.moment more (omega (arith, all.0)) (omega arith) ∙ spread_rises a.moment a.moment more (omega arith) up.1))

-- ---- captures

fit_to : (port : ℕ) (rs : List Record) → AreFit rs → AllTo (2 ^ 64 - 1) (map (arrival port) rs)
fit_to port [] fit = tt
fit_to port (r ∷ rs) fit = (let f = fit.0 in omega arith, fit_to port rs fit.2)

to_both : (m : ℕ) (xs ys : List Arrival) → AllTo m xs → AllTo m ys → AllTo m (xs ++ ys)
to_both m [] ys one other = other
to_both m (x ∷ xs) ys one other = (one.0, to_both m xs ys one.1 other)

all_to : (port : ℕ) (ins : List (List Record)) → AllFit ins → AllTo (2 ^ 64 - 1) (arrivals_from port ins)
all_to port [] fit = tt
all_to port (rs ∷ ins) fit = to_both (2 ^ 64 - 1) (map (arrival port) rs) (arrivals_from (port + 1) ins) (fit_to port rs fit.0) (all_to (port + 1) ins fit.1)

pub span_is : (ins : List (List Record)) → AllFit ins → is_too_long (arrivals ins) ≡ nat_lt 21600000 (spread (2 ^ 64 - 1) 0 (arrivals_from 1 ins))
span_is ins fit =
    let xs = arrivals_from 1 ins in
    ordered_span (2 ^ 64 - 1) (in_order xs) (to_order (2 ^ 64 - 1) xs (all_to 1 ins fit)) (rises_order xs) ∙ ap (nat_lt 21600000) (spread_order (2 ^ 64 - 1) 0 xs)

last_least : (m : ℕ) (rs : List Record) → Ascends m rs → m ≤ records.last_moment m rs
last_least m [] up = omega arith
last_least m (r ∷ rs) up = let h = last_least r.moment rs up.1 in omega (arith, up.0)

spread_more : (port lo hi m : ℕ) (rs : List Record) (rest : List Arrival) → lo ≤ m → m ≤ hi → Ascends m rs → spread lo hi (map (arrival port) rs ++ rest) ≡ spread lo (max hi (records.last_moment m rs)) rest
spread_more port lo hi m [] rest le up ascends = same lo lo hi (max hi m) rest refl (omega (arith, up))
spread_more port lo hi m (r ∷ rs) rest le up ascends =
    let last = last_least r.moment rs ascends.1 in
    same (min lo r.moment) lo (max hi r.moment) (max hi r.moment) (map (arrival port) rs ++ rest) (omega (arith, le, ascends.0)) refl
    ∙ spread_more port lo (max hi r.moment) r.moment rs rest (omega (arith, le, ascends.0)) (omega arith) ascends.1
    ∙ same lo lo (max (max hi r.moment) (records.last_moment r.moment rs)) (max hi (records.last_moment r.moment rs)) rest refl (omega (arith, last))

pub spread_capture : (port lo hi : ℕ) (rs : List Record) (rest : List Arrival) → Ascends 0 rs → spread lo hi (map (arrival port) rs ++ rest) ≡ spread (min lo (first_moment lo rs)) (max hi (records.last_moment 0 rs)) rest
spread_capture port lo hi [] rest up = same lo (min lo lo) hi (max hi 0) rest (omega arith) (omega arith)
spread_capture port lo hi (r ∷ rs) rest up =
    let last = last_least r.moment rs up.1 in
    spread_more port (min lo r.moment) (max hi r.moment) r.moment rs rest (omega arith) (omega arith) up.1
    ∙ same (min lo r.moment) (min lo r.moment) (max (max hi r.moment) (records.last_moment r.moment rs)) (max hi (records.last_moment r.moment rs)) rest refl (omega (arith, last))

-- the record before the end
pub last_at : (m : ℕ) (rs : List Record) (k : ℕ) (r : Record) → slice_get rs k ≡ Some r → suc k ≡ length rs → r.moment ≡ records.last_moment m rs
last_at m [] k r at end = absurd (omega (arith, end))
last_at m (x ∷ []) zero r at end = let is : r ≡ x = cc in ap (λ (y : Record). y.moment) is
last_at m (x ∷ y ∷ rs) zero r at end = absurd (omega (arith, end))
last_at m (x ∷ rs) (suc k) r at end = last_at x.moment rs k r at (omega (arith, end))

-- one capture further
pub spread_next : (ins : List (List Record)) (k : ℕ) (rs : List Record) (lo hi : ℕ) → AllAscend ins → slice_get ins k ≡ Some rs →
    spread lo hi (arrivals_from (k + 1) (drop k ins)) ≡ spread (min lo (first_moment lo rs)) (max hi (records.last_moment 0 rs)) (arrivals_from (k + 1 + 1) (drop (k + 1) ins))
spread_next ins k rs lo hi up at =
    let next = item_at ins k up at in
    ap (λ l. spread lo hi (arrivals_from (k + 1) l)) next.0 ∙ spread_capture (k + 1) lo hi rs (arrivals_from (k + 1 + 1) (drop (k + 1) ins)) next.1
  where
    item_at : (ins : List (List Record)) (k : ℕ) → AllAscend ins → slice_get ins k ≡ Some rs → (drop k ins ≡ rs ∷ drop (k + 1) ins) × Ascends 0 rs
    item_at [] k up at = absurd (cc)
    item_at (x ∷ ins) zero up at = let is : x ≡ rs = cc in (ap (λ (y : List Record). y ∷ ins) is, subst (Ascends 0) is up.0)
    item_at (x ∷ ins) (suc k) up at =
        let h = item_at ins k up.1 at in
        (h.0 ∙ ap (λ n. rs ∷ drop n (x ∷ ins)) (let e : suc (k + 1) ≡ suc k + 1 = omega arith in e), h.1)

pub spread_end : (ins : List (List Record)) (k port lo hi : ℕ) → length ins ≤ k → spread lo hi (arrivals_from port (drop k ins)) ≡ hi - lo
spread_end [] zero port lo hi le = refl
spread_end [] (suc k) port lo hi le = refl
spread_end (rs ∷ ins) zero port lo hi le = absurd (omega (arith, le))
spread_end (rs ∷ ins) (suc k) port lo hi le = spread_end ins k port lo hi (omega (arith, le))

pub last_none : (m : ℕ) (rs : List Record) (k : ℕ) → slice_get rs k ≡ None → suc k ≡ length rs → m ≡ records.last_moment m rs
last_none m [] k at end = absurd (omega (arith, end))
last_none m (x ∷ rs) zero at end = absurd (cc)
last_none m (x ∷ rs) (suc k) at end = absurd (none_past rs k at (omega (arith, end)))
  where
    none_past : (rs : List Record) (k : ℕ) → slice_get rs k ≡ None → suc k ≡ length rs → ⊥
    none_past [] k at end = absurd (omega (arith, end))
    none_past (y ∷ rs) zero at end = absurd (cc)
    none_past (y ∷ rs) (suc k) at end = none_past rs k at (omega (arith, end))
