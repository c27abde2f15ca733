-- The head of what is left of captures.
use Rattle.std.proofs.Common.{◌≡◌, ℕ, zero, suc, ◌+◌, ◌-◌, ◌<◌, nat_le, nat_lt, Bool, true, false, cond, List, [], ◌∷◌, drop, length, slice_get, get_or, Option, Some, None, option_map, refl, sym, ◌∙◌, ap, arith}
use Rattle.std.proofs.lemmas.Bool.Decides.{nat_tests}
use Rattle.std.proofs.lemmas.Option.{slice_get_read, slice_get-get_or}
use Rattle.pcap_file.specs.declared.Record.{Record}
use Rattle.fip_snoop.specs.declared.queue.Head.{Head}
use Rattle.fip_snoop.specs.Bridge.{Arrival, arrival}
use Rattle.fip_snoop.specs.Queue.{sooner, least, left_in, head_of, next_moment, sooner_head}

pub left_count : (ins : List (List Record)) (places : List ℕ) → length places ≡ length ins → length (left_in ins places) ≡ length ins
left_count [] places e = refl
left_count (rs ∷ ins) [] e = absurd (omega (arith, e))
left_count (rs ∷ ins) (k ∷ places) e = ap suc (left_count ins places (omega (arith, e)))

-- what is left at a place
pub left_at : (ins : List (List Record)) (places : List ℕ) (i : ℕ) (rs : List Record) (k : ℕ) → slice_get ins i ≡ Some rs → slice_get places i ≡ Some k → drop i (left_in ins places) ≡ drop k rs ∷ drop (suc i) (left_in ins places)
left_at [] places zero rs k e f = absurd (cc)
left_at [] places (suc i) rs k e f = absurd (cc)
left_at (r ∷ ins) [] zero rs k e f = absurd (cc)
left_at (r ∷ ins) [] (suc i) rs k e f = absurd (cc)
left_at (r ∷ ins) (p ∷ places) zero rs k e f = ap (λ q. q ∷ left_in ins places) (both r rs p k (some_is e) (some_is f))
  where
    some_is : {X : Type 0} {x y : X} → Some x ≡ Some y → x ≡ y
    some_is e = cc

    both : (r rs : List Record) (p k : ℕ) → r ≡ rs → p ≡ k → drop p r ≡ drop k rs
    both r rs p k e f = ap (drop p) e ∙ ap (λ n. drop n rs) f
left_at (r ∷ ins) (p ∷ places) (suc i) rs k e f = left_at ins places i rs k e f

-- the moment there, by what a look finds
pub moment_at : (rs : List Record) (k : ℕ) (more : List (List Record)) → next_moment (drop k rs ∷ more) ≡ option_map (λ (r : Record). r.moment) (slice_get rs k)
moment_at [] zero more = refl
moment_at [] (suc k) more = refl
moment_at (r ∷ rs) zero more = refl
moment_at (r ∷ rs) (suc k) more = moment_at rs k more

-- the head of captures by that of the first and those behind it
pub least_head : (port : ℕ) (q : List Record) (ins : List (List Record)) → option_map head_of (least (port + 1) (q ∷ ins)) ≡ sooner_head port (next_moment (q ∷ ins)) (option_map head_of (least (port + 1 + 1) ins))
least_head port [] ins = refl
least_head port (r ∷ rs) ins = go (least (port + 1 + 1) ins)
  where
    tests : (b : Arrival) (x y : Bool) → nat_le r.moment b.moment ≡ x → nat_lt b.moment r.moment ≡ y →
        Some (head_of (cond x (arrival (port + 1) r) b)) ≡ cond y (Some (head_of b)) (Some (record { port = port + 1; moment = r.moment }))
    tests b true true e f = absurd (grind (arith, nat_tests))
    tests b true false e f = refl
    tests b false true e f = refl
    tests b false false e f = absurd (grind (arith, nat_tests))

    go : (o : Option Arrival) → Some (head_of (sooner (arrival (port + 1) r) o)) ≡ sooner_head port (Some r.moment) (option_map head_of o)
    go None = refl
    go (Some b) = tests b (nat_le r.moment b.moment) (nat_lt b.moment r.moment) refl refl

-- the moment of the next frame, by what was found
pub moment_found : (ins : List (List Record)) (places : List ℕ) (i : ℕ) (rs : List Record) (o : Option Record) → length places ≡ length ins → i < length ins → rs ≡ get_or ins i rs → o ≡ slice_get rs (get_or places i 0)
    → option_map (λ (r : Record). r.moment) o ≡ next_moment (drop i (left_in ins places))
moment_found ins places i rs o count less at found =
    let k = get_or places i 0 in
    let here = slice_get_read ins (length ins) i rs refl less at in
    let place = slice_get-get_or places i 0 (omega (arith, count, less)) in
    ap (option_map (λ (r : Record). r.moment)) found ∙ sym (moment_at rs k (drop (suc i) (left_in ins places))) ∙ ap next_moment (sym (left_at ins places i rs k here place))

-- ---- the loop over the ports, from the last one on

drop_all : {X : Type 0} (xs : List X) (n : ℕ) → n ≡ length xs → drop n xs ≡ []
drop_all [] n e = ap (λ k. drop k []) e
drop_all (x ∷ xs) n e = ap (λ k. drop k (x ∷ xs)) e ∙ drop_all xs (length xs) refl

pub none_behind : (L : List (List Record)) (n : ℕ) → n ≡ length L → None ≡ option_map head_of (least (n - 0 + 1) (drop (n - 0) L))
none_behind L n e = ap (λ l. option_map head_of (least (n - 0 + 1) l)) (sym (drop_all L (n - 0) (omega (arith, e))))

one_at : (L : List (List Record)) (i : ℕ) → i < length L → (q : List Record) × (drop i L ≡ q ∷ drop (suc i) L)
one_at [] i less = absurd (omega (arith, less))
one_at (q ∷ L) zero less = (q, refl)
one_at (q ∷ L) (suc i) less = one_at L i (omega (arith, less))

pub one_more : (L : List (List Record)) (n done place : ℕ) (best now : Option Head) (moment : Option ℕ) → n ≡ length L → done < n → place ≡ n - 1 - done
    → best ≡ option_map head_of (least (n - done + 1) (drop (n - done) L)) → moment ≡ next_moment (drop place L) → now ≡ sooner_head place moment best
    → now ≡ option_map head_of (least (n - (done + 1) + 1) (drop (n - (done + 1)) L))
one_more L n done place best now moment count less at was says made =
    let here : place ≡ n - (done + 1) = omega (arith, at, less) in
    let behind : n - done ≡ place + 1 = omega (arith, at, less) in
    let there = one_at L place (omega (arith, at, less, count)) in
    let next : suc place ≡ place + 1 = omega arith in
    let one : (q : List Record) × (drop place L ≡ q ∷ drop (place + 1) L) = (there.0, there.1 ∙ ap (λ k. there.0 ∷ drop k L) next) in
    made
    ∙ ap (λ m. sooner_head place m best) (says ∙ ap next_moment one.1)
    ∙ ap (sooner_head place (next_moment (one.0 ∷ drop (place + 1) L))) (was ∙ ap (λ k. option_map head_of (least (k + 1) (drop k L))) behind)
    ∙ sym (least_head place one.0 (drop (place + 1) L))
    ∙ ap (λ l. option_map head_of (least (place + 1) l)) (sym one.1)
    ∙ ap (λ k. option_map head_of (least (k + 1) (drop k L))) here
