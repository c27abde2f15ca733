-- The next frame of captures, by how many frames of each were handled.
use Rattle.std.proofs.Common.{◌≡◌, ℕ, zero, suc, ◌+◌, ◌-◌, ◌^◌, ◌≤◌, ◌<◌, ◌==◌, nat_le, Bool, true, false, cond, List, [], ◌∷◌, length, length-append, map, drop, get_or, Option, Some, None, option_map, refl, sym, ◌∙◌, ap, subst, arith}
use Rattle.std.specs.Prelude.{slice_get, slice_set, replicate}
use Rattle.std.proofs.lemmas.Bool.Decides.{nat_tests}
use Rattle.std.proofs.lemmas.List.{length-map}
use Rattle.std.proofs.lemmas.Option.{slice_get-get_or}
use Rattle.pcap_file.specs.declared.Record.{Record}
use Rattle.pcap_file.specs.Records.{Ascends}
use Rattle.pcap_file.specs.Captures.{AreFit}
use Rattle.fip_snoop.specs.Bridge.{Arrival, arrival, arrivals, arrivals_from, with_arrival, in_order}
use Rattle.fip_snoop.specs.Queue.{sooner, least, without_first, AllAscend, left_in, head_of}
use Rattle.fip_snoop.specs.declared.queue.Head.{Head}
use Rattle.fip_snoop.proofs.QueueLemmas.{least_is_next, none_is_end}
use Rattle.side_runs.specs.Records.{AllFit, count_in}
use Rattle.side_runs.specs.State.{IsNext, IsFound}

pub some_is : {X : Type 0} {x y : X} → Some x ≡ Some y → x ≡ y
some_is e = cc

-- ---- by the head that is found

pub head_next : (L : List (List Record)) (h : Head) → Some h ≡ option_map head_of (least 1 L) → (a : Arrival) × (least 1 L ≡ Some a) × (a.port ≡ h.port)
head_next L h e = go (least 1 L) refl e
  where
    go : (o : Option Arrival) → least 1 L ≡ o → Some h ≡ option_map head_of o → (a : Arrival) × (least 1 L ≡ Some a) × (a.port ≡ h.port)
    go None is e = absurd (cc)
    go (Some a) is e = (a, is, ap (λ (x : Head). x.port) (sym (some_is e)))

pub no_head : (L : List (List Record)) → None ≡ option_map head_of (least 1 L) → least 1 L ≡ None
no_head L e = go (least 1 L) refl e
  where
    go : (o : Option Arrival) → least 1 L ≡ o → None ≡ option_map head_of o → least 1 L ≡ None
    go None is e = is
    go (Some a) is e = absurd (cc)

-- ---- where the next frame stands

record Place (port : ℕ) (L : List (List Record)) (a : Arrival) : Type 0 where
  place : ℕ
  found : Record
  rest : List Record
  there : slice_get L place ≡ Some (found ∷ rest)
  is : a ≡ arrival (port + place) found

least_at : (port : ℕ) (L : List (List Record)) (a : Arrival) → least port L ≡ Some a → Place port L a
least_at port [] a e = absurd (cc)
least_at port ([] ∷ L) a e =
    let p = least_at (port + 1) L a e in
    record { place = suc p.place; found = p.found; rest = p.rest; there = p.there; is = p.is ∙ ap (λ n. arrival n p.found) (let same : port + 1 + p.place ≡ port + suc p.place = omega arith in same) }
least_at port ((r ∷ rs) ∷ L) a e = go (least (port + 1) L) (λ b is. least_at (port + 1) L b is) refl e
  where
    first : arrival port r ≡ a → Place port ((r ∷ rs) ∷ L) a
    first is = record { place = 0; found = r; rest = rs; there = refl; is = sym is ∙ ap (λ n. arrival n r) (let same : port ≡ port + 0 = omega arith in same) }

    behind : Place (port + 1) L a → Place port ((r ∷ rs) ∷ L) a
    behind p = record { place = suc p.place; found = p.found; rest = p.rest; there = p.there; is = p.is ∙ ap (λ n. arrival n p.found) (let same : port + 1 + p.place ≡ port + suc p.place = omega arith in same) }

    go : (o : Option Arrival) → ((b : Arrival) → least (port + 1) L ≡ Some b → Place (port + 1) L b) → least (port + 1) L ≡ o → Some (sooner (arrival port r) o) ≡ Some a → Place port ((r ∷ rs) ∷ L) a
    go None later is e = first (some_is e)
    go (Some b) later is e = by (nat_le r.moment b.moment) e
      where
        by : (t : Bool) → Some (cond t (arrival port r) b) ≡ Some a → Place port ((r ∷ rs) ∷ L) a
        by true e = first (some_is e)
        by false e = behind (subst (Place (port + 1) L) (some_is e) (later b is))

left_get : (ins : List (List Record)) (places : List ℕ) (i : ℕ) (rs : List Record) (k : ℕ) → slice_get ins i ≡ Some rs → slice_get places i ≡ Some k → slice_get (left_in ins places) i ≡ Some (drop k rs)
left_get [] places i rs k e f = absurd (cc)
left_get (r ∷ ins) [] i rs k e f = absurd (cc)
left_get (r ∷ ins) (p ∷ places) zero rs k e f = ap (λ q. Some (drop p q)) (some_is e) ∙ ap (λ n. Some (drop n rs)) (some_is f)
left_get (r ∷ ins) (p ∷ places) (suc i) rs k e f = left_get ins places i rs k e f

at_front : (rs : List Record) (k : ℕ) (r : Record) (rest : List Record) → drop k rs ≡ r ∷ rest → slice_get rs k ≡ Some r
at_front [] zero r rest e = absurd (cc)
at_front [] (suc k) r rest e = absurd (cc)
at_front (x ∷ rs) zero r rest e = cc
at_front (x ∷ rs) (suc k) r rest e = at_front rs k r rest e

-- the record of the next frame
pub next_record : (ins : List (List Record)) (places : List ℕ) (i : ℕ) (rs : List Record) → IsNext i ins places → slice_get ins i ≡ Some rs → (a : Arrival) → least 1 (left_in ins places) ≡ Some a → a.port ≡ i + 1 →
    (r : Record) × (slice_get rs (get_or places i 0) ≡ Some r) × (a ≡ arrival (i + 1) r)
next_record ins places i rs n here a is port =
    let k = get_or places i 0 in
    let place = slice_get-get_or places i 0 (omega (arith, n.count, n.within)) in
    let p = least_at 1 (left_in ins places) a is in
    let same : p.place ≡ i = let e = ap (λ (x : Arrival). x.port) p.is in omega (arith, e, port) in
    let left : drop k rs ≡ p.found ∷ p.rest = some_is (sym (left_get ins places i rs k here place) ∙ ap (slice_get (left_in ins places)) (sym same) ∙ p.there) in (
      p.found,
      at_front rs k p.found p.rest left,
      p.is ∙ ap (λ n. arrival n p.found) (let e : 1 + p.place ≡ i + 1 = omega (arith, same) in e),
    )

get_within : {X : Type 0} (xs : List X) (i : ℕ) (x : X) → slice_get xs i ≡ Some x → i < length xs
get_within [] i x e = absurd (cc)
get_within (y ∷ xs) zero x e = omega arith
get_within (y ∷ xs) (suc i) x e = let h = get_within xs i x e in omega (arith, h)

left_count : (ins : List (List Record)) (places : List ℕ) → length (left_in ins places) ≤ length ins
left_count [] places = omega arith
left_count (rs ∷ ins) [] = omega arith
left_count (rs ∷ ins) (k ∷ places) = let h = left_count ins places in omega arith

-- the place of the head that is found
pub next_is : (ins : List (List Record)) (places : List ℕ) (h : Head) → length places ≡ length ins → Some h ≡ option_map head_of (least 1 (left_in ins places)) → IsNext (h.port - 1) ins places × (1 ≤ h.port)
next_is ins places h count e =
    let n = head_next (left_in ins places) h e in
    let p = least_at 1 (left_in ins places) n.0 n.1 in
    let port : 1 + p.place ≡ h.port = let q = ap (λ (x : Arrival). x.port) p.is in omega (arith, q, n.2) in
    let within = get_within (left_in ins places) p.place (p.found ∷ p.rest) p.there in (
      record {
        count = count;
        within = let c = left_count ins places in omega (arith, within, port, c);
        frame_ = n.0;
        is = n.1;
        port_ = omega (arith, n.2, port);
      },
      omega (arith, port),
    )

-- one more of them can be counted
pub next_room : (ins : List (List Record)) (i k : ℕ) (rs : List Record) (r : Record) → slice_get ins i ≡ Some rs → slice_get rs k ≡ Some r → k + 1 ≤ count_in ins
next_room [] i k rs r e f = absurd (cc)
next_room (x ∷ ins) zero k rs r e f = let lt = get_within x k r (ap (λ l. slice_get l k) (some_is e) ∙ f) in omega (arith, lt)
next_room (x ∷ ins) (suc i) k rs r e f = let h = next_room ins i k rs r e f in omega (arith, h)

-- ---- and what is left then

drop_nothing : (k : ℕ) → drop {A = Record} k [] ≡ []
drop_nothing zero = refl
drop_nothing (suc k) = refl

drop_more : (x : List Record) (k : ℕ) → drop (k + 1) x ≡ drop 1 (drop k x)
drop_more [] k = drop_nothing (k + 1) ∙ sym (ap (drop 1) (drop_nothing k))
drop_more (r ∷ x) zero = refl
drop_more (r ∷ x) (suc k) = ap (λ n. drop n (r ∷ x)) (let e : suc k + 1 ≡ suc (k + 1) = omega arith in e) ∙ drop_more x k

first_left : (port i : ℕ) (ins : List (List Record)) (places : List ℕ) (k : ℕ) → slice_get places i ≡ Some k → left_in ins (slice_set places i (k + 1)) ≡ without_first (port + i) port (left_in ins places)
first_left port i [] places k at = refl
first_left port i (x ∷ ins) [] k at = absurd (cc)
first_left port zero (x ∷ ins) (p ∷ places) k at =
    ap (λ q. q ∷ left_in ins places) (drop_more x k ∙ ap (λ n. drop 1 (drop n x)) (sym (some_is at))) ∙ sym (own (port == port + 0) (grind (arith, nat_tests)))
  where
    own : (b : Bool) → b ≡ true → cond b (drop 1 (drop p x) ∷ left_in ins places) (drop p x ∷ without_first (port + 0) (port + 1) (left_in ins places)) ≡ drop 1 (drop p x) ∷ left_in ins places
    own b e = ap (λ b. cond b (drop 1 (drop p x) ∷ left_in ins places) (drop p x ∷ without_first (port + 0) (port + 1) (left_in ins places))) e
first_left port (suc i) (x ∷ ins) (p ∷ places) k at =
    ap (λ l. drop p x ∷ l) (first_left (port + 1) i ins places k at)
    ∙ ap (λ n. drop p x ∷ without_first n (port + 1) (left_in ins places)) (let e : port + 1 + i ≡ port + suc i = omega arith in e)
    ∙ sym (other (port == port + suc i) (grind (arith, nat_tests)))
  where
    other : (b : Bool) → b ≡ false → cond b (drop 1 (drop p x) ∷ left_in ins places) (drop p x ∷ without_first (port + suc i) (port + 1) (left_in ins places)) ≡ drop p x ∷ without_first (port + suc i) (port + 1) (left_in ins places)
    other b e = ap (λ b. cond b (drop 1 (drop p x) ∷ left_in ins places) (drop p x ∷ without_first (port + suc i) (port + 1) (left_in ins places))) e

ascends_from : (m n : ℕ) (rs : List Record) → m ≤ n → Ascends n rs → Ascends m rs
ascends_from m n [] le up = tt
ascends_from m n (r ∷ rs) le up = (omega (arith, le, up.0), up.1)

ascends_drop : (m k : ℕ) (rs : List Record) → Ascends m rs → Ascends m (drop k rs)
ascends_drop m zero [] up = up
ascends_drop m (suc k) [] up = up
ascends_drop m zero (r ∷ rs) up = up
ascends_drop m (suc k) (r ∷ rs) up = ascends_from m r.moment (drop k rs) up.0 (ascends_drop r.moment k rs up.1)

ascend_left : (ins : List (List Record)) (places : List ℕ) → AllAscend ins → AllAscend (left_in ins places)
ascend_left [] places up = tt
ascend_left (rs ∷ ins) [] up = tt
ascend_left (rs ∷ ins) (k ∷ places) up = (ascends_drop 0 k rs up.0, ascend_left ins places up.1)

-- it comes first of all that are to come
pub next_order : (ins : List (List Record)) (places : List ℕ) (i k : ℕ) (a : Arrival) → AllAscend ins → slice_get places i ≡ Some k → least 1 (left_in ins places) ≡ Some a → a.port ≡ i + 1 →
    arrivals (left_in ins places) ≡ a ∷ arrivals (left_in ins (slice_set places i (k + 1)))
next_order ins places i k a up at is port =
    least_is_next 1 (left_in ins places) a (ascend_left ins places up) is
    ∙ ap (λ n. a ∷ arrivals (without_first n 1 (left_in ins places))) (let e : a.port ≡ 1 + i = omega (arith, port) in e)
    ∙ ap (λ l. a ∷ arrivals l) (sym (first_left 1 i ins places k at))

-- where there is none, none is to come
pub none_next : (L : List (List Record)) → least 1 L ≡ None → arrivals L ≡ []
none_next L e = ap in_order (none_is_end 1 L e)

-- ---- before the first

drop_none : (rs : List Record) → drop 0 rs ≡ rs
drop_none [] = refl
drop_none (r ∷ rs) = refl

pub all_left : (ins : List (List Record)) (n : ℕ) → n ≡ length ins → left_in ins (replicate n 0) ≡ ins
all_left [] n e = refl
all_left (rs ∷ ins) zero e = absurd (omega (arith, e))
all_left (rs ∷ ins) (suc n) e = ap (λ q. q ∷ left_in ins (replicate n 0)) (drop_none rs) ∙ ap (λ l. rs ∷ l) (all_left ins n (omega (arith, e)))

-- ---- how many

length-with : (x : Arrival) (xs : List Arrival) → length (with_arrival x xs) ≡ suc (length xs)
length-with x [] = refl
length-with x (y ∷ ys) = go (nat_le x.moment y.moment) (length-with x ys)
  where
    go : (b : Bool) → length (with_arrival x ys) ≡ suc (length ys) → length (cond b (x ∷ y ∷ ys) (y ∷ with_arrival x ys)) ≡ suc (length (y ∷ ys))
    go true later = refl
    go false later = ap suc later

length-order : (xs : List Arrival) → length (in_order xs) ≡ length xs
length-order [] = refl
length-order (x ∷ xs) = length-with x (in_order xs) ∙ ap suc (length-order xs)

length-from : (port : ℕ) (ins : List (List Record)) → length (arrivals_from port ins) ≡ count_in ins
length-from port [] = refl
length-from port (rs ∷ ins) = length-append (map (arrival port) rs) (arrivals_from (port + 1) ins) ∙ (λ i. length-map rs (arrival port) i + length-from (port + 1) ins i)

pub length-arrivals : (ins : List (List Record)) → length (arrivals ins) ≡ count_in ins
length-arrivals ins = length-order (arrivals_from 1 ins) ∙ length-from 1 ins

-- ---- each can be written

fit_at : (rs : List Record) (k : ℕ) (r : Record) → AreFit rs → slice_get rs k ≡ Some r → (r.moment < 2 ^ 53) × (length r.caught.bytes ≤ 65535)
fit_at [] k r fit e = absurd (cc)
fit_at (x ∷ rs) zero r fit e = subst (λ (y : Record). (y.moment < 2 ^ 53) × (length y.caught.bytes ≤ 65535)) (some_is e) (let f = fit.0 in omega arith, fit.1)
fit_at (x ∷ rs) (suc k) r fit e = fit_at rs k r fit.2 e

all_fit_at : (ins : List (List Record)) (i : ℕ) (rs : List Record) → AllFit ins → slice_get ins i ≡ Some rs → AreFit rs
all_fit_at [] i rs fit e = absurd (cc)
all_fit_at (x ∷ ins) zero rs fit e = subst AreFit (some_is e) fit.0
all_fit_at (x ∷ ins) (suc i) rs fit e = all_fit_at ins i rs fit.1 e

-- the record that is found
pub is_found : (ins : List (List Record)) (places : List ℕ) (i : ℕ) (rs : List Record) (r : Record) → IsNext i ins places → AllFit ins → count_in ins < 2 ^ 64 → slice_get ins i ≡ Some rs → slice_get rs (get_or places i 0) ≡ Some r → IsFound i ins places r
is_found ins places i rs r n fit few here at =
    let can = fit_at rs (get_or places i 0) r (all_fit_at ins i rs fit here) at in
    let room = next_room ins i (get_or places i 0) rs r here at in
    record {
      moment = can.0;
      bytes = can.1;
      room = omega (arith, room, few);
      next = λ a is port. let found = next_record ins places i rs n here a is port in found.2 ∙ ap (arrival (i + 1)) (some_is (sym found.1 ∙ at));
    }
