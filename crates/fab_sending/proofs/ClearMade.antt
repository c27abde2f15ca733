-- Clear link messages: the order of ENodes, the N_Ports of each, and groups of a hundred.
use Rattle.std.proofs.Common.{◌≡◌, ℕ, zero, suc, ◌+◌, ◌-◌, ◌<◌, ◌≤◌, ◌==◌, ◌||◌, Bool, true, false, cond, min, if◌then◌else◌, List, [], ◌∷◌, ◌++◌, length, take, drop, get_or, map, filter, flat_map, Some, slice_get, refl, sym, ap, subst, inl, inr, ◌∙◌, append_assoc, arith}
use Rattle.std.proofs.Math.Seq.{drop-cons}
use Rattle.std.proofs.lemmas.Bool.{cases_lt, le-leb}
use Rattle.std.proofs.lemmas.Bool.Decides.{nat_tests}
use Rattle.std.proofs.lemmas.Grind.{flat_map-append}
use Rattle.std.proofs.lemmas.List.{append-nil, drop-drop, drop_all, length-drop, drop-map, length-map, length-take, map-append, take-map, take_all}
use Rattle.std.proofs.lemmas.List.Elements.{All-nil, All-append, All-cons, filter-append}
use Rattle.std.proofs.lemmas.Option.{get_or_from_slice_get, slice_get_within}
use Rattle.std.specs.List.{All, insert}
use Rattle.fab_base.specs.Fabric.{same_enode}
use Rattle.fab_base.specs.declared.values.Enode.{Enode}
use Rattle.fab_config.specs.Settings.{Settings}
use Rattle.fab_policy.specs.Outputs as outputs
use Rattle.fab_policy.specs.Outputs.{bytes_before, enode_before, hundreds, with_enode}
use Rattle.fab_policy.specs.State.{LivePort}
use Rattle.fab_policy.specs.declared.event.Event.{Event}
use Rattle.fab_sending.specs.Message.{AreSendable}
use Rattle.fab_sending.specs.declared.message.Out.{Out}
use Rattle.fab_sending.specs.declared.message.OutMessage.{OutMessage}
use Rattle.fab_sending.specs.declared.message.OutMessage.TheVariants as out
use Rattle.fab_roster.specs.Roll.{Login, login_of}
use Rattle.fab_sending.specs.Clearing.{clears, clears_to, enodes_of, in_hundreds, place_of, vx_port_of, vx_ports_of}
use Rattle.fab_sending.specs.Messages as messages
use Rattle.fab_sending.specs.Messages.{at_moment}
use Rattle.fab_sending.proofs.Lists.{flat_map-same}
use Rattle.fab_sending.proofs.Sendable.{CanBeSent, sendable_at}
use Rattle.fip_codec.specs.declared.message.VxPort.{VxPort}

-- ---- the order of ENodes

before_nothing : (xs : List ℕ) → bytes_before xs [] ≡ false
before_nothing [] = refl
before_nothing (x ∷ xs) = refl

-- bytes aren't before others that end before they differ
pub not_before : (i : ℕ) (xs ys : List ℕ) (b : Bool) → length ys ≤ i → bytes_before (drop i xs) (drop i ys) ≡ b → false ≡ b
not_before i xs ys b short was = sym (ap (bytes_before (drop i xs)) (drop_all i ys short) ∙ before_nothing (drop i xs)) ∙ was

abbrev comes : Enode → Enode → Bool
comes x y = same_enode x y || enode_before x y

-- an ENode that stands at its place stays, and another is put there
pub stays_there : (x : Enode) (ys : List Enode) (d : Enode) → place_of x ys < length ys → same_enode x (get_or ys (place_of x ys) d) ≡ true → ys ≡ with_enode x ys
stays_there x [] d inside same = absurd (omega arith)
stays_there x (y ∷ ys) d inside same = by_same (same_enode x y) refl (enode_before x y) refl inside same (stays_there x ys d)
  where
    by_same : (s : Bool) → same_enode x y ≡ s → (b : Bool) → enode_before x y ≡ b → cond (s || b) 0 (place_of x ys + 1) < suc (length ys) →
        same_enode x (get_or (y ∷ ys) (cond (s || b) 0 (place_of x ys + 1)) d) ≡ true →
        (place_of x ys < length ys → same_enode x (get_or ys (place_of x ys) d) ≡ true → ys ≡ with_enode x ys) →
        y ∷ ys ≡ (if s then y ∷ ys else if b then x ∷ y ∷ ys else y ∷ with_enode x ys)
    by_same true e b f h t ih = refl
    by_same false e true f h t ih = absurd (let no : false ≡ true = sym e ∙ t in cc)
    by_same false e false f h t ih =
        ap (λ zs. y ∷ zs) (ih (omega (arith, h)) (subst (λ k. same_enode x (get_or (y ∷ ys) k d) ≡ true) (let s : place_of x ys + 1 ≡ suc (place_of x ys) = omega arith in s) t))

pub put_there : (x : Enode) (ys : List Enode) (d : Enode) → (place_of x ys < length ys → same_enode x (get_or ys (place_of x ys) d) ≡ false) → insert ys (place_of x ys) x ≡ with_enode x ys
put_there x [] d other = refl
put_there x (y ∷ ys) d other = by_same (same_enode x y) refl (enode_before x y) refl other (put_there x ys d)
  where
    by_same : (s : Bool) → same_enode x y ≡ s → (b : Bool) → enode_before x y ≡ b →
        (cond (s || b) 0 (place_of x ys + 1) < suc (length ys) → same_enode x (get_or (y ∷ ys) (cond (s || b) 0 (place_of x ys + 1)) d) ≡ false) →
        ((place_of x ys < length ys → same_enode x (get_or ys (place_of x ys) d) ≡ false) → insert ys (place_of x ys) x ≡ with_enode x ys) →
        insert (y ∷ ys) (cond (s || b) 0 (place_of x ys + 1)) x ≡ (if s then y ∷ ys else if b then x ∷ y ∷ ys else y ∷ with_enode x ys)
    by_same true e b f h ih = absurd (let no : true ≡ false = sym e ∙ h (omega arith) in cc)
    by_same false e true f h ih = refl
    by_same false e false f h ih =
        let next : place_of x ys + 1 ≡ suc (place_of x ys) = omega arith in
        ap (λ k. insert (y ∷ ys) k x) next
        ∙ ap (λ zs. y ∷ zs) (ih (λ inside. subst (λ k. same_enode x (get_or (y ∷ ys) k d) ≡ false) next (h (omega (arith, inside)))))

-- where an ENode was found at its place, and where it was put there
pub stays_at : (x : Enode) (ys slice : List Enode) (place : ℕ) (d : Enode) → place ≡ place_of x slice → slice ≡ ys → place < length ys →
    d ≡ get_or ys place d → same_enode x d ≡ true → ys ≡ with_enode x ys
stays_at x ys slice place d at all inside is same =
    let here : place ≡ place_of x ys = at ∙ ap (place_of x) all in
    stays_there x ys d (omega (arith, here, inside)) (ap (λ k. same_enode x (get_or ys k d)) (sym here) ∙ ap (same_enode x) (sym is) ∙ same)

pub put_at : (x : Enode) (ys slice after : List Enode) (place : ℕ) (d : Enode) → place ≡ place_of x slice → slice ≡ ys →
    (place < length ys → same_enode x (get_or ys place d) ≡ false) → after ≡ insert ys place x → after ≡ with_enode x ys
put_at x ys slice after place d at all other now =
    let here : place ≡ place_of x ys = at ∙ ap (place_of x) all in
    now ∙ ap (λ k. insert ys k x) here
    ∙ put_there x ys d (λ inside. ap (λ k. same_enode x (get_or ys k d)) (sym here) ∙ other (omega (arith, here, inside)))

-- ---- ENodes and N_Ports of logins

drop_slice : {X : Type 0} (xs : List X) (i : ℕ) (x : X) → slice_get xs i ≡ Some x → drop i xs ≡ x ∷ drop (suc i) xs
drop_slice xs i x e = drop-cons xs i x (slice_get_within xs i x e) ∙ ap (λ y. y ∷ drop (suc i) xs) (get_or_from_slice_get xs i x x e)

-- the ENode of one more login, from behind
pub enode_more : (logins : List Login) (done : ℕ) (l : Login) (before after : List Enode) → done < length logins →
    before ≡ enodes_of (drop (length logins - done) logins) → slice_get logins (length logins - 1 - done) ≡ Some l →
    after ≡ with_enode l.enode before → after ≡ enodes_of (drop (length logins - (done + 1)) logins)
enode_more logins done l before after inside was at now =
    let i : ℕ = length logins - 1 - done in
    let next : suc i ≡ length logins - done = omega (arith, inside) in
    let here : i ≡ length logins - (done + 1) = omega arith in
    now ∙ ap (with_enode l.enode) was
    ∙ sym (ap (λ (k : ℕ). enodes_of (drop k logins)) (sym here) ∙ ap enodes_of (drop_slice logins i l at ∙ ap (λ (k : ℕ). l ∷ drop k logins) next))

-- the N_Port of one more login, which passes or doesn't
pub vx_port_more : (c : Settings) (x : Enode) (logins : List Login) (i : ℕ) (l : Login) (b : Bool) (before after : List VxPort) → take (i + 1) logins ≡ take i logins ++ l ∷ [] → same_enode l.enode x ≡ b →
    before ≡ vx_ports_of c x (take i logins) → after ≡ before ++ (if b then vx_port_of c l ∷ [] else []) → after ≡ vx_ports_of c x (take (i + 1) logins)
vx_port_more c x logins i l b before after at is was now =
    let q : Login → Bool = λ k. same_enode k.enode x in
    now ∙ ap (λ r. r ++ (if b then vx_port_of c l ∷ [] else [])) was
    ∙ ap (λ r. vx_ports_of c x (take i logins) ++ r) (by_test b ∙ ap (λ d. map (vx_port_of c) (cond d (l ∷ []) [])) (sym is))
    ∙ sym (ap (vx_ports_of c x) at ∙ ap (map (vx_port_of c)) (filter-append q (take i logins) (l ∷ [])) ∙ map-append (vx_port_of c) (filter q (take i logins)) (filter q (l ∷ [])))
  where
    by_test : (d : Bool) → (if d then vx_port_of c l ∷ [] else []) ≡ map (vx_port_of c) (cond d (l ∷ []) [])
    by_test true = refl
    by_test false = refl

-- ---- groups of a hundred

not_nothing : (n : ℕ) → suc n == 0 ≡ false
not_nothing n = grind (arith, nat_tests)

hundreds-step : (X : Type 0) (n : ℕ) (x : X) (l : List X) → hundreds (suc n) (x ∷ l) ≡ take 100 (x ∷ l) ∷ hundreds n (drop 100 (x ∷ l))
hundreds-step X n x l = ap (λ b. elim b as (λ _. List (List X)) [ true ↦ [] | false ↦ take 100 (x ∷ l) ∷ hundreds n (drop 100 (x ∷ l)) ]) (not_nothing (length l))

-- the number of groups that are allowed doesn't matter where it is enough
hundreds-fuel : (X : Type 0) (n m : ℕ) (l : List X) → length l ≤ n → length l ≤ m → hundreds n l ≡ hundreds m l
hundreds-fuel X n m [] h k = none n ∙ sym (none m)
  where
    none : (j : ℕ) → hundreds {X = X} j [] ≡ []
    none zero = refl
    none (suc j) = refl
hundreds-fuel X zero m (x ∷ l) h k = absurd (omega arith)
hundreds-fuel X (suc n) zero (x ∷ l) h k = absurd (omega arith)
hundreds-fuel X (suc n) (suc m) (x ∷ l) h k =
    let size : length (drop 100 (x ∷ l)) ≡ length (x ∷ l) - 100 = length-drop 100 (x ∷ l) in
    hundreds-step X n x l
    ∙ ap (λ r. take 100 (x ∷ l) ∷ r) (hundreds-fuel X n m (drop 100 (x ∷ l)) (omega (arith, size)) (omega (arith, size)))
    ∙ sym (hundreds-step X m x l)

hundreds-more : (X : Type 0) (l : List X) → 0 < length l → hundreds (length l) l ≡ take 100 l ∷ hundreds (length (drop 100 l)) (drop 100 l)
hundreds-more X [] some = absurd (omega arith)
hundreds-more X (x ∷ l) some =
    let size : length (drop 100 (x ∷ l)) ≡ length (x ∷ l) - 100 = length-drop 100 (x ∷ l) in
    hundreds-step X (length l) x l
    ∙ ap (λ r. take 100 (x ∷ l) ∷ r) (hundreds-fuel X (length l) (length (drop 100 (x ∷ l))) (drop 100 (x ∷ l)) (omega (arith, size)) (omega arith))

take_hundred : (X : Type 0) (n : ℕ) (l : List X) → n ≡ min 100 (length l) → take n l ≡ take 100 l
take_hundred X n l e = elim (cases_lt (length l) 100) [
  | inl few ↦ take_all n l (omega arith) ∙ sym (take_all 100 l (omega arith))
  | inr many ↦ (let is : n ≡ 100 = omega arith in ap (λ (k : ℕ). take k l) is)
]

left_hundred : (X : Type 0) (from to : ℕ) (l : List X) → from ≤ length l → to ≡ from + min 100 (length l - from) → drop to l ≡ drop 100 (drop from l)
left_hundred X from to l h e = elim (cases_lt (length l - from) 100) [
  | inl few ↦ drop_all to l (omega arith) ∙ sym (drop_all (from + 100) l (omega arith)) ∙ sym (drop-drop 100 from l)
  | inr many ↦ (let is : to ≡ from + 100 = omega arith in ap (λ (k : ℕ). drop k l) is ∙ sym (drop-drop 100 from l))
]

-- one more group
pub group_more : (moment : ℕ) (x : Enode) (ports : List VxPort) (done end : ℕ) (start before after : List Out) → done < length ports →
    end ≡ done + min 100 (length ports - done) →
    before ++ at_moment moment (in_hundreds x (drop done ports)) ≡ start →
    after ≡ before ++ record { port = x.port; moment = moment; message = out.Clear x.mac (take (end - done) (drop done ports)) } ∷ [] →
    after ++ at_moment moment (in_hundreds x (drop end ports)) ≡ start
group_more moment x ports done end start before after inside is was now =
    let rest : List VxPort = drop done ports in
    let size : length rest ≡ length ports - done = length-drop done ports in
    let all : List Out = at_moment moment (in_hundreds x (drop 100 rest)) in
    let group : List VxPort → Out = λ g. record { port = x.port; moment = moment; message = out.Clear x.mac g } in
    let taken : take (end - done) rest ≡ take 100 rest = take_hundred VxPort (end - done) rest (omega (arith, is, size)) in
    let left : drop end ports ≡ drop 100 rest = left_hundred VxPort done end ports (omega (arith, inside)) is in
    ap (λ r. after ++ at_moment moment (in_hundreds x r)) left
    ∙ ap (λ o. o ++ all) (now ∙ ap (λ g. before ++ group g ∷ []) taken)
    ∙ append_assoc before (group (take 100 rest) ∷ []) all
    ∙ ap (λ r. before ++ at_moment moment (map (λ g. (x.port, out.Clear x.mac g)) r)) (sym (hundreds-more VxPort rest (omega (arith, inside, size))))
    ∙ was

-- when no N_Port is left
pub groups_done : (moment : ℕ) (x : Enode) (ports : List VxPort) (done : ℕ) (start outs : List Out) → length ports ≤ done →
    outs ++ at_moment moment (in_hundreds x (drop done ports)) ≡ start → outs ≡ start
groups_done moment x ports done start outs all was =
    sym (append-nil outs) ∙ sym (ap (λ r. outs ++ at_moment moment (in_hundreds x r)) (drop_all done ports all)) ∙ was

-- ---- logins of N_Ports

enodes_same : (ports : List LivePort) → enodes_of (map login_of ports) ≡ outputs.enodes_of ports
enodes_same [] = refl
enodes_same (p ∷ ports) = ap (with_enode p.enode) (enodes_same ports)

vx_ports_same : (c : Settings) (x : Enode) (ports : List LivePort) → vx_ports_of c x (map login_of ports) ≡ map (outputs.vx_port_of c) (filter (λ p. same_enode p.enode x) ports)
vx_ports_same c x [] = refl
vx_ports_same c x (p ∷ ports) = by_test (same_enode p.enode x) (vx_ports_same c x ports)
  where
    by_test : (b : Bool) → vx_ports_of c x (map login_of ports) ≡ map (outputs.vx_port_of c) (filter (λ q. same_enode q.enode x) ports) →
        map (vx_port_of c) (cond b (login_of p ∷ filter (λ l. same_enode l.enode x) (map login_of ports)) (filter (λ l. same_enode l.enode x) (map login_of ports)))
        ≡ map (outputs.vx_port_of c) (cond b (p ∷ filter (λ q. same_enode q.enode x) ports) (filter (λ q. same_enode q.enode x) ports))
    by_test true e = ap (λ r. outputs.vx_port_of c p ∷ r) e
    by_test false e = e

-- a message that names these N_Ports
abbrev named : Enode → List VxPort → ℕ × OutMessage
named x group = (x.port, out.Clear x.mac group)

groups_named : (c : Settings) (x : Enode) (n : ℕ) (own : List LivePort) →
    map (named x) (hundreds n (map (outputs.vx_port_of c) own)) ≡ map (λ g. named x (map (outputs.vx_port_of c) g)) (hundreds n own)
groups_named c x zero own = refl
groups_named c x (suc n) [] = refl
groups_named c x (suc n) (p ∷ own) =
    let all : List LivePort = p ∷ own in
    let f : LivePort → VxPort = outputs.vx_port_of c in
    ap (map (named x)) (hundreds-step VxPort n (f p) (map f own))
    ∙ ap (λ g. named x g ∷ map (named x) (hundreds n (drop 100 (map f all)))) (take-map f 100 all)
    ∙ ap (λ r. named x (map f (take 100 all)) ∷ map (named x) (hundreds n r)) (drop-map f 100 all)
    ∙ ap (λ r. named x (map f (take 100 all)) ∷ r) (groups_named c x n (drop 100 all))
    ∙ sym (ap (map (λ g. named x (map f g))) (hundreds-step LivePort n p own))

-- the clear link messages of the logins of N_Ports are those of the N_Ports
pub clears_same : (c : Settings) (ports : List LivePort) → clears c (map login_of ports) ≡ messages.clears c ports
clears_same c ports = ap (flat_map (clears_to c (map login_of ports))) (enodes_same ports) ∙ flat_map-same (clears_to c (map login_of ports)) (messages.clears_to c ports) own (outputs.enodes_of ports)
  where
    own : (x : Enode) → clears_to c (map login_of ports) x ≡ messages.clears_to c ports x
    own x =
        let passed : List LivePort = filter (λ p. same_enode p.enode x) ports in
        ap (in_hundreds x) (vx_ports_same c x ports)
        ∙ ap (λ n. map (named x) (hundreds n (map (outputs.vx_port_of c) passed))) (length-map passed (outputs.vx_port_of c))
        ∙ groups_named c x (length passed) passed

-- ---- all clear link messages

-- the clear link messages to one more ENode
pub cleared_more : (c : Settings) (moment : ℕ) (logins : List Login) (xs : List Enode) (i : ℕ) (x : Enode) (before after : List Out) → take (i + 1) xs ≡ take i xs ++ x ∷ [] →
    before ≡ at_moment moment (flat_map (clears_to c logins) (take i xs)) → after ≡ before ++ at_moment moment (clears_to c logins x) → after ≡ at_moment moment (flat_map (clears_to c logins) (take (i + 1) xs))
cleared_more c moment logins xs i x before after at was now =
    let more : List (ℕ × OutMessage) = flat_map (clears_to c logins) (take i xs) in
    now ∙ ap (λ o. o ++ at_moment moment (clears_to c logins x)) was
    ∙ ap (λ r. at_moment moment more ++ at_moment moment r) (sym (append-nil (clears_to c logins x)))
    ∙ sym (ap (λ l. at_moment moment (flat_map (clears_to c logins) l)) at
    ∙ ap (at_moment moment) (flat_map-append (clears_to c logins) (take i xs) (x ∷ []))
    ∙ map-append (λ (m : ℕ × OutMessage). let o : Out = record { port = m.0; moment = moment; message = m.1 } in o) more (flat_map (clears_to c logins) (x ∷ [])))

-- ---- messages that can be sent

hundred_sendable : (events : List Event) (x : Enode) (n : ℕ) (own : List VxPort) → All (CanBeSent events) (map (named x) (hundreds n own))
hundred_sendable events x zero own = All-nil (CanBeSent events)
hundred_sendable events x (suc n) [] = All-nil (CanBeSent events)
hundred_sendable events x (suc n) (p ∷ own) =
    let all : List VxPort = p ∷ own in
    let size : length (take 100 all) ≤ 100 = omega (arith, length-take 100 all) in
    subst (λ gs. All (CanBeSent events) (map (named x) gs)) (sym (hundreds-step VxPort n p own))
    (All-cons (CanBeSent events) (named x (take 100 all)) (map (named x) (hundreds n (drop 100 all))) (le-leb _ _ size) (hundred_sendable events x n (drop 100 all)))

all_sendable : (events : List Event) (c : Settings) (logins : List Login) (xs : List Enode) → All (CanBeSent events) (flat_map (clears_to c logins) xs)
all_sendable events c logins [] = All-nil (CanBeSent events)
all_sendable events c logins (x ∷ xs) =
    let own : List VxPort = vx_ports_of c x logins in
    All-append (CanBeSent events) (clears_to c logins x) (flat_map (clears_to c logins) xs) (hundred_sendable events x (length own) own) (all_sendable events c logins xs)

pub clears_sendable : (events : List Event) (c : Settings) (moment : ℕ) (logins : List Login) (xs : List Enode) (outs : List Out) →
    outs ≡ at_moment moment (flat_map (clears_to c logins) xs) → AreSendable events outs
clears_sendable events c moment logins xs outs e = subst (AreSendable events) (sym e) (sendable_at events moment (flat_map (clears_to c logins) xs) (all_sendable events c logins xs))
