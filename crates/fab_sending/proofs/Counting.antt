-- State changes that are added to a list one after another.
use Rattle.std.proofs.Common.{◌≡◌, Bool, ℕ, suc, ◌+◌, ◌<◌, ◌%◌, List, [], ◌∷◌, ◌++◌, length, take, get_or, map, filter, flat_map, Option, Some, None, option_map, is_some, IsSome, slice_get, refl, sym, ap, subst, ◌∙◌, append_assoc, arith}
use Rattle.std.proofs.lemmas.Grind.{flat_map-append}
use Rattle.std.proofs.lemmas.List.{append-nil, length-append, map-append, take_more}
use Rattle.std.proofs.lemmas.List.Folds.{flat_map-map}
use Rattle.std.proofs.lemmas.List.Elements.{All-filter, All-head, All-map, All-tail, All-weaker}
use Rattle.std.specs.List.{All}
use Rattle.std.specs.Option.{option_map_or}
use Rattle.fab_config.proofs.ListLemmas.{take_slice}
use Rattle.fab_config.specs.Settings.{Settings}
use Rattle.fab_policy.specs.Outputs.{Notice, told}
use Rattle.fab_policy.specs.State.{LivePort, Tables, addresses, overdue, port_at}
use Rattle.fab_sending.specs.declared.message.Out.{Out}
use Rattle.fab_sending.specs.declared.message.OutMessage.TheVariants as out
use Rattle.fab_roster.specs.Roll.{Login, addresses_of, login_of}
use Rattle.fab_sending.specs.Counting.{told_at_address, told_of_logins, with_changes}
use Rattle.fab_sending.specs.Messages.{at_moment, changes}
use Rattle.fab_sending.specs.Notices.{notices_of_tick, staying_at, told_of_change, told_of_each, told_of_name}
use Rattle.fab_sending.proofs.Finding.{Ascend, IsFoundIn, found_in}

pub length-changes : (moment n : ℕ) (ns : List Notice) → length (at_moment moment (changes n ns)) ≡ length ns
length-changes moment n [] = refl
length-changes moment n (notice ∷ ns) = ap suc (length-changes moment (n + 1) ns)

changes-append : (n : ℕ) (ns ms : List Notice) → changes n (ns ++ ms) ≡ changes n ns ++ changes (n + length ns) ms
changes-append n [] ms = ap (λ k. changes k ms) (omega arith)
changes-append n (notice ∷ ns) ms =
    ap (λ r. (notice.port, out.Rscn notice.watcher notice.affected (n % 65535)) ∷ r)
    (changes-append (n + 1) ns ms ∙ ap (λ k. changes (n + 1) ns ++ changes k ms) (omega arith))

-- more state changes behind others
pub with_changes-twice : (moment first : ℕ) (outs : List Out) (ns ms : List Notice) →
    with_changes moment first (with_changes moment first outs ns) ms ≡ with_changes moment first outs (ns ++ ms)
with_changes-twice moment first outs ns ms =
    let n : ℕ = first + length outs in
    let some : List Out = at_moment moment (changes n ns) in
    let size : length (outs ++ some) ≡ length outs + length ns = length-append outs some ∙ ap (λ k. length outs + k) (length-changes moment n ns) in
    ap (λ k. (outs ++ some) ++ at_moment moment (changes k ms)) (omega (arith, size))
    ∙ append_assoc outs some (at_moment moment (changes (n + length ns) ms))
    ∙ ap (λ r. outs ++ r) (sym (ap (at_moment moment) (changes-append n ns ms) ∙ map-append _ (changes n ns) (changes (n + length ns) ms)))

-- the first items up to the one that a loop over a slice has come to
pub take_item : {X : Type 0} (items xs : List X) (i : ℕ) (x : X) → items ≡ xs → i < length items → x ≡ get_or items i x → take (i + 1) xs ≡ take i xs ++ x ∷ []
take_item items xs i x all lt is = subst (λ ys. take (i + 1) ys ≡ take i ys ++ x ∷ []) all (take_more items i x lt ∙ ap (λ y. take i items ++ y ∷ []) (sym is))

-- one step of a loop that tells something of each of a list
pub told_more : {X : Type 0} (f : X → List Notice) (moment first i : ℕ) (x : X) (xs : List X) (start before after : List Out) → take (i + 1) xs ≡ take i xs ++ x ∷ [] →
    before ≡ with_changes moment first start (flat_map f (take i xs)) → after ≡ with_changes moment first before (f x) → after ≡ with_changes moment first start (flat_map f (take (i + 1) xs))
told_more f moment first i x xs start before after at was now =
    now ∙ ap (λ outs. with_changes moment first outs (f x)) was ∙ with_changes-twice moment first start (flat_map f (take i xs)) (f x)
    ∙ ap (with_changes moment first start) (ap (λ r. flat_map f (take i xs) ++ r) (sym (append-nil (f x))) ∙ sym (flat_map-append f (take i xs) (x ∷ [])) ∙ ap (flat_map f) (sym at))

-- one step of a loop that tells one thing of each
pub one_more : (f : ℕ → Notice) (moment first i x : ℕ) (xs : List ℕ) (start before after : List Out) → slice_get xs i ≡ Some x →
    before ≡ with_changes moment first start (map f (take i xs)) → after ≡ with_changes moment first before (f x ∷ []) → after ≡ with_changes moment first start (map f (take (i + 1) xs))
one_more f moment first i x xs start before after at was now =
    now ∙ ap (λ outs. with_changes moment first outs (f x ∷ [])) was ∙ with_changes-twice moment first start (map f (take i xs)) (f x ∷ [])
    ∙ ap (with_changes moment first start) (sym (map-append f (take i xs) (x ∷ [])) ∙ ap (map f) (sym (take_slice xs i x at)))

-- the port of a login that was found
port_found : (o : Option LivePort) (login : Login) → Some login ≡ option_map login_of o → login.enode.port ≡ option_map_or (λ p. p.enode.port) o 0
port_found None login e = cc
port_found (Some p) login e = let same : login ≡ login_of p = cc in ap (λ l. l.enode.port) same

pub one_told : (moment first affected watcher ox_id : ℕ) (ports : List LivePort) (login : Login) (before after : List Out) →
    Some login ≡ option_map login_of (port_at watcher ports) → ox_id ≡ (first + length before) % 65535 →
    after ≡ before ++ record { port = login.enode.port; moment = moment; message = out.Rscn watcher affected ox_id } ∷ [] →
    after ≡ with_changes moment first before (told_at_address ports affected watcher ∷ [])
one_told moment first affected watcher ox_id ports login before after found id now =
    now ∙ ap (λ n. before ++ record { port = login.enode.port; moment = moment; message = out.Rscn watcher affected n } ∷ []) id
    ∙ ap (λ n. before ++ record { port = n; moment = moment; message = out.Rscn watcher affected ((first + length before) % 65535) } ∷ []) (port_found (port_at watcher ports) login found)

-- ---- N_Ports that are found at their addresses

pub live_filter : (q : LivePort → Bool) (from : ℕ) (ports : List LivePort) → Ascend from ports → All (λ a. IsSome (port_at a ports)) (addresses (filter q ports))
live_filter q from ports h =
    All-map (λ a. IsSome (port_at a ports)) (λ (p : LivePort). p.address) (filter q ports)
    (All-filter q (λ (p : LivePort). IsSome (port_at p.address ports)) ports
    (All-weaker (IsFoundIn ports) (λ (p : LivePort). IsSome (port_at p.address ports)) (λ p e. ap is_some e) ports (found_in from ports h)))

pub found_filter : (q : LivePort → Bool) (from : ℕ) (ports : List LivePort) → Ascend from ports → All (IsFoundIn ports) (filter q ports)
found_filter q from ports h = All-filter q (IsFoundIn ports) ports (found_in from ports h)

pub told_found : (affected : ℕ) (ports ws : List LivePort) → All (IsFoundIn ports) ws → map (told_at_address ports affected) (addresses ws) ≡ map (λ w. told w affected) ws
told_found affected ports [] h = refl
told_found affected ports (w ∷ ws) h =
    ap (λ o. (let n : Notice = record { port = option_map_or (λ p. p.enode.port) o 0; watcher = w.address; affected = affected } in n) ∷ map (told_at_address ports affected) (addresses ws)) (All-head (IsFoundIn ports) w ws h)
    ∙ ap (λ r. told w affected ∷ r) (told_found affected ports ws (All-tail (IsFoundIn ports) w ws h))

-- what is told of a login that was found
pub named_told : (c : Settings) (T : Tables) (but : List ℕ) (a : ℕ) (login : Login) → (o : Option LivePort) → Some login ≡ option_map login_of o → ((p : LivePort) → o ≡ Some p → p.address ≡ a) →
    told_of_name c T but a login.name ≡ option_map_or (λ p. told_of_name c T but p.address p.name) o []
named_told c T but a login None e is = cc
named_told c T but a login (Some p) e is =
    let same : login ≡ login_of p = cc in
    ap (λ x. told_of_name c T but x login.name) (sym (is p refl)) ∙ ap (λ (l : Login). told_of_name c T but p.address l.name) same

-- the addresses of those that pass are live, and what they are told of an address is what those that pass are
pub live_ids : (q : LivePort → Bool) (from : ℕ) (ports : List LivePort) (ids : List ℕ) → Ascend from ports → ids ≡ addresses (filter q ports) → All (λ a. IsSome (port_at a ports)) ids
live_ids q from ports ids h e = subst (All (λ a. IsSome (port_at a ports))) (sym e) (live_filter q from ports h)

pub told_ids : (q : LivePort → Bool) (from affected moment first : ℕ) (ports : List LivePort) (ids : List ℕ) (before after : List Out) → Ascend from ports → ids ≡ addresses (filter q ports) →
    after ≡ with_changes moment first before (map (told_at_address ports affected) ids) → after ≡ with_changes moment first before (map (λ w. told w affected) (filter q ports))
told_ids q from affected moment first ports ids before after h e now =
    now ∙ ap (λ is. with_changes moment first before (map (told_at_address ports affected) is)) e
    ∙ ap (with_changes moment first before) (told_found affected ports (filter q ports) (found_filter q from ports h))

-- ---- logins of N_Ports

pub addresses_same : (ports : List LivePort) → addresses_of (map login_of ports) ≡ addresses ports
addresses_same [] = refl
addresses_same (p ∷ ports) = ap (λ ids. p.address ∷ ids) (addresses_same ports)

pub logins_told : (c : Settings) (T : Tables) (but : List ℕ) (ports : List LivePort) → told_of_logins c T but (map login_of ports) ≡ told_of_each c T but ports
logins_told c T but ports = flat_map-map (λ (l : Login). told_of_name c T but l.address l.name) login_of ports

-- ---- a tick

-- the first state changes of a list
pub first_changes : (moment first : ℕ) (outs : List Out) (ns : List Notice) → outs ≡ [] → with_changes moment first outs ns ≡ at_moment moment (changes first ns)
first_changes moment first outs ns e = ap (λ os. with_changes moment first os ns) e ∙ ap (λ n. at_moment moment (changes n ns)) (omega arith)

ends_told : (c : Settings) (T : Tables) (m first : ℕ) (ended : List Login) (start mid : List Out) → ended ≡ map login_of (overdue c T m) → start ≡ [] →
    mid ≡ with_changes m first start (told_of_logins c T (addresses_of ended) ended) → mid ≡ with_changes m first [] (told_of_each c T (addresses (overdue c T m)) (overdue c T m))
ends_told c T m first ended start mid e none was =
    was ∙ ap (λ os. with_changes m first os (told_of_logins c T (addresses_of ended) ended)) none
    ∙ ap (λ ls. with_changes m first [] (told_of_logins c T (addresses_of ls) ls)) e
    ∙ ap (λ ids. with_changes m first [] (told_of_logins c T ids (map login_of (overdue c T m)))) (addresses_same (overdue c T m))
    ∙ ap (with_changes m first []) (logins_told c T (addresses (overdue c T m)) (overdue c T m))

-- what changes of zones tell, by the clock
abbrev pub told_by_clock : Settings → Tables → ℕ → List ℕ → Option ℕ → List Notice
told_by_clock c T m but clock = elim clock [ None ↦ [] | Some t ↦ flat_map (told_of_change c T t m but) (staying_at c T m) ]

pub before_clock : (c : Settings) (T : Tables) (m first : ℕ) (ended : List Login) (start mid : List Out) → ended ≡ map login_of (overdue c T m) → start ≡ [] → T.clock ≡ None →
    mid ≡ with_changes m first start (told_of_logins c T (addresses_of ended) ended) → mid ≡ at_moment m (changes first (notices_of_tick c T m))
before_clock c T m first ended start mid e none clock was =
    let ends : List ℕ = addresses (overdue c T m) in
    ends_told c T m first ended start mid e none was
    ∙ first_changes m first [] (told_of_each c T ends (overdue c T m)) refl
    ∙ ap (λ ns. at_moment m (changes first ns)) (sym (append-nil (told_of_each c T ends (overdue c T m))) ∙ ap (λ o. told_of_each c T ends (overdue c T m) ++ told_by_clock c T m ends o) (sym clock))

pub after_clock : (c : Settings) (T : Tables) (m first t : ℕ) (ended : List Login) (start mid last : List Out) → ended ≡ map login_of (overdue c T m) → start ≡ [] → T.clock ≡ Some t →
    mid ≡ with_changes m first start (told_of_logins c T (addresses_of ended) ended) → last ≡ with_changes m first mid (flat_map (told_of_change c T t m (addresses_of ended)) (staying_at c T m)) →
    last ≡ at_moment m (changes first (notices_of_tick c T m))
after_clock c T m first t ended start mid last e none clock was now =
    let ends : List ℕ = addresses (overdue c T m) in
    let ns : List Notice = told_of_each c T ends (overdue c T m) in
    now ∙ ap (λ os. with_changes m first os (flat_map (told_of_change c T t m (addresses_of ended)) (staying_at c T m))) (ends_told c T m first ended start mid e none was)
    ∙ with_changes-twice m first [] ns (flat_map (told_of_change c T t m (addresses_of ended)) (staying_at c T m))
    ∙ ap (λ ids. with_changes m first [] (ns ++ flat_map (told_of_change c T t m ids) (staying_at c T m))) (ap addresses_of e ∙ addresses_same (overdue c T m))
    ∙ ap (λ o. with_changes m first [] (ns ++ told_by_clock c T m ends o)) (sym clock)
    ∙ first_changes m first [] (notices_of_tick c T m) refl
