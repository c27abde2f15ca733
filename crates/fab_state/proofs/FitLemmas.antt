-- What each test of a seam says, and that it holds where that is so.
use Rattle.std.proofs.Common.{◌≡◌, ℕ, zero, suc, ◌+◌, ◌*◌, ◌-◌, ◌%◌, ◌<◌, ◌≤◌, ◌^◌, ◌⊎◌, inl, inr, Bool, true, false, cond, not, ◌&&◌, ◌||◌, List, [], ◌∷◌, length, map, Option, Some, None, refl, sym, ap, subst, ◌∙◌, arith}
use Rattle.std.specs.Prelude.{◌==◌, nat_lt, nat_le, is_some, is_none, slice_get, IfSome, IsSome}
use Rattle.std.specs.List.{AllByRecursion}
use Rattle.std.proofs.lemmas.Bool.{and_cases, and_from, and_left, and_parts, and_right, both_ways, cases_Bool, eq-eqb, eqb-false, eqb-true, le-leb, le-ltb, leb-false, leb-true, lt-leb, lt-ltb, ltb-false, ltb-true, ne_eqb, not-false, not_from_true, or_cases, or_from, or_left, or_parts, or_right}
use Rattle.fab_base.specs.Counting.{counting}
use Rattle.fab_base.specs.Fabric.{PORT_PERIOD, Past, is_silent, same_enode}
use Rattle.fab_base.specs.declared.values.Enode.{Enode}
use Rattle.fab_config.specs.Settings.{Settings}
use Rattle.ct_messages.specs.Server.{Values}
use Rattle.fab_policy.specs.Logins.{pool}
use Rattle.fab_policy.specs.Outputs.{State}
use Rattle.fab_policy.specs.State as state
use Rattle.fab_policy.specs.State.{LivePort, Tables, now_of, port_at}
use Rattle.fab_policy.specs.Written.{IsNew}
use Rattle.fab_pieces.specs.Seam.{AreBelow, Seam, past_rows}
use Rattle.fab_pieces.specs.Sound.{IsCutSize, IsFreed, IsServed}
use Rattle.fab_state.specs.Fit.{AreLogins, FitsClock, FitsLogin, FitsPast, IsClock, IsFirst, IsFit, IsHeldBy, IsKept, IsUnused, SharesVoice}
use Rattle.fab_state.specs.Fitting.{advertised_fault, all_logins_fault, are_counted, are_features, are_low, are_places, are_unused, at_line, behind_head, clock_fault, counts_fault, fault_of, first_of, has_login, has_other_voice, head_fault, heard_why, is_elsewhere, is_first, is_free, is_held, is_held_by, is_holder, is_later, is_name, is_named, is_other_voice, is_overdue, is_size, is_start, is_unused, last_fault, login_why, logins_fault, or_behind, or_then, past_why, pasts_fault, place_why, served_why, start_fault, started_fault, tables_fault, values_why}
use Rattle.fab_state.specs.declared.fit.FitFault.{FitFault}
use Rattle.fab_state.specs.declared.fit.FitWhy.{FitWhy}
use Rattle.fab_state.specs.declared.fit.FitWhy.TheVariants.{Begun, Window, Clock, Alone, Advertised, Period, Changes, Greatest, Ports, Pool, Ended, Unheld, Limit, Order, Holder, Name, Voice, Port, Heard, Overdue, Size, Watch, Features, Symbol}
use Rattle.fab_state.proofs.TestLemmas.{both_is, both_so, else_is, else_so, neither_is, neither_so, one, one_so, second_is, second_so, two, two_so}

-- ---- options

none_is : {X : Type 0} (o : Option X) → is_none o ≡ true → o ≡ None
none_is None e = refl
none_is (Some x) e = absurd (cc)

none_so : {X : Type 0} (o : Option X) → o ≡ None → is_none o ≡ true
none_so None e = refl
none_so (Some x) e = absurd (cc)

then_is : {X : Type 0} (a b : Option X) → or_then a b ≡ None → (a ≡ None) × (b ≡ None)
then_is None b e = (refl, e)
then_is (Some x) b e = absurd (cc)

then_so : {X : Type 0} (a b : Option X) → a ≡ None → b ≡ None → or_then a b ≡ None
then_so None b h e = e
then_so (Some x) b h e = absurd (cc)

behind_is : (line : ℕ) (w : Option FitWhy) (o : Option FitFault) → or_behind line w o ≡ None → (w ≡ None) × (o ≡ None)
behind_is line None o e = (refl, e)
behind_is line (Some w) o e = absurd (cc)

behind_so : (line : ℕ) (w : Option FitWhy) (o : Option FitFault) → w ≡ None → o ≡ None → or_behind line w o ≡ None
behind_so line None o h e = e
behind_so line (Some w) o h e = absurd (cc)

empty : {X : Type 0} (l : List X) → length l ≡ 0 → l ≡ []
empty [] e = refl
empty (x ∷ l) e = absurd (omega arith)

abbrev fault : ℕ → FitWhy → FitFault
fault line why = record { line = line; why = why }

-- ---- the head

unused_is : (past : List Past) → are_unused past ≡ true → AllByRecursion IsUnused past
unused_is [] e = tt
unused_is (q ∷ past) e =
    let parts = both_is (is_unused q) (are_unused past) e in
    let fields = and_parts (is_none q.name) (is_none q.ended) parts.0 in
    ((none_is q.name fields.0, none_is q.ended fields.1), unused_is past parts.1)

unused_so : (past : List Past) → AllByRecursion IsUnused past → are_unused past ≡ true
unused_so [] h = refl
unused_so (q ∷ past) h =
    both_so (is_unused q) (are_unused past) (and_from (is_none q.name) (is_none q.ended) (none_so q.name h.0.0) (none_so q.ended h.0.1)) (unused_so past h.1)

first_is : (S : State) → is_first S ≡ true → IsFirst S
first_is S e =
    let parts = and_parts (length S.tables.ports == 0 && S.rscns == 0) (are_unused S.tables.past) e in
    let counts = and_parts (length S.tables.ports == 0) (S.rscns == 0) parts.0 in
    record {
      ports = empty S.tables.ports (eqb-true (length S.tables.ports) 0 counts.0);
      rscns = eqb-true S.rscns 0 counts.1;
      past = unused_is S.tables.past parts.1;
    }

first_so : (S : State) → IsFirst S → is_first S ≡ true
first_so S h =
    and_from (length S.tables.ports == 0 && S.rscns == 0) (are_unused S.tables.past)
    (and_from (length S.tables.ports == 0) (S.rscns == 0) (eq-eqb (length S.tables.ports) 0 (ap length h.ports)) (eq-eqb S.rscns 0 h.rscns))
    (unused_so S.tables.past h.past)

begun_is : (c : Settings) (S : State) (last : Option ℕ) → cond (is_some last) (at_line 3 Alone) (cond (is_first S) None (at_line 2 Begun)) ≡ None → FitsClock c S None last
begun_is c S None e = first_is S (else_is (is_first S) (fault 2 Begun) e)
begun_is c S (Some last) e = absurd (cc)

begun_so : (c : Settings) (S : State) (last : Option ℕ) → FitsClock c S None last → cond (is_some last) (at_line 3 Alone) (cond (is_first S) None (at_line 2 Begun)) ≡ None
begun_so c S None h = else_so (is_first S) (fault 2 Begun) (first_so S h)
begun_so c S (Some last) h = absurd h

below : (t m p : ℕ) → m ≤ t → t - m < p → t < m + p
below t m p least most = omega arith

above : (t m p : ℕ) → m ≤ t → t < m + p → t - m < p
above t m p least most = omega arith

clock_is : (c : Settings) (S : State) (t : ℕ) (last : Option ℕ) → started_fault c t last ≡ None → FitsClock c S (Some t) last
clock_is c S t last e =
    let parts = two (not (is_start c t)) (nat_le (2 ^ 43) t) (fault 2 Window) (fault 2 Clock) (last_fault c t last) e in
    by last (eqb-true (t % c.window) 0 (not-false (is_start c t) parts.0)) (leb-false (2 ^ 43) t parts.1) parts.2
  where
    by : (last : Option ℕ) → t % c.window ≡ 0 → t < 2 ^ 43 → last_fault c t last ≡ None → FitsClock c S (Some t) last
    by None start range f = absurd (cc)
    by (Some m) start range f =
        let parts = two (nat_lt t m) (nat_le c.period (t - m)) (fault 3 Advertised) (fault 3 Period) None f in
        let least = ltb-false t m parts.0 in
        let most = leb-false c.period (t - m) parts.1 in
        record { start = start; range = range; least = least; most = below t m c.period least most }

clock_so : (c : Settings) (S : State) (t : ℕ) (last : Option ℕ) → FitsClock c S (Some t) last → started_fault c t last ≡ None
clock_so c S t None h = absurd h
clock_so c S t (Some m) h =
    two_so (not (is_start c t)) (nat_le (2 ^ 43) t) (fault 2 Window) (fault 2 Clock) (advertised_fault c t m)
    (not_from_true (is_start c t) (eq-eqb (t % c.window) 0 h.start)) (lt-leb (2 ^ 43) t h.range)
    (two_so (nat_lt t m) (nat_le c.period (t - m)) (fault 3 Advertised) (fault 3 Period) None
    (le-ltb t m h.least) (lt-leb c.period (t - m) (above t m c.period h.least h.most)) refl)

head_is : (c : Settings) (S : State) (t : Option ℕ) → clock_fault c S t ≡ None → FitsClock c S t S.advertised
head_is c S None e = begun_is c S S.advertised e
head_is c S (Some t) e = clock_is c S t S.advertised e

head_so : (c : Settings) (S : State) (t : Option ℕ) → FitsClock c S t S.advertised → clock_fault c S t ≡ None
head_so c S None h = begun_so c S S.advertised h
head_so c S (Some t) h = clock_so c S t S.advertised h

-- ---- addresses

places_is : (past : List Past) (first : ℕ) → are_counted first past ≡ true → map (λ (q : Past). q.address) past ≡ counting first (length past)
places_is [] first e = refl
places_is (q ∷ past) first e =
    let parts = both_is (q.address == first) (are_counted (q.address + 1) past) e in
    let same = eqb-true q.address first parts.0 in
    let rest = places_is past (q.address + 1) parts.1 in
    (λ i. same i ∷ (rest ∙ ap (λ (a : ℕ). counting (a + 1) (length past)) same) i)

pub places_so : (past : List Past) (first n : ℕ) → map (λ (q : Past). q.address) past ≡ counting first n → (length past ≡ n) × (are_counted first past ≡ true)
places_so [] first zero e = (refl, refl)
places_so [] first (suc n) e = absurd (cc)
places_so (q ∷ past) first zero e = absurd (cc)
places_so (q ∷ past) first (suc n) e =
    let head : q.address ≡ first = cc in
    let tail : map (λ (q : Past). q.address) past ≡ counting (first + 1) n = cc in
    let rest = places_so past (first + 1) n tail in
    let count = rest.0 in (
      (let same : length (q ∷ past) ≡ suc n = omega arith in same),
      both_so (q.address == first) (are_counted (q.address + 1) past) (eq-eqb q.address first head)
          (subst (λ (a : ℕ). are_counted (a + 1) past ≡ true) (sym head) rest.1),
    )

later_is : (now : ℕ) (o : Option ℕ) → is_later now o ≡ false → IfSome o (λ t. t ≤ now)
later_is now None e = tt
later_is now (Some t) e = ltb-false now t e

later_so : (now : ℕ) (o : Option ℕ) → IfSome o (λ t. t ≤ now) → is_later now o ≡ false
later_so now None h = refl
later_so now (Some t) h = le-ltb now t h

free_is : (name ended : Option ℕ) → cond (is_some name) (is_some ended) (not (is_some ended)) ≡ true → ((name ≡ None) × (ended ≡ None)) ⊎ (IsSome name × IsSome ended)
free_is None None e = inl (refl, refl)
free_is None (Some t) e = absurd (cc)
free_is (Some n) None e = absurd (cc)
free_is (Some n) (Some t) e = inr (refl, refl)

free_so : (name ended : Option ℕ) → ((name ≡ None) × (ended ≡ None)) ⊎ (IsSome name × IsSome ended) → cond (is_some name) (is_some ended) (not (is_some ended)) ≡ true
free_so None None h = refl
free_so None (Some t) (inl h) = absurd (let none = h.1 in cc)
free_so None (Some t) (inr h) = absurd (let some = h.0 in cc)
free_so (Some n) None (inl h) = absurd (let none = h.0 in cc)
free_so (Some n) None (inr h) = absurd (let some = h.1 in cc)
free_so (Some n) (Some t) h = refl

found_by : (p : LivePort) (o : Option LivePort) (b x : Bool) → cond b true x ≡ true → (x ≡ true → IsSome o) → IsSome (cond b (Some p) o)
found_by p o true x e more = refl
found_by p o false x e more = more e

found_is : (a : ℕ) (ports : List LivePort) → has_login a ports ≡ true → IsSome (port_at a ports)
found_is a [] e = absurd (cc)
found_is a (p ∷ ports) e = found_by p (port_at a ports) (p.address == a) (has_login a ports) e (found_is a ports)

found_at : (p : LivePort) (o : Option LivePort) (b x : Bool) → IsSome (cond b (Some p) o) → (IsSome o → x ≡ true) → cond b true x ≡ true
found_at p o true x h more = refl
found_at p o false x h more = more h

found_so : (a : ℕ) (ports : List LivePort) → IsSome (port_at a ports) → has_login a ports ≡ true
found_so a [] h = absurd (cc)
found_so a (p ∷ ports) h = found_at p (port_at a ports) (p.address == a) (has_login a ports) h (found_so a ports)

past_is : (T : Tables) (q : Past) → past_why (now_of T) T.ports q ≡ None → FitsPast T q
past_is T q e =
    let parts = one (is_later (now_of T) q.ended) Ended (cond (is_free q || has_login q.address T.ports) None (Some Unheld)) e in
    record {
      ended = later_is (now_of T) q.ended parts.0;
      freed = elim (or_cases (is_free q) (has_login q.address T.ports) (else_is (is_free q || has_login q.address T.ports) Unheld parts.1)) [
        | inl free ↦ inl (free_is q.name q.ended free)
        | inr found ↦ inr (found_is q.address T.ports found)
      ];
    }

past_so : (T : Tables) (q : Past) → FitsPast T q → past_why (now_of T) T.ports q ≡ None
past_so T q h =
    one_so (is_later (now_of T) q.ended) Ended (cond (is_free q || has_login q.address T.ports) None (Some Unheld)) (later_so (now_of T) q.ended h.ended)
    (else_so (is_free q || has_login q.address T.ports) Unheld (elim h.freed [
      | inl free ↦ or_left (is_free q) (has_login q.address T.ports) (free_so q.name q.ended free)
      | inr found ↦ or_right (is_free q) (has_login q.address T.ports) (found_so q.address T.ports found)
    ]))

pasts_is : (T : Tables) (line : ℕ) (past : List Past) → pasts_fault (now_of T) T.ports line past ≡ None → AllByRecursion (FitsPast T) past
pasts_is T line [] e = tt
pasts_is T line (q ∷ past) e =
    let next = line + length (past_rows (q ∷ [])) in
    let parts = behind_is line (past_why (now_of T) T.ports q) (pasts_fault (now_of T) T.ports next past) e in
    (past_is T q parts.0, pasts_is T next past parts.1)

pasts_so : (T : Tables) (line : ℕ) (past : List Past) → AllByRecursion (FitsPast T) past → pasts_fault (now_of T) T.ports line past ≡ None
pasts_so T line [] h = refl
pasts_so T line (q ∷ past) h =
    let next = line + length (past_rows (q ∷ [])) in
    behind_so line (past_why (now_of T) T.ports q) (pasts_fault (now_of T) T.ports next past) (past_so T q h.0) (pasts_so T next past h.1)

-- ---- logins

name_is : (name : ℕ) (o : Option ℕ) → is_name name o ≡ true → o ≡ Some name
name_is name None e = absurd (cc)
name_is name (Some last) e = ap (λ (x : ℕ). Some x) (eqb-true last name e)

name_so : (name : ℕ) (o : Option ℕ) → o ≡ Some name → is_name name o ≡ true
name_so name None h = absurd (cc)
name_so name (Some last) h = eq-eqb last name (let same : last ≡ name = cc in same)

held_is : (name : ℕ) (o : Option Past) → is_held_by name o ≡ true → IsHeldBy name o
held_is name None e = absurd (cc)
held_is name (Some q) e = let parts = and_parts (is_name name q.name) (is_none q.ended) e in (name_is name q.name parts.0, none_is q.ended parts.1)

held_so : (name : ℕ) (o : Option Past) → IsHeldBy name o → is_held_by name o ≡ true
held_so name None h = absurd h
held_so name (Some q) h = and_from (is_name name q.name) (is_none q.ended) (name_so name q.name h.0) (none_so q.ended h.1)

new_is : (p : LivePort) (ports : List LivePort) → is_named p.name ports ≡ false → IsNew p ports
new_is p [] e = tt
new_is p (q ∷ ports) e =
    let parts = neither_is (q.name == p.name) (is_named p.name ports) e in
    ((λ same. eqb-false q.name p.name parts.0 (sym same)), new_is p ports parts.1)

new_so : (p : LivePort) (ports : List LivePort) → IsNew p ports → is_named p.name ports ≡ false
new_so p [] h = refl
new_so p (q ∷ ports) h = neither_so (q.name == p.name) (is_named p.name ports) (ne_eqb q.name p.name (λ same. h.0 (sym same))) (new_so p ports h.1)

voice_is : (p : LivePort) (ports : List LivePort) → has_other_voice p ports ≡ false → SharesVoice p ports
voice_is p [] e = tt
voice_is p (q ∷ ports) e =
    let parts = neither_is (is_other_voice p q) (has_other_voice p ports) e in (
      (λ same. elim (and_cases (same_enode p.enode q.enode) (not (p.node_heard == q.node_heard)) parts.0) [
        | inl other ↦ absurd (both_ways (same_enode p.enode q.enode) other same)
        | inr equal ↦ eqb-true p.node_heard q.node_heard (not-false (p.node_heard == q.node_heard) equal)
      ]),
      voice_is p ports parts.1,
    )

voice_so : (p : LivePort) (ports : List LivePort) → SharesVoice p ports → has_other_voice p ports ≡ false
voice_so p [] h = refl
voice_so p (q ∷ ports) h =
    neither_so (is_other_voice p q) (has_other_voice p ports)
    (elim (cases_Bool (same_enode p.enode q.enode)) [
      | inl same ↦ and_right (same_enode p.enode q.enode) (not (p.node_heard == q.node_heard)) (not_from_true (p.node_heard == q.node_heard) (eq-eqb p.node_heard q.node_heard (h.0 same)))
      | inr other ↦ and_left (same_enode p.enode q.enode) (not (p.node_heard == q.node_heard)) other
    ])
    (voice_so p ports h.1)

size_is : (o : Option ℕ) → is_size o ≡ true → IfSome o IsCutSize
size_is None e = tt
size_is (Some size) e =
    let parts = and_parts (nat_le 256 size && nat_le size 2112) (size % 4 == 0) e in
    let ends = and_parts (nat_le 256 size) (nat_le size 2112) parts.0 in
    (leb-true 256 size ends.0, leb-true size 2112 ends.1, eqb-true (size % 4) 0 parts.1)

size_so : (o : Option ℕ) → IfSome o IsCutSize → is_size o ≡ true
size_so None h = refl
size_so (Some size) h =
    and_from (nat_le 256 size && nat_le size 2112) (size % 4 == 0)
    (and_from (nat_le 256 size) (nat_le size 2112) (le-leb 256 size h.0) (le-leb size 2112 h.1)) (eq-eqb (size % 4) 0 h.2)

low_is : (fs : List ℕ) → are_low fs ≡ true → AreBelow 16 fs
low_is [] e = tt
low_is (f ∷ fs) e = let parts = both_is (nat_lt f 16) (are_low fs) e in (ltb-true f 16 parts.0, low_is fs parts.1)

low_so : (fs : List ℕ) → AreBelow 16 fs → are_low fs ≡ true
low_so [] h = refl
low_so (f ∷ fs) h = both_so (nat_lt f 16) (are_low fs) (lt-ltb f 16 h.0) (low_so fs h.1)

kept_is : (v : Values) → values_why v ≡ None → IsKept v
kept_is v e =
    let parts = two (not (are_features v.features)) (nat_lt 255 (length v.symbol) || nat_lt 255 (length v.node_symbol)) Features Symbol None e in
    let features = and_parts (length v.features == 256) (are_low v.features) (not-false (are_features v.features) parts.0) in
    let symbols = or_parts (nat_lt 255 (length v.symbol)) (nat_lt 255 (length v.node_symbol)) parts.1 in
    record {
      count = eqb-true (length v.features) 256 features.0;
      features = low_is v.features features.1;
      symbol = ltb-false 255 (length v.symbol) symbols.0;
      node_symbol = ltb-false 255 (length v.node_symbol) symbols.1;
    }

kept_so : (v : Values) → IsKept v → values_why v ≡ None
kept_so v h =
    two_so (not (are_features v.features)) (nat_lt 255 (length v.symbol) || nat_lt 255 (length v.node_symbol)) Features Symbol None
    (not_from_true (are_features v.features) (and_from (length v.features == 256) (are_low v.features) (eq-eqb (length v.features) 256 h.count) (low_so v.features h.features)))
    (or_from (nat_lt 255 (length v.symbol)) (nat_lt 255 (length v.node_symbol)) (le-ltb 255 (length v.symbol) h.symbol) (le-ltb 255 (length v.node_symbol) h.node_symbol))
    refl

login_is : (c : Settings) (n : ℕ) (T : Tables) (least : ℕ) (p : LivePort) (behind : List LivePort) → login_why c n T least p behind ≡ None → FitsLogin c n T least p behind
login_is c n T least p behind e =
    let now = now_of T in
    let all = then_is (place_why (first_of c) T.past least p behind) (or_then (heard_why c.period n now p) (served_why p)) e in
    let more = then_is (heard_why c.period n now p) (served_why p) all.1 in
    let names = cond (is_named p.name behind) (Some Name) (cond (has_other_voice p behind) (Some Voice) None) in
    let place = two (nat_lt p.address least) (not (is_holder (first_of c) T.past p)) Order Holder names all.0 in
    let name = two (is_named p.name behind) (has_other_voice p behind) Name Voice None place.2 in
    let holder = second_is (nat_lt p.address (first_of c)) (is_held_by p.name (slice_get T.past (p.address - first_of c))) (not-false (is_holder (first_of c) T.past p) place.1) in
    let late = nat_lt now p.node_heard || nat_lt now p.port_heard in
    let heard = two (is_elsewhere n p.enode) late Port Heard (cond (is_overdue c.period now p) (Some Overdue) None) more.0 in
    let port = or_parts (nat_lt p.enode.port 1) (nat_lt n p.enode.port) heard.0 in
    let voices = or_parts (nat_lt now p.node_heard) (nat_lt now p.port_heard) heard.1 in
    let quiet = one (is_overdue c.period now p) Overdue None heard.2 in
    let served = two (not (is_size p.server)) (nat_lt 3 p.watch) Size Watch (values_why p.values) more.1 in
    record {
      order = ltb-false p.address least place.0;
      lowest = ltb-false p.address (first_of c) holder.0;
      holder = held_is p.name (slice_get T.past (p.address - first_of c)) holder.1;
      name = new_is p behind name.0;
      voice = voice_is p behind name.1;
      first = ltb-false p.enode.port 1 port.0;
      last = ltb-false n p.enode.port port.1;
      node_heard = ltb-false now p.node_heard voices.0;
      port_heard = ltb-false now p.port_heard voices.1;
      quiet = quiet.0;
      served = (size_is p.server (not-false (is_size p.server) served.0), ltb-false 3 p.watch served.1);
      kept = kept_is p.values served.2;
    }

login_so : (c : Settings) (n : ℕ) (T : Tables) (least : ℕ) (p : LivePort) (behind : List LivePort) → FitsLogin c n T least p behind → login_why c n T least p behind ≡ None
login_so c n T least p behind h =
    let now = now_of T in
    let first = first_of c in
    let names = cond (is_named p.name behind) (Some Name) (cond (has_other_voice p behind) (Some Voice) None) in
    let late = nat_lt now p.node_heard || nat_lt now p.port_heard in
    then_so (place_why first T.past least p behind) (or_then (heard_why c.period n now p) (served_why p))
    (two_so (nat_lt p.address least) (not (is_holder first T.past p)) Order Holder names (le-ltb p.address least h.order)
    (not_from_true (is_holder first T.past p) (second_so (nat_lt p.address first) (is_held_by p.name (slice_get T.past (p.address - first))) (le-ltb p.address first h.lowest) (held_so p.name (slice_get T.past (p.address - first)) h.holder)))
    (two_so (is_named p.name behind) (has_other_voice p behind) Name Voice None (new_so p behind h.name) (voice_so p behind h.voice) refl))
    (then_so (heard_why c.period n now p) (served_why p)
    (two_so (is_elsewhere n p.enode) late Port Heard (cond (is_overdue c.period now p) (Some Overdue) None)
    (or_from (nat_lt p.enode.port 1) (nat_lt n p.enode.port) (le-ltb p.enode.port 1 h.first) (le-ltb n p.enode.port h.last))
    (or_from (nat_lt now p.node_heard) (nat_lt now p.port_heard) (le-ltb now p.node_heard h.node_heard) (le-ltb now p.port_heard h.port_heard))
    (one_so (is_overdue c.period now p) Overdue None h.quiet refl))
    (two_so (not (is_size p.server)) (nat_lt 3 p.watch) Size Watch (values_why p.values) (not_from_true (is_size p.server) (size_so p.server h.served.0)) (le-ltb 3 p.watch h.served.1) (kept_so p.values h.kept)))

logins_is : (c : Settings) (n : ℕ) (T : Tables) (least line : ℕ) (ports : List LivePort) → logins_fault c n T least line ports ≡ None → AreLogins c n T least ports
logins_is c n T least line [] e = tt
logins_is c n T least line (p ∷ behind) e =
    let parts = behind_is line (login_why c n T least p behind) (logins_fault c n T (p.address + 1) (line + 1) behind) e in
    (login_is c n T least p behind parts.0, logins_is c n T (p.address + 1) (line + 1) behind parts.1)

logins_so : (c : Settings) (n : ℕ) (T : Tables) (least line : ℕ) (ports : List LivePort) → AreLogins c n T least ports → logins_fault c n T least line ports ≡ None
logins_so c n T least line [] h = refl
logins_so c n T least line (p ∷ behind) h =
    behind_so line (login_why c n T least p behind) (logins_fault c n T (p.address + 1) (line + 1) behind) (login_so c n T least p behind h.0) (logins_so c n T (p.address + 1) (line + 1) behind h.1)

-- ---- all of it

-- Where no test fails, all of them hold.
pub fits : (c : Settings) (n : ℕ) (s : Seam) → fault_of c n s ≡ None → IsFit c n s
fits c n s e =
    let T = s.state.tables in
    let line = 6 + n + length (past_rows T.past) in
    let all = then_is (head_fault c s) (behind_head c n s) e in
    let head = then_is (clock_fault c s.state T.clock) (counts_fault s) all.0 in
    let counts = two (nat_le 65535 s.state.rscns) (nat_lt s.greatest (now_of T)) (fault 4 Changes) (fault 5 Greatest) None head.1 in
    let tables = or_then (pasts_fault (now_of T) T.ports (6 + n) T.past) (all_logins_fault c n T line) in
    let ports = two (not (length s.nexts == n)) (not (are_places c T.past)) (fault 6 Ports) (fault (6 + n) Pool) tables all.1 in
    let places = and_parts (length T.past == c.pool) (are_counted (first_of c) T.past) (not-false (are_places c T.past) ports.1) in
    let lists = then_is (pasts_fault (now_of T) T.ports (6 + n) T.past) (all_logins_fault c n T line) ports.2 in
    let logins = one (nat_lt c.limit (length T.ports)) (fault (line + c.limit) Limit) (logins_fault c n T (first_of c) line T.ports) lists.1 in
    record {
      clock = head_is c s.state T.clock head.0;
      rscns = leb-false 65535 s.state.rscns counts.0;
      order = ltb-false s.greatest (now_of T) counts.1;
      ports = eqb-true (length s.nexts) n (not-false (length s.nexts == n) ports.0);
      places = places_is T.past (first_of c) places.1 ∙ ap (counting (first_of c)) (eqb-true (length T.past) c.pool places.0);
      past = pasts_is T (6 + n) T.past lists.0;
      few = ltb-false c.limit (length T.ports) logins.0;
      logins = logins_is c n T (first_of c) line T.ports logins.1;
    }

-- Where all tests hold, none fails.
pub fitting : (c : Settings) (n : ℕ) (s : Seam) → IsFit c n s → fault_of c n s ≡ None
fitting c n s h =
    let T = s.state.tables in
    let line = 6 + n + length (past_rows T.past) in
    let tables = or_then (pasts_fault (now_of T) T.ports (6 + n) T.past) (all_logins_fault c n T line) in
    let places = places_so T.past (first_of c) c.pool h.places in
    then_so (head_fault c s) (behind_head c n s)
    (then_so (clock_fault c s.state T.clock) (counts_fault s) (head_so c s.state T.clock h.clock)
    (two_so (nat_le 65535 s.state.rscns) (nat_lt s.greatest (now_of T)) (fault 4 Changes) (fault 5 Greatest) None
    (lt-leb 65535 s.state.rscns h.rscns) (le-ltb s.greatest (now_of T) h.order) refl))
    (two_so (not (length s.nexts == n)) (not (are_places c T.past)) (fault 6 Ports) (fault (6 + n) Pool) tables
    (not_from_true (length s.nexts == n) (eq-eqb (length s.nexts) n h.ports))
    (not_from_true (are_places c T.past) (and_from (length T.past == c.pool) (are_counted (first_of c) T.past) (eq-eqb (length T.past) c.pool places.0) places.1))
    (then_so (pasts_fault (now_of T) T.ports (6 + n) T.past) (all_logins_fault c n T line) (pasts_so T (6 + n) T.past h.past)
    (one_so (nat_lt c.limit (length T.ports)) (fault (line + c.limit) Limit) (logins_fault c n T (first_of c) line T.ports)
    (le-ltb c.limit (length T.ports) h.few) (logins_so c n T (first_of c) line T.ports h.logins))))
