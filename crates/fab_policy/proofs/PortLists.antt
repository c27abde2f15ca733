-- Lists of N_Ports that are found address by address: names, numbers and silence.
use Rattle.std.proofs.Common.{◌≡◌, ℕ, zero, suc, ◌+◌, ◌<◌, ◌≤◌, ◌⊎◌, inl, inr, ◌==◌, ◌&&◌, ◌≢◌, Bool, true, false, not, cond, List, [], ◌∷◌, Option, Some, None, refl, sym, ap, subst, ◌∙◌, arith, filter, filter_map, length, if◌then◌else◌}
use Rattle.std.proofs.lemmas.Bool.{cases_eq, eqb-true, or_from, or_parts}
use Rattle.std.proofs.lemmas.Bool.Decides.{nat_tests}
use Rattle.std.specs.List.{cons_option, list_any}
use Rattle.fab_base.specs.Counting.{counting}
use Rattle.fab_base.specs.Fabric.{PORT_PERIOD, is_silent, same_enode}
use Rattle.fab_base.specs.declared.values.Caught.{Caught}
use Rattle.fab_config.specs.Settings.{Settings}
use Rattle.heard_frames.specs.Heard.{is_flogi, sender}
use Rattle.fab_policy.specs.Free.{Request}
use Rattle.fab_policy.specs.Logins.{grants, hears_node, hears_port}
use Rattle.fab_policy.specs.State.{LivePort, Tables, is_overdue, port_at}
use Rattle.fab_policy.specs.Steps.{touched}
use Rattle.fab_policy.specs.Written.{HaveDifferentNames, IsNew}
use Rattle.fab_policy.specs.declared.event.Event.{Event}
use Rattle.fab_policy.specs.declared.event.Event.TheVariants.{Tick, Frame}
use Rattle.fab_policy.specs.declared.verdict.Verdict.TheVariants.{Granted}
use Rattle.fab_policy.proofs.SoundGrants.{IsAllowed}
use Rattle.fab_policy.proofs.After.{the_same}

-- ---- what can't be, and sums of bounds

pub no_bool : {X : Type 0} → false ≡ true → X
no_bool w = absurd (cc)

pub no_some : {X Y : Type 0} → (y : Y) → (let o : Option Y = None in o) ≡ Some y → X
no_some y w = absurd (cc)

pub some_none : {X Y : Type 0} → (y : Y) → (let o : Option Y = Some y in o) ≡ None → X
some_none y w = absurd (cc)

pub not_less : (a b : ℕ) → a < b → a ≡ b → ⊥
not_less a b lt e = omega (arith, lt, e)

pub as_much : (n : ℕ) → n ≤ n
as_much n = omega arith

pub few_without : (a b d n l : ℕ) → a ≤ b → b ≤ d → d ≡ n → n ≤ l → a ≤ l
few_without a b d n l h1 h2 h3 h4 = omega (arith, h1, h2, h3, h4)

pub few_with : (a b s l : ℕ) → a ≤ b + 1 → b ≡ s → s < l → a ≤ l
few_with a b s l h1 h2 h3 = omega (arith, h1, h2, h3)

-- ---- names

-- no two live N_Ports have one port name, address by address
abbrev pub AreApart : List LivePort → Type 0
AreApart ports = (a b : ℕ) (p q : LivePort) → a ≢ b → port_at a ports ≡ Some p → port_at b ports ≡ Some q → p.name ≢ q.name

pub new_means : (r : LivePort) (ports : List LivePort) → IsNew r ports → (b : ℕ) (q : LivePort) → port_at b ports ≡ Some q → r.name ≢ q.name
new_means r [] h b q e = cc
new_means r (x ∷ ports) h b q e = go (x.address == b) e (new_means r ports h.1 b q)
  where
    go : (t : Bool) → cond t (Some x) (port_at b ports) ≡ Some q → (port_at b ports ≡ Some q → r.name ≢ q.name) → r.name ≢ q.name
    go true e later = λ same. h.0 (same ∙ ap (λ (y : LivePort). y.name) (sym (the_same x q e)))
    go false e later = later e

pub names_apart : (ports : List LivePort) → HaveDifferentNames ports → AreApart ports
names_apart [] h a b p q ne x y = cc
names_apart (r ∷ ports) h a b p q ne x y = go (r.address == a) refl (r.address == b) refl x y (names_apart ports h.1 a b p q ne)
  where
    go : (s : Bool) → r.address == a ≡ s → (t : Bool) → r.address == b ≡ t → cond s (Some r) (port_at a ports) ≡ Some p → cond t (Some r) (port_at b ports) ≡ Some q → (port_at a ports ≡ Some p → port_at b ports ≡ Some q → p.name ≢ q.name) → p.name ≢ q.name
    go true m true n x y later = absurd (ne (sym (eqb-true r.address a m) ∙ eqb-true r.address b n))
    go true m false n x y later = λ same. new_means r ports h.0 b q y (ap (λ (z : LivePort). z.name) (the_same r p x) ∙ same)
    go false m true n x y later = λ same. new_means r ports h.0 a p x (ap (λ (z : LivePort). z.name) (the_same r q y) ∙ sym same)
    go false m false n x y later = later x y

pub new_among : (f : ℕ → Option LivePort) (p : LivePort) (n k : ℕ) → ((b : ℕ) (q : LivePort) → k ≤ b → b < k + n → f b ≡ Some q → p.name ≢ q.name) → IsNew p (filter_map f (counting k n))
new_among f p zero k h = tt
new_among f p (suc n) k h = by_first (f k) refl (new_among f p n (k + 1) (λ b q l r. h b q (omega arith) (omega arith)))
  where
    by_first : (o : Option LivePort) → f k ≡ o → IsNew p (filter_map f (counting (k + 1) n)) → IsNew p (cons_option o (filter_map f (counting (k + 1) n)))
    by_first None e rest = rest
    by_first (Some q) e rest = (h k q (omega arith) (omega arith) e, rest)

pub names_differ : (f : ℕ → Option LivePort) (n k : ℕ) → ((a b : ℕ) (p q : LivePort) → k ≤ a → a < b → b < k + n → f a ≡ Some p → f b ≡ Some q → p.name ≢ q.name) → HaveDifferentNames (filter_map f (counting k n))
names_differ f zero k h = tt
names_differ f (suc n) k h = by_first (f k) refl (names_differ f n (k + 1) (λ a b p q l m r. h a b p q (omega arith) m (omega arith)))
  where
    by_first : (o : Option LivePort) → f k ≡ o → HaveDifferentNames (filter_map f (counting (k + 1) n)) → HaveDifferentNames (cons_option o (filter_map f (counting (k + 1) n)))
    by_first None e rest = rest
    by_first (Some p) e rest = (new_among f p n (k + 1) (λ b q l r y. h k b p q (omega arith) (omega arith) (omega arith) e y), rest)

-- a member that is kept fails each test that no kept member passes
pub fails : (keep test : LivePort → Bool) (b : ℕ) (q : LivePort) (ports : List LivePort) → port_at b ports ≡ Some q → keep q ≡ true → list_any test (filter keep ports) ≡ false → test q ≡ false
fails keep test b q [] e k none = absurd (cc)
fails keep test b q (x ∷ ports) e k none = go (x.address == b) e (keep x) refl none (fails keep test b q ports)
  where
    go : (t : Bool) → cond t (Some x) (port_at b ports) ≡ Some q → (s : Bool) → keep x ≡ s → list_any test (cond s (x ∷ filter keep ports) (filter keep ports)) ≡ false →
        (port_at b ports ≡ Some q → keep q ≡ true → list_any test (filter keep ports) ≡ false → test q ≡ false) → test q ≡ false
    go true e true m none later = ap test (sym (the_same x q e)) ∙ (or_parts (test x) (list_any test (filter keep ports)) none).0
    go true e false m none later = absurd (no (sym m ∙ ap keep (the_same x q e) ∙ k))
      where
        no : false ≡ true → ⊥
        no w = cc
    go false e true m none later = later e k (or_parts (test x) (list_any test (filter keep ports)) none).1
    go false e false m none later = later e k none

-- a login that a granted request doesn't end is one that stays
pub left : (c : Settings) (T : Tables) (port : ℕ) (caught : Caught) (r : Request) (q : LivePort) → IsAllowed c T port caught r →
    same_enode q.enode (sender port caught) && is_flogi caught ≡ false → not (r.flogi && same_enode q.enode r.enode) ≡ true
left c T port caught r q h e =
    ap (λ b. not (b && same_enode q.enode r.enode)) h.kind ∙ ap (λ x. not (is_flogi caught && same_enode q.enode x)) h.enode
    ∙ by_tests (same_enode q.enode (sender port caught)) (is_flogi caught) e
  where
    by_tests : (x y : Bool) → x && y ≡ false → not (y && x) ≡ true
    by_tests true true e = cc
    by_tests true false e = refl
    by_tests false true e = refl
    by_tests false false e = refl

-- an entry grants no address, or is a frame that is granted one
pub grants_none : (e : Event) → ((port index g : ℕ) × (caught : Caught) × (e ≡ Frame port index caught (Granted g))) ⊎ ((a : ℕ) → grants a e ≡ false)
grants_none (Tick m ended) = inr (λ a. refl)
grants_none (Frame port index caught (Granted g)) = inl (port, index, g, caught, refl)
grants_none (Frame port index caught _) = inr (λ a. refl)

-- ---- how many there are

abbrev pub Comes : (f g : ℕ → Option LivePort) → (LivePort → Bool) → ℕ → Type 0
Comes f g keep a = (p : LivePort) → f a ≡ Some p → (q : LivePort) × (g a ≡ Some q) × (keep q ≡ true)

pub kept_first : (keep : LivePort → Bool) (q : LivePort) (l : List LivePort) (n : ℕ) → keep q ≡ true → n ≤ length (filter keep l) → suc n ≤ length (filter keep (q ∷ l))
kept_first keep q l n t le = by_test (keep q) t
  where
    by_test : (b : Bool) → b ≡ true → suc n ≤ length (cond b (q ∷ filter keep l) (filter keep l))
    by_test true e = omega (arith, le)
    by_test false e = cc

pub kept_rest : (keep : LivePort → Bool) (o : Option LivePort) (l : List LivePort) (n : ℕ) → n ≤ length (filter keep l) → n ≤ length (filter keep (cons_option o l))
kept_rest keep None l n le = le
kept_rest keep (Some q) l n le = by_test (keep q)
  where
    by_test : (b : Bool) → n ≤ length (cond b (q ∷ filter keep l) (filter keep l))
    by_test true = omega (arith, le)
    by_test false = le

pub no_more : (f g : ℕ → Option LivePort) (keep : LivePort → Bool) (n k : ℕ) → ((a : ℕ) → k ≤ a → a < k + n → Comes f g keep a) →
    length (filter_map f (counting k n)) ≤ length (filter keep (filter_map g (counting k n)))
no_more f g keep zero k h = omega arith
no_more f g keep (suc n) k h = by_first (f k) refl (no_more f g keep n (k + 1) (λ a l r. h a (omega arith) (omega arith)))
  where
    by_first : (o : Option LivePort) → f k ≡ o → length (filter_map f (counting (k + 1) n)) ≤ length (filter keep (filter_map g (counting (k + 1) n))) →
        length (cons_option o (filter_map f (counting (k + 1) n))) ≤ length (filter keep (cons_option (g k) (filter_map g (counting (k + 1) n))))
    by_first None e le = kept_rest keep (g k) (filter_map g (counting (k + 1) n)) (length (filter_map f (counting (k + 1) n))) le
    by_first (Some p) e le =
        let from = h k (omega arith) (omega arith) p e in
        subst (λ o. suc (length (filter_map f (counting (k + 1) n))) ≤ length (filter keep (cons_option o (filter_map g (counting (k + 1) n))))) (sym from.1)
        (kept_first keep from.0 (filter_map g (counting (k + 1) n)) (length (filter_map f (counting (k + 1) n))) from.2 le)

pub one_more : (f g : ℕ → Option LivePort) (keep : LivePort → Bool) (x n k : ℕ) → ((a : ℕ) → k ≤ a → a < k + n → (a ≡ x → ⊥) → Comes f g keep a) →
    length (filter_map f (counting k n)) ≤ length (filter keep (filter_map g (counting k n))) + 1
one_more f g keep x zero k h = omega arith
one_more f g keep x (suc n) k h = by_order (cases_eq k x) (one_more f g keep x n (k + 1) (λ a l r e. h a (omega arith) (omega arith) e))
  where
    ours : List LivePort
    ours = filter_map f (counting (k + 1) n)

    theirs : List LivePort
    theirs = filter_map g (counting (k + 1) n)

    longer : (o : Option LivePort) (l : List LivePort) → length (cons_option o l) ≤ length l + 1
    longer None l = omega arith
    longer (Some p) l = omega arith

    by_order : (k ≡ x) ⊎ (k ≢ x) → length ours ≤ length (filter keep theirs) + 1 → length (cons_option (f k) ours) ≤ length (filter keep (cons_option (g k) theirs)) + 1
    by_order (inl is) later =
        let rest : length ours ≤ length (filter keep theirs) = no_more f g keep n (k + 1) (λ a l r. h a (omega arith) (omega arith) (λ e. omega (arith, e, is))) in
        let all : length ours ≤ length (filter keep (cons_option (g k) theirs)) = kept_rest keep (g k) theirs (length ours) rest in
        omega (arith, all, longer (f k) ours)
    by_order (inr ne) later = by_first (f k) refl later
      where
        by_first : (o : Option LivePort) → f k ≡ o → length ours ≤ length (filter keep theirs) + 1 → length (cons_option o ours) ≤ length (filter keep (cons_option (g k) theirs)) + 1
        by_first None e le = by_kept (kept_rest keep (g k) theirs (length (filter keep theirs)) (omega arith))
          where
            by_kept : length (filter keep theirs) ≤ length (filter keep (cons_option (g k) theirs)) → length ours ≤ length (filter keep (cons_option (g k) theirs)) + 1
            by_kept more = omega (arith, more, le)
        by_first (Some p) e le =
            let from = h k (omega arith) (omega arith) ne p e in
            let more : suc (length (filter keep theirs)) ≤ length (filter keep (cons_option (g k) theirs)) =
            subst (λ o. suc (length (filter keep theirs)) ≤ length (filter keep (cons_option o theirs))) (sym from.1) (kept_first keep from.0 theirs (length (filter keep theirs)) from.2 (omega arith)) in
            omega (arith, more, le)

pub filtered : (keep : LivePort → Bool) (l : List LivePort) → length (filter keep l) ≤ length l
filtered keep [] = omega arith
filtered keep (p ∷ l) = by_test (keep p) (filtered keep l)
  where
    by_test : (b : Bool) → length (filter keep l) ≤ length l → length (cond b (p ∷ filter keep l) (filter keep l)) ≤ suc (length l)
    by_test true le = omega (arith, le)
    by_test false le = omega (arith, le)

-- ---- silence

pub not_silent : (period t : ℕ) → is_silent period t t ≡ false
not_silent period t = grind (arith, nat_tests)

pub heard_or_not : (b : Bool) (period old t : ℕ) → is_silent period old t ≡ false → is_silent period (if b then t else old) t ≡ false
heard_or_not true period old t h = not_silent period t
heard_or_not false period old t h = h

pub touched_quiet : (c : Settings) (t a : ℕ) (e : Event) (p : LivePort) → is_overdue c t p ≡ false → is_overdue c t (touched t a e p) ≡ false
touched_quiet c t a e p h =
    let parts = or_parts (is_silent c.period p.node_heard t) (is_silent PORT_PERIOD p.port_heard t) h in
    or_from (is_silent c.period (if hears_node p.enode e then t else p.node_heard) t) (is_silent PORT_PERIOD (if hears_port a e then t else p.port_heard) t)
    (heard_or_not (hears_node p.enode e) c.period p.node_heard t parts.0) (heard_or_not (hears_port a e) PORT_PERIOD p.port_heard t parts.1)

-- nobody passes whom address by address nobody passes, and the other way round
pub nobody : (f : ℕ → Option LivePort) (q : LivePort → Bool) (n k : ℕ) → ((a : ℕ) (p : LivePort) → k ≤ a → a < k + n → f a ≡ Some p → q p ≡ false) → filter q (filter_map f (counting k n)) ≡ []
nobody f q zero k h = refl
nobody f q (suc n) k h = by_first (f k) refl (nobody f q n (k + 1) (λ a p l r e. h a p (omega arith) (omega arith) e))
  where
    by_first : (o : Option LivePort) → f k ≡ o → filter q (filter_map f (counting (k + 1) n)) ≡ [] → filter q (cons_option o (filter_map f (counting (k + 1) n))) ≡ []
    by_first None e rest = rest
    by_first (Some p) e rest =
        ap (λ b. cond b (p ∷ filter q (filter_map f (counting (k + 1) n))) (filter q (filter_map f (counting (k + 1) n)))) (h k p (omega arith) (omega arith) e) ∙ rest

pub none_passes : (test : LivePort → Bool) (a : ℕ) (p : LivePort) (ports : List LivePort) → filter test ports ≡ [] → port_at a ports ≡ Some p → test p ≡ false
none_passes test a p [] h e = absurd (cc)
none_passes test a p (x ∷ ports) h e = go (test x) refl h (x.address == a) e (none_passes test a p ports)
  where
    go : (s : Bool) → test x ≡ s → cond s (x ∷ filter test ports) (filter test ports) ≡ [] → (t : Bool) → cond t (Some x) (port_at a ports) ≡ Some p →
        (filter test ports ≡ [] → port_at a ports ≡ Some p → test p ≡ false) → test p ≡ false
    go true m h t e later = absurd (cc)
    go false m h true e later = ap test (sym (the_same x p e)) ∙ m
    go false m h false e later = later h e
