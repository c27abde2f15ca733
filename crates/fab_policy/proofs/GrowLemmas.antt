-- Further entries, and records of later windows.
use Rattle.std.proofs.Common.{◌≡◌, ℕ, zero, suc, ◌+◌, ◌-◌, ◌<◌, ◌≤◌, ◌⊎◌, inl, inr, Bool, true, false, eqb, leb, cond, ◌||◌, ◌&&◌, List, [], ◌∷◌, ◌++◌, length, length-append, drop, slice_get, Some, IfSome, IsTrue, refl, sym, ap, ◌∙◌, subst, arith, append_assoc, map, eq-eqb}
use Rattle.std.specs.Prelude.{filter, flat_map, option_and_then, nat_lt, if◌then◌else◌}
use Rattle.std.specs.List.{list_any, list_all}
use Rattle.std.proofs.lemmas.Bool.{eqb-true, le-leb, le-ltb}
use Rattle.std.proofs.lemmas.List.{append-nil, drop-append-le}
use Rattle.fab_base.specs.declared.values.Caught.{Caught}
use Rattle.fab_config.specs.Settings.{Settings}
use Rattle.pcap_file.specs.declared.Record.{Record}
use Rattle.fab_policy.specs.Journal.{Journal, clock, now, followed}
use Rattle.fab_policy.specs.Legal.{window_start, of_port, numbered_from, left_of, windows_left, InTime, Timed, HasPorts, HoldsFrames}
use Rattle.fab_policy.specs.Outputs.{Sent, outputs}
use Rattle.fab_policy.specs.Standing.{sent_after}
use Rattle.fab_policy.specs.Text.{text, line, egress, sent_bytes}
use Rattle.fab_policy.specs.Written.{before}
use Rattle.fab_policy.specs.declared.event.Event.{Event}
use Rattle.fab_policy.specs.declared.event.Event.TheVariants.{Tick, Frame}
use Rattle.fab_policy.specs.declared.verdict.Verdict.{Verdict}
use Rattle.fab_policy.specs.Growing.{FollowedByParts, SentByParts, RangedByParts, clock_after, lines_from, records_to, TextGrows, EgressGrows, NothingIsWritten, with_more, AreFrom, AreBelow, AllFrom, AllBelow, TimedGrows, NothingIsRun}

-- ---- entries after entries

pub followed_by_parts : FollowedByParts
followed_by_parts J [] more = refl
followed_by_parts J (e ∷ es) more = followed_by_parts (e ∷ J) es more

pub sent_by_parts : SentByParts
sent_by_parts c n J [] more = refl
sent_by_parts c n J (e ∷ es) more =
    ap (λ l. outputs c n J e ++ l) (sent_by_parts c n (e ∷ J) es more) ∙ sym (append_assoc (outputs c n J e) (sent_after c n (e ∷ J) es) (sent_after c n (followed (e ∷ J) es) more))

pub ranged_by_parts : RangedByParts
ranged_by_parts J [] h k = h
ranged_by_parts J (e ∷ es) h k = ranged_by_parts (e ∷ J) es (h, k.1) k.0

-- ---- text and captures

pub nothing_is_written : NothingIsWritten
unfolding text egress
nothing_is_written = (refl, λ c n p. refl)

pub text-one : (J : Journal) (e : Event) → text (e ∷ J) ≡ text J ++ line (now (e ∷ J)) e
unfolding text
text-one J e = refl

pub clock-one : (J : Journal) (e : Event) → now (e ∷ J) ≡ clock_after (now J) e
clock-one J (Tick m ended) = refl
clock-one J (Frame port index caught verdict) = refl

pub text_grows : TextGrows
text_grows J [] = sym (append-nil (text J))
text_grows J (e ∷ more) =
    text_grows (e ∷ J) more
    ∙ ap (λ l. l ++ lines_from (now (e ∷ J)) more) (text-one J e)
    ∙ append_assoc (text J) (line (now (e ∷ J)) e) (lines_from (now (e ∷ J)) more)
    ∙ ap (λ (t : ℕ). text J ++ (line t e ++ lines_from t more)) (clock-one J e)

pub egress-one : (c : Settings) (n p : ℕ) (J : Journal) (e : Event) → egress c n p (e ∷ J) ≡ egress c n p J ++ records_to p (outputs c n J e)
unfolding egress
egress-one c n p J e = refl

filter-append : (f : Sent → Bool) (l m : List Sent) → filter f (l ++ m) ≡ filter f l ++ filter f m
filter-append f [] m = refl
filter-append f (x ∷ l) m = by_test (f x) (filter-append f l m)
  where
    by_test : (b : Bool) → filter f (l ++ m) ≡ filter f l ++ filter f m → cond b (x ∷ filter f (l ++ m)) (filter f (l ++ m)) ≡ cond b (x ∷ filter f l) (filter f l) ++ filter f m
    by_test true e = ap (λ k. x ∷ k) e
    by_test false e = e

flat-append : (l m : List Sent) → flat_map sent_bytes (l ++ m) ≡ flat_map sent_bytes l ++ flat_map sent_bytes m
flat-append [] m = refl
flat-append (x ∷ l) m = ap (λ k. sent_bytes x ++ k) (flat-append l m) ∙ sym (append_assoc (sent_bytes x) (flat_map sent_bytes l) (flat_map sent_bytes m))

pub records-append : (p : ℕ) (l m : List Sent) → records_to p (l ++ m) ≡ records_to p l ++ records_to p m
records-append p l m = ap (flat_map sent_bytes) (filter-append (λ s. eqb s.port p) l m) ∙ flat-append (filter (λ s. eqb s.port p) l) (filter (λ s. eqb s.port p) m)

pub egress_grows : EgressGrows
egress_grows c n p J [] = sym (append-nil (egress c n p J))
egress_grows c n p J (e ∷ more) =
    egress_grows c n p (e ∷ J) more
    ∙ ap (λ l. l ++ records_to p (sent_after c n (e ∷ J) more)) (egress-one c n p J e)
    ∙ append_assoc (egress c n p J) (records_to p (outputs c n J e)) (records_to p (sent_after c n (e ∷ J) more))
    ∙ ap (λ l. egress c n p J ++ l) (sym (records-append p (outputs c n J e) (sent_after c n (e ∷ J) more)))

-- ---- time

-- the frames of each port are a front of its records
abbrev pub InFront : Journal → ℕ → List (List Record) → Type 0
InFront J p [] = Unit {0}
InFront J p (rs ∷ ins) = ((rest : List (ℕ × Caught)) × (of_port p J ++ rest ≡ numbered_from 0 rs)) × InFront J (p + 1) ins

all_in_front : (J : Journal) (p : ℕ) (ins : List (List Record)) → HoldsFrames J p ins → InFront J p ins
all_in_front J p [] h = tt
all_in_front J p (rs ∷ ins) h = (([], append-nil (of_port p J) ∙ h.0), all_in_front J (p + 1) ins h.1)

front_before : (e : Event) (J : Journal) (p : ℕ) (ins : List (List Record)) → InFront (e ∷ J) p ins → InFront J p ins
front_before e J p [] h = tt
front_before (Tick m ended) J p (rs ∷ ins) h = (h.0, front_before (Tick m ended) J (p + 1) ins h.1)
front_before (Frame port index caught verdict) J p (rs ∷ ins) h =
    let own = if eqb port p then (index, caught) ∷ [] else [] in
    ((own ++ h.0.0, sym (append_assoc (of_port p J) own h.0.0) ∙ h.0.1), front_before (Frame port index caught verdict) J (p + 1) ins h.1)

pub length-numbered : (n : ℕ) (rs : List Record) → length (numbered_from n rs) ≡ length rs
length-numbered n [] = refl
length-numbered n (r ∷ rs) = let h = length-numbered (n + 1) rs in omega arith

-- records numbered in two parts
pub numbered-append : (n : ℕ) (l m : List Record) → numbered_from n (l ++ m) ≡ numbered_from n l ++ numbered_from (n + length l) m
numbered-append n [] m = ap (λ (k : ℕ). numbered_from k m) (let e : n ≡ n + 0 = omega arith in e)
numbered-append n (r ∷ l) m = ap (λ k. (n, r.caught) ∷ k) (numbered-append (n + 1) l m ∙ ap (λ (k : ℕ). numbered_from (n + 1) l ++ numbered_from k m) (let e : n + 1 + length l ≡ n + suc (length l) = omega arith in e))

few_of : (l rest : List (ℕ × Caught)) (rs : List Record) → l ++ rest ≡ numbered_from 0 rs → length l ≤ length rs
few_of l rest rs e = let a = length-append l rest in let b = ap length e in let d = length-numbered 0 rs in omega arith

-- the window starts of more records
pub map-more : (c : Settings) (rs qs : List Record) → map (λ (r : Record). window_start c r.moment) (rs ++ qs) ≡ map (λ (r : Record). window_start c r.moment) rs ++ map (λ (r : Record). window_start c r.moment) qs
map-more c [] qs = refl
map-more c (r ∷ rs) qs = ap (λ l. window_start c r.moment ∷ l) (map-more c rs qs)

pub any-left : (f : ℕ → Bool) (l m : List ℕ) → IsTrue (list_any f l) → IsTrue (list_any f (l ++ m))
any-left f [] m h = absurd (cc)
any-left f (x ∷ l) m h = by_test (f x) h (any-left f l m)
  where
    by_test : (b : Bool) → IsTrue (b || list_any f l) → (IsTrue (list_any f l) → IsTrue (list_any f (l ++ m))) → IsTrue (b || list_any f (l ++ m))
    by_test true h more = refl
    by_test false h more = more h

pub any-right : (f : ℕ → Bool) (l m : List ℕ) → IsTrue (list_any f m) → IsTrue (list_any f (l ++ m))
any-right f [] m h = h
any-right f (x ∷ l) m h = by_test (f x) (any-right f l m h)
  where
    by_test : (b : Bool) → IsTrue (list_any f (l ++ m)) → IsTrue (b || list_any f (l ++ m))
    by_test true h = refl
    by_test false h = h

pub any-either : (f : ℕ → Bool) (l m : List ℕ) → IsTrue (list_any f (l ++ m)) → IsTrue (list_any f l) ⊎ IsTrue (list_any f m)
any-either f [] m h = inr h
any-either f (x ∷ l) m h = by_test (f x) h (any-either f l m)
  where
    by_test : (b : Bool) → IsTrue (b || list_any f (l ++ m)) → (IsTrue (list_any f (l ++ m)) → IsTrue (list_any f l) ⊎ IsTrue (list_any f m)) → IsTrue (b || list_any f l) ⊎ IsTrue (list_any f m)
    by_test true h more = inl refl
    by_test false h more = more h

pub all-both : (f : ℕ → Bool) (l m : List ℕ) → IsTrue (list_all f l) → IsTrue (list_all f m) → IsTrue (list_all f (l ++ m))
all-both f [] m h k = k
all-both f (x ∷ l) m h k = by_test (f x) h (λ g. all-both f l m g k)
  where
    by_test : (b : Bool) → IsTrue (b && list_all f l) → (IsTrue (list_all f l) → IsTrue (list_all f (l ++ m))) → IsTrue (b && list_all f (l ++ m))
    by_test true h more = more h
    by_test false h more = absurd (cc)

pub all-each : (f : ℕ → Bool) (l m : List ℕ) → IsTrue (list_all f (l ++ m)) → IsTrue (list_all f l) × IsTrue (list_all f m)
all-each f [] m h = (refl, h)
all-each f (x ∷ l) m h = by_test (f x) h (all-each f l m)
  where
    by_test : (b : Bool) → IsTrue (b && list_all f (l ++ m)) → (IsTrue (list_all f (l ++ m)) → IsTrue (list_all f l) × IsTrue (list_all f m)) → IsTrue (b && list_all f l) × IsTrue (list_all f m)
    by_test true h more = more h
    by_test false h more = absurd (cc)

pub any_from : (c : Settings) (w v : ℕ) (rs : List Record) → AreBelow c w rs → IsTrue (list_any (λ m. eqb m v) (map (λ (r : Record). window_start c r.moment) rs)) → v < w
any_from c w v [] below h = absurd (cc)
any_from c w v (r ∷ rs) below h = by_test (eqb (window_start c r.moment) v) refl h (any_from c w v rs below.1)
  where
    by_test : (b : Bool) → eqb (window_start c r.moment) v ≡ b → IsTrue (b || list_any (λ m. eqb m v) (map (λ (q : Record). window_start c q.moment) rs)) → (IsTrue (list_any (λ m. eqb m v) (map (λ (q : Record). window_start c q.moment) rs)) → v < w) → v < w
    by_test true e f more = let same = eqb-true (window_start c r.moment) v e in let b = below.0 in omega arith
    by_test false e f more = more f

pub below-drop : (c : Settings) (w k : ℕ) (rs : List Record) → AreBelow c w rs → AreBelow c w (drop k rs)
below-drop c w zero rs h = h
below-drop c w (suc k) [] h = tt
below-drop c w (suc k) (r ∷ rs) h = below-drop c w k rs h.1

pub all_from : (c : Settings) (w v : ℕ) (rs : List Record) → v ≤ w → AreFrom c w rs → IsTrue (list_all (λ m. leb v m) (map (λ (r : Record). window_start c r.moment) rs))
all_from c w v [] lt h = refl
all_from c w v (r ∷ rs) lt h = both (le-leb v (window_start c r.moment) (let a = h.0 in omega arith)) (all_from c w v rs lt h.1)
  where
    both : {a b : Bool} → a ≡ true → b ≡ true → (a && b) ≡ true
    both {a} {b} e f = (λ i. e i && f i)

-- how many records of each port have entries
abbrev pub Few : Journal → ℕ → List (List Record) → Type 0
Few J p [] = Unit {0}
Few J p (rs ∷ ins) = (length (of_port p J) ≤ length rs) × Few J (p + 1) ins

few_in_front : (J : Journal) (p : ℕ) (ins : List (List Record)) → InFront J p ins → Few J p ins
few_in_front J p [] h = tt
few_in_front J p (rs ∷ ins) h = (few_of (of_port p J) h.0.0 rs h.0.1, few_in_front J (p + 1) ins h.1)

module _ (c : Settings) (w v : ℕ) (J : Journal) where
  abbrev pub is_it : ℕ → Bool
  is_it m = eqb m v

  abbrev pub least : ℕ → Bool
  least m = leb v m

  abbrev pub starts : List Record → List ℕ
  starts rs = map (λ (r : Record). window_start c r.moment) rs

  pub left_more : (p : ℕ) (rs qs : List Record) → length (of_port p J) ≤ length rs → starts (left_of p (rs ++ qs) J) ≡ starts (left_of p rs J) ++ starts qs
  left_more p rs qs few = ap starts (drop-append-le (length (of_port p J)) rs qs few) ∙ map-more c (left_of p rs J) qs

  -- the window of some frame that is left lies below
  pub any_below : (p : ℕ) (ins : List (List Record)) → AllBelow c (w + 1) ins → IsTrue (list_any is_it (windows_left c p ins J)) → v < w + 1
  any_below p [] below h = absurd (cc)
  any_below p (rs ∷ ins) below h = elim (any-either is_it (starts (left_of p rs J)) (windows_left c (p + 1) ins J) h) [
    | inl own ↦ any_from c (w + 1) v (left_of p rs J) (below-drop c (w + 1) (length (of_port p J)) rs below.0) own
    | inr more ↦ any_below (p + 1) ins below.1 more
  ]

  pub any_more : (p : ℕ) (ins more : List (List Record)) → length more ≡ length ins → Few J p ins → IsTrue (list_any is_it (windows_left c p ins J)) → IsTrue (list_any is_it (windows_left c p (with_more ins more) J))
  any_more p [] more e few h = absurd (cc)
  any_more p (rs ∷ ins) [] e few h = absurd (omega arith)
  any_more p (rs ∷ ins) (qs ∷ more) e few h =
      subst (λ l. IsTrue (list_any is_it (l ++ windows_left c (p + 1) (with_more ins more) J))) (sym (left_more p rs qs few.0))
      (elim (any-either is_it (starts (left_of p rs J)) (windows_left c (p + 1) ins J) h) [
        | inl own ↦ any-left is_it (starts (left_of p rs J) ++ starts qs) (windows_left c (p + 1) (with_more ins more) J) (any-left is_it (starts (left_of p rs J)) (starts qs) own)
        | inr rest ↦ any-right is_it (starts (left_of p rs J) ++ starts qs) (windows_left c (p + 1) (with_more ins more) J) (any_more (p + 1) ins more (omega arith) few.1 rest)
      ])

  pub all_more : (p : ℕ) (ins more : List (List Record)) → v ≤ w → length more ≡ length ins → Few J p ins → AllFrom c w more → IsTrue (list_all least (windows_left c p ins J)) → IsTrue (list_all least (windows_left c p (with_more ins more) J))
  all_more p [] more lt e few from h = refl
  all_more p (rs ∷ ins) [] lt e few from h = absurd (omega arith)
  all_more p (rs ∷ ins) (qs ∷ more) lt e few from h =
      let each = all-each least (starts (left_of p rs J)) (windows_left c (p + 1) ins J) h in
      subst (λ l. IsTrue (list_all least (l ++ windows_left c (p + 1) (with_more ins more) J))) (sym (left_more p rs qs few.0))
      (all-both least (starts (left_of p rs J) ++ starts qs) (windows_left c (p + 1) (with_more ins more) J)
      (all-both least (starts (left_of p rs J)) (starts qs) each.0 (all_from c w v qs lt from.0))
      (all_more (p + 1) ins more lt (omega arith) few.1 from.1 each.1))

-- ---- the record of an entry

pub numbered_place : (n : ℕ) (rs : List Record) (l m : List (ℕ × Caught)) (i : ℕ) (x : Caught) → (l ++ (i, x) ∷ []) ++ m ≡ numbered_from n rs → (i ≡ n + length l) × (length l < length rs)
numbered_place n [] [] m i x e = absurd (cc)
numbered_place n [] (y ∷ l) m i x e = absurd (cc)
numbered_place n (r ∷ rs) [] m i x e =
    let pair : (let p : ℕ × Caught = (i, x) in p) ≡ (n, r.caught) = cc in
    let first : i ≡ n = ap (λ (p : ℕ × Caught). p.0) pair in (omega arith, omega arith)
numbered_place n (r ∷ rs) (y ∷ l) m i x e =
    let rest : (l ++ (i, x) ∷ []) ++ m ≡ numbered_from (n + 1) rs = cc in
    let h = numbered_place (n + 1) rs l m i x rest in (omega arith, omega arith)

pub slice-more : (rs qs : List Record) (i : ℕ) → i < length rs → slice_get (rs ++ qs) i ≡ slice_get rs i
slice-more [] qs i lt = absurd (omega arith)
slice-more (r ∷ rs) qs zero lt = refl
slice-more (r ∷ rs) qs (suc i) lt = slice-more rs qs i (omega arith)

-- the records of the port at a place
pub at_port : (k i : ℕ) (ins more : List (List Record)) → length more ≡ length ins → k < length ins → ((rs : List Record) → slice_get ins k ≡ Some rs → i < length rs) →
    option_and_then (λ rs. slice_get rs i) (slice_get (with_more ins more) k) ≡ option_and_then (λ rs. slice_get rs i) (slice_get ins k)
at_port k i [] more e lt h = absurd (omega arith)
at_port k i (rs ∷ ins) [] e lt h = absurd (omega arith)
at_port zero i (rs ∷ ins) (qs ∷ more) e lt h = slice-more rs qs i (h rs refl)
at_port (suc k) i (rs ∷ ins) (qs ∷ more) e lt h = at_port k i ins more (omega arith) (omega arith) h

frame_of : (index : ℕ) (caught : Caught) (verdict : Verdict) (J : Journal) (port p k : ℕ) (ins : List (List Record)) (rs : List Record) → port ≡ p + k → slice_get ins k ≡ Some rs → InFront (Frame port index caught verdict ∷ J) p ins → index < length rs
frame_of index caught verdict J port p k [] rs e at h = absurd (cc)
frame_of index caught verdict J port p zero (qs ∷ ins) rs e at h =
    let same : qs ≡ rs = cc in
    let own : eqb port p ≡ true = eq-eqb port p (omega arith) in
    let front = ap (λ (b : Bool). (of_port p J ++ (if b then (index, caught) ∷ [] else [])) ++ h.0.0) (sym own) ∙ h.0.1 in
    let place = numbered_place 0 qs (of_port p J) h.0.0 index caught front in
    subst (λ (l : List Record). index < length l) same (let i = place.0 in let l = place.1 in omega arith)
frame_of index caught verdict J port p (suc k) (qs ∷ ins) rs e at h = frame_of index caught verdict J port (p + 1) k ins rs (omega arith) at h.1

-- ---- all entries

entry_more : (c : Settings) (w : ℕ) (ins more : List (List Record)) (e : Event) (J : Journal) → HasPorts (length ins) (e ∷ J) → InFront (e ∷ J) 1 ins → InTime c ins J e → AllBelow c (w + 1) ins → AllFrom c w more → length more ≡ length ins → InTime c (with_more ins more) J e
entry_more c w ins more (Tick m ended) J ports front t below from count =
    let few = few_in_front J 1 ins (front_before (Tick m ended) J 1 ins front) in
    let lt : t.0 ≤ w = let b = any_below c w t.0 J 1 ins below t.1.0 in omega arith in
    (t.0, (any_more c w t.0 J 1 ins more count few t.1.0, all_more c w t.0 J 1 ins more lt count few from t.1.1), t.2)
entry_more c w ins more (Frame port index caught verdict) J ports front t below from count =
    let some = ports.1 in
    let most = ports.2 in
    let place : port ≡ 1 + (port - 1) = omega arith in
    subst (λ o. IfSome o (λ r. clock J ≡ Some (window_start c r.moment)))
    (sym (at_port (port - 1) index ins more count (omega arith) (λ rs at. frame_of index caught verdict J port 1 (port - 1) ins rs place at front))) t

time_more : (c : Settings) (w : ℕ) (ins more : List (List Record)) (J : Journal) → HasPorts (length ins) J → InFront J 1 ins → Timed c ins J → AllBelow c (w + 1) ins → AllFrom c w more → length more ≡ length ins → Timed c (with_more ins more) J
time_more c w ins more [] ports front t below from count = tt
time_more c w ins more (Tick m ended ∷ J) ports front t below from count =
    (time_more c w ins more J ports (front_before (Tick m ended) J 1 ins front) t.0 below from count, entry_more c w ins more (Tick m ended) J ports front t.1 below from count)
time_more c w ins more (Frame port index caught verdict ∷ J) ports front t below from count =
    (time_more c w ins more J ports.0 (front_before (Frame port index caught verdict) J 1 ins front) t.0 below from count, entry_more c w ins more (Frame port index caught verdict) J ports front t.1 below from count)

pub time_grows : TimedGrows
time_grows c w ins more J ports holds t below from count = time_more c w ins more J ports (all_in_front J 1 ins holds) t below from count

-- ---- nothing

none_held : (p : ℕ) (ins : List (List Record)) → HoldsFrames [] p (map (λ records. []) ins)
none_held p [] = tt
none_held p (records ∷ ins) = (refl, none_held (p + 1) ins)

none_kept : (c : Settings) (records : List Record) → filter (λ r. nat_lt (window_start c r.moment) 0) records ≡ []
none_kept c [] = refl
none_kept c (r ∷ records) =
    ap (λ (b : Bool). cond b (r ∷ filter (λ q. nat_lt (window_start c q.moment) 0) records) (filter (λ q. nat_lt (window_start c q.moment) 0) records)) (le-ltb (window_start c r.moment) 0 (omega arith)) ∙ none_kept c records

none_before : (c : Settings) (ins : List (List Record)) → before c 0 ins ≡ map (λ records. []) ins
none_before c [] = refl
none_before c (records ∷ ins) = (λ i. none_kept c records i ∷ none_before c ins i)

pub nothing_is_run : NothingIsRun
nothing_is_run c ins = (record { ports = tt; frames = none_held 1 ins; legal = tt; timed = tt }, none_before c ins)
