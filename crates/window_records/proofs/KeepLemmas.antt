-- What a stop keeps of records that are split at a window.
use Rattle.std.proofs.Common.{◌≡◌, ℕ, ◌-◌, ◌≤◌, Bool, true, false, cond, List, [], ◌∷◌, ◌++◌, Option, Some, None, refl, ap, ◌∙◌, arith}
use Rattle.std.specs.Prelude.{filter, nat_lt}
use Rattle.std.proofs.lemmas.Bool.{lt-ltb, le-ltb, ltb-true, ltb-false}
use Rattle.fab_config.specs.Settings.{Settings}
use Rattle.pcap_file.specs.Reading.{Why, failure}
use Rattle.pcap_file.specs.declared.Record.{Record}
use Rattle.fab_policy.specs.Growing.{AreFrom, AreBelow}
use Rattle.window_records.specs.Keeping.{IsFrom, AllAhead, IsAhead, StopsAhead, KeepsBefore, KeepsJust, KeepsAll}
use Rattle.fab_policy.specs.Legal.{window_start}
use Rattle.window_records.specs.Looks.{Look, Stop, Fails, Span, stop_in, stop_at, kept, records_in, with_look, in_order, comes_before, is_too_late, taken, count_of}

-- ---- what is kept

abbrev is_below : Settings → ℕ → Record → Bool
is_below c w r = nat_lt (window_start c r.moment) w

filter_from : (c : Settings) (w : ℕ) (rs : List Record) → AreFrom c w rs → filter (is_below c w) rs ≡ []
filter_from c w [] h = refl
filter_from c w (r ∷ rs) h = ap (λ (b : Bool). cond b (r ∷ filter (is_below c w) rs) (filter (is_below c w) rs)) (le-ltb (window_start c r.moment) w h.0) ∙ filter_from c w rs h.1

filter_split : (c : Settings) (w : ℕ) (rs later : List Record) → AreBelow c w rs → AreFrom c w later → filter (is_below c w) (rs ++ later) ≡ rs
filter_split c w [] later h k = filter_from c w later k
filter_split c w (r ∷ rs) later h k =
    ap (λ (b : Bool). cond b (r ∷ filter (is_below c w) (rs ++ later)) (filter (is_below c w) (rs ++ later))) (lt-ltb (window_start c r.moment) w h.0)
    ∙ ap (λ l. r ∷ l) (filter_split c w rs later h.1 k)

filter_twice : (c : Settings) (w v : ℕ) (rs : List Record) → w ≤ v → filter (is_below c w) (filter (is_below c v) rs) ≡ filter (is_below c w) rs
filter_twice c w v [] le = refl
filter_twice c w v (r ∷ rs) le = by_test (is_below c v r) refl (is_below c w r) refl (filter_twice c w v rs le)
  where
    by_test : (x : Bool) → is_below c v r ≡ x → (y : Bool) → is_below c w r ≡ y → filter (is_below c w) (filter (is_below c v) rs) ≡ filter (is_below c w) rs →
        filter (is_below c w) (cond x (r ∷ filter (is_below c v) rs) (filter (is_below c v) rs)) ≡ cond y (r ∷ filter (is_below c w) rs) (filter (is_below c w) rs)
    by_test true e true f more = ap (λ (b : Bool). cond b (r ∷ filter (is_below c w) (filter (is_below c v) rs)) (filter (is_below c w) (filter (is_below c v) rs))) f ∙ ap (λ l. r ∷ l) more
    by_test true e false f more = ap (λ (b : Bool). cond b (r ∷ filter (is_below c w) (filter (is_below c v) rs)) (filter (is_below c w) (filter (is_below c v) rs))) f ∙ more
    by_test false e true f more = let a = ltb-false (window_start c r.moment) v e in let b = ltb-true (window_start c r.moment) w f in absurd (omega arith)
    by_test false e false f more = more

kept_below : (c : Settings) (w : ℕ) (st : Option Stop) (rs : List Record) → IsAhead w st → filter (is_below c w) (kept c st rs) ≡ filter (is_below c w) rs
kept_below c w None rs h = refl
kept_below c w (Some s) rs h = by_window s.window h
  where
    by_window : (o : Option ℕ) → IsFrom w o → filter (is_below c w) (elim o as (λ _. List Record) [ None ↦ [] | Some v ↦ filter (is_below c v) rs ]) ≡ filter (is_below c w) rs
    by_window None f = absurd f
    by_window (Some v) f = filter_twice c w v rs f

pub before_keeps : KeepsBefore
before_keeps c w st [] [] h s = refl
before_keeps c w st [] (rs ∷ taken) h s = absurd s
before_keeps c w st (o ∷ opened) [] h s = absurd s
before_keeps c w st (o ∷ opened) (rs ∷ taken) h s =
    (λ i. (kept_below c w st (records_in o) h ∙ ap (filter (is_below c w)) s.0.1 ∙ filter_split c w rs s.0.0 s.0.2 s.0.3) i ∷ before_keeps c w st opened taken h s.1 i)

pub stopped_keeps : KeepsJust
stopped_keeps c w s [] [] e h = refl
stopped_keeps c w s [] (rs ∷ taken) e h = absurd h
stopped_keeps c w s (o ∷ opened) [] e h = absurd h
stopped_keeps c w s (o ∷ opened) (rs ∷ taken) e h =
    (λ i. (ap (λ (x : Option ℕ). elim x as (λ _. List Record) [ None ↦ [] | Some v ↦ filter (is_below c v) (records_in o) ]) e ∙ ap (filter (is_below c w)) h.0.1 ∙ filter_split c w rs h.0.0 h.0.2 h.0.3) i ∷ stopped_keeps c w s opened taken e h.1 i)

pub kept_all : KeepsAll
kept_all c [] = refl
kept_all c (rs ∷ ins) = ap (λ l. rs ∷ l) (kept_all c ins)

-- ---- where looks stop

ahead_put : (w : ℕ) (x : Look) (l : List Look) → IsFrom w x.window → AllAhead w l → AllAhead w (with_look x l)
ahead_put w x [] h k = (h, tt)
ahead_put w x (y ∷ l) h k = by_test (comes_before x y) (ahead_put w x l h k.1)
  where
    by_test : (b : Bool) → AllAhead w (with_look x l) → AllAhead w (cond b (x ∷ y ∷ l) (y ∷ with_look x l))
    by_test true more = (h, k)
    by_test false more = (k.0, more)

ahead_order : (w : ℕ) (l : List Look) → AllAhead w l → AllAhead w (in_order l)
ahead_order w [] h = tt
ahead_order w (x ∷ l) h = ahead_put w x (in_order l) h.0 (ahead_order w l h.1)

stop_ahead : (w first bytes frames : ℕ) (l : List Look) → AllAhead w l → IsAhead w (stop_in first bytes frames l)
stop_ahead w first bytes frames [] h = tt
stop_ahead w first bytes frames (x ∷ l) h = by_late (is_too_late first x.window) (failure bytes frames x.found) (stop_ahead w first (bytes - taken x.found) (frames - count_of x.found) l h.1)
  where
    by_late : (b : Bool) (o : Option Why) → IsAhead w (stop_in first (bytes - taken x.found) (frames - count_of x.found) l) →
        IsAhead w (elim b as (λ _. Option Stop) [ true ↦ Some (stop_at Span x) | false ↦ elim o as (λ _. Option Stop) [ Some why ↦ Some (stop_at (Fails why) x) | None ↦ stop_in first (bytes - taken x.found) (frames - count_of x.found) l ] ])
    by_late true o more = h.0
    by_late false None more = more
    by_late false (Some why) more = h.0

pub stops_ahead : StopsAhead
stops_ahead w first bytes frames looks h = stop_ahead w first bytes frames (in_order looks) (ahead_order w looks h)
