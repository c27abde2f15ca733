-- What goes on under another configuration.
use Rattle.std.proofs.Common.{◌≡◌, ℕ, ◌+◌, ◌*◌, ◌<◌, ◌≤◌, Bool, true, false, cond, ◌||◌, List, [], ◌∷◌, ◌++◌, length, Option, Some, None, refl, sym, ap, subst, ◌∙◌, append_assoc, arith}
use Rattle.std.specs.Prelude.{nat_le, nat_lt, find, not, ◌&&◌, ◌==◌, option_map, reverse}
use Rattle.std.specs.List.{AllByRecursion, list_any}
use Rattle.std.proofs.lemmas.Bool.{and_right, lt-leb}
use Rattle.std.proofs.lemmas.List.{append-nil, reverse-append}
use Rattle.fab_config.specs.Settings.{Settings}
use Rattle.fab_config.specs.declared.Activation.{Activation}
use Rattle.fab_policy.specs.Legal.{has_activation}
use Rattle.fab_policy.specs.State.{LivePort, Tables, now_of}
use Rattle.zone_rules.specs.Joined.{active_set, has_zone_of, is_active, joined}
use Rattle.fab_pieces.specs.Seam.{Seam}
use Rattle.fab_pieces.specs.Restored.{RunsCanRestore}
use Rattle.fab_state.specs.Fit.{AreLogins, FitsClock, IsFit}
use Rattle.fab_state.specs.Under.{EarlierIsSame, GoesOnUnder, IsLater, RunsGoOn, SeamsGoOn}
use Rattle.fab_state.proofs.RestoreLemmas.{fit_can_restore}

-- ---- lists of activations

earlier : (p : Activation → Bool) (l more : List Activation) → AllByRecursion (λ a. p a ≡ false) more → find p (reverse (l ++ more)) ≡ find p (reverse l)
earlier p l [] h = ap (λ z. find p (reverse z)) (append-nil l)
earlier p l (a ∷ more) h =
    ap (λ z. find p (reverse z)) (sym (append_assoc l (a ∷ []) more)) ∙ earlier p (l ++ a ∷ []) more h.1 ∙ ap (find p) (reverse-append l (a ∷ []))
    ∙ subst (λ (b : Bool). cond b (Some a) (find p (reverse l)) ≡ find p (reverse l)) (sym h.0) refl

none_any : (p : Activation → Bool) (more : List Activation) → AllByRecursion (λ a. p a ≡ false) more → list_any p more ≡ false
none_any p [] h = refl
none_any p (a ∷ more) h = subst (λ (b : Bool). (b || list_any p more) ≡ false) (sym h.0) (none_any p more h.1)

any_more : (p : Activation → Bool) (l more : List Activation) → AllByRecursion (λ a. p a ≡ false) more → list_any p (l ++ more) ≡ list_any p l
any_more p [] more h = none_any p more h
any_more p (a ∷ l) more h = ap (λ (b : Bool). p a || b) (any_more p l more h)

not_yet : (now sets at : ℕ) (more : List Activation) → at ≤ now → AllByRecursion (IsLater now sets) more → AllByRecursion (λ (a : Activation). nat_le a.moment at ≡ false) more
not_yet now sets at [] le h = tt
not_yet now sets at (a ∷ more) le h = (lt-leb a.moment at (let low = h.0.moment in omega arith), not_yet now sets at more le h.1)

not_between : (after at : ℕ) (more : List Activation) → AllByRecursion (λ (a : Activation). nat_le a.moment at ≡ false) more
    → AllByRecursion (λ (a : Activation). (nat_lt after a.moment && nat_le a.moment at) ≡ false) more
not_between after at [] h = tt
not_between after at (a ∷ more) h = (and_right (nat_lt after a.moment) (nat_le a.moment at) h.0, not_between after at more h.1)

-- ---- zones

joined_by : (c : Settings) (at x y : ℕ) (acts more : List Activation) → active_set acts at ≡ active_set more at → joined c.zones c.sets acts at x y ≡ joined c.zones c.sets more at x y
unfolding joined
joined_by c at x y acts more e = ap (λ (o : Option ℕ). not (x == y) && has_zone_of (is_active c.sets o) x y 0 c.zones) e

pub earlier_is_same : EarlierIsSame
earlier_is_same now c d T x y after at h before le =
    let more = h.more in
    let same = joined_by c (now_of T) x y (c.activations ++ more) c.activations
    (ap (λ (o : Option Activation). option_map (λ a. a.set) o) (earlier (λ (a : Activation). nat_le a.moment (now_of T)) c.activations more (not_yet now (length c.sets) (now_of T) more before h.later))) in
    let acts = any_more (λ (a : Activation). nat_lt after a.moment && nat_le a.moment at) c.activations more
    (not_between after at more (not_yet now (length c.sets) at more le h.later)) in (
      ap (λ (e : Settings). joined e.zones e.sets e.activations (now_of T) x y) h.same ∙ same,
      ap (λ (e : Settings). has_activation e.activations after at) h.same ∙ acts,
    )

-- ---- seams

clock_on : (c : Settings) (acts : List Activation) (s : Seam) (t last : Option ℕ) → FitsClock c s.state t last → FitsClock (record c { activations = acts }) s.state t last
clock_on c acts s None None h = h
clock_on c acts s None (Some last) h = h
clock_on c acts s (Some t) None h = h
clock_on c acts s (Some t) (Some last) h = record { start = h.start; range = h.range; least = h.least; most = h.most }

logins_on : (c : Settings) (acts : List Activation) (n : ℕ) (T : Tables) (least : ℕ) (ports : List LivePort) → AreLogins c n T least ports → AreLogins (record c { activations = acts }) n T least ports
logins_on c acts n T least [] h = tt
logins_on c acts n T least (p ∷ behind) h = (
  record {
    order = h.0.order;
    lowest = h.0.lowest;
    holder = h.0.holder;
    name = h.0.name;
    voice = h.0.voice;
    first = h.0.first;
    last = h.0.last;
    node_heard = h.0.node_heard;
    port_heard = h.0.port_heard;
    quiet = h.0.quiet;
    served = h.0.served;
    kept = h.0.kept;
  },
  logins_on c acts n T (p.address + 1) behind h.1,
)

fit_on : (c : Settings) (acts : List Activation) (n : ℕ) (s : Seam) → IsFit c n s → IsFit (record c { activations = acts }) n s
fit_on c acts n s h = record {
  clock = clock_on c acts s s.state.tables.clock s.state.advertised h.clock;
  rscns = h.rscns;
  order = h.order;
  ports = h.ports;
  places = h.places;
  past = h.past;
  few = h.few;
  logins = logins_on c acts n s.state.tables (c.domain * 65536 + 256) s.state.tables.ports h.logins;
}

pub seams_go_on : SeamsGoOn
seams_go_on c d n s h fit = subst (λ (e : Settings). IsFit e n s) (sym h.same) (fit_on c (c.activations ++ h.more) n s fit)

pub runs_go_on : RunsCanRestore → RunsGoOn
runs_go_on restore c d n s t ins K h fit ranged count run state nexts order range =
    restore d n s t ins K (fit_can_restore d n s (seams_go_on c d n s h fit) ranged) count run state nexts order range
