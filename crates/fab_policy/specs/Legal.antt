-- Which journals a forwarder may write: a relation between each entry and those before it.
use Rattle.std.specs.Prelude.{◌≡◌, ℕ, ◌+◌, ◌-◌, ◌%◌, ◌<◌, ◌≤◌, Bool, false, not, ◌==◌, nat_lt, nat_le, ◌&&◌, ◌||◌, ◌⊎◌, if◌then◌else◌, IsTrue, IsSome, List, [], ◌∷◌, ◌++◌, length, drop, map, Option, Some, None, IfSome, slice_get, option_and_then}
use Rattle.std.specs.List.{list_any, list_all}
use Rattle.fab_base.specs.declared.values.Caught.{Caught}
use Rattle.fab_config.specs.Settings.{Settings}
use Rattle.fab_config.specs.declared.Activation.{Activation}
use Rattle.pcap_file.specs.declared.Record.{Record}
use Rattle.fab_policy.specs.Journal.{Journal, clock}
use Rattle.fab_policy.specs.State.{tables_of, overdue, addresses, Tables, now_of}
use Rattle.fab_policy.specs.Verdicts.{IsRight}
use Rattle.fab_policy.specs.Outputs.{State, is_owed, advertised_at}
use Rattle.fab_policy.specs.declared.event.Event.{Event}
use Rattle.fab_policy.specs.declared.event.Event.TheVariants.{Tick, Frame}

-- ---- legal

-- An entry is right where the tables stand so: a tick ends exactly the overdue, and a frame comes after a tick and has a
-- right verdict.
abbrev pub IsRightEntry : Settings → Tables → Event → Type 0
IsRightEntry c T (Tick m ended) = ended ≡ addresses (overdue c T m)
IsRightEntry c T (Frame port index caught verdict) = IsSome T.clock × IsRight c T port caught verdict

-- An entry is right after J.
abbrev pub Follows : Settings → Journal → Event → Type 0
Follows c J e = IsRightEntry c (tables_of c J) e

-- Each entry is right after those before it.
abbrev pub Legal : Settings → Journal → Type 0
Legal c [] = Unit {0}
Legal c (e ∷ J) = Legal c J × Follows c J e

-- ---- the frames of a port

-- the frames of a port's entries with their indexes, in order
abbrev pub of_port : ℕ → Journal → List (ℕ × Caught)
of_port p [] = []
of_port p (Tick m ended ∷ J) = of_port p J
of_port p (Frame port index caught verdict ∷ J) = of_port p J ++ (if port == p then (index, caught) ∷ [] else [])

-- records numbered from n on
abbrev pub numbered_from : ℕ → List Record → List (ℕ × Caught)
numbered_from n [] = []
numbered_from n (r ∷ records) = (n, r.caught) ∷ numbered_from (n + 1) records

-- ---- time

-- the start of the window of a moment: the greatest multiple of the window that isn't above it
abbrev pub window_start : Settings → ℕ → ℕ
window_start c m = m - m % c.window

-- an activation's moment lies above one moment and not above another
abbrev pub has_activation : List Activation → ℕ → ℕ → Bool
has_activation activations after at = list_any (λ a. nat_lt after a.moment && nat_le a.moment at) activations

-- A tick is owed at a moment: somebody is overdue then, or an advertisement is owed, or zones changed since the clock.
unfoldable pub is_tick_owed : Settings → Tables → Option ℕ → ℕ → Bool
is_tick_owed c T advertised m =
    not (length (overdue c T m) == 0) || is_owed c advertised m || has_activation c.activations (now_of T) m

-- the same over what a journal says
abbrev pub is_owed_after : Settings → Journal → ℕ → Bool
is_owed_after c J m = is_tick_owed c (tables_of c J) (advertised_at c J) m

-- a moment at which a tick may be, by the clock
abbrev pub IsTickTimeAt : Settings → Option ℕ → ℕ → Type 0
IsTickTimeAt c at m = (m % c.window ≡ 0) × IfSome at (λ t. t < m)

-- The moment is the least above the clock of the tables at which a tick is owed, the last advertisement having been then; none
-- is before the first tick.
pub record IsTickDue (c : Settings) (T : Tables) (advertised : Option ℕ) (m : ℕ) : Type 0 where
  pub begun : IsSome T.clock
  pub time : IsTickTimeAt c T.clock m
  pub owed : IsTrue (is_tick_owed c T advertised m)
  pub least : (k : ℕ) → IsTickTimeAt c T.clock k → k < m → is_tick_owed c T advertised k ≡ false

-- the same by what a fabric keeps
abbrev pub IsDueBy : Settings → State → ℕ → Type 0
IsDueBy c S m = IsTickDue c S.tables S.advertised m

-- the same by what a journal says
abbrev pub IsTickTime : Settings → Journal → ℕ → Type 0
IsTickTime c J m = IsTickTimeAt c (clock J) m

abbrev pub IsDue : Settings → Journal → ℕ → Type 0
IsDue c J m = IsTickDue c (tables_of c J) (advertised_at c J) m

-- the records of a port that have no entry in J yet
abbrev pub left_of : ℕ → List Record → Journal → List Record
left_of p records J = drop (length (of_port p J)) records

-- the window starts of all records that have no entry yet; the p-th list is that of port p, from 1 on
abbrev pub windows_left : Settings → ℕ → List (List Record) → Journal → List ℕ
windows_left c p [] J = []
windows_left c p (records ∷ ins) J = map (λ r. window_start c r.moment) (left_of p records J) ++ windows_left c (p + 1) ins J

abbrev pub IsLeastOf : List ℕ → ℕ → Type 0
IsLeastOf ms w = IsTrue (list_any (λ m. m == w) ms) × IsTrue (list_all (λ m. nat_le w m) ms)

-- The next tick: the window of the next frames, or an earlier moment at which a tick is owed; the first tick has no
-- earlier one.
abbrev pub IsNextTick : Settings → Journal → ℕ → ℕ → Type 0
IsNextTick c J w m = elim (clock J) as (λ _. Type 0) [
  | None ↦ m ≡ w
  | Some t ↦ (t < m) × (m ≤ w) × ((m ≡ w) ⊎ IsTrue (is_owed_after c J m)) × (m % c.window ≡ 0)
      × ((k : ℕ) → IsTickTime c J k → k < m → is_owed_after c J k ≡ false)
]

-- the same by what a fabric keeps
abbrev pub IsNextTickBy : Settings → State → ℕ → ℕ → Type 0
IsNextTickBy c S w m = elim (S.tables.clock) as (λ _. Type 0) [
  | None ↦ m ≡ w
  | Some t ↦ (t < m) × (m ≤ w) × ((m ≡ w) ⊎ IsTrue (is_tick_owed c S.tables S.advertised m)) × (m % c.window ≡ 0)
      × ((k : ℕ) → IsTickTimeAt c S.tables.clock k → k < m → is_tick_owed c S.tables S.advertised k ≡ false)
]

-- the record of an entry
abbrev pub record_of : List (List Record) → ℕ → ℕ → Option Record
record_of ins port index = option_and_then (λ records. slice_get records index) (slice_get ins (port - 1))

-- An entry comes at its time: a frame in its window, and a tick at the next moment that wants one while frames are left.
abbrev pub InTime : Settings → List (List Record) → Journal → Event → Type 0
InTime c ins J (Frame port index caught verdict) = IfSome (record_of ins port index) (λ r. clock J ≡ Some (window_start c r.moment))
InTime c ins J (Tick m ended) = (w : ℕ) × IsLeastOf (windows_left c 1 ins J) w × IsNextTick c J w m

abbrev pub Timed : Settings → List (List Record) → Journal → Type 0
Timed c ins [] = Unit {0}
Timed c ins (e ∷ J) = Timed c ins J × InTime c ins J e

-- ---- runs

-- the entries' ports are those of the forwarder
abbrev pub HasPorts : ℕ → Journal → Type 0
HasPorts n [] = Unit {0}
HasPorts n (Tick m ended ∷ J) = HasPorts n J
HasPorts n (Frame port index caught verdict ∷ J) = HasPorts n J × (1 ≤ port) × (port ≤ n)

-- the p-th list holds the frames of port p, from 1 on
abbrev pub HoldsFrames : Journal → ℕ → List (List Record) → Type 0
HoldsFrames J p [] = Unit {0}
HoldsFrames J p (records ∷ ins) = (of_port p J ≡ numbered_from 0 records) × HoldsFrames J (p + 1) ins

-- A journal is a run over the records of n ports: each port's frames once and in order, each entry legal and in time.
pub record Run (c : Settings) (ins : List (List Record)) (J : Journal) : Type 0 where
  pub ports : HasPorts (length ins) J
  pub frames : HoldsFrames J 1 ins
  pub legal : Legal c J
  pub timed : Timed c ins J
