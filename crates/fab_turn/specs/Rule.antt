-- The rule of the lock.
use Rattle.std.specs.Prelude.{◌≡◌, ◌≢◌, ◌⊎◌, ℕ, ◌%◌, ◌^◌, ◌<◌, ◌≤◌, true, false, List, ◌++◌, length, slice_index, Option, Some}
use mathlib.Core.Option as maybe
use mathlib.Core.List.{IsPrefix}
use lib.ListN.{get_elem?}
use Rattle.atomic_table.specs.Table.{State}
use Rattle.fab_turn.specs.declared.view.View.{View}
use Rattle.fab_turn.specs.declared.view.Role.TheVariants.{Root, Of, Spent}
use Rattle.fab_turn.specs.Views.{has_port, has_kept, kept_list, of_port}

module _ {V E : Type 0} where
  -- the seat has this view, which is not spent
  abbrev pub HasView : State (Option V) (View V E) → ℕ → View V E → Type 0
  HasView s seat view = (get_elem? s.views seat ≡ maybe.some view) × (view.role ≢ Spent)

-- the value is at home and knows the history, and nobody is served
abbrev pub AtHome : {V E : Type 0} → (V → List E) → (V → V → Type 0) → V → List E → State (Option V) (View V E) → Type 0
AtHome {V} {E} entries grown first since s = (value : V) × (get_elem? s.homes 0 ≡ maybe.some (maybe.some (Some value))) × grown first value × (entries value ≡ entries first ++ since) × ((seat : ℕ) (view : View V E) → HasView s seat view → view.served ≢ true)

-- the value is out with who is served, who has taken the history
abbrev pub IsOut : {V E : Type 0} → (V → List E) → V → List E → State (Option V) (View V E) → Type 0
IsOut {V} {E} entries first since s = (seat : ℕ) × (view : View V E) × HasView s seat view × (view.served ≡ true) × (view.taken ≡ entries first ++ since)

-- A history: the entries when the lock was opened and those since, how many turns are over and how many tickets were drawn,
-- the ports that were given out, and the lists that are kept of the passes that were joined. The tickets between wait.
pub record History (E : Type 0) : Type 0 where
  pub start : List E
  pub since : List E
  pub done : ℕ
  pub drawn : ℕ
  pub given : List ℕ
  pub kept : List (ℕ × List E)

-- such a history of its parts
abbrev pub history_of : {E : Type 0} → List E → List E → ℕ → ℕ → List ℕ → List (ℕ × List E) → History E
history_of start since done drawn given kept = record { start = start; since = since; done = done; drawn = drawn; given = given; kept = kept }

-- what the rule says of the view of one seat in a history
pub record FitsHistory {V E : Type 0} (port_of : E → ℕ) (first : V) (h : History E) (seat : ℕ) (view : View V E) : Type 0 where
  pub ticket : (t : ℕ) → view.ticket ≡ Some t → (h.done ≤ t) × (t < h.drawn)
  -- who is served has the ticket that is served
  pub served : view.served ≡ true → view.ticket ≡ Some h.done
  -- what was seen begins the history, and goes on from the start
  pub seen : IsPrefix view.seen (h.start ++ h.since)
  pub begun : IsPrefix h.start view.seen
  -- what the last join met begins what was seen
  pub met : IsPrefix view.met view.seen
  pub first_is : view.first ≡ Some first
  -- the port was given out, no list is kept for it yet, and the own entries are those of the port
  pub port : (p : ℕ) → view.role ≡ Of p → (has_port p h.given ≡ true) × (has_kept p h.kept ≡ false) × (view.own ≡ of_port port_of p h.since)
  pub root : view.role ≡ Root → (seat ≡ 0) × (view.given ≡ h.given) × (view.kept ≡ h.kept)

-- Between any two steps there is one history
pub record IsOneHistory {V E : Type 0} (entries : V → List E) (port_of : E → ℕ) (grown : V → V → Type 0) (first : V) (s : State (Option V) (View V E)) : Type 0 where
  -- the entries since the lock was opened
  pub since : List E
  -- how many tickets were drawn, and how many turns are over
  pub drawn : ℕ
  pub done : ℕ
  pub given : List ℕ
  pub kept : List (ℕ × List E)
  pub two_words : length s.words ≡ 2
  pub drawn_is : slice_index s.words 0 ≡ drawn % 2 ^ 64
  pub done_is : slice_index s.words 1 ≡ done % 2 ^ 64
  pub ordered : done ≤ drawn
  -- tickets and ports: each ticket that waits has one seat, and each port has one seat
  pub held : (t : ℕ) → done ≤ t → t < drawn → (seat : ℕ) × (view : View V E) × HasView s seat view × (view.ticket ≡ Some t)
  pub once : (i j : ℕ) (v w : View V E) (t : ℕ) → HasView s i v → HasView s j w → v.ticket ≡ Some t → w.ticket ≡ Some t → i ≡ j
  pub apart : (i j : ℕ) (v w : View V E) (p : ℕ) → HasView s i v → HasView s j w → v.role ≡ Of p → w.role ≡ Of p → i ≡ j
  pub ports : (p : ℕ) → has_port p given ≡ true → (0 < p) × (p ≤ 64)
  -- the served seat, the slot, and the value's history
  pub slot : AtHome entries grown first since s ⊎ IsOut entries first since s
  pub each : (i : ℕ) (v : View V E) → HasView s i v → FitsHistory port_of first (history_of (entries first) since done drawn given kept) i v
  -- each port's own entries: of a port that no seat has, the entries are the list that is kept for it; only ports that were given out have one
  pub others : (p : ℕ) → ((i : ℕ) (v : View V E) → HasView s i v → v.role ≢ Of p) → of_port port_of p since ≡ kept_list p kept
  -- and a port that was given out has a seat, or a list that is kept
  pub out : (p : ℕ) → has_port p given ≡ true → ((seat : ℕ) × (view : View V E) × HasView s seat view × (view.role ≡ Of p)) ⊎ (has_kept p kept ≡ true)
  pub kept_given : (p : ℕ) → has_kept p kept ≡ true → has_port p given ≡ true
