-- How a clock keeps its voices: each with its last moment at a place of a slab, and the places in two orders, that of a number
-- which each voice has, and that of the deadlines. No public clause cites this module.
use Rattle.std.specs.Prelude.{◌≡◌, ℕ, ◌+◌, ◌-◌, ◌*◌, ◌/◌, ◌<◌, ◌≤◌, ◌^◌, List, length, Some, None, IsSome, Vec, vec_capacity}
use Rattle.std.specs.declared.alloc.Global.{Global}
use Rattle.std.specs.List.{All}
use Rattle.slab.specs.Slab.{Slab, get}
use Rattle.fab_base.specs.Keyed.{item_at, without}
use Rattle.sorted_lists.specs.Enodes as enodes
use Rattle.sorted_lists.specs.Orders.{IsOrder, seen}
use Rattle.keepalive_clock.specs.Clock.{period_of}
use Rattle.keepalive_clock.specs.declared.voice.Voice.{Voice}
use Rattle.keepalive_clock.specs.declared.voice.Voice.TheVariants.{Node, Port}
use Rattle.keepalive_clock.specs.declared.voice.LastHeard.{LastHeard}

-- the number of a voice: that of an ENode, or the address
abbrev pub number_of : Voice → ℕ
number_of (Node x) = enodes.enode_number x
number_of (Port a) = a

-- a whole ENode, or an address
abbrev pub IsWhole : Voice → Type 0
IsWhole (Node x) = enodes.IsWhole x
IsWhole (Port a) = a < 2 ^ 24

-- the number of a voice with its last moment
abbrev pub voice_number : LastHeard → ℕ
voice_number x = number_of x.voice

-- the least moment at which a voice is silent too long
abbrev pub due_of : ℕ → ℕ → LastHeard → ℕ
due_of node port x = x.last + 5 * period_of node port x.voice / 2 + 1

-- the number of its deadline: the earlier, the greater
abbrev pub deadline_number : ℕ → ℕ → LastHeard → ℕ
deadline_number node port x = (2 ^ 65 - due_of node port x) * 2 ^ 56 + number_of x.voice

-- what is kept of each voice
abbrev pub FitsVoice : LastHeard → Type 0
FitsVoice x = IsWhole x.voice × (x.last < 2 ^ 63)

-- the same voice with another last moment
abbrev pub heard_again : ℕ → LastHeard → LastHeard
heard_again now x = record { voice = x.voice; last = now }

-- the deadline that the voice at this place gets is that of no other
abbrev pub HasOwnDue : ℕ → ℕ → ℕ → ℕ → Slab LastHeard → List ℕ → Type 0
HasOwnDue node port place now records by_due =
    (x : LastHeard) → get records place ≡ Some x
    → item_at (deadline_number node port) (deadline_number node port (heard_again now x)) (without (deadline_number node port) (deadline_number node port x) (seen records by_due)) ≡ None

-- What stands before the voice at this place is heard again: the places are in the order of the deadlines, and it is among them.
pub record CanHear (node port place now : ℕ) (records : Slab LastHeard) (by_due : List ℕ) : Type 0 where
  pub order : IsOrder (deadline_number node port) records by_due
  pub there : IsSome (get records place)
  pub apart : HasOwnDue node port place now records by_due

-- The places stand in both orders, and there is room for as many as there may be.
pub record IsClockKept (node port most : ℕ) (records : Slab LastHeard) (by_voice by_due : Vec ℕ Global) : Type 0 where
  pub voices : IsOrder voice_number records by_voice.items
  pub deadlines : IsOrder (deadline_number node port) records by_due.items
  pub fit : All FitsVoice (seen records by_voice.items)
  pub bound : length by_voice.items ≤ most
  pub room : most ≤ records.capacity
  pub voice_room : most ≤ vec_capacity by_voice
  pub due_room : most ≤ vec_capacity by_due
  pub node_range : node < 2 ^ 32
  pub port_range : port < 2 ^ 32
