-- The journal of a forwarder, and how it is scanned.
use Rattle.std.specs.Prelude.{ℕ, ◌+◌, Bool, true, false, List, [], ◌∷◌, Option, Some, None, unwrap_or}
use Rattle.fab_policy.specs.declared.event.Event.{Event}
use Rattle.fab_policy.specs.declared.event.Event.TheVariants.{Tick, Frame}

-- A journal is the list of its entries, the newest first: `e ∷ J` is the journal J with one more entry.
abbrev pub Journal : Type 0
Journal = List Event

-- J with more entries, which come in this order
abbrev pub followed : Journal → List Event → Journal
followed J [] = J
followed J (e ∷ more) = followed (e ∷ J) more

-- what the last entry that says anything says
abbrev pub latest : {X : Type 0} → (Event → Option X) → List Event → Option X
latest says [] = None
latest says (e ∷ J) = elim (says e) [ Some x ↦ Some x | None ↦ latest says J ]

-- J up to its last entry that passes, with it; nothing where there is none
abbrev pub up_to_last : (Event → Bool) → Journal → Journal
up_to_last passes [] = []
up_to_last passes (e ∷ J) = elim (passes e) [ true ↦ e ∷ J | false ↦ up_to_last passes J ]

-- the entries after the last one that passes; all of them where there is none
abbrev pub after_last : (Event → Bool) → Journal → List Event
after_last passes [] = []
after_last passes (e ∷ J) = elim (passes e) [ true ↦ [] | false ↦ e ∷ after_last passes J ]

abbrev pub moment_of : Event → Option ℕ
moment_of (Tick moment ended) = Some moment
moment_of (Frame port index caught verdict) = None

-- the moment of the last tick, and none where there is no tick
abbrev pub clock : Journal → Option ℕ
clock J = latest moment_of J

-- the same as a number, 0 where there is no tick
abbrev pub now : Journal → ℕ
now J = unwrap_or (clock J) 0

-- how many entries are frames
abbrev pub frame_count : Journal → ℕ
frame_count [] = 0
frame_count (Tick m ended ∷ J) = frame_count J
frame_count (Frame port index caught verdict ∷ J) = frame_count J + 1
