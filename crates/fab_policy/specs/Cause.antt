-- Why a frame was dropped: a rule, and a place or a kind for the rules that have one.
use Rattle.std.specs.Prelude.{ℕ, Bool, true, false, Option, Some, None}
use Rattle.fip_codec.specs.declared.fault.FipFault.{FipFault}
use Rattle.fip_codec.specs.declared.fault.FipFault.TheVariants.{Short, Version, Operation, ListLength, DescLength, Critical, Double, Missing}
use Rattle.heard_frames.specs.declared.unreadable.Unreadable.{Unreadable}
use Rattle.heard_frames.specs.declared.unreadable.Unreadable.TheVariants as unreadable
use Rattle.fab_policy.specs.declared.verdict.Rule.{Rule}
use Rattle.fab_policy.specs.declared.verdict.Rule.TheVariants.{Truncated, EthShort, Ethertype, FipShort, FipVersion, FipOperation, FipList, FipLength, FipCritical, FipDouble, FipMissing}

-- a rule, and its number
pub record Cause : Type 0 where
  pub rule : Rule
  pub number : Option ℕ

-- the rules of FIP that name a place in the body, or the type of a descriptor
abbrev pub is_numbered : Rule → Bool
is_numbered FipLength = true
is_numbered FipCritical = true
is_numbered FipDouble = true
is_numbered FipMissing = true
is_numbered _ = false

-- a rule without a number, and with one
abbrev pub plain : Rule → Cause
plain r = record { rule = r; number = None }

abbrev pub numbered : Rule → ℕ → Cause
numbered r n = record { rule = r; number = Some n }

-- the rule of a fault of a FIP body, with the place or the kind that it names
abbrev pub cause_of : FipFault → Cause
cause_of Short = plain FipShort
cause_of Version = plain FipVersion
cause_of Operation = plain FipOperation
cause_of ListLength = plain FipList
cause_of (DescLength at) = numbered FipLength at
cause_of (Critical at kind) = numbered FipCritical at
cause_of (Double at) = numbered FipDouble at
cause_of (Missing kind) = numbered FipMissing kind

-- the rule of a frame that can't be read
abbrev pub cause_of_unreadable : Unreadable → Cause
cause_of_unreadable unreadable.Truncated = plain Truncated
cause_of_unreadable unreadable.EthShort = plain EthShort
cause_of_unreadable unreadable.Ethertype = plain Ethertype
cause_of_unreadable (unreadable.Fip fault) = cause_of fault
