-- Rows that drop a frame, before its judgement.
use Rattle.std.specs.Prelude.{◌≡◌, ℕ, Bool, List, Some, None, Result, Ok, Err}
use Rattle.eth_frames.specs.Ethernet as eth
use Rattle.fc_frames.specs.Frame as fc
use Rattle.fcoe_codec.specs.Fcoe as capsule
use Rattle.fcoe_codec.specs.declared.FcoeFault.{FcoeFault}
use Rattle.fab_config.specs.Settings.{Settings}
use Rattle.fab_policy.specs.Cause.{Cause}
use Rattle.heard_frames.specs.Rows.{first_row}
use Rattle.fab_policy.specs.Rules.{fcoe_rows, rule_of}
use Rattle.fab_policy.specs.State.{Tables}
use Rattle.fab_policy.specs.Verdicts.{Judgement, Must, fcoe_judged}
use Rattle.fab_policy.specs.declared.verdict.Verdict.TheVariants.{Dropped}

-- the verdict that drops a frame by the first of these rows, or else another judgement
abbrev pub unless_dropped : List (Bool × Cause) → Judgement → Judgement
unless_dropped rows else_ = elim (first_row rows) [ Some cause ↦ Must (Dropped cause) | None ↦ else_ ]

-- a body of FCoE that isn't dropped by its VLAN
abbrev pub body_judged : Settings → Tables → ℕ → eth.Eth → Result capsule.Fcoe FcoeFault → Judgement
body_judged c T port f (Ok x) = unless_dropped (fcoe_rows c T port f x) (fcoe_judged c T x.frame)
body_judged c T port f (Err fault) = Must (Dropped (rule_of fault))

-- an FC frame is that of a body, if the body was read
abbrev pub IsCarried : Result capsule.Fcoe FcoeFault → fc.Frame → Type 0
IsCarried (Ok x) f = f ≡ x.frame
IsCarried (Err fault) f = Unit {0}
