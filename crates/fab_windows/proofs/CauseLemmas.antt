-- The causes for which a frame is dropped have numbers in range.
use Rattle.std.proofs.Common.{◌≡◌, ℕ, ◌^◌, ◌<◌, Bool, true, false, ◌==◌, List, [], ◌∷◌, is_some, IfSome, Option, Some, None, Result, Ok, Err, refl}
use Rattle.fab_base.specs.declared.values.Caught.{Caught}
use Rattle.fab_base.proofs.LayoutLemmas.{AreBytes}
use Rattle.fab_config.specs.Settings.{Settings}
use Rattle.eth_frames.specs.Ethernet as eth
use Rattle.eth_frames.specs.declared.EthFault.{EthFault}
use Rattle.fcoe_codec.specs.Fcoe as capsule
use Rattle.fcoe_codec.specs.declared.FcoeFault.{FcoeFault}
use Rattle.fcoe_codec.specs.declared.FcoeFault.TheVariants as fcoe_fault
use Rattle.fip_codec.specs.Message as fip
use Rattle.fip_codec.specs.Reading as reading
use Rattle.fip_codec.specs.declared.fault.FipFault.{FipFault}
use Rattle.fip_codec.specs.declared.fault.FipFault.TheVariants.{Short, Version, Operation, ListLength, DescLength, Critical, Double, Missing}
use Rattle.fab_policy.specs.Cause.{Cause, is_numbered, plain, cause_of, cause_of_unreadable}
use Rattle.heard_frames.specs.Heard.{What, Bad, Fip, Fcoe, FIP, FCOE, fip_in, frame_in, decoded}
use Rattle.heard_frames.specs.declared.unreadable.Unreadable.TheVariants as unreadable
use Rattle.heard_frames.specs.Rows.{first_row, is_wrong_vlan}
use Rattle.fab_policy.specs.Rules.{fip_rows, fcoe_rows, rule_of, rule_for}
use Rattle.fab_policy.specs.State.{Tables}
use Rattle.fab_policy.specs.declared.verdict.Rule.TheVariants as rule
use Rattle.fab_windows.proofs.FaultLemmas.{IsSmall, SmallRead, HasBody, body_bytes, read_small}

abbrev pub IsRangedCause : Cause → Type 0
IsRangedCause cause = (is_some cause.number ≡ is_numbered cause.rule) × IfSome cause.number (λ n. n < 2 ^ 32)

-- ---- frames that can't be read

fault_ranged : (fault : FipFault) → IsSmall fault → IsRangedCause (cause_of fault)
fault_ranged Short h = (refl, tt)
fault_ranged Version h = (refl, tt)
fault_ranged Operation h = (refl, tt)
fault_ranged ListLength h = (refl, tt)
fault_ranged (DescLength at) h = (refl, h)
fault_ranged (Critical at kind) h = (refl, h)
fault_ranged (Double at) h = (refl, h)
fault_ranged (Missing kind) h = (refl, h)

abbrev pub IsRangedWhat : What → Type 0
IsRangedWhat (Bad fault) = IsRangedCause (cause_of_unreadable fault)
IsRangedWhat (Fip f m) = Unit {0}
IsRangedWhat (Fcoe f read) = Unit {0}

ranged_fip : (f : eth.Eth) (read : Result fip.Fip FipFault) → SmallRead read → IsRangedWhat (elim read as (λ _. What) [ Err fault ↦ Bad (unreadable.Fip fault) | Ok message ↦ Fip f message ])
ranged_fip f (Ok m) h = tt
ranged_fip f (Err fault) h = fault_ranged fault h

ranged_frame : (f : eth.Eth) (is_fip is_fcoe : Bool) → AreBytes f.body →
    IsRangedWhat (elim is_fip as (λ _. What) [
      | true ↦ fip_in f
      | false ↦ elim is_fcoe as (λ _. What) [ true ↦ Fcoe f (capsule.decoded f.body) | false ↦ Bad unreadable.Ethertype ]
    ])
ranged_frame f true is_fcoe are = ranged_fip f (reading.decoded f.body) (read_small f.body are)
ranged_frame f false true are = tt
ranged_frame f false false are = (refl, tt)

ranged_read : (whole : Bool) (read : Result eth.Eth EthFault) → HasBody read →
    IsRangedWhat (elim whole as (λ _. What) [
      | false ↦ Bad unreadable.Truncated
      | true ↦ elim read as (λ _. What) [ Err fault ↦ Bad unreadable.EthShort | Ok f ↦ frame_in f ]
    ])
ranged_read false read are = (refl, tt)
ranged_read true (Err fault) are = (refl, tt)
ranged_read true (Ok f) are = ranged_frame f (f.kind == FIP) (f.kind == FCOE) are

pub ranged_what : (caught : Caught) → AreBytes caught.bytes → IsRangedWhat (decoded caught)
unfolding decoded
ranged_what caught are = ranged_read caught.whole (eth.decoded caught.bytes) (body_bytes caught.bytes are)

-- ---- rows

abbrev AreRows : List (Bool × Cause) → Type 0
AreRows [] = Unit {0}
AreRows (row ∷ rows) = IsRangedCause row.1 × AreRows rows

abbrev pub RangedIf : Option Cause → Type 0
RangedIf None = Unit {0}
RangedIf (Some cause) = IsRangedCause cause

first_ranged : (rows : List (Bool × Cause)) → AreRows rows → RangedIf (first_row rows)
first_ranged [] h = tt
first_ranged (row ∷ rows) h = go row.0 (first_ranged rows h.1)
  where
    go : (b : Bool) → RangedIf (first_row rows) → RangedIf (elim b as (λ _. Option Cause) [ true ↦ Some row.1 | false ↦ first_row rows ])
    go true later = h.0
    go false later = later

rule_ranged : (fault : FcoeFault) → IsRangedCause (rule_of fault)
rule_ranged fcoe_fault.Length = (refl, tt)
rule_ranged fcoe_fault.Version = (refl, tt)
rule_ranged fcoe_fault.Sof = (refl, tt)
rule_ranged fcoe_fault.Eof = (refl, tt)
rule_ranged (fcoe_fault.Crc found made) = (refl, tt)

pub rules_ranged : (c : Settings) (T : Tables) (port : ℕ) (caught : Caught) (w : What) → IsRangedWhat w → RangedIf (rule_for c T port caught w)
unfolding rule_for
rules_ranged c T port caught (Bad fault) h = h
rules_ranged c T port caught (Fip f m) h =
    first_ranged (fip_rows c T port caught f m) ((refl, tt), ((refl, tt), ((refl, tt), ((refl, tt), ((refl, tt), ((refl, tt), ((refl, tt), tt)))))))
rules_ranged c T port caught (Fcoe f (Err e)) h = first_ranged ((is_wrong_vlan c.vlan f false, plain rule.Vlan) ∷ (true, rule_of e) ∷ []) ((refl, tt), (rule_ranged e, tt))
rules_ranged c T port caught (Fcoe f (Ok x)) h =
    first_ranged ((is_wrong_vlan c.vlan f false, plain rule.Vlan) ∷ fcoe_rows c T port f x)
    ((refl, tt), ((refl, tt), ((refl, tt), ((refl, tt), ((refl, tt), ((refl, tt), ((refl, tt), ((refl, tt), ((refl, tt), ((refl, tt), ((refl, tt), ((refl, tt), ((refl, tt), tt)))))))))))))

-- rows none of which drops a frame
abbrev pub AllFalse : List (Bool × Cause) → Type 0
AllFalse [] = Unit {0}
AllFalse (row ∷ rows) = (row.0 ≡ false) × AllFalse rows

pub all_false : (rows : List (Bool × Cause)) → first_row rows ≡ None → AllFalse rows
all_false [] e = tt
all_false (row ∷ rows) e = go row.0 refl e (all_false rows)
  where
    go : (b : Bool) → row.0 ≡ b → elim b as (λ _. Option Cause) [ true ↦ Some row.1 | false ↦ first_row rows ] ≡ None → (first_row rows ≡ None → AllFalse rows) → (row.0 ≡ false) × AllFalse rows
    go true is none later = absurd (let w : Some row.1 ≡ None = none in cc)
    go false is none later = (is, later none)
