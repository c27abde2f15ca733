use Rattle.std.proofs.Common.{◌∙◌, ◌-◌, ◌<◌, ℕ, length, ap, sym, subst, option_map}
use Rattle.std.specs.Prelude.{Vec}
use Rattle.std.specs.declared.alloc.Global.{Global}
use Rattle.fip_snoop.specs.Bridge.{arrivals}
use Rattle.fip_snoop.specs.Queue.{least, left_in, head_of}
use Rattle.side_runs.proofs.NextLemmas.{next_is, no_head}
use Rattle.side_runs.proofs.CrossLemmas.{crossing_none, crossing_more, room_for, fewer, same_places, short_heads, crosses_memory, crossing_on, crosses_all, crosses_failed, crosses_full}
use Rattle.side_runs.proofs.crossing.cross.Goals as goal

pub loop-head-init : goal.loop-head-init
loop-head-init g c = (
  crossing_none c.args.bridge.now.snoop.forwarder c.args.ins.now c.args.outs.now (g.D.Depot.seen c.args.depot.now) c.args.bridge.now c.requires.new c.requires.count c.requires.empty,
  short_heads (length c.args.ins.now) _ c.requires.new.pages,
)

pub overflow_sub-head : goal.overflow_sub-head
overflow_sub-head g c =
    let ins = c.args.ins.now in
    let b = c.loop-head.bridge in
    (next_is ins b.places.items c.in-Some.head c.loop-head.invariant.0.stands.count (sym c.in-Some.is ∙ c.first_port.ensures ∙ ap (λ l. option_map head_of (least 1 (left_in ins l))) c.deref.ensures.value)).1

pub pass_next-requires-clause-room : goal.pass_next-requires-clause-room
pass_next-requires-clause-room g c =
    let seen = g.D.Depot.seen in
    let ins = c.args.ins.now in
    let b = c.loop-head.bridge in
    let n = next_is ins b.places.items c.in-Some.head c.loop-head.invariant.0.stands.count (sym c.in-Some.is ∙ c.first_port.ensures ∙ ap (λ l. option_map head_of (least 1 (left_in ins l))) c.deref.ensures.value) in
    room_for c.args.bridge.now.snoop.forwarder ins c.args.outs.now (seen c.args.depot.now) (seen c.loop-head.depot) b c.requires.outputs c.loop-head.invariant.0 (c.in-Some.head.port - 1) n.0 c.requires.ascend c.requires.frames

pub pass_next-requires-clause-next : goal.pass_next-requires-clause-next
pass_next-requires-clause-next g c =
    let ins = c.args.ins.now in
    let b = c.loop-head.bridge in
    (next_is ins b.places.items c.in-Some.head c.loop-head.invariant.0.stands.count (sym c.in-Some.is ∙ c.first_port.ensures ∙ ap (λ l. option_map head_of (least 1 (left_in ins l))) c.deref.ensures.value)).0

pub pass_next-requires-clause-short : goal.pass_next-requires-clause-short
pass_next-requires-clause-short g c = c.loop-head.invariant.1

pub returns-in-Err : goal.returns-in-Err
returns-in-Err g c =
    let seen = g.D.Depot.seen in
    record { crosses = crosses_memory c.args.bridge.now.snoop.forwarder c.args.ins.now c.args.outs.now (seen c.args.depot.now) (seen c.loop-head.depot) c.loop-head.bridge c.requires.outputs c.loop-head.invariant.0 }

pub loop-head-preserved : goal.loop-head-preserved
loop-head-preserved g c =
    let w = c.args.bridge.now.snoop.forwarder in
    let a = g.D.Depot.seen c.args.depot.now in
    let d = g.D.Depot.seen c.loop-head.depot in
    let more = crossing_more w c.args.ins.now c.args.outs.now a d c.loop-head.bridge c.requires.outputs c.loop-head.invariant.0 c.pass_next.new.self c.in-Ok.ensures.passes in
    (crossing_on w c.args.ins.now c.args.outs.now a d c.pass_next.new.self c.requires.outputs more (g.D.Depot.seen c.write_full.new.depot) c.write_full.new.bridge c.in-Ok-write_full.ensures.writes, c.in-Ok-write_full.ensures.short)

pub loop-head-smaller : goal.loop-head-smaller
loop-head-smaller g c =
    let seen = g.D.Depot.seen in
    let ins = c.args.ins.now in
    let outs = c.args.outs.now in
    let same = same_places outs c.pass_next.new.self c.write_full.new.bridge (seen c.loop-head.depot) (seen c.write_full.new.depot) c.in-Ok-write_full.ensures.writes in
    subst (λ (v : Vec ℕ Global). length (arrivals (left_in ins v.items)) < length (arrivals (left_in ins c.loop-head.bridge.places.items))) (sym same)
    (fewer c.args.bridge.now.snoop.forwarder ins outs (seen c.args.depot.now) (seen c.loop-head.depot) c.loop-head.bridge c.requires.outputs c.loop-head.invariant.0 c.pass_next.new.self c.in-Ok.ensures.passes)

pub returns-in-Err-write_full : goal.returns-in-Err-write_full
returns-in-Err-write_full g c =
    let w = c.args.bridge.now.snoop.forwarder in
    let a = g.D.Depot.seen c.args.depot.now in
    let d = g.D.Depot.seen c.loop-head.depot in
    let more = crossing_more w c.args.ins.now c.args.outs.now a d c.loop-head.bridge c.requires.outputs c.loop-head.invariant.0 c.pass_next.new.self c.in-Ok.ensures.passes in
    record { crosses = crosses_full w c.args.ins.now c.args.outs.now a d c.pass_next.new.self c.requires.outputs more (g.D.Depot.seen c.write_full.new.depot) c.write_full.new.bridge c.in-Err-write_full.field-0 c.in-Err-write_full.ensures.writes }

pub returns-in-Ok-write : goal.returns-in-Ok-write
returns-in-Ok-write g c =
    let w = c.args.bridge.now.snoop.forwarder in
    let ins = c.args.ins.now in
    let b = c.loop-head.bridge in
    let none = no_head (left_in ins b.places.items) (sym c.in_default.is ∙ c.first_port.ensures ∙ ap (λ l. option_map head_of (least 1 (left_in ins l))) c.deref.ensures.value) in
    record { crosses = crosses_all w ins c.args.outs.now (g.D.Depot.seen c.args.depot.now) (g.D.Depot.seen c.loop-head.depot) b c.requires.outputs c.loop-head.invariant.0 (g.D.Depot.seen c.write.new.depot) c.write.new.bridge none c.in-Ok-write.ensures }

pub returns-in-Err-write : goal.returns-in-Err-write
returns-in-Err-write g c =
    record { crosses = crosses_failed c.args.bridge.now.snoop.forwarder c.args.ins.now c.args.outs.now (g.D.Depot.seen c.args.depot.now) (g.D.Depot.seen c.loop-head.depot) c.loop-head.bridge c.requires.outputs c.loop-head.invariant.0 (g.D.Depot.seen c.write.new.depot) c.write.new.bridge c.in-Err-write.field-0 c.in-Err-write.ensures }
