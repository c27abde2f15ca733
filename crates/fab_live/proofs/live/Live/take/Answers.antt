use Rattle.std.proofs.Common.{ℕ, ◌+◌, ◌-◌, ◌^◌, ◌∙◌, ap, subst, refl, sym, Ok, Err}
use Rattle.std.specs.Prelude.{min, unwrap_or}
use Rattle.std.proofs.Math.Facts.{Fits-of_lt}
use Rattle.fab_policy.specs.Journal.{followed}
use Rattle.fab_base.specs.Seen.{Nothing}
use Rattle.fab_base.proofs.EndingLemmas.{uses_none}
use Rattle.fab_windows.proofs.ResultLemmas.{told_on}
use Rattle.fab_live.specs.Files.{LiveNames, WritesPacket, slots_of}
use Rattle.fab_windows.specs.Pages.{pending}
use Rattle.fab_live.proofs.WriteLemmas.{uses_no_more, uses_on}
use Rattle.fab_live.proofs.RunningLemmas.{late_code, broken_code, running_code}
use Rattle.fab_live.proofs.ReadyLemmas.{ready_early, ready_index, ready_on, ready_order, ready_ranged}
use Rattle.fab_live.proofs.live.Live.take.Goals as goal

pub handle-requires-clause-order : goal.handle-requires-clause-order
handle-requires-clause-order g c =
    ready_order (slots_of c.args.files.now) c.args.self.now (g.D.Depot.seen c.args.depot.now) c.requires.ready c.args.packet c.requires.face c.requires.kept c.config.result.now c.config.ensures c.arrive-packet.result
    c.arrive-packet.ensures c.window_start-window.result c.window_start-window.ensures.value

pub add-requires-clause-ranged : goal.add-requires-clause-ranged
add-requires-clause-ranged g c κs within =
    let d = c.in_ok-drained.drained in
    ready_ranged (slots_of c.args.files.now) c.args.self.now (g.D.Depot.seen c.args.depot.now) c.requires.ready c.args.packet c.requires.face c.requires.kept c.config.result.now c.config.ensures c.arrive-packet.result
    c.arrive-packet.ensures c.window_start-window.result c.window_start-window.ensures.value c.index-index.result.now c.index-index.ensures
    c.at-port.result c.handle.new.fabric d.events d.outs (c.in_ok-drained.ensures.handles c.arrive-packet.result.moment)

pub add-requires-clause-early : goal.add-requires-clause-early
add-requires-clause-early g c κs within =
    let d = c.in_ok-drained.drained in
    ready_early (slots_of c.args.files.now) c.args.self.now (g.D.Depot.seen c.args.depot.now) c.requires.ready c.args.packet c.requires.face c.requires.kept c.config.result.now c.config.ensures c.arrive-packet.result
    c.arrive-packet.ensures c.window_start-window.result c.window_start-window.ensures.value c.index-index.result.now c.index-index.ensures
    c.at-port.result c.handle.new.fabric d.events d.outs (c.in_ok-drained.ensures.handles c.arrive-packet.result.moment)

pub returns-in_err-write_packet-clause-takes : goal.returns-in_err-write_packet-clause-takes
returns-in_err-write_packet-clause-takes g c = λ k b packets K R.
    let seen = g.D.Depot.seen in
    let d = c.in_ok-drained.drained in
    let e = c.in_err-write_packet.field-0.0 in
    told_on c.from_residual-in_err-write_packet.result e _ _ c.from_residual-in_err-write_packet.ensures.1
    (broken_code k b (slots_of c.args.files.now) packets K c.args.self.now (seen c.args.depot.now) R c.args.packet c.requires.face c.requires.kept c.config.result.now c.config.ensures c.arrive-packet.result
    c.arrive-packet.ensures c.window_start-window.result c.window_start-window.ensures.value c.runs_go_on.ensures.window c.index-index.result.now c.index-index.ensures c.at-port.result c.at-port.ensures
    c.handle.new.fabric d.events d.outs (c.in_ok-drained.ensures.handles c.arrive-packet.result.moment)
    c.unwrap_or-clock.result (c.unwrap_or-clock.ensures ∙ ap (λ o. unwrap_or o 0) c.clock.ensures) c.config-2.result.now c.config-2.ensures c.add.new.self c.in_ok-add.ensures.lines c.in_ok-add.ensures.records (seen c.write_packet.new.depot)
    c.unwrap_or-first.result c.unwrap_or-first.ensures (sym c.is_too_late.ensures ∙ c.if-is_too_late.false) e c.in_err-write_packet.ensures.fault
    (subst (λ x. WritesPacket (slots_of c.args.files.now) c.args.packet.face x (pending c.add.new.self) (seen c.args.depot.now) (seen c.write_packet.new.depot) (Err e)) (c.deref.ensures.value ∙ c.in_ok-record.ensures) c.in_err-write_packet.ensures.writes))

pub overflow_add-index : goal.overflow_add-index
overflow_add-index g c =
    Fits-of_lt
    (ready_index (slots_of c.args.files.now) c.args.self.now (g.D.Depot.seen c.args.depot.now) c.requires.ready c.args.packet c.requires.face c.requires.kept c.config.result.now c.config.ensures c.arrive-packet.result
    c.arrive-packet.ensures c.window_start-window.result c.window_start-window.ensures.value c.index-index.result.now c.index-index.ensures c.requires.room.1)

pub returns-clause-takes : goal.returns-clause-takes
returns-clause-takes g c = λ k b packets K R.
    let seen = g.D.Depot.seen in
    let d = c.in_ok-drained.drained in (
      followed K d.events,
      (d.events, refl),
      running_code k b (slots_of c.args.files.now) packets K c.args.self.now (seen c.args.depot.now) R c.args.packet c.requires.face c.requires.kept c.config.result.now c.config.ensures c.arrive-packet.result
          c.arrive-packet.ensures c.window_start-window.result c.window_start-window.ensures.value c.runs_go_on.ensures.window c.index-index.result.now c.index-index.ensures c.at-port.result c.at-port.ensures
          c.handle.new.fabric d.events d.outs (c.in_ok-drained.ensures.handles c.arrive-packet.result.moment)
          c.unwrap_or-clock.result (c.unwrap_or-clock.ensures ∙ ap (λ o. unwrap_or o 0) c.clock.ensures) c.config-2.result.now c.config-2.ensures c.add.new.self c.in_ok-add.ensures.lines c.in_ok-add.ensures.records (seen c.write_packet.new.depot)
          c.unwrap_or-first.result c.unwrap_or-first.ensures (sym c.is_too_late.ensures ∙ c.if-is_too_late.false) _ refl refl refl
          (ready_on (slots_of c.args.files.now) c.args.self.now (g.D.Depot.seen c.args.depot.now) c.requires.ready c.args.packet c.requires.face c.requires.kept c.config.result.now c.config.ensures c.arrive-packet.result
          c.arrive-packet.ensures c.window_start-window.result c.window_start-window.ensures.value c.index-index.result.now c.index-index.ensures
          c.at-port.result c.handle.new.fabric d.events d.outs (c.in_ok-drained.ensures.handles c.arrive-packet.result.moment)
          (g.D.Depot.seen c.write_packet.new.depot) c.in_ok-write_packet.ensures.writes.files _ refl refl refl
          c.in_ok-write_packet.ensures.nothing (c.in_ok-write_packet.ensures.count ∙ c.in_ok-add.ensures.count ∙ c.requires.ready.pages))
          (subst (λ x. WritesPacket (slots_of c.args.files.now) c.args.packet.face x (pending c.add.new.self) (seen c.args.depot.now) (seen c.write_packet.new.depot) (Ok tt)) (c.deref.ensures.value ∙ c.in_ok-record.ensures) c.in_ok-write_packet.ensures.writes)
          refl refl (c.with_more-self.ensures ∙ ap (λ (n : ℕ). min (c.args.self.now.done.entries + n) (2 ^ 64 - 1)) c.len.ensures),
    )

pub returns-clause-ready : goal.returns-clause-ready
returns-clause-ready g c =
    let d = c.in_ok-drained.drained in
    ready_on (slots_of c.args.files.now) c.args.self.now (g.D.Depot.seen c.args.depot.now) c.requires.ready c.args.packet c.requires.face c.requires.kept c.config.result.now c.config.ensures c.arrive-packet.result
    c.arrive-packet.ensures c.window_start-window.result c.window_start-window.ensures.value c.index-index.result.now c.index-index.ensures
    c.at-port.result c.handle.new.fabric d.events d.outs (c.in_ok-drained.ensures.handles c.arrive-packet.result.moment)
    (g.D.Depot.seen c.write_packet.new.depot) c.in_ok-write_packet.ensures.writes.files _ refl refl refl
    c.in_ok-write_packet.ensures.nothing (c.in_ok-write_packet.ensures.count ∙ c.in_ok-add.ensures.count ∙ c.requires.ready.pages)

pub returns-then-is_too_late-clause-takes : goal.returns-then-is_too_late-clause-takes
returns-then-is_too_late-clause-takes g c = λ k b packets K R.
    let seen = g.D.Depot.seen in
    late_code k b (slots_of c.args.files.now) packets K c.args.self.now (seen c.args.depot.now) R c.args.packet c.requires.face c.requires.kept c.config.result.now c.config.ensures c.arrive-packet.result
    c.arrive-packet.ensures c.window_start-window.result c.window_start-window.ensures.value c.unwrap_or-first.result c.unwrap_or-first.ensures (sym c.is_too_late.ensures ∙ c.if-is_too_late.true)

-- ---- what it uses

pub returns-in_err-drained-clause-uses : goal.returns-in_err-drained-clause-uses
returns-in_err-drained-clause-uses g c = let seen = g.D.Depot.seen in uses_no_more (LiveNames (seen c.args.depot.now) (slots_of c.args.files.now)) (seen c.args.depot.now) c.from_residual.result c.from_residual.ensures.1

pub returns-in_err-record-clause-uses : goal.returns-in_err-record-clause-uses
returns-in_err-record-clause-uses g c = let seen = g.D.Depot.seen in uses_no_more (LiveNames (seen c.args.depot.now) (slots_of c.args.files.now)) (seen c.args.depot.now) c.from_residual-in_err-record.result c.from_residual-in_err-record.ensures.1

pub returns-in_err-add-clause-uses : goal.returns-in_err-add-clause-uses
returns-in_err-add-clause-uses g c = let seen = g.D.Depot.seen in uses_no_more (LiveNames (seen c.args.depot.now) (slots_of c.args.files.now)) (seen c.args.depot.now) c.from_residual-in_err-add.result c.from_residual-in_err-add.ensures.1

pub returns-in_err-write_packet-clause-uses : goal.returns-in_err-write_packet-clause-uses
returns-in_err-write_packet-clause-uses g c =
    let seen = g.D.Depot.seen in
    uses_on (LiveNames (seen c.args.depot.now) (slots_of c.args.files.now)) (seen c.args.depot.now) (seen c.write_packet.new.depot) c.from_residual-in_err-write_packet.result c.in_err-write_packet.field-0.0 c.from_residual-in_err-write_packet.ensures.1 c.in_err-write_packet.ensures.writes.uses

pub returns-clause-uses : goal.returns-clause-uses
returns-clause-uses g c = c.in_ok-write_packet.ensures.writes.uses

pub returns-then-is_too_late-clause-uses : goal.returns-then-is_too_late-clause-uses
returns-then-is_too_late-clause-uses g c = let seen = g.D.Depot.seen in uses_none Nothing (LiveNames (seen c.args.depot.now) (slots_of c.args.files.now)) (seen c.args.depot.now)
