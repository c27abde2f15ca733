use Rattle.std.proofs.Common.{◌∙◌, ◌∷◌, true, refl, sym, ap, subst}
use Rattle.fab_policy.specs.State.{addresses, overdue}
use Rattle.fab_policy.specs.declared.event.Event.TheVariants as event
use Rattle.fab_pages.specs.Pages.{items_in}
use Rattle.fab_replay.specs.Steps.{IsFound, Left}
use Rattle.fab_replay.specs.declared.fault.CheckFault.TheVariants as fault
use Rattle.fab_replay.proofs.LeftLemmas.{gathered_next}
use Rattle.fab_replay.proofs.LineLemmas.{line_as, unread_as}
use Rattle.fab_replay.proofs.RemainLemmas.{along_as, along_tick, left_refused, left_tick, reached_as, stays_refused, stays_unread}
use Rattle.fab_replay.proofs.ResultLemmas.{told_on}
use Rattle.fab_replay.proofs.SentLemmas.{goes_took, grow_reached, grow_taken, tick_soon, took_one}
use Rattle.fab_replay.proofs.StepLemmas.{left_then, other_tick, unread_here}
use Rattle.fab_replay.proofs.ticks.check_tick.Goals as goal

-- ---- what the line makes of the lines before it

pub returns-in_err-line-clause-checks : goal.returns-in_err-line-clause-checks
returns-in_err-line-clause-checks c = λ x J t same h ahead.
    let e = c.in_err-line.field-0.0 in
    told_on c.from_residual.result e _ _ c.from_residual.ensures.1
    (unread_here x J _ _ h (gathered_next x.settings x.records x.stop J t.window t.least ahead) e (left_then x J _ _ h _ t) (unread_as c.args.place.now e same c.in_err-line.ensures.unread.0))

pub returns-in_err-tick-clause-checks : goal.returns-in_err-tick-clause-checks
returns-in_err-tick-clause-checks c = λ x J t same h ahead. told_on c.from_residual-in_err-tick.result fault.Memory _ _ c.from_residual-in_err-tick.ensures.1 tt

pub take_sent-requires : goal.take_sent-requires
take_sent-requires c = record {
  early = tick_soon c.args.fabric.now c.tick.new.self c.args.moment _ c.requires.idle c.in_ok-tick.ensures.takes c.requires.range;
}

pub returns-in_err-drained-clause-checks : goal.returns-in_err-drained-clause-checks
returns-in_err-drained-clause-checks c = λ x J t same h ahead. told_on c.from_residual-in_err-drained.result fault.Memory _ _ c.from_residual-in_err-drained.ensures.1 tt

pub returns-in_err-same_tick-clause-checks : goal.returns-in_err-same_tick-clause-checks
returns-in_err-same_tick-clause-checks c = λ x J t same h ahead.
    let events = c.in_ok-drained.ensures.events ∙ took_one c.requires.idle c.in_ok-tick.ensures.takes in
    let e = c.in_err-same_tick.field-0.0 in
    let other = c.in_err-same_tick.ensures c.args.moment _ events in
    told_on c.from_residual-in_err-same_tick.result e _ _ c.from_residual-in_err-same_tick.ensures.1
    (subst (IsFound x) (sym other.is)
    (other_tick x J _ _ h _ t ahead _ c.next_line.new.place c.in_ok-line.line refl (line_as same refl c.in_ok-line.ensures.line) other.other))

pub returns-clause-checks : goal.returns-clause-checks
returns-clause-checks c = λ x J t same h ahead.
    let F = c.args.fabric.now in
    let G = c.take_sent.new.fabric in
    let ends = addresses (overdue F.settings F.state.tables c.args.moment) in
    let e = event.Tick c.args.moment ends in
    let events = c.in_ok-drained.ensures.events ∙ took_one c.requires.idle c.in_ok-tick.ensures.takes in
    let goes = goes_took x.from F c.tick.new.self G e J c.requires.idle refl c.in_ok-tick.ensures.takes c.take_sent.ensures.fabric in
    let old = items_in c.args.pages.now in
    let new = items_in c.take_sent.new.pages in (
      ends,
      reached_as (along_tick x true J F _ (along_as h) c.args.moment ends (λ known. t) G goes c.next_line.new.place c.in_ok-line.line (line_as same refl c.in_ok-line.ensures.line)
          (c.in_ok-same_tick.ensures c.args.moment ends events) (ap (λ G. G.settings) c.take_sent.ensures.fabric ∙ c.in_ok-tick.ensures.takes.settings))
          (ap (λ G. G.count) c.take_sent.ensures.fabric ∙ c.in_ok-tick.ensures.takes.count ∙ h.count),
      grow_reached x J (e ∷ J) _ _ old new h
          (grow_taken x.from F c.tick.new.self e J old new c.requires.idle c.in_ok-tick.ensures.takes h.stands c.in_ok-drained.ensures.adds),
    )

-- ---- what the fabric stands for

pub returns-in_err-line-clause-left : goal.returns-in_err-line-clause-left
returns-in_err-line-clause-left c = λ x told J same h next.
    let e = c.in_err-line.field-0.0 in
    told_on c.from_residual.result e _ _ c.from_residual.ensures.1 (stays_unread x told J _ _ h e (unread_as c.args.place.now e same c.in_err-line.ensures.unread.0))

pub returns-in_err-tick-clause-left : goal.returns-in_err-tick-clause-left
returns-in_err-tick-clause-left c = λ x told J same h next.
    told_on c.from_residual-in_err-tick.result fault.Memory _ _ c.from_residual-in_err-tick.ensures.1
    (subst (λ G. Left x told G fault.Memory) (sym c.in_err-tick.ensures.err) (stays_refused x told J _ _ h))

pub returns-in_err-drained-clause-left : goal.returns-in_err-drained-clause-left
returns-in_err-drained-clause-left c = λ x told J same h next.
    let F = c.args.fabric.now in
    let G = c.take_sent.new.fabric in
    let ends = addresses (overdue F.settings F.state.tables c.args.moment) in
    told_on c.from_residual-in_err-drained.result fault.Memory _ _ c.from_residual-in_err-drained.ensures.1
    (left_refused x told J F _ h c.args.moment ends next G (goes_took x.from F c.tick.new.self G (event.Tick c.args.moment ends) J c.requires.idle refl c.in_ok-tick.ensures.takes c.take_sent.ensures.fabric))

pub returns-in_err-same_tick-clause-left : goal.returns-in_err-same_tick-clause-left
returns-in_err-same_tick-clause-left c = λ x told J same h next.
    let F = c.args.fabric.now in
    let G = c.take_sent.new.fabric in
    let ends = addresses (overdue F.settings F.state.tables c.args.moment) in
    let events = c.in_ok-drained.ensures.events ∙ took_one c.requires.idle c.in_ok-tick.ensures.takes in
    let e = c.in_err-same_tick.field-0.0 in
    let other = c.in_err-same_tick.ensures c.args.moment _ events in
    told_on c.from_residual-in_err-same_tick.result e _ _ c.from_residual-in_err-same_tick.ensures.1
    (subst (Left x told G) (sym other.is)
    (left_tick x told J F _ h c.args.moment ends next G (goes_took x.from F c.tick.new.self G (event.Tick c.args.moment ends) J c.requires.idle refl c.in_ok-tick.ensures.takes c.take_sent.ensures.fabric) _ refl))

pub returns-clause-left : goal.returns-clause-left
returns-clause-left c = λ x told J same h next.
    let F = c.args.fabric.now in
    let G = c.take_sent.new.fabric in
    let ends = addresses (overdue F.settings F.state.tables c.args.moment) in
    let events = c.in_ok-drained.ensures.events ∙ took_one c.requires.idle c.in_ok-tick.ensures.takes in (
      ends,
      along_tick x told J F _ h c.args.moment ends next G (goes_took x.from F c.tick.new.self G (event.Tick c.args.moment ends) J c.requires.idle refl c.in_ok-tick.ensures.takes c.take_sent.ensures.fabric)
          c.next_line.new.place c.in_ok-line.line (line_as same refl c.in_ok-line.ensures.line)
          (c.in_ok-same_tick.ensures c.args.moment ends events)
          (ap (λ G. G.settings) c.take_sent.ensures.fabric ∙ c.in_ok-tick.ensures.takes.settings),
    )
