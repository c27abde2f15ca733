use Rattle.std.proofs.Common.{◌≡◌, ℕ, List, [], ◌∷◌, ◌++◌, sym, ap, ◌∙◌, subst, Option, IsSome}
use mathlib.Core.List.{IsPrefix}
use Rattle.fab_policy.specs.Standing.{Contents}
use Rattle.fab_policy.specs.declared.event.Event.{Event}
use Rattle.fab_policy.specs.declared.event.Event.TheVariants.{Frame}
use Rattle.fab_turn.specs.Lock.{seen}
use Rattle.fab_shared.specs.Frames.{frames_of}
use Rattle.fab_shared.specs.Shared.{opened, IsStep}
use Rattle.fab_shared.proofs.Entries.{frames_taken}
use Rattle.fab_shared.proofs.Submitting.{begins_more, is_step}
use Rattle.fab_shared.proofs.shared.SharedFabric.submit.Goals as goal

pub finish-requires-clause-entry : goal.finish-requires-clause-entry
finish-requires-clause-entry g c =
    let e : Event = Frame c.in-Some.port c.args.index c.args.heard.now.caught.now c.in-Ok.verdict in (
      e,
      frames_taken c.turn-locked.result.fabric c.step.new.self c.in-Some.port c.args.index c.args.heard.now.caught.now c.in-Ok.verdict c.in-Ok.ensures.takes
          ∙ ap (λ (l : List Event). l ++ e ∷ []) c.turn-locked.ensures.history,
      c.turn-locked.ensures.pass.2.0 ∙ (sym c.port.ensures ∙ c.in-Some.is),
    )

pub returns-in-Ok-clause-step : goal.returns-in-Ok-clause-step
returns-in-Ok-clause-step g c = λ p at.
    let caught = c.args.heard.now.caught.now in
    let v = c.in-Ok.verdict in
    let e : Event = Frame c.in-Some.port c.args.index caught v in
    let turn = c.turn-locked.ensures in
    let found = c.in-Some.is in
    let port = c.port.ensures in
    let same : c.in-Some.port ≡ p = cc in
    subst (λ (q : ℕ). IsStep (opened c.args.self.now) (Frame q c.args.index caught v) c.args.pass.now c.finish.new.pass) same
    (is_step (opened c.args.self.now) c.turn-locked.result.fabric c.step.new.self c.in-Some.port c.args.index caught v c.args.pass.now c.turn-locked.new.pass c.finish.new.pass
    turn.grown c.in-Ok.ensures.takes (subst (λ (o : Option ℕ). IsSome o) (sym turn.grown.clock) c.requires.clock, c.in-Ok.ensures.right) turn.seen turn.own c.finish.ensures.seen
    (c.finish.ensures.own e
    (frames_taken c.turn-locked.result.fabric c.step.new.self c.in-Some.port c.args.index caught v c.in-Ok.ensures.takes ∙ ap (λ (l : List Event). l ++ e ∷ []) turn.history)))

pub returns-in-Ok-clause-seen : goal.returns-in-Ok-clause-seen
returns-in-Ok-clause-seen g c =
    let caught = c.args.heard.now.caught.now in
    let v = c.in-Ok.verdict in
    let F = c.turn-locked.result.fabric in
    begins_more (seen c.args.pass.now) (frames_of F.events) (seen c.finish.new.pass) (Frame c.in-Some.port c.args.index caught v ∷ []) c.turn-locked.ensures.seen
    (c.finish.ensures.seen ∙ frames_taken F c.step.new.self c.in-Some.port c.args.index caught v c.in-Ok.ensures.takes)

pub returns-in-Err-Memory-clause-seen : goal.returns-in-Err-Memory-clause-seen
returns-in-Err-Memory-clause-seen g c = subst (λ (l : List Event). IsPrefix (seen c.args.pass.now) l) (sym (c.finish_without.ensures.seen ∙ ap (λ (F : Contents). frames_of F.events) c.in-Err-Memory.ensures.err)) c.turn-locked.ensures.seen
