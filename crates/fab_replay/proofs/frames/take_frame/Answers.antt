use Rattle.std.proofs.Common.{◌∷◌, inr, subst}
use Rattle.fab_base.specs.declared.values.Caught.{Caught}
use Rattle.fab_pages.specs.Pages.{items_in}
use Rattle.fab_policy.specs.Ranged.{IsRangedEvent}
use Rattle.fab_states.specs.States.{LegalFrom}
use Rattle.fab_replay.specs.FrontFrom.{StandsFrom}
use Rattle.fab_policy.specs.declared.event.Event.TheVariants as event
use Rattle.fab_replay.specs.Owed.{PagesGrow}
use Rattle.fab_replay.specs.Steps.{HasTurned}
use Rattle.fab_replay.specs.declared.fault.CheckFault.TheVariants as fault
use Rattle.fab_replay.proofs.FrontLemmas.{ranged_one}
use Rattle.fab_replay.proofs.RemainLemmas.{turned_as}
use Rattle.fab_replay.proofs.ResultLemmas.{err_on}
use Rattle.fab_replay.proofs.SentLemmas.{frame_soon, goes_took, grow_taken, took_one}
use Rattle.fab_replay.proofs.StepLemmas.{refused_as}
use Rattle.fab_replay.proofs.frames.take_frame.Goals as goal

pub returns-in-Err-clause-refused : goal.returns-in-Err-clause-refused
returns-in-Err-clause-refused c =
    refused_as c.args.fabric.now.settings c.args.fabric.now.state.tables c.args.place.now c.args.named.now.port c.args.named.now.found.now.caught c.hear-heard.result.caught.now c.args.named.now.verdict c.in-Err.misjudged c.refusal.result
    c.hear-heard.ensures.caught c.in-Err.ensures.wrong c.refusal.ensures

pub take_sent-requires : goal.take_sent-requires
take_sent-requires c = record {
  early = frame_soon c.args.fabric.now c.step_as.new.fabric c.args.named.now.port c.args.named.now.index c.hear-heard.result.caught.now c.args.named.now.verdict c.requires.idle c.in-Ok.ensures.takes c.requires.early;
}

pub returns-clause-entries : goal.returns-clause-entries
returns-clause-entries c = λ o J legal stands.
    let F = c.args.fabric.now in
    let old = items_in c.args.pages.now in
    let new = items_in c.take_sent.new.pages in
    let e = event.Frame c.args.named.now.port c.args.named.now.index c.hear-heard.result.caught.now c.args.named.now.verdict in
    let j = goes_took o F c.step_as.new.fabric c.take_sent.new.fabric e J c.requires.idle (c.requires.clock, c.in-Ok.ensures.right) c.in-Ok.ensures.takes c.take_sent.ensures.fabric legal stands in
    subst (λ (x : Caught). let K = event.Frame c.args.named.now.port c.args.named.now.index x c.args.named.now.verdict ∷ J in LegalFrom F.settings o.state K × StandsFrom o c.take_sent.new.fabric K × PagesGrow F.settings F.count o J K old new) c.hear-heard.ensures.caught
    (j.0, j.1, grow_taken o F c.step_as.new.fabric e J old new c.requires.idle c.in-Ok.ensures.takes stands c.in_ok-take_sent.ensures.adds)

pub returns-clause-ranged : goal.returns-clause-ranged
returns-clause-ranged c =
    let e = event.Frame c.args.named.now.port c.args.named.now.index c.hear-heard.result.caught.now c.args.named.now.verdict in
    subst (λ (x : Caught). IsRangedEvent (event.Frame c.args.named.now.port c.args.named.now.index x c.args.named.now.verdict)) c.hear-heard.ensures.caught
    (ranged_one e c.step_as.new.fabric.events (took_one c.requires.idle c.in-Ok.ensures.takes) c.take_sent.ensures.ranged)

pub returns-in-Err-clause-left : goal.returns-in-Err-clause-left
returns-in-Err-clause-left c = λ o J legal stands.
    turned_as o c.args.fabric.now c.step_as.new.fabric J c.args.place.now c.args.named.now.port c.args.named.now.index c.args.named.now.found.now.caught c.hear-heard.result.caught.now c.args.named.now.verdict c.in-Err.misjudged c.refusal.result
    c.hear-heard.ensures.caught c.requires.clock c.requires.idle c.in-Err.ensures.wrong c.in-Err.ensures.left c.refusal.ensures legal stands

pub returns-in_err-take_sent-clause-left : goal.returns-in_err-take_sent-clause-left
returns-in_err-take_sent-clause-left c = err_on c.from_residual.result fault.Memory _ c.from_residual.ensures.1 (λ o J legal stands.
    let F = c.args.fabric.now in
    let G = c.take_sent.new.fabric in
    let v = c.args.named.now.verdict in
    let e = event.Frame c.args.named.now.port c.args.named.now.index c.hear-heard.result.caught.now v in
    let j = goes_took o F c.step_as.new.fabric G e J c.requires.idle (c.requires.clock, c.in-Ok.ensures.right) c.in-Ok.ensures.takes c.take_sent.ensures.fabric legal stands in
    subst (λ (x : Caught). HasTurned F.settings o G J c.args.named.now.port c.args.named.now.index x fault.Memory) c.hear-heard.ensures.caught (inr (v, j.0, j.1)))
