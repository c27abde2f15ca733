use Rattle.std.proofs.Common.{◌≡◌, Some, length, unwrap_or, refl, ap, sym}
use Rattle.heard_frames.specs.Heard.{ask_of, s_id}
use Rattle.fab_policy.specs.Replies.{Asker}
use Rattle.fab_policy.specs.State.{LivePort, port_at}
use Rattle.forward_core.specs.Arrived.{caught_of}
use Rattle.forward_core.proofs.FrameLemmas.{sent_as}
use Rattle.forward_core.proofs.ServiceLemmas.{found_before, live_before, size_fits, told_before}
use Rattle.forward_core.proofs.fabric.Fabric.answer.Goals as goal

pub answer_sends-requires-clause-live : goal.answer_sends-requires-clause-live
answer_sends-requires-clause-live c =
    live_before c.before-2.result c.args.self.now.state c.args.to.s_id (s_id (caught_of c.args.arrived.now)) c.before-2.ensures.is.state (ap (λ (x : Asker). x.s_id) c.requires.rests.1) c.requires.rests.0.live

pub answer_sends-requires-clause-answer : goal.answer_sends-requires-clause-answer
answer_sends-requires-clause-answer c = λ b at.
    let S = c.args.self.now.state in
    let caught = caught_of c.args.arrived.now in
    let found = found_before c.before-2.result S c.args.to.s_id (s_id caught) b c.before-2.ensures.is.state (ap (λ (x : Asker). x.s_id) c.requires.rests.1) at in
    (ask_of caught, told_before c.before-2.result S c.args.self.now.settings b (ask_of caught) c.args.tell.now c.before-2.ensures.is.config c.before-2.ensures.is.state (c.requires.rests.0.told b found))

pub answer_sends-requires-clause-asked : goal.answer_sends-requires-clause-asked
answer_sends-requires-clause-asked c = λ b at.
    let found = found_before c.before-2.result c.args.self.now.state c.args.to.s_id (s_id (caught_of c.args.arrived.now)) b c.before-2.ensures.is.state (ap (λ (x : Asker). x.s_id) c.requires.rests.1) at in
    sym (ap (λ o. unwrap_or o 2112) (c.requires.rests.0.server b found))

pub answer_sends-requires-clause-size : goal.answer_sends-requires-clause-size
answer_sends-requires-clause-size c =
    size_fits (s_id (caught_of c.args.arrived.now)) c.args.self.now.state.tables.ports c.args.size c.before-2.ensures.sizes c.requires.rests.0.live c.requires.rests.0.server

pub keep_frame-requires : goal.keep_frame-requires
keep_frame-requires c =
    let F = c.args.self.now in
    let frame = c.args.arrived.now in
    let caught = caught_of frame in
    let told = λ (b : LivePort) (at : port_at c.args.to.s_id c.before-2.result.roster.now.tables.ports ≡ Some b).
    let found = found_before c.before-2.result F.state c.args.to.s_id (s_id caught) b c.before-2.ensures.is.state (ap (λ (x : Asker). x.s_id) c.requires.rests.1) at in
    told_before c.before-2.result F.state F.settings b (ask_of caught) c.args.tell.now c.before-2.ensures.is.config c.before-2.ensures.is.state (c.requires.rests.0.told b found) in
    sent_as c.before-2.result F frame _ _ _ c.in_ok-sends.sends c.before-2.ensures.is refl refl (c.in_ok-sends.ensures (length F.events) caught c.requires.rests.1 told)
