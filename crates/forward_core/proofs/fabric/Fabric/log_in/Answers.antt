use Rattle.std.proofs.Common.{◌≡◌, ◌==◌, ◌∙◌, false, length, map, refl, ap, sym, subst}
use Rattle.std.specs.List.{list_any}
use Rattle.fab_judge.specs.Judged.{ended_by}
use Rattle.heard_frames.specs.Heard.{is_flogi, sender}
use Rattle.fab_policy.specs.Standing.{Contents}
use Rattle.fab_policy.specs.State.{Tables}
use Rattle.fab_roster.specs.Roll.{login_of}
use Rattle.forward_core.specs.Arrived.{caught_of}
use Rattle.forward_core.specs.Carrying.{left_to}
use Rattle.forward_core.proofs.FrameLemmas.{sent_as}
use Rattle.forward_core.proofs.GrantedLemmas.{ends_turned}
use Rattle.forward_core.proofs.ServiceLemmas.{asks, grant_before}
use Rattle.forward_core.proofs.fabric.Fabric.log_in.Goals as goal

pub keep_frame-requires : goal.keep_frame-requires
keep_frame-requires c =
    let F = c.args.self.now in
    let T = F.state.tables in
    let frame = c.args.arrived.now in
    let caught = caught_of frame in
    let rests = c.requires.judged.rests in
    let is = (asks F.settings T frame c.args.login.now rests).request in
    sent_as c.before-2.result F frame _ _ _ c.in_ok-sends.sends c.before-2.ensures.is refl refl (c.in_ok-sends.ensures (length F.events) caught (grant_before c.before-2.result F.state frame.port caught _ c.before-2.ensures.is.state (record {
      request = is;
      accept = record { to = rests.to_is; kind = c.requires.judged.values; several = rests.several_is };
      ended = rests.ended_is ∙ ap (λ r. ended_by r T) is ∙ ap (map login_of) (ends_turned (sender frame.port caught) (is_flogi caught) T.ports);
    })))

pub grant-requires-clause-name : goal.grant-requires-clause-name
grant-requires-clause-name c =
    let r = c.args.login.now.request in
    subst (λ (T : Tables). list_any (λ q. q.name == r.name) (left_to r T) ≡ false) (sym (ap (λ (K : Contents). K.state.tables) c.self.view_is ∙ c.in_ok-keep_frame.ensures.ok.keeps.tables)) c.requires.judged.rests.fresh
