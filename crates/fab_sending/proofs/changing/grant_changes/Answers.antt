use Rattle.std.proofs.Common.{◌∙◌, ap}
use Rattle.fab_policy.specs.Free.{Request}
use Rattle.fab_roster.specs.Roll.{addresses_of}
use Rattle.fab_sending.specs.Counting.{with_changes}
use Rattle.fab_sending.specs.Notices.{told_of_name}
use Rattle.fab_sending.proofs.Counted.{granted_told}
use Rattle.fab_sending.proofs.changing.grant_changes.Goals as goal

pub returns : goal.returns
returns c = λ port caught is.
    let b = c.args.before.now in
    granted_told b.config.now b.roster.now.tables c.now-moment.result b.rscns port caught c.args.grant.now c.empty-outs.result c.tell_of_ends.new.outs c.tell_of.new.outs
    c.now-moment.ensures c.empty-outs.ensures is c.in_ok-tell_of_ends.ensures
    (c.in_ok-tell_of.ensures ∙ ap (λ (r : Request). with_changes c.now-moment.result b.rscns c.tell_of_ends.new.outs (told_of_name b.config.now b.roster.now.tables (addresses_of c.args.grant.now.ended.now) c.args.grant.now.address r.name)) c.request.view_is)
