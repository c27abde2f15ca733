use Rattle.std.proofs.Common.{[], ◌∷◌, ◌++◌, ◌∙◌, ap}
use Rattle.fab_roster.specs.Roll.{addresses_of}
use Rattle.fab_roster.proofs.Lookups.{found_login}
use Rattle.fab_sending.specs.Counting.{with_changes}
use Rattle.fab_sending.specs.Notices.{told_of_name}
use Rattle.fab_sending.proofs.Counted.{told_of_found}
use Rattle.fab_sending.proofs.changing.logout_changes.Goals as goal

pub returns : goal.returns
returns c =
    told_of_found c.args.before.now.config.now c.args.before.now.roster.now.tables c.now-moment.result c.args.before.now.rscns c.args.address (c.args.address ∷ []) c.in-Some.login.now c.empty-outs.result c.tell_of.new.outs
    c.in-Some.ensures c.now-moment.ensures c.empty-outs.ensures
    (c.in_ok-tell_of.ensures
    ∙ ap (λ l. with_changes c.now-moment.result c.args.before.now.rscns c.empty-outs.result (told_of_name c.args.before.now.config.now c.args.before.now.roster.now.tables l c.args.address c.in-Some.login.now.name))
    (ap addresses_of (c.in_ok-push.ensures.ok ∙ ap (λ l. l ++ c.in-Some.login.now ∷ []) c.empty-ended.ensures)
    ∙ ap (λ a. a ∷ []) (found_login c.args.address c.args.before.now.roster.now.tables.ports c.in-Some.login.now c.in-Some.ensures).0))
