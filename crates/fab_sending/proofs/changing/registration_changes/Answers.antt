use Rattle.std.proofs.Common.{[], ◌∙◌, ap, sym}
use Rattle.std.specs.Option.{option_copied}
use Rattle.ct_messages.specs.Ask.{view}
use Rattle.ct_messages.specs.Server as server
use Rattle.fab_policy.specs.State.{now_of, port_at}
use Rattle.fab_roster.specs.Roll.{addresses_of}
use Rattle.fab_sending.specs.Counting.{with_changes}
use Rattle.fab_sending.specs.Messages.{at_moment, changes}
use Rattle.fab_sending.specs.Notices.{told_of_each, told_of_name}
use Rattle.fab_sending.proofs.Counted.{passes, told_of_found}
use Rattle.fab_sending.proofs.changing.registration_changes.Goals as goal

pub returns : goal.returns
returns c =
    let T = c.args.before.now.roster.now.tables in
    told_of_found c.args.before.now.config.now c.args.before.now.roster.now.tables c.now-moment.result c.args.before.now.rscns c.args.address [] c.unwrap.result.now c.empty-outs.result c.tell_of.new.outs
    (sym (ap option_copied c.unwrap.ensures) ∙ c.by_address.ensures) c.now-moment.ensures c.empty-outs.ensures
    (c.in_ok-tell_of.ensures
    ∙ ap (λ l. with_changes c.now-moment.result c.args.before.now.rscns c.empty-outs.result (told_of_name c.args.before.now.config.now c.args.before.now.roster.now.tables l c.args.address c.unwrap.result.now.name)) (ap addresses_of c.empty-nobody.ensures))
    ∙ ap (λ ps. at_moment (now_of T) (changes c.args.before.now.rscns (told_of_each c.args.before.now.config.now T [] ps)))
    (passes (λ p. server.has_changed p.values (server.after p.node (view c.args.ask.now) p.values)) c.is_noticed.result (port_at c.args.address T.ports) (λ p e. c.is_noticed.ensures p e) c.if-not-is_noticed.false)
