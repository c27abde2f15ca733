use Rattle.std.proofs.Common.{◌∙◌, ap, sym}
use Rattle.std.specs.Option.{option_copied}
use Rattle.name_server.proofs.SeenLemmas.{next-Some, next-None}
use Rattle.name_server.proofs.ports.next_to.Goals as goal

pub returns-in-Some : goal.returns-in-Some
returns-in-Some c =
    c.with_entry.ensures ∙ sym (next-Some c.args.address c.args.registry.now.entries c.args.seen.now c.requires.entered c.in-Some.port.now (sym (ap option_copied c.in-Some.is) ∙ c.first_above.ensures))

pub returns-in-None : goal.returns-in-None
returns-in-None c = c.least.ensures ∙ sym (next-None c.args.address c.args.registry.now.entries c.args.seen.now c.requires.entered (sym (ap option_copied c.in-None.is) ∙ c.first_above.ensures))
