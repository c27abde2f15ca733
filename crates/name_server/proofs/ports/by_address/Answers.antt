use Rattle.std.proofs.Common.{◌==◌, ◌∙◌, ap, sym, refl}
use Rattle.std.specs.Option.{option_copied}
use Rattle.name_server.proofs.SeenLemmas.{known_if, find-known}
use Rattle.name_server.proofs.ports.by_address.Goals as goal

pub returns-in-Some : goal.returns-in-Some
returns-in-Some c =
    c.with_entry.ensures
    ∙ ap (known_if c.args.registry.now.entries) (sym (ap option_copied c.in-Some.is) ∙ c.find_at.ensures)
    ∙ sym (find-known (λ p. p.address == c.args.address) (λ s. s.address == c.args.address) (λ s e. refl) c.args.registry.now.entries c.args.seen.now c.requires.entered)

pub returns-in-None : goal.returns-in-None
returns-in-None c =
    ap (known_if c.args.registry.now.entries) (sym (ap option_copied c.in-None.is) ∙ c.find_at.ensures)
    ∙ sym (find-known (λ p. p.address == c.args.address) (λ s. s.address == c.args.address) (λ s e. refl) c.args.registry.now.entries c.args.seen.now c.requires.entered)
