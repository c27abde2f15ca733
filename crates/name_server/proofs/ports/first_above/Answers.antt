use Rattle.std.proofs.Common.{◌∙◌, ap, sym, nat_lt, slice_get}
use Rattle.std.proofs.lemmas.List.Folds.{find_at}
use Rattle.fab_base.proofs.SamenessLemmas.{unwrap_or-position}
use Rattle.name_server.specs.declared.seen.SeenPort.{SeenPort}
use Rattle.name_server.proofs.ports.first_above.Goals as goal

pub returns : goal.returns
returns c =
    let above = λ (s : SeenPort). nat_lt c.args.address s.address in
    c.at.ensures ∙ ap (slice_get c.args.seen.now) (c.place_above.ensures.place ∙ unwrap_or-position above c.args.seen.now) ∙ sym (find_at above c.args.seen.now)
