use Rattle.std.proofs.Common.{◌∙◌, ◌+◌, ◌<◌, ◌∷◌, ◌++◌, length, ap, sym, subst}
use Rattle.fip_snoop.specs.Snoop.{Remembers}
use Rattle.run_files.specs.Pages.{items_in, piece_at}
use Rattle.side_runs.specs.Copies.{copy_of}
use Rattle.side_runs.proofs.StepLemmas.{passes, pages_back}
use Rattle.side_runs.proofs.bridge.Bridge.pass.Goals as goal

pub returns : goal.returns
returns c =
    let rest = c.count.ensures.rest in
    let old = c.args.self.now in
    let found = c.args.found.now in
    let value = c.deref_mut.ensures.value in
    let way = c.in_ok-way.way in
    let back = pages_back old.pages c.count.new.self.pages c.deref_mut.result.now c.add_copies.new.pages rest.1 value c.in_ok-add_copies.ensures.count in
    passes c.args.port found old c.count.new.self way rest.0 back.0
    (λ w L h. c.in_ok-way.ensures.way w L h)
    (λ w L h. subst (Remembers w (record { port = c.args.port; caught = found.caught; way = way } ∷ L)) (sym rest.2) (c.in_ok-way.ensures.remembers w L h))
    c.count.ensures.passed c.count.ensures.dropped
    (λ q lt.
    ap (λ l. piece_at (items_in l) q) back.1 ∙ c.in_ok-add_copies.ensures.adds q (subst (λ l. q < length l) (sym value) lt)
    ∙ ap (λ l. piece_at (items_in l) q ++ copy_of (q + 1) found.moment found.caught.bytes way) value)
