use Rattle.std.proofs.Common.{None, sym, ◌∙◌, ap, not}
use Rattle.std.specs.List.{find}
use Rattle.std.proofs.lemmas.List.{drop_all}
use Rattle.fip_codec.specs.Table.{named}
use Rattle.fip_codec.proofs.Present.{absent, find-hit, lacks-is}
use Rattle.fip_codec.proofs.reading.missing.Goals as goal

pub returns-then-not-has : goal.returns-then-not-has
returns-then-not-has c =
    let l = c.args.list.now in
    let hit = find-hit (absent l) c.required-wanted-items.result.now c.loop-wanted.wanted-index c.loop-wanted-test.true (ap not (sym c.has.ensures ∙ c.if-not-has.true)) in
    sym (lacks-is (named c.args.kind) l _ (sym c.loop-wanted.invariant ∙ hit))

pub returns : goal.returns
returns c =
    let l = c.args.list.now in
    let none = ap (find (absent l)) (drop_all c.loop-wanted.wanted-index c.required-wanted-items.result.now c.loop-wanted-test.false) in
    sym (lacks-is (named c.args.kind) l None (sym c.loop-wanted.invariant ∙ none))
