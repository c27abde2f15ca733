use Rattle.std.proofs.Common.{◌≡◌, ◌+◌, ◌++◌, map, take}
use Rattle.fab_policy.specs.Growing.{records_to}
use Rattle.fab_pages.specs.Pages.{GoesOn, sent_by}
use Rattle.fab_pages.proofs.encoders.write_port.Given as goal

abbrev pub invariant-loop-index : goal.invariant-loop-index
invariant-loop-index l =
    (l.page.items ≡ l.fn.page.items ++ records_to (l.place + 1) (map (sent_by l.sendings) (take l.index l.sendings.drained.now.outs)))
    × GoesOn l.fn.page.items l.page.items
