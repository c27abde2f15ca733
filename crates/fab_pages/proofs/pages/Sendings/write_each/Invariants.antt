use Rattle.std.proofs.Common.{map, take}
use Rattle.fab_pages.specs.Pages.{Adds, GoOn, items_in, sent_by}
use Rattle.fab_pages.proofs.pages.Sendings.write_each.Given as goal

abbrev pub invariant-loop-index : goal.invariant-loop-index
invariant-loop-index l = Adds (map (sent_by l.self) (take l.index l.self.drained.now.outs)) (items_in l.fn.pages) (items_in l.pages) × GoOn (items_in l.fn.pages) (items_in l.pages)
