use Rattle.std.proofs.Math.Facts.{Fits-lt-pow}
use Rattle.fab_base.proofs.LayoutLemmas.{all_bytes}
use Rattle.fab_base.proofs.lists.known_bytes.Goals as goal

pub returns-clause-bytes : goal.returns-clause-bytes
returns-clause-bytes c = all_bytes c.args.bytes.now (λ i. Fits-lt-pow (c.type_inv.bytes i))
