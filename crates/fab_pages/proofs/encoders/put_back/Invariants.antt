use Rattle.std.proofs.Common.{vec_len}
use Rattle.fab_pages.specs.Pages.{items_in}
use Rattle.fab_pages.proofs.EncoderLemmas.{AreLeft}
use Rattle.fab_pages.proofs.encoders.put_back.Given as goal

abbrev pub invariant-loop-encoder : goal.invariant-loop-encoder
invariant-loop-encoder l = AreLeft l.fn.encoders.items l.encoders.items (items_in l.fn.pages) (items_in l.pages) l.refused

abbrev pub decreases-loop-encoder : goal.decreases-loop-encoder
decreases-loop-encoder l = vec_len l.encoders
