use Rattle.std.proofs.Common.{subst, sym}
use Rattle.std.specs.Str.{IsUtf8}
use Rattle.fab_state.proofs.ReadLemmas.{decimal_is_text}
use Rattle.fab_state.proofs.words.number_of.Goals as goal

pub returns-in-Err : goal.returns-in-Err
returns-in-Err c n small e = absurd (c.in-Err.ensures.cases.0 (subst IsUtf8 (sym e) (decimal_is_text n small)))
