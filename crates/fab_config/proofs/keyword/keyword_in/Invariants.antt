use Rattle.std.proofs.Common.{◌≡◌, drop}
use Rattle.fab_config.specs.Text.{keyword_in}
use Rattle.fab_config.proofs.keyword.keyword_in.Given as goal

abbrev pub invariant-loop-keyword : goal.invariant-loop-keyword
invariant-loop-keyword l = keyword_in (drop l.keyword-index l.keywords) l.word ≡ keyword_in l.keywords l.word
