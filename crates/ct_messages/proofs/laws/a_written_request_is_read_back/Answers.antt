use Rattle.std.proofs.Common.{◌++◌}
use Rattle.ct_messages.specs.Ct.{written}
use Rattle.ct_messages.proofs.Decoding.{decoded-from_IsCt}
use Rattle.ct_messages.proofs.Spelled.{IsCt-written, IsCt-written_more}
use Rattle.ct_messages.proofs.laws.a_written_request_is_read_back.Goals as goal

pub returns-clause-stands : goal.returns-clause-stands
returns-clause-stands c = IsCt-written

pub returns-clause-read : goal.returns-clause-read
returns-clause-read c = λ ask can fit more. decoded-from_IsCt ask (written ask ++ more) (IsCt-written_more ask more can fit)
