use Rattle.std.proofs.Common.{refl}
use Rattle.ct_messages.proofs.Appends.{zeros_put}
use Rattle.ct_messages.proofs.bytes.put_zeros.Goals as goal

pub returns-clause-bytes : goal.returns-clause-bytes
returns-clause-bytes c = zeros_put c.extend_from_slice.result _ c.args.bytes.now.items _ c.args.count c.requires refl c.extend_from_slice.ensures.items
