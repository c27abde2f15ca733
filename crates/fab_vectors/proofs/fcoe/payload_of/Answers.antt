use Rattle.std.proofs.Common.{◌∙◌, sym, ap, subst, take, arith}
use Rattle.fc_frames.specs.Frame.{IsPayload}
use Rattle.fab_vectors.specs.Frames.{COUNTED, payload_length}
use Rattle.fab_vectors.proofs.NumberedLemmas.{counted_size, payload_is, payload_fits}
use Rattle.fab_vectors.proofs.fcoe.payload_of.Goals as goal

pub split_at-requires : goal.split_at-requires
split_at-requires c = omega (arith, counted_size c.args.counted.now COUNTED c.requires)

pub split_at-requires-2 : goal.split_at-requires-2
split_at-requires-2 c = omega (arith, counted_size c.args.counted.now COUNTED c.requires, c.split_at.ensures.back_len)

pub returns-clause-bytes : goal.returns-clause-bytes
returns-clause-bytes c =
    c.split_at-2.ensures.front ∙ ap (take (payload_length c.args.drawn)) c.split_at.ensures.back ∙ payload_is c.args.drawn COUNTED c.args.counted.now c.requires (omega arith)

pub returns-clause-payload : goal.returns-clause-payload
returns-clause-payload c =
    subst IsPayload
    (sym (c.split_at-2.ensures.front ∙ ap (take (payload_length c.args.drawn)) c.split_at.ensures.back ∙ payload_is c.args.drawn COUNTED c.args.counted.now c.requires (omega arith)))
    (payload_fits c.args.drawn)
