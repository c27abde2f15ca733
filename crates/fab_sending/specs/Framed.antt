-- The frames of an answer of the name server, by ranges of its bytes.
use Rattle.std.specs.Prelude.{ℕ, ◌+◌, List, [], ◌∷◌}
use Rattle.fab_policy.specs.Replies.{Asker}
use Rattle.fab_sending.specs.declared.message.Out.{Out}
use Rattle.fab_sending.specs.declared.message.OutMessage.TheVariants as out
use Rattle.fc_frames.specs.Pieces.{piece_of}
use Rattle.fc_frames.specs.declared.Piece.{Piece}

-- a frame for each range, numbered from this one on
abbrev pub framed : ℕ → ℕ → Asker → List ℕ → ℕ → List Piece → List Out
framed port moment to l count [] = []
framed port moment to l count (p ∷ ranges) =
    record { port = port; moment = moment; message = out.Ct to count p.last (piece_of l p) } ∷ framed port moment to l (count + 1) ranges
