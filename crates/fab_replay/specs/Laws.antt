-- The laws of the layers below on which a check rests. No public clause cites this module.
use Rattle.window_records.specs.Keeping.{KeepsJust}
use Rattle.window_records.specs.Laws.{LooksAhead, NoneIsLeft, ReadIsAll, ReadIsBelow, WindowMoves}

pub record Laws : Type 0 where
  -- what a stop keeps
  pub keeps_just : KeepsJust
  -- the looks to come
  pub looks_ahead : LooksAhead
  pub none_left : NoneIsLeft
  -- what was read
  pub moves : WindowMoves
  pub read_below : ReadIsBelow
  pub read_all : ReadIsAll
