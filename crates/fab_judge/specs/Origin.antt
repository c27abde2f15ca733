-- A frame and where it came from.
use Rattle.std.specs.Prelude.{ℕ, Bool, false, ◌==◌, List, [], ◌∷◌}
use Rattle.fab_base.specs.declared.values.Caught.{Caught}
use Rattle.fip_codec.specs.declared.message.LoginKind.{LoginKind}
use Rattle.heard_frames.specs.Heard.{asked}
use Rattle.fab_policy.specs.Verdicts.{request_of}

pub record Origin : Type 0 where
  pub port : ℕ
  pub caught : Caught

-- the login of a frame is a FLOGI, by its descriptor
abbrev pub is_flogi_by : LoginKind → Caught → Bool
is_flogi_by kind caught = (request_of kind 0 caught (asked caught)).flogi

-- the first byte is this one
abbrev pub begins_with : ℕ → List ℕ → Bool
begins_with command [] = false
begins_with command (b ∷ _) = b == command
