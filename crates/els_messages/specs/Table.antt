-- The table of link services (FC-LS-2, "Extended Link Services"), under the standard's mnemonics. Each definition has
-- a line for each row, in the same order.
use Rattle.std.specs.Prelude.{ℕ, List, [], ◌∷◌, Option}
use Rattle.fab_base.specs.Keyed.{item_at}

pub data Command : Type 0 where
  -- F_Port login
  FLOGI : Command
  -- a further N_Port_ID
  FDISC : Command
  -- N_Port login
  PLOGI : Command
  -- accept
  LS_ACC : Command
  -- reject
  LS_RJT : Command
  -- logout
  LOGO : Command
  -- state change registration
  SCR : Command
  -- registered state change notification
  RSCN : Command

-- the code, the first byte of a payload
abbrev pub code : Command → ℕ
code FLOGI = 0x04
code FDISC = 0x51
code PLOGI = 0x03
code LS_ACC = 0x02
code LS_RJT = 0x01
code LOGO = 0x05
code SCR = 0x62
code RSCN = 0x61

-- the bytes of a payload with login parameters
abbrev pub LOGIN_BYTES : ℕ
LOGIN_BYTES = 116

-- the bytes that a payload has at least; an LS_ACC of LOGIN_BYTES or more has login parameters
abbrev pub least : Command → ℕ
least FLOGI = LOGIN_BYTES
least FDISC = LOGIN_BYTES
least PLOGI = LOGIN_BYTES
least LS_ACC = 4
least LS_RJT = 8
least LOGO = 16
least SCR = 8
least RSCN = 8

abbrev pub commands : List Command
commands = FLOGI ∷ FDISC ∷ PLOGI ∷ LS_ACC ∷ LS_RJT ∷ LOGO ∷ SCR ∷ RSCN ∷ []

-- the command that has this code, where the table has one
abbrev pub command_of : ℕ → Option Command
command_of byte = item_at code byte commands
