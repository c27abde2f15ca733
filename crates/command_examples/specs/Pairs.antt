-- `convert` of a pcapng file without a packet and of one with a packet, and `migrate` of an empty journal.
use Rattle.std.specs.Prelude.{◌≡◌, ℕ, ◌+◌, false, List, [], ◌∷◌, ◌++◌, length, codes, Some, String, refl}
use Rattle.std.specs.declared.alloc.Global.{Global}
use Rattle.std.proofs.Common.{lit≤}
use Rattle.pcapng_file.specs.Block as block
use Rattle.pcapng_file.specs.File as file
use Rattle.pcapng_file.specs.declared.NgRecord.{NgRecord}
use Rattle.pcapng_file.proofs.LawLemmas.{Read, read_is_file}
use Rattle.fab_migrate.specs.Old.{IsOld}
use Rattle.fabric_tool.specs.Command.{PairNames, Convert, Migrate, command}
use Rattle.fabric_tool.specs.Inputs.{LIMITS, HasPackets}
use Rattle.fabric_tool.specs.Statuses.{IsComplete, IsNamed}
use Rattle.fabric_tool.specs.declared.outcome.Outcome.TheVariants as ends
use Rattle.command_examples.specs.Store.{File, holding, said, quiet}

abbrev pub pair : PairNames
pair = record { from = codes "OLD"; to = codes "NEW" }

-- a section header, and nothing behind it
abbrev pub SECTION : List ℕ
SECTION =
    0x0a ∷ 0x0d ∷ 0x0d ∷ 0x0a ∷ 28 ∷ 0 ∷ 0 ∷ 0 ∷ 0x4d ∷ 0x3c ∷ 0x2b ∷ 0x1a ∷ 1 ∷ 0 ∷ 0 ∷ 0 ∷ 0xff ∷ 0xff ∷ 0xff ∷ 0xff ∷ 0xff ∷ 0xff ∷ 0xff ∷ 0xff ∷
    28 ∷ 0 ∷ 0 ∷ 0 ∷ []

abbrev pub SECTIONS : List File
SECTIONS = record { name = codes "OLD"; bytes = SECTION } ∷ []

-- the same, an interface of Ethernet, and a packet of it at 200 milliseconds with 4 bytes of 60
abbrev pub WITH_PACKET : List ℕ
WITH_PACKET =
    SECTION
    ++ 1 ∷ 0 ∷ 0 ∷ 0 ∷ 20 ∷ 0 ∷ 0 ∷ 0 ∷ 1 ∷ 0 ∷ 0 ∷ 0 ∷ 0 ∷ 0 ∷ 0 ∷ 0 ∷ 20 ∷ 0 ∷ 0 ∷ 0 ∷ []
    ++ 6 ∷ 0 ∷ 0 ∷ 0 ∷ 36 ∷ 0 ∷ 0 ∷ 0 ∷ 0 ∷ 0 ∷ 0 ∷ 0 ∷ 0 ∷ 0 ∷ 0 ∷ 0 ∷ 0x40 ∷ 0x0d ∷ 3 ∷ 0 ∷ 4 ∷ 0 ∷ 0 ∷ 0 ∷ 60 ∷ 0 ∷ 0 ∷ 0 ∷ 0x0e ∷ 0xfc ∷ 0 ∷ 1 ∷ 36 ∷ 0 ∷ 0 ∷ 0 ∷ []

abbrev pub PACKETS : List File
PACKETS = record { name = codes "OLD"; bytes = WITH_PACKET } ∷ []

abbrev pub packet : NgRecord
packet = record { moment = 200; caught = record { bytes = 0x0e ∷ 0xfc ∷ 0 ∷ 1 ∷ []; whole = false }; original = 60; face = 0 }

-- what is read of bytes is what they hold
section_read : Read LIMITS file.before_all [] SECTION
unfolding file.step_of block.head_read block.body_read
section_read = read_is_file (length SECTION + 1) LIMITS 0 file.before_all SECTION [] refl

pub packet_read : Read LIMITS file.before_all (packet ∷ []) WITH_PACKET
unfolding file.step_of block.head_read block.body_read block.entries
packet_read = read_is_file (length WITH_PACKET + 1) LIMITS 0 file.before_all WITH_PACKET (packet ∷ []) refl

no_packets : HasPackets (holding SECTIONS) (codes "OLD") []
no_packets = record { bytes = SECTION; file = refl; is = section_read.file; within = (section_read.bytes, section_read.frames) }

one_packet : HasPackets (holding PACKETS) (codes "OLD") (packet ∷ [])
one_packet = record { bytes = WITH_PACKET; file = refl; is = packet_read.file; within = (packet_read.bytes, packet_read.frames) }

-- an empty file is a journal of format 1 without an entry
abbrev pub OLD : List File
OLD = record { name = codes "OLD"; bytes = [] } ∷ []

is_old : IsOld [] []
is_old = record { spelled = refl; come = tt }

module _ (words : List (String Global)) where
  pub convert_is_named : command words ≡ Some (Convert pair) → IsNamed words (ends.Converted 0) (holding SECTIONS) (holding SECTIONS) (said []) (said [])
  unfolding file.ng_read file.step_of block.head_read block.body_read
  convert_is_named is = record { k = Convert pair; is = is; told = refl; says = (SECTION, refl, refl); quiet = quiet (Convert pair) SECTIONS SECTIONS [] [] }

  pub convert_is_complete : command words ≡ Some (Convert pair) → IsComplete words (holding SECTIONS) (holding SECTIONS) (said []) (said [])
  convert_is_complete is = record { k = Convert pair; is = is; forms = record { told = refl; packets = []; input = no_packets }; quiet = quiet (Convert pair) SECTIONS SECTIONS [] [] }

  pub packet_is_named : command words ≡ Some (Convert pair) → IsNamed words (ends.Converted 1) (holding PACKETS) (holding PACKETS) (said []) (said [])
  unfolding file.ng_read file.step_of block.head_read block.body_read block.entries
  packet_is_named is = record { k = Convert pair; is = is; told = refl; says = (WITH_PACKET, refl, refl); quiet = quiet (Convert pair) PACKETS PACKETS [] [] }

  pub packet_is_complete : command words ≡ Some (Convert pair) → IsComplete words (holding PACKETS) (holding PACKETS) (said []) (said [])
  packet_is_complete is = record { k = Convert pair; is = is; forms = record { told = refl; packets = packet ∷ []; input = one_packet }; quiet = quiet (Convert pair) PACKETS PACKETS [] [] }

  pub migrate_is_complete : command words ≡ Some (Migrate pair) → IsComplete words (holding OLD) (holding OLD) (said []) (said [])
  migrate_is_complete is = record { k = Migrate pair; is = is; forms = record { told = refl; bytes = []; lines = []; file = refl; within = lit≤ tt; is = is_old }; quiet = quiet (Migrate pair) OLD OLD [] [] }

  pub migrate_is_named : command words ≡ Some (Migrate pair) → IsNamed words (ends.Migrated 0) (holding OLD) (holding OLD) (said []) (said [])
  migrate_is_named is = record { k = Migrate pair; is = is; told = refl; says = ([], refl, (lit≤ tt, [], is_old, refl)); quiet = quiet (Migrate pair) OLD OLD [] [] }
