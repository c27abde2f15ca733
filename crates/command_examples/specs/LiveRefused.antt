-- What refuses `live`: a block, a limit on bytes, a packet of no port, and one more than six hours behind the first.
use Rattle.std.specs.Prelude.{ℕ, ◌+◌, false, List, [], ◌∷◌, ◌++◌, length, Some, refl}
use Rattle.std.proofs.Common.{arith, lit≤, lit<}
use Rattle.std.proofs.lemmas.Bool.{true≢false}
use Rattle.pcap_file.specs.declared.fault.LimitKind.TheVariants as kinds
use Rattle.pcapng_file.specs.Block as block
use Rattle.pcapng_file.specs.File as pcapng
use Rattle.pcapng_file.specs.declared.NgRecord.{NgRecord}
use Rattle.pcapng_file.specs.declared.fault.NgError.TheVariants as errors
use Rattle.pcapng_file.specs.declared.fault.NgLimit.TheVariants as limits
use Rattle.pcapng_file.specs.declared.fault.NgWhy.TheVariants as ng
use Rattle.pcapng_file.proofs.LawLemmas.{Read, read_is_file}
use Rattle.fab_live.specs.Arriving.{arrived, AllFaces, IsInSpan}
use Rattle.fab_live.specs.Live.{Begins, BeginsWithin}
use Rattle.pcapng_file.specs.Stream.{Stops}
use Rattle.fabric_tool.specs.Command.{Live}
use Rattle.fabric_tool.specs.Inputs.{LIMITS}
use Rattle.fabric_tool.specs.Statuses.{Says}
use Rattle.fabric_tool.specs.declared.outcome.Outcome.TheVariants as ends
use Rattle.fabric_tool.proofs.StreamLemmas.{blocks_parts}
use Rattle.command_examples.specs.Faulty.{NO_CONFIG, missing, has_fault}
use Rattle.command_examples.specs.Living.{port, with_stream, has_config}
use Rattle.command_examples.specs.Pairs.{SECTION, WITH_PACKET, packet}
use Rattle.command_examples.specs.PairsRefused.{HUGE}
use Rattle.command_examples.specs.Store.{K, holding}

pub live_says_config : Says (Live port) (holding NO_CONFIG) (ends.Config missing)
live_says_config = has_fault

-- ---- a block

-- an empty stream has no section
pub live_says_block : Says (Live port) (holding (with_stream [])) (ends.BadStream 0 ng.Cut)
unfolding pcapng.step_of
live_says_block = record {
  settings = K;
  config = has_config [];
  bytes = [];
  stream = refl;
  packets = [];
  faces = tt;
  span = tt;
  why = record { section = pcapng.before_all; rest = []; begins = (0, (refl, refl, refl)); bytes = lit≤ tt; frames = lit≤ tt; step = refl };
}

pub live_says_bytes : Says (Live port) (holding (with_stream HUGE)) (ends.Limit kinds.Bytes)
unfolding pcapng.step_of block.head_read
live_says_bytes = record {
  settings = K;
  config = has_config HUGE;
  bytes = HUGE;
  stream = refl;
  packets = [];
  faces = tt;
  span = tt;
  why = record { section = pcapng.before_all; rest = HUGE; begins = (0, (refl, refl, refl)); bytes = lit≤ tt; frames = lit≤ tt; step = refl };
}

-- any stream whose packets pass the limit on frames
pub live_says_frames : (packets : List NgRecord) (bytes : List ℕ) → AllFaces 1 packets → IsInSpan K (arrived 0 packets) → Stops packets bytes LIMITS (errors.Limit limits.Frames) → Says (Live port) (holding (with_stream bytes)) (ends.Limit kinds.Frames)
live_says_frames packets bytes faces span stops = record { settings = K; config = has_config bytes; bytes = bytes; stream = refl; packets = packets; faces = faces; span = span; why = stops }

-- ---- a packet

-- a stream of these packets, which is read to its end
within : (packets : List NgRecord) (bytes : List ℕ) → Read LIMITS pcapng.before_all packets bytes → BeginsWithin packets bytes LIMITS
within packets bytes read =
    let parts = blocks_parts read.file.0 pcapng.before_all packets bytes read.file.1 in
    record { section = parts.0; rest = []; begins = (read.file.0, parts.2); bytes = let e = read.bytes in omega (arith, e); frames = read.frames }

abbrev INTERFACE : List ℕ
INTERFACE = 1 ∷ 0 ∷ 0 ∷ 0 ∷ 20 ∷ 0 ∷ 0 ∷ 0 ∷ 1 ∷ 0 ∷ 0 ∷ 0 ∷ 0 ∷ 0 ∷ 0 ∷ 0 ∷ 20 ∷ 0 ∷ 0 ∷ 0 ∷ []

-- a packet of the second interface
abbrev pub SECOND_FACE : List ℕ
SECOND_FACE =
    SECTION ++ INTERFACE ++ INTERFACE
    ++ 6 ∷ 0 ∷ 0 ∷ 0 ∷ 32 ∷ 0 ∷ 0 ∷ 0 ∷ 1 ∷ 0 ∷ 0 ∷ 0 ∷ 0 ∷ 0 ∷ 0 ∷ 0 ∷ 0x40 ∷ 0x0d ∷ 3 ∷ 0 ∷ 0 ∷ 0 ∷ 0 ∷ 0 ∷ 60 ∷ 0 ∷ 0 ∷ 0 ∷ 32 ∷ 0 ∷ 0 ∷ 0 ∷ []

abbrev of_second : NgRecord
of_second = record { moment = 200; caught = record { bytes = []; whole = false }; original = 60; face = 1 }

second_read : Read LIMITS pcapng.before_all (of_second ∷ []) SECOND_FACE
unfolding pcapng.step_of block.head_read block.body_read block.entries
second_read = read_is_file (length SECOND_FACE + 1) LIMITS 0 pcapng.before_all SECOND_FACE (of_second ∷ []) refl

pub live_says_no_port : Says (Live port) (holding (with_stream SECOND_FACE)) (ends.NoPort 1)
live_says_no_port = record {
  settings = K;
  config = has_config SECOND_FACE;
  bytes = SECOND_FACE;
  stream = refl;
  packets = [];
  faces = tt;
  span = tt;
  why = ((pcapng.before_all, SECOND_FACE, (0, (refl, refl, refl))), of_second, within (of_second ∷ []) SECOND_FACE second_read, refl, lit≤ tt);
}

-- behind a packet one that comes more than six hours later
abbrev pub LATE : List ℕ
LATE = 6 ∷ 0 ∷ 0 ∷ 0 ∷ 32 ∷ 0 ∷ 0 ∷ 0 ∷ 0 ∷ 0 ∷ 0 ∷ 0 ∷ 5 ∷ 0 ∷ 0 ∷ 0 ∷ 0x80 ∷ 0xf2 ∷ 0x7b ∷ 7 ∷ 0 ∷ 0 ∷ 0 ∷ 0 ∷ 60 ∷ 0 ∷ 0 ∷ 0 ∷ 32 ∷ 0 ∷ 0 ∷ 0 ∷ []

abbrev late : NgRecord
late = record { moment = 21600400; caught = record { bytes = []; whole = false }; original = 60; face = 0 }

late_read : Read LIMITS pcapng.before_all (packet ∷ late ∷ []) (WITH_PACKET ++ LATE)
unfolding pcapng.step_of block.head_read block.body_read block.entries
late_read = read_is_file (length (WITH_PACKET ++ LATE) + 1) LIMITS 0 pcapng.before_all (WITH_PACKET ++ LATE) (packet ∷ late ∷ []) refl

begins : Begins (packet ∷ []) (WITH_PACKET ++ LATE)
unfolding block.entries
begins = (
  record { order = Some false; faces = block.no_interface ∷ [] },
  LATE,
  (
    3,
    (
      (refl, (refl, (refl, (refl, tt)))),
      (refl, (refl, (refl, tt))),
      packet ∷ [],
      refl,
      (
        (refl, (refl, (refl, (refl, tt)))),
        (refl, (refl, (refl, tt))),
        packet ∷ [],
        refl,
        (
          (refl, (refl, (refl, (refl, tt)))),
          (refl, (refl, (refl, (refl, (refl, (refl, (refl, (refl, (refl, tt))))))))),
          [],
          refl,
          (refl, refl, refl),
        ),
      ),
    ),
  ),
)

pub live_says_span : Says (Live port) (holding (with_stream (WITH_PACKET ++ LATE))) (ends.Limit kinds.Span)
live_says_span = record {
  settings = K;
  config = has_config (WITH_PACKET ++ LATE);
  bytes = WITH_PACKET ++ LATE;
  stream = refl;
  packets = packet ∷ [];
  faces = (lit< tt, tt);
  span = (refl, tt);
  why = (begins, late, within (packet ∷ late ∷ []) (WITH_PACKET ++ LATE) late_read, lit< tt, λ span. true≢false span.1.0);
}
