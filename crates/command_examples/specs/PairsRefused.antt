-- What refuses `convert` and `migrate`: a block that is cut or too long, a frame before any tick, and files past a limit.
use Rattle.std.specs.Prelude.{◌≡◌, ℕ, ◌<◌, List, [], ◌∷◌, length, codes, None, Err, refl}
use Rattle.std.specs.Fmt as fmt
use Rattle.std.proofs.Common.{lit≤, lit<, ap, sym}
use Rattle.pcap_file.specs.declared.fault.LimitKind.TheVariants as kinds
use Rattle.pcapng_file.specs.Block as block
use Rattle.pcapng_file.specs.File as pcapng
use Rattle.pcapng_file.specs.declared.fault.NgError.TheVariants as errors
use Rattle.pcapng_file.specs.declared.fault.NgLimit.TheVariants as limits
use Rattle.pcapng_file.specs.declared.fault.NgWhy.TheVariants as ng
use Rattle.fab_policy.specs.declared.line.Line.TheVariants.{Frame}
use Rattle.fab_policy.specs.declared.verdict.Verdict.TheVariants.{Vlans}
use Rattle.fab_migrate.specs.Old.{HasFirstFault}
use Rattle.fab_migrate.specs.declared.old.OldWhy.TheVariants as olds
use Rattle.fabric_tool.specs.Command.{Convert, Migrate}
use Rattle.fabric_tool.specs.Inputs.{LIMITS, MOST_BYTES}
use Rattle.fabric_tool.specs.Pairs.{ended_by}
use Rattle.fabric_tool.specs.Statuses.{Says}
use Rattle.fabric_tool.specs.declared.outcome.Outcome.TheVariants as ends
use Rattle.command_examples.specs.Faulty.{file}
use Rattle.command_examples.specs.Pairs.{pair}
use Rattle.command_examples.specs.Store.{holding}

-- ---- `convert`

-- an empty file has no section
pub convert_says_block : Says (Convert pair) (holding (file (codes "OLD") [] ∷ [])) (ends.BadBlock 0 ng.Cut)
unfolding pcapng.ng_read pcapng.step_of block.head_read block.body_read
convert_says_block = ([], refl, refl)

-- the first 12 bytes of a section header of more than 1 GiB
abbrev pub HUGE : List ℕ
HUGE = 0x0a ∷ 0x0d ∷ 0x0d ∷ 0x0a ∷ 4 ∷ 0 ∷ 0 ∷ 0x40 ∷ 0x4d ∷ 0x3c ∷ 0x2b ∷ 0x1a ∷ []

pub convert_says_bytes : Says (Convert pair) (holding (file (codes "OLD") HUGE ∷ [])) (ends.Limit kinds.Bytes)
unfolding pcapng.ng_read pcapng.step_of block.head_read block.body_read
convert_says_bytes = (HUGE, refl, refl)

-- any file whose packets pass the limit on frames
pub convert_says_frames : (bytes : List ℕ) → pcapng.ng_read LIMITS bytes ≡ Err (errors.Limit limits.Frames) → Says (Convert pair) (holding (file (codes "OLD") bytes ∷ [])) (ends.Limit kinds.Frames)
convert_says_frames bytes is = (bytes, refl, ap ended_by (sym is))

-- ---- `migrate`

-- the line of a frame before any tick
abbrev pub EARLY : List ℕ
EARLY = codes "1 0 vlans\n"

early : HasFirstFault EARLY 1 olds.Tick
unfolding fmt.digits
early = record {
  before = [];
  rest = EARLY;
  spelled = refl;
  come = tt;
  numbered = refl;
  faulty = (Frame 1 0 Vlans None, [], (lit≤ tt, lit≤ tt, lit< tt, tt, tt), refl, λ may. may);
}

pub migrate_says_line : Says (Migrate pair) (holding (file (codes "OLD") EARLY ∷ [])) (ends.BadLine 1 olds.Tick)
migrate_says_line = (EARLY, refl, (lit≤ tt, early))

-- any journal past the limit
pub migrate_says_bytes : (journal : List ℕ) → MOST_BYTES < length journal → Says (Migrate pair) (holding (file (codes "OLD") journal ∷ [])) (ends.Limit kinds.Bytes)
migrate_says_bytes journal long = (journal, refl, (long, refl))
