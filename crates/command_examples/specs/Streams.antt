-- Streams that end inside a block, or between two blocks.
use Rattle.std.specs.Prelude.{ℕ, false, List, [], ◌∷◌, ◌++◌, Some, refl}
use Rattle.std.proofs.Common.{lit≤}
use Rattle.pcap_file.specs.declared.Budget.{Budget}
use Rattle.pcapng_file.specs.Block as block
use Rattle.pcapng_file.specs.File as file
use Rattle.pcapng_file.specs.Stream.{Stops}
use Rattle.pcapng_file.specs.declared.fault.NgError.TheVariants as errors
use Rattle.pcapng_file.specs.declared.fault.NgWhy.TheVariants as why

-- a section header, and nothing behind it
abbrev pub SECTION : List ℕ
SECTION =
    0x0a ∷ 0x0d ∷ 0x0d ∷ 0x0a ∷ 28 ∷ 0 ∷ 0 ∷ 0 ∷ 0x4d ∷ 0x3c ∷ 0x2b ∷ 0x1a ∷ 1 ∷ 0 ∷ 0 ∷ 0 ∷ 0xff ∷ 0xff ∷ 0xff ∷ 0xff ∷ 0xff ∷ 0xff ∷ 0xff ∷ 0xff ∷
    28 ∷ 0 ∷ 0 ∷ 0 ∷ []

-- the first 9 bytes of an interface
abbrev pub PART : List ℕ
PART = 1 ∷ 0 ∷ 0 ∷ 0 ∷ 20 ∷ 0 ∷ 0 ∷ 0 ∷ 1 ∷ []

abbrev pub LIMITS : Budget
LIMITS = record { bytes = 100; frames = 1 }

-- a feeder that is stopped inside a block: the fault is told at the block's first byte
pub cut_inside : Stops [] (SECTION ++ PART) LIMITS (errors.Fault 28 why.Cut)
unfolding file.step_of block.head_read block.body_read
cut_inside = record {
  section = record { order = Some false; faces = [] };
  rest = PART;
  begins = (1, ((refl, (refl, (refl, (refl, tt)))), (refl, (refl, (refl, tt))), [], refl, (refl, refl, refl)));
  bytes = lit≤ tt;
  frames = lit≤ tt;
  step = refl;
}
