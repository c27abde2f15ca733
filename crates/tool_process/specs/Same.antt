-- Which names lead to one real file, or to the standard output, by the devices and inodes to which they lead (POSIX, "sys/stat.h":
-- a file is named by `st_dev` and `st_ino` together).
use Rattle.std.specs.Prelude.{◌≡◌, ℕ, ◌<◌, Bool, true, false, if◌then◌else◌, ◌==◌, ◌&&◌, List, [], ◌∷◌, length, Option, Some, None, slice_get, String, string_bytes, codes}
use Rattle.std.specs.Str.{bytes_eq}
use Rattle.std.specs.Fs.{IsFile, IsDir}
use Rattle.std.specs.declared.alloc.Global.{Global}
use Rattle.std.specs.declared.fs.attrs.FileType.{FileType}
use Rattle.tool_process.specs.declared.same.Mix.{Mix}
use Rattle.tool_process.specs.declared.same.Mix.TheVariants as mix
use Rattle.tool_process.specs.declared.same.Spot.{Spot}
use Rattle.tool_process.specs.declared.same.Spot.TheVariants as spot

-- ---- where a name leads

-- what std says of the file that a name leads to, by the kind of its spot: a regular file, or neither that nor a folder
abbrev pub IsSpotOf : FileType → Spot → Type 0
IsSpotOf kind (spot.File device inode) = IsFile kind
IsSpotOf kind (spot.New device inode name) = ⊥
IsSpotOf kind (spot.Stream device inode) = ¬ IsFile kind × ¬ IsDir kind
IsSpotOf kind spot.Other = ¬ IsFile kind

-- Two names are one regular file: it is there, with one device and inode, or it would be made in one folder by one name.
abbrev pub are_one : Spot → Spot → Bool
are_one (spot.File d i) (spot.File e j) = d == e && i == j
are_one (spot.New d i m) (spot.New e j n) = d == e && i == j && bytes_eq (string_bytes m) (string_bytes n)
are_one _ _ = false

-- two names are one pipe, socket or terminal
abbrev pub are_one_stream : Spot → Spot → Bool
are_one_stream (spot.Stream d i) (spot.Stream e j) = d == e && i == j
are_one_stream _ _ = false

-- the first word of a command that is a file's name: not the number of a load, nor a node's start, MAC and names
abbrev pub first_name : List (String Global) → ℕ
first_name [] = 0
first_name (word ∷ words) =
    if bytes_eq (string_bytes word) (codes "make") then 2 else if bytes_eq (string_bytes word) (codes "enode") then 5 else 1

-- ---- what the names are to each other

-- the spots at two places are one file
abbrev pub AreOne : List Spot → ℕ → ℕ → Type 0
AreOne spots i j = (a b : Spot) → slice_get spots i ≡ Some a → slice_get spots j ≡ Some b → are_one a b ≡ true

-- no spot behind a place, and before another, is one file with that there
abbrev pub IsAlone : List Spot → ℕ → ℕ → Type 0
IsAlone spots i end = (j : ℕ) (a b : Spot) → i < j → j < end → slice_get spots i ≡ Some a → slice_get spots j ≡ Some b → are_one a b ≡ false

-- the next place at which the file of this one is named again
abbrev pub IsNextOne : List Spot → ℕ → Option ℕ → Type 0
IsNextOne spots i None = IsAlone spots i (length spots)
IsNextOne spots i (Some j) = (i < j) × (j < length spots) × AreOne spots i j × IsAlone spots i j

-- The first name that is one file with a later one, and the first such later name; or all are files of their own.
abbrev pub IsFirstPair : List Spot → Option (ℕ × ℕ) → Type 0
IsFirstPair spots None = (i : ℕ) → IsAlone spots i (length spots)
IsFirstPair spots (Some pair) = IsNextOne spots pair.0 (Some pair.1) × ((i : ℕ) → i < pair.0 → IsAlone spots i (length spots))

-- a name leads to the regular file that is the standard output
abbrev pub IsPrinted : Mix → Type 0
IsPrinted (mix.Printed i) = Unit {0}
IsPrinted other = ⊥

-- no name before this place leads to the standard output, whether that is a regular file or a stream
abbrev pub NonePrinted : List Spot → Spot → ℕ → Type 0
NonePrinted spots printed end =
    ((i : ℕ) (a : Spot) → i < end → slice_get spots i ≡ Some a → are_one a printed ≡ false)
    × ((i : ℕ) (a : Spot) → i < end → slice_get spots i ≡ Some a → are_one_stream a printed ≡ false)

-- The first name that leads to the standard output, which is a regular file or else a stream; or none does.
abbrev pub IsFirstPrinted : List Spot → Spot → Option Mix → Type 0
IsFirstPrinted spots printed None = NonePrinted spots printed (length spots)
IsFirstPrinted spots printed (Some (mix.Printed i)) = (a : Spot) × (slice_get spots i ≡ Some a) × (are_one a printed ≡ true) × NonePrinted spots printed i
IsFirstPrinted spots printed (Some (mix.Piped i)) = (a : Spot) × (slice_get spots i ≡ Some a) × (are_one_stream a printed ≡ true) × NonePrinted spots printed i
IsFirstPrinted spots printed (Some _) = ⊥

-- What names are that lead to these spots, beside a standard output that leads to another: a name of the standard output comes first,
-- then two names of one file.
abbrev pub IsMix : List Spot → Spot → Mix → Type 0
IsMix spots printed mix.Apart = NonePrinted spots printed (length spots) × IsFirstPair spots None
IsMix spots printed (mix.Two i j) = NonePrinted spots printed (length spots) × IsFirstPair spots (Some (i, j))
IsMix spots printed other = IsFirstPrinted spots printed (Some other)

-- Each word has its spot, and what is no name of a file has none.
pub record HasSpots (words : List (String Global)) (spots : List Spot) : Type 0 where
  pub count : length spots ≡ length words
  pub others : (i : ℕ) (a : Spot) → i < first_name words → slice_get spots i ≡ Some a → a ≡ spot.Other

-- What the file names among these words are to each other and to the standard output, by where they lead.
abbrev pub IsMixOf : List (String Global) → Spot → Mix → Type 0
IsMixOf words printed m = (spots : List Spot) × HasSpots words spots × IsMix spots printed m
