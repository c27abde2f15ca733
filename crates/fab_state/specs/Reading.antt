-- Why a text is that of no seam.
use Rattle.std.specs.Prelude.{◌≡◌, ℕ, ◌+◌, ◌<◌, ◌==◌, List, [], ◌∷◌, length, if◌then◌else◌}
use Rattle.fab_policy.specs.Text.{LINE_FEED}
use Rattle.fab_pieces.specs.Seam.{Seam, seam_text}
use Rattle.fab_state.specs.Readable.{IsReadable}
use Rattle.fab_state.specs.declared.exact.SeamError.{SeamError}
use Rattle.fab_state.specs.declared.exact.SeamError.TheVariants as error
use Rattle.fab_state.specs.declared.exact.SeamWhy.{SeamWhy}
use Rattle.fab_state.specs.declared.exact.SeamWhy.TheVariants.{Long, Spelling}

-- 1 for a line feed
abbrev pub line_feeds : ℕ → ℕ
line_feeds b = if b == LINE_FEED then 1 else 0

-- the first line in which two texts differ, counted from 1
abbrev pub other_line : List ℕ → List ℕ → ℕ
other_line [] m = 1
other_line (x ∷ l) [] = 1
other_line (x ∷ l) (y ∷ m) = if x == y then line_feeds y + other_line l m else 1

-- The text is too long. Or it is the text of no seam of this pool and these ports, and the line is the first in which it differs
-- from the text of a seam, of that which it seems to say.
abbrev pub IsRefused : ℕ → ℕ → ℕ → List ℕ → ℕ → SeamWhy → Type 0
IsRefused first count n text line Long = (line ≡ 0) × (16777216 < length text)
IsRefused first count n text line Spelling =
    ((s : Seam) → IsReadable first count n s → text ≡ seam_text s → ⊥) × ((t : Seam) × (line ≡ other_line (seam_text t) text))

abbrev pub Refuses : ℕ → ℕ → ℕ → List ℕ → SeamError → Type 0
Refuses first count n text (error.Fault f) = IsRefused first count n text f.line f.why
Refuses first count n text error.Memory = Unit {0}
