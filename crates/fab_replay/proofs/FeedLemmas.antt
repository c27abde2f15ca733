-- The first line of a text, byte by byte.
use Rattle.std.proofs.Common.{◌≡◌, ℕ, zero, suc, ◌<◌, ◌≤◌, true, false, eqb, List, [], ◌∷◌, ◌++◌, length, take, drop, get_or, refl, sym, ap, ◌∙◌, subst, arith}
use Rattle.std.specs.Prelude.{if◌then◌else◌}
use Rattle.std.proofs.lemmas.List.{append-nil}
use Rattle.fab_policy.specs.Text.{LINE_FEED}
use Rattle.fab_replay.specs.Lines.{behind_line, first_line}
use Rattle.fab_replay.proofs.ListLemmas.{rest_none}

-- what was passed has no line feed
pub record Passed (bytes : List ℕ) (end : ℕ) : Type 0 where
  pub within : end ≤ length bytes
  pub line : take end bytes ++ first_line (drop end bytes) ≡ first_line bytes
  pub behind : behind_line (drop end bytes) ≡ behind_line bytes

pub passed_none : (bytes : List ℕ) → Passed bytes 0
passed_none bytes = record { within = omega arith; line = refl; behind = refl }

pub passed_more : (bytes : List ℕ) (end next d : ℕ) → next ≡ suc end → Passed bytes end → end < length bytes → eqb (get_or bytes end d) LINE_FEED ≡ false → Passed bytes next
passed_more bytes end next d is h lt other = subst (Passed bytes) (sym is) (record {
  within = omega (arith, lt);
  line = (go bytes end lt other).0 ∙ h.line;
  behind = (go bytes end lt other).1 ∙ h.behind;
})
  where
    go : (bs : List ℕ) (n : ℕ) → n < length bs → eqb (get_or bs n d) LINE_FEED ≡ false → (take (suc n) bs ++ first_line (drop (suc n) bs) ≡ take n bs ++ first_line (drop n bs)) × (behind_line (drop (suc n) bs) ≡ behind_line (drop n bs))
    go [] n lt e = absurd (omega arith)
    go (b ∷ bs) zero lt e = (ap (λ t. if t then b ∷ [] else b ∷ first_line bs) (sym e), ap (λ t. if t then bs else behind_line bs) (sym e))
    go (b ∷ bs) (suc n) lt e = let h = go bs n (omega (arith, lt)) e in (ap (λ l. b ∷ l) h.0, h.1)

-- the line feed is the end of the line
pub line_feed_ends : (bytes : List ℕ) (end next d : ℕ) → next ≡ suc end → Passed bytes end → end < length bytes → eqb (get_or bytes end d) LINE_FEED ≡ true → (take next bytes ≡ first_line bytes) × (drop next bytes ≡ behind_line bytes)
line_feed_ends bytes end next d is h lt feed = (
  ap (λ (k : ℕ). take k bytes) is ∙ (go bytes end lt feed).0 ∙ h.line,
  ap (λ (k : ℕ). drop k bytes) is ∙ (go bytes end lt feed).1 ∙ h.behind,
)
  where
    go : (bs : List ℕ) (n : ℕ) → n < length bs → eqb (get_or bs n d) LINE_FEED ≡ true → (take (suc n) bs ≡ take n bs ++ first_line (drop n bs)) × (drop (suc n) bs ≡ behind_line (drop n bs))
    go [] n lt e = absurd (omega arith)
    go (b ∷ bs) zero lt e = (ap (λ t. if t then b ∷ [] else b ∷ first_line bs) (sym e), ap (λ t. if t then bs else behind_line bs) (sym e))
    go (b ∷ bs) (suc n) lt e = let h = go bs n (omega (arith, lt)) e in (ap (λ l. b ∷ l) h.0, h.1)

-- a text without one is one line
pub all_one_line : (bytes : List ℕ) (end : ℕ) → Passed bytes end → length bytes ≤ end → (take end bytes ≡ first_line bytes) × (drop end bytes ≡ behind_line bytes)
all_one_line bytes end h le =
    let rest = rest_none bytes end le in (
      sym (append-nil (take end bytes)) ∙ ap (λ l. take end bytes ++ first_line l) (sym rest) ∙ h.line,
      rest ∙ ap behind_line (sym rest) ∙ h.behind,
    )
