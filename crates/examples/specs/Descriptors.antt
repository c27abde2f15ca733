-- Descriptors that are unknown, and lengths that are wrong.
use Rattle.std.specs.Prelude.{◌≡◌, ℕ, List, [], ◌∷◌, ◌++◌, refl, None, Ok, Err}
use Rattle.fab_base.specs.Layout.{zeros}
use Rattle.fip_codec.specs.Message.{Keep}
use Rattle.fip_codec.specs.Reading.{decoded}
use Rattle.fip_codec.specs.declared.fault.FipFault.TheVariants.{ListLength, DescLength, Critical, Double, Missing}
use Rattle.examples.specs.Given.{MAC_A}

-- a keep alive whose list has that many words, with more behind its MAC
abbrev pub keep_alive : ℕ → List ℕ → List ℕ
keep_alive words more = 0x10 ∷ 0 ∷ 0 ∷ 3 ∷ 0 ∷ 1 ∷ 0 ∷ words ∷ 0 ∷ 0 ∷ 2 ∷ 2 ∷ MAC_A ++ more

pub skipped : decoded (keep_alive 3 (200 ∷ 1 ∷ 0 ∷ 0 ∷ [])) ≡ Ok (Keep MAC_A None)
unfolding decoded
skipped = refl

pub critical : decoded (keep_alive 3 (100 ∷ 1 ∷ 0 ∷ 0 ∷ [])) ≡ Err (Critical 18 100)
unfolding decoded
critical = refl

pub no_length : decoded (0x10 ∷ 0 ∷ 0 ∷ 3 ∷ 0 ∷ 1 ∷ 0 ∷ 2 ∷ 0 ∷ 0 ∷ 2 ∷ 0 ∷ MAC_A) ≡ Err (DescLength 10)
unfolding decoded
no_length = refl

pub past_the_list : decoded (keep_alive 3 (11 ∷ 5 ∷ 0 ∷ 0 ∷ zeros 16)) ≡ Err (DescLength 18)
unfolding decoded
past_the_list = refl

pub past_the_end : decoded (keep_alive 4 (200 ∷ 1 ∷ 0 ∷ 0 ∷ [])) ≡ Err ListLength
unfolding decoded
past_the_end = refl

pub twice : decoded (keep_alive 4 (2 ∷ 2 ∷ MAC_A)) ≡ Err (Double 18)
unfolding decoded
twice = refl

pub absent : decoded (0x10 ∷ 0 ∷ 0 ∷ 3 ∷ 0 ∷ 1 ∷ 0 ∷ 1 ∷ 0 ∷ 0 ∷ 200 ∷ 1 ∷ 0 ∷ 0 ∷ []) ≡ Err (Missing 2)
unfolding decoded
absent = refl

-- a type of the table that isn't in the message's row is skipped, also where it stands twice
pub not_in_the_row : decoded (keep_alive 4 (14 ∷ 1 ∷ 0 ∷ 1 ∷ 14 ∷ 1 ∷ 0 ∷ 2 ∷ [])) ≡ Ok (Keep MAC_A None)
unfolding decoded
not_in_the_row = refl
