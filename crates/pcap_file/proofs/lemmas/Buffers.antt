-- A buffer that was filled from what was to come.
use Rattle.std.proofs.Common.{◌≡◌, ℕ, ◌≤◌, List, [], ◌++◌, length, take, sym, ap, ◌∙◌, arith}
use Rattle.std.proofs.lemmas.List.{append-nil, length-take-le, take_all}

-- a whole buffer is the front of what was to come
pub front_is : (buffer rest left : List ℕ) (n : ℕ) → length buffer ≡ n → take n buffer ++ rest ≡ left → left ≡ buffer ++ rest
front_is buffer rest left n len e = sym e ∙ ap (λ l. l ++ rest) (take_all n buffer (omega arith))

-- one that isn't whole is all of it
pub short_is : (buffer rest left : List ℕ) (n : ℕ) → n ≤ length buffer → rest ≡ [] → take n buffer ++ rest ≡ left → length left ≡ n
short_is buffer rest left n le none e = sym (ap length e) ∙ ap length (ap (λ r. take n buffer ++ r) none ∙ append-nil (take n buffer)) ∙ length-take-le n buffer le
