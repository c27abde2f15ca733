-- What is written of a request, which is whole words.
use Rattle.std.proofs.Common.{◌≡◌, ℕ, ◌-◌, ◌%◌, List, ◌++◌, length, length-append, append_assoc, refl, ap, ◌∙◌, arith}
use Rattle.fab_base.specs.Layout.{zeros}
use Rattle.std.proofs.lemmas.List.{length-replicate}
use Rattle.ct_messages.specs.Ct.{Ask, preamble, code_of, body_bytes, written}

pub length-written : (ask : Ask) → length (written ask) % 4 ≡ 0
unfolding written
length-written ask =
    let body = body_bytes ask in
    let rest = (4 - length body % 4) % 4 in
    let pad : length (zeros rest) ≡ rest = length-replicate rest 0 in
    omega (arith, length-append body (zeros rest))

-- preamble, fields and what fills the last word, one behind the other, are the request
pub written_put : (ask : Ask) (one two three : List ℕ) (odd : ℕ) → one ≡ preamble (code_of ask) 0 0 → two ≡ one ++ body_bytes ask → odd ≡ length two % 4 → three ≡ two ++ zeros ((4 - odd) % 4) → three ≡ written ask
unfolding written
written_put ask one two three odd first second is_odd third =
    let front = preamble (code_of ask) 0 0 in
    let body = body_bytes ask in
    let long : length front ≡ 16 = refl in
    let whole : two ≡ front ++ body = second ∙ ap (λ l. l ++ body) first in
    let same : (4 - odd) % 4 ≡ (4 - length body % 4) % 4 = omega (arith, is_odd, ap length whole, length-append front body) in
    third ∙ ap (λ l. l ++ zeros ((4 - odd) % 4)) whole ∙ append_assoc front body (zeros ((4 - odd) % 4)) ∙ ap (λ (n : ℕ). front ++ (body ++ zeros n)) same
