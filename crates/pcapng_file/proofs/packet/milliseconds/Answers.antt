use Rattle.std.proofs.Common.{◌≡◌, ◌+◌, ◌*◌, ◌/◌, ◌%◌, ◌^◌, ap, sym, ◌∙◌, arith, ℕ, ◌<◌}
use Rattle.std.proofs.Math.Nat.{mul-add-div, div-add-mod, div-lt_iff_lt-mul}
use Rattle.pcapng_file.proofs.packet.milliseconds.Goals as goal

whole_milliseconds : (u s : ℕ) → 0 < s → u / s * 1000 + u % s * 1000 / s ≡ u * 1000 / s
whole_milliseconds u s pos =
    let whole : s * (u / s) + u % s ≡ u = div-add-mod u s in
    let more : s * (u / s * 1000) + u % s * 1000 ≡ (s * (u / s) + u % s) * 1000 = grind arith in
    sym (mul-add-div pos (u / s * 1000) (u % s * 1000)) ∙ ap (λ (n : ℕ). n / s) (more ∙ ap (λ (n : ℕ). n * 1000) whole)

below_last : (u s : ℕ) → 0 < s → u / s < 2 ^ 32 → u * 1000 / s < 2 ^ 32 * 1000
below_last u s pos small =
    let below : u < 2 ^ 32 * s = (div-lt_iff_lt-mul pos).0 small in
    (div-lt_iff_lt-mul pos).1 (omega (arith, below))

pub returns-clause-value : goal.returns-clause-value
returns-clause-value c = whole_milliseconds c.args.units c.args.second (omega arith)

pub returns-clause-small : goal.returns-clause-small
returns-clause-small c = let e = whole_milliseconds c.args.units c.args.second (omega arith) in let small = below_last c.args.units c.args.second (omega arith) c.requires.small in omega arith
