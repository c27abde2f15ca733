use Rattle.std.proofs.Common.{◌≡◌, ℕ, ◌∙◌, ◌≤◌, ◌<◌, ◌+◌, ap, arith, refl, sym, subst, length, get_or, drop, flat_map, bit_xor}
use Rattle.std.proofs.lemmas.List.{drop_all}
use Rattle.fc_check.specs.Crc.{bits_of, number_of}
use Rattle.fc_check.specs.Tables.{words_of}
use Rattle.fc_check.proofs.Register.{fed}
use Rattle.fc_check.proofs.Numbers.{low, low-number_of, length-low, number_of-low}
use Rattle.fc_check.proofs.Words.{Turns, one_gone, sixteen_gone, register_after-is}
use Rattle.fc_check.proofs.fed.Goals as goal

sum_is : {a b c d e f g h : ℕ} → a ≡ e → b ≡ f → c ≡ g → d ≡ h → bit_xor (bit_xor (bit_xor b c) d) a ≡ bit_xor (bit_xor (bit_xor f g) h) e
sum_is first second third fourth = cc

pub loop-at-init : goal.loop-at-init
loop-at-init c = record {
  within = c.requires;
  turns = record { register = low 32 c.args.register; len = length-low 32 c.args.register; is = number_of-low 32 c.args.register (let fit = c.ranges.register in omega arith); goes = refl };
}

pub loop-at-preserved-then-bytes-at-ge16 : goal.loop-at-preserved-then-bytes-at-ge16
loop-at-preserved-then-bytes-at-ge16 c =
    let l = c.args.bytes.now in
    let at = c.loop-at.at in
    let fits : (k : ℕ) → get_or l k 0 < 256 = λ k. let fit = c.type_inv.bytes k in omega arith in
    let within : at + 16 ≤ length l = omega (arith, c.if-bytes-at-ge16.true, c.loop-at.invariant.within) in
    let second = c.four_words.ensures ∙ ap (words_of 8) c.word_at.ensures in
    let third = c.four_words-then-bytes-at-ge16.ensures ∙ ap (words_of 4) c.word_at-then-bytes-at-ge16.ensures in
    let fourth = c.four_words-then-bytes-at-ge16-2.ensures ∙ ap (words_of 0) c.word_at-then-bytes-at-ge16-2.ensures in
    let first =
    c.four_words-then-bytes-at-ge16-3.ensures ∙ ap (λ (n : ℕ). words_of 12 (bit_xor c.loop-at.turned n)) c.word_at-then-bytes-at-ge16-3.ensures in
    record {
      within = within;
      turns = subst (Turns (low 32 c.args.register) (drop c.args.from l) (drop (at + 16) l)) (sym (sum_is first second third fourth)) (sixteen_gone l at c.loop-at.invariant.turns within fits);
    }

pub loop-at-preserved : goal.loop-at-preserved
loop-at-preserved c =
    let l = c.args.bytes.now in
    let at = c.loop-at.at in
    let fit = c.type_inv.bytes at in
    record {
      within = omega (arith, c.loop-at-test.true);
      turns = one_gone l at c.from.result c.loop-at.invariant.turns c.loop-at-test.true c.from.ensures (omega arith);
    }

pub returns : goal.returns
returns c = λ bits len is.
    let l = c.args.bytes.now in
    let t = c.loop-at.invariant.turns in
    let start : low 32 c.args.register ≡ bits = ap (low 32) (sym is) ∙ subst (λ (n : ℕ). low n (number_of bits) ≡ bits) len (low-number_of bits) in
    let nothing = drop_all c.loop-at.at l c.loop-at-test.false in
    sym t.is ∙ ap (λ q. number_of (fed t.register (flat_map bits_of q))) (sym nothing) ∙ ap number_of t.goes
    ∙ ap (λ q. number_of (fed q (flat_map bits_of (drop c.args.from l)))) start ∙ sym (register_after-is bits (drop c.args.from l) len)
