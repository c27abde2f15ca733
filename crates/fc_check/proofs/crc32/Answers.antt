use Rattle.std.proofs.Common.{◌≡◌, ℕ, ◌∙◌, ◌≤◌, ◌<◌, ◌+◌, ◌-◌, ap, arith, refl, sym, List, Bool, length, get_or, take, drop, take-append-drop, flat_map}
use Rattle.std.proofs.lemmas.Grind.{flat_map-append}
use Rattle.std.proofs.lemmas.List.{take_all}
use Rattle.std.specs.Prelude.{slice_index}
use Rattle.fc_check.specs.Crc.{bits_of, number_of, crc}
use Rattle.fc_check.specs.Division.{begun, taken}
use Rattle.fc_check.specs.Tables.{register_after}
use Rattle.fc_check.proofs.Register.{fed, none, ones, fed-append, length-fed}
use Rattle.fc_check.proofs.Words.{crc-fed, register_after-is}
use Rattle.fc_check.proofs.Whole.{tab, take-tab, left_by, begun-behind, rest-leaves}
use Rattle.fc_check.proofs.crc32.Goals as goal

-- the complement of the register behind all bytes is the CRC
all_fed : (l : List ℕ) (n : ℕ) → n ≡ register_after ones l → 4294967295 - n ≡ crc l
all_fed l n is = ap (λ (k : ℕ). 4294967295 - k) (is ∙ register_after-is ones l refl) ∙ sym (crc-fed l)

pub returns-then-bytes-lt640 : goal.returns-then-bytes-lt640
returns-then-bytes-lt640 c = record { crc = all_fed c.args.bytes.now c.fed.result (c.fed.ensures ones refl refl) }

-- what is left of the division has the register that all bytes up to its end leave behind
module _ (room bytes rest : List ℕ) (s : ℕ) (fits : (i : ℕ) → slice_index room i < 256) (bytes_fit : (i : ℕ) → slice_index bytes i < 256)
    (front : (i : ℕ) → (288 ≤ i → i < 288 + s → ⊥) → slice_index room i ≡ begun i)
    (quotient : (i : ℕ) → i < s → slice_index room (288 + i) ≡ taken room i (slice_index bytes i))
    (left : (i : ℕ) → i < 288 → slice_index rest i ≡ taken room (s + i) (slice_index bytes (s + i)))
    (size : length rest ≡ 288) (within : s + 288 ≤ length bytes) where
  whole_rest : rest ≡ tab (λ (k : ℕ). get_or rest k 0) 0 288
  whole_rest = sym (take_all 288 rest (omega (arith, size))) ∙ take-tab rest 0 288 (omega (arith, size))

  by_rest : number_of (fed (none 32) (flat_map bits_of rest)) ≡ number_of (fed ones (flat_map bits_of (take (s + 288) bytes)))
  unfolding taken
  by_rest =
      ap left_by whole_rest
      ∙ rest-leaves (λ (k : ℕ). get_or room k 0) (λ (k : ℕ). get_or bytes k 0) (λ (k : ℕ). get_or rest k 0) s fits bytes_fit
      (λ i lt. front i (λ ge below. omega (arith, lt, ge))) quotient (λ i le. front i (λ ge below. omega (arith, le, below)) ∙ begun-behind i (omega (arith, le))) left
      ∙ ap (λ q. number_of (fed ones (flat_map bits_of q))) (sym (take-tab bytes 0 (s + 288) (omega (arith, within))))

  pub all_by_rest : (n m : ℕ) → n ≡ register_after (none 32) rest → ((bits : List Bool) → length bits ≡ 32 → number_of bits ≡ n → m ≡ register_after bits (drop (s + 288) bytes)) → 4294967295 - m ≡ crc bytes
  all_by_rest n m first second =
      let before : List Bool = fed ones (flat_map bits_of (take (s + 288) bytes)) in
      let behind : List ℕ = drop (s + 288) bytes in
      let len : length before ≡ 32 = length-fed 32 ones (flat_map bits_of (take (s + 288) bytes)) refl in
      let is : number_of before ≡ n = sym (first ∙ register_after-is (none 32) rest refl ∙ by_rest) in
      let joined : fed before (flat_map bits_of behind) ≡ fed ones (flat_map bits_of bytes) =
      sym (fed-append ones (flat_map bits_of (take (s + 288) bytes)) (flat_map bits_of behind))
      ∙ ap (fed ones) (sym (flat_map-append bits_of (take (s + 288) bytes) behind))
      ∙ ap (λ q. fed ones (flat_map bits_of q)) (take-append-drop (s + 288) bytes) in
      ap (λ (k : ℕ). 4294967295 - k) (second before len is ∙ register_after-is before behind len ∙ ap number_of joined) ∙ sym (crc-fed bytes)

pub returns : goal.returns
returns c = record {
  crc =
      let s = c.min-count.result in
      all_by_rest c.divide.new.room c.args.bytes.now c.rest_of-rest.result s c.rest_of-rest.ensures.fits (λ i. let fit = c.type_inv.bytes i in omega arith)
      (λ i out. c.divide.ensures.others i out ∙ c.begin.ensures i) c.divide.ensures.quotient c.rest_of-rest.ensures.left c.rest_of-rest.ensures.size
      (omega (arith, c.min-count.ensures, c.if-bytes-lt640.false)) c.fed-2.result c.fed-3.result (c.fed-2.ensures (none 32) refl refl) c.fed-3.ensures;
}
