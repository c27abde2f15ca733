-- What the writers append is read back.
use Rattle.std.proofs.Common.{◌≡◌, ℕ, ◌+◌, ◌-◌, ◌*◌, ◌/◌, ◌^◌, ◌<◌, ◌≤◌, max, min, Bool, true, false, not, nat_lt, List, ◌++◌, length, Ok, refl, sym, ap, ◌∙◌, append_assoc, arith}
use Rattle.std.proofs.lemmas.Bool.{le-ltb}
use Rattle.fab_base.specs.Layout.{little_endian, spelled_low}
use Rattle.fab_base.proofs.LayoutLemmas.{little_endian-spelled}
use Rattle.pcap_file.specs.declared.CaptureHead.{CaptureHead}
use Rattle.pcap_file.specs.Capture.{at_place, milliseconds, stored, Found, next, head_decoded, head_bytes, record_front, record_bytes}
use Rattle.pcap_file.proofs.HeadLemmas.{head_front}
use Rattle.pcap_file.proofs.NextLemmas.{front_whole}

pub head_read : (rest : List ℕ) → head_decoded (head_bytes ++ rest) ≡ Ok (record { big = false; nano = false })
unfolding head_decoded
head_read rest = head_front head_bytes rest refl ∙ refl

abbrev pub written : CaptureHead
written = record { big = false; nano = false }

module _ (greatest moment : ℕ) (bytes rest : List ℕ) (below : moment < 2 ^ 32 * 1000) (small : length bytes ≤ 65535) where
  len_is : stored written (record_front moment (length bytes)) ≡ length bytes
  len_is = little_endian-spelled 4 (length bytes) (omega arith)

  original_is : at_place false (record_front moment (length bytes)) 12 4 ≡ length bytes
  original_is = little_endian-spelled 4 (length bytes) (omega arith)

  moment_is : milliseconds written (record_front moment (length bytes)) ≡ moment
  moment_is =
      let seconds = min (moment / 1000) 4294967295 in
      let first : little_endian (spelled_low 4 seconds) ≡ seconds = little_endian-spelled 4 seconds (omega arith) in
      let second : little_endian (spelled_low 4 ((moment - seconds * 1000) * 1000)) ≡ (moment - seconds * 1000) * 1000 = little_endian-spelled 4 ((moment - seconds * 1000) * 1000) (omega arith) in
      (λ i. first i * 1000 + second i / 1000) ∙ (let e : seconds * 1000 + (moment - seconds * 1000) * 1000 / 1000 ≡ moment = omega arith in e)

  pub record_read : next written greatest (record_bytes moment bytes ++ rest) ≡ Found (max greatest moment) (record { bytes = bytes; whole = true }) rest
  record_read =
      ap (next written greatest) (append_assoc (record_front moment (length bytes)) bytes rest)
      ∙ front_whole written greatest (record_front moment (length bytes)) (bytes ++ rest) refl bytes rest refl (sym len_is) (omega (arith, len_is))
      ∙ (λ i. Found (max greatest (moment_is i)) (record { bytes = bytes; whole = not (nat_lt (len_is i) (original_is i)) }) rest)
      ∙ ap (λ (b : Bool). Found (max greatest moment) (record { bytes = bytes; whole = not b }) rest) (le-ltb (length bytes) (length bytes) (omega arith))
