use Rattle.std.proofs.Common.{◌≡◌, Ok, Err, length}
use Rattle.hex.specs.Hex.{decode_sized}
use Rattle.fab_state.proofs.ReadLemmas.{digits_read, of_match}
use Rattle.fab_state.proofs.words.read_digits.Goals as goal

pub returns : goal.returns
returns c bs below size e =
    (of_match (decode_sized c.args.word.now (length c.args.bytes.now)) bs (λ bytes. (c.decode_to_slice.result ≡ Ok tt) × (c.decode_to_slice.new.out ≡ bytes)) (λ x. c.decode_to_slice.result ≡ Err x)
    (digits_read c.args.word.now bs (length c.args.bytes.now) below size e) c.decode_to_slice.ensures.value).1
