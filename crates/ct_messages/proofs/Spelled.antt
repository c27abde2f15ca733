-- A written request stands in its bytes, whatever bytes follow.
use Rattle.std.proofs.Common.{◌≡◌, ℕ, ◌+◌, ◌-◌, ◌*◌, ◌%◌, ◌^◌, ◌<◌, ◌≤◌, List, [], ◌∷◌, ◌++◌, length, take, refl, sym, ap, subst, ◌∙◌, arith, append_assoc, length-append}
use Rattle.std.specs.List.{All}
use Rattle.std.proofs.lemmas.List.{append-nil, take_at}
use Rattle.std.proofs.lemmas.List.Elements.{All-head, All-tail}
use Rattle.std.proofs.Math.Nat.{mod-eq_of_lt}
use Rattle.fab_base.specs.Layout.{big_endian, number, spelled, zeros}
use Rattle.fab_base.proofs.LayoutLemmas.{big_endian-spelled, number-append}
use Rattle.ct_messages.specs.Table.{words_at}
use Rattle.ct_messages.specs.CanWrite.{CanWrite, IsTyped}
use Rattle.ct_messages.specs.Ct.{Ask, NextOf, PortNameOf, NodeNameOf, TypesOf, FeaturesOf, ByPortName, AddressesOfType, PortNamesOfType, NodeNamesOfType, AddressesOfPortType, SetNode, SetTypes, SetSymbol, SetFeature, SetNodeSymbol, Erase, Unknown, IsCt, Stands, code_of, preamble, address_word, word_bytes, body_bytes, written}

-- a text in front of other bytes
text_front : (text pad more : List ℕ) → take (length text) (text ++ pad ++ more) ≡ text
text_front text pad more = ap (take (length text)) (append_assoc text pad more) ∙ take_at text (pad ++ more) (length text) refl

-- words behind a front of that length
words_behind : (words front rest : List ℕ) (at : ℕ) → length front ≡ at → All (λ word. word < 2 ^ 32) words → words_at (length words) at (front ++ (word_bytes words ++ rest)) ≡ words
words_behind [] front rest at is_at fit = refl
words_behind (w ∷ words) front rest at is_at fit =
    let after : List ℕ = word_bytes words ++ rest in
    let joined : front ++ ((spelled 4 w ++ word_bytes words) ++ rest) ≡ (front ++ spelled 4 w) ++ after = ap (λ m. front ++ m) (append_assoc (spelled 4 w) (word_bytes words) rest) ∙ sym (append_assoc front (spelled 4 w) after) in
    let len : length (front ++ spelled 4 w) ≡ at + 4 = omega (arith, length-append front (spelled 4 w)) in
    let first : number ((front ++ spelled 4 w) ++ after) at 4 ≡ w = number-append front after at 4 w is_at (All-head (λ word. word < 2 ^ 32) w words fit) in
    let others : words_at (length words) (at + 4) ((front ++ spelled 4 w) ++ after) ≡ words = words_behind words (front ++ spelled 4 w) rest (at + 4) len (All-tail (λ word. word < 2 ^ 32) w words fit) in
    ap (λ l. number l at 4 ∷ words_at (length words) (at + 4) l) joined ∙ ap (λ n. n ∷ words_at (length words) (at + 4) ((front ++ spelled 4 w) ++ after)) first ∙ ap (λ l. w ∷ l) others

length-word_bytes : (words : List ℕ) → length (word_bytes words) ≡ 4 * length words
length-word_bytes [] = refl
length-word_bytes (w ∷ words) = omega (arith, length-append (spelled 4 w) (word_bytes words), length-word_bytes words)

-- the code of a request that may be written has two bytes
code-written : (ask : Ask) → CanWrite ask → big_endian (spelled 2 (code_of ask)) ≡ code_of ask
code-written (NextOf _) can = refl
code-written (PortNameOf _) can = refl
code-written (NodeNameOf _) can = refl
code-written (TypesOf _) can = refl
code-written (FeaturesOf _) can = refl
code-written (ByPortName _) can = refl
code-written (AddressesOfType _) can = refl
code-written (PortNamesOfType _) can = refl
code-written (NodeNamesOfType _) can = refl
code-written (AddressesOfPortType _) can = refl
code-written (SetNode _ _) can = refl
code-written (SetTypes _ _) can = refl
code-written (SetSymbol _ _) can = refl
code-written (SetFeature _ _ _) can = refl
code-written (SetNodeSymbol _ _) can = refl
code-written (Erase _) can = refl
code-written (Unknown _) can = absurd can

module _ (pad more : List ℕ) where
  -- what is written, filled up by any bytes and with any behind it
  abbrev bytes : Ask → List ℕ
  bytes ask = (preamble (code_of ask) 0 0 ++ (body_bytes ask ++ pad)) ++ more

  types-written : (address : ℕ) (words : List ℕ) (count : ℕ) → length words ≡ count → All (λ word. word < 2 ^ 32) words → words_at count 20 (bytes (SetTypes address (record { 0 = words }))) ≡ words
  types-written address words count is_count fit =
      ap (λ n. words_at n 20 (bytes (SetTypes address (record { 0 = words })))) (sym is_count)
      ∙ ap (λ m. words_at (length words) 20 ((preamble 0x0217 0 0 ++ address_word address) ++ m)) (append_assoc (word_bytes words) pad more)
      ∙ words_behind words (preamble 0x0217 0 0 ++ address_word address) (pad ++ more) 20 refl fit

  types-room : (address : ℕ) (words : List ℕ) → length words ≡ 8 → 52 ≤ length (bytes (SetTypes address (record { 0 = words })))
  types-room address words is_count = omega (arith, length-append (word_bytes words ++ pad) more, length-append (word_bytes words) pad, length-word_bytes words)

  text-room : (text : List ℕ) → length text ≤ length ((text ++ pad) ++ more)
  text-room text = omega (arith, length-append (text ++ pad) more, length-append text pad)

  fields-written : (ask : Ask) → CanWrite ask → IsTyped ask → Stands ask (bytes ask)
  fields-written (NextOf address) can fit = (omega arith, big_endian-spelled 3 address fit)
  fields-written (PortNameOf address) can fit = (omega arith, big_endian-spelled 3 address fit)
  fields-written (NodeNameOf address) can fit = (omega arith, big_endian-spelled 3 address fit)
  fields-written (TypesOf address) can fit = (omega arith, big_endian-spelled 3 address fit)
  fields-written (FeaturesOf address) can fit = (omega arith, big_endian-spelled 3 address fit)
  fields-written (ByPortName name) can fit = (omega arith, big_endian-spelled 8 name fit)
  fields-written (AddressesOfType kind) can fit = (omega arith, refl)
  fields-written (PortNamesOfType kind) can fit = (omega arith, refl)
  fields-written (NodeNamesOfType kind) can fit = (omega arith, refl)
  fields-written (AddressesOfPortType kind) can fit = (omega arith, refl)
  fields-written (SetNode address name) can fit = (omega arith, big_endian-spelled 3 address fit.0, big_endian-spelled 8 name fit.1)
  fields-written (SetTypes address types) can fit = (types-room address types.0 fit.1, big_endian-spelled 3 address fit.0, types-written address types.0 8 fit.1 fit.2)
  fields-written (SetSymbol address symbol) can fit = (omega (arith, text-room symbol), big_endian-spelled 3 address fit, refl, text_front symbol pad more)
  fields-written (SetFeature address feature kind) can fit = (omega arith, big_endian-spelled 3 address fit, mod-eq_of_lt can, refl)
  fields-written (SetNodeSymbol name symbol) can fit = (omega (arith, text-room symbol), big_endian-spelled 8 name fit, refl, text_front symbol pad more)
  fields-written (Erase address) can fit = (omega arith, big_endian-spelled 3 address fit)
  fields-written (Unknown command) can fit = absurd can

  stands : (ask : Ask) → CanWrite ask → IsTyped ask → IsCt ask (bytes ask)
  stands ask can fit = record { long = omega arith; directory = refl; name_server = refl; command = code-written ask can; fields = fields-written ask can fit }

-- whatever bytes follow
pub IsCt-written_more : (ask : Ask) (more : List ℕ) → CanWrite ask → IsTyped ask → IsCt ask (written ask ++ more)
unfolding written
IsCt-written_more ask more can fit = stands (zeros ((4 - length (body_bytes ask) % 4) % 4)) more ask can fit

pub IsCt-written : (ask : Ask) → CanWrite ask → IsTyped ask → IsCt ask (written ask)
IsCt-written ask can fit = subst (IsCt ask) (append-nil (written ask)) (IsCt-written_more ask [] can fit)
