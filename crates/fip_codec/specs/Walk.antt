-- What the private functions of the reader say of a list of descriptors; no public clause cites these words.
use Rattle.std.specs.Prelude.{ℕ, ◌+◌, ◌*◌, Bool, false, ◌==◌, nat_lt, ◌&&◌, ◌||◌, if◌then◌else◌, List, [], length, take, drop, Option, slice_index}
use Rattle.std.specs.List.{list_all}
use Rattle.fip_codec.specs.Fip.{HEADER, Descriptor, descriptors_from, may_be_skipped, words_fit, of_kind, content_of, Name}
use Rattle.fip_codec.specs.Reading.{has_kind, first_fault, missing, message_of}
use Rattle.fip_codec.specs.Message.{Fip}
use Rattle.fip_codec.specs.declared.fault.FipFault.{FipFault}

-- the descriptors of a list that begins at this place of a body
unfoldable pub listed : ℕ → List ℕ → List Descriptor
listed at l = descriptors_from (length l) at l

-- the descriptor at the front of a list in which it isn't whole
abbrev pub broken : ℕ → List ℕ → Descriptor
broken at l = record { at = at; kind = slice_index l 0; words = slice_index l 1; content = []; whole = false }

-- a descriptor of which nothing is wrong by itself
abbrev pub is_sound : Descriptor → Bool
is_sound d = d.whole && (length d.content + 2 == 4 * d.words) && nat_lt 0 d.words && (may_be_skipped d.kind || words_fit d.kind d.words)

-- whether all descriptors of a list are sound
unfoldable pub are_sound : List ℕ → Bool
are_sound l = list_all is_sound (listed HEADER l)

-- the first fault of the descriptors of a list from this place on, the others standing before them
unfoldable pub fault_at : Name → List ℕ → ℕ → Option FipFault
fault_at name l done = first_fault name (listed HEADER (take done l)) (listed (HEADER + done) (drop done l))

-- the first required type that a list lacks
unfoldable pub lacks : Name → List ℕ → Option FipFault
lacks name l = missing name (listed HEADER l)

-- the descriptors of a type in a list that begins at this place of a body
unfoldable pub of_type : ℕ → ℕ → List ℕ → List Descriptor
of_type kind at l = of_kind kind (listed at l)

-- whether a list has a type
unfoldable pub has_type : ℕ → List ℕ → Bool
has_type kind l = has_kind kind (listed HEADER l)

-- the content of the first descriptor of a type
unfoldable pub said : ℕ → List ℕ → List ℕ
said kind l = content_of kind (listed HEADER l)

-- the message that flags and a list make
unfoldable pub told : Name → ℕ → List ℕ → Fip
told name flags l = message_of name flags (listed HEADER l)

-- the fewest bytes that a type of the table has after type and length
abbrev pub room : ℕ → ℕ
room kind =
    if kind == 1 || kind == 6 || kind == 14 then 2
    else (if kind == 2 || kind == 12 then 6
    else (if kind == 4 then 10
    else (if kind == 5 then 14
    else (if kind == 7 then 26
    else (if kind == 11 then 18 else 0)))))
