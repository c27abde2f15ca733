-- One block of a pcapng file (draft-ietf-opsawg-pcapng): type, total length, body, and the total length again. Its numbers
-- have the byte order of its section.
use Rattle.std.specs.Prelude.{◌≡◌, ℕ, zero, suc, ◌+◌, ◌-◌, ◌*◌, ◌/◌, ◌%◌, ◌^◌, Bool, true, false, not, ◌==◌, nat_lt, nat_le, ◌&&◌, ◌||◌, if◌then◌else◌, List, [], ◌∷◌, length, slice_get, slice_index, Option, Some, None, is_none, unwrap_or, Result, Ok, Err, find, option_map}
use Rattle.std.specs.List.{list_any}
use Rattle.fab_base.specs.Layout.{field}
use Rattle.fab_base.specs.declared.values.Caught.{Caught}
use Rattle.pcap_file.specs.Capture.{at_place}
use Rattle.pcapng_file.specs.declared.fault.NgWhy.{NgWhy}
use Rattle.pcapng_file.specs.declared.fault.NgWhy.TheVariants as why
use Rattle.pcapng_file.specs.declared.block.Kind.{Kind}
use Rattle.pcapng_file.specs.declared.block.Kind.TheVariants as kinds
use Rattle.pcapng_file.specs.declared.block.Head.{Head}
use Rattle.pcapng_file.specs.declared.block.Interface.{Interface}
use Rattle.pcapng_file.specs.declared.options.Told.{Told}
use Rattle.pcapng_file.specs.declared.NgRecord.{NgRecord}
use Rattle.pcapng_file.specs.declared.packet.Content.{Content}
use Rattle.pcapng_file.specs.declared.packet.Content.TheVariants as says

-- ---- tests

-- a test of a block: whether it holds, and the fault that it tells
pub record Test : Type 0 where
  pub holds : Bool
  pub tells : NgWhy

abbrev pub test : Bool → NgWhy → Test
test holds tells = record { holds = holds; tells = tells }

-- the fault of the first of these tests that holds
abbrev pub first : List Test → Option NgWhy
first [] = None
first (t ∷ ts) = if t.holds then Some t.tells else first ts

-- none of these tests holds
abbrev pub NoneHolds : List Test → Type 0
NoneHolds [] = Unit {0}
NoneHolds (t ∷ ts) = (t.holds ≡ false) × NoneHolds ts

-- what is read where none of these tests holds, and else the first one's fault
abbrev pub unless : {A : Type 0} → Option NgWhy → A → Result A NgWhy
unless (Some fault) a = Err fault
unless None a = Ok a

-- ---- the head: type, total length, and of a section header the magic

abbrev pub HEAD : ℕ
HEAD = 12

-- the type of a section header is the same in both byte orders
abbrev pub is_header : List ℕ → Bool
is_header b = at_place false b 0 4 == 0x0a0d0d0a

-- the byte order in which these bytes have the magic of a section header; true is big-endian
abbrev pub magic_of : List ℕ → Option Bool
magic_of b =
    if at_place false b 8 4 == 0x1a2b3c4d then Some false
    else if at_place true b 8 4 == 0x1a2b3c4d then Some true
    else None

-- the byte order of a block in a section of this order, if there is one
abbrev pub order_of : Option Bool → List ℕ → Bool
order_of order b = if is_header b then unwrap_or (magic_of b) false else unwrap_or order false

abbrev pub named : ℕ → Kind
named code =
    if code == 1 then kinds.Interface
    else if code == 6 then kinds.Packet
    else if code == 3 then kinds.Simple
    else kinds.Other

abbrev pub kind_of : Option Bool → List ℕ → Kind
kind_of order b = if is_header b then kinds.Section else named (at_place (order_of order b) b 0 4)

-- the least total length
abbrev pub least : Kind → ℕ
least kinds.Section = 28
least kinds.Interface = 20
least kinds.Packet = 32
least kinds.Simple = 12
least kinds.Other = 12

abbrev pub size_of : Option Bool → List ℕ → ℕ
size_of order b = at_place (order_of order b) b 4 4

abbrev pub head_of : Option Bool → List ℕ → Head
head_of order b = record { kind = kind_of order b; big = order_of order b; size = size_of order b }

-- the tests of the first 12 bytes, in their order
abbrev pub head_tests : Option Bool → List ℕ → List Test
head_tests order b =
    test (is_none order && not (is_header b)) why.Section
    ∷ test (is_header b && is_none (magic_of b)) why.Order
    ∷ test (not (size_of order b % 4 == 0) || nat_lt (size_of order b) (least (kind_of order b))) why.Length
    ∷ []

unfoldable pub head_read : Option Bool → List ℕ → Result Head NgWhy
head_read order b = unless (first (head_tests order b)) (head_of order b)

-- ---- options of an interface

-- bytes are padded to a multiple of 4
abbrev pub padded : ℕ → ℕ
padded len = (len + 3) / 4 * 4

pub record Entry : Type 0 where
  pub code : ℕ
  pub value : List ℕ

abbrev pub entry_at : Bool → List ℕ → ℕ → Entry
entry_at big l at = record { code = at_place big l at 2; value = field l (at + 4) (at_place big l (at + 2) 2) }

-- where the option behind the one at a place stands
abbrev pub behind_option : Bool → List ℕ → ℕ → ℕ
behind_option big l at = at + (4 + padded (at_place big l (at + 2) 2))

abbrev pub cons_some : Entry → Option (List Entry) → Option (List Entry)
cons_some e None = None
cons_some e (Some es) = Some (e ∷ es)

-- the options from a place on, of at most n, up to the end or code 0; none where one passes the bytes
abbrev pub entries_from : ℕ → Bool → List ℕ → ℕ → Option (List Entry)
entries_from zero big l at = None
entries_from (suc n) big l at =
    if nat_le (length l) at then Some []
    else if nat_lt (length l) (at + 4) then None
    else if at_place big l at 2 == 0 then Some []
    else if nat_lt (length l) (behind_option big l at) then None
    else cons_some (entry_at big l at) (entries_from n big l (behind_option big l at))

unfoldable pub entries : Bool → List ℕ → Option (List Entry)
entries big l = entries_from (suc (length l)) big l 0

-- an option that tells the unit of time, and one that offsets times
abbrev pub tells_unit : Entry → Bool
tells_unit e = e.code == 9 && nat_lt 0 (length e.value)

abbrev pub offsets : Entry → Bool
offsets e = e.code == 14

-- the first option that tells the unit counts
abbrev pub said_by : List Entry → Told
said_by es = record { resolution = option_map (λ e. slice_index e.value 0) (find tells_unit es); offset = list_any offsets es }

-- what an option adds to what was said
abbrev pub told_with : Told → ℕ → List ℕ → Told
told_with t code value =
    if code == 14 then record { resolution = t.resolution; offset = true }
    else if code == 9 && is_none t.resolution && nat_lt 0 (length value) then record { resolution = Some (slice_index value 0); offset = t.offset }
    else t

abbrev pub told_in : Bool → List ℕ → Option Told
told_in big l = option_map said_by (entries big l)

-- ---- interfaces

-- link type, reserved, snap length, options; a time counts units of 10^-6 seconds where no option tells another
abbrev pub interface_of : Bool → List ℕ → Told → Interface
interface_of big b told = record { link = at_place big b 8 2; resolution = unwrap_or told.resolution 6; offset = told.offset }

abbrev pub options_of : Bool → List ℕ → Option Told
options_of big b = told_in big (field b 16 (length b - 20))

abbrev pub interface_read : Bool → List ℕ → Option Interface
interface_read big b = option_map (interface_of big b) (options_of big b)

-- ---- sections

abbrev pub version_read : Bool → List ℕ → Bool
version_read big b = at_place big b 12 2 == 1

-- ---- packets: interface, time in two halves, stored length, original length, bytes

abbrev pub units : Bool → List ℕ → ℕ
units big b = at_place big b 12 4 * 2 ^ 32 + at_place big b 16 4

abbrev pub stored : Bool → List ℕ → ℕ
stored big b = at_place big b 20 4

abbrev pub original : Bool → List ℕ → ℕ
original big b = at_place big b 24 4

-- an interface stands here where there is none, so that each test says something at each place
abbrev pub no_interface : Interface
no_interface = record { link = 1; resolution = 6; offset = false }

abbrev pub interface_at : Bool → List Interface → List ℕ → Option Interface
interface_at big faces b = slice_get faces (at_place big b 8 4)

-- the tests of a packet of this interface, in their order
abbrev pub timed_tests : Interface → Bool → List ℕ → List Test
timed_tests face big b =
    test (not (face.link == 1)) why.Link
    ∷ test (nat_lt 9 face.resolution) why.Resolution
    ∷ test face.offset why.Offset
    ∷ test (nat_le (2 ^ 32) (units big b / 10 ^ face.resolution)) why.Time
    ∷ test (nat_lt 65535 (stored big b)) why.Long
    ∷ []

abbrev pub packet_tests : Bool → List Interface → List ℕ → List Test
packet_tests big faces b =
    test (nat_lt (length b - 32) (padded (stored big b))) why.Length
    ∷ test (is_none (interface_at big faces b)) why.Interface
    ∷ timed_tests (unwrap_or (interface_at big faces b) no_interface) big b

-- the time in whole milliseconds, rounded down
abbrev pub milliseconds : Interface → Bool → List ℕ → ℕ
milliseconds face big b = units big b * 1000 / 10 ^ face.resolution

abbrev pub caught_in : Bool → List ℕ → Caught
caught_in big b = record { bytes = field b 28 (stored big b); whole = not (nat_lt (stored big b) (original big b)) }

abbrev pub record_of : Interface → Bool → List ℕ → NgRecord
record_of face big b = record { moment = milliseconds face big b; caught = caught_in big b; original = original big b; face = at_place big b 8 4 }

abbrev pub record_in : Bool → List Interface → List ℕ → NgRecord
record_in big faces b = record_of (unwrap_or (interface_at big faces b) no_interface) big b

unfoldable pub timed_read : Interface → Bool → List ℕ → Result NgRecord NgWhy
timed_read face big b = unless (first (timed_tests face big b)) (record_of face big b)

unfoldable pub packet_read : Bool → List Interface → List ℕ → Result NgRecord NgWhy
packet_read big faces b = unless (first (packet_tests big faces b)) (record_in big faces b)

-- ---- blocks

-- the tests of a block of this kind, behind that of its second length
abbrev pub kind_tests : Kind → Bool → List Interface → List ℕ → List Test
kind_tests kinds.Section big faces b = test (not (version_read big b)) why.Version ∷ []
kind_tests kinds.Interface big faces b = test (is_none (options_of big b)) why.Options ∷ []
kind_tests kinds.Packet big faces b = packet_tests big faces b
kind_tests kinds.Simple big faces b = test true why.Simple ∷ []
kind_tests kinds.Other big faces b = []

-- the tests of a whole block, in their order
abbrev pub body_tests : Head → List Interface → List ℕ → List Test
body_tests h faces b = test (not (at_place h.big b (h.size - 4) 4 == h.size)) why.Length ∷ kind_tests h.kind h.big faces b

abbrev pub no_options : Told
no_options = record { resolution = None; offset = false }

abbrev pub content_of : Kind → Bool → List Interface → List ℕ → Content
content_of kinds.Section big faces b = says.Section big
content_of kinds.Interface big faces b = says.Interface (interface_of big b (unwrap_or (options_of big b) no_options))
content_of kinds.Packet big faces b = says.Packet (record_in big faces b)
content_of kinds.Simple big faces b = says.Nothing
content_of kinds.Other big faces b = says.Nothing

unfoldable pub body_read : Head → List Interface → List ℕ → Result Content NgWhy
body_read h faces b = unless (first (body_tests h faces b)) (content_of h.kind h.big faces b)
