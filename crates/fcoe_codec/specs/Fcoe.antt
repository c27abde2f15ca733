-- The body of an FCoE frame (FC-BB-5, "FCoE frame format"; delimiters of FC-FS-3).
use Rattle.std.specs.Prelude.{◌≡◌, ℕ, ◌+◌, ◌-◌, ◌/◌, ◌%◌, Bool, true, false, ◌==◌, nat_le, ◌&&◌, ◌||◌, if◌then◌else◌, IsTrue, List, [], ◌∷◌, ◌++◌, length, drop, Result, Ok, Err}
use Rattle.std.specs.List.{list_any}
use Rattle.fab_base.specs.Layout.{field, byte, little_endian, zeros}
use Rattle.fc_check.specs.Crc.{crc, crc_bytes}
use Rattle.fc_frames.specs.Frame as fc
use Rattle.fcoe_codec.specs.declared.FcoeFrame.{FcoeFrame}
use Rattle.fcoe_codec.specs.declared.FcoeFault.{FcoeFault}
use Rattle.fcoe_codec.specs.declared.FcoeFault.TheVariants.{Length, Version, Sof, Eof, Crc}

-- A frame between its delimiters.
pub record Fcoe : Type 0 where
  pub sof : ℕ
  pub eof : ℕ
  pub frame : fc.Frame

-- a frame of the code, without where its payload lies in memory
abbrev pub view : FcoeFrame → Fcoe
view f = record { sof = f.sof; eof = f.eof; frame = fc.view f.frame }

abbrev pub SOF_I3 : ℕ
SOF_I3 = 0x2e

abbrev pub SOF_N3 : ℕ
SOF_N3 = 0x36

abbrev pub SOF_I2 : ℕ
SOF_I2 = 0x2d

abbrev pub SOF_N2 : ℕ
SOF_N2 = 0x35

abbrev pub SOF_F : ℕ
SOF_F = 0x28

abbrev pub EOF_N : ℕ
EOF_N = 0x41

abbrev pub EOF_T : ℕ
EOF_T = 0x42

abbrev pub EOF_NI : ℕ
EOF_NI = 0x49

abbrev pub EOF_A : ℕ
EOF_A = 0x50

-- SOFi3, SOFn3, SOFi2, SOFn2 and SOFf
abbrev pub is_sof : ℕ → Bool
is_sof code = list_any (λ c. c == code) (SOF_I3 ∷ SOF_N3 ∷ SOF_I2 ∷ SOF_N2 ∷ SOF_F ∷ [])

-- EOFn, EOFt, EOFni and EOFa
abbrev pub is_eof : ℕ → Bool
is_eof code = list_any (λ c. c == code) (EOF_N ∷ EOF_T ∷ EOF_NI ∷ EOF_A ∷ [])

-- delimiters of class 3, of a first or later frame
abbrev pub is_class3 : Fcoe → Bool
is_class3 f = (f.sof == SOF_I3 || f.sof == SOF_N3) && (f.eof == EOF_N || f.eof == EOF_T)

-- delimiters of a frame that is a whole sequence of class 3
abbrev pub is_sequence : Fcoe → Bool
is_sequence f = f.sof == SOF_I3 && f.eof == EOF_T

-- the places of the SOF and of the header; behind the payload stand the CRC, the EOF and three reserved bytes
abbrev pub SOF_AT : ℕ
SOF_AT = 13

abbrev pub HEADER_AT : ℕ
HEADER_AT = 14

abbrev pub TAIL : ℕ
TAIL = 8

-- the header and the payload
abbrev pub covered : List ℕ → List ℕ
covered body = field body HEADER_AT (length body - HEADER_AT - TAIL)

abbrev pub crc_found : List ℕ → ℕ
crc_found body = little_endian (field body (length body - TAIL) 4)

abbrev pub eof_of : List ℕ → ℕ
eof_of body = byte body (length body - 4)

-- the frame in these bytes
abbrev pub frame_in : List ℕ → fc.Frame
frame_in l = record { head = fc.header_of l; payload = drop 24 l }

-- the tests of reading, in their order, and else the frame
unfoldable pub decoded : List ℕ → Result Fcoe FcoeFault
decoded body =
    elim (nat_le 46 (length body) && nat_le (length body) 2158 && length body % 4 == 2) [
      | false ↦ Err Length
      | true ↦ elim (byte body 0 / 16 == 0) [
        | false ↦ Err Version
        | true ↦ elim (is_sof (byte body SOF_AT)) [
          | false ↦ Err Sof
          | true ↦ elim (is_eof (eof_of body)) [
            | false ↦ Err Eof
            | true ↦ (let made = crc (covered body) in
                if crc_found body == made
                then Ok (record { sof = byte body SOF_AT; eof = eof_of body; frame = frame_in (covered body) })
                else Err (Crc (crc_found body) made))
          ]
        ]
      ]
    ]

-- what is written: reserved bytes are 0
unfoldable pub written : Fcoe → List ℕ
written f =
    zeros SOF_AT ++ f.sof ∷ fc.frame_bytes f.frame ++ crc_bytes (crc (fc.frame_bytes f.frame)) ++ f.eof ∷ zeros 3

-- A frame stands so in a body: reserved bytes are free.
pub record IsFcoe (f : Fcoe) (body : List ℕ) : Type 0 where
  pub long : length body ≡ 46 + length f.frame.payload
  pub version : byte body 0 / 16 ≡ 0
  pub sof : byte body SOF_AT ≡ f.sof
  pub sof_known : IsTrue (is_sof f.sof)
  pub frame : fc.IsFrame f.frame (covered body)
  pub check : field body (length body - TAIL) 4 ≡ crc_bytes (crc (covered body))
  pub eof : eof_of body ≡ f.eof
  pub eof_known : IsTrue (is_eof f.eof)

-- what can be written: known delimiters and a frame whose fields fit
pub record MayBeWritten (f : Fcoe) : Type 0 where
  pub sof : IsTrue (is_sof f.sof)
  pub eof : IsTrue (is_eof f.eof)
  pub head : fc.Fits f.frame.head
  pub payload : fc.IsPayload f.frame.payload
