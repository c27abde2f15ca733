-- The layout against reading and writing.
use Rattle.std.proofs.Common.{◌≡◌, ℕ, ◌+◌, ◌-◌, ◌*◌, ◌/◌, ◌%◌, ◌≤◌, Bool, true, false, cond, ◌&&◌, leb, eqb, List, [], ◌∷◌, ◌++◌, length, length-append, append_assoc, drop, Result, Ok, Err, OnOk, refl, sym, ap, subst, ◌∙◌, arith}
use Rattle.std.proofs.Math.Seq.{get_or-append_seam}
use Rattle.std.proofs.lemmas.List.{drop_at}
use Rattle.std.proofs.lemmas.Bool.{le-leb, eq-eqb}
use Rattle.std.specs.Int.{bytes_low_first}
use Rattle.fab_base.specs.Layout.{field, byte, little_endian, zeros}
use Rattle.fab_base.proofs.LayoutLemmas.{AreBytes, field-append, length-field, little_endian-spelled, bytes_of_field}
use Rattle.fc_check.specs.Crc.{crc, crc_bytes}
use Rattle.fc_check.proofs.Words.{crc-lt}
use Rattle.fc_frames.specs.declared.FcFault.{FcFault}
use Rattle.fc_frames.specs.Frame as fc
use Rattle.fc_frames.proofs.FrameLemmas as frames
use Rattle.fcoe_codec.specs.declared.FcoeFault.{FcoeFault}
use Rattle.fcoe_codec.specs.declared.FcoeFault.TheVariants.{Length, Version, Sof, Eof, Crc}
use Rattle.fcoe_codec.specs.Fcoe.{Fcoe, IsFcoe, MayBeWritten, is_sof, is_eof, covered, crc_found, eof_of, frame_in, decoded, written}

-- ---- what reading finds is the frame of the layout

-- four bytes are what their number spells
four_bytes : (l : List ℕ) → length l ≡ 4 → AreBytes l → bytes_low_first 0 4 (little_endian l) ≡ l
four_bytes [] len bytes = absurd (omega arith)
four_bytes (a ∷ []) len bytes = absurd (omega arith)
four_bytes (a ∷ b ∷ []) len bytes = absurd (omega arith)
four_bytes (a ∷ b ∷ c ∷ []) len bytes = absurd (omega arith)
four_bytes (a ∷ b ∷ c ∷ d ∷ []) len bytes =
    let first = bytes 0 in
    let second = bytes 1 in
    let third = bytes 2 in
    let fourth = bytes 3 in
    let n : ℕ = a + 256 * (b + 256 * (c + 256 * (d + 256 * 0))) in
    let is_a : n % 256 ≡ a = omega arith in
    let is_b : n / 256 % 256 ≡ b = omega arith in
    let is_c : n / 65536 % 256 ≡ c = omega arith in
    let is_d : n / 16777216 % 256 ≡ d = omega arith in
    let same : (n % 256) ∷ (n / 256 % 256) ∷ (n / 65536 % 256) ∷ (n / 16777216 % 256) ∷ [] ≡ a ∷ b ∷ c ∷ d ∷ [] = cc in
    same
four_bytes (a ∷ b ∷ c ∷ d ∷ e ∷ l) len bytes = absurd (omega arith)

-- the frame of bytes that pass the tests on their length
pub frame-is : (l : List ℕ) (f : fc.Frame) → fc.IsFrame f l → frame_in l ≡ f
frame-is l f is =
    let parts = ap length is.bytes in
    let len : length l ≡ 24 + length f.payload = omega arith in
    let most = is.payload.most in
    let words = is.payload.words in
    let Is : Result fc.Frame FcFault → Type 0 = λ r. r ≡ Ok f in
    let e : Is (Ok (frame_in l)) = sym (frames.decoded-whole l (omega arith) (omega arith) (omega arith)) ∙ frames.decoded-is f l is in
    cc

-- what the tests find of a body in which a frame stands
pub layout : (body inner : List ℕ) (sof eof : ℕ) (frame : fc.Frame) → AreBytes body → 46 ≤ length body → byte body 0 / 16 ≡ 0 → sof ≡ byte body 13 → is_sof sof ≡ true → eof ≡ byte body (length body - 4) → is_eof eof ≡ true → inner ≡ covered body → fc.IsFrame frame inner → crc_found body ≡ crc inner → IsFcoe (record { sof = sof; eof = eof; frame = frame }) body
layout body inner sof eof frame bytes least version sof_at sof_known eof_at eof_known covers is_frame same =
    let is_here : fc.IsFrame frame (covered body) = subst (fc.IsFrame frame) covers is_frame in
    let parts = ap length is_here.bytes in
    let len : length (covered body) ≡ 24 + length frame.payload = omega arith in
    let field_len : length (covered body) ≡ length body - 14 - 8 = length-field body 14 (length body - 14 - 8) (omega arith) in
    let check_len : length (field body (length body - 8) 4) ≡ 4 = length-field body (length body - 8) 4 (omega arith) in
    record {
      long = omega arith;
      version = version;
      sof = sym sof_at;
      sof_known = sof_known;
      frame = is_here;
      check = sym (four_bytes (field body (length body - 8) 4) check_len (bytes_of_field body (length body - 8) 4 bytes)) ∙ ap crc_bytes (same ∙ ap crc covers);
      eof = sym eof_at;
      eof_known = eof_known;
    }

-- ---- bytes in which a frame stands are read as that frame

abbrev ladder : Fcoe → ℕ → ℕ → Bool → Bool → Bool → Bool → Bool → Result Fcoe FcoeFault
ladder f found made long version sof eof same =
    elim long [
      | false ↦ Err Length
      | true ↦ elim version [
        | false ↦ Err Version
        | true ↦ elim sof [
          | false ↦ Err Sof
          | true ↦ elim eof [
            | false ↦ Err Eof
            | true ↦ cond same (Ok f) (Err (Crc found made))
          ]
        ]
      ]
    ]

climbed : (f : Fcoe) (found made : ℕ) (long version sof eof same : Bool) → long ≡ true → version ≡ true → sof ≡ true → eof ≡ true → same ≡ true → ladder f found made long version sof eof same ≡ Ok f
climbed f found made long version sof eof same is_long is_version is_sof is_eof is_same =
    ap (λ b. ladder f found made b version sof eof same) is_long ∙ ap (λ b. ladder f found made true b sof eof same) is_version
    ∙ ap (λ b. ladder f found made true true b eof same) is_sof ∙ ap (λ b. ladder f found made true true true b same) is_eof
    ∙ ap (ladder f found made true true true true) is_same

module _ (f : Fcoe) (body : List ℕ) (is : IsFcoe f body) where
  all_true : (a b c : Bool) → a ≡ true → b ≡ true → c ≡ true → a && b && c ≡ true
  all_true a b c x y z = ap (λ v. v && b && c) x ∙ ap (λ v. true && v && c) y ∙ z

  long : leb 46 (length body) && leb (length body) 2158 && eqb (length body % 4) 2 ≡ true
  long =
      let len = is.long in
      let most = is.frame.payload.most in
      let words = is.frame.payload.words in
      all_true _ _ _ (le-leb 46 (length body) (omega arith)) (le-leb (length body) 2158 (omega arith)) (eq-eqb (length body % 4) 2 (omega arith))

  found : crc_found body ≡ crc (covered body)
  found = ap little_endian is.check ∙ little_endian-spelled 4 (crc (covered body)) (crc-lt (covered body))

  same_parts : (sof eof : ℕ) (frame : fc.Frame) → sof ≡ f.sof → eof ≡ f.eof → frame ≡ f.frame → (let g : Fcoe = record { sof = sof; eof = eof; frame = frame } in g ≡ f)
  same_parts sof eof frame is_sof is_eof is_frame = rw (is_sof, is_eof, is_frame)

  pub decoded-is : decoded body ≡ Ok f
  unfolding decoded
  decoded-is =
      climbed _ (crc_found body) (crc (covered body)) _ _ _ _ _ long (eq-eqb (byte body 0 / 16) 0 is.version) (subst (λ (n : ℕ). is_sof n ≡ true) (sym is.sof) is.sof_known)
      (subst (λ (n : ℕ). is_eof n ≡ true) (sym is.eof) is.eof_known) (eq-eqb (crc_found body) (crc (covered body)) found)
      ∙ ap Ok (same_parts (byte body 13) (eof_of body) (frame_in (covered body)) is.sof is.eof (frame-is (covered body) f.frame is.frame))

pub same_frame : (f g : Fcoe) (body : List ℕ) → IsFcoe f body → IsFcoe g body → f ≡ g
same_frame f g body is_f is_g =
    let Is : Result Fcoe FcoeFault → Type 0 = λ r. r ≡ Ok g in
    let e : Is (Ok f) = sym (decoded-is f body is_f) ∙ decoded-is g body is_g in
    cc

-- ---- what is written

module _ (front inner check tail : List ℕ) (e : ℕ) (is_front : length front ≡ 14) (is_check : length check ≡ 4) (is_tail : length tail ≡ 3) where
  abbrev whole : List ℕ
  whole = ((front ++ inner) ++ check) ++ (e ∷ tail)

  pub length-whole : length whole ≡ 22 + length inner
  length-whole = omega (arith, length-append ((front ++ inner) ++ check) (e ∷ tail), length-append (front ++ inner) check, length-append front inner)

  pub covered-whole : field whole 14 (length whole - 14 - 8) ≡ inner
  covered-whole =
      ap (λ l. field l 14 (length whole - 14 - 8)) (append_assoc (front ++ inner) check (e ∷ tail))
      ∙ field-append front inner (check ++ (e ∷ tail)) 14 (length whole - 14 - 8) is_front (omega (arith, length-whole))

  pub check-whole : field whole (length whole - 8) 4 ≡ check
  check-whole = field-append (front ++ inner) check (e ∷ tail) (length whole - 8) 4 (omega (arith, length-whole, length-append front inner)) is_check

  pub eof-whole : byte whole (length whole - 4) ≡ e
  eof-whole =
      let at : length whole - 4 ≡ length ((front ++ inner) ++ check) = omega (arith, length-whole, length-append (front ++ inner) check, length-append front inner) in
      ap (byte whole) at ∙ get_or-append_seam ((front ++ inner) ++ check) e tail 0

pub length-written : (f : Fcoe) → length (written f) ≡ 46 + length f.frame.payload
unfolding written
length-written f =
    let inner = fc.frame_bytes f.frame in
    let whole : length (written f) ≡ 22 + length inner = length-whole (zeros 13 ++ f.sof ∷ []) inner (crc_bytes (crc inner)) (zeros 3) f.eof refl refl refl in
    omega arith

pub is_written : (f : Fcoe) → MayBeWritten f → IsFcoe f (written f)
unfolding written
is_written f may =
    let inner = fc.frame_bytes f.frame in
    let check = crc_bytes (crc inner) in
    let front = zeros 13 ++ f.sof ∷ [] in
    let covers : covered (written f) ≡ inner = covered-whole front inner check (zeros 3) f.eof refl refl refl in
    record {
      long = length-written f;
      version = refl;
      sof = refl;
      sof_known = may.sof;
      frame = subst (fc.IsFrame f.frame) (sym covers) (frames.is_written f.frame may.head may.payload);
      check = check-whole front inner check (zeros 3) f.eof refl refl refl ∙ ap (λ l. crc_bytes (crc l)) (sym covers);
      eof = eof-whole front inner check (zeros 3) f.eof refl refl refl;
      eof_known = may.eof;
    }

regroup : (old start inner check tail : List ℕ) → (((old ++ start) ++ inner) ++ check) ++ tail ≡ old ++ (((start ++ inner) ++ check) ++ tail)
regroup old start inner check tail = simp append_assoc

-- what is appended part by part, the CRC being that of what stands from a place on
pub appended : (f : Fcoe) (old one two three new check : List ℕ) (from : ℕ) → one ≡ old ++ (zeros 13 ++ f.sof ∷ []) → length one ≡ from → two ≡ one ++ fc.frame_bytes f.frame → check ≡ crc_bytes (crc (drop from two)) → three ≡ two ++ check → new ≡ three ++ f.eof ∷ zeros 3 → new ≡ old ++ written f
unfolding written
appended f old one two three new check from is_one is_from is_two is_check is_three is_new =
    let start : List ℕ = zeros 13 ++ f.sof ∷ [] in
    let tail : List ℕ = f.eof ∷ zeros 3 in
    let inner = fc.frame_bytes f.frame in
    let covers : drop from two ≡ inner = ap (drop from) is_two ∙ drop_at one inner from is_from in
    let made : check ≡ crc_bytes (crc inner) = is_check ∙ ap (λ l. crc_bytes (crc l)) covers in
    let front : two ≡ (old ++ start) ++ inner = is_two ∙ ap (λ l. l ++ inner) is_one in
    is_new ∙ ap (λ l. l ++ tail) (is_three ∙ ap (λ l. l ++ check) front ∙ ap (λ l. ((old ++ start) ++ inner) ++ l) made) ∙ regroup old start inner (crc_bytes (crc inner)) tail

-- what a call ensures where it is Ok
pub from_ok : {E A P : Type 0} (r : Result A E) (x : A) → r ≡ Ok x → OnOk r P → P
from_ok {E} {A} {P} r x ok on = let Q : Result A E → Type 0 = λ s. OnOk s P in subst Q ok on
