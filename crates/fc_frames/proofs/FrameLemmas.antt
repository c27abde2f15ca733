-- The layout against reading and writing.
use Rattle.std.proofs.Common.{◌≡◌, ℕ, ◌+◌, ◌-◌, ◌%◌, ◌≤◌, Bool, not, cond, ltb, eqb, List, ◌∷◌, ◌++◌, length, length-drop, drop, Result, Ok, refl, sym, ap, subst, ◌∙◌, arith}
use Rattle.std.proofs.lemmas.Bool.{le-ltb}
use Rattle.fab_base.specs.Layout.{byte, number, spelled}
use Rattle.fab_base.proofs.LayoutLemmas.{AreBytes, big_endian-spelled, cut_byte, cut_number, number_fits}
use Rattle.fc_frames.specs.declared.FcHeader.{FcHeader}
use Rattle.fc_frames.specs.declared.FcFault.{FcFault}
use Rattle.fc_frames.specs.Frame.{Frame, Fits, IsFrame, IsPayload, decoded, frame_bytes, header_bytes, header_of}

-- the three tests of a frame that passes them
tests : {A : Type 0} (m : ℕ) (e1 e2 e3 r : A) → 24 ≤ m → m % 4 ≡ 0 → m - 24 ≤ 2112 → cond (ltb m 24) e1 (cond (not (eqb (m % 4) 0)) e2 (cond (ltb 2112 (m - 24)) e3 r)) ≡ r
tests {A} m e1 e2 e3 r long words most =
    let P : Bool → A = λ b. cond b e1 (cond (not (eqb (m % 4) 0)) e2 (cond (ltb 2112 (m - 24)) e3 r)) in
    let Q : ℕ → A = λ n. cond (not (eqb n 0)) e2 (cond (ltb 2112 (m - 24)) e3 r) in
    let R : Bool → A = λ b. cond b e3 r in
    ap P (le-ltb m 24 long) ∙ ap Q words ∙ ap R (le-ltb 2112 (m - 24) most)

same_header : (h : FcHeader) (d s f cnt ox rx p : ℕ) → d ≡ h.d_id → s ≡ h.s_id → f ≡ h.f_ctl → cnt ≡ h.seq_cnt → ox ≡ h.ox_id → rx ≡ h.rx_id → p ≡ h.parameter → (let g : FcHeader = record { r_ctl = h.r_ctl; d_id = d; cs_ctl = h.cs_ctl; s_id = s; kind = h.kind; f_ctl = f; seq_id = h.seq_id; df_ctl = h.df_ctl; seq_cnt = cnt; ox_id = ox; rx_id = rx; parameter = p } in g ≡ h)
same_header h d s f cnt ox rx p is_d is_s is_f is_cnt is_ox is_rx is_p = rw (is_d, is_s, is_f, is_cnt, is_ox, is_rx, is_p)

header_of-bytes : (h : FcHeader) (payload : List ℕ) → Fits h → header_of (header_bytes h ++ payload) ≡ h
header_of-bytes h payload fits =
    same_header h _ _ _ _ _ _ _ (big_endian-spelled 3 h.d_id fits.d_id) (big_endian-spelled 3 h.s_id fits.s_id) (big_endian-spelled 3 h.f_ctl fits.f_ctl)
    (big_endian-spelled 2 h.seq_cnt fits.seq_cnt) (big_endian-spelled 2 h.ox_id fits.ox_id) (big_endian-spelled 2 h.rx_id fits.rx_id) (big_endian-spelled 4 h.parameter fits.parameter)

decoded-bytes : (f : Frame) → Fits f.head → IsPayload f.payload → decoded (frame_bytes f) ≡ Ok f
unfolding decoded
decoded-bytes f fits is_payload =
    tests (length (frame_bytes f)) _ _ _ _ (omega arith) (omega (arith, is_payload.words)) (omega (arith, is_payload.most))
    ∙ ap (λ (h : FcHeader). Ok (record { head = h; payload = f.payload })) (header_of-bytes f.head f.payload fits)

-- bytes that pass the tests are a frame
pub decoded-whole : (l : List ℕ) → 24 ≤ length l → length l % 4 ≡ 0 → length l - 24 ≤ 2112 → decoded l ≡ Ok (record { head = header_of l; payload = drop 24 l })
unfolding decoded
decoded-whole l long words most = tests (length l) _ _ _ _ long words most

-- bytes in which a frame stands are read as that frame
pub decoded-is : (f : Frame) (l : List ℕ) → IsFrame f l → decoded l ≡ Ok f
decoded-is f l is = ap decoded is.bytes ∙ decoded-bytes f is.head is.payload

pub same_frame : (f g : Frame) (l : List ℕ) → IsFrame f l → IsFrame g l → f ≡ g
same_frame f g l is_f is_g =
    let Is : Result Frame FcFault → Type 0 = λ r. r ≡ Ok g in
    let e : Is (Ok f) = sym (decoded-is f l is_f) ∙ decoded-is g l is_g in
    cc

pub is_written : (f : Frame) → Fits f.head → IsPayload f.payload → IsFrame f (frame_bytes f)
is_written f fits is_payload = record { head = fits; payload = is_payload; bytes = refl }

-- ---- what reading finds is the frame of the layout

module _ (l : List ℕ) (bytes : AreBytes l) (long : 24 ≤ length l) where
  header_fits : Fits (header_of l)
  header_fits = record {
    r_ctl = bytes 0;
    d_id = number_fits l 1 3 bytes (omega arith);
    cs_ctl = bytes 4;
    s_id = number_fits l 5 3 bytes (omega arith);
    kind = bytes 8;
    f_ctl = number_fits l 9 3 bytes (omega arith);
    seq_id = bytes 12;
    df_ctl = bytes 13;
    seq_cnt = number_fits l 14 2 bytes (omega arith);
    ox_id = number_fits l 16 2 bytes (omega arith);
    rx_id = number_fits l 18 2 bytes (omega arith);
    parameter = number_fits l 20 4 bytes (omega arith);
  }

  one : (from : ℕ) (rest : List ℕ) → from + 1 ≤ length l → drop (from + 1) l ≡ rest → drop from l ≡ byte l from ∷ rest
  one from rest fits is = cut_byte l from fits ∙ ap (λ m. byte l from ∷ m) is

  some : (from count : ℕ) (rest : List ℕ) → from + count ≤ length l → drop (from + count) l ≡ rest → drop from l ≡ spelled count (number l from count) ++ rest
  some from count rest fits is = cut_number l from count bytes fits ∙ ap (λ m. spelled count (number l from count) ++ m) is

  bytes_of_header : l ≡ header_bytes (header_of l) ++ drop 24 l
  bytes_of_header =
      one 0 _ (omega arith) (some 1 3 _ (omega arith) (one 4 _ (omega arith) (some 5 3 _ (omega arith) (one 8 _ (omega arith) (some 9 3 _ (omega arith)
      (one 12 _ (omega arith) (one 13 _ (omega arith) (some 14 2 _ (omega arith) (some 16 2 _ (omega arith) (some 18 2 _ (omega arith) (some 20 4 (drop 24 l) (omega arith) refl)))))))))))

  pub layout : (h : FcHeader) (payload : List ℕ) → length l % 4 ≡ 0 → length l - 24 ≤ 2112 → h ≡ header_of l → payload ≡ drop 24 l → IsFrame (record { head = h; payload = payload }) l
  layout h payload words most is_head is_payload =
      let same : Is (record { head = header_of l; payload = drop 24 l }) = record {
        head = header_fits;
        payload = record { words = omega (arith, length-drop 24 l); most = omega (arith, length-drop 24 l) };
        bytes = bytes_of_header;
      } in
      subst (λ (g : FcHeader). Is (record { head = g; payload = payload })) (sym is_head) (subst (λ m. Is (record { head = header_of l; payload = m })) (sym is_payload) same)
    where
      Is : Frame → Type 0
      Is f = IsFrame f l
