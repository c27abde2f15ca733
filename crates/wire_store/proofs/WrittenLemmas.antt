-- A packet of a stream is read as its frame.
use Rattle.std.proofs.Common.{◌≡◌, ℕ, zero, suc, ◌+◌, ◌-◌, ◌*◌, ◌/◌, ◌%◌, ◌^◌, ◌<◌, ◌≤◌, false, not, ◌||◌, eqb, ltb, List, [], ◌∷◌, ◌++◌, length, length-append, append_assoc, take, drop, Option, Some, refl, sym, ap, ◌∙◌, subst, arith}
use Rattle.std.proofs.lemmas.Bool.{le-ltb, lt-leb, eq-eqb}
use Rattle.std.proofs.lemmas.List.{append-nil, take_at, drop_at, length-replicate}
use Rattle.std.specs.Prelude.{slice_get, is_none, unwrap_or}
use Rattle.fab_base.specs.Layout.{field, little_endian, spelled_low}
use Rattle.fab_base.proofs.LayoutLemmas.{little_endian-spelled, field-append}
use Rattle.pcap_file.specs.Capture.{at_place}
use Rattle.pcapng_file.specs.declared.NgRecord.{NgRecord}
use Rattle.pcapng_file.specs.declared.block.Interface.{Interface}
use Rattle.pcapng_file.specs.Block.{NoneHolds, named, padded, units, stored, original, no_interface, interface_at, timed_tests, packet_tests, body_tests, record_of, record_in}
use Rattle.pcapng_file.specs.File.{Section, before_all, head_at, IsPacketKept, AreKept, IsNg}
use Rattle.pcapng_file.specs.Stream.{Parts, Goes, BeginsWith}
use Rattle.pcapng_file.proofs.StreamLemmas.{goes_on, goes_more}
use Rattle.pcapng_file.proofs.StreamedLemmas.{stream_file}
use Rattle.wire_store.specs.declared.Heard.{Heard}
use Rattle.wire_store.specs.Written.{stream_head, nano_face, faces_of, section_of, block_size, block_front, filling, block_bytes, blocks_bytes, Fits, AllFit, packet_of, packets_of}
use Rattle.wire_store.proofs.HeadLemmas.{head_goes}

face_at : (n i : ℕ) → i < n → slice_get (faces_of n) i ≡ Some nano_face
face_at zero i lt = absurd (omega arith)
face_at (suc n) zero lt = refl
face_at (suc n) (suc i) lt = face_at n i (omega arith)

fourths : (m x : ℕ) → m ≡ 32 + padded x → (not (eqb (m % 4) 0) || ltb m 32) ≡ false
fourths m x is =
    let rest : m % 4 ≡ 0 = omega arith in
    let most : 32 ≤ m = omega arith in
    (λ i. not (eq-eqb (m % 4) 0 rest i) || le-ltb m 32 most i)

module _ (n : ℕ) (few : n ≤ 2 ^ 32) (h : Heard) (fits : Fits n h) where
  room : length h.frame ≤ padded (length h.frame)
  room = let m = length h.frame in let e : m ≤ (m + 3) / 4 * 4 = omega arith in e

  bound : padded (length h.frame) ≤ 65538
  bound = let m = length h.frame in let small : m ≤ 65535 = fits.frame in let e : (m + 3) / 4 * 4 ≤ 65538 = omega arith in e

  size_small : block_size h < 256 ^ 4
  size_small = omega (arith, bound)

  -- ---- numbers of the block

  long : length (block_bytes h) ≡ block_size h
  long = omega (arith, room, length-append (block_front h ++ h.frame ++ filling h) (spelled_low 4 (block_size h)), length-append (block_front h ++ h.frame) (filling h), length-append (block_front h) h.frame, length-replicate {A = ℕ} (padded (length h.frame) - length h.frame) 0)

  size_is : at_place false (block_bytes h) 4 4 ≡ block_size h
  size_is = little_endian-spelled 4 (block_size h) size_small

  face_is : at_place false (block_bytes h) 8 4 ≡ h.face
  face_is = let lt = fits.face in little_endian-spelled 4 h.face (omega arith)

  units_is : units false (block_bytes h) ≡ h.nanos
  units_is =
      let below = fits.nanos in
      let high : at_place false (block_bytes h) 12 4 ≡ h.nanos / 2 ^ 32 = little_endian-spelled 4 (h.nanos / 2 ^ 32) (omega arith) in
      let low : at_place false (block_bytes h) 16 4 ≡ h.nanos % 2 ^ 32 = little_endian-spelled 4 (h.nanos % 2 ^ 32) (omega arith) in
      (λ i. high i * 2 ^ 32 + low i) ∙ (let e : h.nanos / 4294967296 * 4294967296 + h.nanos % 4294967296 ≡ h.nanos = omega arith in e)

  stored_is : stored false (block_bytes h) ≡ length h.frame
  stored_is = let small = fits.frame in little_endian-spelled 4 (length h.frame) (omega arith)

  original_is : original false (block_bytes h) ≡ length h.frame
  original_is = let small = fits.frame in little_endian-spelled 4 (length h.frame) (omega arith)

  second_is : at_place false (block_bytes h) (block_size h - 4) 4 ≡ block_size h
  second_is =
      let x : List ℕ = block_front h ++ h.frame ++ filling h in
      let s : List ℕ = spelled_low 4 (block_size h) in
      let at : length x ≡ block_size h - 4 = omega (arith, long, length-append x s) in
      ap little_endian (ap (λ (l : List ℕ). field l (block_size h - 4) 4) (sym (append-nil (block_bytes h))) ∙ field-append x s [] (block_size h - 4) 4 at refl) ∙ little_endian-spelled 4 (block_size h) size_small

  bytes_are : field (block_bytes h) 28 (length h.frame) ≡ h.frame
  bytes_are =
      ap (λ (l : List ℕ). field l 28 (length h.frame)) (append_assoc (block_front h ++ h.frame) (filling h) (spelled_low 4 (block_size h)))
      ∙ field-append (block_front h) h.frame (filling h ++ spelled_low 4 (block_size h)) 28 (length h.frame) refl refl

  interface_is : interface_at false (faces_of n) (block_bytes h) ≡ Some nano_face
  interface_is = ap (slice_get (faces_of n)) face_is ∙ face_at n h.face fits.face

  -- ---- the tests

  timed : NoneHolds (timed_tests nano_face false (block_bytes h))
  timed =
      let below = fits.nanos in
      let second : units false (block_bytes h) / 10 ^ 9 < 2 ^ 32 = let u = units false (block_bytes h) in let e : u ≡ h.nanos = units_is in let q : u / 1000000000 < 4294967296 = omega arith in q in
      (refl, (refl, (refl, (lt-leb (2 ^ 32) (units false (block_bytes h) / 10 ^ 9) second, (le-ltb 65535 (stored false (block_bytes h)) (omega (arith, stored_is, fits.frame)), tt)))))

  packet : NoneHolds (packet_tests false (faces_of n) (block_bytes h))
  packet = (
    (λ i. ltb (long i - 32) (padded (stored_is i))) ∙ le-ltb (block_size h - 32) (padded (length h.frame)) (omega arith),
    (ap is_none interface_is, subst (λ (o : Option Interface). NoneHolds (timed_tests (unwrap_or o no_interface) false (block_bytes h))) (sym interface_is) timed),
  )

  body : (size : ℕ) (b : List ℕ) → size ≡ block_size h → b ≡ block_bytes h → NoneHolds (body_tests (record { kind = named 6; big = false; size = size }) (faces_of n) b)
  body size b is_size is_b =
      let here : NoneHolds (body_tests (record { kind = named 6; big = false; size = block_size h }) (faces_of n) (block_bytes h)) =
      (ap not (eq-eqb (at_place false (block_bytes h) (block_size h - 4) 4) (block_size h) second_is), packet) in
      subst (λ (m : ℕ). NoneHolds (body_tests (record { kind = named 6; big = false; size = m }) (faces_of n) b)) (sym is_size)
      (subst (λ (c : List ℕ). NoneHolds (body_tests (record { kind = named 6; big = false; size = block_size h }) (faces_of n) c)) (sym is_b) here)

  record_is : (b : List ℕ) → b ≡ block_bytes h → record_in false (faces_of n) b ≡ packet_of h
  record_is b is_b =
      ap (record_in false (faces_of n)) is_b
      ∙ ap (λ (o : Option Interface). record_of (unwrap_or o no_interface) false (block_bytes h)) interface_is
      ∙ (λ i. record {
        moment = units_is i * 1000 / 10 ^ 9;
        caught = record { bytes = field (block_bytes h) 28 (stored_is i); whole = not (ltb (stored_is i) (original_is i)) };
        original = original_is i;
        face = face_is i;
      })
      ∙ (λ i. record {
        moment = (let e : h.nanos * 1000 / 1000000000 ≡ h.nanos / 1000000 = omega arith in e) i;
        caught = record { bytes = bytes_are i; whole = not (le-ltb (length h.frame) (length h.frame) (omega arith) i) };
        original = length h.frame;
        face = h.face;
      })

  -- ---- the block

  module _ (rest : List ℕ) where
    at_size : (head_at (section_of n) (block_bytes h ++ rest)).size ≡ block_size h
    at_size = size_is

    taken : take (head_at (section_of n) (block_bytes h ++ rest)).size (block_bytes h ++ rest) ≡ block_bytes h
    taken = take_at (block_bytes h) rest (head_at (section_of n) (block_bytes h ++ rest)).size (long ∙ sym at_size)

    behind : drop (head_at (section_of n) (block_bytes h ++ rest)).size (block_bytes h ++ rest) ≡ rest
    behind = drop_at (block_bytes h) rest (head_at (section_of n) (block_bytes h ++ rest)).size (long ∙ sym at_size)

    whole_long : block_size h ≤ length (block_bytes h ++ rest)
    whole_long = omega (arith, long, length-append (block_bytes h) rest)

    pub block_part : Parts 1 (section_of n) (packet_of h ∷ []) (block_bytes h ++ rest) (section_of n) rest
    block_part = (
      (le-ltb (length (block_bytes h ++ rest)) 12 (omega (arith, whole_long)), (refl, (refl, (fourths (head_at (section_of n) (block_bytes h ++ rest)).size (length h.frame) at_size, tt)))),
      (
        le-ltb (length (block_bytes h ++ rest)) (head_at (section_of n) (block_bytes h ++ rest)).size (omega (arith, whole_long, at_size)),
        body (head_at (section_of n) (block_bytes h ++ rest)).size (take (head_at (section_of n) (block_bytes h ++ rest)).size (block_bytes h ++ rest)) at_size taken,
      ),
      [],
      ap (λ (r : NgRecord). r ∷ []) (sym (record_is (take (head_at (section_of n) (block_bytes h ++ rest)).size (block_bytes h ++ rest)) taken)),
      (refl, refl, behind),
    )

  pub kept_one : IsPacketKept (packet_of h)
  kept_one = record {
    moment = (let below = fits.nanos in let e : h.nanos / 1000000 < 4294967296000 = omega arith in e);
    stored = fits.frame;
    original = (let small = fits.frame in let e : length h.frame < 4294967296 = omega arith in e);
    whole = sym (ap not (le-ltb (length h.frame) (length h.frame) (omega arith)));
  }

goes_some : (n : ℕ) (s : Section) (v w : List NgRecord) (l : List ℕ) (t : Section) (m : List ℕ) (u : Section) (z : List ℕ) → Parts n s v l t m → Goes w t m u z → Goes (v ++ w) s l u z
goes_some = goes_more

pub blocks_go : (n : ℕ) → n ≤ 2 ^ 32 → (hs : List Heard) → AllFit n hs → (rest : List ℕ) → Goes (packets_of hs) (section_of n) (blocks_bytes hs ++ rest) (section_of n) rest
blocks_go n few [] fit rest = (0, (refl, refl, refl))
blocks_go n few (h ∷ hs) fit rest =
    subst (λ (z : List ℕ). Goes (packets_of (h ∷ hs)) (section_of n) z (section_of n) rest) (sym (append_assoc (block_bytes h) (blocks_bytes hs) rest))
    (goes_some 1 (section_of n) (packet_of h ∷ []) (packets_of hs) (block_bytes h ++ (blocks_bytes hs ++ rest)) (section_of n) (blocks_bytes hs ++ rest) (section_of n) rest (block_part n few h fit.0 (blocks_bytes hs ++ rest)) (blocks_go n few hs fit.1 rest))

pub stream_begins : (n : ℕ) (hs : List Heard) (rest : List ℕ) → n ≤ 2 ^ 32 → AllFit n hs → BeginsWith (packets_of hs) (stream_head n ++ (blocks_bytes hs ++ rest)) (section_of n) rest
stream_begins n hs rest few fit =
    goes_on before_all (packets_of hs) (stream_head n ++ (blocks_bytes hs ++ rest)) (section_of n) (blocks_bytes hs ++ rest) (section_of n) rest (head_goes n (blocks_bytes hs ++ rest)) (blocks_go n few hs fit rest)

pub stream_whole : (n : ℕ) (hs : List Heard) → n ≤ 2 ^ 32 → AllFit n hs → IsNg (packets_of hs) (stream_head n ++ blocks_bytes hs)
stream_whole n hs few fit =
    stream_file (packets_of hs) (stream_head n ++ blocks_bytes hs) (section_of n)
    (subst (λ (z : List ℕ). BeginsWith (packets_of hs) (stream_head n ++ z) (section_of n) []) (append-nil (blocks_bytes hs)) (stream_begins n hs [] few fit)) refl

pub packets_kept : (n : ℕ) (hs : List Heard) → n ≤ 2 ^ 32 → AllFit n hs → AreKept (packets_of hs)
packets_kept n [] few fit = tt
packets_kept n (h ∷ hs) few fit = (kept_one n few h fit.0, packets_kept n hs few fit.1)
