-- The head of a capture, from its buffer.
use Rattle.std.proofs.Common.{◌≡◌, ℕ, ◌-◌, ◌<◌, ◌≤◌, inl, inr, Bool, true, false, not, ◌&&◌, ◌==◌, if◌then◌else◌, ltb, List, [], ◌++◌, length, length-append, take, drop, Option, Some, None, Ok, Err, IsTrue, refl, sym, ap, ◌∙◌, subst, arith}
use Rattle.std.specs.Prelude.{Result}
use Rattle.std.proofs.lemmas.Bool.{lt-ltb, le-ltb}
use Rattle.std.proofs.lemmas.List.{drop_at, length-take-le, append-nil, take_all}
use Rattle.fab_base.specs.Seen.{Seen}
use Rattle.pcap_file.specs.declared.Budget.{Budget}
use Rattle.pcap_file.specs.declared.CaptureHead.{CaptureHead}
use Rattle.pcap_file.specs.declared.CapFault.{CapFault}
use Rattle.pcap_file.specs.declared.CapFault.TheVariants.{Short, BadMagic, BadVersion, NotEthernet}
use Rattle.pcap_file.specs.declared.CapOpen.TheVariants as opens
use Rattle.pcap_file.specs.Capture.{at_place, MICRO, NANO, head_decoded}
use Rattle.pcap_file.specs.Reading.{Pulls, OpensReader, supply}
use Rattle.pcap_file.proofs.NextLemmas.{at_front}
use Rattle.pcap_file.proofs.lemmas.Numbers.{le_or_lt}
use Rattle.pcap_file.proofs.lemmas.Buffers.{front_is}

abbrev pub magic : ℕ → ℕ → Option CaptureHead
magic low high =
    if low == MICRO then Some (record { big = false; nano = false })
    else if low == NANO then Some (record { big = false; nano = true })
    else if high == MICRO then Some (record { big = true; nano = false })
    else if high == NANO then Some (record { big = true; nano = true })
    else None

-- the ladder of the tests
abbrev pub ladder : Bool → ℕ → ℕ → (Bool → ℕ) → (Bool → ℕ) → (Bool → ℕ) → Result CaptureHead CapFault
ladder short low high major minor link = elim short [
  | true ↦ Err Short
  | false ↦ elim (magic low high) [
    | None ↦ Err BadMagic
    | Some h ↦
        if not (major h.big == 2 && minor h.big == 4) then Err BadVersion
        else if not (link h.big == 1) then Err NotEthernet
        else Ok h
  ]
]

head_is : (l : List ℕ) → head_decoded l ≡ ladder (ltb (length l) 24) (at_place false l 0 4) (at_place true l 0 4) (λ b. at_place b l 4 2) (λ b. at_place b l 6 2) (λ b. at_place b l 20 4)
unfolding head_decoded
head_is l = refl

pub head_short : (l : List ℕ) → length l < 24 → head_decoded l ≡ Err Short
head_short l lt = head_is l ∙ (λ i. ladder (lt-ltb (length l) 24 lt i) (at_place false l 0 4) (at_place true l 0 4) (λ b. at_place b l 4 2) (λ b. at_place b l 6 2) (λ b. at_place b l 20 4))

-- what is behind a head changes nothing
pub head_front : (front rest : List ℕ) → length front ≡ 24 → head_decoded (front ++ rest) ≡ head_decoded front
head_front front rest sized =
    let long : ltb (length (front ++ rest)) 24 ≡ ltb (length front) 24 = le-ltb _ _ (omega (arith, length-append front rest)) ∙ sym (le-ltb _ _ (omega arith)) in
    head_is (front ++ rest)
    ∙ (λ i.
    ladder (long i) (at_front false front rest 0 4 (omega arith) i) (at_front true front rest 0 4 (omega arith) i)
    (λ b. at_front b front rest 4 2 (omega arith) i)
    (λ b. at_front b front rest 6 2 (omega arith) i)
    (λ b. at_front b front rest 20 4 (omega arith) i))
    ∙ sym (head_is front)

module _ (s : ℕ) (a b : Seen) (none held front : List ℕ) (n : ℕ) (had : Budget) (sized : length front ≡ 24) (empty : none ≡ []) (first : Pulls s front (supply none a) (supply held b) (Ok n)) (room : 24 ≤ had.bytes) where
  taken : IsTrue a.told → take n front ++ (held ++ b.left s) ≡ a.left s
  taken told = first.taken told ∙ ap (λ l. l ++ a.left s) empty

  whole : IsTrue a.told → 24 ≤ n → a.left s ≡ front ++ (held ++ b.left s)
  whole told le = front_is front (held ++ b.left s) (a.left s) 24 sized (subst (λ (k : ℕ). take k front ++ (held ++ b.left s) ≡ a.left s) (let is : n ≡ 24 = omega (arith, first.bound) in is) (taken told))

  decoded : IsTrue a.told → head_decoded (a.left s) ≡ head_decoded (take n front)
  decoded told = elim (le_or_lt 24 n) [
    | inl le ↦ ap head_decoded (whole told le) ∙ head_front front (held ++ b.left s) sized ∙ ap head_decoded (sym (take_all n front (omega arith)))
    | inr lt ↦
        let none_left : held ++ b.left s ≡ [] = first.ended told (omega arith) in
        ap head_decoded (sym (taken told) ∙ ap (λ l. take n front ++ l) none_left ∙ append-nil (take n front))
  ]

  pub open_failed : (fault : CapFault) → Err fault ≡ head_decoded (take n front) → OpensReader s a b had had (Err (opens.Head fault))
  open_failed fault is = record {
    reads = first.reads;
    begins = tt;
    taken = tt;
    head = λ told. tt;
    refused = λ told. decoded told ∙ sym is;
    untouched = refl;
    bytes = (λ h. absurd (cc), λ lt. absurd (omega arith));
    counts = first.counts;
  }

  pub open_done : (h : CaptureHead) → Ok h ≡ head_decoded (take n front) → OpensReader s a b had (record { bytes = had.bytes - 24; frames = had.frames }) (Ok (record { head = h; at = 24; greatest = 0; kept = None; held = held }))
  open_done h is = record {
    reads = first.reads;
    begins = (refl, refl, refl);
    taken = (omega arith, refl);
    head = λ told. elim (le_or_lt 24 n) [
      | inl le ↦ (decoded told ∙ sym is, sym (ap (drop 24) (whole told le) ∙ drop_at front (held ++ b.left s) 24 sized))
      | inr lt ↦ let short : Ok h ≡ Err Short = is ∙ head_short (take n front) (omega (arith, length-take-le n front first.bound)) in absurd (cc)
    ];
    refused = tt;
    untouched = tt;
    bytes = (λ h. absurd (cc), λ lt. absurd (omega arith));
    counts = first.counts;
  }
