-- Records one after another.
use Rattle.std.proofs.Common.{◌≡◌, ◌≢◌, ℕ, zero, suc, ◌+◌, ◌-◌, ◌≤◌, inl, inr, Bool, true, false, eqb, List, [], ◌∷◌, ◌++◌, length, length-drop, drop, Ok, Err, refl, sym, ap, ◌∙◌, subst, arith}
use Rattle.std.proofs.lemmas.List.{append-nil, drop-drop}
use Rattle.std.proofs.lemmas.Bool.{ne_eqb}
use Rattle.fab_base.specs.Layout.{field}
use Rattle.fab_base.specs.declared.values.Caught.{Caught}
use Rattle.fab_base.proofs.LayoutLemmas.{length-field}
use Rattle.pcap_file.specs.declared.CaptureHead.{CaptureHead}
use Rattle.pcap_file.specs.declared.CapFault.{CapFault}
use Rattle.pcap_file.specs.declared.Record.{Record}
use Rattle.pcap_file.specs.Capture.{HEAD, stored, Next, Found, End, CutHead, TooLong, CutBytes, next, head_decoded, records, records_from, is_whole_from, IsCapture}
use Rattle.pcap_file.specs.Records.{Chain, last_moment, size_of, Ascends, IsFault}
use Rattle.pcap_file.proofs.lemmas.Numbers.{le_or_lt, none_is}
use Rattle.pcap_file.proofs.NextLemmas.{next_end, next_short, next_long, next_cut, next_whole}

-- what a record that stands there says of the bytes
pub record Stands (h : CaptureHead) (g : ℕ) (l : List ℕ) (moment : ℕ) (caught : Caught) (rest : List ℕ) : Type 0 where
  pub onward : g ≤ moment
  pub size : length l ≡ 16 + length caught.bytes + length rest
  pub behind : rest ≡ drop (16 + length caught.bytes) l

-- what is said of the bytes by what stands there
abbrev pub Says : CaptureHead → ℕ → List ℕ → Next → Type 0
Says h g l (Found moment caught rest) = Stands h g l moment caught rest
Says h g l End = l ≡ []
Says h g l _ = Unit {0}

next_says : (h : CaptureHead) (g : ℕ) (l : List ℕ) → Says h g l (next h g l)
next_says h g l = elim (le_or_lt (length l) 0) [
  | inl none ↦ let empty : l ≡ [] = none_is l (omega arith) in subst (Says h g l) (sym (ap (next h g) empty ∙ next_end h g)) empty
  | inr some ↦ elim (le_or_lt 16 (length l)) [
    | inr short ↦ subst (Says h g l) (sym (next_short h g l some short)) tt
    | inl le ↦ elim (le_or_lt (stored h l) 65535) [
      | inr long ↦ subst (Says h g l) (sym (next_long h g l le long)) tt
      | inl small ↦ elim (le_or_lt (16 + stored h l) (length l)) [
        | inr cut ↦ subst (Says h g l) (sym (next_cut h g l le small cut)) tt
        | inl fits ↦
            let sized : length (field l 16 (stored h l)) ≡ stored h l = length-field l 16 (stored h l) fits in
            subst (Says h g l) (sym (next_whole h g l le small fits))
            (record { onward = omega arith; size = omega (arith, sized, length-drop (16 + stored h l) l); behind = ap (λ (n : ℕ). drop (16 + n) l) (sym sized) })
      ]
    ]
  ]
]

pub found_stands : (h : CaptureHead) (g : ℕ) (l : List ℕ) (moment : ℕ) (caught : Caught) (rest : List ℕ) → next h g l ≡ Found moment caught rest → Stands h g l moment caught rest
found_stands h g l moment caught rest e = subst (Says h g l) e (next_says h g l)

-- the end stands where no bytes are
pub end_is : (h : CaptureHead) (g : ℕ) (l : List ℕ) → next h g l ≡ End → l ≡ []
end_is h g l e = subst (Says h g l) e (next_says h g l)

-- ---- chains

pub chain_push : (h : CaptureHead) (g : ℕ) (rs : List Record) (r : Record) (l m k : List ℕ) → Chain h g rs l m → next h (last_moment g rs) m ≡ Found r.moment r.caught k → Chain h g (rs ++ r ∷ []) l k
chain_push h g [] r l m k c e = (k, ap (next h g) c ∙ e, refl)
chain_push h g (q ∷ rs) r l m k c e = (c.0, c.1, chain_push h q.moment rs r c.0 m k c.2 e)

pub last-push : (g : ℕ) (rs : List Record) (r : Record) → last_moment g (rs ++ r ∷ []) ≡ r.moment
last-push g [] r = refl
last-push g (q ∷ rs) r = last-push q.moment rs r

pub size-push : (rs : List Record) (r : Record) → size_of (rs ++ r ∷ []) ≡ size_of rs + (16 + length r.caught.bytes)
size-push [] r = omega arith
size-push (q ∷ rs) r = let more = size-push rs r in omega arith

pub ascends-push : (g : ℕ) (rs : List Record) (r : Record) → Ascends g rs → last_moment g rs ≤ r.moment → Ascends g (rs ++ r ∷ [])
ascends-push g [] r a le = (le, tt)
ascends-push g (q ∷ rs) r a le = (a.0, ascends-push q.moment rs r a.1 le)

pub few : (rs : List Record) → length rs ≤ size_of rs
few [] = omega arith
few (r ∷ rs) = let more = few rs in omega arith

pub chain_size : (h : CaptureHead) (g : ℕ) (rs : List Record) (l m : List ℕ) → Chain h g rs l m → length l ≡ size_of rs + length m
chain_size h g [] l m c = omega (arith, ap length c)
chain_size h g (r ∷ rs) l m c = let s = (found_stands h g l r.moment r.caught c.0 c.1).size in let more = chain_size h r.moment rs c.0 m c.2 in omega arith

-- what is behind a chain stands behind its bytes
pub chain_rest : (h : CaptureHead) (g : ℕ) (rs : List Record) (l m : List ℕ) → Chain h g rs l m → m ≡ drop (size_of rs) l
chain_rest h g [] l m c = sym c
chain_rest h g (r ∷ rs) l m c =
    let stands = (found_stands h g l r.moment r.caught c.0 c.1).behind in
    chain_rest h r.moment rs c.0 m c.2 ∙ ap (drop (size_of rs)) stands ∙ drop-drop (size_of rs) (16 + length r.caught.bytes) l

-- what is read of a chain is the chain, and then what is read of the rest
abbrev pub go_on : ℕ → CaptureHead → Next → List Record
go_on n h x = elim x [ Found moment caught rest ↦ record { moment = moment; caught = caught } ∷ records_from n h moment rest | _ ↦ [] ]

pub records_on : (n k : ℕ) (h : CaptureHead) (g : ℕ) (rs : List Record) (l m : List ℕ) → n ≡ length rs + k → Chain h g rs l m → records_from n h g l ≡ rs ++ records_from k h (last_moment g rs) m
records_on n k h g [] l m is c = let same : n ≡ k = omega arith in λ i. records_from (same i) h g (c i)
records_on zero k h g (r ∷ rs) l m is c = absurd (omega arith)
records_on (suc n) k h g (r ∷ rs) l m is c = ap (go_on n h) c.1 ∙ ap (λ qs. r ∷ qs) (records_on n k h r.moment rs c.0 m (omega arith) c.2)

abbrev pub whole_on : ℕ → CaptureHead → Next → Bool
whole_on n h x = elim x [ Found moment caught rest ↦ is_whole_from n h moment rest | End ↦ true | _ ↦ false ]

pub whole_chain : (n k : ℕ) (h : CaptureHead) (g : ℕ) (rs : List Record) (l m : List ℕ) → n ≡ length rs + k → Chain h g rs l m → is_whole_from n h g l ≡ is_whole_from k h (last_moment g rs) m
whole_chain n k h g [] l m is c = let same : n ≡ k = omega arith in λ i. is_whole_from (same i) h g (c i)
whole_chain zero k h g (r ∷ rs) l m is c = absurd (omega arith)
whole_chain (suc n) k h g (r ∷ rs) l m is c = ap (whole_on n h) c.1 ∙ whole_chain n k h r.moment rs c.0 m (omega arith) c.2

-- at the end nothing more is read
end_records : (n : ℕ) (h : CaptureHead) (g : ℕ) (l : List ℕ) → next h g l ≡ End → records_from n h g l ≡ []
end_records zero h g l e = refl
end_records (suc n) h g l e = ap (go_on n h) e

end_whole : (n : ℕ) (h : CaptureHead) (g : ℕ) (l : List ℕ) → next h g l ≡ End → is_whole_from n h g l ≡ true
end_whole zero h g l e = ap (λ (m : List ℕ). eqb (length m) 0) (end_is h g l e)
end_whole (suc n) h g l e = ap (whole_on n h) e

-- at a fault the bytes aren't whole
fault_on : (n : ℕ) (h : CaptureHead) (x : Next) → IsFault x → whole_on n h x ≡ false
fault_on n h (Found moment caught rest) f = absurd f
fault_on n h End f = absurd f
fault_on n h CutHead f = refl
fault_on n h (TooLong len) f = refl
fault_on n h (CutBytes len) f = refl

fault_some : (h : CaptureHead) (g : ℕ) (l : List ℕ) → IsFault (next h g l) → l ≢ []
fault_some h g l f e = subst IsFault (ap (next h g) e ∙ next_end h g) f

fault_whole : (n : ℕ) (h : CaptureHead) (g : ℕ) (l : List ℕ) → IsFault (next h g l) → is_whole_from n h g l ≡ false
fault_whole zero h g l f = ne_eqb (length l) 0 (λ e. fault_some h g l f (none_is l e))
fault_whole (suc n) h g l f = fault_on n h (next h g l) f

-- ---- captures

pub same_ok : (h k : CaptureHead) (file : List ℕ) → head_decoded file ≡ Ok h → head_decoded file ≡ Ok k → h ≡ k
same_ok h k file e f = cc

module _ (h : CaptureHead) (rs : List Record) (file rest : List ℕ) (head : head_decoded file ≡ Ok h) (c : Chain h 0 rs (drop HEAD file) rest) where
  fits : length rs ≤ length file
  fits = omega (arith, few rs, chain_size h 0 rs (drop HEAD file) rest c, length-drop HEAD file)

  pub ends_as_capture : next h (last_moment 0 rs) rest ≡ End → IsCapture h rs file
  ends_as_capture e = record {
    head = head;
    whole = whole_chain (length file) (length file - length rs) h 0 rs (drop HEAD file) rest (omega (arith, fits)) c ∙ end_whole (length file - length rs) h (last_moment 0 rs) rest e;
    says = records_on (length file) (length file - length rs) h 0 rs (drop HEAD file) rest (omega (arith, fits)) c ∙ ap (λ qs. rs ++ qs) (end_records (length file - length rs) h (last_moment 0 rs) rest e) ∙ append-nil rs;
  }

  pub fault_is_no_capture : IsFault (next h (last_moment 0 rs) rest) → (k : CaptureHead) (qs : List Record) → IsCapture k qs file → ⊥
  fault_is_no_capture f k qs is =
      let same : k ≡ h = same_ok k h file is.head head in
      let no : is_whole_from (length file) h 0 (drop HEAD file) ≡ false = whole_chain (length file) (length file - length rs) h 0 rs (drop HEAD file) rest (omega (arith, fits)) c ∙ fault_whole (length file - length rs) h (last_moment 0 rs) rest f in
      let yes : is_whole_from (length file) h 0 (drop HEAD file) ≡ true = ap (λ (j : CaptureHead). is_whole_from (length file) j 0 (drop HEAD file)) (sym same) ∙ is.whole in
      absurd (cc)

pub bad_head : (file : List ℕ) (fault : CapFault) → head_decoded file ≡ Err fault → (k : CaptureHead) (qs : List Record) → IsCapture k qs file → ⊥
bad_head file fault e k qs is = let h = is.head in absurd (cc)

pub one_capture : (file : List ℕ) (h k : CaptureHead) (rs qs : List Record) → IsCapture h rs file → IsCapture k qs file → (h ≡ k) × (rs ≡ qs)
one_capture file h k rs qs a b = let same : h ≡ k = same_ok h k file a.head b.head in (same, sym a.says ∙ ap (λ (j : CaptureHead). records j file) same ∙ b.says)

-- moments don't go back
ascends_go : (n : ℕ) (h : CaptureHead) (g : ℕ) (l : List ℕ) (x : Next) → ((m : ℕ) (k : List ℕ) → Ascends m (records_from n h m k)) → next h g l ≡ x → Ascends g (go_on n h x)
ascends_go n h g l (Found moment caught rest) more e = ((found_stands h g l moment caught rest e).onward, more moment rest)
ascends_go n h g l End more e = tt
ascends_go n h g l CutHead more e = tt
ascends_go n h g l (TooLong len) more e = tt
ascends_go n h g l (CutBytes len) more e = tt

pub ascends_on : (n : ℕ) (h : CaptureHead) (g : ℕ) (l : List ℕ) → Ascends g (records_from n h g l)
ascends_on zero h g l = tt
ascends_on (suc n) h g l = ascends_go n h g l (next h g l) (λ m k. ascends_on n h m k) refl

pub moments_ascend : (h : CaptureHead) (file : List ℕ) → Ascends 0 (records h file)
moments_ascend h file = ascends_on (length file) h 0 (drop HEAD file)
