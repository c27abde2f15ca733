-- The layout against reading and writing.
use Rattle.std.proofs.Common.{◌≡◌, ◌≢◌, ℕ, ◌+◌, ◌-◌, ◌<◌, ◌≤◌, ◌^◌, Bool, cond, ltb, eqb, List, [], ◌∷◌, ◌++◌, length, length-append, take, drop, Option, Some, None, Result, Ok, Err, refl, sym, ap, subst, ◌∙◌, append_assoc, arith}
use Rattle.std.proofs.lemmas.Bool.{le-ltb, ne_eqb}
use Rattle.std.proofs.lemmas.List.{take-replicate}
use Rattle.fab_base.specs.Layout.{field, number, spelled, zeros}
use Rattle.fab_base.proofs.LayoutLemmas.{AreBytes, big_endian-spelled, take-field, length-field, cut_number, number_fits}
use Rattle.eth_frames.specs.declared.EthFault.{EthFault}
use Rattle.eth_frames.specs.Ethernet.{Eth, Fits, IsEth, decoded, written, head_bytes, eth_bytes, tag_bytes, pad_of, with_pad, TAGGED}

-- six bytes, one by one
record Six (l : List ℕ) : Type 0 where
  a : ℕ
  b : ℕ
  c : ℕ
  d : ℕ
  e : ℕ
  f : ℕ
  is : l ≡ a ∷ b ∷ c ∷ d ∷ e ∷ f ∷ []

six : (l : List ℕ) → length l ≡ 6 → Six l
six [] h = absurd (omega arith)
six (a ∷ []) h = absurd (omega arith)
six (a ∷ b ∷ []) h = absurd (omega arith)
six (a ∷ b ∷ c ∷ []) h = absurd (omega arith)
six (a ∷ b ∷ c ∷ d ∷ []) h = absurd (omega arith)
six (a ∷ b ∷ c ∷ d ∷ e ∷ []) h = absurd (omega arith)
six (a ∷ b ∷ c ∷ d ∷ e ∷ f ∷ []) h = record { a = a; b = b; c = c; d = d; e = e; f = f; is = refl }
six (a ∷ b ∷ c ∷ d ∷ e ∷ f ∷ g ∷ l) h = absurd (omega arith)

-- the tests of a frame with another Ethertype than a tag's
plain_tests : {A E : Type 0} (n kind : ℕ) (e : E) (t o : A) → 14 ≤ n → kind ≢ 0x8100 → cond (ltb n (cond (eqb kind 0x8100) 18 14)) (Err e) (Ok (cond (eqb kind 0x8100) t o)) ≡ Ok o
plain_tests {A} {E} n kind e t o long ne =
    let P : Bool → Result A E = λ b. cond (ltb n (cond b 18 14)) (Err e) (Ok (cond b t o)) in
    let Q : Bool → Result A E = λ b. cond b (Err e) (Ok o) in
    ap P (ne_eqb kind 0x8100 ne) ∙ ap Q (le-ltb n 14 long)

plain_at : (a b c d e f g h i j k m kind : ℕ) (body : List ℕ) → kind < 2 ^ 16 → kind ≢ 0x8100 → decoded (a ∷ b ∷ c ∷ d ∷ e ∷ f ∷ g ∷ h ∷ i ∷ j ∷ k ∷ m ∷ (spelled 2 kind ++ body)) ≡ Ok (record { dst = a ∷ b ∷ c ∷ d ∷ e ∷ f ∷ []; src = g ∷ h ∷ i ∷ j ∷ k ∷ m ∷ []; tag = None; kind = kind; body = body })
unfolding decoded
plain_at a b c d e f g h i j k m kind body fits ne =
    let l : List ℕ = a ∷ b ∷ c ∷ d ∷ e ∷ f ∷ g ∷ h ∷ i ∷ j ∷ k ∷ m ∷ (spelled 2 kind ++ body) in
    let is : number l 12 2 ≡ kind = big_endian-spelled 2 kind fits in
    plain_tests (length l) (number l 12 2) _ _ _ (omega arith) (λ q. ne (sym is ∙ q)) ∙ ap (λ (n : ℕ). Ok (record { dst = a ∷ b ∷ c ∷ d ∷ e ∷ f ∷ []; src = g ∷ h ∷ i ∷ j ∷ k ∷ m ∷ []; tag = None; kind = n; body = body })) is

tagged_tests : {A E : Type 0} (n : ℕ) (e : E) (t : A) → 18 ≤ n → cond (ltb n 18) (Err e) (Ok t) ≡ Ok t
tagged_tests {A} {E} n e t long = let Q : Bool → Result A E = λ b. cond b (Err e) (Ok t) in ap Q (le-ltb n 18 long)

tagged_at : (a b c d e f g h i j k m tag kind : ℕ) (body : List ℕ) → tag < 2 ^ 16 → kind < 2 ^ 16 → decoded (a ∷ b ∷ c ∷ d ∷ e ∷ f ∷ g ∷ h ∷ i ∷ j ∷ k ∷ m ∷ (spelled 2 TAGGED ++ (spelled 2 tag ++ (spelled 2 kind ++ body)))) ≡ Ok (record { dst = a ∷ b ∷ c ∷ d ∷ e ∷ f ∷ []; src = g ∷ h ∷ i ∷ j ∷ k ∷ m ∷ []; tag = Some tag; kind = kind; body = body })
unfolding decoded
tagged_at a b c d e f g h i j k m tag kind body tag_fits fits =
    let l : List ℕ = a ∷ b ∷ c ∷ d ∷ e ∷ f ∷ g ∷ h ∷ i ∷ j ∷ k ∷ m ∷ (spelled 2 TAGGED ++ (spelled 2 tag ++ (spelled 2 kind ++ body))) in
    let is : number l 16 2 ≡ kind = big_endian-spelled 2 kind fits in
    let is_tag : number l 14 2 ≡ tag = big_endian-spelled 2 tag tag_fits in
    tagged_tests (length l) _ _ (omega arith)
    ∙ ap (λ (n : ℕ). Ok (record { dst = a ∷ b ∷ c ∷ d ∷ e ∷ f ∷ []; src = g ∷ h ∷ i ∷ j ∷ k ∷ m ∷ []; tag = Some (number l 14 2); kind = n; body = body })) is
    ∙ ap (λ (n : ℕ). Ok (record { dst = a ∷ b ∷ c ∷ d ∷ e ∷ f ∷ []; src = g ∷ h ∷ i ∷ j ∷ k ∷ m ∷ []; tag = Some n; kind = kind; body = body })) is_tag

plain : (dst src body : List ℕ) (kind : ℕ) → length dst ≡ 6 → length src ≡ 6 → kind < 2 ^ 16 → kind ≢ 0x8100 → decoded (dst ++ (src ++ (spelled 2 kind ++ body))) ≡ Ok (record { dst = dst; src = src; tag = None; kind = kind; body = body })
plain dst src body kind d s fits ne =
    let x = six dst d in
    let y = six src s in
    let P : List ℕ → List ℕ → Type 0 = λ (p : List ℕ) (q : List ℕ). decoded (p ++ (q ++ (spelled 2 kind ++ body))) ≡ Ok (record { dst = p; src = q; tag = None; kind = kind; body = body }) in
    subst (λ q. P dst q) (sym y.is) (subst (λ p. P p (y.a ∷ y.b ∷ y.c ∷ y.d ∷ y.e ∷ y.f ∷ [])) (sym x.is) (plain_at x.a x.b x.c x.d x.e x.f y.a y.b y.c y.d y.e y.f kind body fits ne))

tagged : (dst src body : List ℕ) (tag kind : ℕ) → length dst ≡ 6 → length src ≡ 6 → tag < 2 ^ 16 → kind < 2 ^ 16 → decoded (dst ++ (src ++ (spelled 2 TAGGED ++ (spelled 2 tag ++ (spelled 2 kind ++ body))))) ≡ Ok (record { dst = dst; src = src; tag = Some tag; kind = kind; body = body })
tagged dst src body tag kind d s tag_fits fits =
    let x = six dst d in
    let y = six src s in
    let P : List ℕ → List ℕ → Type 0 = λ (p : List ℕ) (q : List ℕ). decoded (p ++ (q ++ (spelled 2 TAGGED ++ (spelled 2 tag ++ (spelled 2 kind ++ body))))) ≡ Ok (record { dst = p; src = q; tag = Some tag; kind = kind; body = body }) in
    subst (λ q. P dst q) (sym y.is) (subst (λ p. P p (y.a ∷ y.b ∷ y.c ∷ y.d ∷ y.e ∷ y.f ∷ [])) (sym x.is) (tagged_at x.a x.b x.c x.d x.e x.f y.a y.b y.c y.d y.e y.f tag kind body tag_fits fits))

regroup : (dst src tag kind body : List ℕ) → dst ++ src ++ tag ++ kind ++ body ≡ dst ++ (src ++ (tag ++ (kind ++ body)))
regroup dst src tag kind body = simp append_assoc

decoded-parts : (dst src body : List ℕ) (tag : Option ℕ) (kind : ℕ) → Fits (record { dst = dst; src = src; tag = tag; kind = kind; body = body }) → decoded (dst ++ (src ++ (tag_bytes tag ++ (spelled 2 kind ++ body)))) ≡ Ok (record { dst = dst; src = src; tag = tag; kind = kind; body = body })
decoded-parts dst src body None kind fits = plain dst src body kind fits.dst fits.src fits.kind (fits.untagged refl)
decoded-parts dst src body (Some tag) kind fits = ap (λ l. decoded (dst ++ (src ++ l))) (append_assoc (spelled 2 TAGGED) (spelled 2 tag) (spelled 2 kind ++ body)) ∙ tagged dst src body tag kind fits.dst fits.src fits.tag fits.kind

-- bytes in which a frame stands are read as that frame
pub decoded-is : (f : Eth) (l : List ℕ) → IsEth f l → decoded l ≡ Ok f
decoded-is f l is = ap decoded (is.bytes ∙ regroup f.dst f.src (tag_bytes f.tag) (spelled 2 f.kind) f.body) ∙ decoded-parts f.dst f.src f.body f.tag f.kind is.fits

pub same_frame : (f g : Eth) (l : List ℕ) → IsEth f l → IsEth g l → f ≡ g
same_frame f g l is_f is_g = let R : Result Eth EthFault → Type 0 = λ r. r ≡ Ok g in let e : R (Ok f) = sym (decoded-is f l is_f) ∙ decoded-is g l is_g in cc

padded_parts : (dst src tag kind body pad : List ℕ) → (dst ++ src ++ tag ++ kind ++ body) ++ pad ≡ dst ++ src ++ tag ++ kind ++ (body ++ pad)
padded_parts dst src tag kind body pad = simp append_assoc

-- what is written for a frame is that frame with its pad
pub is_written : (f : Eth) → Fits f → IsEth (with_pad f) (written f)
is_written f fits = record {
  fits = record { dst = fits.dst; src = fits.src; tag = fits.tag; kind = fits.kind; untagged = fits.untagged };
  bytes = padded_parts f.dst f.src (tag_bytes f.tag) (spelled 2 f.kind) f.body (pad_of f);
}

-- ---- what reading finds is the frame of the layout

-- the two addresses and what is behind them
cut_addresses : (l : List ℕ) → l ≡ field l 0 6 ++ (field l 6 6 ++ drop 12 l)
cut_addresses l = take-field l 0 6 ∙ ap (λ m. field l 0 6 ++ m) (take-field l 6 6)

pub layout-plain : (l dst src body : List ℕ) (kind : ℕ) → AreBytes l → 14 ≤ length l → dst ≡ field l 0 6 → src ≡ field l 6 6 → kind ≡ number l 12 2 → kind ≢ 0x8100 → body ≡ drop 14 l → IsEth (record { dst = dst; src = src; tag = None; kind = kind; body = body }) l
layout-plain l dst src body kind bytes long is_dst is_src is_kind ne is_body = record {
  fits = record {
    dst = ap length is_dst ∙ length-field l 0 6 (omega arith);
    src = ap length is_src ∙ length-field l 6 6 (omega arith);
    tag = tt;
    kind = omega (arith, is_kind, number_fits l 12 2 bytes (omega arith));
    untagged = λ _. ne;
  };
  bytes =
      let parts : l ≡ field l 0 6 ++ (field l 6 6 ++ (spelled 2 (number l 12 2) ++ drop 14 l)) = cut_addresses l ∙ ap (λ m. field l 0 6 ++ (field l 6 6 ++ m)) (cut_number l 12 2 bytes (omega arith)) in
      let same : field l 0 6 ++ (field l 6 6 ++ (spelled 2 (number l 12 2) ++ drop 14 l)) ≡ dst ++ (src ++ (spelled 2 kind ++ body)) = cc in
      parts ∙ same ∙ sym (regroup dst src [] (spelled 2 kind) body);
}

pub layout-tagged : (l dst src body : List ℕ) (tag kind : ℕ) → AreBytes l → 18 ≤ length l → dst ≡ field l 0 6 → src ≡ field l 6 6 → number l 12 2 ≡ 0x8100 → tag ≡ number l 14 2 → kind ≡ number l 16 2 → body ≡ drop 18 l → IsEth (record { dst = dst; src = src; tag = Some tag; kind = kind; body = body }) l
layout-tagged l dst src body tag kind bytes long is_dst is_src is_tagged is_tag is_kind is_body = record {
  fits = record {
    dst = ap length is_dst ∙ length-field l 0 6 (omega arith);
    src = ap length is_src ∙ length-field l 6 6 (omega arith);
    tag = let fits : tag < 2 ^ 16 = omega (arith, is_tag, number_fits l 14 2 bytes (omega arith)) in fits;
    kind = omega (arith, is_kind, number_fits l 16 2 bytes (omega arith));
    untagged = λ none. cc;
  };
  bytes =
      let rest : drop 14 l ≡ spelled 2 (number l 14 2) ++ (spelled 2 (number l 16 2) ++ drop 18 l) = cut_number l 14 2 bytes (omega arith) ∙ ap (λ m. spelled 2 (number l 14 2) ++ m) (cut_number l 16 2 bytes (omega arith)) in
      let parts : l ≡ field l 0 6 ++ (field l 6 6 ++ (spelled 2 (number l 12 2) ++ (spelled 2 (number l 14 2) ++ (spelled 2 (number l 16 2) ++ drop 18 l)))) =
      cut_addresses l ∙ ap (λ m. field l 0 6 ++ (field l 6 6 ++ m)) (cut_number l 12 2 bytes (omega arith) ∙ ap (λ m. spelled 2 (number l 12 2) ++ m) rest) in
      let announced : spelled 2 (number l 12 2) ≡ spelled 2 TAGGED = ap (spelled 2) is_tagged in
      let same : field l 0 6 ++ (field l 6 6 ++ (spelled 2 (number l 12 2) ++ (spelled 2 (number l 14 2) ++ (spelled 2 (number l 16 2) ++ drop 18 l)))) ≡ dst ++ (src ++ (spelled 2 TAGGED ++ (spelled 2 tag ++ (spelled 2 kind ++ body)))) = cc in
      parts ∙ same ∙ ap (λ m. dst ++ (src ++ m)) (sym (append_assoc (spelled 2 TAGGED) (spelled 2 tag) (spelled 2 kind ++ body))) ∙ sym (regroup dst src (tag_bytes (Some tag)) (spelled 2 kind) body);
}

-- what the appends of a writer leave: head, body and the pad, which is cut from zeros
pub written_put : (f : Eth) (old one two new head more : List ℕ) (len pad : ℕ) → head ≡ head_bytes f → len ≡ length head + length f.body → pad ≡ 60 - len → more ≡ take pad (zeros 60)
    → one ≡ old ++ head → two ≡ one ++ f.body → new ≡ two ++ more → new ≡ old ++ written f
written_put f old one two new head more len pad is_head is_len is_pad is_more first second third =
    let size : len ≡ length (eth_bytes f) = omega (arith, length-append (head_bytes f) f.body, ap length is_head) in
    let cut : more ≡ pad_of f = is_more ∙ take-replicate pad 60 0 (omega arith) ∙ ap zeros (is_pad ∙ ap (λ (n : ℕ). 60 - n) size) in
    let body : two ≡ old ++ eth_bytes f = second ∙ ap (λ l. l ++ f.body) (first ∙ ap (λ l. old ++ l) is_head) ∙ append_assoc old (head_bytes f) f.body in
    third ∙ ap (λ l. l ++ more) body ∙ append_assoc old (eth_bytes f) more ∙ ap (λ l. old ++ (eth_bytes f ++ l)) cut
