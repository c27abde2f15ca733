-- The frames of an answer, one range after another.
use Rattle.std.proofs.Common.{◌≡◌, ℕ, suc, ◌+◌, ◌-◌, ◌%◌, ◌<◌, ◌≤◌, nat_le, ◌==◌, ◌&&◌, List, [], ◌∷◌, ◌++◌, length, take, drop, map, get_or, true, false, refl, sym, ap, subst, ◌∙◌, append_assoc, arith}
use Rattle.std.proofs.Math.Seq.{drop-cons}
use Rattle.std.proofs.lemmas.Bool.Decides.{nat_tests}
use Rattle.std.proofs.lemmas.List.{drop-take, length-drop, length-take-le}
use Rattle.std.proofs.lemmas.List.Elements.{All-nil, All-cons}
use Rattle.fab_policy.specs.Replies.{Asker}
use Rattle.fab_policy.specs.declared.event.Event.{Event}
use Rattle.fab_sending.specs.MessageLaws.{numbered, on}
use Rattle.fab_sending.specs.Message.{AreSendable, can_send}
use Rattle.fab_sending.specs.declared.message.Out.{Out}
use Rattle.fab_sending.specs.declared.message.OutMessage.TheVariants as out
use Rattle.fab_sending.specs.Framed.{framed}
use Rattle.fab_sending.specs.Messages.{at_moment}
use Rattle.fc_frames.specs.Pieces.{Cuts, piece_of, pieces}
use Rattle.fc_frames.specs.declared.Piece.{Piece}

-- the bytes of a range, as they are cut
cut_piece : (l : List ℕ) (p : Piece) → p.from < p.to → take (p.to - p.from) (drop p.from l) ≡ piece_of l p
cut_piece l p some = sym (drop-take p.from (p.to - p.from) l) ∙ ap (λ k. drop p.from (take k l)) (omega (arith, some))

-- the frame of the next range
abbrev frame_of : ℕ → ℕ → Asker → ℕ → Piece → List ℕ → Out
frame_of port moment to count p payload = record { port = port; moment = moment; message = out.Ct to count p.last payload }

pub framed_more : (port moment : ℕ) (to : Asker) (l : List ℕ) (n : ℕ) (ranges : List Piece) (d : Piece) (payload : List ℕ) (start before after : List Out) →
    n < length ranges → before ++ framed port moment to l n (drop n ranges) ≡ start → (get_or ranges n d).from < (get_or ranges n d).to →
    payload ≡ take ((get_or ranges n d).to - (get_or ranges n d).from) (drop (get_or ranges n d).from l) →
    after ≡ before ++ frame_of port moment to n (get_or ranges n d) payload ∷ [] → after ++ framed port moment to l (n + 1) (drop (n + 1) ranges) ≡ start
framed_more port moment to l n ranges d payload start before after inside was some is now =
    let p : Piece = get_or ranges n d in
    let rest : List Out = framed port moment to l (n + 1) (drop (n + 1) ranges) in
    ap (λ outs. outs ++ rest) now
    ∙ append_assoc before (frame_of port moment to n p payload ∷ []) rest
    ∙ ap (λ bytes. before ++ frame_of port moment to n p bytes ∷ rest) (is ∙ cut_piece l p some)
    ∙ ap (λ r. before ++ framed port moment to l n r) (sym (drop-cons ranges n d inside ∙ ap (λ (k : ℕ). p ∷ drop k ranges) (let s : suc n ≡ n + 1 = omega arith in s)))
    ∙ was

-- ranges that cut bytes have the frames of their pieces
pub framed_numbered : (port moment whole size from : ℕ) (to : Asker) (l : List ℕ) (count : ℕ) (ranges : List Piece) → Cuts whole size from ranges →
    framed port moment to l count ranges ≡ at_moment moment (on port (numbered to count (map (piece_of l) ranges)))
framed_numbered port moment whole size from to l count [] cuts = absurd cuts
framed_numbered port moment whole size from to l count (p ∷ []) cuts =
    ap (λ last. record { port = port; moment = moment; message = out.Ct to count last (piece_of l p) } ∷ []) cuts.2
framed_numbered port moment whole size from to l count (p ∷ q ∷ ranges) cuts =
    ap (λ last. record { port = port; moment = moment; message = out.Ct to count last (piece_of l p) } ∷ framed port moment to l (count + 1) (q ∷ ranges)) cuts.2
    ∙ ap (λ outs. frame_of port moment to count (record p { last = false }) (piece_of l p) ∷ outs) (framed_numbered port moment whole size (from + size) to l (count + 1) (q ∷ ranges) cuts.3)

-- ---- frames that can be sent

is_word_sized : (n : ℕ) → n ≤ 2112 → n % 4 ≡ 0 → nat_le n 2112 && (n % 4 == 0) ≡ true
is_word_sized n most words = grind (arith, nat_tests)

length-piece : (l : List ℕ) (p : Piece) → p.to ≤ length l → length (piece_of l p) ≡ p.to - p.from
length-piece l p within = length-drop p.from (take p.to l) ∙ ap (λ k. k - p.from) (length-take-le p.to l within)

frame_sendable : (events : List Event) (l : List ℕ) (p : Piece) (to : Asker) (count : ℕ) → p.to ≤ length l → p.to - p.from ≤ 2112 → (p.to - p.from) % 4 ≡ 0 →
    can_send events (out.Ct to count p.last (piece_of l p)) ≡ true
frame_sendable events l p to count within most words =
    ap (λ n. nat_le n 2112 && (n % 4 == 0)) (length-piece l p within) ∙ is_word_sized (p.to - p.from) most words

-- ranges begin before the end
cuts_within : (whole size from : ℕ) (ranges : List Piece) → Cuts whole size from ranges → from < whole
cuts_within whole size from [] cuts = absurd cuts
cuts_within whole size from (p ∷ []) cuts = cuts.3
cuts_within whole size from (p ∷ q ∷ ranges) cuts = omega (arith, cuts_within whole size (from + size) (q ∷ ranges) cuts.3)

-- frames of ranges that cut whole words can be sent
pub framed_sendable : (events : List Event) (port moment whole size from : ℕ) (to : Asker) (l : List ℕ) (count : ℕ) (ranges : List Piece) → Cuts whole size from ranges →
    whole ≤ length l → from % 4 ≡ 0 → whole % 4 ≡ 0 → size % 4 ≡ 0 → size ≤ 2112 → AreSendable events (framed port moment to l count ranges)
framed_sendable events port moment whole size from to l count [] cuts within f w s most = absurd cuts
framed_sendable events port moment whole size from to l count (p ∷ []) cuts within f w s most =
    All-cons (λ (o : Out). can_send events o.message ≡ true) (frame_of port moment to count p (piece_of l p)) []
    (frame_sendable events l p to count (omega (arith, cuts.1)) (omega (arith, cuts.0, cuts.1, cuts.4)) (omega (arith, cuts.0, cuts.1, f, w))) (All-nil (λ (o : Out). can_send events o.message ≡ true))
framed_sendable events port moment whole size from to l count (p ∷ q ∷ ranges) cuts within f w s most =
    All-cons (λ (o : Out). can_send events o.message ≡ true) (frame_of port moment to count p (piece_of l p)) (framed port moment to l (count + 1) (q ∷ ranges))
    (frame_sendable events l p to count (omega (arith, cuts.1, cuts_within whole size (from + size) (q ∷ ranges) cuts.3)) (omega (arith, cuts.0, cuts.1)) (omega (arith, cuts.0, cuts.1, s)))
    (framed_sendable events port moment whole size (from + size) to l (count + 1) (q ∷ ranges) cuts.3 within (omega (arith, f, s)) w s most)

-- ---- a whole answer

abbrev pub HaveThePieces : Type 0
HaveThePieces = (l : List ℕ) (size : ℕ) (ranges : List Piece) → Cuts (length l) size 0 ranges → map (piece_of l) ranges ≡ pieces (length l) size l

-- bytes that were written into an empty buffer
pub written_first : (start now l : List ℕ) → start ≡ [] → now ≡ start ++ l → now ≡ l
written_first start now l none is = is ∙ ap (λ s. s ++ l) none

pub answer_made : HaveThePieces → (port moment size whole : ℕ) (to : Asker) (l bytes : List ℕ) (ranges cut : List Piece) (outs : List Out) → bytes ≡ l → whole ≡ length bytes →
    Cuts whole size 0 ranges → cut ≡ ranges → outs ≡ framed port moment to bytes 0 cut → outs ≡ at_moment moment (on port (numbered to 0 (pieces (length l) size l)))
answer_made have port moment size whole to l bytes ranges cut outs is all cuts same now =
    let whole_is : whole ≡ length l = all ∙ ap length is in
    let cuts_l : Cuts (length l) size 0 ranges = subst (λ (n : ℕ). Cuts n size 0 ranges) whole_is cuts in
    now ∙ ap (λ b. framed port moment to b 0 cut) is ∙ ap (framed port moment to l 0) same
    ∙ framed_numbered port moment (length l) size 0 to l 0 ranges cuts_l
    ∙ ap (λ ps. at_moment moment (on port (numbered to 0 ps))) (have l size ranges cuts_l)

pub answer_sendable : (events : List Event) (port moment size whole : ℕ) (to : Asker) (bytes : List ℕ) (ranges cut : List Piece) (outs : List Out) → whole ≡ length bytes →
    Cuts whole size 0 ranges → cut ≡ ranges → outs ≡ framed port moment to bytes 0 cut → whole % 4 ≡ 0 → size % 4 ≡ 0 → size ≤ 2112 → AreSendable events outs
answer_sendable events port moment size whole to bytes ranges cut outs all cuts same now w s most =
    subst (AreSendable events) (sym (now ∙ ap (framed port moment to bytes 0) same))
    (framed_sendable events port moment whole size 0 to bytes 0 ranges cuts (omega (arith, all)) refl w s most)
