-- What was fetched and what was sent, over several calls.
use Rattle.std.proofs.Common.{◌≡◌, ◌≢◌, ℕ, ◌+◌, ◌<◌, IsTrue, List, [], ◌∷◌, ◌++◌, length, length-drop, append_assoc, take, drop, Some, None, refl, sym, ap, ◌∙◌, subst, arith}
use Rattle.std.proofs.lemmas.List.{append-nil}
use Rattle.wire_store.specs.declared.Heard.{Heard}
use Rattle.wire_store.specs.Written.{stream_head, block_bytes, blocks_bytes, AllFit}
use Rattle.wire_store.specs.Cut.{stored, first_frame, behind_first, Cuts, Cutting, cutting, with_piece, Stands, Wholes}
use Rattle.wire_store.specs.Ports.{Acts, Sends, Feeds, Fed, Given, SendsPiece, Sending}
use Rattle.wire_store.proofs.CutLemmas.{whole_of, stands_piece, cuts_one_more}

-- ---- sending

pub sending_none : (port : ℕ) (s : Cutting) (a : Acts) → Sending port s s a a
sending_none port s a = record {
  frames = [];
  lacks = refl;
  cuts = refl;
  sends = record { told = λ x. x; ports = refl; heard = λ t. refl; here = λ t. sym (append-nil (a.sent port)); others = λ t q n. refl };
}

pub sending_more : (port : ℕ) (s t u : Cutting) (a b c : Acts) (f : List ℕ) → Sending port s t a b → first_frame t.held ≡ Some f → Sends port (f ∷ []) b c → u ≡ cutting t.lacks (behind_first t.held) → Sending port s u a c
sending_more port s t u a b c f h is sends same =
    record {
      frames = h.frames ++ f ∷ [];
      lacks = ap (λ (v : Cutting). v.lacks) same ∙ h.lacks;
      cuts = subst (λ (z : List ℕ). Cuts (h.frames ++ f ∷ []) s.held z) (ap (λ (v : Cutting). v.held) (sym same)) (cuts_one_more h.frames s.held t.held f h.cuts is);
      sends = record {
        told = λ x. h.sends.told (sends.told x);
        ports = sends.ports ∙ h.sends.ports;
        heard = λ x. sends.heard x ∙ h.sends.heard (sends.told x);
        here = λ x. sends.here x ∙ ap (λ (z : List (List ℕ)). z ++ f ∷ []) (h.sends.here (sends.told x)) ∙ append_assoc (a.sent port) h.frames (f ∷ []);
        others = λ x q n. sends.others x q n ∙ h.sends.others (sends.told x) q n;
      };
    }

pub sending_given : (port : ℕ) (s t : Cutting) (a b : Acts) → Sending port s t a b → first_frame t.held ≡ None → Given port s t a b
sending_given port s t a b h none = record { frames = h.frames; gives = record { lacks = h.lacks; cuts = h.cuts; no_more = none }; sends = h.sends }

pub passes : (l f : List ℕ) → first_frame l ≡ Some f → length (behind_first l) < length l
passes l f is = let w = whole_of l f is in omega (arith, w.room, length-drop (16 + stored l) l)

pub some_is : (l f : List ℕ) → first_frame l ≡ Some f → first_frame l ≢ None
some_is l f is none = let e : Some f ≡ None = sym is ∙ none in absurd (cc)

-- ---- laws

blocks_append : (hs gs : List Heard) → blocks_bytes (hs ++ gs) ≡ blocks_bytes hs ++ blocks_bytes gs
blocks_append [] gs = refl
blocks_append (h ∷ hs) gs = ap (λ (z : List ℕ). block_bytes h ++ z) (blocks_append hs gs) ∙ sym (append_assoc (block_bytes h) (blocks_bytes hs) (blocks_bytes gs))

fit_append : (n : ℕ) (hs gs : List Heard) → AllFit n hs → AllFit n gs → AllFit n (hs ++ gs)
fit_append n [] gs a b = b
fit_append n (h ∷ hs) gs a b = (a.0, fit_append n hs gs a.1 b)

pub fed_none : (n : ℕ) → Fed n [] (stream_head n) []
fed_none n = record { fit = tt; bytes = sym (append-nil (stream_head n)) }

pub fed_on : (n k : ℕ) (buffer before after fetched : List ℕ) (old new : Acts) → IsTrue new.told → old.ports ≡ n → Fed n fetched before old.heard → Feeds buffer before after old new k → Fed n (fetched ++ take k buffer) after new.heard
fed_on n k buffer before after fetched old new told is h f = record {
  fit = subst (AllFit n) (sym (f.heard told)) (fit_append n old.heard f.hs h.fit (subst (λ (m : ℕ). AllFit m f.hs) is f.fit));
  bytes =
      append_assoc fetched (take k buffer) after ∙ ap (λ (z : List ℕ). fetched ++ z) f.taken ∙ sym (append_assoc fetched before (blocks_bytes f.hs))
      ∙ ap (λ (z : List ℕ). z ++ blocks_bytes f.hs) h.bytes ∙ append_assoc (stream_head n) (blocks_bytes old.heard) (blocks_bytes f.hs)
      ∙ ap (λ (z : List ℕ). stream_head n ++ z) (sym (blocks_append old.heard f.hs)) ∙ ap (λ (z : List Heard). stream_head n ++ blocks_bytes z) (sym (f.heard told));
}

cuts_then : (fs gs : List (List ℕ)) (a b c : List ℕ) → Cuts fs a b → Cuts gs b c → Cuts (fs ++ gs) a c
cuts_then [] gs a b c h k = subst (λ (z : List ℕ). Cuts gs z c) (sym h) k
cuts_then (f ∷ fs) gs a b c h k = (h.0, cuts_then fs gs (behind_first a) b c h.1 k)

pub sends_on : (fs : List (List ℕ)) (l piece : List ℕ) (port : ℕ) (before after : Cutting) (old new : Acts) → IsTrue new.told → Stands fs l before → old.sent port ≡ fs → SendsPiece port before after piece old new
    → Wholes (new.sent port) (l ++ piece) × Stands (new.sent port) (l ++ piece) after
sends_on fs l piece port before after old new told h sent g =
    let grown : new.sent port ≡ fs ++ g.frames = g.sends.here told ∙ ap (λ (z : List (List ℕ)). z ++ g.frames) sent in
    let on = stands_piece fs l before piece h in
    let cuts : Cuts (fs ++ g.frames) (drop 24 (l ++ piece)) after.held = cuts_then fs g.frames (drop 24 (l ++ piece)) (with_piece before piece).held after.held on.cuts g.gives.cuts in
    let same : Cuts (new.sent port) (drop 24 (l ++ piece)) after.held = subst (λ (z : List (List ℕ)). Cuts z (drop 24 (l ++ piece)) after.held) (sym grown) cuts in
    (record { rest = after.held; cuts = same; no_more = g.gives.no_more }, record { lacks = g.gives.lacks ∙ on.lacks; cuts = same })
