-- Devices in memory hear the next frame of their list, and keep what they are given.
use Rattle.std.proofs.Common.{◌≡◌, ◌≢◌, ℕ, zero, suc, ◌+◌, Bool, true, false, eqb, if◌then◌else◌, List, [], ◌∷◌, ◌++◌, take, Some, refl, ap, ◌∙◌, arith}
use Rattle.std.proofs.lemmas.Bool.{eq-eqb, ne_eqb}
use Rattle.std.specs.Prelude.{slice_get}
use Rattle.wire_store.specs.declared.Heard.{Heard}
use Rattle.wire_store.specs.declared.mem_ports.Sent.{Sent}
use Rattle.wire_store.specs.MemPorts.{frames_to}

heard_next : (l : List Heard) (at : ℕ) (h : Heard) → slice_get l at ≡ Some h → take (suc at) l ≡ take at l ++ h ∷ []
heard_next [] at h e = absurd (cc)
heard_next (x ∷ l) zero h e = let same : x ≡ h = cc in ap (λ (y : Heard). y ∷ []) same
heard_next (x ∷ l) (suc at) h e = ap (λ (m : List Heard). x ∷ m) (heard_next l at h e)

pub heard_more : (l : List Heard) (at : ℕ) (h : Heard) → slice_get l at ≡ Some h → take (at + 1) l ≡ take at l ++ h ∷ []
heard_more l at h e = let k : at + 1 ≡ suc at = omega arith in ap (λ (n : ℕ). take n l) k ∙ heard_next l at h e

-- one frame in front of those of a port, or not
front : (b : Bool) (x : List ℕ) (u v : List (List ℕ)) → (if b then x ∷ (u ++ v) else (u ++ v)) ≡ (if b then x ∷ u else u) ++ v
front true x u v = refl
front false x u v = refl

pub sent_more : (q : ℕ) (ss : List Sent) (s : Sent) → s.port ≡ q → frames_to q (ss ++ s ∷ []) ≡ frames_to q ss ++ s.frame ∷ []
sent_more q [] s e = (λ i. if eq-eqb s.port q e i then s.frame ∷ [] else [])
sent_more q (t ∷ ss) s e = ap (λ (u : List (List ℕ)). if eqb t.port q then t.frame ∷ u else u) (sent_more q ss s e) ∙ front (eqb t.port q) t.frame (frames_to q ss) (s.frame ∷ [])

pub sent_other : (q : ℕ) (ss : List Sent) (s : Sent) → s.port ≢ q → frames_to q (ss ++ s ∷ []) ≡ frames_to q ss
sent_other q [] s no_ = (λ i. if ne_eqb s.port q no_ i then s.frame ∷ [] else [])
sent_other q (t ∷ ss) s no_ = ap (λ (u : List (List ℕ)). if eqb t.port q then t.frame ∷ u else u) (sent_other q ss s no_)
