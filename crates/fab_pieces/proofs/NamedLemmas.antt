-- The text of a piece says which one it is.
use Rattle.std.proofs.Common.{◌≡◌, ℕ, zero, suc, ◌+◌, ◌<◌, ◌⊎◌, inl, inr, Bool, List, [], ◌∷◌, ◌++◌, length, length-append, refl, sym, ap, ◌∙◌, arith, if◌then◌else◌}
use Rattle.std.proofs.lemmas.Bool.{cases_order, ne_eqb}
use Rattle.std.proofs.lemmas.List.{append-nil}
use Rattle.std.proofs.lemmas.List.Elements.{All-nil}
use Rattle.pcap_file.specs.declared.Record.{Record}
use Rattle.fab_policy.specs.Journal.{Journal}
use Rattle.fab_policy.specs.Legal.{HasPorts, of_port}
use Rattle.fab_policy.specs.Ranged.{IsAddress, IsRanged}
use Rattle.fab_policy.specs.State.{now_of}
use Rattle.fab_policy.specs.Text.{text}
use Rattle.fab_policy.specs.declared.event.Event.TheVariants.{Tick, Frame}
use Rattle.fab_policy.proofs.NamedLemmas.{text_names_journal}
use Rattle.fab_states.specs.Runs.{HoldsFrom}
use Rattle.fab_policy.proofs.FollowedLemmas.{of_port-append}
use Rattle.fab_pieces.specs.Session.{BetweenIsOne, TextNamesPiece}
use Rattle.fab_pieces.proofs.JoinLemmas.{texts_join}

ranged_joined : (I K : Journal) → IsRanged I → IsRanged K → IsRanged (K ++ I)
ranged_joined I [] h k = h
ranged_joined I (e ∷ K) h k = (ranged_joined I K h k.0, k.1)

-- lists of one length with one list behind each
fronts : (K L I M : Journal) → length K ≡ length L → K ++ I ≡ L ++ M → K ≡ L
fronts [] [] I M e same = refl
fronts [] (l ∷ L) I M e same = absurd (omega arith)
fronts (k ∷ K) [] I M e same = absurd (omega arith)
fronts (k ∷ K) (l ∷ L) I M e same =
    let first : k ≡ l = cc in
    let others : K ++ I ≡ L ++ M = cc in
    (λ i. first i ∷ fronts K L I M (omega arith) others i)

cut_off : (K L I : Journal) → K ++ I ≡ L ++ I → K ≡ L
cut_off K L I same = fronts K L I I (let e = ap length same in let l = length-append K I in let m = length-append L I in omega (arith, e, l, m)) same

-- a journal with this clock: pieces behind it have their texts behind its own
pub text_names_piece : TextNamesPiece
text_names_piece t K L small k l ports same = cut_off K L I (named texts)
  where
    I : Journal
    I = Tick t [] ∷ []

    ranged : IsRanged I
    ranged = (tt, (small, (tt, All-nil IsAddress)))

    both : (p : ℕ) → of_port p (K ++ I) ≡ of_port p (L ++ I)
    both p = of_port-append p K I ∙ ap (λ l. of_port p I ++ l) (ports p) ∙ sym (of_port-append p L I)

    named : text (K ++ I) ≡ text (L ++ I) → K ++ I ≡ L ++ I
    named = (text_names_journal (K ++ I) (L ++ I) (ranged_joined I K ranged k) (ranged_joined I L ranged l) both).0

    texts : text (K ++ I) ≡ text (L ++ I)
    texts = texts_join I K ∙ ap (λ l. text I ++ l) same ∙ sym (texts_join I L)

-- ---- the frames of each port

none_of_port : (n p : ℕ) (K : Journal) → HasPorts n K → (p ≡ 0) ⊎ (n < p) → of_port p K ≡ []
none_of_port n p [] h out = refl
none_of_port n p (Tick m ended ∷ K) h out = none_of_port n p K h out
none_of_port n p (Frame port index caught verdict ∷ K) h out =
    ap (λ (b : Bool). of_port p K ++ (if b then (index, caught) ∷ [] else [])) (ne_eqb port p (other out)) ∙ append-nil (of_port p K) ∙ none_of_port n p K h.0 out
  where
    other : (p ≡ 0) ⊎ (n < p) → port ≡ p → ⊥
    other (inl none) e = let some = h.1 in omega (arith, none, some, e)
    other (inr past) e = let most = h.2 in omega (arith, past, most, e)

same_at : (K L : Journal) (k p : ℕ) (firsts : List ℕ) (ins : List (List Record)) → k < length ins → HoldsFrom K p firsts ins → HoldsFrom L p firsts ins → of_port (k + p) K ≡ of_port (k + p) L
same_at K L k p firsts [] lt h g = absurd (omega arith)
same_at K L k p [] (rs ∷ ins) lt h g = absurd h
same_at K L zero p (first ∷ firsts) (rs ∷ ins) lt h g =
    let here : zero + p ≡ p = omega arith in
    ap (λ (q : ℕ). of_port q K) here ∙ h.0 ∙ sym g.0 ∙ ap (λ (q : ℕ). of_port q L) (sym here)
same_at K L (suc k) p (first ∷ firsts) (rs ∷ ins) lt h g =
    let there : suc k + p ≡ k + (p + 1) = omega arith in
    ap (λ (q : ℕ). of_port q K) there ∙ same_at K L k (p + 1) firsts ins (omega arith) h.1 g.1 ∙ ap (λ (q : ℕ). of_port q L) (sym there)

same_ports : (K L : Journal) (firsts : List ℕ) (ins : List (List Record)) → HasPorts (length ins) K → HasPorts (length ins) L → HoldsFrom K 1 firsts ins → HoldsFrom L 1 firsts ins → (p : ℕ) → of_port p K ≡ of_port p L
same_ports K L firsts ins k l h g zero = none_of_port (length ins) 0 K k (inl refl) ∙ sym (none_of_port (length ins) 0 L l (inl refl))
same_ports K L firsts ins k l h g (suc p) = by (cases_order p (length ins))
  where
    here : p + 1 ≡ suc p
    here = omega arith

    past : length ins < suc p → of_port (suc p) K ≡ of_port (suc p) L
    past lt = none_of_port (length ins) (suc p) K k (inr lt) ∙ sym (none_of_port (length ins) (suc p) L l (inr lt))

    by : (p ≡ length ins) ⊎ ((p < length ins) ⊎ (length ins < p)) → of_port (suc p) K ≡ of_port (suc p) L
    by (inl e) = past (omega (arith, e))
    by (inr (inl lt)) = ap (λ (q : ℕ). of_port q K) (sym here) ∙ same_at K L p 1 firsts ins lt h g ∙ ap (λ (q : ℕ). of_port q L) here
    by (inr (inr gt)) = past (omega (arith, gt))

pub between_is_one : BetweenIsOne
between_is_one c s t u ins journal found sent K L small k l =
    text_names_piece (now_of s.state.tables) K L small k.ranged l.ranged (same_ports K L s.nexts ins k.run.ports l.run.ports k.run.frames l.run.frames) (sym k.lines ∙ l.lines)
