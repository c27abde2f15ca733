-- A history that got longer, by entry lists.
use Rattle.std.proofs.Common.{◌≡◌, ◌≢◌, ◌≤◌, eq-eqb, ne_eqb, ℕ, Bool, true, false, cond, List, [], ◌∷◌, ◌++◌, length, take, drop, ltb, refl, sym, ap, ◌∙◌, append_assoc, arith}
use mathlib.Core.List.{IsPrefix}
use Rattle.std.proofs.lemmas.Bool.{ltb-true, ltb-false}
use Rattle.std.proofs.lemmas.List.{append-nil, take-append-drop, take-append-le}
use Rattle.std.proofs.lemmas.List.Elements.{filter-append}
use Rattle.std.proofs.Math.Seq.{drop-append_seam, take-append_seam}
use Rattle.fab_turn.specs.Views.{of_port}
use Rattle.fab_turn.specs.Steps.{longer, shorter}

module _ {E : Type 0} where
  -- what begins a list begins a longer one
  pub prefix_more : (xs start since more : List E) → IsPrefix xs (start ++ since) → IsPrefix xs (start ++ (since ++ more))
  prefix_more xs start since more p = (p.0 ++ more, sym (append_assoc xs p.0 more) ∙ (ap (λ (l : List E). l ++ more) p.1 ∙ append_assoc start since more))

  pub prefix_whole : (xs ys : List E) → xs ≡ ys → IsPrefix xs ys
  prefix_whole xs ys e = ([], append-nil xs ∙ e)

  -- the entries of a port that has none of the further ones stay
  pub of_port_same : (port_of : E → ℕ) (p : ℕ) (since more : List E) → of_port port_of p more ≡ [] → of_port port_of p (since ++ more) ≡ of_port port_of p since
  of_port_same port_of p since more e = filter-append _ since more ∙ (ap (λ (l : List E). of_port port_of p since ++ l) e ∙ append-nil (of_port port_of p since))

  -- and those of a port that has them all go on by them
  pub of_port_more : (port_of : E → ℕ) (p : ℕ) (since more own : List E) → of_port port_of p more ≡ more → own ≡ of_port port_of p since → own ++ more ≡ of_port port_of p (since ++ more)
  of_port_more port_of p since more own e is = ap (λ (l : List E). l ++ more) is ∙ (ap (λ (l : List E). of_port port_of p since ++ l) (sym e) ∙ sym (filter-append _ since more))

  pub rest_of : (taken more all : List E) → all ≡ taken ++ more → drop (length taken) all ≡ more
  rest_of taken more all e = ap (λ (l : List E). drop (length taken) l) e ∙ drop-append_seam taken more

  pub of_port_one : (port_of : E → ℕ) (p : ℕ) (e : E) → port_of e ≡ p → of_port port_of p (e ∷ []) ≡ e ∷ []
  of_port_one port_of p e is = rw (eq-eqb (port_of e) p is)

  pub of_port_none : (port_of : E → ℕ) (p : ℕ) (e : E) → port_of e ≢ p → of_port port_of p (e ∷ []) ≡ []
  of_port_none port_of p e ne = rw (ne_eqb (port_of e) p ne)

  -- of two lists that begin a third, one begins the other
  begins_longer : (a b all : List E) → length a ≤ length b → IsPrefix a all → IsPrefix b all → IsPrefix a b
  begins_longer a b all le p q =
      let a_is : a ≡ take (length a) b = sym (take-append_seam a p.0) ∙ (ap (λ (l : List E). take (length a) l) (p.1 ∙ sym q.1) ∙ take-append-le (length a) b q.0 le) in
      (drop (length a) b, ap (λ (l : List E). l ++ drop (length a) b) a_is ∙ take-append-drop (length a) b)

  pub shorter_begins : (a b all : List E) → IsPrefix a all → IsPrefix b all → IsPrefix (shorter a b) (longer a b)
  shorter_begins a b all p q = pick (ltb (length a) (length b)) refl
    where
      pick : (c : Bool) → ltb (length a) (length b) ≡ c → IsPrefix (cond c a b) (cond c b a)
      pick true e = let lt = ltb-true (length a) (length b) e in begins_longer a b all (omega arith) p q
      pick false e = begins_longer b a all (ltb-false (length a) (length b) e) q p

  -- where the shorter of two lists begins the longer, both do
  pub both_begin : (a b : List E) → IsPrefix (shorter a b) (longer a b) → IsPrefix a (longer a b) × IsPrefix b (longer a b)
  both_begin a b = pick (ltb (length a) (length b))
    where
      pick : (c : Bool) → IsPrefix (cond c a b) (cond c b a) → IsPrefix a (cond c b a) × IsPrefix b (cond c b a)
      pick true p = (p, prefix_whole b b refl)
      pick false p = (prefix_whole a a refl, p)
