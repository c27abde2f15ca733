-- The rule holds when the lock is opened.
use Rattle.std.proofs.Common.{◌≡◌, ℕ, zero, suc, true, false, List, [], ◌∷◌, ◌++◌, Option, Some, None, inl, refl, sym, ap, ◌∙◌, subst, arith}
use mathlib.Core.Option as maybe
use mathlib.Core.Option.{some-injective, some-ne-none}
use lib.ListN.{get_elem?}
use Rattle.std.proofs.lemmas.List.{append-nil}
use Rattle.atomic_table.specs.Table.{opening}
use Rattle.fab_turn.specs.declared.view.View.{View}
use Rattle.fab_turn.specs.declared.view.Role.TheVariants.{Root, Of}
use Rattle.fab_turn.specs.Views.{root_view}
use Rattle.fab_turn.specs.Rule.{history_of, FitsHistory, IsOneHistory}
use Rattle.fab_turn.proofs.Histories.{prefix_whole}

module _ {V E : Type 0} (entries : V → List E) (port_of : E → ℕ) (grown : V → V → Type 0) where
  opens_at : (first : V) → grown first first → IsOneHistory entries port_of grown first (opening (0 ∷ 0 ∷ []) (Some first ∷ []) (root_view first (entries first)))
  opens_at first itself = record {
    since = [];
    drawn = 0;
    done = 0;
    given = [];
    kept = [];
    two_words = refl;
    drawn_is = refl;
    done_is = refl;
    ordered = omega arith;
    held = λ t a b. absurd (omega arith);
    once = λ i j u u' t h h' p q. (only i u h.0).0 ∙ sym (only j u' h'.0).0;
    apart = λ i j u u' p h h' e e'. (only i u h.0).0 ∙ sym (only j u' h'.0).0;
    ports = λ p e. let no : false ≡ true = e in absurd cc;
    slot = inl (first, refl, itself, sym (append-nil start), λ i u h e. let no : false ≡ true = ap (λ (x : View V E). x.served) (only i u h.0).1 ∙ e in cc);
    each = λ i u h. let o = only i u h.0 in subst (λ (x : ℕ × View V E). FitsHistory port_of first (history_of start [] 0 0 [] []) x.0 x.1) (λ k. (sym o.0 k, o.1 k)) fits;
    others = λ p none. refl;
    out = λ p e. let no : false ≡ true = e in absurd cc;
    kept_given = λ p e. let no : false ≡ true = e in absurd cc;
  }
    where
      start : List E
      start = entries first

      root : View V E
      root = root_view first start

      only : (i : ℕ) (u : View V E) → get_elem? (root ∷ []) i ≡ maybe.some u → (i ≡ 0) × (root ≡ u)
      only zero u e = (refl, some-injective root u e)
      only (suc i) u e = absurd (some-ne-none u (sym e))

      fits : FitsHistory port_of first (history_of start [] 0 0 [] []) 0 root
      fits = record {
        ticket = λ t e. let no : None ≡ Some t = e in absurd cc;
        served = λ e. let no : false ≡ true = e in absurd cc;
        seen = prefix_whole start (start ++ []) (sym (append-nil start));
        begun = prefix_whole start start refl;
        met = (start, refl);
        first_is = refl;
        port = λ p e. let no : Root ≡ Of p = e in absurd cc;
        root = λ e. (refl, refl, refl);
      }

  pub opens : (first value : V) (items : List (Option V)) → first ≡ value → items ≡ Some value ∷ [] → grown first first
      → IsOneHistory entries port_of grown first (opening (0 ∷ 0 ∷ []) items (root_view first (entries first)))
  opens first value items is has itself =
      subst (λ (xs : List (Option V)). IsOneHistory entries port_of grown first (opening (0 ∷ 0 ∷ []) xs (root_view first (entries first)))) (sym (has ∙ ap (λ (x : V). Some x ∷ []) (sym is)))
      (opens_at first itself)
