-- To draw a ticket keeps the rule.
use Rattle.std.proofs.Common.{◌≡◌, ◌≢◌, ℕ, ◌+◌, ◌%◌, ◌^◌, true, false, List, length, get_or, set, Some, None, inl, inr, ⊎_elim, refl, sym, ap, ◌∙◌, arith, length-set, get_or-set_same, get_or-set_other}
use mathlib.Core.Option as maybe
use mathlib.Core.Logic.{dite}
use native.Mathlib.Decide.{ℕ_discrete}
use Rattle.atomic_table.specs.Table.{step, keeps, Allows}
use Rattle.fab_turn.specs.declared.view.View.{View}
use Rattle.fab_turn.specs.declared.view.Role.TheVariants.{Spent}
use Rattle.fab_turn.specs.Rule.{HasView, AtHome, IsOut, IsOneHistory}
use Rattle.fab_turn.specs.Steps.{Sat, with_ticket, Draws}
use Rattle.fab_turn.proofs.Seats.{one_view, now_cases, now_else}
use Rattle.fab_turn.proofs.Moves.{moves}

-- the word that comes after the remainder of a number is the remainder of the next
pub next_word : (x a : ℕ) → x ≡ a % 2 ^ 64 → (x + 1) % 2 ^ 64 ≡ (a + 1) % 2 ^ 64
next_word x a e = omega arith

module _ {V E : Type 0} (entries : V → List E) (port_of : E → ℕ) (grown : V → V → Type 0) (first : V) where
  pub draws : (slots id : ℕ) (me : Sat V E) → me.0.role ≢ Spent → me.0.ticket ≡ None → me.0.served ≡ false
      → Allows (IsOneHistory entries port_of grown first) slots id me 0 (λ n. (n + 1) % 2 ^ 64) (Draws (step slots 0 1 0 maybe.none) me)
  draws slots id me live idle unserved s r deep there small =
      let v = me.0 in
      let w : View V E = with_ticket v r.drawn in
      let at : HasView s id v = (there, live) in
      let f = r.each id v at in
      let two : length s.words ≡ 2 = r.two_words in
      let not_mine : (i : ℕ) (u : View V E) (t : ℕ) → HasView s i u → u.ticket ≡ Some t → i ≢ id =
      λ i u t h p e. let same : None ≡ Some t = sym idle ∙ (ap (λ (x : View V E). x.ticket) (one_view s.views id i v u at h (sym e)) ∙ p) in cc in (
        w,
        keeps,
        tt,
        moves entries port_of grown first s r id v w at refl (set s.words 0 ((get_or s.words 0 0 + 1) % 2 ^ 64)) s.homes r.since (r.drawn + 1) r.done
            (length-set s.words 0 ((get_or s.words 0 0 + 1) % 2 ^ 64) ∙ two)
            (get_or-set_same s.words 0 ((get_or s.words 0 0 + 1) % 2 ^ 64) 0 (omega arith) ∙ next_word (get_or s.words 0 0) r.drawn r.drawn_is)
            (get_or-set_other s.words 0 1 ((get_or s.words 0 0 + 1) % 2 ^ 64) 0 (λ e. omega arith) ∙ r.done_is)
            (let le = r.ordered in omega arith)
            (λ t a b. dite (ℕ_discrete t r.drawn)
            (λ e. inl (ap (λ (k : ℕ). Some k) (sym e)))
            (λ ne. let h = r.held t a (omega arith) in inr (h.0, h.1, not_mine h.0 h.1 t h.2 h.3, h.2, h.3)))
            (λ i u t ne h p q. let lt = ((r.each i u h).ticket t p).1 in let e : r.drawn ≡ t = cc in omega arith)
            (⊎_elim
            (λ (h : AtHome entries grown first r.since s). inl (
              h.0,
              h.1,
              h.2,
              h.3,
              λ i u n p.
                  ⊎_elim (λ (a : (i ≡ id) × (w ≡ u)). let no : false ≡ true = sym unserved ∙ (ap (λ (x : View V E). x.served) a.1 ∙ p) in cc) (λ (b : (i ≢ id) × HasView s i u). h.4 i u b.1 p) (now_cases s.views id v w at refl i u n),
            ))
            (λ (h : IsOut entries first r.since s).
            let other : h.0 ≢ id = λ e. let no : false ≡ true = sym unserved ∙ (ap (λ (x : View V E). x.served) (one_view s.views id h.0 v h.1 at h.2 (sym e)) ∙ h.3) in cc in
            inr (h.0, h.1, now_else s.views id v w at refl h.0 h.1 other h.2, h.3, h.4))
            r.slot)
            record {
              ticket = λ t e. let le = r.ordered in let e' : r.drawn ≡ t = cc in (omega arith, omega arith);
              served = λ p. let no : false ≡ true = sym unserved ∙ p in absurd cc;
              seen = f.seen;
              begun = f.begun;
              met = f.met;
              first_is = f.first_is;
              port = f.port;
              root = f.root;
            }
            (λ i u ne h. let g = r.each i u h in record {
              ticket = λ t e. let b = g.ticket t e in (b.0, omega arith);
              served = g.served;
              seen = g.seen;
              begun = g.begun;
              met = g.met;
              first_is = g.first_is;
              port = g.port;
              root = g.root;
            })
            r.others,
        (r.drawn, r.drawn_is, refl),
      )
