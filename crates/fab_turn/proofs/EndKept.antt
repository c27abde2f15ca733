-- To end a turn keeps the rule, whether the value got entries or not.
use Rattle.std.proofs.Common.{◌≡◌, ◌≢◌, ℕ, ◌+◌, ◌%◌, ◌^◌, ◌<◌, true, false, List, [], ◌∷◌, ◌++◌, length, get_or, set, Some, None, inl, inr, ⊎_elim, refl, sym, ap, ◌∙◌, subst, arith, append_assoc, length-set, get_or-set_same, get_or-set_other}
use mathlib.Core.Option as maybe
use Rattle.atomic_table.specs.Table.{step, gives, Allows}
use Rattle.atomic_table.proofs.Lists.{set_here}
use Rattle.fab_turn.specs.declared.view.View.{View}
use Rattle.fab_turn.specs.declared.view.Role.TheVariants.{Spent}
use Rattle.fab_turn.specs.Rule.{HasView, AtHome, IsOut, IsOneHistory}
use Rattle.fab_turn.specs.Steps.{Sat, after_turn, MayEnd, Ends}
use Rattle.fab_turn.proofs.Seats.{one_view, now_cases}
use Rattle.fab_turn.proofs.Moves.{St, Holds, one_served, moves}
use Rattle.fab_turn.proofs.DrawKept.{next_word}
use Rattle.fab_turn.proofs.Histories.{prefix_more, prefix_whole, of_port_same, of_port_more, rest_of}

module _ {V E : Type 0} (entries : V → List E) (port_of : E → ℕ) (grown : V → V → Type 0) (first : V) where
  -- who is served has taken the history
  pub has_taken : (s : St entries port_of grown first) (r : Holds entries port_of grown first s) (id : ℕ) (v : View V E) → HasView s id v → v.served ≡ true → v.taken ≡ entries first ++ r.since
  has_taken s r id v at served =
      ⊎_elim (λ (h : AtHome entries grown first r.since s). absurd (h.4 id v at served))
      (λ (h : IsOut entries first r.since s).
      let here : h.0 ≡ id = one_served entries port_of grown first s r h.0 id h.1 v h.2 at h.3 served in
      ap (λ (x : View V E). x.taken) (one_view s.views id h.0 v h.1 at h.2 (sym here)) ∙ h.4)
      r.slot

  ends_at : (slots id : ℕ) (v : View V E) (value : V) → 0 < slots → v.role ≢ Spent → (m : MayEnd entries port_of grown first (v, (0, Some value) ∷ [])) → m.value ≡ value
      → Allows (IsOneHistory entries port_of grown first) slots id (v, (0, Some value) ∷ []) 1 (λ n. (n + 1) % 2 ^ 64) (Ends entries (step slots 1 1 0 maybe.none) (v, (0, Some value) ∷ []))
  ends_at slots id v value some_slot live m is s r deep there small =
      let at : HasView s id v = (there, live) in
      let w : View V E = after_turn v (entries value) in
      let f = r.each id v at in
      let two : length s.words ≡ 2 = r.two_words in
      let n : ℕ = (get_or s.words 1 0 + 1) % 2 ^ 64 in
      let start : List E = entries first in
      let value_is : entries value ≡ v.taken ++ m.more = ap entries (sym is) ∙ m.entries_are in
      let history : entries value ≡ start ++ (r.since ++ m.more) = value_is ∙ (ap (λ (l : List E). l ++ m.more) (has_taken s r id v at m.served) ∙ append_assoc start r.since m.more) in
      let mine : v.ticket ≡ Some r.done = f.served m.served in
      let long : length s.homes ≡ slots = deep in (
        w,
        gives,
        tt,
        moves entries port_of grown first s r id v w at refl (set s.words 1 n) (set s.homes 0 (maybe.some (Some value))) (r.since ++ m.more) r.drawn (r.done + 1)
            (length-set s.words 1 n ∙ two)
            (get_or-set_other s.words 1 0 n 0 (λ e. omega arith) ∙ r.drawn_is)
            (get_or-set_same s.words 1 n 0 (omega arith) ∙ next_word (get_or s.words 1 0) r.done r.done_is)
            (let range = f.ticket r.done mine in omega arith)
            (λ t a b.
            let o = r.held t (omega arith) b in
            inr (o.0, o.1, (λ e. let same : Some r.done ≡ Some t = sym mine ∙ (ap (λ (x : View V E). x.ticket) (one_view s.views id o.0 v o.1 at o.2 (sym e)) ∙ o.3) in let e' : r.done ≡ t = cc in absurd (omega arith)), o.2, o.3))
            (λ i u t ne h p q. let no : None ≡ Some t = q in cc)
            (inl (
              value,
              set_here s.homes 0 (maybe.some (Some value)) (omega arith),
              subst (λ (x : V). grown first x) is m.grown_is,
              history,
              λ i u h p.
                  ⊎_elim (λ (a : (i ≡ id) × (w ≡ u)). let no : false ≡ true = ap (λ (x : View V E). x.served) a.1 ∙ p in cc)
                  (λ (b : (i ≢ id) × HasView s i u). b.0 (one_served entries port_of grown first s r i id u v b.1 at p m.served))
                  (now_cases s.views id v w at refl i u h),
            ))
            record {
              ticket = λ t e. let no : None ≡ Some t = e in absurd cc;
              served = λ p. let no : false ≡ true = p in absurd cc;
              seen = prefix_whole (entries value) (start ++ (r.since ++ m.more)) history;
              begun = (r.since ++ m.more, sym history);
              met = (entries value, refl);
              first_is = f.first_is;
              port = λ p e. let g = f.port p e in (g.0, g.1, ap (λ (l : List E). v.own ++ l) (rest_of v.taken m.more (entries value) value_is) ∙ of_port_more port_of p r.since m.more v.own (m.mine p e) g.2);
              root = f.root;
            }
            (λ i u ne h. let g = r.each i u h in record {
              ticket = λ t e.
                  let range = g.ticket t e in
                  let other : t ≢ r.done = λ same. ne (r.once i id u v t h at e (mine ∙ ap (λ (x : ℕ). Some x) (sym same))) in
                  (omega arith, range.1);
              served = λ p. absurd (ne (one_served entries port_of grown first s r i id u v h at p m.served));
              seen = prefix_more u.seen start r.since m.more g.seen;
              begun = g.begun;
              met = g.met;
              first_is = g.first_is;
              port = λ p e. let k = g.port p e in (k.0, k.1, k.2 ∙ sym (of_port_same port_of p r.since m.more (m.not_mine p (λ e'. ne (r.apart i id u v p h at e e')))));
              root = g.root;
            })
            (λ p none. of_port_same port_of p r.since m.more (m.not_mine p (none id v at)) ∙ r.others p none),
        refl,
      )

  pub ends : (slots id : ℕ) (me : Sat V E) → 0 < slots → me.0.role ≢ Spent → MayEnd entries port_of grown first me
      → Allows (IsOneHistory entries port_of grown first) slots id me 1 (λ n. (n + 1) % 2 ^ 64) (Ends entries (step slots 1 1 0 maybe.none) me)
  ends slots id me some_slot live m =
      subst (λ (x : Sat V E). Allows (IsOneHistory entries port_of grown first) slots id x 1 (λ n. (n + 1) % 2 ^ 64) (Ends entries (step slots 1 1 0 maybe.none) x)) (λ i. (me.0, sym m.slot i))
      (ends_at slots id me.0 m.value some_slot live record { value = m.value; more = m.more; served = m.served; slot = refl; grown_is = m.grown_is; entries_are = m.entries_are; mine = m.mine; not_mine = m.not_mine } refl)
