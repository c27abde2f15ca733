-- To look at the serving number keeps the rule. Where it is the ticket, the slot is at home.
use Rattle.std.proofs.Common.{◌≡◌, ◌≢◌, ℕ, zero, suc, ◌%◌, ◌^◌, true, false, List, [], ◌∷◌, length, get_or, set, Option, Some, IfSome, inl, inr, ⊎_elim, refl, sym, ap, ◌∙◌, subst, arith, length-set, get_or-set_same, get_or-set_other}
use mathlib.Core.Option as maybe
use mathlib.Core.List.{IsPrefix}
use mathlib.Core.Logic.{dite}
use native.Mathlib.Decide.{ℕ_discrete}
use Rattle.atomic_table.specs.Table.{Act, step, keeps, takes, Valid, stepped, carried_after, Allows}
use Rattle.atomic_table.proofs.Lists.{one_turn, set_again}
use Rattle.fab_turn.specs.declared.view.View.{View}
use Rattle.fab_turn.specs.declared.view.Role.TheVariants.{Spent}
use Rattle.fab_turn.specs.Rule.{HasView, AtHome, IsOut, IsOneHistory}
use Rattle.fab_turn.specs.Steps.{Sat, with_turn, Looks}
use Rattle.fab_turn.proofs.Seats.{one_view, now_mine}
use Rattle.fab_turn.proofs.Moves.{St, Holds, few, moves}

pub set_same : (l : List ℕ) (i d : ℕ) → set l i (get_or l i d) ≡ l
set_same [] i d = refl
set_same (x ∷ xs) zero d = refl
set_same (x ∷ xs) (suc i) d = ap (λ (l : List ℕ). x ∷ l) (set_same xs i d)

module _ {V E : Type 0} (entries : V → List E) (port_of : E → ℕ) (grown : V → V → Type 0) (first : V) where
  module _ (slots id : ℕ) (me : Sat V E) (t : ℕ) (has : me.0.ticket ≡ Some t) (unserved : me.0.served ≡ false) (s : St entries port_of grown first) (r : Holds entries port_of grown first s) (at : HasView s id me.0) where
    -- the step goes on to some view and act that keep the rule and tell what a look tells
    abbrev Goes : Type 0
    Goes = (w : View V E) × (a : Act (Option V)) × Valid s.homes me.1 a × IsOneHistory entries port_of grown first (stepped s 1 (get_or s.words 1 0) id me.1 w a)
        × Looks entries grown (step slots 1 0 0 maybe.none) me (get_or s.words 1 0) (w, carried_after me.1 a)

    is_turn : get_or s.words 1 0 ≡ t % 2 ^ 64 → r.done ≡ t
    is_turn hit =
        let range = (r.each id me.0 at).ticket t has in
        let bound = few entries port_of grown first s r in
        one_turn r.done t (2 ^ 64) range.0 (omega arith) (sym r.done_is ∙ hit)

    serves : get_or s.words 1 0 ≡ t % 2 ^ 64 → AtHome entries grown first r.since s → Goes
    serves hit h =
        let v = me.0 in
        let value : V = h.0 in
        let w : View V E = with_turn v (entries value) in
        let f = r.each id v at in
        let two : length s.words ≡ 2 = r.two_words in
        let n : ℕ = get_or s.words 1 0 in (
          w,
          takes 0 (Some value),
          h.1,
          moves entries port_of grown first s r id v w at refl (set s.words 1 n) (set s.homes 0 maybe.none) r.since r.drawn r.done
              (length-set s.words 1 n ∙ two)
              (get_or-set_other s.words 1 0 n 0 (λ e. omega arith) ∙ r.drawn_is)
              (get_or-set_same s.words 1 n 0 (omega arith) ∙ r.done_is)
              r.ordered
              (λ k a b. dite (ℕ_discrete t k) (λ e. inl (has ∙ ap (λ (x : ℕ). Some x) e))
              (λ ne. let o = r.held k a b in inr (o.0, o.1, (λ e. let same : Some t ≡ Some k = sym has ∙ (ap (λ (x : View V E). x.ticket) (one_view s.views id o.0 v o.1 at o.2 (sym e)) ∙ o.3) in ne cc), o.2, o.3)))
              (λ i u k ne o p q. ne (r.once i id u v k o at p q))
              (inr (id, w, now_mine s.views id v w at refl, refl, h.3))
              record {
                ticket = f.ticket;
                served = λ _. has ∙ ap (λ (x : ℕ). Some x) (sym (is_turn hit));
                seen = f.seen;
                begun = f.begun;
                met = f.met;
                first_is = f.first_is;
                port = f.port;
                root = f.root;
              }
              (λ i u ne o. r.each i u o)
              r.others,
          λ k e. let same : t ≡ k = cc in (
            (λ _. (value, refl, subst (λ (l : List E). IsPrefix v.seen l) (sym h.3) f.seen, subst (λ (o : Option V). IfSome o (λ x. grown x value)) (sym f.first_is) h.2)),
            λ miss. absurd (miss (hit ∙ ap (λ (x : ℕ). x % 2 ^ 64) same)),
          ),
        )

    goes : Goes
    goes = dite (ℕ_discrete (get_or s.words 1 0) (t % 2 ^ 64))
        (λ hit. ⊎_elim (serves hit)
        (λ (h : IsOut entries first r.since s).
        let theirs : h.1.ticket ≡ Some t = (r.each h.0 h.1 h.2).served h.3 ∙ ap (λ (x : ℕ). Some x) (is_turn hit) in
        let mine : h.0 ≡ id = r.once h.0 id h.1 me.0 t h.2 at theirs has in
        let no : false ≡ true = sym unserved ∙ (ap (λ (x : View V E). x.served) (one_view s.views id h.0 me.0 h.1 at h.2 (sym mine)) ∙ h.3) in
        absurd cc)
        r.slot)
        (λ miss. (
          me.0,
          keeps,
          tt,
          subst (Holds entries port_of grown first) (λ k. record { words = sym (set_same s.words 1 0) k; homes = s.homes; views = sym (set_again s.views id me.0 at.0) k }) r,
          λ k e. let same : k ≡ t = cc in ((λ hit. absurd (miss (hit ∙ ap (λ (x : ℕ). x % 2 ^ 64) same))), λ _. refl),
        ))

  pub looks : (slots id : ℕ) (me : Sat V E) (t : ℕ) → me.0.role ≢ Spent → me.0.ticket ≡ Some t → me.0.served ≡ false
      → Allows (IsOneHistory entries port_of grown first) slots id me 1 (λ n. n) (Looks entries grown (step slots 1 0 0 maybe.none) me)
  looks slots id me t live has unserved s r deep there small = goes slots id me t has unserved s r (there, live)
