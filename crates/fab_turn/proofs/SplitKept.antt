-- To give out a port keeps the rule.
use Rattle.std.proofs.Common.{◌≡◌, ◌≢◌, ◌⊎◌, ℕ, zero, suc, ◌<◌, ◌≤◌, ◌==◌, true, false, List, [], ◌∷◌, ◌++◌, length, set, Some, None, inl, inr, ⊎_elim, refl, sym, ap, ◌∙◌, subst, arith}
use mathlib.Core.Option as maybe
use mathlib.Core.Option.{some-injective, some-ne-none}
use mathlib.Core.Logic.{dite}
use native.Mathlib.Decide.{ℕ_discrete}
use lib.ListN.{get_elem?}
use Rattle.atomic_table.specs.Table.{Splits}
use Rattle.atomic_table.proofs.Lists.{at_longer, at_last}
use Rattle.fab_turn.specs.declared.view.View.{View}
use Rattle.fab_turn.specs.declared.view.Role.TheVariants.{Root, Of, Spent}
use Rattle.fab_turn.specs.Views.{has_port, has_kept, of_port}
use Rattle.fab_turn.specs.Rule.{HasView, AtHome, IsOut, history_of, FitsHistory, IsOneHistory}
use Rattle.fab_turn.specs.Steps.{gave, worker}
use Rattle.fab_turn.proofs.Seats.{In, Like, like_same, one_view, now_cases, now_mine, now_else}
use Rattle.fab_turn.proofs.Moves.{St, Holds}
use Rattle.fab_turn.proofs.PortLists.{is_false, or_here, or_there, or_cases, kept_none}

pub at_end : {A : Type 0} (l : List A) (a b : A) (j : ℕ) → get_elem? (l ++ a ∷ []) j ≡ maybe.some b → (get_elem? l j ≡ maybe.some b) ⊎ ((j ≡ length l) × (a ≡ b))
at_end [] a b zero e = inr (refl, some-injective a b e)
at_end [] a b (suc j) e = absurd (some-ne-none b (sym e))
at_end (x ∷ xs) a b zero e = inl e
at_end (x ∷ xs) a b (suc j) e = ⊎_elim (λ (h : get_elem? xs j ≡ maybe.some b). inl h) (λ (h : (j ≡ length xs) × (a ≡ b)). inr (ap suc h.0, h.1)) (at_end xs a b j e)

module _ {V E : Type 0} (entries : V → List E) (port_of : E → ℕ) (grown : V → V → Type 0) (first : V) where
  module _ (s : St entries port_of grown first) (r : Holds entries port_of grown first s) (id port : ℕ) (v : View V E) (at : HasView s id v) (is_root : v.role ≡ Root) (new_port : has_port port v.given ≡ false) (above : 0 < port) (below : port ≤ 64) where
    abbrev left : View V E
    left = gave port v

    abbrev right : View V E
    right = worker port v

    abbrev others_now : List (View V E)
    others_now = set s.views id left

    abbrev Now : ℕ → View V E → Type 0
    Now = In (others_now ++ right ∷ [])

    f : FitsHistory port_of first (history_of (entries first) r.since r.done r.drawn r.given r.kept) id v
    f = r.each id v at

    -- the seat is new, or it was there
    was : (i : ℕ) (u : View V E) → Now i u → ((i ≡ length others_now) × (right ≡ u)) ⊎ ((u' : View V E) × HasView s i u' × Like u u')
    was i u h =
        ⊎_elim
        (λ (o : get_elem? others_now i ≡ maybe.some u).
        ⊎_elim (λ (a : (i ≡ id) × (left ≡ u)). inr (v, subst (λ (j : ℕ). HasView s j v) (sym a.0) at, let l = like_same u left (sym a.1) in record { role = l.role; ticket = l.ticket; served = l.served; taken = l.taken }))
        (λ (b : (i ≢ id) × HasView s i u). inr (u, b.1, like_same u u refl))
        (now_cases s.views id v left at refl i u (o, h.1)))
        (λ (n : (i ≡ length others_now) × (right ≡ u)). inl n)
        (at_end others_now right u i h.0)

    stays : (i : ℕ) (u : View V E) → In others_now i u → Now i u
    stays i u h = (at_longer others_now (right ∷ []) i u h.0, h.1)

    will : (i : ℕ) (u : View V E) → HasView s i u → (u' : View V E) × Now i u' × Like u u'
    will i u h = dite (ℕ_discrete i id)
        (λ e. (left, stays i left (subst (λ (j : ℕ). In others_now j left) (sym e) (now_mine s.views id v left at refl)), let l = like_same u v (one_view s.views i id u v h at e) in record { role = l.role; ticket = l.ticket; served = l.served; taken = l.taken }))
        (λ ne. (u, stays i u (now_else s.views id v left at refl i u ne h), like_same u u refl))

    ungiven : has_port port r.given ≢ true
    ungiven e = let no : false ≡ true = sym new_port ∙ (ap (has_port port) (f.root is_root).1 ∙ e) in cc

    -- no seat had the port
    nobody : (i : ℕ) (u : View V E) → HasView s i u → u.role ≢ Of port
    nobody i u h e = ungiven ((r.each i u h).port port e).0

    none_kept : has_kept port r.kept ≡ false
    none_kept = is_false (has_kept port r.kept) (λ e. ungiven (r.kept_given port e))

    nothing : of_port port_of port r.since ≡ []
    nothing = r.others port nobody ∙ kept_none port r.kept none_kept

    more : (p : ℕ) → has_port p r.given ≡ true → has_port p (port ∷ r.given) ≡ true
    more p e = or_there (port == p) (has_port p r.given) e

    abbrev FitsNow : ℕ → View V E → Type 0
    FitsNow = FitsHistory port_of first (history_of (entries first) r.since r.done r.drawn (port ∷ r.given) r.kept)

    fits_else : (i : ℕ) (u : View V E) → i ≢ id → HasView s i u → FitsNow i u
    fits_else i u ne h = let g = r.each i u h in record {
      ticket = g.ticket;
      served = g.served;
      seen = g.seen;
      begun = g.begun;
      met = g.met;
      first_is = g.first_is;
      port = λ p e. let k = g.port p e in (more p k.0, k.1, k.2);
      root = λ e. absurd (ne ((g.root e).0 ∙ sym (f.root is_root).0));
    }

    fits_left : FitsNow id left
    fits_left = record {
      ticket = f.ticket;
      served = f.served;
      seen = f.seen;
      begun = f.begun;
      met = f.met;
      first_is = f.first_is;
      port = λ p e. let no : Root ≡ Of p = sym is_root ∙ e in absurd cc;
      root = λ e. let k = f.root e in (k.0, ap (λ (l : List ℕ). port ∷ l) k.1, k.2);
    }

    fits_right : FitsNow (length others_now) right
    fits_right = record {
      ticket = λ t e. let no : None ≡ Some t = e in absurd cc;
      served = λ e. let no : false ≡ true = e in absurd cc;
      seen = f.seen;
      begun = f.begun;
      met = (v.seen, refl);
      first_is = f.first_is;
      port = λ p e. let h : Of port ≡ Of p = e in let same : port ≡ p = cc in
          (or_here port p (has_port p r.given) same, subst (λ (q : ℕ). has_kept q r.kept ≡ false) same none_kept, subst (λ (q : ℕ). [] ≡ of_port port_of q r.since) same (sym nothing));
      root = λ e. let no : Of port ≡ Root = e in absurd cc;
    }

    split_kept : Holds entries port_of grown first record { words = s.words; homes = s.homes; views = others_now ++ right ∷ [] }
    split_kept = record {
      since = r.since;
      drawn = r.drawn;
      done = r.done;
      given = port ∷ r.given;
      kept = r.kept;
      two_words = r.two_words;
      drawn_is = r.drawn_is;
      done_is = r.done_is;
      ordered = r.ordered;
      held = λ t a b. let o = r.held t a b in let l = will o.0 o.1 o.2 in (o.0, l.0, l.1, l.2.ticket ∙ o.3);
      once = λ i j u u' t h h' p q.
          ⊎_elim (λ (a : (i ≡ length others_now) × (right ≡ u)). let no : None ≡ Some t = ap (λ (x : View V E). x.ticket) a.1 ∙ p in absurd cc)
          (λ (a : (x : View V E) × HasView s i x × Like u x).
          ⊎_elim (λ (b : (j ≡ length others_now) × (right ≡ u')). let no : None ≡ Some t = ap (λ (x : View V E). x.ticket) b.1 ∙ q in absurd cc)
          (λ (b : (x : View V E) × HasView s j x × Like u' x). r.once i j a.0 b.0 t a.1 b.1 (a.2.ticket ∙ p) (b.2.ticket ∙ q))
          (was j u' h'))
          (was i u h);
      apart = λ i j u u' p h h' e e'.
          ⊎_elim
          (λ (a : (i ≡ length others_now) × (right ≡ u)).
          ⊎_elim (λ (b : (j ≡ length others_now) × (right ≡ u')). a.0 ∙ sym b.0)
          (λ (b : (x : View V E) × HasView s j x × Like u' x). absurd (nobody j b.0 b.1 (b.2.role ∙ (e' ∙ (sym e ∙ sym (ap (λ (x : View V E). x.role) a.1))))))
          (was j u' h'))
          (λ (a : (x : View V E) × HasView s i x × Like u x).
          ⊎_elim (λ (b : (j ≡ length others_now) × (right ≡ u')). absurd (nobody i a.0 a.1 (a.2.role ∙ (e ∙ (sym e' ∙ sym (ap (λ (x : View V E). x.role) b.1))))))
          (λ (b : (x : View V E) × HasView s j x × Like u' x). r.apart i j a.0 b.0 p a.1 b.1 (a.2.role ∙ e) (b.2.role ∙ e'))
          (was j u' h'))
          (was i u h);
      ports = λ p e. ⊎_elim (λ (same : port ≡ p). (omega arith, omega arith)) (λ (old : has_port p r.given ≡ true). r.ports p old) (or_cases port p (has_port p r.given) e);
      slot =
          ⊎_elim
          (λ (h : AtHome entries grown first r.since s). inl (
            h.0,
            h.1,
            h.2,
            h.3,
            λ i u n p.
                ⊎_elim (λ (a : (i ≡ length others_now) × (right ≡ u)). let no : false ≡ true = ap (λ (x : View V E). x.served) a.1 ∙ p in cc)
                (λ (a : (x : View V E) × HasView s i x × Like u x). h.4 i a.0 a.1 (a.2.served ∙ p))
                (was i u n),
          ))
          (λ (h : IsOut entries first r.since s). let l = will h.0 h.1 h.2 in inr (h.0, l.0, l.1, l.2.served ∙ h.3, l.2.taken ∙ h.4))
          r.slot;
      each = λ i u h.
          ⊎_elim
          (λ (o : get_elem? others_now i ≡ maybe.some u).
          ⊎_elim (λ (a : (i ≡ id) × (left ≡ u)). subst (λ (x : ℕ × View V E). FitsNow x.0 x.1) (λ k. (sym a.0 k, a.1 k)) fits_left)
          (λ (b : (i ≢ id) × HasView s i u). fits_else i u b.0 b.1)
          (now_cases s.views id v left at refl i u (o, h.1)))
          (λ (a : (i ≡ length others_now) × (right ≡ u)). subst (λ (x : ℕ × View V E). FitsNow x.0 x.1) (λ k. (sym a.0 k, a.1 k)) fits_right)
          (at_end others_now right u i h.0);
      others = λ p none. r.others p (λ i u h e. let l = will i u h in none i l.0 l.1 (l.2.role ∙ e));
      out = λ p e.
          ⊎_elim (λ (same : port ≡ p). inl (length others_now, right, (at_last others_now right (length others_now) refl, λ s. let no : Of port ≡ Spent = s in cc), ap (λ (x : ℕ). Of x) same))
          (λ (old : has_port p r.given ≡ true).
          ⊎_elim (λ (h : (i : ℕ) × (u : View V E) × HasView s i u × (u.role ≡ Of p)). let l = will h.0 h.1 h.2 in inl (h.0, l.0, l.1, l.2.role ∙ h.3))
          (λ (k : has_kept p r.kept ≡ true). inr k)
          (r.out p old))
          (or_cases port p (has_port p r.given) e);
      kept_given = λ p e. more p (r.kept_given p e);
    }

  pub splits : (id port : ℕ) (v : View V E) → v.role ≡ Root → has_port port v.given ≡ false → 0 < port → port ≤ 64
      → Splits (IsOneHistory entries port_of grown first) id v (gave port v) (worker port v)
  splits id port v is_root new_port above below s r there =
      split_kept s r id port v (there, λ e. let no : Root ≡ Spent = sym is_root ∙ e in cc) is_root new_port above below
