-- To take a pass in keeps the rule.
use Rattle.std.proofs.Common.{◌≡◌, ◌≢◌, ◌⊎◌, ℕ, ◌==◌, Bool, true, false, cond, List, ◌∷◌, ◌++◌, length, ltb, set, Option, Some, None, inl, inr, ⊎_elim, refl, sym, ap, ◌∙◌, subst}
use mathlib.Core.Option as maybe
use mathlib.Core.List.{IsPrefix}
use mathlib.Core.Logic.{dite}
use native.Mathlib.Decide.{ℕ_discrete}
use lib.ListN.{get_elem?}
use Rattle.atomic_table.specs.Table.{Joins}
use Rattle.atomic_table.proofs.Lists.{at_set, set_else}
use Rattle.fab_turn.specs.declared.view.View.{View}
use Rattle.fab_turn.specs.declared.view.Role.TheVariants.{Root, Of, Spent}
use Rattle.fab_turn.specs.Views.{role_of, has_port, has_kept, kept_list, of_port}
use Rattle.fab_turn.specs.Rule.{HasView, AtHome, IsOut, history_of, FitsHistory, IsOneHistory}
use Rattle.fab_turn.specs.Steps.{longer, port_in, joined, spent}
use Rattle.fab_turn.proofs.Seats.{In, Like, like_same, one_view, now_cases, now_mine, now_else}
use Rattle.fab_turn.proofs.Moves.{St, Holds}
use Rattle.fab_turn.proofs.Histories.{shorter_begins}
use Rattle.fab_turn.proofs.PortLists.{or_here, or_there, or_not, or_cases, kept_here, kept_there}

-- the longer of two lists is one of them
longer_is : {E : Type 0} (P : List E → Type 0) (a b : List E) → P a → P b → P (longer a b)
longer_is P a b x y = pick (ltb (length a) (length b))
  where
    pick : (c : Bool) → P (cond c b a)
    pick true = y
    pick false = x

module _ {V E : Type 0} (entries : V → List E) (port_of : E → ℕ) (grown : V → V → Type 0) (first : V) where
  module _ (s : St entries port_of grown first) (r : Holds entries port_of grown first s) (id other port : ℕ) (v w : View V E) (at : HasView s id v) (there : HasView s other w) (apart : other ≢ id) (is_root : v.role ≡ Root) (has_role : w.role ≡ Of port) (idle : w.ticket ≡ None) (unserved : w.served ≡ false) where
    abbrev both : View V E
    both = joined v w

    abbrev others_now : List (View V E)
    others_now = set s.views id both

    abbrev Now : ℕ → View V E → Type 0
    Now = In (set others_now other spent)

    f : FitsHistory port_of first (history_of (entries first) r.since r.done r.drawn r.given r.kept) id v
    f = r.each id v at

    g : FitsHistory port_of first (history_of (entries first) r.since r.done r.drawn r.given r.kept) other w
    g = r.each other w there

    now_where : (i : ℕ) (u : View V E) → Now i u → ((i ≡ id) × (both ≡ u)) ⊎ ((i ≢ id) × (i ≢ other) × HasView s i u)
    now_where i u h =
        ⊎_elim (λ (a : (i ≡ other) × (spent ≡ u)). absurd (h.1 (sym (ap (λ (x : View V E). x.role) a.1))))
        (λ (a : (i ≢ other) × (get_elem? others_now i ≡ maybe.some u)).
        ⊎_elim (λ (b : (i ≡ id) × (both ≡ u)). inl b) (λ (b : (i ≢ id) × HasView s i u). inr (b.0, a.0, b.1)) (now_cases s.views id v both at refl i u (a.1, h.1)))
        (at_set others_now other i spent u h.0)

    -- a seat was there, and it is not the one that was taken in
    was : (i : ℕ) (u : View V E) → Now i u → (i ≢ other) × (u' : View V E) × HasView s i u' × Like u u'
    was i u h =
        ⊎_elim
        (λ (a : (i ≡ id) × (both ≡ u)). (
          (λ e. apart (sym e ∙ a.0)),
          v,
          subst (λ (j : ℕ). HasView s j v) (sym a.0) at,
          let l = like_same u both (sym a.1) in record { role = l.role; ticket = l.ticket; served = l.served; taken = l.taken },
        ))
        (λ (a : (i ≢ id) × (i ≢ other) × HasView s i u). (a.1, u, a.2, like_same u u refl))
        (now_where i u h)

    will : (i : ℕ) (u : View V E) → i ≢ other → HasView s i u → (u' : View V E) × Now i u' × Like u u'
    will i u ne h = dite (ℕ_discrete i id)
        (λ e.
        let here : In others_now id both = now_mine s.views id v both at refl in
        let l = like_same u v (one_view s.views i id u v h at e) in (
          both,
          (set_else others_now other i spent ne ∙ (ap (λ (j : ℕ). get_elem? others_now j) e ∙ here.0), here.1),
          record { role = l.role; ticket = l.ticket; served = l.served; taken = l.taken },
        ))
        (λ far. let here = now_else s.views id v both at refl i u far h in (u, (set_else others_now other i spent ne ∙ here.0, here.1), like_same u u refl))

    abbrev kept_now : List (ℕ × List E)
    kept_now = (port, w.own) ∷ r.kept

    abbrev FitsNow : ℕ → View V E → Type 0
    FitsNow = FitsHistory port_of first (history_of (entries first) r.since r.done r.drawn r.given kept_now)

    fits_root : FitsNow id both
    fits_root = record {
      ticket = f.ticket;
      served = f.served;
      seen = longer_is (λ l. IsPrefix l (entries first ++ r.since)) v.seen w.seen f.seen g.seen;
      begun = longer_is (λ l. IsPrefix (entries first) l) v.seen w.seen f.begun g.begun;
      met = shorter_begins v.seen w.seen (entries first ++ r.since) f.seen g.seen;
      first_is = f.first_is;
      port = λ p e. let no : Root ≡ Of p = sym is_root ∙ e in absurd cc;
      root = λ e. let k = f.root e in (k.0, k.1, λ i. (port_in (has_role i), w.own) ∷ k.2 i);
    }

    fits_else : (i : ℕ) (u : View V E) → i ≢ id → i ≢ other → HasView s i u → FitsNow i u
    fits_else i u ne far h = let k = r.each i u h in record {
      ticket = k.ticket;
      served = k.served;
      seen = k.seen;
      begun = k.begun;
      met = k.met;
      first_is = k.first_is;
      port = λ p e.
          let o = k.port p e in
          let not_it : port ≢ p = λ same. far (r.apart i other u w p h there e (has_role ∙ ap (λ (x : ℕ). Of x) same)) in
          (o.0, or_not port p (has_kept p r.kept) not_it o.1, o.2);
      root = λ e. absurd (ne ((k.root e).0 ∙ sym (f.root is_root).0));
    }

    not_theirs : (i : ℕ) (u : View V E) (t : ℕ) → HasView s i u → u.ticket ≡ Some t → i ≢ other
    not_theirs i u t h p e = let no : None ≡ Some t = sym idle ∙ (ap (λ (x : View V E). x.ticket) (one_view s.views other i w u there h (sym e)) ∙ p) in cc

    not_served : (i : ℕ) (u : View V E) → HasView s i u → u.served ≡ true → i ≢ other
    not_served i u h p e = let no : false ≡ true = sym unserved ∙ (ap (λ (x : View V E). x.served) (one_view s.views other i w u there h (sym e)) ∙ p) in cc

    others_kept : (p : ℕ) → ((i : ℕ) (u : View V E) → Now i u → u.role ≢ Of p) → of_port port_of p r.since ≡ kept_list p kept_now
    others_kept p none = dite (ℕ_discrete port p)
        (λ same. subst (λ (q : ℕ). of_port port_of q r.since ≡ kept_list q kept_now) same (sym (g.port port has_role).2 ∙ sym (kept_here port w.own r.kept)))
        (λ ne. r.others p
        (λ i u h e. dite (ℕ_discrete i other)
        (λ it. let both_roles : Of port ≡ Of p = sym has_role ∙ (ap (λ (x : View V E). x.role) (one_view s.views other i w u there h (sym it)) ∙ e) in ne cc)
        (λ far. let l = will i u far h in none i l.0 l.1 (l.2.role ∙ e)))
        ∙ sym (kept_there port p w.own r.kept ne))

    join_kept : Holds entries port_of grown first record { words = s.words; homes = s.homes; views = set others_now other spent }
    join_kept = record {
      since = r.since;
      drawn = r.drawn;
      done = r.done;
      given = r.given;
      kept = kept_now;
      two_words = r.two_words;
      drawn_is = r.drawn_is;
      done_is = r.done_is;
      ordered = r.ordered;
      held = λ t a b. let o = r.held t a b in let l = will o.0 o.1 (not_theirs o.0 o.1 t o.2 o.3) o.2 in (o.0, l.0, l.1, l.2.ticket ∙ o.3);
      once = λ i j u u' t h h' p q. let a = was i u h in let b = was j u' h' in r.once i j a.1 b.1 t a.2 b.2 (a.3.ticket ∙ p) (b.3.ticket ∙ q);
      apart = λ i j u u' p h h' e e'. let a = was i u h in let b = was j u' h' in r.apart i j a.1 b.1 p a.2 b.2 (a.3.role ∙ e) (b.3.role ∙ e');
      ports = r.ports;
      slot =
          ⊎_elim
          (λ (h : AtHome entries grown first r.since s). inl (h.0, h.1, h.2, h.3, λ i u n p. let a = was i u n in h.4 i a.1 a.2 (a.3.served ∙ p)))
          (λ (h : IsOut entries first r.since s). let l = will h.0 h.1 (not_served h.0 h.1 h.2 h.3) h.2 in inr (h.0, l.0, l.1, l.2.served ∙ h.3, l.2.taken ∙ h.4))
          r.slot;
      each = λ i u h.
          ⊎_elim (λ (a : (i ≡ id) × (both ≡ u)). subst (λ (x : ℕ × View V E). FitsNow x.0 x.1) (λ k. (sym a.0 k, a.1 k)) fits_root)
          (λ (a : (i ≢ id) × (i ≢ other) × HasView s i u). fits_else i u a.0 a.1 a.2)
          (now_where i u h);
      others = others_kept;
      out = λ p e.
          ⊎_elim
          (λ (h : (i : ℕ) × (u : View V E) × HasView s i u × (u.role ≡ Of p)). dite (ℕ_discrete h.0 other)
          (λ it.
          let roles : Of port ≡ Of p = sym has_role ∙ (ap (λ (x : View V E). x.role) (one_view s.views other h.0 w h.1 there h.2 (sym it)) ∙ h.3) in
          inr (or_here port p (has_kept p r.kept) cc))
          (λ far. let l = will h.0 h.1 far h.2 in inl (h.0, l.0, l.1, l.2.role ∙ h.3)))
          (λ (k : has_kept p r.kept ≡ true). inr (or_there (port == p) (has_kept p r.kept) k))
          (r.out p e);
      kept_given = λ p e. ⊎_elim (λ (same : port ≡ p). subst (λ (q : ℕ). has_port q r.given ≡ true) same (g.port port has_role).0) (λ (old : has_kept p r.kept ≡ true). r.kept_given p old) (or_cases port p (has_kept p r.kept) e);
    }

  pub joins : (id other : ℕ) (v w : View V E) (port : Option ℕ) → v.role ≡ Root → w.role ≡ role_of port → w.ticket ≡ None → w.served ≡ false
      → Joins (IsOneHistory entries port_of grown first) id v other w (joined v w) spent
  joins id other v w None is_root has_role idle unserved s r there apart here =
      let at : HasView s id v = (there, λ e. let no : Root ≡ Spent = sym is_root ∙ e in cc) in
      let mine = ((r.each id v at).root is_root).0 in
      ⊎_elim (λ (a : (other ≡ id) × (joined v w ≡ w)). absurd (apart a.0))
      (λ (a : (other ≢ id) × (get_elem? s.views other ≡ maybe.some w)).
      let theirs = ((r.each other w (a.1, λ e. let no : Root ≡ Spent = sym has_role ∙ e in cc)).root has_role).0 in
      absurd (apart (theirs ∙ sym mine)))
      (at_set s.views id other (joined v w) w here)
  joins id other v w (Some port) is_root has_role idle unserved s r there apart here =
      ⊎_elim (λ (a : (other ≡ id) × (joined v w ≡ w)). absurd (apart a.0))
      (λ (a : (other ≢ id) × (get_elem? s.views other ≡ maybe.some w)).
      join_kept s r id other port v w (there, λ e. let no : Root ≡ Spent = sym is_root ∙ e in cc) (a.1, λ e. let no : Of port ≡ Spent = sym has_role ∙ e in cc) a.0 is_root has_role idle unserved)
      (at_set s.views id other (joined v w) w here)
