-- Who has moved, by what is kept and by the history.
use Rattle.std.proofs.Common.{◌≡◌, ℕ, true, not, ◌&&◌, ◌==◌, List, Option, Some, None, refl, sym, ◌∙◌, ap, subst}
use mathlib.Core.Bool.{false≢true}
use Rattle.fab_config.specs.Settings.{same_bytes}
use Rattle.fip_snoop.specs.History.{History, bound, granted_in, is_elsewhere, moves, has_moved}
use Rattle.fip_snoop.specs.Snoop.{Contents, is_binding_of, is_moved_in, Remembers}
use Rattle.fip_snoop.specs.declared.bindings.Binding.{Binding}
use Rattle.fip_snoop.specs.declared.forwarder.Forwarder.{Forwarder}
use Rattle.fip_snoop.proofs.ListLemmas.{Among, any-among, among-any, among-filter, filter-among, among-option, option-among, alike}
use Rattle.fip_snoop.proofs.BoundLemmas.{granted_once}
use Rattle.fip_snoop.proofs.SameLemmas.{is_same}

module _ (w : Forwarder) (L : History) (port : ℕ) (enode : List ℕ) where
  -- the binding of some MAC shows that an ENode has moved
  pub has_moved-bound : (mac : List ℕ) (b : Binding) → bound w L mac ≡ Some b → same_bytes b.mac mac ≡ true → (e : List ℕ) → is_elsewhere port enode (Some b) ≡ true → bound w L b.mac ≡ Some b → has_moved w L port enode ≡ true
  has_moved-bound mac b is same _ elsewhere own =
      let made = granted_once w L mac b is in
      among-any (λ h. moves w L port enode (granted_in w h)) made.0 L made.1 (ap (moves w L port enode) made.2 ∙ ap (is_elsewhere port enode) own ∙ elsewhere)

  -- who has moved has some such binding
  pub bound-has_moved : has_moved w L port enode ≡ true → (mac : List ℕ) × (b : Binding) × (bound w L mac ≡ Some b) × (is_elsewhere port enode (Some b) ≡ true)
  bound-has_moved e = let found = any-among (λ h. moves w L port enode (granted_in w h)) L e in of_grant (granted_in w found.0) found.2
    where
      of_bound : (mac : List ℕ) (o : Option Binding) → bound w L mac ≡ o → is_elsewhere port enode o ≡ true → (mac : List ℕ) × (b : Binding) × (bound w L mac ≡ Some b) × (is_elsewhere port enode (Some b) ≡ true)
      of_bound mac None is e = absurd (false≢true e)
      of_bound mac (Some b) is e = (mac, b, is, e)

      of_grant : (o : Option Binding) → moves w L port enode o ≡ true → (mac : List ℕ) × (b : Binding) × (bound w L mac ≡ Some b) × (is_elsewhere port enode (Some b) ≡ true)
      of_grant None e = absurd (false≢true e)
      of_grant (Some b) e = of_bound b.mac (bound w L b.mac) refl e

  -- what is kept says the same
  pub moved-kept : (s : Contents) → Remembers w L s → is_moved_in s.bindings port enode ≡ has_moved w L port enode
  moved-kept s r = alike _ _ there back
    where
      there : is_moved_in s.bindings port enode ≡ true → has_moved w L port enode ≡ true
      there e =
          let found = any-among (λ b. same_bytes b.enode enode && not (b.port == port)) s.bindings e in
          let b = found.0 in
          let same : same_bytes b.mac b.mac ≡ true = is_same b.mac b.mac refl in
          let own = among-option b (bound w L b.mac) (subst (Among b) (r.bindings b.mac) (among-filter (is_binding_of b.mac) b s.bindings found.1 same)) in
          has_moved-bound b.mac b own same enode found.2 own

      back : has_moved w L port enode ≡ true → is_moved_in s.bindings port enode ≡ true
      back e =
          let found = bound-has_moved e in
          let among = subst (Among found.1) (sym (r.bindings found.0)) (option-among found.1 (bound w L found.0) found.2) in
          among-any (λ b. same_bytes b.enode enode && not (b.port == port)) found.1 s.bindings (filter-among (is_binding_of found.0) found.1 s.bindings among) found.3
