-- The walk over the bindings of an ENode that takes out those which a message ends.
use Rattle.std.proofs.Common.{◌≡◌, ℕ, ◌+◌, ◌*◌, ◌<◌, ◌≤◌, ◌^◌, Bool, true, false, not, List, filter, ◌⊎◌, inl, inr, refl, sym, ◌∙◌, ap, subst, arith}
use mathlib.Core.Bool.{false≢true}
use Rattle.std.specs.List.{All}
use Rattle.fab_base.specs.Layout.{big_endian}
use Rattle.fip_snoop.specs.Snoop.{is_binding_of, without_binding}
use Rattle.fip_snoop.specs.Maps.{IsMac, number_from, enode_number, IsOf, AreBelow, IsFirst}
use Rattle.fip_snoop.specs.declared.bindings.Binding.{Binding}
use Rattle.fip_snoop.proofs.ListLemmas.{Among}
use Rattle.fip_snoop.proofs.KeyLemmas.{All-among, All-from_among, filter-within, filter-all, filter-among-all}
use Rattle.fip_snoop.proofs.SameLemmas.{same_is, is_same}

module _ (enode : List ℕ) (ends : Binding → Bool) (its : (b : Binding) → ends b ≡ true → IsOf enode b) where
  abbrev IsEnded : Binding → Type 0
  IsEnded b = ends b ≡ true

  abbrev left : List Binding → List Binding
  left bindings = filter (λ b. not (ends b)) bindings

  -- Those whose numbers are below a bound were looked at; what is kept has the same unended ones.
  pub record Walked (old new : List Binding) (from : ℕ) : Type 0 where
    pub mac : IsMac enode
    pub low : number_from enode 0 ≤ from
    pub high : from ≤ 2 ^ 112
    pub same : left new ≡ left old
    pub past : All (λ b. ends b ≡ true → from ≤ enode_number b) new

  pub walk_starts : (old : List Binding) (from : ℕ) → IsMac enode → from ≡ number_from enode 0 → from ≤ 2 ^ 112 → Walked old old from
  walk_starts old from mac e high = record {
    mac = mac;
    low = omega (arith, e);
    high = high;
    same = refl;
    past = All-from_among (λ b. IsEnded b → from ≤ enode_number b) old (λ b here ended. above (big_endian enode) (big_endian b.enode) b.port (big_endian b.mac) e (ap big_endian (same_is enode b.enode (its b ended))));
  }
    where
      above : (e x p n : ℕ) → from ≡ (e * 2 ^ 16 + 0) * 2 ^ 48 → e ≡ x → from ≤ (x * 2 ^ 16 + p) * 2 ^ 48 + n
      above e x p n start same = omega (arith, start, same)

  module _ (old cur : List Binding) (from : ℕ) (walked : Walked old cur from) (x : Binding) (is : IsFirst enode from cur x) (range : enode_number x < 2 ^ 112) where
    -- one that is ended and isn't the first is behind it
    behind : (b : Binding) → Among b cur → IsEnded b → (enode_number x + 1 ≤ enode_number b) ⊎ (b ≡ x)
    behind b here ended = go (All-among (λ b. IsOf enode b → (enode_number b < from) ⊎ ((enode_number x < enode_number b) ⊎ (b ≡ x))) cur is.first b here (its b ended))
      where
        go : (enode_number b < from) ⊎ ((enode_number x < enode_number b) ⊎ (b ≡ x)) → (enode_number x + 1 ≤ enode_number b) ⊎ (b ≡ x)
        go (inl less) = absurd (omega (arith, less, All-among (λ b. IsEnded b → from ≤ enode_number b) cur walked.past b here ended))
        go (inr (inl more)) = inl (omega (arith, more))
        go (inr (inr same)) = inr same

    pub walk_over : (new : List Binding) → ends x ≡ false → new ≡ cur → Walked old new (enode_number x + 1)
    walk_over new kept e = record {
      mac = walked.mac;
      low = omega (arith, walked.low, is.from_);
      high = omega (arith, range);
      same = ap left e ∙ walked.same;
      past = subst (λ l. All (λ b. IsEnded b → enode_number x + 1 ≤ enode_number b) l) (sym e)
          (All-from_among (λ b. IsEnded b → enode_number x + 1 ≤ enode_number b) cur (λ b here ended. elim (behind b here ended) [
            | inl more ↦ more
            | inr same ↦ absurd (false≢true (sym kept ∙ ap (ends) (sym same) ∙ ended))
          ]));
    }

    pub walk_taken : (new : List Binding) → IsEnded x → new ≡ without_binding x.mac cur → Walked old new (enode_number x + 1)
    walk_taken new gone e = record {
      mac = walked.mac;
      low = omega (arith, walked.low, is.from_);
      high = omega (arith, range);
      same = ap left e ∙ filter-within (λ b. not (ends b)) (λ b. not (is_binding_of x.mac b)) cur
          (All-from_among (λ b. not (ends b) ≡ true → not (is_binding_of x.mac b) ≡ true) cur (λ b here keeps. other b here keeps (is_binding_of x.mac b) refl))
          ∙ walked.same;
      past = subst (λ l. All (λ b. IsEnded b → enode_number x + 1 ≤ enode_number b) l) (sym e)
          (All-from_among (λ b. IsEnded b → enode_number x + 1 ≤ enode_number b) (without_binding x.mac cur) (λ b here ended. passed b (filter-among-all (λ b. not (is_binding_of x.mac b)) b cur here) ended));
    }
      where
        other : (b : Binding) → Among b cur → not (ends b) ≡ true → (t : Bool) → is_binding_of x.mac b ≡ t → not t ≡ true
        other b here keeps false t = refl
        other b here keeps true t =
            let same : b ≡ x = All-among (λ b. is_binding_of x.mac b ≡ true → b ≡ x) cur is.alone b here t in
            absurd (false≢true (ap not (sym gone) ∙ ap (λ z. not (ends z)) (sym same) ∙ keeps))

        passed : (b : Binding) → Among b cur × (not (is_binding_of x.mac b) ≡ true) → IsEnded b → enode_number x + 1 ≤ enode_number b
        passed b (here, apart) ended = elim (behind b here ended) [
          | inl more ↦ more
          | inr same ↦ absurd (false≢true (ap not (sym (is_same b.mac x.mac (ap (λ (z : Binding). z.mac) same))) ∙ apart))
        ]

  -- one more was looked at
  pub walk_on : (old cur new : List Binding) (from next : ℕ) (x : Binding) → Walked old cur from → IsFirst enode from cur x → enode_number x < 2 ^ 112 → next ≡ enode_number x + 1
      → (IsEnded x → new ≡ without_binding x.mac cur) → (ends x ≡ false → new ≡ cur) → Walked old new next
  walk_on old cur new from next x walked is range e gone kept = subst (Walked old new) (sym e) (go (ends x) refl)
    where
      go : (t : Bool) → ends x ≡ t → Walked old new (enode_number x + 1)
      go true t = walk_taken old cur from walked x is range new t (gone t)
      go false t = walk_over old cur from walked x is range new t (kept t)

  pub walk_ends : (old cur : List Binding) (from : ℕ) → Walked old cur from → AreBelow enode from cur → cur ≡ left old
  walk_ends old cur from walked below =
      sym (filter-all (λ b. not (ends b)) cur (All-from_among (λ b. not (ends b) ≡ true) cur (λ b here. go b here (ends b) refl)))
      ∙ walked.same
    where
      go : (b : Binding) → Among b cur → (t : Bool) → ends b ≡ t → not t ≡ true
      go b here false e = refl
      go b here true e = absurd (omega (arith, All-among (λ b. IsEnded b → from ≤ enode_number b) cur walked.past b here e, All-among (λ b. IsOf enode b → enode_number b < from) cur below b here (its b e)))
