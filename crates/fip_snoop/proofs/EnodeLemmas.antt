-- Bindings as they are kept by ENode.
use Rattle.std.proofs.Common.{◌≡◌, ◌≢◌, ℕ, ◌+◌, ◌==◌, nat_le, Bool, cond, List, [], ◌∷◌, find, not, Option, Some, None, option_map, sym, ◌∙◌, ap}
use Rattle.fab_base.specs.Keyed.{AscendFrom, added, without}
use Rattle.fab_config.specs.Settings.{same_bytes}
use Rattle.sorted_lists.proofs.IndexLemmas.{differs}
use Rattle.fip_snoop.specs.Maps.{enode_number, bindings_of, forgotten, if_its, first_of}
use Rattle.fip_snoop.specs.declared.bindings.Binding.{Binding}
use Rattle.fip_snoop.specs.declared.orders.ByEnode.{ByEnode}
use Rattle.fip_snoop.proofs.KeyLemmas.{find-of, filter-of, added-of}

abbrev rank : ByEnode → ℕ
rank k = enode_number k.binding

pub ascend_of : (j : ℕ) (kept : List ByEnode) → AscendFrom rank j kept → AscendFrom enode_number j (bindings_of kept)
ascend_of j [] up = tt
ascend_of j (k ∷ ks) up = (up.0, ascend_of (rank k + 1) ks up.1)

-- the first from a number on
pub next_of : (kept : List ByEnode) (from : ℕ) (o : Option ByEnode) → o ≡ find (λ k. nat_le from (rank k)) kept → find (λ b. nat_le from (enode_number b)) (bindings_of kept) ≡ option_map (λ (k : ByEnode). k.binding) o
next_of kept from o e = find-of (λ (k : ByEnode). k.binding) (λ b. nat_le from (enode_number b)) kept ∙ ap (option_map (λ (k : ByEnode). k.binding)) (sym e)

pub first_is : (enode : List ℕ) (from : ℕ) (kept : List ByEnode) (o : Option ByEnode) → o ≡ find (λ k. nat_le from (rank k)) kept → if_its enode (option_map (λ (k : ByEnode). k.binding) o) ≡ first_of enode from (bindings_of kept)
first_is enode from kept o e = ap (if_its enode) (sym (next_of kept from o e))

pub its_own : (enode : List ℕ) (b : Binding) (t : Bool) → t ≡ same_bytes enode b.enode → cond t (Some b) None ≡ if_its enode (Some b)
its_own enode b t e = ap (λ (s : Bool). cond s (Some b) None) e

-- ---- changes

pub put_of : (y : Binding) (kept new : List ByEnode) → new ≡ added rank (record { binding = y }) kept → bindings_of new ≡ added enode_number y (bindings_of kept)
put_of y kept new e = ap (λ (l : List ByEnode). bindings_of l) e ∙ added-of (λ (k : ByEnode). k.binding) enode_number (record { binding = y }) kept

pub left_of : (n m : ℕ) (kept new : List ByEnode) → n ≡ m → new ≡ without rank n kept → bindings_of new ≡ without enode_number m (bindings_of kept)
left_of n m kept new is e =
    ap (λ (l : List ByEnode). bindings_of l) e ∙ filter-of (λ (k : ByEnode). k.binding) (λ b. not (enode_number b == n)) kept
    ∙ ap (λ (k : ℕ). without enode_number k (bindings_of kept)) is

pub forgotten_of : (b old : Binding) (n : ℕ) (kept new : List ByEnode) → n ≡ enode_number old → enode_number old ≢ enode_number b → new ≡ without rank n kept → bindings_of new ≡ forgotten b (Some old) (bindings_of kept)
forgotten_of b old n kept new is apart e =
    left_of n (enode_number old) kept new is e
    ∙ ap (λ (t : Bool). cond t (bindings_of kept) (without enode_number (enode_number old) (bindings_of kept))) (sym (differs (enode_number old) (enode_number b) apart))
