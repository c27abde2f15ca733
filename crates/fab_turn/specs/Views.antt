-- Views of passes, and the words on ports.
use Rattle.std.specs.Prelude.{ℕ, ◌==◌, Bool, false, ◌||◌, cond, List, [], ◌∷◌, Option, Some, None}
use Rattle.std.specs.List.{filter}
use Rattle.fab_turn.specs.declared.view.View.{View}
use Rattle.fab_turn.specs.declared.view.Role.{Role}
use Rattle.fab_turn.specs.declared.view.Role.TheVariants.{Root, Of}

-- the port is among these
abbrev pub has_port : ℕ → List ℕ → Bool
has_port port [] = false
has_port port (p ∷ ps) = (p == port) || has_port port ps

-- the role of the pass with this port
abbrev pub role_of : Option ℕ → Role
role_of None = Root
role_of (Some port) = Of port

module _ {E : Type 0} where
  -- a list is kept for the port
  abbrev pub has_kept : ℕ → List (ℕ × List E) → Bool
  has_kept port [] = false
  has_kept port (k ∷ ks) = (k.0 == port) || has_kept port ks

  -- the list that is kept for the port
  abbrev pub kept_list : ℕ → List (ℕ × List E) → List E
  kept_list port [] = []
  kept_list port (k ∷ ks) = cond (k.0 == port) k.1 (kept_list port ks)

  -- the entries of a port
  abbrev pub of_port : (E → ℕ) → ℕ → List E → List E
  of_port port_of port = filter (λ e. port_of e == port)

module _ {V E : Type 0} where
  -- the view of the root pass at opening
  abbrev pub root_view : V → List E → View V E
  root_view first start = record { role = Root; ticket = None; served = false; taken = []; seen = start; own = []; met = []; first = Some first; given = []; kept = [] }
