-- What each kind of step tells.
use Rattle.std.specs.Prelude.{◌≡◌, ◌≢◌, ℕ, ◌%◌, ◌^◌, true, false, List, [], ◌∷◌, ◌++◌, length, drop, cond, nat_lt, Option, Some, None, IfSome}
use mathlib.Core.List.{IsPrefix}
use Rattle.atomic_table.specs.Table.{Me, Step, rest}
use Rattle.fab_turn.specs.declared.view.View.{View}
use Rattle.fab_turn.specs.declared.view.Role.{Role}
use Rattle.fab_turn.specs.declared.view.Role.TheVariants.{Root, Of, Spent}
use Rattle.fab_turn.specs.Views.{of_port}

abbrev pub Sat : Type 0 → Type 0 → Type 0
Sat V E = Me (Option V) (View V E)

-- the port of a role
abbrev pub port_in : Role → ℕ
port_in (Of port) = port
port_in Root = 0
port_in Spent = 0

-- the longer of two lists
abbrev pub longer : {E : Type 0} → List E → List E → List E
longer a b = cond (nat_lt (length a) (length b)) b a

-- and the other
abbrev pub shorter : {E : Type 0} → List E → List E → List E
shorter a b = cond (nat_lt (length a) (length b)) a b

module _ {V E : Type 0} where
  abbrev pub with_ticket : View V E → ℕ → View V E
  with_ticket v t = record v { ticket = Some t }

  abbrev pub with_turn : View V E → List E → View V E
  with_turn v taken = record v { served = true; taken = taken }

  -- after a turn in which the history became `now`
  abbrev pub after_turn : View V E → List E → View V E
  after_turn v now = record v { ticket = None; served = false; seen = now; met = []; own = v.own ++ drop (length v.taken) now }

  -- the ticket is a number whose remainder was found
  abbrev pub Draws : Step (Option V) → Sat V E → ℕ → Sat V E → Type 0
  Draws st m found n = (t : ℕ) × (found ≡ t % 2 ^ 64) × (n ≡ (with_ticket m.0 t, m.1))

  -- the slot came to the seat, with a value whose entries are the history
  abbrev pub Serves : (V → List E) → (V → V → Type 0) → Sat V E → Sat V E → Type 0
  Serves entries grown m n = (value : V) × (n ≡ (with_turn m.0 (entries value), (0, Some value) ∷ m.1)) × IsPrefix m.0.seen (entries value) × IfSome m.0.first (λ first. grown first value)

  abbrev pub Looks : (V → List E) → (V → V → Type 0) → Step (Option V) → Sat V E → ℕ → Sat V E → Type 0
  Looks entries grown st m found n = (t : ℕ) → m.0.ticket ≡ Some t → (found ≡ t % 2 ^ 64 → Serves entries grown m n) × (found ≢ t % 2 ^ 64 → n ≡ m)

  -- nothing changes, and what the last join met begins what was seen
  abbrev pub Compares : Step (Option V) → Sat V E → ℕ → Sat V E → Type 0
  Compares st m found n = (n ≡ m) × IsPrefix m.0.met m.0.seen

  -- the entries of the value in the slot that was taken last
  abbrev pub entries_in : (V → List E) → List (ℕ × Option V) → List E
  entries_in entries [] = []
  entries_in entries ((k, None) ∷ xs) = []
  entries_in entries ((k, Some value) ∷ xs) = entries value

  abbrev pub Ends : (V → List E) → Step (Option V) → Sat V E → ℕ → Sat V E → Type 0
  Ends entries st m found n = n ≡ (after_turn m.0 (entries_in entries m.1), rest m.1)

  -- the seat is served, and the value in its slot has some more entries, all of the seat's port
  pub record MayEnd (entries : V → List E) (port_of : E → ℕ) (grown : V → V → Type 0) (first : V) (m : Sat V E) : Type 0 where
    pub value : V
    pub more : List E
    pub served : m.0.served ≡ true
    pub slot : m.1 ≡ (0, Some value) ∷ []
    pub grown_is : grown first value
    pub entries_are : entries value ≡ m.0.taken ++ more
    pub mine : (port : ℕ) → m.0.role ≡ Of port → of_port port_of port more ≡ more
    pub not_mine : (port : ℕ) → m.0.role ≢ Of port → of_port port_of port more ≡ []

  abbrev pub gave : ℕ → View V E → View V E
  gave port v = record v { given = port ∷ v.given }

  -- the view of a new pass
  abbrev pub worker : ℕ → View V E → View V E
  worker port v = record { role = Of port; ticket = None; served = false; taken = []; seen = v.seen; own = []; met = []; first = v.first; given = []; kept = [] }

  abbrev pub joined : View V E → View V E → View V E
  joined v w = record v { seen = longer v.seen w.seen; met = shorter v.seen w.seen; kept = (port_in w.role, w.own) ∷ v.kept }

  abbrev pub spent : View V E
  spent = record { role = Spent; ticket = None; served = false; taken = []; seen = []; own = []; met = []; first = None; given = []; kept = [] }
