-- Which seams have a text that is read.
use Rattle.std.specs.Prelude.{◌≡◌, ℕ, ◌<◌, ◌≤◌, ◌^◌, ◌⊎◌, List, [], ◌∷◌, ◌++◌, codes, length, map, IfSome}
use Rattle.fab_base.specs.Counting.{counting}
use Rattle.fab_policy.specs.State.{LivePort}
use Rattle.fab_policy.specs.Text.{address_word}
use Rattle.fab_pieces.specs.Seam.{IsRangedPort, IsRangedSeam, Seam, row_text}
use Rattle.fab_state.specs.Words.{IsLine}

-- The numbers and bytes of a live N_Port are in the ranges of their types.
pub record IsReadPort (p : LivePort) : Type 0 where
  pub ranged : IsRangedPort p
  pub least : 1 ≤ p.enode.port
  pub most : p.enode.port ≤ 64
  pub mac : length p.enode.mac ≡ 6
  pub types : length p.values.types.0 ≡ 8
  pub size : IfSome p.server (λ n. n < 2 ^ 16)
  pub watch : p.watch < 256

abbrev pub AreReadPorts : List LivePort → Type 0
AreReadPorts [] = Unit {0}
AreReadPorts (p ∷ ports) = IsReadPort p × AreReadPorts ports

-- A seam of a forwarder of n ports, whose pool has so many addresses from the first on: the numbers are in the ranges of their
-- types, there is a next index for each port, and the addresses are those of the pool.
pub record IsReadable (first count n : ℕ) (s : Seam) : Type 0 where
  pub ranged : IsRangedSeam s
  pub ports : AreReadPorts s.state.tables.ports
  pub nexts : length s.nexts ≡ n
  pub places : map (λ q. q.address) s.state.tables.past ≡ counting first count

-- ---- what doesn't go on

-- a text that begins with a line whose first word is another one
pub record BeginsOther (word text : List ℕ) : Type 0 where
  pub first : List ℕ
  pub ws : List (List ℕ)
  pub more : List ℕ
  pub line : IsLine (first ∷ ws)
  pub is : text ≡ row_text (first ∷ ws) ++ more
  pub other : first ≡ word → ⊥

-- nothing is left, or a line of another kind
abbrev pub NoKind : List ℕ → List ℕ → Type 0
NoKind word text = (text ≡ []) ⊎ BeginsOther word text

abbrev pub NoAddress : List ℕ → Type 0
NoAddress text = NoKind (codes "address") text

abbrev pub NoLogin : List ℕ → Type 0
NoLogin text = NoKind (codes "login") text

-- the line of another address
pub record IsOfOther (a : ℕ) (text : List ℕ) : Type 0 where
  pub address : ℕ
  pub ws : List (List ℕ)
  pub more : List ℕ
  pub line : IsLine (codes "address" ∷ address_word address ∷ ws)
  pub is : text ≡ row_text (codes "address" ∷ address_word address ∷ ws) ++ more
  pub small : address < 2 ^ 24
  pub other : address ≡ a → ⊥

-- nothing is left, a line of another kind, or that of another address
abbrev pub IsOther : ℕ → List ℕ → Type 0
IsOther a text = NoAddress text ⊎ IsOfOther a text
