-- What tables of rules over frames are made of: the first row that holds, the group addresses of FIP (FC-BB-5, "FIP"), and the
-- test of a VLAN.
use Rattle.std.specs.Prelude.{ℕ, Bool, true, false, not, ◌==◌, ◌&&◌, ◌||◌, List, [], ◌∷◌, Option, Some, None}
use Rattle.eth_frames.specs.Ethernet as eth

-- the first row whose condition holds
abbrev pub first_row : {X : Type 0} → List (Bool × X) → Option X
first_row [] = None
first_row (row ∷ rows) = elim row.0 [ true ↦ Some row.1 | false ↦ first_row rows ]

-- All-FCF-MACs and All-ENode-MACs
abbrev pub ALL_FCFS : List ℕ
ALL_FCFS = 0x01 ∷ 0x10 ∷ 0x18 ∷ 0x01 ∷ 0x00 ∷ 0x02 ∷ []

abbrev pub ALL_ENODES : List ℕ
ALL_ENODES = 0x01 ∷ 0x10 ∷ 0x18 ∷ 0x01 ∷ 0x00 ∷ 0x01 ∷ []

-- a frame isn't on a VLAN, nor untagged where it may be
abbrev pub is_wrong_vlan : ℕ → eth.Eth → Bool → Bool
is_wrong_vlan vlan f may_be_untagged = not (eth.vlan_of_tag f.tag == vlan || (may_be_untagged && eth.vlan_of_tag f.tag == 0))
