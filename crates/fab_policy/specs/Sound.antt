-- The granted MACs of live N_Ports differ, and who may be granted an address (FC-BB-5, "fabric-provided MAC address").
use Rattle.std.specs.Prelude.{◌≡◌, ℕ, ◌+◌, ◌*◌, ◌<◌, ◌≤◌, ◌^◌, ◌⊎◌, IsTrue, List, [], ◌∷◌, true, Some, None}
use Rattle.fab_base.specs.Fabric.{same_enode}
use Rattle.fab_base.specs.declared.values.Caught.{Caught}
use Rattle.fab_config.specs.Settings.{Settings, is_in_range}
use Rattle.fab_policy.specs.Journal.{Journal}
use Rattle.heard_frames.specs.Heard.{sender, asked, is_flogi}
use Rattle.fab_policy.specs.Legal.{Legal}
use Rattle.fab_policy.specs.Logins.{NPort, granted_mac, login}
use Rattle.fab_policy.specs.State.{LivePort, tables_of}
use Rattle.fab_policy.specs.declared.event.Event.TheVariants.{Frame}
use Rattle.fab_policy.specs.declared.verdict.Verdict.TheVariants.{Granted}

-- Distinct addresses have distinct granted MACs.
abbrev pub MacsTellAddresses : Type 0
MacsTellAddresses = (c : Settings) (a b : ℕ) → a < 2 ^ 24 → b < 2 ^ 24 → granted_mac c a ≡ granted_mac c b → a ≡ b

-- none of these N_Ports has the granted MAC of p
abbrev pub IsNewMac : Settings → LivePort → List LivePort → Type 0
IsNewMac c p [] = Unit {0}
IsNewMac c p (q ∷ ports) = (granted_mac c p.address ≡ granted_mac c q.address → ⊥) × IsNewMac c p ports

-- no two of these N_Ports have one granted MAC
abbrev pub HaveDifferentMacs : Settings → List LivePort → Type 0
HaveDifferentMacs c [] = Unit {0}
HaveDifferentMacs c (p ∷ ports) = IsNewMac c p ports × HaveDifferentMacs c ports

-- The granted MACs of live N_Ports differ, whatever the journal.
abbrev pub LiveMacsDiffer : Type 0
LiveMacsDiffer = (c : Settings) (J : Journal) → IsTrue (is_in_range c) → HaveDifferentMacs c (tables_of c J).ports

-- ---- grants

-- A new FLOGI of the ENode that holds an address asks for the port name that it has there.
pub record IsGivenBack (port : ℕ) (caught : Caught) (p : NPort) : Type 0 where
  pub flogi : is_flogi caught ≡ true
  pub enode : same_enode p.enode (sender port caught) ≡ true
  pub name : p.name ≡ (asked caught).port_name

-- In a legal journal an address is granted where nobody holds it, or where a new FLOGI of its ENode gets it back for its own
-- port name; and it is one of the pool.
pub record IsGrantable (c : Settings) (J : Journal) (port : ℕ) (caught : Caught) (a : ℕ) : Type 0 where
  pub least : c.domain * 65536 + 256 ≤ a
  pub most : a < c.domain * 65536 + 256 + c.pool
  pub holder : (login a J ≡ None) ⊎ ((p : NPort) × (login a J ≡ Some p) × IsGivenBack port caught p)

-- Each grant of a legal journal is of an address that may be granted there.
abbrev pub GrantsAreFree : Type 0
GrantsAreFree = (c : Settings) (J : Journal) (port index a : ℕ) (caught : Caught) → Legal c (Frame port index caught (Granted a) ∷ J) → IsGrantable c J port caught a

-- Whoever is logged in after a legal journal has an address of the pool.
abbrev pub LoginsAreInPool : Type 0
LoginsAreInPool = (c : Settings) (J : Journal) (a : ℕ) (p : NPort) → Legal c J → login a J ≡ Some p → (c.domain * 65536 + 256 ≤ a) × (a < c.domain * 65536 + 256 + c.pool)
