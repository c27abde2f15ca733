-- Whoever is live is behind one of the ports.
use Rattle.std.proofs.Common.{◌≡◌, ℕ, ◌≤◌, inl, inr, true, [], ◌∷◌, sym, subst}
use Rattle.fab_config.specs.Settings.{Settings}
use Rattle.fab_policy.specs.Journal.{Journal}
use Rattle.fab_policy.specs.Legal.{HasPorts}
use Rattle.fab_policy.specs.Logins.{grants, n_port}
use Rattle.fab_policy.specs.Outputs.{state_of}
use Rattle.fab_policy.specs.State.{LivePort, Tables}
use Rattle.fab_policy.specs.declared.event.Event.{Event}
use Rattle.fab_policy.specs.declared.event.Event.TheVariants.{Tick, Frame}
use Rattle.fab_states.specs.States.{state_on}
use Rattle.fab_pieces.specs.Sound.{AreBehind, JournalsHavePorts, PiecesKeepPorts}
use Rattle.fab_policy.proofs.After.{Came, live_after}
use Rattle.fab_pieces.proofs.JoinLemmas.{states_are_on}
use Rattle.fab_pieces.proofs.SoundLemmas.{nobody_first}

abbrev IsBehind : ℕ → LivePort → Type 0
IsBehind n p = (1 ≤ p.enode.port) × (p.enode.port ≤ n)

-- an entry that grants an address is a frame of one of the ports
granted_behind : (n a : ℕ) (e : Event) (J : Journal) → HasPorts n (e ∷ J) → grants a e ≡ true → (1 ≤ (n_port e).enode.port) × ((n_port e).enode.port ≤ n)
granted_behind n a (Tick m ended) J ports g = absurd (cc)
granted_behind n a (Frame port index caught verdict) J ports g = (ports.1, ports.2)

ports_before : (n : ℕ) (e : Event) (J : Journal) → HasPorts n (e ∷ J) → HasPorts n J
ports_before n (Tick m ended) J h = h
ports_before n (Frame port index caught verdict) J h = h.0

came_behind : (c : Settings) (n : ℕ) (T : Tables) (e : Event) (J : Journal) → HasPorts n (e ∷ J) → AreBehind n T → (a : ℕ) (p : LivePort) → Came c T e a p → IsBehind n p
came_behind c n T e J ports behind a p (inl f) = subst (IsBehind n) f.1 (granted_behind n a e J ports f.0)
came_behind c n T e J ports behind a p (inr s) = subst (IsBehind n) s.4 (behind a s.0 s.1)

pub pieces_keep_ports : PiecesKeepPorts
pieces_keep_ports c n S [] behind ports = behind
pieces_keep_ports c n S (e ∷ K) behind ports = λ a p x.
    came_behind c n (state_on c S K).tables e K ports (pieces_keep_ports c n S K behind (ports_before n e K ports)) a p (live_after c (state_on c S K).tables e a p x).3

pub journals_have_ports : JournalsHavePorts
journals_have_ports c n J ports =
    subst (λ S. AreBehind n S.tables) (sym (states_are_on c J)) (pieces_keep_ports c n (state_of c []) J (λ a p x. absurd (nobody_first c a p x)) ports)
