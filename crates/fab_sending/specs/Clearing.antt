-- Clear link messages of logins, and the place of an ENode among ascending ones.
use Rattle.std.specs.Prelude.{ℕ, ◌+◌, ◌||◌, if◌then◌else◌, List, [], ◌∷◌, length, map, filter, flat_map}
use Rattle.fab_base.specs.Fabric.{same_enode}
use Rattle.fab_base.specs.declared.values.Enode.{Enode}
use Rattle.fab_config.specs.Settings.{Settings}
use Rattle.fab_policy.specs.Logins.{granted_mac}
use Rattle.fab_policy.specs.Outputs.{enode_before, hundreds, with_enode}
use Rattle.fab_sending.specs.declared.message.OutMessage.{OutMessage}
use Rattle.fab_sending.specs.declared.message.OutMessage.TheVariants as out
use Rattle.fab_roster.specs.Roll.{Login}
use Rattle.fip_codec.specs.declared.message.VxPort.{VxPort}

-- the first place where the ENode stands, or before whose ENode it belongs, or the end
abbrev pub place_of : Enode → List Enode → ℕ
place_of x [] = 0
place_of x (y ∷ ys) = if same_enode x y || enode_before x y then 0 else place_of x ys + 1

-- the ENodes of logins, in ascending order, each once
abbrev pub enodes_of : List Login → List Enode
enodes_of [] = []
enodes_of (l ∷ logins) = with_enode l.enode (enodes_of logins)

-- a login's N_Port, as a clear link message names it
abbrev pub vx_port_of : Settings → Login → VxPort
vx_port_of c l = record { mac = granted_mac c l.address; address = l.address; name = l.name }

-- the N_Ports of the ENode among logins
abbrev pub vx_ports_of : Settings → Enode → List Login → List VxPort
vx_ports_of c x logins = map (vx_port_of c) (filter (λ l. same_enode l.enode x) logins)

-- clear link messages to an ENode, one for each hundred of these N_Ports
abbrev pub in_hundreds : Enode → List VxPort → List (ℕ × OutMessage)
in_hundreds x ports = map (λ group. (x.port, out.Clear x.mac group)) (hundreds (length ports) ports)

-- the clear link messages to an ENode of logins
abbrev pub clears_to : Settings → List Login → Enode → List (ℕ × OutMessage)
clears_to c logins x = in_hundreds x (vx_ports_of c x logins)

-- the clear link messages to each ENode of logins, by port and MAC
abbrev pub clears : Settings → List Login → List (ℕ × OutMessage)
clears c logins = flat_map (clears_to c logins) (enodes_of logins)
