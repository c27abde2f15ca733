-- The names and addresses of a load: 8 ports, counted from 1, with 30 logins each, counted from 0.
use Rattle.std.specs.Prelude.{ℕ, zero, suc, ◌+◌, ◌-◌, ◌*◌, List, [], ◌∷◌, ◌++◌}
use Rattle.fab_base.specs.Fabric.{fpma}

-- what f gives for so many numbers, from this one on
abbrev pub numbered : {X : Type 0} → (ℕ → X) → ℕ → ℕ → List X
numbered f from zero = []
numbered f from (suc count) = numbered f from count ++ f (count + from) ∷ []

-- the MAC of the forwarder, and the group of all forwarders (FC-BB-5, "All-FCF-MACs")
abbrev pub FORWARDER : List ℕ
FORWARDER = 0x00 ∷ 0x05 ∷ 0x1e ∷ 0x00 ∷ 0x00 ∷ 0x02 ∷ []

abbrev pub ALL_FORWARDERS : List ℕ
ALL_FORWARDERS = 0x01 ∷ 0x10 ∷ 0x18 ∷ 0x01 ∷ 0x00 ∷ 0x02 ∷ []

-- the MAC of the ENode of a port, 00:1b:21:00:01:0p, and its node name
abbrev pub node_mac : ℕ → List ℕ
node_mac port = 0x00 ∷ 0x1b ∷ 0x21 ∷ 0x00 ∷ 0x01 ∷ port ∷ []

abbrev pub node_name : ℕ → ℕ
node_name port = 0x1000001b21000000 + 256 * port

-- the port name of a login of a port
abbrev pub port_name : ℕ → ℕ → ℕ
port_name port login = 0x2000001b21000000 + 256 * port + login

-- logins are numbered over all ports, and in this order they have addresses from 010100 on
abbrev pub login_number : ℕ → ℕ → ℕ
login_number port login = 30 * (port - 1) + login

abbrev pub address : ℕ → ℕ → ℕ
address port login = 0x010100 + login_number port login

-- the MAC that a fabric login is granted, by the default FC-MAP
abbrev pub granted_mac : ℕ → List ℕ
granted_mac s_id = fpma 0x0efc00 s_id
