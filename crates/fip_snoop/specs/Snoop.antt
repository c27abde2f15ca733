-- What a bridge keeps of its history.
use Rattle.std.specs.Prelude.{◌≡◌, ℕ, Bool, not, ◌==◌, ◌&&◌, ◌||◌, if◌then◌else◌, List, [], ◌∷◌, ◌++◌, map, Option, Some, None, find, option_map, option_to_list}
use Rattle.std.specs.List.{list_any, filter}
use Rattle.fab_config.specs.Settings.{same_bytes}
use Rattle.fip_codec.specs.Message as fip
use Rattle.fip_snoop.specs.Messages.{granted_mac, grant_in, is_first_grant, released_in, is_at, clears, is_port_alive}
use Rattle.heard_frames.specs.Heard.{What, Fip}
use Rattle.fip_snoop.specs.History.{History, Delivery, home, bound, bound_by}
use Rattle.fip_snoop.specs.Ways.{way_by}
use Rattle.fip_snoop.specs.declared.bindings.Binding.{Binding}
use Rattle.fip_snoop.specs.declared.grant.Grant.{Grant}
use Rattle.fip_snoop.specs.declared.forwarder.Forwarder.{Forwarder}
use Rattle.fip_snoop.specs.declared.home.Home.{Home}
use Rattle.fip_snoop.specs.declared.way.Way.{Way}
use Rattle.fip_snoop.specs.declared.way.Way.TheVariants.{Up, Down}

-- What contracts see of a bridge: the forwarder, the homes of ENodes, and the bindings.
pub record Contents : Type 0 where
  pub forwarder : Forwarder
  pub homes : List Home
  pub bindings : List Binding

-- ---- look-ups

abbrev pub is_home_of : List ℕ → Home → Bool
is_home_of mac h = same_bytes h.mac mac

abbrev pub home_in : List Home → List ℕ → Option ℕ
home_in homes mac = option_map (λ (h : Home). h.port) (find (is_home_of mac) homes)

abbrev pub is_binding_of : List ℕ → Binding → Bool
is_binding_of mac b = same_bytes b.mac mac

abbrev pub binding_in : List Binding → List ℕ → Option Binding
binding_in bindings mac = find (is_binding_of mac) bindings

abbrev pub is_moved_in : List Binding → ℕ → List ℕ → Bool
is_moved_in bindings port enode = list_any (λ b. same_bytes b.enode enode && not (b.port == port)) bindings

-- the way of a decoded frame, by what is kept
abbrev pub way_for : Forwarder → List Home → List Binding → ℕ → What → Way
way_for w homes bindings port what = way_by w (home_in homes) (binding_in bindings) (is_moved_in bindings port) port what

-- ---- changes

abbrev pub without_home : List ℕ → List Home → List Home
without_home mac homes = filter (λ h. not (is_home_of mac h)) homes

abbrev pub with_home : Home → List Home → List Home
with_home h homes = without_home h.mac homes ++ h ∷ []

abbrev pub delivery_to : ℕ → List ℕ → fip.Fip → Delivery
delivery_to port enode message = record { port = port; enode = enode; message = message }

-- a delivery to an ENode ends a binding, if it is a grant that answers a FLOGI, accepts the LOGO of an address, or clears links
abbrev pub is_ended : List ℕ → fip.Fip → Bool → Option ℕ → Binding → Bool
is_ended enode m first released b = same_bytes enode b.enode && (is_at b.address released || clears b.mac m || first)

abbrev pub unended_by : List ℕ → fip.Fip → Bool → Option ℕ → List Binding → List Binding
unended_by enode m first released bindings = filter (λ b. not (is_ended enode m first released b)) bindings

-- the bindings that a delivery doesn't end
abbrev pub unended : Forwarder → Delivery → List Binding → List Binding
unended w d bindings = unended_by d.enode d.message (is_first_grant (grant_in w d.message)) (released_in d.message) bindings

abbrev pub binding_by : Forwarder → ℕ → List ℕ → Grant → Binding
binding_by w port enode g = record { mac = granted_mac w g.address; port = port; enode = enode; address = g.address }

-- with a binding in place of the one of its MAC
abbrev pub without_binding : List ℕ → List Binding → List Binding
without_binding mac bindings = filter (λ b. not (is_binding_of mac b)) bindings

abbrev pub with_one : Binding → List Binding → List Binding
with_one b bindings = without_binding b.mac bindings ++ b ∷ []

abbrev pub with_binding : Option Binding → List Binding → List Binding
with_binding None bindings = bindings
with_binding (Some b) bindings = with_one b bindings

-- the bindings behind a delivery
abbrev pub behind : Forwarder → Delivery → List Binding → List Binding
behind w d bindings = with_binding (bound_by w d) (unended w d bindings)

-- what is kept behind a decoded frame of a port that goes this way
abbrev pub after : ℕ → What → Way → Contents → Contents
after port (Fip f m) Up s =
    if is_port_alive m then s
    else record { forwarder = s.forwarder; homes = with_home (record { mac = f.src; port = port }) s.homes; bindings = s.bindings }
after port (Fip f m) (Down q) s = record { forwarder = s.forwarder; homes = s.homes; bindings = behind s.forwarder (delivery_to q f.dst m) s.bindings }
after port what way s = s

-- ---- what is kept of a history

-- A bridge of this forwarder keeps for each MAC the home and the binding that the history has, or none.
pub record Remembers (w : Forwarder) (L : History) (s : Contents) : Type 0 where
  pub forwarder : s.forwarder ≡ w
  pub homes : (mac : List ℕ) → map (λ h. h.port) (filter (is_home_of mac) s.homes) ≡ option_to_list (home L mac)
  pub bindings : (mac : List ℕ) → filter (is_binding_of mac) s.bindings ≡ option_to_list (bound w L mac)
