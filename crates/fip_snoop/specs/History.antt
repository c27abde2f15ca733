-- What a bridge has handled, and what follows of it: where an ENode is, and which MACs are bound (FC-BB-5, "FIP snooping").
use Rattle.std.specs.Prelude.{ℕ, Bool, false, not, ◌==◌, ◌&&◌, ◌||◌, if◌then◌else◌, List, [], ◌∷◌, Option, Some, None, is_some, option_map, option_and_then}
use Rattle.std.specs.List.{list_any}
use Rattle.fab_base.specs.declared.values.Caught.{Caught}
use Rattle.fab_config.specs.Settings.{same_bytes}
use Rattle.heard_frames.specs.Heard.{What, Fip, decoded}
use Rattle.fip_codec.specs.Message as fip
use Rattle.fip_snoop.specs.Messages.{granted_mac, grant_in, is_first_grant, released_in, is_at, clears, is_port_alive}
use Rattle.fip_snoop.specs.declared.forwarder.Forwarder.{Forwarder}
use Rattle.fip_snoop.specs.declared.grant.Grant.{Grant}
use Rattle.fip_snoop.specs.declared.way.Way.{Way}
use Rattle.fip_snoop.specs.declared.way.Way.TheVariants.{Up, Down}
use Rattle.fip_snoop.specs.declared.bindings.Binding.{Binding}

-- A frame that was handled: the port on which it came, and its way.
pub record Handled : Type 0 where
  pub port : ℕ
  pub caught : Caught
  pub way : Way

-- All that were handled, the newest first: `h ∷ L` is L with one more.
abbrev pub History : Type 0
History = List Handled

-- what is said, and else this
abbrev pub or_else : {X : Type 0} → Option X → Option X → Option X
or_else None older = older
or_else (Some x) older = Some x

-- what the last one that says anything says
abbrev pub latest : {X : Type 0} → (Handled → Option X) → History → Option X
latest says [] = None
latest says (h ∷ L) = or_else (says h) (latest says L)

-- those after the last one that passes; all where none does
abbrev pub after_last : (Handled → Bool) → History → History
after_last passes [] = []
after_last passes (h ∷ L) = if passes h then [] else h ∷ after_last passes L

-- ---- where an ENode is

-- The port of a message that went up from a MAC. A VN_Port's keep alive has the MAC of the VN_Port, and says nothing of its ENode.
abbrev pub shown : List ℕ → ℕ → What → Way → Option ℕ
shown mac port (Fip f m) Up = if not (is_port_alive m) && same_bytes f.src mac then Some port else None
shown mac port what way = None

abbrev pub shows : List ℕ → Handled → Option ℕ
shows mac h = shown mac h.port (decoded h.caught) h.way

-- The port of an ENode: that of the last message that went up from its MAC.
abbrev pub home : History → List ℕ → Option ℕ
home L mac = latest (shows mac) L

-- ---- which MACs are bound

-- A message that went down to one port: that port, whom it is to, and the message.
pub record Delivery : Type 0 where
  pub port : ℕ
  pub enode : List ℕ
  pub message : fip.Fip

abbrev pub delivered : What → Way → Option Delivery
delivered (Fip f m) (Down q) = Some (record { port = q; enode = f.dst; message = m })
delivered what way = None

abbrev pub delivery : Handled → Option Delivery
delivery h = delivered (decoded h.caught) h.way

-- the binding that a delivered grant makes
abbrev pub bound_by : Forwarder → Delivery → Option Binding
bound_by w d = option_map (λ (g : Grant). record { mac = granted_mac w g.address; port = d.port; enode = d.enode; address = g.address }) (grant_in w d.message)

abbrev pub if_of : List ℕ → Binding → Option Binding
if_of mac b = if same_bytes b.mac mac then Some b else None

-- the binding of a MAC that an entry makes
abbrev pub binds : Forwarder → List ℕ → Handled → Option Binding
binds w mac h = option_and_then (if_of mac) (option_and_then (bound_by w) (delivery h))

abbrev pub is_grant : Forwarder → List ℕ → Handled → Bool
is_grant w mac h = is_some (binds w mac h)

-- A delivery ends a binding: it is to the binding's ENode, and accepts the LOGO of its address, clears its MAC or all MACs, or
-- grants an address by an answer to a FLOGI.
abbrev pub ends_by : Forwarder → Binding → Delivery → Bool
ends_by w b d =
    same_bytes d.enode b.enode && (is_at b.address (released_in d.message) || clears b.mac d.message || is_first_grant (grant_in w d.message))

abbrev pub ends : Forwarder → Binding → Handled → Bool
ends w b h = elim (delivery h) [ None ↦ false | Some d ↦ ends_by w b d ]

-- the last binding of a MAC, whether it was ended or not, and what came after it
abbrev pub last_binding : Forwarder → List ℕ → History → Option Binding
last_binding w mac L = latest (binds w mac) L

abbrev pub since : Forwarder → List ℕ → History → History
since w mac L = after_last (is_grant w mac) L

-- a binding, if these entries don't end it
abbrev pub if_unended : Forwarder → History → Binding → Option Binding
if_unended w later b = if list_any (ends w b) later then None else Some b

-- The binding of a MAC: what its last grant made, unless an entry since then ended it.
abbrev pub bound : Forwarder → History → List ℕ → Option Binding
bound w L mac = option_and_then (if_unended w (since w mac L)) (last_binding w mac L)

-- How the binding of a MAC changes with a delivery: a grant of the MAC makes it, and others may end it.
abbrev pub bound_after : Forwarder → List ℕ → Option Delivery → Option Binding → Option Binding
bound_after w mac None old = old
bound_after w mac (Some d) old = or_else (option_and_then (if_of mac) (bound_by w d)) (option_and_then (λ b. if ends_by w b d then None else Some b) old)

-- ---- MACs that were ever granted

abbrev pub granted_in : Forwarder → Handled → Option Binding
granted_in w h = option_and_then (bound_by w) (delivery h)

-- a MAC that one of these granted is now bound to an ENode on another port
abbrev pub is_elsewhere : ℕ → List ℕ → Option Binding → Bool
is_elsewhere port enode None = false
is_elsewhere port enode (Some b) = same_bytes b.enode enode && not (b.port == port)

abbrev pub moves : Forwarder → History → ℕ → List ℕ → Option Binding → Bool
moves w L port enode None = false
moves w L port enode (Some b) = is_elsewhere port enode (bound w L b.mac)

-- Some MAC is bound to this ENode on another port. One that was never granted isn't bound.
abbrev pub has_moved : Forwarder → History → ℕ → List ℕ → Bool
has_moved w L port enode = list_any (λ h. moves w L port enode (granted_in w h)) L
