-- The frames that an entry sends.
use Rattle.std.specs.Prelude.{ℕ, zero, suc, ◌+◌, ◌-◌, ◌%◌, Bool, true, false, ◌==◌, nat_lt, nat_le, ◌&&◌, ◌||◌, if◌then◌else◌, List, [], ◌∷◌, ◌++◌, length, take, drop, map, filter, flat_map, Option, Some, None, is_some, unwrap_or, option_to_list}
use Rattle.fab_base.specs.Fabric.{same_enode, asks_fabric}
use Rattle.fab_base.specs.declared.values.Caught.{Caught}
use Rattle.fab_base.specs.declared.values.Enode.{Enode}
use Rattle.fab_config.specs.Settings.{Settings}
use Rattle.zone_rules.specs.Joined as zones
use Rattle.els_messages.specs.Els as els
use Rattle.ct_messages.specs.Server as server
use Rattle.ct_messages.specs.declared.CtTell.TheVariants as tell
use Rattle.fip_codec.specs.declared.message.VxPort.{VxPort}
use Rattle.fab_policy.specs.Journal.{Journal}
use Rattle.heard_frames.specs.Heard.{s_id, ask_of, login_of}
use Rattle.fab_base.specs.Counting.{counting}
use Rattle.fab_policy.specs.Logins.{ends, granted_mac}
use Rattle.fab_policy.specs.State.{Tables, LivePort, tables_of, now_of, port_at}
use Rattle.fab_policy.specs.Rules.{joined}
use Rattle.fab_policy.specs.Queries.{query}
use Rattle.fab_policy.specs.Replies.{login_accept, login_reply, vlan_notice, advertised_to_one, advertised_to_all, service_reply, ct_reply, forwarded, clear_links, rscn}
use Rattle.fab_policy.specs.Replies.{server_parms}
use Rattle.fab_policy.specs.declared.event.Event.{Event}
use Rattle.fab_policy.specs.declared.event.Event.TheVariants.{Tick, Frame}
use Rattle.fab_policy.specs.declared.verdict.Verdict.{Verdict}
use Rattle.fab_policy.specs.declared.verdict.Verdict.TheVariants.{Vlans, Advertised, Granted, Rejected, Logout, NsLogin, NsLogout, Watching, Registered, Answered, Refused, Forwarded}

-- A frame that is sent: on which port, at which moment, and its bytes.
pub record Sent : Type 0 where
  pub port : ℕ
  pub moment : ℕ
  pub bytes : List ℕ

-- ---- replies

-- the frames that answer a frame on its own port, or that forward it to another, each with its port
abbrev pub replies : Settings → Tables → ℕ → Caught → Verdict → List (ℕ × List ℕ)
replies c T port caught Vlans = (port, vlan_notice c caught) ∷ []
replies c T port caught Advertised = (port, advertised_to_one c caught) ∷ []
replies c T port caught (Granted a) = (port, login_accept c port caught a) ∷ []
replies c T port caught (Rejected reason explanation) =
    (port, (if is_some (login_of caught) then login_reply c caught (els.Reject reason explanation) else service_reply c caught (els.Reject reason explanation))) ∷ []
replies c T port caught (Logout a) = (port, login_reply c caught els.Accept) ∷ []
replies c T port caught NsLogin = (port, service_reply c caught (els.LoginAccept (server_parms c))) ∷ []
replies c T port caught NsLogout = (port, service_reply c caught els.Accept) ∷ []
replies c T port caught (Watching function) = (port, service_reply c caught els.Accept) ∷ []
replies c T port caught Registered = map (λ l. (port, l)) (ct_reply c caught 2112 tell.Done)
replies c T port caught (Refused reason explanation) = map (λ l. (port, l)) (ct_reply c caught 2112 (tell.Reject reason explanation))
replies c T port caught Answered =
    elim (port_at (s_id caught) T.ports) [
      | None ↦ []
      | Some b ↦ map (λ l. (port, l)) (ct_reply c caught (unwrap_or b.server 2112) (query c T b (ask_of caught)))
    ]
replies c T port caught (Forwarded q) = (q, forwarded c caught) ∷ []
replies c T port caught _ = []

abbrev pub replies_of : Settings → Tables → Event → List (ℕ × List ℕ)
replies_of c T (Tick moment ended) = []
replies_of c T (Frame port index caught verdict) = replies c T port caught verdict

-- ---- who is affected: T is what stood before an entry, and U what stands after it

-- the N_Ports whose login an entry ends, by ascending address
abbrev pub ended_by : Tables → Event → List LivePort
ended_by T e = filter (λ p. ends p.address p.enode e) T.ports

-- the N_Port that an entry grants an address
abbrev pub granted_by : Tables → Event → List LivePort
granted_by U (Frame port index caught (Granted a)) = option_to_list (port_at a U.ports)
granted_by U _ = []

-- the types or the features of an address differ
abbrev pub has_changed : LivePort → Option LivePort → Bool
has_changed p None = false
has_changed p (Some q) = server.has_changed p.values q.values

-- the N_Port whose types or features an entry changes
abbrev pub changed_by : Tables → Tables → Event → List LivePort
changed_by T U (Frame port index caught Registered) =
    filter (λ p. has_changed p (port_at p.address U.ports)) (option_to_list (port_at (s_id caught) T.ports))
changed_by T U _ = []

-- ---- state changes

-- an N_Port that asked for the state changes that the fabric detects
abbrev pub is_watcher : LivePort → Bool
is_watcher p = asks_fabric p.watch

-- the watchers, by ascending address
abbrev pub watchers : Tables → List LivePort
watchers U = filter is_watcher U.ports

-- A watcher is told of an address: the port that the watcher is behind, its own address, and the affected one.
pub record Notice : Type 0 where
  pub port : ℕ
  pub watcher : ℕ
  pub affected : ℕ

abbrev pub told : LivePort → ℕ → Notice
told w affected = record { port = w.enode.port; watcher = w.address; affected = affected }

-- each watcher that was joined with the name before the entry is told of the address
abbrev pub told_of : Settings → Tables → Tables → LivePort → List Notice
told_of c T U affected =
    map (λ w. told w affected.address) (filter (λ w. joined c T w.name affected.name) (watchers U))

-- two names are joined at one of two moments and not at the other
abbrev pub differs : Settings → ℕ → ℕ → ℕ → ℕ → Bool
differs c before at x y = zones.differs c.zones c.sets c.activations before at x y

-- each watcher whose joining with a live N_Port changes at a tick is told of it; the first tick changes nothing
abbrev pub told_of_zones : Settings → Tables → Tables → Event → List Notice
told_of_zones c T U (Frame port index caught verdict) = []
told_of_zones c T U (Tick m ended) = elim T.clock [
  | None ↦ []
  | Some t ↦
      flat_map (λ b. map (λ w. told w b.address) (filter (λ w. differs c t m w.name b.name) (watchers U))) U.ports
]

-- The state changes of an entry: first those of the logins that it ends, then of the one that it grants, then of the one
-- that it changes, and last those of the changes of zones.
unfoldable pub notices : Settings → Tables → Tables → Event → List Notice
notices c T U e = flat_map (told_of c T U) (ended_by T e ++ granted_by U e ++ changed_by T U e) ++ told_of_zones c T U e

-- how many state changes a journal sends
abbrev pub rscn_count : Settings → Journal → ℕ
rscn_count c [] = 0
rscn_count c (e ∷ J) = rscn_count c J + length (notices c (tables_of c J) (tables_of c (e ∷ J)) e)

-- the frames of state changes, numbered from n on
abbrev pub rscn_frames : Settings → ℕ → List Notice → List (ℕ × List ℕ)
rscn_frames c n [] = []
rscn_frames c n (notice ∷ more) =
    (notice.port, rscn c notice.watcher notice.affected (n % 65535)) ∷ rscn_frames c (n + 1) more

-- ---- clear link messages

-- bytes compared as numbers are
abbrev pub bytes_before : List ℕ → List ℕ → Bool
bytes_before [] ys = false
bytes_before (x ∷ xs) [] = false
bytes_before (x ∷ xs) (y ∷ ys) = nat_lt x y || (x == y && bytes_before xs ys)

-- by port, and then by MAC
abbrev pub enode_before : Enode → Enode → Bool
enode_before x y = nat_lt x.port y.port || (x.port == y.port && bytes_before x.mac y.mac)

-- a list of ENodes in ascending order with one more, which stands once
abbrev pub with_enode : Enode → List Enode → List Enode
with_enode x [] = x ∷ []
with_enode x (y ∷ ys) = if same_enode x y then y ∷ ys else if enode_before x y then x ∷ y ∷ ys else y ∷ with_enode x ys

-- the ENodes of N_Ports, in ascending order, each once
abbrev pub enodes_of : List LivePort → List Enode
enodes_of [] = []
enodes_of (p ∷ ports) = with_enode p.enode (enodes_of ports)

abbrev pub vx_port_of : Settings → LivePort → VxPort
vx_port_of c p = record { mac = granted_mac c p.address; address = p.address; name = p.name }

-- a list in groups of a hundred, of which there are at most n
abbrev pub hundreds : {X : Type 0} → ℕ → List X → List (List X)
hundreds zero l = []
hundreds (suc n) l = elim (length l == 0) [ true ↦ [] | false ↦ take 100 l ∷ hundreds n (drop 100 l) ]

-- one message to each ENode for each hundred of its addresses that a tick ends
abbrev pub clears : Settings → List LivePort → List (ℕ × List ℕ)
clears c ended = flat_map (λ x.
    let own = filter (λ p. same_enode p.enode x) ended in
    map (λ group. (x.port, clear_links c x.mac (map (vx_port_of c) group))) (hundreds (length own) own)) (enodes_of ended)

abbrev pub clears_of : Settings → Tables → Event → List (ℕ × List ℕ)
clears_of c T (Tick moment ended) = clears c (ended_by T (Tick moment ended))
clears_of c T (Frame port index caught verdict) = []

-- ---- advertisements

-- an advertisement is owed at a moment, the last one having been at another
abbrev pub is_owed : Settings → Option ℕ → ℕ → Bool
is_owed c None m = false
is_owed c (Some last) m = nat_le c.period (m - last)

-- The moment from which the next period counts: that of the first tick, and from then on that of the last one at which an
-- advertisement was owed.
abbrev pub advertised_after : Settings → Option ℕ → Event → Option ℕ
advertised_after c last (Frame port index caught verdict) = last
advertised_after c None (Tick m ended) = Some m
advertised_after c (Some last) (Tick m ended) = if is_owed c (Some last) m then Some m else Some last

-- the same of a journal
abbrev pub advertised_at : Settings → Journal → Option ℕ
advertised_at c [] = None
advertised_at c (e ∷ J) = advertised_after c (advertised_at c J) e

abbrev pub advertisements_of : Settings → ℕ → Option ℕ → Event → List (ℕ × List ℕ)
advertisements_of c n last (Frame port index caught verdict) = []
advertisements_of c n last (Tick m ended) = if is_owed c last m then map (λ port. (port, advertised_to_all c)) (counting 1 n) else []

-- ---- all of them

-- What decides over the frames that are sent: the tables, when the last advertisement was, and how many state changes were sent.
pub record State : Type 0 where
  pub tables : Tables
  pub advertised : Option ℕ
  pub rscns : ℕ

-- what the journal of a forwarder says; state changes are counted modulo 65535, as their OX_IDs are
abbrev pub state_of : Settings → Journal → State
state_of c J = record { tables = tables_of c J; advertised = advertised_at c J; rscns = rscn_count c J % 65535 }

-- The frames that an entry sends from a forwarder of n ports: its reply or its clear link messages, then the state
-- changes, and last the advertisements; each at the clock of the entry.
unfoldable pub outputs_by : Settings → ℕ → State → Tables → Event → List Sent
outputs_by c n S U e = map (λ x. record { port = x.0; moment = now_of U; bytes = x.1 })
    (replies_of c S.tables e ++ clears_of c S.tables e ++ rscn_frames c S.rscns (notices c S.tables U e) ++ advertisements_of c n S.advertised e)

-- the frames that an entry sends after a journal
abbrev pub outputs : Settings → ℕ → Journal → Event → List Sent
outputs c n J e = outputs_by c n (state_of c J) (tables_of c (e ∷ J)) e
