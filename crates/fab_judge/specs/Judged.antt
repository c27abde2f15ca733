-- What the tables say of a frame, and what of it a step can rely on.
use Rattle.std.specs.Prelude.{◌≡◌, ℕ, ◌<◌, ◌&&◌, Bool, true, false, ◌==◌, length, List, map, filter, Option, Some, None, Ok, Err, IsSome, IsTrue}
use Rattle.std.specs.List.{list_any}
use Rattle.fab_base.specs.Fabric.{same_enode}
use Rattle.fab_base.specs.declared.values.Caught.{Caught}
use Rattle.fab_base.specs.declared.values.Enode.{Enode}
use Rattle.fab_config.specs.Settings.{Settings}
use Rattle.fip_codec.specs.declared.message.LoginKind.{LoginKind}
use Rattle.fc_frames.specs.Frame as fc
use Rattle.fc_frames.specs.declared.FcHeader.{FcHeader}
use Rattle.els_messages.specs.Els as els
use Rattle.ct_messages.specs.Ask.{view}
use Rattle.ct_messages.specs.Ct as ct
use Rattle.ct_messages.specs.CanWrite.{CanTell, CanWrite, HasByte}
use Rattle.ct_messages.specs.Server.{is_registration, registration_refusal}
use Rattle.ct_messages.specs.declared.CtTell.{CtTell}
use Rattle.state_change.specs.Watchers.{is_function}
use Rattle.fab_policy.specs.Classes.{HasBody, IsRepliedFor, IsSettledFor, of_replied, of_settled}
use Rattle.fab_policy.specs.Free.{Request, is_free}
use Rattle.heard_frames.specs.Heard.{sender, is_flogi, carried, ask_of}
use Rattle.fab_policy.specs.Queries.{query}
use Rattle.fab_policy.specs.Replies.{Asker, kind_asked}
use Rattle.fab_policy.specs.State.{LivePort, Tables, port_at}
use Rattle.fab_policy.specs.Verdicts as policy
use Rattle.fab_policy.specs.Verdicts.{Judgement, staying}
use Rattle.fab_policy.specs.declared.classes.Replied.{Replied as Reply}
use Rattle.fab_policy.specs.declared.classes.Replied.TheVariants.{Rejected, Logout, NsLogin, NsLogout, Watching, Refused}
use Rattle.fab_policy.specs.declared.classes.Settled.{Settled}
use Rattle.fab_policy.specs.declared.classes.Settled.TheVariants.{Dropped, Vlans, Advertised, AliveNode, AlivePort, Noted, Forwarded}
use Rattle.fab_policy.specs.declared.verdict.Verdict.TheVariants.{Registered, Answered}
use Rattle.fab_roster.specs.Changes.{IsSize}
use Rattle.fab_roster.specs.Roll.{Login, login_of}
use Rattle.fab_judge.specs.declared.judging.Candidate.{Candidate}
use Rattle.fab_judge.specs.declared.judging.Judged.{Judged}
use Rattle.fab_judge.specs.declared.judging.Judged.TheVariants.{Must, Replied, MayGrant, Registers, Answers}

-- the judgement of the policy that it stands for
abbrev pub judgement_of : Judged → Judgement
judgement_of (Must verdict) = policy.Must (of_settled verdict)
judgement_of (Replied verdict to) = policy.Must (of_replied verdict)
judgement_of (MayGrant login) = policy.MayGrant login.request
judgement_of (Registers to ask) = policy.Must Registered
judgement_of (Answers to tell size) = policy.Must Answered

-- ---- what a frame's verdict rests on: x is the ENode that sent it, and f the FC frame that it carries

-- whom a reply answers: the sender of a frame by its MAC, and the header that the frame carries
abbrev pub asker_by : List ℕ → FcHeader → Asker
asker_by mac head = record { mac = mac; d_id = head.d_id; s_id = head.s_id; ox_id = head.ox_id }

-- the S_ID of the frame has a login
abbrev pub HasSource : Tables → fc.Frame → Type 0
HasSource T f = IsSome (port_at f.head.s_id T.ports)

-- the request to the name server that the frame has
abbrev pub ask_in : fc.Frame → ct.Ask
ask_in f = elim (ct.decoded f.payload) [ Ok ask ↦ ask | Err fault ↦ ct.Unknown 0 ]

-- The frame goes on to its D_ID, which has a login on this port.
abbrev pub GoesTo : Tables → fc.Frame → ℕ → ℕ → Type 0
GoesTo T f port to = (q : LivePort) × (port_at f.head.d_id T.ports ≡ Some q) × (port ≡ q.enode.port) × (to ≡ f.head.d_id)

-- the logins that a request ends, if it is granted: a FLOGI those of its ENode
abbrev pub ended_by : Request → Tables → List Login
ended_by r T = map login_of (filter (λ p. r.flogi && same_enode p.enode r.enode) T.ports)

-- A verdict that sends a FIP answer, the frame itself, or nothing.
abbrev pub SettledRests : Tables → Enode → fc.Frame → Settled → Type 0
SettledRests T x f (Vlans to untagged) = Unit {0}
SettledRests T x f (Advertised to size) = Unit {0}
SettledRests T x f (AliveNode y) = list_any (λ p. same_enode p.enode y) T.ports ≡ true
SettledRests T x f (AlivePort a) = IsSome (port_at a T.ports)
SettledRests T x f Noted = HasSource T f
SettledRests T x f (Forwarded port to) = GoesTo T f port to
SettledRests T x f (Dropped cause) = Unit {0}

-- A login to the name server of a live N_Port, with a receive size at which answers can be cut.
pub record ServerRests (T : Tables) (f : fc.Frame) (size : ℕ) : Type 0 where
  pub live : HasSource T f
  pub size_is : size ≡ els.receive_size (els.parms_of f.payload)
  pub fits : IsSize size

-- A verdict that is replied to the sender of the frame.
abbrev pub ReplyRests : Tables → fc.Frame → Reply → Type 0
ReplyRests T f (Rejected login reason explanation) = Unit {0}
ReplyRests T f (Logout kind a) = IsSome (port_at a T.ports)
ReplyRests T f (NsLogin size) = ServerRests T f size
ReplyRests T f NsLogout = HasSource T f
ReplyRests T f (Watching function) = HasSource T f × IsTrue (is_function function)
ReplyRests T f (Refused reason explanation) = HasSource T f

-- A login that may be granted: it asks for itself, its name is new, this address is free for it, and there is room.
pub record GrantRests (c : Settings) (T : Tables) (x : Enode) (flogi : Bool) (f : fc.Frame) (login : Candidate) : Type 0 where
  pub flogi_is : login.request.flogi ≡ flogi
  pub enode : login.request.enode ≡ x
  pub name : login.request.name ≡ (els.parms_of f.payload).port_name
  pub node_is : login.node ≡ (els.parms_of f.payload).node_name
  pub to_is : login.to ≡ asker_by x.mac f.head
  pub several_is : login.several ≡ els.has_feature 0x8000 (els.parms_of f.payload)
  pub free_is : IsTrue (is_free T login.request login.free)
  pub ended_is : login.ended ≡ ended_by login.request T
  pub fresh : list_any (λ q. q.name == login.request.name) (staying c T login.request) ≡ false
  pub room : length (staying c T login.request) < c.limit

-- A registration of a live N_Port that isn't refused: this request is the one that the frame has.
pub record RegistrationRests (T : Tables) (f : fc.Frame) (ask : ct.Ask) : Type 0 where
  pub live : HasSource T f
  pub read : ct.decoded f.payload ≡ Ok ask
  pub registers : is_registration ask ≡ true
  pub byte : HasByte ask
  pub writes : CanWrite ask
  pub allowed : (b : LivePort) → port_at f.head.s_id T.ports ≡ Some b → registration_refusal b.address b.values.node_name ask ≡ None

-- The answer to a query of a live N_Port that is logged in to the name server with this receive size.
pub record AnswerRests (c : Settings) (T : Tables) (f : fc.Frame) (tell : CtTell) (size : ℕ) : Type 0 where
  pub live : HasSource T f
  pub told : (b : LivePort) → port_at f.head.s_id T.ports ≡ Some b → tell ≡ query c T b (ask_in f)
  pub writes : CanTell tell
  pub server : (b : LivePort) → port_at f.head.s_id T.ports ≡ Some b → b.server ≡ Some size

-- What a judgement rests on: x is the ENode that sent the frame, and whom a reply answers is its sender.
abbrev pub Rests : Settings → Tables → Enode → Bool → fc.Frame → Judged → Type 0
Rests c T x flogi f (Must verdict) = SettledRests T x f verdict
Rests c T x flogi f (Replied verdict to) = ReplyRests T f verdict × (to ≡ asker_by x.mac f.head)
Rests c T x flogi f (MayGrant login) = GrantRests c T x flogi f login
Rests c T x flogi f (Registers to ask) = RegistrationRests T f (view ask) × (to ≡ asker_by x.mac f.head)
Rests c T x flogi f (Answers to tell size) = AnswerRests c T f tell size × (to ≡ asker_by x.mac f.head)

-- ---- the values of the frame

-- A settled verdict is one of a frame that carries an FC frame, in a login of this kind or else in a body of FCoE.
abbrev pub SettlesKind : Option LoginKind → Settled → Type 0
SettlesKind kind (Vlans to untagged) = ⊥
SettlesKind kind (Advertised to size) = ⊥
SettlesKind kind (AliveNode x) = ⊥
SettlesKind kind (Forwarded port to) = kind ≡ None
SettlesKind kind _ = Unit {0}

-- So is a verdict that is replied, which has the kind.
abbrev pub RepliesKind : Option LoginKind → Reply → Type 0
RepliesKind kind (Rejected login reason explanation) = login ≡ kind
RepliesKind kind (Logout own a) = kind ≡ Some own
RepliesKind kind _ = Unit {0}

-- So is a judgement.
abbrev pub HasKind : Option LoginKind → Judged → Type 0
HasKind kind (Must verdict) = SettlesKind kind verdict
HasKind kind (Replied verdict to) = RepliesKind kind verdict
HasKind kind (MayGrant login) = kind ≡ Some login.kind
HasKind kind (Registers to ask) = kind ≡ None
HasKind kind (Answers to tell size) = Unit {0}

-- A judgement has the values of a frame that came on a port.
abbrev pub HasValues : ℕ → Caught → Judged → Type 0
HasValues port caught (Must verdict) = IsSettledFor port caught verdict
HasValues port caught (Replied verdict to) = IsRepliedFor caught verdict
HasValues port caught (MayGrant login) = login.kind ≡ kind_asked caught
HasValues port caught (Registers to ask) = HasBody caught × (view ask ≡ ask_of caught)
HasValues port caught (Answers to tell size) = Unit {0}

-- ---- judgements

-- A request to the name server is judged: this is said of the live N_Port that sent it, and what the judgement rests on holds.
pub record IsAskJudged (c : Settings) (T : Tables) (f : fc.Frame) (to : Asker) (said : LivePort → Judgement) (j : Judged) : Type 0 where
  pub judged : (p : LivePort) → port_at f.head.s_id T.ports ≡ Some p → judgement_of j ≡ said p
  pub grounds : (x : Enode) (flogi : Bool) → to ≡ asker_by x.mac f.head → Rests c T x flogi f j
  pub kind : HasKind None j

-- What the verdict of a frame rests on.
abbrev pub Grounds : Settings → Tables → ℕ → Caught → Judged → Type 0
Grounds c T port caught j = Rests c T (sender port caught) (is_flogi caught) (carried caught) j
