-- What a frame does to a node, and with it how long a node is up and what it sends then.
use Rattle.std.proofs.Common.{◌≡◌, ℕ, ◌+◌, ◌*◌, ◌<◌, ◌≤◌, ◌⊎◌, min, Bool, true, false, not, ◌==◌, ◌&&◌, ◌||◌, if◌then◌else◌, List, [], ◌∷◌, ◌++◌, Option, Some, None, Result, Ok, Err, inl, inr, refl, sym, ◌∙◌, ap, subst, find, arith}
use Rattle.std.proofs.lemmas.Bool.{and_parts, eqb-true}
use Rattle.std.proofs.lemmas.Slice.Eq.{bytes_eq-Decides}
use Rattle.fab_config.specs.Settings.{same_bytes, is_between}
use Rattle.pcap_file.specs.declared.Record.{Record}
use Rattle.eth_frames.specs.Ethernet as eth
use Rattle.fc_frames.specs.Frame as fc
use Rattle.fc_frames.specs.declared.FcFault.{FcFault}
use Rattle.fip_codec.specs.Message as fip
use Rattle.fip_codec.specs.declared.message.LoginKind.TheVariants.{Flogi, Fdisc, Logo}
use Rattle.els_messages.specs.Els as els
use Rattle.heard_frames.specs.Heard.{What, Bad, Fip, Fcoe, decoded}
use Rattle.heard_frames.specs.Rows.{ALL_ENODES, ALL_FCFS}
use Rattle.fab_base.specs.Layout.{zeros}
use Rattle.enode_core.specs.declared.node.Identity.{Identity}
use Rattle.enode_core.specs.declared.node.Kept.{Kept}
use Rattle.enode_core.specs.declared.node.Stage.{Stage}
use Rattle.enode_core.specs.declared.node.State.{State}
use Rattle.enode_core.specs.declared.node.Stage.TheVariants.{Asking, Looking, Logging, Up}
use Rattle.enode_core.specs.Frames.{fpma, framed, vlan_request, solicitation, flogi, flogi_frame, node_keep, port_keep}
use Rattle.enode_core.specs.Machine.{Turn, due, at_due, timer, frame, at_what, at_message, when_asking, when_looking, when_logging, when_up, counts, on_vlan, is_to_node, accepts, answered, clears, silent_from, looks, keeps, logs_in, comes_up, stays, next_ox_id, begun}
use Rattle.enode_core.specs.Runs.{Input, Timer, Heard, Sending, turn, moment_of, after, sent, sendings, heard, stands}
use Rattle.enode_core.specs.Laws.{IsAmong, IsWanted}
use Rattle.enode_core.specs.Alive.{IsHeardOf, UpIsHeard, IsUp, StaysUp, AreAlives, UpBegins, UpSendsAlives, GoesFrom, IsSentUp, OnlyUpIsGranted}
use Rattle.enode_core.proofs.Accepted.{wanted, parms_there, accepts_payload}

abbrev sending : ℕ → List ℕ → Sending
sending now l = record { moment = now; bytes = l }

-- ---- what a frame does

-- What a node does at a frame: nothing; it looks, on some VLAN, or logs in; it comes up by an accept; or it hears its forwarder.
pub data FrameDoes (own : Identity) (s : State) (r : Record) (t : Turn) : Type 0 where
  Nothing : t ≡ stays s → FrameDoes own s r t
  Looks : (v : State) → t ≡ looks own v r.moment → FrameDoes own s r t
  LogsIn : (kept : Kept) → t ≡ logs_in own s kept r.moment → FrameDoes own s r t
  ComesUp : (kept : Kept) (at a : ℕ) → s.stage ≡ Logging kept at → t ≡ comes_up s kept a r.moment → IsWanted r.caught own s.vlan s.ox_id kept a → FrameDoes own s r t
  Hears : (kept : Kept) (a node_due port_due at : ℕ) → s.stage ≡ Up kept a node_due port_due at → t ≡ stays (record s { stage = Up kept a node_due port_due r.moment }) →
      IsHeardOf r.caught own s.vlan kept → FrameDoes own s r t

module _ (own : Identity) (s : State) (r : Record) where
  asking_does : (f : eth.Eth) (m : fip.Fip) → FrameDoes own s r (when_asking own s r.moment f m)
  asking_does f (fip.VlanTell mac vlans) = by_frame (eth.vlan_of_tag f.tag == 0 && is_to_node own f) (find (is_between 1 4094) vlans)
    where
      by_frame : (b : Bool) (o : Option ℕ) → FrameDoes own s r (elim b as (λ _. Turn) [
        | false ↦ stays s
        | true ↦ elim o as (λ _. Turn) [ None ↦ stays s | Some vlan ↦ looks own (record s { vlan = vlan }) r.moment ]
      ])
      by_frame false o = Nothing refl
      by_frame true None = Nothing refl
      by_frame true (Some vlan) = Looks (record s { vlan = vlan }) refl
  asking_does f _ = Nothing refl

  looking_does : (f : eth.Eth) (m : fip.Fip) → FrameDoes own s r (when_looking own s r.moment f m)
  looking_does f (fip.Advertise solicited available from_fcf fp priority mac switch fc_map fabric quiet period) =
      by_frame (on_vlan s f && is_to_node own f && same_bytes f.src mac && available && solicited && from_fcf && fp && not quiet && is_between 250 90000 period)
    where
      by_frame : (b : Bool) → FrameDoes own s r (elim b as (λ _. Turn) [
        | false ↦ stays s
        | true ↦ logs_in own s (record { mac = f.src; fc_map = fc_map; period = period }) r.moment
      ])
      by_frame false = Nothing refl
      by_frame true = LogsIn (record { mac = f.src; fc_map = fc_map; period = period }) refl
  looking_does f _ = Nothing refl

  logging_does : (kept : Kept) (at : ℕ) (f : eth.Eth) (m : fip.Fip) → s.stage ≡ Logging kept at → decoded r.caught ≡ Fip f m → FrameDoes own s r (when_logging own s kept r.moment f m)
  logging_does kept at f (fip.LoginReply Flogi fp l (Some mac)) stage reads = by_frame (on_vlan s f && same_bytes f.src kept.mac && is_to_node own f) refl (fc.decoded l) refl
    where
      by_accept : (x : fc.Frame) (b : Bool) → accepts kept s.ox_id mac x ≡ b → fc.decoded l ≡ Ok x → (on_vlan s f && same_bytes f.src kept.mac && is_to_node own f) ≡ true →
          FrameDoes own s r (if b then comes_up s kept x.head.d_id r.moment else stays s)
      by_accept x false accepted carries frame = Nothing refl
      by_accept x true accepted carries frame =
          let p = parms_there (els.decoded x.payload) (accepts_payload kept s.ox_id mac x accepted) in
          ComesUp kept at x.head.d_id stage refl (wanted own s kept r.caught f fp l mac x p.0 reads frame carries accepted p.1)

      by_frame : (b : Bool) → (on_vlan s f && same_bytes f.src kept.mac && is_to_node own f) ≡ b → (x : Result fc.Frame FcFault) → fc.decoded l ≡ x →
          FrameDoes own s r (elim b as (λ _. Turn) [ false ↦ stays s | true ↦ answered s kept r.moment mac x ])
      by_frame false frame x carries = Nothing refl
      by_frame true frame (Err fault) carries = Nothing refl
      by_frame true frame (Ok x) carries = by_accept x (accepts kept s.ox_id mac x) refl carries frame
  logging_does kept at f (fip.LoginReply Flogi fp l None) stage reads = Nothing refl
  logging_does kept at f (fip.LoginReply Fdisc fp l mac) stage reads = Nothing refl
  logging_does kept at f (fip.LoginReply Logo fp l mac) stage reads = Nothing refl
  logging_does kept at f _ stage reads = Nothing refl

  -- a frame that counts is to the node or to all
  counted : (f : eth.Eth) → counts own f ≡ true → (f.dst ≡ own.mac) ⊎ (f.dst ≡ ALL_ENODES)
  counted f e = go (same_bytes f.dst own.mac) refl (same_bytes f.dst ALL_ENODES) refl e
    where
      go : (b : Bool) → same_bytes f.dst own.mac ≡ b → (c : Bool) → same_bytes f.dst ALL_ENODES ≡ c → b || c ≡ true → (f.dst ≡ own.mac) ⊎ (f.dst ≡ ALL_ENODES)
      go true is c all e = inl ((bytes_eq-Decides f.dst own.mac).0 is)
      go false is true all e = inr ((bytes_eq-Decides f.dst ALL_ENODES).0 all)
      go false is false all e = absurd (cc)

  up_does : (kept : Kept) (a node_due port_due at : ℕ) (f : eth.Eth) (m : fip.Fip) → s.stage ≡ Up kept a node_due port_due at → decoded r.caught ≡ Fip f m → counts own f ≡ true →
      FrameDoes own s r (when_up own s kept a node_due port_due r.moment f m)
  up_does kept a node_due port_due at f (fip.Advertise solicited available from_fcf fp priority mac switch fc_map fabric quiet period) stage reads to =
      by_frame (on_vlan s f && same_bytes f.src kept.mac) refl
    where
      by_frame : (b : Bool) → (on_vlan s f && same_bytes f.src kept.mac) ≡ b →
          FrameDoes own s r (elim b as (λ _. Turn) [ false ↦ stays s | true ↦ stays (record s { stage = Up kept a node_due port_due r.moment }) ])
      by_frame false e = Nothing refl
      by_frame true e =
          let both = and_parts (on_vlan s f) (same_bytes f.src kept.mac) e in
          Hears kept a node_due port_due at stage refl (record {
            frame = f;
            message = fip.Advertise solicited available from_fcf fp priority mac switch fc_map fabric quiet period;
            reads = reads;
            advertises = refl;
            on_vlan = eqb-true (eth.vlan_of_tag f.tag) s.vlan both.0;
            from = (bytes_eq-Decides f.src kept.mac).0 both.1;
            to = counted f to;
          })
  up_does kept a node_due port_due at f (fip.Clear mac switch ports) stage reads to = by_frame (on_vlan s f && same_bytes f.src kept.mac && is_to_node own f && clears own kept a ports)
    where
      by_frame : (b : Bool) → FrameDoes own s r (elim b as (λ _. Turn) [ false ↦ stays s | true ↦ looks own s r.moment ])
      by_frame false = Nothing refl
      by_frame true = Looks s refl
  up_does kept a node_due port_due at f _ stage reads to = Nothing refl

  message_does : (stage : Stage) (f : eth.Eth) (m : fip.Fip) → s.stage ≡ stage → decoded r.caught ≡ Fip f m → counts own f ≡ true → FrameDoes own s r (at_message own s stage r.moment f m)
  message_does (Asking at) f m is reads to = asking_does f m
  message_does (Looking at) f m is reads to = looking_does f m
  message_does (Logging kept at) f m is reads to = logging_does kept at f m is reads
  message_does (Up kept a node_due port_due at) f m is reads to = up_does kept a node_due port_due at f m is reads to

  what_does : (w : What) → decoded r.caught ≡ w → FrameDoes own s r (at_what own s r.moment w)
  what_does (Bad fault) reads = Nothing refl
  what_does (Fcoe f read) reads = Nothing refl
  what_does (Fip f m) reads = by_count (counts own f) refl
    where
      by_count : (b : Bool) → counts own f ≡ b → FrameDoes own s r (elim b as (λ _. Turn) [ false ↦ stays s | true ↦ at_message own s s.stage r.moment f m ])
      by_count false to = Nothing refl
      by_count true to = message_does s.stage f m refl reads to

  pub frame_does : FrameDoes own s r (frame own s r.moment r.caught)
  frame_does = what_does (decoded r.caught) refl

-- ---- silence

-- the forwarder of a node that is up was heard at the moment that it keeps; P says which records it was given
abbrev HeardAt : Identity → ℕ → ℕ → Stage → (Record → Type 0) → Type 0
HeardAt own vlan ox_id (Asking at) P = Unit {0}
HeardAt own vlan ox_id (Looking at) P = Unit {0}
HeardAt own vlan ox_id (Logging kept at) P = Unit {0}
HeardAt own vlan ox_id (Up kept a node_due port_due at) P = (r : Record) × P r × (IsHeardOf r.caught own vlan kept ⊎ IsWanted r.caught own vlan ox_id kept a) × (r.moment ≡ at)

abbrev IsHeardBy : Identity → (Record → Type 0) → State → Type 0
IsHeardBy own P s = HeardAt own s.vlan s.ox_id s.stage P

timer_heard : (own : Identity) (s : State) (stage : Stage) (P : Record → Type 0) → HeardAt own s.vlan s.ox_id stage P → IsHeardBy own P (at_due own s stage).state
timer_heard own s (Asking at) P h = tt
timer_heard own s (Looking at) P h = tt
timer_heard own s (Logging kept at) P h = tt
timer_heard own s (Up kept a node_due port_due at) P h = by_silence (silent_from kept.period at == now)
  where
    now : ℕ
    now = due (Up kept a node_due port_due at)

    by_silence : (b : Bool) → IsHeardBy own P (if b then looks own s now else keeps own s kept a node_due port_due at now).state
    by_silence true = tt
    by_silence false = h

frame_heard : (own : Identity) (s : State) (r : Record) (P : Record → Type 0) → P r → IsHeardBy own P s → (t : Turn) → FrameDoes own s r t → IsHeardBy own P t.state
frame_heard own s r P given h t (Nothing e) = subst (λ x. IsHeardBy own P x.state) (sym e) h
frame_heard own s r P given h t (Looks v e) = subst (λ x. IsHeardBy own P x.state) (sym e) tt
frame_heard own s r P given h t (LogsIn kept e) = subst (λ x. IsHeardBy own P x.state) (sym e) tt
frame_heard own s r P given h t (ComesUp kept at a stage e want) = subst (λ x. IsHeardBy own P x.state) (sym e) (r, given, inr want, refl)
frame_heard own s r P given h t (Hears kept a node_due port_due at stage e of) = subst (λ x. IsHeardBy own P x.state) (sym e) (r, given, inl of, refl)

inputs_heard : (own : Identity) (s : State) (inputs : List Input) (P : Record → Type 0) → ((q : Record) → IsAmong q (heard inputs) → P q) → IsHeardBy own P s → IsHeardBy own P (after own s inputs)
inputs_heard own s [] P each h = h
inputs_heard own s (Timer ∷ more) P each h = inputs_heard own (timer own s).state more P each (timer_heard own s s.stage P h)
inputs_heard own s (Heard r ∷ more) P each h =
    inputs_heard own (frame own s r.moment r.caught).state more P (λ q among. each q (inr among))
    (frame_heard own s r P (each r (inl refl)) h (frame own s r.moment r.caught) (frame_does own s r))

-- what comes before a node falls silent
in_time : (m node_due port_due period at : ℕ) → m < min (min node_due port_due) (silent_from period at) → 2 * m ≤ 2 * at + 5 * period
in_time m node_due port_due period at less = omega (arith, less)

pub up_is_heard : UpIsHeard
up_is_heard own start inputs m kept a node_due port_due at up before =
    let s = stands own start inputs in
    let h = subst (λ stage. HeardAt own s.vlan s.ox_id stage (λ q. IsAmong q (heard inputs))) up (inputs_heard own (begins own start) inputs (λ q. IsAmong q (heard inputs)) (λ q among. among) tt) in
    (h.0, h.1, h.2, subst (λ k. 2 * m ≤ 2 * k + 5 * kept.period) (sym h.3) (in_time m node_due port_due kept.period at (subst (λ stage. m < due stage) up before)))
  where
    begins : Identity → ℕ → State
    begins who moment = record { vlan = 0; ox_id = 0; stage = Asking (moment + 1000) }

-- ---- coming up

-- the parts of a stage in which a node is up
abbrev kept_in : Kept → Stage → Kept
kept_in k (Up kept a node_due port_due at) = kept
kept_in k _ = k

abbrev address_in : Stage → ℕ
address_in (Up kept a node_due port_due at) = a
address_in _ = 0

abbrev node_in : Stage → ℕ
node_in (Up kept a node_due port_due at) = node_due
node_in _ = 0

abbrev port_in : Stage → ℕ
port_in (Up kept a node_due port_due at) = port_due
port_in _ = 0

abbrev heard_now : ℕ → Stage → Stage
heard_now now (Up kept a node_due port_due at) = Up kept a node_due port_due now
heard_now now stage = stage

is_up : (stage : Stage) (kept : Kept) (a node_due port_due at : ℕ) → stage ≡ Up kept a node_due port_due at → IsUp stage
is_up stage kept a node_due port_due at e = subst IsUp (sym e) tt

module _ (own : Identity) (s : State) (kept : Kept) (a node_due port_due at : ℕ) (down : IsUp s.stage → ⊥) where
  timer_begins : (stage : Stage) → (IsUp stage → ⊥) → (at_due own s stage).state.stage ≡ Up kept a node_due port_due at → ⊥
  timer_begins (Asking m) not up = cc
  timer_begins (Looking m) not up = cc
  timer_begins (Logging k m) not up = cc
  timer_begins (Up k b n p m) not up = not tt

  frame_begins : (r : Record) (t : Turn) → FrameDoes own s r t → t.state.stage ≡ Up kept a node_due port_due at → (node_due ≡ r.moment + kept.period) × (port_due ≡ r.moment + 90000)
  frame_begins r t (Nothing e) up = absurd (down (is_up s.stage kept a node_due port_due at (sym (ap (λ x. x.state.stage) e) ∙ up)))
  frame_begins r t (Looks v e) up = absurd (let f : Looking (r.moment + 1000) ≡ Up kept a node_due port_due at = sym (ap (λ x. x.state.stage) e) ∙ up in cc)
  frame_begins r t (LogsIn k e) up = absurd (let f : Logging k (r.moment + 2000) ≡ Up kept a node_due port_due at = sym (ap (λ x. x.state.stage) e) ∙ up in cc)
  frame_begins r t (ComesUp k m b stage e want) up =
      let f : Up k b (r.moment + k.period) (r.moment + 90000) r.moment ≡ Up kept a node_due port_due at = sym (ap (λ x. x.state.stage) e) ∙ up in
      (sym (ap node_in f) ∙ ap (λ (x : Kept). r.moment + x.period) (ap (kept_in k) f), sym (ap port_in f))
  frame_begins r t (Hears k b n p m stage e of) up = absurd (down (is_up s.stage k b n p m stage))

pub up_begins : UpBegins
up_begins own s Timer kept a node_due port_due at down up = absurd (timer_begins own s kept a node_due port_due at down s.stage down up)
up_begins own s (Heard r) kept a node_due port_due at down up =
    let f = frame_begins own s kept a node_due port_due at down r (frame own s r.moment r.caught) (frame_does own s r) up in
    (r, refl, f.0, f.1)

-- ---- keep alives

-- what goes at one timer stands before what goes later
keep_alives : (own : Identity) (vlan : ℕ) (kept : Kept) (a node_due port_due now : ℕ) (x y : Bool) (rest : List Sending) (next_node next_port : ℕ) →
    (node_due == now) ≡ x → (port_due == now) ≡ y → now ≤ node_due → now ≤ port_due →
    AreAlives own vlan kept a (if x then now + kept.period else node_due) (if y then now + 90000 else port_due) rest next_node next_port →
    AreAlives own vlan kept a node_due port_due
    (sendings now ((if x then node_keep own vlan kept ∷ [] else []) ++ (if y then port_keep own vlan kept a ∷ [] else [])) ++ rest) next_node next_port
keep_alives own vlan kept a node_due port_due now true true rest next_node next_port n p low high h =
    let nd = eqb-true node_due now n in
    let pd = eqb-true port_due now p in
    let both = subst (λ k. AreAlives own vlan kept a (k + kept.period) (now + 90000) rest next_node next_port) (sym nd) h in
    inl (
      ap (λ k. sending k (node_keep own vlan kept)) (sym nd),
      omega (arith, nd, pd),
      inr (ap (λ k. sending k (port_keep own vlan kept a)) (sym pd), omega (arith, nd, pd), subst (λ k. AreAlives own vlan kept a (node_due + kept.period) (k + 90000) rest next_node next_port) (sym pd) both),
    )
keep_alives own vlan kept a node_due port_due now true false rest next_node next_port n p low high h =
    let nd = eqb-true node_due now n in
    inl (
      ap (λ k. sending k (node_keep own vlan kept)) (sym nd),
      omega (arith, nd, high),
      subst (λ k. AreAlives own vlan kept a (k + kept.period) port_due rest next_node next_port) (sym nd) h,
    )
keep_alives own vlan kept a node_due port_due now false true rest next_node next_port n p low high h =
    let pd = eqb-true port_due now p in
    inr (
      ap (λ k. sending k (port_keep own vlan kept a)) (sym pd),
      omega (arith, pd, low),
      subst (λ k. AreAlives own vlan kept a node_due (k + 90000) rest next_node next_port) (sym pd) h,
    )
keep_alives own vlan kept a node_due port_due now false false rest next_node next_port n p low high h = h

-- the next timer is no later than either keep alive
due_node : (node_due port_due silent : ℕ) → min (min node_due port_due) silent ≤ node_due
due_node node_due port_due silent = omega arith

due_port : (node_due port_due silent : ℕ) → min (min node_due port_due) silent ≤ port_due
due_port node_due port_due silent = omega arith

still_up : (own : Identity) (s : State) (inputs : List Input) → StaysUp own s inputs → IsUp s.stage
still_up own s [] stays = stays
still_up own s (i ∷ more) stays = stays.0

-- what a node that is up sends until the end of these inputs, and how it stands then
abbrev Sends : Identity → ℕ → Kept → ℕ → ℕ → ℕ → Kept → ℕ → ℕ → ℕ → List Sending → Type 0
Sends own vlan kept a node_due port_due next_kept b next_node next_port frames = (next_kept ≡ kept) × (b ≡ a) × AreAlives own vlan kept a node_due port_due frames next_node next_port

-- the same of what comes behind an input, from where it stands then
abbrev Again : Identity → List Input → Kept → Kept → ℕ → ℕ → ℕ → ℕ → ℕ → Type 0
Again own more kept next_kept a b next_node next_port last =
    (s : State) (node_due port_due at : ℕ) → s.stage ≡ Up kept a node_due port_due at → StaysUp own s more → (after own s more).stage ≡ Up next_kept b next_node next_port last →
    Sends own s.vlan kept a node_due port_due next_kept b next_node next_port (sent own s more)

module _ (own : Identity) (s : State) (more : List Input) (kept next_kept : Kept) (a node_due port_due at b next_node next_port last : ℕ)
    (up : s.stage ≡ Up kept a node_due port_due at) (again : Again own more kept next_kept a b next_node next_port last) where
  abbrev SendsAt : ℕ → Turn → Type 0
  SendsAt now t = StaysUp own t.state more → (after own t.state more).stage ≡ Up next_kept b next_node next_port last →
      Sends own s.vlan kept a node_due port_due next_kept b next_node next_port (sendings now t.sent ++ sent own t.state more)

  abbrev soonest : ℕ
  soonest = due (Up kept a node_due port_due at)

  sends_keep : (x : Bool) → (node_due == soonest) ≡ x → (y : Bool) → (port_due == soonest) ≡ y →
      SendsAt soonest (record {
        state = record s { stage = Up kept a (if x then soonest + kept.period else node_due) (if y then soonest + 90000 else port_due) at };
        sent = (if x then node_keep own s.vlan kept ∷ [] else []) ++ (if y then port_keep own s.vlan kept a ∷ [] else []);
      })
  sends_keep x n y p still end =
      let next : State = record s { stage = Up kept a (if x then soonest + kept.period else node_due) (if y then soonest + 90000 else port_due) at } in
      let h = again next (if x then soonest + kept.period else node_due) (if y then soonest + 90000 else port_due) at refl still end in (
        h.0,
        h.1,
        keep_alives own s.vlan kept a node_due port_due soonest x y (sent own next more) next_node next_port n p
            (due_node node_due port_due (silent_from kept.period at)) (due_port node_due port_due (silent_from kept.period at)) h.2,
      )

  sends_due : (x : Bool) → (silent_from kept.period at == soonest) ≡ x → SendsAt soonest (if x then looks own s soonest else keeps own s kept a node_due port_due at soonest)
  sends_due true silent still end = absurd (still_up own (looks own s soonest).state more still)
  sends_due false silent still end = sends_keep (node_due == soonest) refl (port_due == soonest) refl still end

  sends_timer : SendsAt (due s.stage) (timer own s)
  sends_timer = subst (λ stage. SendsAt (due stage) (at_due own s stage)) (sym up) (sends_due (silent_from kept.period at == soonest) refl)

  sends_frame : (r : Record) (t : Turn) → FrameDoes own s r t → SendsAt r.moment t
  sends_frame r t (Nothing e) = subst (SendsAt r.moment) (sym e) (λ still end. again s node_due port_due at up still end)
  sends_frame r t (Looks v e) = subst (SendsAt r.moment) (sym e) (λ still end. absurd (still_up own (looks own v r.moment).state more still))
  sends_frame r t (LogsIn k e) = subst (SendsAt r.moment) (sym e) (λ still end. absurd (still_up own (logs_in own s k r.moment).state more still))
  sends_frame r t (ComesUp k m c stage e want) = absurd (let f : Logging k m ≡ Up kept a node_due port_due at = sym stage ∙ up in cc)
  sends_frame r t (Hears k c n p m stage e of) =
      subst (SendsAt r.moment) (sym e) (λ still end. again (record s { stage = Up k c n p r.moment }) node_due port_due r.moment (ap (heard_now r.moment) (sym stage ∙ up)) still end)

pub up_sends : UpSendsAlives
up_sends own s [] kept next_kept a node_due port_due at b next_node next_port last up still end =
    let f = sym up ∙ end in
    (sym (ap (kept_in kept) f), sym (ap address_in f), (ap node_in f, ap port_in f))
up_sends own s (Timer ∷ more) kept next_kept a node_due port_due at b next_node next_port last up still end =
    sends_timer own s more kept next_kept a node_due port_due at b next_node next_port last up
    (λ t n p m. up_sends own t more kept next_kept a n p m b next_node next_port last) still.1 end
up_sends own s (Heard r ∷ more) kept next_kept a node_due port_due at b next_node next_port last up still end =
    sends_frame own s more kept next_kept a node_due port_due at b next_node next_port last up
    (λ t n p m. up_sends own t more kept next_kept a n p m b next_node next_port last)
    r (frame own s r.moment r.caught) (frame_does own s r) still.1 end

-- ---- who speaks

among_parts : {X : Type 0} (x : X) (xs ys : List X) → IsAmong x (xs ++ ys) → IsAmong x xs ⊎ IsAmong x ys
among_parts x [] ys among = inr among
among_parts x (y ∷ xs) ys (inl e) = inl (inl e)
among_parts x (y ∷ xs) ys (inr among) = later (among_parts x xs ys among)
  where
    later : IsAmong x xs ⊎ IsAmong x ys → IsAmong x (y ∷ xs) ⊎ IsAmong x ys
    later (inl among) = inl (inr among)
    later (inr among) = inr among

-- a frame of FIP has its source
from_mac : (tag : Option ℕ) (dst mac : List ℕ) (m : fip.Fip) (l : List ℕ) → l ≡ framed tag dst mac m → GoesFrom mac l
from_mac tag dst mac m l e = record { tag = tag; dst = dst; message = m; is = e }

bytes_in : (x : Sending) (now : ℕ) (l : List ℕ) → x ≡ sending now l → x.bytes ≡ l
bytes_in x now l e = ap (λ y. y.bytes) e

asks_from : (own : Identity) (now : ℕ) (x : Sending) → IsAmong x (sendings now (vlan_request own ∷ [])) → GoesFrom own.mac x.bytes
asks_from own now x (inl e) = from_mac None ALL_FCFS own.mac (fip.VlanAsk own.mac None) x.bytes (bytes_in x now (vlan_request own) e)
asks_from own now x (inr none) = absurd none

looks_from : (own : Identity) (vlan now : ℕ) (x : Sending) → IsAmong x (sendings now (solicitation own vlan ∷ [])) → GoesFrom own.mac x.bytes
looks_from own vlan now x (inl e) = from_mac (Some vlan) ALL_FCFS own.mac (fip.Solicit false true own.mac own.node 2158) x.bytes (bytes_in x now (solicitation own vlan) e)
looks_from own vlan now x (inr none) = absurd none

logs_from : (own : Identity) (vlan : ℕ) (kept : Kept) (ox_id now : ℕ) (x : Sending) → IsAmong x (sendings now (flogi own vlan kept ox_id ∷ [])) → GoesFrom own.mac x.bytes
logs_from own vlan kept ox_id now x (inl e) =
    from_mac (Some vlan) kept.mac own.mac (fip.Login Flogi true (fc.frame_bytes (flogi_frame own ox_id)) (zeros 6)) x.bytes (bytes_in x now (flogi own vlan kept ox_id) e)
logs_from own vlan kept ox_id now x (inr none) = absurd none

module _ (own : Identity) (s : State) (more : List Input) (x : Sending) where
  abbrev Speaks : Type 0
  Speaks = GoesFrom own.mac x.bytes ⊎ IsSentUp own s (Timer ∷ more) x

  port_from : (kept : Kept) (a node_due port_due at now : ℕ) (p : Bool) → s.stage ≡ Up kept a node_due port_due at → now ≡ due s.stage →
      IsAmong x (sendings now (if p then port_keep own s.vlan kept a ∷ [] else [])) → Speaks
  port_from kept a node_due port_due at now false up is among = absurd among
  port_from kept a node_due port_due at now true up is (inr none) = absurd none
  port_from kept a node_due port_due at now true up is (inl e) = inr (record {
    before = [];
    later = more;
    are = refl;
    kept = kept;
    address = a;
    node_due = node_due;
    port_due = port_due;
    at = at;
    up = up;
    moment_ = ap (λ y. y.moment) e ∙ is;
    from = from_mac (Some s.vlan) kept.mac (fpma kept a) (fip.Keep own.mac (Some (record { mac = fpma kept a; address = a; name = own.name }))) x.bytes (bytes_in x now (port_keep own s.vlan kept a) e);
  })

  keeps_from : (kept : Kept) (a node_due port_due at now : ℕ) (n p : Bool) → s.stage ≡ Up kept a node_due port_due at → now ≡ due s.stage →
      IsAmong x (sendings now ((if n then node_keep own s.vlan kept ∷ [] else []) ++ (if p then port_keep own s.vlan kept a ∷ [] else []))) → Speaks
  keeps_from kept a node_due port_due at now false p up is among = port_from kept a node_due port_due at now p up is among
  keeps_from kept a node_due port_due at now true p up is (inl e) = inl (from_mac (Some s.vlan) kept.mac own.mac (fip.Keep own.mac None) x.bytes (bytes_in x now (node_keep own s.vlan kept) e))
  keeps_from kept a node_due port_due at now true p up is (inr among) = port_from kept a node_due port_due at now p up is among

  timer_from : (stage : Stage) → s.stage ≡ stage → IsAmong x (sendings (due stage) (at_due own s stage).sent) → Speaks
  timer_from (Asking at) is among = inl (asks_from own at x among)
  timer_from (Looking at) is among = inl (looks_from own s.vlan at x among)
  timer_from (Logging kept at) is among = inl (logs_from own s.vlan kept (next_ox_id s.ox_id) at x among)
  timer_from (Up kept a node_due port_due at) is among = by_silence (silent_from kept.period at == now) among
    where
      now : ℕ
      now = due (Up kept a node_due port_due at)

      by_silence : (b : Bool) → IsAmong x (sendings now (if b then looks own s now else keeps own s kept a node_due port_due at now).sent) → Speaks
      by_silence true among = inl (looks_from own s.vlan now x among)
      by_silence false among = keeps_from kept a node_due port_due at now (node_due == now) (port_due == now) is (sym (ap due is)) among

frame_from : (own : Identity) (s : State) (r : Record) (x : Sending) (t : Turn) → FrameDoes own s r t → IsAmong x (sendings r.moment t.sent) → GoesFrom own.mac x.bytes
frame_from own s r x t (Nothing e) among = absurd (subst (λ y. IsAmong x (sendings r.moment y.sent)) e among)
frame_from own s r x t (Looks v e) among = looks_from own v.vlan r.moment x (subst (λ y. IsAmong x (sendings r.moment y.sent)) e among)
frame_from own s r x t (LogsIn kept e) among = logs_from own s.vlan kept (next_ox_id s.ox_id) r.moment x (subst (λ y. IsAmong x (sendings r.moment y.sent)) e among)
frame_from own s r x t (ComesUp kept at a stage e want) among = absurd (subst (λ y. IsAmong x (sendings r.moment y.sent)) e among)
frame_from own s r x t (Hears kept a n p m stage e of) among = absurd (subst (λ y. IsAmong x (sendings r.moment y.sent)) e among)

-- what is sent at later inputs is sent at all of them
one_more : (own : Identity) (s : State) (i : Input) (more : List Input) (x : Sending) → GoesFrom own.mac x.bytes ⊎ IsSentUp own (turn own s i).state more x → GoesFrom own.mac x.bytes ⊎ IsSentUp own s (i ∷ more) x
one_more own s i more x (inl from) = inl from
one_more own s i more x (inr u) = inr (record {
  before = i ∷ u.before;
  later = u.later;
  are = ap (λ l. i ∷ l) u.are;
  kept = u.kept;
  address = u.address;
  node_due = u.node_due;
  port_due = u.port_due;
  at = u.at;
  up = u.up;
  moment_ = u.moment_;
  from = u.from;
})

-- what is sent at an input, or at those behind it
speaks_now : (own : Identity) (s : State) (i : Input) (more : List Input) (x : Sending) → (IsAmong x (sent own (turn own s i).state more) → GoesFrom own.mac x.bytes ⊎ IsSentUp own (turn own s i).state more x) →
    (IsAmong x (sendings (moment_of s i) (turn own s i).sent) → GoesFrom own.mac x.bytes ⊎ IsSentUp own s (i ∷ more) x) →
    IsAmong x (sendings (moment_of s i) (turn own s i).sent) ⊎ IsAmong x (sent own (turn own s i).state more) → GoesFrom own.mac x.bytes ⊎ IsSentUp own s (i ∷ more) x
speaks_now own s i more x behind here (inl among) = here among
speaks_now own s i more x behind here (inr among) = one_more own s i more x (behind among)

speaks : (own : Identity) (s : State) (inputs : List Input) (x : Sending) → IsAmong x (sent own s inputs) → GoesFrom own.mac x.bytes ⊎ IsSentUp own s inputs x
speaks own s [] x among = absurd among
speaks own s (Timer ∷ more) x among =
    speaks_now own s Timer more x (speaks own (timer own s).state more x) (timer_from own s more x s.stage refl) (among_parts x (sendings (due s.stage) (timer own s).sent) (sent own (timer own s).state more) among)
speaks own s (Heard r ∷ more) x among =
    speaks_now own s (Heard r) more x (speaks own (frame own s r.moment r.caught).state more x)
    (λ here. inl (frame_from own s r x (frame own s r.moment r.caught) (frame_does own s r) here))
    (among_parts x (sendings r.moment (frame own s r.moment r.caught).sent) (sent own (frame own s r.moment r.caught).state more) among)

pub only_up_is_granted : OnlyUpIsGranted
only_up_is_granted own start inputs x among = by_part (among_parts x (sendings start (begun own start).sent) (sent own (begun own start).state inputs) among)
  where
    by_part : IsAmong x (sendings start (begun own start).sent) ⊎ IsAmong x (sent own (begun own start).state inputs) → GoesFrom own.mac x.bytes ⊎ IsSentUp own (begun own start).state inputs x
    by_part (inl here) = inl (asks_from own start x here)
    by_part (inr later) = speaks own (begun own start).state inputs x later
