-- What an entry sends, and what the code knows before it.
use Rattle.std.specs.Prelude.{◌≡◌, ℕ, ◌+◌, ◌%◌, ◌<◌, List, length, map, IsSome, IsTrue, Some}
use Rattle.fab_base.specs.declared.values.Caught.{Caught}
use Rattle.fab_config.specs.Settings.{Settings}
use Rattle.fab_policy.specs.Changes.{CanStay}
use Rattle.fab_policy.specs.Free.{Request, is_free}
use Rattle.heard_frames.specs.Heard.{asked, is_flogi, s_id, sender}
use Rattle.fab_policy.specs.Outputs.{State, notices, outputs_by}
use Rattle.fab_policy.specs.Queries.{query}
use Rattle.fab_policy.specs.Replies.{asker_of, kind_asked}
use Rattle.fab_policy.specs.State.{LivePort, Tables, now_of, port_at}
use Rattle.fab_policy.specs.Steps.{after}
use Rattle.fab_policy.specs.declared.event.Event.{Event}
use Rattle.fab_policy.specs.declared.event.Event.TheVariants.{Frame}
use Rattle.fab_policy.specs.declared.verdict.Verdict.{Verdict}
use Rattle.fab_policy.specs.declared.verdict.Verdict.TheVariants.{Granted, Registered}
use Rattle.els_messages.specs.Els as els
use Rattle.ct_messages.specs.Ct.{Ask}
use Rattle.ct_messages.specs.declared.CtTell.{CtTell}
use Rattle.fab_sending.specs.MessageLaws.{messages}
use Rattle.fab_sending.specs.Message.{AreSendable, frame_at, sent_of}
use Rattle.fab_sending.specs.declared.message.Out.{Out}
use Rattle.fab_roster.specs.Roll.{login_of}
use Rattle.fab_sending.specs.Messages.{at_moment, changes}
use Rattle.fab_sending.specs.Notices.{ended_by_grant, notices_of_frame}
use Rattle.fab_sending.specs.declared.sends.Before.{Before}
use Rattle.fab_sending.specs.declared.sends.Grant.{Grant}
use Rattle.fab_sending.specs.declared.sends.Sends.{Sends}

-- the state before an entry
abbrev pub state_before : Before → State
state_before b = record { tables = b.roster.now.tables; advertised = b.advertised; rscns = b.rscns }

-- The frames are those that the policy says of the entry, and each can be sent where the entry stands among these. State
-- changes are counted on.
pub record AreSent (c : Settings) (n : ℕ) (S : State) (e : Event) (events : List Event) (sends : Sends) : Type 0 where
  pub outs : map (sent_of c events) sends.outs ≡ outputs_by c n S (after c S.tables e) e
  pub rscns : sends.rscns ≡ (S.rscns + length (notices c S.tables (after c S.tables e) e)) % 65535
  pub sendable : AreSendable events sends.outs

-- the login request of a frame that came on a port
abbrev pub request_from : ℕ → Caught → Request
request_from port caught = record { flogi = is_flogi caught; enode = sender port caught; name = (asked caught).port_name }

-- What has to hold of the tables at a frame: an address that is granted was free for the request, and is live then, and an
-- N_Port that registers has what the name server's table knows.
abbrev pub CanFollow : Settings → Tables → ℕ → ℕ → Caught → Verdict → Type 0
CanFollow c T port index caught (Granted a) =
    IsTrue (is_free T (request_from port caught) a) × IsSome (port_at a (after c T (Frame port index caught (Granted a))).ports)
CanFollow c T port index caught Registered = (p : LivePort) → port_at (s_id caught) T.ports ≡ Some p → CanStay caught Registered p
CanFollow c T port index caught _ = Unit {0}

-- What a frame of a port sends that gets this verdict and stands in the entry at this place: what the policy says, where the
-- verdict can be carried out. All of it can be sent, and state changes are counted modulo 65535.
pub record FrameSends (b : Before) (port entry : ℕ) (caught : Caught) (v : Verdict) (sends : Sends) : Type 0 where
  pub sent : (index : ℕ) (events : List Event) → frame_at entry events ≡ Some caught → CanFollow b.config.now b.roster.now.tables port index caught v →
      AreSent b.config.now b.ports (state_before b) (Frame port index caught v) events sends
  pub sendable : (events : List Event) → frame_at entry events ≡ Some caught → AreSendable events sends.outs
  pub few : sends.rscns < 65535

-- Frames are the replies to it, and others its state changes.
pub record AreParts (b : Before) (port entry : ℕ) (caught : Caught) (v : Verdict) (replies changed : List Out) : Type 0 where
  pub made : replies ≡ at_moment (now_of b.roster.now.tables) (messages b.config.now b.roster.now.tables port entry caught v)
  pub sendable : (events : List Event) → frame_at entry events ≡ Some caught → AreSendable events replies
  pub changes_are : changed ≡ at_moment (now_of b.roster.now.tables) (changes b.rscns (notices_of_frame b.config.now b.roster.now.tables port caught v))

-- What the accept of a login says is what the frame asks for.
pub record IsAccept (caught : Caught) (g : Grant) : Type 0 where
  pub to : g.to ≡ asker_of caught
  pub kind : g.kind ≡ kind_asked caught
  pub several : g.several ≡ els.has_feature 0x8000 (asked caught)

-- A login of a frame of a port that gets an address, with what its accept says and the logins that it ends.
pub record IsGrant (T : Tables) (port : ℕ) (caught : Caught) (g : Grant) : Type 0 where
  pub request : g.request.now ≡ request_from port caught
  pub accept : IsAccept caught g
  pub ended : g.ended.now ≡ map login_of (ended_by_grant T port caught)

-- An answer to a query of a live N_Port.
abbrev pub IsAnswer : Before → LivePort → CtTell → Type 0
IsAnswer b p tell = (ask : Ask) × (tell ≡ query b.config.now b.roster.now.tables p ask)
