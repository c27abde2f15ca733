use Rattle.std.proofs.Common.{◌==◌, ◌∙◌, IsTrue, ap, false, inr, refl, subst, sym, if◌then◌else◌, Some}
use Rattle.login_table.specs.Logins.{Logins}
use Rattle.login_table.specs.declared.login.Login.{Login}
use Rattle.keepalive_clock.specs.Voices.{same_voice}
use Rattle.keepalive_clock.specs.declared.voice.Voice.TheVariants.{Node, Port}
use Rattle.name_server.specs.Registry.{Registrations}
use Rattle.fab_policy.specs.Free.{Request, is_free}
use Rattle.fab_policy.specs.State.{LivePort}
use Rattle.fab_roster.specs.Roll.{Roll}
use Rattle.fab_roster.specs.declared.roster.Roster.TheInside.{Inside}
use Rattle.fab_roster.proofs.FreeLemmas.{free_absent}
use Rattle.fab_roster.proofs.GrantLemmas.{AfterGrant, grant_grants, grant_keeps}
use Rattle.fab_roster.proofs.Lookups.{any_login}
use Rattle.fab_roster.proofs.RoomLemmas.{entry_room, find-no_any, voice_room, voice_room_again}
use Rattle.fab_roster.proofs.SoundLemmas.{sound_roll}
use Rattle.fab_roster.proofs.roster.Roster.grant.Goals as goal

pub add-requires-clause-name : goal.add-requires-clause-name
add-requires-clause-name c =
    let i = c.self.inside in
    let n = c.args.login.name in
    find-no_any (λ (l : Login). l.name == n) i.logins.logins (any_login i c.self.view_is (λ (p : LivePort). p.name == n) (λ (l : Login). l.name == n) (λ l. refl) ∙ c.requires.name)

pub heard-requires-clause-room : goal.heard-requires-clause-room
heard-requires-clause-room c = inr (voice_room c.self.invariant c.self.view_is c.requires.room)

pub heard-requires-2-clause-room : goal.heard-requires-2-clause-room
heard-requires-2-clause-room c = inr (voice_room_again c.self.invariant c.self.view_is c.requires.room (Node c.args.login.enode) c.heard.new.self c.heard.ensures.limits c.heard.ensures.count)

pub enter-requires-clause-room : goal.enter-requires-clause-room
enter-requires-clause-room c = entry_room c.self.invariant c.self.view_is c.requires.room

-- the tables after the grant
abbrev held : (c : goal.After-enter) → Inside
held c = record c.self.inside { pool = c.take.new.self; logins = c.add.new.self; voices = c.heard-2.new.self; registry = c.enter.new.self }

after : (c : goal.After-enter) → AfterGrant c.in-Some.now c.args.login c.self.inside (held c)
after c =
    let x = c.args.login in
    let q : Request = record { flogi = false; enode = x.enode; name = x.name } in record {
      absent = free_absent c.self.invariant q refl x.address
          (subst (λ (r : Roll). IsTrue (is_free r.tables q x.address)) (sym c.self.view_is) c.requires.free);
      server = c.requires.server;
      limit = ap (λ (t : Logins). t.limit) c.add.ensures.logins;
      logins = c.add.ensures.found;
      past = c.take.ensures.pool;
      addresses = c.take.ensures.found;
      places = c.take.ensures.places;
      limits = record {
        node_period = c.heard-2.ensures.limits.node_period ∙ c.heard.ensures.limits.node_period;
        port_period = c.heard-2.ensures.limits.port_period ∙ c.heard.ensures.limits.port_period;
        room = c.heard-2.ensures.limits.room ∙ c.heard.ensures.limits.room;
      };
      voices = λ v. c.heard-2.ensures.last v ∙ ap (λ o. if same_voice (Port x.address) v then Some c.in-Some.now else o) (c.heard.ensures.last v);
      entry_room = ap (λ (r : Registrations). r.room) c.enter.ensures.entries;
      entries = c.enter.ensures.found;
      sound_logins = c.add.ensures.sound;
      sound_voices = c.heard-2.ensures.sound;
      sound_entries = c.enter.ensures.sound;
    }

pub invariant_of-self : goal.invariant_of-self
invariant_of-self c = grant_keeps c.self.invariant (after c)

pub returns-clause-change : goal.returns-clause-change
returns-clause-change c = grant_grants c.self.invariant (after c) c.self.view_is c.in-Some.is

pub returns-clause-sound : goal.returns-clause-sound
returns-clause-sound c = sound_roll (invariant_of-self c)
