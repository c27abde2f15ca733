use Rattle.std.proofs.Common.{ℕ, ap, subst, ◌∙◌, IsSome, inl}
use Rattle.keepalive_clock.specs.Clock.{last_of}
use Rattle.keepalive_clock.specs.declared.voice.Voice.TheVariants.{Port}
use Rattle.login_table.specs.Logins.{address_of, login_at}
use Rattle.fab_roster.proofs.Found.{item_at-key}
use Rattle.fab_roster.proofs.Heard.{heard_agrees, port_changes}
use Rattle.fab_roster.proofs.Lookups.{login_there}
use Rattle.fab_roster.proofs.SoundLemmas.{sound_roll}
use Rattle.fab_roster.proofs.roster.Roster.hear_port.Goals as goal

pub heard-requires-clause-room : goal.heard-requires-clause-room
heard-requires-clause-room c =
    let i = c.self.inside in
    let f = login_there i c.self.view_is c.args.address c.requires.live in
    inl (subst (λ (x : ℕ). IsSome (last_of (Port x) i.voices.voices)) (item_at-key address_of c.args.address i.logins.logins f.0 f.1) (c.self.invariant.voices.ports c.args.address f.0 f.1))

pub invariant_of-self : goal.invariant_of-self
invariant_of-self c =
    let ls = c.self.inside.logins.logins in
    let f = login_there c.self.inside c.self.view_is c.args.address c.requires.live in
    let at = item_at-key address_of c.args.address ls f.0 f.1 in
    heard_agrees c.self.inside c.heard.new.self c.in-Some.now (Port c.args.address) c.heard.ensures.last c.self.invariant c.heard.ensures.limits c.heard.ensures.sound f.0 (ap (λ (x : ℕ). login_at x ls) at ∙ f.1) at

pub returns-clause-change : goal.returns-clause-change
returns-clause-change c = port_changes c.self.inside c.heard.new.self c.in-Some.now c.self.view_is c.in-Some.is c.args.address c.heard.ensures.last

pub returns-clause-sound : goal.returns-clause-sound
returns-clause-sound c = sound_roll (invariant_of-self c)
