use Rattle.std.proofs.Common.{ℕ, ◌≡◌, ◌∙◌, IsSome, Some, ap, inl, refl, sym, subst}
use Rattle.keepalive_clock.specs.Clock.{last_of}
use Rattle.keepalive_clock.specs.declared.voice.Voice.TheVariants.{Port}
use Rattle.login_table.specs.Logins.{address_of, login_at}
use Rattle.fab_policy.specs.State.{LivePort, port_at}
use Rattle.fab_roster.specs.Changes.{ChangesPorts}
use Rattle.fab_roster.specs.Restoring.{heard_again}
use Rattle.fab_roster.specs.Roll.{Roll, live_of, roll_of}
use Rattle.fab_roster.proofs.Found.{item_at-key}
use Rattle.fab_roster.proofs.Lookups.{live_there, login_there}
use Rattle.fab_roster.proofs.RestoreLemmas.{both_agree, both_change}
use Rattle.fab_roster.proofs.Served.{none_some, some_same}
use Rattle.fab_roster.proofs.SoundLemmas.{sound_roll}
use Rattle.fab_roster.proofs.roster.Roster.hear_both.Goals as goal

pub unreachable-requires : goal.unreachable-requires
unreachable-requires c = let f = login_there c.self.inside c.self.view_is c.args.address c.requires.live in none_some f.0 (c.in_default.ensures.login ∙ f.1)

pub heard-requires-clause-room : goal.heard-requires-clause-room
heard-requires-clause-room c = inl (c.self.invariant.voices.nodes c.args.address c.in-Some.login.now (sym c.in-Some.ensures.login))

pub heard-requires-2-clause-room : goal.heard-requires-2-clause-room
heard-requires-2-clause-room c =
    let l = c.in-Some.login.now in
    let is = sym c.in-Some.ensures.login in
    let there = subst (λ (x : ℕ). IsSome (last_of (Port x) c.self.inside.voices.voices)) (item_at-key address_of c.args.address c.self.inside.logins.logins l is) (c.self.invariant.voices.ports c.args.address l is) in
    inl (subst (λ o. IsSome o) (sym (c.heard.ensures.last (Port c.args.address))) there)

pub invariant_of-self : goal.invariant_of-self
invariant_of-self c =
    both_agree c.self.inside c.heard.new.self c.heard-2.new.self c.in-Some.login.now.enode c.args.address c.args.node c.args.port c.heard.ensures.last c.heard-2.ensures.last c.self.invariant
    c.heard.ensures.limits c.heard.ensures.sound c.heard-2.ensures.limits c.heard-2.ensures.sound c.in-Some.login.now (sym c.in-Some.ensures.login) refl

pub returns-clause-change : goal.returns-clause-change
returns-clause-change c = λ p found.
    let t = c.self.inside in
    let l = c.in-Some.login.now in
    let here = sym (live_there t c.args.address l (sym c.in-Some.ensures.login)) ∙ (ap (λ (r : Roll). port_at c.args.address r.tables.ports) c.self.view_is ∙ found) in
    subst (λ (q : LivePort). ChangesPorts (heard_again c.args.address q.enode c.args.node c.args.port) c.args.self.now (roll_of (record t { voices = c.heard-2.new.self }))) (some_same (live_of t l) p here)
    (both_change t c.heard.new.self c.heard-2.new.self l.enode c.args.address c.args.node c.args.port c.heard.ensures.last c.heard-2.ensures.last c.self.view_is)

pub returns-clause-sound : goal.returns-clause-sound
returns-clause-sound c = sound_roll (invariant_of-self c)
