use Rattle.std.proofs.Common.{subst, IsSome, inl}
use Rattle.fab_base.specs.declared.values.Enode.{Enode}
use Rattle.keepalive_clock.specs.Clock.{last_of}
use Rattle.keepalive_clock.specs.declared.voice.Voice.TheVariants.{Node}
use Rattle.fab_roster.proofs.Found.{enode_same}
use Rattle.fab_roster.proofs.Heard.{heard_agrees, node_changes, speaker}
use Rattle.fab_roster.proofs.SoundLemmas.{sound_roll}
use Rattle.fab_roster.proofs.roster.Roster.hear_node.Goals as goal

pub heard-requires-clause-room : goal.heard-requires-clause-room
heard-requires-clause-room c =
    let x = c.args.enode.now in
    let f = speaker x c.self.invariant c.self.view_is c.requires.known in
    inl (subst (λ (y : Enode). IsSome (last_of (Node y) c.self.inside.voices.voices)) (enode_same f.0.enode x f.2) (c.self.invariant.voices.nodes f.0.address f.0 f.1))

pub invariant_of-self : goal.invariant_of-self
invariant_of-self c =
    let x = c.args.enode.now in
    let f = speaker x c.self.invariant c.self.view_is c.requires.known in
    heard_agrees c.self.inside c.heard.new.self c.in-Some.now (Node x) c.heard.ensures.last c.self.invariant c.heard.ensures.limits c.heard.ensures.sound f.0 f.1 f.2

pub returns-clause-change : goal.returns-clause-change
returns-clause-change c = node_changes c.self.inside c.heard.new.self c.in-Some.now c.self.view_is c.in-Some.is c.args.enode.now c.heard.ensures.last

pub returns-clause-sound : goal.returns-clause-sound
returns-clause-sound c = sound_roll (invariant_of-self c)
