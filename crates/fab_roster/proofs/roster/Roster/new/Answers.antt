use Rattle.std.proofs.Common.{sym, ap, ◌∙◌}
use Rattle.fc_addresses.specs.Pool.{unused}
use Rattle.fab_roster.proofs.NewLemmas.{new_agrees}
use Rattle.fab_roster.proofs.SoundLemmas.{sound_roll}
use Rattle.fab_roster.proofs.roster.Roster.new.Goals as goal

pub invariant_of-result : goal.invariant_of-result
invariant_of-result c =
    new_agrees c.value.result c.args.count c.args.limit c.args.period _ _ _ _ _ (c.in_ok-pool.ensures ∙ ap (λ n. unused n c.args.count) (sym c.value.ensures.value))
    c.in_ok-logins.ensures.empty c.in_ok-voices.ensures c.in_ok-registry.ensures.empty c.in_ok-watchers.ensures.empty

pub returns-clause-sound : goal.returns-clause-sound
returns-clause-sound c = sound_roll (invariant_of-result c)
