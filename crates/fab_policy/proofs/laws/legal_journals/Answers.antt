-- The laws are lemmas.
use Rattle.fab_policy.proofs.Quiet.{tables_ascend, legal_is_quiet}
use Rattle.fab_policy.proofs.Sound.{legal_is_sound}
use Rattle.fab_policy.proofs.SoundMacs.{macs_tell_addresses, live_macs_differ}
use Rattle.fab_policy.proofs.SoundFree.{grants_are_free, logins_are_in_pool}
use Rattle.fab_policy.proofs.Live.{legal_names_the_live}
use Rattle.fab_policy.proofs.laws.legal_journals.Goals as goal

pub returns-clause-ascend : goal.returns-clause-ascend
returns-clause-ascend c = tables_ascend

pub returns-clause-quiet : goal.returns-clause-quiet
returns-clause-quiet c = legal_is_quiet

pub returns-clause-sound : goal.returns-clause-sound
returns-clause-sound c = legal_is_sound

pub returns-clause-addresses : goal.returns-clause-addresses
returns-clause-addresses c = macs_tell_addresses

pub returns-clause-macs : goal.returns-clause-macs
returns-clause-macs c = live_macs_differ

pub returns-clause-grants : goal.returns-clause-grants
returns-clause-grants c = grants_are_free

pub returns-clause-named : goal.returns-clause-named
returns-clause-named c = legal_names_the_live

pub returns-clause-pool : goal.returns-clause-pool
returns-clause-pool c = logins_are_in_pool
