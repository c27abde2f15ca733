use Rattle.std.proofs.Common.{◌≡◌, take}
use Rattle.fab_roster.specs.Roll.{addresses_of}
use Rattle.fab_sending.specs.Counting.{told_of_login_changes, with_changes}
use Rattle.fab_sending.proofs.noticing.tell_of_zones.Given as goal

abbrev pub invariant-loop-login : goal.invariant-loop-login
invariant-loop-login l =
    l.outs ≡ with_changes l.moment l.before.rscns l.initial.outs (told_of_login_changes l.before.config.now l.before.roster.now.tables l.since l.moment (addresses_of l.ended) (take l.login-index l.live))
