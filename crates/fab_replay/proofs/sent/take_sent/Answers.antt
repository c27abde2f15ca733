use Rattle.std.proofs.Common.{sym, subst}
use Rattle.fab_replay.specs.Owed.{AreSoon}
use Rattle.fab_replay.proofs.SentLemmas.{early_of}
use Rattle.fab_replay.proofs.sent.take_sent.Goals as goal

pub write_records-requires : goal.write_records-requires
write_records-requires c = early_of c.args.fabric.now.settings c.args.fabric.now.events c.drain-drained.result.outs (subst AreSoon (sym c.drain-drained.ensures.outs) c.requires.early)
