use Rattle.std.proofs.Common.{Ok, Err, inl}
use Rattle.fab_base.specs.Ending.{Said}
use Rattle.fab_migrate.specs.Migrating.{migrating_end}
use Rattle.fabric_tool.specs.Command.{Migrate, pair_of}
use Rattle.fabric_tool.proofs.FileLemmas.{journal_written, journal_refused, journal_failed, migrates_as, pair_uses}
use Rattle.fabric_tool.proofs.TouchLemmas.{own_pair}
use Rattle.fabric_tool.proofs.migrating.migrate_file.Goals as goal

pub returns-in-Ok : goal.returns-in-Ok
returns-in-Ok g c =
    let seen = g.D.Depot.seen in
    let a = seen c.args.depot.now in
    let b = seen c.migrate.new.depot in
    record {
      holds = journal_written (pair_of c.args.words.now) a b c.in-Ok.entries (migrates_as _ _ _ _ a b (Ok c.in-Ok.entries) c.word_at.ensures c.word_at-2.ensures c.in-Ok.ensures.migrates) (pair_uses _ _ _ _ Said a b c.word_at.ensures c.word_at-2.ensures c.in-Ok.ensures.uses);
      touches = own_pair (Migrate (pair_of c.args.words.now)) _ _ _ _ (inl c.word_at.ensures) (inl c.word_at-2.ensures) c.migrate.ensures.uses.touches;
    }

pub returns-in-Err-Input : goal.returns-in-Err-Input
returns-in-Err-Input g c =
    let seen = g.D.Depot.seen in
    let a = seen c.args.depot.now in
    let b = seen c.migrate.new.depot in
    let x = c.in-Err-Input.field-0 in
    record {
      holds = journal_refused (pair_of c.args.words.now) a b c.in-Err-Input.error c.unmigrated.result c.unmigrated.ensures x c.in-Err-Input.field-0-is (migrates_as _ _ _ _ a b (Err x) c.word_at.ensures c.word_at-2.ensures c.in-Err-Input.ensures.migrates)
          (pair_uses _ _ _ _ (migrating_end x) a b c.word_at.ensures c.word_at-2.ensures c.in-Err-Input.ensures.uses);
      touches = own_pair (Migrate (pair_of c.args.words.now)) _ _ _ _ (inl c.word_at.ensures) (inl c.word_at-2.ensures) c.migrate.ensures.uses.touches;
    }

pub returns-in-Err-Write : goal.returns-in-Err-Write
returns-in-Err-Write g c =
    let seen = g.D.Depot.seen in
    let a = seen c.args.depot.now in
    let b = seen c.migrate.new.depot in
    let x = c.in-Err-Write.field-0 in
    record {
      holds = journal_failed (pair_of c.args.words.now) a b c.in-Err-Write.field-0-0 x c.in-Err-Write.field-0-is (migrates_as _ _ _ _ a b (Err x) c.word_at.ensures c.word_at-2.ensures c.in-Err-Write.ensures.migrates)
          (pair_uses _ _ _ _ (migrating_end x) a b c.word_at.ensures c.word_at-2.ensures c.in-Err-Write.ensures.uses);
      touches = own_pair (Migrate (pair_of c.args.words.now)) _ _ _ _ (inl c.word_at.ensures) (inl c.word_at-2.ensures) c.migrate.ensures.uses.touches;
    }
