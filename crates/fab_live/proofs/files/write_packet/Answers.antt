use Rattle.fab_live.specs.Files.{slots_of}
use Rattle.fab_windows.specs.Pages.{pending}
use Rattle.fab_live.proofs.WriteLemmas.{record_failed, packet_written, packet_failed}
use Rattle.fab_live.proofs.files.write_packet.Goals as goal

pub returns-in-Err-clause-writes : goal.returns-in-Err-clause-writes
returns-in-Err-clause-writes g c =
    let seen = g.D.Depot.seen in
    record_failed (slots_of c.args.files.now) c.args.place c.requires.place c.args.bytes.now (seen c.args.depot.now) (seen c.put_all.new.depot) c.requires.files (pending c.args.pages.now) c.in-Err.field-0 c.in-Err.ensures.puts

pub returns-in-Ok-flush-clause-writes : goal.returns-in-Ok-flush-clause-writes
returns-in-Ok-flush-clause-writes g c =
    let seen = g.D.Depot.seen in
    packet_written (slots_of c.args.files.now) c.args.place c.requires.place c.args.bytes.now (seen c.args.depot.now) (seen c.put_all.new.depot) c.requires.files (pending c.args.pages.now) (seen c.flush.new.depot) c.in-Ok.ensures.puts c.in-Ok-flush.ensures.writes

pub returns-in-Err-flush-clause-writes : goal.returns-in-Err-flush-clause-writes
returns-in-Err-flush-clause-writes g c =
    let seen = g.D.Depot.seen in
    let w = c.in-Err-flush.ensures.writes in
    packet_failed (slots_of c.args.files.now) c.args.place c.requires.place c.args.bytes.now (seen c.args.depot.now) (seen c.put_all.new.depot) c.requires.files (pending c.args.pages.now) (seen c.flush.new.depot) c.in-Ok.ensures.puts w.0 w.1
