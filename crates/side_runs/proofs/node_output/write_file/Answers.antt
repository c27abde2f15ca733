use Rattle.side_runs.proofs.FileLemmas.{wrote, wrote_part}
use Rattle.side_runs.proofs.node_output.write_file.Goals as goal

pub returns-in-Ok-put_all : goal.returns-in-Ok-put_all
returns-in-Ok-put_all g c = record { writes = wrote c.args.to.now c.args.bytes.now c.in-Ok.out _ _ _ c.in-Ok.ensures.opens c.in-Ok-put_all.ensures.puts }

pub returns-in-Err-put_all : goal.returns-in-Err-put_all
returns-in-Err-put_all g c = record { writes = wrote_part c.args.to.now c.args.bytes.now c.in-Ok.out _ _ _ c.in-Ok.ensures.opens c.in-Err-put_all.failed c.in-Err-put_all.ensures.puts }
