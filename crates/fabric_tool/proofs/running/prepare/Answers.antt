use Rattle.std.proofs.Common.{◌∙◌, subst}
use Rattle.fab_replay.proofs.ResultLemmas.{err_is}
use Rattle.fabric_tool.specs.Command.{run_of}
use Rattle.fabric_tool.specs.Preparing.{IsPrepared}
use Rattle.fabric_tool.proofs.RanLemmas.{config_as, room_in, no_config, no_heads, no_fabric, with_fabric, new_as}
use Rattle.fabric_tool.proofs.running.prepare.Goals as goal

pub returns-in_err-config : goal.returns-in_err-config
returns-in_err-config g c =
    let seen = g.D.Depot.seen in
    let k = run_of c.args.words.now in
    record {
      prepares = subst (IsPrepared k (seen c.args.depot.now) (seen c.config_of.new.depot)) (err_is c.from_residual.result _ c.from_residual.ensures.1) (no_config k (config_as c.word_at.ensures c.in_err-config.ensures.reads));
    }

pub returns-in_err-ins : goal.returns-in_err-ins
returns-in_err-ins g c =
    let seen = g.D.Depot.seen in
    let k = run_of c.args.words.now in
    record {
      prepares = subst (IsPrepared k (seen c.args.depot.now) (seen c.heads_of.new.depot)) (err_is c.from_residual-in_err-ins.result _ c.from_residual-in_err-ins.ensures.1)
          (no_heads k (config_as c.word_at.ensures c.in_ok-config.ensures.reads) (room_in c.args.words.now c.requires.run) c.in_err-ins.ensures.reads);
    }

pub returns-in-Ok : goal.returns-in-Ok
returns-in-Ok g c =
    let words = c.args.words.now in
    let new = c.in-Ok.ensures in
    let made = new_as words c.in-Ok.fabric c.in_ok-config.config new.settings.0 c.in_range.ensures (new.settings.1 ∙ c.port_count.ensures.value) new.state new.nothing in
    record { prepares = with_fabric (run_of words) (config_as c.word_at.ensures c.in_ok-config.ensures.reads) c.in_ok-ins.ensures.reads c.in-Ok.fabric new.settings.0 made }

pub returns-in-Err : goal.returns-in-Err
returns-in-Err g c = record { prepares = no_fabric (run_of c.args.words.now) (config_as c.word_at.ensures c.in_ok-config.ensures.reads) c.in_ok-ins.ensures.reads }
