use Rattle.std.proofs.Common.{◌∙◌, subst}
use Rattle.fab_replay.proofs.ResultLemmas.{err_is}
use Rattle.fabric_tool.specs.Command.{live_of}
use Rattle.fabric_tool.specs.Preparing.{IsLivePrepared}
use Rattle.fabric_tool.proofs.LivingLemmas.{live_no_config, live_no_fabric, live_fabric, new_live}
use Rattle.fabric_tool.proofs.RanLemmas.{config_as}
use Rattle.fabric_tool.proofs.live.fabric_of.Goals as goal

pub returns-in_err-config : goal.returns-in_err-config
returns-in_err-config g c =
    let seen = g.D.Depot.seen in
    let k = live_of c.args.words.now in
    record {
      prepares = subst (IsLivePrepared k (seen c.args.depot.now) (seen c.config_of.new.depot)) (err_is c.from_residual.result _ c.from_residual.ensures.1) (live_no_config k (config_as c.word_at.ensures c.in_err-config.ensures.reads));
    }

pub returns-in-Ok : goal.returns-in-Ok
returns-in-Ok g c =
    let words = c.args.words.now in
    let new = c.in-Ok.ensures in
    let made = new_live words c.in-Ok.fabric c.in_ok-config.config new.settings.0 c.in_range.ensures (new.settings.1 ∙ c.live_count.ensures.value) new.state new.nothing in
    record { prepares = live_fabric (live_of words) (config_as c.word_at.ensures c.in_ok-config.ensures.reads) c.in-Ok.fabric new.settings.0 made }

pub returns : goal.returns
returns g c = record { prepares = live_no_fabric (live_of c.args.words.now) (config_as c.word_at.ensures c.in_ok-config.ensures.reads) }
