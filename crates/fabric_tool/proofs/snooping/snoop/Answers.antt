use Rattle.std.proofs.Common.{inl, refl, sym, subst}
use Rattle.fabric_tool.specs.Command.{Snoop, snoop_of}
use Rattle.fabric_tool.specs.Ends.{Holds}
use Rattle.fabric_tool.proofs.RanLemmas.{config_as}
use Rattle.fabric_tool.proofs.SideLemmas.{known_sides}
use Rattle.fabric_tool.proofs.SnoopLemmas.{not_configured, bridge_ended, bridges_as}
use Rattle.fabric_tool.proofs.TouchLemmas.{own_input, bridge_own}
use Rattle.fabric_tool.proofs.snooping.snoop.Goals as goal

pub returns-in-Err : goal.returns-in-Err
returns-in-Err g c =
    let seen = g.D.Depot.seen in
    record { holds = not_configured (snoop_of c.args.words.now) (seen c.args.depot.now) (seen c.config_of.new.depot) c.in-Err.outcome (config_as c.word_at.ensures c.in-Err.ensures.reads); touches = own_input (Snoop (snoop_of c.args.words.now)) _ _ _ (inl refl) (config_as c.word_at.ensures c.in-Err.ensures.reads).uses }

pub run_bridge-requires-clause-known : goal.run_bridge-requires-clause-known
run_bridge-requires-clause-known g c =
    let seen = g.D.Depot.seen in
    known_sides c.args.words.now c.requires.snoop (seen c.args.depot.now) (seen c.config_of.new.depot) c.in-Ok.ensures.reads.uses.touches.knows c.requires.known c.sides_of.result.now c.sides_of.ensures.value

pub returns : goal.returns
returns g c =
    let seen = g.D.Depot.seen in
    let k = snoop_of c.args.words.now in
    let a = seen c.args.depot.now in
    let b = seen c.config_of.new.depot in
    let z = seen c.run_bridge.new.depot in
    record {
      holds = subst (Holds (Snoop k) a z) (sym c.crossed.ensures)
          (bridge_ended k c.in-Ok.config a b z (config_as c.word_at.ensures c.in-Ok.ensures.reads) c.data_goes_up.ensures c.data_goes_down.ensures c.enodes_are_apart.ensures c.run_bridge.result (bridges_as c.sides_of.ensures.value c.run_bridge.ensures.bridges));
      touches = bridge_own k a b z (config_as c.word_at.ensures c.in-Ok.ensures.reads).uses (bridges_as c.sides_of.ensures.value c.run_bridge.ensures.bridges);
    }
