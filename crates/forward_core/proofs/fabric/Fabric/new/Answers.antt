use Rattle.std.proofs.Common.{None, map, ap}
use Rattle.fab_sending.specs.Message.{sent_of}
use Rattle.fab_roster.specs.Roll.{Roll}
use Rattle.forward_core.proofs.NewLemmas.{empty_stands, empty_state}
use Rattle.forward_core.proofs.fabric.Fabric.new.Goals as goal

pub returns-clause-state : goal.returns-clause-state
returns-clause-state c = empty_state c.args.config c.in-Ok.roster.tables (ap (λ (r : Roll). r.tables) c.in-Ok.ensures.roster)

pub returns-clause-stands : goal.returns-clause-stands
returns-clause-stands c =
    empty_stands c.fabric_steps.ensures.first c.args.config c.args.ports (record { tables = c.in-Ok.roster.tables; advertised = None; rscns = 0 }) c.empty.result (map (sent_of c.args.config c.empty.result) c.empty-2.result)
    (empty_state c.args.config c.in-Ok.roster.tables (ap (λ (r : Roll). r.tables) c.in-Ok.ensures.roster)) c.empty.ensures (ap (λ l. map (sent_of c.args.config c.empty.result) l) c.empty-2.ensures)
