use Rattle.std.proofs.Common.{◌≡◌, [], length, ap, subst, sym, ◌∙◌}
use Rattle.fab_policy.specs.Outputs.{state_of}
use Rattle.fab_windows.specs.Pages.{IsNothing, pending}
use Rattle.fab_live.specs.Files.{slots_of}
use Rattle.fab_live.specs.Live.{LiveRuns}
use Rattle.fab_live.proofs.BeginLemmas.{running_first}
use Rattle.fab_live.proofs.LoopLemmas.{open_on, begun_broken, runs_behind}
use Rattle.fab_live.proofs.run.run_live.Goals as goal

pub begin-requires-clause-files : goal.begin-requires-clause-files
begin-requires-clause-files g c = c.requires.given.files

pub begin-requires-clause-width : goal.begin-requires-clause-width
begin-requires-clause-width g c = c.requires.given.width

pub begin-requires-clause-empty : goal.begin-requires-clause-empty
begin-requires-clause-empty g c = c.requires.given.empty

pub returns-in-Err : goal.returns-in-Err
returns-in-Err g c =
    let seen = g.D.Depot.seen in
    record {
      runs =
          begun_broken c.args.fabric.settings (slots_of c.args.files.now) c.args.stream c.args.budget (seen c.args.depot.now) c.requires.given (seen c.begin.new.depot) c.in-Err.fault c.in-Err.ensures.starts;
    }

pub follow-requires-clause-running : goal.follow-requires-clause-running
follow-requires-clause-running g c κs within =
    let seen = g.D.Depot.seen in
    let l = c.live_of-live.result in
    let is = c.live_of-live.ensures.fabric in
    running_first (slots_of c.args.files.now) (seen c.begin.new.depot) l c.in-Ok.ensures.starts.files c.requires.given.width c.requires.ports.1 (ap (λ F. F.count) is ∙ c.requires.count)
    (subst (λ F. F.state ≡ state_of F.settings []) (sym is) c.requires.state) (ap (λ F. F.events) is ∙ c.requires.nothing.0) (ap (λ F. F.outs) is ∙ c.requires.nothing.1)
    (c.live_of-live.ensures.counts ∙ c.in-Ok.ensures.counts) c.live_of-live.ensures.first c.live_of-live.ensures.greatest c.live_of-live.ensures.frames c.live_of-live.ensures.entries
    (subst (λ p. IsNothing (pending p)) (sym c.live_of-live.ensures.pages) c.in-Ok.ensures.nothing) (ap (λ p. length p.records.items) c.live_of-live.ensures.pages ∙ c.in-Ok.ensures.pages)
    (c.in-Ok.ensures.starts.whole l.fabric.settings)

pub follow-requires-clause-open : goal.follow-requires-clause-open
follow-requires-clause-open g c κs within =
    let seen = g.D.Depot.seen in
    open_on c.args.fabric.settings (slots_of c.args.files.now) c.args.stream c.args.budget (seen c.args.depot.now) c.requires.given (seen c.begin.new.depot) c.in-Ok.ensures.starts.uses

pub returns : goal.returns
returns g c =
    let seen = g.D.Depot.seen in
    record {
      runs =
          runs_behind c.args.fabric.settings (slots_of c.args.files.now) c.args.stream c.args.budget (seen c.args.depot.now) c.requires.given (seen c.begin.new.depot) c.in-Ok.started c.in-Ok.ensures.starts (seen c.follow.new.depot) c.follow.result
          (subst (λ F. LiveRuns F.settings c.args.budget c.args.stream (slots_of c.args.files.now) (seen c.begin.new.depot) (seen c.follow.new.depot) c.follow.result) c.live_of-live.ensures.fabric c.follow.ensures.runs);
    }
