use Rattle.std.proofs.Common.{◌∙◌, sym}
use Rattle.fab_replay.proofs.SpotLemmas.{failed, then_checked}
use Rattle.fab_replay.proofs.WindowLemmas.{least_gathered, window_first}
use Rattle.fab_replay.proofs.windows.check_shelves.Goals as goal

pub returns-in_err-check_ticks : goal.returns-in_err-check_ticks
returns-in_err-check_ticks c =
    let w = c.args.window in
    let t = c.in_err-check_ticks.ensures in
    failed c.from_residual.ensures.1 t.only t.advances.settings t.advances.count t.pages
    (λ x J same h gathered. t.checks x J same h (least_gathered x w J c.args.shelves.now gathered.1) gathered.1.ahead)
    (λ x told J same h gathered. t.left x told J same h (λ k. least_gathered x w J c.args.shelves.now (gathered k).1))

pub check_frames-requires : goal.check_frames-requires
check_frames-requires c =
    let t = c.in_ok-check_ticks.ensures.advances in
    record { inside = t.inside; clock_ = t.clock_; early = c.requires.early; idle = t.idle; few = c.requires.few; count = t.count ∙ c.requires.count }

pub returns : goal.returns
returns c =
    let w = c.args.window in
    let shelves = c.args.shelves.now in
    let t = c.in_ok-check_ticks.ensures in
    then_checked
    (record {
      checks = λ x J same h gathered. t.checks x J same h (least_gathered x w J shelves gathered.1) gathered.1.ahead;
      left = λ x told J same h gathered.
          let at = t.left x told J same h (λ k. least_gathered x w J shelves (gathered k).1) in
          (at.0, at.1, λ k. at.2);
      advances = t.advances;
      pages = t.pages;
      only = tt;
    })
    (λ x J K clock gathered same. (gathered.0, window_first x w J shelves gathered.1 K _ same (sym clock ∙ t.advances.clock_))) (λ x J K L same counted. counted) c.check_frames.ensures
