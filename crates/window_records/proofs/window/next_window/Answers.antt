use Rattle.std.proofs.Common.{◌≡◌, ◌+◌, ◌%◌, ◌++◌, ◌∷◌, [], IfSome, Some, min, ℕ, List, take, sym, ap, ◌∙◌, subst, arith}
use Rattle.std.specs.Prelude.{unwrap_or}
use Rattle.std.proofs.lemmas.List.{take_all, take_more}
use Rattle.window_records.specs.First.{IsNextWindow}
use Rattle.window_records.specs.declared.shelf.Shelf.{Shelf}
use Rattle.window_records.proofs.NextLemmas.{next_still, next_lesser, start_lesser}
use Rattle.window_records.proofs.window.next_window.Goals as goal
use Rattle.window_records.proofs.window.next_window.Goals.{in-Some, in_default}

pub loop-shelf-preserved : goal.loop-shelf-preserved
loop-shelf-preserved c =
    let front : List Shelf = take c.loop-shelf.shelf-index c.args.shelves.now in
    let s : Shelf = c.shelf-item.result in
    let grown : front ++ s ∷ [] ≡ take (c.loop-shelf.shelf-index + 1) c.args.shelves.now = ap (λ (x : Shelf). front ++ x ∷ []) c.shelf-item.is ∙ sym (take_more c.args.shelves.now c.loop-shelf.shelf-index s c.loop-shelf-test.true) in
    elim c.match-shelf.branch [
      | in-Some w ↦
          let v = w.window_start-window.result in
          let is : w.min.result ≡ min (unwrap_or c.loop-shelf.least v) v = w.min.ensures ∙ ap (λ (n : ℕ). min n v) w.unwrap_or.ensures in
          record {
            least =
                subst (λ o. IsNextWindow c.args.config.now (take (c.loop-shelf.shelf-index + 1) c.args.shelves.now) o) (sym w.least-is)
                (subst (λ l. IsNextWindow c.args.config.now l (Some w.min.result)) grown (next_lesser c.args.config.now front s w.in-Some.found w.in-Some.is v w.window_start-window.ensures.value c.loop-shelf.least w.min.result is c.loop-shelf.invariant.least));
            start = subst (λ o. IfSome o (λ n. n % c.args.config.now.window ≡ 0)) (sym w.least-is) (start_lesser c.args.config.now.window c.loop-shelf.least v w.min.result is c.loop-shelf.invariant.start w.window_start-window.ensures.start);
          }
      | in_default w ↦ record {
        least =
            subst (λ o. IsNextWindow c.args.config.now (take (c.loop-shelf.shelf-index + 1) c.args.shelves.now) o) (sym w.least-is)
            (subst (λ l. IsNextWindow c.args.config.now l c.loop-shelf.least) grown (next_still c.args.config.now front s c.loop-shelf.least w.in_default.is c.loop-shelf.invariant.least));
        start = subst (λ o. IfSome o (λ n. n % c.args.config.now.window ≡ 0)) (sym w.least-is) c.loop-shelf.invariant.start;
      }
    ]

pub returns-clause-least : goal.returns-clause-least
returns-clause-least c = subst (λ (l : List Shelf). IsNextWindow c.args.config.now l c.loop-shelf.least) (take_all c.loop-shelf.shelf-index c.args.shelves.now (let t = c.loop-shelf-test.false in omega arith)) c.loop-shelf.invariant.least
