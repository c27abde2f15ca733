use Rattle.std.proofs.Common.{◌∙◌, ◌∷◌, refl, sym, subst, arith}
use Rattle.fab_policy.specs.declared.event.Event.TheVariants as event
use Rattle.fab_pages.specs.Pages.{items_in}
use Rattle.fab_replay.specs.Steps.{IsFound, Left}
use Rattle.fab_replay.proofs.LineLemmas.{line_as, unread_as}
use Rattle.fab_replay.proofs.RemainLemmas.{along_frame, left_frame, legal_old, stays_frame, stays_tick, stays_unread}
use Rattle.fab_replay.proofs.SentLemmas.{grow_reached, legal_there}
use Rattle.fab_replay.proofs.SpotLemmas.{failed, right_checked}
use Rattle.fab_replay.proofs.StepLemmas.{no_line_here, other_frame, refused_here, tick_here}
use Rattle.fab_replay.proofs.WindowLemmas.{count_fits, counts_more, no_tick_here, place_inside, shelf_as, window_more}
use Rattle.fab_replay.proofs.frames.check_frame.Goals as goal

-- ---- what the line makes of the lines before it

pub returns-in_err-line-clause-lines : goal.returns-in_err-line-clause-lines
returns-in_err-line-clause-lines c =
    let e = c.in_err-line.field-0.0 in
    let unread = c.in_err-line.ensures.unread.0 in
    failed c.from_residual.ensures.1 c.in_err-line.ensures.only refl refl refl
    (λ x J same h win. no_line_here x J _ _ h _ _ _ win.1 c.requires.left c.requires.width e (unread_as c.args.place.now e same unread))
    (λ x told J same h win. stays_unread x told J _ _ h e (unread_as c.args.place.now e same unread))

pub returns-in_err-words-clause-lines : goal.returns-in_err-words-clause-lines
returns-in_err-words-clause-lines c =
    let of = c.in_err-words.ensures.words in
    failed c.from_residual-in_err-words.ensures.1 c.in_err-words.ensures.only refl refl refl
    (λ x J same h win.
    subst (IsFound x) (sym of.is) (tick_here x J _ _ h _ _ _ win.1 c.requires.left c.requires.width _ c.next_line.new.place _ _ refl (line_as same of.tick c.in_ok-line.ensures.line)))
    (λ x told J same h win. subst (Left x told c.args.fabric.now) (sym of.is) (stays_tick x told J _ _ h _ refl (λ t. no_tick_here x _ J _ _ (win t).1 c.requires.left)))

pub returns-in_err-found-clause-lines : goal.returns-in_err-found-clause-lines
returns-in_err-found-clause-lines c =
    let of = c.in_err-found.ensures.named in
    failed c.from_residual-in_err-found.ensures.1 c.in_err-found.ensures.only refl refl refl
    (λ x J same h win.
    subst (IsFound x) (sym of.is) (other_frame x J _ _ h _ _ _ win.1 c.requires.left c.requires.width c.next_line.new.place _ _ _ _ (line_as same c.in_ok-words.ensures.words c.in_ok-line.ensures.line) _ refl
    (λ r on. of.none r (shelf_as win.0 on))))
    (λ x told J same h win. subst (Left x told c.args.fabric.now) (sym of.is) (stays_frame x told J _ _ h _ refl))

pub returns-in_err-take_frame-clause-lines : goal.returns-in_err-take_frame-clause-lines
returns-in_err-take_frame-clause-lines c =
    let F = c.args.fabric.now in
    let e = c.in_err-take_frame.field-0.0 in
    let step = c.in_err-take_frame.ensures in
    let on = c.in_ok-found.ensures.named in
    failed c.from_residual-in_err-take_frame.ensures.1 step.only step.settings.0 step.settings.1 step.pages
    (λ x J same h win. refused_here x J _ _ h _ _ _ win.1 c.requires.left c.requires.width c.next_line.new.place _ _ _ _ (line_as same c.in_ok-words.ensures.words c.in_ok-line.ensures.line) _ (shelf_as (λ q. sym (win.0 q)) on) e step.refused)
    (λ x told J same h win. left_frame x told J F _ h _ c.requires.among.clock_ c.args.gathered.now.firsts.now c.args.gathered.now.shelves.now c.args.done.now win c.next_line.new.place _ _ _ _ (line_as same c.in_ok-words.ensures.words c.in_ok-line.ensures.line) _ on
    F.state.tables c.take_frame.new.fabric e step.refused (step.left x.from J (legal_old x told J _ _ h) h.stands))

pub returns-clause-lines : goal.returns-clause-lines
returns-clause-lines c =
    let l = c.in_ok-words.words in
    let on = c.in_ok-found.ensures.named in
    let step = c.in_ok-take_frame.ensures in
    right_checked
    (λ x told J same h win. (
      event.Frame l.port l.index c.in_ok-found.found.now.caught l.verdict ∷ J,
      along_frame x told J _ _ h _ c.requires.among.clock_ c.args.gathered.now.firsts.now _ _ win _ _ _ _ _ (line_as same c.in_ok-words.ensures.words c.in_ok-line.ensures.line) _ on c.take_frame.new.fabric (λ l s. let j = step.entries x.from J l s in (j.0, j.1)) step.ranged step.settings.0,
      λ t. ((win t).0, window_more x _ J _ _ (win t).1 _ _ _ _ l.verdict (shelf_as (λ q. sym ((win t).0 q)) on) _ (counts_more (shelf_as (λ q. sym ((win t).0 q)) on) _ c.index.ensures.value)),
    ))
    (record { settings = step.settings.0; count = step.settings.1; inside = c.in_ok-line.ensures.line.inside; clock_ = step.clock ∙ c.requires.among.clock_; idle = step.idle })
    step.pages
    (λ x J same h win. grow_reached x J _ _ _ (items_in c.args.pages.now) (items_in c.take_frame.new.pages) h (step.entries x.from J (legal_there x J _ _ h) h.stands).2)

-- ---- the count of the port's lines

pub bounds-done-index : goal.bounds-done-index
bounds-done-index c = place_inside c.in_ok-found.ensures.named _ c.index.ensures.value

pub bounds-done-index-2 : goal.bounds-done-index-2
bounds-done-index-2 c = place_inside c.in_ok-found.ensures.named _ c.index.ensures.value

pub overflow_add-done : goal.overflow_add-done
overflow_add-done c = let fits = count_fits c.in_ok-found.ensures.named _ c.index.ensures.value c.in_ok-found.ensures.room in omega (arith, fits)
