use Rattle.std.proofs.Common.{◌∙◌, ◌∷◌, ◌≤◌, IfSome, length, refl, sym, subst}
use Rattle.fab_pages.specs.Pages.{items_in}
use Rattle.fab_policy.specs.declared.event.Event.TheVariants as event
use Rattle.fab_replay.proofs.ResultLemmas.{told_on}
use Rattle.fab_replay.proofs.SentLemmas.{grow_more, grow_none}
use Rattle.fab_replay.proofs.StepLemmas.{tick_now}
use Rattle.fab_replay.proofs.ticks.check_ticks.Goals as goal

pub ticks-init : goal.ticks-init
ticks-init c = record {
  checks = λ x J same h least ahead. (J, h, λ port. refl, grow_none x.settings (length x.records) x.from J (items_in c.args.pages.now));
  left = λ x told J same h least. (J, h, λ port. refl);
  inside = c.requires.inside;
  order = c.requires.order;
  settings = refl;
  count = refl;
  idle = c.requires.idle;
  pages = refl;
}

pub ticks-preserved : goal.ticks-preserved
ticks-preserved c = record {
  checks = λ x J same h least ahead.
      let m = c.in-Some.moment in
      let at = c.ticks.invariant.checks x J same h least ahead in
      let t = tick_now x J at.0 _ at.1.stands at.1.settings c.args.window m at.2 c.in-Some.ensures least in
      let step = c.in_ok-check_tick.ensures.checks x at.0 t same at.1 ahead in
      (event.Tick m step.0 ∷ at.0, step.1, at.2, grow_more x.settings (length x.records) x.from J at.0 (event.Tick m step.0 ∷ at.0) (items_in c.args.pages.now) (items_in c.ticks.pages) (items_in c.check_tick.new.pages) at.3 step.2);
  left = λ x told J same h least.
      let m = c.in-Some.moment in
      let at = c.ticks.invariant.left x told J same h least in
      let step = c.in_ok-check_tick.ensures.left x told at.0 same at.1 (λ known. tick_now x J at.0 _ at.1.stands at.1.settings c.args.window m at.2 c.in-Some.ensures (least known)) in
      (event.Tick m step.0 ∷ at.0, step.1, at.2);
  inside = c.in_ok-check_tick.ensures.advances.inside;
  order = subst (λ o. IfSome o (λ k. k ≤ c.args.window)) (sym c.in_ok-check_tick.ensures.advances.clock_) c.in-Some.ensures.within;
  settings = c.in_ok-check_tick.ensures.advances.settings ∙ c.ticks.invariant.settings;
  count = c.in_ok-check_tick.ensures.advances.count ∙ c.ticks.invariant.count;
  idle = c.in_ok-check_tick.ensures.advances.idle;
  pages = c.in_ok-check_tick.ensures.pages ∙ c.ticks.invariant.pages;
}

pub returns-in_err-check_tick-clause-checks : goal.returns-in_err-check_tick-clause-checks
returns-in_err-check_tick-clause-checks c = λ x J same h least ahead.
    let at = c.ticks.invariant.checks x J same h least ahead in
    told_on c.from_residual.result c.in_err-check_tick.field-0.0 _ _ c.from_residual.ensures.1
    (c.in_err-check_tick.ensures.checks x at.0 (tick_now x J at.0 _ at.1.stands at.1.settings c.args.window c.in-Some.moment at.2 c.in-Some.ensures least) same at.1 ahead)

pub returns-in_err-check_tick-clause-left : goal.returns-in_err-check_tick-clause-left
returns-in_err-check_tick-clause-left c = λ x told J same h least.
    let at = c.ticks.invariant.left x told J same h least in
    told_on c.from_residual.result c.in_err-check_tick.field-0.0 _ _ c.from_residual.ensures.1
    (c.in_err-check_tick.ensures.left x told at.0 same at.1 (λ known. tick_now x J at.0 _ at.1.stands at.1.settings c.args.window c.in-Some.moment at.2 c.in-Some.ensures (least known)))

pub returns-clause-left : goal.returns-clause-left
returns-clause-left c = c.ticks.invariant.left
