use Rattle.std.proofs.Common.{◌==◌, not, nat_le, length, is_some, ap, sym, ◌∙◌}
use Rattle.std.proofs.lemmas.Bool.{or_parts, leb-false}
use Rattle.std.specs.List.{list_any}
use Rattle.els_messages.specs.Els.{has_feature}
use Rattle.fab_policy.specs.Free.{has_free}
use Rattle.fab_policy.specs.Verdicts.{staying}
use Rattle.fab_judge.proofs.logins.judge_asked.Goals as goal

pub returns-then-is_first_missing-clause-judged : goal.returns-then-is_first_missing-clause-judged
returns-then-is_first_missing-clause-judged c =
    let C = c.args.config.now in
    rw (c.rejected-then-is_first_missing.ensures, c.if-not-asked.false, sym (c.is_first_missing.ensures C) ∙ c.if-is_first_missing.true)

pub returns-then-not-offers_class3-clause-judged : goal.returns-then-not-offers_class3-clause-judged
returns-then-not-offers_class3-clause-judged c =
    let C = c.args.config.now in
    rw (c.rejected-then-not-offers_class3.ensures, c.if-not-asked.false, sym (c.is_first_missing.ensures C) ∙ c.if-is_first_missing.false, sym c.offers_class3.ensures ∙ c.if-not-offers_class3.true)

pub returns-then-is_name_refused-clause-judged : goal.returns-then-is_name_refused-clause-judged
returns-then-is_name_refused-clause-judged c =
    let C = c.args.config.now in
    rw (
      c.rejected-then-is_name_refused.ensures,
      c.if-not-asked.false,
      sym (c.is_first_missing.ensures C) ∙ c.if-is_first_missing.false,
      sym c.offers_class3.ensures ∙ c.if-not-offers_class3.false,
      sym (c.is_name_refused.ensures C) ∙ c.if-is_name_refused.true,
    )

pub returns-in_default-clause-judged : goal.returns-in_default-clause-judged
returns-in_default-clause-judged c =
    let C = c.args.config.now in
    rw (
      c.rejected-in_default.ensures,
      c.if-not-asked.false,
      sym (c.is_first_missing.ensures C) ∙ c.if-is_first_missing.false,
      sym c.offers_class3.ensures ∙ c.if-not-offers_class3.false,
      sym (c.is_name_refused.ensures C) ∙ c.if-is_name_refused.false,
      sym c.free_for.ensures.some ∙ ap (λ o. not (is_some o)) c.in_default.is,
    )

pub returns-clause-judged : goal.returns-clause-judged
returns-clause-judged c =
    let C = c.args.config.now in
    rw (
      c.if-not-asked.false,
      sym (c.is_first_missing.ensures C) ∙ c.if-is_first_missing.false,
      sym c.offers_class3.ensures ∙ c.if-not-offers_class3.false,
      sym (c.is_name_refused.ensures C) ∙ c.if-is_name_refused.false,
      sym c.in-Some.ensures.some,
    )

pub returns-clause-grounds : goal.returns-clause-grounds
returns-clause-grounds c = λ x flogi f asks parms to.
    let C = c.args.config.now in
    let T = c.args.roster.now.tables in
    let r = c.args.request in
    record {
      flogi_is = ap (λ r. r.flogi) asks;
      enode = ap (λ r. r.enode) asks;
      name = ap (λ r. r.name) asks ∙ ap (λ p. p.port_name) (sym parms);
      node_is = ap (λ p. p.node_name) (sym parms);
      to_is = to;
      several_is = c.has_feature.ensures ∙ ap (has_feature 0x8000) (sym parms);
      free_is = c.in-Some.ensures.free;
      ended_is = c.in_ok-ended.ensures;
      fresh = (or_parts (r.name == 0) (list_any (λ q. q.name == r.name) (staying C T r)) (sym (c.is_name_refused.ensures C) ∙ c.if-is_name_refused.false)).1;
      room = leb-false C.limit (length (staying C T r)) (or_parts (nat_le C.limit (length (staying C T r))) (not (has_free T r)) (sym c.in-Some.ensures.some)).0;
    }
