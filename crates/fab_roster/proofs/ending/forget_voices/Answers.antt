use Rattle.std.proofs.Common.{sym, ◌∙◌, ap, is_some}
use Rattle.fab_base.specs.Fabric.{same_enode}
use Rattle.fab_roster.proofs.VoiceLemmas.{left_one, left_none, first_any}
use Rattle.fab_roster.proofs.ending.forget_voices.Goals as goal

pub returns-then-is_some-clause-last : goal.returns-then-is_some-clause-last
returns-then-is_some-clause-last c =
    let l = c.args.gone.now in
    let ls = c.args.logins.now.logins in
    left_one ls l c.args.voices.now.voices c.forget.new.self.voices c.forget.new.self.voices c.forget.ensures.last
    (sym (first_any (λ x. same_enode x.enode l.enode) ls) ∙ (sym (ap (λ o. is_some o) c.first_of.ensures.first) ∙ (sym c.is_some.ensures ∙ c.if-is_some.true)))

pub returns-clause-last : goal.returns-clause-last
returns-clause-last c =
    let l = c.args.gone.now in
    let ls = c.args.logins.now.logins in
    left_none ls l c.args.voices.now.voices c.forget.new.self.voices c.forget-2.new.self.voices c.forget.ensures.last
    (sym (first_any (λ x. same_enode x.enode l.enode) ls) ∙ (sym (ap (λ o. is_some o) c.first_of.ensures.first) ∙ (sym c.is_some.ensures ∙ c.if-is_some.false))) c.forget-2.ensures.last
