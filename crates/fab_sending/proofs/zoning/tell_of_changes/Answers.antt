use Rattle.std.proofs.Common.{◌∙◌, ap, map, sym}
use Rattle.std.proofs.lemmas.List.Folds.{flat_map-map}
use Rattle.fab_config.specs.Settings.{Settings}
use Rattle.fab_policy.specs.Outputs.{told}
use Rattle.fab_roster.specs.Reaching.{told_between}
use Rattle.fab_roster.specs.Roll.{Login, addresses_of, login_of}
use Rattle.fab_sending.specs.Counting.{told_of_login_changes, with_changes}
use Rattle.fab_sending.specs.Notices.{staying_at}
use Rattle.fab_sending.proofs.Turning.{stays_told}
use Rattle.fab_sending.proofs.zoning.tell_of_changes.Goals as goal

pub returns : goal.returns
returns c =
    let b = c.args.before.now in
    let T = b.roster.now.tables in
    let but = addresses_of c.args.ended.now in
    c.in_ok-tell_of_zones.ensures ∙ ap (with_changes c.args.moment b.rscns c.args.outs.now)
    (ap (told_of_login_changes b.config.now T c.args.since c.args.moment but) (c.in_ok-live.ensures b.config.now (sym b.period))
    ∙ flat_map-map (λ (l : Login). map (λ w. told w l.address) (told_between b.config.now T c.args.since c.args.moment l.name but)) login_of (staying_at b.config.now T c.args.moment))

pub returns-then-not-has_turned : goal.returns-then-not-has_turned
returns-then-not-has_turned c =
    stays_told c.args.before.now.config.now c.args.before.now.roster.now.tables c.args.moment c.args.before.now.rscns c.args.since (addresses_of c.args.ended.now) c.args.outs.now c.items.result.now
    (c.items.ensures ∙ ap (λ (s : Settings). s.activations) c.config.view_is) (sym c.if-not-has_turned.ensures)
