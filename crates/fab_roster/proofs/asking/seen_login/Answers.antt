use Rattle.std.proofs.Common.{cond, Some, None, option_and_then, sym, ap, ◌∙◌}
use Rattle.login_table.specs.Logins.{address_of}
use Rattle.fab_roster.specs.Reaching.{may_see}
use Rattle.fab_roster.proofs.Found.{filtered, kept}
use Rattle.fab_roster.proofs.asking.seen_login.Goals as goal
use Rattle.fab_roster.proofs.asking.seen_login.Goals.{in_default-via-in-Some+else-may_see, in_default-via-in_default}

pub returns-in-Some : goal.returns-in-Some
returns-in-Some c =
    let l = c.in-Some.login.now in
    let q = may_see c.args.zones.now c.args.at c.args.asker.now in
    let ls = c.args.logins.now.logins in
    sym (filtered address_of q c.args.address 0 ls c.in-Some.ensures.sound.ascending
    ∙ (ap (option_and_then (kept address_of q)) (sym c.in-Some.ensures.login)
    ∙ ap (λ b. cond b (Some l) None) (sym c.may_see.ensures ∙ c.if-may_see.true)))

pub returns-in_default : goal.returns-in_default
returns-in_default c =
    let q = may_see c.args.zones.now c.args.at c.args.asker.now in
    let ls = c.args.logins.now.logins in
    let left = filtered address_of q c.args.address 0 ls c.by_address.ensures.sound.ascending in
    elim c.in_default.branch [
      | in_default-via-in-Some+else-may_see w ↦
          let l = w.in-Some.login.now in
          sym (left ∙ (ap (option_and_then (kept address_of q)) (sym w.in-Some.ensures.login) ∙ ap (λ b. cond b (Some l) None) (sym w.may_see.ensures ∙ w.if-may_see.false)))
      | in_default-via-in_default w ↦ sym (left ∙ ap (option_and_then (kept address_of q)) (sym w.in_default.ensures.login))
    ]
