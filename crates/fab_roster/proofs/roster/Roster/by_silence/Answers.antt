use Rattle.std.proofs.Common.{◌≡◌, true, false, Some, None, option_map, refl, ap, ◌∙◌}
use Rattle.fab_policy.specs.State.{port_at}
use Rattle.fab_roster.specs.Changes.{is_late}
use Rattle.fab_roster.specs.Roll.{login_of}
use Rattle.fab_roster.proofs.Late.{is_so, so_is}
use Rattle.fab_roster.proofs.Lookups.{found_login}
use Rattle.fab_roster.proofs.Ports.{address, next_port_of}
use Rattle.fab_roster.proofs.Walks.{picked, one_picked, none_picked, walk_starts, walk_goes_on, walk_ends}
use Rattle.fab_roster.proofs.roster.Roster.by_silence.Goals as goal
use Rattle.fab_roster.proofs.roster.Roster.by_silence.Goals.{then-is_overdue-overdue+in_ok-push, else-is_overdue-overdue}

pub loop-address-init : goal.loop-address-init
loop-address-init c = walk_starts address (picked login_of (is_so c.args.overdue c.args.self.now.period c.args.moment)) c.args.self.now.tables.ports _ c.empty-logins.ensures

pub unreachable-requires : goal.unreachable-requires
unreachable-requires c =
    let n = next_port_of c.args.self.now c.loop-address.from c.in-Some.address c.len.ensures.sound c.in-Some.ensures in
    let none : None ≡ Some (login_of n.item) = c.in_default-by_address.ensures ∙ ap (option_map login_of) n.found in
    cc

pub is_overdue-requires : goal.is_overdue-requires
is_overdue-requires c = record { live = (found_login c.in-Some.address c.args.self.now.tables.ports c.in-Some-by_address.login.now c.in-Some-by_address.ensures).1 }

pub loop-address-smaller : goal.loop-address-smaller
loop-address-smaller c =
    let n = next_port_of c.args.self.now c.loop-address.from c.in-Some.address c.len.ensures.sound c.in-Some.ensures in
    walk_goes_on c.loop-address.from c.in-Some.address c.value-from.result n.above c.value-from.ensures.value c.value-from.ensures.range

pub loop-address-preserved : goal.loop-address-preserved
loop-address-preserved c =
    let r = c.args.self.now in
    let n = next_port_of c.args.self.now c.loop-address.from c.in-Some.address c.len.ensures.sound c.in-Some.ensures in
    let l = c.in-Some-by_address.login.now in
    let same : Some l ≡ Some (login_of n.item) = c.in-Some-by_address.ensures ∙ ap (option_map login_of) n.found in
    let is : l ≡ login_of n.item = cc in
    let at : l.address ≡ c.in-Some.address = (found_login c.in-Some.address r.tables.ports l c.in-Some-by_address.ensures).0 in
    let late : c.is_overdue.result ≡ is_late r.period c.args.moment n.item = c.is_overdue.ensures n.item (ap (λ b. port_at b r.tables.ports) at ∙ n.found) in
    elim c.if-is_overdue-overdue.branch [
      | then-is_overdue-overdue+in_ok-push w ↦
          one_picked address login_of (is_so c.args.overdue r.period c.args.moment) c.loop-address.from c.in-Some.address c.value-from.result r.tables.ports c.loop-address.logins c.if-is_overdue-overdue.logins
          n l is (so_is c.args.overdue c.is_overdue.result _ true late w.if-is_overdue-overdue.true) c.value-from.ensures.value (w.logins-is ∙ w.in_ok-push.ensures.ok) c.loop-address.invariant
      | else-is_overdue-overdue w ↦
          none_picked address login_of (is_so c.args.overdue r.period c.args.moment) c.loop-address.from c.in-Some.address c.value-from.result r.tables.ports c.loop-address.logins c.if-is_overdue-overdue.logins
          n (so_is c.args.overdue c.is_overdue.result _ false late w.if-is_overdue-overdue.false) c.value-from.ensures.value w.logins-is c.loop-address.invariant
    ]

pub returns : goal.returns
returns c =
    walk_ends address (picked login_of (is_so c.args.overdue c.args.self.now.period c.args.moment)) c.loop-address.from c.args.self.now.tables.ports c.loop-address.logins refl c.in_default.ensures c.loop-address.invariant
