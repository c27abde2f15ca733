use Rattle.std.proofs.Common.{◌≡◌, ◌<◌, ◌≤◌, [], ◌∷◌, ◌++◌, option_map, refl, sym, ap, subst, ◌∙◌, arith}
use Rattle.std.proofs.lemmas.List.Elements.{All-nil, All-weaker}
use Rattle.login_table.specs.Logins.{address_of}
use Rattle.name_server.specs.Registry.{seen_address}
use Rattle.name_server.specs.declared.seen.SeenPort.{SeenPort}
use Rattle.fab_roster.specs.Reaching.{seen_port}
use Rattle.fab_roster.proofs.Ports.{next_item, item_found}
use Rattle.fab_roster.proofs.Seen.{AreBelow, seen_of, one_seen, none_seen, below_same, below_more}
use Rattle.fab_roster.proofs.Walks.{IsNext, walk_starts, walk_goes_on, walk_ends}
use Rattle.fab_roster.proofs.asking.seen_by.Goals as goal
use Rattle.fab_roster.proofs.asking.seen_by.Goals.{then-may_see+in_ok-push, else-may_see}

pub loop-login-init : goal.loop-login-init
loop-login-init c = record {
  walked = walk_starts address_of (seen_of c.args.config.now c.args.zones.now c.args.at c.args.asker.now) c.args.logins.now.logins _ c.in_ok-seen.ensures;
  below = subst (AreBelow 0) (sym c.in_ok-seen.ensures) (All-nil (λ (s : SeenPort). s.address < 0));
}

pub push-requires : goal.push-requires
push-requires c =
    let l = c.in-Some.login.now in
    let n = next_item c.loop-login.from l c.args.logins.now c.in-Some.ensures.sound c.in-Some.ensures.first in
    let is : c.seen_port.result.address ≡ l.address = ap seen_address c.seen_port.ensures in
    let P : SeenPort → Type 0 = λ s. s.address < c.seen_port.result.address in
    record { above = All-weaker (λ (s : SeenPort). s.address < c.loop-login.from) P (λ s lt. omega (arith, n.above)) c.loop-login.seen c.loop-login.invariant.below }

next : (c : goal.After-value-from) → IsNext address_of c.loop-login.from c.args.logins.now.logins c.in-Some.login.now.address
next c = next_item c.loop-login.from c.in-Some.login.now c.args.logins.now c.in-Some.ensures.sound c.in-Some.ensures.first

pub loop-login-smaller : goal.loop-login-smaller
loop-login-smaller c =
    walk_goes_on c.loop-login.from c.in-Some.login.now.address c.value-from.result (next c).above c.value-from.ensures.value c.value-from.ensures.range

pub loop-login-preserved : goal.loop-login-preserved
loop-login-preserved c =
    let n = next c in
    let le : c.loop-login.from ≤ c.value-from.result = omega (arith, n.above, c.value-from.ensures.value) in
    let l = c.in-Some.login.now in
    let a = l.address in
    let found = item_found c.loop-login.from l c.args.logins.now c.in-Some.ensures.sound c.in-Some.ensures.first in
    elim c.if-may_see.branch [
      | then-may_see+in_ok-push w ↦
          let grown : c.if-may_see.seen ≡ c.loop-login.seen ++ seen_port c.args.config.now l ∷ [] = w.seen-is ∙ (w.in_ok-push.ensures.ok ∙ ap (λ s. c.loop-login.seen ++ s ∷ []) w.seen_port.ensures) in
          record {
            walked = one_seen c.args.config.now c.args.zones.now c.args.at c.args.asker.now c.loop-login.from a c.value-from.result c.args.logins.now.logins c.loop-login.seen c.if-may_see.seen l c.may_see.result
                n found c.may_see.ensures w.if-may_see.true c.value-from.ensures.value grown c.loop-login.invariant.walked;
            below = below_more c.loop-login.from c.value-from.result le c.loop-login.seen c.if-may_see.seen (seen_port c.args.config.now l) (sym c.value-from.ensures.value) grown c.loop-login.invariant.below;
          }
      | else-may_see w ↦ record {
        walked = none_seen c.args.config.now c.args.zones.now c.args.at c.args.asker.now c.loop-login.from a c.value-from.result c.args.logins.now.logins c.loop-login.seen c.if-may_see.seen l c.may_see.result
            n found c.may_see.ensures w.if-may_see.false c.value-from.ensures.value w.seen-is c.loop-login.invariant.walked;
        below = below_same c.loop-login.from c.value-from.result le c.loop-login.seen c.if-may_see.seen w.seen-is c.loop-login.invariant.below;
      }
    ]

pub returns : goal.returns
returns c =
    walk_ends address_of (seen_of c.args.config.now c.args.zones.now c.args.at c.args.asker.now) c.loop-login.from c.args.logins.now.logins c.loop-login.seen refl
    (ap (option_map address_of) c.in_default.ensures.first) c.loop-login.invariant.walked
