use Rattle.std.proofs.Common.{◌∙◌, List, sym, ap, subst}
use mathlib.Core.Bool.{false≢true}
use Rattle.std.specs.List.{All, filter}
use Rattle.fip_snoop.specs.Snoop.{is_home_of, home_in, with_home}
use Rattle.fip_snoop.specs.Maps.{IsWholeHome}
use Rattle.fip_snoop.specs.declared.home.Home.{Home}
use Rattle.fip_snoop.proofs.HomeLemmas.{whole_added, same_put, known_there}
use Rattle.fip_snoop.proofs.homes.Homes.put.Goals as goal

pub returns-in_err-put-clause-known : goal.returns-in_err-put-clause-known
returns-in_err-put-clause-known c known =
    absurd (false≢true (c.in_err-put.ensures.known (known_there c.args.home c.self.inside.by_mac c.self.invariant c.rank.ensures.whole (ap (λ (l : List Home). home_in l c.args.home.mac) c.self.view_is ∙ known))))

pub invariant_of-self-2 : goal.invariant_of-self-2
invariant_of-self-2 c = subst (All IsWholeHome) (sym c.in_ok-put.ensures.ok) (whole_added c.args.home c.self.inside.by_mac c.self.invariant c.rank.ensures.whole)

pub returns-clause-ok : goal.returns-clause-ok
returns-clause-ok c mac =
    ap (filter (is_home_of mac)) c.in_ok-put.ensures.ok ∙ same_put c.args.home c.self.inside.by_mac c.self.invariant c.rank.ensures.whole c.put.ensures.ascend mac
    ∙ ap (λ (l : List Home). filter (is_home_of mac) (with_home c.args.home l)) c.self.view_is
