use Rattle.std.proofs.Common.{◌∙◌, None, Some, sym, ap}
use Rattle.std.specs.Option.{option_copied}
use Rattle.fip_snoop.proofs.BindingLemmas.{found_at}
use Rattle.fip_snoop.proofs.bindings.Bindings.at.Goals as goal

pub returns-in-Some : goal.returns-in-Some
returns-in-Some c =
    found_at c.self.inside.by_mac c.args.self.now c.args.mac.now c.mac_rank.result (Some c.in-Some.binding.now) c.self.invariant.whole c.mac_rank.ensures.mac c.mac_rank.ensures.value c.self.view_is
    (sym (ap option_copied c.in-Some.is) ∙ c.find.ensures.item)

pub returns-in-None : goal.returns-in-None
returns-in-None c =
    found_at c.self.inside.by_mac c.args.self.now c.args.mac.now c.mac_rank.result None c.self.invariant.whole c.mac_rank.ensures.mac c.mac_rank.ensures.value c.self.view_is
    (sym (ap option_copied c.in-None.is) ∙ c.find.ensures.item)
