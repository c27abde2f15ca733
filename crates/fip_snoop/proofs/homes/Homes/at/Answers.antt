use Rattle.std.proofs.Common.{◌∙◌, None, Some, sym, ap}
use Rattle.std.specs.Option.{option_copied}
use Rattle.fip_snoop.proofs.HomeLemmas.{port_found}
use Rattle.fip_snoop.proofs.homes.Homes.at.Goals as goal

pub returns-in-Some : goal.returns-in-Some
returns-in-Some c =
    port_found c.self.inside.by_mac c.args.self.now c.args.mac.now c.mac_number.result (Some c.in-Some.home.now) c.self.invariant (c.mac_number.ensures.length, c.mac_number.ensures.bytes) c.mac_number.ensures.value c.self.view_is
    (sym (ap option_copied c.in-Some.is) ∙ c.find.ensures.item)

pub returns-in-None : goal.returns-in-None
returns-in-None c =
    port_found c.self.inside.by_mac c.args.self.now c.args.mac.now c.mac_number.result None c.self.invariant (c.mac_number.ensures.length, c.mac_number.ensures.bytes) c.mac_number.ensures.value c.self.view_is
    (sym (ap option_copied c.in-None.is) ∙ c.find.ensures.item)
