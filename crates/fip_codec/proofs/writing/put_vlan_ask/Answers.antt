use Rattle.std.proofs.Common.{◌++◌, sym, ap, ◌∙◌}
use Rattle.fip_codec.specs.Message.{mac_bytes, name_bytes, if_there}
use Rattle.fab_base.proofs.LayoutLemmas.{appended_two}
use Rattle.fip_codec.proofs.writing.put_vlan_ask.Goals as goal

pub returns-in-Some-clause-bytes : goal.returns-in-Some-clause-bytes
returns-in-Some-clause-bytes c =
    appended_two c.args.list.now.items _ _ _ _ c.put_mac.ensures.bytes c.put_name.ensures.bytes
    ∙ ap (λ n. c.args.list.now.items ++ (mac_bytes c.args.mac ++ if_there name_bytes n)) (sym c.in-Some.is)
