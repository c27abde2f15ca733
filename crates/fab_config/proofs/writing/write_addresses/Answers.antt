use Rattle.std.proofs.Common.{◌≡◌, ◌∙◌, ◌++◌, ◌∷◌, [], OnOk, ℕ, codes, subst, ap}
use Rattle.fab_base.specs.Layout.{spelled}
use Rattle.fab_config.specs.Settings.{Settings}
use Rattle.fab_config.specs.Written.{addresses_text, line_text, number_line, octets_text, name_text}
use Rattle.fab_config.proofs.WriteLemmas.{four_written}
use Rattle.fab_config.proofs.writing.write_addresses.Goals as goal

pub returns : goal.returns
returns c =
    let f = c.config.inside in
    let line : ℕ → Rattle.std.proofs.Common.List ℕ = λ (n : ℕ). number_line (codes "vlan") n in
    subst (λ (s : Settings). OnOk c.write_fc_map.result (c.write_fc_map.new.out.items ≡ c.args.out.now.items ++ addresses_text s)) c.config.view_is
    (four_written c.write_fc_map.result c.write_fc_map.new.out.items c.write_mac.new.out.items c.write_number.new.out.items c.write_switch.new.out.items c.args.out.now.items
    (line_text (codes "fcf-mac") (octets_text f.fcf_mac ∷ [])) (line f.vlan) (line_text (codes "switch") (name_text f.switch ∷ [])) (line_text (codes "fc-map") (octets_text (spelled 3 f.fc_map) ∷ []))
    c.in_ok-write_mac.ensures (c.in_ok-write_number.ensures ∙ ap (λ (n : ℕ). c.write_mac.new.out.items ++ line n) c.from.ensures) c.in_ok-write_switch.ensures c.write_fc_map.ensures)
