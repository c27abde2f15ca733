use Rattle.std.proofs.Common.{◌∙◌, ◌++◌, codes, map, sym, ap}
use Rattle.std.specs.List.{flat_map}
use Rattle.std.proofs.lemmas.List.Folds.{flat_map-map}
use Rattle.fab_config.specs.Names.{zone_names}
use Rattle.fab_config.specs.Written.{spaced, name_at}
use Rattle.fab_config.proofs.WriteLemmas.{line_end}
use Rattle.fab_config.proofs.writing.write_set.Goals as goal

pub returns : goal.returns
returns c =
    line_end c.extend_from_slice-2.result c.extend_from_slice-2.new.self.items c.extend_from_slice.new.self.items c.put_word.new.out.items c.put_places.new.out.items
    c.args.out.now.items (codes "zoneset") (spaced c.args.set.now.name) (flat_map spaced (map (name_at (zone_names c.args.zones.now)) c.args.set.now.places))
    c.in_ok-extend_from_slice.ensures.items c.in_ok-put_word.ensures
    (c.in_ok-put_places.ensures ∙ ap (λ l. c.put_word.new.out.items ++ l) (sym (flat_map-map spaced (name_at (zone_names c.args.zones.now)) c.args.set.now.places))) c.extend_from_slice-2.ensures.items
