use Rattle.std.proofs.Common.{◌≡◌, ◌∙◌, None, length, get_or, slice_get, refl, sym, ap}
use Rattle.std.specs.Option.{option_copied}
use Rattle.std.proofs.lemmas.Option.{slice_get_read}
use Rattle.side_runs.proofs.NextLemmas.{next_record, is_found}
use Rattle.side_runs.proofs.bridge.next_record.Goals as goal

pub unreachable-requires : goal.unreachable-requires
unreachable-requires c =
    let ins = c.args.ins.now in
    let n = c.requires.next in
    let rs = c.index-ins-place.result in
    let here = slice_get_read ins (length ins) c.args.place rs refl n.within c.index-ins-place.is in
    let found = next_record ins c.args.places.now c.args.place rs n here n.frame_ n.is n.port_ in
    let none : slice_get rs (get_or c.args.places.now c.args.place 0) ≡ None = sym c.at.ensures ∙ ap option_copied c.in_default.is in
    let some = found.1 in
    absurd (cc)

pub returns : goal.returns
returns c =
    let ins = c.args.ins.now in
    let rs = c.index-ins-place.result in
    let here = slice_get_read ins (length ins) c.args.place rs refl c.requires.next.within c.index-ins-place.is in
    is_found ins c.args.places.now c.args.place rs c.in-Some.found.now c.requires.next c.requires.fit c.requires.frames here (sym c.at.ensures ∙ ap option_copied c.in-Some.is)
