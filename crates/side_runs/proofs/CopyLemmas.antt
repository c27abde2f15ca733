-- Records of frames that are handled one after another.
use Rattle.std.proofs.Common.{[], ◌∷◌, ◌++◌, append_assoc, refl, sym, ◌∙◌, ap}
use Rattle.fip_snoop.specs.Bridge.{handled, history}
use Rattle.fip_snoop.specs.Ways.{way_of}
use Rattle.side_runs.specs.Copies.{copy_to, records_to, RecordsGoOn}

pub records_go_on : RecordsGoOn
records_go_on w q L [] ys = refl
records_go_on w q L (x ∷ xs) ys =
    let here = copy_to q x (way_of w L x.port x.caught) in
    ap (λ l. here ++ l) (records_go_on w q (handled w L x ∷ L) xs ys)
    ∙ sym (append_assoc here (records_to w q (handled w L x ∷ L) xs) (records_to w q (history w (handled w L x ∷ L) xs) ys))
