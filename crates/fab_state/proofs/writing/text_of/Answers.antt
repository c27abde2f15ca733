use Rattle.fab_state.proofs.WriteLemmas.{seam_pieces}
use Rattle.fab_state.proofs.writing.text_of.Goals as goal

pub returns : goal.returns
returns c =
    seam_pieces c.args.seam.now c.new-text.result.items c.write_head.new.out.items c.write_counts.new.out.items c.write_addresses.new.out.items c.write_logins.new.out.items c.new-text.ensures.items c.in_ok-write_head.ensures
    c.in_ok-write_counts.ensures c.in_ok-write_addresses.ensures c.in_ok-write_logins.ensures
