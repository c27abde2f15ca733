use Rattle.std.proofs.lemmas.Result.{on_ok_weaker}
use Rattle.std.proofs.Common.{[], ◌∷◌, ◌++◌, codes}
use Rattle.fab_pieces.specs.Seam.{may_word}
use Rattle.fab_state.specs.Rows.{enode_words, heard_words, person_words, values_words}
use Rattle.fab_state.proofs.WriteLemmas.{more_words, whole_line}
use Rattle.fab_state.proofs.writing.write_login.Goals as goal

pub returns : goal.returns
returns c =
    let p = c.args.port.now in
    let o1 = c.extend_from_slice.new.self.items in
    let o2 = c.put_person.new.out.items in
    let o3 = c.put_enode.new.out.items in
    let o4 = c.put_heard.new.out.items in
    let o5 = c.put_registered.new.out.items in
    let o6 = c.end_login.new.out.items in
    let s = may_word p.server in
    on_ok_weaker c.end_login.result
    (λ e.
    whole_line c.args.out.now.items o1 o6 (codes "login") (person_words p ++ (enode_words p.enode ++ (heard_words p ++ (values_words p.values ++ s)))) c.in_ok-extend_from_slice.ensures.items
    (more_words o1 o2 o6 (person_words p) (enode_words p.enode ++ (heard_words p ++ (values_words p.values ++ s))) c.in_ok-put_person.ensures
    (more_words o2 o3 o6 (enode_words p.enode) (heard_words p ++ (values_words p.values ++ s)) c.in_ok-put_enode.ensures
    (more_words o3 o4 o6 (heard_words p) (values_words p.values ++ s) c.in_ok-put_heard.ensures
    (more_words o4 o5 o6 (values_words p.values) s c.in_ok-put_registered.ensures e)))))
    c.end_login.ensures
