use Rattle.std.proofs.Common.{◌∙◌, ◌++◌, ◌∷◌, [], true, false, map, refl, sym, subst, ap, append_assoc, inl, inr}
use Rattle.std.specs.Prelude.{flat_map}
use Rattle.fab_policy.specs.State.{LivePort}
use Rattle.fab_pieces.specs.Seam.{login_row, row_text}
use Rattle.fab_state.specs.Readable.{NoLogin}
use Rattle.fab_state.proofs.LineLemmas.{login_is_line}
use Rattle.fab_state.proofs.LeftLemmas.{left_cases, login_words}
use Rattle.fab_state.proofs.ReadLemmas.{not_both}
use Rattle.fab_state.proofs.reading.ports_of.Goals as goal

pub logins-init : goal.logins-init
logins-init c ports more h none e = record { left = ports; all = ap (λ l. l ++ ports) c.new-ports.ensures.items; are = h; text = e }

pub logins-preserved : goal.logins-preserved
logins-preserved c ports more h none e = elim (left_cases (c.logins.invariant ports more h none e)) [
  | inl over ↦ absurd (not_both true refl (c.logins-test.ensures.other (subst NoLogin (sym over.1) none)))
  | inr one ↦
      let p = one.port in
      let cut = c.cut_line.ensures.line (login_row p) (flat_map row_text (map login_row one.left) ++ more) (login_is_line p one.is) one.text in
      let same = c.in_ok-login_of.ensures p one.is cut.0 in
      record {
        left = one.left;
        all = ap (λ l. l ++ one.left) (c.in_ok-push.ensures.items ∙ ap (λ (x : LivePort). c.logins.ports.items ++ x ∷ []) same) ∙ append_assoc c.logins.ports.items (p ∷ []) one.left ∙ one.all;
        are = one.are;
        text = cut.1;
      }
]

pub returns : goal.returns
returns c ports more h none e = elim (left_cases (c.logins.invariant ports more h none e)) [
  | inl over ↦ c.from_vec.ensures ∙ over.0
  | inr one ↦ absurd (not_both false (c.logins-test.ensures.own (login_words one.port) (flat_map row_text (map login_row one.left) ++ more) (login_is_line one.port one.is) one.text) refl)
]
