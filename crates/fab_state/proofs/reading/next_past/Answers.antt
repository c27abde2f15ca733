use Rattle.std.proofs.Common.{◌∙◌, ◌++◌, ◌∷◌, ◌+◌, ℕ, true, false, ap, sym, subst, refl, inl, inr, arith}
use Rattle.std.specs.Prelude.{codes, flat_map}
use Rattle.fab_policy.specs.Text.{address_word}
use Rattle.fab_pieces.specs.Seam.{may_word, name_word, past_row, past_rows, row_text}
use Rattle.fab_state.specs.Readable.{IsOther}
use Rattle.fab_state.specs.Words.{IsLine}
use Rattle.fab_state.proofs.SeamReadLemmas.{named_or, named_text, past_is_line, tail_other, unnamed_text}
use Rattle.fab_state.proofs.ReadLemmas.{not_both}
use Rattle.fab_state.proofs.reading.next_past.Goals as goal

pub returns-then-is_of : goal.returns-then-is_of
returns-then-is_of c q tail n more at places h none e = elim (named_or q) [
  | inl unnamed ↦
      absurd (not_both true refl (c.if-is_of.ensures.other (subst (IsOther c.args.address) (sym (e ∙ unnamed_text q tail more unnamed)) (tail_other n (c.args.address + 1) c.args.address tail more places (omega arith) h.1 none))))
  | inr some ↦
      let name = some.0 in
      let cut = c.cut_line.ensures.line (past_row q name) (flat_map row_text (past_rows tail) ++ more) (past_is_line q name h.0) (e ∙ named_text q tail name more some.1) in
      (c.past_in.ensures q name h.0 at some.1 cut.0, cut.1)
]

pub returns-else-is_of : goal.returns-else-is_of
returns-else-is_of c q tail n more at places h none e = elim (named_or q) [
  | inl unnamed ↦ (c.unused.ensures q h.0 at unnamed, e ∙ unnamed_text q tail more unnamed)
  | inr some ↦
      let name = some.0 in
      let ws = name_word name ∷ may_word q.ended in
      let behind = flat_map row_text (past_rows tail) ++ more in
      absurd (not_both false (c.if-is_of.ensures.own ws behind (subst (λ (a : ℕ). IsLine (codes "address" ∷ address_word a ∷ ws)) at (past_is_line q name h.0))
      (e ∙ named_text q tail name more some.1 ∙ ap (λ (a : ℕ). row_text (codes "address" ∷ address_word a ∷ ws) ++ behind) at)) refl)
]
