-- Pieces that were each checked alone make a session.
use Rattle.std.proofs.Common.{◌≡◌, ℕ, zero, suc, ◌+◌, List, [], ◌∷◌, ◌++◌, length-append, refl, sym, ap, subst, ◌∙◌}
use Rattle.fab_config.specs.Settings.{Settings}
use Rattle.pcap_file.specs.Capture.{head_bytes}
use Rattle.pcap_file.specs.declared.Record.{Record}
use Rattle.fab_policy.specs.Growing.{TimedGrows, with_more}
use Rattle.fab_policy.specs.Journal.{now}
use Rattle.fab_policy.specs.Legal.{HoldsFrames}
use Rattle.fab_policy.specs.Outputs.{state_of}
use Rattle.fab_policy.specs.State.{now_of}
use Rattle.fab_policy.specs.Text.{egress, head_line, text}
use Rattle.fab_states.specs.Runs.{RunFrom, counts_of, counts_on}
use Rattle.fab_states.specs.States.{state_on}
use Rattle.fab_states.specs.Written.{piece_records, piece_text}
use Rattle.fab_pieces.specs.Session.{IsSession, PiecesMakeSession, Recorded, all_ins, all_sent, all_text, no_records, seam_nexts, seam_state, whole}
use Rattle.fab_pieces.proofs.JoinLemmas.{captures_join, states_follow, texts_join}
use Rattle.fab_pieces.proofs.RunLemmas.{runs_join}

none_held : (n p : ℕ) → HoldsFrames [] p (no_records n)
none_held zero p = tt
none_held (suc n) p = (refl, none_held n (p + 1))

text-none : text [] ≡ head_line
unfolding text
text-none = refl

egress-none : (c : Settings) (n q : ℕ) → egress c n q [] ≡ head_bytes
unfolding egress
egress-none c n q = refl

counts_joined : (ins more : List (List Record)) → counts_of (with_more ins more) ≡ counts_on (counts_of ins) more
counts_joined [] more = refl
counts_joined (rs ∷ ins) [] = refl
counts_joined (rs ∷ ins) (qs ∷ more) = (λ i. length-append rs qs i ∷ counts_joined ins more i)

one_more : TimedGrows → (c : Settings) (n : ℕ) (p : Recorded) (ps : List Recorded) → IsSession c n ps → RunFrom c (seam_state c ps) (seam_nexts n ps) p.ins p.entries → IsSession c n (p ∷ ps)
one_more grows c n p ps is run =
    let from : RunFrom c (state_of c (whole ps)) (counts_of (all_ins n ps)) p.ins p.entries =
    subst (λ S. RunFrom c S (counts_of (all_ins n ps)) p.ins p.entries) (sym is.state) (subst (λ ns. RunFrom c (seam_state c ps) ns p.ins p.entries) (sym is.nexts) run) in
    record {
      run = runs_join grows c (all_ins n ps) p.ins (whole ps) p.entries is.run from;
      state = states_follow c (whole ps) p.entries ∙ ap (λ S. state_on c S p.entries) is.state;
      nexts = counts_joined (all_ins n ps) p.ins ∙ ap (λ ns. counts_on ns p.ins) is.nexts;
      lines = texts_join (whole ps) p.entries ∙ ap (λ l. l ++ piece_text (now (whole ps)) p.entries) is.lines
          ∙ ap (λ S. all_text c ps ++ piece_text (now_of S.tables) p.entries) is.state;
      sent = λ q. captures_join c n q (whole ps) p.entries ∙ ap (λ l. l ++ piece_records c n q (state_of c (whole ps)) p.entries) (is.sent q)
          ∙ ap (λ S. all_sent c n q ps ++ piece_records c n q S p.entries) is.state;
    }

pub pieces_make_session : TimedGrows → PiecesMakeSession
pieces_make_session grows c n [] runs = record {
  run = record { ports = tt; frames = none_held n 1; legal = tt; timed = tt };
  state = refl;
  nexts = refl;
  lines = text-none;
  sent = λ q. egress-none c n q;
}
pieces_make_session grows c n (p ∷ ps) runs = one_more grows c n p ps (pieces_make_session grows c n ps runs.0) runs.1
