-- Pieces that were each checked from seam to seam make a session, and their files its files.
use Rattle.std.proofs.Common.{◌≡◌, ℕ, ◌≤◌, List, [], ◌∷◌, ◌++◌, length, drop, refl, sym, ap, subst, ◌∙◌, append_assoc}
use Rattle.std.proofs.lemmas.List.{append-nil}
use Rattle.fab_config.specs.Settings.{Settings}
use Rattle.pcap_file.specs.Capture.{head_bytes}
use Rattle.fab_policy.specs.Growing.{TimedGrows}
use Rattle.fab_policy.specs.State.{now_of}
use Rattle.fab_policy.specs.Text.{head_line}
use Rattle.fab_states.specs.Runs.{RunFrom, counts_on}
use Rattle.fab_states.specs.States.{state_on}
use Rattle.fab_states.specs.Written.{piece_records, piece_text}
use Rattle.fab_pieces.specs.Seam.{Seam}
use Rattle.fab_pieces.specs.Session.{AreChecked, AreRuns, Checked, CheckedMakeSession, IsBehind, all_found, all_journals, all_sent, all_text, pieces_of, seam_nexts, seam_state}
use Rattle.fab_pieces.proofs.SessionLemmas.{pieces_make_session}

-- a seam behind pieces has what these leave
is_seam : (c : Settings) (n : ℕ) (xs : List Checked) (s : Seam) → AreChecked c n xs → IsBehind c n xs s → (s.state ≡ seam_state c (pieces_of xs)) × (s.nexts ≡ seam_nexts n (pieces_of xs))
is_seam c n [] s checked h = (h.0, h.1)
is_seam c n (x ∷ xs) s checked h =
    let before = is_seam c n xs x.from checked.0 checked.1 in
    (h.0 ∙ sym checked.3.state ∙ ap (λ S. state_on c S x.piece.entries) before.0, h.1 ∙ sym checked.3.nexts ∙ ap (λ ns. counts_on ns x.piece.ins) before.1)

are_runs : (c : Settings) (n : ℕ) (xs : List Checked) → AreChecked c n xs → AreRuns c n (pieces_of xs)
are_runs c n [] checked = tt
are_runs c n (x ∷ xs) checked =
    let before = is_seam c n xs x.from checked.0 checked.1 in (
      are_runs c n xs checked.0,
      subst (λ S. RunFrom c S (seam_nexts n (pieces_of xs)) x.piece.ins x.piece.entries) before.0 (subst (λ ns. RunFrom c x.from.state ns x.piece.ins x.piece.entries) before.1 checked.3.run),
    )

-- ---- files

lines_are : (c : Settings) (n : ℕ) (xs : List Checked) → AreChecked c n xs → all_text c (pieces_of xs) ≡ head_line ++ all_journals xs
lines_are c n [] checked = sym (append-nil head_line)
lines_are c n (x ∷ xs) checked =
    let before = is_seam c n xs x.from checked.0 checked.1 in
    ap (λ l. l ++ piece_text (now_of (seam_state c (pieces_of xs)).tables) x.piece.entries) (lines_are c n xs checked.0)
    ∙ ap (λ S. (head_line ++ all_journals xs) ++ piece_text (now_of S.tables) x.piece.entries) (sym before.0)
    ∙ ap (λ l. (head_line ++ all_journals xs) ++ l) (sym checked.3.lines)
    ∙ append_assoc head_line (all_journals xs) x.journal

behind_head : (head rest : List ℕ) → drop (length head) (head ++ rest) ≡ rest
behind_head [] rest = refl
behind_head (b ∷ head) rest = behind_head head rest

sent_are : (c : Settings) (n q : ℕ) (xs : List Checked) → 1 ≤ q → q ≤ n → AreChecked c n xs → all_sent c n q (pieces_of xs) ≡ head_bytes ++ all_found q xs
sent_are c n q [] some most checked = sym (append-nil head_bytes)
sent_are c n q (x ∷ xs) some most checked =
    let before = is_seam c n xs x.from checked.0 checked.1 in
    let width = checked.2 in
    let own : drop (length head_bytes) (x.found q) ≡ piece_records c (length x.piece.ins) q x.from.state x.piece.entries =
    ap (drop (length head_bytes)) (checked.3.sent q some (subst (λ (m : ℕ). q ≤ m) (sym width) most)) ∙ behind_head head_bytes (piece_records c (length x.piece.ins) q x.from.state x.piece.entries) in
    ap (λ l. l ++ piece_records c n q (seam_state c (pieces_of xs)) x.piece.entries) (sent_are c n q xs some most checked.0)
    ∙ ap (λ S. (head_bytes ++ all_found q xs) ++ piece_records c n q S x.piece.entries) (sym before.0)
    ∙ ap (λ (m : ℕ). (head_bytes ++ all_found q xs) ++ piece_records c m q x.from.state x.piece.entries) (sym width)
    ∙ ap (λ l. (head_bytes ++ all_found q xs) ++ l) (sym own)
    ∙ append_assoc head_bytes (all_found q xs) (drop (length head_bytes) (x.found q))

pub checked_make_session : TimedGrows → CheckedMakeSession
checked_make_session grows c n xs checked =
    let is = pieces_make_session grows c n (pieces_of xs) (are_runs c n xs checked) in
    record { run = is.run; lines = is.lines ∙ lines_are c n xs checked; sent = λ q some most. is.sent q ∙ sent_are c n q xs some most checked }
