-- An empty line is no line of a journal of format 1: `migrate`, `replay` and `show` refuse it.
use Rattle.std.specs.Prelude.{◌≡◌, ℕ, suc, ◌+◌, ◌≤◌, List, [], ◌∷◌, ◌++◌, length, codes, decimal, refl}
use Rattle.std.proofs.Common.{arith, lit≤, ap, sym, ◌∙◌, length-append}
use Rattle.std.proofs.lemmas.List.{append-nil}
use Rattle.fab_policy.specs.Spelling.{line_text}
use Rattle.fab_policy.specs.Text as text
use Rattle.fab_policy.specs.Text.{LINE_FEED, then_word, verdict_text, frame_words}
use Rattle.fab_policy.specs.declared.line.Format.TheVariants.{One}
use Rattle.fab_policy.specs.declared.line.Line.{Line}
use Rattle.fab_policy.specs.declared.line.Line.TheVariants.{Tick, Frame}
use Rattle.fab_policy.specs.declared.verdict.Verdict.{Verdict}
use Rattle.fab_migrate.specs.Old.{HasFirstFault}
use Rattle.fab_migrate.specs.declared.old.OldWhy.TheVariants as olds
use Rattle.fab_replay.specs.Lines as lines
use Rattle.fab_replay.specs.declared.fault.LineWhy.TheVariants as why
use Rattle.fabric_tool.specs.Command.{Migrate, Replay, Show}
use Rattle.fabric_tool.specs.Inputs.{IsOpened}
use Rattle.fabric_tool.specs.Statuses.{Says}
use Rattle.fabric_tool.specs.declared.outcome.Outcome.TheVariants as ends
use Rattle.window_records.specs.Looks as looks
use Rattle.pcap_file.specs.Capture as captures
use Rattle.pcap_file.specs.Capture.{head_decoded, head_bytes}
use Rattle.command_examples.specs.ChecksRefused.{with_outputs, NO_OUTPUT, OUTPUT, with_journal, behind_head, matter}
use Rattle.command_examples.specs.Faulty.{file}
use Rattle.command_examples.specs.Pairs.{pair}
use Rattle.command_examples.specs.Store.{K, holding}

abbrev pub EMPTY_LINE : List ℕ
EMPTY_LINE = LINE_FEED ∷ []

-- a frame's line has three bytes at least
frame_length : (port index : ℕ) (verdict : Verdict) → 3 ≤ length (frame_words port index verdict ++ LINE_FEED ∷ [])
frame_length port index verdict =
    let words : length (frame_words port index verdict) ≡ length (decimal port ++ then_word (decimal index)) + suc (length (verdict_text verdict)) = length-append (decimal port ++ then_word (decimal index)) (then_word (verdict_text verdict)) in
    let front : length (decimal port ++ then_word (decimal index)) ≡ length (decimal port) + suc (length (decimal index)) = length-append (decimal port) (then_word (decimal index)) in
    omega (arith, words, front, length-append (frame_words port index verdict) (LINE_FEED ∷ []))

no_line : (l : Line) (more : List ℕ) → EMPTY_LINE ≡ line_text One l ++ more → ⊥
no_line (Tick m ended) more is = absurd (cc)
no_line (Frame port index verdict clock) more is =
    absurd (omega (arith, ap length is, length-append (frame_words port index verdict ++ LINE_FEED ∷ []) more, frame_length port index verdict))

no_old_line : HasFirstFault EMPTY_LINE 1 olds.Text
no_old_line = record { before = []; rest = EMPTY_LINE; spelled = refl; come = tt; numbered = refl; faulty = (λ is. absurd (cc), λ l more ranged is. no_line l more is) }

pub migrate_says_text : Says (Migrate pair) (holding (file (codes "OLD") EMPTY_LINE ∷ [])) (ends.BadLine 1 olds.Text)
migrate_says_text = (EMPTY_LINE, refl, (lit≤ tt, no_old_line))

-- over a capture without a record
head_opened : IsOpened (holding (with_journal head_bytes EMPTY_LINE)) (codes "IN") (behind_head head_bytes)
unfolding head_decoded
head_opened = record { bytes = head_bytes; file = refl; head = refl; body = refl }

wrong_line : (outs : List (List ℕ)) → Says (Replay (with_outputs outs)) (holding (with_journal head_bytes EMPTY_LINE)) (ends.WrongLine 1 why.Text)
unfolding looks.looks looks.stop captures.next text.text1 lines.format_of
wrong_line outs = record {
  settings = K;
  opened = behind_head head_bytes ∷ [];
  journal = EMPTY_LINE;
  matter = matter outs head_bytes EMPTY_LINE head_opened (lit≤ tt);
  says = record {
    entry_list = [];
    before = record { rest = EMPTY_LINE; lines = refl; front = record { ranged = tt; ports = tt; frames = λ q records is. refl; legal = tt; timed = tt } };
    gathered = tt;
    number = refl;
    wrong = (λ is. absurd (cc), λ l spells. no_line l [] (spells.spelled ∙ sym (append-nil (line_text One l))));
  };
}

pub replay_says_text : Says (Replay (with_outputs OUTPUT)) (holding (with_journal head_bytes EMPTY_LINE)) (ends.WrongLine 1 why.Text)
replay_says_text = wrong_line OUTPUT

pub show_says_text : Says (Show (with_outputs NO_OUTPUT)) (holding (with_journal head_bytes EMPTY_LINE)) (ends.WrongLine 1 why.Text)
show_says_text = wrong_line NO_OUTPUT
