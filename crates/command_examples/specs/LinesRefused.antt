-- Lines that `replay` and `show` refuse: a tick where none is expected, a frame that didn't come, and a wrong verdict.
use Rattle.std.specs.Prelude.{◌≡◌, ℕ, true, List, [], ◌∷◌, codes, None, Some, refl}
use Rattle.std.specs.Fmt as fmt
use Rattle.std.proofs.Common.{inr, arith, lit≤, lit<}
use Rattle.pcap_file.specs.Capture as captures
use Rattle.pcap_file.specs.Capture.{head_decoded, head_bytes}
use Rattle.pcap_file.specs.declared.Record.{Record}
use Rattle.eth_frames.specs.Ethernet as eth
use Rattle.heard_frames.specs.Heard as heard
use Rattle.fab_policy.specs.Journal.{Journal}
use Rattle.fab_policy.specs.Legal as legal
use Rattle.fab_policy.specs.Rules as rules
use Rattle.fab_policy.specs.Spelling.{Spells}
use Rattle.fab_policy.specs.State.{tables_of}
use Rattle.fab_policy.specs.Text as text
use Rattle.fab_policy.specs.Verdicts as verdicts
use Rattle.fab_policy.specs.Verdicts.{IsRight}
use Rattle.fab_policy.specs.declared.event.Event.TheVariants as event
use Rattle.fab_policy.specs.declared.line.Format.TheVariants.{Two}
use Rattle.fab_policy.specs.declared.line.Line.TheVariants.{Tick, Frame}
use Rattle.fab_policy.specs.declared.verdict.Rule.TheVariants as rule
use Rattle.fab_policy.specs.declared.verdict.Verdict.TheVariants.{Vlans, Dropped}
use Rattle.window_records.specs.Looks as looks
use Rattle.fab_replay.specs.Front.{IsFront, IsNextFrame}
use Rattle.fab_replay.specs.Lines as lines
use Rattle.fab_replay.specs.declared.fault.LineWhy.TheVariants as why
use Rattle.fabric_tool.specs.Command.{Replay, Show}
use Rattle.fabric_tool.specs.Inputs.{IsOpened}
use Rattle.fabric_tool.specs.Statuses.{Says}
use Rattle.fabric_tool.specs.declared.outcome.Outcome.TheVariants as ends
use Rattle.command_examples.specs.ChecksRefused.{with_outputs, NO_OUTPUT, OUTPUT, with_journal, behind_head, matter, RECORD}
use Rattle.command_examples.specs.Store.{K, holding}

opened : (journal : List ℕ) → IsOpened (holding (with_journal head_bytes journal)) (codes "IN") (behind_head head_bytes)
unfolding head_decoded
opened journal = record { bytes = head_bytes; file = refl; head = refl; body = refl }

-- ---- a tick, where no frame is left

abbrev pub TICK : List ℕ
TICK = codes "journal 2\n0 tick\n"

is_tick : Spells Two (codes "0 tick\n") (Tick 0 [])
unfolding fmt.digits
is_tick = record { ranged = (lit< tt, (tt, λ k d lt. absurd (omega (arith, lt)))); spelled = refl }

wrong_tick : (outs : List (List ℕ)) → Says (Replay (with_outputs outs)) (holding (with_journal head_bytes TICK)) (ends.WrongLine 2 why.Tick)
unfolding looks.looks looks.stop captures.next text.text lines.format_of
wrong_tick outs = record {
  settings = K;
  opened = behind_head head_bytes ∷ [];
  journal = TICK;
  matter = matter outs head_bytes TICK (opened TICK) (lit≤ tt);
  says = record {
    entry_list = [];
    before = record { rest = codes "0 tick\n"; lines = refl; front = record { ranged = tt; ports = tt; frames = λ q records is. refl; legal = tt; timed = tt } };
    gathered = tt;
    number = refl;
    wrong = (Tick 0 [], is_tick, inr (refl, refl));
  };
}

pub replay_says_tick : Says (Replay (with_outputs OUTPUT)) (holding (with_journal head_bytes TICK)) (ends.WrongLine 2 why.Tick)
replay_says_tick = wrong_tick OUTPUT

pub show_says_tick : Says (Show (with_outputs NO_OUTPUT)) (holding (with_journal head_bytes TICK)) (ends.WrongLine 2 why.Tick)
show_says_tick = wrong_tick NO_OUTPUT

-- ---- a frame that no capture has

abbrev pub FRAME : List ℕ
FRAME = codes "journal 2\n0 1 0 vlans\n"

is_frame : Spells Two (codes "0 1 0 vlans\n") (Frame 1 0 Vlans (Some 0))
unfolding fmt.digits
is_frame = record { ranged = (lit≤ tt, lit≤ tt, lit< tt, tt, lit< tt); spelled = refl }

wrong_frame : (outs : List (List ℕ)) → Says (Replay (with_outputs outs)) (holding (with_journal head_bytes FRAME)) (ends.WrongLine 2 why.Frame)
unfolding looks.looks looks.stop captures.next text.text lines.format_of
wrong_frame outs = record {
  settings = K;
  opened = behind_head head_bytes ∷ [];
  journal = FRAME;
  matter = matter outs head_bytes FRAME (opened FRAME) (lit≤ tt);
  says = record {
    entry_list = [];
    before = record { rest = codes "0 1 0 vlans\n"; lines = refl; front = record { ranged = tt; ports = tt; frames = λ q records is. refl; legal = tt; timed = tt } };
    gathered = tt;
    number = refl;
    wrong = (1, 0, Some 0, (Vlans, is_frame), refl, λ r next. absurd (cc (next.time)));
  };
}

pub replay_says_frame : Says (Replay (with_outputs OUTPUT)) (holding (with_journal head_bytes FRAME)) (ends.WrongLine 2 why.Frame)
replay_says_frame = wrong_frame OUTPUT

pub show_says_frame : Says (Show (with_outputs NO_OUTPUT)) (holding (with_journal head_bytes FRAME)) (ends.WrongLine 2 why.Frame)
show_says_frame = wrong_frame NO_OUTPUT

-- ---- a wrong verdict, of a frame that is too short for any message

abbrev pub VERDICT : List ℕ
VERDICT = codes "journal 2\n0 tick\n0 1 0 vlans\n"

abbrev short : Record
short = record { moment = 0; caught = record { bytes = []; whole = true } }

abbrev behind_tick : Journal
behind_tick = event.Tick 0 [] ∷ []

record_opened : IsOpened (holding (with_journal RECORD VERDICT)) (codes "IN") (behind_head RECORD)
unfolding head_decoded
record_opened = record { bytes = RECORD; file = refl; head = refl; body = refl }

front : IsFront K ((short ∷ []) ∷ []) behind_tick
unfolding legal.is_tick_owed
front = record {
  ranged = (tt, (lit< tt, (tt, λ k d lt. absurd (omega (arith, lt)))));
  ports = tt;
  frames = λ q records is. refl;
  legal = (tt, refl);
  timed = (tt, (0, (refl, refl), refl));
}

next : IsNextFrame K ((short ∷ []) ∷ []) behind_tick 1 0 (Some 0) short
next = record { place = 0; is = refl; records = short ∷ []; later = []; are = refl; next = refl; number = refl; time = refl; clock_ = refl }

not_vlans : IsRight K (tables_of K behind_tick) 1 short.caught Vlans → ⊥
unfolding verdicts.judged rules.rule_for heard.decoded heard.carried heard.is_flogi eth.decoded
not_vlans right = let same : Vlans ≡ Dropped (record { rule = rule.EthShort; number = None }) = right in absurd (cc)

dropped : IsRight K (tables_of K behind_tick) 1 short.caught (Dropped (record { rule = rule.EthShort; number = None }))
unfolding verdicts.judged rules.rule_for heard.decoded heard.carried heard.is_flogi eth.decoded
dropped = refl

wrong_verdict : (outs : List (List ℕ)) → Says (Replay (with_outputs outs)) (holding (with_journal RECORD VERDICT)) (ends.WrongLine 3 (why.Verdict Vlans (Dropped (record { rule = rule.EthShort; number = None }))))
unfolding looks.looks looks.stop captures.next text.text lines.format_of fmt.digits
wrong_verdict outs = record {
  settings = K;
  opened = behind_head RECORD ∷ [];
  journal = VERDICT;
  matter = matter outs RECORD VERDICT record_opened (lit≤ tt);
  says = record {
    entry_list = behind_tick;
    before = record { rest = codes "0 1 0 vlans\n"; lines = refl; front = front };
    gathered = tt;
    number = refl;
    wrong = (1, 0, Some 0, short, is_frame, refl, next, not_vlans, dropped);
  };
}

pub replay_says_verdict : Says (Replay (with_outputs OUTPUT)) (holding (with_journal RECORD VERDICT)) (ends.WrongLine 3 (why.Verdict Vlans (Dropped (record { rule = rule.EthShort; number = None }))))
replay_says_verdict = wrong_verdict OUTPUT

pub show_says_verdict : Says (Show (with_outputs NO_OUTPUT)) (holding (with_journal RECORD VERDICT)) (ends.WrongLine 3 (why.Verdict Vlans (Dropped (record { rule = rule.EthShort; number = None }))))
show_says_verdict = wrong_verdict NO_OUTPUT
