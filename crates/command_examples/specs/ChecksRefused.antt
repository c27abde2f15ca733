-- What `replay` and `show` refuse: a line, an output, a capture, a journal past its limit, and captures of more than six hours.
use Rattle.std.specs.Prelude.{◌≡◌, ℕ, zero, suc, ◌+◌, ◌*◌, ◌<◌, ◌≤◌, true, false, List, [], ◌∷◌, ◌++◌, length, drop, codes, None, Some, refl}
use Rattle.std.specs.Fmt as fmt
use Rattle.std.proofs.Common.{inl, inr, arith, lit≤, lit<}
use Rattle.fab_base.specs.declared.values.Caught.{Caught}
use Rattle.pcap_file.specs.Capture as captures
use Rattle.pcap_file.specs.Capture.{HEAD, head_decoded, head_bytes, record_bytes}
use Rattle.pcap_file.specs.Reading as reading
use Rattle.pcap_file.specs.declared.CapFault.TheVariants as heads
use Rattle.pcap_file.specs.declared.fault.CapWhy.TheVariants as caps
use Rattle.pcap_file.specs.declared.fault.LimitKind.TheVariants as kinds
use Rattle.eth_frames.specs.Ethernet as eth
use Rattle.heard_frames.specs.Heard as heard
use Rattle.fab_policy.specs.Journal.{Journal}
use Rattle.fab_policy.specs.Legal as legal
use Rattle.fab_policy.specs.Rules as rules
use Rattle.fab_policy.specs.Text as text
use Rattle.fab_policy.specs.Verdicts as verdicts
use Rattle.fab_policy.specs.declared.event.Event.TheVariants.{Tick, Frame}
use Rattle.fab_policy.specs.declared.verdict.Rule.TheVariants as rule
use Rattle.fab_policy.specs.declared.verdict.Verdict.TheVariants.{Dropped}
use Rattle.window_records.specs.Looks as looks
use Rattle.window_records.specs.Looks.{Opened}
use Rattle.fab_replay.specs.Front.{HoldsFronts, IsFront}
use Rattle.fab_replay.specs.Lines as lines
use Rattle.fab_replay.specs.declared.fault.LineWhy.TheVariants as why
use Rattle.fabric_tool.specs.Checking.{HasMatter, output_in}
use Rattle.fabric_tool.specs.Command.{RunNames, Replay, Show}
use Rattle.fabric_tool.specs.Inputs.{IsOpened, MOST_BYTES}
use Rattle.fabric_tool.specs.Statuses.{Says}
use Rattle.fabric_tool.specs.declared.outcome.Outcome.TheVariants as ends
use Rattle.command_examples.specs.Checking.{JOURNAL, names_run}
use Rattle.command_examples.specs.Faulty.{CUT, LONG, NO_CONFIG, missing, has_fault, file}
use Rattle.command_examples.specs.Running.{value}
use Rattle.command_examples.specs.Store.{File, CONFIG, K, K_FILE, names, holding}

-- the names of `replay`, or of `show`, which has no outputs
abbrev pub with_outputs : List (List ℕ) → RunNames
with_outputs outs = record { config = codes "K"; journal = codes "J"; ins = codes "IN" ∷ []; outs = outs }

abbrev pub NO_OUTPUT : List (List ℕ)
NO_OUTPUT = []

abbrev pub OUTPUT : List (List ℕ)
OUTPUT = codes "OUT" ∷ []

-- the configuration, a capture of these bytes, a journal, and an empty output
abbrev pub with_journal : List ℕ → List ℕ → List File
with_journal input journal = K_FILE ∷ file (codes "IN") input ∷ file (codes "J") journal ∷ file (codes "OUT") [] ∷ []

-- ---- the configuration

pub replay_says_config : Says (Replay names) (holding NO_CONFIG) (ends.Config missing)
replay_says_config = has_fault

pub show_says_config : Says (Show (with_outputs NO_OUTPUT)) (holding NO_CONFIG) (ends.Config missing)
show_says_config = has_fault

-- ---- a limit on bytes

-- any journal past the limit
module _ (journal : List ℕ) (long : MOST_BYTES < length journal) where
  is_long : (outs : List (List ℕ)) → Says (Replay (with_outputs outs)) (holding (with_journal [] journal)) (ends.Limit kinds.Bytes)
  is_long outs = inl (
    refl,
    record {
      settings = K;
      config = record { text = CONFIG; file = refl; value = value };
      journal = journal;
      lines = refl;
      heads = record { before = []; name = codes "IN"; behind = []; are = refl; opened = []; heads = tt; above = omega (arith, long) };
    },
  )

  pub replay_says_bytes : Says (Replay (with_outputs OUTPUT)) (holding (with_journal [] journal)) (ends.Limit kinds.Bytes)
  replay_says_bytes = is_long OUTPUT

  pub show_says_bytes : Says (Show (with_outputs NO_OUTPUT)) (holding (with_journal [] journal)) (ends.Limit kinds.Bytes)
  show_says_bytes = is_long NO_OUTPUT

-- ---- a capture

-- an empty file has no head
head_refused : (outs : List (List ℕ)) → Says (Replay (with_outputs outs)) (holding (with_journal [] JOURNAL)) (ends.Capture 1 0 caps.Short)
unfolding head_decoded
head_refused outs = inl (
  refl,
  record {
    head = record {
      settings = K;
      config = record { text = CONFIG; file = refl; value = value };
      first = record {
        before = [];
        name = codes "IN";
        behind = [];
        are = refl;
        number = refl;
        opened = [];
        heads = tt;
        without = record { bytes = []; file = refl; fault = heads.Short; says = refl; word = refl };
      };
    };
    journal = JOURNAL;
    lines = refl;
    within = lit≤ tt;
  },
)

pub replay_says_head : Says (Replay (with_outputs OUTPUT)) (holding (with_journal [] JOURNAL)) (ends.Capture 1 0 caps.Short)
replay_says_head = head_refused OUTPUT

pub show_says_head : Says (Show (with_outputs NO_OUTPUT)) (holding (with_journal [] JOURNAL)) (ends.Capture 1 0 caps.Short)
show_says_head = head_refused NO_OUTPUT

-- a capture whose head these bytes begin with
abbrev pub behind_head : List ℕ → Opened
behind_head input = record { head = record { big = false; nano = false }; body = drop HEAD input }

pub matter : (outs : List (List ℕ)) (input journal : List ℕ) → IsOpened (holding (with_journal input journal)) (codes "IN") (behind_head input) → length journal + HEAD * 1 ≤ MOST_BYTES → HasMatter (with_outputs outs) (holding (with_journal input journal)) K (behind_head input ∷ []) journal
matter outs input journal is_opened within = record { inputs = record { config = record { text = CONFIG; file = refl; value = value }; heads = (is_opened, tt) }; lines = refl; within = within }

-- the first record is cut, before any line of a frame
cut_opened : IsOpened (holding (with_journal CUT JOURNAL)) (codes "IN") (behind_head CUT)
unfolding head_decoded
cut_opened = record { bytes = CUT; file = refl; head = refl; body = refl }

is_cut : (outs : List (List ℕ)) → Says (Replay (with_outputs outs)) (holding (with_journal CUT JOURNAL)) (ends.Capture 1 24 caps.Cut)
unfolding looks.looks looks.stop captures.next text.text lines.format_of
is_cut outs = inr (record {
  settings = K;
  opened = behind_head CUT ∷ [];
  journal = JOURNAL;
  matter = matter outs CUT JOURNAL cut_opened (lit≤ tt);
  says = record {
    at = record { why = looks.Fails reading.Cut; port = 1; at = 24; window = None };
    is = refl;
    says = refl;
    entry_list = [];
    before = record { rest = []; lines = refl; front = record { ranged = tt; ports = tt; frames = λ q records is. refl; legal = tt; timed = tt } };
    all = (refl, tt);
  };
})

pub replay_says_cut : Says (Replay (with_outputs OUTPUT)) (holding (with_journal CUT JOURNAL)) (ends.Capture 1 24 caps.Cut)
replay_says_cut = is_cut OUTPUT

pub show_says_cut : Says (Show (with_outputs NO_OUTPUT)) (holding (with_journal CUT JOURNAL)) (ends.Capture 1 24 caps.Cut)
show_says_cut = is_cut NO_OUTPUT

-- ---- a line

-- a record of an empty frame, of which the journal has no line
abbrev pub RECORD : List ℕ
RECORD = head_bytes ++ record_bytes 0 []

record_opened : IsOpened (holding (with_journal RECORD JOURNAL)) (codes "IN") (behind_head RECORD)
unfolding head_decoded
record_opened = record { bytes = RECORD; file = refl; head = refl; body = refl }

line_lacks : (outs : List (List ℕ)) → Says (Replay (with_outputs outs)) (holding (with_journal RECORD JOURNAL)) (ends.WrongLine 2 why.Rest)
unfolding looks.looks looks.stop captures.next text.text lines.format_of
line_lacks outs = record {
  settings = K;
  opened = behind_head RECORD ∷ [];
  journal = JOURNAL;
  matter = matter outs RECORD JOURNAL record_opened (lit≤ tt);
  says = record {
    entry_list = [];
    before = record { rest = []; lines = refl; front = record { ranged = tt; ports = tt; frames = λ q records is. refl; legal = tt; timed = tt } };
    gathered = tt;
    number = refl;
    wrong = (refl, refl);
  };
}

pub replay_says_line : Says (Replay (with_outputs OUTPUT)) (holding (with_journal RECORD JOURNAL)) (ends.WrongLine 2 why.Rest)
replay_says_line = line_lacks OUTPUT

pub show_says_line : Says (Show (with_outputs NO_OUTPUT)) (holding (with_journal RECORD JOURNAL)) (ends.WrongLine 2 why.Rest)
show_says_line = line_lacks NO_OUTPUT

-- ---- an output

-- the output of a run over no record is empty, and has no head
no_record : IsOpened (holding (with_journal head_bytes JOURNAL)) (codes "IN") (behind_head head_bytes)
unfolding head_decoded
no_record = record { bytes = head_bytes; file = refl; head = refl; body = refl }

pub replay_says_output : Says (Replay (with_outputs OUTPUT)) (holding (with_journal head_bytes JOURNAL)) (ends.WrongOutput 1 0)
unfolding text.egress
replay_says_output = record {
  settings = K;
  opened = behind_head head_bytes ∷ [];
  journal = JOURNAL;
  matter = matter OUTPUT head_bytes JOURNAL no_record (lit≤ tt);
  says = record {
    entry_list = [];
    names = names_run 1 (output_in (with_outputs OUTPUT) (holding (with_journal head_bytes JOURNAL)));
    first = (0, refl, lit< tt, (0, refl, record { same = refl; differ = λ is. absurd (cc) }), λ q lt. absurd (omega (arith, lt)));
  };
}

-- ---- captures of more than six hours

-- the lines of the window of the first of two records
abbrev first_frame : Caught
first_frame = record { bytes = []; whole = true }

abbrev pub J : Journal
J = Frame 1 0 first_frame (Dropped (record { rule = rule.EthShort; number = None })) ∷ Tick 0 [] ∷ []

abbrev pub LINES : List ℕ
LINES = codes "journal 2\n0 tick\n0 1 0 dropped eth-short\n"

long_opened : IsOpened (holding (with_journal LONG LINES)) (codes "IN") (behind_head LONG)
unfolding head_decoded
long_opened = record { bytes = LONG; file = refl; head = refl; body = refl }

two_records : looks.all_records (behind_head LONG ∷ []) ≡ (record { moment = 0; caught = first_frame } ∷ record { moment = 21600200; caught = first_frame } ∷ []) ∷ []
unfolding captures.next
two_records = refl

front : IsFront K ((record { moment = 0; caught = first_frame } ∷ record { moment = 21600200; caught = first_frame } ∷ []) ∷ []) J
unfolding verdicts.judged rules.rule_for heard.decoded heard.carried heard.is_flogi eth.decoded legal.is_tick_owed
front = record {
  ranged = ((tt, (lit< tt, (tt, λ k d lt. absurd (omega (arith, lt))))), (lit≤ tt, lit≤ tt, lit< tt, λ k d lt. absurd (omega (arith, lt)), (refl, tt)));
  ports = (tt, lit≤ tt, lit≤ tt);
  frames = fronts;
  legal = ((tt, refl), (refl, refl));
  timed = ((tt, (0, (refl, refl), refl)), refl);
}
  where
    fronts : HoldsFronts J ((record { moment = 0; caught = first_frame } ∷ record { moment = 21600200; caught = first_frame } ∷ []) ∷ [])
    fronts zero records is = cc
    fronts (suc q) records is = absurd (cc)

too_long : (outs : List (List ℕ)) → Says (Replay (with_outputs outs)) (holding (with_journal LONG LINES)) (ends.Limit kinds.Span)
unfolding looks.looks looks.stop captures.next text.text lines.format_of fmt.digits
too_long outs = inr (record {
  settings = K;
  opened = behind_head LONG ∷ [];
  journal = LINES;
  matter = matter outs LONG LINES long_opened (lit≤ tt);
  says = record {
    at = record { why = looks.Span; port = 1; at = 56; window = Some 21600200 };
    is = refl;
    says = refl;
    entry_list = J;
    before = record { rest = []; lines = refl; front = front };
    all = (refl, tt);
  };
})

pub replay_says_span : Says (Replay (with_outputs OUTPUT)) (holding (with_journal LONG LINES)) (ends.Limit kinds.Span)
replay_says_span = too_long OUTPUT

pub show_says_span : Says (Show (with_outputs NO_OUTPUT)) (holding (with_journal LONG LINES)) (ends.Limit kinds.Span)
show_says_span = too_long NO_OUTPUT
