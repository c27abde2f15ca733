-- Packets of a stream as the frames of two ports: in which order they are taken, and what they are a run of.
use Rattle.std.specs.Prelude.{◌≡◌, ℕ, ◌<◌, List, [], ◌∷◌, ◌++◌, refl}
use Rattle.std.proofs.Common.{lit≤, lit<, arith}
use Rattle.std.proofs.lemmas.Bool.{true≢false}
use Rattle.fab_base.specs.Layout.{zeros}
use Rattle.fab_base.specs.declared.values.Caught.{Caught}
use Rattle.pcap_file.specs.declared.Record.{Record}
use Rattle.pcapng_file.specs.declared.NgRecord.{NgRecord}
use Rattle.eth_frames.specs.Ethernet as eth
use Rattle.heard_frames.specs.Heard as heard
use Rattle.fab_policy.specs.Cause as cause
use Rattle.fab_policy.specs.Journal.{Journal}
use Rattle.fab_policy.specs.Legal as legal
use Rattle.fab_policy.specs.Rules as rules
use Rattle.fab_policy.specs.Verdicts as verdicts
use Rattle.fab_policy.specs.declared.event.Event.TheVariants.{Tick, Frame}
use Rattle.fab_policy.specs.declared.verdict.Rule.TheVariants as rule
use Rattle.fab_policy.specs.declared.verdict.Verdict.TheVariants.{Dropped}
use Rattle.examples.specs.Given.{K, whole}
use Rattle.fab_live.specs.Arriving.{arrived, records_of, AllFaces, IsInSpan}

-- a frame that a feeder makes up where nothing came: 14 bytes of an Ethertype that no forwarder has
abbrev pub mark : Caught
mark = whole (zeros 12 ++ 0x88 ∷ 0xb5 ∷ [])

abbrev pub packet : ℕ → ℕ → NgRecord
packet moment face = record { moment = moment; caught = mark; original = 14; face = face }

abbrev pub taken : ℕ → Record
taken moment = record { moment = moment; caught = mark }

-- ---- time

-- a packet with an earlier time is taken at the greatest so far
pub at_the_greatest : arrived 0 (packet 205 0 ∷ packet 198 1 ∷ packet 211 0 ∷ []) ≡ packet 205 0 ∷ packet 205 1 ∷ packet 211 0 ∷ []
at_the_greatest = refl

-- and so it's of the window in which the forwarder stands
pub on_their_ports : records_of 2 (arrived 0 (packet 205 0 ∷ packet 198 1 ∷ packet 211 0 ∷ [])) ≡ (taken 205 ∷ taken 211 ∷ []) ∷ (taken 205 ∷ []) ∷ []
on_their_ports = refl

-- six hours from the first window to the last are within the span, and one window more isn't
pub in_span : IsInSpan K (packet 250 0 ∷ packet 21600299 0 ∷ [])
in_span = (refl, (refl, tt))

pub past_span : IsInSpan K (packet 250 0 ∷ packet 21600300 0 ∷ []) → ⊥
past_span h = true≢false h.1.0

-- ---- ports

-- two ports have no packet of an interface 2
pub no_such_port : AllFaces 2 (packet 205 0 ∷ packet 206 2 ∷ []) → ⊥
no_such_port h = let lt : 2 < 2 = h.1.0 in absurd (omega (arith, lt))

-- ---- two in one window

-- port 2's packet comes first, and then one of port 1 with an earlier time
abbrev pub packets : List NgRecord
packets = packet 205 1 ∷ packet 203 0 ∷ []

abbrev pub J : Journal
J = Frame 1 0 mark (Dropped (cause.plain rule.Ethertype)) ∷ Frame 2 0 mark (Dropped (cause.plain rule.Ethertype)) ∷ Tick 200 [] ∷ []

-- they are entries in the order of the stream, behind the tick of their window
pub run : legal.Run K (records_of 2 (arrived 0 packets)) J
unfolding verdicts.judged rules.rule_for heard.decoded heard.carried heard.is_flogi eth.decoded legal.is_tick_owed
run = record {
  ports = ((tt, lit≤ tt, lit≤ tt), lit≤ tt, lit≤ tt);
  frames = (refl, (refl, tt));
  legal = (((tt, refl), (refl, refl)), (refl, refl));
  timed = (((tt, (200, (refl, refl), refl)), refl), refl);
}

pub on_ports : AllFaces 2 packets
on_ports = (lit< tt, (lit< tt, tt))
