use Rattle.std.proofs.Common.{inl, refl, sym, ◌∙◌, subst}
use Rattle.fabric_tool.specs.Command.{Live, live_of}
use Rattle.fabric_tool.specs.Ends.{Holds}
use Rattle.fabric_tool.proofs.LivingLemmas.{known_stream, known_on, in_as, stream_closed, not_recorded, given_live, given_as, live_ended, lives_as}
use Rattle.fabric_tool.proofs.TouchLemmas.{own_input, stream_own, recorded_own, lived_own}
use Rattle.fabric_tool.proofs.live.live.Goals as goal

pub returns-in-Err : goal.returns-in-Err
returns-in-Err g c = record { holds = c.in-Err.ensures.prepares.ended; touches = own_input (Live (live_of c.args.words.now)) _ _ _ (inl refl) c.in-Err.ensures.prepares.uses }

pub open_in-requires : goal.open_in-requires
open_in-requires g c =
    let seen = g.D.Depot.seen in
    known_stream c.args.words.now c.requires.live (seen c.args.depot.now) (seen c.fabric_of.new.depot) c.in-Ok.ensures.prepares.uses.touches.knows c.requires.known c.word_at.result.now c.word_at.ensures

pub returns-in_default : goal.returns-in_default
returns-in_default g c =
    let seen = g.D.Depot.seen in
    let p = c.in-Ok.ensures.prepares in
    let s = seen c.open_in.new.self in
    record {
      holds = stream_closed c.args.words.now c.requires.live c.legal_is_safe.ensures c.packets_in_order_are_read_back.ensures c.records_come_later.ensures.nothing c.in-Ok.fabric.settings p.fabric.range
          (seen c.args.depot.now) (seen c.fabric_of.new.depot) s s p.config p.uses c.in_default.field-0 (in_as c.word_at.ensures c.in_default.ensures.opens);
      touches = stream_own c.args.words.now c.requires.live _ _ _ p.uses (in_as c.word_at.ensures c.in_default.ensures.opens);
    }

pub open_recorded-requires-clause-known : goal.open_recorded-requires-clause-known
open_recorded-requires-clause-known g c =
    let seen = g.D.Depot.seen in
    known_on c.args.words.now (seen c.args.depot.now) (seen c.open_in.new.self) (λ m. c.in-Ok-open_in.ensures.opens.reads.keeps.knows m ∙ c.in-Ok.ensures.prepares.uses.touches.knows m) c.requires.known

pub returns-in-Err-open_recorded : goal.returns-in-Err-open_recorded
returns-in-Err-open_recorded g c =
    let seen = g.D.Depot.seen in
    let p = c.in-Ok.ensures.prepares in
    record {
      holds = not_recorded c.args.words.now c.requires.live c.legal_is_safe.ensures c.packets_in_order_are_read_back.ensures c.records_come_later.ensures.nothing c.in-Ok.fabric.settings p.fabric.range
          (seen c.args.depot.now) (seen c.fabric_of.new.depot) (seen c.open_in.new.self) (seen c.open_recorded.new.depot) p.config p.uses
          c.in-Ok-open_in.stream (in_as c.word_at.ensures c.in-Ok-open_in.ensures.opens) c.in-Err-open_recorded.ensures.opens;
      touches = recorded_own c.args.words.now c.requires.live _ _ _ p.uses (in_as c.word_at.ensures c.in-Ok-open_in.ensures.opens) _ c.in-Err-open_recorded.ensures.opens;
    }

pub run_live-requires-clause-given : goal.run_live-requires-clause-given
run_live-requires-clause-given g c κs within =
    let seen = g.D.Depot.seen in
    let p = c.in-Ok.ensures.prepares in
    given_as c.as_slice.ensures.value c.as_slice-2.ensures.value
    (given_live c.args.words.now c.requires.live c.legal_is_safe.ensures c.packets_in_order_are_read_back.ensures c.records_come_later.ensures.nothing c.in-Ok.fabric.settings p.fabric.range
    (seen c.args.depot.now) (seen c.fabric_of.new.depot) (seen c.open_in.new.self) (seen c.open_recorded.new.depot) p.config p.uses
    c.in-Ok-open_in.stream (in_as c.word_at.ensures c.in-Ok-open_in.ensures.opens) c.in-Ok-open_recorded.recorded c.in-Ok-open_recorded.ensures.opens c.in-Ok-open_recorded.ensures.width)

pub returns : goal.returns
returns g c =
    let seen = g.D.Depot.seen in
    let p = c.in-Ok.ensures.prepares in
    let old = seen c.args.depot.now in
    let b = seen c.run_live.new.depot in
    record {
      holds = subst (Holds (Live (live_of c.args.words.now)) old b) (sym c.lived.ensures)
          (live_ended c.args.words.now c.requires.live c.legal_is_safe.ensures c.packets_in_order_are_read_back.ensures c.records_come_later.ensures.nothing c.in-Ok.fabric.settings p.fabric.range
          old (seen c.fabric_of.new.depot) (seen c.open_in.new.self) (seen c.open_recorded.new.depot) p.config p.uses
          c.in-Ok-open_in.stream (in_as c.word_at.ensures c.in-Ok-open_in.ensures.opens) c.in-Ok-open_recorded.recorded c.in-Ok-open_recorded.ensures.opens c.in-Ok-open_recorded.ensures.width
          b c.run_live.result (lives_as c.as_slice.ensures.value c.as_slice-2.ensures.value c.run_live.ensures.runs));
      touches = lived_own c.args.words.now c.requires.live _ _ _ _ b c.in-Ok-open_in.stream c.in-Ok-open_recorded.recorded p.uses (in_as c.word_at.ensures c.in-Ok-open_in.ensures.opens) c.in-Ok-open_recorded.ensures.opens c.in-Ok-open_recorded.ensures.width
          (lives_as c.as_slice.ensures.value c.as_slice-2.ensures.value c.run_live.ensures.runs);
    }
