use Rattle.std.proofs.Common.{refl, arith, length, subst, sym, Err}
use Rattle.fab_live.specs.Files.{slots_of}
use Rattle.fab_live.specs.Live.{LiveRuns}
use Rattle.fab_live.proofs.LoopLemmas.{looping_first, looping_input, ended, failed, no_port, kept_here, running_here, room, refused, looping_on, read_as, read_less}
use Rattle.fab_live.specs.Ready.{nothing_of_live}
use Rattle.fab_live.proofs.ReadyLemmas.{room_of}
use Rattle.fab_live.proofs.run.follow.Goals as goal

pub packets-init : goal.packets-init
packets-init g c =
    let seen = g.D.Depot.seen in
    looping_first c.args.live.now.fabric.settings (slots_of c.args.files.now) c.args.stream c.args.budget (seen c.args.depot.now) c.requires.open c.args.live.now c.new-packets.result c.new-packets.ensures c.requires.running

pub next-requires : goal.next-requires
next-requires g c =
    let seen = g.D.Depot.seen in
    record {
      input = looping_input c.args.live.now.fabric.settings (slots_of c.args.files.now) c.args.stream c.args.budget (seen c.args.depot.now) c.packets.live c.packets.packets (seen c.packets.depot) c.packets.invariant;
    }

pub returns-in-Err : goal.returns-in-Err
returns-in-Err g c =
    let seen = g.D.Depot.seen in
    record {
      runs =
          subst (λ e. LiveRuns c.args.live.now.fabric.settings c.args.budget c.args.stream (slots_of c.args.files.now) (seen c.args.depot.now) (seen c.next.new.depot) (Err e)) (sym c.ending.ensures)
          (failed c.args.live.now.fabric.settings (slots_of c.args.files.now) c.args.stream c.args.budget (seen c.args.depot.now) c.packets.live c.packets.packets (seen c.packets.depot) c.packets.invariant c.next.new.self (seen c.next.new.depot) c.in-Err.error c.in-Err.ensures.reads);
    }

pub returns-in_default : goal.returns-in_default
returns-in_default g c =
    let seen = g.D.Depot.seen in
    record { runs = ended c.args.live.now.fabric.settings (slots_of c.args.files.now) c.args.stream c.args.budget (seen c.args.depot.now) c.packets.live c.packets.packets (seen c.packets.depot) c.packets.invariant c.next.new.self (seen c.next.new.depot) c.limits-frames.ensures.0 (read_as _ _ _ _ _ c.in_default.is c.in-Ok.ensures.reads) }

pub returns-then-packet-files : goal.returns-then-packet-files
returns-then-packet-files g c =
    let seen = g.D.Depot.seen in
    record { runs = no_port c.args.live.now.fabric.settings (slots_of c.args.files.now) c.args.stream c.args.budget (seen c.args.depot.now) c.packets.live c.packets.packets (seen c.packets.depot) c.packets.invariant c.next.new.self (seen c.next.new.depot) c.in-Some.packet (read_as _ _ _ _ _ c.in-Some.is c.in-Ok.ensures.reads) (let h = c.if-packet-files.true in omega (arith, h)) }

pub take-requires-clause-ready : goal.take-requires-clause-ready
take-requires-clause-ready g c κs within =
    let seen = g.D.Depot.seen in
    (running_here c.args.live.now.fabric.settings (slots_of c.args.files.now) c.args.stream c.args.budget (seen c.args.depot.now) c.packets.live c.packets.packets (seen c.packets.depot) c.packets.invariant c.next.new.self (seen c.next.new.depot) c.in-Some.packet (read_as _ _ _ _ _ c.in-Some.is c.in-Ok.ensures.reads)).ready

pub take-requires-clause-face : goal.take-requires-clause-face
take-requires-clause-face g c κs within = let h = c.if-packet-files.false in omega (arith, h)

pub take-requires-clause-kept : goal.take-requires-clause-kept
take-requires-clause-kept g c κs within =
    let seen = g.D.Depot.seen in
    kept_here c.args.live.now.fabric.settings (slots_of c.args.files.now) c.args.stream c.args.budget (seen c.args.depot.now) c.packets.live c.packets.packets (seen c.packets.depot) c.packets.invariant c.next.new.self (seen c.next.new.depot) c.in-Some.packet (read_as _ _ _ _ _ c.in-Some.is c.in-Ok.ensures.reads)

pub take-requires-clause-room : goal.take-requires-clause-room
take-requires-clause-room g c κs within =
    let seen = g.D.Depot.seen in
    let all = room c.args.live.now.fabric.settings (slots_of c.args.files.now) c.args.stream c.args.budget (seen c.args.depot.now) c.packets.live c.packets.packets (seen c.packets.depot) c.packets.invariant c.next.new.self (seen c.next.new.depot) c.in-Some.packet (read_as _ _ _ _ _ c.in-Some.is c.in-Ok.ensures.reads) c.limits-frames.ensures.1 in (
      all,
      room_of c.args.live.now.fabric.settings (length c.args.files.now.outs.now) (slots_of c.args.files.now) c.packets.invariant.packets c.packets.invariant.entry_list c.packets.live _ refl (running_here c.args.live.now.fabric.settings (slots_of c.args.files.now) c.args.stream c.args.budget (seen c.args.depot.now) c.packets.live c.packets.packets (seen c.packets.depot) c.packets.invariant c.next.new.self (seen c.next.new.depot) c.in-Some.packet (read_as _ _ _ _ _ c.in-Some.is c.in-Ok.ensures.reads)) all c.in-Some.packet.face,
    )

pub same-packets : goal.same-packets
same-packets g c = refl

pub packets-smaller : goal.packets-smaller
packets-smaller g c =
    let seen = g.D.Depot.seen in
    read_less _ _ _ _ _ _ (read_as _ _ _ _ _ c.in-Some.is c.in-Ok.ensures.reads)

pub packets-preserved : goal.packets-preserved
packets-preserved g c =
    let seen = g.D.Depot.seen in
    let r = read_as _ _ _ _ _ c.in-Some.is c.in-Ok.ensures.reads in
    let on = c.in-Ok-take.ensures.takes c.args.live.now.fabric.settings (nothing_of_live c.args.live.now.fabric.settings (length c.args.files.now.outs.now)) c.packets.invariant.packets c.packets.invariant.entry_list (running_here c.args.live.now.fabric.settings (slots_of c.args.files.now) c.args.stream c.args.budget (seen c.args.depot.now) c.packets.live c.packets.packets (seen c.packets.depot) c.packets.invariant c.next.new.self (seen c.next.new.depot) c.in-Some.packet r) in
    looping_on c.args.live.now.fabric.settings (slots_of c.args.files.now) c.args.stream c.args.budget (seen c.args.depot.now) c.packets.live c.packets.packets (seen c.packets.depot) c.packets.invariant c.next.new.self (seen c.next.new.depot) c.in-Some.packet r (seen c.take.new.depot) c.take.new.self on.0 c.in-Ok-take.ensures.uses on.2

pub returns-in-Err-take : goal.returns-in-Err-take
returns-in-Err-take g c =
    let seen = g.D.Depot.seen in
    let r = read_as _ _ _ _ _ c.in-Some.is c.in-Ok.ensures.reads in
    record {
      runs =
          refused c.args.live.now.fabric.settings (slots_of c.args.files.now) c.args.stream c.args.budget (seen c.args.depot.now) c.packets.live c.packets.packets (seen c.packets.depot) c.packets.invariant c.next.new.self (seen c.next.new.depot) c.in-Some.packet r (let h = c.if-packet-files.false in omega (arith, h)) (seen c.take.new.depot) c.in-Err-take.fault c.in-Err-take.ensures.uses
          (c.in-Err-take.ensures.takes c.args.live.now.fabric.settings (nothing_of_live c.args.live.now.fabric.settings (length c.args.files.now.outs.now)) c.packets.invariant.packets c.packets.invariant.entry_list (running_here c.args.live.now.fabric.settings (slots_of c.args.files.now) c.args.stream c.args.budget (seen c.args.depot.now) c.packets.live c.packets.packets (seen c.packets.depot) c.packets.invariant c.next.new.self (seen c.next.new.depot) c.in-Some.packet r));
    }
