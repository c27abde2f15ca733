use Rattle.std.proofs.Common.{◌-◌, length, [], Err, refl, sym, ap, ◌∙◌, subst}
use Rattle.pcap_file.specs.declared.Budget.{Budget}
use Rattle.fab_policy.specs.Outputs.{state_of}
use Rattle.fab_replay.proofs.ResultLemmas.{err_is}
use Rattle.fabric_tool.specs.Command.{names_of}
use Rattle.fabric_tool.specs.Checking.{IsChecked}
use Rattle.fabric_tool.specs.Inputs.{MOST_BYTES, MOST_FRAMES}
use Rattle.fabric_tool.proofs.CheckLemmas.{heads_ended, outs_ended, no_fabric, checks_as, check_done, check_refused}
use Rattle.fabric_tool.proofs.SlotLemmas.{handed}
use Rattle.fabric_tool.proofs.UseLemmas.{used_touches}
use Rattle.fabric_tool.proofs.TouchLemmas.{heads_own, outs_own, check_own}
use Rattle.fabric_tool.proofs.replaying.check.Goals as goal

pub returns-in_err-ins : goal.returns-in_err-ins
returns-in_err-ins g c =
    let seen = g.D.Depot.seen in
    let d = seen c.heads_of.new.depot in
    record {
      checks = λ a given.
          subst (IsChecked c.args.width (names_of c.args.width c.args.words.now) a d) (err_is c.from_residual.result _ c.from_residual.ensures.1)
          (heads_ended c.args.width c.args.words.now c.requires.ports c.args.config c.args.journal.now a (seen c.args.depot.now) given c.requires.room d _ _ c.in_err-ins.field-0.0 c.in_err-ins.ensures.reads);
      touches = heads_own c.args.width c.args.words.now _ _ c.in_err-ins.ensures.reads.uses;
    }

pub returns-in-Err : goal.returns-in-Err
returns-in-Err g c =
    let seen = g.D.Depot.seen in
    let heads = c.in_ok-ins.ensures.reads in
    let outs = c.in-Err.ensures.reads in
    let had : Budget = record { bytes = MOST_BYTES - length c.args.journal.now; frames = MOST_FRAMES } in
    record {
      checks = λ a given. outs_ended c.args.width c.args.words.now c.requires.ports c.args.config c.args.journal.now a (seen c.args.depot.now) given
          (seen c.heads_of.new.depot) c.in_ok-ins.ins.items had c.heads_of.new.budget heads.heads heads.uses heads.taken refl refl c.requires.room (seen c.outs_of.new.depot) outs.uses;
      touches = outs_own c.args.width c.args.words.now _ _ _ heads.uses outs.uses;
    }

pub returns-in_default : goal.returns-in_default
returns-in_default g c =
    let seen = g.D.Depot.seen in
    let heads = c.in_ok-ins.ensures.reads in
    let outs = c.in-Ok.ensures.reads in
    let had : Budget = record { bytes = MOST_BYTES - length c.args.journal.now; frames = MOST_FRAMES } in
    record {
      checks = λ a given. no_fabric c.args.width c.args.words.now c.requires.ports c.args.config c.args.journal.now a (seen c.args.depot.now) given
          (seen c.heads_of.new.depot) c.in_ok-ins.ins.items had c.heads_of.new.budget heads.heads heads.uses heads.taken refl refl c.requires.room
          (seen c.outs_of.new.depot) c.in-Ok.outs.items outs.uses outs.slots;
      touches = outs_own c.args.width c.args.words.now _ _ _ heads.uses outs.uses;
    }

pub check_captures-requires : goal.check_captures-requires
check_captures-requires g c =
    let seen = g.D.Depot.seen in
    let heads = c.in_ok-ins.ensures.reads in
    let outs = c.in-Ok.ensures.reads in
    let bytes = heads.taken.0 in
    let frames = heads.taken.1 in
    let new = c.in-Ok-new.ensures in
    let h = handed c.args.width c.args.words.now c.requires.ports (seen c.args.depot.now) (seen c.heads_of.new.depot) (seen c.outs_of.new.depot) c.in_ok-ins.ins.items heads.heads c.in-Ok.outs.items (used_touches outs.uses) outs.slots
    c.deref_mut.result.now c.as_slice.result.now c.deref_mut.ensures.value c.as_slice.ensures.value in
    record {
      ports = h.ports;
      outputs = h.outputs;
      inputs = h.inputs;
      fresh = h.fresh;
      count = new.settings.1 ∙ c.count_of.ensures.value ∙ sym h.count;
      state = new.state ∙ ap (λ s. state_of s []) (sym new.settings.0);
      nothing = new.nothing;
    }

pub returns-in-Ok-check_captures : goal.returns-in-Ok-check_captures
returns-in-Ok-check_captures g c =
    let seen = g.D.Depot.seen in
    let heads = c.in_ok-ins.ensures.reads in
    let outs = c.in-Ok.ensures.reads in
    let new = c.in-Ok-new.ensures.settings.0 in
    let had : Budget = record { bytes = MOST_BYTES - length c.args.journal.now; frames = MOST_FRAMES } in
    record {
      checks = λ a given. check_done c.args.width c.args.words.now c.requires.ports c.args.config c.args.journal.now a (seen c.args.depot.now) given
          (seen c.heads_of.new.depot) c.in_ok-ins.ins.items had c.heads_of.new.budget heads.heads heads.uses heads.taken refl refl c.requires.room
          (seen c.outs_of.new.depot) c.in-Ok.outs.items outs.uses outs.slots
          (seen c.check_captures.new.depot) c.check_captures.new.fabric (c.check_captures.ensures.settings ∙ new) c.check_captures.result
          (checks_as new c.deref_mut.ensures.value c.as_slice.ensures.value c.check_captures.ensures.checks)
          c.check_captures.ensures.counts
          c.in-Ok-check_captures.entries c.in-Ok-check_captures.is;
      touches = check_own c.args.width c.args.words.now c.requires.ports (seen c.args.depot.now) (seen c.heads_of.new.depot) (seen c.outs_of.new.depot) (seen c.check_captures.new.depot) c.in_ok-ins.ins.items heads.heads heads.uses c.in-Ok.outs.items outs.uses outs.slots
          (checks_as new c.deref_mut.ensures.value c.as_slice.ensures.value c.check_captures.ensures.checks);
    }

-- a fault of the check
pub returns : goal.returns
returns g c =
    let seen = g.D.Depot.seen in
    let heads = c.in_ok-ins.ensures.reads in
    let outs = c.in-Ok.ensures.reads in
    let new = c.in-Ok-new.ensures.settings.0 in
    let had : Budget = record { bytes = MOST_BYTES - length c.args.journal.now; frames = MOST_FRAMES } in
    let k = names_of c.args.width c.args.words.now in
    record {
      checks = λ a given. subst (λ x. IsChecked c.args.width k a (seen c.check_captures.new.depot) (Err x)) (sym c.refused.ensures)
          (check_refused c.args.width c.args.words.now c.requires.ports c.args.config c.args.journal.now a (seen c.args.depot.now) given
          (seen c.heads_of.new.depot) c.in_ok-ins.ins.items had c.heads_of.new.budget heads.heads heads.uses heads.taken refl refl c.requires.room
          (seen c.outs_of.new.depot) c.in-Ok.outs.items outs.uses outs.slots
          (seen c.check_captures.new.depot) c.check_captures.new.fabric (c.check_captures.ensures.settings ∙ new) c.check_captures.result
          (checks_as new c.deref_mut.ensures.value c.as_slice.ensures.value c.check_captures.ensures.checks)
          c.check_captures.ensures.counts
          c.in-Err-check_captures.fault c.in-Err-check_captures.is);
      touches = check_own c.args.width c.args.words.now c.requires.ports (seen c.args.depot.now) (seen c.heads_of.new.depot) (seen c.outs_of.new.depot) (seen c.check_captures.new.depot) c.in_ok-ins.ins.items heads.heads heads.uses c.in-Ok.outs.items outs.uses outs.slots
          (checks_as new c.deref_mut.ensures.value c.as_slice.ensures.value c.check_captures.ensures.checks);
    }
