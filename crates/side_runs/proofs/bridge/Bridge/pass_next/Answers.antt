use Rattle.std.proofs.Common.{◌∙◌, ◌+◌, ℕ, get_or, refl, ap, subst, arith}
use Rattle.std.proofs.lemmas.Option.{slice_get-get_or}
use Rattle.fip_snoop.specs.Queue.{least, left_in}
use Rattle.side_runs.specs.State.{Passes}
use Rattle.side_runs.proofs.StepLemmas.{passes_next, stepped_on}
use Rattle.side_runs.proofs.bridge.Bridge.pass_next.Goals as goal

pub returns : goal.returns
returns c =
    let ins = c.args.ins.now in
    let i = c.args.place in
    let old = c.args.self.now in
    let mid = c.pass.new.self in
    let n = c.requires.next in
    let r = c.next_record-found.result.now in
    let p : Passes (i + 1) r old mid = subst (λ (q : ℕ). Passes q r old mid) c.at.ensures c.in_ok-pass.ensures in
    let k = get_or old.places.items i 0 in
    record {
      passes = passes_next ins i k r old mid _ p c.requires.ascend n.frame_ (c.next_record-found.ensures.next n.frame_ (ap (λ l. least 1 (left_in ins l)) c.deref.ensures.value ∙ n.is) n.port_) n.is
          (slice_get-get_or old.places.items i 0 (omega (arith, n.count, n.within)))
          (stepped_on i old.places mid.places c.deref_mut.result.now c.step_on.new.places p.places c.deref_mut.ensures.value c.step_on.ensures)
          refl refl refl refl;
    }
