use Rattle.std.proofs.Common.{◌∙◌, [], ◌∷◌, ◌++◌, ap, refl, sym, subst}
use Rattle.fab_policy.specs.Standing.{Contents, Takes}
use Rattle.fab_policy.specs.State.{addresses, overdue}
use Rattle.fab_policy.specs.declared.event.Event.TheVariants.{Tick}
use Rattle.fab_roster.specs.Roll.{addresses_of}
use Rattle.fab_sending.proofs.Counting.{addresses_same}
use Rattle.fab_sending.specs.Sends.{AreSent}
use Rattle.forward_core.specs.Fabric.{contents_of}
use Rattle.forward_core.specs.Turns.{Keeps}
use Rattle.forward_core.proofs.TakeLemmas.{sent_for}
use Rattle.forward_core.proofs.TickLemmas.{tick_takes}
use Rattle.forward_core.proofs.fabric.Fabric.tick.Goals as goal

pub keep-requires-clause-sendable : goal.keep-requires-clause-sendable
keep-requires-clause-sendable c =
    let events = c.args.self.now.events ++ Tick c.args.moment c.in_ok-addresses.addresses ∷ [] in
    (sent_for c.before-2.result c.args.self.now (Tick c.args.moment (addresses_of c.in_ok-ended.ended)) events c.in_ok-sends.sends c.before-2.ensures.is (c.in_ok-sends.ensures.sent events)).sendable

turn : (c : goal.After-drop-ended-inside-2) → Takes c.args.self.now (Tick c.args.moment (addresses (overdue c.args.self.now.settings c.args.self.now.state.tables c.args.moment)))
    (contents_of (record c.self.inside { roster = c.end_all.new.self; advertised = c.advertised_after-self-inside.result }))
turn c =
    let F = c.args.self.now in
    tick_takes c.tables_change.ensures.tick F c.self.inside c.self.invariant c.args.moment c.in_ok-addresses.addresses (addresses_of c.in_ok-ended.ended) c.in_ok-sends.sends c.set_clock.new.self c.end_all.new.self c.advertised_after-self-inside.result
    (subst (λ (K : Contents). Keeps F (Tick c.args.moment c.in_ok-addresses.addresses) c.in_ok-sends.sends K) (sym c.self.view_is) c.in_ok-keep.ensures.ok)
    (subst (λ l. AreSent F.settings F.count F.state (Tick c.args.moment l) (F.events ++ Tick c.args.moment l ∷ []) c.in_ok-sends.sends) (sym c.in_ok-addresses.ensures)
    (sent_for c.before-2.result F (Tick c.args.moment (addresses_of c.in_ok-ended.ended)) (F.events ++ Tick c.args.moment (addresses_of c.in_ok-ended.ended) ∷ []) c.in_ok-sends.sends c.before-2.ensures.is
    (c.in_ok-sends.ensures.sent (F.events ++ Tick c.args.moment (addresses_of c.in_ok-ended.ended) ∷ []))))
    c.in_ok-addresses.ensures (ap addresses_of c.in_ok-ended.ensures.logins ∙ addresses_same (overdue F.settings F.state.tables c.args.moment)) c.set_clock.ensures.change c.end_all.ensures.change c.end_all.ensures.sound (c.advertised_after-self-inside.ensures.after (addresses_of c.in_ok-ended.ended))

pub returns-clause-takes : goal.returns-clause-takes
returns-clause-takes c = turn c

pub returns-clause-journal : goal.returns-clause-journal
returns-clause-journal c J legal stands =
    let F = c.args.self.now in
    let e = Tick c.args.moment (addresses (overdue F.settings F.state.tables c.args.moment)) in (
      c.fabric_steps.ensures.legal F e J legal stands refl,
      c.fabric_steps.ensures.after F (contents_of (record c.self.inside { roster = c.end_all.new.self; advertised = c.advertised_after-self-inside.result })) e J stands (turn c),
    )
