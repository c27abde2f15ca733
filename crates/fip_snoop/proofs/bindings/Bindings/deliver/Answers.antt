use Rattle.std.proofs.Common.{◌∙◌, sym}
use Rattle.fip_codec.specs.Message.{view}
use Rattle.fip_snoop.specs.Snoop.{delivery_to}
use Rattle.fip_snoop.proofs.GrantLemmas.{granted_first, granted_more, told_nothing}
use Rattle.fip_snoop.proofs.KnownLemmas.{granted_already}
use mathlib.Core.Bool.{false≢true}
use Rattle.fip_snoop.proofs.bindings.Bindings.deliver.Goals as goal

pub returns-then-grant-clause-ok : goal.returns-then-grant-clause-ok
returns-then-grant-clause-ok c =
    granted_first c.args.forwarder.now (delivery_to c.args.port c.args.enode.now (view c.args.message.now)) c.args.self.now c.in-Some.grant (sym c.grant_in.ensures ∙ c.in-Some.is)
    c.bound_by-binding.result c.bound_by-binding.ensures c.put.new.self c.end-then-grant.new.self c.if-grant.true c.in_ok-put-in-Some.ensures.ok c.end-then-grant.ensures

pub returns-else-grant-clause-ok : goal.returns-else-grant-clause-ok
returns-else-grant-clause-ok c =
    granted_more c.args.forwarder.now (delivery_to c.args.port c.args.enode.now (view c.args.message.now)) c.args.self.now c.in-Some.grant (sym c.grant_in.ensures ∙ c.in-Some.is)
    c.bound_by-binding.result c.bound_by-binding.ensures c.put.new.self c.if-grant.false c.in_ok-put-in-Some.ensures.ok

pub returns-else-may_end-clause-ok : goal.returns-else-may_end-clause-ok
returns-else-may_end-clause-ok c =
    told_nothing c.args.forwarder.now (delivery_to c.args.port c.args.enode.now (view c.args.message.now)) c.args.self.now c.released_in-released.result
    (sym c.grant_in.ensures ∙ c.in-None.is) c.released_in-released.ensures (sym c.may_end.ensures ∙ c.if-may_end.false)

pub returns-in_err-put-in-Some-clause-known : goal.returns-in_err-put-in-Some-clause-known
returns-in_err-put-in-Some-clause-known c known =
    absurd (false≢true (c.in_err-put-in-Some.ensures.known (granted_already c.args.forwarder.now (delivery_to c.args.port c.args.enode.now (view c.args.message.now)) c.in-Some.grant c.bound_by-binding.result c.args.self.now
    (sym c.grant_in.ensures ∙ c.in-Some.is) c.bound_by-binding.ensures known)))
