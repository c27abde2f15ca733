use Rattle.fabric_tool.proofs.SafeLemmas.{safe}
use Rattle.fabric_tool.proofs.running.legal_is_safe.Goals as goal

pub returns : goal.returns
returns c = safe c.legal_journals.ensures.sound c.legal_journals.ensures.quiet c.legal_journals.ensures.grants c.forwarding_rule.ensures.journal c.legal_journals.ensures.macs c.legal_journals.ensures.named
