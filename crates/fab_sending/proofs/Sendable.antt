-- Messages that can be sent.
use Rattle.std.proofs.Common.{◌≡◌, ℕ, List, true}
use Rattle.std.proofs.lemmas.List.Elements.{All-map}
use Rattle.std.specs.List.{All}
use Rattle.fab_policy.specs.declared.event.Event.{Event}
use Rattle.fab_sending.specs.Message.{AreSendable, can_send}
use Rattle.fab_sending.specs.declared.message.Out.{Out}
use Rattle.fab_sending.specs.declared.message.OutMessage.{OutMessage}
use Rattle.fab_sending.specs.Messages.{at_moment}

abbrev pub CanBeSent : List Event → ℕ × OutMessage → Type 0
CanBeSent events x = can_send events x.1 ≡ true

-- messages that can be sent are frames that can
pub sendable_at : (events : List Event) (moment : ℕ) (ms : List (ℕ × OutMessage)) → All (CanBeSent events) ms → AreSendable events (at_moment moment ms)
sendable_at events moment ms h = All-map (λ (out : Out). can_send events out.message ≡ true) _ ms h
