-- Advertisements on all ports, one more at a time.
use Rattle.std.proofs.Common.{◌≡◌, ℕ, zero, suc, ◌+◌, List, [], ◌∷◌, ◌++◌, map, refl, sym, ap, subst, ◌∙◌, arith}
use Rattle.std.proofs.lemmas.List.{map-append}
use Rattle.std.proofs.lemmas.List.Elements.{All-map}
use Rattle.std.specs.List.{All}
use Rattle.fab_base.specs.Counting.{counting}
use Rattle.fab_policy.specs.declared.event.Event.{Event}
use Rattle.fab_sending.specs.Message.{AreSendable}
use Rattle.fab_sending.specs.declared.message.Out.{Out}
use Rattle.fab_sending.specs.declared.message.OutMessage.TheVariants as out
use Rattle.fab_sending.specs.Messages.{advertisements, at_moment}
use Rattle.fab_sending.proofs.Sendable.{CanBeSent, sendable_at}

counting-suc : (from n : ℕ) → counting from (suc n) ≡ counting from n ++ (from + n) ∷ []
counting-suc from zero = ap (λ k. k ∷ []) (omega arith)
counting-suc from (suc n) = ap (λ l. from ∷ l) (counting-suc (from + 1) n ∙ ap (λ k. counting (from + 1) n ++ k ∷ []) (omega arith))

-- one more port has one more
pub one_more : (moment index port : ℕ) (before after : List Out) → port ≡ index + 1 → before ≡ at_moment moment (advertisements index) →
    after ≡ before ++ record { port = port; moment = moment; message = out.Advertisement } ∷ [] → after ≡ at_moment moment (advertisements (index + 1))
one_more moment index port before after at was now =
    let one : Out = record { port = 1 + index; moment = moment; message = out.Advertisement } in
    now ∙ ap (λ outs. outs ++ record { port = port; moment = moment; message = out.Advertisement } ∷ []) was
    ∙ ap (λ p. at_moment moment (advertisements index) ++ record { port = p; moment = moment; message = out.Advertisement } ∷ []) (at ∙ omega arith)
    ∙ sym (ap (λ n. at_moment moment (advertisements n)) (let s : index + 1 ≡ suc index = omega arith in s)
    ∙ ap (λ l. at_moment moment (map (λ p. (p, out.Advertisement)) l)) (counting-suc 1 index)
    ∙ ap (at_moment moment) (map-append _ (counting 1 index) ((1 + index) ∷ []))
    ∙ map-append _ (advertisements index) ((1 + index, out.Advertisement) ∷ []))

all_advertise : (events : List Event) (from n : ℕ) → All (CanBeSent events) (map (λ p. (p, out.Advertisement)) (counting from n))
all_advertise events from n = All-map (CanBeSent events) (λ (p : ℕ). (p, out.Advertisement)) (counting from n) (λ i d lt. refl)

pub sendable : (events : List Event) (moment n : ℕ) (outs : List Out) → outs ≡ at_moment moment (advertisements n) → AreSendable events outs
sendable events moment n outs e = subst (AreSendable events) (sym e) (sendable_at events moment (advertisements n) (all_advertise events 1 n))
