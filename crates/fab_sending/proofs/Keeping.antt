-- What can be sent stays so when entries are added.
use Rattle.std.proofs.Common.{◌≡◌, ℕ, zero, suc, true, List, [], ◌∷◌, ◌++◌, Option, Some, None, refl, sym, ap, ◌∙◌, slice_get, option_and_then}
use Rattle.fab_config.specs.Settings.{Settings}
use Rattle.fab_base.specs.declared.values.Caught.{Caught}
use Rattle.fab_policy.specs.declared.event.Event.{Event}
use Rattle.fab_sending.specs.Message.{bytes_of, can_send, can_go_on, sent_on, frame_at, caught_in}
use Rattle.fab_sending.specs.declared.message.OutMessage.{OutMessage}
use Rattle.fab_sending.specs.declared.message.OutMessage.TheVariants.{Vlans, Solicited, Advertisement, LoginAccept, LoginReply, ServiceReply, Ct, Clear, Rscn, Forwarded}

none_some : {X : Type 0} (x : X) → None ≡ Some x → ⊥
none_some x j = cc

-- an entry that is there stays at its place
get_kept : (i : ℕ) (es more : List Event) (e : Event) → slice_get es i ≡ Some e → slice_get (es ++ more) i ≡ Some e
get_kept i [] more e h = absurd (none_some e h)
get_kept zero (x ∷ es) more e h = h
get_kept (suc i) (x ∷ es) more e h = get_kept i es more e h

frame_kept : (i : ℕ) (es more : List Event) (f : Caught) → frame_at i es ≡ Some f → frame_at i (es ++ more) ≡ Some f
frame_kept i es more f h = go (slice_get es i) refl h
  where
    go : (o : Option Event) → slice_get es i ≡ o → option_and_then caught_in o ≡ Some f → option_and_then caught_in (slice_get (es ++ more) i) ≡ Some f
    go None e j = absurd (none_some f j)
    go (Some x) e j = ap (λ o. option_and_then caught_in o) (get_kept _ es more x e) ∙ j

pub kept : (c : Settings) (es more : List Event) (m : OutMessage) → can_send es m ≡ true → (bytes_of c (es ++ more) m ≡ bytes_of c es m) × (can_send (es ++ more) m ≡ true)
unfolding bytes_of
kept c es more (Forwarded entry to) h = go (frame_at entry es) refl h
  where
    none_goes : can_go_on None ≡ true → ⊥
    none_goes j = cc

    go : (o : Option Caught) → frame_at entry es ≡ o → can_go_on o ≡ true →
        (bytes_of c (es ++ more) (Forwarded entry to) ≡ bytes_of c es (Forwarded entry to)) × (can_send (es ++ more) (Forwarded entry to) ≡ true)
    go None e j = absurd (none_goes j)
    go (Some f) e j =
        let same : frame_at entry (es ++ more) ≡ frame_at entry es = frame_kept entry es more f e ∙ sym e in
        (ap (λ o. sent_on c to o) same, ap (λ o. can_go_on o) (same ∙ e) ∙ j)
kept c es more (Vlans to untagged) h = (refl, h)
kept c es more (Solicited to size) h = (refl, h)
kept c es more Advertisement h = (refl, h)
kept c es more (LoginAccept to kind port several address) h = (refl, h)
kept c es more (LoginReply to kind answer) h = (refl, h)
kept c es more (ServiceReply to answer) h = (refl, h)
kept c es more (Ct to count last payload) h = (refl, h)
kept c es more (Clear to ports) h = (refl, h)
kept c es more (Rscn watcher affected ox_id) h = (refl, h)
