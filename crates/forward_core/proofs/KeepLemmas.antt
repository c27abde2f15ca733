-- What is sent already stays so when an entry is added.
use Rattle.std.proofs.Common.{◌≡◌, ℕ, List, [], ◌∷◌, ◌++◌, map, true, refl, ap, ◌∙◌}
use Rattle.std.proofs.lemmas.List.{map-append}
use Rattle.std.proofs.lemmas.List.Elements.{All-head, All-tail}
use Rattle.fab_config.specs.Settings.{Settings}
use Rattle.fab_policy.specs.Outputs.{Sent}
use Rattle.fab_policy.specs.declared.event.Event.{Event}
use Rattle.fab_sending.specs.MessageLaws.{MessagesAreKept}
use Rattle.fab_sending.specs.Message.{AreSendable, can_send, sent_of}
use Rattle.fab_sending.specs.declared.message.Out.{Out}
use Rattle.fab_sending.specs.declared.sends.Sends.{Sends}
use Rattle.forward_core.specs.Fabric.{contents_of, IsFabric}
use Rattle.forward_core.specs.Turns.{Keeps}
use Rattle.forward_core.specs.declared.fabric.Fabric.TheInside.{Inside}

-- a frame with these bytes
abbrev sent_as : Out → List ℕ → Sent
sent_as o bytes = record { port = o.port; moment = o.moment; bytes = bytes }

pub sent_kept : MessagesAreKept → (c : Settings) (es more : List Event) (outs : List Out) → AreSendable es outs → map (sent_of c (es ++ more)) outs ≡ map (sent_of c es) outs
sent_kept kept c es more [] h = refl
sent_kept kept c es more (o ∷ outs) h =
    ap (λ (b : List ℕ). sent_as o b ∷ map (sent_of c (es ++ more)) outs)
    (kept c es more o.message (All-head (λ (x : Out). can_send es x.message ≡ true) o outs h)).0
    ∙ ap (λ l. sent_of c es o ∷ l) (sent_kept kept c es more outs (All-tail (λ (x : Out). can_send es x.message ≡ true) o outs h))

pub keeps : MessagesAreKept → (i : Inside) → IsFabric i → (e : Event) (s : Sends) (events : List Event) (outs : List Out) → events ≡ i.events ++ e ∷ [] → outs ≡ i.outs ++ s.outs →
    Keeps (contents_of i) e s (contents_of (record i { rscns = s.rscns; events = events; outs = outs }))
keeps kept i f e s events outs new sent = record {
  settings = refl;
  count = refl;
  tables = refl;
  advertised = refl;
  rscns = refl;
  events = new;
  outs =
      ap (λ l. map (sent_of i.config l) outs) new ∙ (ap (λ l. map (sent_of i.config (i.events ++ e ∷ [])) l) sent
      ∙ (map-append (sent_of i.config (i.events ++ e ∷ [])) i.outs s.outs
      ∙ ap (λ l. l ++ map (sent_of i.config (i.events ++ e ∷ [])) s.outs) (sent_kept kept i.config i.events (e ∷ []) i.outs f.sendable)));
}
