-- A packet, by the interface that it names.
use Rattle.std.proofs.Common.{◌≡◌, ℕ, ◌-◌, Bool, false, not, eqb, List, ◌∷◌, length, Option, Some, None, Ok, Err, refl, sym, ap, ◌∙◌, subst}
use Rattle.std.specs.Prelude.{Result, nat_lt, is_none, unwrap_or}
use Rattle.std.proofs.lemmas.Bool.{eq-eqb}
use Rattle.pcap_file.specs.Capture.{at_place}
use Rattle.pcapng_file.specs.declared.fault.NgWhy.{NgWhy}
use Rattle.pcapng_file.specs.declared.fault.NgWhy.TheVariants as why
use Rattle.pcapng_file.specs.declared.fault.NgError.{NgError}
use Rattle.pcapng_file.specs.declared.fault.NgError.TheVariants as errors
use Rattle.pcapng_file.specs.declared.block.Interface.{Interface}
use Rattle.pcapng_file.specs.declared.block.Head.{Head}
use Rattle.pcapng_file.specs.declared.block.Kind.{Kind}
use Rattle.pcapng_file.specs.declared.block.Kind.TheVariants as kinds
use Rattle.pcapng_file.specs.declared.packet.Content.{Content}
use Rattle.pcapng_file.specs.declared.packet.Content.TheVariants as says
use Rattle.pcapng_file.specs.declared.NgRecord.{NgRecord}
use Rattle.pcapng_file.specs.Block.{test, first, unless, padded, stored, no_interface, interface_at, timed_tests, record_of, record_in, timed_read, packet_read, packet_tests, kind_tests, content_of, body_read}
use Rattle.fab_base.proofs.EndingLemmas.{said_so}
use Rattle.pcapng_file.specs.File.{AsksLast, ng_end, TellsRead, at_fault}

abbrev ladder : Bool → Option Interface → Bool → List ℕ → Result NgRecord NgWhy
ladder past face big b = unless (first (test past why.Length ∷ test (is_none face) why.Interface ∷ timed_tests (unwrap_or face no_interface) big b)) (record_of (unwrap_or face no_interface) big b)

packet_is : (big : Bool) (faces : List Interface) (b : List ℕ) → packet_read big faces b ≡ ladder (nat_lt (length b - 32) (padded (stored big b))) (interface_at big faces b) big b
unfolding packet_read
packet_is big faces b = refl

timed_is : (face : Interface) (big : Bool) (b : List ℕ) → ladder false (Some face) big b ≡ timed_read face big b
unfolding timed_read
timed_is face big b = refl

module _ (big : Bool) (faces : List Interface) (b : List ℕ) (fits : nat_lt (length b - 32) (padded (stored big b)) ≡ false) where
  pub packet_of : (face : Interface) → interface_at big faces b ≡ Some face → packet_read big faces b ≡ timed_read face big b
  packet_of face is = packet_is big faces b ∙ (λ i. ladder (fits i) (is i) big b) ∙ timed_is face big b

  pub packet_tells : (at : ℕ) (face : Interface) (result : Result NgRecord NgError) → interface_at big faces b ≡ Some face → TellsRead (at_fault at (timed_read face big b)) result → TellsRead (at_fault at (packet_read big faces b)) result
  packet_tells at face result is tells = subst (λ (r : Result NgRecord NgWhy). TellsRead (at_fault at r) result) (sym (packet_of face is)) tells

  pub packet_asks : (face : Interface) (result : Result NgRecord NgError) → interface_at big faces b ≡ Some face → AsksLast (timed_read face big b) result → AsksLast (packet_read big faces b) result
  packet_asks face result is asks = subst (λ (r : Result NgRecord NgWhy). AsksLast r result) (sym (packet_of face is)) asks

  pub packet_none : interface_at big faces b ≡ None → packet_read big faces b ≡ Err why.Interface
  packet_none is = packet_is big faces b ∙ (λ i. ladder (fits i) (is i) big b)

-- ---- a packet as what its block says

abbrev as_content : Result NgRecord NgWhy → Result Content NgWhy
as_content (Ok r) = Ok (says.Packet r)
as_content (Err fault) = Err fault

unless_content : (o : Option NgWhy) (r : NgRecord) → unless o (says.Packet r) ≡ as_content (unless o r)
unless_content None r = refl
unless_content (Some fault) r = refl

abbrev second_then : Bool → Kind → Bool → List Interface → List ℕ → Result Content NgWhy
second_then differs kind big faces b = unless (first (test differs why.Length ∷ kind_tests kind big faces b)) (content_of kind big faces b)

body_is : (h : Head) (faces : List Interface) (b : List ℕ) → body_read h faces b ≡ second_then (not (eqb (at_place h.big b (h.size - 4) 4) h.size)) h.kind h.big faces b
unfolding body_read
body_is h faces b = refl

packet_unless : (big : Bool) (faces : List Interface) (b : List ℕ) → unless (first (packet_tests big faces b)) (record_in big faces b) ≡ packet_read big faces b
unfolding packet_read
packet_unless big faces b = refl

body_packet : (h : Head) (faces : List Interface) (b : List ℕ) → at_place h.big b (h.size - 4) 4 ≡ h.size → h.kind ≡ kinds.Packet → body_read h faces b ≡ as_content (packet_read h.big faces b)
body_packet h faces b same kind =
    body_is h faces b ∙ (λ i. second_then (not (eq-eqb (at_place h.big b (h.size - 4) 4) h.size same i)) (kind i) h.big faces b)
    ∙ unless_content (first (packet_tests h.big faces b)) (record_in h.big faces b) ∙ ap as_content (packet_unless h.big faces b)

content_ok : (at : ℕ) (x : Result NgRecord NgWhy) (r : NgRecord) → TellsRead (at_fault at x) (Ok r) → TellsRead (at_fault at (as_content x)) (Ok (says.Packet r))
content_ok at (Ok q) r e = let same : q ≡ r = cc in ap (λ (p : NgRecord). Ok (says.Packet p)) same
content_ok at (Err fault) r e = absurd (cc)

content_err : (at : ℕ) (x : Result NgRecord NgWhy) (e : NgError) → TellsRead {A = NgRecord} (at_fault at x) (Err e) → TellsRead {A = Content} (at_fault at (as_content x)) (Err e)
content_err at (Ok q) e = said_so (ng_end e) (λ is. absurd (cc))
content_err at (Err w) e = said_so (ng_end e) (λ is. let same : errors.Fault at w ≡ e = cc in ap (λ (e : NgError). Err e) same)

content_asks : (x : Result NgRecord NgWhy) (e : NgError) → AsksLast {B = NgRecord} x (Err e) → AsksLast {B = Content} (as_content x) (Err e)
content_asks x (errors.Fault at fault) asks = tt
content_asks x (errors.Limit limit) asks = tt
content_asks x (errors.Read failed) asks = tt
content_asks (Ok r) errors.Memory asks = tt
content_asks (Err fault) errors.Memory asks = asks

module _ (at : ℕ) (h : Head) (faces : List Interface) (b : List ℕ) (same : at_place h.big b (h.size - 4) 4 ≡ h.size) (kind : h.kind ≡ kinds.Packet) where
  pub body_ok : (r : NgRecord) → TellsRead (at_fault at (packet_read h.big faces b)) (Ok r) → TellsRead (at_fault at (body_read h faces b)) (Ok (says.Packet r))
  body_ok r tells = subst (λ (x : Result Content NgWhy). TellsRead (at_fault at x) (Ok (says.Packet r))) (sym (body_packet h faces b same kind)) (content_ok at (packet_read h.big faces b) r tells)

  pub body_err : (e : NgError) → TellsRead {A = NgRecord} (at_fault at (packet_read h.big faces b)) (Err e) → TellsRead {A = Content} (at_fault at (body_read h faces b)) (Err e)
  body_err e tells = subst (λ (x : Result Content NgWhy). TellsRead {A = Content} (at_fault at x) (Err e)) (sym (body_packet h faces b same kind)) (content_err at (packet_read h.big faces b) e tells)

  pub body_asks : (e : NgError) → AsksLast {B = NgRecord} (packet_read h.big faces b) (Err e) → AsksLast {B = Content} (body_read h faces b) (Err e)
  body_asks e asks = subst (λ (x : Result Content NgWhy). AsksLast {B = Content} x (Err e)) (sym (body_packet h faces b same kind)) (content_asks (packet_read h.big faces b) e asks)
