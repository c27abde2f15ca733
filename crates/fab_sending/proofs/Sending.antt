-- Messages and the frames that they stand for.
use Rattle.std.proofs.Common.{◌≡◌, ℕ, ◌+◌, ◌*◌, ◌%◌, Bool, true, false, if◌then◌else◌, List, [], ◌∷◌, ◌++◌, length, map, filter, flat_map, Option, refl, sym, ap, ◌∙◌}
use Rattle.std.proofs.lemmas.List.{append-nil, map-append}
use Rattle.fab_base.specs.Fabric.{same_enode}
use Rattle.fab_base.specs.declared.values.Enode.{Enode}
use Rattle.fab_config.specs.Settings.{Settings}
use Rattle.fab_base.specs.Counting.{counting}
use Rattle.fab_policy.specs.Outputs as policy
use Rattle.fab_policy.specs.Outputs.{Notice, Sent, State, enodes_of, hundreds, is_owed, notices, outputs_by, replies, rscn_frames, vx_port_of}
use Rattle.fab_policy.specs.Replies.{advertised_to_all, clear_links, rscn}
use Rattle.fab_policy.specs.State.{LivePort, addresses, is_overdue, now_of, overdue}
use Rattle.fab_policy.specs.Steps.{after}
use Rattle.fab_policy.specs.declared.event.Event.{Event}
use Rattle.fab_policy.specs.declared.event.Event.TheVariants.{Tick, Frame}
use Rattle.fab_sending.specs.MessageLaws.{RepliesFit, messages}
use Rattle.fab_sending.specs.Message.{bytes_of, sent_of}
use Rattle.fab_sending.specs.declared.message.OutMessage.{OutMessage}
use Rattle.fab_sending.specs.declared.message.OutMessage.TheVariants as out
use Rattle.fab_sending.proofs.Finding.{filter-listed}
use Rattle.fab_sending.specs.Laws.{FramesSend, FramesTell, TicksSend, TicksTell}
use Rattle.fab_sending.specs.Messages.{advertisements, advertisements_owed, at_moment, changes, clears, clears_to, frame_messages}
use Rattle.fab_sending.specs.Notices.{notices_of_frame, notices_of_tick}

-- a message with its port, in bytes
abbrev bytes_in : Settings → List Event → ℕ × OutMessage → ℕ × List ℕ
bytes_in c events x = (x.0, bytes_of c events x.1)

abbrev sent_at : ℕ → ℕ × List ℕ → Sent
sent_at moment x = record { port = x.0; moment = moment; bytes = x.1 }

sent_all : (c : Settings) (events : List Event) (moment : ℕ) (ms : List (ℕ × OutMessage)) → map (sent_of c events) (at_moment moment ms) ≡ map (sent_at moment) (map (bytes_in c events) ms)
sent_all c events moment [] = refl
sent_all c events moment (m ∷ ms) = ap (λ r. sent_at moment (bytes_in c events m) ∷ r) (sent_all c events moment ms)

changes_sent : (c : Settings) (events : List Event) (n : ℕ) (ns : List Notice) → map (bytes_in c events) (changes n ns) ≡ rscn_frames c n ns
unfolding bytes_of
changes_sent c events n [] = refl
changes_sent c events n (notice ∷ ns) = ap (λ r. (notice.port, rscn c notice.watcher notice.affected (n % 65535)) ∷ r) (changes_sent c events (n + 1) ns)

groups_sent : (c : Settings) (events : List Event) (x : Enode) (groups : List (List LivePort)) →
    map (bytes_in c events) (map (λ group. (x.port, out.Clear x.mac (map (vx_port_of c) group))) groups) ≡ map (λ group. (x.port, clear_links c x.mac (map (vx_port_of c) group))) groups
unfolding bytes_of
groups_sent c events x [] = refl
groups_sent c events x (group ∷ groups) = ap (λ r. (x.port, clear_links c x.mac (map (vx_port_of c) group)) ∷ r) (groups_sent c events x groups)

abbrev own_of : List LivePort → Enode → List LivePort
own_of ended x = filter (λ p. same_enode p.enode x) ended

enodes_sent : (c : Settings) (events : List Event) (ended : List LivePort) (xs : List Enode) → map (bytes_in c events) (flat_map (clears_to c ended) xs)
    ≡ flat_map (λ x. map (λ group. (x.port, clear_links c x.mac (map (vx_port_of c) group))) (hundreds (length (own_of ended x)) (own_of ended x))) xs
enodes_sent c events ended [] = refl
enodes_sent c events ended (x ∷ xs) =
    map-append (bytes_in c events) (clears_to c ended x) (flat_map (clears_to c ended) xs)
    ∙ ap (λ ys. ys ++ map (bytes_in c events) (flat_map (clears_to c ended) xs)) (groups_sent c events x (hundreds (length (own_of ended x)) (own_of ended x)))
    ∙ ap (λ ys. map (λ group. (x.port, clear_links c x.mac (map (vx_port_of c) group))) (hundreds (length (own_of ended x)) (own_of ended x)) ++ ys) (enodes_sent c events ended xs)

clears_sent : (c : Settings) (events : List Event) (ended : List LivePort) → map (bytes_in c events) (clears c ended) ≡ policy.clears c ended
clears_sent c events ended = enodes_sent c events ended (enodes_of ended)

advertised : (c : Settings) (events : List Event) (ports : List ℕ) → map (bytes_in c events) (map (λ port. (port, out.Advertisement)) ports) ≡ map (λ port. (port, advertised_to_all c)) ports
unfolding bytes_of
advertised c events [] = refl
advertised c events (port ∷ ports) = ap (λ r. (port, advertised_to_all c) ∷ r) (advertised c events ports)

advertisements_sent : (c : Settings) (events : List Event) (n : ℕ) (last : Option ℕ) (m : ℕ) →
    map (bytes_in c events) (advertisements_owed c n last m) ≡ (if is_owed c last m then map (λ port. (port, advertised_to_all c)) (counting 1 n) else [])
advertisements_sent c events n last m = go (is_owed c last m)
  where
    go : (b : Bool) → map (bytes_in c events) (if b then advertisements n else []) ≡ (if b then map (λ port. (port, advertised_to_all c)) (counting 1 n) else [])
    go true = advertised c events (counting 1 n)
    go false = refl

-- three parts, each in bytes
parts : (c : Settings) (events : List Event) (moment : ℕ) (xs ys zs : List (ℕ × OutMessage)) (xs' ys' zs' : List (ℕ × List ℕ)) →
    map (bytes_in c events) xs ≡ xs' → map (bytes_in c events) ys ≡ ys' → map (bytes_in c events) zs ≡ zs' →
    map (sent_of c events) (at_moment moment (xs ++ ys ++ zs)) ≡ map (sent_at moment) (xs' ++ ys' ++ zs')
parts c events moment xs ys zs xs' ys' zs' ex ey ez =
    sent_all c events moment (xs ++ ys ++ zs)
    ∙ ap (map (sent_at moment)) (
    map-append (bytes_in c events) (xs ++ ys) zs
    ∙ ap (λ r. r ++ map (bytes_in c events) zs) (map-append (bytes_in c events) xs ys)
    ∙ ap (λ r. r ++ map (bytes_in c events) ys ++ map (bytes_in c events) zs) ex
    ∙ ap (λ r. xs' ++ r ++ map (bytes_in c events) zs) ey
    ∙ ap (λ r. xs' ++ ys' ++ r) ez)

pub ticks_send : TicksTell → TicksSend
unfolding outputs_by
ticks_send tell c n S m events asc =
    let e : Event = Tick m (addresses (overdue c S.tables m)) in
    parts c events m _ _ _ (policy.clears c (overdue c S.tables m)) (rscn_frames c S.rscns (notices_of_tick c S.tables m)) _
    (clears_sent c events (overdue c S.tables m)) (changes_sent c events S.rscns (notices_of_tick c S.tables m)) (advertisements_sent c events n S.advertised m)
    ∙ ap (λ ns. map (sent_at m) (policy.clears c (overdue c S.tables m) ++ rscn_frames c S.rscns ns ++ policy.advertisements_of c n S.advertised e)) (sym (tell c S.tables m asc))
    ∙ ap (λ ps. map (sent_at m) (policy.clears c ps ++ rscn_frames c S.rscns (notices c S.tables (after c S.tables e) e) ++ policy.advertisements_of c n S.advertised e))
    (sym (filter-listed (is_overdue c m) (c.domain * 65536 + 256) S.tables.ports asc.0))

pub frames_send : RepliesFit → FramesTell → FramesSend
unfolding outputs_by
frames_send fit tell c n S port index entry caught v events asc can at =
    let e : Event = Frame port index caught v in
    ap (λ ms. map (sent_of c events) (at_moment (now_of S.tables) ms)) (sym (append-nil (frame_messages c S port entry caught v)))
    ∙ parts c events (now_of S.tables) (messages c S.tables port entry caught v) (changes S.rscns (notices_of_frame c S.tables port caught v)) [] (replies c S.tables port caught v)
    (rscn_frames c S.rscns (notices_of_frame c S.tables port caught v)) []
    (sym (fit c S.tables events port entry caught v at)) (changes_sent c events S.rscns (notices_of_frame c S.tables port caught v)) refl
    ∙ ap (λ ns. map (sent_at (now_of S.tables)) (replies c S.tables port caught v ++ rscn_frames c S.rscns ns ++ [])) (sym (tell c S.tables port index caught v asc can))
    ∙ ap (λ rs. map (sent_at (now_of S.tables)) (rs ++ rscn_frames c S.rscns (notices c S.tables (after c S.tables e) e) ++ [])) (sym (append-nil (replies c S.tables port caught v)))
