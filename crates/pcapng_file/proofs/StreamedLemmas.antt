-- A stream that was read from its first byte: what a loop that takes its packets keeps, and what stands at its end.
use Rattle.std.proofs.Common.{◌≡◌, ℕ, zero, suc, ◌+◌, ◌-◌, ◌≤◌, IsTrue, List, [], ◌∷◌, ◌++◌, length, length-append, length-drop, drop, Some, None, Ok, Err, refl, sym, ap, ◌∙◌, subst, arith}
use Rattle.std.specs.Prelude.{Result, is_some}
use Rattle.std.proofs.lemmas.List.{append-nil}
use Rattle.fab_base.specs.Seen.{Seen}
use Rattle.pcap_file.specs.declared.Budget.{Budget}
use Rattle.pcapng_file.specs.declared.fault.NgError.{NgError}
use Rattle.pcapng_file.specs.declared.NgRecord.{NgRecord}
use Rattle.pcapng_file.specs.declared.packet.Content.{Content}
use Rattle.pcapng_file.specs.declared.packet.Content.TheVariants as says
use Rattle.fab_base.specs.Ending.{IsSaid}
use Rattle.pcapng_file.specs.File.{Section, before_all, head_at, content_at, after, found, Blocks, IsNg, AreKept, step_of, less, in_front, go_on, read_from, ng_read, ng_end}
use Rattle.pcapng_file.specs.Laws.{Within}
use Rattle.pcapng_file.specs.Stream.{Streaming, streaming, stream_stand, Parts, Goes, BeginsWith, StreamReads, left_of, Stops, Streamed}
use Rattle.pcapng_file.proofs.GoingLemmas.{read_is}
use Rattle.pcapng_file.proofs.LawLemmas.{Stands, Passed, block_at, long_enough, size_fits, size_least, step_stands}
use Rattle.pcapng_file.proofs.StreamLemmas.{goes_more}

-- ---- files

blocks_of : (n : ℕ) (s : Section) (v : List NgRecord) (l : List ℕ) (t : Section) → Parts n s v l t [] → IsTrue (is_some t.order) → Blocks n s v l
blocks_of zero s v l t (nothing, same, rest) some = (subst (λ (x : Section). IsTrue (is_some x.order)) (sym same) some, nothing, rest)
blocks_of (suc n) s v l t (front, whole, w, joined, more) some = (front, whole, w, joined, blocks_of n (after s (content_at s l)) w (drop (head_at s l).size l) t more some)

pub stream_file : (v : List NgRecord) (l : List ℕ) (t : Section) → BeginsWith v l t [] → IsTrue (is_some t.order) → IsNg v l
stream_file v l t b some = (b.0, blocks_of b.0 before_all v l t b.1 some)

-- what comes behind blocks is no longer than all
shorter : (n : ℕ) (s : Section) (v : List NgRecord) (l : List ℕ) (t : Section) (m : List ℕ) → Parts n s v l t m → length m ≤ length l
shorter zero s v l t m (nothing, same, rest) = omega (arith, ap length rest)
shorter (suc n) s v l t m (front, whole, w, joined, more) =
    let less_by = shorter n (after s (content_at s l)) w (drop (head_at s l).size l) t m more in
    omega (arith, less_by, length-drop (head_at s l).size l)

-- a block gives one packet at most
one_found : (x : Content) → length (found x) ≤ 1
one_found (says.Section big) = omega arith
one_found (says.Interface face) = omega arith
one_found (says.Packet r) = omega arith
one_found says.Nothing = omega arith

-- packets take more than a byte each
pub parts_long : (n : ℕ) (s : Section) (v : List NgRecord) (l : List ℕ) (t : Section) (m : List ℕ) → Parts n s v l t m → length v + length v + length m ≤ length l
parts_long zero s v l t m (nothing, same, rest) = omega (arith, ap length nothing, ap length rest)
parts_long (suc n) s v l t m (front, whole, w, joined, more) =
    let st : Stands s l = record { front = front; whole = whole } in
    let behind = parts_long n (after s (content_at s l)) w (drop (head_at s l).size l) t m more in
    omega (arith, behind, size_fits s l st, size_least s l st, length-drop (head_at s l).size l, ap length joined, length-append (found (content_at s l)) w, one_found (content_at s l))

in_front_err : (v : List NgRecord) (x : Result (List NgRecord) NgError) (e : NgError) → x ≡ Err e → in_front v x ≡ Err e
in_front_err v x e is = ap (in_front v) is

-- reading goes on to the block where the stream stops
stops_from : (n fuel : ℕ) (budget left : Budget) (at there : ℕ) (s : Section) (v : List NgRecord) (l : List ℕ) (t : Section) (m : List ℕ) (e : NgError) → Parts n s v l t m → length l ≤ fuel → budget.bytes ≡ left.bytes + (length l - length m) → budget.frames ≡ left.frames + length v → there ≡ at + (length l - length m) →
    step_of left there t m ≡ Err e → read_from (suc fuel) budget at s l ≡ Err e
stops_from zero fuel budget left at there s v l t m e (nothing, same, rest) room bytes frames is_there step =
    let is_bytes : left.bytes ≡ budget.bytes = omega (arith, ap length rest) in
    let is_frames : left.frames ≡ budget.frames = omega (arith, ap length nothing) in
    let is_at : there ≡ at = omega (arith, ap length rest) in
    let here : step_of budget at s l ≡ Err e = sym (λ i. step_of (record { bytes = is_bytes i; frames = is_frames i }) (is_at i) (sym same i) (sym rest i)) ∙ step in
    ap (go_on (λ b. in_front (found b.content) (read_from fuel (less budget b) (at + b.size) (after s b.content) (drop b.size l)))) here
stops_from (suc n) zero budget left at there s v l t m e (front, whole, w, joined, more) room bytes frames is_there step =
    let st : Stands s l = record { front = front; whole = whole } in
    let long = long_enough s l st in
    absurd (omega arith)
stops_from (suc n) (suc fuel) budget left at there s v l t m e (front, whole, w, joined, more) room bytes frames is_there step =
    let st : Stands s l = record { front = front; whole = whole } in
    let fits = size_fits s l st in
    let least_size = size_least s l st in
    let size_drop = length-drop (head_at s l).size l in
    let all = length-append (found (content_at s l)) w in
    let fewer = shorter n (after s (content_at s l)) w (drop (head_at s l).size l) t m more in
    let passed : Passed budget at s l = step_stands budget at s l st (omega arith) (omega (arith, ap length joined, all)) in
    let rest : read_from (suc fuel) (less budget (block_at s l)) (at + (head_at s l).size) (after s (content_at s l)) (drop (head_at s l).size l) ≡ Err e =
    stops_from n fuel (less budget (block_at s l)) left (at + (head_at s l).size) there (after s (content_at s l)) w (drop (head_at s l).size l) t m e more (omega arith) (omega arith) (omega (arith, ap length joined, all)) (omega arith) step in
    ap (go_on (λ b. in_front (found b.content) (read_from (suc fuel) (less budget b) (at + b.size) (after s b.content) (drop b.size l)))) passed.is ∙ in_front_err (found (content_at s l)) (read_from (suc fuel) (less budget (block_at s l)) (at + (head_at s l).size) (after s (content_at s l)) (drop (head_at s l).size l)) e rest

pub stops_read : (v : List NgRecord) (l : List ℕ) (budget : Budget) (e : NgError) → Stops v l budget e → ng_read budget l ≡ Err e
stops_read v l budget e s =
    let room = s.bytes in
    let frames = s.frames in
    read_is budget l ∙ stops_from s.begins.0 (length l) budget (left_of budget v (length l - length s.rest)) 0 (length l - length s.rest) before_all v l s.section s.rest e s.begins.1 (omega arith) (omega arith) (omega arith) (omega arith) s.step

-- ---- a loop over the packets

kept_more : (v : List NgRecord) (x : NgRecord) → AreKept v → AreKept (x ∷ []) → AreKept (v ++ x ∷ [])
kept_more [] x a b = b
kept_more (r ∷ v) x a b = (a.0, kept_more v x a.1 b)

-- before the first packet
pub streamed_none : (slot : ℕ) (a : Seen) (budget : Budget) (p : Streaming) → p ≡ streaming [] 0 before_all budget → Streamed slot a budget (stream_stand p a) []
streamed_none slot a budget p is = subst (λ (q : Streaming). Streamed slot a budget (stream_stand q a) []) (sym is) (record {
  fresh = refl;
  bytes = omega arith;
  frames = omega arith;
  kept = tt;
  begins = λ told. (zero, (refl, refl, refl));
  place = λ told. omega arith;
})

-- calls that leave the slot what it had
pub streamed_stays : (slot : ℕ) (start d e : Seen) (budget : Budget) (p : Streaming) (v : List NgRecord) → Streamed slot start budget (stream_stand p d) v → (IsTrue start.told → e.left slot ≡ d.left slot) → Streamed slot start budget (stream_stand p e) v
streamed_stays slot start d e budget p v s same = record {
  fresh = s.fresh;
  bytes = s.bytes;
  frames = s.frames;
  kept = s.kept;
  begins = λ told. subst (λ (l : List ℕ). BeginsWith v (start.left slot) p.here.section (p.held ++ l)) (sym (same told)) (s.begins told);
  place = λ told. ap (λ (l : List ℕ). p.here.at + length (p.held ++ l)) (same told) ∙ s.place told;
}

module _ (slot : ℕ) (start d e : Seen) (budget : Budget) (p q : Streaming) (v : List NgRecord) (s : Streamed slot start budget (stream_stand p d) v) (told_d : IsTrue start.told → IsTrue d.told) where
  -- behind a packet
  pub streamed_more : (x : NgRecord) → StreamReads slot (stream_stand p d) (stream_stand q e) (Ok (Some x)) → Streamed slot start budget (stream_stand q e) (v ++ x ∷ [])
  streamed_more x r = record {
    fresh = r.fails.1;
    bytes = r.bytes ∙ s.bytes;
    frames = omega (arith, r.frames, s.frames, length-append v (x ∷ []));
    kept = kept_more v x s.kept r.kept;
    begins = λ told. let b = s.begins told in goes_more b.0 before_all v (x ∷ []) (start.left slot) p.here.section (p.held ++ d.left slot) q.here.section (q.held ++ e.left slot) b.1 (r.tells (told_d told));
    place = λ told. r.place (told_d told) ∙ s.place told;
  }

  goes_nothing : (t : Section) (m : List ℕ) → IsTrue start.told → Goes [] p.here.section (p.held ++ d.left slot) t m → BeginsWith v (start.left slot) t m
  goes_nothing t m told g =
      let b = s.begins told in
      subst (λ (w : List NgRecord). BeginsWith w (start.left slot) t m) (append-nil v) (goes_more b.0 before_all v [] (start.left slot) p.here.section (p.held ++ d.left slot) t m b.1 g)

  -- at the end the bytes are a file of the packets, within the limits
  pub streamed_end : StreamReads slot (stream_stand p d) (stream_stand q e) (Ok None) → IsTrue start.told → IsNg v (start.left slot) × Within budget v (start.left slot)
  streamed_end r told = let end = r.tells (told_d told) in (
    stream_file v (start.left slot) q.here.section (goes_nothing q.here.section [] told end.0) end.1,
    (omega (arith, r.place (told_d told), s.place told, ap length (r.ended (told_d told)), r.bytes, s.bytes), omega (arith, s.frames)),
  )

  -- where it stops
  pub streamed_stops : (f : NgError) → StreamReads slot (stream_stand p d) (stream_stand q e) (Err f) → IsTrue start.told → IsSaid (ng_end f) → Stops v (start.left slot) budget f
  streamed_stops f r told said =
      let stop = r.stops (told_d told) s.fresh said in
      let is_at : q.here.at ≡ length (start.left slot) - length stop.rest = omega (arith, stop.place, s.place told) in
      let is_bytes : q.here.left.bytes ≡ budget.bytes - (length (start.left slot) - length stop.rest) = omega (arith, is_at, r.bytes, s.bytes) in
      let is_frames : q.here.left.frames ≡ budget.frames - length v = omega (arith, r.frames, s.frames) in
      record {
        section = q.here.section;
        rest = stop.rest;
        begins = goes_nothing q.here.section stop.rest told stop.goes;
        bytes = omega (arith, is_at, r.bytes, s.bytes);
        frames = omega (arith, s.frames);
        step = sym (λ i. step_of (record { bytes = is_bytes i; frames = is_frames i }) (is_at i) q.here.section stop.rest) ∙ stop.step;
      }
