-- Reading packet by packet.
use Rattle.std.proofs.Common.{◌≡◌, ℕ, zero, suc, ◌+◌, ◌-◌, inl, inr, IsTrue, List, [], ◌∷◌, ◌++◌, length, length-drop, append_assoc, drop, Option, Some, None, Ok, Err, refl, sym, ap, ◌∙◌, subst, arith}
use Rattle.std.specs.Prelude.{Result, is_some}
use Rattle.std.proofs.lemmas.List.{append-nil}
use Rattle.fab_base.specs.Seen.{Seen, Reads, Rose, SameReadFaults}
use Rattle.fab_base.proofs.Depots.{reads_trans, reads_refl, input_name, told_stays, rose_later}
use Rattle.pcap_file.specs.declared.Budget.{Budget}
use Rattle.pcap_file.specs.Reading.{Supply, supply}
use Rattle.pcapng_file.specs.declared.fault.NgError.{NgError}
use Rattle.pcapng_file.specs.declared.fault.NgError.TheVariants as errors
use Rattle.pcapng_file.specs.declared.reading.Block.{Block}
use Rattle.pcapng_file.specs.declared.stream.Gone.{Gone}
use Rattle.pcapng_file.specs.declared.stream.Gone.TheVariants as gives
use Rattle.pcapng_file.specs.declared.NgRecord.{NgRecord}
use Rattle.pcapng_file.specs.File.{Section, head_at, content_at, after, found, AreKept, Place, step_of, ng_end, Lacks, BlockRead}
use Rattle.pcapng_file.specs.Stream.{Streaming, StreamStand, stream_stand, bytes_ahead, Parts, Goes, BlockGone, StreamReads}
use Rattle.std.specs.Result.{IsErrAnd}
use Rattle.fab_base.proofs.EndingLemmas.{said_is, spares_none, spares_reads_then}
use Rattle.pcapng_file.proofs.LawLemmas.{steps, block_at}

-- ---- blocks, one after another

pub goes_more : (n : ℕ) (s : Section) (v w : List NgRecord) (l : List ℕ) (t : Section) (m : List ℕ) (u : Section) (z : List ℕ) → Parts n s v l t m → Goes w t m u z → Goes (v ++ w) s l u z
goes_more zero s v w l t m u z (nothing, same, rest) g =
    subst (λ (x : List NgRecord). Goes (x ++ w) s l u z) (sym nothing) (subst (λ (x : Section). Goes w x l u z) (sym same) (subst (λ (x : List ℕ). Goes w t x u z) (sym rest) g))
goes_more (suc n) s v w l t m u z (front, whole, v', joined, more) g =
    let on = goes_more n (after s (content_at s l)) v' w (drop (head_at s l).size l) t m u z more g in
    (suc on.0, (front, whole, v' ++ w, ap (λ (x : List NgRecord). x ++ w) joined ∙ append_assoc (found (content_at s l)) v' w, on.1))

-- behind blocks without a packet others go on
pub goes_on : (s : Section) (w : List NgRecord) (l : List ℕ) (t : Section) (m : List ℕ) (u : Section) (z : List ℕ) → Goes [] s l t m → Goes w t m u z → Goes w s l u z
goes_on s w l t m u z a b = goes_more a.0 s [] w l t m u z a.1 b

-- ---- one block

order_of_end : (budget : Budget) (at : ℕ) (s : Section) (l : List ℕ) → step_of budget at s l ≡ Ok None → IsTrue (is_some s.order)
order_of_end budget at s l is = elim (steps budget at s l) [
  | inl ended ↦ ended.some
  | inr other ↦ elim other [
    | inl bad ↦ let no : Err bad.0 ≡ Ok None = sym bad.1 ∙ is in absurd (cc)
    | inr passed ↦ let no : Ok (Some (block_at s l)) ≡ Ok None = sym passed.is ∙ is in absurd (cc)
  ]
]

-- a block that was read is one part
part_of : (budget : Budget) (at : ℕ) (s : Section) (l : List ℕ) (k : Block) → step_of budget at s l ≡ Ok (Some k) → (v : List NgRecord) (t : Section) (m : List ℕ) → v ≡ found k.content → t ≡ after s k.content → m ≡ drop k.size l → Parts 1 s v l t m
part_of budget at s l k is v t m is_v is_t is_m = elim (steps budget at s l) [
  | inl ended ↦ let no : Ok None ≡ Ok (Some k) = sym ended.is ∙ is in absurd (cc)
  | inr other ↦ elim other [
    | inl bad ↦ let no : Err bad.0 ≡ Ok (Some k) = sym bad.1 ∙ is in absurd (cc)
    | inr passed ↦
        let ok : Ok (Some (block_at s l)) ≡ Ok (Some k) = sym passed.is ∙ is in
        let same : block_at s l ≡ k = cc in (
          passed.stands.front,
          passed.stands.whole,
          [],
          is_v ∙ ap (λ (b : Block). found b.content) (sym same) ∙ sym (append-nil (found (content_at s l))),
          (refl, ap (λ (b : Block). after s b.content) same ∙ sym is_t, ap (λ (b : Block). drop b.size l) same ∙ sym is_m),
        )
  ]
]

module _ (slot : ℕ) (a b : Seen) (held rest : List ℕ) (here : Place) (kept : Option NgError) where
  abbrev stood : StreamStand
  stood = stream_stand (record { held = held; here = here; kept = kept }) a

  abbrev stands : Place → StreamStand
  stands there = stream_stand (record { held = rest; here = there; kept = kept }) b

  pub gone_failed : (e : NgError) → BlockRead slot here (supply held a) (supply rest b) (Err e) → BlockGone slot stood (stands here) (Err e)
  gone_failed e r = record {
    reads = r.reads;
    tells = λ told. (
      λ said. (refl, said_is (ng_end e) (step_of here.left here.at here.section (held ++ a.left slot) ≡ Err e) (r.tells told) said),
      λ f is. (refl, r.waits told f (ap (λ (x : NgError). Err x) is)),
    );
    moves = tt;
    place = λ told. tt;
    bytes = refl;
    frames = refl;
    kept = refl;
    cause = λ f is. let same : e ≡ errors.Read f = cc in r.cause f (ap (λ (x : NgError). Err x) same);
    counts = r.counts;
  }

  pub gone_end : BlockRead slot here (supply held a) (supply rest b) (Ok None) → BlockGone slot stood (stands here) (Ok gives.End)
  gone_end r = record {
    reads = r.reads;
    tells = λ told. (r.behind told, r.ended told, order_of_end here.left here.at here.section (held ++ a.left slot) (r.tells told));
    moves = refl;
    place = λ told. omega (arith, ap length (r.behind told), ap length (r.ended told));
    bytes = refl;
    frames = omega arith;
    kept = refl;
    cause = λ f e. absurd (cc);
    counts = r.counts;
  }

  module _ (k : Block) (r : BlockRead slot here (supply held a) (supply rest b) (Ok (Some k))) (there : Place) (is_at : there.at ≡ here.at + k.size) (is_bytes : there.left.bytes ≡ here.left.bytes - k.size) (is_frames : there.left.frames ≡ here.left.frames - length (found k.content)) where
    further : IsTrue a.told → there.at + length (rest ++ b.left slot) ≡ here.at + length (held ++ a.left slot)
    further told = let behind = r.behind told in omega (arith, behind.0, ap length behind.1, length-drop k.size (held ++ a.left slot), is_at)

    sum : there.at + there.left.bytes ≡ here.at + here.left.bytes
    sum = let fits = r.fits in omega (arith, fits.1, is_at, is_bytes)

    -- memory is refused for what it adds to the section
    pub gone_full : found k.content ≡ [] → BlockGone slot stood (stands there) (Err errors.Memory)
    gone_full none = record {
      reads = r.reads;
      tells = λ told. (λ said. absurd said, λ f is. absurd (cc));
      moves = tt;
      place = λ told. tt;
      bytes = sum;
      frames = omega (arith, is_frames, ap length none);
      kept = refl;
      cause = λ f is. absurd (cc);
      counts = r.counts;
    }

    module _ (is_section : there.section ≡ after here.section k.content) where
      pub gone_packet : (x : NgRecord) → (x ∷ []) ≡ found k.content → BlockGone slot stood (stands there) (Ok (gives.Packet x))
      gone_packet x is = let fits = r.fits in record {
        reads = r.reads;
        tells = λ told. part_of here.left here.at here.section (held ++ a.left slot) k (r.tells told) (x ∷ []) there.section (rest ++ b.left slot) is is_section (r.behind told).1;
        moves = (omega (arith, fits.0, is_at), subst AreKept (sym is) fits.3);
        place = further;
        bytes = sum;
        frames = omega (arith, is_frames, ap length is, fits.2);
        kept = refl;
        cause = λ f e. absurd (cc);
        counts = r.counts;
      }

      pub gone_other : [] ≡ found k.content → BlockGone slot stood (stands there) (Ok gives.Other)
      gone_other is = let fits = r.fits in record {
        reads = r.reads;
        tells = λ told. part_of here.left here.at here.section (held ++ a.left slot) k (r.tells told) [] there.section (rest ++ b.left slot) is is_section (r.behind told).1;
        moves = (omega (arith, fits.0, is_at), tt);
        place = further;
        bytes = sum;
        frames = omega (arith, is_frames, ap length is, fits.2);
        kept = refl;
        cause = λ f e. absurd (cc);
        counts = r.counts;
      }

-- what a call answered, by the value that it is
pub block_as : {slot : ℕ} {here : Place} {old new : Supply} (o o' : Option Block) → o ≡ o' → BlockRead slot here old new (Ok o) → BlockRead slot here old new (Ok o')
block_as {slot} {here} {old} {new} o o' is r = subst (λ (x : Option Block). BlockRead slot here old new (Ok x)) is r

pub gone_as : {slot : ℕ} {old new : StreamStand} (x y : Gone) → x ≡ y → BlockGone slot old new (Ok x) → BlockGone slot old new (Ok y)
gone_as {slot} {old} {new} x y is r = subst (λ (z : Gone). BlockGone slot old new (Ok z)) is r

-- what a stream is seen as
pub gone_seen : {slot : ℕ} {a : Seen} {new : StreamStand} {result : Result Gone NgError} (p q : Streaming) → p ≡ q → BlockGone slot (stream_stand p a) new result → BlockGone slot (stream_stand q a) new result
gone_seen {slot} {a} {new} {result} p q is r = subst (λ (x : Streaming). BlockGone slot (stream_stand x a) new result) is r

-- an error, in a result that hands it on
pub gone_handed : {slot : ℕ} {old new : StreamStand} (r : Result Gone NgError) (e : NgError) → IsErrAnd r (λ x. x ≡ e) → BlockGone slot old new (Err e) → BlockGone slot old new r
gone_handed {slot} {old} {new} (Ok t) e h p = absurd h
gone_handed {slot} {old} {new} (Err x) e h p = subst (λ y. BlockGone slot old new (Err y)) (sym h) p

-- ---- the loop over blocks without a packet

-- blocks without a packet were gone past
pub record Passing (slot : ℕ) (old now : StreamStand) : Type 0 where
  pub reads : Reads (old.depot.name slot) old.depot now.depot
  pub goes : IsTrue old.depot.told → Goes [] old.stream.here.section (bytes_ahead slot old) now.stream.here.section (bytes_ahead slot now)
  pub place : IsTrue old.depot.told → now.stream.here.at + length (bytes_ahead slot now) ≡ old.stream.here.at + length (bytes_ahead slot old)
  pub bytes : now.stream.here.at + now.stream.here.left.bytes ≡ old.stream.here.at + old.stream.here.left.bytes
  pub frames : now.stream.here.left.frames ≡ old.stream.here.left.frames
  pub fresh : (old.stream.kept ≡ None) × (now.stream.kept ≡ None)
  pub counts : SameReadFaults old.depot now.depot

pub passing_none : (slot : ℕ) (p : Streaming) (a : Seen) → p.kept ≡ None → Passing slot (stream_stand p a) (stream_stand p a)
passing_none slot p a fresh = record {
  reads = reads_refl (a.name slot) a;
  goes = λ told. (zero, (refl, refl, refl));
  place = λ told. refl;
  bytes = refl;
  frames = refl;
  fresh = (fresh, fresh);
  counts = λ m. refl;
}

-- an error that is kept
pub kept_again : (slot : ℕ) (p : Streaming) (a : Seen) (e : NgError) → p.kept ≡ Some e → StreamReads slot (stream_stand p a) (stream_stand p a) (Err e)
kept_again slot p a e kept = record {
  reads = reads_refl (a.name slot) a;
  tells = λ told. tt;
  ended = λ told. tt;
  stops = λ told fresh. absurd (cc);
  waits = λ told fresh. absurd (cc);
  place = λ told. tt;
  bytes = refl;
  frames = refl;
  kept = tt;
  fails = kept;
  again = λ x is. let same : e ≡ x = cc in (ap (λ (y : NgError). Err y) same, refl);
  cause = λ fresh. absurd (cc);
  counts = spares_none (ng_end e) a;
}

-- a stream that keeps this error from now on
abbrev pub failing : NgError → Streaming → Streaming
failing e p = record { held = p.held; here = p.here; kept = Some e }

module _ (slot : ℕ) (p q z : Streaming) (a b c : Seen) (is_in : IsTrue (a.input slot)) (g : Passing slot (stream_stand p a) (stream_stand q b)) where
  same : b.name slot ≡ a.name slot
  same = input_name (a.name slot) a b g.reads.keeps slot is_in

  told_b : IsTrue a.told → IsTrue b.told
  told_b told = told_stays (a.name slot) a b g.reads.keeps told

  on : Reads (b.name slot) b c → Reads (a.name slot) a c
  on r = reads_trans (a.name slot) a b c g.reads (subst (λ m. Reads m b c) same r)

  not_again : (e : NgError) → p.kept ≡ Some e → ⊥
  not_again e is = let no : None ≡ Some e = sym g.fresh.0 ∙ is in absurd (cc)

  pub passing_more : BlockGone slot (stream_stand q b) (stream_stand z c) (Ok gives.Other) → Passing slot (stream_stand p a) (stream_stand z c)
  passing_more r = record {
    reads = on r.reads;
    goes = λ told. goes_on p.here.section [] (p.held ++ a.left slot) q.here.section (q.held ++ b.left slot) z.here.section (z.held ++ c.left slot) (g.goes told) (1, r.tells (told_b told));
    place = λ told. r.place (told_b told) ∙ g.place told;
    bytes = r.bytes ∙ g.bytes;
    frames = omega (arith, r.frames, g.frames);
    fresh = (g.fresh.0, r.kept ∙ g.fresh.1);
    counts = λ m. r.counts m ∙ g.counts m;
  }

  pub passing_packet : (x : NgRecord) → BlockGone slot (stream_stand q b) (stream_stand z c) (Ok (gives.Packet x)) → StreamReads slot (stream_stand p a) (stream_stand z c) (Ok (Some x))
  passing_packet x r = record {
    reads = on r.reads;
    tells = λ told. goes_on p.here.section (x ∷ []) (p.held ++ a.left slot) q.here.section (q.held ++ b.left slot) z.here.section (z.held ++ c.left slot) (g.goes told) (1, r.tells (told_b told));
    ended = λ told. tt;
    stops = λ told fresh. tt;
    waits = λ told fresh f e. absurd (cc);
    place = λ told. r.place (told_b told) ∙ g.place told;
    bytes = r.bytes ∙ g.bytes;
    frames = r.frames ∙ g.frames;
    kept = r.moves.1;
    fails = (g.fresh.0, r.kept ∙ g.fresh.1);
    again = λ x is. absurd (not_again x is);
    cause = λ fresh f e. absurd (cc);
    counts = λ m. r.counts m ∙ g.counts m;
  }

  pub passing_end : BlockGone slot (stream_stand q b) (stream_stand z c) (Ok gives.End) → StreamReads slot (stream_stand p a) (stream_stand z c) (Ok None)
  passing_end r = let here_same : z.here ≡ q.here = r.moves in record {
    reads = on r.reads;
    tells = λ told.
        let end = r.tells (told_b told) in (
          subst (λ (t : Section). Goes [] p.here.section (p.held ++ a.left slot) t []) (ap (λ (h : Place). h.section) (sym here_same)) (subst (λ (l : List ℕ). Goes [] p.here.section (p.held ++ a.left slot) q.here.section l) end.0 (g.goes told)),
          subst (λ (t : Section). IsTrue (is_some t.order)) (ap (λ (h : Place). h.section) (sym here_same)) end.2,
        );
    ended = λ told. (r.tells (told_b told)).1;
    stops = λ told fresh. tt;
    waits = λ told fresh f e. absurd (cc);
    place = λ told. r.place (told_b told) ∙ g.place told;
    bytes = r.bytes ∙ g.bytes;
    frames = omega (arith, r.frames, g.frames);
    kept = tt;
    fails = (g.fresh.0, r.kept ∙ g.fresh.1);
    again = λ x is. absurd (not_again x is);
    cause = λ fresh f e. absurd (cc);
    counts = λ m. r.counts m ∙ g.counts m;
  }

  pub passing_failed : (e : NgError) → BlockGone slot (stream_stand q b) (stream_stand z c) (Err e) → StreamReads slot (stream_stand p a) (stream_stand (failing e z) c) (Err e)
  passing_failed e r = record {
    reads = on r.reads;
    tells = λ told. tt;
    ended = λ told. tt;
    stops = λ told fresh said.
        let stop = (r.tells (told_b told)).0 said in
        record {
          rest = q.held ++ b.left slot;
          goes = subst (λ (t : Section). Goes [] p.here.section (p.held ++ a.left slot) t (q.held ++ b.left slot)) (ap (λ (h : Place). h.section) (sym stop.0)) (g.goes told);
          place = ap (λ (h : Place). h.at + length (q.held ++ b.left slot)) stop.0 ∙ g.place told;
          step = ap (λ (h : Place). step_of h.left h.at h.section (q.held ++ b.left slot)) stop.0 ∙ stop.1;
        };
    waits = λ told fresh f is.
        let same_error : e ≡ errors.Read f = cc in
        let lack = (r.tells (told_b told)).1 f same_error in
        record {
          rest = q.held ++ b.left slot;
          goes = subst (λ (t : Section). Goes [] p.here.section (p.held ++ a.left slot) t (q.held ++ b.left slot)) (ap (λ (h : Place). h.section) (sym lack.0)) (g.goes told);
          lacks = subst (λ (t : Section). Lacks t (q.held ++ b.left slot) (c.left slot)) (ap (λ (h : Place). h.section) (sym lack.0)) lack.1;
        };
    place = λ told. tt;
    bytes = r.bytes ∙ g.bytes;
    frames = r.frames ∙ g.frames;
    kept = tt;
    fails = refl;
    again = λ x is. absurd (not_again x is);
    cause = λ fresh f is.
        let same_error : e ≡ errors.Read f = cc in
        rose_later _ _ _ g.reads.keeps.reads_rise (subst (λ m. Rose (b.read_faults m) (c.read_faults m)) same (r.cause f (ap (λ (x : NgError). Err x) same_error)));
    counts = spares_reads_then (ng_end e) a b c g.counts r.counts;
  }
