-- The next block, by what its buffers hold.
use Rattle.std.proofs.Common.{◌≡◌, ◌≢◌, ℕ, ◌+◌, ◌-◌, ◌<◌, ◌≤◌, inl, inr, Bool, true, false, IsTrue, ◌&&◌, if◌then◌else◌, eqb, ltb, List, [], ◌++◌, length, length-append, length-drop, take, drop, append_assoc, Option, Some, None, Ok, Err, refl, sym, ap, ◌∙◌, subst, arith}
use Rattle.std.specs.Prelude.{Result, is_some, IfOk, MatchOption}
use Rattle.std.proofs.lemmas.Bool.{lt-ltb, le-ltb, eqb-true, ne_eqb}
use Rattle.std.proofs.lemmas.List.{take_at, drop_at, length-take-le}
use Rattle.fab_base.specs.Ending.{end_by}
use Rattle.fab_base.specs.Seen.{Seen, Reads, Rose, SameReadFaults}
use Rattle.fab_base.proofs.EndingLemmas.{said_so, spares_reads, spares_reads_then}
use Rattle.fab_base.specs.declared.values.Failed.{Failed}
use Rattle.fab_base.proofs.Depots.{reads_trans, input_name, told_stays, rose_later}
use Rattle.pcap_file.specs.declared.Budget.{Budget}
use Rattle.pcap_file.specs.Reading.{Pulls, Supply, supply, coming}
use Rattle.pcap_file.proofs.lemmas.Buffers.{front_is, short_is}
use Rattle.pcap_file.proofs.lemmas.Numbers.{le_or_lt}
use Rattle.pcapng_file.specs.declared.fault.NgWhy.{NgWhy}
use Rattle.pcapng_file.specs.declared.fault.NgWhy.TheVariants as why
use Rattle.pcapng_file.specs.declared.fault.NgLimit.TheVariants as limits
use Rattle.pcapng_file.specs.declared.fault.NgError.{NgError}
use Rattle.pcapng_file.specs.declared.fault.NgError.TheVariants as errors
use Rattle.pcapng_file.specs.declared.block.Head.{Head}
use Rattle.pcapng_file.specs.contracts.block.KindPartialEq.TheImpl as kind_eq
use Rattle.pcapng_file.specs.declared.block.Kind.{Kind}
use Rattle.pcapng_file.specs.declared.block.Kind.TheVariants as kinds
use Rattle.pcapng_file.specs.declared.packet.Content.{Content}
use Rattle.pcapng_file.specs.declared.reading.Block.{Block}
use Rattle.pcapng_file.specs.Block.{first, unless, head_of, head_tests, head_read, body_read}
use Rattle.pcapng_file.specs.File.{Section, at_fault, and_then, frames_of, counted, step_in, step_of, found, AreKept, TellsRead, ng_end, NotRead, head_at, Lacks, place, AsksMemory, BlockRead}
use Rattle.pcapng_file.specs.Passing.{PassesOver, begun}
use Rattle.std.specs.Result.{IsErrAnd}

-- a block that ends in an error, in a result that hands it on
pub handed_on : {slot : ℕ} {a b : Seen} {held rest : List ℕ} {budget : Budget} {at : ℕ} {s : Section} (r : Result (Option Block) NgError) (e : NgError) → IsErrAnd r (λ x. x ≡ e) →
    BlockRead slot (place at s budget) (supply held a) (supply rest b) (Err e) → BlockRead slot (place at s budget) (supply held a) (supply rest b) r
handed_on {slot} {a} {b} {held} {rest} {budget} {at} {s} (Ok t) e h p = absurd h
handed_on {slot} {a} {b} {held} {rest} {budget} {at} {s} (Err x) e h p = subst (λ y. BlockRead slot (place at s budget) (supply held a) (supply rest b) (Err y)) (sym h) p

-- a block of a kind that the test of sameness doesn't find to be another's
abbrev same_kind : Kind → Kind → Bool
same_kind = kind_eq.ghosts.eq

pub not_other : (kind : Kind) → same_kind kind kinds.Other ≡ false → kind ≢ kinds.Other
not_other kind differs is = let same : true ≡ same_kind kind kinds.Other = (λ i. same_kind (sym is i) kinds.Other) in let never : true ≡ false = same ∙ differs in absurd (cc)

-- ---- the step by its tests

abbrev pub ladder : Bool → Bool → ℕ → Result Head NgWhy → (Head → Result (Option Block) NgError) → Result (Option Block) NgError
ladder ended short at head rest = if ended then Ok None else if short then Err (errors.Fault at why.Cut) else and_then (at_fault at head) rest

pub step_is : (budget : Budget) (at : ℕ) (s : Section) (l : List ℕ) → step_of budget at s l ≡ ladder (eqb (length l) 0 && is_some s.order) (ltb (length l) 12) at (head_read s.order (take 12 l)) (step_in budget at s.faces l)
unfolding step_of
step_is budget at s l = refl

abbrev pub inner : Bool → Bool → ℕ → Result Content NgWhy → (Content → Result (Option Block) NgError) → Result (Option Block) NgError
inner over short at body rest = if over then Err (errors.Limit limits.Bytes) else if short then Err (errors.Fault at why.Cut) else and_then (at_fault at body) rest

module _ (budget : Budget) (at : ℕ) (s : Section) (l : List ℕ) where
  pub step_end : (eqb (length l) 0 && is_some s.order) ≡ true → step_of budget at s l ≡ Ok None
  step_end ended = step_is budget at s l ∙ (λ i. ladder (ended i) (ltb (length l) 12) at (head_read s.order (take 12 l)) (step_in budget at s.faces l))

  pub step_cut : length l < 12 → (eqb (length l) 0 && is_some s.order) ≡ false → step_of budget at s l ≡ Err (errors.Fault at why.Cut)
  step_cut lt more = step_is budget at s l ∙ (λ i. ladder (more i) (lt-ltb (length l) 12 lt i) at (head_read s.order (take 12 l)) (step_in budget at s.faces l))

  module _ (le : 12 ≤ length l) where
    more_than_none : eqb (length l) 0 ≡ false
    more_than_none = ne_eqb (length l) 0 (λ e. omega arith)

    pub step_head : (head : Result Head NgWhy) → head_read s.order (take 12 l) ≡ head → step_of budget at s l ≡ and_then (at_fault at head) (step_in budget at s.faces l)
    step_head head is = step_is budget at s l ∙ (λ i. ladder (more_than_none i && is_some s.order) (le-ltb (length l) 12 le i) at (is i) (step_in budget at s.faces l))

    pub step_bad : (fault : NgWhy) → head_read s.order (take 12 l) ≡ Err fault → step_of budget at s l ≡ Err (errors.Fault at fault)
    step_bad fault is = step_head (Err fault) is

    module _ (h : Head) (is : head_read s.order (take 12 l) ≡ Ok h) where
      pub step_bytes : budget.bytes < h.size → step_of budget at s l ≡ Err (errors.Limit limits.Bytes)
      step_bytes lt = step_head (Ok h) is ∙ (λ i. inner (lt-ltb budget.bytes h.size lt i) (ltb (length l) h.size) at (body_read h s.faces (take h.size l)) (counted budget h.size))

      module _ (room : h.size ≤ budget.bytes) where
        pub step_short : length l < h.size → step_of budget at s l ≡ Err (errors.Fault at why.Cut)
        step_short lt = step_head (Ok h) is ∙ (λ i. inner (le-ltb budget.bytes h.size room i) (lt-ltb (length l) h.size lt i) at (body_read h s.faces (take h.size l)) (counted budget h.size))

        pub step_whole : h.size ≤ length l → step_of budget at s l ≡ and_then (at_fault at (body_read h s.faces (take h.size l))) (counted budget h.size)
        step_whole fits = step_head (Ok h) is ∙ (λ i. inner (le-ltb budget.bytes h.size room i) (le-ltb (length l) h.size fits i) at (body_read h s.faces (take h.size l)) (counted budget h.size))

-- an error goes through
pub then_err : {A B : Type 0} → (x : Result A NgError) (f : A → Result B NgError) (e : NgError) → TellsRead {A = A} x (Err e) → TellsRead {A = B} (and_then x f) (Err e)
then_err x f e = said_so (ng_end e) (λ is. ap (λ y. and_then y f) is)

-- ---- the buffers

-- a read fault has its cause, and other errors need none
no_cause : (n m : ℕ) (e : NgError) → NotRead e → (f : Failed) → (let r : Result (Option Block) NgError = Err e in r ≡ Err (errors.Read f)) → Rose n m
no_cause n m e own f is = let same : e ≡ errors.Read f = cc in absurd (subst NotRead same own)

-- nor need they bytes that lack
no_waits : (told : Type 0) (s : Section) (l left : List ℕ) (e : NgError) → NotRead e → told → (f : Failed) → (let r : Result (Option Block) NgError = Err e in r ≡ Err (errors.Read f)) → Lacks s l left
no_waits told s l left e own is_told f is = let same : e ≡ errors.Read f = cc in absurd (subst NotRead same own)

pub both_left : (x y : Bool) → (x && y) ≡ true → x ≡ true
both_left true y e = refl
both_left false y e = e

-- what a block leaves that goes by, which is none of the ends of a file
passed_behind : (all left : List ℕ) (result : Result (Option Block) NgError) → IfOk result (λ o. MatchOption o ⊥ (λ k. (k.size ≤ length all) × (left ≡ drop k.size all))) → IfOk result (λ o. MatchOption o (all ≡ []) (λ k. (k.size ≤ length all) × (left ≡ drop k.size all)))
passed_behind all left (Ok (Some k)) is = is
passed_behind all left (Ok None) is = absurd is
passed_behind all left (Err e) is = tt

passed_ends : (left : List ℕ) (size : ℕ) (result : Result (Option Block) NgError) → IfOk result (λ o. MatchOption o ⊥ (λ k. (k.size ≡ size) × (frames_of k.content ≡ 0) × AreKept (found k.content))) → IfOk result (λ o. MatchOption o (left ≡ []) (λ k. Unit {0}))
passed_ends left size (Ok (Some k)) is = tt
passed_ends left size (Ok None) is = absurd is
passed_ends left size (Err e) is = tt

passed_fits : (size : ℕ) (budget : Budget) → 12 ≤ size → size ≤ budget.bytes → (result : Result (Option Block) NgError) → IfOk result (λ o. MatchOption o ⊥ (λ k. (k.size ≡ size) × (frames_of k.content ≡ 0) × AreKept (found k.content))) → IfOk result (λ o. MatchOption o (Unit {0}) (λ k. (12 ≤ k.size) × (k.size ≤ budget.bytes) × (frames_of k.content ≤ budget.frames) × AreKept (found k.content)))
passed_fits size budget least room (Ok (Some k)) is = (omega (arith, is.0), omega (arith, is.0), omega (arith, is.1), is.2)
passed_fits size budget least room (Ok None) is = absurd is
passed_fits size budget least room (Err e) is = tt

-- the first bytes aren't read
pub block_unread : (slot : ℕ) (a b : Seen) (held mid front : List ℕ) (budget : Budget) (at : ℕ) (s : Section) → length front ≡ 12 → (f : Failed) → Pulls slot front (supply held a) (supply mid b) (Err f) → BlockRead slot (place at s budget) (supply held a) (supply mid b) (Err (errors.Read f))
block_unread slot a b held mid front budget at s sized f first = record {
  reads = first.reads;
  tells = λ told. tt;
  behind = λ told. tt;
  ended = λ told. tt;
  fits = tt;
  asks = λ told is. absurd (cc);
  cause = λ g is. first.cause;
  waits = λ told g is. inl (omega (arith, first.waits told));
  counts = tt;
}

-- what a head says that was read
ok_of : {A : Type 0} → (o : Option NgWhy) (x y : A) → unless o x ≡ Ok y → x ≡ y
ok_of (Some fault) x y e = absurd (cc)
ok_of None x y e = cc

head_told : (order : Option Bool) (b : List ℕ) (h : Head) → head_read order b ≡ Ok h → head_of order b ≡ h
unfolding head_read
head_told order b h e = ok_of (first (head_tests order b)) (head_of order b) h e

module _ (slot : ℕ) (a b : Seen) (held mid front : List ℕ) (n : ℕ) (budget : Budget) (at : ℕ) (s : Section) (sized : length front ≡ 12) (first : Pulls slot front (supply held a) (supply mid b) (Ok n)) where
  pub block_end : (eqb n 0 && is_some s.order) ≡ true → BlockRead slot (place at s budget) (supply held a) (supply mid b) (Ok None)
  block_end ended =
      let none : n ≡ 0 = eqb-true n 0 (both_left (eqb n 0) (is_some s.order) ended) in
      let none_left : IsTrue a.told → mid ++ b.left slot ≡ [] = λ told. first.ended told (omega arith) in
      let all : IsTrue a.told → held ++ a.left slot ≡ [] = λ told. sym (first.taken told) ∙ (λ i. take (none i) front ++ none_left told i) in
      record {
        reads = first.reads;
        tells = λ told. step_end budget at s (held ++ a.left slot) ((λ i. eqb (length (all told i)) 0 && is_some s.order) ∙ (λ i. eqb (sym none i) 0 && is_some s.order) ∙ ended);
        behind = all;
        ended = none_left;
        fits = tt;
        asks = λ told is. absurd (cc);
        cause = λ f e. absurd (cc);
        waits = λ told f e. absurd (cc);
        counts = first.counts;
      }

  pub block_short : n < 12 → (eqb n 0 && is_some s.order) ≡ false → BlockRead slot (place at s budget) (supply held a) (supply mid b) (Err (errors.Fault at why.Cut))
  block_short lt more = record {
    reads = first.reads;
    tells = λ told.
        let none_left : mid ++ b.left slot ≡ [] = first.ended told (omega arith) in
        let all : length (held ++ a.left slot) ≡ n = short_is front (mid ++ b.left slot) (held ++ a.left slot) n first.bound none_left (first.taken told) in
        step_cut budget at s (held ++ a.left slot) (omega arith) ((λ i. eqb (all i) 0 && is_some s.order) ∙ more);
    behind = λ told. tt;
    ended = λ told. tt;
    fits = tt;
    asks = λ told is. absurd (cc);
    cause = no_cause _ _ (errors.Fault at why.Cut) tt;
    waits = no_waits _ s _ _ (errors.Fault at why.Cut) tt;
    counts = first.counts;
  }

  module _ (le : 12 ≤ n) where
    whole : IsTrue a.told → held ++ a.left slot ≡ front ++ (mid ++ b.left slot)
    whole told = front_is front (mid ++ b.left slot) (held ++ a.left slot) 12 sized (let is : n ≡ 12 = omega (arith, first.bound) in subst (λ (k : ℕ). take k front ++ (mid ++ b.left slot) ≡ held ++ a.left slot) is (first.taken told))

    long : IsTrue a.told → length (held ++ a.left slot) ≡ 12 + length (mid ++ b.left slot)
    long told = omega (arith, ap length (whole told), length-append front (mid ++ b.left slot))

    at_front : IsTrue a.told → take 12 (held ++ a.left slot) ≡ front
    at_front told = ap (take 12) (whole told) ∙ take_at front (mid ++ b.left slot) 12 sized

    pub block_bad : (fault : NgWhy) → head_read s.order front ≡ Err fault → BlockRead slot (place at s budget) (supply held a) (supply mid b) (Err (errors.Fault at fault))
    block_bad fault is = record {
      reads = first.reads;
      tells = λ told. step_bad budget at s (held ++ a.left slot) (omega (arith, long told)) fault (ap (head_read s.order) (at_front told) ∙ is);
      behind = λ told. tt;
      ended = λ told. tt;
      fits = tt;
      asks = λ told is. absurd (cc);
      cause = no_cause _ _ (errors.Fault at fault) tt;
      waits = no_waits _ s _ _ (errors.Fault at fault) tt;
      counts = first.counts;
    }

    module _ (h : Head) (is : head_read s.order front ≡ Ok h) where
      head_is : IsTrue a.told → head_read s.order (take 12 (held ++ a.left slot)) ≡ Ok h
      head_is told = ap (head_read s.order) (at_front told) ∙ is

      size_is : IsTrue a.told → (head_at s (held ++ a.left slot)).size ≡ h.size
      size_is told = ap (λ (x : Head). x.size) (head_told s.order (take 12 (held ++ a.left slot)) h (head_is told))

      kind_is : IsTrue a.told → (head_at s (held ++ a.left slot)).kind ≡ h.kind
      kind_is told = ap (λ (x : Head). x.kind) (head_told s.order (take 12 (held ++ a.left slot)) h (head_is told))

      pub block_bytes : budget.bytes < h.size → BlockRead slot (place at s budget) (supply held a) (supply mid b) (Err (errors.Limit limits.Bytes))
      block_bytes lt = record {
        reads = first.reads;
        tells = λ told. step_bytes budget at s (held ++ a.left slot) (omega (arith, long told)) h (head_is told) lt;
        behind = λ told. tt;
        ended = λ told. tt;
        fits = tt;
        asks = λ told is. absurd (cc);
        cause = no_cause _ _ (errors.Limit limits.Bytes) tt;
        waits = no_waits _ s _ _ (errors.Limit limits.Bytes) tt;
        counts = first.counts;
      }

      -- a block that goes by
      pub block_passed : (c : Seen) (rest : List ℕ) → IsTrue (a.input slot) → h.size ≤ budget.bytes → 12 ≤ h.size → (result : Result (Option Block) NgError) → PassesOver slot at (begun front h) (supply mid b) (supply rest c) result → BlockRead slot (place at s budget) (supply held a) (supply rest c) result
      block_passed c rest is_in room least result p =
          let same : b.name slot ≡ a.name slot = input_name (a.name slot) a b first.reads.keeps slot is_in in
          let still : IsTrue a.told → IsTrue b.told = told_stays (a.name slot) a b first.reads.keeps in
          record {
            reads = reads_trans (a.name slot) a b c first.reads (subst (λ m. Reads m b c) same p.reads);
            tells = λ told. subst (λ x. TellsRead {A = Option Block} x result) (sym (step_head budget at s (held ++ a.left slot) (omega (arith, long told)) (Ok h) (head_is told) ∙ ap (λ l. step_in budget at s.faces l h) (whole told))) (p.tells (still told) budget s.faces room);
            behind = λ told. passed_behind (held ++ a.left slot) (rest ++ c.left slot) result (subst (λ l. IfOk result (λ o. MatchOption o ⊥ (λ k. (k.size ≤ length l) × (rest ++ c.left slot ≡ drop k.size l)))) (sym (whole told)) (p.behind (still told)));
            ended = λ told. passed_ends (rest ++ c.left slot) h.size result p.fits;
            fits = passed_fits h.size budget least room result p.fits;
            asks = λ told is. absurd (p.asks is);
            cause = λ f is. rose_later _ _ _ first.reads.keeps.reads_rise (subst (λ m. Rose (b.read_faults m) (c.read_faults m)) same (p.cause f is));
            waits = λ told f is. inr (omega (arith, p.waits (still told) f is, length-append front (mid ++ b.left slot), ap length (whole told), size_is told));
            counts = spares_reads_then (end_by ng_end result) a b c first.counts p.counts;
          }

      -- memory is asked for behind such a head, of a block that doesn't go by
      module _ (room : h.size ≤ budget.bytes) (other : h.kind ≢ kinds.Other) where
        asks_behind : (new : Supply) (told : IsTrue a.told) → (length (held ++ a.left slot) < h.size → coming slot new ≡ drop 12 (held ++ a.left slot)) → AsksMemory slot (place at s budget) (supply held a) new
        asks_behind new told cut = record {
          there = omega (arith, long told);
          right = head_is told ∙ ap (λ (x : Head). Ok x) (sym (head_told s.order (take 12 (held ++ a.left slot)) h (head_is told)));
          room = omega (arith, size_is told);
          held = λ e. other (sym (kind_is told) ∙ e);
          cut = λ lt. cut (omega (arith, lt, size_is told));
        }

        -- it is refused before the rest is taken
        pub block_unheld : BlockRead slot (place at s budget) (supply held a) (supply mid b) (Err errors.Memory)
        block_unheld = record {
          reads = first.reads;
          tells = λ told. tt;
          behind = λ told. tt;
          ended = λ told. tt;
          fits = tt;
          asks = λ told is. asks_behind (supply mid b) told (λ lt. sym (ap (drop 12) (whole told) ∙ drop_at front (mid ++ b.left slot) 12 sized));
          cause = no_cause _ _ errors.Memory tt;
          waits = no_waits _ s _ _ errors.Memory tt;
          counts = first.counts;
        }

      module _ (c : Seen) (rest body : List ℕ) (is_in : IsTrue (a.input slot)) (room : h.size ≤ budget.bytes) (least : 12 ≤ h.size) (sized_body : length body ≡ h.size - 12) where
        same : b.name slot ≡ a.name slot
        same = input_name (a.name slot) a b first.reads.keeps slot is_in

        told_b : IsTrue a.told → IsTrue b.told
        told_b told = told_stays (a.name slot) a b first.reads.keeps told

        pub block_unread_body : (f : Failed) → Pulls slot body (supply mid b) (supply rest c) (Err f) → BlockRead slot (place at s budget) (supply held a) (supply rest c) (Err (errors.Read f))
        block_unread_body f second = record {
          reads = reads_trans (a.name slot) a b c first.reads (subst (λ m. Reads m b c) same second.reads);
          tells = λ told. tt;
          behind = λ told. tt;
          ended = λ told. tt;
          fits = tt;
          asks = λ told is. absurd (cc);
          cause = λ g is. rose_later _ _ _ first.reads.keeps.reads_rise (subst (λ m. Rose (b.read_faults m) (c.read_faults m)) same second.cause);
          waits = λ told g is. inr (omega (arith, second.waits (told_b told), long told, size_is told));
          counts = tt;
        }

        module _ (k : ℕ) (second : Pulls slot body (supply mid b) (supply rest c) (Ok k)) where
          both : Reads (a.name slot) a c
          both = reads_trans (a.name slot) a b c first.reads (subst (λ m. Reads m b c) same second.reads)

          both_counts : SameReadFaults a c
          both_counts m = second.counts m ∙ first.counts m

          pub block_cut : k < length body → BlockRead slot (place at s budget) (supply held a) (supply rest c) (Err (errors.Fault at why.Cut))
          block_cut lt = record {
            reads = both;
            tells = λ told.
                let none_left : rest ++ c.left slot ≡ [] = second.ended (told_b told) lt in
                let all : length (mid ++ b.left slot) ≡ k = short_is body (rest ++ c.left slot) (mid ++ b.left slot) k second.bound none_left (second.taken (told_b told)) in
                step_short budget at s (held ++ a.left slot) (omega (arith, long told)) h (head_is told) room (omega (arith, long told));
            behind = λ told. tt;
            ended = λ told. tt;
            fits = tt;
            asks = λ told is. absurd (cc);
            cause = no_cause _ _ (errors.Fault at why.Cut) tt;
            waits = no_waits _ s _ _ (errors.Fault at why.Cut) tt;
            counts = both_counts;
          }

          -- the whole block is there
          there : IsTrue a.told → length body ≤ k → h.size ≤ length (held ++ a.left slot)
          there told full = omega (arith, long told, length-drop k (mid ++ b.left slot), ap length (second.taken (told_b told)), length-append (take k body) (rest ++ c.left slot), length-take-le k body second.bound)

          -- memory is refused where all is taken
          pub block_refused : length body ≤ k → h.kind ≢ kinds.Other → BlockRead slot (place at s budget) (supply held a) (supply rest c) (Err errors.Memory)
          block_refused full other = record {
            reads = both;
            tells = λ told. tt;
            behind = λ told. tt;
            ended = λ told. tt;
            fits = tt;
            asks = λ told is. asks_behind room other (supply rest c) told (λ lt. absurd (omega (arith, lt, there told full)));
            cause = no_cause _ _ errors.Memory tt;
            waits = no_waits _ s _ _ errors.Memory tt;
            counts = both_counts;
          }

          module _ (full : length body ≤ k) (block : List ℕ) (made : block ≡ front ++ body) where
            sized_block : length block ≡ h.size
            sized_block = omega (arith, ap length made, length-append front body)

            all : IsTrue a.told → held ++ a.left slot ≡ block ++ (rest ++ c.left slot)
            all told = whole told ∙ ap (λ m. front ++ m) (front_is body (rest ++ c.left slot) (mid ++ b.left slot) k (omega (arith, second.bound)) (second.taken (told_b told))) ∙ sym (append_assoc front body (rest ++ c.left slot)) ∙ ap (λ m. m ++ (rest ++ c.left slot)) (sym made)

            long_enough : IsTrue a.told → h.size ≤ length (held ++ a.left slot)
            long_enough told = omega (arith, ap length (all told), length-append block (rest ++ c.left slot), sized_block)

            step_block : IsTrue a.told → step_of budget at s (held ++ a.left slot) ≡ and_then (at_fault at (body_read h s.faces block)) (counted budget h.size)
            step_block told =
                step_whole budget at s (held ++ a.left slot) (omega (arith, long told)) h (head_is told) room (long_enough told)
                ∙ ap (λ (l : List ℕ). and_then (at_fault at (body_read h s.faces l)) (counted budget h.size)) (ap (take h.size) (all told) ∙ take_at block (rest ++ c.left slot) h.size sized_block)

            pub block_err : h.kind ≢ kinds.Other → (e : NgError) → NotRead e → TellsRead {A = Content} (at_fault at (body_read h s.faces block)) (Err e) → BlockRead slot (place at s budget) (supply held a) (supply rest c) (Err e)
            block_err other e own tells = record {
              reads = both;
              tells = λ told. subst (λ x. TellsRead {A = Option Block} x (Err e)) (sym (step_block told)) (then_err (at_fault at (body_read h s.faces block)) (counted budget h.size) e tells);
              behind = λ told. tt;
              ended = λ told. tt;
              fits = tt;
              asks = λ told is. asks_behind room other (supply rest c) told (λ lt. absurd (omega (arith, lt, long_enough told)));
              cause = no_cause _ _ e own;
              waits = no_waits _ s _ _ e own;
              counts = spares_reads (ng_end e) a c (λ other. both_counts);
            }

            module _ (content : Content) (says : at_fault at (body_read h s.faces block) ≡ Ok content) where
              counts : IsTrue a.told → step_of budget at s (held ++ a.left slot) ≡ counted budget h.size content
              counts told = step_block told ∙ ap (λ x. and_then x (counted budget h.size)) says

              block_frames : budget.frames < frames_of content → BlockRead slot (place at s budget) (supply held a) (supply rest c) (Err (errors.Limit limits.Frames))
              block_frames lt = record {
                reads = both;
                tells = λ told. counts told ∙ (λ i. if lt-ltb budget.frames (frames_of content) lt i then Err (errors.Limit limits.Frames) else Ok (Some (record { size = h.size; content = content })));
                behind = λ told. tt;
                ended = λ told. tt;
                fits = tt;
                asks = λ told is. absurd (cc);
                cause = no_cause _ _ (errors.Limit limits.Frames) tt;
                waits = no_waits _ s _ _ (errors.Limit limits.Frames) tt;
                counts = both_counts;
              }

              block_done : frames_of content ≤ budget.frames → AreKept (found content) → BlockRead slot (place at s budget) (supply held a) (supply rest c) (Ok (Some (record { size = h.size; content = content })))
              block_done le_frames kept = record {
                reads = both;
                tells = λ told. counts told ∙ (λ i. if le-ltb budget.frames (frames_of content) le_frames i then Err (errors.Limit limits.Frames) else Ok (Some (record { size = h.size; content = content })));
                behind = λ told. (long_enough told, sym (ap (drop h.size) (all told) ∙ drop_at block (rest ++ c.left slot) h.size sized_block));
                ended = λ told. tt;
                fits = (least, room, le_frames, kept);
                asks = λ told is. absurd (cc);
                cause = λ f e. absurd (cc);
                waits = λ told f e. absurd (cc);
                counts = both_counts;
              }

              -- the last test is that of the frames
              pub block_counted : AreKept (found content) → (result : Result (Option Block) NgError) → result ≡ counted budget h.size content → BlockRead slot (place at s budget) (supply held a) (supply rest c) result
              block_counted kept result is = elim (le_or_lt (frames_of content) budget.frames) [
                | inl le_frames ↦ subst (λ (x : Result (Option Block) NgError). BlockRead slot (place at s budget) (supply held a) (supply rest c) x)
                    (sym (is ∙ (λ i. if le-ltb budget.frames (frames_of content) le_frames i then Err (errors.Limit limits.Frames) else Ok (Some (record { size = h.size; content = content })))))
                    (block_done le_frames kept)
                | inr lt ↦ subst (λ (x : Result (Option Block) NgError). BlockRead slot (place at s budget) (supply held a) (supply rest c) x)
                    (sym (is ∙ (λ i. if lt-ltb budget.frames (frames_of content) lt i then Err (errors.Limit limits.Frames) else Ok (Some (record { size = h.size; content = content })))))
                    (block_frames lt)
              ]
