-- The outputs of a bridge while frames cross it.
use Rattle.std.proofs.Common.{◌≡◌, ℕ, zero, suc, ◌+◌, ◌-◌, ◌^◌, ◌<◌, inl, inr, List, [], ◌∷◌, ◌++◌, length, take, drop, get_or, append_assoc, append-nil, Some, None, Ok, Err, IsTrue, refl, sym, ◌∙◌, ap, subst, arith, lit<}
use Rattle.std.specs.Prelude.{Result, Vec, replicate, slice_set}
use Rattle.std.specs.declared.alloc.Global.{Global}
use Rattle.std.proofs.lemmas.List.{take-append-drop}
use Rattle.std.proofs.lemmas.Option.{slice_get-get_or}
use Rattle.fab_base.specs.Ending.{Said, Write, end_by, Either, Uses, IsPrefixOf}
use Rattle.fab_base.specs.Seen.{Seen, Nothing}
use Rattle.fab_base.specs.declared.values.Failed.{Failed}
use Rattle.fab_base.proofs.EndingLemmas.{uses_none, uses_refused, uses_then, uses_wider}
use Rattle.pcap_file.specs.Capture.{head_bytes}
use Rattle.pcap_file.specs.declared.Record.{Record}
use Rattle.fab_base.specs.Slots.{name_of, NameIn}
use Rattle.fip_snoop.specs.Bridge.{Arrival, arrivals, history, passed, dropped}
use Rattle.fip_snoop.specs.Queue.{AllAscend, least, left_in}
use Rattle.fip_snoop.specs.Snoop.{Remembers}
use Rattle.fip_snoop.specs.declared.forwarder.Forwarder.{Forwarder}
use Rattle.side_runs.proofs.CopyLemmas.{records_go_on}
use Rattle.run_files.specs.Outputs.{AreOutputs}
use Rattle.run_files.specs.Pages.{items_in, piece_at, AreShort}
use Rattle.run_files.specs.declared.fault.RunFault.TheVariants as faults
use Rattle.side_runs.specs.Copies.{records_to, capture}
use Rattle.side_runs.specs.Records.{count_in}
use Rattle.side_runs.specs.State.{Stands, PassesNext, IsNew, IsNext, Writes, WritesFull, Crosses}
use Rattle.side_runs.specs.declared.bridge.Bridge.{Bridge}
use Rattle.run_files.proofs.OutputLemmas.{same_name, outputs_stay, puts_each_uses}
use Rattle.side_runs.proofs.NextLemmas.{all_left, next_order, none_next}
use Rattle.run_files.proofs.PageLemmas.{page_of, length-items}
use Rattle.side_runs.proofs.StepLemmas.{can_count}

-- ---- captures that grow

capture_more : (w : Forwarder) (q : ℕ) (done more : List Arrival) → capture w q (done ++ more) ≡ capture w q done ++ records_to w q (history w [] done) more
capture_more w q done more = ap (λ l. head_bytes ++ l) (records_go_on w q [] done more) ∙ sym (append_assoc head_bytes (records_to w q [] done) (records_to w q (history w [] done) more))

-- what begins the capture of those handled begins that of all
front_of : (w : Forwarder) (q : ℕ) (done rest came : List Arrival) (bytes page : List ℕ) → done ++ rest ≡ came → bytes ++ page ≡ capture w q done → IsPrefixOf bytes (capture w q came)
front_of w q done rest came bytes page all is = (
  page ++ records_to w q (history w [] done) rest,
  sym (append_assoc bytes page (records_to w q (history w [] done) rest)) ∙ ap (λ l. l ++ records_to w q (history w [] done) rest) is ∙ sym (capture_more w q done rest) ∙ ap (capture w q) all,
)

length-zeros : (n : ℕ) → length (replicate {A = ℕ} n 0) ≡ n
length-zeros zero = refl
length-zeros (suc n) = ap suc (length-zeros n)

length-heads : (n : ℕ) → length (replicate n head_bytes) ≡ n
length-heads zero = refl
length-heads (suc n) = ap suc (length-heads n)

-- pages of heads are short
heads_short : (n : ℕ) → AreShort (replicate n head_bytes)
heads_short zero q = lit< tt
heads_short (suc n) zero = lit< tt
heads_short (suc n) (suc q) = heads_short n q

pub short_heads : (n : ℕ) (pages : List (List ℕ)) → pages ≡ replicate n head_bytes → AreShort pages
short_heads n pages heads = subst AreShort (sym heads) (heads_short n)

-- ---- between two frames

-- Frames were handled, and the outputs hold their captures but for what the pages have.
pub record Crossing (w : Forwarder) (ins : List (List Record)) (outs : List ℕ) (a d : Seen) (b : Bridge) : Type 0 where
  pub done : List Arrival
  pub stands : Stands w ins done b
  pub uses : Uses Nothing (NameIn a outs) Said a d
  pub count : length b.pages.items ≡ length outs
  pub files : IsTrue a.told → (q : ℕ) → q < length outs → (bytes : List ℕ) × (d.file (name_of a outs q) ≡ Some bytes) × (bytes ++ piece_at (items_in b.pages.items) q ≡ capture w (q + 1) done)

pub crossing_none : (w : Forwarder) (ins : List (List Record)) (outs : List ℕ) (a : Seen) (b : Bridge) → IsNew w (length ins) b → length outs ≡ length ins
    → (IsTrue a.told → (q : ℕ) → q < length outs → a.file (name_of a outs q) ≡ Some []) → Crossing w ins outs a a b
crossing_none w ins outs a b new count empty = record {
  done = [];
  stands = record {
    count = ap length new.places ∙ length-zeros (length ins);
    order = ap (λ l. arrivals (left_in ins l)) new.places ∙ ap arrivals (all_left ins (length ins) refl);
    kept = new.kept;
    passed_ = new.passed_;
    dropped_ = new.dropped_;
  };
  uses = uses_none Nothing (NameIn a outs) a;
  count = sym (length-items b.pages.items) ∙ ap length new.pages ∙ length-heads (length ins) ∙ sym count;
  files = λ told q lt. (
    [],
    empty told q lt,
    ap (λ l. piece_at l q) new.pages ∙ page_of head_bytes (length ins) q (omega (arith, lt, count)) ∙ sym (append-nil head_bytes),
  );
}

-- writing handles no frame
pub same_places : (outs : List ℕ) (b b' : Bridge) (d d' : Seen) → WritesFull outs b b' d d' (Ok tt) → b'.places ≡ b.places
same_places outs b b' d d' (inl wr) = wr.same.1
same_places outs b b' d d' (inr same) = ap (λ (x : Bridge). x.places) same.0

module _ (w : Forwarder) (ins : List (List Record)) (outs : List ℕ) (a d : Seen) (b : Bridge) (outputs : AreOutputs a outs) (c : Crossing w ins outs a d b) where
  -- one frame more
  pub crossing_more : (b' : Bridge) → PassesNext ins b b' → Crossing w ins outs a d b'
  crossing_more b' h =
      let n = h.next w c.done c.stands in
      record {
        done = c.done ++ n.0 ∷ [];
        stands = n.1;
        uses = c.uses;
        count = h.count ∙ c.count;
        files = λ told q lt.
            let f = c.files told q lt in
            let more = records_to w (q + 1) (history w [] c.done) (n.0 ∷ []) in
            let old = piece_at (items_in b.pages.items) q in (
              f.0,
              f.1,
              ap (λ l. f.0 ++ l) (n.2 q (omega (arith, lt, c.count))) ∙ sym (append_assoc f.0 old more) ∙ ap (λ l. l ++ more) f.2 ∙ sym (capture_more w (q + 1) c.done (n.0 ∷ [])),
            );
      }

  -- as long as one is to come it can be counted
  pub room_for : (place : ℕ) → IsNext place ins b.places.items → AllAscend ins → count_in ins < 2 ^ 64 → b.passed + b.dropped < 2 ^ 64 - 1
  room_for place n up few =
      let k = get_or b.places.items place 0 in
      let at = slice_get-get_or b.places.items place 0 (omega (arith, n.within, n.count)) in
      can_count w ins c.done b n.frame_ (arrivals (left_in ins (slice_set b.places.items place (k + 1)))) c.stands (next_order ins b.places.items place k n.frame_ up at n.is n.port_) few

  -- fewer are to come then
  pub fewer : (b' : Bridge) → PassesNext ins b b' → length (arrivals (left_in ins b'.places.items)) < length (arrivals (left_in ins b.places.items))
  fewer b' h =
      let n = h.next w c.done c.stands in
      let old = sym (length-both c.done (arrivals (left_in ins b.places.items))) ∙ ap length c.stands.order in
      let new = sym (length-both (c.done ++ n.0 ∷ []) (arrivals (left_in ins b'.places.items))) ∙ ap length n.1.order in
      let one = length-both c.done (n.0 ∷ []) in
      omega (arith, old, new, one)
    where
      length-both : (xs ys : List Arrival) → length (xs ++ ys) ≡ length xs + length ys
      length-both [] ys = omega arith
      length-both (x ∷ xs) ys = let h = length-both xs ys in omega arith

  -- ---- the outputs as they are now

  pub outputs_now : AreOutputs d outs
  outputs_now = outputs_stay (NameIn a outs) (Either Nothing (NameIn a outs)) a d c.uses.touches outs outputs

  name_is : (q : ℕ) → q < length outs → name_of d outs q ≡ name_of a outs q
  name_is q lt = same_name (NameIn a outs) (Either Nothing (NameIn a outs)) a d c.uses.touches outs outputs q lt

  told_now : IsTrue a.told → IsTrue d.told
  told_now told = subst IsTrue (sym c.uses.touches.told) told

  came : c.done ++ arrivals (left_in ins b.places.items) ≡ arrivals ins
  came = c.stands.order

  pub crosses_memory : Crosses w ins outs a d (Err faults.Memory)
  crosses_memory = record {
    uses = uses_refused Nothing (NameIn a outs) a d c.uses;
    whole = λ told q lt. tt;
    front = λ told q lt.
        let f = c.files told q lt in
        (f.0, f.1, front_of w (q + 1) c.done (arrivals (left_in ins b.places.items)) (arrivals ins) f.0 (piece_at (items_in b.pages.items) q) came f.2);
    passed_ = tt;
    dropped_ = tt;
    cause = tt;
  }

  module _ (d' : Seen) (b' : Bridge) where
    uses_on : (r : Result (Unit {0}) Failed) → Writes outs b b' d d' r → Uses Nothing (NameIn a outs) (end_by (λ e. Write) r) a d'
    uses_on r wr =
        uses_then Nothing (NameIn a outs) (end_by (λ e. Write) r) a d d' c.uses
        (uses_wider Nothing (NameIn d outs) Nothing (NameIn a outs) (λ m x. x) (λ m h. (h.0, h.1, h.2 ∙ name_is h.0 h.1)) (end_by (λ e. Write) r) d d' (puts_each_uses outs (items_in b.pages.items) d d' r wr.puts))

    -- the output at a place, as it was before
    had : (told : IsTrue a.told) (q : ℕ) (lt : q < length outs) → d.file (name_of d outs q) ≡ Some (c.files told q lt).0
    had told q lt = ap d.file (name_is q lt) ∙ (c.files told q lt).1

    grown : Writes outs b b' d d' (Ok tt) → (told : IsTrue a.told) (q : ℕ) → q < length outs → d'.file (name_of a outs q) ≡ Some (capture w (q + 1) c.done)
    grown wr told q lt = ap d'.file (sym (name_is q lt)) ∙ wr.puts.all (told_now told) q lt (c.files told q lt).0 (had told q lt) ∙ ap Some (c.files told q lt).2

    pub crossing_written : Writes outs b b' d d' (Ok tt) → Crossing w ins outs a d' b'
    crossing_written wr =
        let same = wr.same in
        record {
          done = c.done;
          stands = record {
            count = ap (λ (v : Vec ℕ Global). length v.items) same.1 ∙ c.stands.count;
            order = ap (λ (v : Vec ℕ Global). c.done ++ arrivals (left_in ins v.items)) same.1 ∙ c.stands.order;
            kept = subst (Remembers w (history w [] c.done)) (sym same.0) c.stands.kept;
            passed_ = same.2 ∙ c.stands.passed_;
            dropped_ = same.3 ∙ c.stands.dropped_;
          };
          uses = uses_on (Ok tt) wr;
          count = wr.count ∙ c.count;
          files = λ told q lt. (
            capture w (q + 1) c.done,
            grown wr told q lt,
            ap (λ l. capture w (q + 1) c.done ++ l) (wr.nothing q) ∙ append-nil (capture w (q + 1) c.done),
          );
        }

    -- where no page was full nothing changed
    pub crossing_on : WritesFull outs b b' d d' (Ok tt) → Crossing w ins outs a d' b'
    crossing_on (inl wr) = crossing_written wr
    crossing_on (inr same) = subst (λ x. Crossing w ins outs a x b') (sym same.1) (subst (λ x. Crossing w ins outs a d x) (sym same.0) c)

    pub crosses_all : least 1 (left_in ins b.places.items) ≡ None → Writes outs b b' d d' (Ok tt) → Crosses w ins outs a d' (Ok (record { passed = b'.passed; dropped = b'.dropped }))
    crosses_all none wr =
        let all : c.done ≡ arrivals ins = sym (append-nil c.done) ∙ ap (λ l. c.done ++ l) (sym (none_next (left_in ins b.places.items) none)) ∙ came in
        record {
          uses = uses_on (Ok tt) wr;
          whole = λ told q lt. grown wr told q lt ∙ ap (λ l. Some (capture w (q + 1) l)) all;
          front = λ told q lt. (capture w (q + 1) (arrivals ins), grown wr told q lt ∙ ap (λ l. Some (capture w (q + 1) l)) all, ([], append-nil (capture w (q + 1) (arrivals ins))));
          passed_ = wr.same.2 ∙ c.stands.passed_ ∙ ap (λ l. passed (history w [] l)) all;
          dropped_ = wr.same.3 ∙ c.stands.dropped_ ∙ ap (λ l. dropped (history w [] l)) all;
          cause = tt;
        }

    pub crosses_failed : (e : Failed) → Writes outs b b' d d' (Err e) → Crosses w ins outs a d' (Err faults.Write)
    crosses_failed e wr = record {
      uses = uses_on (Err e) wr;
      whole = λ told q lt. tt;
      front = λ told q lt.
          let f = c.files told q lt in
          let page = piece_at (items_in b.pages.items) q in
          let part = wr.puts.part (told_now told) q lt f.0 (had told q lt) in (
            f.0 ++ take part.0 page,
            ap d'.file (sym (name_is q lt)) ∙ part.1,
            front_of w (q + 1) c.done (arrivals (left_in ins b.places.items)) (arrivals ins) (f.0 ++ take part.0 page) (drop part.0 page) came
                (append_assoc f.0 (take part.0 page) (drop part.0 page) ∙ ap (λ l. f.0 ++ l) (take-append-drop part.0 page) ∙ f.2),
          );
      passed_ = tt;
      dropped_ = tt;
      cause = tt;
    }

    pub crosses_full : (e : Failed) → WritesFull outs b b' d d' (Err e) → Crosses w ins outs a d' (Err faults.Write)
    crosses_full e (inl wr) = crosses_failed e wr
    crosses_full e (inr same) = let no = same.2 in absurd (cc)
