-- What handling a frame does to a bridge.
use Rattle.std.proofs.Common.{◌≡◌, ℕ, zero, suc, ◌+◌, ◌-◌, ◌^◌, ◌<◌, Bool, true, false, not, cond, List, [], ◌∷◌, ◌++◌, length, drop, length-append, append_assoc, append-nil, Some, refl, sym, ◌∙◌, ap, subst, arith}
use Rattle.std.specs.Prelude.{Vec, slice_get, slice_index, slice_set}
use Rattle.std.specs.Vec.{with_items}
use Rattle.std.specs.declared.alloc.Global.{Global}
use Rattle.std.proofs.lemmas.List.Sums.{sum_by-append}
use Rattle.pcap_file.specs.declared.Record.{Record}
use Rattle.fip_snoop.specs.Bridge.{Arrival, arrival, arrivals, handled, history, is_dropped, passed, dropped}
use Rattle.fip_snoop.specs.History.{Handled, History}
use Rattle.fip_snoop.specs.Queue.{least, left_in, AllAscend}
use Rattle.fip_snoop.specs.Snoop.{Remembers}
use Rattle.fip_snoop.specs.Ways.{way_of}
use Rattle.fip_snoop.specs.declared.forwarder.Forwarder.{Forwarder}
use Rattle.fip_snoop.specs.declared.way.Way.{Way}
use Rattle.fip_snoop.proofs.BridgeLemmas.{history_goes_on, all_are_counted}
use Rattle.run_files.specs.Pages.{items_in, piece_at}
use Rattle.side_runs.specs.Copies.{records_to, copy_of}
use Rattle.side_runs.specs.Records.{count_in}
use Rattle.side_runs.specs.State.{Stands, Adds, Passes, PassesNext}
use Rattle.side_runs.specs.declared.bridge.Bridge.{Bridge}
use Rattle.side_runs.proofs.NextLemmas.{next_order, length-arrivals}
use Rattle.side_runs.proofs.PageLemmas.{lent_back}

-- ---- one frame

abbrev entry : ℕ → Record → Way → Handled
entry port r way = record { port = port; caught = r.caught; way = way }

some_of : (port : ℕ) (r : Record) (way : Way) → (cond (is_dropped way) 0 1) ≡ passed (entry port r way ∷ [])
some_of port r way = go (is_dropped way)
  where
    go : (b : Bool) → cond {A = ℕ} b 0 1 ≡ 0 + cond (not b) 1 0
    go true = refl
    go false = refl

none_of : (port : ℕ) (r : Record) (way : Way) → (cond (is_dropped way) 1 0) ≡ dropped (entry port r way ∷ [])
none_of port r way = go (is_dropped way)
  where
    go : (b : Bool) → cond {A = ℕ} b 1 0 ≡ 0 + cond b 1 0
    go true = refl
    go false = refl

pub passes : (port : ℕ) (r : Record) (old new : Bridge) (way : Way) → new.places ≡ old.places → length new.pages.items ≡ length old.pages.items
    → ((w : Forwarder) (L : History) → Remembers w L old.snoop → way ≡ way_of w L port r.caught)
    → ((w : Forwarder) (L : History) → Remembers w L old.snoop → Remembers w (entry port r way ∷ L) new.snoop)
    → new.passed ≡ cond (is_dropped way) 0 1 + old.passed → new.dropped ≡ cond (is_dropped way) 1 0 + old.dropped
    → ((q : ℕ) → q < length old.pages.items → piece_at (items_in new.pages.items) q ≡ piece_at (items_in old.pages.items) q ++ copy_of (q + 1) r.moment r.caught.bytes way)
    → Passes port r old new
passes port r old new way places count is remembers some none adds = record {
  places = places;
  count = count;
  kept = λ w L h. subst (λ y. Remembers w (entry port r y ∷ L) new.snoop) (is w L h) (remembers w L h);
  passed_ = λ w L h. some ∙ ap (λ (n : ℕ). n + old.passed) (some_of port r way ∙ ap (λ y. passed (entry port r y ∷ [])) (is w L h));
  dropped_ = λ w L h. none ∙ ap (λ (n : ℕ). n + old.dropped) (none_of port r way ∙ ap (λ y. dropped (entry port r y ∷ [])) (is w L h));
  adds = λ w L h q lt.
      adds q lt
      ∙ ap (λ l. piece_at (items_in old.pages.items) q ++ l) (ap (copy_of (q + 1) r.moment r.caught.bytes) (is w L h) ∙ sym (append-nil (copy_of (q + 1) r.moment r.caught.bytes (way_of w L port r.caught))));
}

-- ---- the next frame

-- one more entry
pub one_entry : (w : Forwarder) (done : List Arrival) (a : Arrival) → history w [] (done ++ a ∷ []) ≡ handled w (history w [] done) a ∷ history w [] done
one_entry w done a = history_goes_on w [] done (a ∷ [])

passed_more : (h : Handled) (L : History) (n : ℕ) → n ≡ passed (h ∷ []) + passed L → n ≡ passed (h ∷ L)
passed_more h L n e = e ∙ sym (sum_by-append (λ (x : Handled). cond {A = ℕ} (not (is_dropped x.way)) 1 0) (h ∷ []) L)

dropped_more : (h : Handled) (L : History) (n : ℕ) → n ≡ dropped (h ∷ []) + dropped L → n ≡ dropped (h ∷ L)
dropped_more h L n e = e ∙ sym (sum_by-append (λ (x : Handled). cond {A = ℕ} (is_dropped x.way) 1 0) (h ∷ []) L)

length-set : (places : List ℕ) (i n : ℕ) → length (slice_set places i n) ≡ length places
length-set [] i n = refl
length-set (p ∷ places) zero n = refl
length-set (p ∷ places) (suc i) n = ap suc (length-set places i n)

module _ (ins : List (List Record)) (i k : ℕ) (r : Record) (old mid new : Bridge) (p : Passes (i + 1) r old mid) (up : AllAscend ins) (a : Arrival) (is : a ≡ arrival (i + 1) r)
    (next : least 1 (left_in ins old.places.items) ≡ Some a) (here : slice_get old.places.items i ≡ Some k)
    (places : new.places.items ≡ slice_set old.places.items i (k + 1)) (snoop : new.snoop ≡ mid.snoop) (pages : new.pages ≡ mid.pages) (some : new.passed ≡ mid.passed) (none : new.dropped ≡ mid.dropped) where
  port_is : a.port ≡ i + 1
  port_is = ap (λ (x : Arrival). x.port) is

  stands_next : (w : Forwarder) (done : List Arrival) → Stands w ins done old → Stands w ins (done ++ a ∷ []) new
  stands_next w done s =
      let L = history w [] done in
      let own : handled w L (arrival (i + 1) r) ∷ L ≡ history w [] (done ++ a ∷ []) = ap (λ x. handled w L x ∷ L) (sym is) ∙ sym (one_entry w done a) in
      record {
        count = ap length places ∙ length-set old.places.items i (k + 1) ∙ s.count;
        order = append_assoc done (a ∷ []) (arrivals (left_in ins new.places.items)) ∙ ap (λ l. done ++ a ∷ arrivals (left_in ins l)) places
            ∙ ap (λ l. done ++ l) (sym (next_order ins old.places.items i k a up here next port_is)) ∙ s.order;
        kept = subst (Remembers w (history w [] (done ++ a ∷ []))) (sym snoop) (subst (λ M. Remembers w M mid.snoop) own (p.kept w L s.kept));
        passed_ = some ∙ passed_more (handled w L (arrival (i + 1) r)) L mid.passed (p.passed_ w L s.kept ∙ ap (λ (n : ℕ). passed (handled w L (arrival (i + 1) r) ∷ []) + n) s.passed_) ∙ ap passed own;
        dropped_ = none ∙ dropped_more (handled w L (arrival (i + 1) r)) L mid.dropped (p.dropped_ w L s.kept ∙ ap (λ (n : ℕ). dropped (handled w L (arrival (i + 1) r) ∷ []) + n) s.dropped_) ∙ ap dropped own;
      }

  adds_next : (w : Forwarder) (done : List Arrival) → Stands w ins done old → Adds w (history w [] done) a old new
  adds_next w done s q lt =
      ap (λ (v : Vec (Vec ℕ Global) Global). piece_at (items_in v.items) q) pages ∙ p.adds w (history w [] done) s.kept q lt
      ∙ ap (λ x. piece_at (items_in old.pages.items) q ++ records_to w (q + 1) (history w [] done) (x ∷ [])) (sym is)

  pub passes_next : PassesNext ins old new
  passes_next = record {
    count = ap (λ (v : Vec (Vec ℕ Global) Global). length v.items) pages ∙ p.count;
    next = λ w done s. (a, stands_next w done s, adds_next w done s);
  }

-- ---- how many

length-history : (w : Forwarder) (L : History) (came : List Arrival) → length (history w L came) ≡ length L + length came
length-history w L [] = omega arith
length-history w L (a ∷ came) = let h = length-history w (handled w L a ∷ L) came in omega arith

-- as long as a frame is to come, it can be counted
pub can_count : (w : Forwarder) (ins : List (List Record)) (done : List Arrival) (b : Bridge) (a : Arrival) (rest : List Arrival) → Stands w ins done b → arrivals (left_in ins b.places.items) ≡ a ∷ rest → count_in ins < 2 ^ 64 → b.passed + b.dropped < 2 ^ 64 - 1
can_count w ins done b a rest s is few =
    let L = history w [] done in
    let counted = all_are_counted L in
    let handled_ = length-history w [] done in
    let all : length done + suc (length rest) ≡ count_in ins = sym (length-append done (a ∷ rest)) ∙ ap (λ l. length (done ++ l)) (sym is) ∙ ap length s.order ∙ length-arrivals ins in
    let some = s.passed_ in
    let none = s.dropped_ in
    let empty : length {A = Handled} [] ≡ 0 = refl in
    omega arith

-- ---- pages that were lent

pub pages_back : (old now : Vec (Vec ℕ Global) Global) (lent back : List (Vec ℕ Global)) → now ≡ with_items old back → lent ≡ old.items → length back ≡ length lent → (length now.items ≡ length old.items) × (now.items ≡ back)
pages_back old now lent back is value count =
    let size : old.len ≡ length back = old.ok.0 ∙ ap length (sym value) ∙ sym count in
    let items : now.items ≡ back = ap (λ (v : Vec (Vec ℕ Global) Global). v.items) is ∙ lent_back back (drop (length back) old.items) old.len size in
    (ap length items ∙ count ∙ ap length value, items)

pub stepped_on : (i : ℕ) (old mid : Vec ℕ Global) (lent back : List ℕ) → mid ≡ old → lent ≡ mid.items → back ≡ slice_set lent i (slice_index lent i + 1) → (with_items mid back).items ≡ slice_set old.items i (slice_index old.items i + 1)
stepped_on i old mid lent back same value set =
    let was : lent ≡ old.items = value ∙ ap (λ (v : Vec ℕ Global). v.items) same in
    let size : mid.len ≡ length back = mid.ok.0 ∙ ap length (sym value) ∙ sym (length-set lent i (slice_index lent i + 1)) ∙ ap length (sym set) in
    lent_back back (drop (length back) mid.items) mid.len size ∙ set ∙ ap (λ l. slice_set l i (slice_index l i + 1)) was
