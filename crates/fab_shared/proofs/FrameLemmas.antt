-- The frames of a port, one after another, and then those of all ports.
use Rattle.std.proofs.Common.{◌≡◌, ℕ, suc, ◌+◌, ◌<◌, ◌≤◌, ◌⊎◌, inl, inr, Bool, cond, List, [], ◌∷◌, ◌++◌, length, slice_get, take, get_or, Some, refl, sym, ap, ◌∙◌, subst, arith}
use Rattle.std.proofs.lemmas.Bool.{eq-eqb, ne_eqb, cases_order}
use Rattle.std.proofs.lemmas.List.{append-nil, length-take-le, take_all, take_more}
use Rattle.std.proofs.lemmas.Option.{slice_get_within}
use Rattle.fab_base.specs.declared.values.Caught.{Caught}
use Rattle.window_records.specs.Reads.{batches_of}
use Rattle.window_records.specs.declared.shelf.Shelf.{Shelf}
use Rattle.fab_policy.specs.Growing.{FollowedByParts}
use Rattle.fab_policy.specs.Journal.{followed}
use Rattle.fab_policy.specs.Legal.{IsRightEntry, HasPorts, of_port, numbered_from}
use Rattle.fab_policy.specs.Standing.{Contents, Takes}
use Rattle.fab_policy.specs.Outputs.{State}
use Rattle.fab_states.specs.Went.{Grown}
use Rattle.fab_states.proofs.WentLemmas.{went_of, went_once, went_twice}
use Rattle.fab_policy.specs.declared.event.Event.{Event}
use Rattle.fab_policy.specs.declared.event.Event.TheVariants.{Frame}
use Rattle.fab_policy.specs.declared.verdict.Verdict.{Verdict}
use Rattle.pcap_file.specs.declared.Record.{Record}
use Rattle.window_records.specs.Reads.{first_index}
use Rattle.fab_shared.specs.Handled.{HandledPort, HoldBatches, Handled, firsts_of}
use Rattle.fab_policy.proofs.FollowedLemmas.{of_port-followed, ports-followed, frames-append}
use Rattle.fab_policy.proofs.GrowLemmas.{numbered-append}

-- a fabric grew out of itself
abbrev grown_none : (F : Contents) → Grown F F
grown_none F = record { settings = refl; count = refl; clock = refl; later = []; frames = tt; events = sym (append-nil F.events); legal = tt; state = refl; outs = sym (append-nil F.outs) }

-- a fabric that grew twice
abbrev grown_twice : (F G H : Contents) → Grown F G → Grown G H → Grown F H
grown_twice F G H g h =
    let both = went_twice F G H g.later h.later (went_of F G g) (went_of G H h) in
    record {
      settings = both.settings;
      count = both.count;
      clock = h.clock ∙ g.clock;
      later = g.later ++ h.later;
      frames = frames-append g.later h.later g.frames h.frames;
      events = both.events;
      legal = both.legal;
      state = both.state;
      outs = both.outs;
    }

-- what the frames of a port are, if they came in two parts
two_parts : FollowedByParts → (p : ℕ) (one two : List Event) → of_port p (followed [] (one ++ two)) ≡ of_port p (followed [] one) ++ of_port p (followed [] two)
two_parts parts p one two = ap (of_port p) (parts [] one two) ∙ of_port-followed p (followed [] one) two

-- and their ports
ports_twice : FollowedByParts → (n k : ℕ) (one two : List Event) → k ≡ n → HasPorts n (followed [] one) → HasPorts k (followed [] two) → HasPorts n (followed [] (one ++ two))
ports_twice parts n k one two e h i = subst (HasPorts n) (sym (parts [] one two)) (ports-followed n (followed [] one) two h (subst (λ (m : ℕ). HasPorts m (followed [] two)) e i))

-- ---- one port

pub port_none : (port first : ℕ) (F : Contents) → HandledPort port first [] F F
port_none port first F = record { grown = grown_none F; ports = tt; own = refl; others = λ q ne. refl }

-- one record, the frame of which was heard
module _ (port index : ℕ) (r : Record) (caught : Caught) (same : caught ≡ r.caught) (v : Verdict) (F G : Contents) (some : 1 ≤ port) (most : port ≤ F.count)
    (right : IsRightEntry F.settings F.state.tables (Frame port index caught v)) (took : Takes F (Frame port index caught v) G) where
  abbrev grown_once : Grown F G
  grown_once =
      let one = went_once F G (Frame port index caught v) right took in
      record {
        settings = one.settings;
        count = one.count;
        clock = ap (λ (S : State). S.tables.clock) took.state;
        later = Frame port index caught v ∷ [];
        frames = tt;
        events = one.events;
        legal = one.legal;
        state = one.state;
        outs = one.outs;
      }

  pub port_one : HandledPort port index (r ∷ []) F G
  port_one = record {
    grown = grown_once;
    ports = (tt, some, most);
    own = ap (λ (b : Bool). cond b ((index, caught) ∷ []) []) (eq-eqb port port refl) ∙ ap (λ (q : Caught). (index, q) ∷ []) same;
    others = λ q ne. ap (λ (b : Bool). cond b ((index, caught) ∷ []) []) (ne_eqb port q (λ e. ne (sym e)));
  }

-- further records of the same port
module _ (parts : FollowedByParts) (port first : ℕ) (records more : List Record) (F G H : Contents) (so_far : HandledPort port first records F G) (next : HandledPort port (first + length records) more G H) where
  pub port_more : HandledPort port first (records ++ more) F H
  port_more = record {
    grown = grown_twice F G H so_far.grown next.grown;
    ports = ports_twice parts F.count G.count so_far.grown.later next.grown.later so_far.grown.count so_far.ports next.ports;
    own = two_parts parts port so_far.grown.later next.grown.later
        ∙ ap (λ l. l ++ of_port port (followed [] next.grown.later)) so_far.own
        ∙ ap (λ l. numbered_from first records ++ l) next.own
        ∙ sym (numbered-append first records more);
    others = λ q ne.
        two_parts parts q so_far.grown.later next.grown.later
        ∙ ap (λ l. l ++ of_port q (followed [] next.grown.later)) (so_far.others q ne)
        ∙ next.others q ne;
  }

-- the next record of a list
pub port_next : FollowedByParts → (port first index place : ℕ) (items : List Record) (r : Record) (F G H : Contents) → place < length items → r ≡ get_or items place r → index ≡ first + place
    → HandledPort port first (take place items) F G → HandledPort port index (r ∷ []) G H → HandledPort port first (take (place + 1) items) F H
port_next parts port first index place items r F G H lt is at so_far next =
    let front = length-take-le place items (omega arith) in
    let here : index ≡ first + length (take place items) = omega arith in
    subst (λ l. HandledPort port first l F H) (sym (take_more items place r lt ∙ ap (λ (x : Record). take place items ++ x ∷ []) (sym is)))
    (port_more parts port first (take place items) (r ∷ []) F G H so_far (subst (λ (i : ℕ). HandledPort port i (r ∷ []) G H) here next))

-- the whole list
pub port_all : (port first n place : ℕ) (items : List Record) (F G : Contents) → length items ≤ place → first ≡ n → HandledPort port first (take place items) F G → HandledPort port n items F G
port_all port first n place items F G le same h = subst (λ (i : ℕ). HandledPort port i items F G) same (subst (λ l. HandledPort port first l F G) (take_all place items le) h)

-- ---- all ports

-- The records of so many ports were handled, and none of the others.
pub record Handling (k : ℕ) (shelves : List Shelf) (F G : Contents) : Type 0 where
  pub grown : Grown F G
  pub ports : HasPorts F.count (followed [] grown.later)
  pub own : (q : ℕ) (s : Shelf) → q < k → slice_get shelves q ≡ Some s → of_port (q + 1) (followed [] grown.later) ≡ numbered_from (first_index s) s.batch.items
  pub others : (q : ℕ) → k ≤ q → of_port (q + 1) (followed [] grown.later) ≡ []

pub handling_none : (shelves : List Shelf) (F : Contents) → Handling 0 shelves F F
handling_none shelves F = record { grown = grown_none F; ports = tt; own = λ q s lt at. absurd (omega arith); others = λ q le. refl }

module _ (parts : FollowedByParts) (k : ℕ) (shelves : List Shelf) (s : Shelf) (F G H : Contents) (so_far : Handling k shelves F G) (at : slice_get shelves k ≡ Some s)
    (next : HandledPort (k + 1) (first_index s) s.batch.items G H) where
  abbrev both : (p : ℕ) → of_port p (followed [] (so_far.grown.later ++ next.grown.later)) ≡ of_port p (followed [] so_far.grown.later) ++ of_port p (followed [] next.grown.later)
  both p = two_parts parts p so_far.grown.later next.grown.later

  own_next : (q : ℕ) (t : Shelf) → q < k + 1 → slice_get shelves q ≡ Some t → of_port (q + 1) (followed [] (so_far.grown.later ++ next.grown.later)) ≡ numbered_from (first_index t) t.batch.items
  own_next q t lt has = by_order (cases_order q k)
    where
      by_order : (q ≡ k) ⊎ ((q < k) ⊎ (k < q)) → of_port (q + 1) (followed [] (so_far.grown.later ++ next.grown.later)) ≡ numbered_from (first_index t) t.batch.items
      by_order (inl same) =
          let here : slice_get shelves q ≡ Some s = ap (slice_get shelves) same ∙ at in
          let shelf : s ≡ t = cc in
          both (q + 1)
          ∙ ap (λ l. l ++ of_port (q + 1) (followed [] next.grown.later)) (so_far.others q (omega arith))
          ∙ ap (λ (x : ℕ). of_port (x + 1) (followed [] next.grown.later)) same
          ∙ next.own
          ∙ ap (λ (x : Shelf). numbered_from (first_index x) x.batch.items) shelf
      by_order (inr (inl before)) =
          both (q + 1)
          ∙ ap (λ l. of_port (q + 1) (followed [] so_far.grown.later) ++ l) (next.others (q + 1) (λ same. absurd (omega arith)))
          ∙ append-nil (of_port (q + 1) (followed [] so_far.grown.later))
          ∙ so_far.own q t before has
      by_order (inr (inr behind)) = absurd (omega arith)

  others_next : (q : ℕ) → k + 1 ≤ q → of_port (q + 1) (followed [] (so_far.grown.later ++ next.grown.later)) ≡ []
  others_next q le =
      both (q + 1)
      ∙ ap (λ l. l ++ of_port (q + 1) (followed [] next.grown.later)) (so_far.others q (omega arith))
      ∙ next.others (q + 1) (λ same. absurd (omega arith))

  pub handling_more : Handling (k + 1) shelves F H
  handling_more = record {
    grown = grown_twice F G H so_far.grown next.grown;
    ports = ports_twice parts F.count G.count so_far.grown.later next.grown.later so_far.grown.count so_far.ports next.ports;
    own = own_next;
    others = others_next;
  }

-- at the end each port has its records
pub held_all : (es : List Event) (p : ℕ) (shelves : List Shelf) → ((q : ℕ) (s : Shelf) → slice_get shelves q ≡ Some s → of_port (p + q) (followed [] es) ≡ numbered_from (first_index s) s.batch.items) →
    HoldBatches es p (firsts_of shelves) (batches_of shelves)
held_all es p [] each = tt
held_all es p (s ∷ shelves) each = (
  ap (λ (n : ℕ). of_port n (followed [] es)) (let e : p ≡ p + 0 = omega arith in e) ∙ each 0 s refl,
  held_all es (p + 1) shelves (λ q t at. ap (λ (n : ℕ). of_port n (followed [] es)) (let e : p + 1 + q ≡ p + suc q = omega arith in e) ∙ each (suc q) t at),
)

pub handling_all : (k : ℕ) (shelves : List Shelf) (F G : Contents) → length shelves ≤ k → Handling k shelves F G → Handled (firsts_of shelves) (batches_of shelves) F G
handling_all k shelves F G le all = record {
  grown = all.grown;
  ports = all.ports;
  held = held_all all.grown.later 1 shelves (λ q s at.
      let within = slice_get_within shelves q s at in
      ap (λ (n : ℕ). of_port n (followed [] all.grown.later)) (let e : 1 + q ≡ q + 1 = omega arith in e) ∙ all.own q s (omega arith) at);
}
