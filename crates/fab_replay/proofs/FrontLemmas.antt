-- One more entry behind those that are right so far.
use Rattle.std.proofs.Common.{◌≡◌, ℕ, suc, ◌+◌, ◌-◌, Bool, true, false, eqb, List, [], ◌∷◌, ◌++◌, length, length-append, take, drop, slice_get, Option, Some, IfSome, refl, sym, ap, ◌∙◌, subst, arith}
use Rattle.std.specs.Prelude.{if◌then◌else◌, option_and_then, unwrap_or}
use Rattle.std.proofs.lemmas.Bool.{eqb-true, eqb-false, eq-eqb, ne_eqb}
use Rattle.std.proofs.lemmas.List.{append-nil}
use Rattle.fab_base.specs.declared.values.Caught.{Caught}
use Rattle.fab_config.specs.Settings.{Settings}
use Rattle.fab_policy.specs.Journal.{Journal}
use Rattle.fab_policy.specs.Legal.{left_of, numbered_from, of_port, record_of, window_start}
use Rattle.fab_policy.specs.Outputs.{State}
use Rattle.fab_policy.specs.Ranged.{IsRangedEvent}
use Rattle.fab_policy.specs.Standing.{Contents}
use Rattle.fab_policy.specs.declared.event.Event.{Event}
use Rattle.fab_policy.specs.declared.event.Event.TheVariants.{Frame}
use Rattle.fab_policy.specs.declared.verdict.Verdict.{Verdict}
use Rattle.forward_core.specs.Fabric.{AreRanged}
use Rattle.pcap_file.specs.declared.Record.{Record}
use Rattle.fab_states.specs.Runs.{HoldsFrom, RunFrom, first_of, record_from}
use Rattle.fab_states.specs.States.{state_on}
use Rattle.fab_replay.specs.FrontFrom.{HoldsFrontsFrom, IsBegunFrom, IsFrontFrom, IsNextFrameFrom, Origin, StandsFrom, clock_from}
use Rattle.fab_replay.proofs.ListLemmas.{NextOf, next_of, at_inside, front_all}

-- what a fabric keeps, and its clock, are those of its entries
pub same_state : (c : Settings) (o : Origin) (F : Contents) (J : Journal) → StandsFrom o F J → F.settings ≡ c → F.state ≡ state_on c o.state J
same_state c o F J s e = s.state ∙ ap (λ (d : Settings). state_on d o.state J) e

pub same_clock : (c : Settings) (o : Origin) (F : Contents) (J : Journal) → StandsFrom o F J → F.settings ≡ c → F.state.tables.clock ≡ clock_from c o J
same_clock c o F J s e = ap (λ (S : State). S.tables.clock) (same_state c o F J s e)

-- ---- a frame

numbered_end : (n : ℕ) (l : List Record) (r : Record) → numbered_from n (l ++ r ∷ []) ≡ numbered_from n l ++ (n + length l, r.caught) ∷ []
numbered_end n [] r = ap (λ (k : ℕ). (k, r.caught) ∷ []) (let e : n ≡ n + 0 = omega arith in e)
numbered_end n (s ∷ l) r =
    ap (λ x. (n, s.caught) ∷ x) (numbered_end (n + 1) l r ∙ ap (λ (k : ℕ). numbered_from (n + 1) l ++ (k, r.caught) ∷ []) (let e : n + 1 + length l ≡ n + length (s ∷ l) = omega arith in e))

-- frames of a port that are the first of its records
abbrev AreFirst : ℕ → List Record → List (ℕ × Caught) → Type 0
AreFirst first records l = l ≡ numbered_from first (take (length l) records)

held_more : (first : ℕ) (records : List Record) (l : List (ℕ × Caught)) (r : Record) (more : List Record) (index : ℕ) → drop (length l) records ≡ r ∷ more → index ≡ first + length l → AreFirst first records l →
    AreFirst first records (l ++ (index, r.caught) ∷ [])
held_more first records l r more index left is h =
    let n = next_of records (length l) r more left in
    let size : length (l ++ (index, r.caught) ∷ []) ≡ suc (length l) = omega (arith, length-append l ((index, r.caught) ∷ [])) in
    let number : index ≡ first + length (take (length l) records) = omega (arith, is, n.size) in
    ap (λ x. x ++ (index, r.caught) ∷ []) h
    ∙ ap (λ (k : ℕ). numbered_from first (take (length l) records) ++ (k, r.caught) ∷ []) number
    ∙ sym (numbered_end first (take (length l) records) r)
    ∙ ap (λ x. numbered_from first x) (sym n.front)
    ∙ ap (λ (k : ℕ). numbered_from first (take k records)) (sym size)

-- what a frame adds to the frames of a port
abbrev added : Bool → ℕ → Caught → List (ℕ × Caught)
added b index caught = if b then (index, caught) ∷ [] else []

pub of_port_own : (port index q : ℕ) (caught : Caught) (v : Verdict) (J : Journal) → port ≡ q → of_port q (Frame port index caught v ∷ J) ≡ of_port q J ++ (index, caught) ∷ []
of_port_own port index q caught v J e = ap (λ (b : Bool). of_port q J ++ added b index caught) (eq-eqb port q e)

pub of_port_other : (port index q : ℕ) (caught : Caught) (v : Verdict) (J : Journal) → (port ≡ q → ⊥) → of_port q (Frame port index caught v ∷ J) ≡ of_port q J
of_port_other port index q caught v J e = ap (λ (b : Bool). of_port q J ++ added b index caught) (ne_eqb port q e) ∙ append-nil (of_port q J)

module _ (c : Settings) (o : Origin) (ins : List (List Record)) (J : Journal) (port index : ℕ) (told : Option ℕ) (r : Record) (v : Verdict) (h : IsBegunFrom c o ins J)
    (n : IsNextFrameFrom c o ins J port index told r) where
  abbrev e : Event
  e = Frame port index r.caught v

  is_next : NextOf n.records (length (of_port port J)) r n.later
  is_next = next_of n.records (length (of_port port J)) r n.later n.next

  abbrev had : ℕ
  had = length (of_port port J)

  record_is : record_from o.firsts ins port index ≡ Some r
  record_is =
      ap (record_of ins port) (let s : index - first_of o.firsts port ≡ had = (let i = n.number in omega (arith, i)) in s)
      ∙ ap (λ (q : ℕ). option_and_then (λ (rs : List Record). slice_get rs had) (slice_get ins q)) (let s : port - 1 ≡ n.place = omega (arith, n.is) in s)
      ∙ ap (option_and_then (λ (rs : List Record). slice_get rs had)) n.are
      ∙ is_next.at

  frames_more : HoldsFrontsFrom o.firsts (e ∷ J) ins
  frames_more q records at = go (eqb port (q + 1)) refl
    where
      go : (b : Bool) → eqb port (q + 1) ≡ b → AreFirst (first_of o.firsts (q + 1)) records (of_port (q + 1) (e ∷ J))
      go true is =
          let own : port ≡ q + 1 = eqb-true port (q + 1) is in
          let place : n.place ≡ q = omega (arith, own, n.is) in
          let some : Some n.records ≡ Some records = sym n.are ∙ ap (slice_get ins) place ∙ at in
          let same : n.records ≡ records = cc in
          subst (AreFirst (first_of o.firsts (q + 1)) records) (sym (of_port_own port index (q + 1) r.caught v J own))
          (held_more (first_of o.firsts (q + 1)) records (of_port (q + 1) J) r n.later index (ap (λ (p : ℕ). drop (length (of_port p J)) records) (sym own) ∙ ap (drop (length (of_port port J))) (sym same) ∙ n.next) (n.number ∙ ap (λ (p : ℕ). first_of o.firsts p + length (of_port p J)) own) (h.frames q records at))
      go false is = subst (AreFirst (first_of o.firsts (q + 1)) records) (sym (of_port_other port index (q + 1) r.caught v J (eqb-false port (q + 1) is))) (h.frames q records at)

  pub begun_frame : IsBegunFrom c o ins (e ∷ J)
  begun_frame = record {
    ports = (h.ports, (let i = n.is in omega arith), (let i = n.is in omega (arith, at_inside ins n.place n.records n.are)));
    frames = frames_more;
    timed = (h.timed, subst (λ x. IfSome x (λ (s : Record). clock_from c o J ≡ Some (window_start c s.moment))) (sym record_is) n.time);
  }

-- ---- all frames

-- the first frames of a port, by its place
pub front_at : (firsts : List ℕ) (ins : List (List Record)) (J : Journal) → HoldsFrontsFrom firsts J ins → (q port first : ℕ) (records : List Record) → slice_get ins q ≡ Some records → port ≡ 1 + q →
    first ≡ unwrap_or (slice_get firsts q) 0 → of_port port J ≡ numbered_from first (take (length (of_port port J)) records)
front_at firsts ins J h q port first records at e is =
    let f : q + 1 ≡ port = omega (arith, e) in
    let same : first_of firsts (q + 1) ≡ first = ap (λ (k : ℕ). unwrap_or (slice_get firsts k) 0) (let k : q + 1 - 1 ≡ q = omega arith in k) ∙ sym is in
    subst (λ (n : ℕ). of_port port J ≡ numbered_from n (take (length (of_port port J)) records)) same
    (subst (λ (k : ℕ). of_port k J ≡ numbered_from (first_of firsts (q + 1)) (take (length (of_port k J)) records)) f (h q records at))

-- where each port has no frame left, the entries have them all
holds_all : (p : ℕ) (firsts : List ℕ) (ins : List (List Record)) (J : Journal) → length firsts ≡ length ins →
    ((q port first : ℕ) (records : List Record) → slice_get ins q ≡ Some records → port ≡ p + q → first ≡ unwrap_or (slice_get firsts q) 0 →
    (of_port port J ≡ numbered_from first (take (length (of_port port J)) records)) × (left_of port records J ≡ [])) →
    HoldsFrom J p firsts ins
holds_all p [] [] J same h = tt
holds_all p [] (records ∷ ins) J same h = absurd (omega (arith, same))
holds_all p (first ∷ firsts) [] J same h = absurd (omega (arith, same))
holds_all p (first ∷ firsts) (records ∷ ins) J same h =
    let own = h 0 p first records refl (let e : p ≡ p + 0 = omega arith in e) refl in (
      own.0 ∙ ap (numbered_from first) (front_all records (length (of_port p J)) own.1),
      holds_all (p + 1) firsts ins J (let s : length firsts ≡ length ins = omega (arith, same) in s) (λ q port n rs at e is. h (suc q) port n rs at (let f : port ≡ p + suc q = omega (arith, e) in f) is),
    )

pub front_run : (c : Settings) (o : Origin) (ins : List (List Record)) (J : Journal) → IsFrontFrom c o ins J → length o.firsts ≡ length ins →
    ((q : ℕ) (records : List Record) → slice_get ins q ≡ Some records → left_of (q + 1) records J ≡ []) → RunFrom c o.state o.firsts ins J
front_run c o ins J h same none = record {
  ports = h.ports;
  frames = holds_all 1 o.firsts ins J same (λ q port first records at e is. (
    front_at o.firsts ins J h.frames q port first records at e is,
    ap (λ (k : ℕ). left_of k records J) (let f : port ≡ q + 1 = omega (arith, e) in f) ∙ none q records at,
  ));
  legal = h.legal;
  timed = h.timed;
}

-- the numbers of the one entry in a list
pub ranged_one : (e : Event) (es : List Event) → es ≡ e ∷ [] → AreRanged es → IsRangedEvent e
ranged_one e es is h = subst AreRanged is h 0 e (omega arith)
