-- A piece that begins before the clock, and one that doesn't.
use Rattle.std.proofs.Common.{◌≡◌, ℕ, zero, suc, ◌+◌, ◌<◌, ◌≤◌, below_more, List, [], ◌∷◌, length, map, Option, Some, None, IfSome, IsTrue, Result, refl, sym, ap, ◌∙◌, subst, arith}
use Rattle.std.specs.Prelude.{IfNone, option_to_list, slice_get}
use Rattle.std.proofs.lemmas.Option.{slice_get_within}
use Rattle.fab_base.specs.Seen.{Seen, Touches, Nothing}
use Rattle.fab_base.specs.Slots.{NameIn}
use Rattle.fab_base.proofs.SeenLemmas.{touches_wider}
use Rattle.fab_config.specs.Settings.{Settings}
use Rattle.fab_policy.specs.Legal.{window_start}
use Rattle.fab_policy.specs.Standing.{Contents}
use Rattle.pcap_file.specs.Capture.{records_from}
use Rattle.pcap_file.specs.Reading.{to_come}
use Rattle.pcap_file.specs.Records.{Chain, last_moment}
use Rattle.pcap_file.specs.declared.Record.{Record}
use Rattle.pcap_file.proofs.lemmas.Chains.{records_on}
use Rattle.window_records.specs.First.{IsNextWindow}
use Rattle.window_records.specs.Looks.{Opened, all_records, records_in}
use Rattle.window_records.specs.Ports.{slots_of}
use Rattle.window_records.specs.Reads.{HasRead, HaveRead}
use Rattle.window_records.specs.declared.shelf.Input.{Input}
use Rattle.window_records.specs.declared.shelf.Shelf.{Shelf}
use Rattle.window_records.proofs.ReadLemmas.{is_all}
use Rattle.fab_replay.specs.Check.{Task, captures_in}
use Rattle.fab_replay.specs.Piece.{AreLater, BeginsEarly, EndsPiece, IsFirstEarly, IsShelfLater}
use Rattle.fab_replay.specs.Windows.{Ends, OfTask}
use Rattle.fab_replay.specs.declared.fault.CheckFault.{CheckFault}
use Rattle.fab_replay.proofs.SlotsLemmas.{in_front}

later_at : (c : Settings) (time : ℕ) (s : Shelf) (r : Record) → s.next ≡ Some r → IsShelfLater c time s → time ≤ window_start c r.moment
later_at c time s r is h = subst (λ (o : Option Record). IfSome o (λ x. time ≤ window_start c x.moment)) is h

-- where no record that was looked at is of a window before the clock, the next window isn't
not_early : (c : Settings) (clock : Option ℕ) (shelves : List Shelf) → IfSome clock (λ time. AreLater c time shelves) → (v : ℕ) → IsNextWindow c shelves (Some v) → IfSome clock (λ t. t ≤ v)
not_early c None shelves h v next = tt
not_early c (Some time) shelves h v next =
    let one = next.0 in
    subst (λ (n : ℕ). time ≤ n) one.5 (later_at c time one.1 one.2 one.4 (h one.0 one.1 one.3))

pub none_early : (c : Settings) (clock found : Option ℕ) (looked shelves : List Shelf) → looked ≡ shelves → found ≡ None → IfNone found (IfSome clock (λ time. AreLater c time looked)) → (v : ℕ) → IsNextWindow c shelves (Some v) → IfSome clock (λ t. t ≤ v)
none_early c clock found looked shelves same none h =
    not_early c clock shelves (subst (λ (l : List Shelf). IfSome clock (λ time. AreLater c time l)) same (subst (λ (o : Option ℕ). IfNone o (IfSome clock (λ time. AreLater c time looked))) none h))

-- ---- the first records of the captures

module _ (c : Settings) (d : Seen) (told : IsTrue d.told) where
  first_found : (o : Opened) (i : Input) (s : Shelf) → HasRead c 0 o [] i s d → (r : Record) → s.next ≡ Some r → (later : List Record) × (records_in o ≡ r ∷ later)
  first_found o i s h r is =
      let behind : List ℕ = to_come i.reader d i.slot in
      let chain : Chain o.head 0 (r ∷ []) o.body behind = subst (λ (x : Option Record). Chain o.head 0 (option_to_list x) o.body behind) is (h.chain told) in (
        records_from (length o.body) o.head (last_moment 0 (r ∷ [])) behind,
        records_on (suc (length o.body)) (length o.body) o.head 0 (r ∷ []) o.body behind (omega arith) chain,
      )

  shelf_first : (o : Opened) (i : Input) (s : Shelf) → HasRead c 0 o [] i s d → (r : Record) (more : List Record) → records_in o ≡ r ∷ more → s.next ≡ Some r
  shelf_first o i s h r more are = go s.next refl
    where
      go : (x : Option Record) → s.next ≡ x → s.next ≡ Some r
      go None e = let none : [] ≡ r ∷ more = sym (is_all c 0 o [] i s d told h e) ∙ are in absurd (cc)
      go (Some x) e =
          let f = first_found o i s h x e in
          let both : x ∷ f.0 ≡ r ∷ more = sym f.1 ∙ are in
          let same : x ≡ r = cc in
          e ∙ ap Some same

  -- the record that was looked at is the first of its capture
  read_first : (opened : List Opened) (is js : List Input) (shelves : List Shelf) → HaveRead c 0 opened (map (λ (i : Input). []) is) js shelves d → (q : ℕ) (s : Shelf) → slice_get shelves q ≡ Some s → (r : Record) → s.next ≡ Some r →
      (later : List Record) × (slice_get (all_records opened) q ≡ Some (r ∷ later))
  read_first [] [] [] [] h q s at r is = absurd (cc)
  read_first [] [] [] (t ∷ shelves) h q s at r is = absurd h
  read_first [] [] (j ∷ js) shelves h q s at r is = absurd h
  read_first [] (i ∷ is) js shelves h q s at r is' = absurd h
  read_first (o ∷ opened) [] js shelves h q s at r is = absurd h
  read_first (o ∷ opened) (i ∷ is) [] shelves h q s at r is' = absurd h
  read_first (o ∷ opened) (i ∷ is) (j ∷ js) [] h q s at r is' = absurd h
  read_first (o ∷ opened) (i ∷ is) (j ∷ js) (t ∷ shelves) h zero s at r is' =
      let same : t ≡ s = cc in
      let f = first_found o j t h.0 r (ap (λ (x : Shelf). x.next) same ∙ is') in
      (f.0, ap Some f.1)
  read_first (o ∷ opened) (i ∷ is) (j ∷ js) (t ∷ shelves) h (suc q) s at r is' = read_first opened is js shelves h.1 q s at r is'

  -- the first record of a capture was looked at
  looked_first : (opened : List Opened) (is js : List Input) (shelves : List Shelf) → HaveRead c 0 opened (map (λ (i : Input). []) is) js shelves d → (q : ℕ) (r : Record) (more : List Record) → slice_get (all_records opened) q ≡ Some (r ∷ more) →
      (s : Shelf) × (slice_get shelves q ≡ Some s) × (s.next ≡ Some r)
  looked_first [] [] [] [] h q r more at = absurd (cc)
  looked_first [] [] [] (t ∷ shelves) h q r more at = absurd h
  looked_first [] [] (j ∷ js) shelves h q r more at = absurd h
  looked_first [] (i ∷ is) js shelves h q r more at = absurd h
  looked_first (o ∷ opened) [] js shelves h q r more at = absurd h
  looked_first (o ∷ opened) (i ∷ is) [] shelves h q r more at = absurd h
  looked_first (o ∷ opened) (i ∷ is) (j ∷ js) [] h q r more at = absurd h
  looked_first (o ∷ opened) (i ∷ is) (j ∷ js) (t ∷ shelves) h zero r more at =
      let are : records_in o ≡ r ∷ more = cc in
      (t, refl, shelf_first o j t h.0 r more are)
  looked_first (o ∷ opened) (i ∷ is) (j ∷ js) (t ∷ shelves) h (suc q) r more at = looked_first opened is js shelves h.1 q r more at

-- ---- what is answered

pub begins_early : (k : Task) (d : Seen) (F : Contents) (js : List Input) (shelves : List Shelf) → Touches Nothing (NameIn k.start.seen (slots_of k.start.ins)) k.start.seen d → HaveRead k.settings 0 (captures_in k) (map (λ (i : Input). []) k.start.ins) js shelves d →
    (q port : ℕ) → port ≡ q + 1 → (time : ℕ) × (k.from.state.tables.clock ≡ Some time) × IsFirstEarly k.settings time shelves q → BeginsEarly k d F F port
begins_early k d F js shelves touches read q port is found =
    let time = found.0 in
    let first = found.2 in
    record {
      touches = touches_wider Nothing (NameIn k.start.seen (slots_of k.start.ins)) Nothing (OfTask k) k.start.seen d (λ m h. h) (in_front (slots_of k.start.ins) k.outs k.start.seen) touches;
      early = λ told.
          let tells : IsTrue d.told = subst IsTrue (sym touches.told) told in
          let at = read_first k.settings d tells (captures_in k) k.start.ins js shelves read q first.shelf first.at first.early.0 first.early.1 in
          record {
            place = q;
            is = is;
            time = time;
            clock_ = found.1;
            first = first.early.0;
            later = at.0;
            are = at.1;
            before = first.early.2;
            others = λ p r more lt are.
                let s = looked_first k.settings d tells (captures_in k) k.start.ins js shelves read p r more are in
                later_at k.settings time s.0 r s.2 (first.others p lt s.0 s.1);
          };
      same = refl;
    }

pub ends_piece : {k : Task} {d : Seen} {F : Contents} {r : Result ℕ CheckFault} → Ends k d F r → EndsPiece k d F r
ends_piece h = record { checks = h.checks; leaves = h.leaves }

-- ---- the search for it

pub later_more : (c : Settings) (time : ℕ) (shelves : List Shelf) (i : ℕ) (s : Shelf) → slice_get shelves i ≡ Some s → ((q : ℕ) → q < i → (t : Shelf) → slice_get shelves q ≡ Some t → IsShelfLater c time t) → IsShelfLater c time s →
    (q : ℕ) → q < i + 1 → (t : Shelf) → slice_get shelves q ≡ Some t → IsShelfLater c time t
later_more c time shelves i s at before here = below_more (λ (q : ℕ). (t : Shelf) → slice_get shelves q ≡ Some t → IsShelfLater c time t) i before
    (λ t is. let both : Some s ≡ Some t = sym at ∙ is in let e : s ≡ t = cc in subst (IsShelfLater c time) e here)

pub all_later : (c : Settings) (time : ℕ) (shelves : List Shelf) (i : ℕ) → length shelves ≤ i → ((q : ℕ) → q < i → (t : Shelf) → slice_get shelves q ≡ Some t → IsShelfLater c time t) → AreLater c time shelves
all_later c time shelves i le before q t at = before q (let w = slice_get_within shelves q t at in omega (arith, le, w)) t at
