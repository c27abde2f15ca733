-- What was read of the captures, port by port.
use Rattle.std.proofs.Common.{◌≡◌, ℕ, zero, suc, ◌+◌, List, [], ◌∷◌, ◌++◌, length, length-append, drop, slice_get, Option, Some, refl, sym, ap, ◌∙◌, subst, arith, append_assoc}
use Rattle.std.specs.Prelude.{option_map, option_to_list}
use Rattle.std.proofs.lemmas.Option.{slice_get-map}
use Rattle.fab_base.specs.Seen.{Seen}
use Rattle.fab_config.specs.Settings.{Settings}
use Rattle.fab_policy.specs.Growing.{AreFrom, with_more}
use Rattle.fab_policy.specs.Journal.{Journal}
use Rattle.window_records.specs.Keeping.{IsAhead, Splits}
use Rattle.fab_policy.specs.Legal.{of_port}
use Rattle.window_records.specs.Looks.{Opened, Stop, all_records, records_in}
use Rattle.window_records.specs.Laws.{AllIn, HasSome}
use Rattle.window_records.specs.Port.{AreIn}
use Rattle.window_records.specs.Reads.{HasRead, HaveRead, batches_of, first_index}
use Rattle.window_records.specs.declared.shelf.Input.{Input}
use Rattle.window_records.specs.declared.shelf.Shelf.{Shelf}
use Rattle.pcap_file.specs.declared.Record.{Record}
use Rattle.fab_replay.specs.FrontFrom.{Origin}
use Rattle.fab_replay.specs.Steps.{AreCounted, IsGathered}
use Rattle.fab_replay.specs.Windows.{HaveLines}
use Rattle.fab_replay.proofs.ListLemmas.{at_inside, inside_at, rest_behind}

-- ---- by place

-- a port with what was read of it
record ReadAt (c : Settings) (w q : ℕ) (opened : List Opened) (taken : List (List Record)) (s : Shelf) (d : Seen) : Type 0 where
  pub capture : Opened
  pub records : List Record
  pub input : Input
  pub opened_ : slice_get opened q ≡ Some capture
  pub taken_ : slice_get taken q ≡ Some records
  pub read : HasRead c w capture records input s d

read_at : (c : Settings) (w q : ℕ) (opened : List Opened) (taken : List (List Record)) (ins : List Input) (shelves : List Shelf) (d : Seen) (s : Shelf) → HaveRead c w opened taken ins shelves d → slice_get shelves q ≡ Some s → ReadAt c w q opened taken s d
read_at c w q [] [] [] [] d s h at = absurd (cc)
read_at c w q [] [] [] (t ∷ shelves) d s h at = absurd h
read_at c w q [] [] (i ∷ ins) shelves d s h at = absurd h
read_at c w q [] (records ∷ taken) ins shelves d s h at = absurd h
read_at c w q (o ∷ opened) [] ins shelves d s h at = absurd h
read_at c w q (o ∷ opened) (records ∷ taken) [] shelves d s h at = absurd h
read_at c w q (o ∷ opened) (records ∷ taken) (i ∷ ins) [] d s h at = absurd h
read_at c w zero (o ∷ opened) (records ∷ taken) (i ∷ ins) (t ∷ shelves) d s h at =
    let same : t ≡ s = cc in
    record { capture = o; records = records; input = i; opened_ = refl; taken_ = refl; read = subst (λ (y : Shelf). HasRead c w o records i y d) same h.0 }
read_at c w (suc q) (o ∷ opened) (records ∷ taken) (i ∷ ins) (t ∷ shelves) d s h at =
    let r = read_at c w q opened taken ins shelves d s h.1 at in
    record { capture = r.capture; records = r.records; input = r.input; opened_ = r.opened_; taken_ = r.taken_; read = r.read }

pub splits_at : (c : Settings) (w q : ℕ) (ins : List Opened) (taken : List (List Record)) (o : Opened) (records : List Record) → Splits c w ins taken → slice_get ins q ≡ Some o → slice_get taken q ≡ Some records →
    (later : List Record) × (records_in o ≡ records ++ later) × AreFrom c w later
splits_at c w q [] [] o records h at own = absurd (cc)
splits_at c w q [] (rs ∷ taken) o records h at own = absurd h
splits_at c w q (p ∷ ins) [] o records h at own = absurd h
splits_at c w zero (p ∷ ins) (rs ∷ taken) o records h at own =
    let one : p ≡ o = cc in
    let two : rs ≡ records = cc in
    (h.0.0, ap records_in (sym one) ∙ h.0.1 ∙ ap (λ l. l ++ h.0.0) two, h.0.3)
splits_at c w (suc q) (p ∷ ins) (rs ∷ taken) o records h at own = splits_at c w q ins taken o records h.1 at own

-- the records of a port are those that were taken before, and those on its shelf
parts_at : (q : ℕ) (taken batches : List (List Record)) (batch records : List Record) → length taken ≡ length batches → slice_get batches q ≡ Some batch → slice_get (with_more taken batches) q ≡ Some records →
    (before : List Record) × (slice_get taken q ≡ Some before) × (records ≡ before ++ batch)
parts_at q [] [] batch records e own at = absurd (cc)
parts_at q [] (b ∷ batches) batch records e own at = absurd (omega arith)
parts_at q (t ∷ taken) [] batch records e own at = absurd (omega arith)
parts_at zero (t ∷ taken) (b ∷ batches) batch records e own at =
    let one : b ≡ batch = cc in
    let two : t ++ b ≡ records = cc in
    (t, refl, sym two ∙ ap (λ l. t ++ l) one)
parts_at (suc q) (t ∷ taken) (b ∷ batches) batch records e own at = parts_at q taken batches batch records (omega arith) own at

in_all : (c : Settings) (w q : ℕ) (batches : List (List Record)) (batch : List Record) → AllIn c w batches → slice_get batches q ≡ Some batch → AreIn c w batch
in_all c w q [] batch h at = absurd (cc)
in_all c w zero (b ∷ batches) batch h at = let same : b ≡ batch = cc in subst (AreIn c w) same h.0
in_all c w (suc q) (b ∷ batches) batch h at = in_all c w q batches batch h.1 at

batch_at : (shelves : List Shelf) (q : ℕ) (s : Shelf) → slice_get shelves q ≡ Some s → slice_get (batches_of shelves) q ≡ Some s.batch.items
batch_at shelves q s at = slice_get-map (λ (y : Shelf). y.batch.items) shelves q ∙ ap (option_map (λ (y : Shelf). y.batch.items)) at

shelf_at : (shelves : List Shelf) (q : ℕ) (batch : List Record) → slice_get (batches_of shelves) q ≡ Some batch → (s : Shelf) × (slice_get shelves q ≡ Some s) × (s.batch.items ≡ batch)
shelf_at [] q batch at = absurd (cc)
shelf_at (s ∷ shelves) zero batch at = (s, refl, cc)
shelf_at (s ∷ shelves) (suc q) batch at = shelf_at shelves q batch at

length-batches : (shelves : List Shelf) → length (batches_of shelves) ≡ length shelves
length-batches [] = refl
length-batches (s ∷ shelves) = ap suc (length-batches shelves)

pub length-records : (os : List Opened) → length (all_records os) ≡ length os
length-records [] = refl
length-records (o ∷ os) = ap suc (length-records os)

-- ---- a window that was gathered

module _ (c : Settings) (w : ℕ) (opened : List Opened) (taken : List (List Record)) (ins : List Input) (shelves : List Shelf) (d : Seen) (width : length taken ≡ length shelves) (read : HaveRead c (w + 1) opened (with_more taken (batches_of shelves)) ins shelves d) where
  -- of a port: what was taken before, and how many that is
  record PortAt (q : ℕ) (s : Shelf) : Type 0 where
    pub capture : Opened
    pub opened_ : slice_get opened q ≡ Some capture
    pub before : List Record
    pub taken_ : slice_get taken q ≡ Some before
    pub all : slice_get (with_more taken (batches_of shelves)) q ≡ Some (before ++ s.batch.items)
    pub first : first_index s ≡ length before

  port_at : (q : ℕ) (s : Shelf) → slice_get shelves q ≡ Some s → PortAt q s
  port_at q s at =
      let r = read_at c (w + 1) q opened (with_more taken (batches_of shelves)) ins shelves d s read at in
      let p = parts_at q taken (batches_of shelves) s.batch.items r.records (width ∙ sym (length-batches shelves)) (batch_at shelves q s at) r.taken_ in
      let count = r.read.count in
      let size = ap (λ (l : List Record). length (l ++ option_to_list s.next)) p.2 in
      record {
        capture = r.capture;
        opened_ = r.opened_;
        before = p.0;
        taken_ = p.1;
        all = r.taken_ ∙ ap (λ (l : List Record). Some l) p.2;
        first = omega (arith, count, size, length-append (p.0 ++ s.batch.items) (option_to_list s.next), length-append p.0 s.batch.items);
      }

  module _ (J : Journal) where
    -- once each frame on the shelves has a line, as many have as were taken
    pub lines_on : AreCounted J shelves → HaveLines J (with_more taken (batches_of shelves))
    lines_on counted q records at =
        let lt = at_inside (with_more taken (batches_of shelves)) q records at in
        let s = inside_at shelves q (omega (arith, lt, length-more taken (batches_of shelves), width)) in
        let p = port_at q s.0 s.1 in
        let both : Some (p.before ++ s.0.batch.items) ≡ Some records = sym p.all ∙ at in
        let same : p.before ++ s.0.batch.items ≡ records = cc in
        let first = p.first in
        let n = counted q s.0 s.1 in
        let size = ap length same in
        omega (arith, n, first, size, length-append p.before s.0.batch.items)
      where
        length-more : (ts bs : List (List Record)) → length (with_more ts bs) ≡ length ts
        length-more [] bs = refl
        length-more (t ∷ ts) [] = refl
        length-more (t ∷ ts) (b ∷ bs) = ap suc (length-more ts bs)

    -- what is on the shelves stands behind the lines so far
    pub gathered : (from : Origin) (stop : Option Stop) (bytes : List ℕ) → IsAhead (w + 1) stop → length shelves ≡ length opened → Splits c (w + 1) opened (with_more taken (batches_of shelves)) → AllIn c w (batches_of shelves) → HasSome (batches_of shelves) → HaveLines J taken →
        IsGathered (record { settings = c; from = from; records = all_records opened; stop = stop; bytes = bytes }) w J shelves
    gathered from stop bytes ahead ports splits own some lines = record {
      width = ports ∙ sym (length-records opened);
      ahead = ahead;
      ports = λ q s at.
          let p = port_at q s at in
          let later = splits_at c (w + 1) q opened (with_more taken (batches_of shelves)) p.capture (p.before ++ s.batch.items) splits p.opened_ p.all in
          let n = lines q p.before p.taken_ in
          let first = p.first in
          record {
            records = records_in p.capture;
            are = slice_get-map records_in opened q ∙ ap (option_map records_in) p.opened_;
            own = in_all c w q (batches_of shelves) s.batch.items own (batch_at shelves q s at);
            few = omega arith;
            later = later.0;
            left = ap (λ l. drop (length (of_port (q + 1) J)) l) (later.1 ∙ append_assoc p.before s.batch.items later.0) ∙ ap (λ (k : ℕ). drop k (p.before ++ (s.batch.items ++ later.0))) n ∙ rest_behind p.before (s.batch.items ++ later.0);
            from = later.2;
            count = omega (arith, n, first);
          };
      some =
          let s = shelf_at shelves some.0 (some.1 ∷ some.2) some.3 in
          let size = ap length s.2 in
          (some.0, s.0, s.1, omega (arith, size));
    }
