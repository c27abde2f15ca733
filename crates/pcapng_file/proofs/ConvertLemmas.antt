-- Converting a file: the input is read whole, and then the output is written.
use Rattle.std.proofs.Common.{◌≡◌, ℕ, suc, ◌+◌, IsTrue, List, [], ◌∷◌, ◌++◌, length, append_assoc, take, drop, Some, Ok, Err, refl, sym, ap, ◌∙◌, subst, arith}
use Rattle.std.specs.Prelude.{Result, slice_get}
use Rattle.std.proofs.Math.Seq.{drop-cons}
use Rattle.std.proofs.lemmas.List.{take-append-drop}
use Rattle.std.proofs.lemmas.Option.{slice_get_within, get_or_from_slice_get}
use Rattle.fab_base.specs.Ending.{End, Read, Write, Memory, end_by, CountsRead, Uses}
use Rattle.fab_base.specs.Seen.{Seen, Reads, Nothing, Only, OpensIn, OpensOut, PutsAll}
use Rattle.fab_base.specs.declared.values.Failed.{Failed}
use Rattle.fab_base.proofs.SeenLemmas.{reads_trans, told_stays}
use Rattle.pcap_file.specs.declared.Budget.{Budget}
use Rattle.pcapng_file.specs.declared.fault.NgError.{NgError}
use Rattle.pcapng_file.specs.declared.fault.NgError.TheVariants as errors
use Rattle.pcapng_file.specs.declared.NgRecord.{NgRecord}
use Rattle.fab_base.proofs.EndingLemmas.{said_so, uses_refused, uses_then, uses_wider, uses_read, opens_in_uses, opens_out_uses, puts_all_uses}
use Rattle.pcapng_file.specs.File.{before_all, ng_end, NgReads}
use Rattle.pcapng_file.specs.declared.fault.ConvertError.TheVariants as ends
use Rattle.pcapng_file.specs.Classic.{classic_record, classic_records, classic_bytes, SaysInput, Converts, Same, Front}
use Rattle.pcapng_file.proofs.BackLemmas.{read_back}
use Rattle.pcapng_file.proofs.GoingLemmas.{read_is}
use Rattle.pcapng_file.proofs.LawLemmas as laws
use Rattle.pcapng_file.proofs.LawLemmas.{read_is_file}

-- ---- the capture

-- a record more stands behind those before a place
pub classic_step : (v : List NgRecord) (i : ℕ) (r : NgRecord) (o p : List ℕ) → slice_get v i ≡ Some r → o ++ classic_records (drop i v) ≡ classic_bytes v → p ≡ o ++ classic_record r → p ++ classic_records (drop (i + 1) v) ≡ classic_bytes v
classic_step v i r o p is whole more =
    let split : drop i v ≡ r ∷ drop (suc i) v = drop-cons v i r (slice_get_within v i r is) ∙ ap (λ (x : NgRecord). x ∷ drop (suc i) v) (get_or_from_slice_get v i r r is) in
    let next : i + 1 ≡ suc i = omega arith in
    (λ k. more k ++ classic_records (drop (next k) v)) ∙ append_assoc o (classic_record r) (classic_records (drop (suc i) v)) ∙ ap (λ l. o ++ classic_records l) (sym split) ∙ whole

-- ---- the input

module _ (from to : List ℕ) (slot : ℕ) (budget left : Budget) (a b c : Seen) (opens : OpensIn {E = Failed} from a b (Ok slot)) where
  is_name : b.name slot ≡ from
  is_name = opens.opened.2

  told_b : IsTrue a.told → IsTrue b.told
  told_b told = told_stays from a b opens.reads.keeps told

  reads : (result : Result (List NgRecord) NgError) → NgReads slot b c budget left result → Reads from a c
  reads result r = reads_trans from a b c opens.reads (subst (λ n. Reads n b c) is_name r.reads)

  counted : (result : Result (List NgRecord) NgError) → NgReads slot b c budget left result → CountsRead (b.name slot) (end_by ng_end result) b c
  counted (Ok v) r = (r.counts, r.reads.writes)
  counted (Err (errors.Fault at fault)) r = (r.counts, r.reads.writes)
  counted (Err (errors.Limit limit)) r = (r.counts, r.reads.writes)
  counted (Err (errors.Read failed)) r = (r.cause failed refl, r.reads.writes)
  counted (Err errors.Memory) r = (r.counts, r.reads.writes)

  -- the input alone was used
  input_uses : (result : Result (List NgRecord) NgError) → NgReads slot b c budget left result → Uses (Only from) (Only to) (end_by ng_end result) a c
  input_uses result r =
      let end = end_by ng_end result in
      uses_wider (Only from) Nothing (Only from) (Only to) (λ m x. x) (λ m none. absurd none) end a c
      (uses_then (Only from) Nothing end a b c (opens_in_uses a b from (Ok slot) opens) (subst (λ n. Uses (Only n) Nothing end b c) is_name (uses_read (b.name slot) end b c r.reads (counted result r))))

  pub unread_uses : (e : NgError) → NgReads slot b c budget left (Err e) → Uses (Only from) (Only to) (ng_end e) a c
  unread_uses e = input_uses (Err e)

  says_of : (e : NgError) → NgReads slot b c budget left (Err e) → IsTrue a.told → SaysInput from budget a e
  says_of e r told = said_so (ng_end e) (λ is. (b.left slot, opens.left told, is)) (r.exact (told_b told))

  -- the input isn't read
  pub unread : (e : NgError) → NgReads slot b c budget left (Err e) → Converts from to budget a c (Err (ends.Input e))
  unread e r = ((reads (Err e) r).files, says_of e r)

  module _ (v : List NgRecord) (r : NgReads slot b c budget left (Ok v)) where
    -- there is no memory for the capture
    pub unmade : Converts from to budget a c (Err (ends.Input errors.Memory))
    unmade = ((reads (Ok v) r).files, λ told. tt)

    pub unmade_uses : Uses (Only from) (Only to) Memory a c
    unmade_uses = uses_refused (Only from) (Only to) a c (input_uses (Ok v) r)

    told_c : IsTrue a.told → IsTrue c.told
    told_c told = told_stays from a c (reads (Ok v) r).keeps told

    read : IsTrue a.told → laws.Read budget before_all v (b.left slot)
    read told = read_is_file (suc (length (b.left slot))) budget 0 before_all (b.left slot) v (sym (read_is budget (b.left slot)) ∙ r.exact (told_b told))

    -- and then the output
    both_uses : (end : End) (e : Seen) → Uses Nothing (Only to) end c e → Uses (Only from) (Only to) end a e
    both_uses end e written = uses_then (Only from) (Only to) end a c e (input_uses (Ok v) r) (uses_wider Nothing (Only to) (Only from) (Only to) (λ m none. absurd none) (λ m x. x) end c e written)

    pub unopened : (d : Seen) (failed : Failed) → OpensOut {E = Failed} to c d (Err failed) → Converts from to budget a d (Err (ends.Write failed))
    unopened d failed o = λ told. Same (o.same ∙ (reads (Ok v) r).files to)

    pub unopened_uses : (d : Seen) (failed : Failed) → OpensOut {E = Failed} to c d (Err failed) → Uses (Only from) (Only to) Write a d
    unopened_uses d failed o = both_uses Write d (opens_out_uses c d to (Err failed) o)

    -- ---- the output

    module _ (out : ℕ) (d e : Seen) (bytes : List ℕ) (o : OpensOut {E = Failed} to c d (Ok out)) where
      is_out : d.name out ≡ to
      is_out = o.opened.2

      pub front : (failed : Failed) → bytes ≡ classic_bytes v → PutsAll {T = Unit {0}} {E = Failed} out bytes d e (Err failed) → Converts from to budget a e (Err (ends.Write failed))
      front failed made p = λ told.
          let part = p.part (told_stays to c d o.keeps (told_c told)) [] (ap d.file is_out ∙ o.emptied (told_c told)) in
          Front (b.left slot) v (opens.left told) (read told).file ((read told).bytes, (read told).frames)
          (take part.0 bytes, subst (λ n. e.file n ≡ Some (take part.0 bytes)) is_out part.1, (drop part.0 bytes, take-append-drop part.0 bytes ∙ made))

      pub output_uses : (x : Result (Unit {0}) Failed) → PutsAll {T = Unit {0}} {E = Failed} out bytes d e x → Uses (Only from) (Only to) (end_by (λ f. Write) x) a e
      output_uses x p =
          let end = end_by (λ f. Write) x in
          both_uses end e (uses_then Nothing (Only to) end c d e (opens_out_uses c d to (Ok out) o) (subst (λ n. Uses Nothing (Only n) end d e) is_out (puts_all_uses d e out bytes x p)))

      pub converted : (count : ℕ) → bytes ≡ classic_bytes v → count ≡ length v → PutsAll {T = Unit {0}} {E = Failed} out bytes d e (Ok tt) → Converts from to budget a e (Ok count)
      converted count made counted p = λ told. record {
        bytes = b.left slot;
        packets = v;
        found = opens.left told;
        read = r.exact (told_b told);
        is = (read told).file;
        within = ((read told).bytes, (read told).frames);
        output = subst (λ n. e.file n ≡ Some (classic_bytes v)) is_out (p.grown (told_stays to c d o.keeps (told_c told)) [] (ap d.file is_out ∙ o.emptied (told_c told)) ∙ ap (λ (l : List ℕ). Some l) made);
        counted = counted;
        read_back = read_back v r.kept;
      }

pub unopened_input : (from to : List ℕ) (a b : Seen) (failed : Failed) → OpensIn {E = Failed} from a b (Err failed) → Uses (Only from) (Only to) Read a b
unopened_input from to a b failed o = uses_wider (Only from) Nothing (Only from) (Only to) (λ m x. x) (λ m none. absurd none) Read a b (opens_in_uses a b from (Err failed) o)
