-- Migrating a file: the input is read whole, and then the output is written.
use Rattle.std.proofs.Common.{◌≡◌, ℕ, ◌≤◌, IsTrue, List, [], length, take, drop, Some, Ok, Err, refl, sym, ap, ◌∙◌, subst}
use Rattle.std.proofs.lemmas.List.{take-append-drop}
use Rattle.std.specs.Prelude.{Result, Vec}
use Rattle.std.specs.declared.alloc.Global.{Global}
use Rattle.fab_base.specs.Ending.{End, Read, Write, end_by, CountsRead, Uses}
use Rattle.fab_base.specs.Seen.{Seen, Reads, Nothing, Only, OpensIn, OpensOut, PutsAll}
use Rattle.fab_base.specs.Whole as base
use Rattle.fab_base.specs.declared.values.Failed.{Failed}
use Rattle.fab_base.specs.declared.whole.WholeError.{WholeError}
use Rattle.fab_base.specs.declared.whole.WholeError.TheVariants as wholes
use Rattle.fab_base.proofs.SeenLemmas.{reads_trans, told_stays}
use Rattle.fab_base.proofs.EndingLemmas.{uses_refused, uses_then, uses_wider, uses_read, opens_in_uses, opens_out_uses, puts_all_uses}
use Rattle.fab_migrate.specs.Migrating.{Migrates, SaysOld, Untouched, Begun, old_end}
use Rattle.fab_migrate.specs.Old.{IsOld, new_text}
use Rattle.fab_migrate.specs.OldWords.{Rewrites, WholeRead, old_error_of}
use Rattle.fab_migrate.specs.declared.old.MigrateError.TheVariants as ends
use Rattle.fab_migrate.specs.declared.old.OldError.{OldError}
use Rattle.fab_migrate.specs.declared.old.OldError.TheVariants as olds
use Rattle.fab_migrate.specs.declared.old.Rewritten.{Rewritten}
use Rattle.fab_migrate.proofs.OldJournalLemmas.{migrated_to}

module _ (from to : List ℕ) (slot limit : ℕ) (a b c : Seen) (opens : OpensIn {E = Failed} from a b (Ok slot)) where
  is_name : b.name slot ≡ from
  is_name = opens.opened.2

  told_b : IsTrue a.told → IsTrue b.told
  told_b told = told_stays from a b opens.reads.keeps told

  reads : (result : Result (Vec ℕ Global) WholeError) → base.WholeRead slot limit b c result → Reads from a c
  reads result r = reads_trans from a b c opens.reads (subst (λ n. Reads n b c) is_name r.reads)

  counted : (result : Result (Vec ℕ Global) WholeError) → base.WholeRead slot limit b c result → CountsRead (b.name slot) (end_by base.whole_end result) b c
  counted (Ok v) r = (r.counts, r.reads.writes)
  counted (Err wholes.Bytes) r = (r.counts, r.reads.writes)
  counted (Err (wholes.Read f)) r = (r.whole, r.reads.writes)
  counted (Err wholes.Memory) r = (r.counts, r.reads.writes)

  -- the input alone was used
  input_uses : (result : Result (Vec ℕ Global) WholeError) → base.WholeRead slot limit b c result → Uses (Only from) (Only to) (end_by base.whole_end result) a c
  input_uses result r =
      let end = end_by base.whole_end result in
      uses_wider (Only from) Nothing (Only from) (Only to) (λ m x. x) (λ m none. absurd none) end a c
      (uses_then (Only from) Nothing end a b c (opens_in_uses a b from (Ok slot) opens) (subst (λ n. Uses (Only n) Nothing end b c) is_name (uses_read (b.name slot) end b c r.reads (counted result r))))

  -- ---- the input isn't read whole

  same_end : (e : WholeError) → old_end (old_error_of e) ≡ base.whole_end e
  same_end wholes.Bytes = refl
  same_end (wholes.Read f) = refl
  same_end wholes.Memory = refl

  pub unread_uses : (error : OldError) → WholeRead slot limit b c (Err error) → Uses (Only from) (Only to) (old_end error) a c
  unread_uses error (e, is, r) = subst (λ end. Uses (Only from) (Only to) end a c) (sym (ap old_end is ∙ same_end e)) (input_uses (Err e) r)

  unread_says : (e : WholeError) → base.WholeRead slot limit b c (Err e) → IsTrue a.told → SaysOld from limit a (old_error_of e)
  unread_says wholes.Bytes r told = (b.left slot, opens.left told, r.whole (told_b told))
  unread_says (wholes.Read f) r told = tt
  unread_says wholes.Memory r told = tt

  pub unread : (error : OldError) → WholeRead slot limit b c (Err error) → Migrates from to limit a c (Err (ends.Input error))
  unread error (e, is, r) = subst (λ (x : OldError). Migrates from to limit a c (Err (ends.Input x))) (sym is) ((reads (Err e) r).files, unread_says e r)

  module _ (v : Vec ℕ Global) (r : WholeRead slot limit b c (Ok v)) where
    told_c : IsTrue a.told → IsTrue c.told
    told_c told = told_stays from a c (reads (Ok v) r).keeps told

    found : IsTrue a.told → a.file from ≡ Some v.items
    found told = opens.left told ∙ ap (λ (l : List ℕ). Some l) (sym (r.whole (told_b told)).0)

    within : IsTrue a.told → length v.items ≤ limit
    within told = (r.whole (told_b told)).1

    -- ---- the input isn't rewritten

    pub unrewritten_uses : (e : OldError) → Rewrites v.items (Err e) → Uses (Only from) (Only to) (old_end e) a c
    unrewritten_uses (olds.Fault line fault) w = input_uses (Ok v) r
    unrewritten_uses olds.Bytes w = absurd w
    unrewritten_uses (olds.Read f) w = absurd w
    unrewritten_uses olds.Memory w = uses_refused (Only from) (Only to) a c (input_uses (Ok v) r)

    unrewritten_says : (e : OldError) → Rewrites v.items (Err e) → IsTrue a.told → SaysOld from limit a e
    unrewritten_says (olds.Fault line fault) w told = (v.items, found told, (within told, w))
    unrewritten_says olds.Bytes w told = absurd w
    unrewritten_says (olds.Read f) w told = absurd w
    unrewritten_says olds.Memory w told = tt

    pub unrewritten : (e : OldError) → Rewrites v.items (Err e) → Migrates from to limit a c (Err (ends.Input e))
    unrewritten e w = ((reads (Ok v) r).files, unrewritten_says e w)

    -- ---- what is used

    -- and then the output
    both_uses : (end : End) (e : Seen) → Uses Nothing (Only to) end c e → Uses (Only from) (Only to) end a e
    both_uses end e written = uses_then (Only from) (Only to) end a c e (input_uses (Ok v) r) (uses_wider Nothing (Only to) (Only from) (Only to) (λ m none. absurd none) (λ m x. x) end c e written)

    pub unopened_uses : (d : Seen) (failed : Failed) → OpensOut {E = Failed} to c d (Err failed) → Uses (Only from) (Only to) Write a d
    unopened_uses d failed o = both_uses Write d (opens_out_uses c d to (Err failed) o)

    pub output_uses : (out : ℕ) (d e : Seen) (bytes : List ℕ) → OpensOut {E = Failed} to c d (Ok out) → (x : Result (Unit {0}) Failed) → PutsAll {T = Unit {0}} {E = Failed} out bytes d e x → Uses (Only from) (Only to) (end_by (λ f. Write) x) a e
    output_uses out d e bytes o x p =
        let end = end_by (λ f. Write) x in
        both_uses end e (uses_then Nothing (Only to) end c d e (opens_out_uses c d to (Ok out) o) (subst (λ n. Uses Nothing (Only n) end d e) o.opened.2 (puts_all_uses d e out bytes x p)))

    module _ (n : Rewritten) (w : Rewrites v.items (Ok n)) where
      pub unopened : (d : Seen) (failed : Failed) → OpensOut {E = Failed} to c d (Err failed) → Migrates from to limit a d (Err (ends.Write failed))
      unopened d failed o = λ told. Untouched (o.same ∙ (reads (Ok v) r).files to)

      -- ---- the output

      module _ (out : ℕ) (d e : Seen) (bytes : List ℕ) (o : OpensOut {E = Failed} to c d (Ok out)) (made : bytes ≡ n.text.items) where
        is_out : d.name out ≡ to
        is_out = o.opened.2

        told_d : IsTrue a.told → IsTrue d.told
        told_d told = told_stays to c d o.keeps (told_c told)

        empty : IsTrue a.told → d.file (d.name out) ≡ Some []
        empty told = ap d.file is_out ∙ o.emptied (told_c told)

        all : bytes ≡ new_text w.0
        all = made ∙ w.2

        pub front : (failed : Failed) → PutsAll {T = Unit {0}} {E = Failed} out bytes d e (Err failed) → Migrates from to limit a e (Err (ends.Write failed))
        front failed p = λ told.
            let part = p.part (told_d told) [] (empty told) in
            Begun v.items w.0 (found told) (within told) w.1 (take part.0 bytes, subst (λ n. e.file n ≡ Some (take part.0 bytes)) is_out part.1, (drop part.0 bytes, take-append-drop part.0 bytes ∙ all))

        pub migrated : PutsAll {T = Unit {0}} {E = Failed} out bytes d e (Ok tt) → Migrates from to limit a e (Ok n.entries)
        migrated p = λ told.
            let output : e.file to ≡ Some (new_text w.0) = subst (λ n. e.file n ≡ Some bytes) is_out (p.grown (told_d told) [] (empty told)) ∙ ap (λ (l : List ℕ). Some l) all in
            record {
              bytes = v.items;
              lines = w.0;
              found = found told;
              within = within told;
              is = w.1;
              output = output;
              counted = w.3;
              journal = λ J ranged text.
                  let same = (migrated_to J ranged).is_new w.0 (subst (λ (l : List ℕ). IsOld l w.0) text w.1) in
                  (output ∙ ap (λ (l : List ℕ). Some l) same.0, w.3 ∙ same.1);
            }

pub unopened_input : (from to : List ℕ) (a b : Seen) (failed : Failed) → OpensIn {E = Failed} from a b (Err failed) → Uses (Only from) (Only to) Read a b
unopened_input from to a b failed o = uses_wider (Only from) Nothing (Only from) (Only to) (λ m x. x) (λ m none. absurd none) Read a b (opens_in_uses a b from (Err failed) o)
