-- Reading a file whole, piece by piece.
use Rattle.std.proofs.Common.{◌≡◌, ℕ, ◌+◌, ◌<◌, ◌≤◌, List, ◌++◌, length, length-append, take, Ok, Err, IsTrue, sym, ap, ◌∙◌, subst, append-nil, append_assoc, arith}
use Rattle.std.proofs.lemmas.List.{length-take-le}
use Rattle.std.specs.Prelude.{Result, Vec}
use Rattle.std.specs.declared.alloc.Global.{Global}
use Rattle.fab_base.specs.Seen.{Seen, Reads, Rose, Fills, KeepsOthers, SameReadFaults}
use Rattle.fab_base.specs.Whole.{WholeRead}
use Rattle.fab_base.specs.declared.values.Failed.{Failed}
use Rattle.fab_base.specs.declared.whole.WholeError.TheVariants as errors
use Rattle.fab_base.proofs.SeenLemmas.{input_name, reads_trans, others_trans, rose_later}

-- what stands for the loop when these bytes were read, and there is room for so many more
pub record WholeSoFar (s limit : ℕ) (a b : Seen) (whole : List ℕ) (room : ℕ) : Type 0 where
  pub reads : Reads (a.name s) a b
  pub taken : IsTrue a.told → whole ++ b.left s ≡ a.left s
  pub counted : room + length whole ≡ limit
  pub counts : SameReadFaults a b
  pub others : KeepsOthers s a b

module _ (s limit room : ℕ) (a b c : Seen) (whole buffer : List ℕ) (is_open : IsTrue (a.input s)) (w : WholeSoFar s limit a b whole room) where
  same : b.name s ≡ a.name s
  same = input_name (a.name s) a b w.reads.keeps s is_open

  told_b : IsTrue a.told → IsTrue b.told
  told_b told = subst IsTrue (sym w.reads.keeps.told) told

  more_reads : (r : Result ℕ Failed) → Fills {E = Failed} s buffer b c r → Reads (a.name s) a c
  more_reads r f = reads_trans (a.name s) a b c w.reads (subst (λ m. Reads m b c) same f.reads)

  -- these bytes of the buffer were taken behind the others
  behind : (n : ℕ) → IsTrue a.told → take n buffer ++ c.left s ≡ b.left s → (whole ++ take n buffer) ++ c.left s ≡ a.left s
  behind n told taken = append_assoc whole (take n buffer) (c.left s) ∙ ap (λ l. whole ++ l) taken ∙ w.taken told

  pub whole_failed : (e : Failed) → Fills {E = Failed} s buffer b c (Err e) → WholeRead s limit a c (Err (errors.Read e))
  whole_failed e f = record {
    reads = more_reads (Err e) f;
    whole = rose_later _ _ _ w.reads.keeps.reads_rise (subst (λ m. Rose (b.read_faults m) (c.read_faults m)) same f.cause);
    counts = tt;
    others = others_trans s a b c w.others f.others;
    rest = λ told. let front = f.front (told_b told) in (whole ++ take front.0 buffer, behind front.0 told front.2);
  }

  module _ (n : ℕ) (f : Fills {E = Failed} s buffer b c (Ok n)) where
    rest_now : IsTrue a.told → (taken : List ℕ) × (taken ++ c.left s ≡ a.left s)
    rest_now told = (whole ++ take n buffer, behind n told (f.taken (told_b told)))

    counts_now : SameReadFaults a c
    counts_now m = f.counts m ∙ w.counts m

    pub whole_long : room < n → WholeRead s limit a c (Err errors.Bytes)
    whole_long long = record {
      reads = more_reads (Ok n) f;
      whole = λ told.
          let all = ap length (behind n told (f.taken (told_b told))) in
          let front : length (take n buffer) ≡ n = length-take-le n buffer f.bound in
          omega (arith, w.counted, long, all, front, length-append (whole ++ take n buffer) (c.left s), length-append whole (take n buffer));
      counts = counts_now;
      others = others_trans s a b c w.others f.others;
      rest = rest_now;
    }

    pub whole_no_memory : n ≤ room → WholeRead s limit a c (Err errors.Memory)
    whole_no_memory within = record {
      reads = more_reads (Ok n) f;
      whole = λ told. (
        whole ++ take n buffer,
        behind n told (f.taken (told_b told)),
        (let front : length (take n buffer) ≡ n = length-take-le n buffer f.bound in omega (arith, w.counted, within, front, length-append whole (take n buffer))),
      );
      counts = counts_now;
      others = others_trans s a b c w.others f.others;
      rest = rest_now;
    }

    pub whole_read : (v : Vec ℕ Global) → v.items ≡ whole ++ take n buffer → length v.items ≤ limit → n < length buffer → WholeRead s limit a c (Ok v)
    whole_read v is within ended = record {
      reads = more_reads (Ok n) f;
      whole = λ told. (
        is ∙ sym (append-nil (whole ++ take n buffer)) ∙ ap (λ l. (whole ++ take n buffer) ++ l) (sym (f.ended (told_b told) ended)) ∙ behind n told (f.taken (told_b told)),
        within,
      );
      counts = counts_now;
      others = others_trans s a b c w.others f.others;
      rest = rest_now;
    }
