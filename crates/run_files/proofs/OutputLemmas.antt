-- Several outputs, written one after another.
use Rattle.std.proofs.Common.{◌≡◌, ◌≢◌, ℕ, ◌+◌, ◌<◌, ◌≤◌, inl, inr, List, [], ◌∷◌, ◌++◌, length, take, Some, Ok, Err, IsTrue, refl, sym, ap, ◌∙◌, subst, arith}
use Rattle.std.specs.Prelude.{Result}
use Rattle.std.proofs.lemmas.List.{append-nil}
use Rattle.fab_base.specs.Ending.{End, Said, Write, end_by, Counts, Either, RoseIn, Uses}
use Rattle.fab_base.specs.Seen.{Seen, Keeps, Rose, PutsAll, Touches, Nothing, Only, SameReadFaults, SameWriteFaults}
use Rattle.fab_base.specs.declared.values.Failed.{Failed}
use Rattle.fab_base.proofs.SeenLemmas.{rose_later, touches_refl, touches_trans, touches_wider, keeps_touches}
use Rattle.pcap_file.proofs.lemmas.Numbers.{le_or_lt}
use Rattle.fab_base.specs.Slots.{slot_at, name_of, NameIn}
use Rattle.run_files.specs.Outputs.{AreOutputs, PutsEach}
use Rattle.run_files.specs.Pages.{piece_at}

take_all : (l : List ℕ) → take (length l) l ≡ l
take_all [] = refl
take_all (x ∷ l) = ap (λ m. x ∷ m) (take_all l)

-- ---- a piece to each

-- What stands before an output: those before it have their pieces, and the others are as they were.
pub record Putting (slots : List ℕ) (pieces : List (List ℕ)) (k : ℕ) (a b : Seen) : Type 0 where
  pub touches : Touches (NameIn a slots) (NameIn a slots) a b
  pub done : IsTrue a.told → (q : ℕ) → q < k → q < length slots → (bytes : List ℕ) → a.file (name_of a slots q) ≡ Some bytes → b.file (name_of a slots q) ≡ Some (bytes ++ piece_at pieces q)
  pub rest : (q : ℕ) → k ≤ q → q < length slots → b.file (name_of a slots q) ≡ a.file (name_of a slots q)
  pub reads : SameReadFaults a b
  pub counts : SameWriteFaults a b

pub putting_none : (slots : List ℕ) (pieces : List (List ℕ)) (a : Seen) → Putting slots pieces 0 a a
putting_none slots pieces a = record {
  touches = touches_refl (NameIn a slots) (NameIn a slots) a;
  done = λ told q lt within bytes was. absurd (omega arith);
  rest = λ q le lt. refl;
  reads = λ m. refl;
  counts = λ m. refl;
}

module _ (slots : List ℕ) (pieces : List (List ℕ)) (k : ℕ) (a b d : Seen) (outs : AreOutputs a slots) (lt : k < length slots) (p : Putting slots pieces k a b) where
  abbrev s : ℕ
  s = slot_at slots k

  abbrev name : List ℕ
  name = name_of a slots k

  pub output_on : IsTrue (b.output s)
  output_on = subst IsTrue (sym (p.touches.slots s (inr (outs.outputs k lt))).output) (outs.outputs k lt)

  name_is : b.name s ≡ name
  name_is = (p.touches.slots s (inr (outs.outputs k lt))).name

  told_on : IsTrue a.told → IsTrue b.told
  told_on told = subst IsTrue (sym p.touches.told) told

  differs : (q : ℕ) → q < length slots → q ≢ k → name_of a slots q ≢ name
  differs q less ne e = ne (outs.differ q k less lt e)

  module _ {r : Result (Unit {0}) Failed} (puts : PutsAll s (piece_at pieces k) b d r) where
    keeps : Keeps name b d
    keeps = subst (λ n. Keeps n b d) name_is puts.keeps

    touches_on : Touches (NameIn a slots) (NameIn a slots) a d
    touches_on =
        touches_trans (NameIn a slots) (NameIn a slots) a b d p.touches
        (touches_wider (Only name) (Only name) (NameIn a slots) (NameIn a slots) b d (λ m e. (k, lt, e)) (λ m e. (k, lt, e)) (keeps_touches name b d keeps))

    was : b.file name ≡ a.file name
    was = p.rest k (omega arith) lt

    others_rest : (q : ℕ) → k + 1 ≤ q → q < length slots → d.file (name_of a slots q) ≡ a.file (name_of a slots q)
    others_rest q le less = keeps.files (name_of a slots q) (differs q less (λ e. omega arith)) ∙ p.rest q (omega arith) less

  pub put_more : PutsAll {T = Unit {0}} {E = Failed} s (piece_at pieces k) b d (Ok tt) → Putting slots pieces (k + 1) a d
  put_more puts = record {
    touches = touches_on puts;
    done = λ told q less within bytes had. elim (le_or_lt k q) [
      | inl last ↦
          let same : k ≡ q = omega arith in
          subst (λ (x : ℕ). a.file (name_of a slots x) ≡ Some bytes → d.file (name_of a slots x) ≡ Some (bytes ++ piece_at pieces x)) same
          (λ own. subst (λ n. d.file n ≡ Some (bytes ++ piece_at pieces k)) name_is (puts.grown (told_on told) bytes (ap b.file name_is ∙ was puts ∙ own)))
          had
      | inr more ↦ (keeps puts).files (name_of a slots q) (differs q within (λ e. omega arith)) ∙ p.done told q more within bytes had
    ];
    rest = others_rest puts;
    reads = λ m. puts.reads m ∙ p.reads m;
    counts = λ m. puts.counts m ∙ p.counts m;
  }

  pub put_failed : (e : Failed) → PutsAll {T = Unit {0}} {E = Failed} s (piece_at pieces k) b d (Err e) → PutsEach slots pieces a d (Err e)
  put_failed e puts = record {
    touches = touches_on puts;
    all = λ told q less bytes had. tt;
    part = λ told q less bytes had. elim (le_or_lt k q) [
      | inl le ↦ elim (le_or_lt (k + 1) q) [
        | inl behind ↦ (0, others_rest puts q behind less ∙ had ∙ ap Some (sym (append-nil bytes)))
        | inr own ↦
            let same : k ≡ q = omega arith in
            subst (λ (x : ℕ). a.file (name_of a slots x) ≡ Some bytes → (n : ℕ) × (d.file (name_of a slots x) ≡ Some (bytes ++ take n (piece_at pieces x)))) same
            (λ own. let part = puts.part (told_on told) bytes (ap b.file name_is ∙ was puts ∙ own) in (part.0, subst (λ n. d.file n ≡ Some (bytes ++ take part.0 (piece_at pieces k))) name_is part.1))
            had
      ]
      | inr more ↦ (length (piece_at pieces q), (keeps puts).files (name_of a slots q) (differs q less (λ e. omega arith)) ∙ p.done told q more less bytes had ∙ ap (λ l. Some (bytes ++ l)) (sym (take_all (piece_at pieces q))))
    ];
    cause = (
      k,
      record {
        within = lt;
        rose = rose_later _ _ _ (p.touches.writes_rise name) (subst (λ n. Rose (b.write_faults n) (d.write_faults n)) name_is puts.cause);
        before = λ told q less bytes had. (keeps puts).files (name_of a slots q) (differs q (omega (arith, less, lt)) (λ e. omega arith)) ∙ p.done told q less (omega (arith, less, lt)) bytes had;
        behind = λ q more less. others_rest puts q (omega (arith, more)) less;
      },
    );
    reads = λ m. puts.reads m ∙ p.reads m;
    counts = tt;
  }

pub put_all_of : (slots : List ℕ) (pieces : List (List ℕ)) (k : ℕ) (a b : Seen) → length slots ≤ k → Putting slots pieces k a b → PutsEach slots pieces a b (Ok tt)
put_all_of slots pieces k a b le p = record {
  touches = p.touches;
  all = λ told q less bytes had. p.done told q (omega arith) less bytes had;
  part = λ told q less bytes had. (length (piece_at pieces q), p.done told q (omega arith) less bytes had ∙ ap (λ l. Some (bytes ++ l)) (sym (take_all (piece_at pieces q))));
  cause = tt;
  reads = p.reads;
  counts = p.counts;
}

-- ---- open outputs stay so

-- open files stay so
module _ (F G : List ℕ → Type 0) (a b : Seen) (k : Touches F G a b) where
  pub stays_output : (s : ℕ) → IsTrue (a.output s) → IsTrue (b.output s)
  stays_output s h = subst IsTrue (sym (k.slots s (inr h)).output) h

  pub stays_named : (s : ℕ) → IsTrue (a.output s) → b.name s ≡ a.name s
  stays_named s h = (k.slots s (inr h)).name

  module _ (outs : List ℕ) (o : AreOutputs a outs) where
    pub same_name : (q : ℕ) → q < length outs → name_of b outs q ≡ name_of a outs q
    same_name q lt = stays_named (slot_at outs q) (o.outputs q lt)

    pub outputs_stay : AreOutputs b outs
    outputs_stay = record {
      outputs = λ q lt. stays_output (slot_at outs q) (o.outputs q lt);
      differ = λ p q less lt e. o.differ p q less lt (sym (same_name p less) ∙ e ∙ same_name q lt);
    }

-- ---- as calls that use these names

pub uses_outputs : (names : List ℕ → Type 0) (end : End) (a b : Seen) → Touches names names a b → Counts (RoseIn Nothing a.read_faults b.read_faults) (RoseIn names a.write_faults b.write_faults) end a b → Uses Nothing names end a b
uses_outputs names end a b touches counts = record {
  touches = touches_wider names names names (Either Nothing names) a b (λ m x. x) (λ m x. inr x) touches;
  counts = counts;
}

pub puts_each_uses : (slots : List ℕ) (pieces : List (List ℕ)) (a b : Seen) (r : Result (Unit {0}) Failed) → PutsEach slots pieces a b r → Uses Nothing (NameIn a slots) (end_by (λ e. Write) r) a b
puts_each_uses slots pieces a b (Ok done) p = uses_outputs (NameIn a slots) Said a b p.touches (p.reads, p.counts)
puts_each_uses slots pieces a b (Err e) p =
    let at = p.cause in
    uses_outputs (NameIn a slots) Write a b p.touches ((name_of a slots at.0, (at.0, at.1.within, refl), at.1.rose), p.reads)
