-- The files of a load, one after another.
use Rattle.std.proofs.Common.{◌≡◌, ◌≢◌, ℕ, zero, suc, ◌+◌, ◌-◌, ◌*◌, ◌^◌, ◌<◌, ◌≤◌, inl, inr, List, [], Some, Ok, Err, IsTrue, refl, sym, ◌∙◌, subst, arith}
use Rattle.std.specs.Prelude.{Result, slice_index}
use Rattle.std.proofs.lemmas.List.{append-nil}
use Rattle.fab_base.specs.Ending.{HoldsSome, Said, end_by, Uses}
use Rattle.fab_base.specs.Seen.{Seen, Nothing, Only}
use Rattle.fab_base.specs.Slots.{NameIn, name_of}
use Rattle.fab_base.proofs.EndingLemmas.{uses_none, uses_refused, uses_then, uses_wider}
use Rattle.pcap_file.proofs.lemmas.Numbers.{le_or_lt}
use Rattle.fab_vectors.specs.Files.{AddsTo, Adds, make_end}
use Rattle.fab_vectors.specs.Load.{capture}
use Rattle.fab_vectors.specs.Making.{AreNine, Makes, file_text, frame_count}
use Rattle.fab_vectors.specs.declared.MakeFault.{MakeFault}
use Rattle.fab_vectors.specs.declared.MakeFault.TheVariants as fault

-- the file of a port
pub text_of_port : (number q : ℕ) → 0 < q → file_text number q ≡ capture number q
text_of_port number zero lt = absurd (omega arith)
text_of_port number (suc q) lt = refl

pub count_of_port : (q : ℕ) → 0 < q → frame_count q ≡ 2500
count_of_port zero lt = absurd (omega arith)
count_of_port (suc q) lt = refl

pub few : (k total n : ℕ) → k < 9 → total ≡ 2500 * (k - 1) → n ≡ frame_count k → total + n < 2 ^ 64
few zero total n lt is n_is = omega arith
few (suc k) total n lt is n_is = omega arith

-- memory was refused before anything was written
pub made_nothing : (number : ℕ) (slots : List ℕ) (a : Seen) → AreNine a slots → Makes number slots a a (Err fault.Memory)
made_nothing number slots a nine = record {
  uses = uses_refused Nothing (NameIn a slots) a a (uses_none Nothing (NameIn a slots) a);
  whole = λ told. tt;
  front = λ told q less. ([], nine.empty told q less, (file_text number q, refl));
  count = tt;
}

-- What stands before the file of a place: those before it are whole, and the others are as they were.
pub record Made (number : ℕ) (slots : List ℕ) (k total : ℕ) (a b : Seen) : Type 0 where
  pub uses : Uses Nothing (NameIn a slots) Said a b
  pub done : IsTrue a.told → (q : ℕ) → q < k → q < 9 → b.file (name_of a slots q) ≡ Some (file_text number q)
  pub rest : (q : ℕ) → k ≤ q → q < 9 → b.file (name_of a slots q) ≡ a.file (name_of a slots q)
  pub count : total ≡ 2500 * (k - 1)

pub made_none : (number : ℕ) (slots : List ℕ) (a : Seen) → Made number slots 0 0 a a
made_none number slots a = record {
  uses = uses_none Nothing (NameIn a slots) a;
  done = λ told q lt less. absurd (omega arith);
  rest = λ q le less. refl;
  count = refl;
}

pub made_all : (number : ℕ) (slots : List ℕ) (k total : ℕ) (a b : Seen) → AreNine a slots → 9 ≤ k → k ≤ 9 → Made number slots k total a b → Makes number slots a b (Ok total)
made_all number slots k total a b nine le most m = record {
  uses = m.uses;
  whole = λ told q less. m.done told q (omega arith) less;
  front = λ told q less. (file_text number q, m.done told q (omega arith) less, ([], append-nil (file_text number q)));
  count = let is = m.count in omega arith;
}

module _ (number : ℕ) (slots : List ℕ) (k total : ℕ) (a b d : Seen) (nine : AreNine a slots) (lt : k < 9) (m : Made number slots k total a b) where
  abbrev s : ℕ
  s = slice_index slots k

  abbrev name : List ℕ
  name = name_of a slots k

  pub output_on : IsTrue (b.output s)
  output_on = subst IsTrue (sym (m.uses.touches.slots s (inr (nine.outputs k lt))).output) (nine.outputs k lt)

  told_on : IsTrue a.told → IsTrue b.told
  told_on told = subst IsTrue (sym m.uses.touches.told) told

  differs : (q : ℕ) → q < 9 → q ≢ k → name_of a slots q ≢ name
  differs q less ne e = ne (nine.differ q k less lt e)

  empty : IsTrue a.told → b.file name ≡ Some []
  empty told = m.rest k (omega arith) lt ∙ nine.empty told k lt

  module _ (r : Result ℕ MakeFault) (p : Adds {T = ℕ} s (file_text number k) b d r) where
    own : AddsTo {T = ℕ} name (file_text number k) b d r
    own = subst (λ n. AddsTo {T = ℕ} n (file_text number k) b d r) (m.uses.touches.slots s (inr (nine.outputs k lt))).name p

    uses_on : Uses Nothing (NameIn a slots) (end_by make_end r) a d
    uses_on =
        uses_then Nothing (NameIn a slots) (end_by make_end r) a b d m.uses
        (uses_wider Nothing (Only name) Nothing (NameIn a slots) (λ x none. none) (λ x e. (k, let count = nine.count in omega arith, e)) (end_by make_end r) b d own.uses)

    others : (q : ℕ) → q ≢ k → q < 9 → d.file (name_of a slots q) ≡ b.file (name_of a slots q)
    others q ne less = own.uses.touches.files (name_of a slots q) (differs q less ne)

  pub made_more : (n : ℕ) → n ≡ frame_count k → Adds {T = ℕ} s (file_text number k) b d (Ok n) → Made number slots (k + 1) (total + n) a d
  made_more n n_is p = record {
    uses = uses_on (Ok n) p;
    done = λ told q less within. elim (le_or_lt k q) [
      | inl last ↦
          let same : k ≡ q = omega arith in
          subst (λ (x : ℕ). d.file (name_of a slots x) ≡ Some (file_text number x)) same ((own (Ok n) p).whole (told_on told) [] (empty told))
      | inr more ↦ others (Ok n) p q (λ e. omega arith) within ∙ m.done told q more within
    ];
    rest = λ q le within. others (Ok n) p q (λ e. omega arith) within ∙ m.rest q (omega arith) within;
    count = counts k total n n_is m.count;
  }
    where
      counts : (k total n : ℕ) → n ≡ frame_count k → total ≡ 2500 * (k - 1) → total + n ≡ 2500 * (k + 1 - 1)
      counts zero total n n_is is = omega arith
      counts (suc j) total n n_is is = omega arith

  pub made_failed : (e : MakeFault) → Adds {T = ℕ} s (file_text number k) b d (Err e) → Makes number slots a d (Err e)
  made_failed e p = record {
    uses = uses_on (Err e) p;
    whole = λ told. tt;
    front = λ told q less. elim (le_or_lt k q) [
      | inl le ↦ elim (le_or_lt (k + 1) q) [
        | inl behind ↦ ([], others (Err e) p q (λ e. omega arith) less ∙ m.rest q (omega arith) less ∙ nine.empty told q less, (file_text number q, refl))
        | inr mine ↦
            let same : k ≡ q = omega arith in
            subst (λ (x : ℕ). HoldsSome d (name_of a slots x) (file_text number x)) same ((own (Err e) p).front (told_on told) [] (empty told))
      ]
      | inr more ↦ (file_text number q, others (Err e) p q (λ e. omega arith) less ∙ m.done told q more less, ([], append-nil (file_text number q)))
    ];
    count = tt;
  }
