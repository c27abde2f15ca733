-- A buffer that is filled and bytes that are put, one piece after another.
use Rattle.std.proofs.Common.{◌≡◌, ℕ, zero, suc, ◌+◌, ◌-◌, ◌≤◌, List, [], ◌∷◌, ◌++◌, length, length-append, take, drop, Ok, Err, Some, IsTrue, refl, sym, ◌∙◌, ap, subst, arith, zero-add, append-nil, append_assoc, length-drop}
use Rattle.std.proofs.lemmas.Grind.{common_steps}
use Rattle.std.proofs.lemmas.List.{length-take-le, take-append-le, take_rest, take_all}
use borrow.Rule.Slice.PartMut.{put_mid, post_of}
use Rattle.fab_base.specs.Seen.{Seen, Keeps, KeepsOthers, SameSlots, SameReadFaults, SameWriteFaults, Reads, Rose, Fetches, Fills, Puts, PutsAll, bytes_of}
pub use Rattle.fab_base.proofs.SeenLemmas.{rose_later, keeps_refl, input_stays, output_stays, input_name, output_name, told_stays, keeps_trans, reads_refl, reads_trans, slots_refl, slots_trans, others_refl, others_trans, others_of}

-- a front that goes on into the second list
pub take-past : {A : Type 0} (xs ys : List A) (m n : ℕ) → m ≡ length xs + n → take m (xs ++ ys) ≡ xs ++ take n ys
take-past [] ys m n e = let same : m ≡ n = omega arith in ap (λ (k : ℕ). take k ys) same
take-past (x ∷ xs) ys zero n e = absurd (omega arith)
take-past (x ∷ xs) ys (suc m) n e = ap (λ l. x ∷ l) (take-past xs ys m n (omega arith))

pub take-sum : {A : Type 0} (xs : List A) (m n : ℕ) → take (m + n) xs ≡ take m xs ++ take n (drop m xs)
take-sum xs zero n = ap (λ (k : ℕ). take k xs) (zero-add n)
take-sum [] (suc m) n = grind (arith, common_steps)
take-sum (x ∷ xs) (suc m) n = let e : suc m + n ≡ suc (m + n) = omega arith in rw e (ap (λ l. x ∷ l) (take-sum xs m n))

-- the front of a buffer after a piece was written at its place
pub take-put_mid-more : (got n k : ℕ) (xs ys : List ℕ) → got ≤ length xs → n ≤ length ys → take (got + n) (put_mid got k xs ys) ≡ take got xs ++ take n ys
take-put_mid-more got n k xs ys h le =
    let front : length (take got xs) ≡ got = length-take-le got xs h in
    take-past (take got xs) (ys ++ post_of got k xs) (got + n) n (omega (arith, front))
    ∙ ap (λ l. take got xs ++ l) (take-append-le n ys (post_of got k xs) le)

-- one more fetch into the rest of a buffer
pub record Filled (s got : ℕ) (a c : Seen) (into : List ℕ) : Type 0 where
  pub reads : Reads (a.name s) a c
  pub taken : IsTrue a.told → take got into ++ c.left s ≡ a.left s
  pub others : KeepsOthers s a c
  pub counts : SameReadFaults a c

pub fill_none : (s : ℕ) (a : Seen) (into : List ℕ) → Filled s 0 a a into
fill_none s a into = record { reads = reads_refl (a.name s) a; taken = λ told. refl; others = others_refl s a; counts = λ m. refl }

pub fill_step : {E : Type 0} (s got n k : ℕ) (a b c : Seen) (into piece : List ℕ) → IsTrue (a.input s) → Filled s got a b into → Fetches {E = E} s piece b c (Ok n) → got ≤ length into → Filled s (got + n) a c (put_mid got k into piece)
fill_step s got n k a b c into piece is_open f fetched le = record {
  reads = reads_trans (a.name s) a b c f.reads (subst (λ m. Reads m b c) (input_name (a.name s) a b f.reads.keeps s is_open) fetched.reads);
  taken = λ told.
      let told_b : IsTrue b.told = subst IsTrue (sym f.reads.keeps.told) told in
      rw (take-put_mid-more got n k into piece le fetched.bound)
      (append_assoc (take got into) (take n piece) (c.left s) ∙ ap (λ l. take got into ++ l) (fetched.taken told_b) ∙ f.taken told);
  others = others_trans s a b c f.others fetched.others;
  counts = λ m. fetched.counts m ∙ f.counts m;
}

pub fill_failed : {E : Type 0} (s got k : ℕ) (a b c : Seen) (into piece : List ℕ) (e : E) → IsTrue (a.input s) → Filled s got a b into → Fetches {E = E} s piece b c (Err e) → got ≤ length (put_mid got k into piece) → got ≤ length into → Fills {E = E} s (put_mid got k into piece) a c (Err e)
fill_failed s got k a b c into piece e is_open f fetched fits le =
    let same = input_name (a.name s) a b f.reads.keeps s is_open in
    record {
      reads = reads_trans (a.name s) a b c f.reads (subst (λ m. Reads m b c) same fetched.reads);
      bound = tt;
      taken = λ told. tt;
      ended = λ told. tt;
      cause = rose_later _ _ _ f.reads.keeps.reads_rise (subst (λ m. Rose (b.read_faults m) (c.read_faults m)) same fetched.cause);
      front = λ told. (
        got,
        fits,
        let zero_is : got ≡ got + 0 = omega arith in
            ap (λ l. l ++ c.left s) (ap (λ (j : ℕ). take j (put_mid got k into piece)) zero_is ∙ take-put_mid-more got 0 k into piece le (omega arith) ∙ append-nil (take got into))
            ∙ ap (λ l. take got into ++ l) (fetched.nothing (subst IsTrue (sym f.reads.keeps.told) told)) ∙ f.taken told,
      );
      others = others_trans s a b c f.others (others_of s b c fetched.refused);
      counts = tt;
    }

-- the buffer is full
pub fill_full : {E : Type 0} (s got : ℕ) (a b : Seen) (into : List ℕ) → Filled s got a b into → got ≤ length into → length into ≤ got → Fills {E = E} s into a b (Ok got)
fill_full s got a b into f fits full = record {
  reads = f.reads;
  bound = fits;
  taken = f.taken;
  ended = λ told lt. absurd (omega (arith, lt, full));
  cause = tt;
  front = λ told. tt;
  others = f.others;
  counts = f.counts;
}

-- one more put
pub record Put (s done : ℕ) (a c : Seen) (from : List ℕ) : Type 0 where
  pub keeps : Keeps (a.name s) a c
  pub grown : IsTrue a.told → (bytes : List ℕ) → a.file (a.name s) ≡ Some bytes → c.file (a.name s) ≡ Some (bytes ++ take done from)
  pub all : IsTrue a.told → bytes_of (c.file (a.name s)) ≡ bytes_of (a.file (a.name s)) ++ take done from
  pub slots : SameSlots a c
  pub counts : SameWriteFaults a c
  pub reads : SameReadFaults a c

pub put_none : (s : ℕ) (a : Seen) (from : List ℕ) → Put s 0 a a from
put_none s a from = record {
  keeps = keeps_refl (a.name s) a;
  grown = λ told bytes was. was ∙ ap Some (sym (append-nil bytes));
  all = λ told. sym (append-nil (bytes_of (a.file (a.name s))));
  slots = slots_refl a;
  counts = λ m. refl;
  reads = λ m. refl;
}

pub put_step : {E : Type 0} (s done n : ℕ) (a b c : Seen) (from : List ℕ) → IsTrue (a.output s) → Put s done a b from → Puts {E = E} s (take (length from - done) (drop done from)) b c (Ok n) → Put s (done + n) a c from
put_step {E} s done n a b c from is_open f puts' =
    let puts = subst (λ l. Puts {E = E} s l b c (Ok n)) (take_rest from done) puts' in
    let same = output_name (a.name s) a b f.keeps s is_open in
    let more : IsTrue b.told → c.file (a.name s) ≡ Some (bytes_of (b.file (a.name s)) ++ take n (drop done from)) = λ told_b. subst (λ m. c.file m ≡ Some (bytes_of (b.file m) ++ take n (drop done from))) same (puts.grown told_b) in
    record {
      keeps = keeps_trans (a.name s) a b c f.keeps (subst (λ m. Keeps m b c) same puts.keeps);
      grown = λ told bytes was.
          let told_b : IsTrue b.told = subst IsTrue (sym f.keeps.told) told in
          more told_b ∙ ap (λ o. Some (bytes_of o ++ take n (drop done from))) (f.grown told bytes was)
          ∙ ap Some (append_assoc bytes (take done from) (take n (drop done from)) ∙ ap (λ l. bytes ++ l) (sym (take-sum from done n)));
      all = λ told.
          let told_b : IsTrue b.told = subst IsTrue (sym f.keeps.told) told in
          ap bytes_of (more told_b) ∙ ap (λ l. l ++ take n (drop done from)) (f.all told)
          ∙ append_assoc (bytes_of (a.file (a.name s))) (take done from) (take n (drop done from))
          ∙ ap (λ l. bytes_of (a.file (a.name s)) ++ l) (sym (take-sum from done n));
      slots = slots_trans a b c f.slots puts.slots;
      counts = λ m. puts.counts m ∙ f.counts m;
      reads = λ m. puts.reads m ∙ f.reads m;
    }

pub put_failed : {T E : Type 0} (s done : ℕ) (a b c : Seen) (from : List ℕ) (e : E) → IsTrue (a.output s) → Put s done a b from → Puts {E = E} s (take (length from - done) (drop done from)) b c (Err e) → PutsAll {T = T} {E = E} s from a c (Err e)
put_failed {T} {E} s done a b c from e is_open f puts' =
    let puts = subst (λ l. Puts {E = E} s l b c (Err e)) (take_rest from done) puts' in
    let same = output_name (a.name s) a b f.keeps s is_open in
    let stays = subst (λ m. c.file m ≡ b.file m) same puts.same in
    record {
      keeps = keeps_trans (a.name s) a b c f.keeps (subst (λ m. Keeps m b c) same puts.keeps);
      grown = λ told bytes was. tt;
      part = λ told bytes was. (done, stays ∙ f.grown told bytes was);
      cause = rose_later _ _ _ f.keeps.writes_rise (subst (λ m. Rose (b.write_faults m) (c.write_faults m)) same puts.cause);
      all = λ told. tt;
      front = λ told. (done, ap bytes_of stays ∙ f.all told);
      slots = slots_trans a b c f.slots puts.slots;
      counts = tt;
      reads = λ m. puts.reads m ∙ f.reads m;
    }

-- all bytes were put
pub put_whole : {T E : Type 0} (s done : ℕ) (a b : Seen) (from : List ℕ) (t : T) → Put s done a b from → length from ≤ done → PutsAll {T = T} {E = E} s from a b (Ok t)
put_whole {T} {E} s done a b from t f full = record {
  keeps = f.keeps;
  grown = λ told bytes was. f.grown told bytes was ∙ ap (λ l. Some (bytes ++ l)) (take_all done from full);
  part = λ told bytes was. (done, f.grown told bytes was);
  cause = tt;
  all = λ told. f.all told ∙ ap (λ l. bytes_of (a.file (a.name s)) ++ l) (take_all done from full);
  front = λ told. (done, f.all told);
  slots = f.slots;
  counts = f.counts;
  reads = f.reads;
}

-- a buffer keeps its length where a piece of its rest is written
pub length-put_mid : (got : ℕ) (xs ys : List ℕ) → got ≤ length xs → length ys ≡ length (take (length xs - got) (drop got xs)) → length (put_mid got (length xs - got) xs ys) ≡ length xs
length-put_mid got xs ys le l =
    let piece : length ys ≡ length xs - got = l ∙ ap length (take_rest xs got) ∙ length-drop got xs in
    let front : length (take got xs) ≡ got = length-take-le got xs le in
    let back : length (drop (length xs - got) (drop got xs)) ≡ 0 = omega (arith, length-drop (length xs - got) (drop got xs), length-drop got xs) in
    omega (arith, length-append (take got xs) (ys ++ drop (length xs - got) (drop got xs)), length-append ys (drop (length xs - got) (drop got xs)), front, back, piece)

-- the last fetch gave nothing
pub fill_ended : {E : Type 0} (s got n k : ℕ) (a b c : Seen) (into piece : List ℕ) → IsTrue (a.input s) → Filled s got a b into → Fetches {E = E} s piece b c (Ok n) → got ≤ length (put_mid got k into piece) → got ≤ length into → n ≡ 0 → Fills {E = E} s (put_mid got k into piece) a c (Ok got)
fill_ended s got n k a b c into piece is_open f fetched fits le zero_is =
    let more = fill_step s got n k a b c into piece is_open f fetched le in
    record {
      reads = more.reads;
      bound = fits;
      taken = λ told. subst (λ (m : ℕ). take m (put_mid got k into piece) ++ c.left s ≡ a.left s) (let e : got + n ≡ got = omega arith in e) (more.taken told);
      ended = λ told lt.
          let told_b : IsTrue b.told = subst IsTrue (sym f.reads.keeps.told) told in
          subst (λ (m : ℕ). take m piece ++ c.left s ≡ b.left s) zero_is (fetched.taken told_b) ∙ fetched.ended told_b zero_is;
      cause = tt;
      front = λ told. tt;
      others = more.others;
      counts = more.counts;
    }
