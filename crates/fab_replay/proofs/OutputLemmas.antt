-- A file against wanted bytes, one piece after another.
use Rattle.std.proofs.Common.{◌≡◌, ℕ, zero, suc, ◌+◌, false, is_some, drop, Ok, Err, Result, ◌-◌, ◌^◌, ◌<◌, ◌≤◌, ◌⊎◌, inl, inr, min, List, [], ◌∷◌, ◌++◌, length, length-append, take, slice_get, Option, None, Some, IsTrue, refl, sym, ◌∙◌, ap, subst, arith, append_assoc}
use Rattle.std.proofs.lemmas.List.{append-nil, take-append-drop, take-append-le, length-take-le}
use Rattle.std.proofs.Math.Seq.{take-append-add, take-append_seam}
use Rattle.std.specs.Result.{IsErrAnd}
use Rattle.fab_base.specs.Seen.{Seen, Reads, Rose, Fills}
use Rattle.fab_base.specs.declared.values.Failed.{Failed}
use Rattle.fab_base.proofs.SeenLemmas.{rose_later}
use Rattle.fab_base.proofs.Depots.{input_name, reads_trans, reads_refl, take-sum}
use Rattle.fab_replay.specs.Outputs.{IsFirstDifference, told_place, IsCompared, IsReadAt, IsRead, GoesOn, GoesPart, Feeds, Finishes}
use Rattle.fab_replay.specs.declared.outputs.Compared.{Compared}

-- ---- places in lists

get-left : (xs ys : List ℕ) (n : ℕ) → n < length xs → slice_get (xs ++ ys) n ≡ slice_get xs n
get-left [] ys n lt = absurd (omega arith)
get-left (x ∷ xs) ys zero lt = refl
get-left (x ∷ xs) ys (suc n) lt = get-left xs ys n (omega arith)

get-right : (xs ys : List ℕ) (n : ℕ) → slice_get (xs ++ ys) (length xs + n) ≡ slice_get ys n
get-right [] ys n = ap (slice_get ys) (omega arith)
get-right (x ∷ xs) ys n = let e : suc (length xs) + n ≡ suc (length xs + n) = omega arith in rw e (get-right xs ys n)

shorter : (m n : ℕ) (l : List ℕ) → m ≤ n → take m (take n l) ≡ take m l
shorter zero n l le = refl
shorter (suc m) zero l le = absurd (omega arith)
shorter (suc m) (suc n) [] le = refl
shorter (suc m) (suc n) (x ∷ l) le = ap (λ r. x ∷ r) (shorter m n l (omega arith))

-- ---- first differences

-- behind the same bytes
difference_behind : (front found wanted : List ℕ) (n : ℕ) → IsFirstDifference n found wanted → IsFirstDifference (length front + n) (front ++ found) (front ++ wanted)
difference_behind front found wanted n d = record {
  same = take-append-add front found n ∙ ap (λ l. front ++ l) d.same ∙ sym (take-append-add front wanted n);
  differ = λ e. d.differ (sym (get-right front found n) ∙ (e ∙ get-right front wanted n));
}

-- bytes that come behind it in one of the texts make no difference to it
difference_before : (found wanted more : List ℕ) (n : ℕ) → n < length wanted → IsFirstDifference n found wanted → IsFirstDifference n found (wanted ++ more)
difference_before found wanted more n lt d = record {
  same = d.same ∙ sym (take-append-le n wanted more (omega arith));
  differ = λ e. d.differ (e ∙ get-left wanted more n lt);
}

difference_in_front : (found wanted more : List ℕ) (n : ℕ) → n < length found → IsFirstDifference n found wanted → IsFirstDifference n (found ++ more) wanted
difference_in_front found wanted more n lt d = record {
  same = take-append-le n found more (omega arith) ∙ d.same;
  differ = λ e. d.differ (sym (get-left found more n lt) ∙ e);
}

-- a text that goes on behind all bytes of the other
difference_at_end : (wanted : List ℕ) (x : ℕ) (more : List ℕ) → IsFirstDifference (length wanted) (wanted ++ x ∷ more) wanted
difference_at_end wanted x more = record {
  same = ap (λ (n : ℕ). take n (wanted ++ x ∷ more)) refl ∙ (take-append_seam wanted (x ∷ more) ∙ sym (go wanted));
  differ = λ e. let f : Some x ≡ slice_get wanted (length wanted) = sym (at_seam wanted) ∙ e in absurd (apart x (f ∙ past wanted));
}
  where
    go : (l : List ℕ) → take (length l) l ≡ l
    go [] = refl
    go (y ∷ l) = ap (λ m. y ∷ m) (go l)

    at_seam : (l : List ℕ) → slice_get (l ++ x ∷ more) (length l) ≡ Some x
    at_seam [] = refl
    at_seam (y ∷ l) = at_seam l

    past : (l : List ℕ) → slice_get l (length l) ≡ None
    past [] = refl
    past (y ∷ l) = past l

    apart : (y : ℕ) → Some y ≡ None → ⊥
    apart y e = cc

-- ---- one piece more

-- places that are told in two steps
told_sum : (at n m : ℕ) → at ≡ told_place n → min (at + m) (2 ^ 64 - 1) ≡ told_place (n + m)
told_sum at n m e = omega (arith, e)

-- nothing is wanted of a piece
pub goes_nowhere : (s : ℕ) (a : Seen) (c : Compared) → GoesOn s [] a a c c
goes_nowhere s a c = record {
  reads = reads_refl (a.name s) a;
  read = λ told found wanted r. subst (λ w. IsRead c found (a.left s) w) (sym (append-nil wanted)) r;
  counts = λ m. refl;
}

pub goes_further : (s : ℕ) (xs ys : List ℕ) (a b d : Seen) (c c' c'' : Compared) → IsTrue (a.input s) → GoesOn s xs a b c c' → GoesOn s ys b d c' c'' → GoesOn s (xs ++ ys) a d c c''
goes_further s xs ys a b d c c' c'' is_open g h = record {
  reads = reads_trans (a.name s) a b d g.reads (subst (λ m. Reads m b d) (input_name (a.name s) a b g.reads.keeps s is_open) h.reads);
  read = λ told found wanted r.
      let told_b : IsTrue b.told = subst IsTrue (sym g.reads.keeps.told) told in
      subst (λ w. IsRead c'' found (d.left s) w) (append_assoc wanted xs ys) (h.read told_b found (wanted ++ xs) (g.read told found wanted r));
  counts = λ m. h.counts m ∙ g.counts m;
}

-- nothing was read, or only the first pieces of them
pub part_none : (s : ℕ) (bytes : List ℕ) (a : Seen) (c : Compared) → GoesPart s bytes a c c
part_none s bytes a c = record {
  front = [];
  rest = bytes;
  parts = refl;
  left = a.left s;
  read = λ told found wanted r. subst (λ w. IsRead c found (a.left s) w) (sym (append-nil wanted)) r;
}

pub part_on : (s done : ℕ) (all : List ℕ) (a b : Seen) (c c' c'' : Compared) → GoesOn s (take done all) a b c c' → c'' ≡ c' → GoesPart s all a c c''
part_on s done all a b c c' c'' g same = subst (GoesPart s all a c) (sym same) (record {
  front = take done all;
  rest = drop done all;
  parts = sym (take-append-drop done all);
  left = b.left s;
  read = λ told found wanted r. g.read told found wanted r;
})

-- a difference that was found stays the first
pub differs_still : (place at : ℕ) (found left left' wanted more : List ℕ) → IsReadAt (Some place) at found left wanted → IsReadAt (Some place) at found left' (wanted ++ more)
differs_still place at found left left' wanted more r = (r.0, r.1, omega (arith, r.2, length-append wanted more), difference_before found wanted more r.0 r.2 r.3)

-- a whole piece is there
pub agrees_on : (at : ℕ) (found left left' wanted piece : List ℕ) → IsReadAt None at found left wanted → piece ++ left' ≡ left → IsReadAt None (min (at + length piece) (2 ^ 64 - 1)) found left' (wanted ++ piece)
agrees_on at found left left' wanted piece r e = (
  told_sum at (length wanted) (length piece) r.0 ∙ ap told_place (sym (length-append wanted piece)),
  r.1 ∙ (ap (λ l. wanted ++ l) (sym e) ∙ sym (append_assoc wanted piece left')),
)

-- bytes that were read instead of a piece, which may be cut short where the file ends
pub differs_now : (at k : ℕ) (found left left' wanted seen piece : List ℕ) → IsReadAt None at found left wanted → seen ++ left' ≡ left → (length seen < length piece → left' ≡ []) → length seen ≤ length piece →
    k < length piece → IsFirstDifference k seen piece → IsReadAt (Some (min (at + k) (2 ^ 64 - 1))) at found left' (wanted ++ piece)
differs_now at k found left left' wanted seen piece r e ended le lt d = (
  length wanted + k,
  told_sum at (length wanted) k r.0,
  omega (arith, length-append wanted piece),
  subst (λ f. IsFirstDifference (length wanted + k) f (wanted ++ piece)) (sym (r.1 ∙ ap (λ l. wanted ++ l) (sym e))) (difference_behind wanted (seen ++ left') piece k (go (cases (length seen) (length piece) le))),
)
  where
    cases : (i j : ℕ) → i ≤ j → (i < j) ⊎ (i ≡ j)
    cases i j h = grind arith

    go : (length seen < length piece) ⊎ (length seen ≡ length piece) → IsFirstDifference k (seen ++ left') piece
    go (inl less) = subst (λ l. IsFirstDifference k l piece) (sym (append-nil seen) ∙ ap (λ l. seen ++ l) (sym (ended less))) d
    go (inr same) = difference_in_front seen piece left' k (omega (arith, same)) d

-- the end of the wanted bytes: nothing is left, or a byte too many
pub ends_there : (at : ℕ) (found left left' wanted : List ℕ) → IsReadAt None at found left wanted → left ≡ [] → IsCompared None found wanted
ends_there at found left left' wanted r e = r.1 ∙ (ap (λ l. wanted ++ l) e ∙ append-nil wanted)

pub goes_past : (at x : ℕ) (found left more wanted : List ℕ) → IsReadAt None at found left wanted → x ∷ more ≡ left → IsCompared (Some at) found wanted
goes_past at x found left more wanted r e =
    (length wanted, r.0, subst (λ f. IsFirstDifference (length wanted) f wanted) (sym (r.1 ∙ ap (λ l. wanted ++ l) (sym e))) (difference_at_end wanted x more))

-- ---- calls

none_there : (first : Option ℕ) → is_some first ≡ false → first ≡ None
none_there None e = refl
none_there (Some n) e = absurd (cc)

-- a byte was read behind all that was wanted
pub finds_more : (s got : ℕ) (buffer : List ℕ) (a b : Seen) (c : Compared) → is_some c.first ≡ false → (got ≡ 0 → ⊥) → length buffer ≡ 1 → Fills {E = Failed} s buffer a b (Ok got) → Finishes s a b c (Ok (Some c.at))
finds_more s got [] a b c none some one f = absurd (omega (arith, one))
finds_more s zero (x ∷ buffer) a b c none some one f = absurd (some refl)
finds_more s (suc got) (x ∷ buffer) a b c none some one f = record {
  reads = f.reads;
  compared = λ told found wanted r. goes_past c.at x found (a.left s) (take got buffer ++ b.left s) wanted (subst (λ first. IsReadAt first c.at found (a.left s) wanted) (none_there c.first none) r) (f.taken told);
  cause = tt;
  counts = f.counts;
}

-- the bytes that were read differ from the piece that was wanted
pub meets_difference : (s got k place : ℕ) (into piece : List ℕ) (a b : Seen) (c : Compared) → is_some c.first ≡ false → Fills {E = Failed} s (take (length piece) into) a b (Ok got) → length piece ≤ length into → place ≡ min (c.at + k) (2 ^ 64 - 1) →
    IsFirstDifference k (take got into) piece → k < length piece → Feeds s piece a b c (record { at = c.at; first = Some place }) (Ok tt)
meets_difference s got k place into piece a b c none f room is d lt = record {
  reads = f.reads;
  goes_on = record {
    reads = f.reads;
    read = λ told found wanted r.
        subst (λ p. IsReadAt (Some p) c.at found (b.left s) (wanted ++ piece)) (sym is)
        (differs_now c.at k found (a.left s) (b.left s) wanted (take got into) piece (subst (λ first. IsReadAt first c.at found (a.left s) wanted) (none_there c.first none) r)
        (subst (λ l. l ++ b.left s ≡ a.left s) front (f.taken told)) (λ less. f.ended told (omega (arith, less, size, long))) (omega (arith, f.bound, size, long)) lt d);
    counts = f.counts;
  };
  part = tt;
  cause = tt;
}
  where
    size : length (take (length piece) into) ≡ length piece
    size = length-take-le (length piece) into room

    long : length (take got into) ≡ got
    long = length-take-le got into (omega (arith, f.bound, size, room))

    front : take got (take (length piece) into) ≡ take got into
    front = shorter got (length piece) into (omega (arith, f.bound, size))

-- one piece more of those that are wanted
pub goes_on_by : (s done count n : ℕ) (all : List ℕ) (a b d : Seen) (c c' c'' : Compared) → IsTrue (a.input s) → GoesOn s (take done all) a b c c' → n ≡ count → Feeds s (take n (drop done all)) b d c' c'' (Ok tt) → GoesOn s (take (done + count) all) a d c c''
goes_on_by s done count n all a b d c c' c'' is_open g same f =
    subst (λ l. GoesOn s l a d c c'') (sym (take-sum all done count)) (goes_further s (take done all) (take count (drop done all)) a b d c c' c'' is_open g (subst (λ k. GoesOn s (take k (drop done all)) b d c' c'') same f.goes_on))

-- a fault of reading: nothing more was compared
pub meets_fault : (s : ℕ) (piece : List ℕ) (a b : Seen) (c : Compared) (r : Result (Unit {0}) Failed) (f : Failed) → IsErrAnd r (λ x. x ≡ f) → Reads (a.name s) a b → Rose (a.read_faults (a.name s)) (b.read_faults (a.name s)) → Feeds s piece a b c c r
meets_fault s piece a b c (Ok t) f h reads rose = absurd h
meets_fault s piece a b c (Err e) f h reads rose = record { reads = reads; goes_on = tt; part = part_none s piece a c; cause = rose }

pub feeds_fault : (s done : ℕ) (all piece : List ℕ) (a b d : Seen) (c c' c'' : Compared) (r : Result (Unit {0}) Failed) (f : Failed) → IsErrAnd r (λ x. x ≡ f) → IsTrue (a.input s) → GoesOn s (take done all) a b c c' → Feeds s piece b d c' c'' (Err f) → c'' ≡ c' → Feeds s all a d c c'' r
feeds_fault s done all piece a b d c c' c'' (Ok t) f h is_open g x same = absurd h
feeds_fault s done all piece a b d c c' c'' (Err e) f h is_open g x same = record {
  reads = reads_trans (a.name s) a b d g.reads (subst (λ m. Reads m b d) name x.reads);
  goes_on = tt;
  part = part_on s done all a b c c' c'' g same;
  cause = rose_later _ _ _ g.reads.keeps.reads_rise (subst (λ m. Rose (b.read_faults m) (d.read_faults m)) name x.cause);
}
  where
    name : b.name s ≡ a.name s
    name = input_name (a.name s) a b g.reads.keeps s is_open
