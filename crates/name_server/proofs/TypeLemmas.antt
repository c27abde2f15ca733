-- The rows of the types, as they are made and as a place gets other types.
use Rattle.std.proofs.Common.{◌≡◌, ◌≢◌, ℕ, ◌+◌, ◌<◌, ◌≤◌, ◌==◌, ◌⊎◌, inl, inr, Bool, false, if◌then◌else◌, List, [], ◌++◌, length, set, get_or, take, drop, append-nil, Option, Some, None, Vec, slice_get, sym, ◌∙◌, ap, subst, arith}
use Rattle.std.specs.List.{All}
use Rattle.std.specs.Option.{option_map_or}
use Rattle.std.specs.declared.alloc.Global.{Global}
use Rattle.std.proofs.lemmas.Bool.{cases_lt, cases_eq}
use Rattle.std.proofs.lemmas.List.{get_or-set_same, get_or-set_other, length-set, drop_all, take_all}
use Rattle.std.proofs.lemmas.Option.{slice_get-get_or, slice_get_past, slice_get_cases}
use Rattle.sorted_lists.specs.Row.{has}
use Rattle.sorted_lists.proofs.RowLemmas.{has-none}
use Rattle.ct_messages.specs.Answer.{has_type}
use Rattle.ct_messages.specs.declared.TypeMap.{TypeMap}
use Rattle.name_server.specs.Places.{row_of, AreWide}

abbrev items_or : Option (Vec ℕ Global) → List ℕ
items_or o = option_map_or (λ (r : Vec ℕ Global). r.items) o []

pub row_at : (rows : List (Vec ℕ Global)) (kind : ℕ) (d : Vec ℕ Global) → kind < length rows → row_of rows kind ≡ (get_or rows kind d).items
row_at rows kind d lt = ap items_or (slice_get-get_or rows kind d lt)

-- ---- rows that are made

-- a row of so many words that has no bit
abbrev pub IsBlank : ℕ → Vec ℕ Global → Type 0
IsBlank words row = ((q : ℕ) → has row.items q ≡ false) × (length row.items ≡ words)

module _ (words : ℕ) (rows : List (Vec ℕ Global)) (blank : All (IsBlank words) rows) where
  pub blank_bits : (kind q : ℕ) → has (row_of rows kind) q ≡ false
  blank_bits kind q = by (slice_get_cases rows kind).1
    where
      by : ((x : Vec ℕ Global) × (kind < length rows) × (slice_get rows kind ≡ Some x) × (get_or rows kind x ≡ x)) ⊎ ((length rows ≤ kind) × (slice_get rows kind ≡ None)) → has (row_of rows kind) q ≡ false
      by (inl (x, lt, is, at)) = ap (λ o. has (items_or o) q) is ∙ (subst (IsBlank words) at (blank kind x lt)).0 q
      by (inr (past, is)) = ap (λ o. has (items_or o) q) is ∙ has-none q

  pub blank_wide : length rows ≡ 256 → AreWide words rows
  blank_wide count = record {
    count = count;
    each = λ kind lt. by kind (omega (arith, lt, count)) (slice_get_cases rows kind).1;
  }
    where
      by : (kind : ℕ) → kind < length rows → ((x : Vec ℕ Global) × (kind < length rows) × (slice_get rows kind ≡ Some x) × (get_or rows kind x ≡ x)) ⊎ ((length rows ≤ kind) × (slice_get rows kind ≡ None)) → length (row_of rows kind) ≡ words
      by kind lt (inl (x, within, is, at)) = ap (λ o. length (items_or o)) is ∙ (subst (IsBlank words) at (blank kind x within)).1
      by kind lt (inr (past, is)) = absurd (omega (arith, lt, past))

-- ---- a place gets other types

-- the row of a type is written, and the others stay
module _ (rows : List (Vec ℕ Global)) (kind : ℕ) (row : Vec ℕ Global) (lt : kind < length rows) where
  row_here : row_of (set rows kind row) kind ≡ row.items
  row_here = row_at (set rows kind row) kind row (omega (arith, lt, length-set rows kind row)) ∙ ap (λ (r : Vec ℕ Global). r.items) (get_or-set_same rows kind row row lt)

  row_other : (other : ℕ) → other ≢ kind → row_of (set rows kind row) other ≡ row_of rows other
  row_other other ne = by (cases_lt other (length rows))
    where
      by : (other < length rows) ⊎ (length rows ≤ other) → row_of (set rows kind row) other ≡ row_of rows other
      by (inl within) =
          row_at (set rows kind row) other row (omega (arith, within, length-set rows kind row))
          ∙ ap (λ (r : Vec ℕ Global). r.items) (get_or-set_other rows kind other row row ne)
          ∙ sym (row_at rows other row within)
      by (inr past) = ap items_or (slice_get_past (set rows kind row) other (omega (arith, past, length-set rows kind row)) ∙ sym (slice_get_past rows other past))

-- a place has these types in the rows below so many, and the others stay
pub record ArePut (place : ℕ) (types : TypeMap) (old now : List (Vec ℕ Global)) (below : ℕ) : Type 0 where
  pub done : (kind q : ℕ) → kind < below → has (row_of now kind) q ≡ (if place == q then has_type types kind else has (row_of old kind) q)
  pub rest : (kind : ℕ) → below ≤ kind → row_of now kind ≡ row_of old kind
  pub words : (kind : ℕ) → length (row_of now kind) ≡ length (row_of old kind)

pub put_more : (place : ℕ) (types : TypeMap) (old now : List (Vec ℕ Global)) (n : ℕ) (row d : Vec ℕ Global) (value : Bool) → ArePut place types old now n → n < length now
    → ((q : ℕ) → has row.items q ≡ (if place == q then value else has (get_or now n d).items q)) → length row.items ≡ length (get_or now n d).items → value ≡ has_type types n
    → ArePut place types old (set now n row) (n + 1)
put_more place types old now n row d value put lt bits size is = record {
  done = λ kind q below. done kind q below (cases_eq kind n);
  rest = λ kind from. row_other now n row lt kind (λ e. omega (arith, e, from)) ∙ put.rest kind (omega (arith, from));
  words = λ kind. words kind (cases_eq kind n);
}
  where
    was : (get_or now n d).items ≡ row_of old n
    was = sym (row_at now n d lt) ∙ put.rest n (omega arith)

    done : (kind q : ℕ) → kind < n + 1 → (kind ≡ n) ⊎ (kind ≢ n) → has (row_of (set now n row) kind) q ≡ (if place == q then has_type types kind else has (row_of old kind) q)
    done kind q below (inl same) =
        ap (λ k. has (row_of (set now n row) k) q) same
        ∙ ap (λ l. has l q) (row_here now n row lt)
        ∙ bits q
        ∙ ap (λ v. if place == q then v else has (get_or now n d).items q) is
        ∙ ap (λ l. if place == q then has_type types n else has l q) was
        ∙ ap (λ k. if place == q then has_type types k else has (row_of old k) q) (sym same)
    done kind q below (inr other) = ap (λ l. has l q) (row_other now n row lt kind other) ∙ put.done kind q (omega (arith, below, other))

    words : (kind : ℕ) → (kind ≡ n) ⊎ (kind ≢ n) → length (row_of (set now n row) kind) ≡ length (row_of old kind)
    words kind (inl same) = ap (λ k. length (row_of (set now n row) k)) same ∙ ap length (row_here now n row lt) ∙ size ∙ ap length was ∙ ap (λ k. length (row_of old k)) (sym same)
    words kind (inr other) = ap length (row_other now n row lt kind other) ∙ put.words kind

-- what comes back of a borrow of all rows
pub whole : (n : ℕ) (now rows : List (Vec ℕ Global)) → n ≡ length rows → length now ≡ length rows → take n (now ++ drop (length now) rows) ≡ now
whole n now rows long same =
    ap (λ l. take n (now ++ l)) (drop_all (length now) rows (omega (arith, same)))
    ∙ ap (take n) (append-nil now)
    ∙ take_all n now (omega (arith, long, same))
