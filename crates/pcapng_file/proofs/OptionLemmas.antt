-- The walk over the options of an interface.
use Rattle.std.proofs.Common.{◌≡◌, ◌≢◌, ℕ, zero, suc, ◌+◌, ◌≤◌, ◌<◌, Bool, true, false, ◌&&◌, ◌||◌, eqb, ltb, leb, List, [], ◌∷◌, length, take, drop, subst, Option, Some, None, refl, sym, ap, ◌∙◌, arith, if◌then◌else◌}
use Rattle.std.specs.Prelude.{nat_lt, ◌==◌, is_none, option_map, find, slice_index}
use Rattle.std.specs.List.{list_any}
use Rattle.std.proofs.lemmas.Bool.{lt-ltb, le-ltb, ne_eqb, eqb-true, eq-eqb, le-leb, lt-leb}
use Rattle.pcap_file.specs.Capture.{at_place}
use Rattle.fab_base.specs.Layout.{field}
use Rattle.pcapng_file.specs.Block.{Entry, padded, entry_at, behind_option, cons_some, entries_from, entries, tells_unit, offsets, said_by, told_with, told_in}
use Rattle.pcapng_file.specs.declared.options.Told.{Told}

abbrev pub value_of : Option Entry → Option ℕ
value_of o = option_map (λ e. slice_index e.value 0) o

abbrev pub either : Option ℕ → Option ℕ → Option ℕ
either (Some r) o = Some r
either None o = o

-- what was said and what further options say
abbrev pub joined : Told → List Entry → Told
joined t es = record { resolution = either t.resolution (value_of (find tells_unit es)); offset = t.offset || list_any offsets es }

abbrev pub joined_some : Told → Option (List Entry) → Option Told
joined_some t None = None
joined_some t (Some es) = Some (joined t es)

-- an option in front of others, by its tests
by_tests : (ends unit some : Bool) (v : Entry) (r : Option ℕ) (o : Bool) (rest : Option Entry) (any : Bool) → (ends ≡ true → unit ≡ false) →
    (let told : Told = (if ends then record { resolution = r; offset = true } else if unit && is_none r && some then record { resolution = Some (slice_index v.value 0); offset = o } else record { resolution = r; offset = o }) in
    let whole : Told = record { resolution = either r (value_of (if unit && some then Some v else rest)); offset = o || (ends || any) } in
    whole ≡ record { resolution = either told.resolution (value_of rest); offset = told.offset || any })
by_tests true true some v r o rest any other = let no = other refl in absurd (cc)
by_tests true false some v r true rest any other = refl
by_tests true false some v r false rest any other = refl
by_tests false false some v r o rest any other = refl
by_tests false true false v (Some r) o rest any other = refl
by_tests false true false v None o rest any other = refl
by_tests false true true v (Some r) o rest any other = refl
by_tests false true true v None o rest any other = refl

ends_not_unit : (code : ℕ) → (code == 14) ≡ true → (code == 9) ≡ false
ends_not_unit code is = let same : code ≡ 14 = eqb-true code 14 is in ne_eqb code 9 (λ e. omega arith)

pub joined_one : (t : Told) (e : Entry) (es : List Entry) → joined t (e ∷ es) ≡ joined (told_with t e.code e.value) es
joined_one t e es = by_tests (e.code == 14) (e.code == 9) (nat_lt 0 (length e.value)) e t.resolution t.offset (find tells_unit es) (list_any offsets es) (ends_not_unit e.code)

joined_cons : (t : Told) (e : Entry) (o : Option (List Entry)) → joined_some t (cons_some e o) ≡ joined_some (told_with t e.code e.value) o
joined_cons t e None = refl
joined_cons t e (Some es) = ap (λ (u : Told). Some u) (joined_one t e es)

nil_by : (r : Option ℕ) (o : Bool) → (let t : Told = record { resolution = r; offset = o } in joined t [] ≡ t)
nil_by (Some r) true = refl
nil_by (Some r) false = refl
nil_by None true = refl
nil_by None false = refl

joined_nil : (t : Told) → joined t [] ≡ t
joined_nil t = nil_by t.resolution t.offset

-- the ladder of the tests at a place
abbrev pub ladder : Bool → Bool → Bool → Bool → Option (List Entry) → Option (List Entry)
ladder ended short last passes rest = if ended then Some [] else if short then None else if last then Some [] else if passes then None else rest

entries_is : (n : ℕ) (big : Bool) (l : List ℕ) (at : ℕ) → entries_from (suc n) big l at ≡ ladder (leb (length l) at) (ltb (length l) (at + 4)) (eqb (at_place big l at 2) 0) (ltb (length l) (behind_option big l at)) (cons_some (entry_at big l at) (entries_from n big l (behind_option big l at)))
entries_is n big l at = refl

-- the walk stands at a place, and with these options said
pub record Walk (big : Bool) (l : List ℕ) (t : Told) (at : ℕ) : Type 0 where
  pub bound : at ≤ length l
  pub left : (m : ℕ) × (length l < at + suc m) × (joined_some t (entries_from (suc m) big l at) ≡ told_in big l)

entries_are : (big : Bool) (l : List ℕ) → entries big l ≡ entries_from (suc (length l)) big l 0
unfolding entries
entries_are big l = refl

nothing_joined : (o : Option (List Entry)) → joined_some (record { resolution = None; offset = false }) o ≡ option_map said_by o
nothing_joined None = refl
nothing_joined (Some es) = refl

pub walk_none : (big : Bool) (l : List ℕ) → Walk big l (record { resolution = None; offset = false }) 0
walk_none big l = record { bound = omega arith; left = (length l, omega arith, nothing_joined (entries_from (suc (length l)) big l 0) ∙ ap (option_map said_by) (sym (entries_are big l))) }

module _ (big : Bool) (l : List ℕ) (t : Told) (at : ℕ) (w : Walk big l t at) where
  abbrev rest : Option (List Entry)
  rest = cons_some (entry_at big l at) (entries_from w.left.0 big l (behind_option big l at))

  pub walk_ended : length l ≤ at → told_in big l ≡ Some t
  walk_ended le =
      sym w.left.2 ∙ (λ i. joined_some t (ladder (le-leb (length l) at le i) (ltb (length l) (at + 4)) (eqb (at_place big l at 2) 0) (ltb (length l) (behind_option big l at)) rest))
      ∙ ap (λ (u : Told). Some u) (joined_nil t)

  module _ (lt : at < length l) where
    pub walk_short : length l < at + 4 → told_in big l ≡ None
    walk_short short = sym w.left.2 ∙ (λ i. joined_some t (ladder (lt-leb (length l) at lt i) (lt-ltb (length l) (at + 4) short i) (eqb (at_place big l at 2) 0) (ltb (length l) (behind_option big l at)) rest))

    module _ (le : at + 4 ≤ length l) where
      pub walk_zero : at_place big l at 2 ≡ 0 → told_in big l ≡ Some t
      walk_zero is =
          sym w.left.2 ∙ (λ i. joined_some t (ladder (lt-leb (length l) at lt i) (le-ltb (length l) (at + 4) le i) (eq-eqb (at_place big l at 2) 0 is i) (ltb (length l) (behind_option big l at)) rest))
          ∙ ap (λ (u : Told). Some u) (joined_nil t)

      module _ (code : at_place big l at 2 ≢ 0) where
        pub walk_passes : length l < behind_option big l at → told_in big l ≡ None
        walk_passes past = sym w.left.2 ∙ (λ i. joined_some t (ladder (lt-leb (length l) at lt i) (le-ltb (length l) (at + 4) le i) (ne_eqb (at_place big l at 2) 0 code i) (lt-ltb (length l) (behind_option big l at) past i) rest))

        go_on : (m : ℕ) → length l < at + suc m → at + 4 ≤ behind_option big l at → behind_option big l at ≤ length l → joined_some (told_with t (at_place big l at 2) (field l (at + 4) (at_place big l (at + 2) 2))) (entries_from m big l (behind_option big l at)) ≡ told_in big l → Walk big l (told_with t (at_place big l at 2) (field l (at + 4) (at_place big l (at + 2) 2))) (behind_option big l at)
        go_on zero room on fits is = absurd (omega arith)
        go_on (suc m) room on fits is = record { bound = fits; left = (m, omega arith, is) }

        pub walk_more : at + 4 ≤ behind_option big l at → behind_option big l at ≤ length l → Walk big l (told_with t (at_place big l at 2) (field l (at + 4) (at_place big l (at + 2) 2))) (behind_option big l at)
        walk_more on fits =
            go_on w.left.0 w.left.1 on fits
            (sym (joined_cons t (entry_at big l at) (entries_from w.left.0 big l (behind_option big l at)))
            ∙ sym (λ i. joined_some t (ladder (lt-leb (length l) at lt i) (le-ltb (length l) (at + 4) le i) (ne_eqb (at_place big l at 2) 0 code i) (le-ltb (length l) (behind_option big l at) fits i) rest))
            ∙ w.left.2)

        -- the same by the numbers that were read
        pub walk_step : (read len k pad : ℕ) (u : Told) → read ≡ at_place big l at 2 → len ≡ at_place big l (at + 2) 2 → k ≡ len → pad ≡ padded len → u ≡ told_with t read (take k (drop (at + 4) l)) → at + 4 + pad ≤ length l → Walk big l u (at + (4 + pad))
        walk_step read len k pad u is_read is_len is_k is_pad is_u fits =
            let place : behind_option big l at ≡ at + (4 + pad) = (λ i. at + (4 + (ap padded (sym is_len) ∙ sym is_pad) i)) in
            let said : told_with t (at_place big l at 2) (field l (at + 4) (at_place big l (at + 2) 2)) ≡ u = (λ i. told_with t (sym is_read i) (take ((sym is_len ∙ sym is_k) i) (drop (at + 4) l))) ∙ sym is_u in
            subst (λ (v : Told). Walk big l v (at + (4 + pad))) said
            (subst (λ (p : ℕ). Walk big l (told_with t (at_place big l at 2) (field l (at + 4) (at_place big l (at + 2) 2))) p) place (walk_more (omega arith) (omega arith)))
