-- What is known of seen N_Ports, all of which are entered.
use Rattle.std.proofs.Common.{◌≡◌, ℕ, zero, ◌+◌, ◌-◌, ◌<◌, ◌≤◌, ◌⊎◌, inl, inr, Bool, true, false, List, [], ◌∷◌, ◌++◌, length, find, Option, Some, None, cond, refl, sym, ◌∙◌, ap, arith, if◌then◌else◌, map, drop, get_or, nat_lt, append_assoc, subst, suc, drop-cons, length-drop, append-nil, add-one, slice_get, option_map}
use mathlib.Core.Bool.{false≢true}
use Rattle.std.specs.Option.{IsSome}
use Rattle.std.proofs.lemmas.Bool.{cases_lt}
use Rattle.std.proofs.lemmas.List.{drop_all}
use Rattle.std.proofs.lemmas.Option.{slice_get-get_or, slice_get_past}
use Rattle.std.proofs.lemmas.Bool.Decides.{nat_tests}
use Rattle.std.proofs.lemmas.List.Elements.{All-head, All-tail}
use Rattle.sorted_lists.specs.Row.{has, IsNextBit}
use Rattle.sorted_lists.proofs.IndexLemmas.{some_same}
use Rattle.ct_messages.specs.Answer.{has_type}
use Rattle.ct_messages.specs.Server.{Known, first_of, or_first, next_port, of_type}
use Rattle.name_server.specs.Places.{is_of_type}
use Rattle.name_server.specs.Views.{typed_if, seen_of_type}
use Rattle.name_server.specs.declared.seen.SeenPort.{SeenPort}
use Rattle.name_server.specs.Registry.{Entry, entry_at, known_of, known_port, known, seen_at, AreEntered}

-- a seen N_Port is entered
abbrev pub IsEntered : List Entry → SeenPort → Type 0
IsEntered entries s = IsSome (entry_at s.address entries)

-- what is known of a seen N_Port, if there is one
abbrev pub known_if : List Entry → Option SeenPort → Option Known
known_if entries None = None
known_if entries (Some s) = known_port entries s

-- the first that passes is known of the first seen N_Port that passes
pub find-known : (q : Known → Bool) (p : SeenPort → Bool) → ((s : SeenPort) (e : Entry) → q (known_of s e) ≡ p s) → (entries : List Entry) (seen : List SeenPort) →
    AreEntered entries seen → find q (known entries seen) ≡ known_if entries (find p seen)
find-known q p same entries [] there = refl
find-known q p same entries (s ∷ seen) there =
    go (entry_at s.address entries) refl (All-head (IsEntered entries) s seen there) (find-known q p same entries seen (All-tail (IsEntered entries) s seen there))
  where
    test : (e : Entry) (b : Bool) → p s ≡ b → entry_at s.address entries ≡ Some e → find q (known entries seen) ≡ known_if entries (find p seen) →
        cond b (Some (known_of s e)) (find q (known entries seen)) ≡ known_if entries (cond b (Some s) (find p seen))
    test e true passes is others = rw is refl
    test e false fails is others = others

    go : (o : Option Entry) → entry_at s.address entries ≡ o → IsSome (entry_at s.address entries) → find q (known entries seen) ≡ known_if entries (find p seen) →
        find q (known entries (s ∷ seen)) ≡ known_if entries (find p (s ∷ seen))
    go None is some others = absurd (grind (arith, nat_tests))
    go (Some e) is some others = rw is (rw (same s e) (test e (p s) refl is others))

pub not_there : (o : Option Entry) → IsSome o → o ≡ None → ⊥
not_there None some is = cc
not_there (Some e) some is = cc

-- one that is found is entered
find-entered : (p : SeenPort → Bool) (entries : List Entry) (seen : List SeenPort) (s : SeenPort) → AreEntered entries seen → find p seen ≡ Some s → IsEntered entries s
find-entered p entries [] s there found = absurd (grind (arith, nat_tests))
find-entered p entries (x ∷ seen) s there found =
    go (p x) refl found (All-head (IsEntered entries) x seen there) (λ later. find-entered p entries seen s (All-tail (IsEntered entries) x seen there) later)
  where
    go : (b : Bool) → p x ≡ b → cond b (Some x) (find p seen) ≡ Some s → IsEntered entries x → (find p seen ≡ Some s → IsEntered entries s) → IsEntered entries s
    go true is this here others = let same : x ≡ s = cc in subst (IsEntered entries) same here
    go false is later here others = others later

-- the next is the first above the asked address, or else the first of all
module _ (a : ℕ) (entries : List Entry) (seen : List SeenPort) (there : AreEntered entries seen) where
  above : find (λ p. nat_lt a p.address) (known entries seen) ≡ known_if entries (find (λ s. nat_lt a s.address) seen)
  above = find-known (λ p. nat_lt a p.address) (λ s. nat_lt a s.address) (λ s e. refl) entries seen there

  pub next-Some : (s : SeenPort) → Some s ≡ find (λ s. nat_lt a s.address) seen → next_port a (known entries seen) ≡ known_port entries s
  next-Some s is =
      ap (λ o. or_first o (known entries seen)) (above ∙ ap (known_if entries) (sym is))
      ∙ go (entry_at s.address entries) refl (find-entered (λ s. nat_lt a s.address) entries seen s there (sym is))
    where
      go : (o : Option Entry) → entry_at s.address entries ≡ o → IsEntered entries s → or_first (known_port entries s) (known entries seen) ≡ known_port entries s
      go None none here = absurd (not_there (entry_at s.address entries) here none)
      go (Some e) some here = rw some refl

  pub next-None : None ≡ find (λ s. nat_lt a s.address) seen → next_port a (known entries seen) ≡ first_of (known entries seen)
  next-None is = ap (λ o. or_first o (known entries seen)) (above ∙ ap (known_if entries) (sym is))

-- who is among the seen N_Ports makes their list one with an entry
pub known-some : (a : ℕ) (entries : List Entry) (seen : List SeenPort) → AreEntered entries seen → IsSome (seen_at a seen) → 0 < length (known entries seen)
known-some a entries [] there some = absurd (grind (arith, nat_tests))
known-some a entries (s ∷ seen) there some = go (entry_at s.address entries) refl (All-head (IsEntered entries) s seen there)
  where
    go : (o : Option Entry) → entry_at s.address entries ≡ o → IsSome (entry_at s.address entries) → 0 < length (known entries (s ∷ seen))
    go None is has = absurd (grind (arith, nat_tests))
    go (Some e) is has = rw is (omega arith)

-- ---- lists of them

module _ {Y : Type 0} (f : Known → Y) (kind : ℕ) (entries : List Entry) where
  -- what is listed of those that have a type
  abbrev pub listed : List SeenPort → List Y
  listed seen = map f (of_type kind (known entries seen))

  listed-cons : (s : SeenPort) (seen : List SeenPort) (o : Option Known) → known_port entries s ≡ o →
      listed (s ∷ seen) ≡ (elim (typed_if kind o) [ None ↦ listed seen | Some k ↦ f k ∷ listed seen ])
  listed-cons s seen None is = rw is refl
  listed-cons s seen (Some k) is = rw is (go (has_type k.values.types kind) refl)
    where
      go : (b : Bool) → has_type k.values.types kind ≡ b →
          map f (cond b (k ∷ of_type kind (known entries seen)) (of_type kind (known entries seen))) ≡ (elim (if b then Some k else None) [ None ↦ listed seen | Some k ↦ f k ∷ listed seen ])
      go true has = refl
      go false has = refl

  -- one that has the type is listed, and another isn't
  pub listed-this : (seen : List SeenPort) (i n : ℕ) (s : SeenPort) (k : Known) (done new all : List Y) → i < length seen → n ≡ i + 1 →
      typed_if kind (known_port entries (get_or seen i s)) ≡ Some k → new ≡ done ++ f k ∷ [] → done ++ listed (drop i seen) ≡ all → new ++ listed (drop n seen) ≡ all
  listed-this seen i n s k done new all within next this is so_far =
      ap (λ l. l ++ listed (drop n seen)) is
      ∙ append_assoc done (f k ∷ []) (listed (drop n seen))
      ∙ ap (λ m. done ++ f k ∷ listed (drop m seen)) (next ∙ add-one i)
      ∙ ap (λ l. done ++ l) (sym (ap listed (drop-cons seen i s within) ∙ listed-cons (get_or seen i s) (drop (suc i) seen) _ refl ∙ rw this refl))
      ∙ so_far

  -- one that hasn't the type isn't
  listed-other : (seen : List SeenPort) (i : ℕ) (s : SeenPort) → i < length seen → typed_if kind (known_port entries (get_or seen i s)) ≡ None → listed (drop i seen) ≡ listed (drop (i + 1) seen)
  listed-other seen i s within other =
      ap listed (drop-cons seen i s within) ∙ listed-cons (get_or seen i s) (drop (suc i) seen) _ refl
      ∙ ap (λ o. elim o [ None ↦ listed (drop (suc i) seen) | Some k ↦ f k ∷ listed (drop (suc i) seen) ]) other
      ∙ ap (λ n. listed (drop n seen)) (sym (add-one i))

  -- ---- by the bits of those that have the type

  no_type_there : (s : SeenPort) → seen_of_type kind entries (Some s) ≡ false → typed_if kind (known_port entries s) ≡ None
  no_type_there s none = go (entry_at s.address entries) refl
    where
      go : (o : Option Entry) → entry_at s.address entries ≡ o → typed_if kind (option_map (known_of s) (entry_at s.address entries)) ≡ None
      go None is = ap (λ o. typed_if kind (option_map (known_of s) o)) is
      go (Some e) is =
          let lacks : has_type e.values.types kind ≡ false = sym (ap (is_of_type kind) is) ∙ none in
          ap (λ o. typed_if kind (option_map (known_of s) o)) is ∙ ap (λ b. if b then Some (known_of s e) else None) lacks

  pub typed_known : (s : SeenPort) → seen_of_type kind entries (Some s) ≡ true → (k : Known) × (known_port entries s ≡ Some k) × (k.address ≡ s.address) × (typed_if kind (Some k) ≡ Some k)
  typed_known s some = go (entry_at s.address entries) refl
    where
      go : (o : Option Entry) → entry_at s.address entries ≡ o → (k : Known) × (known_port entries s ≡ Some k) × (k.address ≡ s.address) × (typed_if kind (Some k) ≡ Some k)
      go None is = absurd (false≢true (sym (ap (is_of_type kind) is) ∙ some))
      go (Some e) is =
          let has_it : has_type e.values.types kind ≡ true = sym (ap (is_of_type kind) is) ∙ some in
          (known_of s e, ap (option_map (known_of s)) is, refl, ap (λ b. if b then Some (known_of s e) else None) has_it)

  module _ (seen : List SeenPort) (row : List ℕ) (bits : (i : ℕ) → has row i ≡ seen_of_type kind entries (slice_get seen i)) where
    -- a bit is that of one that is seen
    pub seen_within : (i : ℕ) → has row i ≡ true → i < length seen
    seen_within i bit = go (cases_lt i (length seen))
      where
        go : (i < length seen) ⊎ (length seen ≤ i) → i < length seen
        go (inl lt) = lt
        go (inr ge) = absurd (false≢true (sym (bits i ∙ ap (seen_of_type kind entries) (slice_get_past seen i ge)) ∙ bit))

    pub typed_at : (i : ℕ) (s : SeenPort) → has row i ≡ true → seen_of_type kind entries (Some (get_or seen i s)) ≡ true
    typed_at i s bit = sym (ap (seen_of_type kind entries) (slice_get-get_or seen i s (seen_within i bit))) ∙ sym (bits i) ∙ bit

    skipped : (from n : ℕ) → from + n ≤ length seen → ((i : ℕ) → from ≤ i → i < from + n → has row i ≡ false) → listed (drop from seen) ≡ listed (drop (from + n) seen)
    skipped from zero le clear = ap (λ m. listed (drop m seen)) (let e : from ≡ from + 0 = omega arith in e)
    skipped from (suc n) le clear = skipped from n (omega (arith, le)) (λ i low high. clear i low (omega (arith, high))) ∙ last (drop (from + n) seen) refl
      where
        lt : from + n < length seen
        lt = omega (arith, le)

        fails : has row (from + n) ≡ false
        fails = clear (from + n) (omega arith) (omega arith)

        last : (l : List SeenPort) → drop (from + n) seen ≡ l → listed (drop (from + n) seen) ≡ listed (drop (from + suc n) seen)
        last [] is = absurd (omega (arith, lt, ap length is, length-drop (from + n) seen))
        last (s ∷ more) is =
            listed-other seen (from + n) s lt (no_type_there (get_or seen (from + n) s) (sym (ap (seen_of_type kind entries) (slice_get-get_or seen (from + n) s lt)) ∙ sym (bits (from + n)) ∙ fails))
            ∙ ap (λ m. listed (drop m seen)) (let e : from + n + 1 ≡ from + suc n = omega arith in e)

    -- what is listed from the next bit on
    pub listed-next : (from i n : ℕ) (s : SeenPort) (k : Known) (done new all : List Y) → IsNextBit row from (Some i) → n ≡ i + 1 → known_port entries (get_or seen i s) ≡ Some k → new ≡ done ++ f k ∷ []
        → done ++ listed (drop from seen) ≡ all → new ++ listed (drop n seen) ≡ all
    listed-next from i n s k done new all next after is pushed so_far =
        let (this, known_so, _, typed) = typed_known (get_or seen i s) (typed_at i s next.1) in
        let same : this ≡ k = some_same this k (sym known_so ∙ is) in
        let lt = seen_within i next.1 in
        listed-this seen i n s k done new all lt after (ap (typed_if kind) is ∙ subst (λ z. typed_if kind (Some z) ≡ Some z) same typed) pushed
        (ap (λ l. done ++ l) (sym (skipped from (i - from) (omega (arith, lt, next.0)) (λ j low high. next.2 j low (omega (arith, high, next.0))) ∙ ap (λ m. listed (drop m seen)) (let e : from + (i - from) ≡ i = omega (arith, next.0) in e))) ∙ so_far)

    -- and where there is none, nothing more is
    pub listed-end : (from : ℕ) (done all : List Y) → IsNextBit row from None → from ≤ length seen → done ++ listed (drop from seen) ≡ all → done ≡ all
    listed-end from done all none le so_far =
        sym (append-nil done)
        ∙ ap (λ l. done ++ l) (sym (skipped from (length seen - from) (omega (arith, le)) (λ j low high. none j low) ∙ ap listed (drop_all (from + (length seen - from)) seen (omega (arith, le)))))
        ∙ so_far
