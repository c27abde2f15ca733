-- Where the past of an address stands among the places of a pool, and what a write there changes.
use Rattle.std.proofs.Common.{◌≡◌, ℕ, zero, suc, ◌+◌, ◌-◌, ◌<◌, ◌≤◌, ◌==◌, ◌≢◌, ◌⊎◌, ◌&&◌, is_none, Bool, true, false, List, [], ◌∷◌, length, get_or, set, map, if◌then◌else◌, Option, Some, None, is_some, IfSome, refl, sym, subst, ◌∙◌, ap, arith, slice_get, find, option_map, replicate, inl, inr}
use mathlib.Core.Bool.{false≢true}
use Rattle.std.specs.Option.{option_map_or}
use Rattle.std.proofs.lemmas.Option.{slice_get_past, slice_get-get_or}
use Rattle.std.proofs.lemmas.List.Elements.{All-nil, All-cons, All-map}
use Rattle.std.specs.List.{All}
use Rattle.std.proofs.lemmas.List.{get_or-replicate, get_or-set_same, get_or-set_other, length-replicate, length-set}
use Rattle.std.proofs.lemmas.Bool.{cases_eq}
use Rattle.sorted_lists.specs.Row.{has}
use Rattle.std.proofs.lemmas.Bool.{cases_lt}
use Rattle.std.proofs.lemmas.Bool.Decides.{nat_tests}
use Rattle.std.specs.List.{list_any}
use Rattle.fab_base.specs.Fabric.{Past, past_at}
use Rattle.fc_addresses.specs.Pool.{is_open, is_free, has_free, is_held, unused, taken, released, held, ended_at, never_had, HadAddress, HoldsAddress, EndsLogin, FollowFrom, IsSound, AreEndedBy}
use Rattle.fc_addresses.specs.Holders.{past_of, pasts_from, may_follow, nobody, is_unused, AreMarked}
use Rattle.fc_addresses.specs.declared.pool.Holder.{Holder}

-- places that nobody had are those of unused addresses
pub pasts_from-replicate : (k n : ℕ) → pasts_from k (replicate n (record { name = None; ended = None })) ≡ unused k n
pasts_from-replicate k zero = refl
pasts_from-replicate k (suc n) = ap (λ l. record { address = k; name = None; ended = None } ∷ l) (pasts_from-replicate (k + 1) n)

-- no address is below the first
pub past_at-below : (a k : ℕ) (l : List Holder) → a < k → past_at a (pasts_from k l) ≡ None
past_at-below a k [] below = refl
past_at-below a k (h ∷ l) below = grind (arith, nat_tests, past_at-below a (k + 1) l (omega arith))

-- the past of an address is what its place says
pub past_at-place : (a k i : ℕ) (l : List Holder) → a ≡ k + i → past_at a (pasts_from k l) ≡ option_map (past_of a) (slice_get l i)
past_at-place a k i [] same = refl
past_at-place a k zero (h ∷ l) same = grind (arith, nat_tests)
past_at-place a k (suc i) (h ∷ l) same = grind (arith, nat_tests, past_at-place a (k + 1) i l (omega arith))

-- some address may be had where some place may be followed
pub find-pasts_from : (name now k : ℕ) (l : List Holder) → is_some (find (is_open name now) (pasts_from k l)) ≡ list_any (may_follow name now) l
find-pasts_from name now k [] = refl
find-pasts_from name now k (h ∷ l) = grind (arith, nat_tests, find-pasts_from name now (k + 1) l)

-- a change of an address below the first changes nothing
changed-below : (F : Past → Past) (a k : ℕ) (l : List Holder) → a < k → map (λ p. if p.address == a then F p else p) (pasts_from k l) ≡ pasts_from k l
changed-below F a k [] below = refl
changed-below F a k (h ∷ l) below = grind (arith, nat_tests, changed-below F a (k + 1) l (omega arith))

-- a change of one address is a write at its place
pub changed-place : (F : Past → Past) (a k i : ℕ) (l : List Holder) (y d : Holder) → a ≡ k + i → i < length l →
    past_of a y ≡ F (past_of a (get_or l i d)) → map (λ p. if p.address == a then F p else p) (pasts_from k l) ≡ pasts_from k (set l i y)
changed-place F a k i [] y d same lt is = absurd (omega arith)
changed-place F a k zero (h ∷ l) y d same lt is = grind (arith, nat_tests, changed-below F a (k + 1) l (omega arith))
changed-place F a k (suc i) (h ∷ l) y d same lt is = grind (arith, nat_tests, changed-place F a (k + 1) i l y d (omega arith) (omega arith) is)

-- a test passes somewhere if it does at a place
list_any-at : (p : Holder → Bool) (l : List Holder) (i : ℕ) (d : Holder) → i < length l → p (get_or l i d) ≡ true → list_any p l ≡ true
list_any-at p [] i d lt passes = absurd (omega arith)
list_any-at p (h ∷ l) zero d lt passes = grind (arith, nat_tests)
list_any-at p (h ∷ l) (suc i) d lt passes = grind (arith, nat_tests, list_any-at p l i d (omega arith) passes)

list_any-nowhere : (p : Holder → Bool) (l : List Holder) (d : Holder) → ((i : ℕ) → i < length l → p (get_or l i d) ≡ false) → list_any p l ≡ false
list_any-nowhere p [] d fails = refl
list_any-nowhere p (h ∷ l) d fails = grind (arith, nat_tests, fails 0 (omega arith), list_any-nowhere p l d (λ i lt. fails (suc i) (omega arith)))

-- what holds of a number holds of an answer that is that number
pub IfSome-same : (r : Option ℕ) (P : ℕ → Type 0) (x : ℕ) → IfSome r (λ a. a ≡ x) → P x → IfSome r P
IfSome-same None P x same holds = tt
IfSome-same (Some a) P x same holds = subst P (sym same) holds

-- ---- what holds of every pool

follow-pasts_from : (k : ℕ) (l : List Holder) → FollowFrom k (pasts_from k l)
follow-pasts_from k [] = tt
follow-pasts_from k (h ∷ l) = (refl, follow-pasts_from (k + 1) l)

range-pasts_from : (k : ℕ) (l : List Holder) → ((i : ℕ) → i < length l → k + i < 0xFF0000) → All (λ (p : Past). p.address < 0xFF0000) (pasts_from k l)
range-pasts_from k [] below = All-nil (λ (p : Past). p.address < 0xFF0000)
range-pasts_from k (h ∷ l) below = All-cons (λ (p : Past). p.address < 0xFF0000) (past_of k h) (pasts_from (k + 1) l) (omega (arith, below 0 (omega arith))) (range-pasts_from (k + 1) l (λ i lt. omega (arith, below (suc i) (omega arith))))

pub sound_places : (k : ℕ) (l : List Holder) → ((i : ℕ) → i < length l → k + i < 0xFF0000) → IsSound (pasts_from k l)
sound_places k l below = record { first = k; places = follow-pasts_from k l; range = range-pasts_from k l below }

-- ---- places that nobody had

-- a new pool has all places marked
pub marked-new : (row : List ℕ) (n : ℕ) → ((q : ℕ) → q < n → has row q ≡ true) → AreMarked row (replicate n (record { name = None; ended = None }))
marked-new row n full k d lt =
    let within : k < n = omega (arith, length-replicate {A = Holder} n (record { name = None; ended = None })) in
    full k within ∙ sym (ap is_unused (get_or-replicate n k (record { name = None; ended = None }) d within))

-- a write with its bit
pub marked-set : (row new : List ℕ) (l : List Holder) (place : ℕ) (h : Holder) → AreMarked row l → place < length l → ((q : ℕ) → q ≢ place → has new q ≡ has row q) → has new place ≡ is_unused h → AreMarked new (set l place h)
marked-set row new l place h marked lt others here k d within = by (cases_eq k place)
  where
    by : (k ≡ place) ⊎ (k ≢ place) → has new k ≡ is_unused (get_or (set l place h) k d)
    by (inl same) =
        ap (has new) same ∙ here
        ∙ sym (ap (λ (n : ℕ). is_unused (get_or (set l place h) n d)) same ∙ ap is_unused (get_or-set_same l place h d lt))
    by (inr other) = others k other ∙ marked k d (omega (arith, length-set l place h)) ∙ sym (ap is_unused (get_or-set_other l place k h d other))

-- ---- a change of one address

module _ (F : Past → Past) (keeps : (p : Past) → (F p).address ≡ p.address) (a : ℕ) where
  abbrev changed : List Past → List Past
  changed pool = map (λ p. if p.address == a then F p else p) pool

  -- the address has the changed past, and every other its own
  pub found-changed : (b : ℕ) (pool : List Past) → past_at b (changed pool) ≡ (if a == b then option_map F (past_at b pool) else past_at b pool)
  found-changed b [] = grind (arith, nat_tests)
  found-changed b (p ∷ pool) = grind (arith, nat_tests, keeps p, found-changed b pool)

  pub places-changed : (pool : List Past) → map (λ p. p.address) (changed pool) ≡ map (λ p. p.address) pool
  places-changed [] = refl
  places-changed (p ∷ pool) = grind (arith, nat_tests, keeps p, places-changed pool)

-- the past of an address is that of this address
address_found : (a : ℕ) (pool : List Past) (q : Past → Bool) → option_map_or q (past_at a pool) false ≡ true → (F : ℕ → Past) → option_map (λ p. F p.address) (past_at a pool) ≡ Some (F a)
address_found a [] q holds F = cc
address_found a (p ∷ pool) q holds F = grind (arith, nat_tests, λ (later : option_map_or q (past_at a pool) false ≡ true). address_found a pool q later F)

pub found-taken : (a name : ℕ) (pool : List Past) (q : Past → Bool) → option_map_or q (past_at a pool) false ≡ true → HoldsAddress a name pool (taken pool a name)
found-taken a name pool q holds b = found-changed (λ p. held p.address name) (λ p. refl) a b pool ∙ go (a == b) refl
  where
    go : (t : Bool) → (a == b) ≡ t → (if t then option_map (λ p. held p.address name) (past_at b pool) else past_at b pool) ≡ (if t then Some (held a name) else past_at b pool)
    go true this =
        let same : a ≡ b = grind (arith, nat_tests) in
        subst (λ c. option_map (λ p. held p.address name) (past_at c pool) ≡ Some (held a name)) same (address_found a pool q holds (λ c. held c name))
    go false other = refl

-- no login ended after a moment, and one ends then or before
pub ended-released : (a end now : ℕ) (pool : List Past) → end ≤ now → AreEndedBy now pool → AreEndedBy now (released pool a end)
ended-released a end now pool by before =
    All-map (λ p. IfSome p.ended (λ e. e ≤ now)) (λ p. if p.address == a then ended_at end p else p) pool
    (λ i d lt. one (get_or pool i d) ((get_or pool i d).address == a) (before i d lt))
  where
    one : (p : Past) (b : Bool) → IfSome p.ended (λ e. e ≤ now) → IfSome (if b then ended_at end p else p).ended (λ e. e ≤ now)
    one p true h = by
    one p false h = h

-- and one that begins has no end
pub ended-taken : (a name now : ℕ) (pool : List Past) → AreEndedBy now pool → AreEndedBy now (taken pool a name)
ended-taken a name now pool before =
    All-map (λ p. IfSome p.ended (λ e. e ≤ now)) (λ p. if p.address == a then held p.address name else p) pool
    (λ i d lt. one (get_or pool i d) ((get_or pool i d).address == a) (before i d lt))
  where
    one : (p : Past) (b : Bool) → IfSome p.ended (λ e. e ≤ now) → IfSome (if b then held p.address name else p).ended (λ e. e ≤ now)
    one p true h = tt
    one p false h = h

-- ---- an address that nobody had, taken and ended at once

same_number : (a : ℕ) → (a == a) ≡ true
same_number a = grind (arith, nat_tests)

-- an address that nobody had is free
pub free-never : (name now a : ℕ) (pool : List Past) → past_at a pool ≡ Some (never_had a) → is_free pool name now a ≡ true
free-never name now a pool never = ap (λ o. option_map_or (is_open name now) o false) never

-- the address that was taken is held
pub held-taken : (a name : ℕ) (old new : List Past) → HoldsAddress a name old new → is_held new a ≡ true
held-taken a name old new holds = ap (λ o. option_map_or (λ p. is_some p.name && is_none p.ended) o false) (holds a ∙ ap (λ t. if t then Some (held a name) else past_at a old) (same_number a))

pub found-had : (a name end : ℕ) (old mid new : List Past) → HoldsAddress a name old mid → EndsLogin a end mid new → HadAddress a name end old new
found-had a name end old mid new holds ends b = go (a == b) (holds b) (ends b)
  where
    go : (t : Bool) → past_at b mid ≡ (if t then Some (held a name) else past_at b old) → past_at b new ≡ (if t then option_map (ended_at end) (past_at b mid) else past_at b mid)
        → past_at b new ≡ (if t then Some (ended_at end (held a name)) else past_at b old)
    go true h e = e ∙ ap (option_map (ended_at end)) h
    go false h e = e ∙ h

-- ---- a pool whose places are l, for the addresses from k on

module _ (pool : List Past) (k : ℕ) (l : List Holder) (places : pasts_from k l ≡ pool) where
  -- no address below the first has a past
  pub past-below : (a : ℕ) → a < k → past_at a pool ≡ None
  past-below a below = rw (← places) (past_at-below a k l below)

  -- an address has the past that its place says
  pub past-place : (a i : ℕ) (h : Holder) → a ≡ k + i → slice_get l i ≡ Some h → past_at a pool ≡ Some (past_of a h)
  past-place a i h same at = rw (← places, past_at-place a k i l same, at) refl

  -- no address past the last place has one
  pub past-past_end : (a i : ℕ) → a ≡ k + i → length l ≤ i → past_at a pool ≡ None
  past-past_end a i same past = rw (← places, past_at-place a k i l same, slice_get_past l i past) refl

  -- no address below the first is free
  pub free-below : (name now a : ℕ) → a < k → is_free pool name now a ≡ false
  free-below name now a below = rw (← places, past_at-below a k l below) refl

  -- an address is free where its place may be followed
  pub free-place : (name now a i : ℕ) (h : Holder) → a ≡ k + i → slice_get l i ≡ Some h → is_free pool name now a ≡ may_follow name now h
  free-place name now a i h same at = rw (← places, past_at-place a k i l same, at) refl

  -- no address past the last place is free
  pub free-past_end : (name now a i : ℕ) → a ≡ k + i → length l ≤ i → is_free pool name now a ≡ false
  free-past_end name now a i same past = rw (← places, past_at-place a k i l same, slice_get_past l i past) refl

  -- an address of which something holds has a place
  pub place_of_past : (q : Past → Bool) (a : ℕ) → option_map_or q (past_at a pool) false ≡ true → (k ≤ a) × (a - k < length l)
  place_of_past q a holds =
      let there = rw (← places) at holds in
      elim (cases_lt a k) [
        | inl below ↦ absurd (false≢true (rw (past_at-below a k l below) at there))
        | inr from ↦ (
          from,
          elim (cases_lt (a - k) (length l)) [
            | inl lt ↦ lt
            | inr past ↦ absurd (false≢true (rw (past_at-place a k (a - k) l (omega arith), slice_get_past l (a - k) past) at there))
          ],
        )
      ]

  -- a place that may be followed has a free address
  pub free-found : (name now i : ℕ) → i < length l → may_follow name now (get_or l i nobody) ≡ true → is_free pool name now (k + i) ≡ true
  free-found name now i lt may = free-place name now (k + i) i (get_or l i nobody) refl (slice_get-get_or l i nobody lt) ∙ may

  -- and then some address is free
  pub has_free-found : (name now i : ℕ) → i < length l → may_follow name now (get_or l i nobody) ≡ true → true ≡ has_free pool name now
  has_free-found name now i lt may = rw (← places) (sym (find-pasts_from name now k l ∙ list_any-at (may_follow name now) l i nobody lt may))

  -- where none may be followed no address is free
  pub has_free-none : (name now : ℕ) → ((i : ℕ) → i < length l → may_follow name now (get_or l i nobody) ≡ false) → false ≡ has_free pool name now
  has_free-none name now none = rw (← places) (sym (find-pasts_from name now k l ∙ list_any-nowhere (may_follow name now) l nobody none))

  -- a change of one address is a write at its place
  pub changed_pool : (F : Past → Past) (a : ℕ) (y d : Holder) → k ≤ a → a - k < length l → past_of a y ≡ F (past_of a (get_or l (a - k) d)) →
      pasts_from k (set l (a - k) y) ≡ map (λ p. if p.address == a then F p else p) pool
  changed_pool F a y d from lt is = rw (← places) (sym (changed-place F a k (a - k) l y d (omega arith) lt is))

  -- the place of an address that a login holds
  pub held_place : (a : ℕ) → is_held pool a ≡ true → (k ≤ a) × (a - k < length l) × (is_some (get_or l (a - k) nobody).name ≡ true) × ((get_or l (a - k) nobody).ended ≡ None)
  held_place a holds =
      let place = place_of_past (λ p. is_some p.name && is_none p.ended) a holds in
      let there = rw (← places) at holds in
      let found = past_at-place a k (a - k) l (omega (arith, place.0)) ∙ ap (option_map (past_of a)) (slice_get-get_or l (a - k) nobody place.1) in
      let both = sym (ap (λ (o : Option Past). option_map_or (λ p. is_some p.name && is_none p.ended) o false) found) ∙ there in
      (place.0, place.1, some_name (get_or l (a - k) nobody).name (get_or l (a - k) nobody).ended both, none_ended (get_or l (a - k) nobody).name (get_or l (a - k) nobody).ended both)
    where
      none_ended : (n e : Option ℕ) → (is_some n && is_none e) ≡ true → e ≡ None
      none_ended n None h = refl
      none_ended None (Some y) h = absurd (false≢true h)
      none_ended (Some x) (Some y) h = absurd (false≢true h)

      some_name : (n e : Option ℕ) → (is_some n && is_none e) ≡ true → is_some n ≡ true
      some_name (Some x) e h = refl
      some_name None e h = absurd (false≢true h)
