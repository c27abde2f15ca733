-- What a pool keeps stays so when a place is taken, and when its login ends.
use Rattle.std.proofs.Common.{◌≡◌, ℕ, ◌+◌, ◌-◌, ◌*◌, ◌^◌, ◌<◌, ◌≤◌, ◌==◌, ◌&&◌, not, is_some, true, false, List, [], length, get_or, set, replicate, Option, Some, None, refl, sym, ◌∙◌, ap, arith}
use Rattle.std.proofs.lemmas.List.{length-set, length-replicate}
use Rattle.std.proofs.lemmas.Bool.Decides.{nat_tests}
use Rattle.fab_base.specs.Keyed.{item_at, added}
use Rattle.sorted_lists.specs.Row.{has}
use Rattle.sorted_lists.proofs.IndexLemmas.{none_some, some_same, differs}
use Rattle.fc_addresses.specs.Holders.{nobody, is_unused, is_released, owner_by, release_by, owner_of, release_of, owner_number, end_number, owner_place, release_place, left, AreMarked, AreOwners, AreReleases, IsKept}
use Rattle.fc_addresses.specs.declared.pool.Holder.{Holder}
use Rattle.fc_addresses.specs.declared.released.Owner.{Owner}
use Rattle.fc_addresses.specs.declared.released.Release.{Release}
use Rattle.fc_addresses.proofs.PoolLemmas.{marked-new, marked-set}
use Rattle.fc_addresses.proofs.LineLemmas.{line_added, line_gone, line_kept, line_new, absent_line, count-less}

owner_placed : (k : ℕ) (h : Holder) (d : Owner) → owner_of k h ≡ Some d → d.place ≡ k
owner_placed k h d is = go h.name h.ended is
  where
    go : (n e : Option ℕ) → owner_by k n e ≡ Some d → d.place ≡ k
    go None e is = absurd (none_some d is)
    go (Some x) None is = absurd (none_some d is)
    go (Some x) (Some y) is = sym (ap (λ (z : Owner). z.place) (some_same _ d is))

release_placed : (k : ℕ) (h : Holder) (d : Release) → release_of k h ≡ Some d → d.place ≡ k
release_placed k h d is = go h.name h.ended is
  where
    go : (n e : Option ℕ) → release_by k n e ≡ Some d → d.place ≡ k
    go None e is = absurd (none_some d is)
    go (Some x) None is = absurd (none_some d is)
    go (Some x) (Some y) is = sym (ap (λ (z : Release). z.place) (some_same _ d is))

places_apart : (a b p q : ℕ) → p < 2 ^ 32 → q < 2 ^ 32 → a * 2 ^ 32 + p ≡ b * 2 ^ 32 + q → p ≡ q
places_apart a b p q low also e = omega (arith, low, also, e)

owner_apart : (d e : Owner) → d.place < 2 ^ 32 → e.place < 2 ^ 32 → owner_number d ≡ owner_number e → d.place ≡ e.place
owner_apart d e low also same = places_apart d.name e.name d.place e.place low also same

release_apart : (d e : Release) → d.place < 2 ^ 32 → e.place < 2 ^ 32 → end_number d ≡ end_number e → d.place ≡ e.place
release_apart d e low also same = places_apart d.end e.end d.place e.place low also same

-- a pool that is new
pub kept_new : (first n : ℕ) (row : List ℕ) (m k : ℕ) → ((i : ℕ) → i < n → first + i < 0xFF0000) → ((q : ℕ) → q < n → has row q ≡ true) → n ≤ 64 * length row → n ≤ m → n ≤ k
    → IsKept first (replicate n nobody) row [] [] m k
kept_new first n row m k range full wide room also =
    let long = length-replicate {A = Holder} n nobody in
    record {
      range = λ i lt. range i (omega (arith, lt, long));
      marked = marked-new row n full;
      wide = omega (arith, wide, long);
      are_owners = line_new owner_number owner_place owner_of (λ j. refl) n;
      are_releases = line_new end_number release_place release_of (λ j. refl) n;
      owner_room = omega (arith, room, long);
      line_room = omega (arith, also, long);
    }

module _ {first : ℕ} {l : List Holder} {row : List ℕ} {owners : List Owner} {line : List Release} {m n : ℕ} (kept : IsKept first l row owners line m n) (k : ℕ) (lt : k < length l) where
  abbrev old : Holder
  old = get_or l k nobody

  range : length l < 2 ^ 32
  range = omega (arith, kept.range (length l - 1) (omega (arith, lt)), lt)

  kept_set : (h : Holder) (new : List ℕ) (os : List Owner) (rs : List Release) → AreMarked new (set l k h) → length new ≡ length row → AreOwners (set l k h) os → AreReleases (set l k h) rs → IsKept first (set l k h) new os rs m n
  kept_set h new os rs marked words is_owners is_releases = record {
    range = λ i within. kept.range i (omega (arith, within, length-set l k h));
    marked = marked;
    wide = omega (arith, kept.wide, words, length-set l k h);
    are_owners = is_owners;
    are_releases = is_releases;
    owner_room = omega (arith, kept.owner_room, length-set l k h);
    line_room = omega (arith, kept.line_room, length-set l k h);
  }

  -- a row that has no bit of the place serves a place that somebody had
  marked_same : (h : Holder) → is_unused old ≡ is_unused h → AreMarked row (set l k h)
  marked_same h same = marked-set row row l k h kept.marked lt (λ q other. refl) (kept.marked k nobody lt ∙ same)

  -- a place is taken: its bit is cleared, and its entries are gone
  pub kept_taken : (x : ℕ) (new : List ℕ) → ((q : ℕ) → has new q ≡ (not (k == q) && has row q)) → length new ≡ length row →
      IsKept first (set l k (record { name = Some x; ended = None })) new (left owner_number (owner_of k old) owners) (left end_number (release_of k old) line) m n
  kept_taken x new bits words = go old.name old.ended refl refl
    where
      same : (a : ℕ) → (a == a) ≡ true
      same a = grind (arith, nat_tests)

      marked : AreMarked new (set l k (record { name = Some x; ended = None }))
      marked = marked-set row new l k (record { name = Some x; ended = None }) kept.marked lt (λ q other. bits q ∙ ap (λ b. not b && has row q) (differs k q (λ e. other (sym e)))) (bits k ∙ ap (λ b. not b && has row k) (same k))

      stays : is_released old ≡ false → owner_of k old ≡ None → release_of k old ≡ None → IsKept first (set l k (record { name = Some x; ended = None })) new owners line m n
      stays was no_owner no_release = kept_set (record { name = Some x; ended = None }) new _ _ marked words
          (line_kept owner_number owner_place owner_of owner_placed owner_apart l owners kept.are_owners range k lt (record { name = Some x; ended = None }) no_owner refl was refl)
          (line_kept end_number release_place release_of release_placed release_apart l line kept.are_releases range k lt (record { name = Some x; ended = None }) no_release refl was refl)

      go : (a e : Option ℕ) → old.name ≡ a → old.ended ≡ e → IsKept first (set l k (record { name = Some x; ended = None })) new (left owner_number (owner_by k a e) owners) (left end_number (release_by k a e) line) m n
      go None e is ends = stays (ap (λ (b : Option ℕ). is_some b && is_some old.ended) is) (ap (λ (b : Option ℕ). owner_by k b old.ended) is) (ap (λ (b : Option ℕ). release_by k b old.ended) is)
      go (Some a) None is ends =
          stays (ap (λ (b : Option ℕ). is_some b && is_some old.ended) is ∙ ap (λ (b : Option ℕ). is_some b) ends)
          (ap (λ (b : Option ℕ). owner_by k b old.ended) is ∙ ap (owner_by k (Some a)) ends) (ap (λ (b : Option ℕ). release_by k b old.ended) is ∙ ap (release_by k (Some a)) ends)
      go (Some a) (Some e) is ends =
          let was : is_released old ≡ true = ap (λ (b : Option ℕ). is_some b && is_some old.ended) is ∙ ap (λ (b : Option ℕ). is_some b) ends in
          kept_set (record { name = Some x; ended = None }) new _ _ marked words
          (line_gone owner_number owner_place owner_of owner_placed owner_apart l owners kept.are_owners range k lt (record { name = Some x; ended = None }) (record { name = a; place = k }) (ap (λ (b : Option ℕ). owner_by k b old.ended) is ∙ ap (owner_by k (Some a)) ends) refl was refl)
          (line_gone end_number release_place release_of release_placed release_apart l line kept.are_releases range k lt (record { name = Some x; ended = None }) (record { end = e; place = k }) (ap (λ (b : Option ℕ). release_by k b old.ended) is ∙ ap (release_by k (Some a)) ends) refl was refl)

  -- the login of a place ends
  module _ (a now : ℕ) (was : old ≡ record { name = Some a; ended = None }) where
    pub new_owner : item_at owner_number (a * 2 ^ 32 + k) owners ≡ None
    new_owner = absent_line owner_number owner_place owner_of owner_placed owner_apart l owners kept.are_owners range k lt (record { name = Some a; ended = Some now }) (record { name = a; place = k }) (ap (owner_of k) was) refl

    pub new_release : item_at end_number (now * 2 ^ 32 + k) line ≡ None
    new_release = absent_line end_number release_place release_of release_placed release_apart l line kept.are_releases range k lt (record { name = Some a; ended = Some now }) (record { end = now; place = k }) (ap (release_of k) was) refl

    pub owner_room : length owners < m
    owner_room = omega (arith, kept.are_owners.count, kept.owner_room, count-less l k nobody lt (ap is_released was))

    pub line_room : length line < n
    line_room = omega (arith, kept.are_releases.count, kept.line_room, count-less l k nobody lt (ap is_released was))

    pub kept_ended : IsKept first (set l k (record { name = Some a; ended = Some now })) row (added owner_number (record { name = a; place = k }) owners) (added end_number (record { end = now; place = k }) line) m n
    kept_ended = kept_set (record { name = Some a; ended = Some now }) row _ _
        (marked_same (record { name = Some a; ended = Some now }) (ap is_unused was))
        refl
        (line_added owner_number owner_place owner_of owner_placed owner_apart l owners kept.are_owners range k lt (record { name = Some a; ended = Some now }) (record { name = a; place = k }) (ap (owner_of k) was) refl (ap is_released was) refl)
        (line_added end_number release_place release_of release_placed release_apart l line kept.are_releases range k lt (record { name = Some a; ended = Some now }) (record { end = now; place = k }) (ap (release_of k) was) refl (ap is_released was) refl)

-- a place whose login hasn't ended, of which the name is known
pub held_is : (h read : Holder) (a : ℕ) → read ≡ h → read.name ≡ Some a → h.ended ≡ None → h ≡ record { name = Some a; ended = None }
held_is h read a same named ends =
    ap (λ (n : Option ℕ). record { name = n; ended = h.ended }) (ap (λ (z : Holder). z.name) (sym same) ∙ named) ∙ ap (λ (e : Option ℕ). record { name = Some a; ended = e }) ends
