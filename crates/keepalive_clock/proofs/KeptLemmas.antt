-- What holds of what a clock keeps: it is sound, it is searched by number, and it stays so when a voice goes, comes, or is heard
-- again.
use Rattle.std.proofs.Common.{◌≡◌, ℕ, ◌+◌, ◌*◌, ◌^◌, ◌<◌, ◌==◌, ◌⊎◌, inl, inr, not, Bool, true, false, List, [], ◌∷◌, length, Option, Some, None, is_some, IsTrue, IsPermutation, if◌then◌else◌, nat_lt, option_map, refl, sym, ◌∙◌, ap, subst, arith}
use Rattle.std.specs.Prelude.{Vec, vec_capacity}
use Rattle.std.specs.declared.alloc.Global.{Global}
use Rattle.std.specs.List.{All, insert, position_or_len}
use Rattle.std.proofs.lemmas.List.Sorted.{IsPermutation-insert}
use Rattle.std.proofs.lemmas.List.Elements.{All-head, All-tail, All-filter}
use Rattle.slab.specs.Slab.{Slab, get, slab_len, Updates}
use Rattle.fab_base.specs.Keyed as keyed
use Rattle.fab_base.proofs.KeyedLemmas as lemmas
use Rattle.fab_base.proofs.SamenessLemmas as same
use Rattle.sorted_lists.specs.Index.{IsIndex}
use Rattle.sorted_lists.specs.Orders.{seen, IsOrder, IsOrderBut}
use Rattle.sorted_lists.proofs.IndexLemmas.{IsIndex-without, absent_entry, IsFresh, All-found, find-alike, filter-alike, key_found, none_some, some_same, equal, unequal, differs}
use Rattle.sorted_lists.proofs.OrderLemmas.{itself, absent-vacant, seen-updates, length-seen, item-here, IsOrderBut-filled, IsOrder-vacated, seen-changed, IsOrder-changed, IsIndex-orders}
use Rattle.keepalive_clock.specs.Voices.{same_voice}
use Rattle.keepalive_clock.specs.Clock.{voice_of, heard_of, last_of, count_with, without, HearsVoice, VoicesDiffer, IsSound}
use Rattle.keepalive_clock.specs.Order.{number_of, IsWhole, FitsVoice, voice_number, deadline_number, heard_again, IsClockKept}
use Rattle.keepalive_clock.specs.declared.voice.Voice.{Voice}
use Rattle.keepalive_clock.specs.declared.voice.LastHeard.{LastHeard}
use Rattle.keepalive_clock.proofs.VoiceLemmas.{voices_same, number-range, same_number}
use Rattle.keepalive_clock.proofs.HeardLemmas.{last_of-insert, count_without, is_some-last}

-- ---- by number

-- a voice is found by its number
pub found_number : (v : Voice) (xs : List LastHeard) → IsWhole v → All FitsVoice xs → heard_of v xs ≡ keyed.item_at voice_number (number_of v) xs
found_number v xs whole fit = find-alike FitsVoice _ _ xs fit (λ x fits. same_number x.voice v fits.0 whole)

-- and taken out by it
pub without_number : (v : Voice) (xs : List LastHeard) → IsWhole v → All FitsVoice xs → without v xs ≡ keyed.without voice_number (number_of v) xs
without_number v xs whole fit = filter-alike FitsVoice _ _ xs fit (λ x fits. ap not (same_number x.voice v fits.0 whole))

-- no voice comes twice
differ_numbers : (k : ℕ) (xs : List LastHeard) → keyed.AscendFrom voice_number k xs → All FitsVoice xs → VoicesDiffer xs
differ_numbers k [] ascend fit = tt
differ_numbers k (x ∷ xs) ascend fit = (
  found_number x.voice xs (All-head FitsVoice x xs fit).0 (All-tail FitsVoice x xs fit) ∙ lemmas.item_at-below voice_number (voice_number x) (voice_number x + 1) xs ascend.1 (omega arith),
  differ_numbers (voice_number x + 1) xs ascend.1 (All-tail FitsVoice x xs fit),
)

-- ---- a voice is heard

module _ (y : LastHeard) (fits : FitsVoice y) (xs : List LastHeard) (ascend : keyed.AscendFrom voice_number 0 xs) (fit : All FitsVoice xs) where
  abbrev rest : List LastHeard
  rest = without y.voice xs

  rest_ascends : keyed.AscendFrom voice_number 0 rest
  rest_ascends = lemmas.AscendFrom-filter voice_number _ 0 xs ascend

  absent_rest : keyed.item_at voice_number (voice_number y) rest ≡ None
  absent_rest =
      sym (found_number y.voice rest fits.0 (All-filter _ FitsVoice xs fit))
      ∙ same.item_of-all_but voice_of same_voice voices_same y.voice y.voice xs
      ∙ ap (λ b. if b then None else heard_of y.voice xs) (voices_same.self y.voice)

  abbrev place : ℕ
  place = position_or_len (λ x. nat_lt (voice_number y) (voice_number x)) rest

  inserted : insert rest place y ≡ keyed.added voice_number y rest
  inserted = lemmas.insert-added voice_number y 0 rest rest_ascends absent_rest

  pub voices_heard : IsPermutation (y ∷ rest) (keyed.added voice_number y rest)
  voices_heard = subst (λ l. IsPermutation (y ∷ rest) l) inserted (IsPermutation-insert rest place y)

  pub last_heard : HearsVoice y.voice y.last xs (keyed.added voice_number y rest)
  last_heard w = ap (last_of w) (sym inserted) ∙ last_of-insert y.voice y.last xs rest place refl w

  pub count_heard : length (keyed.added voice_number y rest) ≡ count_with y.voice xs
  count_heard = lemmas.length-added voice_number y 0 rest rest_ascends absent_rest ∙ count_without y.voice xs (differ_numbers 0 xs ascend fit)

  -- a voice that wasn't there is added to all of them
  pub added_absent : keyed.item_at voice_number (voice_number y) xs ≡ None → keyed.added voice_number y xs ≡ keyed.added voice_number y rest
  added_absent absent = ap (keyed.added voice_number y) (sym (without_number y.voice xs fits.0 fit ∙ lemmas.without-absent voice_number (voice_number y) xs absent))

  -- and there was to be room for it
  pub room_absent : (most : ℕ) → keyed.item_at voice_number (voice_number y) xs ≡ None → (IsTrue (is_some (last_of y.voice xs))) ⊎ (length xs < most) → length xs < most
  room_absent most absent (inl there) =
      let found = is_some-last (heard_of y.voice xs) ∙ ap is_some (found_number y.voice xs fits.0 fit ∙ absent) in
      absurd (cc)
  room_absent most absent (inr less) = less

  -- one that was there has its new moment
  pub changed_there : (x : LastHeard) → keyed.item_at voice_number (voice_number x) xs ≡ Some x → y.voice ≡ x.voice → keyed.changed voice_number (voice_number x) (heard_again y.last) xs ≡ keyed.added voice_number y rest
  changed_there x there alike =
      lemmas.equal_by_items voice_number 0 _ _ (lemmas.AscendFrom-changed voice_number change (λ z. refl) (voice_number x) 0 xs ascend) (lemmas.AscendFrom-added voice_number y 0 rest rest_ascends (omega arith))
      (λ a. lemmas.item_at-changed voice_number change (λ z. refl) (voice_number x) a xs ∙ go a (voice_number x == a) refl ∙ sym (now a))
    where
      change : LastHeard → LastHeard
      change z = heard_again y.last z

      number : voice_number x ≡ voice_number y
      number = ap number_of (sym alike)

      now : (a : ℕ) → keyed.item_at voice_number a (keyed.added voice_number y rest) ≡ (if voice_number x == a then Some y else keyed.item_at voice_number a xs)
      now a =
          ap (λ l. keyed.item_at voice_number a (keyed.added voice_number y l)) (without_number y.voice xs fits.0 fit)
          ∙ ap (keyed.item_at voice_number a) (lemmas.added-without voice_number y xs)
          ∙ lemmas.item_at-added voice_number y xs a
          ∙ ap (λ (n : ℕ). if n == a then Some y else keyed.item_at voice_number a xs) (sym number)

      this : change x ≡ y
      this = ap (λ (v : Voice). record { voice = v; last = y.last }) (sym alike)

      go : (a : ℕ) (b : Bool) → (voice_number x == a) ≡ b → option_map (keyed.changed_if voice_number (voice_number x) change) (keyed.item_at voice_number a xs) ≡ (if b then Some y else keyed.item_at voice_number a xs)
      go a true e =
          ap (λ (n : ℕ). option_map (keyed.changed_if voice_number (voice_number x) change) (keyed.item_at voice_number n xs)) (sym (equal (voice_number x) a e))
          ∙ ap (option_map (keyed.changed_if voice_number (voice_number x) change)) there
          ∙ ap (λ b. Some (if b then change x else x)) (itself (voice_number x))
          ∙ ap (λ z. Some z) this
      go a false e = stays (keyed.item_at voice_number a xs) refl
        where
          stays : (o : Option LastHeard) → keyed.item_at voice_number a xs ≡ o → option_map (keyed.changed_if voice_number (voice_number x) change) o ≡ o
          stays None is = refl
          stays (Some z) is =
              let at = key_found voice_number a z xs is in
              ap (λ b. Some (if b then change z else z)) (ap (λ (n : ℕ). n == voice_number x) at ∙ differs a (voice_number x) (λ f. unequal (voice_number x) a e (sym f)))

-- ---- deadlines

-- deadlines of two voices have two numbers
absent_due : (node port : ℕ) (y : LastHeard) (xs ds : List LastHeard) → FitsVoice y → All FitsVoice xs → IsIndex voice_number (deadline_number node port) (λ x. x) xs ds → keyed.item_at voice_number (voice_number y) xs ≡ None
    → keyed.item_at (deadline_number node port) (deadline_number node port y) ds ≡ None
absent_due node port y xs ds fits fit index absent = absent_entry voice_number (deadline_number node port) (λ x. x) y xs ds index fresh
  where
    apart : (a b p q : ℕ) → p < 2 ^ 56 → q < 2 ^ 56 → a * 2 ^ 56 + p ≡ b * 2 ^ 56 + q → p ≡ q
    apart a b p q low also e = omega (arith, low, also, e)

    fresh : IsFresh voice_number (deadline_number node port) (λ x. x) y xs
    fresh k x found e =
        let at : voice_number x ≡ k = key_found voice_number k x xs found in
        let low = number-range x.voice (All-found FitsVoice _ xs x fit found).0 in
        let also = number-range y.voice fits.0 in
        let same : k ≡ voice_number y = sym at ∙ apart _ _ (number_of x.voice) (number_of y.voice) low also e in
        none_some x (sym absent ∙ ap (λ i. keyed.item_at voice_number i xs) (sym same) ∙ found)

module _ {node port most : ℕ} {s : Slab LastHeard} {vs ds : Vec ℕ Global} (kept : IsClockKept node port most s vs ds) where
  abbrev due : LastHeard → ℕ
  due x = deadline_number node port x

  pub length_kept : length (seen s vs.items) ≡ length vs.items
  length_kept = length-seen s vs.items kept.voices.sorted.there

  pub sound_kept : IsSound (record { node_period = node; port_period = port; room = most; voices = seen s vs.items })
  sound_kept = record {
    differ = differ_numbers 0 (seen s vs.items) kept.voices.sorted.ascending kept.fit;
    bound = omega (arith, kept.bound, length_kept);
  }

  pub index_kept : IsIndex voice_number (deadline_number node port) (λ x. x) (seen s vs.items) (seen s ds.items)
  index_kept = IsIndex-orders voice_number (deadline_number node port) s vs.items ds.items kept.voices kept.deadlines

  -- the record at a place is found by its voice
  pub found_here : (p : ℕ) (x : LastHeard) → get s p ≡ Some x → keyed.item_at voice_number (voice_number x) (seen s vs.items) ≡ Some x
  found_here p x here = item-here voice_number s p vs.items x kept.voices here

  pub fits_here : (p : ℕ) (x : LastHeard) → get s p ≡ Some x → FitsVoice x
  fits_here p x here = All-found FitsVoice _ (seen s vs.items) x kept.fit (found_here p x here)

  -- ---- a voice goes

  module _ (p : ℕ) (x : LastHeard) (new : Slab LastHeard) (others later : Vec ℕ Global) (voices : IsOrderBut voice_number p s others.items) (dues : IsOrderBut (deadline_number node port) p s later.items)
      (gone : seen s others.items ≡ keyed.without voice_number (voice_number x) (seen s vs.items)) (updates : Updates s new p None) where
    pub seen_without : seen new others.items ≡ keyed.without voice_number (voice_number x) (seen s vs.items)
    seen_without = seen-updates s new p None others.items updates voices.absent ∙ gone

    pub kept_without : slab_len new + 1 ≡ slab_len s → new.capacity ≡ s.capacity → vec_capacity others ≡ vec_capacity vs → vec_capacity later ≡ vec_capacity ds → IsClockKept node port most new others later
    kept_without fewer capacity voice_room due_room = record {
      voices = IsOrder-vacated voice_number s new p others.items voices updates fewer;
      deadlines = IsOrder-vacated (deadline_number node port) s new p later.items dues updates fewer;
      fit = subst (All FitsVoice) (sym seen_without) (All-filter _ FitsVoice (seen s vs.items) kept.fit);
      bound = omega (arith, kept.bound, voices.count, kept.voices.count);
      room = omega (arith, kept.room, capacity);
      voice_room = omega (arith, kept.voice_room);
      due_room = omega (arith, kept.due_room);
      node_range = kept.node_range;
      port_range = kept.port_range;
    }

  -- ---- a voice comes

  module _ (p : ℕ) (y : LastHeard) (new : Slab LastHeard) (fits : FitsVoice y) (absent : keyed.item_at voice_number (voice_number y) (seen s vs.items) ≡ None) (vacant : get s p ≡ None) (updates : Updates s new p (Some y))
      (more : slab_len new ≡ slab_len s + 1) where
    pub voice_filled : IsOrderBut voice_number p new vs.items
    voice_filled = IsOrderBut-filled voice_number s new p y vs.items kept.voices vacant updates more

    pub due_filled : IsOrderBut (deadline_number node port) p new ds.items
    due_filled = IsOrderBut-filled (deadline_number node port) s new p y ds.items kept.deadlines vacant updates more

    pub voices_still : seen new vs.items ≡ seen s vs.items
    voices_still = seen-updates s new p (Some y) vs.items updates (absent-vacant s p vs.items vacant kept.voices.sorted.there)

    dues_still : seen new ds.items ≡ seen s ds.items
    dues_still = seen-updates s new p (Some y) ds.items updates (absent-vacant s p ds.items vacant kept.deadlines.sorted.there)

    pub new_voice : (z : LastHeard) → get new p ≡ Some z → keyed.item_at voice_number (voice_number z) (seen new vs.items) ≡ None
    new_voice z here =
        let e = some_same y z (sym updates.changed ∙ here) in
        ap (λ (w : LastHeard). keyed.item_at voice_number (voice_number w) (seen new vs.items)) (sym e) ∙ ap (keyed.item_at voice_number (voice_number y)) voices_still ∙ absent

    pub new_due : (z : LastHeard) → get new p ≡ Some z → keyed.item_at (deadline_number node port) (deadline_number node port z) (seen new ds.items) ≡ None
    new_due z here =
        let e = some_same y z (sym updates.changed ∙ here) in
        ap (λ (w : LastHeard). keyed.item_at (deadline_number node port) (deadline_number node port w) (seen new ds.items)) (sym e)
        ∙ ap (keyed.item_at (deadline_number node port) (deadline_number node port y)) dues_still
        ∙ absent_due node port y (seen s vs.items) (seen s ds.items) fits kept.fit index_kept absent

    module _ (others later : Vec ℕ Global) (voices : IsOrder voice_number new others.items) (dues : IsOrder (deadline_number node port) new later.items) (put : seen new others.items ≡ keyed.added voice_number y (seen new vs.items)) where
      put_there : seen new others.items ≡ keyed.added voice_number y (seen s vs.items)
      put_there = put ∙ ap (keyed.added voice_number y) voices_still

      pub seen_added : seen new others.items ≡ keyed.added voice_number y (without y.voice (seen s vs.items))
      seen_added = put_there ∙ added_absent y fits (seen s vs.items) kept.voices.sorted.ascending kept.fit absent

      pub kept_added : length vs.items < most → new.capacity ≡ s.capacity → vec_capacity others ≡ vec_capacity vs → vec_capacity later ≡ vec_capacity ds → IsClockKept node port most new others later
      kept_added less capacity voice_room due_room = record {
        voices = voices;
        deadlines = dues;
        fit = subst (All FitsVoice) (sym put_there) (lemmas.All-added voice_number FitsVoice y (seen s vs.items) kept.fit fits);
        bound = omega (arith, less, voices.count, kept.voices.count, more);
        room = omega (arith, kept.room, capacity);
        voice_room = omega (arith, kept.voice_room);
        due_room = omega (arith, kept.due_room);
        node_range = kept.node_range;
        port_range = kept.port_range;
      }

  -- and there was room for it
  pub room_kept : (y : LastHeard) → FitsVoice y → keyed.item_at voice_number (voice_number y) (seen s vs.items) ≡ None → (IsTrue (is_some (last_of y.voice (seen s vs.items)))) ⊎ (length (seen s vs.items) < most) → length vs.items < most
  room_kept y fits absent room = omega (arith, length_kept, room_absent y fits (seen s vs.items) kept.voices.sorted.ascending kept.fit most absent room)

  -- ---- a voice is heard again

  module _ (p now : ℕ) (x : LastHeard) (range : now < 2 ^ 63) (here : get s p ≡ Some x) where
    fits_again : FitsVoice (heard_again now x)
    fits_again = ((fits_here p x here).0, range)

    -- no other voice has its deadline
    pub apart_again : keyed.item_at (deadline_number node port) (deadline_number node port (heard_again now x)) (keyed.without (deadline_number node port) (deadline_number node port x) (seen s ds.items)) ≡ None
    apart_again =
        absent_due node port (heard_again now x) _ _ fits_again (All-filter _ FitsVoice (seen s vs.items) kept.fit)
        (IsIndex-without voice_number (deadline_number node port) (λ w. w) (voice_number x) x (seen s vs.items) (seen s ds.items) kept.voices.sorted.ascending index_kept (found_here p x here))
        (lemmas.item_at-without voice_number (voice_number x) (voice_number x) (seen s vs.items) ∙ ap (λ b. if b then None else keyed.item_at voice_number (voice_number x) (seen s vs.items)) (itself (voice_number x)))

    module _ (new : Slab LastHeard) (updates : Updates s new p (Some (heard_again now x))) where
      pub seen_again : (v : Voice) → x.voice ≡ v → seen new vs.items ≡ keyed.added voice_number (record { voice = v; last = now }) (without v (seen s vs.items))
      seen_again v alike = subst (λ (w : Voice). seen new vs.items ≡ keyed.added voice_number (record { voice = w; last = now }) (without w (seen s vs.items))) alike
          (seen-changed voice_number s new p x vs.items (heard_again now) (λ w. refl) kept.voices here updates
          ∙ changed_there (heard_again now x) fits_again (seen s vs.items) kept.voices.sorted.ascending kept.fit x (found_here p x here) refl)

      pub kept_again : (later : Vec ℕ Global) → IsOrder (deadline_number node port) new later.items → slab_len new ≡ slab_len s → new.capacity ≡ s.capacity → vec_capacity later ≡ vec_capacity ds → IsClockKept node port most new vs later
      kept_again later order same_len capacity due_room = record {
        voices = IsOrder-changed voice_number s new p x vs.items (heard_again now) (λ w. refl) kept.voices here updates same_len;
        deadlines = order;
        fit = subst (All FitsVoice) (sym (seen_again x.voice refl)) (lemmas.All-added voice_number FitsVoice (heard_again now x) _ (All-filter _ FitsVoice (seen s vs.items) kept.fit) fits_again);
        bound = kept.bound;
        room = omega (arith, kept.room, capacity);
        voice_room = kept.voice_room;
        due_room = omega (arith, kept.due_room);
        node_range = kept.node_range;
        port_range = kept.port_range;
      }
