-- What a change of a clock does to the last moments of its voices, and to its room.
use Rattle.std.proofs.Common.{◌≡◌, ℕ, ◌+◌, ◌<◌, ◌≤◌, Bool, true, false, List, [], ◌∷◌, length, drop, slice_get, option_map, if◌then◌else◌, ◌⊎◌, inl, inr, Option, Some, None, is_some, refl, sym, ◌∙◌, ap, subst, arith}
use Rattle.std.specs.List.{list_any, insert}
use Rattle.fab_base.proofs.SamenessLemmas as same
use Rattle.keepalive_clock.specs.Voices.{same_voice}
use Rattle.keepalive_clock.specs.Clock.{voice_of, heard_of, last_of, without, VoicesDiffer}
use Rattle.keepalive_clock.specs.declared.voice.Voice.{Voice}
use Rattle.keepalive_clock.specs.declared.voice.LastHeard.{LastHeard}
use Rattle.keepalive_clock.proofs.VoiceLemmas.{voices_same}

abbrev last : Option LastHeard → Option ℕ
last o = option_map (λ x. x.last) o

last-if : (b : Bool) (o p : Option LastHeard) → last (if b then o else p) ≡ (if b then last o else last p)
last-if true o p = refl
last-if false o p = refl

pub is_some-last : (o : Option LastHeard) → is_some (option_map (λ x. x.last) o) ≡ is_some o
is_some-last None = refl
is_some-last (Some x) = refl

-- ---- last moments

-- with one voice more in the place of what was heard of it
pub last_of-insert : (v : Voice) (now : ℕ) (xs ls : List LastHeard) (i : ℕ) → ls ≡ without v xs → (w : Voice) →
    last_of w (insert ls i (record { voice = v; last = now })) ≡ (if same_voice v w then Some now else last_of w xs)
last_of-insert v now xs ls i rest w =
    let y : LastHeard = record { voice = v; last = now } in
    ap last (same.item_of-replaced voice_of same_voice voices_same y xs ls i rest w) ∙ last-if (same_voice v w) (Some y) (heard_of w xs)

-- without one voice
pub last_of-without : (v : Voice) (xs : List LastHeard) (w : Voice) → last_of w (without v xs) ≡ (if same_voice v w then None else last_of w xs)
last_of-without v xs w = ap last (same.item_of-all_but voice_of same_voice voices_same v w xs) ∙ last-if (same_voice v w) None (heard_of w xs)

-- ---- a test on voices and their last moments

-- some item passes where some voice and its last moment do
pub passes_found : (p : Voice → ℕ → Bool) (xs : List LastHeard) → VoicesDiffer xs → list_any (λ x. p x.voice x.last) xs ≡ true →
    (v : Voice) × (h : ℕ) × (last_of v xs ≡ Some h) × (p v h ≡ true)
passes_found p xs differ holds =
    let (x, found, passes) = same.some_found voice_of same_voice voices_same (λ y. p y.voice y.last) xs differ holds in
    (x.voice, x.last, ap last found, passes)

pub found_passes : (p : Voice → ℕ → Bool) (xs : List LastHeard) (v : Voice) (h : ℕ) → last_of v xs ≡ Some h → p v h ≡ true → list_any (λ x. p x.voice x.last) xs ≡ true
found_passes p xs v h found passes = go (heard_of v xs) refl found
  where
    here : LastHeard → Bool
    here x = same_voice x.voice v

    go : (o : Option LastHeard) → heard_of v xs ≡ o → last o ≡ Some h → list_any (λ x. p x.voice x.last) xs ≡ true
    go None is found = absurd (cc)
    go (Some x) is found =
        let voice : x.voice ≡ v = voices_same.equal x.voice v (same.found_passes here x xs is) in
        let moment : x.last ≡ h = cc in
        same.list_any-found here (λ y. p y.voice y.last) x xs is (ap (λ w. p w x.last) voice ∙ ap (p v) moment ∙ passes)

-- ---- room

-- with one voice added to the others, there is one more than before if it wasn't there
pub count_without : (v : Voice) (xs : List LastHeard) → VoicesDiffer xs →
    length (without v xs) + 1 ≡ (if is_some (last_of v xs) then length xs else length xs + 1)
count_without v xs differ =
    same.length-all_but voice_of same_voice voices_same v xs differ ∙ ap (λ b. if b then length xs else length xs + 1) (sym (is_some-last (heard_of v xs)))

-- after a voice is gone that was there, or was to find room, there is room
pub room_without : (v : Voice) (xs : List LastHeard) (room : ℕ) → (is_some (last_of v xs) ≡ true) ⊎ (length xs < room) → length xs ≤ room → length (without v xs) < room
room_without v xs room (inl there) bound =
    omega (arith, same.length-others_found (λ x. same_voice x.voice v) xs (sym (is_some-last (heard_of v xs)) ∙ there))
room_without v xs room (inr less) bound = omega (arith, same.length-others (λ x. same_voice x.voice v) xs)

-- the voices behind the first
pub without_first : (x : LastHeard) (xs : List LastHeard) → VoicesDiffer xs → slice_get xs 0 ≡ Some x → drop 1 xs ≡ without x.voice xs
without_first x [] differ first = cc
without_first x (y ∷ xs) differ first =
    let equal : y ≡ x = cc in
    subst (λ (z : LastHeard). drop 1 (y ∷ xs) ≡ without z.voice (y ∷ xs)) equal (sym (same.all_but-first voice_of same_voice voices_same y xs differ))
