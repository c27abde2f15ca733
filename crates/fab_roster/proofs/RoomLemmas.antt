-- Room for one more login: there are at most two voices for each login, and one entry.
use Rattle.std.proofs.Common.{◌≡◌, ℕ, suc, ◌+◌, ◌*◌, ◌<◌, ◌≤◌, ◌==◌, Bool, true, false, cond, List, [], ◌∷◌, length, find, Some, None, is_some, IsSome, option_map, refl, sym, ap, subst, ◌∙◌, arith, if◌then◌else◌}
use Rattle.std.specs.List.{list_any}
use Rattle.std.proofs.lemmas.Bool.Decides.{nat_tests}
use Rattle.std.proofs.lemmas.List.{length-map}
use Rattle.fab_base.proofs.KeyedLemmas as keyed
use Rattle.fab_base.proofs.SamenessLemmas as sameness
use Rattle.keepalive_clock.specs.Clock.{VoiceClock, KeepsLimits, last_of, heard_of, voice_of, without, count_with, VoicesDiffer}
use Rattle.keepalive_clock.specs.Voices.{same_voice}
use Rattle.keepalive_clock.specs.declared.voice.LastHeard.{LastHeard}
use Rattle.keepalive_clock.specs.declared.voice.Voice.{Voice}
use Rattle.keepalive_clock.specs.declared.voice.Voice.TheVariants.{Node, Port}
use Rattle.login_table.specs.Logins.{login_at, address_of}
use Rattle.login_table.specs.Logins as logins
use Rattle.login_table.specs.declared.login.Login.{Login}
use Rattle.name_server.specs.Registry.{Entry, entry_at}
use Rattle.name_server.specs.Registry as registry
use Rattle.keepalive_clock.proofs.HeardLemmas.{count_without, last_of-without}
use Rattle.keepalive_clock.proofs.VoiceLemmas.{voices_same}
use Rattle.fab_roster.specs.Agreement.{Agree, SpeaksFor}
use Rattle.fab_roster.specs.Roll.{Roll, live_of, roll_of}
use Rattle.fab_roster.specs.declared.roster.Roster.TheInside.{Inside}
use Rattle.fab_roster.proofs.Found.{same, true_false}

-- nothing is found where nothing passes
pub find-no_any : {X : Type 0} (p : X → Bool) (xs : List X) → list_any p xs ≡ false → find p xs ≡ None
find-no_any p [] e = refl
find-no_any p (x ∷ xs) e = grind (arith, nat_tests, λ (later : list_any p xs ≡ false). find-no_any p xs later)

-- ---- voices without one

-- as many, or one more
at_most_one : (b : Bool) (n m : ℕ) → m ≡ (if b then n else n + 1) → (n ≤ m) × (m ≤ n + 1)
at_most_one true n m e = (omega (arith, e), omega (arith, e))
at_most_one false n m e = (omega (arith, e), omega (arith, e))

loses_one : (v : Voice) (xs : List LastHeard) → VoicesDiffer xs → length xs ≤ length (without v xs) + 1
loses_one v xs differ = (at_most_one (is_some (last_of v xs)) (length xs) (length (without v xs) + 1) (count_without v xs differ)).0

differ_without : (v : Voice) (xs : List LastHeard) → VoicesDiffer xs → VoicesDiffer (without v xs)
differ_without v xs differ = sameness.KeysDiffer-filter voice_of same_voice voices_same _ xs differ

-- a voice that is left was there and is another
left : (v w : Voice) (xs : List LastHeard) → IsSome (last_of w (without v xs)) → (same_voice v w ≡ false) × IsSome (last_of w xs)
left v w xs h = (grind (arith, nat_tests, last_of-without v xs w, h), grind (arith, nat_tests, last_of-without v xs w, h))

-- ---- at most two voices for each login

-- each voice speaks for one of these
abbrev pub SpeakFor : List LastHeard → List Login → Type 0
SpeakFor vs ls = (v : Voice) → IsSome (last_of v vs) → (l : Login) × (login_at l.address ls ≡ Some l) × SpeaksFor v l

pub at_most_two : (ls : List Login) (vs : List LastHeard) → VoicesDiffer vs → SpeakFor vs ls → length vs ≤ 2 * length ls
at_most_two [] [] differ speak = omega arith
at_most_two [] (x ∷ vs) differ speak =
    let f = speak x.voice (ap (λ b. is_some (option_map (λ (y : LastHeard). y.last) (cond b (Some x) (heard_of x.voice vs)))) (voices_same.self x.voice)) in
    let none : None ≡ Some f.0 = f.1 in cc
at_most_two (l ∷ ls) vs differ speak =
    counts (length vs) (length (without (Node l.enode) vs)) (length (without (Port l.address) (without (Node l.enode) vs))) (length ls)
    (loses_one (Node l.enode) vs differ)
    (loses_one (Port l.address) (without (Node l.enode) vs) (differ_without (Node l.enode) vs differ))
    (at_most_two ls (without (Port l.address) (without (Node l.enode) vs)) (differ_without (Port l.address) (without (Node l.enode) vs) (differ_without (Node l.enode) vs differ)) speak_less)
  where
    counts : (a b c n : ℕ) → a ≤ b + 1 → b ≤ c + 1 → c ≤ 2 * n → a ≤ 2 * suc n
    counts a b c n h g f = omega (arith, h, g, f)

    -- it doesn't speak for the first
    not_first : (v : Voice) → same_voice (Node l.enode) v ≡ false → same_voice (Port l.address) v ≡ false → SpeaksFor v l → ⊥
    not_first (Node x) n p s = true_false (sym s ∙ n)
    not_first (Port a) n p s = true_false (sym (ap (λ y. l.address == y) (sym s) ∙ same l.address) ∙ p)

    in_rest : (v : Voice) → (SpeaksFor v l → ⊥) → (m : Login) × (login_at m.address (l ∷ ls) ≡ Some m) × SpeaksFor v m → (m : Login) × (login_at m.address ls ≡ Some m) × SpeaksFor v m
    in_rest v denied f = go (l.address == f.0.address) f.1
      where
        go : (b : Bool) → cond b (Some l) (login_at f.0.address ls) ≡ Some f.0 → (m : Login) × (login_at m.address ls ≡ Some m) × SpeaksFor v m
        go true e = let is : l ≡ f.0 = cc in absurd (denied (subst (λ m. SpeaksFor v m) (sym is) f.2))
        go false e = (f.0, e, f.2)

    speak_less : SpeakFor (without (Port l.address) (without (Node l.enode) vs)) ls
    speak_less v h =
        let p = left (Port l.address) v (without (Node l.enode) vs) h in
        let n = left (Node l.enode) v vs p.1 in
        in_rest v (not_first v n.0 p.0) (speak v n.1)

-- ---- at most one entry for each login

pub entries_within : (es : List Entry) (ls : List Login) → registry.AscendFrom 0 es → logins.AscendFrom 0 ls → ((a : ℕ) → IsSome (entry_at a es) → IsSome (login_at a ls)) → length es ≤ length ls
entries_within es ls above below within = keyed.length-within registry.address_of address_of 0 0 es ls above below within

-- ---- the rooms of the tables, while there are fewer logins than the limit

module _ {t : Inside} {R : Roll} (agree : Agree t) (view : roll_of t ≡ R) (few : length R.tables.ports < R.limit) where
  fewer : length t.logins.logins < t.limit
  fewer = omega (arith, length-map t.logins.logins (live_of t), subst (λ (r : Roll). length r.tables.ports < r.limit) (sym view) few)

  voices_few : length t.voices.voices ≤ 2 * length t.logins.logins
  voices_few = at_most_two t.logins.logins t.voices.voices agree.voices.sound.differ agree.voices.speak

  pub voice_room : length t.voices.voices < t.voices.room
  voice_room = omega (arith, fewer, voices_few, agree.voices.room)

  pub voice_room_again : (v : Voice) (k : VoiceClock) → KeepsLimits t.voices k → length k.voices ≡ count_with v t.voices.voices → length k.voices < k.room
  voice_room_again v k keeps counts = omega (arith, fewer, voices_few, agree.voices.room, keeps.room, (at_most_one (is_some (last_of v t.voices.voices)) (length t.voices.voices) (length k.voices) counts).1)

  pub entry_room : length t.registry.entries < t.registry.room
  entry_room = omega (arith, fewer, entries_within t.registry.entries t.logins.logins agree.entries.sound.ascending agree.logins.sound.ascending agree.entries.only, agree.entries.room)
