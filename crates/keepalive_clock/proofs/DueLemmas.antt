-- When voices fall silent, in the order of their deadlines.
use Rattle.std.proofs.Common.{◌↔◌, IsTrue, ◌≡◌, ℕ, ◌+◌, ◌-◌, ◌*◌, ◌/◌, ◌^◌, ◌<◌, ◌≤◌, ◌==◌, Bool, true, false, List, [], ◌∷◌, length, get_or, slice_get, Some, None, is_some, IsSome, refl, sym, ◌∙◌, ap, subst, arith}
use mathlib.Core.Bool.{false≢true}
use Rattle.std.specs.Prelude.{Vec}
use Rattle.std.specs.declared.alloc.Global.{Global}
use Rattle.std.specs.Option.{option_map_or}
use Rattle.std.proofs.lemmas.Option.{slice_get-get_or}
use Rattle.std.proofs.lemmas.Bool.Decides.{nat_tests}
use Rattle.slab.specs.Slab.{Slab, get}
use Rattle.fab_base.specs.Keyed.{item_at}
use Rattle.fab_base.proofs.SamenessLemmas.{some_found, list_any-found, sameness_of_numbers}
use Rattle.sorted_lists.specs.Orders.{seen, AreThere}
use Rattle.sorted_lists.proofs.OrderLemmas.{length-seen, some-at, seen-at}
use Rattle.sorted_lists.proofs.IndexLemmas.{All-found, differ-ascending, below_last, none_some, some_same}
use Rattle.keepalive_clock.specs.Clock.{VoiceClock, period_of, is_overdue, is_silent_since, has_silent, HasSilent, VoicesDiffer, IsFirstSilence, heard_of, last_of, is_silent_voice}
use Rattle.keepalive_clock.specs.Order.{number_of, FitsVoice, voice_number, due_of, deadline_number, IsClockKept}
use Rattle.keepalive_clock.specs.declared.voice.Voice.{Voice}
use Rattle.keepalive_clock.specs.declared.voice.Voice.TheVariants.{Node, Port}
use Rattle.keepalive_clock.specs.declared.voice.LastHeard.{LastHeard}
use Rattle.keepalive_clock.proofs.VoiceLemmas.{number-range}
use Rattle.keepalive_clock.proofs.HeardLemmas.{passes_found, found_passes, is_some-last}
use Rattle.keepalive_clock.proofs.KeptLemmas.{found_number, found_here, index_kept, length_kept, fits_here}

late : (h p m : ℕ) → h + 5 * p / 2 + 1 ≤ m → 5 * p < 2 * (m - h)
late h p m due = omega arith

early : (h p m : ℕ) → m < h + 5 * p / 2 + 1 → 2 * (m - h) ≤ 5 * p
early h p m due = omega arith

is_overdue-due : (c : VoiceClock) (now : ℕ) (x : LastHeard) → due_of c.node_period c.port_period x ≤ now → is_overdue c now x ≡ true
is_overdue-due c now x due = grind (arith, nat_tests, late x.last (period_of c.node_period c.port_period x.voice) now due)

is_overdue-early : (c : VoiceClock) (now : ℕ) (x : LastHeard) → now < due_of c.node_period c.port_period x → is_overdue c now x ≡ false
is_overdue-early c now x due = grind (arith, nat_tests, early x.last (period_of c.node_period c.port_period x.voice) now due)

period_of-range : (node port : ℕ) (v : Voice) → node < 2 ^ 32 → port < 2 ^ 32 → period_of node port v < 2 ^ 32
period_of-range node port (Node x) n p = n
period_of-range node port (Port a) n p = p

-- a deadline is a number of 64 bits
due_of-range : (node port : ℕ) (x : LastHeard) → node < 2 ^ 32 → port < 2 ^ 32 → x.last < 2 ^ 63 → due_of node port x < 2 ^ 64
due_of-range node port x n p last = go (period_of node port x.voice) (period_of-range node port x.voice n p)
  where
    go : (period : ℕ) → period < 2 ^ 32 → x.last + 5 * period / 2 + 1 < 2 ^ 64
    go period range = omega arith

-- ---- the last place

-- a last item is there, and is the one at that place
last_item : (ds : List ℕ) (p : ℕ) → Some p ≡ slice_get ds (length ds - 1) → (length ds - 1 < length ds) × (get_or ds (length ds - 1) 0 ≡ p)
last_item [] p last = absurd (none_some p (sym last))
last_item (q ∷ qs) p last =
    let within : length (q ∷ qs) - 1 < length (q ∷ qs) = omega arith in
    (within, some_same _ p (sym (slice_get-get_or (q ∷ qs) (length (q ∷ qs) - 1) 0 within) ∙ sym last))

last_seen : (s : Slab LastHeard) (ds : List ℕ) (p : ℕ) (x : LastHeard) → AreThere s ds → Some p ≡ slice_get ds (length ds - 1) → get s p ≡ Some x → slice_get (seen s ds) (length (seen s ds) - 1) ≡ Some x
last_seen s ds p x there last here =
    let (within, is) = last_item ds p last in
    let long = length-seen s ds there in
    ap (λ (n : ℕ). slice_get (seen s ds) (n - 1)) long
    ∙ slice_get-get_or (seen s ds) (length ds - 1) x (omega (arith, within, long))
    ∙ ap (λ z. Some z) (seen-at s ds (length ds - 1) x x there within (ap (get s) is ∙ here))

module _ {node port most : ℕ} {s : Slab LastHeard} {vs ds : Vec ℕ Global} (kept : IsClockKept node port most s vs ds) where
  -- there is a record at the last place
  pub last_there : (p : ℕ) → Some p ≡ slice_get ds.items (length ds.items - 1) → IsSome (get s p)
  last_there p last =
      let (within, is) = last_item ds.items p last in
      subst (λ (q : ℕ). IsSome (get s q)) is (some-at s ds.items (length ds.items - 1) kept.deadlines.sorted.there within)

  -- where there is no deadline there is no voice
  pub none_due : None ≡ slice_get ds.items (length ds.items - 1) → seen s vs.items ≡ []
  none_due none = go (seen s vs.items) ds.items (length_kept kept ∙ kept.voices.count ∙ sym kept.deadlines.count) none
    where
      go : (xs : List LastHeard) (es : List ℕ) → length xs ≡ length es → None ≡ slice_get es (length es - 1) → xs ≡ []
      go [] es count e = refl
      go (x ∷ xs) [] count e = absurd (omega (arith, count))
      go (x ∷ xs) (y ∷ es) count e = absurd (none_some _ (e ∙ slice_get-get_or (y ∷ es) (length (y ∷ es) - 1) y (omega arith)))

  module _ (p : ℕ) (d : LastHeard) (last : Some p ≡ slice_get ds.items (length ds.items - 1)) (here : get s p ≡ Some d) where
    abbrev clock : VoiceClock
    clock = record { node_period = node; port_period = port; room = most; voices = seen s vs.items }

    first_fits : FitsVoice d
    first_fits = fits_here kept p d here

    pub due_range : due_of node port d < 2 ^ 64
    due_range = due_of-range node port d kept.node_range kept.port_range first_fits.1

    -- it is that of a voice
    first_voice : item_at voice_number (voice_number d) (seen s vs.items) ≡ Some d
    first_voice = found_here kept p d here

    first_heard : heard_of d.voice (seen s vs.items) ≡ Some d
    first_heard = found_number d.voice (seen s vs.items) first_fits.0 kept.fit ∙ first_voice

    -- no voice comes due before
    none_before : (k : ℕ) (x : LastHeard) → item_at voice_number k (seen s vs.items) ≡ Some x → due_of node port d ≤ due_of node port x
    none_before k x found =
        let index = index_kept kept in
        let below = below_last (deadline_number node port) 0 (seen s ds.items) d index.ascending (last_seen s ds.items p d kept.deadlines.sorted.there last here) _ _ (index.told k x found) in
        by_number (due_of node port d) (due_of node port x) (number_of x.voice) (number_of d.voice) due_range (number-range x.voice (All-found FitsVoice _ (seen s vs.items) x kept.fit found).0) (number-range d.voice first_fits.0) below
      where
        by_number : (a b p q : ℕ) → a < 2 ^ 64 → p < 2 ^ 56 → q < 2 ^ 56 → (2 ^ 65 - b) * 2 ^ 56 + p ≤ (2 ^ 65 - a) * 2 ^ 56 + q → a ≤ b
        by_number a b p q range low also le = omega (arith, range, low, also, le)

    -- from it on some voice is silent
    pub silent_from : (now : ℕ) → due_of node port d ≤ now → has_silent clock now ≡ true
    silent_from now due = list_any-found _ (is_overdue clock now) d (seen s vs.items) first_voice (is_overdue-due clock now d due)

    pub silent_voice : (now : ℕ) → due_of node port d ≤ now → is_silent_voice clock now d.voice ≡ true
    silent_voice now due = ap (λ o. option_map_or (is_overdue clock now) o false) first_heard ∙ is_overdue-due clock now d due

    pub is_there : is_some (last_of d.voice (seen s vs.items)) ≡ true
    is_there = is_some-last (heard_of d.voice (seen s vs.items)) ∙ ap is_some first_heard

    pub none_silent : (now : ℕ) → now < due_of node port d → has_silent clock now ≡ false
    none_silent now early = go (has_silent clock now) refl
      where
        go : (b : Bool) → has_silent clock now ≡ b → b ≡ false
        go false e = refl
        go true e =
            let (x, found, silent) = some_found voice_number ◌==◌ sameness_of_numbers (is_overdue clock now) (seen s vs.items) (differ-ascending voice_number 0 (seen s vs.items) kept.voices.sorted.ascending) e in
            absurd (false≢true (sym (is_overdue-early clock now x (omega (arith, early, none_before (voice_number x) x found))) ∙ silent))

    pub first_silence : IsFirstSilence clock (due_of node port d)
    first_silence = record { silent = silent_from (due_of node port d) (omega arith); before = none_silent }

-- some voice is silent where the last moment of some voice is too long ago
pub silent_by_voice : (c : VoiceClock) → VoicesDiffer c.voices → (now : ℕ) → IsTrue (has_silent c now) ↔ HasSilent c now
silent_by_voice c differ now = (
  λ holds. passes_found (λ voice heard. is_silent_since c voice heard now) c.voices differ holds,
  λ s. found_passes (λ voice heard. is_silent_since c voice heard now) c.voices s.0 s.1 s.2 s.3,
)
