-- Each right entry keeps what holds of a state, whichever pieces came before.
use Rattle.std.proofs.Common.{◌≡◌, ℕ, zero, suc, ◌+◌, ◌*◌, inl, ◌==◌, Bool, true, false, cond, [], ◌∷◌, Option, Some, None, refl, sym, ap, subst, ◌∙◌, arith, filter_map, map, unwrap_or}
use Rattle.fab_base.specs.Counting.{counting}
use Rattle.fab_base.specs.Fabric.{Past, past_at}
use Rattle.fab_config.specs.Settings.{Settings}
use Rattle.fab_policy.specs.Legal.{IsRightEntry}
use Rattle.fab_policy.specs.Outputs.{State, state_of}
use Rattle.fab_policy.specs.Standing.{state_after}
use Rattle.fab_policy.specs.State.{LivePort, live_port, past_of, port_at}
use Rattle.fab_policy.specs.Steps.{after}
use Rattle.fab_policy.specs.declared.event.Event.{Event}
use Rattle.fab_policy.specs.declared.event.Event.TheVariants.{Tick, Frame}
use Rattle.fab_policy.proofs.Sound.{legal_is_sound}
use Rattle.fab_states.specs.States.{state_on}
use Rattle.fab_pieces.specs.Sound.{EntriesKeepSound, FirstIsSound, IsSoundState, JournalsAreSound, PiecesKeepSound}
use Rattle.fab_pieces.proofs.JoinLemmas.{legal_first, states_are_on}
use Rattle.fab_policy.proofs.PortLists.{no_some}
use Rattle.fab_pieces.proofs.PastLemmas.{freed_after, held_after, places_after}
use Rattle.fab_policy.proofs.SoundTables.{tables_sound}
use Rattle.fab_pieces.proofs.VoiceLemmas.{begun_after, below_most, features_after_all, never, voices_after}

-- ---- one entry

first_after : (c : Settings) (S : State) (e : Event) → IsRightEntry c S.tables e → (after c S.tables e).clock ≡ None → state_after c S e ≡ state_of c []
first_after c S (Tick m ended) right none = never (Some m) refl none
first_after c S (Frame port index caught verdict) right none = never S.tables.clock right.0 none

pub entries_keep_sound : EntriesKeepSound
entries_keep_sound c S e sound right = record {
  tables = tables_sound c S.tables e sound.tables right;
  places = places_after c S.tables e sound.places;
  held = held_after c S.tables e sound.places sound.held;
  freed = freed_after c S.tables e sound.places sound.held sound.freed;
  voices = voices_after c S.tables e sound.voices;
  features = features_after_all c S.tables e sound.features;
  begun = begun_after c S.advertised S.tables.clock e sound.begun;
  first = first_after c S e right;
  rscns = below_most _;
}

-- ---- the first state

pub no_ports : (c : Settings) (n k : ℕ) → filter_map (λ a. live_port a []) (counting k n) ≡ []
no_ports c zero k = refl
no_ports c (suc n) k = no_ports c n (k + 1)

pub nobody_first : (c : Settings) (a : ℕ) (p : LivePort) → port_at a (state_of c []).tables.ports ≡ Some p → ⊥
nobody_first c a p h = no_some p (ap (port_at a) (sym (no_ports c c.pool (c.domain * 65536 + 256))) ∙ h)

first_places : (n k : ℕ) → map (λ (q : Past). q.address) (map (λ a. past_of a []) (counting k n)) ≡ counting k n
first_places zero k = refl
first_places (suc n) k = ap (λ l. k ∷ l) (first_places n (k + 1))

pub first_unused : (n k a : ℕ) (q : Past) → past_at a (map (λ b. past_of b []) (counting k n)) ≡ Some q → (q.name ≡ None) × (q.ended ≡ None)
first_unused zero k a q is = absurd (cc)
first_unused (suc n) k a q is = by (k == a) is (first_unused n (k + 1) a q)
  where
    IsUnused : Past → Type 0
    IsUnused x = (x.name ≡ None) × (x.ended ≡ None)

    by : (b : Bool) → cond b (Some (past_of k [])) (past_at a (map (λ x. past_of x []) (counting (k + 1) n))) ≡ Some q →
        (past_at a (map (λ x. past_of x []) (counting (k + 1) n)) ≡ Some q → IsUnused q) → IsUnused q
    by true is later = subst IsUnused (ap (λ (o : Option Past). unwrap_or o q) is) (refl, refl)
    by false is later = later is

pub first_is_sound : FirstIsSound
first_is_sound c = record {
  tables = legal_is_sound c [] tt;
  places = first_places c.pool (c.domain * 65536 + 256);
  held = λ a p h. absurd (nobody_first c a p h);
  freed = λ a q gone is. inl (first_unused c.pool (c.domain * 65536 + 256) a q is);
  voices = λ a b p q x y same. absurd (nobody_first c a p x);
  features = λ a p h. absurd (nobody_first c a p h);
  begun = refl;
  first = λ none. refl;
  rscns = omega arith;
}

-- ---- all entries

pub pieces_keep_sound : PiecesKeepSound
pieces_keep_sound c S [] sound legal = sound
pieces_keep_sound c S (e ∷ K) sound legal = entries_keep_sound c (state_on c S K) e (pieces_keep_sound c S K sound legal.0) legal.1

pub journals_are_sound : JournalsAreSound
journals_are_sound c J legal =
    subst (IsSoundState c) (sym (states_are_on c J))
    (pieces_keep_sound c (state_of c []) J (first_is_sound c) (legal_first c J legal))
