-- What a forwarder leaves that nothing came to before.
use Rattle.std.proofs.Common.{◌≡◌, ℕ, zero, suc, ◌+◌, inl, inr, List, [], ◌∷◌, length, map, Option, refl, ap, subst}
use Rattle.std.specs.Prelude.{replicate}
use Rattle.fab_base.specs.Counting.{counting}
use Rattle.fab_base.specs.Seen.{Seen}
use Rattle.fab_config.specs.Settings.{Settings}
use Rattle.pcapng_file.specs.declared.NgRecord.{NgRecord}
use Rattle.fab_policy.specs.Journal.{Journal}
use Rattle.fab_policy.specs.Outputs.{state_of}
use Rattle.fab_states.specs.Runs.{RunFrom, none_of}
use Rattle.fab_states.proofs.NothingLemmas.{run_nothing}
use Rattle.fab_windows.specs.Files.{Hold, captures_so_far, text_so_far}
use Rattle.fab_windows.specs.From.{captures_till, journal_till, nothing_of}
use Rattle.fab_windows.proofs.FromNothingLemmas.{captures_were, fronts_held, journal_was, wholes_are, wholes_back}
use Rattle.fab_live.specs.Arriving.{arrived, port_records, records_of}
use Rattle.fab_live.specs.Files.{LiveSlots}
use Rattle.fab_live.specs.Live.{HoldLive, HoldSome, IsLiveRun, LeftBroken, LeftWhole}
use Rattle.fab_live.specs.Ready.{HoldLiveOn, HoldSomeOn, IsLiveRunOn, LeftBrokenOn, LeftWholeOn, nothing_of_live}

zeros_none : (k n : ℕ) (v : List NgRecord) → replicate n 0 ≡ none_of (map (port_records v) (counting k n))
zeros_none k zero v = refl
zeros_none k (suc n) v = ap (λ (l : List ℕ). 0 ∷ l) (zeros_none (k + 1) n v)

pub run_is : (c : Settings) (n : ℕ) (packets : List NgRecord) (K : Journal) → IsLiveRunOn c (nothing_of_live c n) n packets K → IsLiveRun c n packets K
run_is c n packets K h =
    let ins = records_of n (arrived 0 packets) in
    record {
      run = record { ranged = h.ranged; run = run_nothing c ins K (subst (λ (l : List ℕ). RunFrom c (state_of c []) l ins K) (zeros_none 0 n (arrived 0 packets)) h.run) };
      faces = h.faces;
      span = h.span;
      kept = h.kept;
    }

module _ (c : Settings) (d : Seen) (f : LiveSlots) (packets : List NgRecord) where
  abbrev pub n : ℕ
  n = length f.outs

  pub hold_is : (K : Journal) → HoldLiveOn c (nothing_of_live c n) d f packets K → HoldLive c d f packets K
  hold_is K h = record { wholes = wholes_are c d f.journal f.outs K h.wholes; came = h.came }

  held_till : (before : Option Journal) → Hold d f.journal f.outs (journal_till (nothing_of c) before) (captures_till c (nothing_of c) n before) → Hold d f.journal f.outs (text_so_far before) (captures_so_far c n before)
  held_till before h =
      subst (λ (r : ℕ → List ℕ). Hold d f.journal f.outs (text_so_far before) r) (captures_were c n before)
      (subst (λ (l : List ℕ). Hold d f.journal f.outs l (captures_till c (nothing_of c) n before)) (journal_was c before) h)

  some_is : (K : Journal) → HoldSomeOn c (nothing_of_live c n) d f packets K → HoldSome c d f packets K
  some_is K h = record {
    fronts = record { before = h.fronts.before; begins = h.fronts.begins; hold = fronts_held c d f.journal f.outs K h.fronts.before h.fronts.hold };
    came = h.came;
    order = elim h.order [ inl came ↦ inl came | inr held ↦ inr (held_till h.fronts.before held) ];
  }

  abbrev pub left_whole_is : LeftWholeOn c (nothing_of_live c n) d f packets → LeftWhole c d f packets
  left_whole_is h = record { entry_list = h.entry_list; run = run_is c n packets h.entry_list h.run; hold = λ told. hold_is h.entry_list (h.hold told) }

  pub left_broken_is : LeftBrokenOn c (nothing_of_live c n) d f packets → LeftBroken c d f packets
  left_broken_is h = record { entry_list = h.entry_list; run = run_is c n packets h.entry_list h.run; hold = λ told. some_is h.entry_list (h.hold told) }

-- before anything came
pub hold_nothing : (c : Settings) (d : Seen) (f : LiveSlots) → HoldLive c d f [] [] → HoldLiveOn c (nothing_of_live c (length f.outs)) d f [] []
hold_nothing c d f h = record { wholes = wholes_back c d f.journal f.outs [] h.wholes; came = h.came }
