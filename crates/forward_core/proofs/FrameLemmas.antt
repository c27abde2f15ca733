-- The turn of a frame.
use Rattle.std.proofs.Common.{◌≡◌, ℕ, ◌+◌, ◌*◌, length, Ok, sym, subst}
use Rattle.fab_config.specs.Settings.{Settings}
use Rattle.fab_policy.specs.Standing.{Contents}
use Rattle.fab_policy.specs.Steps.{after}
use Rattle.fab_policy.specs.declared.verdict.Verdict.{Verdict}
use Rattle.fab_roster.specs.Roll.{Roll}
use Rattle.fab_sending.specs.Sends.{CanFollow, FrameSends}
use Rattle.fab_sending.specs.declared.sends.Before.{Before}
use Rattle.fab_sending.specs.declared.sends.Sends.{Sends}
use Rattle.forward_core.specs.Arrived.{caught_of, entry_of}
use Rattle.forward_core.specs.Carrying.{CarriesOut, IsRollOf}
use Rattle.forward_core.specs.Fabric.{contents_of, IsFabric}
use Rattle.forward_core.specs.Turns.{IsBefore, IsSent, Keeps, KeepsFrame, TakesOrStays}
use Rattle.forward_core.specs.declared.arrived.Arrived.{Arrived}
use Rattle.forward_core.specs.declared.fabric.Fabric.TheInside.{Inside}
use Rattle.forward_core.proofs.TakeLemmas.{frame_sent, takes}

-- the roster of a fabric was made for its configuration
roll_of : (i : Inside) → IsFabric i → (c : Settings) → i.config ≡ c → IsRollOf c i.roster
roll_of i f c same = record { lowest = subst (λ (s : Settings). i.roster.lowest ≡ s.domain * 65536 + 256) same f.lowest; count = subst (λ (s : Settings). i.roster.count ≡ s.pool) same f.pool }

-- its turn: the entry was kept with what it sends
pub carried_takes : (i : Inside) → IsFabric i → (frame : Arrived) (v : Verdict) (new : Roll) → CarriesOut frame v i.roster new → (F K : Contents) → contents_of i ≡ K → KeepsFrame F frame v K →
    TakesOrStays F frame v (Ok tt) (contents_of (record i { roster = new }))
carried_takes i f frame v new done F K view kept =
    let k = subst (λ (G : Contents). Keeps F (entry_of frame v) kept.sends G) (sym view) kept.keeps in
    let of = roll_of i f F.settings k.settings in
    record {
      takes = takes F (contents_of i) (entry_of frame v) kept.sends new.tables i.advertised k
          (frame_sent F frame v kept.sends kept.made (subst (λ T. CanFollow F.settings T frame.port frame.index (caught_of frame) v) k.tables (done.follows F.settings of)))
          (subst (λ T. new.tables ≡ after F.settings T (entry_of frame v)) k.tables (done.tables F.settings of)) k.advertised;
      err = tt;
    }

-- frames that were made for a verdict, by what was known before its entry
pub sent_as : (b : Before) (F : Contents) (frame : Arrived) (v w : Verdict) (n : ℕ) (s : Sends) → IsBefore b F → n ≡ length F.events → w ≡ v → FrameSends b frame.port n (caught_of frame) v s → IsSent F frame w s
sent_as b F frame v w n s is at same sends = record {
  before = b;
  is = is;
  sends = subst (λ u. FrameSends b frame.port (length F.events) (caught_of frame) u s) (sym same) (subst (λ k. FrameSends b frame.port k (caught_of frame) v s) at sends);
}
