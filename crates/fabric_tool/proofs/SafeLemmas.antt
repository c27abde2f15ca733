-- What the laws of legal journals say of each state that a journal goes through.
use Rattle.std.proofs.Common.{List, [], ◌∷◌, subst}
use Rattle.fab_config.specs.Settings.{Settings}
use Rattle.fab_policy.specs.Forwarding.{LegalForwards}
use Rattle.fab_policy.specs.Journal.{Journal, followed}
use Rattle.fab_policy.specs.Legal.{Legal}
use Rattle.fab_policy.specs.Live.{LegalNamesTheLive}
use Rattle.fab_policy.specs.Sound.{GrantsAreFree, LiveMacsDiffer}
use Rattle.fab_policy.specs.Written.{LegalIsQuiet, LegalIsSound}
use Rattle.fab_policy.specs.declared.event.Event.{Event}
use Rattle.fab_policy.specs.declared.event.Event.TheVariants.{Frame}
use Rattle.fab_policy.specs.declared.verdict.Verdict.TheVariants.{Granted}
use Rattle.fabric_tool.specs.Left.{LegalIsSafe}

-- what a legal journal was before some of its entries is legal
legal_before : (c : Settings) (I : Journal) (later : List Event) → Legal c (followed I later) → Legal c I
legal_before c I [] legal = legal
legal_before c I (e ∷ later) legal = (legal_before c (e ∷ I) later legal).0

pub safe : LegalIsSound → LegalIsQuiet → GrantsAreFree → LegalForwards → LiveMacsDiffer → LegalNamesTheLive → LegalIsSafe
safe sound quiet grants forwards macs named c J range legal = record {
  legal = legal;
  distinct = λ I later is.
      let s = sound c I (legal_before c I later (subst (Legal c) is legal)) in
      record { addresses = s.ascending; names = s.names; macs = macs c I range };
  grants = λ I later port index a caught is. grants c I port index a caught (legal_before c (Frame port index caught (Granted a) ∷ I) later (subst (Legal c) is legal));
  data_frames = λ I later port index caught verdict is data_frame. forwards c I port index caught verdict (legal_before c (Frame port index caught verdict ∷ I) later (subst (Legal c) is legal)) data_frame;
  named = λ I e later is. named c I e (legal_before c (e ∷ I) later (subst (Legal c) is legal));
  quiet = λ I later is. quiet c I (legal_before c I later (subst (Legal c) is legal));
}
