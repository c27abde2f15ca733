-- The answers of a check exclude each other.
use Rattle.std.proofs.Common.{◌≡◌, ℕ, Option, Some, None, Ok, Err, sym, ap, ◌∙◌, subst, length}
use Rattle.std.specs.Prelude.{slice_get}
use Rattle.fab_config.specs.Settings.{Settings}
use Rattle.fab_policy.specs.Journal.{Journal}
use Rattle.window_records.specs.Looks.{Stop, all_records}
use Rattle.fab_policy.specs.Standing.{Stands}
use Rattle.window_records.specs.Port.{ending}
use Rattle.pcap_file.specs.declared.fault.GatherFault.{GatherFault}
use Rattle.pcap_file.specs.declared.fault.GatherFault.TheVariants as gather_fault
use Rattle.pcap_file.specs.declared.Budget.{Budget}
use Rattle.fab_replay.specs.AllOutputs.{IsFirst}
use Rattle.fab_replay.specs.Check.{IsFirstLine, IsFirstOutput, IsFirstStop, Matter, sent_on}
use Rattle.fab_replay.specs.Exact.{AnswerIsOne, OutputDiffers, RunIsAccepted, RunIsOne}
use Rattle.fab_replay.specs.Front.{IsFirstWrong}
use Rattle.fab_replay.specs.Windows.{check_fault}
use Rattle.fab_replay.specs.declared.fault.CheckFault.TheVariants as fault
use Rattle.fab_replay.specs.declared.fault.LineWhy.{LineWhy}
use Rattle.fab_replay.proofs.FirstLemmas.{first_once, lines_once, no_stop}
use Rattle.fab_replay.proofs.OneLemmas.{nothing_wrong, run_once}

pub run_is_one : RunIsOne
run_is_one c budget m J names = (
  λ K other. run_once c (all_records m.ins) m.journal K J other.named names.named other.run names.run,
  λ line why w. nothing_wrong c (all_records m.ins) _ m.journal J line why names.named names.run w,
  λ e s. let both : Some s.at ≡ None = sym s.is ∙ names.none in cc,
)

pub output_differs : OutputDiffers
output_differs c budget m port at J f names sent =
    let same : f.entry_list ≡ J = (run_is_one c budget m J names).0 f.entry_list f.names in
    let q = f.first.0 in
    let d = f.first.3 in
    d.2.differ (ap (λ l. slice_get l d.0) (sent q f.first.2 ∙ ap (λ (K : Journal). sent_on c m K q) (sym same)))

pub run_is_accepted : RunIsAccepted
run_is_accepted c budget m J F (Ok entries) names sent a =
    let same : a.legal.entry_list ≡ J = (run_is_one c budget m J names).0 a.legal.entry_list a.legal.names in
    (a.legal.count ∙ ap length same, subst (Stands F) same a.stands)
run_is_accepted c budget m J F (Err (fault.Line line why)) names sent w = (run_is_one c budget m J names).1 line why w
run_is_accepted c budget m J F (Err (fault.Output port at)) names sent f = output_differs c budget m port at J f names sent
run_is_accepted c budget m J F (Err (fault.Capture port at w)) names sent s = (run_is_one c budget m J names).2 (gather_fault.Capture port at w) s
run_is_accepted c budget m J F (Err (fault.Limit kind)) names sent s = (run_is_one c budget m J names).2 (gather_fault.Limit kind) s
run_is_accepted c budget m J F (Err fault.Read) names sent h = tt
run_is_accepted c budget m J F (Err fault.Memory) names sent h = tt

-- ---- one answer

module _ (c : Settings) (budget : Budget) (m : Matter) where
  stop_once : (e f : GatherFault) → IsFirstStop c budget m e → IsFirstStop c budget m f → f ≡ e
  stop_once e f x y =
      let both : Some y.at ≡ Some x.at = sym y.is ∙ x.is in
      let same : y.at ≡ x.at = cc in
      sym y.says ∙ ap ending same ∙ x.says

  -- a stop is told, or a wrong line
  line_or_stop : (line : ℕ) (why : LineWhy) (e : GatherFault) → IsFirstLine c budget m line why → IsFirstStop c budget m e → ⊥
  line_or_stop line why e w s = no_stop c m.ins s.at m.journal line why (subst (λ (o : Option Stop). IsFirstWrong c (all_records m.ins) o m.journal line why) s.is w) s.entry_list s.before s.all

  output_once : (port at other place : ℕ) → IsFirstOutput c budget m port at → IsFirstOutput c budget m other place → (other ≡ port) × (place ≡ at)
  output_once port at other place x y =
      let same : y.entry_list ≡ x.entry_list = (run_is_one c budget m x.entry_list x.names).0 y.entry_list y.names in
      first_once m.outputs m.found (sent_on c m x.entry_list) port at other place x.first (subst (λ (J : Journal). IsFirst (Some (other, place)) m.outputs m.found (sent_on c m J)) same y.first)

pub answer_is_one : AnswerIsOne
answer_is_one c budget m (Ok n) (Ok k) a b = ap Ok (b.count ∙ ap length ((run_is_one c budget m a.entry_list a.names).0 b.entry_list b.names) ∙ sym a.count)
answer_is_one c budget m (Ok n) (Err (fault.Line line why)) a b = absurd ((run_is_one c budget m a.entry_list a.names).1 line why b)
answer_is_one c budget m (Ok n) (Err (fault.Output port at)) a b = absurd (output_differs c budget m port at a.entry_list b a.names a.outputs)
answer_is_one c budget m (Ok n) (Err (fault.Capture port at w)) a b = absurd ((run_is_one c budget m a.entry_list a.names).2 (gather_fault.Capture port at w) b)
answer_is_one c budget m (Ok n) (Err (fault.Limit kind)) a b = absurd ((run_is_one c budget m a.entry_list a.names).2 (gather_fault.Limit kind) b)
answer_is_one c budget m (Err (fault.Line line why)) (Ok k) a b = absurd ((run_is_one c budget m b.entry_list b.names).1 line why a)
answer_is_one c budget m (Err (fault.Line line why)) (Err (fault.Line other reason)) a b =
    let same = lines_once c (all_records m.ins) _ m.journal line other why reason a b in
    (reason, same.1, ap (λ (n : ℕ). Err (fault.Line n reason)) same.0)
answer_is_one c budget m (Err (fault.Line line why)) (Err (fault.Output port at)) a b = absurd ((run_is_one c budget m b.entry_list b.names).1 line why a)
answer_is_one c budget m (Err (fault.Line line why)) (Err (fault.Capture port at w)) a b = absurd (line_or_stop c budget m line why (gather_fault.Capture port at w) a b)
answer_is_one c budget m (Err (fault.Line line why)) (Err (fault.Limit kind)) a b = absurd (line_or_stop c budget m line why (gather_fault.Limit kind) a b)
answer_is_one c budget m (Err (fault.Output port at)) (Ok k) a b = absurd (output_differs c budget m port at b.entry_list a b.names b.outputs)
answer_is_one c budget m (Err (fault.Output port at)) (Err (fault.Line line why)) a b = absurd ((run_is_one c budget m a.entry_list a.names).1 line why b)
answer_is_one c budget m (Err (fault.Output port at)) (Err (fault.Output other place)) a b =
    let same = output_once c budget m port at other place a b in
    ap (λ (p : ℕ). Err (fault.Output p place)) same.0 ∙ ap (λ (x : ℕ). Err (fault.Output port x)) same.1
answer_is_one c budget m (Err (fault.Output port at)) (Err (fault.Capture p x w)) a b = absurd ((run_is_one c budget m a.entry_list a.names).2 (gather_fault.Capture p x w) b)
answer_is_one c budget m (Err (fault.Output port at)) (Err (fault.Limit kind)) a b = absurd ((run_is_one c budget m a.entry_list a.names).2 (gather_fault.Limit kind) b)
answer_is_one c budget m (Err (fault.Capture port at w)) (Ok k) a b = absurd ((run_is_one c budget m b.entry_list b.names).2 (gather_fault.Capture port at w) a)
answer_is_one c budget m (Err (fault.Capture port at w)) (Err (fault.Line line why)) a b = absurd (line_or_stop c budget m line why (gather_fault.Capture port at w) b a)
answer_is_one c budget m (Err (fault.Capture port at w)) (Err (fault.Output p x)) a b = absurd ((run_is_one c budget m b.entry_list b.names).2 (gather_fault.Capture port at w) a)
answer_is_one c budget m (Err (fault.Capture port at w)) (Err (fault.Capture p x v)) a b = ap (λ (e : GatherFault). Err (check_fault e)) (stop_once c budget m (gather_fault.Capture port at w) (gather_fault.Capture p x v) a b)
answer_is_one c budget m (Err (fault.Capture port at w)) (Err (fault.Limit kind)) a b = ap (λ (e : GatherFault). Err (check_fault e)) (stop_once c budget m (gather_fault.Capture port at w) (gather_fault.Limit kind) a b)
answer_is_one c budget m (Err (fault.Limit kind)) (Ok k) a b = absurd ((run_is_one c budget m b.entry_list b.names).2 (gather_fault.Limit kind) a)
answer_is_one c budget m (Err (fault.Limit kind)) (Err (fault.Line line why)) a b = absurd (line_or_stop c budget m line why (gather_fault.Limit kind) b a)
answer_is_one c budget m (Err (fault.Limit kind)) (Err (fault.Output p x)) a b = absurd ((run_is_one c budget m b.entry_list b.names).2 (gather_fault.Limit kind) a)
answer_is_one c budget m (Err (fault.Limit kind)) (Err (fault.Capture p x v)) a b = ap (λ (e : GatherFault). Err (check_fault e)) (stop_once c budget m (gather_fault.Limit kind) (gather_fault.Capture p x v) a b)
answer_is_one c budget m (Err (fault.Limit kind)) (Err (fault.Limit other)) a b = ap (λ (e : GatherFault). Err (check_fault e)) (stop_once c budget m (gather_fault.Limit kind) (gather_fault.Limit other) a b)
answer_is_one c budget m (Err fault.Read) s a b = absurd a
answer_is_one c budget m (Err fault.Memory) s a b = absurd a
answer_is_one c budget m _ (Err fault.Read) a b = absurd b
answer_is_one c budget m _ (Err fault.Memory) a b = absurd b
