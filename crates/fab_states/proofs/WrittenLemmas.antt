-- What is written of entries behind others, and behind a journal.
use Rattle.std.proofs.Common.{◌≡◌, ℕ, [], ◌∷◌, ◌++◌, refl, sym, ap, ◌∙◌, append_assoc}
use Rattle.std.proofs.lemmas.List.{append-nil}
use Rattle.fab_config.specs.Settings.{Settings}
use Rattle.fab_policy.specs.Growing.{clock_after, lines_from, records_to}
use Rattle.fab_policy.specs.Journal.{Journal, followed, now}
use Rattle.fab_policy.specs.Outputs.{State, outputs, outputs_by, state_of}
use Rattle.fab_policy.specs.State.{now_of}
use Rattle.fab_policy.specs.Steps.{after}
use Rattle.fab_policy.specs.Text.{egress, line, text}
use Rattle.fab_policy.specs.declared.event.Event.{Event}
use Rattle.fab_policy.specs.declared.event.Event.TheVariants.{Tick, Frame}
use Rattle.fab_policy.proofs.FollowedLemmas.{followed-append}
use Rattle.fab_policy.proofs.GrowLemmas.{clock-one, egress-one, records-append, text-one}
use Rattle.fab_policy.proofs.Standing.{outputs_step}
use Rattle.fab_states.specs.Laws.{RecordsGrowFrom, TextGrowsFrom}
use Rattle.fab_states.specs.States.{sent_on, state_on}
use Rattle.fab_states.specs.Written.{clock_on, piece_records, piece_text}
use Rattle.fab_states.proofs.OnLemmas.{sent-join, state-behind}

-- ---- text

pub piece-none : (t : ℕ) → piece_text t [] ≡ []
unfolding piece_text
piece-none t = refl

piece-one : (t : ℕ) (e : Event) (K : Journal) → piece_text t (e ∷ K) ≡ piece_text t K ++ line (clock_on t (e ∷ K)) e
unfolding piece_text
piece-one t e K = refl

clock-behind : (I K : Journal) → now (K ++ I) ≡ clock_on (now I) K
clock-behind I [] = refl
clock-behind I (e ∷ K) = clock-one (K ++ I) e ∙ ap (λ t. clock_after t e) (clock-behind I K)

-- the lines of a journal with entries behind it
pub text-behind : (I K : Journal) → text (K ++ I) ≡ text I ++ piece_text (now I) K
text-behind I [] = sym (append-nil (text I)) ∙ ap (λ l. text I ++ l) (sym (piece-none (now I)))
text-behind I (e ∷ K) =
    text-one (K ++ I) e
    ∙ ap (λ l. l ++ line (now (e ∷ (K ++ I))) e) (text-behind I K)
    ∙ append_assoc (text I) (piece_text (now I) K) (line (now (e ∷ (K ++ I))) e)
    ∙ ap (λ (t : ℕ). text I ++ (piece_text (now I) K ++ line t e)) (clock-behind I (e ∷ K))
    ∙ ap (λ l. text I ++ l) (sym (piece-one (now I) e K))

-- the clock behind entries is that of the state behind them
pub clock-on : (c : Settings) (S : State) (K : Journal) → now_of (state_on c S K).tables ≡ clock_on (now_of S.tables) K
clock-on c S [] = refl
clock-on c S (Tick m ended ∷ K) = refl
clock-on c S (Frame port index caught verdict ∷ K) = clock-on c S K

pub text_grows_from : TextGrowsFrom
text_grows_from t K [] = sym (append-nil (piece_text t K))
text_grows_from t K (e ∷ more) =
    text_grows_from t (e ∷ K) more
    ∙ ap (λ l. l ++ lines_from (clock_on t (e ∷ K)) more) (piece-one t e K)
    ∙ append_assoc (piece_text t K) (line (clock_on t (e ∷ K)) e) (lines_from (clock_on t (e ∷ K)) more)

-- ---- captures

pub sent-none : (c : Settings) (n p : ℕ) (S : State) → piece_records c n p S [] ≡ []
unfolding piece_records
sent-none c n p S = refl

sent-one : (c : Settings) (n p : ℕ) (S : State) (e : Event) (K : Journal) →
    piece_records c n p S (e ∷ K) ≡ piece_records c n p S K ++ records_to p (outputs_by c n (state_on c S K) (after c (state_on c S K).tables e) e)
unfolding piece_records
sent-one c n p S e K = refl

-- what an entry sends, by the state before it
outputs-on : (c : Settings) (n : ℕ) (I K : Journal) (e : Event) →
    outputs c n (K ++ I) e ≡ outputs_by c n (state_on c (state_of c I) K) (after c (state_on c (state_of c I) K).tables e) e
outputs-on c n I K e = outputs_step c n (K ++ I) e ∙ ap (λ S. outputs_by c n S (after c S.tables e) e) (state-behind c I K)

-- the records of a journal with entries behind it
pub records-behind : (c : Settings) (n p : ℕ) (I K : Journal) → egress c n p (K ++ I) ≡ egress c n p I ++ piece_records c n p (state_of c I) K
records-behind c n p I [] = sym (append-nil (egress c n p I)) ∙ ap (λ l. egress c n p I ++ l) (sym (sent-none c n p (state_of c I)))
records-behind c n p I (e ∷ K) =
    egress-one c n p (K ++ I) e
    ∙ ap (λ l. l ++ records_to p (outputs c n (K ++ I) e)) (records-behind c n p I K)
    ∙ append_assoc (egress c n p I) (piece_records c n p (state_of c I) K) (records_to p (outputs c n (K ++ I) e))
    ∙ ap (λ sent. egress c n p I ++ (piece_records c n p (state_of c I) K ++ records_to p sent)) (outputs-on c n I K e)
    ∙ ap (λ l. egress c n p I ++ l) (sym (sent-one c n p (state_of c I) e K))

-- they are those of what the entries send
records-sent : (c : Settings) (n p : ℕ) (S : State) (K : Journal) → piece_records c n p S K ≡ records_to p (sent_on c n S K)
records-sent c n p S [] = sent-none c n p S
records-sent c n p S (e ∷ K) =
    let sent = outputs_by c n (state_on c S K) (after c (state_on c S K).tables e) e in
    sent-one c n p S e K ∙ ap (λ l. l ++ records_to p sent) (records-sent c n p S K) ∙ sym (records-append p (sent_on c n S K) sent)

pub records_grow_from : RecordsGrowFrom
records_grow_from c n p S K es =
    let more = sent_on c n (state_on c S K) (followed [] es) in
    records-sent c n p S (followed K es)
    ∙ ap (λ L. records_to p (sent_on c n S L)) (followed-append K es)
    ∙ ap (records_to p) (sent-join c n S K (followed [] es))
    ∙ records-append p (sent_on c n S K) more
    ∙ ap (λ l. l ++ records_to p more) (sym (records-sent c n p S K))
