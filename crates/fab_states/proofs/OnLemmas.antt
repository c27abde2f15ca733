-- Entries behind entries, and behind a journal: states, right entries and what is sent.
use Rattle.std.proofs.Common.{◌≡◌, ℕ, List, [], ◌∷◌, ◌++◌, refl, sym, ap, subst, ◌∙◌, append_assoc}
use Rattle.std.proofs.lemmas.List.{append-nil}
use Rattle.fab_config.specs.Settings.{Settings}
use Rattle.fab_policy.specs.Journal.{Journal, followed}
use Rattle.fab_policy.specs.Legal.{IsRightEntry, Legal}
use Rattle.fab_policy.specs.Outputs.{State, outputs_by, state_of}
use Rattle.fab_policy.specs.Standing.{sent_after, state_after}
use Rattle.fab_policy.specs.Steps.{after}
use Rattle.fab_policy.specs.declared.event.Event.{Event}
use Rattle.fab_policy.proofs.FollowedLemmas.{followed-append}
use Rattle.fab_policy.proofs.GrowLemmas.{followed_by_parts}
use Rattle.fab_policy.proofs.Standing.{outputs_step, state_step}
use Rattle.fab_states.specs.Laws.{LegalGoesOn, SentGoesOn, StatesGoOn}
use Rattle.fab_states.specs.States.{LegalFrom, sent_on, state_on}

-- ---- the order of entries

-- later entries stand in front of earlier ones
pub followed-twice : (es more : List Event) → followed [] (es ++ more) ≡ followed [] more ++ followed [] es
followed-twice es more = followed_by_parts [] es more ∙ followed-append (followed [] es) more

-- ---- states

pub state-behind : (c : Settings) (J K : Journal) → state_of c (K ++ J) ≡ state_on c (state_of c J) K
state-behind c J [] = refl
state-behind c J (e ∷ K) = state_step c e (K ++ J) ∙ ap (λ S. state_after c S e) (state-behind c J K)

pub states_go_on : StatesGoOn
states_go_on c J es = ap (state_of c) (followed-append J es) ∙ state-behind c J (followed [] es)

pub state-join : (c : Settings) (S : State) (I K : Journal) → state_on c S (K ++ I) ≡ state_on c (state_on c S I) K
state-join c S I [] = refl
state-join c S I (e ∷ K) = ap (λ B. state_after c B e) (state-join c S I K)

-- ---- legal

pub right_at : (c : Settings) (e : Event) (B D : State) → B ≡ D → IsRightEntry c B.tables e → IsRightEntry c D.tables e
right_at c e B D same r = subst (λ S. IsRightEntry c S.tables e) same r

pub legal-behind : (c : Settings) (J K : Journal) → Legal c J → LegalFrom c (state_of c J) K → Legal c (K ++ J)
legal-behind c J [] l k = l
legal-behind c J (e ∷ K) l k =
    (legal-behind c J K l k.0, right_at c e (state_on c (state_of c J) K) (state_of c (K ++ J)) (sym (state-behind c J K)) k.1)

pub legal_goes_on : LegalGoesOn
legal_goes_on c J es l k = subst (λ I. Legal c I) (sym (followed-append J es)) (legal-behind c J (followed [] es) l k)

pub legal-join : (c : Settings) (S : State) (I K : Journal) → LegalFrom c S I → LegalFrom c (state_on c S I) K → LegalFrom c S (K ++ I)
legal-join c S I [] l k = l
legal-join c S I (e ∷ K) l k =
    (legal-join c S I K l k.0, right_at c e (state_on c (state_on c S I) K) (state_on c S (K ++ I)) (sym (state-join c S I K)) k.1)

-- ---- what is sent

pub sent-join : (c : Settings) (n : ℕ) (S : State) (I K : Journal) → sent_on c n S (K ++ I) ≡ sent_on c n S I ++ sent_on c n (state_on c S I) K
sent-join c n S I [] = sym (append-nil (sent_on c n S I))
sent-join c n S I (e ∷ K) =
    ap (λ l. l ++ outputs_by c n (state_on c S (K ++ I)) (after c (state_on c S (K ++ I)).tables e) e) (sent-join c n S I K)
    ∙ ap (λ B. (sent_on c n S I ++ sent_on c n (state_on c S I) K) ++ outputs_by c n B (after c B.tables e) e) (state-join c S I K)
    ∙ append_assoc (sent_on c n S I) (sent_on c n (state_on c S I) K)
    (outputs_by c n (state_on c (state_on c S I) K) (after c (state_on c (state_on c S I) K).tables e) e)

pub sent_goes_on : SentGoesOn
sent_goes_on c n J [] = refl
sent_goes_on c n J (e ∷ es) =
    let S = state_of c J in
    ap (λ l. l ++ sent_after c n (e ∷ J) es) (outputs_step c n J e)
    ∙ ap (λ l. sent_on c n S (e ∷ []) ++ l) (sent_goes_on c n (e ∷ J) es ∙ ap (λ B. sent_on c n B (followed [] es)) (state_step c e J))
    ∙ sym (sent-join c n S (e ∷ []) (followed [] es))
    ∙ ap (sent_on c n S) (sym (followed-append (e ∷ []) es))
