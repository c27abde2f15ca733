-- One piece behind another, and behind a journal: states, right entries, text and captures.
use Rattle.std.proofs.Common.{[], ◌∷◌, ◌++◌, sym, ap, subst, ◌∙◌}
use Rattle.std.proofs.lemmas.List.{append-nil}
use Rattle.fab_config.specs.Settings.{Settings}
use Rattle.fab_policy.specs.Journal.{Journal, followed}
use Rattle.fab_policy.specs.Legal.{Legal}
use Rattle.fab_policy.specs.Outputs.{State, state_of}
use Rattle.fab_policy.specs.Standing.{sent_after}
use Rattle.fab_states.proofs.NothingLemmas.{state_nothing}
use Rattle.fab_states.proofs.OnLemmas.{legal-behind, legal-join, right_at, state-behind, state-join}
use Rattle.fab_states.proofs.WrittenLemmas.{clock-on, records-behind, text-behind}
use Rattle.fab_pieces.specs.Laws.{StatesAreOn, StatesFollow, StatesJoin, LegalIsCut, LegalPiecesJoin, TextsJoin, ClocksAgree, CapturesJoin}
use Rattle.fab_pieces.specs.Sound.{RestoredStands}
use Rattle.fab_states.specs.States.{LegalFrom, state_on}

-- ---- states

pub states_are_on : StatesAreOn
states_are_on c J = sym (state_nothing c J)

pub states_follow : StatesFollow
states_follow c I K = state-behind c I K

pub states_join : StatesJoin
states_join c S I K = state-join c S I K

-- ---- legal

legal_parts : (c : Settings) (I K : Journal) → Legal c (K ++ I) → Legal c I × LegalFrom c (state_of c I) K
legal_parts c I [] l = (l, tt)
legal_parts c I (e ∷ K) l =
    let parts = legal_parts c I K l.0 in
    (parts.0, (parts.1, right_at c e (state_of c (K ++ I)) (state_on c (state_of c I) K) (states_follow c I K) l.1))

pub legal_is_cut : LegalIsCut
legal_is_cut c I K = (legal_parts c I K, λ parts. legal-behind c I K parts.0 parts.1)

-- a legal journal is a legal piece from the beginning
pub legal_first : (c : Settings) (J : Journal) → Legal c J → LegalFrom c (state_of c []) J
legal_first c J l = (legal_parts c [] J (subst (λ I. Legal c I) (sym (append-nil J)) l)).1

pieces_parts : (c : Settings) (S : State) (I K : Journal) → LegalFrom c S (K ++ I) → LegalFrom c S I × LegalFrom c (state_on c S I) K
pieces_parts c S I [] l = (l, tt)
pieces_parts c S I (e ∷ K) l =
    let parts = pieces_parts c S I K l.0 in
    (parts.0, (parts.1, right_at c e (state_on c S (K ++ I)) (state_on c (state_on c S I) K) (states_join c S I K) l.1))

pub legal_pieces_join : LegalPiecesJoin
legal_pieces_join c S I K = (pieces_parts c S I K, λ parts. legal-join c S I K parts.0 parts.1)

-- ---- text and captures

pub texts_join : TextsJoin
texts_join I K = text-behind I K

pub clocks_agree : ClocksAgree
clocks_agree c S K = clock-on c S K

pub captures_join : CapturesJoin
captures_join c n p I K = records-behind c n p I K

-- ---- fabrics

pub restored_stands : RestoredStands
restored_stands F J state events outs = record {
  state = state;
  older = J;
  events = sym (ap (λ es. followed J es) events);
  outs = outs ∙ ap (λ es. sent_after F.settings F.count J es) (sym events);
}
