-- The laws are lemmas.
use Rattle.fab_pieces.proofs.JoinLemmas.{states_are_on, states_follow, states_join, legal_is_cut, legal_pieces_join, texts_join, clocks_agree, captures_join}
use Rattle.fab_pieces.proofs.laws.pieces_are_a_whole.Goals as goal

pub returns : goal.returns
returns c = record {
  first = states_are_on;
  states = states_follow;
  states_join = states_join;
  legal = legal_is_cut;
  legal_join = legal_pieces_join;
  texts = texts_join;
  clocks = clocks_agree;
  captures = captures_join;
}
