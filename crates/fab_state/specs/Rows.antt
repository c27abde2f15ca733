-- The lines of a seam, in parts.
use Rattle.std.specs.Prelude.{ℕ, List, [], ◌∷◌, flat_map, decimal}
use Rattle.fab_base.specs.declared.values.Enode.{Enode}
use Rattle.ct_messages.specs.Server.{Values}
use Rattle.fab_policy.specs.State.{LivePort}
use Rattle.fab_policy.specs.Text.{address_word, then_word}
use Rattle.fab_pieces.specs.Seam.{bytes_word, features_word, name_word, types_word}

-- words, each after a space
abbrev pub then_words : List (List ℕ) → List ℕ
then_words ws = flat_map then_word ws

-- the words of a login: who it is
abbrev pub person_words : LivePort → List (List ℕ)
person_words p = address_word p.address ∷ name_word p.name ∷ name_word p.node ∷ []

-- its ENode
abbrev pub enode_words : Enode → List (List ℕ)
enode_words x = decimal x.port ∷ bytes_word x.mac ∷ []

-- when it was heard, and what it watches
abbrev pub heard_words : LivePort → List (List ℕ)
heard_words p = decimal p.node_heard ∷ decimal p.port_heard ∷ decimal p.watch ∷ []

-- what it registered
abbrev pub values_words : Values → List (List ℕ)
values_words v = name_word v.node_name ∷ types_word v.types ∷ features_word v.features ∷ bytes_word v.symbol ∷ bytes_word v.node_symbol ∷ []
