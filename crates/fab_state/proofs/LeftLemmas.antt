-- The logins that are still to be read.
use Rattle.std.proofs.Common.{◌≡◌, ℕ, List, [], ◌∷◌, ◌++◌, map, refl, sym, ap, ◌∙◌, append_assoc, append-nil, inl, inr, ◌⊎◌, decimal}
use Rattle.std.specs.Prelude.{flat_map}
use Rattle.fab_policy.specs.State.{LivePort}
use Rattle.fab_policy.specs.Text.{address_word}
use Rattle.fab_pieces.specs.Seam.{bytes_word, features_word, login_row, may_word, name_word, row_text, types_word}
use Rattle.fab_state.specs.Readable.{AreReadPorts, IsReadPort}

-- what is still to be read of a list of N_Ports
pub record IsLeft (got : List LivePort) (rest : List ℕ) (ports : List LivePort) (more : List ℕ) : Type 0 where
  pub left : List LivePort
  pub all : got ++ left ≡ ports
  pub are : AreReadPorts left
  pub text : rest ≡ flat_map row_text (map login_row left) ++ more

-- the next of them
pub record IsNextOf (got : List LivePort) (rest : List ℕ) (ports : List LivePort) (more : List ℕ) : Type 0 where
  pub port : LivePort
  pub left : List LivePort
  pub all : got ++ port ∷ left ≡ ports
  pub is : IsReadPort port
  pub are : AreReadPorts left
  pub text : rest ≡ row_text (login_row port) ++ (flat_map row_text (map login_row left) ++ more)

pub left_cases : {got : List LivePort} {rest : List ℕ} {ports : List LivePort} {more : List ℕ} → IsLeft got rest ports more → ((got ≡ ports) × (rest ≡ more)) ⊎ IsNextOf got rest ports more
left_cases {got} {rest} {ports} {more} l = go l.left l.all l.are l.text
  where
    go : (left : List LivePort) → got ++ left ≡ ports → AreReadPorts left → rest ≡ flat_map row_text (map login_row left) ++ more → ((got ≡ ports) × (rest ≡ more)) ⊎ IsNextOf got rest ports more
    go [] all are text = inl (sym (append-nil got) ∙ all, text)
    go (p ∷ left) all are text = inr (record { port = p; left = left; all = all; is = are.0; are = are.1; text = text ∙ append_assoc (row_text (login_row p)) (flat_map row_text (map login_row left)) more })

-- the words of a login behind the first
abbrev pub login_words : LivePort → List (List ℕ)
login_words p =
    address_word p.address ∷ name_word p.name ∷ name_word p.node ∷ decimal p.enode.port ∷ bytes_word p.enode.mac ∷ decimal p.node_heard ∷ decimal p.port_heard ∷ decimal p.watch
    ∷ name_word p.values.node_name ∷ types_word p.values.types ∷ features_word p.values.features ∷ bytes_word p.values.symbol ∷ bytes_word p.values.node_symbol ∷ may_word p.server
