-- Homes in the order of their MACs.
use Rattle.std.proofs.Common.{◌≡◌, ◌≢◌, ℕ, ◌==◌, true, not, cond, List, [], ◌∷◌, ◌++◌, filter, find, Option, Some, None, option_map, sym, ◌∙◌, ap}
use Rattle.std.specs.List.{All}
use Rattle.fab_base.specs.Layout.{big_endian}
use Rattle.fab_base.specs.Keyed.{item_at, AscendFrom, added, without}
use Rattle.fab_base.proofs.KeyedLemmas as keyed
use Rattle.sorted_lists.proofs.IndexLemmas.{none_some}
use Rattle.fip_snoop.specs.Snoop.{is_home_of, home_in, with_home, without_home}
use Rattle.fip_snoop.specs.Maps.{IsMac, home_number, IsWholeHome, SameHomes}
use Rattle.fip_snoop.specs.declared.home.Home.{Home}
use Rattle.fip_snoop.proofs.NumberLemmas.{itself, same_number}
use Rattle.fip_snoop.proofs.KeyLemmas.{find-alike, filter-alike, filter-put}
use Rattle.fip_snoop.proofs.SameLemmas.{same_is}

one_number : (mac : List ℕ) (h k : Home) → is_home_of mac h ≡ true → is_home_of mac k ≡ true → home_number h ≡ home_number k
one_number mac h k e f = ap big_endian (same_is h.mac mac e ∙ sym (same_is k.mac mac f))

-- the home of a MAC is that of its number
home_found : (homes : List Home) (mac : List ℕ) → All IsWholeHome homes → IsMac mac → find (is_home_of mac) homes ≡ item_at home_number (big_endian mac) homes
home_found homes mac all is = find-alike IsWholeHome (is_home_of mac) (λ h. home_number h == big_endian mac) (λ h whole. same_number h.mac mac whole is) homes all

-- without the one of its MAC
left_homes : (h : Home) (homes : List Home) → All IsWholeHome homes → IsWholeHome h → without_home h.mac homes ≡ without home_number (home_number h) homes
left_homes h homes all whole = filter-alike IsWholeHome (λ k. not (is_home_of h.mac k)) (λ k. not (home_number k == home_number h)) (λ k other. ap not (same_number k.mac h.mac other whole)) homes all

none_left : (h : Home) (homes : List Home) → item_at home_number (home_number h) (without home_number (home_number h) homes) ≡ None
none_left h homes = keyed.item_at-without home_number (home_number h) (home_number h) homes ∙ ap (λ b. cond b None (item_at home_number (home_number h) homes)) (itself (home_number h))

-- the port that was found for a MAC
pub port_found : (homes now : List Home) (mac : List ℕ) (n : ℕ) (o : Option Home) → All IsWholeHome homes → IsMac mac → n ≡ big_endian mac → homes ≡ now → o ≡ item_at home_number n homes → option_map (λ (h : Home). h.port) o ≡ home_in now mac
port_found homes now mac n o all is number e found =
    ap (option_map (λ (h : Home). h.port)) (found ∙ ap (λ (k : ℕ). item_at home_number k homes) number ∙ sym (home_found homes mac all is)) ∙ ap (λ l. home_in l mac) e

module _ (h : Home) (homes : List Home) (all : All IsWholeHome homes) (whole : IsWholeHome h) where
  pub whole_added : All IsWholeHome (added home_number h homes)
  whole_added = keyed.All-added home_number IsWholeHome h homes all whole

  -- what is kept behind a home that is put
  pub same_put : AscendFrom home_number 0 homes → SameHomes (added home_number h homes) (with_home h homes)
  same_put ascend mac =
      let left = without home_number (home_number h) homes in
      ap (filter (is_home_of mac)) (sym (keyed.added-without home_number h homes))
      ∙ filter-put home_number (is_home_of mac) (one_number mac) h left (keyed.AscendFrom-filter home_number _ 0 homes ascend) (none_left h homes)
      ∙ ap (λ l. filter (is_home_of mac) (l ++ h ∷ [])) (sym (left_homes h homes all whole))

  -- a home that is known has its number
  pub known_there : home_in homes h.mac ≡ Some h.port → item_at home_number (home_number h) homes ≢ None
  known_there known none = none_some h.port (sym (ap (option_map (λ (k : Home). k.port)) (home_found homes h.mac all whole ∙ none)) ∙ known)
