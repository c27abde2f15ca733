-- The voices that are forgotten with a login.
use Rattle.std.proofs.Common.{◌≡◌, ◌&&◌, is_some, Bool, true, false, not, List, [], ◌∷◌, None, refl, sym, ap, ◌∙◌, arith, if◌then◌else◌}
use Rattle.std.proofs.lemmas.Bool.Decides.{nat_tests}
use Rattle.std.proofs.Math.Bool.{and-false, and-true}
use Rattle.std.specs.List.{list_any}
use Rattle.fab_base.specs.Fabric.{same_enode}
use Rattle.keepalive_clock.specs.Clock.{last_of, ForgetsVoice}
use Rattle.keepalive_clock.specs.declared.voice.LastHeard.{LastHeard}
use Rattle.keepalive_clock.specs.declared.voice.Voice.{Voice}
use Rattle.keepalive_clock.specs.declared.voice.Voice.TheVariants.{Node, Port}
use Rattle.login_table.specs.Logins.{next_of}
use Rattle.login_table.specs.declared.login.Login.{Login}
use Rattle.fab_roster.specs.Agreement.{is_silenced}

-- some login passes where the first from 0 on is found
pub first_any : (p : Login → Bool) (ls : List Login) → is_some (next_of p 0 ls) ≡ list_any p ls
first_any p [] = refl
first_any p (l ∷ ls) = grind (arith, nat_tests, first_any p ls)

module _ (ls : List Login) (gone : Login) (xs ys zs : List LastHeard) (port : ForgetsVoice (Port gone.address) xs ys) where
  -- another login of the ENode is left
  pub left_one : list_any (λ l. same_enode l.enode gone.enode) ls ≡ true → (v : Voice) → last_of v ys ≡ (if is_silenced ls gone v then None else last_of v xs)
  left_one h (Port a) = port (Port a)
  left_one h (Node x) = port (Node x)
      ∙ ap (λ b. if b then None else last_of (Node x) xs) (sym (ap (λ y. same_enode gone.enode x && not y) h ∙ and-false (same_enode gone.enode x)))

  -- none is left
  pub left_none : list_any (λ l. same_enode l.enode gone.enode) ls ≡ false → ForgetsVoice (Node gone.enode) ys zs → (v : Voice) →
      last_of v zs ≡ (if is_silenced ls gone v then None else last_of v xs)
  left_none h node (Port a) = node (Port a) ∙ port (Port a)
  left_none h node (Node x) = node (Node x)
      ∙ (ap (λ o. if same_enode gone.enode x then None else o) (port (Node x))
      ∙ ap (λ b. if b then None else last_of (Node x) xs) (sym (ap (λ y. same_enode gone.enode x && not y) h ∙ and-true (same_enode gone.enode x))))
