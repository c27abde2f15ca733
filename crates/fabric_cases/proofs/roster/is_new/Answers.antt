use Rattle.std.proofs.Common.{◌≡◌, ◌==◌, ◌||◌, Bool, true, false, not, cond, List, [], ◌∷◌, Option, Some, None, Bor, find, option_copied, option_map, is_some, refl, sym, ap, ◌∙◌}
use Rattle.std.specs.List.{list_any}
use Rattle.login_table.specs.declared.login.Login.{Login}
use Rattle.fab_policy.specs.State.{LivePort}
use Rattle.fab_roster.proofs.Found.{true_false}
use Rattle.fab_roster.specs.Roll.{login_of}
use Rattle.fabric_cases.proofs.roster.is_new.Goals as goal

some_copied : (o : Option (Bor Login)) → is_some (option_copied o) ≡ is_some o
some_copied None = refl
some_copied (Some l) = refl

no_any : (p : LivePort → Bool) (xs : List LivePort) → is_some (option_map login_of (find p xs)) ≡ false → list_any p xs ≡ false
no_any p [] e = refl
no_any p (x ∷ xs) e = go (p x) e (no_any p xs)
  where
    go : (b : Bool) → is_some (option_map login_of (cond b (Some x) (find p xs))) ≡ false → (is_some (option_map login_of (find p xs)) ≡ false → list_any p xs ≡ false) → b || list_any p xs ≡ false
    go true i ih = absurd (true_false i)
    go false i ih = ih i

pub returns : goal.returns
returns c = λ yes.
    no_any (λ p. p.name == c.args.name) c.args.roster.now.tables.ports
    (sym (ap (λ o. is_some o) c.by_name.ensures) ∙ some_copied c.by_name.result ∙ c.is_none.ensures ∙ ap not yes)
