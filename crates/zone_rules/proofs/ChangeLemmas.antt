-- The first moment above another is the least, where the moments rise.
use Rattle.std.proofs.Common.{◌≡◌, ℕ, ◌<◌, ◌≤◌, List, [], ◌∷◌, map, Bool, true, false, cond, ltb, Option, Some, None, find, refl, sym, subst, arith}
use Rattle.std.specs.Prelude.{IsTrue}
use Rattle.std.specs.List.{All}
use Rattle.std.specs.Option.{option_map}
use Rattle.std.proofs.lemmas.Bool.{ltb-true, ltb-false, and_parts}
use Rattle.std.proofs.lemmas.List.Elements.{All-nil, All-cons, All-weaker, Contains-append_right}
use Rattle.fab_config.specs.Settings.{do_rise}
use Rattle.fab_config.specs.declared.Activation.{Activation}
use Rattle.zone_rules.specs.Joined.{next_change, IsNextChange}

later : (x : Activation) (l : List Activation) → do_rise (x ∷ l) ≡ true → All (λ a. x.moment ≤ a.moment) l
later x [] rise = All-nil (λ (a : Activation). x.moment ≤ a.moment)
later x (y ∷ l) rise =
    let both = and_parts (ltb x.moment y.moment) (do_rise (y ∷ l)) rise in
    let low : x.moment < y.moment = ltb-true x.moment y.moment both.0 in
    All-cons (λ (a : Activation). x.moment ≤ a.moment) y l (omega (arith, low)) (All-weaker (λ (a : Activation). y.moment ≤ a.moment) (λ (a : Activation). x.moment ≤ a.moment) (λ a h. omega (arith, low, h)) l (later y l both.1))

rest_rises : (x : Activation) (l : List Activation) → do_rise (x ∷ l) ≡ true → do_rise l ≡ true
rest_rises x [] rise = refl
rest_rises x (y ∷ l) rise = (and_parts (ltb x.moment y.moment) (do_rise (y ∷ l)) rise).1

least : (after : ℕ) (l : List Activation) → do_rise l ≡ true → IsNextChange l after (next_change l after)
least after [] rise = All-nil (λ (a : Activation). a.moment ≤ after)
least after (x ∷ l) rise = by (ltb after x.moment) refl (least after l (rest_rises x l rise))
  where
    more : (o : Option ℕ) → x.moment ≤ after → IsNextChange l after o → IsNextChange (x ∷ l) after o
    more None le h = All-cons (λ (a : Activation). a.moment ≤ after) x l le h
    more (Some m) le h = (
      h.0,
      Contains-append_right (x.moment ∷ []) (map (λ (a : Activation). a.moment) l) m h.1,
      All-cons (λ (a : Activation). after < a.moment → m ≤ a.moment) x l (λ lt. absurd (omega (arith, lt, le))) h.2,
    )

    by : (t : Bool) → ltb after x.moment ≡ t → IsNextChange l after (next_change l after)
        → IsNextChange (x ∷ l) after (option_map (λ (a : Activation). a.moment) (cond t (Some x) (find (λ (a : Activation). ltb after a.moment) l)))
    by true e h = (
      ltb-true after x.moment e,
      (0, omega arith, refl),
      All-cons (λ (a : Activation). after < a.moment → x.moment ≤ a.moment) x l (λ lt. omega arith) (All-weaker (λ (a : Activation). x.moment ≤ a.moment) (λ (a : Activation). after < a.moment → x.moment ≤ a.moment) (λ a le lt. le) l (later x l rise)),
    )
    by false e h = more (next_change l after) (ltb-false after x.moment e) h

pub first_is_least : (l : List Activation) (after : ℕ) (o : Option ℕ) → o ≡ next_change l after → IsTrue (do_rise l) → IsNextChange l after o
first_is_least l after o is rise = subst (IsNextChange l after) (sym is) (least after l rise)
