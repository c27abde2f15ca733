-- What holds of each of some frames also holds of each of them in order.
use Rattle.std.specs.Prelude.{nat_le, Bool, true, false, cond, List, [], ◌∷◌, ◌++◌}
use Rattle.fip_snoop.specs.Bridge.{Arrival, with_arrival, in_order}

module _ (P : Arrival → Type 0) where
  -- it holds of each of these
  abbrev pub Each : List Arrival → Type 0
  Each [] = Unit {0}
  Each (a ∷ more) = P a × Each more

  pub each_both : (xs ys : List Arrival) → Each xs → Each ys → Each (xs ++ ys)
  each_both [] ys one other = other
  each_both (x ∷ xs) ys one other = (one.0, each_both xs ys one.1 other)

  each_with : (x : Arrival) (ys : List Arrival) → P x → Each ys → Each (with_arrival x ys)
  each_with x [] is all = (is, tt)
  each_with x (y ∷ ys) is all = go (nat_le x.moment y.moment) (each_with x ys is all.1)
    where
      go : (b : Bool) → Each (with_arrival x ys) → Each (cond b (x ∷ y ∷ ys) (y ∷ with_arrival x ys))
      go true later = (is, all)
      go false later = (all.0, later)

  pub each_in_order : (xs : List Arrival) → Each xs → Each (in_order xs)
  each_in_order [] all = tt
  each_in_order (x ∷ xs) all = each_with x (in_order xs) all.0 (each_in_order xs all.1)

-- what follows from it holds of each too
pub each_weaker : (P Q : Arrival → Type 0) → ((a : Arrival) → P a → Q a) → (xs : List Arrival) → Each P xs → Each Q xs
each_weaker P Q weaker [] all = tt
each_weaker P Q weaker (x ∷ xs) all = (weaker x all.0, each_weaker P Q weaker xs all.1)
