-- Where no activation comes between two moments, the same names are joined at both.
use Rattle.std.proofs.Common.{◌≡◌, ℕ, ◌&&◌, ◌||◌, not, nat_le, nat_eq, Bool, true, false, cond, List, [], ◌∷◌, ◌++◌, map, filter, find, flat_map, reverse, Some, None, option_map, refl, sym, ap, subst, ◌∙◌}
use Rattle.std.proofs.lemmas.List.{append-nil, reverse-append}
use Rattle.std.proofs.lemmas.List.Elements.{All-nil, All-cons, All-head, All-tail, filter_agree}
use Rattle.std.proofs.lemmas.List.Folds.{find-append}
use Rattle.std.specs.List.{All, list_any}
use Rattle.std.specs.Option.{option_or}
use Rattle.fab_config.specs.Settings.{Settings}
use Rattle.fab_config.specs.declared.Activation.{Activation}
use Rattle.fab_config.specs.declared.Zone.{Zone}
use Rattle.fab_config.specs.declared.ZoneSet.{ZoneSet}
use Rattle.zone_rules.specs.Joined.{contains, has_zone_of, is_active, is_other, joined}
use Rattle.fab_policy.specs.Outputs.{differs, is_watcher, told}
use Rattle.fab_policy.specs.State.{LivePort, Tables}
use Rattle.fab_sending.specs.declared.message.Out.{Out}
use Rattle.fab_sending.proofs.Finding.{filter-none}
use Rattle.fab_sending.specs.Counting.{is_turned, with_changes}
use Rattle.fab_sending.specs.Notices.{staying_at, told_of_change}

abbrev Stays : ℕ → ℕ → Activation → Type 0
Stays since at a = is_turned since at a ≡ false

none_turns : (since at : ℕ) (xs : List Activation) → list_any (is_turned since at) xs ≡ false → All (Stays since at) xs
none_turns since at [] e = All-nil (Stays since at)
none_turns since at (x ∷ xs) e = go (is_turned since at x) refl e (none_turns since at xs)
  where
    go : (b : Bool) → is_turned since at x ≡ b → b || list_any (is_turned since at) xs ≡ false → (list_any (is_turned since at) xs ≡ false → All (Stays since at) xs) → All (Stays since at) (x ∷ xs)
    go true t none rest = cc
    go false t none rest = All-cons (Stays since at) x xs t (rest none)

same_test : (b c : Bool) → is_other b c ≡ false → b ≡ c
same_test true true e = refl
same_test true false e = cc
same_test false true e = cc
same_test false false e = refl

abbrev come_by : ℕ → Activation → Bool
come_by m a = nat_le a.moment m

same_found : (since at : ℕ) (xs : List Activation) → All (Stays since at) xs → find (come_by since) (reverse xs) ≡ find (come_by at) (reverse xs)
same_found since at [] h = refl
same_found since at (a ∷ xs) h =
    ap (find (come_by since)) (reverse-append (a ∷ []) xs) ∙ find-append (come_by since) (reverse xs) (a ∷ [])
    ∙ ap (λ o. option_or o (cond (come_by since a) (Some a) None)) (same_found since at xs (All-tail (Stays since at) a xs h))
    ∙ ap (λ b. option_or (find (come_by at) (reverse xs)) (cond b (Some a) None)) (same_test (come_by since a) (come_by at a) (All-head (Stays since at) a xs h))
    ∙ sym (ap (find (come_by at)) (reverse-append (a ∷ []) xs) ∙ find-append (come_by at) (reverse xs) (a ∷ []))

same_joined : (zones : List Zone) (sets : List ZoneSet) (xs : List Activation) (since at x y : ℕ) → All (Stays since at) xs → joined zones sets xs since x y ≡ joined zones sets xs at x y
unfolding joined
same_joined zones sets xs since at x y h =
    ap (λ o. not (nat_eq x y) && has_zone_of (is_active sets (option_map (λ (a : Activation). a.set) o)) x y 0 zones) (same_found since at xs h)

never_differs : (c : Settings) (since at x y : ℕ) → All (Stays since at) c.activations → differs c since at x y ≡ false
never_differs c since at x y h =
    ap (λ b. is_other b (joined c.zones c.sets c.activations at x y)) (same_joined c.zones c.sets c.activations since at x y h) ∙ itself (joined c.zones c.sets c.activations at x y)
  where
    itself : (b : Bool) → is_other b b ≡ false
    itself true = refl
    itself false = refl

none_told : (c : Settings) (since at name : ℕ) (but : List ℕ) (ports : List LivePort) → All (Stays since at) c.activations →
    filter (λ w. not (contains w.address but) && is_watcher w && differs c since at w.name name) ports ≡ []
none_told c since at name but ports h =
    filter_agree (λ w. not (contains w.address but) && is_watcher w && differs c since at w.name name) (λ w. false)
    (λ w. ap (λ b. not (contains w.address but) && is_watcher w && b) (never_differs c since at w.name name h) ∙ never (not (contains w.address but) && is_watcher w)) ports
    ∙ filter-none ports
  where
    never : (b : Bool) → b && false ≡ false
    never true = refl
    never false = refl

nothing_told : (c : Settings) (T : Tables) (since at : ℕ) (but : List ℕ) (ports : List LivePort) → All (Stays since at) c.activations → flat_map (told_of_change c T since at but) ports ≡ []
nothing_told c T since at but [] h = refl
nothing_told c T since at but (p ∷ ports) h =
    ap (λ ws. map (λ w. told w p.address) ws ++ flat_map (told_of_change c T since at but) ports) (none_told c since at p.name but T.ports h) ∙ nothing_told c T since at but ports h

-- nothing is added
pub stays_told : (c : Settings) (T : Tables) (m first since : ℕ) (but : List ℕ) (outs : List Out) (xs : List Activation) → xs ≡ c.activations → list_any (is_turned since m) xs ≡ false →
    outs ≡ with_changes m first outs (flat_map (told_of_change c T since m but) (staying_at c T m))
stays_told c T m first since but outs xs is h =
    sym (append-nil outs) ∙ ap (with_changes m first outs) (sym (nothing_told c T since m but (staying_at c T m) (subst (All (Stays since m)) is (none_turns since m xs h))))
