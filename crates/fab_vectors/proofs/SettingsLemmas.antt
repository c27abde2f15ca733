-- The configuration is in its ranges.
use Rattle.std.proofs.Common.{◌≡◌, Bool, true, false, ◌&&◌, ◌==◌, nat_le, nat_lt, List, [], length, IsTrue, refl, sym, subst}
use Rattle.std.specs.Fmt.{digits}
use Rattle.std.specs.List.{list_all}
use Rattle.std.specs.Prelude.{sum_by}
use Rattle.fab_config.specs.Settings.{Settings, is_in_range, is_zone_name, same_bytes, all_differ, are_zones}
use Rattle.fab_config.specs.declared.Zone.{Zone}
use Rattle.fab_config.specs.declared.ZoneSet.{ZoneSet}
use Rattle.fab_config.specs.declared.Activation.{Activation}
use Rattle.fab_vectors.specs.Settings.{members, zones, settings}

-- the settings of a load with other lists
abbrev pub with_lists : List Zone → List ZoneSet → List Activation → Settings
with_lists zs sets activations = record settings { zones = zs; sets = sets; activations = activations }

all_of : (a b c d : Bool) → a ≡ true → b ≡ true → c ≡ true → d ≡ true → (a && b && c && d) ≡ true
all_of true true true true p q r s = refl
all_of false b c d p q r s = absurd (cc)
all_of true false c d p q r s = absurd (cc)
all_of true true false d p q r s = absurd (cc)
all_of true true true false p q r s = absurd (cc)

are_named : list_all (λ z. is_zone_name z.name && nat_lt 0 (length z.members) && all_differ (λ x y. x == y) z.members) zones ≡ true
unfolding zones members digits
are_named = refl

do_differ : all_differ (λ x y. same_bytes x.name y.name) zones ≡ true
unfolding zones members digits
do_differ = refl

are_few : nat_le (length zones) 1000 ≡ true
unfolding zones members digits
are_few = refl

have_few : nat_le (sum_by (λ z. length z.members) zones) 20000 ≡ true
unfolding zones members digits
have_few = refl

zones_fit : are_zones zones ≡ true
zones_fit = all_of _ _ _ _ are_named do_differ are_few have_few

in_range : IsTrue (is_in_range settings)
in_range = all_of true (are_zones zones) true true refl zones_fit refl refl

pub kept : (zs : List Zone) (sets : List ZoneSet) (activations : List Activation) → zs ≡ zones → sets ≡ [] → activations ≡ [] → IsTrue (is_in_range (with_lists zs sets activations))
kept zs sets activations z s a =
    subst (λ l. IsTrue (is_in_range (with_lists l sets activations))) (sym z)
    (subst (λ l. IsTrue (is_in_range (with_lists zones l activations))) (sym s) (subst (λ l. IsTrue (is_in_range (with_lists zones [] l))) (sym a) in_range))
