-- What the changes of a table do to its names, and to what holds of every table.
use Rattle.std.proofs.Common.{◌≡◌, ℕ, ◌<◌, ◌==◌, List, length, if◌then◌else◌, Option, Some, None, refl, subst, arith}
use Rattle.std.proofs.lemmas.Bool.Decides.{nat_tests}
use Rattle.std.proofs.lemmas.List.{length-map}
use Rattle.fab_base.proofs.KeyedLemmas as keyed
use Rattle.fab_base.proofs.SamenessLemmas.{KeysDiffer-filter, KeysDiffer-insert, KeysDiffer-map, sameness_of_numbers}
use Rattle.login_table.specs.Logins.{Logins, address_of, name_of, login_at, named, added, with_size, sized, with_server, without, AscendFrom, NamesDiffer, IsSound}
use Rattle.login_table.specs.declared.login.Login.{Login}

-- ---- one more login

-- each name finds what it found, and that of the new login finds it
pub named-added : (x : Login) (k : ℕ) (ls : List Login) → AscendFrom k ls → login_at x.address ls ≡ None → named x.name ls ≡ None → (name : ℕ) →
    named name (added x ls) ≡ (if x.name == name then Some x else named name ls)
named-added x k ls ascend absent unnamed name = keyed.find-added address_of (λ l. l.name == name) x k ls ascend absent (λ this.
    let same : x.name ≡ name = grind (arith, nat_tests) in
    subst (λ n. named n ls ≡ None) same unnamed)

pub IsSound-added : (x : Login) (t : Logins) → IsSound t → length t.logins < t.limit → login_at x.address t.logins ≡ None → named x.name t.logins ≡ None →
    IsSound (record { limit = t.limit; logins = added x t.logins })
IsSound-added x t sound room absent unnamed = record {
  ascending = keyed.AscendFrom-added address_of x 0 t.logins sound.ascending (omega arith);
  names = subst NamesDiffer (keyed.insert-added address_of x 0 t.logins sound.ascending absent) (KeysDiffer-insert name_of ◌==◌ sameness_of_numbers x t.logins _ sound.names unnamed);
  bound = omega (arith, keyed.length-added address_of x 0 t.logins sound.ascending absent);
}

-- ---- one login less

pub IsSound-without : (a : ℕ) (t : Logins) → IsSound t → IsSound (record { limit = t.limit; logins = without a t.logins })
IsSound-without a t sound = record {
  ascending = keyed.AscendFrom-filter address_of _ 0 t.logins sound.ascending;
  names = KeysDiffer-filter name_of ◌==◌ sameness_of_numbers _ t.logins sound.names;
  bound = omega (arith, sound.bound, keyed.length-without address_of a t.logins);
}

-- ---- another receive size

sized-name : (a : ℕ) (size : Option ℕ) (l : Login) → name_of (sized a size l) ≡ name_of l
sized-name a size l = grind (arith, nat_tests)

pub IsSound-with_server : (a : ℕ) (size : Option ℕ) (t : Logins) → IsSound t → IsSound (record { limit = t.limit; logins = with_server a size t.logins })
IsSound-with_server a size t sound = record {
  ascending = keyed.AscendFrom-changed address_of (with_size size) (λ l. refl) a 0 t.logins sound.ascending;
  names = KeysDiffer-map name_of ◌==◌ sameness_of_numbers (sized a size) (sized-name a size) t.logins sound.names;
  bound = omega (arith, sound.bound, length-map t.logins (sized a size));
}
