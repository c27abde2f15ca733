-- What holds of a whole registry after each change, and why a registration is refused.
use Rattle.std.proofs.Common.{◌≡◌, ℕ, ◌<◌, List, length, get_or, Option, Some, None, refl, sym, ◌∙◌, ap, subst, arith}
use Rattle.std.specs.List.{All}
use Rattle.std.proofs.lemmas.List.{length-map}
use Rattle.std.proofs.lemmas.List.Elements.{All-filter, All-set}
use Rattle.fab_base.proofs.KeyedLemmas as keyed
use Rattle.ct_messages.specs.Ask.{Ask}
use Rattle.ct_messages.specs.Server.{Refusal, registration_refusal}
use Rattle.name_server.specs.Registry.{refusal, Registrations, Entry, IsKept, address_of, entry_at, added, updated, registered, with_registration, without, IsSound}

pub IsSound-added : (x : Entry) (t : Registrations) → IsSound t → length t.entries < t.room → entry_at x.address t.entries ≡ None → IsKept x.values →
    IsSound (record { room = t.room; entries = added x t.entries })
IsSound-added x t sound room absent kept = record {
  ascending = keyed.AscendFrom-added address_of x 0 t.entries sound.ascending (omega arith);
  kept = keyed.All-added address_of (λ e. IsKept e.values) x t.entries sound.kept kept;
  bound = omega (arith, keyed.length-added address_of x 0 t.entries sound.ascending absent);
}

pub IsSound-without : (a : ℕ) (t : Registrations) → IsSound t → IsSound (record { room = t.room; entries = without a t.entries })
IsSound-without a t sound = record {
  ascending = keyed.AscendFrom-filter address_of _ 0 t.entries sound.ascending;
  kept = All-filter _ (λ e. IsKept e.values) t.entries sound.kept;
  bound = omega (arith, sound.bound, keyed.length-without address_of a t.entries);
}

pub IsSound-with_registration : (a : ℕ) (ask : Ask) (t : Registrations) (i : ℕ) (d : Entry) → IsSound t → keyed.IsPlace address_of a t.entries i →
    IsKept (updated ask (get_or t.entries i d)).values → IsSound (record { room = t.room; entries = with_registration a ask t.entries })
IsSound-with_registration a ask t i d sound place kept = record {
  ascending = keyed.AscendFrom-changed address_of (updated ask) (λ e. refl) a 0 t.entries sound.ascending;
  kept = subst (λ l. All (λ e. IsKept e.values) l) (place.write (updated ask) d) (All-set (λ e. IsKept e.values) t.entries i _ kept sound.kept);
  bound = omega (arith, sound.bound, length-map t.entries (registered a ask));
}

-- the refusal of the entry that is found
pub refusal-here : (a : ℕ) (ask : Ask) (ls : List Entry) (e : Entry) (b n : ℕ) (why : Option Refusal) → entry_at a ls ≡ Some e → b ≡ e.address → n ≡ e.values.node_name →
    why ≡ registration_refusal b n ask → refusal ask (entry_at a ls) ≡ why
refusal-here a ask ls e b n why here address name is =
    ap (refusal ask) here
    ∙ sym (is ∙ ap (λ x. registration_refusal x n ask) address ∙ ap (λ x. registration_refusal e.address x ask) name)
