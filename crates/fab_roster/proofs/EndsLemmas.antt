-- One end after another.
use Rattle.std.proofs.Common.{◌≡◌, ℕ, zero, suc, ◌+◌, ◌<◌, ◌≤◌, ◌==◌, ◌||◌, false, List, [], ◌∷◌, length, take, get_or, map, Option, None, if◌then◌else◌, unwrap_or, refl, sym, ap, ◌∙◌, arith}
use Rattle.std.proofs.lemmas.Bool.Decides.{nat_tests}
use Rattle.std.proofs.lemmas.List.Folds.{list_any_more}
use Rattle.std.proofs.lemmas.List.{length-map, take_all}
use Rattle.std.proofs.Math.ListN.{get_or-map}
use Rattle.fab_base.specs.Fabric.{Past}
use Rattle.fab_base.specs.Keyed.{AscendFrom}
use Rattle.login_table.specs.Logins.{address_of}
use Rattle.zone_rules.specs.Joined.{contains}
use Rattle.fab_policy.specs.Changes.{all_ended, ended_at}
use Rattle.fab_policy.specs.State.{LivePort, now_of, port_at}
use Rattle.fab_roster.specs.Changes.{Ends, EndsAll, KeepsBounds}
use Rattle.fab_roster.specs.Roll.{Login, Roll, addresses_of}

-- the login at a place has the address at that place
pub address_is : (items ls : List Login) (i : ℕ) (l : Login) → items ≡ ls → i < length items → l ≡ get_or items i l → (i < length (addresses_of ls)) × (l.address ≡ get_or (addresses_of ls) i l.address)
address_is items ls i l all lt is =
    let many : length (addresses_of ls) ≡ length items = length-map ls address_of ∙ ap length (sym all) in
    (omega (arith, many), ap address_of (is ∙ ap (λ xs. get_or xs i l) all) ∙ sym (get_or-map address_of ls i l))

-- all logins that there are
pub all_taken : (items ls : List Login) (i : ℕ) → items ≡ ls → length items ≤ i → take i (addresses_of ls) ≡ addresses_of ls
all_taken items ls i all le = let many : length (addresses_of ls) ≡ length items = length-map ls address_of ∙ ap length (sym all) in take_all i (addresses_of ls) (omega (arith, many))

-- ---- the first items of an ascending list don't hold the next one

above : (k : ℕ) (ids : List ℕ) (i d : ℕ) → AscendFrom (λ a. a) k ids → i < length ids → k ≤ get_or ids i d
above k [] i d h lt = absurd (omega arith)
above k (x ∷ ids) zero d h lt = h.0
above k (x ∷ ids) (suc i) d h lt = omega (arith, h.0, above (x + 1) ids i d h.1 (omega arith))

pub not_before : (k : ℕ) (ids : List ℕ) (i d : ℕ) → AscendFrom (λ a. a) k ids → i < length ids → contains (get_or ids i d) (take i ids) ≡ false
not_before k [] i d h lt = absurd (omega arith)
not_before k (x ∷ ids) zero d h lt = refl
not_before k (x ∷ ids) (suc i) d h lt =
    ap (λ b. b || contains (get_or ids i d) (take i ids)) (other x (get_or ids i d) (above (x + 1) ids i d h.1 (omega arith)))
    ∙ not_before (x + 1) ids i d h.1 (omega arith)
  where
    other : (y z : ℕ) → y + 1 ≤ z → y == z ≡ false
    other y z le = grind (arith, nat_tests)

-- ---- one more end

keeps_bounds : (r s t : Roll) → KeepsBounds r s → KeepsBounds s t → KeepsBounds r t
keeps_bounds r s t f g = record { lowest = g.lowest ∙ f.lowest; count = g.count ∙ f.count; limit = g.limit ∙ f.limit; period = g.period ∙ f.period }

map_twice : (f g h : Past → Past) → ((p : Past) → g (f p) ≡ h p) → (l : List Past) → map g (map f l) ≡ map h l
map_twice f g h same [] = refl
map_twice f g h same (p ∷ l) = grind (arith, same p, map_twice f g h same l)

pub ends_none : (r : Roll) → EndsAll [] r r
ends_none r = record {
  bounds = record { lowest = refl; count = refl; limit = refl; period = refl };
  clock = refl;
  past = sym (same r.tables.past);
  ports = λ b. refl;
}
  where
    same : (l : List Past) → map (all_ended [] (now_of r.tables)) l ≡ l
    same [] = refl
    same (p ∷ l) = ap (λ m. p ∷ m) (same l)

module _ (ids : List ℕ) (i a : ℕ) (lt : i < length ids) (at : a ≡ get_or ids i a) where
  more : (b : ℕ) → contains b (take (i + 1) ids) ≡ (contains b (take i ids) || a == b)
  more b = list_any_more (λ y. y == b) ids i a lt ∙ ap (λ y. contains b (take i ids) || y == b) (sym at)

  one_past : (n : ℕ) (p : Past) → ended_at a n (all_ended (take i ids) n p) ≡ all_ended (take (i + 1) ids) n p
  one_past n p = grind (arith, nat_tests, more p.address)

  one_port : (b : ℕ) (o : Option LivePort) → (if b == a then None else if contains b (take i ids) then None else o) ≡ (if contains b (take (i + 1) ids) then None else o)
  one_port b o = grind (arith, nat_tests, more b)

  pub ends_more : (old mid new : Roll) → EndsAll (take i ids) old mid → Ends a mid new → EndsAll (take (i + 1) ids) old new
  ends_more old mid new f g = record {
    bounds = keeps_bounds old mid new f.bounds g.bounds;
    clock = g.clock ∙ f.clock;
    past = g.past ∙ (ap (λ (o : Option ℕ). map (ended_at a (unwrap_or o 0)) mid.tables.past) f.clock
        ∙ (ap (λ l. map (ended_at a (now_of old.tables)) l) f.past ∙ map_twice _ _ _ (one_past (now_of old.tables)) old.tables.past));
    ports = λ b. g.ports b ∙ (ap (λ o. if b == a then None else o) (f.ports b) ∙ one_port b (port_at b old.tables.ports));
  }
