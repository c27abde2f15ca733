-- The addresses of a pool that nobody had get their pasts, one after another.
use Rattle.std.proofs.Common.{◌≡◌, ℕ, zero, suc, ◌+◌, ◌≤◌, ◌==◌, Bool, true, false, if◌then◌else◌, List, [], ◌∷◌, ◌++◌, map, Option, Some, None, IfSome, unwrap_or, refl, sym, ◌∙◌, ap, subst}
use Rattle.std.specs.List.{AllByRecursion}
use Rattle.std.proofs.lemmas.List.{append-nil}
use Rattle.fab_base.specs.Counting.{counting}
use Rattle.fab_base.specs.Fabric.{Past, past_at}
use Rattle.fc_addresses.specs.Pool.{ended_at, held, never_had, unused}
use Rattle.fab_policy.specs.State.{now_of}
use Rattle.fab_roster.specs.Changes.{IsSoundRoll, KeepsBounds}
use Rattle.fab_roster.specs.Restoring.{Had}
use Rattle.fab_roster.specs.Roll.{Roll}
use Rattle.forward_core.specs.Restoring.{AddsPast, AddsPasts, AwaitsPasts, past_left, without_holder}
use Rattle.forward_core.proofs.MiddleLemmas.{all_middle, counted_ascend, found_middle, is_equal, moved, moved_on, put_middle}

-- ---- pasts

pub blanks : (P : List Past) (first n : ℕ) → map (λ (q : Past). q.address) P ≡ counting first n → map (λ (q : Past). never_had q.address) P ≡ unused first n
blanks [] first zero e = refl
blanks [] first (suc n) e = absurd (cc)
blanks (q ∷ P) first zero e = absurd (cc)
blanks (q ∷ P) first (suc n) e =
    let head : q.address ≡ first = cc in
    let rest : map (λ (x : Past). x.address) P ≡ counting (first + 1) n = cc in
    ap (λ a. never_had a ∷ map (λ (x : Past). never_had x.address) P) head ∙ ap (λ l. never_had first ∷ l) (blanks P (first + 1) n rest)

pub left_address : (a : ℕ) (name ended : Option ℕ) → (past_left a name ended).address ≡ a
left_address a (Some name) (Some end) = refl
left_address a (Some name) None = refl
left_address a None ended = refl

-- the addresses of what is there and what is still to come
left_places : (xs ys : List Past) → map (λ (q : Past). q.address) (map without_holder xs ++ map (λ (q : Past). never_had q.address) ys) ≡ map (λ (q : Past). q.address) (xs ++ ys)
left_places [] [] = refl
left_places [] (y ∷ ys) = ap (λ l. y.address ∷ l) (left_places [] ys)
left_places (x ∷ xs) ys =
    ap (λ a. a ∷ map (λ (q : Past). q.address) (map without_holder xs ++ map (λ (q : Past). never_had q.address) ys)) (left_address x.address x.name x.ended)
    ∙ ap (λ l. x.address ∷ l) (left_places xs ys)

-- ---- one past

pub same_bounds : (r : Roll) → KeepsBounds r r
same_bounds r = record { lowest = refl; count = refl; limit = refl; period = refl }

-- no login had the address until it ended
pub adds_nothing : (q : Past) (r : Roll) → past_at q.address r.tables.past ≡ Some (never_had q.address) → past_left q.address q.name q.ended ≡ never_had q.address → AddsPast q r r
adds_nothing q r unused is = record {
  bounds = same_bounds r;
  clock = refl;
  ports = refl;
  places = refl;
  past = λ b. go b (q.address == b) refl;
}
  where
    go : (b : ℕ) (c : Bool) → q.address == b ≡ c → past_at b r.tables.past ≡ (if c then Some (without_holder q) else past_at b r.tables.past)
    go b true e = ap (λ a. past_at a r.tables.past) (sym (is_equal q.address b e)) ∙ unused ∙ ap Some (sym is)
    go b false e = refl

pub adds_had : (q : Past) (name end : ℕ) (old new : Roll) → past_left q.address q.name q.ended ≡ ended_at end (held q.address name) → Had q.address name end old new → AddsPast q old new
adds_had q name end old new is had = record {
  bounds = had.bounds;
  clock = had.clock;
  ports = had.ports;
  places = had.places;
  past = λ b. had.past b ∙ ap (λ x. if q.address == b then Some x else past_at b old.tables.past) (sym is);
}

-- ---- all

-- what is there after some of them
pub record PastsSoFar (P rest : List Past) (old r : Roll) : Type 0 where
  pub done : List Past
  pub is : done ++ rest ≡ P
  pub bounds : KeepsBounds old r
  pub clock : r.tables.clock ≡ old.tables.clock
  pub ports : r.tables.ports ≡ old.tables.ports
  pub sound : IsSoundRoll r
  pub past_is : r.tables.past ≡ map without_holder done ++ map (λ (q : Past). never_had q.address) rest

pub pasts_begin : (P rest : List Past) (r : Roll) → rest ≡ P → AwaitsPasts P r → IsSoundRoll r → PastsSoFar P rest r r
pasts_begin P rest r all awaits sound = record {
  done = [];
  is = all;
  bounds = same_bounds r;
  clock = refl;
  ports = refl;
  sound = sound;
  past_is = awaits.unused_yet ∙ sym (blanks P awaits.first awaits.count awaits.places) ∙ ap (map (λ (q : Past). never_had q.address)) (sym all);
}

module _ (P : List Past) (q : Past) (behind : List Past) (old r : Roll) (awaits : AwaitsPasts P old) (sofar : PastsSoFar P (q ∷ behind) old r) where
  places_here : map (λ (x : Past). x.address) (map without_holder sofar.done ++ map (λ (x : Past). never_had x.address) (q ∷ behind)) ≡ counting awaits.first awaits.count
  places_here = left_places sofar.done (q ∷ behind) ∙ ap (map (λ (x : Past). x.address)) sofar.is ∙ awaits.places

  pub unused_here : past_at q.address r.tables.past ≡ Some (never_had q.address)
  unused_here =
      ap (past_at q.address) sofar.past_is
      ∙ found_middle (λ (x : Past). x.address) awaits.first (map without_holder sofar.done) (never_had q.address) (map (λ (x : Past). never_had x.address) behind)
      (counted_ascend (λ (x : Past). x.address) (map without_holder sofar.done ++ map (λ (x : Past). never_had x.address) (q ∷ behind)) awaits.first awaits.count places_here)

  pub ended_here : IfSome q.ended (λ t. t ≤ now_of r.tables)
  ended_here =
      let ended : AllByRecursion (λ (x : Past). IfSome x.ended (λ t. t ≤ now_of old.tables)) (sofar.done ++ q ∷ behind) = subst (λ l. AllByRecursion (λ (x : Past). IfSome x.ended (λ t. t ≤ now_of old.tables)) l) (sym sofar.is) awaits.ended in
      subst (λ (k : Option ℕ). IfSome q.ended (λ t. t ≤ unwrap_or k 0)) (sym sofar.clock) (all_middle (λ (x : Past). IfSome x.ended (λ t. t ≤ now_of old.tables)) sofar.done q behind ended)

  pub pasts_go_on : (new : Roll) → AddsPast q r new → IsSoundRoll new → PastsSoFar P behind old new
  pasts_go_on new adds sound = record {
    done = sofar.done ++ q ∷ [];
    is = moved_on sofar.done q behind ∙ sofar.is;
    bounds = record {
      lowest = adds.bounds.lowest ∙ sofar.bounds.lowest;
      count = adds.bounds.count ∙ sofar.bounds.count;
      limit = adds.bounds.limit ∙ sofar.bounds.limit;
      period = adds.bounds.period ∙ sofar.bounds.period;
    };
    clock = adds.clock ∙ sofar.clock;
    ports = adds.ports ∙ sofar.ports;
    sound = sound;
    past_is = put ∙ sym (moved without_holder sofar.done q (map (λ (x : Past). never_had x.address) behind));
  }
    where
      put : new.tables.past ≡ map without_holder sofar.done ++ without_holder q ∷ map (λ (x : Past). never_had x.address) behind
      put = put_middle (λ (x : Past). x.address) awaits.first awaits.count (map without_holder sofar.done) (map (λ (x : Past). never_had x.address) behind) (never_had q.address) (without_holder q) new.tables.past
          places_here (adds.places ∙ ap (map (λ (x : Past). x.address)) sofar.past_is ∙ places_here) (left_address q.address q.name q.ended)
          (λ b. adds.past b ∙ ap (λ l. if q.address == b then Some (without_holder q) else past_at b l) sofar.past_is)

pub pasts_end : (P rest : List Past) (old r : Roll) → PastsSoFar P rest old r → rest ≡ [] → AddsPasts P old r
pasts_end P rest old r sofar none = record {
  bounds = sofar.bounds;
  clock = sofar.clock;
  ports = sofar.ports;
  past_is = sofar.past_is ∙ ap (λ l. map without_holder sofar.done ++ map (λ (q : Past). never_had q.address) l) none ∙ append-nil (map without_holder sofar.done) ∙ ap (map without_holder) all;
}
  where
    all : sofar.done ≡ P
    all = sym (append-nil sofar.done) ∙ ap (λ l. sofar.done ++ l) (sym none) ∙ sofar.is
