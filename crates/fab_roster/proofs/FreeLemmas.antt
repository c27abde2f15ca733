-- Which addresses may be granted, by the pool and the logins.
use Rattle.std.proofs.Common.{◌≡◌, ℕ, ◌==◌, ◌&&◌, ◌||◌, Bool, true, false, List, [], ◌∷◌, find, Option, Some, None, option_map, IfSome, IsTrue, is_some, refl, sym, ap, subst, ◌∙◌, arith}
use Rattle.std.proofs.Math.Bool.{and-false}
use Rattle.std.proofs.lemmas.Bool.Decides.{nat_tests}
use Rattle.std.specs.Option.{option_map_or}
use Rattle.fab_base.specs.Fabric.{Past, past_at, same_enode, may_have}
use Rattle.fc_addresses.specs.Pool as pool
use Rattle.login_table.specs.Logins.{NamesDiffer, login_at, named, address_of}
use Rattle.login_table.specs.declared.login.Login.{Login}
use Rattle.fab_policy.specs.Free.{Request, is_open, is_free, has_free}
use Rattle.fab_policy.specs.State.{LivePort, Tables, now_of, port_at}
use Rattle.fab_roster.specs.Agreement.{Agree, IsHeldBy}
use Rattle.fab_roster.specs.Roll.{live_of, roll_of}
use Rattle.fab_roster.specs.declared.roster.Roster.TheInside.{Inside}
use Rattle.fab_roster.proofs.Found.{equal, find-item_at, item_at-key, true_false}
use Rattle.fab_roster.proofs.Lookups.{live_there, port_of_login}

-- ---- look-ups

find-some : {X : Type 0} (p q : X → Bool) (xs : List X) (x : X) → find q xs ≡ Some x → p x ≡ true → is_some (find p xs) ≡ true
find-some p q [] x e t = cc
find-some p q (y ∷ xs) x e t = grind (arith, nat_tests, λ (later : find q xs ≡ Some x). find-some p q xs x later t)

-- where no item passes one test, and all that pass another pass it too, none passes the other
find-none : {X : Type 0} (p q : X → Bool) (xs : List X) → ((x : X) → q x ≡ false → p x ≡ false) → find q xs ≡ None → find p xs ≡ None
find-none p q [] weaker e = refl
find-none p q (x ∷ xs) weaker e = grind (arith, nat_tests, weaker x, λ (later : find q xs ≡ None). find-none p q xs weaker later)

-- a login is the one of its name
pub named_found : (a : ℕ) (ls : List Login) (l : Login) → NamesDiffer ls → login_at a ls ≡ Some l → named l.name ls ≡ Some l
named_found a [] l differ e = cc
named_found a (x ∷ ls) l differ e = grind (arith, nat_tests, differ.0, λ (later : login_at a ls ≡ Some l). named_found a ls l differ.1 later)

-- ---- the request

-- the login is one that a FLOGI of its own ENode and name replaces
abbrev pub replaces : Request → Login → Bool
replaces q l = q.flogi && same_enode l.enode q.enode && l.name == q.name

module _ {t : Inside} (agree : Agree t) (q : Request) where
  abbrev T : Tables
  T = (roll_of t).tables

  abbrev free_past : Option Past → Bool
  free_past o = elim o [ None ↦ false | Some p ↦ is_open T q p ]

  abbrev open_port : Past → Option LivePort → Bool
  open_port a o = elim o [
    | Some p ↦ q.flogi && same_enode p.enode q.enode && p.name == q.name
    | None ↦ may_have q.name (now_of T) a.name a.ended
  ]

  no_port : (a : ℕ) → login_at a t.logins.logins ≡ None → port_at a T.ports ≡ None
  no_port a none = port_of_login t a ∙ ap (λ o. option_map (live_of t) o) none

  -- an address with a login
  pub free_live : (a : ℕ) (l : Login) → login_at a t.logins.logins ≡ Some l → replaces q l ≡ is_free T q a
  free_live a l e =
      let past : past_at a t.pool ≡ Some (pool.held a l.name) = subst (λ o. IsHeldBy a t.pool o) e (agree.pool.held a) in
      sym (ap free_past past ∙ ap (λ o. open_port (pool.held a l.name) o) (live_there t a l e))

  -- an address without one
  pub free_dead : (a : ℕ) → login_at a t.logins.logins ≡ None → pool.is_free t.pool q.name (now_of T) a ≡ is_free T q a
  free_dead a none = go (past_at a t.pool) refl
    where
      go : (o : Option Past) → past_at a t.pool ≡ o → option_map_or (pool.is_open q.name (now_of T)) o false ≡ free_past o
      go None e = refl
      go (Some p) e = sym (ap (λ o. open_port p o) (ap (λ b. port_at b T.ports) (item_at-key (λ (x : Past). x.address) a t.pool p e) ∙ no_port a none))

  -- what is free for no FLOGI has no login
  pub free_absent : q.flogi ≡ false → (a : ℕ) → is_free T q a ≡ true → login_at a t.logins.logins ≡ None
  free_absent fdisc a free = go (login_at a t.logins.logins) refl
    where
      go : (o : Option Login) → login_at a t.logins.logins ≡ o → o ≡ None
      go None e = refl
      go (Some l) e = absurd (true_false (sym (free_live a l e ∙ free) ∙ ap (λ b. b && same_enode l.enode q.enode && l.name == q.name) fdisc))

  -- what the pool may give has no login
  pub pool_dead : (a : ℕ) → pool.is_free t.pool q.name (now_of T) a ≡ true → login_at a t.logins.logins ≡ None
  pool_dead a free = go (login_at a t.logins.logins) refl
    where
      go : (o : Option Login) → login_at a t.logins.logins ≡ o → o ≡ None
      go None e = refl
      go (Some l) e =
          let past : past_at a t.pool ≡ Some (pool.held a l.name) = subst (λ o. IsHeldBy a t.pool o) e (agree.pool.held a) in
          absurd (true_false (sym free ∙ ap (λ o. option_map_or (pool.is_open q.name (now_of T)) o false) past))

  pub free_pool : (a : ℕ) → pool.is_free t.pool q.name (now_of T) a ≡ true → is_free T q a ≡ true
  free_pool a free = sym (free_dead a (pool_dead a free)) ∙ free

  -- some address may be granted where one is
  pub has_one : (a : ℕ) → is_free T q a ≡ true → has_free T q ≡ true
  has_one a free = go (past_at a t.pool) refl free
    where
      go : (o : Option Past) → past_at a t.pool ≡ o → free_past o ≡ true → has_free T q ≡ true
      go None e i = absurd (true_false (sym i))
      go (Some p) e i = find-some (is_open T q) (λ x. x.address == a) t.pool p e i

  -- none may be granted
  pub has_none : pool.has_free t.pool q.name (now_of T) ≡ false → ((a : ℕ) (l : Login) → login_at a t.logins.logins ≡ Some l → replaces q l ≡ false) → has_free T q ≡ false
  has_none none others = go (find (pool.is_open q.name (now_of T)) t.pool) refl
    where
      by_login : (p : Past) → pool.is_open q.name (now_of T) p ≡ false → (o : Option Login) → login_at p.address t.logins.logins ≡ o → is_open T q p ≡ false
      by_login p f None e = ap (λ o. open_port p o) (no_port p.address e) ∙ f
      by_login p f (Some l) e = ap (λ o. open_port p o) (live_there t p.address l e) ∙ others p.address l e

      go : (o : Option Past) → find (pool.is_open q.name (now_of T)) t.pool ≡ o → has_free T q ≡ false
      go None e = ap (λ o. is_some o) (find-none (is_open T q) (pool.is_open q.name (now_of T)) t.pool (λ p f. by_login p f (login_at p.address t.logins.logins) refl) e)
      go (Some p) e = absurd (true_false (sym (ap (λ o. is_some o) e) ∙ none))

  -- ---- the login of the name

  -- no other login is replaced
  named_only : ((m : Login) → named q.name t.logins.logins ≡ Some m → replaces q m ≡ false) → (a : ℕ) (l : Login) → login_at a t.logins.logins ≡ Some l → replaces q l ≡ false
  named_only not a l e = go (l.name == q.name) refl
    where
      go : (b : Bool) → l.name == q.name ≡ b → replaces q l ≡ false
      go false f = ap (λ b. q.flogi && same_enode l.enode q.enode && b) f ∙ and-false (q.flogi && same_enode l.enode q.enode)
      go true f = not l (subst (λ n. named n t.logins.logins ≡ Some l) (equal l.name q.name f) (named_found a t.logins.logins l agree.logins.sound.names e))

  pub none_named : named q.name t.logins.logins ≡ None → (a : ℕ) (l : Login) → login_at a t.logins.logins ≡ Some l → replaces q l ≡ false
  none_named none = named_only (λ m found. cc)

  pub one_named : (m : Login) → named q.name t.logins.logins ≡ Some m → replaces q m ≡ false → (a : ℕ) (l : Login) → login_at a t.logins.logins ≡ Some l → replaces q l ≡ false
  one_named m found not = named_only (λ x at. let is : m ≡ x = cc in subst (λ (y : Login). replaces q y ≡ false) is not)

  -- the login of a name stands at its address
  pub at_name : (m : Login) → named q.name t.logins.logins ≡ Some m → login_at m.address t.logins.logins ≡ Some m
  at_name m found = find-item_at address_of (λ l. l.name == q.name) 0 t.logins.logins m agree.logins.sound.ascending found

  -- ---- what is found

  pub pool_free : (f : Option ℕ) → IfSome f (λ a. IsTrue (pool.is_free t.pool q.name (now_of T) a)) → IfSome f (λ a. IsTrue (is_free T q a))
  pool_free None h = tt
  pool_free (Some a) h = free_pool a h

  pub found_some : (o f : Option ℕ) → IfSome o (λ a. IsTrue (is_free T q a)) →
      (o ≡ None → (a : ℕ) (p : LivePort) → port_at a T.ports ≡ Some p → (q.flogi && same_enode p.enode q.enode && p.name == q.name) ≡ false) →
      IfSome f (λ a. IsTrue (is_free T q a)) → is_some f ≡ pool.has_free t.pool q.name (now_of T) → (is_some o || is_some f) ≡ has_free T q
  found_some (Some a) f own none free some = sym (has_one a own)
  found_some None (Some a) own none free some = sym (has_one a free)
  found_some None None own none free some =
      sym (has_none (sym some) (λ a l e. none refl a (live_of t l) (live_there t a l e)))
