-- Look-ups in the list of N_Ports that the tables make are look-ups among logins.
use Rattle.std.proofs.Common.{◌≡◌, ℕ, ◌==◌, ◌&&◌, nat_le, Bool, List, [], ◌∷◌, map, find, Option, Some, None, option_map, IsSome, refl, sym, ap, ◌∙◌, arith}
use Rattle.std.proofs.lemmas.Bool.Decides.{nat_tests}
use Rattle.std.specs.List.{list_any}
use Rattle.fab_config.proofs.ListLemmas.{any_map}
use Rattle.login_table.specs.Logins.{login_at, named, next_of}
use Rattle.login_table.specs.declared.login.Login.{Login}
use Rattle.fab_policy.specs.State.{LivePort, port_at}
use Rattle.fab_roster.specs.Roll.{Roll, live_of, login_of, ports_of, roll_of}
use Rattle.fab_roster.specs.declared.roster.Roster.TheInside.{Inside}
use Rattle.fab_roster.proofs.Found.{item_at-key, some_found}

-- a list whose items are changed and pass as before
pub find_map : {X Y : Type 0} (f : X → Y) (p : Y → Bool) (q : X → Bool) (xs : List X) → ((x : X) → p (f x) ≡ q x) → find p (map f xs) ≡ option_map f (find q xs)
find_map f p q [] same = refl
find_map f p q (x ∷ xs) same = grind (arith, nat_tests, same x, find_map f p q xs same)

pub option_map-map : {X Y Z : Type 0} (g : Y → Z) (f : X → Y) (o : Option X) → option_map g (option_map f o) ≡ option_map (λ x. g (f x)) o
option_map-map g f None = refl
option_map-map g f (Some x) = refl

pub option_map-same : {X : Type 0} (f : X → X) (o : Option X) → ((x : X) → f x ≡ x) → option_map f o ≡ o
option_map-same f None same = refl
option_map-same f (Some x) same = ap (λ y. Some y) (same x)

-- the login that is found has the address, and is found there
pub found_login : (a : ℕ) (ports : List LivePort) (l : Login) → Some l ≡ option_map login_of (port_at a ports) → (l.address ≡ a) × (option_map login_of (port_at l.address ports) ≡ Some l)
found_login a ports l e =
    let at = go (port_at a ports) refl e in
    (at, ap (λ b. option_map login_of (port_at b ports)) at ∙ sym e)
  where
    go : (o : Option LivePort) → port_at a ports ≡ o → Some l ≡ option_map login_of o → l.address ≡ a
    go None f i = cc
    go (Some p) f i = let is : l ≡ login_of p = cc in ap (λ (x : Login). x.address) is ∙ item_at-key (λ (x : LivePort). x.address) a ports p f

pub none_found : {X : Type 0} (f : LivePort → X) (o : Option LivePort) → None ≡ option_map login_of o → None ≡ option_map f o
none_found f None e = refl
none_found f (Some p) e = cc

module _ (t : Inside) where
  -- the N_Port of an address is what the tables say of its login
  pub port_of_login : (a : ℕ) → port_at a (ports_of t) ≡ option_map (live_of t) (login_at a t.logins.logins)
  port_of_login a = find_map (live_of t) (λ p. p.address == a) (λ l. l.address == a) t.logins.logins (λ l. refl)

  -- an address with a login is live
  pub live_there : (a : ℕ) (l : Login) → login_at a t.logins.logins ≡ Some l → port_at a (ports_of t) ≡ Some (live_of t l)
  live_there a l e = port_of_login a ∙ ap (λ o. option_map (live_of t) o) e

  -- ---- what the roll says

  module _ {R : Roll} (view : roll_of t ≡ R) where
    -- a test that asks an N_Port for no more than its login finds that login
    pub login_found : (p : LivePort → Bool) (q : Login → Bool) → ((l : Login) → p (live_of t l) ≡ q l) → find q t.logins.logins ≡ option_map login_of (find p R.tables.ports)
    login_found p q as_login =
        sym (ap (λ o. option_map login_of o) (find_map (live_of t) p q t.logins.logins as_login) ∙ (option_map-map login_of (live_of t) (find q t.logins.logins) ∙ option_map-same _ (find q t.logins.logins) (λ l. refl)))
        ∙ ap (λ (r : Roll). option_map login_of (find p r.tables.ports)) view

    pub login_of_port : (a : ℕ) → login_at a t.logins.logins ≡ option_map login_of (port_at a R.tables.ports)
    login_of_port a = login_found (λ p. p.address == a) (λ l. l.address == a) (λ l. refl)

    pub login_named : (n : ℕ) → named n t.logins.logins ≡ option_map login_of (find (λ (p : LivePort). p.name == n) R.tables.ports)
    login_named n = login_found (λ p. p.name == n) (λ l. l.name == n) (λ l. refl)

    -- the next address
    pub next_port : (k : ℕ) (p : LivePort → Bool) (q : Login → Bool) → ((l : Login) → p (live_of t l) ≡ (nat_le k l.address && q l)) →
        next_of q k t.logins.logins ≡ option_map (λ (p : LivePort). p.address) (find p R.tables.ports)
    next_port k p q as_login =
        ap (λ o. option_map (λ l. l.address) o) (login_found p (λ l. nat_le k l.address && q l) as_login)
        ∙ option_map-map (λ (l : Login). l.address) login_of (find p R.tables.ports)

    -- some login passes where some N_Port does
    pub any_login : (p : LivePort → Bool) (q : Login → Bool) → ((l : Login) → p (live_of t l) ≡ q l) → list_any q t.logins.logins ≡ list_any p R.tables.ports
    any_login p q as_login = sym (any_map p (live_of t) t.logins.logins ∙ each t.logins.logins) ∙ ap (λ (r : Roll). list_any p r.tables.ports) view
      where
        each : (xs : List Login) → list_any (λ l. p (live_of t l)) xs ≡ list_any q xs
        each [] = refl
        each (x ∷ xs) = grind (arith, nat_tests, as_login x, each xs)

    -- a live address has its login
    pub login_there : (a : ℕ) → IsSome (port_at a R.tables.ports) → (l : Login) × (login_at a t.logins.logins ≡ Some l)
    login_there a h = let f = some_found (port_at a R.tables.ports) h in (login_of f.0, login_of_port a ∙ ap (λ o. option_map login_of o) f.1)
