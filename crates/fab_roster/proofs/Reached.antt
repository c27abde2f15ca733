-- Whom a change reaches, by the watchers and by the N_Ports.
use Rattle.std.proofs.Common.{◌≡◌, ℕ, ◌&&◌, Bool, false, not, List, [], ◌∷◌, map, filter, Option, Some, None, option_map, unwrap_or, refl, sym, ap, ◌∙◌, arith}
use Rattle.std.proofs.Math.Bool.{and-false, and_assoc}
use Rattle.std.proofs.lemmas.Bool.Decides.{nat_tests}
use Rattle.std.specs.Option.{option_map_or}
use Rattle.fab_base.proofs.KeyedLemmas.{AscendFrom-filter, AscendFrom-keys, list_any-keys-filter, equal_by_members}
use Rattle.fab_base.specs.Fabric.{asks_fabric}
use Rattle.fab_base.specs.Keyed.{AscendFrom}
use Rattle.fab_config.specs.Settings.{Settings}
use Rattle.login_table.specs.Logins as logins
use Rattle.login_table.specs.Logins.{login_at}
use Rattle.login_table.specs.declared.login.Login.{Login}
use Rattle.state_change.specs.Watchers.{address_of, watcher_at, function_at, recipients, changed}
use Rattle.state_change.specs.declared.watcher.Watcher.{Watcher}
use Rattle.zone_rules.specs.Joined.{contains, joined, differs}
use Rattle.zone_rules.specs.Rules.{ZoneRules}
use Rattle.fab_policy.specs.Outputs.{is_watcher}
use Rattle.fab_policy.specs.State.{LivePort, addresses, now_of}
use Rattle.fab_roster.specs.Agreement.{Agree}
use Rattle.fab_roster.specs.Reaching.{zones_of, told_at, told_between}
use Rattle.fab_roster.specs.Roll.{Roll, live_of, login_of, ports_of, roll_of}
use Rattle.fab_roster.specs.declared.roster.Roster.TheInside.{Inside}
use Rattle.fab_roster.proofs.Found.{item_at-key}
use Rattle.fab_roster.proofs.Lookups.{port_of_login}
use Rattle.fab_roster.proofs.Ports.{address, ports_ascend}
use Rattle.fab_roster.proofs.Walks.{picked}

-- the addresses of watchers, but for these
abbrev pub left : List ℕ → List Watcher → List ℕ
left but ws = picked address_of (λ w. not (contains w.address but)) ws

-- ---- tests

module _ {X : Type 0} (p q : X → Bool) where
  filter-filter : (xs : List X) → filter p (filter q xs) ≡ filter (λ x. p x && q x) xs
  filter-filter [] = refl
  filter-filter (x ∷ xs) = grind (arith, nat_tests, filter-filter xs)

  pub filter-same : ((x : X) → p x ≡ q x) → (xs : List X) → filter p xs ≡ filter q xs
  filter-same same [] = refl
  filter-same same (x ∷ xs) = grind (arith, nat_tests, same x, filter-same same xs)

-- ---- watchers and N_Ports

module _ {t : Inside} (agree : Agree t) where
  -- a test of address, function and name that no N_Port passes which didn't ask finds the same addresses among watchers and among N_Ports
  watchers_are_ports : (q : ℕ → ℕ → ℕ → Bool) → ((a name : ℕ) → q a 0 name ≡ false) →
      map address_of (filter (λ (x : Watcher). q x.address x.function x.name) t.watchers.watchers) ≡ addresses (filter (λ (p : LivePort). q p.address p.watch p.name) (ports_of t))
  watchers_are_ports q unasked =
      equal_by_members 0 _ _
      (AscendFrom-keys address_of 0 (filter of_watcher t.watchers.watchers) (AscendFrom-filter address_of of_watcher 0 t.watchers.watchers agree.watchers.sound.ascending))
      (AscendFrom-keys address 0 (filter of_port (ports_of t)) (AscendFrom-filter address of_port 0 (ports_of t) ascend))
      (λ a. list_any-keys-filter address_of of_watcher 0 a t.watchers.watchers agree.watchers.sound.ascending
      ∙ (each a (watcher_at a t.watchers.watchers) refl (login_at a t.logins.logins) refl
      ∙ (ap (λ o. option_map_or of_port o false) (sym (port_of_login t a))
      ∙ sym (list_any-keys-filter address of_port 0 a (ports_of t) ascend))))
    where
      of_watcher : Watcher → Bool
      of_watcher x = q x.address x.function x.name

      of_port : LivePort → Bool
      of_port p = q p.address p.watch p.name

      ascend : AscendFrom address 0 (ports_of t)
      ascend = ports_ascend t 0 t.logins.logins agree.logins.sound.ascending

      -- the function of a login's address
      function_is : (a : ℕ) (l : Login) (x : Option Watcher) → login_at a t.logins.logins ≡ Some l → watcher_at a t.watchers.watchers ≡ x → function_at l.address t.watchers.watchers ≡ option_map_or (λ (y : Watcher). y.function) x 0
      function_is a l x i e = ap (λ b. function_at b t.watchers.watchers) (item_at-key logins.address_of a t.logins.logins l i) ∙ ap (λ o. option_map_or (λ (y : Watcher). y.function) o 0) e

      each : (a : ℕ) (x : Option Watcher) → watcher_at a t.watchers.watchers ≡ x → (l : Option Login) → login_at a t.logins.logins ≡ l →
          option_map_or of_watcher x false ≡ option_map_or of_port (option_map (live_of t) l) false
      each a None e None i = refl
      each a (Some x) e None i = let f = (agree.watchers.known a x e).1 in absurd (cc)
      each a None e (Some l) i = sym (ap (λ f. q l.address f l.name) (function_is a l None i e) ∙ unasked l.address l.name)
      each a (Some x) e (Some l) i =
          let f = agree.watchers.known a x e in
          let who : f.0 ≡ l = cc (f.1) in
          let name : x.name ≡ l.name = f.2 ∙ ap (λ (y : Login). y.name) who in
          let at : x.address ≡ l.address = item_at-key address_of a t.watchers.watchers x e ∙ sym (item_at-key logins.address_of a t.logins.logins l i) in
          let function : function_at l.address t.watchers.watchers ≡ x.function = function_is a l (Some x) i e in
          ap (λ b. q b x.function x.name) at ∙ (ap (λ n. q l.address x.function n) name ∙ ap (λ g. q l.address g l.name) (sym function))

  -- the watchers that a test of names finds, but for these addresses
  pub left_are_told : (but : List ℕ) (reaches : ℕ → Bool) →
      left but (filter (λ x. asks_fabric x.function && reaches x.name) t.watchers.watchers) ≡ addresses (filter (λ p. not (contains p.address but) && is_watcher p && reaches p.name) (ports_of t))
  left_are_told but reaches =
      ap (map address_of) (filter-filter (λ x. not (contains x.address but)) (λ x. asks_fabric x.function && reaches x.name) t.watchers.watchers)
      ∙ (watchers_are_ports (λ a f n. not (contains a but) && (asks_fabric f && reaches n)) (λ a n. and-false (not (contains a but)))
      ∙ sym (ap addresses (filter-same (λ p. not (contains p.address but) && is_watcher p && reaches p.name) (λ p. not (contains p.address but) && (is_watcher p && reaches p.name)) (λ p. and_assoc (not (contains p.address but)) (is_watcher p) (reaches p.name)) (ports_of t))))

  -- the tables make this roll
  module _ {R : Roll} (view : roll_of t ≡ R) (s : Settings) (z : ZoneRules) (same : z ≡ zones_of s) where
    pub told_law : (now name : ℕ) (but : List ℕ) → now ≡ now_of R.tables → left but (recipients z now name t.watchers.watchers) ≡ addresses (told_at s R.tables name but)
    told_law now name but at =
        ap (λ y. left but (recipients y now name t.watchers.watchers)) same
        ∙ (ap (λ n. left but (recipients (zones_of s) n name t.watchers.watchers)) (at ∙ sym (ap (λ (x : Roll). now_of x.tables) view))
        ∙ (left_are_told but (λ n. joined s.zones s.sets s.activations (unwrap_or t.clock 0) n name)
        ∙ ap (λ (x : Roll). addresses (told_at s x.tables name but)) view))

    pub told_between_law : (before at name : ℕ) (but : List ℕ) → left but (changed z before at name t.watchers.watchers) ≡ addresses (told_between s R.tables before at name but)
    told_between_law before at name but =
        ap (λ y. left but (changed y before at name t.watchers.watchers)) same
        ∙ (left_are_told but (λ n. differs s.zones s.sets s.activations before at n name)
        ∙ ap (λ (x : Roll). addresses (told_between s x.tables before at name but)) view)

-- the logins of the N_Ports that pass a test of their logins
pub logins_pass : (t : Inside) (p : LivePort → Bool) (q : Login → Bool) → ((l : Login) → p (live_of t l) ≡ q l) → (ls : List Login) →
    filter q ls ≡ map login_of (filter p (map (live_of t) ls))
logins_pass t p q as_login [] = refl
logins_pass t p q as_login (l ∷ ls) = grind (arith, nat_tests, as_login l, logins_pass t p q as_login ls)
