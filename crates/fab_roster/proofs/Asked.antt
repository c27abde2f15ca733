-- The answer to a query of one N_Port depends on what is known of its address alone, and that stands in the pair of the asker and it.
use Rattle.std.proofs.Common.{◌≡◌, ℕ, ◌==◌, ◌||◌, if◌then◌else◌, Bool, true, false, cond, List, [], ◌∷◌, map, filter, Option, Some, None, option_map, option_to_list, option_and_then, is_none, is_some, IsSome, refl, sym, ap, subst, ◌∙◌, arith}
use Rattle.std.proofs.lemmas.Bool.Decides.{nat_tests}
use Rattle.std.proofs.lemmas.List.Elements.{All-cons, All-filter, All-head, All-map, All-nil, All-tail}
use Rattle.std.specs.List.{All}
use Rattle.std.specs.Option.{option_map_or}
use Rattle.ct_messages.specs.Ask.{Ask, PortNameOf, NodeNameOf, TypesOf, FeaturesOf}
use Rattle.ct_messages.specs.Server as server
use Rattle.ct_messages.specs.Server.{Known, known_at, refused_or, refused_if, types_refusal, feature_words, NO_TYPES}
use Rattle.ct_messages.specs.declared.CtTell.TheVariants as tell
use Rattle.fab_base.proofs.KeyedLemmas.{All-added, item_at-added}
use Rattle.fab_base.specs.Keyed.{item_at}
use Rattle.fab_config.specs.Settings.{Settings}
use Rattle.login_table.specs.Logins.{added, address_of, login_at}
use Rattle.login_table.specs.declared.login.Login.{Login}
use Rattle.name_server.specs.Registry as registry
use Rattle.name_server.specs.Registry.{AreEntered, Entry, entry_at, seen_at}
use Rattle.name_server.specs.declared.seen.SeenPort.{SeenPort}
use Rattle.zone_rules.specs.Joined as zones
use Rattle.zone_rules.specs.Rules.{ZoneRules}
use Rattle.fab_policy.specs.Queries.{known}
use Rattle.fab_roster.specs.Agreement.{Agree}
use Rattle.fab_roster.specs.Reaching.{asked_of, may_see, seen_port}
use Rattle.fab_roster.specs.Roll.{live_of}
use Rattle.fab_roster.specs.declared.roster.Roster.TheInside.{Inside}
use Rattle.fab_roster.proofs.Found.{filtered, item_at-key, kept, same, was_there}
use Rattle.fab_roster.proofs.Lookups.{find_map}
use Rattle.fab_roster.proofs.Seen.{all_entered, one_known, seen_entered, seen_itself, seen_of}

-- ---- the answer

-- a query of one N_Port asks the list for what is known of its address, and for nothing else
pub one_answer : (ask : Ask) (b : ℕ) → asked_of ask ≡ Some b → (ks ms : List Known) → known_at b ks ≡ known_at b ms → server.answer ks ask ≡ server.answer ms ask
unfolding server.query
one_answer (PortNameOf a) b asks ks ms alike =
    ap (λ o. refused_or (refused_if (is_none o) 9 1) (tell.Name (option_map_or (λ p. p.name) o 0))) (subst (λ n. known_at n ks ≡ known_at n ms) (cc) alike)
one_answer (NodeNameOf a) b asks ks ms alike =
    ap (λ o. refused_or (refused_if (is_none o) 9 1) (tell.Name (option_map_or (λ p. p.values.node_name) o 0))) (subst (λ n. known_at n ks ≡ known_at n ms) (cc) alike)
one_answer (TypesOf a) b asks ks ms alike =
    ap (λ o. refused_or (types_refusal o) (tell.Types (option_map_or (λ p. p.values.types) o NO_TYPES))) (subst (λ n. known_at n ks ≡ known_at n ms) (cc) alike)
one_answer (FeaturesOf a) b asks ks ms alike =
    ap (λ o. refused_or (refused_if (is_none o) 9 1) (tell.Features (feature_words (option_map_or (λ p. p.values.features) o [])))) (subst (λ n. known_at n ks ≡ known_at n ms) (cc) alike)
one_answer _ b asks ks ms alike = absurd (cc)

-- ---- the pair

-- an item that was found is found in the list of it alone
alone : {X : Type 0} (key : X → ℕ) (a : ℕ) (o : Option X) → ((x : X) → o ≡ Some x → key x ≡ a) → item_at key a (option_to_list o) ≡ o
alone key a None at = refl
alone key a (Some x) at = ap (λ b. cond b (Some x) None) (ap (λ n. n == a) (at x refl) ∙ same a)

All-option : {X : Type 0} (P : X → Type 0) (o : Option X) → ((x : X) → o ≡ Some x → P x) → All P (option_to_list o)
All-option P None each = All-nil P
All-option P (Some x) each = All-cons P x [] (each x refl) (All-nil P)

-- What the name server is handed for a query: all are entered, the asker is among them, and the answer is that over all that it sees.
pub record Serves (entries : List Entry) (all : List SeenPort) (a : ℕ) (ask : Ask) (seen : List SeenPort) : Type 0 where
  pub entered : AreEntered entries seen
  pub itself : IsSome (seen_at a seen)
  pub answer : server.answer (registry.known entries seen) ask ≡ server.answer (registry.known entries all) ask

module _ {t : Inside} (agree : Agree t) (c : Settings) (z : ZoneRules) (at a : ℕ) (l : Login) (found : login_at a t.logins.logins ≡ Some l) where
  abbrev logins : List Login
  logins = t.logins.logins

  abbrev entries : List Entry
  entries = t.registry.entries

  abbrev sees : Login → Bool
  sees = may_see z at l

  abbrev seen : List SeenPort
  seen = seen_of c z at l t.logins.logins

  abbrev IsEntered : Login → Type 0
  IsEntered x = IsSome (entry_at x.address t.registry.entries)

  abbrev asked : ℕ → Option Login
  asked b = login_at b (filter sees logins)

  abbrev pair : ℕ → List Login
  pair b = added l (option_to_list (asked b))

  asked_at : (b : ℕ) (x : Login) → asked b ≡ Some x → x.address ≡ b
  asked_at b x is = item_at-key address_of b (filter sees logins) x is

  -- an N_Port sees itself
  own : asked l.address ≡ Some l
  own =
      filtered address_of sees l.address 0 logins agree.logins.sound.ascending
      ∙ (ap (option_and_then (kept address_of sees)) (ap (λ n. login_at n logins) (item_at-key address_of a logins l found) ∙ found)
      ∙ ap (λ b. cond (b || zones.joined z.zones z.sets z.activations at l.name l.name) (Some l) None) (same l.address))

  -- what is found at the asked address is the same in the pair
  in_pair : (b : ℕ) → login_at b (pair b) ≡ asked b
  in_pair b = item_at-added address_of l (option_to_list (asked b)) b ∙ go (l.address == b) refl
    where
      go : (y : Bool) → l.address == b ≡ y → (if y then Some l else login_at b (option_to_list (asked b))) ≡ asked b
      go true this = let here : l.address ≡ b = grind (arith, nat_tests) in sym (ap asked (sym here) ∙ own)
      go false other = alone address_of b (asked b) (asked_at b)

  entered_at : (b : ℕ) (x : Login) → login_at b logins ≡ Some x → IsEntered x
  entered_at b x is = ap is_some (agree.entries.known b x is).1

  pair_entered : (b : ℕ) → All IsEntered (pair b)
  pair_entered b =
      All-added address_of IsEntered l (option_to_list (asked b))
      (All-option IsEntered (asked b) (λ x is. entered_at b x (was_there address_of sees b 0 logins x agree.logins.sound.ascending is))) (entered_at a l found)

  -- what the registry knows of an address is what the tables say of its login
  known_there : (xs : List Login) → All IsEntered xs → (b : ℕ) → known_at b (registry.known entries (map (seen_port c) xs)) ≡ option_map (λ x. known c (live_of t x)) (login_at b xs)
  known_there [] entered b = refl
  known_there (x ∷ xs) entered b = grind (arith, nat_tests, one_known c t x (All-head IsEntered x xs entered), known_there xs (All-tail IsEntered x xs entered) b)

  pub all_serve : (ask : Ask) (new : List SeenPort) → new ≡ seen → Serves entries seen a ask new
  all_serve ask new is = subst (Serves entries seen a ask) (sym is) (record {
    entered = seen_entered agree c z at a l found;
    itself = seen_itself agree c z at a l found;
    answer = refl;
  })

  pub pair_serves : (ask : Ask) (b : ℕ) (new : List SeenPort) → asked_of ask ≡ Some b → new ≡ map (seen_port c) (pair b) → Serves entries seen a ask new
  pair_serves ask b new asks is = subst (Serves entries seen a ask) (sym is) (record {
    entered = All-map (λ (s : SeenPort). IsSome (entry_at s.address entries)) (seen_port c) (pair b) (pair_entered b);
    itself =
        ap is_some
        (find_map (seen_port c) (λ (s : SeenPort). s.address == a) (λ (x : Login). x.address == a) (pair b) (λ x. refl)
        ∙ ap (option_map (seen_port c)) (item_at-added address_of l (option_to_list (asked b)) a ∙ ap (λ y. if y then Some l else login_at a (option_to_list (asked b))) asker));
    answer =
        one_answer ask b asks (registry.known entries (map (seen_port c) (pair b))) (registry.known entries seen)
        (known_there (pair b) (pair_entered b) b
        ∙ (ap (option_map (λ x. known c (live_of t x))) (in_pair b)
        ∙ sym (known_there (filter sees logins) (All-filter sees IsEntered logins (all_entered agree c z at a l found)) b)));
  })
    where
      asker : l.address == a ≡ true
      asker = ap (λ n. n == a) (item_at-key address_of a logins l found) ∙ same a
