-- A fabric before the first tick.
use Rattle.std.proofs.Common.{◌≡◌, ℕ, zero, suc, ◌+◌, ◌*◌, List, [], ◌∷◌, map, None, refl, ap, sym, ◌∙◌, subst}
use Rattle.std.specs.Prelude.{filter_map}
use Rattle.fab_base.specs.Fabric.{Past}
use Rattle.fab_config.specs.Settings.{Settings}
use Rattle.fc_addresses.specs.Pool.{unused}
use Rattle.fab_base.specs.Counting.{counting}
use Rattle.fab_policy.specs.Logins.{pool}
use Rattle.fab_policy.specs.Outputs.{Sent, State, state_of}
use Rattle.fab_policy.specs.Standing.{Contents, Stands, StandsNew}
use Rattle.fab_policy.specs.State.{LivePort, Tables, live_port, past_of, tables_of}
use Rattle.fab_policy.specs.declared.event.Event.{Event}
use Rattle.forward_core.specs.Fabric.{empty_roll}

nobody : (from n : ℕ) → filter_map (λ a. live_port a []) (counting from n) ≡ []
nobody from zero = refl
nobody from (suc n) = nobody (from + 1) n

never : (from n : ℕ) → map (λ a. past_of a []) (counting from n) ≡ unused from n
never from zero = refl
never from (suc n) = ap (λ l. past_of from [] ∷ l) (never (from + 1) n)

abbrev made : List LivePort → List Past → Tables
made ports past = record { clock = None; ports = ports; past = past }

pub empty_tables_are : (c : Settings) → (empty_roll c).tables ≡ tables_of c []
empty_tables_are c =
    ap (λ l. made l (unused (c.domain * 65536 + 256) c.pool)) (sym (nobody (c.domain * 65536 + 256) c.pool))
    ∙ ap (λ l. made (filter_map (λ a. live_port a []) (pool c)) l) (sym (never (c.domain * 65536 + 256) c.pool))

abbrev state_made : Tables → State
state_made T = record { tables = T; advertised = None; rscns = 0 }

pub empty_state : (c : Settings) (T : Tables) → T ≡ (empty_roll c).tables → state_made T ≡ state_of c []
empty_state c T e = ap state_made (e ∙ empty_tables_are c)

abbrev contents : Settings → ℕ → State → List Event → List Sent → Contents
contents c n S es os = record { settings = c; count = n; state = S; events = es; outs = os }

pub empty_stands : StandsNew → (c : Settings) (n : ℕ) (S : State) (es : List Event) (os : List Sent) → S ≡ state_of c [] → es ≡ [] → os ≡ [] → Stands (contents c n S es os) []
empty_stands first c n S es os e f g =
    subst (λ x. Stands (contents c n S es x) []) (sym g) (subst (λ x. Stands (contents c n S x []) []) (sym f) (subst (λ x. Stands (contents c n x [] []) []) (sym e) (first c n)))
