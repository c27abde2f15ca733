-- The state changes of frames, from what is told of each address.
use Rattle.std.proofs.Common.{◌≡◌, Bool, true, false, ℕ, cond, List, [], ◌∷◌, ◌++◌, filter, Option, Some, None, option_map, option_to_list, refl, sym, ap, ◌∙◌}
use Rattle.std.proofs.lemmas.List.{append-nil}
use Rattle.std.specs.Option.{option_map_or}
use Rattle.fab_base.specs.declared.values.Caught.{Caught}
use Rattle.fab_config.specs.Settings.{Settings}
use Rattle.fab_policy.specs.Free.{Request}
use Rattle.fab_policy.specs.State.{LivePort, Tables, addresses, now_of, port_at}
use Rattle.fab_policy.specs.declared.verdict.Verdict.TheVariants.{Granted}
use Rattle.fab_sending.specs.declared.message.Out.{Out}
use Rattle.fab_roster.specs.Roll.{Login, addresses_of, login_of}
use Rattle.fab_sending.specs.Counting.{told_of_logins, with_changes}
use Rattle.fab_sending.specs.Messages.{at_moment, changes}
use Rattle.fab_sending.specs.Notices.{ended_by_grant, notices_of_frame, told_of_each, told_of_name}
use Rattle.fab_sending.specs.Sends.{IsGrant}
use Rattle.fab_sending.specs.declared.sends.Grant.{Grant}
use Rattle.fab_sending.proofs.Counting.{addresses_same, first_changes, logins_told, named_told, with_changes-twice}
use Rattle.fab_policy.proofs.Found.{found_address}

-- of the one that may be there
one_of : (c : Settings) (T : Tables) (but : List ℕ) (o : Option LivePort) → option_map_or (λ p. told_of_name c T but p.address p.name) o [] ≡ told_of_each c T but (option_to_list o)
one_of c T but None = refl
one_of c T but (Some p) = sym (append-nil (told_of_name c T but p.address p.name))

-- the watchers are told of a login that was found
pub told_of_found : (c : Settings) (T : Tables) (m first a : ℕ) (but : List ℕ) (login : Login) (start last : List Out) → Some login ≡ option_map login_of (port_at a T.ports) → m ≡ now_of T → start ≡ [] →
    last ≡ with_changes m first start (told_of_name c T but a login.name) → last ≡ at_moment (now_of T) (changes first (told_of_each c T but (option_to_list (port_at a T.ports))))
told_of_found c T m first a but login start last found at none now =
    now ∙ first_changes m first start (told_of_name c T but a login.name) none
    ∙ ap (λ n. at_moment n (changes first (told_of_name c T but a login.name))) at
    ∙ ap (λ ns. at_moment (now_of T) (changes first ns)) (named_told c T but a login (port_at a T.ports) found (λ p e. found_address a T.ports p e) ∙ one_of c T but (port_at a T.ports))

-- the one that is there passes, or doesn't
pub passes : (q : LivePort → Bool) (b : Bool) (o : Option LivePort) → ((p : LivePort) → o ≡ Some p → b ≡ q p) → b ≡ true → option_to_list o ≡ filter q (option_to_list o)
passes q b None h e = refl
passes q b (Some p) h e = ap (λ x. cond x (p ∷ []) []) (sym e ∙ h p refl)

pub fails : (q : LivePort → Bool) (b : Bool) (o : Option LivePort) → ((p : LivePort) → o ≡ Some p → b ≡ q p) → b ≡ false → [] ≡ filter q (option_to_list o)
fails q b None h e = refl
fails q b (Some p) h e = ap (λ x. cond x (p ∷ []) []) (sym e ∙ h p refl)

-- a login that gets an address
pub granted_told : (c : Settings) (T : Tables) (m first port : ℕ) (caught : Caught) (g : Grant) (start mid last : List Out) → m ≡ now_of T → start ≡ [] → IsGrant T port caught g →
    mid ≡ with_changes m first start (told_of_logins c T (addresses_of g.ended.now) g.ended.now) →
    last ≡ with_changes m first mid (told_of_name c T (addresses_of g.ended.now) g.address g.request.now.name) →
    last ≡ at_moment (now_of T) (changes first (notices_of_frame c T port caught (Granted g.address)))
granted_told c T m first port caught g start mid last at none is was now =
    let E : List LivePort = ended_by_grant T port caught in
    let ends : List ℕ = addresses E in
    let but : List ℕ = addresses_of g.ended.now in
    let name : ℕ = g.request.now.name in
    let ids : but ≡ ends = ap addresses_of is.ended ∙ addresses_same E in
    now ∙ ap (λ os. with_changes m first os (told_of_name c T but g.address name)) was
    ∙ with_changes-twice m first start (told_of_logins c T but g.ended.now) (told_of_name c T but g.address name)
    ∙ ap (λ x. with_changes m first start (told_of_logins c T x g.ended.now ++ told_of_name c T x g.address name)) ids
    ∙ ap (λ x. with_changes m first start (told_of_logins c T ends x ++ told_of_name c T ends g.address name)) is.ended
    ∙ ap (λ ns. with_changes m first start (ns ++ told_of_name c T ends g.address name)) (logins_told c T ends E)
    ∙ ap (λ (x : Request). with_changes m first start (told_of_each c T ends E ++ told_of_name c T ends g.address x.name)) is.request
    ∙ first_changes m first start (notices_of_frame c T port caught (Granted g.address)) none
    ∙ ap (λ n. at_moment n (changes first (notices_of_frame c T port caught (Granted g.address)))) at
