-- A grant of a legal journal stands until an entry ends it.
use Rattle.std.proofs.Common.{◌≡◌, ℕ, ◌==◌, Bool, true, false, cond, ◌&&◌, ◌⊎◌, inl, inr, List, [], ◌∷◌, ◌++◌, Some, None, option_and_then, refl, sym, ap, ◌∙◌, subst, arith}
use Rattle.std.proofs.lemmas.Bool.{eqb-true}
use Rattle.std.proofs.lemmas.Bool.Decides.{nat_tests}
use Rattle.fab_base.specs.declared.values.Caught.{Caught}
use Rattle.fab_base.specs.declared.values.Enode.{Enode}
use Rattle.fab_config.specs.Settings.{Settings}
use Rattle.heard_frames.specs.Heard.{asked, source}
use Rattle.fab_policy.specs.Journal.{Journal, followed}
use Rattle.fab_policy.specs.Logins.{NPort, login, ends, grants, n_port}
use Rattle.fab_policy.specs.Sound.{IsGivenBack, IsGrantable}
use Rattle.fab_policy.specs.Steps.{login_after}
use Rattle.fab_policy.proofs.Steps.{steps_login}
use Rattle.fab_policy.specs.declared.event.Event.{Event}
use Rattle.fab_policy.specs.declared.event.Event.TheVariants.{Tick, Frame}
use Rattle.fab_policy.specs.declared.verdict.Verdict.TheVariants.{Granted}
use Rattle.fabric_tool.specs.Left.{IsSafe}
use Rattle.enode_core.specs.Laws.{IsEntry}
use Rattle.enode_core.specs.declared.node.Identity.{Identity}
use Rattle.joined_runs.specs.Box.{Holds, HasEnded, node_at}

-- an entry that grants the address
record IsGrant (a : ℕ) (e : Event) : Type 0 where
  port : ℕ
  index : ℕ
  caught : Caught
  is : e ≡ Frame port index caught (Granted a)

grant_is : (a : ℕ) (e : Event) → grants a e ≡ true → IsGrant a e
grant_is a (Tick m ended) h = absurd (cc)
grant_is a (Frame port index caught (Granted b)) h = let same = eqb-true a b h in record { port = port; index = index; caught = caught; is = λ i. Frame port index caught (Granted (sym same i)) }
grant_is a (Frame port index caught _) h = absurd (cc)

-- a grant of an address that is held is a new FLOGI of its ENode, and so ends the login
given_back : (c : Settings) (K : Journal) (a : ℕ) (x : NPort) (port : ℕ) (caught : Caught) → login a K ≡ Some x → IsGrantable c K port caught a → IsGivenBack port caught x
given_back c K a x port caught held can = elim can.holder [
  | inl none ↦ absurd (let no : None ≡ Some x = sym none ∙ held in cc)
  | inr p ↦ subst (λ (y : NPort). IsGivenBack port caught y) (let e : Some p.0 ≡ Some x = sym p.1 ∙ held in cc) p.2
]

back_ends : (a port index : ℕ) (caught : Caught) (x : NPort) → IsGivenBack port caught x → ends a x.enode (Frame port index caught (Granted a)) ≡ true
back_ends a port index caught x b = (λ i. b.enode i && b.flogi i)

ends_later : (a : ℕ) (enode : Enode) (e : Event) (more : List Event) → HasEnded a enode more → HasEnded a enode (e ∷ more)
ends_later a enode e more h = record { entry = h.entry; among = inr h.among; end = h.end }

pub followed_on : (K : Journal) (xs ys : List Event) → followed (followed K xs) ys ≡ followed K (xs ++ ys)
followed_on K [] ys = refl
followed_on K (e ∷ xs) ys = followed_on (e ∷ K) xs ys

-- what holds of each state of a journal between two
pub held_on : (c : Settings) (J K : Journal) (a : ℕ) (x : NPort) (since later : List Event) → IsSafe c J → J ≡ followed (followed K since) later → login a K ≡ Some x →
    (login a (followed K since) ≡ Some x) ⊎ HasEnded a x.enode since
held_on c J K a x [] later safe is held = inl held
held_on c J K a x (e ∷ more) later safe is held = by_end (ends a x.enode e) refl (grants a e) refl (held_on c J (e ∷ K) a x more later safe is)
  where
    Wanted : Type 0
    Wanted = (login a (followed K (e ∷ more)) ≡ Some x) ⊎ HasEnded a x.enode (e ∷ more)

    onward : (login a (followed (e ∷ K) more) ≡ Some x) ⊎ HasEnded a x.enode more → Wanted
    onward (inl stays) = inl stays
    onward (inr ended) = inr (ends_later a x.enode e more ended)

    next : (b g : Bool) → ends a x.enode e ≡ b → grants a e ≡ g → login a (e ∷ K) ≡ cond g (Some (n_port e)) (cond b None (Some x))
    next b g ended granted =
        steps_login a e K ∙ ap (λ o. login_after a e o) held ∙ ap (λ t. cond t (Some (n_port e)) (cond (ends a x.enode e) None (Some x))) granted
        ∙ ap (λ t. cond g (Some (n_port e)) (cond t None (Some x))) ended

    again : (g : IsGrant a e) → ends a x.enode e ≡ true
    again g =
        let at : J ≡ followed K (e ∷ (more ++ later)) = is ∙ followed_on (e ∷ K) more later in
        let can = safe.grants K (more ++ later) g.port g.index a g.caught (subst (λ (f : Event). J ≡ followed K (f ∷ (more ++ later))) g.is at) in
        ap (ends a x.enode) g.is ∙ back_ends a g.port g.index g.caught x (given_back c K a x g.port g.caught held can)

    by_end : (b : Bool) → ends a x.enode e ≡ b → (g : Bool) → grants a e ≡ g → (login a (e ∷ K) ≡ Some x → (login a (followed (e ∷ K) more) ≡ Some x) ⊎ HasEnded a x.enode more) → Wanted
    by_end true ended g granted more_ = inr (record { entry = e; among = inl refl; end = ended })
    by_end false ended false granted more_ = onward (more_ (next false false ended granted))
    by_end false ended true granted more_ = absurd (let yes = again (grant_is a e granted) in cc)

-- the entries behind one
pub entry_followed : (J : Journal) (e : Event) (K : Journal) → IsEntry J e K → (later : List Event) × (J ≡ followed K (e ∷ later))
entry_followed [] e K at = absurd at
entry_followed (x ∷ J) e K (inl is) = ([], λ i. is.0 i ∷ is.1 i)
entry_followed (x ∷ J) e K (inr there) = let l = entry_followed J e K there in (l.0 ++ x ∷ [], ap (λ I. x ∷ I) l.1 ∙ followed_on K (e ∷ l.0) (x ∷ []))

-- what a grant makes
granted_login : (port index a : ℕ) (caught : Caught) (K : Journal) → login a (Frame port index caught (Granted a) ∷ K) ≡ Some (n_port (Frame port index caught (Granted a)))
granted_login port index a caught K = steps_login a (Frame port index caught (Granted a)) K ∙ by_test (a == a) refl
  where
    by_test : (b : Bool) → (a == a) ≡ b → cond b (Some (n_port (Frame port index caught (Granted a)))) (option_and_then (λ (p : NPort). cond (ends a p.enode (Frame port index caught (Granted a))) None (Some p)) (login a K)) ≡ Some (n_port (Frame port index caught (Granted a)))
    by_test true is = refl
    by_test false is = absurd (grind (arith, nat_tests))

pub holds_since : (c : Settings) (J K : Journal) (port index a : ℕ) (own : Identity) (caught : Caught) → IsSafe c J → source caught ≡ own.mac → (asked caught).port_name ≡ own.name →
    (since later : List Event) → J ≡ followed (followed (Frame port index caught (Granted a) ∷ K) since) later →
    Holds (followed (Frame port index caught (Granted a) ∷ K) since) port own a ⊎ HasEnded a (node_at port own) since
holds_since c J K port index a own caught safe from named since later is =
    let x = n_port (Frame port index caught (Granted a)) in
    let enode : x.enode ≡ node_at port own = λ i. record { port = port; mac = from i } in
    elim (held_on c J (Frame port index caught (Granted a) ∷ K) a x since later safe is (granted_login port index a caught K)) [
      | inl held ↦ inl (record { port_ = x; login_ = held; enode = enode; name = named })
      | inr ended ↦ inr (subst (λ (n : Enode). HasEnded a n since) enode ended)
    ]
