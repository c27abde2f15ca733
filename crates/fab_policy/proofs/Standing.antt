-- A fabric that takes an entry stands for the journal with that entry.
use Rattle.std.proofs.Common.{◌≡◌, ℕ, ◌+◌, ◌%◌, List, [], ◌∷◌, ◌++◌, length, refl, sym, ap, subst, ◌∙◌, append_assoc, Option}
use Rattle.std.proofs.lemmas.List.{append-nil}
use Rattle.std.proofs.Math.Nat.{mod-add-mod}
use Rattle.fab_config.specs.Settings.{Settings}
use Rattle.fab_policy.specs.Journal.{Journal, followed}
use Rattle.fab_policy.specs.State.{Tables, tables_of}
use Rattle.fab_policy.specs.Outputs.{State, state_of, outputs, outputs_by, notices, rscn_count}
use Rattle.fab_policy.specs.Steps.{after}
use Rattle.fab_policy.specs.Legal.{IsRightEntry, IsDueBy}
use Rattle.fab_policy.specs.Standing.{StandsNew, StandsOlder, DueAfter, StandsAfter, StandsDrained, LegalAfter, state_after, sent_after}
use Rattle.fab_policy.specs.declared.event.Event.{Event}
use Rattle.fab_policy.proofs.Steps.{steps}

followed_last : (J : Journal) (es : List Event) (e : Event) → followed J (es ++ e ∷ []) ≡ e ∷ followed J es
followed_last J [] e = refl
followed_last J (d ∷ es) e = followed_last (d ∷ J) es e

-- a journal that entries follow is known by what they make of it
followed_once : (es : List Event) (I J : Journal) → followed I es ≡ followed J es → I ≡ J
followed_once [] I J same = same
followed_once (e ∷ es) I J same = tail (followed_once es (e ∷ I) (e ∷ J) same)
  where
    tail : e ∷ I ≡ e ∷ J → I ≡ J
    tail more = cc

pub stands_new : StandsNew
stands_new c n = record { state = refl; older = []; events = refl; outs = refl }

pub stands_older : StandsOlder
stands_older F I J s is = s.outs ∙ ap (λ K. sent_after F.settings F.count K F.events) (followed_once F.events s.older I (sym s.events ∙ is))

pub due_after : DueAfter
due_after F J m s due = subst (λ S. IsDueBy F.settings S m) s.state due

sent_last : (c : Settings) (n : ℕ) (J : Journal) (es : List Event) (e : Event) → sent_after c n J (es ++ e ∷ []) ≡ sent_after c n J es ++ outputs c n (followed J es) e
sent_last c n J [] e = append-nil (outputs c n J e)
sent_last c n J (d ∷ es) e = ap (λ xs. outputs c n J d ++ xs) (sent_last c n (d ∷ J) es e) ∙ sym (append_assoc (outputs c n J d) (sent_after c n (d ∷ J) es) (outputs c n (followed (d ∷ J) es) e))

pub state_step : (c : Settings) (e : Event) (J : Journal) → state_of c (e ∷ J) ≡ state_after c (state_of c J) e
state_step c e J = same_states (steps c e J)
    (ap (λ U. (rscn_count c J + length (notices c (tables_of c J) U e)) % 65535) (steps c e J)
    ∙ sym (mod-add-mod (rscn_count c J) 65535 (length (notices c (tables_of c J) (after c (tables_of c J) e) e))))
  where
    same_states : {t t' : Tables} {x : Option ℕ} {n n' : ℕ} → t ≡ t' → n ≡ n' →
        (let s : State = record { tables = t; advertised = x; rscns = n } in s) ≡ record { tables = t'; advertised = x; rscns = n' }
    same_states e1 e2 = cc

-- what an entry sends after a journal follows from what the journal says
pub outputs_step : (c : Settings) (n : ℕ) (J : Journal) (e : Event) → outputs c n J e ≡ outputs_by c n (state_of c J) (after c (tables_of c J) e) e
outputs_step c n J e = ap (λ U. outputs_by c n (state_of c J) U e) (steps c e J)

pub stands_after : StandsAfter
stands_after F G e J s t = record {
  state = t.state ∙ ap (λ S. state_after F.settings S e) s.state ∙ sym (state_step F.settings e J) ∙ ap (λ c. state_of c (e ∷ J)) (sym t.settings);
  older = s.older;
  events = sym (ap (λ es. followed s.older es) t.events ∙ followed_last s.older F.events e ∙ ap (λ I. e ∷ I) (sym s.events));
  outs = t.outs
      ∙ ap (λ xs. xs ++ outputs_by F.settings F.count F.state (after F.settings F.state.tables e) e) s.outs
      ∙ ap (λ ys. sent_after F.settings F.count s.older F.events ++ ys) latest_sent
      ∙ sym (sent_last F.settings F.count s.older F.events e)
      ∙ ap (λ es. sent_after F.settings F.count s.older es) (sym t.events)
      ∙ ap (λ c. sent_after c F.count s.older G.events) (sym t.settings)
      ∙ ap (λ n. sent_after G.settings n s.older G.events) (sym t.count);
}
  where
    latest_sent : outputs_by F.settings F.count F.state (after F.settings F.state.tables e) e ≡ outputs F.settings F.count (followed s.older F.events) e
    latest_sent = ap (λ S. outputs_by F.settings F.count S (after F.settings S.tables e) e) s.state
        ∙ sym (outputs_step F.settings F.count J e) ∙ ap (λ I. outputs F.settings F.count I e) s.events

pub stands_drained : StandsDrained
stands_drained F J s = record { state = s.state; older = J; events = refl; outs = refl }

pub legal_after : LegalAfter
legal_after F e J l s r = (l, subst (λ S. IsRightEntry F.settings S.tables e) s.state r)
