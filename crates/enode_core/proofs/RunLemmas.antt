-- A run over records is one, and what it hears are those records from the start on.
use Rattle.std.proofs.Common.{◌≡◌, ℕ, ◌<◌, ◌≤◌, Bool, true, false, cond, List, [], ◌∷◌, ◌++◌, append-nil, nat_le, refl, sym, ap, subst, ◌∙◌, arith}
use Rattle.fab_config.specs.Settings.{Settings}
use Rattle.fab_policy.specs.Journal.{Journal}
use Rattle.pcap_file.specs.declared.Record.{Record}
use Rattle.enode_core.specs.declared.node.Identity.{Identity}
use Rattle.enode_core.specs.declared.node.State.{State}
use Rattle.enode_core.specs.Machine.{due, timer, frame, begun}
use Rattle.enode_core.specs.Runs.{Input, Timer, Heard, Plays, heard, from, all_sent}
use Rattle.enode_core.specs.Laws.{AreOutputs, AreFrom}
use Rattle.enode_core.specs.RunLaws.{RunsAreOne, RunsAreGranted}
use Rattle.enode_core.proofs.Granted.{up_is_granted}

-- what is heard and what is left are the records
pub heard_left : (own : Identity) (s : State) (records : List Record) (inputs : List Input) (left : List Record) → Plays own s records inputs left → heard inputs ++ left ≡ records
heard_left own s records [] left h = sym h
heard_left own s [] (i ∷ more) left h = absurd h
heard_left own s (r ∷ records) (Timer ∷ more) left h = heard_left own (timer own s).state (r ∷ records) more left h.1
heard_left own s (r ∷ records) (Heard q ∷ more) left h =
    ap (λ x. x ∷ heard more ++ left) h.0 ∙ ap (λ rs. r ∷ rs) (heard_left own (frame own s r.moment r.caught).state records more left h.2)

-- ---- one run

clash : (m n : ℕ) → m ≤ n → n < m → ⊥
clash m n a b = omega arith

one : (own : Identity) (s : State) (records : List Record) (xs ys : List Input) → Plays own s records xs [] → Plays own s records ys [] → xs ≡ ys
one own s [] [] [] h g = refl
one own s [] [] (y ∷ ys) h g = absurd g
one own s [] (x ∷ xs) ys h g = absurd h
one own s (r ∷ records) [] ys h g = absurd (cc)
one own s (r ∷ records) (Timer ∷ xs) [] h g = absurd (cc)
one own s (r ∷ records) (Heard p ∷ xs) [] h g = absurd (cc)
one own s (r ∷ records) (Timer ∷ xs) (Timer ∷ ys) h g = ap (λ l. Timer ∷ l) (one own (timer own s).state (r ∷ records) xs ys h.1 g.1)
one own s (r ∷ records) (Timer ∷ xs) (Heard q ∷ ys) h g = absurd (clash (due s.stage) r.moment h.0 g.1)
one own s (r ∷ records) (Heard p ∷ xs) (Timer ∷ ys) h g = absurd (clash (due s.stage) r.moment g.0 h.1)
one own s (r ∷ records) (Heard p ∷ xs) (Heard q ∷ ys) h g =
    ap (λ x. Heard x ∷ xs) (h.0 ∙ sym g.0) ∙ ap (λ l. Heard q ∷ l) (one own (frame own s r.moment r.caught).state records xs ys h.2 g.2)

pub runs_are_one : RunsAreOne
runs_are_one own start records xs ys h g = one own (begun own start).state (from start records) xs ys h g

-- ---- what is heard was sent

outputs_front : (c : Settings) (n p : ℕ) (J : Journal) (xs ys : List Record) → AreOutputs c n p J (xs ++ ys) → AreOutputs c n p J xs
outputs_front c n p J [] ys h = tt
outputs_front c n p J (x ∷ xs) ys h = (h.0, outputs_front c n p J xs ys h.1)

outputs_if : (c : Settings) (n p : ℕ) (J : Journal) (b : Bool) (r : Record) (rs : List Record) → AreOutputs c n p J (r ∷ rs) → AreOutputs c n p J (cond b (r ∷ rs) rs)
outputs_if c n p J true r rs h = h
outputs_if c n p J false r rs h = h.1

outputs_filter : (c : Settings) (n p : ℕ) (J : Journal) (start : ℕ) (records : List Record) → AreOutputs c n p J records → AreOutputs c n p J (from start records)
outputs_filter c n p J start [] h = tt
outputs_filter c n p J start (r ∷ records) h = outputs_if c n p J (nat_le start r.moment) r (from start records) (h.0, outputs_filter c n p J start records h.1)

heard-append : (xs ys : List Input) → heard (xs ++ ys) ≡ heard xs ++ heard ys
heard-append [] ys = refl
heard-append (Timer ∷ xs) ys = heard-append xs ys
heard-append (Heard r ∷ xs) ys = ap (λ l. r ∷ l) (heard-append xs ys)

pub runs_are_granted : RunsAreGranted
runs_are_granted own start records inputs typed run given later kept a node_due port_due at parts up c n p J range bytes legal outs sent_by =
    let all : heard inputs ≡ from start records = sym (append-nil (heard inputs)) ∙ heard_left own (begun own start).state (from start records) inputs [] run in
    let here : AreOutputs c n p J (heard given ++ heard later) = subst (AreOutputs c n p J) (sym all ∙ ap heard parts ∙ heard-append given later) (outputs_filter c n p J start records outs) in
    up_is_granted own start given later kept a node_due port_due at c n p J typed range bytes legal (outputs_front c n p J (heard given) (heard later) here)
    (subst (λ xs. AreFrom p own.mac (all_sent own start xs) J) parts sent_by) up
