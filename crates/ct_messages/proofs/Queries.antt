-- The answer to a query is no reject.
use Rattle.std.proofs.Common.{◌≡◌, ℕ, List, Option, Some, None, ap, ◌∙◌}
use Rattle.std.specs.Option.{option_map_or}
use Rattle.ct_messages.specs.Ask.{Ask, NextOf}
use Rattle.ct_messages.specs.Server.{Known, Refusal, next_port, next_answer, query, refused_or}
use Rattle.ct_messages.specs.declared.CtTell.{CtTell}
use Rattle.ct_messages.specs.declared.CtTell.TheVariants as tell

next-reject : (port : Option Known) (r e : ℕ) → option_map_or (λ p. tell.Next (next_answer p)) port tell.Done ≡ tell.Reject r e → ⊥
next-reject None r e is = cc
next-reject (Some p) r e is = cc

pub query-reject : (ports : List Known) (ask : Ask) (r e : ℕ) → query ports ask ≡ tell.Reject r e → ⊥
unfolding query
query-reject ports (NextOf a) r e is = next-reject (next_port a ports) r e is
query-reject ports _ r e is = cc

-- a reject comes of a refusal alone
pub refused-reject : (why : Option Refusal) (told : CtTell) (r e : ℕ) → (told ≡ tell.Reject r e → ⊥) → refused_or why told ≡ tell.Reject r e → why ≡ Some (r, e)
refused-reject None told r e never is = absurd (never is)
refused-reject (Some why) told r e never is =
    let reason : why.0 ≡ r = cc in
    let explanation : why.1 ≡ e = cc in
    let P : ℕ → ℕ → Option Refusal = λ a b. Some (a, b) in
    ap (λ a. P a why.1) reason ∙ ap (P r) explanation

pub reject-refused : (why : Option Refusal) (told : CtTell) (r e : ℕ) → why ≡ Some (r, e) → refused_or why told ≡ tell.Reject r e
reject-refused why told r e is = ap (λ (w : Option Refusal). refused_or w told) is
