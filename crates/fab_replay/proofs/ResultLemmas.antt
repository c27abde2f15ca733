-- What a fault that is handed on says.
use Rattle.std.proofs.Common.{◌≡◌, Bool, true, false, MatchBool, Result, Ok, Err, IfOk, IfErr, MatchResult, sym, ap, subst}
use Rattle.std.specs.Result.{IsErrAnd}

pub told_on : {T E : Type 0} (r : Result T E) (e : E) (Q : T → Type 0) (P : E → Type 0) → IsErrAnd r (λ x. x ≡ e) → P e → MatchResult r Q P
told_on (Ok t) e Q P h p = absurd h
told_on (Err x) e Q P h p = subst P (sym h) p

pub not_ok : {T E : Type 0} (r : Result T E) (e : E) (Q : T → Type 0) → IsErrAnd r (λ x. x ≡ e) → IfOk r Q
not_ok (Ok t) e Q h = absurd h
not_ok (Err x) e Q h = tt

pub err_on : {T E : Type 0} (r : Result T E) (e : E) (P : E → Type 0) → IsErrAnd r (λ x. x ≡ e) → P e → IfErr r P
err_on (Ok t) e P h p = absurd h
err_on (Err x) e P h p = subst P (sym h) p

pub if_true : (b : Bool) (A B : Type 0) → b ≡ true → MatchBool b A B → A
if_true true A B e h = h
if_true false A B e h = absurd (cc)

pub if_false : (b : Bool) (A B : Type 0) → b ≡ false → MatchBool b A B → B
if_false true A B e h = absurd (cc)
if_false false A B e h = h

pub err_is : {T E : Type 0} (r : Result T E) (e : E) → IsErrAnd r (λ x. x ≡ e) → Err e ≡ r
err_is (Ok t) e h = absurd h
err_is (Err x) e h = ap (λ y. Err y) (sym h)
