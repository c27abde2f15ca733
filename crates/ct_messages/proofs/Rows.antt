-- The rows of the table: codes, and where the fields of a row's request stand.
use Rattle.std.proofs.Common.{◌≡◌, ℕ, ◌+◌, ◌≤◌, Bool, true, false, cond, eqb, List, [], ◌∷◌, length, Option, Some, refl, sym, ap, ◌∙◌, arith}
use Rattle.std.specs.List.{find}
use Rattle.std.proofs.lemmas.Bool.Decides.{nat_tests}
use Rattle.fab_base.specs.Layout.{field, byte}
use Rattle.fab_base.proofs.LayoutLemmas.{length-field}
use Rattle.ct_messages.specs.declared.command.Command.{Command}
use Rattle.ct_messages.specs.declared.command.Command.TheVariants.{GaNxt, GpnId, GnnId, GftId, GffId, GidPn, GidFt, GpnFt, GnnFt, GidPt, RnnId, RftId, RspnId, RffId, RsnnNn, DaId}
use Rattle.ct_messages.specs.Table.{row_of, command_with, commands}
use Rattle.ct_messages.specs.Ct.{Stands, code_of}

-- the code of a row finds it
pub command_with-code : (c : Command) → command_with (row_of c).code ≡ Some c
unfolding command_with
command_with-code GaNxt = refl
command_with-code GpnId = refl
command_with-code GnnId = refl
command_with-code GftId = refl
command_with-code GffId = refl
command_with-code GidPn = refl
command_with-code GidFt = refl
command_with-code GpnFt = refl
command_with-code GnnFt = refl
command_with-code GidPt = refl
command_with-code RnnId = refl
command_with-code RftId = refl
command_with-code RspnId = refl
command_with-code RffId = refl
command_with-code RsnnNn = refl
command_with-code DaId = refl

found_by : {X : Type 0} (p : X → Bool) (y x : X) (rest : Option X) (b : Bool) → p y ≡ b → cond b (Some y) rest ≡ Some x → (rest ≡ Some x → p x ≡ true) → p x ≡ true
found_by p y x rest true passes is more = let same : y ≡ x = cc in ap p (sym same) ∙ passes
found_by p y x rest false passes is more = more is

-- what is found passes the test
found : {X : Type 0} (p : X → Bool) (xs : List X) (x : X) → find p xs ≡ Some x → p x ≡ true
found p [] x is = cc
found p (y ∷ ys) x is = found_by p y x (find p ys) (p y) refl is (λ e. found p ys x e)

equal : (a b : ℕ) → eqb a b ≡ true → a ≡ b
equal a b e = grind (arith, nat_tests)

-- a code that finds a row is its code
pub code-found : (n : ℕ) (c : Command) → command_with n ≡ Some c → (row_of c).code ≡ n
unfolding command_with
code-found n c is = equal (row_of c).code n (found (λ c. eqb (row_of c).code n) commands c is)

-- the fields of a row's request stand where the bytes that it needs are
pub fields-row : (c : Command) (l : List ℕ) → 16 + (row_of c).needs l ≤ length l → Stands ((row_of c).asks l) l
fields-row GaNxt l fits = (fits, refl)
fields-row GpnId l fits = (fits, refl)
fields-row GnnId l fits = (fits, refl)
fields-row GftId l fits = (fits, refl)
fields-row GffId l fits = (fits, refl)
fields-row GidPn l fits = (fits, refl)
fields-row GidFt l fits = (fits, refl)
fields-row GpnFt l fits = (fits, refl)
fields-row GnnFt l fits = (fits, refl)
fields-row GidPt l fits = (fits, refl)
fields-row RnnId l fits = (fits, refl, refl)
fields-row RftId l fits = (fits, refl, refl)
fields-row RspnId l fits =
    let len : length (field l 21 (byte l 20)) ≡ byte l 20 = length-field l 21 (byte l 20) (omega arith) in
    (omega arith, refl, sym len, ap (field l 21) len)
fields-row RffId l fits = (fits, refl, refl, refl)
fields-row RsnnNn l fits =
    let len : length (field l 25 (byte l 24)) ≡ byte l 24 = length-field l 25 (byte l 24) (omega arith) in
    (omega arith, refl, sym len, ap (field l 25) len)
fields-row DaId l fits = (fits, refl)

-- a row's request has the row's code
pub code_of-row : (c : Command) (l : List ℕ) → code_of ((row_of c).asks l) ≡ (row_of c).code
code_of-row GaNxt l = refl
code_of-row GpnId l = refl
code_of-row GnnId l = refl
code_of-row GftId l = refl
code_of-row GffId l = refl
code_of-row GidPn l = refl
code_of-row GidFt l = refl
code_of-row GpnFt l = refl
code_of-row GnnFt l = refl
code_of-row GidPt l = refl
code_of-row RnnId l = refl
code_of-row RftId l = refl
code_of-row RspnId l = refl
code_of-row RffId l = refl
code_of-row RsnnNn l = refl
code_of-row DaId l = refl
