-- What is decoded is what stands in the bytes.
use Rattle.std.proofs.Common.{◌≡◌, ℕ, ◌+◌, ◌≤◌, Bool, true, false, cond, eqb, ltb, not, ◌&&◌, List, length, Option, Some, None, Result, Ok, Err, refl, sym, ap, subst, ◌∙◌, arith}
use Rattle.std.proofs.lemmas.Bool.{le-ltb}
use Rattle.std.proofs.lemmas.Bool.Decides.{nat_tests}
use Rattle.fab_base.specs.Layout.{byte, field}
use Rattle.ct_messages.specs.declared.command.Command.{Command}
use Rattle.ct_messages.specs.declared.command.Command.TheVariants.{GaNxt, GpnId, GnnId, GftId, GffId, GidPn, GidFt, GpnFt, GnnFt, GidPt, RnnId, RftId, RspnId, RffId, RsnnNn, DaId}
use Rattle.ct_messages.specs.declared.CtFault.{CtFault}
use Rattle.ct_messages.specs.Table.{row_of, command_with}
use Rattle.ct_messages.specs.Ct.{Ask, NextOf, PortNameOf, NodeNameOf, TypesOf, FeaturesOf, ByPortName, AddressesOfType, PortNamesOfType, NodeNamesOfType, AddressesOfPortType, SetNode, SetTypes, SetSymbol, SetFeature, SetNodeSymbol, Erase, Unknown, IsCt, Stands, code_of, command_of, needs, asks, decoded, is_short, is_for_others, is_cut}
use Rattle.ct_messages.proofs.Rows.{command_with-code, code-found, fields-row, code_of-row}

-- the three tests, where they are passed
passed : {A : Type 0} (a b c : Bool) (x y z r : A) → a ≡ false → b ≡ false → c ≡ false → cond a x (cond b y (cond c z r)) ≡ r
passed a b c x y z r e f g = rw (e, f, g)

-- and what they say of a request that is answered
record Passed {A : Type 0} (a b c : Bool) (r ask : A) : Type 0 where
  first : a ≡ false
  second : b ≡ false
  third : c ≡ false
  same : r ≡ ask

answered : {A E : Type 0} (a b c : Bool) (x y z : E) (r ask : A) → (let d : Result A E = cond a (Err x) (cond b (Err y) (cond c (Err z) (Ok r))) in d ≡ Ok ask) → Passed a b c r ask
answered true b c x y z r ask is = cc
answered false true c x y z r ask is = cc
answered false false true x y z r ask is = cc
answered false false false x y z r ask is = record { first = refl; second = refl; third = refl; same = cc }

within : (m n : ℕ) → ltb m n ≡ false → n ≤ m
within m n e = grind (arith, nat_tests)

both : (a b : ℕ) → eqb a 0xfc && eqb b 2 ≡ true → (a ≡ 0xfc) × (b ≡ 2)
both a b e = grind (arith, nat_tests)

is_not : (b : Bool) → not b ≡ false → b ≡ true
is_not true e = refl
is_not false e = cc

-- what the row of bytes says stands in them
module _ (l : List ℕ) (long : 16 ≤ length l) (directory : byte l 4 ≡ 0xfc) (name_server : byte l 5 ≡ 2) where
  row_stands : (row : Option Command) → command_with (command_of l) ≡ row → 16 + needs row l ≤ length l → IsCt (asks row l) l
  row_stands None found fits = record { long = long; directory = directory; name_server = name_server; command = refl; fields = found }
  row_stands (Some c) found fits = record {
    long = long;
    directory = directory;
    name_server = name_server;
    command = sym (code-found (command_of l) c found) ∙ sym (code_of-row c l);
    fields = fields-row c l fits;
  }

  pub IsCt-row : (c : Command) (code size : ℕ) (ask : Ask) → code ≡ command_of l → Some c ≡ command_with code → size ≡ (row_of c).needs l → 16 + size ≤ length l → ask ≡ (row_of c).asks l → IsCt ask l
  IsCt-row c code size ask is_code found is_size fits same =
      subst (λ (a : Ask). IsCt a l) (sym same) (row_stands (Some c) (ap command_with (sym is_code) ∙ sym found) (omega arith))

pub IsCt-from_decoded : (ask : Ask) (l : List ℕ) → decoded l ≡ Ok ask → IsCt ask l
unfolding decoded
IsCt-from_decoded ask l is =
    let p = answered (is_short l) (is_for_others l) (is_cut l) _ _ _ (asks (command_with (command_of l)) l) ask is in
    let service = both (byte l 4) (byte l 5) (is_not _ p.second) in
    subst (λ (a : Ask). IsCt a l) p.same (row_stands l (within (length l) 16 p.first) service.0 service.1 (command_with (command_of l)) refl (within (length l) _ p.third))

-- the row that a request has in bytes, and what it says of them
record Says (ask : Ask) (l : List ℕ) : Type 0 where
  row : Option Command
  found : command_with (command_of l) ≡ row
  fits : 16 + needs row l ≤ length l
  same : asks row l ≡ ask

at_row : (ask : Ask) (l : List ℕ) (c : Command) → command_of l ≡ (row_of c).code → 16 + (row_of c).needs l ≤ length l → (row_of c).asks l ≡ ask → Says ask l
at_row ask l c code fits same = record { row = Some c; found = ap command_with code ∙ command_with-code c; fits = fits; same = same }

two : {A B : Type 0} (f : A → B → Ask) (a c : A) (b d : B) → a ≡ c → b ≡ d → f a b ≡ f c d
two f a c b d e g = cc

three : (a b c d e f : ℕ) → a ≡ d → b ≡ e → c ≡ f → SetFeature a b c ≡ SetFeature d e f
three a b c d e f g h i = cc

says : (ask : Ask) (l : List ℕ) → 16 ≤ length l → command_of l ≡ code_of ask → Stands ask l → Says ask l
says (NextOf address) l long code f = at_row _ l GaNxt code f.0 (ap NextOf f.1)
says (PortNameOf address) l long code f = at_row _ l GpnId code f.0 (ap PortNameOf f.1)
says (NodeNameOf address) l long code f = at_row _ l GnnId code f.0 (ap NodeNameOf f.1)
says (TypesOf address) l long code f = at_row _ l GftId code f.0 (ap TypesOf f.1)
says (FeaturesOf address) l long code f = at_row _ l GffId code f.0 (ap FeaturesOf f.1)
says (ByPortName name) l long code f = at_row _ l GidPn code f.0 (ap ByPortName f.1)
says (AddressesOfType kind) l long code f = at_row _ l GidFt code f.0 (ap AddressesOfType f.1)
says (PortNamesOfType kind) l long code f = at_row _ l GpnFt code f.0 (ap PortNamesOfType f.1)
says (NodeNamesOfType kind) l long code f = at_row _ l GnnFt code f.0 (ap NodeNamesOfType f.1)
says (AddressesOfPortType kind) l long code f = at_row _ l GidPt code f.0 (ap AddressesOfPortType f.1)
says (SetNode address name) l long code f = at_row _ l RnnId code f.0 (two SetNode _ _ _ _ f.1 f.2)
says (SetTypes address types) l long code f = at_row _ l RftId code f.0 (two (λ a words. SetTypes a (record { 0 = words })) _ _ _ _ f.1 f.2)
says (SetSymbol address symbol) l long code f =
    let len = f.2 in
    let room = f.0 in
    at_row _ l RspnId code (omega arith) (two SetSymbol _ _ _ _ f.1 (ap (field l 21) f.2 ∙ f.3))
says (SetFeature address feature kind) l long code f = at_row _ l RffId code f.0 (three _ _ _ _ _ _ f.1 f.2 f.3)
says (SetNodeSymbol name symbol) l long code f =
    let len = f.2 in
    let room = f.0 in
    at_row _ l RsnnNn code (omega arith) (two SetNodeSymbol _ _ _ _ f.1 (ap (field l 25) f.2 ∙ f.3))
says (Erase address) l long code f = at_row _ l DaId code f.0 (ap Erase f.1)
says (Unknown command) l long code none = record { row = None; found = ap command_with code ∙ none; fits = long; same = ap Unknown code }

-- bytes in which a request stands pass the tests, and are decoded as that request
module _ (ask : Ask) (l : List ℕ) (is : IsCt ask l) where
  pub not_short : is_short l ≡ false
  not_short = le-ltb (length l) 16 is.long

  pub not_for_others : is_for_others l ≡ false
  not_for_others =
      let P : ℕ → ℕ → Type 0 = λ a b. not (eqb a 0xfc && eqb b 2) ≡ false in
      subst (λ (a : ℕ). P a (byte l 5)) (sym is.directory) (subst (λ (b : ℕ). P 0xfc b) (sym is.name_server) refl)

  pub not_cut : is_cut l ≡ false
  not_cut =
      let s = says ask l is.long is.command is.fields in
      subst (λ (r : Option Command). ltb (length l) (16 + needs r l) ≡ false) (sym s.found) (le-ltb (length l) (16 + needs s.row l) s.fits)

  pub decoded-from_IsCt : decoded l ≡ Ok ask
  unfolding decoded
  decoded-from_IsCt =
      let s = says ask l is.long is.command is.fields in
      passed _ _ _ _ _ _ _ not_short not_for_others not_cut ∙ ap (λ (r : Option Command). Ok (asks r l)) s.found ∙ ap Ok s.same

pub one_request : (ask other : Ask) (l : List ℕ) → IsCt ask l → IsCt other l → ask ≡ other
one_request ask other l is is_other =
    let Is : Result Ask CtFault → Type 0 = λ r. r ≡ Ok other in
    let e : Is (Ok ask) = sym (decoded-from_IsCt ask l is) ∙ decoded-from_IsCt other l is_other in
    cc
