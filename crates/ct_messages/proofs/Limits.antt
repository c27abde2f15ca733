-- What the bytes of a request keep small.
use Rattle.std.proofs.Common.{◌≡◌, true, false, List, ℕ, arith}
use Rattle.fab_base.proofs.LayoutLemmas.{AreBytes}
use Rattle.ct_messages.specs.Ask.{Ask, SetNode, SetTypes, SetSymbol, SetFeature, SetNodeSymbol, Erase}
use Rattle.ct_messages.specs.CanWrite.{CanWrite, HasByte}
use Rattle.ct_messages.specs.Ct.{Stands}
use Rattle.ct_messages.specs.Server.{is_registration}

no : false ≡ true → ⊥
no is = cc

-- a registration that stands in bytes can be written
pub CanWrite-stands : (ask : Ask) (l : List ℕ) → AreBytes l → Stands ask l → is_registration ask ≡ true → CanWrite ask
CanWrite-stands (SetNode _ _) l bytes stands is = tt
CanWrite-stands (SetTypes _ _) l bytes stands is = tt
CanWrite-stands (SetSymbol _ symbol) l bytes stands is = let size = bytes 20 in let len = stands.2 in omega arith
CanWrite-stands (SetFeature _ feature _) l bytes stands is = let low = stands.2 in omega arith
CanWrite-stands (SetNodeSymbol _ symbol) l bytes stands is = let size = bytes 24 in let len = stands.2 in omega arith
CanWrite-stands (Erase _) l bytes stands is = tt
CanWrite-stands _ l bytes stands is = absurd (no is)

pub HasByte-stands : (ask : Ask) (l : List ℕ) → AreBytes l → Stands ask l → HasByte ask
HasByte-stands (SetFeature _ _ kind) l bytes stands = let size = bytes 23 in let same = stands.3 in omega arith
HasByte-stands _ l bytes stands = tt
