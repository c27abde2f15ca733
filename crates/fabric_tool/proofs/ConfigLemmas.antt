-- A file says one thing: its bytes, and the configuration that they are.
use Rattle.std.proofs.Common.{◌≡◌, ℕ, List, Some, Ok, Err, sym, ap, ◌∙◌}
use Rattle.std.specs.Prelude.{Result}
use Rattle.fab_base.specs.Seen.{Seen}
use Rattle.fab_config.specs.Settings.{Settings}
use Rattle.fab_config.specs.Text.{decoded}
use Rattle.fab_config.specs.declared.ConfigFault.{ConfigFault}
use Rattle.fabric_tool.specs.Inputs.{HasConfig, HasFault}

pub same_text : (d : Seen) (name : List ℕ) (x y : List ℕ) → d.file name ≡ Some x → d.file name ≡ Some y → x ≡ y
same_text d name x y is other = let e : Some x ≡ Some y = sym is ∙ other in cc

pub one_value : (d : Seen) (name : List ℕ) (a b : Settings) → HasConfig d name a → HasConfig d name b → a ≡ b
one_value d name a b one other =
    let same = same_text d name one.text other.text one.file other.file in
    let both : (let r : Result Settings ConfigFault = Ok a in r) ≡ Ok b = sym one.value ∙ ap decoded same ∙ other.value in
    cc

pub one_fault : (d : Seen) (name : List ℕ) (a b : ConfigFault) → HasFault d name a → HasFault d name b → a ≡ b
one_fault d name a b one other =
    let same = same_text d name one.text other.text one.file other.file in
    let both : (let r : Result Settings ConfigFault = Err a in r) ≡ Err b = sym one.value ∙ ap decoded same ∙ other.value in
    cc

pub no_fault : (d : Seen) (name : List ℕ) (a : Settings) (fault : ConfigFault) → HasConfig d name a → HasFault d name fault → ⊥
no_fault d name a fault one other =
    let same = same_text d name one.text other.text one.file other.file in
    let both : (let r : Result Settings ConfigFault = Ok a in r) ≡ Err fault = sym one.value ∙ ap decoded same ∙ other.value in
    absurd (cc)
