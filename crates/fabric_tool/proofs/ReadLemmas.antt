-- What reading a configuration answers.
use Rattle.std.proofs.Common.{◌≡◌, ℕ, ◌<◌, List, ◌++◌, length, length-append, take, Ok, Err, IsTrue, refl, sym, ◌∙◌, ap, subst, arith, inl, inr}
use Rattle.std.specs.Prelude.{Result}
use Rattle.std.proofs.lemmas.Bool.{lt-ltb}
use Rattle.std.proofs.lemmas.List.{append-nil, length-take-le}
use Rattle.fab_base.specs.Ending.{End, Said, Read, Memory, Uses}
use Rattle.fab_base.specs.Seen.{Seen, Nothing, Only, OpensIn, Fills}
use Rattle.fab_base.specs.declared.values.Failed.{Failed}
use Rattle.fab_base.proofs.SeenLemmas.{told_stays}
use Rattle.fab_base.proofs.EndingLemmas.{uses_none, uses_refused, uses_then, uses_read, opens_in_uses}
use Rattle.fab_config.specs.Settings.{Settings}
use Rattle.fab_config.specs.Text.{decoded}
use Rattle.fab_config.specs.Told.{TellsText}
use Rattle.fab_config.specs.declared.ConfigFault.{ConfigFault}
use Rattle.fab_config.specs.declared.ConfigWhy.TheVariants as why
use Rattle.fab_config.specs.declared.reading.ConfigError.{ConfigError}
use Rattle.fab_config.specs.declared.reading.ConfigError.TheVariants as errors
use Rattle.pcap_file.proofs.lemmas.Numbers.{le_or_lt}
use Rattle.fabric_tool.specs.Inputs.{HasFault}
use Rattle.fabric_tool.specs.Outcome.{outcome_end}
use Rattle.fabric_tool.specs.Reading.{TextRead, ConfigRead, misread_by}
use Rattle.fabric_tool.specs.declared.outcome.Outcome.{Outcome}
use Rattle.fabric_tool.specs.declared.outcome.Outcome.TheVariants as ends

-- ---- a configuration

long_text : (l : List ℕ) → 1048576 < length l → decoded l ≡ Err (record { line = 0; why = why.Long })
unfolding decoded
long_text l lt = rw (lt-ltb 1048576 (length l) lt, decoded) refl

module _ (s : ℕ) (a b : Seen) (text : List ℕ) where
  -- the text couldn't be read
  pub text_failed : (e : Failed) → Fills {E = Failed} s text a b (Err e) → TextRead s a b (Err ends.ReadFault)
  text_failed e f = record { uses = uses_read (a.name s) Read a b f.reads (f.cause, f.reads.writes); ok = λ told. tt; fault = λ told x h. absurd (cc); only = inr (inl refl) }

  module _ (got : ℕ) (f : Fills {E = Failed} s text a b (Ok got)) (size : length text ≡ 1048577) where
    -- what was got has the value of what is left, also where more is left than the room takes
    same_value : IsTrue a.told → decoded (take got text) ≡ decoded (a.left s)
    same_value told = elim (le_or_lt 1048577 got) [
      | inl full ↦
          let front = length-take-le got text f.bound in
          let all = ap length (f.taken told) in
          long_text (take got text) (omega arith) ∙ sym (long_text (a.left s) (omega (arith, length-append (take got text) (b.left s))))
      | inr lt ↦ ap decoded (sym (append-nil (take got text)) ∙ ap (λ l. take got text ++ l) (sym (f.ended told (omega arith))) ∙ f.taken told)
    ]

    filled : Uses (Only (a.name s)) Nothing Said a b
    filled = uses_read (a.name s) Said a b f.reads (f.counts, f.reads.writes)

    pub text_value : (c : Settings) → decoded (take got text) ≡ Ok c → TextRead s a b (Ok c)
    text_value c is = record { uses = filled; ok = λ told. sym (same_value told) ∙ is; fault = λ told. tt; only = tt }

    text_fault : (x : ConfigFault) → decoded (take got text) ≡ Err x → TextRead s a b (Err (ends.Config x))
    text_fault x is = record { uses = filled; ok = λ told. tt; fault = λ told y h. let same : x ≡ y = cc in sym (same_value told) ∙ is ∙ ap (λ (z : ConfigFault). Err z) same; only = inl (x, refl) }

    text_memory : TextRead s a b (Err ends.Memory)
    text_memory = record { uses = uses_refused (Only (a.name s)) Nothing a b filled; ok = λ told. tt; fault = λ told x h. absurd (cc); only = inr (inr refl) }

    -- an error of reading what was got
    pub text_misread : (e : ConfigError) → TellsText e (decoded (take got text)) → TextRead s a b (Err (misread_by e))
    text_misread (errors.Fault x) tells = text_fault x tells
    text_misread errors.Memory tells = text_memory

pub text_no_room : (s : ℕ) (a : Seen) → TextRead s a a (Err ends.Memory)
text_no_room s a = record { uses = uses_refused (Only (a.name s)) Nothing a a (uses_none (Only (a.name s)) Nothing a); ok = λ told. tt; fault = λ told x h. absurd (cc); only = inr (inr refl) }

-- a configuration that was opened and read
module _ (name : List ℕ) (s : ℕ) (a b c : Seen) (opens : OpensIn {E = Failed} name a b (Ok s)) where
  told_b : IsTrue a.told → IsTrue b.told
  told_b = told_stays name a b opens.reads.keeps

  behind : (end : End) → Uses (Only (b.name s)) Nothing end b c → Uses (Only name) Nothing end a c
  behind end u = uses_then (Only name) Nothing end a b c (opens_in_uses a b name (Ok s) opens) (subst (λ n. Uses (Only n) Nothing end b c) opens.opened.2 u)

  pub config_opened : (r : Result Settings Outcome) → TextRead s b c r → ConfigRead name a c r
  config_opened (Ok x) t = record { uses = behind Said t.uses; ok = λ told. record { text = b.left s; file = opens.left told; value = t.ok (told_b told) }; fault = λ told. tt; only = tt }
  config_opened (Err e) t = record { uses = behind (outcome_end e) t.uses; ok = λ told. tt; fault = λ told f h. record { text = b.left s; file = opens.left told; value = t.fault (told_b told) f h }; only = t.only }

pub config_unopened : (name : List ℕ) (a b : Seen) (e : Failed) → OpensIn {E = Failed} name a b (Err e) → ConfigRead name a b (Err ends.ReadFault)
config_unopened name a b e opens = record { uses = opens_in_uses a b name (Err e) opens; ok = λ told. tt; fault = λ told f h. absurd (cc); only = inr (inl refl) }

-- a configuration that isn't taken: a fault of the text, one of the depot, or want of memory
module _ {name : List ℕ} {a b : Seen} {x : Outcome} (read : ConfigRead name a b (Err x)) (P : Outcome → Type 0) where
  pub config_refused : ((f : ConfigFault) → Uses (Only name) Nothing Said a b → (IsTrue a.told → HasFault a name f) → P (ends.Config f)) → (Uses (Only name) Nothing Read a b → P ends.ReadFault) → (Uses (Only name) Nothing Memory a b → P ends.Memory) → P x
  config_refused faulty failed refused = elim read.only [
    | inl fault ↦ subst P (sym fault.1) (faulty fault.0 (ends_so fault.1) (λ told. read.fault told fault.0 fault.1))
    | inr other ↦ elim other [
      | inl is ↦ subst P (sym is) (failed (ends_so is))
      | inr is ↦ subst P (sym is) (refused (ends_so is))
    ]
  ]
    where
      ends_so : {y : Outcome} → x ≡ y → Uses (Only name) Nothing (outcome_end y) a b
      ends_so {y} is = subst (λ (o : Outcome). Uses (Only name) Nothing (outcome_end o) a b) is read.uses
