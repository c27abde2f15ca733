-- The lines of a text, one after another, and the value at their end.
use Rattle.std.proofs.Common.{◌≡◌, ℕ, ◌+◌, ◌<◌, ◌^◌, List, [], ◌∷◌, length, Bool, true, Option, Some, None, Result, Ok, Err, refl, sym, ◌∙◌, ap, arith, leb}
use Rattle.std.specs.Prelude.{IsTrue}
use Rattle.std.specs.Option.{unwrap_or}
use Rattle.std.proofs.lemmas.Bool.{lt-ltb, and_from}
use Rattle.fab_config.specs.Settings.{Settings, is_between, is_station, is_in_range}
use Rattle.fab_config.specs.Lines.{lines_of}
use Rattle.fab_config.specs.Fitting.{Fits, passes}
use Rattle.fab_config.specs.Text.{line_read, lines_read, with_defaults}
use Rattle.fab_config.specs.declared.ConfigWhy.{ConfigWhy}
use Rattle.fab_config.specs.declared.ConfigFault.{ConfigFault}
use Rattle.fab_config.specs.declared.draft.Draft.{Draft}

abbrev after : ℕ → List (List ℕ) → Result Draft ConfigWhy → Result Settings ConfigFault
after n lines (Ok next) = lines_read (n + 1) next lines
after n lines (Err w) = Err (record { line = n; why = w })

step : (n : ℕ) (d : Draft) (line : List ℕ) (lines : List (List ℕ)) → lines_read n d (line ∷ lines) ≡ after n lines (line_read d line)
step n d line lines = by (line_read d line)
  where
    by : (r : Result Draft ConfigWhy) → elim r as (λ _. Result Settings ConfigFault) [ Ok next ↦ lines_read (n + 1) next lines | Err w ↦ Err (record { line = n; why = w }) ] ≡ after n lines r
    by (Ok next) = refl
    by (Err w) = refl

pub lines_ok : (n : ℕ) (d next : Draft) (all lines : List (List ℕ)) (line : List ℕ) → all ≡ line ∷ lines → line_read d line ≡ Ok next → lines_read (n + 1) next lines ≡ lines_read n d all
lines_ok n d next all lines line is e = sym (ap (lines_read n d) is ∙ step n d line lines ∙ ap (after n lines) e)

-- where no line is left
pub at_end : (n : ℕ) (d : Draft) (rest : List ℕ) → length rest ≡ 0 → lines_read n d (lines_of rest) ≡ lines_read n d []
at_end n d [] empty = refl
at_end n d (b ∷ rest) empty = absurd (omega arith)

-- ---- the value

default_passes : (test : ℕ → Bool) (o : Option ℕ) (d : ℕ) → passes test o ≡ true → test d ≡ true → test (unwrap_or o d) ≡ true
default_passes test None d p e = e
default_passes test (Some x) d p e = p

pub fits_in_range : (d : Draft) (mac : List ℕ) (vlan switch : ℕ) → Fits d → d.fcf_mac ≡ Some mac → d.vlan ≡ Some vlan → switch < 2 ^ 64
    → IsTrue (is_in_range (with_defaults d mac vlan switch))
fits_in_range d mac vlan switch fit is_mac is_vlan small =
    let a1 = lt-ltb switch (2 ^ 64) small in
    let a2 : is_station mac ≡ true = sym (ap (passes is_station) is_mac) ∙ fit.fcf_mac in
    let a3 = default_passes (is_between 0x0efc00 0x0efcff) d.map 0x0efc00 fit.map refl in
    let a4 : is_between 1 4094 vlan ≡ true = sym (ap (passes (is_between 1 4094)) is_vlan) ∙ fit.vlan in
    let a5 = default_passes (is_between 1 239) d.domain 1 fit.domain refl in
    let a6 = default_passes (is_between 1 60000) d.pool 256 fit.pool refl in
    let a7 = default_passes (λ n. leb n 255) d.priority 128 fit.priority refl in
    let a8 = default_passes (is_between 250 90000) d.period 8000 fit.period refl in
    let a9 = default_passes (is_between 10 1000) d.window 100 fit.window refl in
    let a10 = default_passes (is_between 1 1000) d.limit 240 fit.limit refl in
    and_from _ _ (and_from _ _ (and_from _ _ (and_from _ _ (and_from _ _ (and_from _ _ (and_from _ _ (and_from _ _ (and_from _ _ (and_from _ _ (and_from _ _ (and_from _ _ a1 a2) a3) a4) a5) a6) a7) a8) a9) a10) fit.zones) fit.sets) fit.activations
