-- What writing leaves of the readers, and reading of the files.
use Rattle.std.proofs.Common.{◌≡◌, ℕ, List, length, Option, Some, refl, ap, ◌∙◌, inl, inr}
use Rattle.fab_base.specs.Ending.{End, Uses}
use Rattle.fab_base.specs.Seen.{Seen, Touches, Nothing}
use Rattle.fab_config.specs.Settings.{Settings}
use Rattle.fab_policy.specs.Journal.{Journal}
use Rattle.window_records.specs.declared.shelf.Input.{Input}
use Rattle.fab_base.specs.Slots.{slot_at, name_of, NameIn}
use Rattle.window_records.specs.Ports.{slots_of, AreInputs}
use Rattle.window_records.proofs.StayLemmas.{LeftStays, left_stays}
use Rattle.fab_windows.specs.Files.{AreFiles, Written, Pending, Hold}
use Rattle.fab_windows.specs.From.{Origin, WholesButOn, captures_on, journal_on}
use Rattle.run_files.proofs.OutputLemmas.{same_name, stays_named}
use Rattle.fab_windows.proofs.UsesLemmas.{writing_touches}

-- names of files stay
module _ (may counted : List ℕ → Type 0) (a b : Seen) (k : Touches may counted a b) (journal : ℕ) (outs : List ℕ) (f : AreFiles a journal outs) where
  pub written_in : (m : List ℕ) → Written b journal outs m → Written a journal outs m
  written_in m (inl e) = inl (e ∙ stays_named may counted a b k journal f.journal_)
  written_in m (inr h) = inr (h.0, h.1, h.2 ∙ same_name may counted a b k outs f.outs_ h.0 h.1)

-- ---- reading leaves all files

module _ (counted : List ℕ → Type 0) (a b : Seen) (k : Touches Nothing counted a b) (journal : ℕ) (outs : List ℕ) (f : AreFiles a journal outs) where
  file_same : (m n : List ℕ) (x : Option (List ℕ)) → n ≡ m → a.file m ≡ x → b.file n ≡ x
  file_same m n x e h = ap b.file e ∙ k.files m (λ z. z) ∙ h

  pub hold_stays : (l : List ℕ) (r : ℕ → List ℕ) → Hold a journal outs l r → Hold b journal outs l r
  hold_stays l r h = record {
    lines_ = file_same (a.name journal) (b.name journal) (Some l) (stays_named Nothing counted a b k journal f.journal_) h.lines_;
    records = λ q lt. file_same (name_of a outs q) (name_of b outs q) (Some (r q)) (same_name Nothing counted a b k outs f.outs_ q lt) (h.records q lt);
  }

  pub but_stays : (p : Pending) (c : Settings) (o : Origin) (J : Journal) → WholesButOn p c o a journal outs J → WholesButOn p c o b journal outs J
  but_stays p c o J h = record {
    before = h.before;
    begins = h.begins;
    hold = record {
      hold = hold_stays (journal_on o h.before) (captures_on c o (length outs) h.before) h.hold.hold;
      lines_ = h.hold.lines_;
      records = h.hold.records;
    };
  }

-- ---- writing leaves what is to come

pub writing_leaves : (journal : ℕ) (outs : List ℕ) (a b : Seen) (ins : List Input) {end : End} → Uses Nothing (Written a journal outs) end a b → AreInputs a (slots_of ins) →
    ((m : List ℕ) → NameIn a (slots_of ins) m → ¬ Written a journal outs m) → LeftStays a b ins
writing_leaves journal outs a b ins u o apart =
    left_stays a b ins (λ q lt. (writing_touches (Written a journal outs) a b u).left (slot_at (slots_of ins) q) (o.inputs q lt) (apart (name_of a (slots_of ins) q) (q, lt, refl)))
