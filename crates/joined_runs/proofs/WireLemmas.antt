-- What comes over a wire was written on its other side.
use Rattle.std.proofs.Common.{◌≡◌, ℕ, ◌+◌, ◌≤◌, ◌⊎◌, inl, inr, List, ◌++◌, length, Option, Some, sym, ◌∙◌, subst, arith}
use Rattle.fab_base.specs.Seen.{Seen}
use Rattle.fab_base.specs.declared.values.Caught.{Caught}
use Rattle.pcap_file.specs.Capture.{HEAD, head_bytes, IsCapture}
use Rattle.pcap_file.specs.declared.CaptureHead.{CaptureHead}
use Rattle.pcap_file.specs.declared.Record.{Record}
use Rattle.pcap_file.proofs.lemmas.Chains.{one_capture}
use Rattle.enode_core.specs.Laws.{IsAmong, whole}
use Rattle.fabric_tool.specs.Inputs.{HasCapture, LIMITS}
use Rattle.joined_runs.specs.Box.{AreCarried, IsWire}
use Rattle.joined_runs.proofs.BackLemmas.{IsShort, written_of, back, short_in}
use Rattle.joined_runs.proofs.TakenLemmas.{IsTaken}

pub same_bytes : (l m : List ℕ) (o : Option (List ℕ)) → o ≡ Some l → o ≡ Some m → l ≡ m
same_bytes l m o e f = let both : Some l ≡ Some m = sym e ∙ f in cc

-- what is within the limits is short
pub short_of : (l : List ℕ) → length l ≤ HEAD + LIMITS.bytes → IsShort l
short_of l h = omega (arith, h)

abbrev pub taken_is : (d : Seen) (name : List ℕ) (records : List Record) (most : ℕ) → IsTaken d.file name records most → HasCapture d name records
taken_is d name records most t = record { bytes = t.bytes; file = t.found; head = t.head; capture = t.capture }

-- Each frame that came over a wire is one of those that were written there.
module _ {X : Type 0} (time : X → ℕ) (frame : X → List ℕ) (xs : List X) where
  written_back : (l : List ℕ) → l ≡ head_bytes ++ written_of time frame xs → IsShort l → (h : CaptureHead) (records : List Record) → IsCapture h records l → (r : Record) → IsAmong r records →
      (x : X) × IsAmong x xs × (r.caught ≡ whole (frame x))
  written_back l is short h records capture r among =
      let all : IsShort (head_bytes ++ written_of time frame xs) = subst IsShort is short in
      let tail : length (written_of time frame xs) ≤ length (head_bytes ++ written_of time frame xs) = omega arith in
      back time frame xs (short_in time frame xs (omega (arith, all, tail))) h records (subst (λ (m : List ℕ). IsCapture h records m) is capture) r among

  pub left_back : (d : Seen) (name : List ℕ) → d.file name ≡ Some (head_bytes ++ written_of time frame xs) → (records : List Record) (f : HasCapture d name records) → IsShort f.bytes → (r : Record) → IsAmong r records →
      (x : X) × IsAmong x xs × (r.caught ≡ whole (frame x))
  left_back d name is records f short r among = written_back f.bytes (same_bytes f.bytes (head_bytes ++ written_of time frame xs) (d.file name) f.file is) short f.head records f.capture r among

  pub over : (Such : Caught → Type 0) (left found : Seen) (output input : List ℕ) → IsWire Such left output found input → left.file output ≡ Some (head_bytes ++ written_of time frame xs) →
      (records : List Record) (f : HasCapture found input records) → IsShort f.bytes → (r : Record) → IsAmong r records → Such r.caught → (x : X) × IsAmong x xs × (r.caught ≡ whole (frame x))
  over Such left found output input wire is records f short r among such = by wire.carries
    where
      came_is : f.bytes ≡ wire.came
      came_is = same_bytes f.bytes wire.came (found.file input) f.file wire.found_

      sent_is : wire.sent ≡ head_bytes ++ written_of time frame xs
      sent_is = same_bytes wire.sent (head_bytes ++ written_of time frame xs) (left.file output) wire.left_ is

      by : (wire.came ≡ wire.sent) ⊎ AreCarried Such wire.sent wire.came → (x : X) × IsAmong x xs × (r.caught ≡ whole (frame x))
      by (inl same) = written_back f.bytes (came_is ∙ same ∙ sent_is) short f.head records f.capture r among
      by (inr c) =
          let one = (one_capture wire.came f.head c.came_head records c.came_records (subst (λ (m : List ℕ). IsCapture f.head records m) came_is f.capture) c.came_).1 in
          let s = c.each r (subst (λ (rs : List Record). IsAmong r rs) one among) such in
          let x = written_back wire.sent sent_is c.few c.sent_head c.sent_records c.sent_ s.0 s.1 in
          (x.0, x.1, sym s.2 ∙ x.2)

  -- the same of what was taken within the limits
  pub over_taken : (Such : Caught → Type 0) (left found : Seen) (output input : List ℕ) → IsWire Such left output found input → left.file output ≡ Some (head_bytes ++ written_of time frame xs) →
      (records : List Record) → IsTaken found.file input records LIMITS.bytes → (r : Record) → IsAmong r records → Such r.caught → (x : X) × IsAmong x xs × (r.caught ≡ whole (frame x))
  over_taken Such left found output input wire is records t r among such =
      let most = t.within in
      over Such left found output input wire is records (taken_is found input records LIMITS.bytes t) (short_of t.bytes (omega arith)) r among such
