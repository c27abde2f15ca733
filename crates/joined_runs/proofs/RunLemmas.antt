-- What `run` sends on a port and what it takes there, by its journal.
use Rattle.std.proofs.Common.{◌≡◌, ℕ, ◌+◌, ◌==◌, Bool, true, false, cond, inl, inr, List, [], ◌∷◌, ◌++◌, length, map, filter, flat_map, append_assoc, Option, Some, refl, sym, ap, ◌∙◌, subst, arith}
use Rattle.std.proofs.lemmas.Bool.{eqb-true}
use Rattle.std.proofs.lemmas.Bool.Decides.{nat_tests}
use Rattle.std.proofs.lemmas.List.Concat.{flat_map-append}
use Rattle.fab_base.specs.Counting.{counting}
use Rattle.fab_base.specs.Seen.{Seen}
use Rattle.fab_base.specs.declared.values.Caught.{Caught}
use Rattle.fab_config.specs.Settings.{Settings}
use Rattle.pcap_file.specs.Capture.{head_bytes}
use Rattle.pcap_file.specs.declared.Record.{Record}
use Rattle.heard_frames.specs.Heard.{source}
use Rattle.fab_policy.specs.Journal.{Journal}
use Rattle.fab_policy.specs.Legal.{HoldsFrames, of_port, numbered_from}
use Rattle.fab_policy.specs.Outputs.{Sent, outputs}
use Rattle.fab_policy.specs.Ranged.{IsRanged}
use Rattle.fab_policy.specs.Text.{egress, sent_bytes}
use Rattle.fab_policy.specs.declared.event.Event.TheVariants.{Tick, Frame}
use Rattle.fab_policy.specs.declared.verdict.Verdict.{Verdict}
use Rattle.enode_core.specs.Laws.{IsAmong, IsEntry, IsOutput, AreOutputs, AreFrom, AreBytes}
use Rattle.enode_core.specs.Runs.{Sending}
use Rattle.fabric_tool.specs.Inputs.{HasCapture, AreCaptures}
use Rattle.joined_runs.specs.Box.{IsAt}
use Rattle.joined_runs.proofs.AmongLemmas.{among_append, among_front, among_back}
use Rattle.joined_runs.proofs.BackLemmas.{written_of}

-- ---- files of ports

-- the file under the name of a port, where each port's is known
pub file_at : (file : List ℕ → Option (List ℕ)) (f : ℕ → List ℕ) (first port : ℕ) (names : List (List ℕ)) (name : List ℕ) →
    map file names ≡ map (λ l. Some l) (map f (counting first (length names))) → IsAt first names port name → file name ≡ Some (f port)
file_at file f first port [] name e at = absurd at
file_at file f first port (n ∷ names) name e (inl is) = ap file is.1 ∙ (let one : file n ≡ Some (f first) = cc in one) ∙ ap (λ p. Some (f p)) (sym is.0)
file_at file f first port (n ∷ names) name e (inr later) = file_at file f (first + 1) port names name (let rest : map file names ≡ map (λ l. Some l) (map f (counting (first + 1) (length names))) = cc in rest) later

-- ---- what is sent

-- the frames that a journal sends on a port
abbrev pub sent_on : Settings → ℕ → ℕ → Journal → List Sent
sent_on c n p [] = []
sent_on c n p (e ∷ J) = sent_on c n p J ++ filter (λ s. s.port == p) (outputs c n J e)

pub egress_is : (c : Settings) (n p : ℕ) (J : Journal) → egress c n p J ≡ head_bytes ++ written_of (λ (s : Sent). s.moment) (λ (s : Sent). s.bytes) (sent_on c n p J)
unfolding egress
egress_is c n p [] = refl
egress_is c n p (e ∷ J) =
    let here = filter (λ (s : Sent). s.port == p) (outputs c n J e) in
    ap (λ l. l ++ flat_map sent_bytes here) (egress_is c n p J)
    ∙ append_assoc head_bytes (flat_map sent_bytes (sent_on c n p J)) (flat_map sent_bytes here)
    ∙ ap (λ l. head_bytes ++ l) (sym (flat_map-append sent_bytes (sent_on c n p J) here))

-- those of a port
on_port : (p : ℕ) (xs : List Sent) (s : Sent) → IsAmong s (filter (λ x. x.port == p) xs) → IsAmong s xs × (s.port ≡ p)
on_port p [] s h = absurd h
on_port p (x ∷ xs) s h = by_test (x.port == p) refl h (on_port p xs s)
  where
    by_test : (b : Bool) → (x.port == p) ≡ b → IsAmong s (cond b (x ∷ filter (λ y. y.port == p) xs) (filter (λ y. y.port == p) xs)) → (IsAmong s (filter (λ y. y.port == p) xs) → IsAmong s xs × (s.port ≡ p)) → IsAmong s (x ∷ xs) × (s.port ≡ p)
    by_test true is (inl same) more = (inl same, ap (λ (y : Sent). y.port) same ∙ eqb-true x.port p is)
    by_test true is (inr there) more = let m = more there in (inr m.0, m.1)
    by_test false is there more = let m = more there in (inr m.0, m.1)

-- each of them is an output
pub sent_there : (c : Settings) (n p : ℕ) (J : Journal) (s : Sent) → IsAmong s (sent_on c n p J) → IsOutput c n p J s.bytes
sent_there c n p [] s among = absurd among
sent_there c n p (e ∷ J) s among = elim (among_append (sent_on c n p J) (filter (λ s. s.port == p) (outputs c n J e)) s among) [
  | inl before ↦
      let o = sent_there c n p J s before in
      record { entry = o.entry; before = o.before; stands = inr o.stands; sent = o.sent; among = o.among; port = o.port; bytes_are = o.bytes_are }
  | inr here ↦
      let h = on_port p (outputs c n J e) s here in
      record { entry = e; before = J; stands = inl (refl, refl); sent = s; among = h.0; port = h.1; bytes_are = refl }
]

pub outputs_of : (c : Settings) (n p : ℕ) (J : Journal) (records : List Record) → ((r : Record) → IsAmong r records → IsOutput c n p J r.caught.bytes) → AreOutputs c n p J records
outputs_of c n p J [] all = tt
outputs_of c n p J (r ∷ records) all = (all r (inl refl), outputs_of c n p J records (λ q there. all q (inr there)))

-- ---- what is taken

-- the frames of a port are those of its capture
pub record IsInput (d : Seen) (name : List ℕ) (port : ℕ) (J : Journal) : Type 0 where
  pub records : List Record
  pub capture : HasCapture d name records
  pub frames : of_port port J ≡ numbered_from 0 records

pub input_at : (d : Seen) (J : Journal) (first port : ℕ) (names : List (List ℕ)) (ins : List (List Record)) (name : List ℕ) → AreCaptures d names ins → HoldsFrames J first ins → IsAt first names port name → IsInput d name port J
input_at d J first port [] ins name are holds at = absurd at
input_at d J first port (n ∷ names) [] name are holds at = absurd are
input_at d J first port (n ∷ names) (records ∷ ins) name are holds (inl is) = record {
  records = records;
  capture = subst (λ m. HasCapture d m records) (sym is.1) are.0;
  frames = ap (λ p. of_port p J) is.0 ∙ holds.0;
}
input_at d J first port (n ∷ names) (records ∷ ins) name are holds (inr later) = input_at d J (first + 1) port names ins name are.1 holds.1 later

numbered_there : (n : ℕ) (records : List Record) (index : ℕ) (caught : Caught) → IsAmong {X = ℕ × Caught} (index, caught) (numbered_from n records) → (r : Record) × IsAmong r records × (r.caught ≡ caught)
numbered_there n [] index caught among = absurd among
numbered_there n (r ∷ records) index caught (inl is) = (r, inl refl, ap (λ (x : ℕ × Caught). x.1) (sym is))
numbered_there n (r ∷ records) index caught (inr later) = let l = numbered_there (n + 1) records index caught later in (l.0, inr l.1, l.2)

-- the frame of an entry is one of its port
entry_there : (p index : ℕ) (caught : Caught) (v : Verdict) (J K : Journal) → IsEntry J (Frame p index caught v) K → IsAmong {X = ℕ × Caught} (index, caught) (of_port p J)
entry_there p index caught v [] K at = absurd at
entry_there p index caught v (Tick m ended ∷ J) K (inl same) = absurd (let e = same.0 in let no : ⊥ = cc in no)
entry_there p index caught v (Tick m ended ∷ J) K (inr later) = entry_there p index caught v J K later
entry_there p index caught v (Frame q i other w ∷ J) K (inl same) = among_back (of_port p J) (cond (q == p) ((i, other) ∷ []) []) (index, caught) (here (q == p) refl)
  where
    one : q ≡ p
    one = let e = same.0 in cc

    number : index ≡ i
    number = let e = same.0 in cc

    frame : caught ≡ other
    frame = let e = same.0 in cc

    here : (b : Bool) → (q == p) ≡ b → IsAmong {X = ℕ × Caught} (index, caught) (cond b ((i, other) ∷ []) [])
    here true is = inl (λ k. (number k, frame k))
    here false is = let e = one in absurd (grind (arith, nat_tests))
entry_there p index caught v (Frame q i other w ∷ J) K (inr later) = among_front (of_port p J) (cond (q == p) ((i, other) ∷ []) []) (index, caught) (entry_there p index caught v J K later)

pub frame_there : (d : Seen) (name : List ℕ) (port index : ℕ) (caught : Caught) (v : Verdict) (J K : Journal) (i : IsInput d name port J) → IsEntry J (Frame port index caught v) K → (r : Record) × IsAmong r i.records × (r.caught ≡ caught)
frame_there d name port index caught v J K i at =
    numbered_there 0 i.records index caught (subst (λ (l : List (ℕ × Caught)). IsAmong {X = ℕ × Caught} (index, caught) l) i.frames (entry_there port index caught v J K at))

pub from_of : (p : ℕ) (mac : List ℕ) (frames : List Sending) (J : Journal) →
    ((index : ℕ) (caught : Caught) (v : Verdict) (K : Journal) → IsEntry J (Frame p index caught v) K → source caught ≡ mac → (x : Sending) × IsAmong x frames × (x.bytes ≡ caught.bytes)) → AreFrom p mac frames J
from_of p mac frames [] all = tt
from_of p mac frames (Tick m ended ∷ J) all = from_of p mac frames J (λ index caught v K at. all index caught v K (inr at))
from_of p mac frames (Frame q i other w ∷ J) all = (
  λ one is. all i other w J (inl ((λ k. Frame (one k) i other w), refl)) is,
  from_of p mac frames J (λ index caught v K at. all index caught v K (inr at)),
)

pub bytes_of : (J : Journal) → IsRanged J → AreBytes J
bytes_of [] h = tt
bytes_of (Tick m ended ∷ J) h = bytes_of J h.0
bytes_of (Frame p index caught v ∷ J) h = (bytes_of J h.0, h.1.3)
