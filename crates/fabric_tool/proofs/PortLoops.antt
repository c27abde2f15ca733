-- The loops over the ports of a command: the heads of the captures, and the outputs that are opened.
use Rattle.std.proofs.Common.{◌≡◌, ℕ, ◌+◌, ◌-◌, ◌<◌, List, [], ◌∷◌, ◌++◌, length, true, Ok, Err, refl, sym, ap, subst}
use Rattle.std.specs.Prelude.{String, Result, map}
use Rattle.std.specs.declared.alloc.Global.{Global}
use Rattle.fab_base.specs.Seen.{Seen, OpensOut}
use Rattle.fab_base.specs.declared.values.Failed.{Failed}
use Rattle.pcap_file.specs.declared.Budget.{Budget}
use Rattle.fab_base.specs.Counting.{counting}
use Rattle.window_records.specs.declared.shelf.Input.{Input}
use Rattle.fabric_tool.specs.Command.{are_pairs, are_ports, run_of, ins_of, port_count, count_of, input_of, output_at}
use Rattle.fabric_tool.specs.declared.command.Width.{Width}
use Rattle.fabric_tool.specs.Opening.{OutputsOpened}
use Rattle.fabric_tool.specs.Reading.{HeadRead, HeadsRead}
use Rattle.fabric_tool.specs.declared.outcome.Outcome.{Outcome}
use Rattle.fabric_tool.specs.declared.outcome.Outcome.TheVariants as ends
use Rattle.fabric_tool.proofs.HeadLemmas.{HeadsSoFar, heads_more, heads_failed, heads_no_room}
use Rattle.fabric_tool.proofs.NameLemmas.{new_input, new_output}
use Rattle.run_files.proofs.NameLemmas.{split_names, push_name, length-counted}
use Rattle.run_files.proofs.OpenLemmas.{OpenedSoFar, opened_none, opened_more, opened_failed, slots_count}

-- the inputs of the ports before this one
abbrev pub input_names : Width → List (String Global) → ℕ → List (List ℕ)
input_names w words p = map (input_of w words) (counting 0 p)

-- the journal, and the outputs of these ports
abbrev pub output_names : List (String Global) → ℕ → List (List ℕ)
output_names words p = (run_of words).journal ∷ map (output_at words) (counting 0 p)

-- what was read of a word and of a number
pub head_as : {q p : ℕ} {m n : List ℕ} {a b : Seen} {had left : Budget} {r : Result Input Outcome} → q ≡ p → m ≡ n → HeadRead q m a b had left r → HeadRead p n a b had left r
head_as {q} {p} {m} {n} {a} {b} {had} {left} {r} e f read = subst (λ (x : ℕ). HeadRead x n a b had left r) e (subst (λ l. HeadRead q l a b had left r) f read)

module _ (w : Width) (words : List (String Global)) (are_all : are_ports w words ≡ true) (p : ℕ) (lt : p < count_of w words) (a b d : Seen) (ins : List Input) (had left left' : Budget)
    (h : HeadsSoFar (map (input_of w words) (counting 0 p)) a b ins had left) where
  pub head_more : (i : Input) → HeadRead (p + 1) (input_of w words p) b d left left' (Ok i) → HeadsSoFar (map (input_of w words) (counting 0 (p + 1))) a d (ins ++ i ∷ []) had left'
  head_more i read =
      subst (λ names. HeadsSoFar names a d (ins ++ i ∷ []) had left') (sym (push_name (input_of w words) p))
      (heads_more (map (input_of w words) (counting 0 p)) a b ins had left h (p + 1) (input_of w words p) d left' i (new_input w words are_all p lt) read)

  are : ins_of w words ≡ map (input_of w words) (counting 0 p) ++ input_of w words p ∷ map (input_of w words) (counting (p + 1) (count_of w words - (p + 1)))
  are = split_names (input_of w words) (count_of w words) p lt

  number : p + 1 ≡ length (map (input_of w words) (counting 0 p)) + 1
  number = ap (λ (n : ℕ). n + 1) (sym (length-counted (input_of w words) 0 p))

  pub head_ended : (x : Outcome) → HeadRead (p + 1) (input_of w words p) b d left left' (Err x) → HeadsRead (ins_of w words) a d had left' (Err x)
  head_ended x read =
      heads_failed (map (input_of w words) (counting 0 p)) a b ins had left h (p + 1) (input_of w words p) d left' (ins_of w words) (map (input_of w words) (counting (p + 1) (count_of w words - (p + 1)))) are number x read

  pub head_no_room : (i : Input) → HeadRead (p + 1) (input_of w words p) b d left left' (Ok i) → HeadsRead (ins_of w words) a d had left' (Err ends.Memory)
  head_no_room i read =
      heads_no_room (map (input_of w words) (counting 0 p)) a b ins had left h (p + 1) (input_of w words p) d left' (ins_of w words) (map (input_of w words) (counting (p + 1) (count_of w words - (p + 1)))) are i read

module _ (words : List (String Global)) (run : are_pairs words ≡ true) (p : ℕ) (lt : p < port_count words) (a b d : Seen) where
  module _ (slots : List ℕ) (h : OpenedSoFar (output_names words p) a b slots) where
    pub output_more : (s : ℕ) → OpensOut {E = Failed} (output_at words p) b d (Ok s) → OpenedSoFar (output_names words (p + 1)) a d (slots ++ s ∷ [])
    output_more s o =
        subst (λ names. OpenedSoFar ((run_of words).journal ∷ names) a d (slots ++ s ∷ [])) (sym (push_name (output_at words) p))
        (opened_more (output_names words p) a b slots h (output_at words p) d s (new_output words run p lt) o)

    pub output_failed : (e : Failed) → OpensOut {E = Failed} (output_at words p) b d (Err e) → OutputsOpened (run_of words) a d (Err e)
    output_failed e o =
        let names = ap (λ l. (run_of words).journal ∷ l) (split_names (output_at words) (port_count words) p lt) in
        let f = opened_failed (output_names words p) a b slots h (output_at words p) d ((run_of words).journal ∷ (run_of words).outs) (map (output_at words) (counting (p + 1) (port_count words - (p + 1)))) names e o in
        record { opens = f.0; slots = tt; cause = f.1; counts = tt }

-- what an opening of a word did
pub out_as : {m n : List ℕ} {b d : Seen} {r : Result ℕ Failed} → m ≡ n → OpensOut {E = Failed} m b d r → OpensOut {E = Failed} n b d r
out_as {m} {n} {b} {d} {r} e o = subst (λ l. OpensOut {E = Failed} l b d r) e o

-- the journal is opened first
pub journal_opened : (words : List (String Global)) (a d : Seen) (s : ℕ) → OpensOut {E = Failed} (run_of words).journal a d (Ok s) → OpenedSoFar (output_names words 0) a d (s ∷ [])
journal_opened words a d s o = opened_more [] a a [] (opened_none a) (run_of words).journal d s (λ x. x) o

pub journal_failed : (words : List (String Global)) (a d : Seen) (e : Failed) → OpensOut {E = Failed} (run_of words).journal a d (Err e) → OutputsOpened (run_of words) a d (Err e)
journal_failed words a d e o =
    let f = opened_failed [] a a [] (opened_none a) (run_of words).journal d ((run_of words).journal ∷ (run_of words).outs) (run_of words).outs refl e o in
    record { opens = f.0; slots = tt; cause = f.1; counts = tt }

-- as many outputs are open as ports are done
pub opened_count : (words : List (String Global)) (p : ℕ) (a b : Seen) (journal : ℕ) (slots : List ℕ) → OpenedSoFar (output_names words p) a b (journal ∷ slots) → length slots ≡ p
opened_count words p a b journal slots h = slots_count b (output_at words) p slots h.are.1
