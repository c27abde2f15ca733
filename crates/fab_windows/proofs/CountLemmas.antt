-- How many frames and entries a run makes: not more than the captures have bytes, and windows.
use Rattle.std.proofs.Common.{◌≡◌, ◌≢◌, inl, inr, ℕ, zero, suc, ◌+◌, ◌<◌, ◌≤◌, Bool, cond, List, [], ◌∷◌, ◌++◌, length, Some, option_to_list, refl, sym, ap, ◌∙◌, arith, length-append}
use Rattle.std.specs.Prelude.{slice_get, drop}
use Rattle.std.proofs.lemmas.Bool.{eq-eqb, ne_eqb}
use Rattle.std.proofs.lemmas.List.{append-nil}
use Rattle.pcap_file.proofs.lemmas.Numbers.{le_or_lt}
use Rattle.fab_base.specs.Seen.{Seen}
use Rattle.fab_base.specs.declared.values.Caught.{Caught}
use Rattle.fab_config.specs.Settings.{Settings}
use Rattle.fab_policy.specs.Journal.{Journal, followed, frame_count}
use Rattle.fab_policy.specs.Legal.{HasPorts, HoldsFrames, of_port, numbered_from}
use Rattle.window_records.specs.Looks.{Opened}
use Rattle.fab_policy.specs.declared.event.Event.{Event}
use Rattle.fab_policy.specs.declared.event.Event.TheVariants.{Tick, Frame}
use Rattle.fab_policy.specs.declared.verdict.Verdict.{Verdict}
use Rattle.pcap_file.specs.declared.Record.{Record}
use Rattle.window_records.specs.declared.shelf.Input.{Input}
use Rattle.window_records.specs.declared.shelf.Shelf.{Shelf}
use Rattle.window_records.specs.Ports.{counts_of}
use Rattle.window_records.specs.Reads.{HaveRead}

-- ---- frames

-- how many records there are of all ports
abbrev pub total : List (List Record) → ℕ
total [] = 0
total (records ∷ ins) = length records + total ins

-- how many frames a journal has of n ports from p on
abbrev frames_of : ℕ → ℕ → Journal → ℕ
frames_of p zero J = 0
frames_of p (suc n) J = length (of_port p J) + frames_of (p + 1) n J

module _ (port index : ℕ) (caught : Caught) (v : Verdict) (J : Journal) where
  abbrev e : Event
  e = Frame port index caught v

  other : (p : ℕ) → port ≢ p → length (of_port p (e ∷ J)) ≡ length (of_port p J)
  other p ne = ap (λ (b : Bool). length (of_port p J ++ cond b ((index, caught) ∷ []) [])) (ne_eqb port p ne) ∙ ap length (append-nil (of_port p J))

  own : (p : ℕ) → port ≡ p → length (of_port p (e ∷ J)) ≡ length (of_port p J) + 1
  own p is = ap (λ (b : Bool). length (of_port p J ++ cond b ((index, caught) ∷ []) [])) (eq-eqb port p is) ∙ (let e = length-append (of_port p J) ((index, caught) ∷ []) in omega (arith, e))

  none_more : (p n : ℕ) → port < p → frames_of p n (e ∷ J) ≡ frames_of p n J
  none_more p zero lt = refl
  none_more p (suc n) lt = let a = other p (λ is. absurd (omega (arith, is, lt))) in let b = none_more (p + 1) n (omega arith) in omega (arith, a, b)

  one_more : (p n : ℕ) → p ≤ port → port < p + n → frames_of p n (e ∷ J) ≡ frames_of p n J + 1
  one_more p zero le lt = absurd (omega (arith, le, lt))
  one_more p (suc n) le lt = elim (le_or_lt port p) [
    | inl last ↦ let a = own p (omega (arith, le, last)) in let b = none_more (p + 1) n (omega (arith, last)) in omega (arith, a, b)
    | inr more ↦ let a = other p (λ is. absurd (omega (arith, is, more))) in let b = one_more (p + 1) n (omega (arith, more)) (omega (arith, lt)) in omega (arith, a, b)
  ]

no_frames : (p n : ℕ) → frames_of p n [] ≡ 0
no_frames p zero = refl
no_frames p (suc n) = let h = no_frames (p + 1) n in omega (arith, h)

ticks_none : (p n m : ℕ) (ended : List ℕ) (J : Journal) → frames_of p n (Tick m ended ∷ J) ≡ frames_of p n J
ticks_none p zero m ended J = refl
ticks_none p (suc n) m ended J = let h = ticks_none (p + 1) n m ended J in omega (arith, h)

frames_by_port : (n : ℕ) (J : Journal) → HasPorts n J → frame_count J ≡ frames_of 1 n J
frames_by_port n [] h = sym (no_frames 1 n)
frames_by_port n (Tick m ended ∷ J) h = frames_by_port n J h ∙ sym (ticks_none 1 n m ended J)
frames_by_port n (Frame port index caught v ∷ J) h =
    let before = frames_by_port n J h.0 in
    ap (λ (k : ℕ). k + 1) before ∙ sym (one_more port index caught v J 1 n h.1 (omega (arith, h.2)))

length-numbered : (n : ℕ) (l : List Record) → length (numbered_from n l) ≡ length l
length-numbered n [] = refl
length-numbered n (r ∷ l) = let h = length-numbered (n + 1) l in omega (arith, h)

frames_held : (p : ℕ) (ins : List (List Record)) (J : Journal) → HoldsFrames J p ins → frames_of p (length ins) J ≡ total ins
frames_held p [] J h = refl
frames_held p (records ∷ ins) J h =
    let a = ap length h.0 ∙ length-numbered 0 records in
    let b = frames_held (p + 1) ins J h.1 in
    omega (arith, a, b)

-- each record that was taken was found
taken_were_found : (c : Settings) (w : ℕ) (opened : List Opened) (taken : List (List Record)) (ins : List Input) (shelves : List Shelf) (d : Seen) → HaveRead c w opened taken ins shelves d → total taken ≤ counts_of shelves
taken_were_found c w [] [] [] [] d h = omega arith
taken_were_found c w (o ∷ opened) (records ∷ taken) (i ∷ ins) (s ∷ shelves) d h =
    let own = h.0.count ∙ length-append records (option_to_list s.next) in
    let more = taken_were_found c w opened taken ins shelves d h.1 in
    omega (arith, own, more)
taken_were_found c w [] [] [] (s ∷ shelves) d h = absurd h
taken_were_found c w [] [] (i ∷ ins) shelves d h = absurd h
taken_were_found c w [] (records ∷ taken) ins shelves d h = absurd h
taken_were_found c w (o ∷ opened) [] ins shelves d h = absurd h
taken_were_found c w (o ∷ opened) (records ∷ taken) [] shelves d h = absurd h
taken_were_found c w (o ∷ opened) (records ∷ taken) (i ∷ ins) [] d h = absurd h

pub frames_found : (c : Settings) (n w : ℕ) (opened : List Opened) (taken : List (List Record)) (J : Journal) (ins : List Input) (shelves : List Shelf) (d : Seen) →
    length taken ≡ n → HasPorts (length taken) J → HoldsFrames J 1 taken → HaveRead c w opened taken ins shelves d → frame_count J ≤ counts_of shelves
frames_found c n w opened taken J ins shelves d width ports held read =
    let a = frames_by_port (length taken) J ports ∙ frames_held 1 taken J held in
    let b = taken_were_found c w opened taken ins shelves d read in
    omega (arith, a, b)

-- ---- entries behind others

pub length-followed : (J : Journal) (es : List Event) → length (followed J es) ≡ length J + length es
length-followed J [] = omega arith
length-followed J (e ∷ es) = let h = length-followed (e ∷ J) es in omega (arith, h)

pub frames-followed : (J : Journal) (es : List Event) → frame_count (followed J es) ≡ frame_count J + frame_count es
frames-followed J [] = omega arith
frames-followed J (Tick m ended ∷ es) = frames-followed (Tick m ended ∷ J) es
frames-followed J (Frame port index caught v ∷ es) = let h = frames-followed (Frame port index caught v ∷ J) es in omega (arith, h)

pub frames_first : (e : Event) (es : List Event) → frame_count (e ∷ es) ≡ frame_count (e ∷ []) + frame_count es
frames_first (Tick m ended) es = omega arith
frames_first (Frame port index caught v) es = omega arith

pub frames_within : (es : List Event) → frame_count es ≤ length es
frames_within [] = omega arith
frames_within (Tick m ended ∷ es) = let h = frames_within es in omega (arith, h)
frames_within (Frame port index caught v ∷ es) = let h = frames_within es in omega (arith, h)

-- the next item, and those behind it
pub drop_next : {X : Type 0} (xs : List X) (i : ℕ) (x : X) → slice_get xs i ≡ Some x → drop i xs ≡ x ∷ drop (i + 1) xs
drop_next [] i x e = absurd (cc)
drop_next (y ∷ xs) zero x e = let same : y ≡ x = cc in ap (λ z. z ∷ xs) same
drop_next (y ∷ xs) (suc i) x e = drop_next xs i x e ∙ ap (λ (n : ℕ). x ∷ drop n (y ∷ xs)) (let s : suc (i + 1) ≡ suc i + 1 = omega arith in s)
