-- The entries of one text, told by two journals: the one goes on behind the other.
use Rattle.std.proofs.Common.{◌≡◌, ℕ, zero, suc, ◌+◌, ◌-◌, ◌<◌, ◌^◌, ◌⊎◌, inl, inr, List, [], ◌∷◌, ◌++◌, length, take, drop, slice_get, Option, Some, None, refl, sym, ap, ◌∙◌, subst, arith, append_assoc, codes, decimal}
use Rattle.std.specs.Prelude.{unwrap_or}
use Rattle.std.proofs.lemmas.List.{append-nil, append_cancel_left}
use Rattle.fab_base.specs.declared.values.Caught.{Caught}
use Rattle.fab_config.specs.Settings.{Settings}
use Rattle.fab_policy.proofs.NamedLemmas.{lines_spell_entries}
use Rattle.fab_policy.proofs.SpellingLemmas.{line_once}
use Rattle.fab_policy.specs.Journal.{Journal, followed, now}
use Rattle.fab_policy.specs.Legal.{left_of, numbered_from, of_port}
use Rattle.fab_policy.specs.Ranged.{IsRanged}
use Rattle.fab_policy.specs.Spelling.{IsClockOf, IsRangedLine, line_of, line_text}
use Rattle.fab_policy.specs.Text.{LINE_FEED, address_words, frame_words, then_word}
use Rattle.fab_policy.specs.declared.event.Event.{Event}
use Rattle.fab_policy.specs.declared.event.Event.TheVariants as event
use Rattle.fab_policy.specs.declared.line.Format.{Format}
use Rattle.fab_policy.specs.declared.line.Format.TheVariants.{One, Two}
use Rattle.fab_policy.specs.declared.line.Line.{Line}
use Rattle.fab_policy.specs.declared.line.Line.TheVariants.{Tick, Frame}
use Rattle.fab_policy.specs.declared.verdict.Verdict.{Verdict}
use Rattle.pcap_file.specs.declared.Record.{Record}
use Rattle.fab_replay.specs.Front.{AreRightLines, IsFront}
use Rattle.fab_replay.specs.Lines.{format_of, text_in}
use Rattle.fab_replay.proofs.FrontLemmas.{of_port_own}
use Rattle.fab_replay.proofs.LineLemmas.{text_more}
use Rattle.fab_replay.proofs.ListLemmas.{inside_at}

-- ---- entries behind entries

-- the lines of entries that come after a journal
abbrev pub lines_after : Format → Journal → List Event → List ℕ
lines_after f K [] = []
lines_after f K (e ∷ es) = line_text f (line_of f (now (e ∷ K)) e) ++ lines_after f (e ∷ K) es

text_after : (f : Format) (K : Journal) (es : List Event) → text_in f (followed K es) ≡ text_in f K ++ lines_after f K es
text_after f K [] = sym (append-nil (text_in f K))
text_after f K (e ∷ es) =
    text_after f (e ∷ K) es ∙ ap (λ (l : List ℕ). l ++ lines_after f (e ∷ K) es) (text_more f K e)
    ∙ append_assoc (text_in f K) (line_text f (line_of f (now (e ∷ K)) e)) (lines_after f (e ∷ K) es)

followed-push : (K : Journal) (es : List Event) (e : Event) → followed K (es ++ e ∷ []) ≡ e ∷ followed K es
followed-push K [] e = refl
followed-push K (d ∷ es) e = followed-push (d ∷ K) es e

-- The entries of a journal go on behind those of another one: what is behind the text of the one is their lines, and then what
-- is behind the text of the other.
pub record GoesOn (f : Format) (I J : Journal) (a b : List ℕ) : Type 0 where
  pub more : List Event
  pub whole : J ≡ followed I more
  pub rest : lines_after f I more ++ b ≡ a

-- the entries of a journal in their order
entries_of : (J : Journal) → (es : List Event) × (followed [] es ≡ J)
entries_of [] = ([], refl)
entries_of (e ∷ J) = let h = entries_of J in (h.0 ++ e ∷ [], followed-push [] h.0 e ∙ ap (λ (I : Journal). e ∷ I) h.1)

-- ---- the first frames of a port

numbered_front : (l m : List (ℕ × Caught)) (n k : ℕ) (records : List Record) → l ++ m ≡ numbered_from n (take k records) → l ≡ numbered_from n (take (length l) records)
numbered_front [] m n k [] e = refl
numbered_front [] m n k (r ∷ records) e = refl
numbered_front (x ∷ l) m n zero [] e = absurd (cc)
numbered_front (x ∷ l) m n zero (r ∷ records) e = absurd (cc)
numbered_front (x ∷ l) m n (suc k) [] e = absurd (cc)
numbered_front (x ∷ l) m n (suc k) (r ∷ records) e =
    let first : x ≡ (n, r.caught) = cc in
    let rest : l ++ m ≡ numbered_from (n + 1) (take k records) = cc in
    let more = numbered_front l m (n + 1) k records rest in
    λ i. first i ∷ more i

-- the last of them is of the record behind the others
record LastOf (l : List (ℕ × Caught)) (x : ℕ × Caught) (n : ℕ) (records : List Record) : Type 0 where
  pub own : Record
  pub later : List Record
  pub left : drop (length l) records ≡ own ∷ later
  pub number : x.0 ≡ n + length l
  pub caught_ : x.1 ≡ own.caught

last_of : (l : List (ℕ × Caught)) (x : ℕ × Caught) (n k : ℕ) (records : List Record) → l ++ x ∷ [] ≡ numbered_from n (take k records) → LastOf l x n records
last_of [] x n zero [] e = absurd (cc)
last_of [] x n zero (r ∷ records) e = absurd (cc)
last_of [] x n (suc k) [] e = absurd (cc)
last_of [] x n (suc k) (r ∷ records) e =
    let first : x ≡ (n, r.caught) = cc in
    let zero_is : n ≡ n + 0 = omega arith in
    record { own = r; later = records; left = refl; number = ap (λ (y : ℕ × Caught). y.0) first ∙ zero_is; caught_ = ap (λ (y : ℕ × Caught). y.1) first }
last_of (y ∷ l) x n zero [] e = absurd (cc)
last_of (y ∷ l) x n zero (r ∷ records) e = absurd (cc)
last_of (y ∷ l) x n (suc k) [] e = absurd (cc)
last_of (y ∷ l) x n (suc k) (r ∷ records) e =
    let rest : l ++ x ∷ [] ≡ numbered_from (n + 1) (take k records) = cc in
    let h = last_of l x (n + 1) k records rest in
    let more : n + 1 + length l ≡ n + suc (length l) = omega arith in
    record { own = h.own; later = h.later; left = h.left; number = h.number ∙ more; caught_ = h.caught_ }

module _ (c : Settings) (ins : List (List Record)) where
  -- ---- a beginning of a run without its last entries

  pub front_older : (e : Event) (K : Journal) → IsFront c ins (e ∷ K) → IsFront c ins K
  front_older (event.Tick m ended) K h = record { ranged = h.ranged.0; ports = h.ports; frames = h.frames; legal = h.legal.0; timed = h.timed.0 }
  front_older (event.Frame port index caught v) K h = record {
    ranged = h.ranged.0;
    ports = h.ports.0;
    frames = λ q records at. numbered_front (of_port (q + 1) K) _ 0 _ records (h.frames q records at);
    legal = h.legal.0;
    timed = h.timed.0;
  }

  pub front_before : (K : Journal) (es : List Event) → IsFront c ins (followed K es) → IsFront c ins K
  front_before K [] h = h
  front_before K (e ∷ es) h = front_older e K (front_before (e ∷ K) es h)

  -- The last frame is of the next record of its port.
  pub record OwnRecord (port index : ℕ) (caught : Caught) (K : Journal) : Type 0 where
    pub place : ℕ
    pub is : port ≡ place + 1
    pub records : List Record
    pub are : slice_get ins place ≡ Some records
    pub own : Record
    pub later : List Record
    pub next : left_of port records K ≡ own ∷ later
    pub number : index ≡ length (of_port port K)
    pub caught_ : caught ≡ own.caught

  pub own_record : (port index : ℕ) (caught : Caught) (v : Verdict) (K : Journal) → IsFront c ins (event.Frame port index caught v ∷ K) → OwnRecord port index caught K
  own_record port index caught v K h =
      let place : ℕ = port - 1 in
      let is : port ≡ place + 1 = (let one = h.ports.1 in omega (arith, one)) in
      let records = inside_at ins place (let few = h.ports.2 in omega (arith, is, few)) in
      let frames = subst (λ (p : ℕ). of_port p (event.Frame port index caught v ∷ K) ≡ numbered_from 0 (take (length (of_port p (event.Frame port index caught v ∷ K))) records.0)) (sym is) (h.frames place records.0 records.1) in
      let l = last_of (of_port port K) (index, caught) 0 _ records.0 (sym (of_port_own port index port caught v K refl) ∙ frames) in
      record { place = place; is = is; records = records.0; are = records.1; own = l.own; later = l.later; next = l.left; number = (let n = l.number in omega (arith, n)); caught_ = l.caught_ }

  -- two frames of one port after the same journal are the same
  same_caught : (p q i j : ℕ) (a b : Caught) (K : Journal) → p ≡ q → OwnRecord p i a K → OwnRecord q j b K → a ≡ b
  same_caught p q i j a b K same one two =
      let place : one.place ≡ two.place = (let x = one.is in let y = two.is in omega (arith, x, y, same)) in
      let both : Some one.records ≡ Some two.records = sym one.are ∙ ap (slice_get ins) place ∙ two.are in
      let records : one.records ≡ two.records = cc in
      let left : one.own ∷ one.later ≡ two.own ∷ two.later = sym one.next ∙ ap (λ l. left_of p l K) records ∙ ap (λ (n : ℕ). left_of n two.records K) same ∙ two.next in
      let own : one.own ≡ two.own = cc in
      one.caught_ ∙ ap (λ (r : Record). r.caught) own ∙ sym two.caught_

  -- ---- lines

  now_small : (J : Journal) → IsRanged J → now J < 2 ^ 64
  now_small [] ranged = omega arith
  now_small (event.Tick m ended ∷ J) ranged = ranged.1.0
  now_small (event.Frame port index caught v ∷ J) ranged = now_small J ranged.0

  clock_is : (e : Event) (K : Journal) → IsClockOf (now (e ∷ K)) e
  clock_is (event.Tick m ended) K = refl
  clock_is (event.Frame port index caught v) K = tt

  pub line_ranged : (f : Format) (e : Event) (K : Journal) → IsRanged (e ∷ K) → IsRangedLine f (line_of f (now (e ∷ K)) e)
  line_ranged One e K ranged = (lines_spell_entries (now (e ∷ K)) e (now_small (e ∷ K) ranged) ranged.1).0.spells.ranged
  line_ranged Two e K ranged = ((lines_spell_entries (now (e ∷ K)) e (now_small (e ∷ K) ranged) ranged.1).1 (clock_is e K)).spells.ranged

  -- what a line says of an entry, and the beginning of a run, tell the entry
  same_frame : (p q i j : ℕ) (a b : Caught) (v w : Verdict) → p ≡ q → i ≡ j → a ≡ b → v ≡ w → event.Frame p i a v ≡ event.Frame q j b w
  same_frame p q i j a b v w e f g h = cc

  frames_are : (p q i j : ℕ) (a b : Caught) (v w : Verdict) (t u : Option ℕ) (K : Journal) → IsFront c ins (event.Frame p i a v ∷ K) → IsFront c ins (event.Frame q j b w ∷ K) → Frame p i v t ≡ Frame q j w u → event.Frame p i a v ≡ event.Frame q j b w
  frames_are p q i j a b v w t u K one two e =
      let port : p ≡ q = cc in
      let index : i ≡ j = cc in
      let verdict : v ≡ w = cc in
      same_frame p q i j a b v w port index (same_caught p q i j a b K port (own_record p i a v K one) (own_record q j b w K two)) verdict

  same_entry : (f : Format) (t u : ℕ) (e d : Event) (K : Journal) → IsFront c ins (e ∷ K) → IsFront c ins (d ∷ K) → line_of f t e ≡ line_of f u d → e ≡ d
  same_entry f t u (event.Tick m ended) (event.Tick n gone) K one two e = let moment : m ≡ n = cc in let ends : ended ≡ gone = cc in cc
  same_entry One t u (event.Tick m ended) (event.Frame q j b w) K one two e = absurd (cc)
  same_entry Two t u (event.Tick m ended) (event.Frame q j b w) K one two e = absurd (cc)
  same_entry One t u (event.Frame p i a v) (event.Tick n gone) K one two e = absurd (cc)
  same_entry Two t u (event.Frame p i a v) (event.Tick n gone) K one two e = absurd (cc)
  same_entry One t u (event.Frame p i a v) (event.Frame q j b w) K one two e = frames_are p q i j a b v w None None K one two e
  same_entry Two t u (event.Frame p i a v) (event.Frame q j b w) K one two e = frames_are p q i j a b v w (Some t) (Some u) K one two e

  -- a line is no empty text
  ended_some : (l more : List ℕ) → (l ++ LINE_FEED ∷ []) ++ more ≡ [] → ⊥
  ended_some [] more e = cc
  ended_some (b ∷ l) more e = cc

  pub line_some : (f : Format) (l : Line) (more : List ℕ) → line_text f l ++ more ≡ [] → ⊥
  line_some One (Tick m ended) more e = ended_some (codes "tick" ++ then_word (decimal m) ++ address_words ended) more e
  line_some Two (Tick m ended) more e = ended_some (decimal m ++ then_word (codes "tick") ++ address_words ended) more e
  line_some One (Frame port index v t) more e = ended_some (frame_words port index v) more e
  line_some Two (Frame port index v t) more e = ended_some (decimal (unwrap_or t 0) ++ then_word (frame_words port index v)) more e

  -- ---- the walk

  -- Of entries whose lines begin one text some go on behind the others.
  walk : (f : Format) (K : Journal) (es ds : List Event) (a b : List ℕ) → IsFront c ins (followed K es) → IsFront c ins (followed K ds) → lines_after f K es ++ a ≡ lines_after f K ds ++ b →
      GoesOn f (followed K es) (followed K ds) a b ⊎ GoesOn f (followed K ds) (followed K es) b a
  walk f K es [] a b one two e = inr (record { more = es; whole = refl; rest = e })
  walk f K [] (d ∷ ds) a b one two e = inl (record { more = d ∷ ds; whole = refl; rest = sym e })
  walk f K (e ∷ es) (d ∷ ds) a b one two same =
      let front_e = front_before (e ∷ K) es one in
      let front_d = front_before (d ∷ K) ds two in
      let line_e = line_text f (line_of f (now (e ∷ K)) e) in
      let line_d = line_text f (line_of f (now (d ∷ K)) d) in
      let cut = line_once f (line_of f (now (e ∷ K)) e) (line_of f (now (d ∷ K)) d) (lines_after f (e ∷ K) es ++ a) (lines_after f (d ∷ K) ds ++ b) (line_ranged f e K front_e.ranged) (line_ranged f d K front_d.ranged)
      (sym (append_assoc line_e (lines_after f (e ∷ K) es) a) ∙ same ∙ append_assoc line_d (lines_after f (d ∷ K) ds) b) in
      let first : e ≡ d = same_entry f (now (e ∷ K)) (now (d ∷ K)) e d K front_e front_d cut.0 in
      subst (λ (x : Event). GoesOn f (followed (x ∷ K) es) (followed (d ∷ K) ds) a b ⊎ GoesOn f (followed (d ∷ K) ds) (followed (x ∷ K) es) b a) (sym first)
      (walk f (d ∷ K) es ds a b (subst (λ (x : Event). IsFront c ins (followed (x ∷ K) es)) first one) two (sym (ap (λ (x : Event). lines_after f (x ∷ K) es ++ a) first) ∙ cut.1))

  text_then : (f : Format) (J : Journal) (rest : List ℕ) → text_in f J ++ rest ≡ text_in f [] ++ (lines_after f [] (entries_of J).0 ++ rest)
  text_then f J rest =
      let es = entries_of J in
      ap (λ (K : Journal). text_in f K ++ rest) (sym es.1) ∙ ap (λ (l : List ℕ). l ++ rest) (text_after f [] es.0) ∙ append_assoc (text_in f []) (lines_after f [] es.0) rest

  -- of two journals with the right lines of one text the one goes on behind the other
  pub one_goes_on : (text : List ℕ) (I J : Journal) (a : AreRightLines c ins text I) (b : AreRightLines c ins text J) → GoesOn (format_of text) I J a.rest b.rest ⊎ GoesOn (format_of text) J I b.rest a.rest
  one_goes_on text I J a b =
      let f = format_of text in
      let es = entries_of I in
      let ds = entries_of J in
      let same = append_cancel_left (text_in f []) (lines_after f [] es.0 ++ a.rest) (lines_after f [] ds.0 ++ b.rest) (sym (text_then f I a.rest) ∙ sym a.lines ∙ b.lines ∙ text_then f J b.rest) in
      subst (λ (K : Journal). GoesOn f K J a.rest b.rest ⊎ GoesOn f J K b.rest a.rest) es.1
      (subst (λ (K : Journal). GoesOn f (followed [] es.0) K a.rest b.rest ⊎ GoesOn f K (followed [] es.0) b.rest a.rest) ds.1
      (walk f [] es.0 ds.0 a.rest b.rest (subst (IsFront c ins) (sym es.1) a.front) (subst (IsFront c ins) (sym ds.1) b.front) same))
