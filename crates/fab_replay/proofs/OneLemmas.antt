-- A text that names a run over whole captures has no line that is wrong.
use Rattle.std.proofs.Common.{◌≡◌, ℕ, zero, suc, ◌+◌, ◌-◌, ◌%◌, ◌<◌, ◌≤◌, ◌⊎◌, inl, inr, Bool, true, false, eqb, leb, IsTrue, List, [], ◌∷◌, ◌++◌, length, take, slice_get, Option, Some, None, IfSome, refl, sym, ap, ◌∙◌, subst, arith, codes, decimal, map, not, append_assoc}
use Rattle.std.specs.Prelude.{◌==◌, ◌&&◌, ◌||◌, unwrap_or, option_and_then, if◌then◌else◌}
use Rattle.std.specs.List.{list_any, list_all}
use Rattle.std.proofs.lemmas.Bool.{eq-eqb, eqb-true, leb-true}
use Rattle.std.proofs.lemmas.List.{append-nil}
use Rattle.std.proofs.lemmas.Slice.Eq.{bytes_eq-Decides}
use Rattle.fab_base.specs.declared.values.Caught.{Caught}
use Rattle.fab_config.specs.Settings.{Settings}
use Rattle.fab_policy.proofs.NamedLemmas.{text_names_journal}
use Rattle.fab_policy.proofs.SpellingLemmas.{line_inside, line_is_words, line_once}
use Rattle.fab_policy.proofs.WordLemmas.{AreWords, and_left, and_right, text_of}
use Rattle.fab_policy.specs.Private.LineWords.{IsWord, is_inside, rest_of, verdict_words}
use Rattle.fab_policy.specs.Journal.{Journal, clock, followed, now}
use Rattle.fab_policy.specs.Legal.{HasPorts, HoldsFrames, IsLeastOf, IsNextTick, IsTickTime, Legal, Run, is_owed_after, left_of, numbered_from, of_port, record_of, window_start, windows_left}
use Rattle.window_records.specs.Looks.{Stop}
use Rattle.fab_policy.specs.Ranged.{IsRanged}
use Rattle.fab_policy.specs.Spelling.{IsRangedLine, Spells, line_of, line_text}
use Rattle.fab_policy.specs.State.{addresses, overdue, tables_of}
use Rattle.fab_policy.specs.Text.{LINE_FEED, SPACE, address_word, head_line, line, line1, text, text1}
use Rattle.fab_policy.specs.Verdicts.{IsRight}
use Rattle.fab_policy.specs.Written.{IsNamed}
use Rattle.fab_policy.specs.declared.event.Event.{Event}
use Rattle.fab_policy.specs.declared.event.Event.TheVariants as event
use Rattle.fab_policy.specs.declared.line.Format.{Format}
use Rattle.fab_policy.specs.declared.line.Format.TheVariants.{One, Two}
use Rattle.fab_policy.specs.declared.line.Line.{Line}
use Rattle.fab_policy.specs.declared.line.Line.TheVariants.{Tick, Frame}
use Rattle.fab_policy.specs.declared.verdict.Verdict.{Verdict}
use Rattle.pcap_file.proofs.lemmas.Numbers.{le_or_lt}
use Rattle.pcap_file.specs.declared.Record.{Record}
use Rattle.fab_replay.specs.Front.{AreRightLines, IsFirstWrong, IsFront, IsNextFrame, IsWrong, expects_tick, has_left, is_at, is_tick}
use Rattle.fab_replay.specs.Lines.{behind_line, first_line, format_of, text_in}
use Rattle.fab_replay.specs.declared.fault.LineWhy.{LineWhy}
use Rattle.fab_replay.specs.declared.fault.LineWhy.TheVariants as why
use Rattle.fab_replay.proofs.FrontLemmas.{of_port_other}
use Rattle.fab_replay.proofs.LeftLemmas.{left_none, left_some, start_of, tick_expected, tick_never, tick_unexpected}
use Rattle.fab_replay.proofs.LineLemmas.{line_split}
use Rattle.fab_replay.proofs.ListLemmas.{inside_at, next_of, rest_none, take_front}
use Rattle.fab_replay.proofs.WalkLemmas.{OwnRecord, front_before, line_ranged, line_some, lines_after, one_goes_on, own_record}

-- ---- the format of a journal's text

text_head : (J : Journal) → (rest : List ℕ) × (text J ≡ head_line ++ rest)
unfolding text
text_head [] = ([], sym (append-nil head_line))
text_head (e ∷ J) = let h = text_head J in (h.0 ++ line (now (e ∷ J)) e, ap (λ (l : List ℕ). l ++ line (now (e ∷ J)) e) h.1 ∙ append_assoc head_line h.0 (line (now (e ∷ J)) e))

-- the first line is that of a tick
text1_head : (c : Settings) (J : Journal) → Legal c J → (J ≡ []) ⊎ ((rest : List ℕ) × (text1 J ≡ 116 ∷ rest))
unfolding text1
text1_head c [] legal = inl refl
text1_head c (e ∷ J) legal = elim (text1_head c J legal.0) [
  | inl none ↦ inr (first e (subst (λ (K : Journal). Legal c (e ∷ K)) none legal) none)
  | inr some ↦ inr (some.0 ++ line1 e, ap (λ (l : List ℕ). l ++ line1 e) some.1)
]
  where
    first : (e : Event) → Legal c (e ∷ []) → J ≡ [] → (rest : List ℕ) × (text1 J ++ line1 e ≡ 116 ∷ rest)
    first (event.Tick m ended) legal none = (_, ap (λ (K : Journal). text1 K ++ line1 (event.Tick m ended)) none)
    first (event.Frame port index caught v) legal none = absurd (let begun = legal.1.0 in cc)

two_is : (rest : List ℕ) → format_of (head_line ++ rest) ≡ Two
unfolding format_of
two_is rest = ap (λ (b : Bool). if b then Two else One) ((bytes_eq-Decides head_line (take 10 (head_line ++ rest))).1 (sym (take_front head_line rest)))

one_is : (rest : List ℕ) → format_of (116 ∷ rest) ≡ One
unfolding format_of
one_is rest = refl

none_is : format_of [] ≡ One
unfolding format_of
none_is = refl

text1_none : text1 [] ≡ []
unfolding text1
text1_none = refl

pub named_text : (c : Settings) (J : Journal) (bytes : List ℕ) → Legal c J → (bytes ≡ text J) ⊎ (bytes ≡ text1 J) → bytes ≡ text_in (format_of bytes) J
named_text c J bytes legal (inl e) =
    let h = text_head J in
    e ∙ ap (λ (f : Format). text_in f J) (sym (ap format_of (e ∙ h.1) ∙ two_is h.0))
named_text c J bytes legal (inr e) = elim (text1_head c J legal) [
  | inl none ↦ e ∙ ap (λ (f : Format). text_in f J) (sym (ap format_of (e ∙ ap text1 none ∙ text1_none) ∙ none_is))
  | inr some ↦ e ∙ ap (λ (f : Format). text_in f J) (sym (ap format_of (e ∙ some.1) ∙ one_is some.0))
]

-- ---- a run is a beginning of itself

pub holds_at : (J : Journal) (p q port : ℕ) (ins : List (List Record)) (records : List Record) → HoldsFrames J p ins → slice_get ins q ≡ Some records → port ≡ p + q → of_port port J ≡ numbered_from 0 records
holds_at J p q port [] records h at e = absurd (cc)
holds_at J p zero port (rs ∷ ins) records h at e =
    let same : rs ≡ records = cc in
    let here : port ≡ p = omega (arith, e) in
    ap (λ (n : ℕ). of_port n J) here ∙ h.0 ∙ ap (numbered_from 0) same
holds_at J p (suc q) port (rs ∷ ins) records h at e = holds_at J (p + 1) q port ins records h.1 at (let f : port ≡ p + 1 + q = omega (arith, e) in f)

pub length-numbered : (n : ℕ) (records : List Record) → length (numbered_from n records) ≡ length records
length-numbered n [] = refl
length-numbered n (r ∷ records) = ap suc (length-numbered (n + 1) records)

whole_of : (records : List Record) → take (length records) records ≡ records
whole_of [] = refl
whole_of (r ∷ records) = ap (λ l. r ∷ l) (whole_of records)

module _ (c : Settings) (ins : List (List Record)) where
  pub front_of_run : (J : Journal) → IsRanged J → Run c ins J → IsFront c ins J
  front_of_run J ranged run = record {
    ranged = ranged;
    ports = run.ports;
    frames = λ q records at.
        let all = holds_at J 1 q (q + 1) ins records run.frames at (let e : q + 1 ≡ 1 + q = omega arith in e) in
        let size = ap length all ∙ length-numbered 0 records in
        all ∙ ap (numbered_from 0) (sym (ap (λ (n : ℕ). take n records) size ∙ whole_of records));
    legal = run.legal;
    timed = run.timed;
  }

  -- no frame is left behind a run
  nothing_left : (J : Journal) → Run c ins J → has_left c ins J ≡ false
  nothing_left J run =
      (tick_never c (clock J) ins J (left_none c 1 ins J (λ q port records at e.
      let all = holds_at J 1 q port ins records run.frames at e in
      rest_none records (length (of_port port J)) (let size = ap length all ∙ length-numbered 0 records in omega (arith, size))))).0

-- ---- the next tick is one

pub below : (l : List ℕ) (v w : ℕ) → IsTrue (list_all (λ m. leb v m) l) → IsTrue (list_any (λ m. eqb m w) l) → v ≤ w
below [] v w all any = absurd (cc)
below (m ∷ l) v w all any = go (leb v m) refl (eqb m w) refl all any (λ x y. below l v w x y)
  where
    go : (a : Bool) → leb v m ≡ a → (b : Bool) → eqb m w ≡ b → IsTrue (a && list_all (λ m. leb v m) l) → IsTrue (b || list_any (λ m. eqb m w) l) →
        (IsTrue (list_all (λ m. leb v m) l) → IsTrue (list_any (λ m. eqb m w) l) → v ≤ w) → v ≤ w
    go true le true eq all any more = let h = leb-true v m le in let e = eqb-true m w eq in omega (arith, h, e)
    go true le false eq all any more = more all any
    go false le b eq all any more = absurd (cc)

least_once : (l : List ℕ) (v w : ℕ) → IsLeastOf l v → IsLeastOf l w → v ≡ w
least_once l v w one two = let le = below l v w one.1 two.0 in let ge = below l w v two.1 one.0 in omega (arith, le, ge)

-- what the next tick after a clock is
abbrev NextAt : Settings → Journal → ℕ → ℕ → ℕ → Type 0
NextAt c J w t m = (t < m) × (m ≤ w) × ((m ≡ w) ⊎ IsTrue (is_owed_after c J m)) × (m % c.window ≡ 0) × ((k : ℕ) → IsTickTime c J k → k < m → is_owed_after c J k ≡ false)

not_before : (c : Settings) (J : Journal) (w t a b : ℕ) → clock J ≡ Some t → NextAt c J w t a → NextAt c J w t b → a < b → ⊥
not_before c J w t a b at x y lt = elim x.2 [
  | inl same ↦ let le = y.1 in omega (arith, same, le, lt)
  | inr owed ↦ let none = y.4 a (x.3, subst (λ o. IfSome o (λ k. k < a)) (sym at) x.0) lt in let both : true ≡ false = sym owed ∙ none in cc
]

tick_once : (c : Settings) (J : Journal) (w m n : ℕ) → IsNextTick c J w m → IsNextTick c J w n → m ≡ n
tick_once c J w m n one two = go (clock J) refl one two
  where
    by_order : (t : ℕ) → clock J ≡ Some t → NextAt c J w t m → NextAt c J w t n → m ≡ n
    by_order t at x y = elim (le_or_lt m n) [
      | inl le ↦ elim (le_or_lt n m) [ inl ge ↦ omega (arith, le, ge) | inr lt ↦ absurd (not_before c J w t m n at x y lt) ]
      | inr gt ↦ absurd (not_before c J w t n m at y x gt)
    ]

    go : (o : Option ℕ) → clock J ≡ o → elim o as (λ _. Type 0) [ None ↦ m ≡ w | Some t ↦ NextAt c J w t m ] → elim o as (λ _. Type 0) [ None ↦ n ≡ w | Some t ↦ NextAt c J w t n ] → m ≡ n
    go None at x y = omega (arith, x, y)
    go (Some t) at x y = by_order t at x y

-- the clock is before the next tick's window
clock_before : (c : Settings) (J : Journal) (w m : ℕ) → IsNextTick c J w m → IfSome (clock J) (λ t. t < w)
clock_before c J w m h = go (clock J) h
  where
    go : (o : Option ℕ) → elim o as (λ _. Type 0) [ None ↦ m ≡ w | Some t ↦ NextAt c J w t m ] → IfSome o (λ t. t < w)
    go None x = tt
    go (Some t) x = let lt = x.0 in let le = x.1 in omega (arith, lt, le)

-- ---- the first line of a text

not_true : (p : Bool) → not p ≡ true → p ≡ false
not_true true h = absurd (cc)
not_true false h = refl

no_feed : (b : ℕ) → is_inside b ≡ true → (b == LINE_FEED) ≡ false
no_feed b inside = not_true (b == LINE_FEED) (and_right (not (b == SPACE)) (not (b == LINE_FEED)) inside)

word_first : (w l : List ℕ) → IsWord w → first_line (w ++ l) ≡ w ++ first_line l
word_first [] l is = refl
word_first (b ∷ w) l is =
    ap (λ p. if p then b ∷ [] else b ∷ first_line (w ++ l)) (no_feed b (and_left (is_inside b) (list_all is_inside w) is))
    ∙ ap (λ t. b ∷ t) (word_first w l (and_right (is_inside b) (list_all is_inside w) is))

rest_first : (ws : List (List ℕ)) (more : List ℕ) → AreWords ws → first_line (rest_of ws ++ more) ≡ rest_of ws
rest_first [] more are = refl
rest_first (w ∷ ws) more are =
    ap (λ t. SPACE ∷ first_line t) (append_assoc w (rest_of ws) more)
    ∙ ap (λ t. SPACE ∷ t) (word_first w (rest_of ws ++ more) are.0 ∙ ap (λ t. w ++ t) (rest_first ws more are.1))

by_words : (f : Format) (l : Line) (w : List ℕ) (ws : List (List ℕ)) (more : List ℕ) → line_text f l ≡ text_of (w ∷ ws) → AreWords (w ∷ ws) → first_line (line_text f l ++ more) ≡ line_text f l
by_words f l w ws more is are =
    ap (λ t. first_line (t ++ more)) is
    ∙ ap first_line (append_assoc w (rest_of ws) more) ∙ word_first w (rest_of ws ++ more) are.0 ∙ ap (λ t. w ++ t) (rest_first ws more are.1)
    ∙ sym is

-- the text of a line, whatever is behind it, is the first line
line_first : (f : Format) (l : Line) (more : List ℕ) → IsRangedLine f l → first_line (line_text f l ++ more) ≡ line_text f l
line_first One (Tick m ended) more ranged = by_words One (Tick m ended) (codes "tick") (decimal m ∷ map address_word ended) more (line_is_words One (Tick m ended)) (line_inside One (Tick m ended) ranged)
line_first Two (Tick m ended) more ranged = by_words Two (Tick m ended) (decimal m) (codes "tick" ∷ map address_word ended) more (line_is_words Two (Tick m ended)) (line_inside Two (Tick m ended) ranged)
line_first One (Frame port index v at) more ranged =
    by_words One (Frame port index v at) (decimal port) (decimal index ∷ verdict_words v) more (line_is_words One (Frame port index v at)) (line_inside One (Frame port index v at) ranged)
line_first Two (Frame port index v at) more ranged =
    by_words Two (Frame port index v at) (decimal (unwrap_or at 0)) (decimal port ∷ decimal index ∷ verdict_words v) more (line_is_words Two (Frame port index v at)) (line_inside Two (Frame port index v at) ranged)

-- ---- the next entry is right, whatever is said of it

module _ (c : Settings) (ins : List (List Record)) (f : Format) (I : Journal) (rest : List ℕ) where
  -- the end of the text
  pub no_line : rest ≡ [] → (l : Line) → Spells f (first_line rest) l → ⊥
  no_line none l s = line_some c ins f l [] (append-nil (line_text f l) ∙ sym s.spelled ∙ ap first_line none)

  wrong_at_end : (y : LineWhy) → has_left c ins I ≡ false → rest ≡ [] → IsWrong c ins I f rest y → ⊥
  wrong_at_end why.Text left none w = w.0 none
  wrong_at_end why.Tick left none w = no_line none w.0 w.1
  wrong_at_end why.Frame left none w = no_line none _ w.3.1
  wrong_at_end (why.Verdict found made) left none w = no_line none _ w.4
  wrong_at_end why.Rest left none w = let both : true ≡ false = sym w.1 ∙ left in cc

  module _ (e : Event) (behind : List ℕ) (front : IsFront c ins (e ∷ I)) (text_is : line_text f (line_of f (now (e ∷ I)) e) ++ behind ≡ rest) where
    abbrev here : Line
    here = line_of f (now (e ∷ I)) e

    ranged : IsRangedLine f here
    ranged = line_ranged c ins f e I front.ranged

    -- the line there is that of the entry
    line_is : (l : Line) → Spells f (first_line rest) l → l ≡ here
    line_is l s = (line_once f l here (behind_line rest) behind s.ranged ranged (ap (λ (t : List ℕ). t ++ behind_line rest) (sym s.spelled) ∙ line_split rest ∙ sym text_is)).0

    spelled : Spells f (first_line rest) here
    spelled = record { ranged = ranged; spelled = ap first_line (sym text_is) ∙ line_first f here behind ranged }

  -- ---- an entry that is a frame

  module _ (port index : ℕ) (caught : Caught) (v : Verdict) (front : IsFront c ins (event.Frame port index caught v ∷ I)) where
    own : OwnRecord c ins port index caught I
    own = own_record c ins port index caught v I front

    record_is : record_of ins port index ≡ Some own.own
    record_is =
        ap (λ (q : ℕ). option_and_then (λ (rs : List Record). slice_get rs index) (slice_get ins q)) (let s : port - 1 ≡ own.place = (let is = own.is in omega (arith, is)) in s)
        ∙ ap (option_and_then (λ (rs : List Record). slice_get rs index)) own.are
        ∙ ap (slice_get own.records) own.number
        ∙ (next_of own.records (length (of_port port I)) own.own own.later own.next).at

    time : clock I ≡ Some (window_start c own.own.moment)
    time = subst (λ o. IfSome o (λ (r : Record). clock I ≡ Some (window_start c r.moment))) record_is front.timed.1

    no_tick : expects_tick c ins I ≡ false
    no_tick =
        tick_unexpected c (clock I) ins I
        (left_some c (is_at (clock I)) 1 ins I own.place port own.records own.own own.later own.are (let e : port ≡ 1 + own.place = (let is = own.is in omega (arith, is)) in e) own.next
        (ap (λ (o : Option ℕ). is_at o (start_of c own.own)) time ∙ eq-eqb (start_of c own.own) (start_of c own.own) refl))

    next_frame : (told : Option ℕ) → IfSome told (λ t. clock I ≡ Some t) → IsNextFrame c ins I port index told own.own
    next_frame told at = record { place = own.place; is = own.is; records = own.records; later = own.later; are = own.are; next = own.next; number = own.number; time = time; clock_ = at }

    told_now : IfSome (Some (now I)) (λ t. clock I ≡ Some t)
    told_now = time ∙ ap (λ (o : Option ℕ). Some (unwrap_or o 0)) (sym time)

    -- a frame that a line names is this one
    frame_named : (p i : ℕ) (told : Option ℕ) (w : Verdict) → Frame p i w told ≡ line_of f (now I) (event.Frame port index caught v) → (p ≡ port) × (i ≡ index) × (w ≡ v) × IfSome told (λ t. clock I ≡ Some t)
    frame_named p i told w is = go f is
      where
        go : (f : Format) → Frame p i w told ≡ line_of f (now I) (event.Frame port index caught v) → (p ≡ port) × (i ≡ index) × (w ≡ v) × IfSome told (λ t. clock I ≡ Some t)
        go One is =
            let a : p ≡ port = cc in
            let b : i ≡ index = cc in
            let d : w ≡ v = cc in
            let t : told ≡ None = cc in
            (a, b, d, subst (λ o. IfSome o (λ k. clock I ≡ Some k)) (sym t) tt)
        go Two is =
            let a : p ≡ port = cc in
            let b : i ≡ index = cc in
            let d : w ≡ v = cc in
            let t : told ≡ Some (now I) = cc in
            (a, b, d, subst (λ o. IfSome o (λ k. clock I ≡ Some k)) (sym t) told_now)

    own_is : (p i : ℕ) (told : Option ℕ) (r : Record) → p ≡ port → IsNextFrame c ins I p i told r → caught ≡ r.caught
    own_is p i told r same n =
        let place : n.place ≡ own.place = (let x = n.is in let y = own.is in omega (arith, x, y, same)) in
        let both : Some n.records ≡ Some own.records = sym n.are ∙ ap (slice_get ins) place ∙ own.are in
        let records : n.records ≡ own.records = cc in
        let left : r ∷ n.later ≡ own.own ∷ own.later = sym n.next ∙ ap (λ l. left_of p l I) records ∙ ap (λ (q : ℕ). left_of q own.records I) same ∙ own.next in
        let it : r ≡ own.own = cc in
        own.caught_ ∙ ap (λ (y : Record). y.caught) (sym it)

  wrong_frame : (port index : ℕ) (caught : Caught) (v : Verdict) (behind : List ℕ) (front : IsFront c ins (event.Frame port index caught v ∷ I)) →
      line_text f (line_of f (now I) (event.Frame port index caught v)) ++ behind ≡ rest → (y : LineWhy) → IsWrong c ins I f rest y → ⊥
  wrong_frame port index caught v behind front text_is why.Text w = w.1 _ (spelled (event.Frame port index caught v) behind front text_is)
  wrong_frame port index caught v behind front text_is why.Tick w = elim w.2 [
    | inl expected ↦ let both : true ≡ false = sym expected.0 ∙ no_tick port index caught v front in cc
    | inr unexpected ↦ not_tick f (sym (ap is_tick (line_is (event.Frame port index caught v) behind front text_is w.0 w.1)) ∙ unexpected.1)
  ]
    where
      not_tick : (f : Format) → is_tick (line_of f (now I) (event.Frame port index caught v)) ≡ true → ⊥
      not_tick One e = cc
      not_tick Two e = cc
  wrong_frame port index caught v behind front text_is why.Frame w =
      let named = frame_named port index caught v front w.0 w.1 w.2 w.3.0 (line_is (event.Frame port index caught v) behind front text_is (Frame w.0 w.1 w.3.0 w.2) w.3.1) in
      let next = next_frame port index caught v front w.2 named.3 in
      let r = (own port index caught v front).own in
      w.5 r (subst (λ (p : ℕ). IsNextFrame c ins I p w.1 w.2 r) (sym named.0) (subst (λ (i : ℕ). IsNextFrame c ins I port i w.2 r) (sym named.1) next))
  wrong_frame port index caught v behind front text_is (why.Verdict found made) w =
      let named = frame_named port index caught v front w.0 w.1 w.2 found (line_is (event.Frame port index caught v) behind front text_is (Frame w.0 w.1 found w.2) w.4) in
      let r = w.3 in
      let caught_is = own_is port index caught v front w.0 w.1 w.2 r named.0 w.6 in
      let right : IsRight c (tables_of c I) port caught v = front.legal.1.1 in
      w.7 (subst (λ (p : ℕ). IsRight c (tables_of c I) p r.caught found) (sym named.0) (subst (λ (x : Caught). IsRight c (tables_of c I) port x found) caught_is (subst (λ (x : Verdict). IsRight c (tables_of c I) port caught x) (sym named.2) right)))
  wrong_frame port index caught v behind front text_is why.Rest w = line_some c ins f _ behind (text_is ∙ w.0)

  -- ---- an entry that is a tick

  wrong_tick : (m : ℕ) (ended : List ℕ) (behind : List ℕ) (front : IsFront c ins (event.Tick m ended ∷ I)) → line_text f (Tick m ended) ++ behind ≡ rest → (y : LineWhy) → IsWrong c ins I f rest y → ⊥
  wrong_tick m ended behind front text_is why.Text w = w.1 _ (spelled (event.Tick m ended) behind front text_is)
  wrong_tick m ended behind front text_is why.Tick w = elim w.2 [
    | inl other ↦
        let x = other.3 in
        let t = front.timed.1 in
        let window : t.0 ≡ x.window = least_once (windows_left c 1 ins I) t.0 x.window t.1 x.least in
        let moment : m ≡ other.1 = tick_once c I x.window m other.1 (subst (λ (v : ℕ). IsNextTick c I v m) window t.2) x.next in
        let ends : ended ≡ other.2 = front.legal.1 ∙ ap (λ (k : ℕ). addresses (overdue c (tables_of c I) k)) moment ∙ sym x.ends in
        other.4 (line_is (event.Tick m ended) behind front text_is w.0 w.1 ∙ (λ i. Tick (moment i) (ends i)))
    | inr none ↦
        let t = front.timed.1 in
        let both : true ≡ false = sym (tick_expected c (clock I) ins I t.0 t.1 (clock_before c I t.0 m t.2)) ∙ none.0 in
        cc
  ]
  wrong_tick m ended behind front text_is why.Frame w =
      let t = front.timed.1 in
      let both : true ≡ false = sym (tick_expected c (clock I) ins I t.0 t.1 (clock_before c I t.0 m t.2)) ∙ w.4 in
      cc
  wrong_tick m ended behind front text_is (why.Verdict found made) w =
      let t = front.timed.1 in
      let both : true ≡ false = sym (tick_expected c (clock I) ins I t.0 t.1 (clock_before c I t.0 m t.2)) ∙ w.5 in
      cc
  wrong_tick m ended behind front text_is why.Rest w = line_some c ins f _ behind (text_is ∙ w.0)

  wrong_entry : (e : Event) (behind : List ℕ) → IsFront c ins (e ∷ I) → line_text f (line_of f (now (e ∷ I)) e) ++ behind ≡ rest → (y : LineWhy) → IsWrong c ins I f rest y → ⊥
  wrong_entry (event.Tick m ended) behind front text_is y w = wrong_tick m ended behind front text_is y w
  wrong_entry (event.Frame port index caught v) behind front text_is y w = wrong_frame port index caught v behind front text_is y w

  -- nor is the line where another journal goes on
  pub not_behind : (J : Journal) (e : Event) (more : List Event) (b : List ℕ) → IsFront c ins J → J ≡ followed I (e ∷ more) → lines_after f I (e ∷ more) ++ b ≡ rest → (y : LineWhy) → IsWrong c ins I f rest y → ⊥
  not_behind J e more b front whole is y w =
      wrong_entry e (lines_after f (e ∷ I) more ++ b) (front_before c ins (e ∷ I) more (subst (IsFront c ins) whole front)) (sym (append_assoc (line_text f (line_of f (now (e ∷ I)) e)) (lines_after f (e ∷ I) more) b) ∙ is) y w

-- ---- no line of a run's text is wrong

module _ (c : Settings) (ins : List (List Record)) (bytes : List ℕ) (I J : Journal) (before : AreRightLines c ins bytes I) (y : LineWhy) (wrong : IsWrong c ins I (format_of bytes) before.rest y) (run : Run c ins J) where
  goes_behind : (more : List Event) → IsFront c ins J → J ≡ followed I more → lines_after (format_of bytes) I more ++ [] ≡ before.rest → ⊥
  goes_behind [] front whole is = wrong_at_end c ins (format_of bytes) I before.rest y (nothing_left c ins I (subst (Run c ins) whole run)) (sym is) wrong
  goes_behind (e ∷ more) front whole is = not_behind c ins (format_of bytes) I before.rest J e more [] front whole is y wrong

  goes_before : (more : List Event) → I ≡ followed J more → lines_after (format_of bytes) J more ++ before.rest ≡ [] → ⊥
  goes_before [] whole is = wrong_at_end c ins (format_of bytes) I before.rest y (nothing_left c ins I (subst (Run c ins) (sym whole) run)) is wrong
  goes_before (e ∷ more) whole is =
      let l = line_of (format_of bytes) (now (e ∷ J)) e in
      line_some c ins (format_of bytes) l (lines_after (format_of bytes) (e ∷ J) more ++ before.rest) (sym (append_assoc (line_text (format_of bytes) l) (lines_after (format_of bytes) (e ∷ J) more) before.rest) ∙ is)

pub nothing_wrong : (c : Settings) (ins : List (List Record)) (stop : Option Stop) (bytes : List ℕ) (J : Journal) (line : ℕ) (y : LineWhy) → IsNamed ins J bytes → Run c ins J → IsFirstWrong c ins stop bytes line y → ⊥
nothing_wrong c ins stop bytes J line y named run w =
    let front = front_of_run c ins J named.ranged run in
    let right : AreRightLines c ins bytes J = record { rest = []; lines = named_text c J bytes run.legal named.lines ∙ sym (append-nil (text_in (format_of bytes) J)); front = front } in
    elim (one_goes_on c ins bytes w.entry_list J w.before right) [
      | inl g ↦ goes_behind c ins bytes w.entry_list J w.before y w.wrong run g.more front g.whole g.rest
      | inr g ↦ goes_before c ins bytes w.entry_list J w.before y w.wrong run g.more g.whole g.rest
    ]

-- ---- one run

outside : (n p : ℕ) (J : Journal) → HasPorts n J → (p ≡ 0) ⊎ (n < p) → of_port p J ≡ []
outside n p [] h out = refl
outside n p (event.Tick m ended ∷ J) h out = outside n p J h out
outside n p (event.Frame port index caught v ∷ J) h out =
    of_port_other port index p caught v J (λ e. elim out [ inl zero_is ↦ let one = h.1 in omega (arith, e, zero_is, one) | inr far ↦ let most = h.2 in omega (arith, e, far, most) ]) ∙ outside n p J h.0 out

pub same_frames : (ins : List (List Record)) (I J : Journal) → HasPorts (length ins) I → HasPorts (length ins) J → HoldsFrames I 1 ins → HoldsFrames J 1 ins → (p : ℕ) → of_port p I ≡ of_port p J
same_frames ins I J a b x y zero = outside (length ins) 0 I a (inl refl) ∙ sym (outside (length ins) 0 J b (inl refl))
same_frames ins I J a b x y (suc q) = elim (le_or_lt (length ins) q) [
  | inl far ↦
      let out : length ins < suc q = omega (arith, far) in
      outside (length ins) (suc q) I a (inr out) ∙ sym (outside (length ins) (suc q) J b (inr out))
  | inr lt ↦
      let r = inside_at ins q lt in
      let e : suc q ≡ 1 + q = omega arith in
      holds_at I 1 q (suc q) ins r.0 x r.1 e ∙ sym (holds_at J 1 q (suc q) ins r.0 y r.1 e)
]

pub run_once : (c : Settings) (ins : List (List Record)) (bytes : List ℕ) (I J : Journal) → IsNamed ins I bytes → IsNamed ins J bytes → Run c ins I → Run c ins J → I ≡ J
run_once c ins bytes I J a b x y =
    by_format (format_of bytes) (sym (named_text c I bytes x.legal a.lines) ∙ named_text c J bytes y.legal b.lines)
  where
    by_format : (f : Format) → text_in f I ≡ text_in f J → I ≡ J
    by_format One e = (text_names_journal I J a.ranged b.ranged (same_frames ins I J a.ports b.ports a.frames b.frames)).1 e
    by_format Two e = (text_names_journal I J a.ranged b.ranged (same_frames ins I J a.ports b.ports a.frames b.frames)).0 e
