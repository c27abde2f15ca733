-- The first fault of a journal, of its captures and of its outputs is one.
use Rattle.std.proofs.Common.{◌≡◌, ℕ, zero, suc, ◌+◌, ◌<◌, ◌≤◌, inl, inr, Bool, true, false, eqb, cond, IsTrue, List, [], ◌∷◌, ◌++◌, length, length-append, drop, take, slice_get, Option, Some, None, refl, sym, ap, ◌∙◌, subst, arith}
use Rattle.std.specs.Prelude.{◌==◌, filter, if◌then◌else◌, nat_lt, option_map}
use Rattle.std.specs.List.{list_any}
use Rattle.std.proofs.lemmas.Bool.{ltb-false}
use Rattle.std.proofs.lemmas.Option.{slice_get-map}
use Rattle.fab_config.specs.Settings.{Settings}
use Rattle.fab_policy.specs.Growing.{AreFrom}
use Rattle.fab_policy.specs.Journal.{Journal, followed}
use Rattle.window_records.specs.Keeping.{IsFrom}
use Rattle.fab_policy.specs.Legal.{HoldsFrames, left_of, of_port, window_start, windows_left}
use Rattle.window_records.specs.Looks.{Opened, Stop, all_records, kept, records_in}
use Rattle.fab_policy.specs.Spelling.{Spells}
use Rattle.window_records.specs.Looks.{all_kept}
use Rattle.fab_policy.specs.declared.event.Event.{Event}
use Rattle.fab_policy.specs.declared.event.Event.TheVariants as event
use Rattle.fab_policy.specs.declared.line.Format.{Format}
use Rattle.fab_policy.specs.declared.line.Line.{Line}
use Rattle.fab_policy.specs.declared.line.Line.TheVariants.{Frame}
use Rattle.fab_policy.specs.declared.verdict.Verdict.{Verdict}
use Rattle.fab_policy.proofs.SpellingLemmas.{line_once}
use Rattle.window_records.proofs.WindowLemmas.{window_start-mono}
use Rattle.pcap_file.proofs.lemmas.Chains.{ascends_on}
use Rattle.pcap_file.proofs.lemmas.Numbers.{le_or_lt}
use Rattle.pcap_file.specs.Records.{Ascends}
use Rattle.pcap_file.specs.declared.Record.{Record}
use Rattle.fab_replay.specs.AllOutputs.{IsFirst}
use Rattle.fab_replay.specs.Exact.{IsSameWhy}
use Rattle.fab_replay.specs.Front.{AreRightLines, IsFirstWrong, IsFront, IsNextFrame, IsWrong, expects_tick, is_tick}
use Rattle.fab_replay.specs.Lines.{first_line, format_of, number_behind}
use Rattle.fab_replay.specs.Outputs.{IsCompared, told_place}
use Rattle.fab_replay.specs.declared.fault.LineWhy.{LineWhy}
use Rattle.fab_replay.specs.declared.fault.LineWhy.TheVariants as why
use Rattle.fab_replay.proofs.LeftLemmas.{left_all}
use Rattle.fab_replay.proofs.OneLemmas.{below, holds_at, length-numbered, no_line, not_behind}
use Rattle.fab_replay.proofs.WalkLemmas.{lines_after, one_goes_on}

-- ---- one reason

module _ (c : Settings) (ins : List (List Record)) (f : Format) (I : Journal) (rest : List ℕ) where
  one_line : (l k : Line) → Spells f (first_line rest) l → Spells f (first_line rest) k → l ≡ k
  one_line l k s t = (line_once f l k [] [] s.ranged t.ranged (ap (λ (x : List ℕ). x ++ []) (sym s.spelled ∙ t.spelled))).0

  -- a line that is wrong where a tick stands, or none, isn't one of a frame where no tick is expected
  no_tick : IsWrong c ins I f rest why.Tick → (port index : ℕ) (v : Verdict) (told : Option ℕ) → Spells f (first_line rest) (Frame port index v told) → expects_tick c ins I ≡ false → ⊥
  no_tick w port index v told s none =
      let same : w.0 ≡ Frame port index v told = one_line w.0 (Frame port index v told) w.1 s in
      elim w.2 [
        | inl x ↦ let both : true ≡ false = sym x.0 ∙ none in cc
        | inr x ↦ let both : true ≡ false = sym x.1 ∙ ap is_tick same in cc
      ]

  no_verdict : (found made : Verdict) → IsWrong c ins I f rest why.Frame → IsWrong c ins I f rest (why.Verdict found made) → ⊥
  no_verdict found made w v =
      let same : Frame v.0 v.1 found v.2 ≡ Frame w.0 w.1 w.3.0 w.2 = one_line (Frame v.0 v.1 found v.2) (Frame w.0 w.1 w.3.0 w.2) v.4 w.3.1 in
      let port : v.0 ≡ w.0 = cc in
      let index : v.1 ≡ w.1 = cc in
      let told : v.2 ≡ w.2 = cc in
      w.5 v.3 (subst (λ (o : Option ℕ). IsNextFrame c ins I w.0 w.1 o v.3) told (subst (λ (i : ℕ). IsNextFrame c ins I w.0 i v.2 v.3) index (subst (λ (p : ℕ). IsNextFrame c ins I p v.1 v.2 v.3) port v.6)))

  one_found : (found made seen other : Verdict) → IsWrong c ins I f rest (why.Verdict found made) → IsWrong c ins I f rest (why.Verdict seen other) → seen ≡ found
  one_found found made seen other v w =
      let same : Frame w.0 w.1 seen w.2 ≡ Frame v.0 v.1 found v.2 = one_line (Frame w.0 w.1 seen w.2) (Frame v.0 v.1 found v.2) w.4 v.4 in
      cc

  pub one_why : (x y : LineWhy) → IsWrong c ins I f rest x → IsWrong c ins I f rest y → IsSameWhy x y
  one_why why.Text why.Text a b = refl
  one_why why.Text why.Tick a b = absurd (a.1 b.0 b.1)
  one_why why.Text why.Frame a b = absurd (a.1 _ b.3.1)
  one_why why.Text (why.Verdict found made) a b = absurd (a.1 _ b.4)
  one_why why.Text why.Rest a b = absurd (a.0 b.0)
  one_why why.Tick why.Text a b = absurd (b.1 a.0 a.1)
  one_why why.Tick why.Tick a b = refl
  one_why why.Tick why.Frame a b = absurd (no_tick a _ _ _ _ b.3.1 b.4)
  one_why why.Tick (why.Verdict found made) a b = absurd (no_tick a _ _ _ _ b.4 b.5)
  one_why why.Tick why.Rest a b = absurd (no_line c ins f I rest b.0 a.0 a.1)
  one_why why.Frame why.Text a b = absurd (b.1 _ a.3.1)
  one_why why.Frame why.Tick a b = absurd (no_tick b _ _ _ _ a.3.1 a.4)
  one_why why.Frame why.Frame a b = refl
  one_why why.Frame (why.Verdict found made) a b = absurd (no_verdict found made a b)
  one_why why.Frame why.Rest a b = absurd (no_line c ins f I rest b.0 _ a.3.1)
  one_why (why.Verdict found made) why.Text a b = absurd (b.1 _ a.4)
  one_why (why.Verdict found made) why.Tick a b = absurd (no_tick b _ _ _ _ a.4 a.5)
  one_why (why.Verdict found made) why.Frame a b = absurd (no_verdict found made b a)
  one_why (why.Verdict found made) (why.Verdict seen other) a b = (other, ap (λ (v : Verdict). why.Verdict v other) (one_found found made seen other a b))
  one_why (why.Verdict found made) why.Rest a b = absurd (no_line c ins f I rest b.0 _ a.4)
  one_why why.Rest why.Text a b = absurd (b.0 a.0)
  one_why why.Rest why.Tick a b = absurd (no_line c ins f I rest a.0 b.0 b.1)
  one_why why.Rest why.Frame a b = absurd (no_line c ins f I rest a.0 _ b.3.1)
  one_why why.Rest (why.Verdict found made) a b = absurd (no_line c ins f I rest a.0 _ b.4)
  one_why why.Rest why.Rest a b = refl

-- ---- one line

module _ (c : Settings) (ins : List (List Record)) (stop : Option Stop) (text : List ℕ) where
  -- the lines of another journal don't go on behind a wrong one
  stays : (line : ℕ) (y : LineWhy) (w : IsFirstWrong c ins stop text line y) (J : Journal) (b : List ℕ) (more : List Event) → IsFront c ins J → J ≡ followed w.entry_list more → lines_after (format_of text) w.entry_list more ++ b ≡ w.before.rest → more ≡ []
  stays line y w J b [] front whole is = refl
  stays line y w J b (e ∷ more) front whole is = absurd (not_behind c ins (format_of text) w.entry_list w.before.rest J e more b front whole is y w.wrong)

  same_place : (I J : Journal) (a : AreRightLines c ins text I) (b : AreRightLines c ins text J) (x y : LineWhy) → I ≡ J → a.rest ≡ b.rest → IsWrong c ins I (format_of text) a.rest x → IsWrong c ins J (format_of text) b.rest y → IsSameWhy x y
  same_place I J a b x y same rest v w =
      one_why c ins (format_of text) J b.rest x y (subst (λ (l : List ℕ). IsWrong c ins J (format_of text) l x) rest (subst (λ (K : Journal). IsWrong c ins K (format_of text) a.rest x) same v)) w

  pub lines_once : (line other : ℕ) (x y : LineWhy) → IsFirstWrong c ins stop text line x → IsFirstWrong c ins stop text other y → (other ≡ line) × IsSameWhy x y
  lines_once line other x y v w =
      let f = format_of text in
      let both : (v.entry_list ≡ w.entry_list) × (v.before.rest ≡ w.before.rest) = elim (one_goes_on c ins text v.entry_list w.entry_list v.before w.before) [
        | inl g ↦
            let none = stays line x v w.entry_list w.before.rest g.more w.before.front g.whole g.rest in
            (sym (g.whole ∙ ap (followed v.entry_list) none), sym g.rest ∙ ap (λ (es : List Event). lines_after f v.entry_list es ++ w.before.rest) none)
        | inr g ↦
            let none = stays other y w v.entry_list v.before.rest g.more v.before.front g.whole g.rest in
            (g.whole ∙ ap (followed w.entry_list) none, ap (λ (es : List Event). lines_after f w.entry_list es ++ v.before.rest) (sym none) ∙ g.rest)
      ] in
      (w.number ∙ ap (λ (K : Journal). number_behind f (length K)) (sym both.0) ∙ sym v.number, same_place v.entry_list w.entry_list v.before w.before x y both.0 both.1 v.wrong w.wrong)

-- ---- the frames behind all that a stop keeps

module _ (c : Settings) (v : ℕ) where
  abbrev is_early : Record → Bool
  is_early r = nat_lt (window_start c r.moment) v

  from_moment : (rs : List Record) (g : ℕ) → Ascends g rs → v ≤ window_start c g → AreFrom c v rs
  from_moment [] g up le = tt
  from_moment (r ∷ rs) g up le =
      let later = window_start-mono c g r.moment up.0 in
      let from : v ≤ window_start c r.moment = omega (arith, later, le) in (from, from_moment rs r.moment up.1 from)

  from_drop : (k : ℕ) (rs : List Record) → AreFrom c v rs → AreFrom c v (drop k rs)
  from_drop zero rs h = h
  from_drop (suc k) [] h = tt
  from_drop (suc k) (r ∷ rs) h = from_drop k rs h.1

  -- behind as many as are of earlier windows
  from_early : (rs : List Record) (g k : ℕ) → Ascends g rs → length (filter is_early rs) ≤ k → AreFrom c v (drop k rs)
  from_early [] g zero up le = tt
  from_early [] g (suc k) up le = tt
  from_early (r ∷ rs) g k up le = go (is_early r) refl k le (λ j h. from_early rs r.moment j up.1 h)
    where
      go : (b : Bool) → is_early r ≡ b → (k : ℕ) → length (cond b (r ∷ filter is_early rs) (filter is_early rs)) ≤ k → ((j : ℕ) → length (filter is_early rs) ≤ j → AreFrom c v (drop j rs)) → AreFrom c v (drop k (r ∷ rs))
      go true is zero le more = absurd (omega (arith, le))
      go true is (suc k) le more = more k (omega (arith, le))
      go false is k le more = let from : v ≤ window_start c r.moment = ltb-false (window_start c r.moment) v is in from_drop k (r ∷ rs) (from, from_moment rs r.moment up.1 from)

-- further entries take no frame of a port away
more_frames : (p : ℕ) (J : Journal) (more : List Event) → length (of_port p J) ≤ length (of_port p (followed J more))
more_frames p J [] = omega arith
more_frames p J (event.Tick m ended ∷ more) = more_frames p (event.Tick m ended ∷ J) more
more_frames p J (event.Frame port index caught v ∷ more) =
    let on = more_frames p (event.Frame port index caught v ∷ J) more in
    let size = length-append (of_port p J) (if port == p then (index, caught) ∷ [] else []) in
    omega (arith, on, size)

capture_at : (opened : List Opened) (q : ℕ) (records : List Record) → slice_get (all_records opened) q ≡ Some records → (o : Opened) × (records_in o ≡ records)
capture_at [] q records at = absurd (cc)
capture_at (o ∷ opened) zero records at = (o, cc)
capture_at (o ∷ opened) (suc q) records at = capture_at opened q records at

-- the records of a port that a stop in a window keeps
abbrev kept_in : Settings → Option ℕ → List Record → List Record
kept_in c o records = elim o as (λ _. List Record) [ None ↦ [] | Some w ↦ filter (λ r. nat_lt (window_start c r.moment) w) records ]

module _ (c : Settings) (opened : List Opened) (at : Stop) (J : Journal) (all : HoldsFrames J 1 (all_kept c at (all_records opened))) (more : List Event) where
  left_late : (v : ℕ) → at.window ≡ Some v → (q port : ℕ) (records : List Record) → slice_get (all_records opened) q ≡ Some records → port ≡ 1 + q → AreFrom c v (left_of port records (followed J more))
  left_late v is q port records there e =
      let o = capture_at opened q records there in
      let held = holds_at J 1 q port (all_kept c at (all_records opened)) (kept c (Some at) records) all (slice_get-map (kept c (Some at)) (all_records opened) q ∙ ap (option_map (kept c (Some at))) there) e in
      let size : length (of_port port J) ≡ length (filter (is_early c v) records) = ap length held ∙ length-numbered 0 (kept c (Some at) records) ∙ ap (λ (w : Option ℕ). length (kept_in c w records)) is in
      let on = more_frames port J more in
      from_early c v records 0 (length (of_port port (followed J more))) (subst (Ascends 0) o.1 (ascends_on (suc (length o.0.body)) o.0.head 0 o.0.body)) (omega (arith, size, on))

  -- none of a window before the stop is left
  none_early : (w : ℕ) → IsTrue (list_any (λ m. eqb m w) (windows_left c 1 (all_records opened) (followed J more))) → IsFrom (w + 1) at.window → ⊥
  none_early w some ahead = go at.window refl ahead
    where
      go : (o : Option ℕ) → at.window ≡ o → IsFrom (w + 1) o → ⊥
      go None is ahead = ahead
      go (Some v) is ahead =
          let le = below (windows_left c 1 (all_records opened) (followed J more)) v w (left_all c v 1 (all_records opened) (followed J more) (left_late v is)) some in
          omega (arith, le, ahead)

-- no stop of the captures comes before a wrong line, where the lines of all frames before the stop are right
pub no_stop : (c : Settings) (opened : List Opened) (at : Stop) (text : List ℕ) (line : ℕ) (y : LineWhy) → IsFirstWrong c (all_records opened) (Some at) text line y → (J : Journal) → AreRightLines c (all_records opened) text J →
    HoldsFrames J 1 (all_kept c at (all_records opened)) → ⊥
no_stop c opened at text line y w J right all = elim (one_goes_on c (all_records opened) text w.entry_list J w.before right) [
  | inl g ↦
      let none = stays c (all_records opened) (Some at) text line y w J right.rest g.more right.front g.whole g.rest in
      early [] (sym (g.whole ∙ ap (followed w.entry_list) none))
  | inr g ↦ early g.more g.whole
]
  where
    early : (more : List Event) → w.entry_list ≡ followed J more → ⊥
    early more whole =
        let g = w.gathered in
        none_early c opened at J all more g.0 (subst (λ (K : Journal). IsTrue (list_any (λ m. eqb m g.0) (windows_left c 1 (all_records opened) K))) whole g.1.0) g.2

-- ---- one output

same_at : (n m : ℕ) (l k : List ℕ) → m < n → take n l ≡ take n k → slice_get l m ≡ slice_get k m
same_at zero m l k lt e = absurd (omega arith)
same_at (suc n) m [] [] lt e = refl
same_at (suc n) m [] (y ∷ k) lt e = absurd (cc)
same_at (suc n) m (x ∷ l) [] lt e = absurd (cc)
same_at (suc n) zero (x ∷ l) (y ∷ k) lt e = let same : x ≡ y = cc in ap (λ (b : ℕ). Some b) same
same_at (suc n) (suc m) (x ∷ l) (y ∷ k) lt e = let rest : take n l ≡ take n k = cc in same_at n m l k (omega arith) rest

place_once : (found wanted : List ℕ) (a b : ℕ) → IsCompared (Some a) found wanted → IsCompared (Some b) found wanted → b ≡ a
place_once found wanted a b x y = elim (le_or_lt x.0 y.0) [
  | inl le ↦ elim (le_or_lt y.0 x.0) [
    | inl ge ↦ let same : y.0 ≡ x.0 = omega (arith, le, ge) in y.1 ∙ ap told_place same ∙ sym x.1
    | inr lt ↦ absurd (x.2.differ (same_at y.0 x.0 found wanted lt y.2.same))
  ]
  | inr lt ↦ absurd (y.2.differ (same_at x.0 y.0 found wanted lt x.2.same))
]

module _ (n : ℕ) (found wanted : ℕ → List ℕ) where
  not_first : (port at other place : ℕ) → (x : IsFirst (Some (port, at)) n found wanted) → (y : IsFirst (Some (other, place)) n found wanted) → x.0 < y.0 → ⊥
  not_first port at other place x y lt = x.3.2.differ (ap (λ (l : List ℕ). slice_get l x.3.0) (y.4 x.0 lt))

  pub first_once : (port at other place : ℕ) → IsFirst (Some (port, at)) n found wanted → IsFirst (Some (other, place)) n found wanted → (other ≡ port) × (place ≡ at)
  first_once port at other place x y = elim (le_or_lt x.0 y.0) [
    | inl le ↦ elim (le_or_lt y.0 x.0) [
      | inl ge ↦
          let same : y.0 ≡ x.0 = omega (arith, le, ge) in
          (y.1 ∙ ap (λ (k : ℕ). k + 1) same ∙ sym x.1, place_once (found x.0) (wanted x.0) at place x.3 (subst (λ (k : ℕ). IsCompared (Some place) (found k) (wanted k)) same y.3))
      | inr lt ↦ absurd (not_first port at other place x y lt)
    ]
    | inr lt ↦ absurd (not_first other place port at y x lt)
  ]
