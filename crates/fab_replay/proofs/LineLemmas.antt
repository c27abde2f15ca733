-- A line behind those of a journal.
use Rattle.std.proofs.Common.{◌≡◌, ℕ, ◌+◌, Bool, true, false, List, [], ◌∷◌, ◌++◌, length, take, drop, refl, sym, ap, ◌∙◌, subst, arith, append_assoc, codes, decimal}
use Rattle.std.specs.Prelude.{◌==◌, if◌then◌else◌}
use Rattle.std.specs.Str.{bytes_eq}
use Rattle.std.proofs.lemmas.List.{append-nil, take-append-drop}
use Rattle.std.proofs.lemmas.Slice.Eq.{bytes_eq-Decides}
use Rattle.fab_policy.specs.Journal.{Journal, now}
use Rattle.fab_policy.specs.Spelling.{IsClockOf, line_of, line_text}
use Rattle.fab_policy.specs.Text.{LINE_FEED, head_line, line, line1, text, text1, then_word, address_words}
use Rattle.fab_policy.specs.declared.event.Event.{Event}
use Rattle.fab_policy.specs.declared.event.Event.TheVariants as event
use Rattle.fab_policy.specs.declared.line.Format.{Format}
use Rattle.fab_policy.specs.declared.line.Format.TheVariants.{One, Two}
use Rattle.fab_policy.specs.declared.line.Line.{Line}
use Rattle.fab_policy.specs.declared.line.Line.TheVariants.{Tick}
use Rattle.fab_states.specs.Written.{clock_on, piece_text}
use Rattle.fab_states.proofs.WrittenLemmas.{piece-none, text_grows_from}
use Rattle.fab_replay.specs.FrontFrom.{IsBehindFrom, text_from}
use Rattle.fab_replay.specs.Lines.{IsBehind, IsLineAt, IsUnread, behind_line, first_line, format_of, text_in}
use Rattle.fab_replay.specs.declared.fault.CheckFault.{CheckFault}
use Rattle.fab_replay.specs.declared.lines.Place.{Place}

-- ---- a line that was read, by the scene's own text

pub line_as : {b bytes : List ℕ} {p q : Place} {l m : Line} → bytes ≡ b → l ≡ m → IsLineAt b p q l → IsLineAt bytes p q m
line_as {b} {bytes} {p} {q} {l} {m} same is at = subst (IsLineAt bytes p q) is (subst (λ t. IsLineAt t p q l) (sym same) at)

-- and why one wasn't
pub unread_as : {b bytes : List ℕ} (p : Place) (e : CheckFault) → bytes ≡ b → IsUnread b p e → IsUnread bytes p e
unread_as {b} {bytes} p e same u = subst (λ t. IsUnread t p e) (sym same) u

-- ---- a text and its first line

pub line_split : (bytes : List ℕ) → first_line bytes ++ behind_line bytes ≡ bytes
line_split [] = refl
line_split (b ∷ bytes) = go (b == LINE_FEED) (line_split bytes)
  where
    go : (end : Bool) → first_line bytes ++ behind_line bytes ≡ bytes → (if end then b ∷ [] else b ∷ first_line bytes) ++ (if end then bytes else behind_line bytes) ≡ b ∷ bytes
    go true h = refl
    go false h = ap (λ l. b ∷ l) h

-- ---- one more entry

one_more : (J : Journal) (e : Event) → text1 (e ∷ J) ≡ text1 J ++ line1 e
unfolding text1
one_more J e = refl

two_more : (J : Journal) (e : Event) → text (e ∷ J) ≡ text J ++ line (now (e ∷ J)) e
unfolding text
two_more J e = refl

line_one : (t : ℕ) (e : Event) → line1 e ≡ line_text One (line_of One t e)
line_one t (event.Tick m ended) = refl
line_one t (event.Frame port index caught verdict) = refl

line_two : (t : ℕ) (e : Event) → IsClockOf t e → line t e ≡ line_text Two (line_of Two t e)
line_two t (event.Tick m ended) is = ap (λ (k : ℕ). decimal k ++ then_word (codes "tick") ++ address_words ended ++ LINE_FEED ∷ []) is
line_two t (event.Frame port index caught verdict) is = refl

clock_of : (J : Journal) (e : Event) → IsClockOf (now (e ∷ J)) e
clock_of J (event.Tick m ended) = refl
clock_of J (event.Frame port index caught verdict) = tt

pub text_more : (f : Format) (J : Journal) (e : Event) → text_in f (e ∷ J) ≡ text_in f J ++ line_text f (line_of f (now (e ∷ J)) e)
text_more One J e = one_more J e ∙ ap (λ l. text1 J ++ l) (line_one (now (e ∷ J)) e)
text_more Two J e = two_more J e ∙ ap (λ l. text J ++ l) (line_two (now (e ∷ J)) e (clock_of J e))

-- the same behind a clock
clock_on_of : (t : ℕ) (K : Journal) (e : Event) → IsClockOf (clock_on t (e ∷ K)) e
clock_on_of t K (event.Tick m ended) = refl
clock_on_of t K (event.Frame port index caught verdict) = tt

text_on : (f : Format) (t : ℕ) (K : Journal) (e : Event) → text_from f t (e ∷ K) ≡ text_from f t K ++ line_text f (line_of f (clock_on t (e ∷ K)) e)
text_on One t K e = one_more K e ∙ ap (λ l. text1 K ++ l) (line_one (clock_on t (e ∷ K)) e)
text_on Two t K e =
    let here = line (clock_on t (e ∷ K)) e in
    ap (λ l. head_line ++ l) (text_grows_from t K (e ∷ []) ∙ ap (λ l. piece_text t K ++ l) (append-nil here))
    ∙ sym (append_assoc head_line (piece_text t K) here)
    ∙ ap (λ l. (head_line ++ piece_text t K) ++ l) (line_two (clock_on t (e ∷ K)) e (clock_on_of t K e))

-- the place behind the line of an entry
pub behind_more : (t : ℕ) (bytes : List ℕ) (p q : Place) (J : Journal) (e : Event) (l : Line) → IsBehindFrom t bytes p J → IsLineAt bytes p q l → l ≡ line_of p.format (clock_on t (e ∷ J)) e → IsBehindFrom t bytes q (e ∷ J)
behind_more t bytes p q J e l h at is = record {
  format = at.format ∙ h.format;
  entries = at.entries ∙ ap (λ (n : ℕ). n + 1) h.entries ∙ (let s : length J + 1 ≡ length (e ∷ J) = omega arith in s);
  lines = h.lines
      ∙ ap (λ x. text_from p.format t J ++ x) (sym (line_split (drop p.at bytes)))
      ∙ sym (append_assoc (text_from p.format t J) (first_line (drop p.at bytes)) (behind_line (drop p.at bytes)))
      ∙ ap (λ x. (text_from p.format t J ++ x) ++ behind_line (drop p.at bytes)) (at.spells.spelled ∙ ap (line_text p.format) is)
      ∙ ap (λ x. x ++ behind_line (drop p.at bytes)) (sym (text_on p.format t J e))
      ∙ ap (λ x. text_from p.format t (e ∷ J) ++ x) (sym at.behind)
      ∙ ap (λ (f : Format). text_from f t (e ∷ J) ++ drop q.at bytes) (sym at.format);
}

-- the line of a tick, and that of a frame which tells the clock where its format does
pub tick_line : (f : Format) (t m : ℕ) (ended : List ℕ) → Tick m ended ≡ line_of f t (event.Tick m ended)
tick_line f t m ended = refl

-- ---- the place before the first entry

pub head_behind : (bytes : List ℕ) → bytes_eq head_line (take 10 bytes) ≡ true → IsBehind bytes (record { format = Two; at = 10; entries = 0 }) []
unfolding format_of text
head_behind bytes e = record {
  format = ap (λ (b : Bool). if b then Two else One) (sym e);
  entries = refl;
  lines = sym (take-append-drop 10 bytes) ∙ ap (λ l. l ++ drop 10 bytes) (sym ((bytes_eq-Decides head_line (take 10 bytes)).0 e));
}

pub plain_behind : (bytes : List ℕ) → bytes_eq head_line (take 10 bytes) ≡ false → IsBehind bytes (record { format = One; at = 0; entries = 0 }) []
unfolding format_of text1
plain_behind bytes e = record { format = ap (λ (b : Bool). if b then Two else One) (sym e); entries = refl; lines = refl }

-- the same behind any clock
text_none : (f : Format) (t : ℕ) → text_in f [] ≡ text_from f t []
unfolding text
text_none One t = refl
text_none Two t = sym (append-nil head_line) ∙ ap (λ l. head_line ++ l) (sym (piece-none t))

pub behind_first : (t : ℕ) (bytes : List ℕ) (p : Place) → IsBehind bytes p [] → IsBehindFrom t bytes p []
behind_first t bytes p h = record { format = h.format; entries = h.entries; lines = h.lines ∙ ap (λ l. l ++ drop p.at bytes) (text_none p.format t) }
