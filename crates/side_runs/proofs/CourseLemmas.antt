-- A run goes on input by input.
use Rattle.std.proofs.Common.{◌≡◌, ℕ, ◌+◌, ◌<◌, ◌≤◌, cond, List, [], ◌∷◌, ◌++◌, append-nil, append_assoc, flat_map, zero, suc, length, drop, get_or, ◌^◌, refl, sym, ap, subst, ◌∙◌, arith}
use Rattle.std.proofs.lemmas.Bool.{le-leb, lt-leb}
use Rattle.pcap_file.specs.Capture.{head_bytes, record_bytes}
use Rattle.pcap_file.specs.declared.Record.{Record}
use Rattle.enode_core.specs.declared.node.Identity.{Identity}
use Rattle.enode_core.specs.declared.node.State.{State}
use Rattle.enode_core.specs.Machine.{Turn, due, timer, frame, begun}
use Rattle.enode_core.specs.Runs.{Input, Timer, Heard, Plays, from, turn, after, sent, sendings, moment_of, Sending, all_sent, stands}
use Rattle.side_runs.specs.Course.{AreFar, IsAt, capture, turn_bytes}
use Rattle.enode_core.specs.Goes.{Goes, AreSmall}

-- ---- one more input

pub after-push : (own : Identity) (s : State) (xs : List Input) (i : Input) → after own s (xs ++ i ∷ []) ≡ (turn own (after own s xs) i).state
after-push own s [] i = refl
after-push own s (x ∷ xs) i = after-push own (turn own s x).state xs i

plays_timer : (own : Identity) (s : State) (records : List Record) (xs : List Input) (r : Record) (left : List Record) → Plays own s records xs (r ∷ left) →
    due (after own s xs).stage ≤ r.moment → Plays own s records (xs ++ Timer ∷ []) (r ∷ left)
plays_timer own s records [] r left h is_due = subst (λ rs. Plays own s rs (Timer ∷ []) (r ∷ left)) (sym h) (is_due, refl)
plays_timer own s [] (x ∷ xs) r left h is_due = absurd h
plays_timer own s (q ∷ records) (Timer ∷ xs) r left h is_due = (h.0, plays_timer own (timer own s).state (q ∷ records) xs r left h.1 is_due)
plays_timer own s (q ∷ records) (Heard p ∷ xs) r left h is_due =
    let same : frame own s p.moment p.caught ≡ frame own s q.moment q.caught = ap (λ (x : Record). frame own s x.moment x.caught) h.0 in
    (h.0, h.1, plays_timer own (frame own s q.moment q.caught).state records xs r left h.2 (subst (λ (t : Turn). due (after own t.state xs).stage ≤ r.moment) same is_due))

plays_heard : (own : Identity) (s : State) (records : List Record) (xs : List Input) (r : Record) (left : List Record) → Plays own s records xs (r ∷ left) →
    r.moment < due (after own s xs).stage → Plays own s records (xs ++ Heard r ∷ []) left
plays_heard own s records [] r left h before = subst (λ rs. Plays own s rs (Heard r ∷ []) left) (sym h) (refl, before, refl)
plays_heard own s [] (x ∷ xs) r left h before = absurd h
plays_heard own s (q ∷ records) (Timer ∷ xs) r left h before = (h.0, plays_heard own (timer own s).state (q ∷ records) xs r left h.1 before)
plays_heard own s (q ∷ records) (Heard p ∷ xs) r left h before =
    let same : frame own s p.moment p.caught ≡ frame own s q.moment q.caught = ap (λ (x : Record). frame own s x.moment x.caught) h.0 in
    (h.0, h.1, plays_heard own (frame own s q.moment q.caught).state records xs r left h.2 (subst (λ (t : Turn). r.moment < due (after own t.state xs).stage) same before))

-- ---- what is sent

flat-append : (f : Sending → List ℕ) (xs ys : List Sending) → flat_map f (xs ++ ys) ≡ flat_map f xs ++ flat_map f ys
flat-append f [] ys = refl
flat-append f (x ∷ xs) ys = ap (λ l. f x ++ l) (flat-append f xs ys) ∙ sym (append_assoc (f x) (flat_map f xs) (flat_map f ys))

sent-push : (own : Identity) (s : State) (xs : List Input) (i : Input) →
    sent own s (xs ++ i ∷ []) ≡ sent own s xs ++ sendings (moment_of (after own s xs) i) (turn own (after own s xs) i).sent
sent-push own s [] i = append-nil (sendings (moment_of s i) (turn own s i).sent)
sent-push own s (x ∷ xs) i =
    ap (λ l. sendings (moment_of s x) (turn own s x).sent ++ l) (sent-push own (turn own s x).state xs i)
    ∙ sym (append_assoc (sendings (moment_of s x) (turn own s x).sent) (sent own (turn own s x).state xs) _)

capture-push : (own : Identity) (start : ℕ) (xs : List Input) (i : Input) →
    capture (all_sent own start (xs ++ i ∷ [])) ≡ capture (all_sent own start xs) ++ turn_bytes (moment_of (stands own start xs) i) (turn own (stands own start xs) i).sent
capture-push own start xs i =
    let first = sendings start (begun own start).sent in
    let before = sent own (begun own start).state xs in
    let more = sendings (moment_of (stands own start xs) i) (turn own (stands own start xs) i).sent in
    let bytes : Sending → List ℕ = λ x. record_bytes x.moment x.bytes in
    ap (λ l. head_bytes ++ flat_map bytes l) (ap (λ l. first ++ l) (sent-push own (begun own start).state xs i) ∙ sym (append_assoc first before more))
    ∙ ap (λ l. head_bytes ++ l) (flat-append bytes (first ++ before) more)
    ∙ sym (append_assoc head_bytes (flat_map bytes (first ++ before)) (flat_map bytes more))

-- ---- a run goes on

-- by a timer
pub at_timer : (own : Identity) (start : ℕ) (ins : List Record) (r : Record) (left : List Record) (s : State) (file : List ℕ) → IsAt own start ins (r ∷ left) s file → due s.stage ≤ r.moment →
    IsAt own start ins (r ∷ left) (timer own s).state (file ++ turn_bytes (due s.stage) (timer own s).sent)
at_timer own start ins r left s file h is_due = record {
  given = h.given ++ Timer ∷ [];
  begins = plays_timer own (begun own start).state (from start ins) h.given r left h.begins (subst (λ (t : State). due t.stage ≤ r.moment) h.stands_so is_due);
  stands_so = ap (λ t. (timer own t).state) h.stands_so ∙ sym (after-push own (begun own start).state h.given Timer);
  holds = ap (λ t. file ++ turn_bytes (due t.stage) (timer own t).sent) h.stands_so ∙ ap (λ l. l ++ turn_bytes (due (stands own start h.given).stage) (timer own (stands own start h.given)).sent) h.holds
      ∙ sym (capture-push own start h.given Timer);
}

-- by a record
pub at_heard : (own : Identity) (start : ℕ) (ins : List Record) (r : Record) (left : List Record) (s : State) (file : List ℕ) → IsAt own start ins (r ∷ left) s file → r.moment < due s.stage →
    IsAt own start ins left (frame own s r.moment r.caught).state (file ++ turn_bytes r.moment (frame own s r.moment r.caught).sent)
at_heard own start ins r left s file h before = record {
  given = h.given ++ Heard r ∷ [];
  begins = plays_heard own (begun own start).state (from start ins) h.given r left h.begins (subst (λ (t : State). r.moment < due t.stage) h.stands_so before);
  stands_so = ap (λ t. (frame own t r.moment r.caught).state) h.stands_so ∙ sym (after-push own (begun own start).state h.given (Heard r));
  holds = ap (λ t. file ++ turn_bytes r.moment (frame own t r.moment r.caught).sent) h.stands_so ∙ ap (λ l. l ++ turn_bytes r.moment (frame own (stands own start h.given) r.moment r.caught).sent) h.holds
      ∙ sym (capture-push own start h.given (Heard r));
}

-- at its start
pub at_start : (own : Identity) (start : ℕ) (ins : List Record) → IsAt own start ins (from start ins) (begun own start).state (head_bytes ++ turn_bytes start (begun own start).sent)
at_start own start ins = record { given = []; begins = refl; stands_so = refl; holds = refl }

-- ---- as the code goes on

pub timer_goes : (own : Identity) (start : ℕ) (ins : List Record) (r : Record) (left : List Record) (s s2 : State) (file file2 : List ℕ) (old frames shown : List (List ℕ)) (m : ℕ) →
    old ≡ [] → Goes (timer own s) s2 old frames → shown ≡ frames → m ≡ due s.stage → file2 ≡ file ++ turn_bytes m shown →
    IsAt own start ins (r ∷ left) s file → due s.stage ≤ r.moment → IsAt own start ins (r ∷ left) s2 file2
timer_goes own start ins r left s s2 file file2 old frames shown m none goes same at grown h is_due =
    let told : shown ≡ (timer own s).sent = same ∙ goes.sent ∙ ap (λ l. l ++ (timer own s).sent) none in
    let whole : file2 ≡ file ++ turn_bytes (due s.stage) (timer own s).sent = grown ∙ ap (λ n. file ++ turn_bytes n shown) at ∙ ap (λ l. file ++ turn_bytes (due s.stage) l) told in
    subst (λ f. IsAt own start ins (r ∷ left) s2 f) (sym whole) (subst (λ t. IsAt own start ins (r ∷ left) t (file ++ turn_bytes (due s.stage) (timer own s).sent)) (sym goes.state) (at_timer own start ins r left s file h is_due))

pub heard_goes : (own : Identity) (start : ℕ) (ins : List Record) (r : Record) (left : List Record) (s s2 : State) (file file2 : List ℕ) (old frames shown : List (List ℕ)) →
    old ≡ [] → Goes (frame own s r.moment r.caught) s2 old frames → shown ≡ frames → file2 ≡ file ++ turn_bytes r.moment shown →
    IsAt own start ins (r ∷ left) s file → r.moment < due s.stage → IsAt own start ins left s2 file2
heard_goes own start ins r left s s2 file file2 old frames shown none goes same grown h before =
    let t = frame own s r.moment r.caught in
    let told : shown ≡ t.sent = same ∙ goes.sent ∙ ap (λ l. l ++ t.sent) none in
    let whole : file2 ≡ file ++ turn_bytes r.moment t.sent = grown ∙ ap (λ l. file ++ turn_bytes r.moment l) told in
    subst (λ f. IsAt own start ins left s2 f) (sym whole) (subst (λ u. IsAt own start ins left u (file ++ turn_bytes r.moment t.sent)) (sym goes.state) (at_heard own start ins r left s file h before))

-- ---- over the frames of a turn

small_drop : (xs : List (List ℕ)) (i : ℕ) → AreSmall (drop i xs) → AreSmall (drop (suc i) xs)
small_drop [] zero h = tt
small_drop [] (suc i) h = tt
small_drop (x ∷ xs) zero h = h.1
small_drop (x ∷ xs) (suc i) h = small_drop xs i h

pub small_next : (xs : List (List ℕ)) (i : ℕ) → AreSmall (drop i xs) → AreSmall (drop (i + 1) xs)
small_next xs i h = subst (λ n. AreSmall (drop n xs)) (let next : suc i ≡ i + 1 = omega arith in next) (small_drop xs i h)

bytes_drop : (m : ℕ) (xs : List (List ℕ)) (i : ℕ) (d : List ℕ) → i < length xs → turn_bytes m (drop i xs) ≡ record_bytes m (get_or xs i d) ++ turn_bytes m (drop (suc i) xs)
bytes_drop m [] i d lt = absurd (omega arith)
bytes_drop m (x ∷ xs) zero d lt = refl
bytes_drop m (x ∷ xs) (suc i) d lt = bytes_drop m xs i d (omega arith)

-- a frame more in the file is a frame less to come
pub told_next : (m : ℕ) (xs : List (List ℕ)) (i : ℕ) (x d file new whole : List ℕ) → i < length xs → x ≡ get_or xs i d → file ++ turn_bytes m (drop i xs) ≡ whole → new ≡ file ++ record_bytes m x →
    new ++ turn_bytes m (drop (i + 1) xs) ≡ whole
told_next m xs i x d file new whole lt is told grown =
    let rest = turn_bytes m (drop (i + 1) xs) in
    let next : suc i ≡ i + 1 = omega arith in
    let cut : turn_bytes m (drop i xs) ≡ record_bytes m x ++ rest = bytes_drop m xs i d lt ∙ ap (λ n. record_bytes m (get_or xs i d) ++ turn_bytes m (drop n xs)) next ∙ ap (λ b. record_bytes m b ++ rest) (sym is) in
    ap (λ l. l ++ rest) grown ∙ append_assoc file (record_bytes m x) rest ∙ ap (λ l. file ++ l) (sym cut) ∙ told

-- ---- over all records

far_drop : (ins : List Record) (i : ℕ) → AreFar (drop i ins) → AreFar (drop (suc i) ins)
far_drop [] zero h = tt
far_drop [] (suc i) h = tt
far_drop (r ∷ ins) zero h = h.1
far_drop (r ∷ ins) (suc i) h = far_drop ins i h

cut_at : (ins : List Record) (i : ℕ) (d : Record) → i < length ins → drop i ins ≡ get_or ins i d ∷ drop (suc i) ins
cut_at [] i d lt = absurd (omega arith)
cut_at (r ∷ ins) zero d lt = refl
cut_at (r ∷ ins) (suc i) d lt = cut_at ins i d (omega arith)

-- the first of those that are left
pub left_is : (ins : List Record) (i : ℕ) (r d : Record) → i < length ins → r ≡ get_or ins i d → drop i ins ≡ r ∷ drop (i + 1) ins
left_is ins i r d lt is =
    let next : suc i ≡ i + 1 = omega arith in
    cut_at ins i d lt ∙ ap (λ n. get_or ins i d ∷ drop n ins) next ∙ ap (λ x. x ∷ drop (i + 1) ins) (sym is)

pub far_next : (ins : List Record) (i : ℕ) → AreFar (drop i ins) → AreFar (drop (i + 1) ins)
far_next ins i h = subst (λ n. AreFar (drop n ins)) (let next : suc i ≡ i + 1 = omega arith in next) (far_drop ins i h)

pub far_here : (ins : List Record) (i : ℕ) (r d : Record) → i < length ins → r ≡ get_or ins i d → AreFar (drop i ins) → r.moment < 2 ^ 53
far_here ins i r d lt is h = let parts : AreFar (r ∷ drop (i + 1) ins) = subst AreFar (left_is ins i r d lt is) h in parts.0

-- a record that comes before the start is none of those that are left
pub skipped : (start : ℕ) (r : Record) (left : List Record) → r.moment < start → from start (r ∷ left) ≡ from start left
skipped start r left before = ap (λ b. cond b (r ∷ from start left) (from start left)) (lt-leb start r.moment before)

pub kept_one : (start : ℕ) (r : Record) (left : List Record) → start ≤ r.moment → from start (r ∷ left) ≡ r ∷ from start left
kept_one start r left late = ap (λ b. cond b (r ∷ from start left) (from start left)) (le-leb start r.moment late)

pub offered : (own own2 : Identity) (start : ℕ) (ins : List Record) (i : ℕ) (r d : Record) (s s2 : State) (file file2 : List ℕ) → own2 ≡ own → i < length ins → r ≡ get_or ins i d →
    ((xs left : List Record) → IsAt own2 start xs (from start (r ∷ left)) s file → IsAt own2 start xs (from start left) s2 file2) →
    IsAt own start ins (from start (drop i ins)) s file → IsAt own start ins (from start (drop (i + 1) ins)) s2 file2
offered own own2 start ins i r d s s2 file file2 same lt is goes h =
    subst (λ o. IsAt o start ins (from start (drop (i + 1) ins)) s2 file2) same
    (goes ins (drop (i + 1) ins) (subst (λ o. IsAt o start ins (from start (r ∷ drop (i + 1) ins)) s file) (sym same) (subst (λ rs. IsAt own start ins (from start rs) s file) (left_is ins i r d lt is) h)))
