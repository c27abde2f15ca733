-- What comes first in a stream comes first: where nothing fails, `live` ends as its inputs say.
use Rattle.std.proofs.Common.{◌≡◌, ℕ, zero, suc, ◌+◌, ◌-◌, ◌<◌, ◌≤◌, List, [], ◌∷◌, ◌++◌, ◌⊎◌, ◌&&◌, true, eqb, length, append-nil, length-append, length-drop, drop, Some, IsTrue, refl, sym, ap, ◌∙◌, subst, arith, inl, inr}
use Rattle.std.specs.Prelude.{is_some}
use Rattle.fab_base.specs.Seen.{Seen}
use Rattle.fab_base.specs.Sunk.{Sunk}
use Rattle.fab_config.specs.Settings.{Settings}
use Rattle.fab_config.specs.declared.ConfigFault.{ConfigFault}
use Rattle.pcap_file.proofs.lemmas.Numbers.{le_or_lt}
use Rattle.pcapng_file.specs.declared.NgRecord.{NgRecord}
use Rattle.pcapng_file.specs.declared.fault.NgError.{NgError}
use Rattle.pcapng_file.specs.declared.fault.NgError.TheVariants as errors
use Rattle.pcapng_file.specs.declared.fault.NgLimit.TheVariants as ng_limits
use Rattle.pcapng_file.specs.File.{Section, before_all, content_at, head_at, after, found, IsNg, step_of}
use Rattle.pcapng_file.specs.Laws.{Within}
use Rattle.pcapng_file.specs.Stream.{Parts, Stops, left_of}
use Rattle.pcapng_file.proofs.LawLemmas.{Stands, size_fits, long_enough, step_stands}
use Rattle.pcapng_file.proofs.StepLemmas.{step_end}
use Rattle.pcap_file.specs.declared.fault.LimitKind.{LimitKind}
use Rattle.pcap_file.specs.declared.fault.LimitKind.TheVariants as kinds
use Rattle.fab_live.specs.Arriving.{arrive, arrived, AllFaces, NoneTooLate, IsInSpan}
use Rattle.fab_live.specs.Live.{BeginsWithin, IsFaulty, IsNoPort, IsPast}
use Rattle.fabric_tool.specs.Command.{LiveWords, Live}
use Rattle.fabric_tool.specs.Ends.{Holds}
use Rattle.fabric_tool.specs.Inputs.{HasConfig, HasFault, LIMITS, MOST_BYTES, MOST_FRAMES}
use Rattle.fabric_tool.specs.Living.{HasLived, HasHalt, live_ending, LiveEnded, LiveForms, LiveSays, live_meaning}
use Rattle.fabric_tool.specs.Outcome.{status_of, line_of}
use Rattle.fabric_tool.specs.declared.outcome.Outcome.{Outcome}
use Rattle.fabric_tool.specs.declared.outcome.Outcome.TheVariants as ends
use Rattle.fabric_tool.proofs.EndingLemmas.{Said}
use Rattle.fabric_tool.proofs.Laws.{Laws, PrintsAlike, alike}
use Rattle.fabric_tool.proofs.ConfigLemmas.{same_text, one_value, one_fault, no_fault}
use Rattle.fabric_tool.proofs.LiveEndLemmas.{live_front, live_spare}
use Rattle.fabric_tool.proofs.StreamLemmas.{blocks_parts}

-- ---- one walk and a longer one

assoc : {A : Type 0} (a b c : List A) → (a ++ b) ++ c ≡ a ++ (b ++ c)
assoc [] b c = refl
assoc (x ∷ a) b c = ap (λ l. x ∷ l) (assoc a b c)

further : (m n k : ℕ) → m ≡ n + k → (s t x : Section) (v u : List NgRecord) (l rest more : List ℕ) → Parts n s v l t rest → Parts m s u l x more → (w : List NgRecord) × (u ≡ v ++ w) × Parts k t w rest x more
further m zero k e s t x v u l rest more p q =
    let same : m ≡ k = omega arith in
    (u, ap (λ w. w ++ u) (sym p.0), subst (λ (n : ℕ). Parts n t u rest x more) same (subst (λ (y : Section). Parts m y u rest x more) p.1 (subst (λ y. Parts m s u y x more) p.2 q)))
further zero (suc n) k e s t x v u l rest more p q = absurd (omega arith)
further (suc m) (suc n) k e s t x v u l rest more p q =
    let h = further m n k (omega arith) (after s (content_at s l)) t x p.2 q.2 (drop (head_at s l).size l) rest more p.4 q.4 in
    (h.0, q.3 ∙ ap (λ w. found (content_at s l) ++ w) h.1 ∙ sym (assoc (found (content_at s l)) p.2 h.0) ∙ ap (λ w. w ++ h.0) (sym p.3), h.2)

parts_length : (n : ℕ) (s t : Section) (v : List NgRecord) (l rest : List ℕ) → Parts n s v l t rest → length rest ≤ length l
parts_length zero s t v l rest p = let e : length l ≡ length rest = ap (λ (x : List ℕ). length x) p.2 in omega arith
parts_length (suc n) s t v l rest p =
    let h = parts_length n (after s (content_at s l)) t p.2 (drop (head_at s l).size l) rest p.4 in
    let d = length-drop (head_at s l).size l in
    omega arith

-- where a stream stops, as a walk
abbrev stopped_walk : (v : List NgRecord) (l : List ℕ) (e : NgError) → Stops v l LIMITS e → BeginsWithin v l LIMITS
stopped_walk v l e s = record { section = s.section; rest = s.rest; begins = s.begins; bytes = s.bytes; frames = s.frames }

-- nothing is behind the place where a stream stops
no_stop : (v u : List NgRecord) (l : List ℕ) (e : NgError) (s : Stops v l LIMITS e) (b : BeginsWithin u l LIMITS) → s.begins.0 < b.begins.0 → ⊥
no_stop v u l e s b lt =
    let k = b.begins.0 - s.begins.0 - 1 in
    let count : b.begins.0 ≡ s.begins.0 + suc k = omega arith in
    let h = further b.begins.0 s.begins.0 (suc k) count before_all s.section b.section v u l s.rest b.rest s.begins.1 b.begins.1 in
    let p = h.2 in
    let st : Stands s.section s.rest = record { front = p.0; whole = p.1 } in
    let fits = size_fits s.section s.rest st in
    let shorter = parts_length k (after s.section (content_at s.section s.rest)) b.section p.2 (drop (head_at s.section s.rest).size s.rest) b.rest p.4 in
    let dropped = length-drop (head_at s.section s.rest).size s.rest in
    let there = parts_length s.begins.0 before_all s.section v l s.rest s.begins.1 in
    let most = b.bytes in
    let many = b.frames in
    let all : length u ≡ length v + length h.0 = ap (λ (x : List NgRecord). length x) h.1 ∙ length-append v h.0 in
    let more : length h.0 ≡ length (found (content_at s.section s.rest)) + length p.2 = ap (λ (x : List NgRecord). length x) p.3 ∙ length-append (found (content_at s.section s.rest)) p.2 in
    let room : (head_at s.section s.rest).size ≤ MOST_BYTES - (length l - length s.rest) = omega arith in
    let frames : length (found (content_at s.section s.rest)) ≤ MOST_FRAMES - length v = omega arith in
    let ok = (step_stands (left_of LIMITS v (length l - length s.rest)) (length l - length s.rest) s.section s.rest st room frames).is in
    let both = sym ok ∙ s.step in
    absurd (cc)

-- a stream stops at one place, for one reason
stops_once : (v u : List NgRecord) (l : List ℕ) (e f : NgError) (s : Stops v l LIMITS e) (r : Stops u l LIMITS f) → s.begins.0 ≤ r.begins.0 → e ≡ f
stops_once v u l e f s r le = elim (le_or_lt r.begins.0 s.begins.0) [
  | inr lt ↦ absurd (no_stop v u l e s (stopped_walk u l f r) lt)
  | inl ge ↦
      let count : r.begins.0 ≡ s.begins.0 + 0 = omega arith in
      let h = further r.begins.0 s.begins.0 0 count before_all s.section r.section v u l s.rest r.rest s.begins.1 r.begins.1 in
      let p = h.2 in
      let same : u ≡ v = h.1 ∙ ap (λ (x : List NgRecord). v ++ x) p.0 ∙ append-nil v in
      let gone = length l - length r.rest in
      let moved = ap (λ (x : List ℕ). step_of (left_of LIMITS v (length l - length x)) (length l - length x) s.section x) p.2
      ∙ ap (λ (x : Section). step_of (left_of LIMITS v gone) gone x r.rest) p.1
      ∙ ap (λ (x : List NgRecord). step_of (left_of LIMITS x gone) gone r.section r.rest) (sym same) in
      let both = sym s.step ∙ moved ∙ r.step in
      cc
]

-- ---- a stream to its end

record Whole (v : List NgRecord) (l : List ℕ) : Type 0 where
  walk : BeginsWithin v l LIMITS
  none : walk.rest ≡ []
  order : IsTrue (is_some walk.section.order)

whole_of : (v : List NgRecord) (l : List ℕ) → IsNg v l → Within LIMITS v l → Whole v l
whole_of v l b within =
    let parts = blocks_parts b.0 before_all v l b.1 in
    record {
      walk = record { section = parts.0; rest = []; begins = (b.0, parts.2); bytes = let e = within.0 in omega (arith, e); frames = within.1 };
      none = refl;
      order = parts.1;
    }

-- nothing is behind its end
none_behind : (v u : List NgRecord) (l : List ℕ) (x : Whole v l) (b : BeginsWithin u l LIMITS) → x.walk.begins.0 < b.begins.0 → ⊥
none_behind v u l x b lt =
    let k = b.begins.0 - x.walk.begins.0 - 1 in
    let count : b.begins.0 ≡ x.walk.begins.0 + suc k = omega arith in
    let h = further b.begins.0 x.walk.begins.0 (suc k) count before_all x.walk.section b.section v u l x.walk.rest b.rest x.walk.begins.1 b.begins.1 in
    let st : Stands x.walk.section x.walk.rest = record { front = h.2.0; whole = h.2.1 } in
    let long = long_enough x.walk.section x.walk.rest st in
    let none : length x.walk.rest ≡ 0 = ap (λ (y : List ℕ). length y) x.none in
    absurd (omega arith)

-- it doesn't stop before
not_stopped : (v u : List NgRecord) (l : List ℕ) (e : NgError) → Whole v l → Stops u l LIMITS e → ⊥
not_stopped v u l e x s = elim (le_or_lt x.walk.begins.0 s.begins.0) [
  | inr lt ↦ no_stop u v l e s x.walk lt
  | inl le ↦ elim (le_or_lt s.begins.0 x.walk.begins.0) [
    | inr lt ↦ none_behind v u l x (stopped_walk u l e s) lt
    | inl ge ↦
        let count : s.begins.0 ≡ x.walk.begins.0 + 0 = omega arith in
        let h = further s.begins.0 x.walk.begins.0 0 count before_all x.walk.section s.section v u l x.walk.rest s.rest x.walk.begins.1 s.begins.1 in
        let none : s.rest ≡ [] = sym h.2.2 ∙ x.none in
        let some : is_some s.section.order ≡ true = ap (λ (y : Section). is_some y.order) (sym h.2.1) ∙ x.order in
        let ended : (eqb (length s.rest) 0 && is_some s.section.order) ≡ true = ap (λ (y : List ℕ). eqb (length y) 0 && is_some s.section.order) none ∙ some in
        let both = sym (step_end (left_of LIMITS u (length l - length s.rest)) (length l - length s.rest) s.section s.rest ended) ∙ s.step in
        absurd (cc)
  ]
]

-- ---- packets that are taken

-- each of a port, and not too far apart
record Fit (n : ℕ) (c : Settings) (v : List NgRecord) : Type 0 where
  faces : AllFaces n v
  span : IsInSpan c (arrived 0 v)

faces_front : (n : ℕ) (v w : List NgRecord) → AllFaces n (v ++ w) → AllFaces n v
faces_front n [] w a = tt
faces_front n (r ∷ v) w a = (a.0, faces_front n v w a.1)

late_front : (c : Settings) (first g : ℕ) (v w : List NgRecord) → NoneTooLate c first (arrived g (v ++ w)) → NoneTooLate c first (arrived g v)
late_front c first g [] w a = tt
late_front c first g (r ∷ v) w a = (a.0, late_front c first (arrive g r).moment v w a.1)

fit_front : (n : ℕ) (c : Settings) (v w : List NgRecord) → Fit n c (v ++ w) → Fit n c v
fit_front n c [] w f = record { faces = tt; span = tt }
fit_front n c (r ∷ v) w f = record { faces = faces_front n (r ∷ v) w f.faces; span = late_front c _ 0 (r ∷ v) w f.span }

-- a packet behind others with which they aren't
record Bad (n : ℕ) (c : Settings) (v : List NgRecord) (r : NgRecord) (l : List ℕ) : Type 0 where
  walk : BeginsWithin (v ++ r ∷ []) l LIMITS
  unfit : Fit n c (v ++ r ∷ []) → ⊥

-- no list that fits goes as far
bad_short : (n : ℕ) (c : Settings) (v u : List NgRecord) (r : NgRecord) (l : List ℕ) (b : Bad n c v r l) (w : BeginsWithin u l LIMITS) → Fit n c u → b.walk.begins.0 ≤ w.begins.0 → ⊥
bad_short n c v u r l b w fit le =
    let k = w.begins.0 - b.walk.begins.0 in
    let count : w.begins.0 ≡ b.walk.begins.0 + k = omega arith in
    let h = further w.begins.0 b.walk.begins.0 k count before_all b.walk.section w.section (v ++ r ∷ []) u l b.walk.rest w.rest b.walk.begins.1 w.begins.1 in
    b.unfit (fit_front n c (v ++ r ∷ []) h.0 (subst (λ (x : List NgRecord). Fit n c x) h.1 fit))

bad_no_stop : (n : ℕ) (c : Settings) (v u : List NgRecord) (r : NgRecord) (l : List ℕ) (e : NgError) → Bad n c v r l → Stops u l LIMITS e → Fit n c u → ⊥
bad_no_stop n c v u r l e b s fit = elim (le_or_lt b.walk.begins.0 s.begins.0) [
  | inl le ↦ bad_short n c v u r l b (stopped_walk u l e s) fit le
  | inr lt ↦ no_stop u (v ++ r ∷ []) l e s b.walk lt
]

bad_no_whole : (n : ℕ) (c : Settings) (v u : List NgRecord) (r : NgRecord) (l : List ℕ) → Bad n c v r l → Whole u l → Fit n c u → ⊥
bad_no_whole n c v u r l b x fit = elim (le_or_lt b.walk.begins.0 x.walk.begins.0) [
  | inl le ↦ bad_short n c v u r l b x.walk fit le
  | inr lt ↦ none_behind u (v ++ r ∷ []) l x b.walk lt
]

last_of : (a b : List NgRecord) (x y : NgRecord) (w : List NgRecord) → a ++ x ∷ [] ≡ (b ++ y ∷ []) ++ w → (x ≡ y) ⊎ ((w' : List NgRecord) × (a ≡ (b ++ y ∷ []) ++ w'))
last_of [] [] x y w e = inl (cc)
last_of [] (z ∷ b) x y w e =
    let n : length ([] ++ x ∷ []) ≡ length (((z ∷ b) ++ y ∷ []) ++ w) = ap (λ (l : List NgRecord). length l) e in
    let one = length-append ((z ∷ b) ++ y ∷ []) w in
    let two = length-append (z ∷ b) (y ∷ []) in
    absurd (omega arith)
last_of (z ∷ a) [] x y w e = let first : z ≡ y = cc in inr (a, ap (λ (r : NgRecord). r ∷ a) first)
last_of (z ∷ a) (t ∷ b) x y w e =
    let first : z ≡ t = cc in
    let rest : a ++ x ∷ [] ≡ (b ++ y ∷ []) ++ w = cc in
    elim (last_of a b x y w rest) [
      | inl same ↦ inl same
      | inr more ↦ inr (more.0, ap (λ (r : NgRecord). r ∷ a) first ∙ ap (λ l. t ∷ l) more.1)
    ]

bad_below : (n : ℕ) (c : Settings) (v u : List NgRecord) (r x : NgRecord) (l : List ℕ) (b : Bad n c v r l) (d : Bad n c u x l) → Fit n c u → b.walk.begins.0 ≤ d.walk.begins.0 → x ≡ r
bad_below n c v u r x l b d fit le =
    let k = d.walk.begins.0 - b.walk.begins.0 in
    let count : d.walk.begins.0 ≡ b.walk.begins.0 + k = omega arith in
    let h = further d.walk.begins.0 b.walk.begins.0 k count before_all b.walk.section d.walk.section (v ++ r ∷ []) (u ++ x ∷ []) l b.walk.rest d.walk.rest b.walk.begins.1 d.walk.begins.1 in
    elim (last_of u v x r h.0 h.1) [
      | inl same ↦ same
      | inr more ↦ absurd (b.unfit (fit_front n c (v ++ r ∷ []) more.0 (subst (λ (y : List NgRecord). Fit n c y) more.1 fit)))
    ]

bad_once : (n : ℕ) (c : Settings) (v u : List NgRecord) (r x : NgRecord) (l : List ℕ) → Bad n c v r l → Bad n c u x l → Fit n c v → Fit n c u → r ≡ x
bad_once n c v u r x l b d fit fit' = elim (le_or_lt b.walk.begins.0 d.walk.begins.0) [
  | inl le ↦ sym (bad_below n c v u r x l b d fit' le)
  | inr lt ↦ bad_below n c u v x r l d b fit (let e = lt in omega arith)
]

-- ---- outcomes

-- what an error of the stream ends it with
abbrev by_error : NgError → Outcome
by_error (errors.Fault at why) = ends.BadStream at why
by_error (errors.Limit ng_limits.Bytes) = ends.Limit kinds.Bytes
by_error (errors.Limit ng_limits.Frames) = ends.Limit kinds.Frames
by_error e = ends.Memory

-- and a packet that isn't taken
abbrev ByPacket : ℕ → NgRecord → Outcome → Type 0
ByPacket n r o = ((n ≤ r.face) × (o ≡ ends.NoPort r.face)) ⊎ ((r.face < n) × (o ≡ ends.Limit kinds.Span))

by_packet_once : (n : ℕ) (r x : NgRecord) (o p : Outcome) → r ≡ x → ByPacket n r o → ByPacket n x p → o ≡ p
by_packet_once n r x o p e (inl a) (inl b) = a.1 ∙ ap (λ (y : NgRecord). ends.NoPort y.face) e ∙ sym b.1
by_packet_once n r x o p e (inl a) (inr b) = let f : r.face ≡ x.face = ap (λ (y : NgRecord). y.face) e in let le = a.0 in let lt = b.0 in absurd (omega arith)
by_packet_once n r x o p e (inr a) (inl b) = let f : r.face ≡ x.face = ap (λ (y : NgRecord). y.face) e in let le = b.0 in let lt = a.0 in absurd (omega arith)
by_packet_once n r x o p e (inr a) (inr b) = a.1 ∙ sym b.1

-- a stream whose first packets are taken, and which can't be taken on for a reason of this outcome
record Reached (n : ℕ) (c : Settings) (l : List ℕ) (o : Outcome) : Type 0 where
  packets : List NgRecord
  fit : Fit n c packets
  why : ((e : NgError) × Stops packets l LIMITS e × (o ≡ by_error e)) ⊎ ((r : NgRecord) × Bad n c packets r l × ByPacket n r o)

reached_once : (n : ℕ) (c : Settings) (l : List ℕ) (o p : Outcome) → Reached n c l o → Reached n c l p → o ≡ p
reached_once n c l o p a b = go a.why b.why
  where
    go : ((e : NgError) × Stops a.packets l LIMITS e × (o ≡ by_error e)) ⊎ ((r : NgRecord) × Bad n c a.packets r l × ByPacket n r o) → ((e : NgError) × Stops b.packets l LIMITS e × (p ≡ by_error e)) ⊎ ((r : NgRecord) × Bad n c b.packets r l × ByPacket n r p) → o ≡ p
    go (inl x) (inl y) = elim (le_or_lt x.1.begins.0 y.1.begins.0) [
      | inl le ↦ x.2 ∙ ap by_error (stops_once a.packets b.packets l x.0 y.0 x.1 y.1 le) ∙ sym y.2
      | inr lt ↦ x.2 ∙ ap by_error (sym (stops_once b.packets a.packets l y.0 x.0 y.1 x.1 (let e = lt in omega arith))) ∙ sym y.2
    ]
    go (inl x) (inr y) = absurd (bad_no_stop n c b.packets a.packets y.0 l x.0 y.1 x.1 a.fit)
    go (inr x) (inl y) = absurd (bad_no_stop n c a.packets b.packets x.0 l y.0 x.1 y.1 b.fit)
    go (inr x) (inr y) = by_packet_once n x.0 y.0 o p (bad_once n c a.packets b.packets x.0 y.0 l x.1 y.1 a.fit b.fit) x.2 y.2

reached_whole : (n : ℕ) (c : Settings) (l : List ℕ) (o : Outcome) (v : List NgRecord) → Reached n c l o → Whole v l → Fit n c v → ⊥
reached_whole n c l o v a x fit = elim a.why [
  | inl s ↦ not_stopped v a.packets l s.0 x s.1
  | inr b ↦ bad_no_whole n c a.packets v b.0 l b.1 x fit
]

module _ (k : LiveWords) (d : Seen) where
  -- the files of a command say one thing at most
  record Found (o : Outcome) : Type 0 where
    settings : Settings
    config : HasConfig d k.config settings
    bytes : List ℕ
    stream : d.file k.stream ≡ Some bytes
    reached : Reached (length k.outs) settings bytes o

  abbrev Finds : Outcome → Type 0
  Finds o = ((fault : ConfigFault) × HasFault d k.config fault × (o ≡ ends.Config fault)) ⊎ Found o

  found_as : (o : Outcome) (c : Settings) (l : List ℕ) (f : Found o) → f.settings ≡ c → f.bytes ≡ l → Reached (length k.outs) c l o
  found_as o c l f e is = subst (λ (x : Settings). Reached (length k.outs) x l o) e (subst (λ (x : List ℕ). Reached (length k.outs) f.settings x o) is f.reached)

  found_once : (o p : Outcome) → Finds o → Finds p → o ≡ p
  found_once o p (inl a) (inl b) = a.2 ∙ ap (λ (f : ConfigFault). ends.Config f) (one_fault d k.config a.0 b.0 a.1 b.1) ∙ sym b.2
  found_once o p (inl a) (inr b) = absurd (no_fault d k.config b.settings a.0 b.config a.1)
  found_once o p (inr a) (inl b) = absurd (no_fault d k.config a.settings b.0 a.config b.1)
  found_once o p (inr a) (inr b) =
      reached_once (length k.outs) b.settings b.bytes o p
      (found_as o b.settings b.bytes a (one_value d k.config a.settings b.settings a.config b.config) (same_text d k.stream a.bytes b.bytes a.stream b.stream))
      b.reached

  -- each reason is one of them
  by_stop : (Why : Settings → List NgRecord → List ℕ → Type 0) (e : NgError) → ((c : Settings) (v : List NgRecord) (l : List ℕ) → Why c v l → Stops v l LIMITS e) → HasHalt k Why d → Finds (by_error e)
  by_stop Why e stops h = inr (record {
    settings = h.settings;
    config = h.config;
    bytes = h.bytes;
    stream = h.stream;
    reached = record { packets = h.packets; fit = record { faces = h.faces; span = h.span }; why = inl (e, stops h.settings h.packets h.bytes h.why, refl) };
  })

  last_face : (n : ℕ) (v : List NgRecord) (r : NgRecord) → AllFaces n (v ++ r ∷ []) → r.face < n
  last_face n [] r a = a.0
  last_face n (x ∷ v) r a = last_face n v r a.1

  by_port : (face : ℕ) → HasHalt k (λ c. IsNoPort LIMITS (length k.outs) face) d → Finds (ends.NoPort face)
  by_port face h =
      let w = h.why in
      inr (record {
        settings = h.settings;
        config = h.config;
        bytes = h.bytes;
        stream = h.stream;
        reached = record {
          packets = h.packets;
          fit = record { faces = h.faces; span = h.span };
          why = inr (
            w.1,
            record { walk = w.2; unfit = λ fit. let lt = last_face (length k.outs) h.packets w.1 fit.faces in let e = w.3 in let le = w.4 in absurd (omega arith) },
            inl ((let e = w.3 in let le = w.4 in omega arith), ap (λ (n : ℕ). ends.NoPort n) (sym w.3)),
          );
        };
      })

  by_span : HasHalt k (λ c. IsPast c LIMITS (length k.outs) kinds.Span) d → Finds (ends.Limit kinds.Span)
  by_span h =
      let w = h.why in
      inr (record {
        settings = h.settings;
        config = h.config;
        bytes = h.bytes;
        stream = h.stream;
        reached = record {
          packets = h.packets;
          fit = record { faces = h.faces; span = h.span };
          why = inr (w.1, record { walk = w.2; unfit = λ fit. w.4 fit.span }, inr (w.3, refl));
        };
      })

  by_limit : (kind : LimitKind) → HasHalt k (λ c. IsPast c LIMITS (length k.outs) kind) d → Finds (ends.Limit kind)
  by_limit kinds.Bytes h = by_stop (λ c. IsPast c LIMITS (length k.outs) kinds.Bytes) (errors.Limit ng_limits.Bytes) (λ c v l w. w) h
  by_limit kinds.Frames h = by_stop (λ c. IsPast c LIMITS (length k.outs) kinds.Frames) (errors.Limit ng_limits.Frames) (λ c v l w. w) h
  by_limit kinds.Span h = by_span h

  said : (p : Outcome) → LiveSays k d p → Finds p
  said (ends.Config fault) says = inl (fault, says, refl)
  said (ends.BadStream at why) says = by_stop (λ c. IsFaulty LIMITS at why) (errors.Fault at why) (λ c v l w. w) says
  said (ends.NoPort face) says = by_port face says
  said (ends.Limit kind) says = by_limit kind says
  said p says = absurd says

  module _ (new : Seen) (told : IsTrue d.told) where
    -- an outcome is done, what the inputs name, or want of memory
    ended : (o : Outcome) → Said d (live_ending k d new o) → ((frames : ℕ) × (entries : ℕ) × HasLived k frames entries d new × (o ≡ ends.Ran frames entries)) ⊎ (Finds o ⊎ (o ≡ ends.Memory))
    ended (ends.Ran frames entries) h = inl (frames, entries, h told, refl)
    ended (ends.Config fault) h = inr (inl (inl (fault, h told, refl)))
    ended (ends.BadStream at why) h = inr (inl (by_stop (λ c. IsFaulty LIMITS at why) (errors.Fault at why) (λ c v l w. w) (h told).halt))
    ended (ends.NoPort face) h = inr (inl (by_port face (h told).halt))
    ended (ends.Limit kind) h = inr (inl (by_limit kind (h told).halt))
    ended ends.Memory h = inr (inr refl)
    ended o h = absurd h

    -- inputs that say something else aren't those of a session to its end
    lived_not : (p : Outcome) (frames entries : ℕ) → HasLived k frames entries d new → Finds p → ⊥
    lived_not p frames entries h (inl a) = no_fault d k.config h.settings a.0 h.config a.1
    lived_not p frames entries h (inr f) =
        let c = one_value d k.config f.settings h.settings f.config h.config in
        let l = same_text d k.stream f.bytes h.stream.bytes f.stream h.stream.file in
        reached_whole (length k.outs) h.settings h.stream.bytes p h.packets (found_as p h.settings h.stream.bytes f c l)
        (whole_of h.packets h.stream.bytes h.stream.is h.stream.within) (record { faces = h.session.run.faces; span = h.session.run.span })

    pub live_once : (o p : Outcome) → Said d (live_ending k d new o) → LiveSays k d p → PrintsAlike o p ⊎ (o ≡ ends.Memory)
    live_once o p holds says = elim (ended o holds) [
      | inl lived ↦ absurd (lived_not p lived.0 lived.1 lived.2 (said p says))
      | inr other ↦ elim other [ inl finds ↦ inl (alike o p (found_once o p finds (said p says))) | inr memory ↦ inr memory ]
    ]

    -- inputs of the right form end with status 0
    pub live_formed : LiveForms k d → (o : Outcome) → Said d (live_ending k d new o) → (status_of o ≡ 0) ⊎ (o ≡ ends.Memory)
    live_formed forms o holds = elim (ended o holds) [
      | inl lived ↦ inl (ap status_of lived.3)
      | inr other ↦ elim other [
        | inr memory ↦ inr memory
        | inl finds ↦ absurd (elim finds [
          | inl a ↦ no_fault d k.config forms.settings a.0 forms.config a.1
          | inr f ↦
              let c = one_value d k.config f.settings forms.settings f.config forms.config in
              let l = same_text d k.stream f.bytes forms.stream.bytes f.stream forms.stream.file in
              reached_whole (length k.outs) forms.settings forms.stream.bytes o forms.packets (found_as o forms.settings forms.stream.bytes f c l)
              (whole_of forms.packets forms.stream.bytes forms.stream.is forms.stream.within) (record { faces = forms.faces; span = forms.span })
        ])
      ]
    ]

-- ---- the laws

done_live : (k : LiveWords) (old new : Seen) (before after : Sunk) (o : Outcome) → status_of o ≡ 0 → Holds (Live k) old new o → (IsTrue before.told → after.written ≡ before.written ++ line_of o) → IsTrue old.told → LiveEnded k old new before after
unfolding line_of
done_live k old new before after (ends.Ran frames entries) is h printed = λ told. record { frames = frames; entries = entries; lived = h.1 told; printed = printed }
done_live k old new before after o is h printed = absurd (omega arith)

pub live_laws : (k : LiveWords) → Laws (live_meaning k)
live_laws k = record {
  same = λ old new files. inl files;
  whole = live_front k;
  spare = live_spare k;
  done = done_live k;
  once = λ old new o p told. live_once k old new told o p;
  formed = λ old new o forms. live_formed k old new forms.told forms o;
}
