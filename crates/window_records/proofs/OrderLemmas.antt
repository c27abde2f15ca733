-- Looks of several ports in their order.
use Rattle.std.proofs.Common.{◌≡◌, ℕ, zero, suc, ◌+◌, ◌<◌, ◌≤◌, Bool, true, false, not, cond, ◌||◌, ◌&&◌, List, [], ◌∷◌, ◌++◌, length, Option, Some, None, IfSome, refl, sym, ap, ◌∙◌, subst, arith, append_assoc, eq-eqb}
use Rattle.std.specs.Prelude.{nat_lt, ◌==◌}
use Rattle.std.proofs.lemmas.Bool.{lt-ltb, le-ltb}
use Rattle.fab_base.specs.Seen.{Seen}
use Rattle.fab_config.specs.Settings.{Settings}
use Rattle.window_records.specs.Keeping.{IsFrom}
use Rattle.fab_policy.specs.Legal.{window_start}
use Rattle.window_records.specs.Looks.{Spot, Look, look_at, found_at, behind, looks_from, looks, window_before, comes_before, with_look, in_order}
use Rattle.pcap_file.specs.Capture.{Next, Found, End, CutHead, TooLong, CutBytes}
use Rattle.pcap_file.specs.Reading.{Reading}
use Rattle.pcap_file.specs.declared.Record.{Record}
use Rattle.pcap_file.proofs.lemmas.Chains.{found_stands}
use Rattle.window_records.specs.Port.{AreOf, to_look, spot_of}
use Rattle.window_records.specs.Ports.{joined}
use Rattle.window_records.proofs.WindowLemmas.{window_start-mono}

-- ---- one look before another

abbrev pub before_by : Bool → Bool → Bool → Bool → Bool → Bool
before_by earlier later lower same less = earlier || (not later && (lower || (same && less)))

module _ (x y : Look) (u v : ℕ) (at_u : x.window ≡ Some u) (at_v : y.window ≡ Some v) where
  by_windows : comes_before x y ≡ before_by (nat_lt u v) (nat_lt v u) (nat_lt x.port y.port) (x.port == y.port) (nat_lt x.index y.index)
  by_windows = λ i. before_by (window_before (at_u i) (at_v i)) (window_before (at_v i) (at_u i)) (nat_lt x.port y.port) (x.port == y.port) (nat_lt x.index y.index)

  pub not_before : v < u → comes_before x y ≡ false
  not_before lt =
      by_windows
      ∙ ap (λ (b : Bool). before_by b (nat_lt v u) (nat_lt x.port y.port) (x.port == y.port) (nat_lt x.index y.index)) (le-ltb u v (omega arith))
      ∙ ap (λ (b : Bool). before_by false b (nat_lt x.port y.port) (x.port == y.port) (nat_lt x.index y.index)) (lt-ltb v u lt)

  not_after : u ≤ v → comes_before x y ≡ before_by (nat_lt u v) false (nat_lt x.port y.port) (x.port == y.port) (nat_lt x.index y.index)
  not_after le = by_windows ∙ ap (λ (b : Bool). before_by (nat_lt u v) b (nat_lt x.port y.port) (x.port == y.port) (nat_lt x.index y.index)) (le-ltb v u le)

  pub earlier_before : u < v → comes_before x y ≡ true
  earlier_before lt = by_windows ∙ ap (λ (b : Bool). before_by b (nat_lt v u) (nat_lt x.port y.port) (x.port == y.port) (nat_lt x.index y.index)) (lt-ltb u v lt)

  or_true : (b : Bool) → (b || true) ≡ true
  or_true true = refl
  or_true false = refl

  pub other_before : u ≤ v → x.port < y.port → comes_before x y ≡ true
  other_before le lt = not_after le ∙ ap (λ (b : Bool). before_by (nat_lt u v) false b (x.port == y.port) (nat_lt x.index y.index)) (lt-ltb x.port y.port lt) ∙ or_true (nat_lt u v)

  pub same_before : u ≤ v → x.port ≡ y.port → x.index < y.index → comes_before x y ≡ true
  same_before le same lt =
      not_after le
      ∙ ap (λ (b : Bool). before_by (nat_lt u v) false b (x.port == y.port) (nat_lt x.index y.index)) (le-ltb x.port y.port (omega arith))
      ∙ ap (λ (b : Bool). before_by (nat_lt u v) false false b (nat_lt x.index y.index)) (eq-eqb x.port y.port same)
      ∙ ap (λ (b : Bool). before_by (nat_lt u v) false false true b) (lt-ltb x.index y.index lt)
      ∙ or_true (nat_lt u v)

-- ---- a look before others

-- it comes before each of these
abbrev pub After : Look → List Look → Type 0
After x [] = Unit {0}
After x (y ∷ l) = (comes_before x y ≡ true) × After x l

-- none of the first comes before one of the second
abbrev pub NotBefore : Look → List Look → Type 0
NotBefore y [] = Unit {0}
NotBefore y (x ∷ l) = (comes_before y x ≡ false) × NotBefore y l

-- each of the first comes before those behind it, and before the second
abbrev pub Leads : List Look → List Look → Type 0
Leads [] rest = Unit {0}
Leads (x ∷ made) rest = After x (made ++ rest) × Leads made rest

abbrev pub put : Bool → Look → Look → List Look → List Look
put first x y l = cond first (x ∷ y ∷ l) (y ∷ with_look x l)

after_put : (x y : Look) (l : List Look) → comes_before x y ≡ true → After x l → After x (with_look y l)
after_put x y [] e h = (e, tt)
after_put x y (z ∷ l) e h = by_test (comes_before y z) refl (after_put x y l e h.1)
  where
    by_test : (b : Bool) → comes_before y z ≡ b → After x (with_look y l) → After x (put b y z l)
    by_test true f more = (e, h)
    by_test false f more = (h.0, more)

after_all : (x : Look) (l : List Look) → After x l → After x (in_order l)
after_all x [] h = tt
after_all x (y ∷ l) h = after_put x y (in_order l) h.0 (after_all x l h.1)

put_first : (x : Look) (l : List Look) → After x l → with_look x l ≡ x ∷ l
put_first x [] h = refl
put_first x (y ∷ l) h = ap (λ (b : Bool). put b x y l) h.0

-- looks that lead come first in the order
pub lead_first : (made rest : List Look) → Leads made rest → in_order (made ++ rest) ≡ made ++ in_order rest
lead_first [] rest h = refl
lead_first (x ∷ made) rest h = put_first x (in_order (made ++ rest)) (after_all x (made ++ rest) h.0) ∙ ap (λ l. x ∷ l) (lead_first made rest h.1)

put_behind : (y : Look) (made l : List Look) → NotBefore y made → with_look y (made ++ l) ≡ made ++ with_look y l
put_behind y [] l h = refl
put_behind y (x ∷ made) l h = ap (λ (b : Bool). put b y x (made ++ l)) h.0 ∙ ap (λ m. x ∷ m) (put_behind y made l h.1)

abbrev pub AllNotBefore : List Look → List Look → Type 0
AllNotBefore [] made = Unit {0}
AllNotBefore (y ∷ l) made = NotBefore y made × AllNotBefore l made

-- and stay first behind looks that don't come before them
pub stay_first : (l made t u : List Look) → AllNotBefore l made → in_order t ≡ made ++ in_order u → in_order (l ++ t) ≡ made ++ in_order (l ++ u)
stay_first [] made t u h e = e
stay_first (y ∷ l) made t u h e = ap (with_look y) (stay_first l made t u h.1 e) ∙ put_behind y made (in_order (l ++ u)) h.0

-- ---- of one list among several

abbrev pub TakesAt : ℕ → List Look → List (List Look) → List (List Look) → Type 0
TakesAt k made [] rs' = ⊥
TakesAt k made (r ∷ rs) [] = ⊥
TakesAt zero made (r ∷ rs) (r' ∷ rs') = (r ≡ made ++ r') × (rs ≡ rs') × Leads made (r' ++ joined rs')
TakesAt (suc k) made (r ∷ rs) (r' ∷ rs') = (r ≡ r') × AllNotBefore r' made × TakesAt k made rs rs'

pub taken_at : (k : ℕ) (made : List Look) (rs rs' : List (List Look)) → TakesAt k made rs rs' → in_order (joined rs) ≡ made ++ in_order (joined rs')
taken_at k made [] rs' t = absurd t
taken_at k made (r ∷ rs) [] t = absurd t
taken_at zero made (r ∷ rs) (r' ∷ rs') t =
    (λ i. in_order (t.0 i ++ joined (t.1 i))) ∙ ap in_order (append_assoc made r' (joined rs')) ∙ lead_first made (r' ++ joined rs') t.2
taken_at (suc k) made (r ∷ rs) (r' ∷ rs') t = ap (λ l. in_order (l ++ joined rs)) t.0 ∙ stay_first r' made (joined rs) (joined rs') t.1 (taken_at k made rs rs' t.2)

-- ---- the looks of a port

-- looks of a port, from a window and an index on
abbrev pub Later : ℕ → ℕ → ℕ → List Look → Type 0
Later port v n [] = Unit {0}
Later port v n (x ∷ l) = (x.port ≡ port) × IsFrom v x.window × (n ≤ x.index) × Later port v n l

-- each comes before those behind it
abbrev pub Sorted : List Look → Type 0
Sorted [] = Unit {0}
Sorted (x ∷ l) = After x l × Sorted l

after_later : (x : Look) (port u n : ℕ) (l : List Look) → x.port ≡ port → x.window ≡ Some u → x.index < n → Later port u n l → After x l
after_later x port u n [] p w i h = tt
after_later x port u n (y ∷ l) p w i h = (by_window y.window refl h.1, after_later x port u n l p w i h.3)
  where
    by_window : (o : Option ℕ) → y.window ≡ o → IsFrom u o → comes_before x y ≡ true
    by_window None e f = absurd f
    by_window (Some v) e f = same_before x y u v w e f (p ∙ sym h.0) (let k = h.2 in omega arith)

weaker : (port v n v' n' : ℕ) (l : List Look) → v' ≤ v → n' ≤ n → Later port v n l → Later port v' n' l
weaker port v n v' n' [] a b h = tt
weaker port v n v' n' (x ∷ l) a b h = (h.0, by_window x.window h.1, (let k = h.2 in omega arith), weaker port v n v' n' l a b h.3)
  where
    by_window : (o : Option ℕ) → IsFrom v o → IsFrom v' o
    by_window None f = f
    by_window (Some u) f = omega arith

-- the looks from a spot on whose window is that of its last record
pub record Ordered (port v n : ℕ) (l : List Look) : Type 0 where
  pub later : Later port v n l
  pub sorted : Sorted l

from_spot : (c : Settings) (port n : ℕ) (s : Spot) (v : ℕ) → s.window ≡ Some v → v ≡ window_start c s.greatest → Ordered port v s.index (looks_from c port n s)
from_spot c port zero s v w is = record { later = tt; sorted = tt }
from_spot c port (suc n) s v w is = by_found (found_at s) refl (λ q u. from_spot c port n q u)
  where
    first : (l : List Look) → Later port v (s.index + 1) l → Sorted l → Ordered port v s.index (look_at port s ∷ l)
    first l later sorted = record {
      later = (refl, subst (IsFrom v) (sym w) (let e : v ≤ v = omega arith in e), (omega arith), weaker port v (s.index + 1) v s.index l (omega arith) (omega arith) later);
      sorted = (after_later (look_at port s) port v (s.index + 1) l refl w (omega arith) later, sorted);
    }

    by_found : (x : Next) → found_at s ≡ x → ((q : Spot) (u : ℕ) → q.window ≡ Some u → u ≡ window_start c q.greatest → Ordered port u q.index (looks_from c port n q)) →
        Ordered port v s.index (look_at port s ∷ elim x [ Found moment caught rest ↦ looks_from c port n (behind c s moment caught rest) | _ ↦ [] ])
    by_found (Found moment caught rest) e more =
        let onward = (found_stands s.head s.greatest s.bytes moment caught rest e).onward in
        let next = more (behind c s moment caught rest) (window_start c moment) refl refl in
        let up = window_start-mono c s.greatest moment onward in
        first (looks_from c port n (behind c s moment caught rest)) (weaker port (window_start c moment) (s.index + 1) v (s.index + 1) _ (omega arith) (omega arith) next.later) next.sorted
    by_found End e more = first [] tt tt
    by_found CutHead e more = first [] tt tt
    by_found (TooLong len) e more = first [] tt tt
    by_found (CutBytes len) e more = first [] tt tt

pub ordered : (c : Settings) (port : ℕ) (s : Spot) (v : ℕ) → s.window ≡ Some v → v ≡ window_start c s.greatest → Ordered port v s.index (looks c port s)
unfolding looks
ordered c port s v w is = from_spot c port (suc (length s.bytes)) s v w is

-- ---- the looks to come of a port

pub later_looks : (c : Settings) (port : ℕ) (d : Seen) (slot : ℕ) (r : Reading) (count : ℕ) (next : Option Record) (v : ℕ) → IfSome next (λ x. r.greatest ≡ x.moment) → IfSome next (λ x. v ≤ window_start c x.moment) → Later port v 0 (to_look c port d slot r count next)
later_looks c port d slot r count None v last from = tt
later_looks c port d slot r count (Some x) v last from =
    weaker port (window_start c x.moment) count v 0 _ from (omega arith) (ordered c port (spot_of d slot r count (Some (window_start c x.moment))) (window_start c x.moment) refl (ap (window_start c) (sym last))).later

pub sorted_looks : (c : Settings) (port : ℕ) (d : Seen) (slot : ℕ) (r : Reading) (count : ℕ) (next : Option Record) → IfSome next (λ x. r.greatest ≡ x.moment) → Sorted (to_look c port d slot r count next)
sorted_looks c port d slot r count None last = tt
sorted_looks c port d slot r count (Some x) last = (ordered c port (spot_of d slot r count (Some (window_start c x.moment))) (window_start c x.moment) refl (ap (window_start c) (sym last))).sorted

pub sorted_leads : (made rest : List Look) → Sorted (made ++ rest) → Leads made rest
sorted_leads [] rest h = tt
sorted_leads (x ∷ made) rest h = (h.0, sorted_leads made rest h.1)

-- each of the first comes before all of the second
abbrev pub EachBefore : List Look → List Look → Type 0
EachBefore [] l = Unit {0}
EachBefore (x ∷ made) l = After x l × EachBefore made l

after-append : (x : Look) (l m : List Look) → After x l → After x m → After x (l ++ m)
after-append x [] m h k = k
after-append x (y ∷ l) m h k = (h.0, after-append x l m h.1 k)

pub each-append : (made l m : List Look) → EachBefore made l → EachBefore made m → EachBefore made (l ++ m)
each-append [] l m h k = tt
each-append (x ∷ made) l m h k = (after-append x l m h.0 k.0, each-append made l m h.1 k.1)

pub each-nil : (made : List Look) → EachBefore made []
each-nil [] = tt
each-nil (x ∷ made) = (tt, each-nil made)

pub leads_more : (made rest more : List Look) → Leads made rest → EachBefore made more → Leads made (rest ++ more)
leads_more [] rest more h k = tt
leads_more (x ∷ made) rest more h k = (subst (After x) (append_assoc made rest more) (after-append x (made ++ rest) more h.0 k.0), leads_more made rest more h.1 k.1)

not_before_made : (y : Look) (u port w : ℕ) (made : List Look) → y.window ≡ Some u → w < u → AreOf port w made → NotBefore y made
not_before_made y u port w [] e lt h = tt
not_before_made y u port w (x ∷ made) e lt h = (not_before y x u w e h.1 lt, not_before_made y u port w made e lt h.2)

pub later_not_before : (port v n own w : ℕ) (l made : List Look) → Later port v n l → w < v → AreOf own w made → AllNotBefore l made
later_not_before port v n own w [] made h lt of = tt
later_not_before port v n own w (y ∷ l) made h lt of = (by_window y.window refl h.1, later_not_before port v n own w l made h.3 lt of)
  where
    by_window : (o : Option ℕ) → y.window ≡ o → IsFrom v o → NotBefore y made
    by_window None e f = absurd f
    by_window (Some u) e f = not_before_made y u own w made e (omega arith) of

after_other : (x : Look) (w own port v n : ℕ) (l : List Look) → x.port ≡ own → x.window ≡ Some w → w ≤ v → own < port → Later port v n l → After x l
after_other x w own port v n [] p e le lt h = tt
after_other x w own port v n (y ∷ l) p e le lt h = (by_window y.window refl h.1, after_other x w own port v n l p e le lt h.3)
  where
    by_window : (o : Option ℕ) → y.window ≡ o → IsFrom v o → comes_before x y ≡ true
    by_window None f g = absurd g
    by_window (Some u) f g = other_before x y w u e f (omega arith) (let q = h.0 in omega arith)

pub made_before : (own w port v n : ℕ) (made l : List Look) → AreOf own w made → Later port v n l → w ≤ v → own < port → EachBefore made l
made_before own w port v n [] l of h le lt = tt
made_before own w port v n (x ∷ made) l of h le lt = (after_other x w own port v n l of.0 of.1 le lt h, made_before own w port v n made l of.2 h le lt)
