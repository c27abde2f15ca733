-- The look at the first record of one port after another.
use Rattle.std.proofs.Common.{◌≡◌, ◌≢◌, ℕ, zero, suc, ◌+◌, ◌<◌, ◌≤◌, inl, inr, Bool, true, false, List, [], ◌∷◌, ◌++◌, length, length-append, slice_get, set, get_or, map, Option, Some, None, IfSome, Ok, Err, IsTrue, refl, sym, ap, ◌∙◌, subst, arith}
use Rattle.std.specs.Prelude.{nat_lt, ◌==◌, Result, option_to_list, Vec}
use Rattle.std.specs.declared.alloc.Global.{Global}
use Rattle.std.proofs.lemmas.Bool.{lt-ltb}
use Rattle.std.proofs.lemmas.Option.{slice_get_within, slice_get-get_or}
use Rattle.fab_base.specs.Ending as endings
use Rattle.fab_base.specs.Ending.{Said, Uses}
use Rattle.fab_base.specs.Seen.{Seen, Nothing, Only}
use Rattle.fab_base.proofs.EndingLemmas.{uses_none, uses_refused}
use Rattle.fab_config.specs.Settings.{Settings}
use Rattle.window_records.specs.Keeping.{IsFrom}
use Rattle.fab_policy.specs.Legal.{window_start}
use Rattle.window_records.specs.Looks.{Opened, Look, found_at, is_found, behind, looks, looks_of, first_spot, window_before, comes_before, in_order, first_window, stop_in, Stop, stop, LooksFound, LooksEnd}
use Rattle.pcap_file.specs.Capture.{Next, Found, End, CutHead, TooLong, CutBytes}
use Rattle.pcap_file.specs.Reading.{Reading, to_come, reader_stand}
use Rattle.pcap_file.specs.Records.{Chain, last_moment}
use Rattle.pcap_file.specs.declared.Budget.{Budget}
use Rattle.pcap_file.specs.declared.Record.{Record}
use Rattle.pcap_file.proofs.lemmas.Numbers.{le_or_lt}
use Rattle.window_records.specs.declared.shelf.Input.{Input}
use Rattle.window_records.specs.declared.shelf.Shelf.{Shelf}
use Rattle.pcap_file.specs.declared.fault.GatherFault.{GatherFault}
use Rattle.pcap_file.specs.declared.fault.GatherFault.TheVariants as fault
use Rattle.window_records.specs.First.{IsFresh, AreFresh, opened_by, opened_in, first_look, Looked, StopsFirst, LeavesFirst, LooksOnce, LooksFirst, start_at, Start}
use Rattle.window_records.specs.Port.{IsReady, Spends, Gave, place_behind, to_look, ending}
use Rattle.fab_base.specs.Slots.{NameIn}
use Rattle.window_records.specs.Ports.{AreInputs, At, slots_of, TakesFrom, rests, joined, counts_of, walk_at, Walk}
use Rattle.window_records.specs.Reads.{HasRead, HaveRead}
use Rattle.window_records.proofs.OrderLemmas.{After, AllNotBefore, TakesAt, taken_at, Later, ordered, later_looks, before_by}
use Rattle.window_records.proofs.LeavesLemmas.{gave_none, gave_between, gave_first}
use Rattle.window_records.proofs.PortsLemmas.{same_looks, smaller, Row, row_at}
use Rattle.window_records.proofs.SlotLemmas.{some_is, item_at, push_last, push_before, get_set_same, get_set_other, slots_set, same_length, open_now, uses_on, others_left}

-- ---- a first look among others

-- one port's number is below that of a look, if it is the first of its port
abbrev IsBehind : ℕ → Look → Option ℕ → Type 0
IsBehind port y None = port < y.port
IsBehind port y (Some w) = Unit {0}

abbrev AllBehind : ℕ → List Look → Type 0
AllBehind port [] = Unit {0}
AllBehind port (y ∷ l) = IsBehind port y y.window × AllBehind port l

before_it : (x y : Look) (o : Option ℕ) → x.window ≡ None → y.window ≡ o → IsBehind x.port y o → comes_before x y ≡ true
before_it x y None e f lt =
    (λ i. before_by (window_before (e i) (f i)) (window_before (f i) (e i)) (nat_lt x.port y.port) (x.port == y.port) (nat_lt x.index y.index))
    ∙ ap (λ (b : Bool). before_by false false b (x.port == y.port) (nat_lt x.index y.index)) (lt-ltb x.port y.port lt)
before_it x y (Some w) e f lt = (λ i. before_by (window_before (e i) (f i)) (window_before (f i) (e i)) (nat_lt x.port y.port) (x.port == y.port) (nat_lt x.index y.index))

after_all : (x : Look) (l : List Look) → x.window ≡ None → AllBehind x.port l → After x l
after_all x [] e h = tt
after_all x (y ∷ l) e h = (before_it x y y.window e refl h.0, after_all x l e h.1)

behind-append : (port : ℕ) (l m : List Look) → AllBehind port l → AllBehind port m → AllBehind port (l ++ m)
behind-append port [] m h k = k
behind-append port (y ∷ l) m h k = (h.0, behind-append port l m h.1 k)

-- looks in windows
later_behind : (port own v n : ℕ) (l : List Look) → Later own v n l → AllBehind port l
later_behind port own v n [] h = tt
later_behind port own v n (y ∷ l) h = (by_window y.window h.1, later_behind port own v n l h.3)
  where
    by_window : (o : Option ℕ) → IsFrom v o → IsBehind port y o
    by_window None f = absurd f
    by_window (Some w) f = tt

later_not : (own v n : ℕ) (l : List Look) (x : Look) → x.window ≡ None → Later own v n l → AllNotBefore l (x ∷ [])
later_not own v n [] x e h = tt
later_not own v n (y ∷ l) x e h = ((by_window y.window refl h.1, tt), later_not own v n l x e h.3)
  where
    by_window : (o : Option ℕ) → y.window ≡ o → IsFrom v o → comes_before y x ≡ false
    by_window None f g = absurd g
    by_window (Some w) f g = (λ i. before_by (window_before (f i) (e i)) (window_before (e i) (f i)) (nat_lt y.port x.port) (y.port == x.port) (nat_lt y.index x.index))

-- the looks of a later port from its first on
first_behind : LooksFound → LooksEnd → (c : Settings) (port own : ℕ) (o : Opened) → port < own → AllBehind port (looks c own (first_spot o))
first_behind found end_ c port own o lt = by_found (found_at (first_spot o)) refl
  where
    none : (x : Next) → found_at (first_spot o) ≡ x → is_found x ≡ false → AllBehind port (looks c own (first_spot o))
    none x e f = subst (AllBehind port) (sym (end_ c own (first_spot o) (ap is_found e ∙ f))) (lt, tt)

    by_found : (x : Next) → found_at (first_spot o) ≡ x → AllBehind port (looks c own (first_spot o))
    by_found (Found moment caught rest) e =
        let s = behind c (first_spot o) moment caught rest in
        subst (AllBehind port) (sym (found c own (first_spot o) moment caught rest e)) (lt, later_behind port own (window_start c moment) s.index (looks c own s) (ordered c own s (window_start c moment) refl refl).later)
    by_found End e = none End e refl
    by_found CutHead e = none CutHead e refl
    by_found (TooLong len) e = none (TooLong len) e refl
    by_found (CutBytes len) e = none (CutBytes len) e refl

-- those behind the first of a port
rest_behind : LooksFound → LooksEnd → (c : Settings) (port : ℕ) (o : Opened) (others : List Look) → looks c port (first_spot o) ≡ first_look port o ∷ others → AllBehind port others
rest_behind found end_ c port o others e = by_found (found_at (first_spot o)) refl
  where
    none : (x : Next) → found_at (first_spot o) ≡ x → is_found x ≡ false → AllBehind port others
    none x f g =
        let all : first_look port o ∷ [] ≡ first_look port o ∷ others = sym (end_ c port (first_spot o) (ap is_found f ∙ g)) ∙ e in
        let same : [] ≡ others = cc in
        subst (AllBehind port) same tt

    by_found : (x : Next) → found_at (first_spot o) ≡ x → AllBehind port others
    by_found (Found moment caught rest) f =
        let s = behind c (first_spot o) moment caught rest in
        let all : first_look port o ∷ looks c port s ≡ first_look port o ∷ others = sym (found c port (first_spot o) moment caught rest f) ∙ e in
        let same : looks c port s ≡ others = cc in
        subst (AllBehind port) same (later_behind port port (window_start c moment) s.index (looks c port s) (ordered c port s (window_start c moment) refl refl).later)
    by_found End f = none End f refl
    by_found CutHead f = none CutHead f refl
    by_found (TooLong len) f = none (TooLong len) f refl
    by_found (CutBytes len) f = none (CutBytes len) f refl

-- ---- the looks to come of all ports, of which some have made their first

-- those of each port from port p on; the ports behind the shelves have made none
abbrev pub fronts : Settings → ℕ → Seen → List Input → List Shelf → List (List Look)
fronts c p d [] shelves = []
fronts c p d (i ∷ ins) [] = looks c p (first_spot (opened_by d i.slot i.reader)) ∷ fronts c (p + 1) d ins []
fronts c p d (i ∷ ins) (s ∷ shelves) = to_look c p d i.slot i.reader s.count s.next ∷ fronts c (p + 1) d ins shelves

-- no shelf, and all shelves
fronts_none : (c : Settings) (p : ℕ) (d : Seen) (ins : List Input) → joined (fronts c p d ins []) ≡ looks_of c p (opened_in d ins)
fronts_none c p d [] = refl
fronts_none c p d (i ∷ ins) = ap (λ l. looks c p (first_spot (opened_by d i.slot i.reader)) ++ l) (fronts_none c (p + 1) d ins)

fronts_all : (c : Settings) (p : ℕ) (d : Seen) (ins : List Input) (shelves : List Shelf) → length shelves ≡ length ins → fronts c p d ins shelves ≡ rests c p d ins shelves
fronts_all c p d [] shelves e = refl
fronts_all c p d (i ∷ ins) [] e = absurd (omega arith)
fronts_all c p d (i ∷ ins) (s ∷ shelves) e = ap (λ ls. to_look c p d i.slot i.reader s.count s.next ∷ ls) (fronts_all c (p + 1) d ins shelves (omega arith))

same_first : (c : Settings) (p : ℕ) (b d : Seen) (ins : List Input) → ((q : ℕ) (i : Input) → slice_get ins q ≡ Some i → d.left i.slot ≡ b.left i.slot) → fronts c p b ins [] ≡ fronts c p d ins []
same_first c p b d [] h = refl
same_first c p b d (i ∷ ins) h =
    (λ k. looks c p (first_spot (record { head = i.reader.head; body = i.reader.held ++ sym (h 0 i refl) k })) ∷ same_first c (p + 1) b d ins (λ q j at. h (suc q) j at) k)

all_behind : LooksFound → LooksEnd → (c : Settings) (port p : ℕ) (d : Seen) (ins : List Input) → port < p → AllBehind port (joined (fronts c p d ins []))
all_behind found end_ c port p d [] lt = tt
all_behind found end_ c port p d (i ∷ ins) lt =
    behind-append port (looks c p (first_spot (opened_by d i.slot i.reader))) (joined (fronts c (p + 1) d ins [])) (first_behind found end_ c port p (opened_by d i.slot i.reader) lt)
    (all_behind found end_ c port (p + 1) d ins (omega arith))

pub none_below : (c : Settings) (next : Option Record) → IfSome next (λ x. 0 ≤ window_start c x.moment)
none_below c None = tt
none_below c (Some x) = omega arith

-- One port's looks begin with its first, which has no window, and go on with these; what others have to read stays.
record OneLooks (c : Settings) (k : ℕ) (row : Row) (d : Seen) (x : Look) (others : List Look) : Type 0 where
  count : length row.shelves ≡ k
  within : k < length row.ins
  port : x.port ≡ row.number + k
  first : x.window ≡ None
  own : (n : ℕ) (i : Input) → n ≡ row.number + k → slice_get row.ins k ≡ Some i → looks c n (first_spot (opened_by row.seen i.slot i.reader)) ≡ x ∷ others
  behind_ : AllBehind x.port others
  same : (q : ℕ) (i : Input) → q ≢ k → slice_get row.ins q ≡ Some i → d.left i.slot ≡ row.seen.left i.slot
  last : (q : ℕ) (i : Input) (s : Shelf) → At q row.ins row.shelves i s → IfSome s.next (λ y. i.reader.greatest ≡ y.moment)

looks_at : LooksFound → LooksEnd → (c : Settings) (k p : ℕ) (b d : Seen) (x : Look) (others : List Look) (ins : List Input) (shelves : List Shelf) → OneLooks c k (row_at b p ins shelves) d x others →
    TakesAt k (x ∷ []) (fronts c p b ins shelves) (set (fronts c p d ins shelves) k others)
looks_at found end_ c k p b d x others [] shelves t = let w = t.within in absurd (omega arith)
looks_at found end_ c zero p b d x others (i ∷ ins) (s ∷ shelves) t = let n = t.count in absurd (omega arith)
looks_at found end_ c zero p b d x others (i ∷ ins) [] t =
    let number : x.port < p + 1 = let q = t.port in omega arith in (
      t.own p i (omega arith) refl,
      same_first c (p + 1) b d ins (λ q j at. t.same (suc q) j (λ e. omega arith) at),
      (after_all x (others ++ joined (fronts c (p + 1) d ins [])) t.first (behind-append x.port others (joined (fronts c (p + 1) d ins [])) t.behind_ (all_behind found end_ c x.port (p + 1) d ins number)), tt),
    )
looks_at found end_ c (suc k) p b d x others (i ∷ ins) [] t = let n = t.count in absurd (omega arith)
looks_at found end_ c (suc k) p b d x others (i ∷ ins) (s ∷ shelves) t = (
  same_looks c p b d i s.next s.count (t.same 0 i (λ e. omega arith) refl),
  later_not p 0 0 (to_look c p d i.slot i.reader s.count s.next) x t.first (later_looks c p d i.slot i.reader s.count s.next 0 (t.last 0 i s (record { input = refl; shelf = refl })) (none_below c s.next)),
  looks_at found end_ c k (p + 1) b d x others ins shelves (record {
    count = let n = t.count in omega arith;
    within = let w = t.within in omega arith;
    port = let q = t.port in omega arith;
    first = t.first;
    own = λ n j e at. t.own n j (omega arith) at;
    behind_ = t.behind_;
    same = λ q j ne at. t.same (suc q) j (λ e. ne (omega arith)) at;
    last = λ q j u at. t.last (suc q) j u (record { input = at.input; shelf = at.shelf });
  }),
)

-- a shelf for the port whose turn it was
fronts_set : (c : Settings) (k p : ℕ) (d : Seen) (ins : List Input) (shelves : List Shelf) (i : Input) (s : Shelf) (l : List Look) → k < length ins → length shelves ≡ k → ((n : ℕ) → n ≡ p + k → to_look c n d i.slot i.reader s.count s.next ≡ l) →
    set (fronts c p d ins shelves) k l ≡ fronts c p d (set ins k i) (shelves ++ s ∷ [])
fronts_set c k p d [] shelves i s l lt count e = absurd (omega arith)
fronts_set c zero p d (j ∷ ins) (u ∷ shelves) i s l lt count e = absurd (omega arith)
fronts_set c zero p d (j ∷ ins) [] i s l lt count e = ap (λ m. m ∷ fronts c (p + 1) d ins []) (sym (e p (omega arith)))
fronts_set c (suc k) p d (j ∷ ins) [] i s l lt count e = absurd (omega arith)
fronts_set c (suc k) p d (j ∷ ins) (u ∷ shelves) i s l lt count e = ap (λ ls. to_look c p d j.slot j.reader u.count u.next ∷ ls) (fronts_set c k (p + 1) d ins shelves i s l (omega arith) (omega arith) (λ n f. e n (omega arith)))

-- ---- one port after another

-- a port whose turn was, and one whose turn comes
pub record Began (c : Settings) (a b : Seen) (i i' : Input) (s : Shelf) (left : Budget) : Type 0 where
  pub slot : i'.slot ≡ i.slot
  pub ready : IsReady i'.reader s.next s.count left
  pub read : HasRead c 0 (opened_by a i.slot i.reader) [] i' s b
  pub at : i'.reader.at ≡ place_behind i.reader.at (option_to_list s.next)

pub record Still (a b : Seen) (i i' : Input) : Type 0 where
  pub input : i' ≡ i
  pub rest : b.left i.slot ≡ a.left i.slot

pub record Seeing (c : Settings) (k : ℕ) (old : Start) (new : Walk) : Type 0 where
  pub uses : Uses (NameIn old.seen (slots_of old.ins)) Nothing Said old.seen new.seen
  pub slots : slots_of new.ins ≡ slots_of old.ins
  pub count : length new.shelves ≡ k
  pub done : (q : ℕ) (i i' : Input) (s : Shelf) → slice_get old.ins q ≡ Some i → At q new.ins new.shelves i' s → Began c old.seen new.seen i i' s new.left
  pub waits : (q : ℕ) (i i' : Input) → k ≤ q → slice_get old.ins q ≡ Some i → slice_get new.ins q ≡ Some i' → Still old.seen new.seen i i'
  pub spent : Spends old.left new.left 0 (counts_of new.shelves)
  pub passes : IsTrue old.seen.told → (first : ℕ) →
      stop_in first old.left.bytes old.left.frames (in_order (looks_of c 1 (opened_in old.seen old.ins))) ≡ stop_in first new.left.bytes new.left.frames (in_order (joined (fronts c 1 new.seen new.ins new.shelves)))
  pub first_is : IsTrue old.seen.told → first_window (in_order (looks_of c 1 (opened_in old.seen old.ins))) ≡ first_window (in_order (joined (fronts c 1 new.seen new.ins new.shelves)))

fresh_at : (ins : List Input) (q : ℕ) (i : Input) → AreFresh ins → slice_get ins q ≡ Some i → IsFresh i.reader
fresh_at [] q i fresh at = absurd (cc)
fresh_at (x ∷ ins) zero i fresh at = let same : x ≡ i = cc in subst (λ (y : Input). IsFresh y.reader) same fresh.0
fresh_at (x ∷ ins) (suc q) i fresh at = fresh_at ins q i fresh.1 at

counts-push : (shelves : List Shelf) (s : Shelf) → counts_of (shelves ++ s ∷ []) ≡ counts_of shelves + s.count
counts-push [] s = omega arith
counts-push (x ∷ shelves) s = let e = counts-push shelves s in omega arith

stop_as : (c : Settings) (bytes frames : ℕ) (opened : List Opened) → stop c bytes frames opened ≡ stop_in (first_window (in_order (looks_of c 1 opened))) bytes frames (in_order (looks_of c 1 opened))
unfolding stop
stop_as c bytes frames opened = refl

pub seeing_as : {c : Settings} {k : ℕ} {a b : Seen} {ins ins' : List Input} {l m : List Shelf} {had left : Budget} → l ≡ m → Seeing c k (start_at a ins had) (walk_at b ins' l left) → Seeing c k (start_at a ins had) (walk_at b ins' m left)
seeing_as {c} {k} {a} {b} {ins} {ins'} {l} {m} {had} {left} e h = subst (λ q. Seeing c k (start_at a ins had) (walk_at b ins' q left)) e h

pub once_as : {c : Settings} {m n slot : ℕ} {a b : Seen} {r r' : Reading} {had left : Budget} {result : Result Shelf GatherFault} → m ≡ n → LooksOnce c m slot (reader_stand a r had) (reader_stand b r' left) result → LooksOnce c n slot (reader_stand a r had) (reader_stand b r' left) result
once_as {c} {m} {n} {slot} {a} {b} {r} {r'} {had} {left} {result} e h = subst (λ (q : ℕ). LooksOnce c q slot (reader_stand a r had) (reader_stand b r' left) result) e h

-- the same slots, and not more of the limits
taken_from : (ins ins' : List Input) (had left : Budget) (found : ℕ) → slots_of ins' ≡ slots_of ins → Spends had left 0 found → TakesFrom ins ins' had left
taken_from ins ins' had left found slots s = let f = s.frames in let b = s.bytes in record { slots = slots; bytes = omega arith; frames = omega arith }

-- some configuration, for what is said with any
pub any : Settings
any = record { switch = 0; fcf_mac = []; fc_map = 0; vlan = 0; domain = 0; pool = 0; priority = 0; period = 0; window = 0; limit = 0; zones = []; sets = []; activations = [] }

-- A port's turn: the ports before it were looked at, and this is it.
pub record LookTurn (c : Settings) (k : ℕ) (old : Start) (new : Walk) (i : Input) : Type 0 where
  pub found_law : LooksFound
  pub end_law : LooksEnd
  pub are : AreInputs old.seen (slots_of old.ins)
  pub fresh : AreFresh old.ins
  pub lt : k < length old.ins
  pub see : Seeing c k old new
  pub at : slice_get new.ins k ≡ Some i

pub look_turn : {c : Settings} {k : ℕ} {a b : Seen} {ins ins' : List Input} {shelves : List Shelf} {had mid : Budget} → LooksFound → LooksEnd → AreInputs a (slots_of ins) → AreFresh ins → k < length ins → Seeing c k (start_at a ins had) (walk_at b ins' shelves mid) → (i : Input) →
    LookTurn c k (start_at a ins had) (walk_at b ins' shelves mid) (get_or ins' k i)
look_turn {c} {k} {a} {b} {ins} {ins'} {shelves} {had} {mid} found_law end_law are fresh lt see i =
    let long = same_length ins ins' see.slots in
    record { found_law = found_law; end_law = end_law; are = are; fresh = fresh; lt = lt; see = see; at = slice_get-get_or ins' k i (omega arith) }

module _ {c : Settings} {k : ℕ} {a b : Seen} {ins ins' : List Input} {shelves : List Shelf} {had mid : Budget} {i1 : Input} (turn : LookTurn c k (start_at a ins had) (walk_at b ins' shelves mid) i1) where
  told_b : IsTrue a.told → IsTrue b.told
  told_b told = subst IsTrue (sym turn.see.uses.touches.told) told

  long : length ins' ≡ length ins
  long = same_length ins ins' turn.see.slots

  here : k < length ins'
  here = let lt = turn.lt in let l = long in omega arith

  pub look_open : IsTrue (b.input i1.slot)
  look_open = open_now a b ins ins' turn.are turn.see.uses turn.see.slots k i1 turn.at

  abbrev i : Input
  i = get_or ins k i1

  at_begin : slice_get ins k ≡ Some i
  at_begin = slice_get-get_or ins k i1 turn.lt

  still : Still a b i i1
  still = turn.see.waits k i i1 (omega arith) at_begin turn.at

  pub look_fresh : IsFresh i1.reader
  look_fresh = subst (λ (y : Input). IsFresh y.reader) (sym still.input) (fresh_at ins k i turn.fresh at_begin)

  same_opened : opened_by b i1.slot i1.reader ≡ opened_by a i.slot i.reader
  same_opened = ap (λ (y : Input). opened_by b y.slot y.reader) still.input ∙ ap (λ (l : List ℕ). record { head = i.reader.head; body = i.reader.held ++ l }) still.rest

  abbrev own_look : Look
  own_look = first_look (k + 1) (opened_by b i1.slot i1.reader)

  -- its looks come first, behind those that were made
  module _ (d : Seen) (others : List Look) (are_looks : looks c (k + 1) (first_spot (opened_by b i1.slot i1.reader)) ≡ own_look ∷ others) (behind_ : AllBehind (k + 1) others) (same : (q : ℕ) (j : Input) → q ≢ k → slice_get ins' q ≡ Some j → d.left j.slot ≡ b.left j.slot) where
    one_looks : OneLooks c k (row_at b 1 ins' shelves) d own_look others
    one_looks = record {
      count = turn.see.count;
      within = here;
      port = omega arith;
      first = refl;
      own = λ n j e h.
          let number : k + 1 ≡ n = omega arith in
          let same_j = some_is (slice_get ins' k) i1 j turn.at h in
          subst (λ (m : ℕ). looks c m (first_spot (opened_by b j.slot j.reader)) ≡ own_look ∷ others) number
          (subst (λ (y : Input). looks c (k + 1) (first_spot (opened_by b y.slot y.reader)) ≡ own_look ∷ others) same_j are_looks);
      behind_ = behind_;
      same = same;
      last = λ q j s h. let own = turn.see.done q (get_or ins q j) j s (first_of q j h.input) h in own.ready.last;
    }
      where
        first_of : (q : ℕ) (j : Input) → slice_get ins' q ≡ Some j → slice_get ins q ≡ Some (get_or ins q j)
        first_of q j h = let less = slice_get_within ins' q j h in let l = long in slice_get-get_or ins q j (omega arith)

    in_front : in_order (joined (fronts c 1 b ins' shelves)) ≡ own_look ∷ in_order (joined (set (fronts c 1 d ins' shelves) k others))
    in_front = taken_at k (own_look ∷ []) _ _ (looks_at turn.found_law turn.end_law c k 1 b d own_look others ins' shelves one_looks)

  module _ (d : Seen) (i2 : Input) (left : Budget) (slot : i2.slot ≡ i1.slot) where
    slots_on : slots_of (set ins' k i2) ≡ slots_of ins
    slots_on = slots_set ins' k i1 i2 turn.at slot ∙ turn.see.slots

    spent_on : (s : Shelf) → Looked c (k + 1) i1.slot (reader_stand b i1.reader mid) (reader_stand d i2.reader left) s → Spends had left 0 (counts_of shelves + s.count)
    spent_on s l =
        let own = l.spent in
        let so_far = turn.see.spent in
        let f = own.frames in
        let g = so_far.frames in
        let m = own.bytes in
        let n = so_far.bytes in
        record { frames = omega arith; bytes = omega arith }

    -- what is left of each port, where the one whose turn it is gave this
    module _ (given : Option Record) (gave : Gave i1.slot b d i1.reader i2.reader (option_to_list given)) {end : endings.End} (uses : Uses (Only (b.name i1.slot)) Nothing end b d) where
      own_left : LeavesFirst a d i i2
      own_left = record {
        slot = slot ∙ ap (λ (y : Input). y.slot) still.input;
        given = given;
        gave = gave_between i.slot a b d d i.reader i2.reader (option_to_list given) told_b still.rest refl (subst (λ (y : Input). Gave y.slot b d y.reader i2.reader (option_to_list given)) still.input gave);
      }

      same_left : (q : ℕ) (j : Input) → q ≢ k → slice_get ins' q ≡ Some j → d.left j.slot ≡ b.left j.slot
      same_left = others_left a b ins ins' turn.are turn.see.uses turn.see.slots k i1 turn.at d uses

      earlier_left : (q : ℕ) (j j' : Input) → q < k → slice_get ins q ≡ Some j → slice_get ins' q ≡ Some j' → LeavesFirst a d j j'
      earlier_left q j j' less first now =
          let u = item_at shelves q (let n = turn.see.count in omega arith) in
          let g = turn.see.done q j j' u.0 first (record { input = now; shelf = u.1 }) in
          let zero = (fresh_at ins q j turn.fresh first).greatest in
          record {
            slot = g.slot;
            given = u.0.next;
            gave = record {
              head = g.read.head;
              greatest = g.read.greatest ∙ ap (λ (n : ℕ). last_moment n (option_to_list u.0.next)) (sym zero);
              at = g.at;
              rest = to_come j'.reader b j'.slot;
              chain = λ told. subst (λ (n : ℕ). Chain j.reader.head n (option_to_list u.0.next) (to_come j.reader a j.slot) (to_come j'.reader b j'.slot)) (sym zero) (g.read.chain (told_b told));
              stands = λ told none. ap (λ (l : List ℕ). j'.reader.held ++ l) (sym (same_left q j' (λ e. omega arith) now)) ∙ ap (λ (n : ℕ). j'.reader.held ++ d.left n) g.slot;
            };
          }

      later_left : (q : ℕ) (j j' : Input) → k < q → slice_get ins q ≡ Some j → slice_get ins' q ≡ Some j' → LeavesFirst a d j j'
      later_left q j j' more first now =
          let h = turn.see.waits q j j' (omega arith) first now in
          let same = subst (λ (y : Input). d.left y.slot ≡ b.left y.slot) h.input (same_left q j' (λ e. omega arith) now) in
          record {
            slot = ap (λ (y : Input). y.slot) h.input;
            given = None;
            gave = subst (λ (y : Input). Gave j.slot a d j.reader y.reader []) (sym h.input) (gave_none j.slot a d j.reader (same ∙ h.rest));
          }

      left_first : (q : ℕ) (j j' : Input) → slice_get ins q ≡ Some j → slice_get (set ins' k i2) q ≡ Some j' → LeavesFirst a d j j'
      left_first q j j' first now = elim (le_or_lt k q) [
        | inl le ↦ elim (le_or_lt q k) [
          | inl back ↦
              let same : k ≡ q = omega arith in
              let is_j = some_is (slice_get ins k) i j at_begin (ap (slice_get ins) same ∙ first) in
              let is_j' = some_is (slice_get (set ins' k i2) k) i2 j' (get_set_same ins' k i2 here) (ap (slice_get (set ins' k i2)) same ∙ now) in
              subst (λ (y : Input). LeavesFirst a d j y) is_j' (subst (λ (y : Input). LeavesFirst a d y i2) is_j own_left)
          | inr more ↦ later_left q j j' more first (sym (get_set_other ins' k q i2 (λ e. omega arith)) ∙ now)
        ]
        | inr less ↦ earlier_left q j j' less first (sym (get_set_other ins' k q i2 (λ e. omega arith)) ∙ now)
      ]

    pub look_failed : (f : GatherFault) → LooksOnce c (k + 1) i1.slot (reader_stand b i1.reader mid) (reader_stand d i2.reader left) (Err f) → LooksFirst c (start_at a ins had) (start_at d (set ins' k i2) left) (Err f)
    look_failed f t = record {
      uses = uses_on a b ins ins' turn.are turn.see.uses turn.see.slots k i1 turn.at d t.uses;
      slots = slots_on;
      count = tt;
      ready = tt;
      read = tt;
      spent = tt;
      leaves = left_first None t.leaves.0 t.uses;
      fails = λ other. (k, i2, get_set_same ins' k i2 here, t.fails);
      found = (counts_of shelves, subst (λ (x : Budget). Spends had x 0 (counts_of shelves)) (sym t.leaves.1) turn.see.spent);
      takes = taken_from ins (set ins' k i2) had left (counts_of shelves) slots_on (subst (λ (x : Budget). Spends had x 0 (counts_of shelves)) (sym t.leaves.1) turn.see.spent);
      looks_ = λ told. tt;
      stops = λ told stopped. stop_is told (t.stops (told_b told) stopped);
    }
      where
        stop_is : IsTrue a.told → StopsFirst c (k + 1) (opened_by b i1.slot i1.reader) mid f → (s : Stop) × (stop c had.bytes had.frames (opened_in a ins) ≡ Some s) × (ending s ≡ f) × (s.window ≡ None)
        stop_is told st =
            let first = first_window (in_order (looks_of c 1 (opened_in a ins))) in
            let more = in_order (joined (set (fronts c 1 b ins' shelves) k st.behind)) in
            let says = st.says first more in (
              says.0,
              stop_as c had.bytes had.frames (opened_in a ins)
                  ∙ turn.see.passes told first
                  ∙ ap (stop_in first mid.bytes mid.frames) (in_front b st.behind st.are (rest_behind turn.found_law turn.end_law c (k + 1) (opened_by b i1.slot i1.reader) st.behind st.are) (λ q j ne h. refl))
                  ∙ says.1,
              says.2,
              says.3,
            )

    -- memory is refused for its shelf
    pub look_lost : (s : Shelf) → LooksOnce c (k + 1) i1.slot (reader_stand b i1.reader mid) (reader_stand d i2.reader left) (Ok s) → LooksFirst c (start_at a ins had) (start_at d (set ins' k i2) left) (Err fault.Memory)
    look_lost s t = record {
      uses = uses_refused (NameIn a (slots_of ins)) Nothing a d (uses_on a b ins ins' turn.are turn.see.uses turn.see.slots k i1 turn.at d t.uses);
      slots = slots_on;
      count = tt;
      ready = tt;
      read = tt;
      spent = tt;
      leaves = left_first s.next (gave_first c (k + 1) i1.slot b d i1.reader i2.reader s mid left look_fresh.greatest t.looked) t.uses;
      fails = λ other. absurd (other refl);
      found = (counts_of shelves + s.count, spent_on s t.looked);
      takes = taken_from ins (set ins' k i2) had left (counts_of shelves + s.count) slots_on (spent_on s t.looked);
      looks_ = λ told. tt;
      stops = λ told stopped. absurd stopped;
    }

    abbrev others : Shelf → List Look
    others s = to_look c (k + 1) d i1.slot i2.reader s.count s.next

    pub looked_on : (s : Shelf) → LooksOnce c (k + 1) i1.slot (reader_stand b i1.reader mid) (reader_stand d i2.reader left) (Ok s) → Seeing c (k + 1) (start_at a ins had) (walk_at d (set ins' k i2) (shelves ++ s ∷ []) left)
    looked_on s t =
        let l = t.looked in
        record {
          uses = uses_on a b ins ins' turn.are turn.see.uses turn.see.slots k i1 turn.at d t.uses;
          slots = slots_on;
          count = let e = length-append shelves (s ∷ []) in let n = turn.see.count in omega arith;
          done = λ q j j' u first now. elim (le_or_lt k q) [
            | inl le ↦
                let less = slice_get_within (shelves ++ s ∷ []) q u now.shelf in
                let many = length-append shelves (s ∷ []) in
                let n = turn.see.count in
                let same : k ≡ q = omega arith in
                let is_j = some_is (slice_get ins k) i j at_begin (ap (slice_get ins) same ∙ first) in
                let is_j' = some_is (slice_get (set ins' k i2) k) i2 j' (get_set_same ins' k i2 here) (ap (slice_get (set ins' k i2)) same ∙ now.input) in
                let is_u = push_last shelves k s u n (ap (slice_get (shelves ++ s ∷ [])) same ∙ now.shelf) in
                coe_began is_j is_j' (sym is_u) (own_began l)
            | inr more ↦
                let n = turn.see.count in
                let before : At q ins' shelves j' u = record { input = sym (get_set_other ins' k q i2 (λ e. omega arith)) ∙ now.input; shelf = push_before shelves q s u (omega arith) now.shelf } in
                others_began q j j' u (λ e. omega arith) before.input (turn.see.done q j j' u first before)
          ];
          waits = λ q j j' le first now.
              let before = sym (get_set_other ins' k q i2 (λ e. omega arith)) ∙ now in
              let h = turn.see.waits q j j' (omega arith) first before in
              let same = others_left a b ins ins' turn.are turn.see.uses turn.see.slots k i1 turn.at d t.uses q j' (λ e. omega arith) before in
              record { input = h.input; rest = subst (λ (y : Input). d.left y.slot ≡ b.left y.slot) h.input same ∙ h.rest };
          spent =
              let own = l.spent in
              let so_far = turn.see.spent in
              let f = own.frames in
              let g = so_far.frames in
              let m = own.bytes in
              let n = so_far.bytes in
              let sum = counts-push shelves s in
              record { frames = omega arith; bytes = omega arith };
          passes = λ told first.
              turn.see.passes told first
              ∙ ap (stop_in first mid.bytes mid.frames) (front_now told)
              ∙ l.passes (told_b told) first (in_order (joined (set (fronts c 1 d ins' shelves) k (others s))))
              ∙ ap (λ ls. stop_in first left.bytes left.frames (in_order (joined ls))) set_now;
          first_is = λ told. turn.see.first_is told ∙ ap first_window (front_now told) ∙ ap (λ ls. first_window (in_order (joined ls))) set_now;
        }
      where
        front_now : IsTrue a.told → in_order (joined (fronts c 1 b ins' shelves)) ≡ own_look ∷ in_order (joined (set (fronts c 1 d ins' shelves) k (others s)))
        front_now told =
            let l = t.looked in
            in_front d (others s) (l.looks_ (told_b told)) (rest_behind turn.found_law turn.end_law c (k + 1) (opened_by b i1.slot i1.reader) (others s) (l.looks_ (told_b told)))
            (others_left a b ins ins' turn.are turn.see.uses turn.see.slots k i1 turn.at d t.uses)

        set_now : set (fronts c 1 d ins' shelves) k (others s) ≡ fronts c 1 d (set ins' k i2) (shelves ++ s ∷ [])
        set_now =
            fronts_set c k 1 d ins' shelves i2 s (others s) here turn.see.count
            (λ n e. let number : k + 1 ≡ n = omega arith in λ z. to_look c (sym number z) d (slot z) i2.reader s.count s.next)

        coe_began : {y z y' z' : Input} {u v : Shelf} → y ≡ z → y' ≡ z' → u ≡ v → Began c a d y y' u left → Began c a d z z' v left
        coe_began {y} {z} {y'} {z'} {u} {v} e f g h = subst (λ q. Began c a d z z' q left) g (subst (λ q. Began c a d z q u left) f (subst (λ q. Began c a d q y' u left) e h))

        own_began : Looked c (k + 1) i1.slot (reader_stand b i1.reader mid) (reader_stand d i2.reader left) s → Began c a d i i2 s left
        own_began l = record {
          slot = slot ∙ ap (λ (y : Input). y.slot) still.input;
          ready = l.ready;
          at = l.at ∙ ap (λ (y : Input). place_behind y.reader.at (option_to_list s.next)) still.input;
          read = record {
            head = l.head ∙ ap (λ (y : Input). y.reader.head) still.input;
            greatest = l.greatest;
            count = l.count;
            below = tt;
            chain = λ now.
                subst (λ (n : ℕ). Chain i.reader.head 0 (option_to_list s.next) (to_come i.reader a i.slot) (to_come i2.reader d n)) (sym slot)
                (subst (λ (o : Opened). Chain o.head 0 (option_to_list s.next) o.body (to_come i2.reader d i1.slot)) same_opened (l.chain (subst IsTrue t.uses.touches.told now)));
            ended = λ now none. subst (λ (n : ℕ). to_come i2.reader d n ≡ []) (sym slot) (l.ended (subst IsTrue t.uses.touches.told now) none);
          };
        }

        others_began : (q : ℕ) (j j' : Input) (u : Shelf) → q ≢ k → slice_get ins' q ≡ Some j' → Began c a b j j' u mid → Began c a d j j' u left
        others_began q j j' u ne h g =
            let same = others_left a b ins ins' turn.are turn.see.uses turn.see.slots k i1 turn.at d t.uses q j' ne h in
            let own = t.looked.spent in
            let f = own.frames in
            record {
              slot = g.slot;
              ready = smaller j'.reader u.next u.count mid left (omega arith) g.ready;
              at = g.at;
              read = record {
                head = g.read.head;
                greatest = g.read.greatest;
                count = g.read.count;
                below = tt;
                chain = λ now. subst (λ (l : List ℕ). Chain j.reader.head 0 (option_to_list u.next) (to_come j.reader a j.slot) (j'.reader.held ++ l)) (sym same) (g.read.chain (subst IsTrue t.uses.touches.told now));
                ended = λ now none. ap (λ (l : List ℕ). j'.reader.held ++ l) same ∙ g.read.ended (subst IsTrue t.uses.touches.told now) none;
              };
            }

-- before the first port
pub seeing_none : (c : Settings) (a : Seen) (ins : List Input) (had : Budget) → Seeing c 0 (start_at a ins had) (walk_at a ins [] had)
seeing_none c a ins had = record {
  uses = uses_none (NameIn a (slots_of ins)) Nothing a;
  slots = refl;
  count = refl;
  done = λ q i i' s first now. let at = now.shelf in absurd (cc);
  waits = λ q i i' le first now. record { input = some_is (slice_get ins q) i' i now first; rest = refl };
  spent = record { frames = omega arith; bytes = omega arith };
  passes = λ told first. ap (λ l. stop_in first had.bytes had.frames (in_order l)) (sym (fronts_none c 1 a ins));
  first_is = λ told. ap (λ l. first_window (in_order l)) (sym (fronts_none c 1 a ins));
}

have_read : (c : Settings) (a b : Seen) (ins ins' : List Input) (shelves : List Shelf) (left : Budget) → length ins' ≡ length ins → length shelves ≡ length ins →
    ((q : ℕ) (i i' : Input) (s : Shelf) → slice_get ins q ≡ Some i → At q ins' shelves i' s → Began c a b i i' s left) → HaveRead c 0 (opened_in a ins) (map (λ i. []) ins) ins' shelves b
have_read c a b [] [] [] left e f h = tt
have_read c a b [] [] (s ∷ shelves) left e f h = absurd (omega arith)
have_read c a b [] (i' ∷ ins') shelves left e f h = absurd (omega arith)
have_read c a b (i ∷ ins) [] shelves left e f h = absurd (omega arith)
have_read c a b (i ∷ ins) (i' ∷ ins') [] left e f h = absurd (omega arith)
have_read c a b (i ∷ ins) (i' ∷ ins') (s ∷ shelves) left e f h = (
  (h 0 i i' s refl (record { input = refl; shelf = refl })).read,
  have_read c a b ins ins' shelves left (omega arith) (omega arith) (λ q j j' u first now. h (suc q) j j' u first (record { input = now.input; shelf = now.shelf })),
)

-- behind the last
pub looks_all : (c : Settings) (k : ℕ) (a b : Seen) (ins ins' : List Input) (v : Vec Shelf Global) (had left : Budget) → k ≡ length ins → Seeing c k (start_at a ins had) (walk_at b ins' v.items left) → LooksFirst c (start_at a ins had) (start_at b ins' left) (Ok v)
looks_all c k a b ins ins' v had left all see =
    let long = same_length ins ins' see.slots in
    let count = see.count ∙ all in
    record {
      uses = see.uses;
      slots = see.slots;
      count = count;
      ready = λ q i' s now. let own = item_at ins q (let less = slice_get_within ins' q i' now.input in omega arith) in ((see.done q own.0 i' s own.1 now).ready, none_below c s.next);
      read = have_read c a b ins ins' v.items left long count see.done;
      spent = see.spent;
      looks_ = λ told.
          let first = first_window (in_order (looks_of c 1 (opened_in a ins))) in
          stop_as c had.bytes had.frames (opened_in a ins)
          ∙ see.passes told first
          ∙ ap (λ (n : ℕ). stop_in n left.bytes left.frames (in_order (joined (fronts c 1 b ins' v.items)))) (see.first_is told)
          ∙ ap (λ ls. stop_in (first_window (in_order (joined ls))) left.bytes left.frames (in_order (joined ls))) (fronts_all c 1 b ins' v.items (omega arith));
      stops = λ told. tt;
      leaves = tt;
      fails = tt;
      found = (counts_of v.items, see.spent);
      takes = taken_from ins ins' had left (counts_of v.items) see.slots see.spent;
    }
