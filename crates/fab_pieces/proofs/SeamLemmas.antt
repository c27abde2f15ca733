-- The text of a seam says which one it is.
use Rattle.std.proofs.Common.{◌≡◌, ℕ, zero, suc, ◌+◌, ◌*◌, ◌<◌, ◌≤◌, ◌^◌, Bool, true, false, List, [], ◌∷◌, ◌++◌, length, length-append, Option, Some, None, IfSome, refl, sym, ap, subst, ◌∙◌, arith, map, decimal, ◌/◌, ◌%◌}
use Rattle.std.specs.Prelude.{codes, flat_map, if◌then◌else◌}
use Rattle.std.specs.Str.{bytes_eq}
use Rattle.std.specs.Str.Parse.{digits_value}
use Rattle.std.proofs.lemmas.Slice.Eq.{bytes_eq-Decides}
use Rattle.fab_base.specs.Counting.{counting}
use Rattle.fab_base.specs.Fabric.{Past}
use Rattle.fab_base.specs.Texts.{hex, hex_bytes, hex_digit}
use Rattle.fab_base.specs.declared.values.Enode.{Enode}
use Rattle.ct_messages.specs.Server.{NO_FEATURES, Values}
use Rattle.ct_messages.specs.declared.TypeMap.{TypeMap}
use Rattle.fab_policy.specs.Private.LineWords.{IsWord, rest_of}
use Rattle.fab_policy.specs.State.{LivePort}
use Rattle.fab_policy.specs.Text.{address_word, then_word}
use Rattle.fab_policy.proofs.WordLemmas.{AreWords, decimal_inside, digits_value-decimal, hex_after, hex_after-hex, hex_inside, inside_append, text_of, text_once}
use Rattle.fab_pieces.specs.Seam.{AreBelow, ArePast, ArePorts, IsLong, IsRangedPort, IsRangedSeam, Seam, TextNamesSeam, bytes_word, features_word, head_rows, login_row, may_word, name_word, past_row, past_rows, port_rows, rest_text, row_text, rows_of, seam_text}

-- ---- lines

rest_is : (ws : List (List ℕ)) → rest_text ws ≡ rest_of ws
rest_is [] = refl
rest_is (w ∷ ws) = ap (λ l. then_word (w ++ l)) (rest_is ws)

row_is : (w : List ℕ) (ws : List (List ℕ)) → row_text (w ∷ ws) ≡ text_of (w ∷ ws)
row_is w ws = ap (λ l. w ++ l) (rest_is ws)

-- a line has a first word, and words alone
abbrev pub IsRow : List (List ℕ) → Type 0
IsRow [] = ⊥
IsRow (w ∷ ws) = AreWords (w ∷ ws)

abbrev pub AreRows : List (List (List ℕ)) → Type 0
AreRows [] = Unit {0}
AreRows (row ∷ rows) = IsRow row × AreRows rows

no_text : (w : List ℕ) (ws : List (List ℕ)) (r : List ℕ) → [] ≡ row_text (w ∷ ws) ++ r → ⊥
no_text [] [] r e = cc
no_text [] (x ∷ ws) r e = cc
no_text (b ∷ w) ws r e = cc

rows_once : (xs ys : List (List (List ℕ))) → AreRows xs → AreRows ys → flat_map row_text xs ≡ flat_map row_text ys → xs ≡ ys
rows_once [] [] h k e = refl
rows_once [] ([] ∷ ys) h k e = absurd k.0
rows_once [] ((x ∷ vs) ∷ ys) h k e = absurd (no_text x vs (flat_map row_text ys) e)
rows_once ([] ∷ xs) ys h k e = absurd h.0
rows_once ((w ∷ ws) ∷ xs) [] h k e = absurd (no_text w ws (flat_map row_text xs) (sym e))
rows_once ((w ∷ ws) ∷ xs) ([] ∷ ys) h k e = absurd k.0
rows_once ((w ∷ ws) ∷ xs) ((x ∷ vs) ∷ ys) h k e =
    let once = text_once w x ws vs (flat_map row_text xs) (flat_map row_text ys) h.0 k.0
    (ap (λ l. l ++ flat_map row_text xs) (sym (row_is w ws)) ∙ e ∙ ap (λ l. l ++ flat_map row_text ys) (row_is x vs)) in
    (λ i. once.0 i ∷ rows_once xs ys h.1 k.1 once.1 i)

row_first : {r s : List (List ℕ)} {xs ys : List (List (List ℕ))} → r ∷ xs ≡ s ∷ ys → r ≡ s
row_first e = cc

row_others : {r s : List (List ℕ)} {xs ys : List (List (List ℕ))} → r ∷ xs ≡ s ∷ ys → xs ≡ ys
row_others e = cc

word_first : {w x : List ℕ} {ws xs : List (List ℕ)} → w ∷ ws ≡ x ∷ xs → w ≡ x
word_first e = cc

word_others : {w x : List ℕ} {ws xs : List (List ℕ)} → w ∷ ws ≡ x ∷ xs → ws ≡ xs
word_others e = cc

-- ---- the kinds of lines

abbrev kind : List (List ℕ) → ℕ
kind [] = 0
kind ([] ∷ ws) = 0
kind ((b ∷ w) ∷ ws) = b

abbrev AreOf : ℕ → List (List (List ℕ)) → Type 0
AreOf k [] = Unit {0}
AreOf k (row ∷ rows) = (kind row ≡ k) × AreOf k rows

abbrev AreNone : ℕ → List (List (List ℕ)) → Type 0
AreNone k [] = Unit {0}
AreNone k (row ∷ rows) = (kind row ≡ k → ⊥) × AreNone k rows

others : (k j : ℕ) (rows : List (List (List ℕ))) → (k ≡ j → ⊥) → AreOf k rows → AreNone j rows
others k j [] ne h = tt
others k j (row ∷ rows) ne h = (λ e. ne (sym h.0 ∙ e), others k j rows ne h.1)

none_both : (k : ℕ) (xs ys : List (List (List ℕ))) → AreNone k xs → AreNone k ys → AreNone k (xs ++ ys)
none_both k [] ys h g = g
none_both k (row ∷ xs) ys h g = (h.0, none_both k xs ys h.1 g)

sections_once : (k : ℕ) (xs ys us vs : List (List (List ℕ))) → AreOf k xs → AreOf k ys → AreNone k us → AreNone k vs → xs ++ us ≡ ys ++ vs → (xs ≡ ys) × (us ≡ vs)
sections_once k [] [] us vs h g m n e = (refl, e)
sections_once k [] (y ∷ ys) [] vs h g m n e = absurd (cc)
sections_once k [] (y ∷ ys) (u ∷ us) vs h g m n e = absurd (m.0 (ap kind (row_first e) ∙ g.0))
sections_once k (x ∷ xs) [] us [] h g m n e = absurd (cc)
sections_once k (x ∷ xs) [] us (v ∷ vs) h g m n e = absurd (n.0 (ap kind (sym (row_first e)) ∙ h.0))
sections_once k (x ∷ xs) (y ∷ ys) us vs h g m n e =
    let later = sections_once k xs ys us vs h.1 g.1 m n (row_others e) in
    ((λ i. row_first e i ∷ later.0 i), later.1)

-- ---- words

decimal_once : (n m : ℕ) → IsLong n → IsLong m → decimal n ≡ decimal m → n ≡ m
decimal_once n m h k e = sym (digits_value-decimal n h) ∙ ap (digits_value 10) e ∙ digits_value-decimal m k

hex_once : (k n m : ℕ) → n < 16 ^ k → m < 16 ^ k → hex k n ≡ hex k m → n ≡ m
hex_once k n m h g e = sym (hex_after-hex k n h) ∙ ap (hex_after 0) e ∙ hex_after-hex k m g

may_once : (a b : Option ℕ) → IfSome a IsLong → IfSome b IsLong → may_word a ≡ may_word b → a ≡ b
may_once None None h k e = refl
may_once None (Some m) h k e = absurd (cc)
may_once (Some n) None h k e = absurd (cc)
may_once (Some n) (Some m) h k e = ap Some (decimal_once n m h k (word_first e))

front_once : (l m r s : List ℕ) → length l ≡ length m → l ++ r ≡ m ++ s → (l ≡ m) × (r ≡ s)
front_once [] [] r s same e = (refl, e)
front_once [] (y ∷ m) r s same e = absurd (omega arith)
front_once (x ∷ l) [] r s same e = absurd (omega arith)
front_once (x ∷ l) (y ∷ m) r s same e =
    let first : x ≡ y = cc in
    let later = front_once l m r s (omega arith) (let tails : l ++ r ≡ m ++ s = cc in tails) in
    ((λ i. first i ∷ later.0 i), later.1)

length-hex : (k n : ℕ) → length (hex k n) ≡ k
length-hex zero n = refl
length-hex (suc k) n = length-append (hex k (n / 16)) (hex_digit (n % 16) ∷ []) ∙ (let h = length-hex k (n / 16) in omega arith)

hexes_once : (k : ℕ) (xs ys : List ℕ) → 0 < k → AreBelow (16 ^ k) xs → AreBelow (16 ^ k) ys → flat_map (hex k) xs ≡ flat_map (hex k) ys → xs ≡ ys
hexes_once k [] [] some h g e = refl
hexes_once k [] (y ∷ ys) some h g e =
    absurd (let l = ap length e ∙ length-append (hex k y) (flat_map (hex k) ys) in let m = length-hex k y in omega (arith, some, l, m))
hexes_once k (x ∷ xs) [] some h g e =
    absurd (let l = ap length (sym e) ∙ length-append (hex k x) (flat_map (hex k) xs) in let m = length-hex k x in omega (arith, some, l, m))
hexes_once k (x ∷ xs) (y ∷ ys) some h g e =
    let once = front_once (hex k x) (hex k y) (flat_map (hex k) xs) (flat_map (hex k) ys) (length-hex k x ∙ sym (length-hex k y)) e in
    (λ i. hex_once k x y h.0 g.0 once.0 i ∷ hexes_once k xs ys some h.1 g.1 once.1 i)

no_dash : (y : ℕ) (ys : List ℕ) → codes "-" ≡ hex_bytes (y ∷ ys) → ⊥
no_dash y ys e = let l = ap length e ∙ length-append (hex 2 y) (flat_map (hex 2) ys) in let m = length-hex 2 y in omega (arith, l, m)

bytes_once : (xs ys : List ℕ) → AreBelow 256 xs → AreBelow 256 ys → bytes_word xs ≡ bytes_word ys → xs ≡ ys
bytes_once [] [] h g e = refl
bytes_once [] (y ∷ ys) h g e = absurd (no_dash y ys e)
bytes_once (x ∷ xs) [] h g e = absurd (no_dash x xs (sym e))
bytes_once (x ∷ xs) (y ∷ ys) h g e = hexes_once 2 (x ∷ xs) (y ∷ ys) (omega arith) h g e

features_once : (xs ys : List ℕ) → AreBelow 256 xs → AreBelow 256 ys → length xs ≡ 256 → length ys ≡ 256 → features_word xs ≡ features_word ys → xs ≡ ys
features_once xs ys h g l m e = by (bytes_eq xs NO_FEATURES) refl (bytes_eq ys NO_FEATURES) refl e
  where
    by : (s : Bool) → bytes_eq xs NO_FEATURES ≡ s → (t : Bool) → bytes_eq ys NO_FEATURES ≡ t → bytes_word (if s then [] else xs) ≡ bytes_word (if t then [] else ys) → xs ≡ ys
    by true i true j e = (bytes_eq-Decides xs NO_FEATURES).0 i ∙ sym ((bytes_eq-Decides ys NO_FEATURES).0 j)
    by true i false j e = absurd (let n = ap length (bytes_once [] ys tt g e) in omega (arith, n, m))
    by false i true j e = absurd (let n = ap length (bytes_once xs [] h tt e) in omega (arith, n, l))
    by false i false j e = bytes_once xs ys h g e

-- ---- records of equal parts

pub same_enodes : {p q : ℕ} {m n : List ℕ} → p ≡ q → m ≡ n → (let x : Enode = record { port = p; mac = m } in x) ≡ record { port = q; mac = n }
same_enodes e f = cc

pub same_types : {l m : List ℕ} → l ≡ m → (let x : TypeMap = record { 0 = l } in x) ≡ record { 0 = m }
same_types e = cc

pub same_values : {n n' : ℕ} {t t' : TypeMap} {f f' s s' y y' : List ℕ} → n ≡ n' → t ≡ t' → f ≡ f' → s ≡ s' → y ≡ y' →
    (let v : Values = record { node_name = n; types = t; features = f; symbol = s; node_symbol = y } in v) ≡ record { node_name = n'; types = t'; features = f'; symbol = s'; node_symbol = y' }
same_values e1 e2 e3 e4 e5 = cc

pub same_ports : {a a' n n' o o' h h' i i' w w' : ℕ} {x x' : Enode} {s s' : Option ℕ} {v v' : Values} → a ≡ a' → n ≡ n' → o ≡ o' → x ≡ x' → s ≡ s' → h ≡ h' → i ≡ i' → w ≡ w' → v ≡ v' →
    (let p : LivePort = record { address = a; name = n; node = o; enode = x; server = s; node_heard = h; port_heard = i; watch = w; values = v } in p)
    ≡ record { address = a'; name = n'; node = o'; enode = x'; server = s'; node_heard = h'; port_heard = i'; watch = w'; values = v' }
same_ports e1 e2 e3 e4 e5 e6 e7 e8 e9 = cc

pub same_past : {a a' : ℕ} {n n' t t' : Option ℕ} → a ≡ a' → n ≡ n' → t ≡ t' → (let q : Past = record { address = a; name = n; ended = t } in q) ≡ record { address = a'; name = n'; ended = t' }
same_past e1 e2 e3 = cc

pub same_seams : {k k' v v' : Option ℕ} {ps ps' : List LivePort} {qs qs' : List Past} {r r' g g' : ℕ} {ns ns' : List ℕ} → k ≡ k' → ps ≡ ps' → qs ≡ qs' → v ≡ v' → r ≡ r' → ns ≡ ns' → g ≡ g' →
    (let s : Seam = record { state = record { tables = record { clock = k; ports = ps; past = qs }; advertised = v; rscns = r }; nexts = ns; greatest = g } in s)
    ≡ record { state = record { tables = record { clock = k'; ports = ps'; past = qs' }; advertised = v'; rscns = r' }; nexts = ns'; greatest = g' }
same_seams e1 e2 e3 e4 e5 e6 e7 = cc

-- ---- logins

login_once : (p q : LivePort) → IsRangedPort p → IsRangedPort q → login_row p ≡ login_row q → p ≡ q
login_once p q h g e0 =
    let e1 = word_others e0 in
    let e2 = word_others e1 in
    let e3 = word_others e2 in
    let e4 = word_others e3 in
    let e5 = word_others e4 in
    let e6 = word_others e5 in
    let e7 = word_others e6 in
    let e8 = word_others e7 in
    let e9 = word_others e8 in
    let e10 = word_others e9 in
    let e11 = word_others e10 in
    let e12 = word_others e11 in
    let e13 = word_others e12 in
    let e14 = word_others e13 in
    same_ports
    (hex_once 6 p.address q.address h.address g.address (word_first e1))
    (hex_once 16 p.name q.name h.name g.name (word_first e2))
    (hex_once 16 p.node q.node h.node g.node (word_first e3))
    (same_enodes (decimal_once p.enode.port q.enode.port h.port g.port (word_first e4)) (bytes_once p.enode.mac q.enode.mac h.mac g.mac (word_first e5)))
    (may_once p.server q.server h.server g.server e14)
    (decimal_once p.node_heard q.node_heard h.node_heard g.node_heard (word_first e6))
    (decimal_once p.port_heard q.port_heard h.port_heard g.port_heard (word_first e7))
    (decimal_once p.watch q.watch h.watch g.watch (word_first e8))
    (same_values
    (hex_once 16 p.values.node_name q.values.node_name h.node_name g.node_name (word_first e9))
    (same_types (hexes_once 8 p.values.types.0 q.values.types.0 (omega arith) h.types g.types (word_first e10)))
    (features_once p.values.features q.values.features h.features g.features h.count g.count (word_first e11))
    (bytes_once p.values.symbol q.values.symbol h.symbol g.symbol (word_first e12))
    (bytes_once p.values.node_symbol q.values.node_symbol h.node_symbol g.node_symbol (word_first e13)))

logins_once : (ps qs : List LivePort) → ArePorts ps → ArePorts qs → map login_row ps ≡ map login_row qs → ps ≡ qs
logins_once [] [] h g e = refl
logins_once [] (q ∷ qs) h g e = absurd (cc)
logins_once (p ∷ ps) [] h g e = absurd (cc)
logins_once (p ∷ ps) (q ∷ qs) h g e = (λ i. login_once p q h.0 g.0 (row_first e) i ∷ logins_once ps qs h.1 g.1 (row_others e) i)

-- ---- ports

nexts_once : (k : ℕ) (ms ns : List ℕ) → AreBelow (2 ^ 64) ms → AreBelow (2 ^ 64) ns → port_rows k ms ≡ port_rows k ns → ms ≡ ns
nexts_once k [] [] h g e = refl
nexts_once k [] (n ∷ ns) h g e = absurd (cc)
nexts_once k (m ∷ ms) [] h g e = absurd (cc)
nexts_once k (m ∷ ms) (n ∷ ns) h g e =
    (λ i. decimal_once m n h.0 g.0 (word_first (word_others (word_others (row_first e)))) i ∷ nexts_once (k + 1) ms ns h.1 g.1 (row_others e) i)

-- ---- pasts

-- the first line of pasts has an address that isn't below theirs
later_past : (n k : ℕ) (xs : List Past) (a : ℕ) (ws : List (List ℕ)) (rest : List (List (List ℕ))) → map (λ (q : Past). q.address) xs ≡ counting k n → ArePast xs → a < 2 ^ 24 →
    past_rows xs ≡ (codes "address" ∷ address_word a ∷ ws) ∷ rest → k ≤ a
later_past n k [] a ws rest places h small e = absurd (cc)
later_past zero k (x ∷ xs) a ws rest places h small e = absurd (cc)
later_past (suc n) k (x ∷ xs) a ws rest places h small e = by (x.name) e (later_past n (k + 1) xs a ws rest (let tails : map (λ (q : Past). q.address) xs ≡ counting (k + 1) n = cc in tails) h.1 small)
  where
    head : x.address ≡ k
    head = cc

    by : (o : Option ℕ) → elim o as (λ _. List (List (List ℕ))) [ None ↦ past_rows xs | Some name ↦ past_row x name ∷ past_rows xs ] ≡ (codes "address" ∷ address_word a ∷ ws) ∷ rest →
        (past_rows xs ≡ (codes "address" ∷ address_word a ∷ ws) ∷ rest → k + 1 ≤ a) → k ≤ a
    by None e later = let le = later e in omega (arith, le)
    by (Some name) e later =
        let same = hex_once 6 x.address a h.0.address small (word_first (word_others (row_first e))) in
        omega (arith, same, head)

pasts_once : (n k : ℕ) (xs ys : List Past) → map (λ (q : Past). q.address) xs ≡ counting k n → map (λ (q : Past). q.address) ys ≡ counting k n → ArePast xs → ArePast ys → past_rows xs ≡ past_rows ys → xs ≡ ys
pasts_once n k [] [] l m h g e = refl
pasts_once zero k [] (y ∷ ys) l m h g e = absurd (cc)
pasts_once (suc n) k [] (y ∷ ys) l m h g e = absurd (cc)
pasts_once zero k (x ∷ xs) ys l m h g e = absurd (cc)
pasts_once (suc n) k (x ∷ xs) [] l m h g e = absurd (cc)
pasts_once (suc n) k (x ∷ xs) (y ∷ ys) l m h g e = by (x.name) refl (y.name) refl e (pasts_once n (k + 1) xs ys own its h.1 g.1)
  where
    own : map (λ (q : Past). q.address) xs ≡ counting (k + 1) n
    own = cc

    its : map (λ (q : Past). q.address) ys ≡ counting (k + 1) n
    its = cc

    first : x.address ≡ k
    first = cc

    second : y.address ≡ k
    second = cc

    rows : Past → List Past → Option ℕ → List (List (List ℕ))
    rows z zs o = elim o as (λ _. List (List (List ℕ))) [ None ↦ past_rows zs | Some name ↦ past_row z name ∷ past_rows zs ]

    by : (o : Option ℕ) → x.name ≡ o → (p : Option ℕ) → y.name ≡ p → rows x xs o ≡ rows y ys p → (past_rows xs ≡ past_rows ys → xs ≡ ys) → x ∷ xs ≡ y ∷ ys
    by None i None j e later =
        let same = same_past (first ∙ sym second) (i ∙ sym j) (h.0.plain i ∙ sym (g.0.plain j)) in
        (λ t. same t ∷ later e t)
    by None i (Some b) j e later =
        absurd (let le = later_past n (k + 1) xs y.address (name_word b ∷ may_word y.ended) (past_rows ys) own h.1 g.0.address e in omega (arith, le, second))
    by (Some a) i None j e later =
        absurd (let le = later_past n (k + 1) ys x.address (name_word a ∷ may_word x.ended) (past_rows xs) its g.1 h.0.address (sym e) in omega (arith, le, first))
    by (Some a) i (Some b) j e later =
        let words = word_others (word_others (row_first e)) in
        let one = hex_once 16 a b (subst (λ o. IfSome o IsLong) i h.0.name) (subst (λ o. IfSome o IsLong) j g.0.name) (word_first words) in
        let same = same_past (first ∙ sym second) (i ∙ ap Some one ∙ sym j) (may_once x.ended y.ended h.0.ended g.0.ended (word_others words)) in
        (λ t. same t ∷ later (row_others e) t)

-- ---- all words are words

hexes_inside : (k : ℕ) (xs : List ℕ) → IsWord (flat_map (hex k) xs)
hexes_inside k [] = refl
hexes_inside k (x ∷ xs) = inside_append (hex k x) (flat_map (hex k) xs) (hex_inside k x) (hexes_inside k xs)

bytes_inside : (xs : List ℕ) → IsWord (bytes_word xs)
bytes_inside [] = refl
bytes_inside (x ∷ xs) = hexes_inside 2 (x ∷ xs)

pub may_inside : (o : Option ℕ) → IfSome o IsLong → AreWords (may_word o)
may_inside None h = tt
may_inside (Some n) h = (decimal_inside n h, tt)

pub login_inside : (p : LivePort) → IsRangedPort p → IsRow (login_row p)
login_inside p h = (
  refl,
  (
    hex_inside 6 p.address,
    (
      hex_inside 16 p.name,
      (
        hex_inside 16 p.node,
        (
          decimal_inside p.enode.port h.port,
          (
            bytes_inside p.enode.mac,
            (
              decimal_inside p.node_heard h.node_heard,
              (
                decimal_inside p.port_heard h.port_heard,
                (
                  decimal_inside p.watch h.watch,
                  (
                    hex_inside 16 p.values.node_name,
                    (
                      hexes_inside 8 p.values.types.0,
                      (
                        bytes_inside (if bytes_eq p.values.features NO_FEATURES then [] else p.values.features),
                        (bytes_inside p.values.symbol, (bytes_inside p.values.node_symbol, may_inside p.server h.server)),
                      ),
                    ),
                  ),
                ),
              ),
            ),
          ),
        ),
      ),
    ),
  ),
)

logins_inside : (ps : List LivePort) → ArePorts ps → AreRows (map login_row ps)
logins_inside [] h = tt
logins_inside (p ∷ ps) h = (login_inside p h.0, logins_inside ps h.1)

pasts_inside : (qs : List Past) → ArePast qs → AreRows (past_rows qs)
pasts_inside [] h = tt
pasts_inside (q ∷ qs) h = by (q.name) (pasts_inside qs h.1)
  where
    by : (o : Option ℕ) → AreRows (past_rows qs) → AreRows (elim o as (λ _. List (List (List ℕ))) [ None ↦ past_rows qs | Some name ↦ past_row q name ∷ past_rows qs ])
    by None later = later
    by (Some name) later = ((refl, (hex_inside 6 q.address, (hex_inside 16 name, may_inside q.ended h.0.ended))), later)

nexts_inside : (k : ℕ) (ns : List ℕ) → k + length ns < 100 → AreBelow (2 ^ 64) ns → AreRows (port_rows k ns)
nexts_inside k [] few h = tt
nexts_inside k (n ∷ ns) few h = ((refl, (decimal_inside k (omega (arith, few)), (decimal_inside n h.0, tt))), nexts_inside (k + 1) ns (omega (arith, few)) h.1)

both_inside : (xs ys : List (List (List ℕ))) → AreRows xs → AreRows ys → AreRows (xs ++ ys)
both_inside [] ys h g = g
both_inside (x ∷ xs) ys h g = (h.0, both_inside xs ys h.1 g)

abbrev behind_ports : Seam → List (List (List ℕ))
behind_ports s = past_rows s.state.tables.past ++ map login_row s.state.tables.ports

pub all_inside : (s : Seam) → IsRangedSeam s → AreRows (rows_of s)
all_inside s h = both_inside (head_rows s) (port_rows 1 s.nexts ++ behind_ports s) heads
    (both_inside (port_rows 1 s.nexts) (behind_ports s) (nexts_inside 1 s.nexts (let few = h.few in omega (arith, few)) h.nexts)
    (both_inside (past_rows s.state.tables.past) (map login_row s.state.tables.ports) (pasts_inside s.state.tables.past h.past) (logins_inside s.state.tables.ports h.ports)))
  where
    heads : AreRows (head_rows s)
    heads = (
      (refl, (refl, tt)),
      (
        (refl, may_inside s.state.tables.clock h.clock),
        (
          (refl, may_inside s.state.advertised h.advertised),
          (
            (refl, (decimal_inside s.state.rscns h.rscns, tt)),
            ((refl, (decimal_inside s.greatest h.greatest, tt)), tt),
          ),
        ),
      ),
    )

-- ---- the sections

of_ports : (k : ℕ) (ns : List ℕ) → AreOf 112 (port_rows k ns)
of_ports k [] = tt
of_ports k (n ∷ ns) = (refl, of_ports (k + 1) ns)

of_pasts : (qs : List Past) → AreOf 97 (past_rows qs)
of_pasts [] = tt
of_pasts (q ∷ qs) = by (q.name) (of_pasts qs)
  where
    by : (o : Option ℕ) → AreOf 97 (past_rows qs) → AreOf 97 (elim o as (λ _. List (List (List ℕ))) [ None ↦ past_rows qs | Some name ↦ past_row q name ∷ past_rows qs ])
    by None later = later
    by (Some name) later = (refl, later)

of_logins : (ps : List LivePort) → AreOf 108 (map login_row ps)
of_logins [] = tt
of_logins (p ∷ ps) = (refl, of_logins ps)

no_ports : (qs : List Past) (ps : List LivePort) → AreNone 112 (past_rows qs ++ map login_row ps)
no_ports qs ps = none_both 112 (past_rows qs) (map login_row ps) (others 97 112 (past_rows qs) (λ e. omega (arith, e)) (of_pasts qs)) (others 108 112 (map login_row ps) (λ e. omega (arith, e)) (of_logins ps))

no_pasts : (ps : List LivePort) → AreNone 97 (map login_row ps)
no_pasts ps = others 108 97 (map login_row ps) (λ e. omega (arith, e)) (of_logins ps)

-- ---- all

rows-of : (s t : Seam) → seam_text s ≡ seam_text t → flat_map row_text (rows_of s) ≡ flat_map row_text (rows_of t)
unfolding seam_text
rows-of s t e = e

pub text_names_seam : TextNamesSeam
text_names_seam c s t ss st h g e =
    let r0 = rows_once (rows_of s) (rows_of t) (all_inside s h) (all_inside t g) (rows-of s t e) in
    let r1 = row_others r0 in
    let r2 = row_others r1 in
    let r3 = row_others r2 in
    let r4 = row_others r3 in
    let r5 = row_others r4 in
    let ports = sections_once 112 (port_rows 1 s.nexts) (port_rows 1 t.nexts) (behind_ports s) (behind_ports t) (of_ports 1 s.nexts) (of_ports 1 t.nexts)
    (no_ports s.state.tables.past s.state.tables.ports) (no_ports t.state.tables.past t.state.tables.ports) r5 in
    let pasts = sections_once 97 (past_rows s.state.tables.past) (past_rows t.state.tables.past) (map login_row s.state.tables.ports) (map login_row t.state.tables.ports) (of_pasts s.state.tables.past) (of_pasts t.state.tables.past)
    (no_pasts s.state.tables.ports) (no_pasts t.state.tables.ports) ports.1 in
    same_seams
    (may_once s.state.tables.clock t.state.tables.clock h.clock g.clock (word_others (row_first r1)))
    (logins_once s.state.tables.ports t.state.tables.ports h.ports g.ports pasts.1)
    (pasts_once c.pool (c.domain * 65536 + 256) s.state.tables.past t.state.tables.past ss.places st.places h.past g.past pasts.0)
    (may_once s.state.advertised t.state.advertised h.advertised g.advertised (word_others (row_first r2)))
    (decimal_once s.state.rscns t.state.rscns h.rscns g.rscns (word_first (word_others (row_first r3))))
    (nexts_once 1 s.nexts t.nexts h.nexts g.nexts ports.0)
    (decimal_once s.greatest t.greatest h.greatest g.greatest (word_first (word_others (row_first r4))))
