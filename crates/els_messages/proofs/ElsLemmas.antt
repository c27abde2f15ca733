-- The layouts against reading and writing.
use Rattle.std.proofs.Common.{◌≡◌, ℕ, ◌+◌, ◌-◌, ◌%◌, ◌<◌, ◌≤◌, Bool, true, false, not, cond, ◌&&◌, leb, eqb, List, [], ◌∷◌, ◌++◌, length, length-append, length-take, length-drop, append_assoc, append-nil, take, drop, Option, Some, None, IfSome, Result, Ok, Err, refl, sym, ap, subst, ◌∙◌, arith}
use Rattle.std.specs.List.{find}
use Rattle.std.proofs.lemmas.Bool.{le-ltb, ltb-false, le-leb, lt-leb, leb-true, leb-false, eq-eqb, eqb-true, ne_eqb, and_parts, and_from, not-false}
use Rattle.std.proofs.lemmas.List.{take_at}
use Rattle.fab_base.specs.Layout.{big_endian, field, byte, number, spelled, zeros}
use Rattle.fab_base.proofs.LayoutLemmas.{big_endian-spelled, length-field}
use Rattle.fc_frames.specs.Frame.{IsPayload}
use Rattle.els_messages.specs.Table.{Command, FLOGI, FDISC, PLOGI, LS_ACC, LS_RJT, LOGO, SCR, RSCN, code, least, commands, command_of}
use Rattle.els_messages.specs.declared.LoginParms.{LoginParms}
use Rattle.els_messages.specs.declared.ElsFault.{ElsFault}
use Rattle.els_messages.specs.declared.ElsFault.TheVariants.{Short, Page}
use Rattle.els_messages.specs.Els.{Els, Flogi, Fdisc, Plogi, Logo, Scr, Rscn, LoginAccept, Accept, Reject, Other, parms_of, login_bytes, bytes_needed, rscn_length, has_pages, said, payload_of, is_short, lacks_pages, decoded, IsOf, ArePages, HoldsPages, IsEls, written, written_length, CanWrite, AreTyped, IsTyped, MayFollow, parms_in}

-- ---- the table

command_of-code : (row : Command) → command_of (code row) ≡ Some row
command_of-code FLOGI = refl
command_of-code FDISC = refl
command_of-code PLOGI = refl
command_of-code LS_ACC = refl
command_of-code LS_RJT = refl
command_of-code LOGO = refl
command_of-code SCR = refl
command_of-code RSCN = refl

found_first : {X : Type 0} (test : X → Bool) (y : X) (rest : Option X) (x : X) (t : Bool) → test y ≡ t → cond t (Some y) rest ≡ Some x → (rest ≡ Some x → test x ≡ true) → test x ≡ true
found_first {X} test y rest x true passes is later = let same : y ≡ x = cc in subst (λ z. test z ≡ true) same passes
found_first {X} test y rest x false fails is later = later is

-- what is found passes
found : {X : Type 0} (test : X → Bool) (xs : List X) (x : X) → find test xs ≡ Some x → test x ≡ true
found {X} test [] x is = cc
found {X} test (y ∷ ys) x is = found_first test y (find test ys) x (test y) refl is (found test ys x)

code-command_of : (first : ℕ) (row : Command) → command_of first ≡ Some row → first ≡ code row
code-command_of first row is = sym (eqb-true (code row) first (found (λ command. eqb (code command) first) commands row is))

-- what a payload is by the command that its first byte is of
abbrev payload_by : List ℕ → Option Command → Els
payload_by l (Some row) = said row l
payload_by l None = Other (byte l 0)

-- ---- bytes in which a payload stands are read as that payload

-- the two tests of a payload that passes them
tests : {A : Type 0} (short page : Bool) (e1 e2 r : A) → short ≡ false → page ≡ false → cond short e1 (cond page e2 r) ≡ r
tests {A} short page e1 e2 r not_short not_page = ap (λ b. cond b e1 (cond page e2 r)) not_short ∙ ap (λ b. cond b e2 r) not_page

read_by : (l : List ℕ) (command : Option Command) (needed : ℕ) → command_of (byte l 0) ≡ command → bytes_needed (byte l 0) ≡ needed → needed ≤ length l → lacks_pages l ≡ false → decoded l ≡ Ok (payload_by l command)
unfolding decoded
read_by l command needed is_command is_needed enough no_page =
    tests _ _ _ _ _ (le-ltb (length l) (bytes_needed (byte l 0)) (omega arith)) no_page ∙ ap (λ c. Ok (payload_by l c)) is_command

read_as : (l : List ℕ) (row : Command) → IsOf row l → eqb (code row) 0x61 && not (has_pages l) ≡ false → decoded l ≡ Ok (said row l)
read_as l row is no_page =
    read_by l (Some row) (least row) (ap command_of is.first ∙ command_of-code row) (ap bytes_needed is.first ∙ needed row) is.enough
    (ap (λ b. eqb b 0x61 && not (has_pages l)) is.first ∙ no_page)
  where
    needed : (row : Command) → bytes_needed (code row) ≡ least row
    needed row = ap (λ (c : Option Command). elim c [ Some row ↦ least row | None ↦ 4 ]) (command_of-code row)

no_rscn : (command : ℕ) → command_of command ≡ None → eqb command 0x61 ≡ false
no_rscn command is = ne_eqb command 0x61 (λ same. let e : None ≡ Some RSCN = sym is ∙ ap command_of same in cc)

pages_there : (pages l : List ℕ) → ArePages pages → HoldsPages pages l → has_pages l ≡ true
pages_there pages l are holds =
    let some = are.some in
    let words = are.words in
    let whole = holds.whole_length in
    let long : length pages ≤ length l - 4 = omega (arith, sym (ap length holds.here), length-take (length pages) (drop 4 l), length-drop 4 l) in
    and_from _ _ (and_from _ _ (and_from _ _ (eq-eqb (byte l 1) 4 holds.page_length) (le-leb 8 (rscn_length l) (omega arith))) (eq-eqb (rscn_length l % 4) 0 (omega arith)))
    (le-leb (rscn_length l) (length l) (omega arith))

pub decoded-is : (v : Els) (l : List ℕ) → IsEls v l → decoded l ≡ Ok v
decoded-is (Flogi parms) l is = read_as l FLOGI is.0 refl ∙ ap (λ p. Ok (Flogi p)) is.1
decoded-is (Fdisc parms) l is = read_as l FDISC is.0 refl ∙ ap (λ p. Ok (Fdisc p)) is.1
decoded-is (Plogi parms) l is = read_as l PLOGI is.0 refl ∙ ap (λ p. Ok (Plogi p)) is.1
decoded-is (LoginAccept parms) l is =
    read_as l LS_ACC is.0 refl ∙ ap (λ b. Ok (cond b (LoginAccept (parms_of l)) Accept)) (le-leb 116 (length l) is.1) ∙ ap (λ p. Ok (LoginAccept p)) is.2
decoded-is Accept l is = read_as l LS_ACC is.0 refl ∙ ap (λ b. Ok (cond b (LoginAccept (parms_of l)) Accept)) (lt-leb 116 (length l) is.1)
decoded-is (Reject reason explanation) l is = read_as l LS_RJT is.0 refl ∙ ap (λ n. Ok (Reject n (byte l 6))) is.1 ∙ ap (λ n. Ok (Reject reason n)) is.2
decoded-is (Logo address name) l is = read_as l LOGO is.0 refl ∙ ap (λ n. Ok (Logo n (number l 8 8))) is.1 ∙ ap (λ n. Ok (Logo address n)) is.2
decoded-is (Scr function) l is = read_as l SCR is.0 refl ∙ ap (λ n. Ok (Scr n)) is.1
decoded-is (Rscn pages) l is =
    let whole = is.2.whole_length in
    let count : rscn_length l - 4 ≡ length pages = omega arith in
    read_as l RSCN is.0 (ap not (pages_there pages l is.1 is.2)) ∙ ap (λ n. Ok (Rscn (field l 4 n))) count ∙ ap (λ m. Ok (Rscn m)) is.2.here
decoded-is (Other command) l is =
    let none : command_of (byte l 0) ≡ None = ap command_of is.0 ∙ is.1 in
    read_by l None 4 none (ap (λ (c : Option Command). elim c [ Some row ↦ least row | None ↦ 4 ]) none) is.2 (ap (λ b. b && not (has_pages l)) (no_rscn (byte l 0) none)) ∙ ap (λ n. Ok (Other n)) is.0

pub same_els : (v w : Els) (l : List ℕ) → IsEls v l → IsEls w l → v ≡ w
same_els v w l is_v is_w =
    let Is : Result Els ElsFault → Type 0 = λ r. r ≡ Ok w in
    let e : Is (Ok v) = sym (decoded-is v l is_v) ∙ decoded-is w l is_w in
    cc

-- ---- what is read is a payload of the layouts

module _ (l : List ℕ) (not_short : is_short l ≡ false) (no_page : lacks_pages l ≡ false) where
  enough : bytes_needed (byte l 0) ≤ length l
  enough = ltb-false (length l) (bytes_needed (byte l 0)) not_short

  needs : (command : Option Command) (needed : ℕ) → command_of (byte l 0) ≡ command → elim command [ Some row ↦ least row | None ↦ 4 ] ≡ needed → needed ≤ length l
  needs command needed is is_needed =
      let e : bytes_needed (byte l 0) ≡ needed = ap (λ (c : Option Command). elim c [ Some row ↦ least row | None ↦ 4 ]) is ∙ is_needed in
      omega (arith, enough)

  is_of : (row : Command) → command_of (byte l 0) ≡ Some row → IsOf row l
  is_of row is = record { first = code-command_of (byte l 0) row is; enough = needs (Some row) (least row) is refl }

  accept : (long : Bool) → leb 116 (length l) ≡ long → IsOf LS_ACC l → IsEls (cond long (LoginAccept (parms_of l)) Accept) l
  accept true e is = (is, leb-true 116 (length l) e, refl)
  accept false e is = (is, leb-false 116 (length l) e)

  state_change : IsOf RSCN l → IsEls (Rscn (field l 4 (rscn_length l - 4))) l
  state_change is =
      let there : has_pages l ≡ true = not-false (has_pages l) (ap (λ b. eqb b 0x61 && not (has_pages l)) (sym is.first) ∙ no_page) in
      let last = and_parts _ _ there in
      let third = and_parts _ _ last.0 in
      let second = and_parts _ _ third.0 in
      let some = leb-true 8 (rscn_length l) second.1 in
      let words = eqb-true (rscn_length l % 4) 0 third.1 in
      let all = leb-true (rscn_length l) (length l) last.1 in
      let count : length (field l 4 (rscn_length l - 4)) ≡ rscn_length l - 4 = length-field l 4 (rscn_length l - 4) (omega arith) in (
        is,
        record { some = omega arith; words = omega arith },
        record { page_length = eqb-true (byte l 1) 4 second.0; whole_length = omega arith; here = ap (field l 4) count },
      )

  by_command : (command : Option Command) → command_of (byte l 0) ≡ command → IsEls (payload_by l command) l
  by_command (Some FLOGI) is = (is_of FLOGI is, refl)
  by_command (Some FDISC) is = (is_of FDISC is, refl)
  by_command (Some PLOGI) is = (is_of PLOGI is, refl)
  by_command (Some LS_ACC) is = accept (leb 116 (length l)) refl (is_of LS_ACC is)
  by_command (Some LS_RJT) is = (is_of LS_RJT is, refl, refl)
  by_command (Some LOGO) is = (is_of LOGO is, refl, refl)
  by_command (Some SCR) is = (is_of SCR is, refl)
  by_command (Some RSCN) is = state_change (is_of RSCN is)
  by_command None is = (refl, is, needs None 4 is refl)

  pub stands : IsEls (payload_of l) l
  stands = by_command (command_of (byte l 0)) refl

pub is-decoded : (v : Els) (l : List ℕ) → decoded l ≡ Ok v → IsEls v l
unfolding decoded
is-decoded v l is = by_length (is_short l) refl is
  where
    Is : Result Els ElsFault → Type 0
    Is r = r ≡ Ok v

    by_pages : (page : Bool) → lacks_pages l ≡ page → is_short l ≡ false → cond page (Err Page) (Ok (payload_of l)) ≡ Ok v → IsEls v l
    by_pages true e not_short r = cc
    by_pages false e not_short r = let same : payload_of l ≡ v = cc in subst (λ w. IsEls w l) same (stands l not_short e)

    by_length : (short : Bool) → is_short l ≡ short → cond short (Err Short) (cond (lacks_pages l) (Err Page) (Ok (payload_of l))) ≡ Ok v → IsEls v l
    by_length true e r = cc
    by_length false e r = by_pages (lacks_pages l) refl e r

size_fits : (l : List ℕ) (p : LoginParms) → parms_of l ≡ p → p.size < 4096
size_fits l p is = let e : number l 10 2 % 4096 ≡ p.size = ap (λ (q : LoginParms). q.size) is in omega arith

-- receive sizes that are read have 12 bits
pub sizes_fit : (v : Els) (l : List ℕ) → IsEls v l → IfSome (parms_in v) (λ p. p.size < 4096)
sizes_fit (Flogi parms) l is = size_fits l parms is.1
sizes_fit (Fdisc parms) l is = size_fits l parms is.1
sizes_fit (Plogi parms) l is = size_fits l parms is.1
sizes_fit (LoginAccept parms) l is = size_fits l parms is.2
sizes_fit Accept l is = tt
sizes_fit (Reject reason explanation) l is = tt
sizes_fit (Logo address name) l is = tt
sizes_fit (Scr function) l is = tt
sizes_fit (Rscn pages) l is = tt
sizes_fit (Other command) l is = tt

-- ---- what is written

same_parms : (p : LoginParms) (features size ra_tov ed_tov port_name node_name : ℕ) (class3 : List ℕ) → features ≡ p.features → size ≡ p.size → ra_tov ≡ p.ra_tov → ed_tov ≡ p.ed_tov → port_name ≡ p.port_name → node_name ≡ p.node_name → class3 ≡ p.class3 → (let q : LoginParms = record { features = features; size = size; ra_tov = ra_tov; ed_tov = ed_tov; port_name = port_name; node_name = node_name; class3 = class3 } in q ≡ p)
same_parms p features size ra_tov ed_tov port_name node_name class3 is_features is_size is_ra is_ed is_port is_node is_class = rw (is_features, is_size, is_ra, is_ed, is_port, is_node, is_class)

module _ (command : ℕ) (p : LoginParms) (typed : AreTyped p) where
  length-login : length (login_bytes command p) ≡ 116
  length-login =
      let class3 = typed.class3 in
      let front : List ℕ = command ∷ zeros 3 ++ 0x20 ∷ 0x20 ∷ zeros 2 ++ spelled 2 p.features ++ spelled 2 p.size ++ spelled 4 p.ra_tov ++ spelled 4 p.ed_tov ++ spelled 8 p.port_name ++ spelled 8 p.node_name ++ zeros 32 in
      omega (arith, length-append (front ++ p.class3) (zeros 32), length-append front p.class3)

  parms_of-login : p.size < 4096 → (more : List ℕ) → parms_of (login_bytes command p ++ more) ≡ p
  parms_of-login fits more =
      let size : big_endian (spelled 2 p.size) ≡ p.size = big_endian-spelled 2 p.size (omega arith) in
      same_parms p _ _ _ _ _ _ _ (big_endian-spelled 2 p.features typed.features) (omega arith) (big_endian-spelled 4 p.ra_tov typed.ra_tov) (big_endian-spelled 4 p.ed_tov typed.ed_tov)
      (big_endian-spelled 8 p.port_name typed.port_name) (big_endian-spelled 8 p.node_name typed.node_name)
      (ap (take 16) (append_assoc p.class3 (zeros 32) more) ∙ take_at p.class3 (zeros 32 ++ more) 16 typed.class3)

pub length-written : (v : Els) → IsTyped v → length (written v) ≡ written_length v
unfolding written
length-written (Flogi parms) typed = length-login 4 parms typed
length-written (Fdisc parms) typed = length-login 0x51 parms typed
length-written (Plogi parms) typed = length-login 3 parms typed
length-written (LoginAccept parms) typed = length-login 2 parms typed
length-written Accept typed = refl
length-written (Reject reason explanation) typed = refl
length-written (Logo address name) typed = refl
length-written (Scr function) typed = refl
length-written (Rscn pages) typed = omega arith
length-written (Other command) typed = refl

-- a frame can have what is written
pub frame_payload : (v : Els) → CanWrite v → IsTyped v → IsPayload (written v)
frame_payload v can typed = let fits = written_length-fits v can in record { words = omega (arith, fits.0, length-written v typed); most = omega (arith, fits.1, length-written v typed) }
  where
    written_length-fits : (v : Els) → CanWrite v → (written_length v % 4 ≡ 0) × (written_length v ≤ 2112)
    written_length-fits (Flogi parms) can = (refl, omega arith)
    written_length-fits (Fdisc parms) can = (refl, omega arith)
    written_length-fits (Plogi parms) can = (refl, omega arith)
    written_length-fits (LoginAccept parms) can = (refl, omega arith)
    written_length-fits Accept can = (refl, omega arith)
    written_length-fits (Reject reason explanation) can = (refl, omega arith)
    written_length-fits (Logo address name) can = (refl, omega arith)
    written_length-fits (Scr function) can = (refl, omega arith)
    written_length-fits (Rscn pages) can = let words = can.0.words in let most = can.1 in (omega arith, omega arith)
    written_length-fits (Other command) can = absurd can

module _ (command : ℕ) (row : Command) (is : command ≡ code row) (least_login : least row ≤ 116) (p : LoginParms) (fits : p.size < 4096) (typed : AreTyped p) (more : List ℕ) where
  login_is : IsOf row (login_bytes command p ++ more) × (116 ≤ length (login_bytes command p ++ more)) × (parms_of (login_bytes command p ++ more) ≡ p)
  login_is =
      let long : 116 ≤ length (login_bytes command p ++ more) = omega (arith, length-append (login_bytes command p) more, length-login command p typed) in
      (record { first = is; enough = omega arith }, long, parms_of-login command p typed fits more)

-- a written payload stands in what is written, whatever may follow it
is_written : (v : Els) (more : List ℕ) → CanWrite v → IsTyped v → MayFollow v more → IsEls v (written v ++ more)
unfolding written
is_written (Flogi parms) more can typed may = let is = login_is 4 FLOGI refl (omega arith) parms can typed more in (is.0, is.2)
is_written (Fdisc parms) more can typed may = let is = login_is 0x51 FDISC refl (omega arith) parms can typed more in (is.0, is.2)
is_written (Plogi parms) more can typed may = let is = login_is 3 PLOGI refl (omega arith) parms can typed more in (is.0, is.2)
is_written (LoginAccept parms) more can typed may = login_is 2 LS_ACC refl (omega arith) parms can typed more
is_written Accept more can typed may = (record { first = refl; enough = omega arith }, omega arith)
is_written (Reject reason explanation) more can typed may = (record { first = refl; enough = omega arith }, refl, refl)
is_written (Logo address name) more can typed may =
    (record { first = refl; enough = omega arith }, big_endian-spelled 3 address typed.0, big_endian-spelled 8 name typed.1)
is_written (Scr function) more can typed may = (record { first = refl; enough = omega arith }, refl)
is_written (Rscn pages) more can typed may =
    let some = can.0.some in
    let most = can.1 in (
      record { first = refl; enough = omega (arith, length-append pages more) },
      can.0,
      record { page_length = refl; whole_length = big_endian-spelled 2 (4 + length pages) (omega arith); here = take_at pages more (length pages) refl },
    )
is_written (Other command) more can typed may = absurd can

-- so it is read back
pub decoded-written : (v : Els) (more : List ℕ) → CanWrite v → IsTyped v → MayFollow v more → decoded (written v ++ more) ≡ Ok v
decoded-written v more can typed may = decoded-is v (written v ++ more) (is_written v more can typed may)

-- a short accept with as many bytes behind it as a login payload has
pub long_accept : (more : List ℕ) → 112 ≤ length more → IsEls (LoginAccept (parms_of (written Accept ++ more))) (written Accept ++ more)
unfolding written
long_accept more long = (record { first = refl; enough = omega arith }, omega arith, refl)

-- with nothing behind it
pub stands_written : (v : Els) → CanWrite v → IsTyped v → IsEls v (written v)
stands_written v can typed = subst (IsEls v) (append-nil (written v)) (is_written v [] can typed (nothing v))
  where
    nothing : (v : Els) → MayFollow v []
    nothing Accept = omega arith
    nothing _ = tt
