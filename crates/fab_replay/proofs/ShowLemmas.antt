-- The live N_Ports one after another, by address.
use Rattle.std.proofs.Common.{◌≡◌, ℕ, ◌+◌, ◌≤◌, ◌==◌, Bool, true, false, cond, List, [], ◌∷◌, ◌++◌, filter, find, Option, Some, None, option_map, nat_le, unwrap_or, refl, sym, ◌∙◌, ap, subst, arith, append_assoc}
use Rattle.std.proofs.lemmas.Bool.Decides.{nat_tests}
use Rattle.std.proofs.lemmas.List.{append-nil}
use Rattle.std.specs.Option.{option_map_or}
use Rattle.std.specs.Prelude.{IfSome, Result, Ok, Err, IfOk, IsErr, OnErr, OnOk, Vec, ◌*◌}
use Rattle.std.specs.declared.alloc.Global.{Global}
use Rattle.ct_messages.specs.declared.TypeMap.{TypeMap}
use Rattle.fab_base.specs.Keyed.{AscendFrom, item_at}
use Rattle.fab_base.proofs.KeyedLemmas.{AscendFrom-weaker}
use Rattle.fab_policy.specs.Journal.{Journal}
use Rattle.fab_policy.specs.Outputs.{State}
use Rattle.fab_policy.specs.Standing.{Contents, Stands}
use Rattle.fab_policy.specs.State.{LivePort, Tables, tables_of}
use Rattle.fab_policy.specs.Written.{TablesAscend}
use Rattle.fab_roster.specs.Roll.{login_of}
use Rattle.login_table.specs.declared.login.Login.{Login}
use Rattle.fab_replay.specs.Rows.{row_lines}
use Rattle.fab_replay.specs.Showing.{AreInOrder, port_lines, ports_lines, row_of, shown_by}
use Rattle.fab_replay.specs.declared.rows.Row.{Row}

-- ---- lists with ascending keys

module _ {X : Type 0} (key : X → ℕ) where
  -- those that aren't below a bound
  abbrev pub on_from : ℕ → List X → List X
  on_from from xs = filter (λ x. nat_le from (key x)) xs

  pub all_on_from : (k from : ℕ) (xs : List X) → AscendFrom key k xs → from ≤ k → on_from from xs ≡ xs
  all_on_from k from [] ascend le = refl
  all_on_from k from (x ∷ xs) ascend le = grind (arith, nat_tests, ascend.0, all_on_from (key x + 1) from xs ascend.1 (omega (arith, ascend.0)))

  pub none_on_from : (from : ℕ) (xs : List X) → find (λ x. nat_le from (key x)) xs ≡ None → on_from from xs ≡ []
  none_on_from from [] e = refl
  none_on_from from (x ∷ xs) e = go (nat_le from (key x)) refl (none_on_from from xs)
    where
      found : Bool → Type 0
      found b = cond b (Some x) (find (λ y. nat_le from (key y)) xs) ≡ None

      go : (b : Bool) → nat_le from (key x) ≡ b → (find (λ y. nat_le from (key y)) xs ≡ None → on_from from xs ≡ []) → on_from from (x ∷ xs) ≡ []
      go true is later = absurd (let f : found true = subst found is e in cc)
      go false is later = rw is (later (subst found is e))

  -- the first of them, and those behind it
  pub next_on_from : (k from : ℕ) (xs : List X) (x : X) → AscendFrom key k xs → find (λ y. nat_le from (key y)) xs ≡ Some x →
      (from ≤ key x) × (on_from from xs ≡ x ∷ on_from (key x + 1) xs) × (item_at key (key x) xs ≡ Some x)
  next_on_from k from [] x ascend e = absurd (cc)
  next_on_from k from (y ∷ ys) x ascend e = go (nat_le from (key y)) refl (next_on_from (key y + 1) from ys x ascend.1)
    where
      found : Bool → Type 0
      found b = cond b (Some y) (find (λ z. nat_le from (key z)) ys) ≡ Some x

      Next : List X → Type 0
      Next xs = (from ≤ key x) × (on_from from xs ≡ x ∷ on_from (key x + 1) xs) × (item_at key (key x) xs ≡ Some x)

      go : (b : Bool) → nat_le from (key y) ≡ b → (find (λ z. nat_le from (key z)) ys ≡ Some x → Next ys) → (from ≤ key x) × (on_from from (y ∷ ys) ≡ x ∷ on_from (key x + 1) (y ∷ ys)) × (item_at key (key x) (y ∷ ys) ≡ Some x)
      go true is later =
          let same : y ≡ x = (let f : found true = subst found is e in cc) in
          subst (λ z. (from ≤ key z) × (on_from from (y ∷ ys) ≡ z ∷ on_from (key z + 1) (y ∷ ys)) × (item_at key (key z) (y ∷ ys) ≡ Some z)) same (
            grind (arith, nat_tests, is),
            grind (arith, nat_tests, is, all_on_from (key y + 1) from ys ascend.1 (grind (arith, nat_tests, is)), all_on_from (key y + 1) (key y + 1) ys ascend.1 (omega arith)),
            grind (arith, nat_tests),
          )
      go false is more =
          let later = more (subst found is e) in
          (later.0, grind (arith, nat_tests, is, later.0, later.1), grind (arith, nat_tests, is, later.0, later.2))

  pub key-item_at : (a : ℕ) (xs : List X) (x : X) → item_at key a xs ≡ Some x → key x ≡ a
  key-item_at a [] x e = absurd (cc)
  key-item_at a (y ∷ ys) x e = go (key y == a) refl (key-item_at a ys x)
    where
      found : Bool → Type 0
      found b = cond b (Some y) (item_at key a ys) ≡ Some x

      go : (b : Bool) → (key y == a) ≡ b → (item_at key a ys ≡ Some x → key x ≡ a) → key x ≡ a
      go true is later =
          let same : y ≡ x = (let f : found true = subst found is e in cc) in
          subst (λ z. key z ≡ a) same (let k : key y ≡ a = grind (arith, nat_tests, is) in k)
      go false is later = later (subst found is e)

  pub least_found : (from : ℕ) (xs : List X) (x : X) → find (λ y. nat_le from (key y)) xs ≡ Some x → from ≤ key x
  least_found from [] x e = absurd (cc)
  least_found from (y ∷ ys) x e = go (nat_le from (key y)) refl (least_found from ys x)
    where
      found : Bool → Type 0
      found b = cond b (Some y) (find (λ z. nat_le from (key z)) ys) ≡ Some x

      go : (b : Bool) → nat_le from (key y) ≡ b → (find (λ z. nat_le from (key z)) ys ≡ Some x → from ≤ key x) → from ≤ key x
      go true is later =
          let same : y ≡ x = (let f : found true = subst found is e in cc) in
          subst (λ z. from ≤ key z) same (let k : from ≤ key y = grind (arith, nat_tests, is) in k)
      go false is later = later (subst found is e)

-- ---- rows

some_same : {A : Type 0} (x y : A) → Some x ≡ Some y → x ≡ y
some_same x y e = cc

option_map-some : {A B : Type 0} (f : A → B) (o : Option A) (y : B) → Some y ≡ option_map f o → (x : A) × (o ≡ Some x) × (y ≡ f x)
option_map-some f None y e = absurd (cc)
option_map-some f (Some x) y e = (x, refl, some_same y (f x) e)

option_map-none : {A B : Type 0} (f : A → B) (o : Option A) → None ≡ option_map f o → o ≡ None
option_map-none f None e = refl
option_map-none f (Some x) e = absurd (cc)

abbrev address_of : LivePort → ℕ
address_of p = p.address

abbrev times : ℕ → ℕ → ℕ × ℕ
times m n = (m, n)

-- what the reading calls say of an address is the row of its live N_Port
pub row_is : (a : ℕ) (live : Option LivePort) → ((p : LivePort) → live ≡ Some p → p.address ≡ a) → (l : Login) (node_heard port_heard node_name size watch : ℕ) (types : TypeMap) →
    Some l ≡ option_map login_of live → Some (times node_heard port_heard) ≡ option_map (λ p. times p.node_heard p.port_heard) live → Some node_name ≡ option_map (λ p. p.values.node_name) live →
    Some types ≡ option_map (λ p. p.values.types) live → watch ≡ option_map_or (λ p. p.watch) live 0 → size ≡ unwrap_or l.server_size 0 →
    Some (record { address = a; name = l.name; node_name = node_name; enode = l.enode; node_heard = node_heard; port_heard = port_heard; size = size; watch = watch; types = types }) ≡ option_map row_of live
row_is a None key l node_heard port_heard node_name size watch types e heard node map_ watched sized = absurd (cc)
row_is a (Some p) key l node_heard port_heard node_name size watch types e heard node map_ watched sized =
    let login : l ≡ login_of p = some_same l (login_of p) e in
    let both = some_same (times node_heard port_heard) (times p.node_heard p.port_heard) heard in
    let named = some_same node_name p.values.node_name node in
    let mapped = some_same types p.values.types map_ in
    let address = sym (key p refl) in
    let sized_ : size ≡ unwrap_or p.server 0 = sized ∙ ap (λ (m : Login). unwrap_or m.server_size 0) login in
    ap Some (λ i. record { address = address i; name = (login i).name; node_name = named i; enode = (login i).enode; node_heard = (both i).0; port_heard = (both i).1; size = sized_ i; watch = watched i; types = mapped i })

-- the row of the next live N_Port
pub next_is : (from a : ℕ) (ports : List LivePort) (r : Option Row) → AreInOrder ports → Some a ≡ option_map (λ p. p.address) (find (λ p. nat_le from p.address) ports) → r ≡ option_map row_of (item_at address_of a ports) →
    r ≡ option_map row_of (find (λ p. nat_le from p.address) ports)
next_is from a ports r order next is =
    let x = option_map-some (λ p. p.address) (find (λ p. nat_le from p.address) ports) a next in
    let there = (next_on_from address_of 0 from ports x.0 order x.1).2 in
    is ∙ ap (option_map row_of) (subst (λ (n : ℕ). item_at address_of n ports ≡ Some x.0) (sym x.2) there ∙ sym x.1)

pub next_least : (from a : ℕ) (ports : List LivePort) (r : Option Row) → Some a ≡ option_map (λ p. p.address) (find (λ p. nat_le from p.address) ports) → IfSome r (λ row. row.address ≡ a) → IfSome r (λ row. from ≤ row.address)
next_least from a ports None next h = tt
next_least from a ports (Some row) next h =
    let x = option_map-some (λ p. p.address) (find (λ p. nat_le from p.address) ports) a next in
    let least = least_found address_of from ports x.0 x.1 in
    omega (arith, least, x.2, h)

-- ---- the text

pub rows_first : (ports : List LivePort) (text : List ℕ) → AreInOrder ports → text ++ ports_lines (on_from address_of 0 ports) ≡ text ++ ports_lines ports
rows_first ports text order = ap (λ ps. text ++ ports_lines ps) (all_on_from address_of 0 0 ports order (omega arith))

pub rows_more : (from : ℕ) (ports : List LivePort) (text start : List ℕ) (row : Row) → AreInOrder ports → Some row ≡ option_map row_of (find (λ p. nat_le from p.address) ports) →
    text ++ ports_lines (on_from address_of from ports) ≡ start → (text ++ row_lines row) ++ ports_lines (on_from address_of (row.address + 1) ports) ≡ start
unfolding port_lines
rows_more from ports text start row order next so_far =
    let x = option_map-some row_of (find (λ p. nat_le from p.address) ports) row next in
    let on = (next_on_from address_of 0 from ports x.0 order x.1).1 in
    let rest = ports_lines (on_from address_of (row.address + 1) ports) in
    append_assoc text (row_lines row) rest
    ∙ ap (λ l. text ++ l) (ap (λ (r : Row). row_lines r ++ ports_lines (on_from address_of (r.address + 1) ports)) x.2 ∙ ap ports_lines (sym on))
    ∙ so_far

pub rows_end : (from : ℕ) (ports : List LivePort) (text start : List ℕ) → None ≡ option_map row_of (find (λ p. nat_le from p.address) ports) → text ++ ports_lines (on_from address_of from ports) ≡ start → text ≡ start
rows_end from ports text start none so_far =
    sym (append-nil text) ∙ ap (λ ps. text ++ ports_lines ps) (sym (none_on_from address_of from ports (option_map-none row_of (find (λ p. nat_le from p.address) ports) none))) ∙ so_far

pub rows_on : (from n : ℕ) (ports : List LivePort) (text text' start : List ℕ) (row : Row) → AreInOrder ports → Some row ≡ option_map row_of (find (λ p. nat_le from p.address) ports) →
    text ++ ports_lines (on_from address_of from ports) ≡ start → text' ≡ text ++ row_lines row → n ≡ row.address → text' ++ ports_lines (on_from address_of (n + 1) ports) ≡ start
rows_on from n ports text text' start row order next so_far grown at =
    ap (λ l. l ++ ports_lines (on_from address_of (n + 1) ports)) grown ∙ ap (λ (k : ℕ). (text ++ row_lines row) ++ ports_lines (on_from address_of (k + 1) ports)) at ∙ rows_more from ports text start row order next so_far

-- ---- all lines

-- the lines of a fabric's tables
pub shown_in : {E G : Type 0} (T : Tables) (entries : ℕ) (made : Result (Vec ℕ Global) E) (r : Result (Unit {0}) G) (old new : List ℕ) → OnOk r (IfOk made (λ bytes. new ≡ old ++ bytes.items)) → OnErr made (IsErr r) →
    (AreInOrder T.ports → IfOk made (λ v. v.items ≡ shown_by entries T)) → AreInOrder T.ports → OnOk r (new ≡ old ++ shown_by entries T)
shown_in T entries (Ok v) (Ok done) old new ok refused lines order = ok ∙ ap (λ l. old ++ l) (lines order)
shown_in T entries (Err e) (Ok done) old new ok refused lines order = absurd (cc)
shown_in T entries made (Err e) old new ok refused lines order = tt

-- they are those of each journal that the fabric stands for
pub shown_on : {E G : Type 0} (F : Contents) (entries : ℕ) (made : Result (Vec ℕ Global) E) (r : Result (Unit {0}) G) (old new : List ℕ) → TablesAscend → OnOk r (IfOk made (λ bytes. new ≡ old ++ bytes.items)) → OnErr made (IsErr r) →
    (AreInOrder F.state.tables.ports → IfOk made (λ v. v.items ≡ shown_by entries F.state.tables)) → OnOk r ((J : Journal) → Stands F J → new ≡ old ++ shown_by entries (tables_of F.settings J))
shown_on {E} {G} F entries made (Ok done) old new ascend ok refused lines = λ J stands.
    let c = F.settings in
    let order = AscendFrom-weaker address_of 0 (c.domain * 65536 + 256) (tables_of c J).ports (omega arith) (ascend c J).0 in
    shown_in {E = E} {G = G} F.state.tables entries made (Ok done) old new ok refused lines (subst (λ (S : State). AreInOrder S.tables.ports) (sym stands.state) order) ∙ ap (λ (S : State). old ++ shown_by entries S.tables) stands.state
shown_on {E} {G} F entries made (Err e) old new ascend ok refused lines = tt
