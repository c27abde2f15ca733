-- One file, written piece by piece.
use Rattle.std.proofs.Common.{◌≡◌, ℕ, inr, List, [], ◌++◌, take, drop, flat_map, Some, Ok, Err, IsTrue, refl, sym, ap, ◌∙◌, subst, append_assoc, OnOk}
use Rattle.std.specs.Prelude.{Result}
use Rattle.std.proofs.lemmas.List.{append-nil, take-append-drop}
use Rattle.std.proofs.lemmas.List.Concat.{flat_map-append}
use Rattle.fab_base.specs.Ending.{end_by}
use Rattle.fab_base.specs.Seen.{Seen, Nothing, Only, PutsAll}
use Rattle.fab_base.proofs.EndingLemmas.{uses_none, uses_refused, uses_then, puts_all_uses}
use Rattle.fab_base.specs.declared.values.Failed.{Failed}
use Rattle.fab_vectors.specs.Files.{AddsTo, Adds, make_end}
use Rattle.fab_vectors.specs.declared.MakeFault.{MakeFault}
use Rattle.fab_vectors.specs.declared.MakeFault.TheVariants as fault

-- nothing was added yet
pub adds_none : {T : Type 0} (t : T) (name : List ℕ) (a : Seen) → AddsTo {T = T} name [] a a (Ok t)
adds_none t name a = record {
  uses = uses_none Nothing (Only name) a;
  whole = λ told had is. is ∙ ap Some (sym (append-nil had));
  front = λ told had is. ([], is ∙ ap Some (sym (append-nil had)), ([], refl));
}

-- memory was refused before anything was added
pub adds_refused : {T : Type 0} (name bytes : List ℕ) (a : Seen) → AddsTo {T = T} name bytes a a (Err fault.Memory)
adds_refused name bytes a = record {
  uses = uses_refused Nothing (Only name) a a (uses_none Nothing (Only name) a);
  whole = λ told had is. tt;
  front = λ told had is. ([], is ∙ ap Some (sym (append-nil had)), (bytes, refl));
}

-- a put that failed
pub adds_failed : (s : ℕ) (bytes : List ℕ) (a b : Seen) (e : Failed) → PutsAll {T = Unit {0}} {E = Failed} s bytes a b (Err e) → Adds {T = Unit {0}} s bytes a b (Err fault.Write)
adds_failed s bytes a b e p = record {
  uses = puts_all_uses a b s bytes (Err e) p;
  whole = λ told had is. tt;
  front = λ told had is. let part = p.part told had is in (take part.0 bytes, part.1, (drop part.0 bytes, take-append-drop part.0 bytes));
}

-- a failure, of more bytes
pub adds_more : {T U : Type 0} (name x y : List ℕ) (a b : Seen) (e : MakeFault) → AddsTo {T = T} name x a b (Err e) → AddsTo {T = U} name (x ++ y) a b (Err e)
adds_more name x y a b e p = record {
  uses = p.uses;
  whole = λ told had is. tt;
  front = λ told had is. let f = p.front told had is in (f.0, f.1, (f.2.0 ++ y, sym (append_assoc f.0 f.2.0 y) ∙ ap (λ l. l ++ y) f.2.1));
}

-- a depot that tells goes on telling
told_later : {T : Type 0} (name bytes : List ℕ) (a b : Seen) (r : Result T MakeFault) → AddsTo {T = T} name bytes a b r → IsTrue a.told → IsTrue b.told
told_later name bytes a b r p told = subst IsTrue (sym p.uses.touches.told) told

-- bytes behind others
pub adds_behind : {T U : Type 0} (t : T) (name x y : List ℕ) (a b d : Seen) (r : Result U MakeFault) → AddsTo {T = T} name x a b (Ok t) → AddsTo {T = U} name y b d r
    → AddsTo {T = U} name (x ++ y) a d r
adds_behind t name x y a b d r p q = record {
  uses = uses_then Nothing (Only name) (end_by make_end r) a b d p.uses q.uses;
  whole = λ told had is.
      subst (λ l. OnOk r (d.file name ≡ Some l)) (append_assoc had x y) (q.whole (told_later name x a b (Ok t) p told) (had ++ x) (p.whole told had is));
  front = λ told had is.
      let f = q.front (told_later name x a b (Ok t) p told) (had ++ x) (p.whole told had is) in
      (x ++ f.0, f.1 ∙ ap Some (append_assoc had x f.0), (f.2.0, append_assoc x f.0 f.2.0 ∙ ap (λ l. x ++ l) f.2.1));
}

-- what an answer says beside is free
pub adds_ok : {T U : Type 0} (t : T) (u : U) (name bytes : List ℕ) (a b : Seen) → AddsTo {T = T} name bytes a b (Ok t) → AddsTo {T = U} name bytes a b (Ok u)
adds_ok t u name bytes a b p = record { uses = p.uses; whole = p.whole; front = p.front }

pub adds_err : {T U : Type 0} (e : MakeFault) (name bytes : List ℕ) (a b : Seen) → AddsTo {T = T} name bytes a b (Err e) → AddsTo {T = U} name bytes a b (Err e)
adds_err e name bytes a b p = record { uses = p.uses; whole = λ told had is. tt; front = p.front }

-- a slot keeps its name and stays open
module _ {T : Type 0} (t : T) (s : ℕ) (x : List ℕ) (a b : Seen) (open_ : IsTrue (a.output s)) (p : Adds {T = T} s x a b (Ok t)) where
  pub still_open : IsTrue (b.output s)
  still_open = subst IsTrue (sym (p.uses.touches.slots s (inr open_)).output) open_

  pub same_name : b.name s ≡ a.name s
  same_name = (p.uses.touches.slots s (inr open_)).name

-- ---- pages

-- What stands between two pages: the bytes of the items that are done were added.
pub record Going {X : Type 0} (f : X → List ℕ) (s : ℕ) (all left : List X) (a b : Seen) : Type 0 where
  pub sofar : List ℕ
  pub adds : Adds {T = Unit {0}} s sofar a b (Ok tt)
  pub whole : sofar ++ flat_map f left ≡ flat_map f all

pub going_none : {X : Type 0} (f : X → List ℕ) (s : ℕ) (all : List X) (a : Seen) → Going f s all all a a
going_none f s all a = record { sofar = []; adds = adds_none tt (a.name s) a; whole = refl }

module _ {X : Type 0} (f : X → List ℕ) (s : ℕ) (all left : List X) (a b d : Seen) (open_ : IsTrue (a.output s)) (g : Going f s all left a b) where
  pub going_open : IsTrue (b.output s)
  going_open = still_open tt s g.sofar a b open_ g.adds

  page : {U : Type 0} (r : Result U MakeFault) (bytes : List ℕ) → Adds {T = U} s bytes b d r → AddsTo {T = U} (a.name s) bytes b d r
  page r bytes q = subst (λ n. AddsTo n bytes b d r) (same_name tt s g.sofar a b open_ g.adds) q

  pub going_more : (now later : List X) → now ++ later ≡ left → Adds {T = Unit {0}} s (flat_map f now) b d (Ok tt) → Going f s all later a d
  going_more now later is q = record {
    sofar = g.sofar ++ flat_map f now;
    adds = adds_behind tt (a.name s) g.sofar (flat_map f now) a b d (Ok tt) g.adds (page (Ok tt) (flat_map f now) q);
    whole = append_assoc g.sofar (flat_map f now) (flat_map f later) ∙ ap (λ l. g.sofar ++ l) (sym (flat_map-append f now later) ∙ ap (flat_map f) is) ∙ g.whole;
  }

  pub going_failed : (e : MakeFault) (now later : List X) → now ++ later ≡ left → Adds {T = Unit {0}} s (flat_map f now) b d (Err e) → Adds {T = Unit {0}} s (flat_map f all) a d (Err e)
  going_failed e now later is q =
      let some = adds_behind tt (a.name s) g.sofar (flat_map f now) a b d (Err e) g.adds (page (Err e) (flat_map f now) q) in
      subst (λ l. AddsTo {T = Unit {0}} (a.name s) l a d (Err e))
      (append_assoc g.sofar (flat_map f now) (flat_map f later) ∙ ap (λ l. g.sofar ++ l) (sym (flat_map-append f now later) ∙ ap (flat_map f) is) ∙ g.whole)
      (adds_more (a.name s) (g.sofar ++ flat_map f now) (flat_map f later) a d e some)

pub going_end : {X : Type 0} (f : X → List ℕ) (s : ℕ) (all left : List X) (a b : Seen) → left ≡ [] → Going f s all left a b → Adds {T = Unit {0}} s (flat_map f all) a b (Ok tt)
going_end f s all left a b is g = subst (λ l. AddsTo {T = Unit {0}} (a.name s) l a b (Ok tt)) (sym (append-nil g.sofar) ∙ ap (λ l. g.sofar ++ flat_map f l) (sym is) ∙ g.whole) g.adds
