-- Checks of lines that come one behind another.
use Rattle.std.proofs.Common.{◌≡◌, ℕ, Bool, true, IsTrue, List, length, Result, Ok, Err, MatchResult, refl, ◌∙◌, subst}
use Rattle.std.specs.Result.{IsErrAnd}
use Rattle.fab_pages.specs.Pages.{items_in}
use Rattle.fab_policy.specs.Journal.{Journal}
use Rattle.fab_policy.specs.Standing.{Contents}
use Rattle.fab_replay.specs.FrontFrom.{clock_from}
use Rattle.fab_replay.specs.Steps.{Advances, ChecksLines, IsAlong, IsAmong, IsFound, IsReached, Left, Scene, Spot}
use Rattle.fab_replay.specs.Lines.{IsOfLine}
use Rattle.fab_replay.specs.Owed.{PagesGrow}
use Rattle.fab_replay.specs.declared.fault.CheckFault.{CheckFault}
use Rattle.fab_replay.specs.declared.frames.Gathered.{Gathered}
use Rattle.fab_replay.specs.declared.lines.Place.{Place}
use Rattle.fab_replay.proofs.FrontLemmas.{same_clock}
use Rattle.fab_replay.proofs.RemainLemmas.{along_as, reached_as}
use Rattle.fab_replay.proofs.ResultLemmas.{err_is}
use Rattle.fab_replay.proofs.SentLemmas.{grow_more, grow_none}

-- no line is checked
pub none_checked : {g : Gathered} {text : List ℕ} {a : Spot} {A : Scene → Journal → Type 0} {B : Scene → Journal → Journal → Type 0} → IsAmong g text a.fabric a.place → ((x : Scene) (J : Journal) → A x J → B x J J) → ChecksLines g.window A B text a a (Ok tt)
none_checked {g} {text} {a} {A} {B} among holds = record {
  checks = λ x J same h from. (J, h, holds x J from, grow_none x.settings (length x.records) x.from J (items_in a.pages));
  left = λ x told J same h from. (J, h, λ t. holds x J (from t));
  advances = record { settings = refl; count = refl; inside = among.inside; clock_ = among.clock_; idle = among.idle };
  pages = refl;
  only = tt;
}

-- lines are right: what the fabric stands for says so, and the pages grew
pub right_checked : {m : ℕ} {A : Scene → Journal → Type 0} {B : Scene → Journal → Journal → Type 0} {text : List ℕ} {a b : Spot} →
    (goes : (x : Scene) (told : Bool) (J : Journal) → x.bytes ≡ text → IsAlong x told J a.fabric a.place → (IsTrue told → A x J) → (K : Journal) × IsAlong x told K b.fabric b.place × (IsTrue told → B x J K)) →
    Advances m a.fabric b.fabric text b.place (Ok tt) → length b.pages ≡ length a.pages →
    ((x : Scene) (J : Journal) (same : x.bytes ≡ text) (h : IsReached x J a.fabric a.place) (from : A x J) → PagesGrow x.settings (length x.records) x.from J (goes x true J same (along_as h) (λ t. from)).0 (items_in a.pages) (items_in b.pages)) →
    ChecksLines m A B text a b (Ok tt)
right_checked goes advances pages grow = record {
  checks = λ x J same h from. let k = goes x true J same (along_as h) (λ t. from) in (k.0, reached_as k.1 (advances.count ∙ h.count), k.2 refl, grow x J same h from);
  left = goes;
  advances = advances;
  pages = pages;
  only = tt;
}

-- a check that has gone well still stands among the frames
pub among_then : {g : Gathered} {text : List ℕ} {F G : Contents} {p q : Place} → IsAmong g text F p → Advances g.window F G text q (Ok tt) → IsAmong g text G q
among_then among on = record { inside = on.inside; clock_ = on.clock_; early = among.early; idle = on.idle; few = among.few; count = on.count ∙ among.count }

on_ok : {T E : Type 0} {P Q : T → Type 0} (S : E → Type 0) (r : Result T E) → ((t : T) → P t → Q t) → MatchResult r P S → MatchResult r Q S
on_ok S (Ok t) f h = f t h
on_ok S (Err e) f h = h

-- a fault is handed on
pub handed_on : {m : ℕ} {A : Scene → Journal → Type 0} {B C : Scene → Journal → Journal → Type 0} {text : List ℕ} {a b : Spot} {e : CheckFault} {r : Result (Unit {0}) CheckFault} → IsErrAnd r (λ y. y ≡ e) → ChecksLines m A B text a b (Err e) → ChecksLines m A C text a b r
handed_on {m} {A} {B} {C} {text} {a} {b} {e} {r} is h = subst (ChecksLines m A C text a b) (err_is r e is) (record { checks = h.checks; left = h.left; advances = h.advances; pages = h.pages; only = h.only })

-- a fault ends the check
pub failed : {m : ℕ} {A : Scene → Journal → Type 0} {B : Scene → Journal → Journal → Type 0} {text : List ℕ} {a b : Spot} {e : CheckFault} {r : Result (Unit {0}) CheckFault} →
    IsErrAnd r (λ y. y ≡ e) → IsOfLine e → b.fabric.settings ≡ a.fabric.settings → b.fabric.count ≡ a.fabric.count → length b.pages ≡ length a.pages →
    ((x : Scene) (J : Journal) → x.bytes ≡ text → IsReached x J a.fabric a.place → A x J → IsFound x e) →
    ((x : Scene) (told : Bool) (J : Journal) → x.bytes ≡ text → IsAlong x told J a.fabric a.place → (IsTrue told → A x J) → Left x told b.fabric e) → ChecksLines m A B text a b r
failed {m} {A} {B} {text} {a} {b} {e} {r} is only settings count pages found left =
    subst (ChecksLines m A B text a b) (err_is r e is)
    (record { checks = found; left = left; advances = record { settings = settings; count = count; inside = tt; clock_ = tt; idle = tt }; pages = pages; only = only })

-- more lines are checked behind those that were
pub then_checked : {m n : ℕ} {A C : Scene → Journal → Type 0} {B D E : Scene → Journal → Journal → Type 0} {text : List ℕ} {a b c : Spot} {r : Result (Unit {0}) CheckFault} →
    ChecksLines m A B text a b (Ok tt) → ((x : Scene) (J K : Journal) → b.fabric.state.tables.clock ≡ clock_from x.settings x.from K → A x J → B x J K → C x K) → ((x : Scene) (J K L : Journal) → B x J K → D x K L → E x J L) → ChecksLines n C D text b c r → ChecksLines n A E text a c r
then_checked {m} {n} {A} {C} {B} {D} {E} {text} {a} {b} {c} {r} one here there more = record {
  checks = λ x J same h from.
      let at = one.checks x J same h from in
      on_ok _ r (λ t y. (y.0, y.1, there x J at.0 y.0 at.2 y.2, grow_more x.settings (length x.records) x.from J at.0 y.0 (items_in a.pages) (items_in b.pages) (items_in c.pages) at.3 y.3))
      (more.checks x at.0 same at.1 (here x J at.0 (same_clock x.settings x.from b.fabric at.0 at.1.stands at.1.settings) from at.2));
  left = λ x told J same h from.
      let at = one.left x told J same h from in
      on_ok _ r (λ t y. (y.0, y.1, λ k. there x J at.0 y.0 (at.2 k) (y.2 k))) (more.left x told at.0 same at.1 (λ k. here x J at.0 (same_clock x.settings x.from b.fabric at.0 at.1.stands at.1.settings) (from k) (at.2 k)));
  advances = record {
    settings = more.advances.settings ∙ one.advances.settings;
    count = more.advances.count ∙ one.advances.count;
    inside = more.advances.inside;
    clock_ = more.advances.clock_;
    idle = more.advances.idle;
  };
  pages = more.pages ∙ one.pages;
  only = more.only;
}
