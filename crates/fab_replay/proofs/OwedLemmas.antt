-- Outputs that are read while their pages grow.
use Rattle.std.proofs.Common.{◌≡◌, ℕ, ◌+◌, ◌<◌, Bool, true, false, eqb, List, [], ◌∷◌, ◌++◌, length, length-append, slice_get, Option, Some, None, Result, Ok, Err, IsTrue, refl, sym, ap, ◌∙◌, subst, arith}
use Rattle.std.specs.Prelude.{Vec, replicate}
use Rattle.std.specs.declared.alloc.Global.{Global}
use Rattle.std.proofs.lemmas.Bool.{eqb-true, eqb-false}
use Rattle.std.proofs.lemmas.List.{append-nil}
use Rattle.std.proofs.lemmas.Option.{slice_get_within}
use Rattle.fab_base.specs.Ending.{end_by, SparesReads}
use Rattle.fab_base.specs.Seen.{Seen, Touches, Nothing, SameWriteFaults}
use Rattle.fab_base.specs.declared.values.Failed.{Failed}
use Rattle.fab_base.proofs.EndingLemmas.{spares_reads}
use Rattle.fab_base.proofs.SeenLemmas.{touches_trans, touches_wider}
use Rattle.fab_config.specs.Settings.{Settings}
use Rattle.window_records.proofs.SlotLemmas.{push_before, push_last}
use Rattle.fab_base.specs.Slots.{NameIn, slot_at}
use Rattle.window_records.specs.Ports.{AreInputs}
use Rattle.fab_pages.proofs.PageLemmas.{length-items, page_of}
use Rattle.fab_pages.specs.Pages.{items_in, piece_at}
use Rattle.fab_policy.specs.Journal.{Journal}
use Rattle.fab_states.proofs.WrittenLemmas.{sent-none}
use Rattle.pcap_file.specs.Capture.{head_bytes}
use Rattle.fab_replay.specs.AllOutputs.{AreRead, FinishesEach, IsFirst, page_at}
use Rattle.fab_replay.specs.Counts.{check_end}
use Rattle.fab_replay.specs.FrontFrom.{Origin, capture_from}
use Rattle.fab_replay.specs.Outputs.{IsCompared, IsRead}
use Rattle.fab_replay.specs.Owed.{AreMany, AreNew, IsOwed, PagesGrow, ReadsOn, ReadsOut, answer_by}
use Rattle.fab_replay.specs.declared.fault.CheckFault.{CheckFault}
use Rattle.fab_replay.specs.declared.fault.CheckFault.TheVariants as fault
use Rattle.fab_replay.specs.declared.outputs.Compared.{Compared}
use Rattle.fab_replay.specs.declared.owed.Owed.{Owed}
use Rattle.window_records.proofs.SlotLemmas.{name_in}
use Rattle.fab_replay.proofs.SlotsLemmas.{rose_in_all}

-- ---- before anything is read

abbrev pub AreFresh : List Compared → Type 0
AreFresh all = (q : ℕ) (c : Compared) → slice_get all q ≡ Some c → (found : List ℕ) → IsRead c found found []

pub fresh_more : (all : List Compared) (x : Compared) → ((found : List ℕ) → IsRead x found found []) → AreFresh all → AreFresh (all ++ x ∷ [])
fresh_more all x own h q c at = go (eqb (length all) q) refl
  where
    by_apart : q < length (all ++ x ∷ []) → length (all ++ x ∷ []) ≡ length all + 1 → (length all ≡ q → ⊥) → q < length all
    by_apart lt size ne = omega (arith, lt, size, ne)

    go : (b : Bool) → eqb (length all) q ≡ b → (found : List ℕ) → IsRead c found found []
    go true e = subst (λ (y : Compared). (found : List ℕ) → IsRead y found found []) (sym (push_last all q x c (eqb-true (length all) q e) at)) own
    go false e =
        let lt = slice_get_within (all ++ x ∷ []) q c at in
        let size = length-append all (x ∷ []) in
        let ne = eqb-false (length all) q e in
        h q c (push_before all q x c (by_apart lt size ne) at)

pub new_owed : (n : ℕ) (pages : Vec (Vec ℕ Global) Global) (all : Vec Compared Global) → items_in pages.items ≡ replicate n head_bytes → length pages.items ≡ n → length all.items ≡ n → AreFresh all.items →
    AreNew n (record { pages = pages; all = all })
new_owed n pages all heads count size fresh = record {
  many = record { pages = count; all = size };
  heads = λ q lt. ap (λ l. piece_at l q) heads ∙ page_of head_bytes n q lt;
  fresh = fresh;
}

-- ---- what is owed

nothing_sent : (c : Settings) (n p : ℕ) (from : Origin) → capture_from c n from p [] ≡ head_bytes
nothing_sent c n p from = ap (λ (l : List ℕ). head_bytes ++ l) (sent-none c n p from.state) ∙ append-nil head_bytes

module _ (c : Settings) (n : ℕ) (from : Origin) (start d : Seen) (outs : List ℕ) where
  pub owed_first : (o : Owed) → AreNew (length outs) o → ((q : ℕ) → q < length outs → d.left (slot_at outs q) ≡ start.left (slot_at outs q)) → IsOwed c n from start d outs [] o
  owed_first o new same = record {
    before = λ q. [];
    read = λ q x at.
        let lt = slice_get_within o.all.items q x at in
        let found = start.left (slot_at outs q) in
        subst (λ l. IsRead x found l []) (sym (same q (let size = new.many.all in omega (arith, lt, size)))) (new.fresh q x at found);
    next = λ q lt. nothing_sent c n (q + 1) from ∙ sym (new.heads q lt);
  }

  module _ (J : Journal) (o : Owed) (many : AreMany (length outs) o) (i : IsOwed c n from start d outs J o) where
    -- nothing is fetched from the outputs
    pub owed_stays : (e : Seen) → ((q : ℕ) → q < length outs → e.left (slot_at outs q) ≡ d.left (slot_at outs q)) → IsOwed c n from start e outs J o
    owed_stays e same = record {
      before = i.before;
      read = λ q x at.
          let lt = slice_get_within o.all.items q x at in
          subst (λ l. IsRead x (start.left (slot_at outs q)) l (i.before q)) (sym (same q (let size = many.all in omega (arith, lt, size)))) (i.read q x at);
      next = i.next;
    }

    -- the pages grow, and the outputs are read on
    pub owed_on : (K : Journal) (pages : List (Vec ℕ Global)) (o1 o2 : Owed) (e : Seen) → IsTrue d.told → ReadsOn outs d e o1 o2 (Ok tt) → o1.pages.items ≡ pages → o1.all.items ≡ o.all.items → PagesGrow c n from J K (items_in o.pages.items) (items_in pages) →
        IsOwed c n from start e outs K o2
    owed_on K pages o1 o2 e told r is same g = record {
      before = λ q. i.before q ++ page_at o1.pages.items q;
      read = r.read told (λ q. start.left (slot_at outs q)) i.before (subst (λ l. AreRead d outs l (λ q. start.left (slot_at outs q)) i.before) (sym same) i.read);
      next = λ q lt.
          g.pages q (let size = length-items o.pages.items in let count = many.pages in omega (arith, size, count, lt)) (i.before q) (i.next q lt)
          ∙ ap (λ (l : List (Vec ℕ Global)). i.before q ++ page_at l q) (sym is)
          ∙ sym (append-nil (i.before q ++ page_at o1.pages.items q))
          ∙ ap (λ (l : List ℕ). (i.before q ++ page_at o1.pages.items q) ++ l) (sym (r.empty q));
    }

-- ---- the end

pub first_as : (r : Option (ℕ × ℕ)) (n : ℕ) (found wanted wanted' : ℕ → List ℕ) → ((q : ℕ) → q < n → wanted q ≡ wanted' q) → IsFirst r n found wanted → IsFirst r n found wanted'
first_as None n found wanted wanted' same h = λ q lt. h q lt ∙ same q lt
first_as (Some (port, at)) n found wanted wanted' same h =
    (h.0, h.1, h.2, subst (IsCompared (Some at) (found h.0)) (same h.0 h.2) h.3, λ q lt. h.4 q lt ∙ same q (let less = h.2 in omega (arith, lt, less)))

module _ (slots : List ℕ) (a b : Seen) (o o' : Owed) (are : AreInputs a slots) where
  pub out_failed : (e : Failed) → ReadsOn slots a b o o' (Err e) → ReadsOut slots a b o (Err fault.Read)
  out_failed e r = record { touches = r.touches; tells = λ told found wanted h. tt; only = tt; cause = λ is. r.cause; counts = (tt, r.writes) }

  module _ (d : Seen) (r : ReadsOn slots a b o o' (Ok tt)) where
    touches_out : Touches Nothing (NameIn b slots) b d → Touches Nothing (NameIn a slots) a d
    touches_out t = touches_trans Nothing (NameIn a slots) a b d r.touches (touches_wider Nothing (NameIn b slots) Nothing (NameIn a slots) b d (λ m h. h) (name_in Nothing (NameIn a slots) a b slots r.touches are) t)

    first_out : (first : Option (ℕ × ℕ)) → FinishesEach slots b d o'.all.items (Ok first) → IsTrue a.told → (found wanted : ℕ → List ℕ) → AreRead a slots o.all.items found wanted →
        IsFirst first (length slots) found (λ q. wanted q ++ page_at o.pages.items q)
    first_out first f told found wanted h =
        subst (λ (n : ℕ). IsFirst first n found (λ q. wanted q ++ page_at o.pages.items q)) r.many.all
        (f.first (subst IsTrue (sym r.touches.told) told) found (λ q. wanted q ++ page_at o.pages.items q) (r.read told found wanted h))

    counts_out : (first : Option (ℕ × ℕ)) → FinishesEach slots b d o'.all.items (Ok first) → (result : Result (Unit {0}) CheckFault) → SparesReads (end_by check_end result) a d × SameWriteFaults a d
    counts_out first f result = (spares_reads (end_by check_end result) a d (λ other m. f.counts m ∙ r.counts m), λ m. f.writes m ∙ r.writes m)

    pub out_told : (first : Option (ℕ × ℕ)) → FinishesEach slots b d o'.all.items (Ok first) → ReadsOut slots a d o (answer_by first)
    out_told None f = record { touches = touches_out f.touches; tells = first_out None f; only = tt; cause = λ is. absurd (cc); counts = counts_out None f (Ok tt) }
    out_told (Some (port, at)) f = record { touches = touches_out f.touches; tells = first_out (Some (port, at)) f; only = tt; cause = λ is. absurd (cc); counts = counts_out (Some (port, at)) f (Err (fault.Output port at)) }

    pub out_unread : (e : Failed) → FinishesEach slots b d o'.all.items (Err e) → ReadsOut slots a d o (Err fault.Read)
    out_unread e f = record { touches = touches_out f.touches; tells = λ told found wanted h. tt; only = tt; cause = λ is. rose_in_all (NameIn a slots) a b r.touches slots are d f.cause; counts = (tt, λ m. f.writes m ∙ r.writes m) }
