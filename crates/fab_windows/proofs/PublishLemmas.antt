-- A window whose lines and records are added to the pages, and written where these are full.
use Rattle.std.proofs.Common.{◌≡◌, ℕ, ◌+◌, ◌<◌, false, inl, inr, List, [], ◌++◌, length, IsTrue, Some, Result, Ok, Err, refl, sym, ap, ◌∙◌, append_assoc}
use Rattle.std.proofs.lemmas.Bool.{or_parts}
use Rattle.std.proofs.lemmas.List.{append-nil}
use Rattle.fab_base.specs.Seen.{Seen, Nothing}
use Rattle.fab_base.specs.declared.values.Failed.{Failed}
use Rattle.fab_base.proofs.EndingLemmas.{uses_none, uses_refused}
use Rattle.fab_config.specs.Settings.{Settings}
use Rattle.fab_policy.specs.Growing.{records_to}
use Rattle.fab_policy.specs.Journal.{Journal}
use Rattle.fab_policy.specs.Outputs.{Sent}
use Rattle.run_files.specs.declared.fault.RunFault.TheVariants as fault
use Rattle.fab_base.specs.Slots.{name_of}
use Rattle.fab_windows.specs.Files.{Written, Pending, Hold, HoldBut, InOrder, HoldFronts, Writes, file_bytes, file_slots}
use Rattle.fab_windows.specs.From.{FrontsOn, Origin, WholesButOn, WholesOn, captures_on, journal_on}
use Rattle.run_files.specs.Pages.{piece_at}
use Rattle.run_files.proofs.PageLemmas.{short, short_empty, short_pages, short_nothings}
use Rattle.fab_windows.specs.Pages.{AreShort, IsNothing, are_full, pending}
use Rattle.fab_windows.specs.declared.pages.Pages.{Pages}
use Rattle.fab_windows.specs.Turns.{Publishes, paged_at}

-- ---- what is still to be written

-- nothing is, where the files hold all
pub hold_all : (p : Pending) (d : Seen) (journal : ℕ) (outs l : List ℕ) (r : ℕ → List ℕ) → IsNothing p → Hold d journal outs l r → HoldBut p d journal outs (file_bytes l r) (file_bytes l r)
hold_all p d journal outs l r none h = record {
  hold = h;
  lines_ = sym (append-nil l) ∙ ap (λ x. l ++ x) (sym none.lines_);
  records = λ q lt. sym (append-nil (r q)) ∙ ap (λ x. r q ++ x) (sym (none.pieces_ q));
}

-- where nothing was written since
pub still_in_order : (d : Seen) (journal : ℕ) (outs w : List ℕ) (v : ℕ → List ℕ) (l : List ℕ) (r : ℕ → List ℕ) → Hold d journal outs w v → InOrder d (d.name journal) (length outs) (name_of d outs) (file_bytes w v) (file_bytes l r)
still_in_order d journal outs w v l r h = inl (record { lines_ = (w, h.lines_, ([], append-nil w)); records = h.records })

-- what the files hold is a beginning of it
pub but_is_front : (p : Pending) (d : Seen) (journal : ℕ) (outs w : List ℕ) (v : ℕ → List ℕ) (l : List ℕ) (r : ℕ → List ℕ) → HoldBut p d journal outs (file_bytes w v) (file_bytes l r) → HoldFronts d journal outs (file_bytes w v) (file_bytes l r)
but_is_front p d journal outs w v l r h = record {
  lines_ = (w, h.hold.lines_, (p.lines, sym h.lines_));
  records = λ q lt. (v q, h.hold.records q lt, (piece_at p.pieces q, sym (h.records q lt)));
  order = still_in_order d journal outs w v l r h.hold;
}

-- written, the files hold all, or beginnings
module _ (p : Pending) (a b : Seen) (journal : ℕ) (outs w : List ℕ) (v : ℕ → List ℕ) (l : List ℕ) (r : ℕ → List ℕ) (told : IsTrue a.told) (h : HoldBut p a journal outs (file_bytes w v) (file_bytes l r)) where
  pub flushed : Writes journal outs p.lines p.pieces a b (Ok tt) → Hold b journal outs l r
  flushed x = x.whole told w l v r h.hold h.lines_ h.records

  pub flushed_front : {x : Result (Unit {0}) Failed} → Writes journal outs p.lines p.pieces a b x → HoldFronts b journal outs (file_bytes w v) (file_bytes l r)
  flushed_front x = x.front told w l v r h.hold h.lines_ h.records

-- the same of the files of a run
module _ (p : Pending) (c : Settings) (o : Origin) (d : Seen) (journal : ℕ) (outs : List ℕ) (J : Journal) where
  pub wholes_but_nothing : IsNothing p → WholesOn c o d journal outs J → WholesButOn p c o d journal outs J
  wholes_but_nothing none h = record { before = J; begins = ([], refl); hold = hold_all p d journal outs (journal_on o J) (captures_on c o (length outs) J) none h }

  pub wholes_but_front : WholesButOn p c o d journal outs J → FrontsOn c o d journal outs J
  wholes_but_front h = record { before = Some h.before; begins = h.begins; hold = but_is_front p d journal outs (journal_on o h.before) (captures_on c o (length outs) h.before) (journal_on o J) (captures_on c o (length outs) J) h.hold }

module _ (p : Pending) (c : Settings) (o : Origin) (a b : Seen) (journal : ℕ) (outs : List ℕ) (J : Journal) (told : IsTrue a.told) (h : WholesButOn p c o a journal outs J) where
  pub flushed_whole : Writes journal outs p.lines p.pieces a b (Ok tt) → WholesOn c o b journal outs J
  flushed_whole x = flushed p a b journal outs (journal_on o h.before) (captures_on c o (length outs) h.before) (journal_on o J) (captures_on c o (length outs) J) told h.hold x

  pub flushed_part : {x : Result (Unit {0}) Failed} → Writes journal outs p.lines p.pieces a b x → FrontsOn c o b journal outs J
  flushed_part x = record { before = Some h.before; begins = h.begins; hold = flushed_front p a b journal outs (journal_on o h.before) (captures_on c o (length outs) h.before) (journal_on o J) (captures_on c o (length outs) J) told h.hold x }

-- ---- what a window adds

-- what is there, what was still to be written, and what is added
behind : (w p more l l' : List ℕ) → l ≡ w ++ p → l' ≡ l ++ more → l' ≡ w ++ (p ++ more)
behind w p more l l' e f = f ∙ ap (λ x. x ++ more) e ∙ append_assoc w p more

module _ (journal : ℕ) (outs lines : List ℕ) (sents : List Sent) (p : Pending) (a : Seen) where
  -- refused memory: nothing more is written, which is a beginning
  pub publishes_nothing : (p' : Pending) → Publishes (file_slots journal outs) lines sents (paged_at a p) (paged_at a p') (Err fault.Memory)
  publishes_nothing p' = record {
    uses = uses_refused Nothing (Written a journal outs) a a (uses_none Nothing (Written a journal outs) a);
    whole = λ told w l l' v r r' h is more. tt;
    front = λ told w l l' v r r' h is more. record {
      lines_ = (w, h.hold.lines_, (p.lines ++ lines, sym (behind w p.lines lines l l' h.lines_ is)));
      records = λ q lt. (v q, h.hold.records q lt, (piece_at p.pieces q ++ records_to (q + 1) sents, sym (behind (v q) (piece_at p.pieces q) (records_to (q + 1) sents) (r q) (r' q) (h.records q lt) (more q lt))));
      order = still_in_order a journal outs w v l' r' h.hold;
    };
    only = tt;
  }

  module _ (m : Pending) (lines_are : m.lines ≡ p.lines ++ lines) (are : (q : ℕ) → q < length outs → piece_at m.pieces q ≡ piece_at p.pieces q ++ records_to (q + 1) sents) where
    -- what was added is still to be written
    added : (w l l' : List ℕ) (v r r' : ℕ → List ℕ) → HoldBut p a journal outs (file_bytes w v) (file_bytes l r) → l' ≡ l ++ lines → ((q : ℕ) → q < length outs → r' q ≡ r q ++ records_to (q + 1) sents) → HoldBut m a journal outs (file_bytes w v) (file_bytes l' r')
    added w l l' v r r' h is more = record {
      hold = h.hold;
      lines_ = behind w p.lines lines l l' h.lines_ is ∙ ap (λ x. w ++ x) (sym lines_are);
      records = λ q lt. behind (v q) (piece_at p.pieces q) (records_to (q + 1) sents) (r q) (r' q) (h.records q lt) (more q lt) ∙ ap (λ x. v q ++ x) (sym (are q lt));
    }

    pub publishes_later : Publishes (file_slots journal outs) lines sents (paged_at a p) (paged_at a m) (Ok tt)
    publishes_later = record {
      uses = uses_none Nothing (Written a journal outs) a;
      whole = λ told w l l' v r r' h is more. inl (added w l l' v r r' h is more);
      front = λ told w l l' v r r' h is more. but_is_front m a journal outs w v l' r' (added w l l' v r r' h is more);
      only = tt;
    }

    module _ (b : Seen) where
      pub publishes_all : (p' : Pending) → IsNothing p' → Writes journal outs m.lines m.pieces a b (Ok tt) → Publishes (file_slots journal outs) lines sents (paged_at a p) (paged_at b p') (Ok tt)
      publishes_all p' none x = record {
        uses = x.uses;
        whole = λ told w l l' v r r' h is more. inr (hold_all p' b journal outs l' r' none (flushed m a b journal outs w v l' r' told (added w l l' v r r' h is more) x));
        front = λ told w l l' v r r' h is more. flushed_front m a b journal outs w v l' r' told (added w l l' v r r' h is more) x;
        only = tt;
      }

      pub publishes_front : (p' : Pending) (f : Failed) → Writes journal outs m.lines m.pieces a b (Err f) → Publishes (file_slots journal outs) lines sents (paged_at a p) (paged_at b p') (Err fault.Write)
      publishes_front p' f x = record {
        uses = x.uses;
        whole = λ told w l l' v r r' h is more. tt;
        front = λ told w l l' v r r' h is more. flushed_front m a b journal outs w v l' r' told (added w l l' v r r' h is more) x;
        only = tt;
      }

-- ---- pages that are short

-- that is so where none is full, and where nothing is still to be written
pub short_not_full : (p : Pages) → are_full p ≡ false → AreShort (pending p)
short_not_full p e = let parts = or_parts _ _ e in record { lines_ = short p.lines.items parts.0; pieces_ = short_pages p.records.items parts.1 }

pub short_nothing : (p : Pending) → IsNothing p → AreShort p
short_nothing p none = record { lines_ = short_empty p.lines none.lines_; pieces_ = short_nothings p.pieces none.pieces_ }
