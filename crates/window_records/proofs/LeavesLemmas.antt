-- What a refusal leaves of readers and shelves.
use Rattle.std.proofs.Common.{◌≡◌, ℕ, ◌+◌, length, inl, inr, List, [], ◌∷◌, ◌++◌, Some, None, Ok, Err, IsTrue, refl, sym, ap, ◌∙◌, subst, arith}
use Rattle.std.specs.Prelude.{option_to_list}
use Rattle.std.proofs.lemmas.List.{append-nil}
use Rattle.fab_base.specs.Seen.{Seen}
use Rattle.fab_config.specs.Settings.{Settings}
use Rattle.pcap_file.specs.Capture.{RECORD_HEAD, next}
use Rattle.pcap_file.specs.Reading.{Reading, place_after, to_come, KeepsError, NextReads, reader_stand}
use Rattle.pcap_file.specs.Records.{Chain, last_moment}
use Rattle.pcap_file.specs.declared.Budget.{Budget}
use Rattle.pcap_file.specs.declared.CapError.{CapError}
use Rattle.pcap_file.specs.declared.Record.{Record}
use Rattle.pcap_file.proofs.lemmas.Chains.{chain_push, last-push, end_is}
use Rattle.pcap_file.proofs.lemmas.Steps.{gives_found, ends_end}
use Rattle.window_records.specs.declared.shelf.Input.{Input}
use Rattle.window_records.specs.declared.shelf.Shelf.{Shelf}
use Rattle.window_records.specs.First.{Looked}
use Rattle.window_records.specs.Port.{Gave, LeavesPort, place_behind, stand_at}
use Rattle.window_records.specs.Ports.{Took, TakesFrom}

-- ---- readers

-- the place behind one more record
pub place-push : (at : ℕ) (given : List Record) (y : Record) → place_behind at (given ++ y ∷ []) ≡ place_after (place_behind at given) (RECORD_HEAD + length y.caught.bytes)
place-push at [] y = refl
place-push at (r ∷ given) y = place-push (place_after at (RECORD_HEAD + length r.caught.bytes)) given y

-- an error is kept
pub gave_failed : (slot : ℕ) (a b : Seen) (r r' : Reading) (had left : Budget) (e : CapError) → KeepsError r r' had left e → Gave slot a b r r' []
gave_failed slot a b r r' had left e k = record {
  head = ap (λ (q : Reading). q.head) k.kept;
  greatest = ap (λ (q : Reading). q.greatest) k.kept;
  at = ap (λ (q : Reading). q.at) k.kept;
  rest = to_come r a slot;
  chain = λ told. refl;
  stands = λ told none. let same : None ≡ Some e = sym none ∙ ap (λ (q : Reading). q.kept) k.kept in absurd (cc);
}

-- nothing was read of it
pub gave_none : (slot : ℕ) (a b : Seen) (r : Reading) → b.left slot ≡ a.left slot → Gave slot a b r r []
gave_none slot a b r same = record {
  head = refl;
  greatest = refl;
  at = refl;
  rest = to_come r a slot;
  chain = λ told. refl;
  stands = λ told none. ap (λ (l : List ℕ). r.held ++ l) (sym same);
}

-- it stood so before, and so later
pub gave_between : (slot : ℕ) (a b d e : Seen) (r r' : Reading) (given : List Record) → (IsTrue a.told → IsTrue b.told) → b.left slot ≡ a.left slot → e.left slot ≡ d.left slot → Gave slot b d r r' given → Gave slot a e r r' given
gave_between slot a b d e r r' given told before after g = record {
  head = g.head;
  greatest = g.greatest;
  at = g.at;
  rest = g.rest;
  chain = λ t. subst (λ (l : List ℕ). Chain r.head r.greatest given (r.held ++ l) g.rest) before (g.chain (told t));
  stands = λ t none. g.stands (told t) none ∙ ap (λ (l : List ℕ). r'.held ++ l) (sym after);
}

-- the answer of a reader that gave these
module _ (slot : ℕ) (a b d : Seen) (r r1 r2 : Reading) (given : List Record) (had left : Budget) (told : IsTrue a.told → IsTrue b.told) (head : r1.head ≡ r.head) (greatest : r1.greatest ≡ last_moment r.greatest given) (at : r1.at ≡ place_behind r.at given) (chain : IsTrue a.told → Chain r.head r.greatest given (to_come r a slot) (to_come r1 b slot)) where
  pub gave_more : (y : Record) → NextReads slot (reader_stand b r1 had) (reader_stand d r2 left) (Ok (Some y)) → Gave slot a d r r2 (given ++ y ∷ [])
  gave_more y n = record {
    head = ap (λ (q : Reading). q.head) n.taken.moved ∙ head;
    greatest = ap (λ (q : Reading). q.greatest) n.taken.moved ∙ sym (last-push r.greatest given y);
    at = ap (λ (q : Reading). q.at) n.taken.moved ∙ ap (λ (m : ℕ). place_after m (RECORD_HEAD + length y.caught.bytes)) at ∙ sym (place-push r.at given y);
    rest = to_come r2 d slot;
    chain = λ t.
        chain_push r.head r.greatest given y (to_come r a slot) (to_come r1 b slot) (to_come r2 d slot) (chain t)
        ((λ i. next (sym head i) (sym greatest i) (to_come r1 b slot))
        ∙ gives_found had r1.at (next r1.head r1.greatest (to_come r1 b slot)) y.moment y.caught (to_come r2 d slot) (n.says (told t) n.taken.fresh));
    stands = λ t none. refl;
  }

  pub gave_end : NextReads slot (reader_stand b r1 had) (reader_stand d r2 left) (Ok None) → Gave slot a d r r2 given
  gave_end n = record {
    head = ap (λ (q : Reading). q.head) n.taken.same ∙ head;
    greatest = ap (λ (q : Reading). q.greatest) n.taken.same ∙ greatest;
    at = ap (λ (q : Reading). q.at) n.taken.same ∙ at;
    rest = to_come r2 d slot;
    chain = λ t.
        let says = n.says (told t) n.taken.fresh in
        let nothing = end_is r1.head r1.greatest (to_come r1 b slot) (ends_end had r1.at (next r1.head r1.greatest (to_come r1 b slot)) says.0) in
        subst (λ l. Chain r.head r.greatest given (to_come r a slot) l) (nothing ∙ sym says.1) (chain t);
    stands = λ t none. refl;
  }

  pub gave_broken : (e : CapError) → NextReads slot (reader_stand b r1 had) (reader_stand d r2 left) (Err e) → Gave slot a d r r2 given
  gave_broken e n = record {
    head = ap (λ (q : Reading). q.head) n.kept.kept ∙ head;
    greatest = ap (λ (q : Reading). q.greatest) n.kept.kept ∙ greatest;
    at = ap (λ (q : Reading). q.at) n.kept.kept ∙ at;
    rest = to_come r1 b slot;
    chain = chain;
    stands = λ t none. let same : None ≡ Some e = sym none ∙ ap (λ (q : Reading). q.kept) n.kept.kept in absurd (cc);
  }

-- the first record, or none
pub gave_first : (c : Settings) (port slot : ℕ) (a b : Seen) (r r' : Reading) (s : Shelf) (had left : Budget) → r.greatest ≡ 0 → Looked c port slot (reader_stand a r had) (reader_stand b r' left) s → Gave slot a b r r' (option_to_list s.next)
gave_first c port slot a b r r' s had left zero l = record {
  head = l.head;
  greatest = l.greatest ∙ ap (λ (n : ℕ). last_moment n (option_to_list s.next)) (sym zero);
  at = l.at;
  rest = to_come r' b slot;
  chain = λ told. subst (λ (n : ℕ). Chain r.head n (option_to_list s.next) (to_come r a slot) (to_come r' b slot)) (sym zero) (l.chain told);
  stands = λ told none. refl;
}

-- ---- a port

-- its turn was, and others came
pub took_leaves : (c : Settings) (w : ℕ) (a b d : Seen) (i i' : Input) (s s' : Shelf) → d.left i.slot ≡ b.left i.slot → Took c w (stand_at a i s) (stand_at b i' s') → LeavesPort c w (stand_at a i s) (stand_at d i' s')
took_leaves c w a b d i i' s s' same t = record {
  given = t.given;
  gave = record {
    head = t.head;
    greatest = t.greatest;
    at = t.at;
    rest = to_come i'.reader b i.slot;
    chain = t.chain;
    stands = λ told none. ap (λ (l : List ℕ). i'.reader.held ++ l) (sym same);
  };
  count = t.count;
  shelf = inr (record {
    in_window = t.in_window;
    lost = [];
    order = t.order ∙ ap (λ l. l ++ option_to_list s'.next) (sym (append-nil s'.batch.items));
    last = omega arith;
  });
}

-- its turn didn't come
pub waits_leaves : (c : Settings) (w : ℕ) (a d : Seen) (i i' : Input) (s s' : Shelf) → i' ≡ i → s' ≡ s → d.left i.slot ≡ a.left i.slot → LeavesPort c w (stand_at a i s) (stand_at d i' s')
waits_leaves c w a d i i' s s' input shelf same = record {
  given = [];
  gave = subst (λ (x : Input). Gave i.slot a d i.reader x.reader []) (sym input) (gave_none i.slot a d i.reader same);
  count = let e = ap (λ (x : Shelf). x.count) shelf in omega arith;
  shelf = inl (shelf, refl);
}

-- it stood so before its turn
pub leaves_from : (c : Settings) (w : ℕ) (a b d : Seen) (i i' : Input) (s s' : Shelf) → (IsTrue a.told → IsTrue b.told) → b.left i.slot ≡ a.left i.slot →
    LeavesPort c w (stand_at b (record { slot = i.slot; reader = i.reader }) s) (stand_at d (record { slot = i.slot; reader = i'.reader }) s') → LeavesPort c w (stand_at a i s) (stand_at d i' s')
leaves_from c w a b d i i' s s' told same l = record { given = l.given; gave = gave_between i.slot a b d d i.reader i'.reader l.given told same refl l.gave; count = l.count; shelf = l.shelf }

-- ---- captures and limits

pub takes_none : (ins : List Input) (had : Budget) → TakesFrom ins ins had had
takes_none ins had = record { slots = refl; bytes = omega arith; frames = omega arith }

pub takes_then : (ins mid ins' : List Input) (had between left : Budget) → TakesFrom ins mid had between → TakesFrom mid ins' between left → TakesFrom ins ins' had left
takes_then ins mid ins' had between left s t =
    let b = s.bytes in
    let c = t.bytes in
    let f = s.frames in
    let g = t.frames in
    record { slots = t.slots ∙ s.slots; bytes = omega (arith, b, c); frames = omega (arith, f, g) }
