-- What was read of the captures, window after window.
use Rattle.std.proofs.Common.{◌≡◌, ℕ, zero, suc, ◌+◌, ◌-◌, ◌≤◌, true, List, [], ◌∷◌, ◌++◌, length, length-append, Option, Some, None, IfSome, IsTrue, refl, sym, ap, ◌∙◌, subst, arith, append_assoc}
use Rattle.std.specs.Prelude.{option_to_list}
use Rattle.std.proofs.lemmas.List.{append-nil}
use Rattle.std.proofs.lemmas.List.Elements.{All-nil, All-cons}
use Rattle.fab_base.specs.Seen.{Seen}
use Rattle.fab_config.specs.Settings.{Settings}
use Rattle.fab_policy.specs.Growing.{AreBelow, AreFrom, with_more}
use Rattle.fab_policy.specs.Legal.{window_start}
use Rattle.window_records.specs.Looks.{Opened, records_in}
use Rattle.pcap_file.specs.Capture.{HEAD, Next, Found, End, CutHead, TooLong, CutBytes, next, records_from, is_whole_from}
use Rattle.pcap_file.specs.Reading.{to_come}
use Rattle.pcap_file.specs.Records.{Chain, last_moment}
use Rattle.pcap_file.specs.declared.CaptureHead.{CaptureHead}
use Rattle.pcap_file.specs.declared.Budget.{Budget}
use Rattle.pcap_file.specs.declared.Record.{Record}
use Rattle.pcap_file.proofs.lemmas.Chains.{found_stands, last-push, few, chain_size, go_on, records_on, whole_on, whole_chain}
use Rattle.pcap_file.proofs.lemmas.Numbers.{none_is}
use Rattle.pcap_file.proofs.lemmas.Written.{next_end}
use Rattle.window_records.specs.declared.shelf.Input.{Input}
use Rattle.window_records.specs.declared.shelf.Shelf.{Shelf}
use Rattle.window_records.specs.Laws.{ReadsOn, ReadStays, ReadIsBelow, ReadSplits, ReadIsAll}
use Rattle.window_records.specs.Port.{AreIn, stand_at}
use Rattle.window_records.specs.Ports.{Took, TookAll, walk_at}
use Rattle.window_records.specs.Reads.{HasRead, IsWhole, HaveRead, batches_of}
use Rattle.window_records.proofs.WindowLemmas.{window_start-mono}

-- ---- chains

chain-append : (h : CaptureHead) (g : ℕ) (rs qs : List Record) (l m rest : List ℕ) → Chain h g rs l m → Chain h (last_moment g rs) qs m rest → Chain h g (rs ++ qs) l rest
chain-append h g [] qs l m rest c d = subst (λ k. Chain h g qs k rest) (sym c) d
chain-append h g (r ∷ rs) qs l m rest c d = (c.0, c.1, chain-append h r.moment rs qs c.0 m rest c.2 d)

last-append : (g : ℕ) (rs qs : List Record) → last_moment g (rs ++ qs) ≡ last_moment (last_moment g rs) qs
last-append g [] qs = refl
last-append g (r ∷ rs) qs = last-append r.moment rs qs

-- no records stand where no bytes are
pub nothing_behind : (h : CaptureHead) (g : ℕ) (rs : List Record) (l rest : List ℕ) → l ≡ [] → Chain h g rs l rest → rest ≡ []
nothing_behind h g rs l rest empty c = let size = chain_size h g rs l rest c in let none = ap length empty in none_is rest (omega arith)

none_read : (n : ℕ) (h : CaptureHead) (g : ℕ) → records_from n h g [] ≡ []
none_read zero h g = refl
none_read (suc n) h g = ap (go_on n h) (next_end h g)

none_whole : (n : ℕ) (h : CaptureHead) (g : ℕ) → is_whole_from n h g [] ≡ true
none_whole zero h g = refl
none_whole (suc n) h g = ap (whole_on n h) (next_end h g)

-- ---- windows

below-append : (c : Settings) (w : ℕ) (rs qs : List Record) → AreBelow c w rs → AreIn c w qs → AreBelow c (w + 1) (rs ++ qs)
below-append c w [] [] h k = tt
below-append c w [] (q ∷ qs) h k = (let e = k.0 in omega arith, below-append c w [] qs tt k.1)
below-append c w (r ∷ rs) qs h k = (let e = h.0 in omega arith, below-append c w rs qs h.1 k)

below_later : (c : Settings) (v w : ℕ) (rs : List Record) → v ≤ w → AreBelow c v rs → AreBelow c w rs
below_later c v w [] le h = tt
below_later c v w (r ∷ rs) le h = (let e = h.0 in omega arith, below_later c v w rs le h.1)

-- what is read behind a moment isn't before its window
from_found : (c : Settings) (w n : ℕ) (h : CaptureHead) (g : ℕ) (l : List ℕ) (x : Next) → w ≤ window_start c g → next h g l ≡ x → ((m : ℕ) (k : List ℕ) → w ≤ window_start c m → AreFrom c w (records_from n h m k)) → AreFrom c w (go_on n h x)
from_found c w n h g l (Found moment caught rest) le e more =
    let onward = (found_stands h g l moment caught rest e).onward in
    let later = window_start-mono c g moment onward in
    let from : w ≤ window_start c moment = omega arith in (from, more moment rest from)
from_found c w n h g l End le e more = tt
from_found c w n h g l CutHead le e more = tt
from_found c w n h g l (TooLong len) le e more = tt
from_found c w n h g l (CutBytes len) le e more = tt

from_records : (c : Settings) (w n : ℕ) (h : CaptureHead) (g : ℕ) (l : List ℕ) → w ≤ window_start c g → AreFrom c w (records_from n h g l)
from_records c w zero h g l le = tt
from_records c w (suc n) h g l le = from_found c w n h g l (next h g l) le refl (λ m k. from_records c w n h m k)

-- ---- a port

module _ (c : Settings) (w : ℕ) (o : Opened) (records : List Record) (a b : Seen) (i i' : Input) (s s' : Shelf) (told : b.told ≡ a.told) (h : HasRead c w o records i s a) (t : Took c w (stand_at a i s) (stand_at b i' s')) where
  abbrev so_far : List Record
  so_far = records ++ option_to_list s.next

  all : so_far ++ t.given ≡ (records ++ s'.batch.items) ++ option_to_list s'.next
  all = append_assoc records (option_to_list s.next) t.given ∙ ap (λ l. records ++ l) t.order ∙ sym (append_assoc records s'.batch.items (option_to_list s'.next))

  given_on : IsTrue a.told → Chain o.head (last_moment 0 so_far) t.given (to_come i.reader a i.slot) (to_come i'.reader b i.slot)
  given_on was = subst (λ (g : ℕ). Chain o.head g t.given (to_come i.reader a i.slot) (to_come i'.reader b i.slot)) h.greatest (subst (λ (q : CaptureHead). Chain q i.reader.greatest t.given (to_come i.reader a i.slot) (to_come i'.reader b i.slot)) h.head (t.chain was))

  -- the slot is the same
  at_slot : to_come i'.reader b i.slot ≡ to_come i'.reader b i'.slot
  at_slot = ap (λ (n : ℕ). to_come i'.reader b n) (sym t.slot)

  pub has_read_on : HasRead c (w + 1) o (records ++ s'.batch.items) i' s' b
  has_read_on = record {
    head = t.head ∙ h.head;
    greatest = t.greatest ∙ ap (λ (g : ℕ). last_moment g t.given) h.greatest ∙ sym (last-append 0 so_far t.given) ∙ ap (last_moment 0) all;
    count = let e = t.count in let f = h.count in let g = sym (length-append so_far t.given) ∙ ap length all in omega arith;
    below = below-append c w records s'.batch.items h.below t.in_window;
    chain = λ now.
        let was = subst IsTrue told now in
        subst (Chain o.head 0 ((records ++ s'.batch.items) ++ option_to_list s'.next) o.body) at_slot
        (subst (λ l. Chain o.head 0 l o.body (to_come i'.reader b i.slot)) all (chain-append o.head 0 so_far t.given o.body (to_come i.reader a i.slot) (to_come i'.reader b i.slot) (h.chain was) (given_on was)));
    ended = λ now none. let was = subst IsTrue told now in sym at_slot ∙ t.ended was (h.ended was) none;
  }

module _ (c : Settings) (w : ℕ) (o : Opened) (records : List Record) (i : Input) (s : Shelf) (d : Seen) (told : IsTrue d.told) (h : HasRead c w o records i s d) where
  abbrev found : List Record
  found = records ++ option_to_list s.next

  abbrev behind : List ℕ
  behind = to_come i.reader d i.slot

  fits : length found ≤ length o.body
  fits = omega (arith, few found, chain_size o.head 0 found o.body behind (h.chain told))

  -- the records of the capture are those that were found, and what is read behind them
  splits_found : records_in o ≡ found ++ records_from (suc (length o.body) - length found) o.head (last_moment 0 found) behind
  splits_found = let le = fits in records_on (suc (length o.body)) (suc (length o.body) - length found) o.head 0 found o.body behind (omega arith) (h.chain told)

  at_end : s.next ≡ None → found ≡ records
  at_end none = ap (λ x. records ++ option_to_list x) none ∙ append-nil records

  pub is_all : s.next ≡ None → records_in o ≡ records
  is_all none =
      splits_found
      ∙ ap (λ l. found ++ records_from (suc (length o.body) - length found) o.head (last_moment 0 found) l) (h.ended told none)
      ∙ ap (λ l. found ++ l) (none_read (suc (length o.body) - length found) o.head (last_moment 0 found))
      ∙ append-nil found
      ∙ at_end none

  pub is_whole : s.next ≡ None → IsWhole o
  is_whole none =
      let le = fits in
      whole_chain (length o.body + HEAD) (length o.body + HEAD - length found) o.head 0 found o.body behind (omega arith) (h.chain told)
      ∙ ap (is_whole_from (length o.body + HEAD - length found) o.head (last_moment 0 found)) (h.ended told none)
      ∙ none_whole (length o.body + HEAD - length found) o.head (last_moment 0 found)

  pub splits : IfSome s.next (λ x. w ≤ window_start c x.moment) → (later : List Record) × (records_in o ≡ records ++ later) × AreBelow c w records × AreFrom c w later
  splits from = by_next s.next refl from
    where
      by_next : (x : Option Record) → s.next ≡ x → IfSome x (λ y. w ≤ window_start c y.moment) → (later : List Record) × (records_in o ≡ records ++ later) × AreBelow c w records × AreFrom c w later
      by_next None e le = ([], is_all e ∙ sym (append-nil records), h.below, tt)
      by_next (Some x) e le =
          let n : ℕ = suc (length o.body) - length found in
          let last : last_moment 0 found ≡ x.moment = ap (λ y. last_moment 0 (records ++ option_to_list y)) e ∙ last-push 0 records x in
          let more = records_from n o.head (last_moment 0 found) behind in (
            x ∷ more,
            splits_found ∙ ap (λ y. (records ++ option_to_list y) ++ more) e ∙ append_assoc records (x ∷ []) more,
            h.below,
            (le, from_records c w n o.head (last_moment 0 found) behind (subst (λ (g : ℕ). w ≤ window_start c g) (sym last) le)),
          )

-- ---- all ports

on_lists : (c : Settings) (w : ℕ) (opened : List Opened) (taken : List (List Record)) (a b : Seen) (ins ins' : List Input) (shelves shelves' : List Shelf) (had left : Budget) → b.told ≡ a.told → length ins' ≡ length ins → length shelves' ≡ length shelves →
    HaveRead c w opened taken ins shelves a → TookAll c w (walk_at a ins shelves had) (walk_at b ins' shelves' left) → HaveRead c (w + 1) opened (with_more taken (batches_of shelves')) ins' shelves' b
on_lists c w [] [] a b [] [] [] [] had left told e f h took = tt
on_lists c w [] [] a b [] [] [] (s' ∷ shelves') had left told e f h took = absurd (omega arith)
on_lists c w [] [] a b [] (i' ∷ ins') [] shelves' had left told e f h took = absurd (omega arith)
on_lists c w [] [] a b [] ins' (s ∷ shelves) shelves' had left told e f h took = absurd h
on_lists c w [] [] a b (i ∷ ins) ins' shelves shelves' had left told e f h took = absurd h
on_lists c w [] (rs ∷ taken) a b ins ins' shelves shelves' had left told e f h took = absurd h
on_lists c w (o ∷ opened) [] a b ins ins' shelves shelves' had left told e f h took = absurd h
on_lists c w (o ∷ opened) (rs ∷ taken) a b [] ins' shelves shelves' had left told e f h took = absurd h
on_lists c w (o ∷ opened) (rs ∷ taken) a b (i ∷ ins) ins' [] shelves' had left told e f h took = absurd h
on_lists c w (o ∷ opened) (rs ∷ taken) a b (i ∷ ins) [] (s ∷ shelves) shelves' had left told e f h took = absurd (omega arith)
on_lists c w (o ∷ opened) (rs ∷ taken) a b (i ∷ ins) (i' ∷ ins') (s ∷ shelves) [] had left told e f h took = absurd (omega arith)
on_lists c w (o ∷ opened) (rs ∷ taken) a b (i ∷ ins) (i' ∷ ins') (s ∷ shelves) (s' ∷ shelves') had left told e f h took = (
  has_read_on c w o rs a b i i' s s' told h.0 (took 0 i i' s s' (record { input = refl; shelf = refl }) (record { input = refl; shelf = refl })),
  on_lists c w opened taken a b ins ins' shelves shelves' had left told (omega arith) (omega arith) h.1 (λ q j j' u u' at at'. took (suc q) j j' u u' (record { input = at.input; shelf = at.shelf }) (record { input = at'.input; shelf = at'.shelf })),
)

pub reads_on : ReadsOn
reads_on c w opened taken old new = on_lists c w opened taken old.seen new.seen old.ins new.ins old.shelves new.shelves old.left new.left

pub read_stays : ReadStays
read_stays c v w [] [] [] [] d le h = tt
read_stays c v w [] [] [] (s ∷ shelves) d le h = absurd h
read_stays c v w [] [] (i ∷ ins) shelves d le h = absurd h
read_stays c v w [] (rs ∷ taken) ins shelves d le h = absurd h
read_stays c v w (o ∷ opened) [] ins shelves d le h = absurd h
read_stays c v w (o ∷ opened) (rs ∷ taken) [] shelves d le h = absurd h
read_stays c v w (o ∷ opened) (rs ∷ taken) (i ∷ ins) [] d le h = absurd h
read_stays c v w (o ∷ opened) (rs ∷ taken) (i ∷ ins) (s ∷ shelves) d le h = (
  record { head = h.0.head; greatest = h.0.greatest; count = h.0.count; below = below_later c v w rs le h.0.below; chain = h.0.chain; ended = h.0.ended },
  read_stays c v w opened taken ins shelves d le h.1,
)

pub read_is_below : ReadIsBelow
read_is_below c w [] [] [] [] d h = (refl, tt)
read_is_below c w [] [] [] (s ∷ shelves) d h = absurd h
read_is_below c w [] [] (i ∷ ins) shelves d h = absurd h
read_is_below c w [] (rs ∷ taken) ins shelves d h = absurd h
read_is_below c w (o ∷ opened) [] ins shelves d h = absurd h
read_is_below c w (o ∷ opened) (rs ∷ taken) [] shelves d h = absurd h
read_is_below c w (o ∷ opened) (rs ∷ taken) (i ∷ ins) [] d h = absurd h
read_is_below c w (o ∷ opened) (rs ∷ taken) (i ∷ ins) (s ∷ shelves) d h = let more = read_is_below c w opened taken ins shelves d h.1 in let e = more.0 in (omega arith, (h.0.below, more.1))

pub read_splits : ReadSplits
read_splits c w [] [] [] [] d left told h ready = tt
read_splits c w [] [] [] (s ∷ shelves) d left told h ready = absurd h
read_splits c w [] [] (i ∷ ins) shelves d left told h ready = absurd h
read_splits c w [] (rs ∷ taken) ins shelves d left told h ready = absurd h
read_splits c w (o ∷ opened) [] ins shelves d left told h ready = absurd h
read_splits c w (o ∷ opened) (rs ∷ taken) [] shelves d left told h ready = absurd h
read_splits c w (o ∷ opened) (rs ∷ taken) (i ∷ ins) [] d left told h ready = absurd h
read_splits c w (o ∷ opened) (rs ∷ taken) (i ∷ ins) (s ∷ shelves) d left told h ready = (
  splits c w o rs i s d told h.0 (ready 0 i s (record { input = refl; shelf = refl })).1,
  read_splits c w opened taken ins shelves d left told h.1 (λ q j u at. ready (suc q) j u (record { input = at.input; shelf = at.shelf })),
)

pub read_is_all : ReadIsAll
read_is_all c w [] [] [] [] d told h none = (refl, All-nil IsWhole)
read_is_all c w [] [] [] (s ∷ shelves) d told h none = absurd h
read_is_all c w [] [] (i ∷ ins) shelves d told h none = absurd h
read_is_all c w [] (rs ∷ taken) ins shelves d told h none = absurd h
read_is_all c w (o ∷ opened) [] ins shelves d told h none = absurd h
read_is_all c w (o ∷ opened) (rs ∷ taken) [] shelves d told h none = absurd h
read_is_all c w (o ∷ opened) (rs ∷ taken) (i ∷ ins) [] d told h none = absurd h
read_is_all c w (o ∷ opened) (rs ∷ taken) (i ∷ ins) (s ∷ shelves) d told h none =
    let more = read_is_all c w opened taken ins shelves d told h.1 (λ q u at. none (suc q) u at) in
    let own = none 0 s refl in (
      (λ k. sym (is_all c w o rs i s d told h.0 own) k ∷ more.0 k),
      All-cons IsWhole o opened (is_whole c w o rs i s d told h.0 own) more.1,
    )
