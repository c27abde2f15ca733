-- How the reading of captures begins, goes on window by window, and stays where something else is done.
use Rattle.std.proofs.Common.{◌≡◌, ℕ, ◌+◌, ◌^◌, ◌<◌, ◌≤◌, List, [], length, map, Option, Some, None, IsTrue, Ok, sym, ap, ◌∙◌, subst, arith}
use Rattle.std.specs.Prelude.{unwrap_or, Vec}
use Rattle.std.specs.declared.alloc.Global.{Global}
use Rattle.fab_base.specs.Seen.{Seen}
use Rattle.fab_config.specs.Settings.{Settings}
use Rattle.fab_policy.specs.Growing.{with_more}
use Rattle.window_records.specs.Keeping.{IsAhead, Splits}
use Rattle.window_records.specs.Looks.{first_window, in_order, stop}
use Rattle.pcap_file.specs.declared.Budget.{Budget}
use Rattle.pcap_file.specs.declared.Record.{Record}
use Rattle.window_records.specs.declared.shelf.Input.{Input}
use Rattle.window_records.specs.declared.shelf.Shelf.{Shelf}
use Rattle.window_records.specs.First.{IsNextWindow, LooksFirst, Start, opened_in, start_at}
use Rattle.window_records.specs.Gather.{Gathers}
use Rattle.window_records.specs.Laws.{LooksAhead}
use Rattle.window_records.specs.Port.{Spends}
use Rattle.window_records.specs.Ports.{Walk, AreReady, joined, rests, stop_from, walk_at}
use Rattle.window_records.specs.Reads.{HaveRead, batches_of}
use Rattle.window_records.specs.Walked.{Walked}
use Rattle.window_records.proofs.NextLemmas.{next_is_ahead, next_is_first, none_is_left}
use Rattle.window_records.proofs.ReadLemmas.{read_splits, read_stays, reads_on}
use Rattle.window_records.proofs.SlotLemmas.{same_length}
use Rattle.window_records.proofs.StayLemmas.{LeftStays, have_read_stays, opened_stay, stop_stays}

-- ---- the first looks

-- the first window comes before all others
first_stop : (c : Settings) (d : Seen) (ins : List Input) (shelves : List Shelf) (left : Budget) → length shelves ≡ length ins → AreReady c 0 ins shelves left → (o : Option ℕ) → IsNextWindow c shelves o →
    stop_from c (first_window (in_order (joined (rests c 1 d ins shelves)))) d ins shelves left ≡ stop_from c (unwrap_or o 0) d ins shelves left
first_stop c d ins shelves left count ready None next = none_is_left c _ d ins shelves left next ∙ sym (none_is_left c 0 d ins shelves left next)
first_stop c d ins shelves left count ready (Some w) next = ap (λ (n : ℕ). stop_from c n d ins shelves left) (next_is_first c 0 w d ins shelves left count ready next)

pub walked_first : (c : Settings) (start looked : Start) (v : Vec Shelf Global) → LooksFirst c start looked (Ok v) → (o : Option ℕ) → IsNextWindow c v.items o →
    Walked c start 0 (unwrap_or o 0) (map (λ i. []) start.ins) (walk_at looked.seen looked.ins v.items looked.left)
walked_first c start looked v f o next =
    let count = f.count ∙ sym (same_length start.ins looked.ins f.slots) in
    record {
      told = f.uses.touches.told;
      slots = f.slots;
      count = count;
      ready = f.ready;
      read = f.read;
      spent = f.spent;
      stops = λ told. f.looks_ told ∙ first_stop c looked.seen looked.ins v.items looked.left count f.ready o next;
    }

-- the same from before something was done that left the captures as they were
pub walked_before : (c : Settings) (a b : Seen) (ins : List Input) (had : Budget) (w first : ℕ) (taken : List (List Record)) (walk : Walk) → b.told ≡ a.told → LeftStays a b ins →
    Walked c (start_at b ins had) w first taken walk → Walked c (start_at a ins had) w first taken walk
walked_before c a b ins had w first taken walk told same h =
    let opened = opened_stay a b ins same in
    record {
      told = h.told ∙ told;
      slots = h.slots;
      count = h.count;
      ready = h.ready;
      read = subst (λ o. HaveRead c w o taken walk.ins walk.shelves walk.seen) opened h.read;
      spent = h.spent;
      stops = λ t. sym (ap (stop c had.bytes had.frames) opened) ∙ h.stops (subst IsTrue (sym told) t);
    }

-- ---- between windows

module _ (c : Settings) (start : Start) (w first : ℕ) (taken : List (List Record)) (walk : Walk) (h : Walked c start w first taken walk) where
  -- the depot tells as it did
  pub tells_on : IsTrue start.seen.told → IsTrue walk.seen.told
  tells_on told = subst IsTrue (sym h.told) told

  -- as many inputs as at the start
  pub ports_on : length walk.ins ≡ length start.ins
  ports_on = same_length start.ins walk.ins h.slots

  -- the records of each capture are those that were taken, and then later ones
  pub walked_splits : IsTrue start.seen.told → Splits c w (opened_in start.seen start.ins) taken
  walked_splits told = read_splits c w (opened_in start.seen start.ins) taken walk.ins walk.shelves walk.seen walk.left (tells_on told) h.read h.ready

  -- and the captures stop in that window or later
  pub walked_ahead : LooksAhead → IsTrue start.seen.told → IsAhead w (stop c start.left.bytes start.left.frames (opened_in start.seen start.ins))
  walked_ahead ahead told = subst (IsAhead w) (sym (h.stops told)) (ahead c first w walk.seen walk.ins walk.shelves walk.left h.ready)

  -- a later window that comes next
  module _ (v : ℕ) (next : IsNextWindow c walk.shelves (Some v)) where
    after : (w ≤ v) × (v < 2 ^ 43) × AreReady c v walk.ins walk.shelves walk.left
    after = next_is_ahead c w v walk.ins walk.shelves walk.left h.count h.ready next

    pub next_later : w ≤ v
    next_later = after.0

    pub next_soon : v < 2 ^ 43
    next_soon = after.1

    pub walked_next : Walked c start v first taken walk
    walked_next = record {
      told = h.told;
      slots = h.slots;
      count = h.count;
      ready = after.2;
      read = read_stays c w v (opened_in start.seen start.ins) taken walk.ins walk.shelves walk.seen after.0 h.read;
      spent = h.spent;
      stops = h.stops;
    }

  -- the window was gathered
  pub walked_on : (new : Walk) → Gathers c first w walk new (Ok tt) → Walked c start (w + 1) first (with_more taken (batches_of new.shelves)) new
  walked_on new t =
      let ports = same_length walk.ins new.ins t.slots in
      record {
        told = t.uses.touches.told ∙ h.told;
        slots = t.slots ∙ h.slots;
        count = t.count ∙ h.count ∙ sym ports;
        ready = t.ready;
        read = reads_on c w (opened_in start.seen start.ins) taken walk new t.uses.touches.told ports t.count h.read t.took;
        spent = spends_both h.spent t.spent;
        stops = λ told. h.stops told ∙ t.looks (tells_on told);
      }
    where
      spends_both : {had mid left : Budget} {a b : ℕ} → Spends had mid 0 a → Spends mid left a b → Spends had left 0 b
      spends_both s u = record { frames = omega (arith, s.frames, u.frames); bytes = omega (arith, s.bytes, u.bytes) }

  -- something else was done, which left the captures as they were
  pub walked_stays : (z : Seen) → z.told ≡ walk.seen.told → LeftStays walk.seen z walk.ins → Walked c start w first taken (walk_at z walk.ins walk.shelves walk.left)
  walked_stays z told same = record {
    told = told ∙ h.told;
    slots = h.slots;
    count = h.count;
    ready = h.ready;
    read = have_read_stays c walk.seen z told w (opened_in start.seen start.ins) taken walk.ins walk.shelves same h.read;
    spent = h.spent;
    stops = λ t. h.stops t ∙ sym (stop_stays c walk.seen z first walk.ins walk.shelves walk.left same);
  }
