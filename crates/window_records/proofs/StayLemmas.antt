-- What was read of captures stays where as much is left of each.
use Rattle.std.proofs.Common.{◌≡◌, ℕ, suc, ◌+◌, ◌<◌, List, [], ◌∷◌, ◌++◌, length, Option, Some, None, option_to_list, IsTrue, refl, sym, ap, ◌∙◌, subst, arith}
use Rattle.fab_base.specs.Seen.{Seen}
use Rattle.fab_config.specs.Settings.{Settings}
use Rattle.fab_policy.specs.Legal.{window_start}
use Rattle.window_records.specs.Looks.{Look, Opened, in_order, looks, stop_in}
use Rattle.pcap_file.specs.Records.{Chain}
use Rattle.pcap_file.specs.declared.Budget.{Budget}
use Rattle.pcap_file.specs.declared.Record.{Record}
use Rattle.window_records.specs.declared.shelf.Input.{Input}
use Rattle.window_records.specs.declared.shelf.Shelf.{Shelf}
use Rattle.window_records.specs.First.{opened_in}
use Rattle.window_records.specs.Port.{to_look}
use Rattle.fab_base.specs.Slots.{slot_at}
use Rattle.window_records.specs.Ports.{joined, rests, slots_of, stop_from}
use Rattle.window_records.specs.Reads.{HasRead, HaveRead}

-- what is left of each input is the same
abbrev pub LeftStays : Seen → Seen → List Input → Type 0
LeftStays a b [] = Unit {0}
LeftStays a b (i ∷ ins) = (b.left i.slot ≡ a.left i.slot) × LeftStays a b ins

-- where that is so of each slot
pub left_stays : (a b : Seen) (ins : List Input) → ((q : ℕ) → q < length (slots_of ins) → b.left (slot_at (slots_of ins) q) ≡ a.left (slot_at (slots_of ins) q)) → LeftStays a b ins
left_stays a b [] h = tt
left_stays a b (i ∷ ins) h = (h 0 (omega arith), left_stays a b ins (λ q lt. h (suc q) (omega (arith, lt))))

-- a capture with these bytes left in its file
abbrev with_rest : Input → List ℕ → Opened
with_rest i rest = record { head = i.reader.head; body = i.reader.held ++ rest }

-- the captures are the same
pub opened_stay : (a b : Seen) (ins : List Input) → LeftStays a b ins → opened_in b ins ≡ opened_in a ins
opened_stay a b [] h = refl
opened_stay a b (i ∷ ins) h = (λ j. ap (with_rest i) h.0 j ∷ opened_stay a b ins h.1 j)

module _ (c : Settings) (a b : Seen) where
  look_stays : (p : ℕ) (i : Input) (count : ℕ) (next : Option Record) → b.left i.slot ≡ a.left i.slot → to_look c p b i.slot i.reader count next ≡ to_look c p a i.slot i.reader count next
  look_stays p i count None e = refl
  look_stays p i count (Some x) e =
      ap (λ (l : List ℕ). looks c p (record { head = i.reader.head; index = count; at = i.reader.at; window = Some (window_start c x.moment); greatest = i.reader.greatest; bytes = i.reader.held ++ l })) e

  rests_stay : (p : ℕ) (ins : List Input) (shelves : List Shelf) → LeftStays a b ins → rests c p b ins shelves ≡ rests c p a ins shelves
  rests_stay p [] shelves h = refl
  rests_stay p (i ∷ ins) [] h = refl
  rests_stay p (i ∷ ins) (s ∷ shelves) h = (λ j. look_stays p i s.count s.next h.0 j ∷ rests_stay (p + 1) ins shelves h.1 j)

  -- the looks to come stop where they did
  pub stop_stays : (first : ℕ) (ins : List Input) (shelves : List Shelf) (left : Budget) → LeftStays a b ins → stop_from c first b ins shelves left ≡ stop_from c first a ins shelves left
  stop_stays first ins shelves left h = ap (λ (l : List (List Look)). stop_in first left.bytes left.frames (in_order (joined l))) (rests_stay 1 ins shelves h)

  module _ (told : b.told ≡ a.told) (w : ℕ) where
    has_read_stays : (o : Opened) (records : List Record) (i : Input) (s : Shelf) → b.left i.slot ≡ a.left i.slot → HasRead c w o records i s a → HasRead c w o records i s b
    has_read_stays o records i s e h = record {
      head = h.head;
      greatest = h.greatest;
      count = h.count;
      below = h.below;
      chain = λ t. subst (λ l. Chain o.head 0 (records ++ option_to_list s.next) o.body (i.reader.held ++ l)) (sym e) (h.chain (subst IsTrue told t));
      ended = λ t none. ap (λ (l : List ℕ). i.reader.held ++ l) e ∙ h.ended (subst IsTrue told t) none;
    }

    -- and so is what was read
    pub have_read_stays : (opened : List Opened) (taken : List (List Record)) (ins : List Input) (shelves : List Shelf) → LeftStays a b ins → HaveRead c w opened taken ins shelves a → HaveRead c w opened taken ins shelves b
    have_read_stays [] [] [] [] e h = tt
    have_read_stays [] [] [] (s ∷ shelves) e h = absurd h
    have_read_stays [] [] (i ∷ ins) shelves e h = absurd h
    have_read_stays [] (records ∷ taken) ins shelves e h = absurd h
    have_read_stays (o ∷ opened) [] ins shelves e h = absurd h
    have_read_stays (o ∷ opened) (records ∷ taken) [] shelves e h = absurd h
    have_read_stays (o ∷ opened) (records ∷ taken) (i ∷ ins) [] e h = absurd h
    have_read_stays (o ∷ opened) (records ∷ taken) (i ∷ ins) (s ∷ shelves) e h = (has_read_stays o records i s e.0 h.0, have_read_stays opened taken ins shelves e.1 h.1)
