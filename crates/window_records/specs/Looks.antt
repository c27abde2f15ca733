-- In which order the captures are read, where that stops, and what is kept then.
use Rattle.std.specs.Prelude.{◌≡◌, ℕ, zero, suc, ◌+◌, ◌-◌, Bool, true, false, not, ◌==◌, nat_lt, ◌&&◌, ◌||◌, if◌then◌else◌, List, [], ◌∷◌, ◌++◌, length, filter, map, Option, Some, None}
use Rattle.fab_base.specs.declared.values.Caught.{Caught}
use Rattle.fab_config.specs.Settings.{Settings}
use Rattle.fab_policy.specs.Legal.{window_start}
use Rattle.pcap_file.specs.Capture.{HEAD, RECORD_HEAD, Next, Found, next, records_from}
use Rattle.pcap_file.specs.Reading.{Why, failure, error_of, Step, Gives, Ends, Stops, step_of, place_after}
use Rattle.pcap_file.specs.declared.Budget.{Budget}
use Rattle.pcap_file.specs.declared.CaptureHead.{CaptureHead}
use Rattle.pcap_file.specs.declared.Record.{Record}

-- ---- looks

-- A capture whose head was read, and the bytes behind its head.
pub record Opened : Type 0 where
  pub head : CaptureHead
  pub body : List ℕ

-- Where the reading of a capture stands: how many records were found, the place in the file, the window of the last record
-- and its moment, and the bytes that are left.
pub record Spot : Type 0 where
  pub head : CaptureHead
  pub index : ℕ
  pub at : ℕ
  pub window : Option ℕ
  pub greatest : ℕ
  pub bytes : List ℕ

-- A look at a record of a port's capture: its number, its place in the file, the window that the look belongs to, which the
-- look at the first record doesn't have, and what is found.
pub record Look : Type 0 where
  pub port : ℕ
  pub index : ℕ
  pub at : ℕ
  pub window : Option ℕ
  pub found : Next

-- the bytes of a record in its file
abbrev pub record_size : Caught → ℕ
record_size caught = RECORD_HEAD + length caught.bytes

abbrev pub found_at : Spot → Next
found_at s = next s.head s.greatest s.bytes

abbrev pub look_at : ℕ → Spot → Look
look_at port s = record { port = port; index = s.index; at = s.at; window = s.window; found = found_at s }

-- behind a record; the look there belongs to the record's window, and places stay at the last number of 64 bits
abbrev pub behind : Settings → Spot → ℕ → Caught → List ℕ → Spot
behind c s moment caught rest = record { head = s.head; index = s.index + 1; at = place_after s.at (record_size caught); window = Some (window_start c moment); greatest = moment; bytes = rest }

-- the looks from a spot on, of which there are at most n
abbrev pub looks_from : Settings → ℕ → ℕ → Spot → List Look
looks_from c port zero s = []
looks_from c port (suc n) s = look_at port s ∷ elim (found_at s) [ Found moment caught rest ↦ looks_from c port n (behind c s moment caught rest) | _ ↦ [] ]

-- all looks from a spot on
unfoldable pub looks : Settings → ℕ → Spot → List Look
looks c port s = looks_from c port (suc (length s.bytes)) s

abbrev pub first_spot : Opened → Spot
first_spot o = record { head = o.head; index = 0; at = HEAD; window = None; greatest = 0; bytes = o.body }

-- all looks at the captures of the ports from this one on
abbrev pub looks_of : Settings → ℕ → List Opened → List Look
looks_of c port [] = []
looks_of c port (o ∷ more) = looks c port (first_spot o) ++ looks_of c (port + 1) more

-- the first looks come first, then windows ascend, then ports, then records
abbrev pub window_before : Option ℕ → Option ℕ → Bool
window_before x None = false
window_before None (Some w) = true
window_before (Some v) (Some w) = nat_lt v w

abbrev pub comes_before : Look → Look → Bool
comes_before x y =
    window_before x.window y.window
    || (not (window_before y.window x.window) && (nat_lt x.port y.port || (x.port == y.port && nat_lt x.index y.index)))

-- looks in order, with one more
abbrev pub with_look : Look → List Look → List Look
with_look x [] = x ∷ []
with_look x (y ∷ looks) = if comes_before x y then x ∷ y ∷ looks else y ∷ with_look x looks

abbrev pub in_order : List Look → List Look
in_order [] = []
in_order (x ∷ looks) = with_look x (in_order looks)

-- ---- where it stops

-- Why the reading of captures stops: what a look finds can't be taken, or the look's window starts too long after the first.
pub data Reason : Type 0 where
  Fails : (why : Why) → Reason
  Span : Reason

-- A stop: why, at which place of which port's capture, and in which window, which a first look doesn't have.
pub record Stop : Type 0 where
  pub why : Reason
  pub port : ℕ
  pub at : ℕ
  pub window : Option ℕ

-- the most milliseconds from the first window of a run to its last: six hours
abbrev pub MOST_SPAN : ℕ
MOST_SPAN = 21600000

-- a look's window starts too long after the first window
abbrev pub is_too_late : ℕ → Option ℕ → Bool
is_too_late first None = false
is_too_late first (Some w) = nat_lt MOST_SPAN (w - first)

-- how many bytes a look takes
abbrev pub taken : Next → ℕ
taken (Found moment caught rest) = record_size caught
taken _ = 0

-- a record stands there
abbrev pub is_found : Next → Bool
is_found (Found moment caught rest) = true
is_found _ = false

-- how many frames a look takes
abbrev pub count_of : Next → ℕ
count_of (Found moment caught rest) = 1
count_of _ = 0

-- a stop at a look
abbrev pub stop_at : Reason → Look → Stop
stop_at why x = record { why = why; port = x.port; at = x.at; window = x.window }

-- the first stop among looks in order, with what is left of the limits; the first window comes before all others
abbrev pub stop_in : ℕ → ℕ → ℕ → List Look → Option Stop
stop_in first bytes frames [] = None
stop_in first bytes frames (x ∷ looks) =
    elim (is_too_late first x.window) [
      | true ↦ Some (stop_at Span x)
      | false ↦ elim (failure bytes frames x.found) [
        | Some why ↦ Some (stop_at (Fails why) x)
        | None ↦ stop_in first (bytes - taken x.found) (frames - count_of x.found) looks
      ]
    ]

-- the window of the first look that has one
abbrev pub first_window : List Look → ℕ
first_window [] = 0
first_window (x ∷ looks) = elim x.window [ Some w ↦ w | None ↦ first_window looks ]

-- Where the reading of captures stops, if it does, with so many bytes and frames left of the limits.
unfoldable pub stop : Settings → ℕ → ℕ → List Opened → Option Stop
stop c bytes frames ins = let looks = in_order (looks_of c 1 ins) in stop_in (first_window looks) bytes frames looks

-- the records of a capture, up to its end or a fault
abbrev pub records_in : Opened → List Record
records_in o = records_from (suc (length o.body)) o.head 0 o.body

abbrev pub all_records : List Opened → List (List Record)
all_records ins = map records_in ins

-- The records of a port that are kept: all without a stop, those of earlier windows than the stop's, and none at a first look.
abbrev pub kept : Settings → Option Stop → List Record → List Record
kept c None records = records
kept c (Some s) records = elim s.window [ None ↦ [] | Some w ↦ filter (λ r. nat_lt (window_start c r.moment) w) records ]

-- the records of each port that a stop keeps
abbrev pub all_kept : Settings → Stop → List (List Record) → List (List Record)
all_kept c s ins = map (kept c (Some s)) ins

-- ---- laws

-- behind a record that is found the looks go on
abbrev pub LooksFound : Type 0
LooksFound =
    (c : Settings) (port : ℕ) (s : Spot) (moment : ℕ) (caught : Caught) (rest : List ℕ) → found_at s ≡ Found moment caught rest
    → looks c port s ≡ look_at port s ∷ looks c port (behind c s moment caught rest)

-- at the end of a capture there is one look, and at a fault
abbrev pub LooksEnd : Type 0
LooksEnd = (c : Settings) (port : ℕ) (s : Spot) → is_found (found_at s) ≡ false → looks c port s ≡ look_at port s ∷ []

-- What a reader's step at a look says of the stop among it and later ones: a record is passed, and so is the end; an error
-- tells the stop.
abbrev pub FindsStop : ℕ → Budget → Look → List Look → Step → Type 0
FindsStop first budget x more (Gives moment caught rest) =
    stop_in first budget.bytes budget.frames (x ∷ more) ≡ stop_in first (budget.bytes - record_size caught) (budget.frames - 1) more
FindsStop first budget x more Ends = stop_in first budget.bytes budget.frames (x ∷ more) ≡ stop_in first budget.bytes budget.frames more
FindsStop first budget x more (Stops e) =
    (why : Why) × (e ≡ error_of why x.at) × (stop_in first budget.bytes budget.frames (x ∷ more) ≡ Some (stop_at (Fails why) x))

-- A reader's steps find the stop, at looks that aren't too late.
abbrev pub StepsFindStop : Type 0
StepsFindStop =
    (first : ℕ) (budget : Budget) (x : Look) (more : List Look) (step : Step) → is_too_late first x.window ≡ false → step_of budget x.at x.found ≡ step
    → FindsStop first budget x more step

-- The first look that is too late is a stop, if none was before.
abbrev pub LateIsStop : Type 0
LateIsStop =
    (first bytes frames : ℕ) (x : Look) (more : List Look) → is_too_late first x.window ≡ true → stop_in first bytes frames (x ∷ more) ≡ Some (stop_at Span x)
