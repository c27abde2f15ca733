-- The tests of a seam in their order, and the first that fails with its line.
use Rattle.std.specs.Prelude.{ℕ, Bool, true, false, ◌+◌, ◌*◌, ◌-◌, ◌%◌, ◌^◌, ◌==◌, not, ◌&&◌, ◌||◌, nat_lt, nat_le, if◌then◌else◌, List, [], ◌∷◌, length, Option, Some, None, is_some, is_none, slice_get}
use Rattle.fab_base.specs.Fabric.{PORT_PERIOD, Past, is_silent, same_enode}
use Rattle.fab_base.specs.declared.values.Enode.{Enode}
use Rattle.fab_config.specs.Settings.{Settings}
use Rattle.ct_messages.specs.Server.{Values}
use Rattle.fab_policy.specs.Outputs.{State}
use Rattle.fab_policy.specs.State.{LivePort, Tables, now_of}
use Rattle.fab_pieces.specs.Seam.{Seam, past_rows}
use Rattle.fab_state.specs.declared.fit.FitFault.{FitFault}
use Rattle.fab_state.specs.declared.fit.FitWhy.{FitWhy}
use Rattle.fab_state.specs.declared.fit.FitWhy.TheVariants.{Begun, Window, Clock, Alone, Advertised, Period, Changes, Greatest, Ports, Pool, Ended, Unheld, Limit, Order, Holder, Name, Voice, Port, Heard, Overdue, Size, Watch, Features, Symbol}

-- ---- faults

abbrev pub at_line : ℕ → FitWhy → Option FitFault
at_line line why = Some (record { line = line; why = why })

-- the fault of a line that has one, and else what comes behind it
abbrev pub or_behind : ℕ → Option FitWhy → Option FitFault → Option FitFault
or_behind line None behind = behind
or_behind line (Some why) behind = at_line line why

-- the first of two that is there
abbrev pub or_then : {X : Type 0} → Option X → Option X → Option X
or_then None other = other
or_then (Some x) other = Some x

-- ---- the head: lines 2 to 5

abbrev pub is_unused : Past → Bool
is_unused q = is_none q.name && is_none q.ended

abbrev pub are_unused : List Past → Bool
are_unused [] = true
are_unused (q ∷ past) = if is_unused q then are_unused past else false

abbrev pub is_first : State → Bool
is_first S = length S.tables.ports == 0 && S.rscns == 0 && are_unused S.tables.past

abbrev pub start_fault : State → Option FitFault
start_fault S = if is_some S.advertised then at_line 3 Alone else if is_first S then None else at_line 2 Begun

abbrev pub advertised_fault : Settings → ℕ → ℕ → Option FitFault
advertised_fault c t last = if nat_lt t last then at_line 3 Advertised else if nat_le c.period (t - last) then at_line 3 Period else None

abbrev pub last_fault : Settings → ℕ → Option ℕ → Option FitFault
last_fault c t None = at_line 3 Alone
last_fault c t (Some last) = advertised_fault c t last

abbrev pub is_start : Settings → ℕ → Bool
is_start c t = t % c.window == 0

abbrev pub started_fault : Settings → ℕ → Option ℕ → Option FitFault
started_fault c t last = if not (is_start c t) then at_line 2 Window else if nat_le (2 ^ 43) t then at_line 2 Clock else last_fault c t last

abbrev pub clock_fault : Settings → State → Option ℕ → Option FitFault
clock_fault c S None = start_fault S
clock_fault c S (Some t) = started_fault c t S.advertised

abbrev pub counts_fault : Seam → Option FitFault
counts_fault s =
    if nat_le 65535 s.state.rscns then at_line 4 Changes
    else if nat_lt s.greatest (now_of s.state.tables) then at_line 5 Greatest
    else None

abbrev pub head_fault : Settings → Seam → Option FitFault
head_fault c s = or_then (clock_fault c s.state s.state.tables.clock) (counts_fault s)

-- ---- addresses

abbrev pub first_of : Settings → ℕ
first_of c = c.domain * 65536 + 256

-- addresses that go up by 1
abbrev pub are_counted : ℕ → List Past → Bool
are_counted first [] = true
are_counted first (q ∷ past) = if q.address == first then are_counted (q.address + 1) past else false

abbrev pub are_places : Settings → List Past → Bool
are_places c past = length past == c.pool && are_counted (first_of c) past

abbrev pub is_later : ℕ → Option ℕ → Bool
is_later now None = false
is_later now (Some t) = nat_lt now t

abbrev pub is_free : Past → Bool
is_free q = if is_some q.name then is_some q.ended else not (is_some q.ended)

abbrev pub has_login : ℕ → List LivePort → Bool
has_login a [] = false
has_login a (p ∷ ports) = if p.address == a then true else has_login a ports

abbrev pub past_why : ℕ → List LivePort → Past → Option FitWhy
past_why now ports q = if is_later now q.ended then Some Ended else if is_free q || has_login q.address ports then None else Some Unheld

-- An address that anybody had has a line.
abbrev pub pasts_fault : ℕ → List LivePort → ℕ → List Past → Option FitFault
pasts_fault now ports line [] = None
pasts_fault now ports line (q ∷ past) = or_behind line (past_why now ports q) (pasts_fault now ports (line + length (past_rows (q ∷ []))) past)

-- ---- logins

abbrev pub is_name : ℕ → Option ℕ → Bool
is_name name None = false
is_name name (Some last) = last == name

abbrev pub is_held : ℕ → Past → Bool
is_held name q = is_name name q.name && is_none q.ended

abbrev pub is_held_by : ℕ → Option Past → Bool
is_held_by name None = false
is_held_by name (Some q) = is_held name q

abbrev pub is_holder : ℕ → List Past → LivePort → Bool
is_holder first past p = if nat_lt p.address first then false else is_held_by p.name (slice_get past (p.address - first))

abbrev pub is_named : ℕ → List LivePort → Bool
is_named name [] = false
is_named name (q ∷ ports) = if q.name == name then true else is_named name ports

abbrev pub is_other_voice : LivePort → LivePort → Bool
is_other_voice p q = same_enode p.enode q.enode && not (p.node_heard == q.node_heard)

abbrev pub has_other_voice : LivePort → List LivePort → Bool
has_other_voice p [] = false
has_other_voice p (q ∷ ports) = if is_other_voice p q then true else has_other_voice p ports

abbrev pub place_why : ℕ → List Past → ℕ → LivePort → List LivePort → Option FitWhy
place_why first past least p behind =
    if nat_lt p.address least then Some Order
    else if not (is_holder first past p) then Some Holder
    else if is_named p.name behind then Some Name
    else if has_other_voice p behind then Some Voice
    else None

abbrev pub is_elsewhere : ℕ → Enode → Bool
is_elsewhere n x = nat_lt x.port 1 || nat_lt n x.port

abbrev pub is_overdue : ℕ → ℕ → LivePort → Bool
is_overdue period now p = is_silent period p.node_heard now || is_silent PORT_PERIOD p.port_heard now

abbrev pub heard_why : ℕ → ℕ → ℕ → LivePort → Option FitWhy
heard_why period n now p =
    if is_elsewhere n p.enode then Some Port
    else if nat_lt now p.node_heard || nat_lt now p.port_heard then Some Heard
    else if is_overdue period now p then Some Overdue
    else None

abbrev pub is_size : Option ℕ → Bool
is_size None = true
is_size (Some size) = nat_le 256 size && nat_le size 2112 && size % 4 == 0

abbrev pub are_low : List ℕ → Bool
are_low [] = true
are_low (f ∷ features) = if nat_lt f 16 then are_low features else false

abbrev pub are_features : List ℕ → Bool
are_features features = length features == 256 && are_low features

abbrev pub values_why : Values → Option FitWhy
values_why v =
    if not (are_features v.features) then Some Features
    else if nat_lt 255 (length v.symbol) || nat_lt 255 (length v.node_symbol) then Some Symbol
    else None

abbrev pub served_why : LivePort → Option FitWhy
served_why p = if not (is_size p.server) then Some Size else if nat_lt 3 p.watch then Some Watch else values_why p.values

abbrev pub login_why : Settings → ℕ → Tables → ℕ → LivePort → List LivePort → Option FitWhy
login_why c n T least p behind =
    or_then (place_why (first_of c) T.past least p behind) (or_then (heard_why c.period n (now_of T) p) (served_why p))

-- A login has a line.
abbrev pub logins_fault : Settings → ℕ → Tables → ℕ → ℕ → List LivePort → Option FitFault
logins_fault c n T least line [] = None
logins_fault c n T least line (p ∷ behind) = or_behind line (login_why c n T least p behind) (logins_fault c n T (p.address + 1) (line + 1) behind)

-- the number of logins, in the line of the first one too many; and each
abbrev pub all_logins_fault : Settings → ℕ → Tables → ℕ → Option FitFault
all_logins_fault c n T line =
    if nat_lt c.limit (length T.ports) then at_line (line + c.limit) Limit else logins_fault c n T (first_of c) line T.ports

-- ---- all of it

-- addresses and logins, the lines of the addresses beginning with this one
abbrev pub tables_fault : Settings → ℕ → ℕ → Tables → Option FitFault
tables_fault c n line T =
    if not (are_places c T.past) then at_line line Pool
    else or_then (pasts_fault (now_of T) T.ports line T.past) (all_logins_fault c n T (line + length (past_rows T.past)))

abbrev pub behind_head : Settings → ℕ → Seam → Option FitFault
behind_head c n s = if not (length s.nexts == n) then at_line 6 Ports else tables_fault c n (6 + n) s.state.tables

-- The first fault of a seam.
abbrev pub fault_of : Settings → ℕ → Seam → Option FitFault
fault_of c n s = or_then (head_fault c s) (behind_head c n s)
