-- What files are to a bridge, and what its outputs hold then.
use Rattle.std.specs.Prelude.{◌≡◌, ℕ, if◌then◌else◌, List, ◌∷◌, ◌++◌, map, Option, Result, Ok, Err}
use Rattle.fab_config.specs.Settings.{Settings}
use Rattle.fab_base.specs.Counting.{counting}
use Rattle.fab_base.specs.Seen.{Seen, Rose}
use Rattle.pcap_file.specs.declared.Budget.{Budget}
use Rattle.pcap_file.specs.declared.Record.{Record}
use Rattle.pcap_file.specs.declared.fault.LimitKind.TheVariants as limit
use Rattle.pcap_file.specs.declared.fault.GatherFault.{GatherFault}
use Rattle.pcap_file.specs.declared.fault.GatherFault.TheVariants as gather
use Rattle.pcap_file.specs.Captures.{unless_stopped, captures_by}
use Rattle.fip_snoop.specs.Bridge.{Arrival, arrivals, is_too_long}
use Rattle.fip_snoop.specs.Messages.{forwarder_of}
use Rattle.side_runs.specs.Copies.{capture}

-- the frames, unless it takes too long from the first to the last
abbrev pub unless_too_long : List Arrival → Result (List Arrival) GatherFault
unless_too_long came = if is_too_long came then Err (gather.Limit limit.Span) else Ok came

-- What the files of the ports are to a bridge: the frames of all captures in the order in which they are handled, or why they
-- aren't. Captures are read whole, port by port, off one budget; the span of moments is tested last.
abbrev pub crossing : Budget → List (Option (List ℕ)) → Result (List Arrival) GatherFault
crossing budget files = unless_stopped (captures_by 1 budget files) (λ ins. unless_too_long (arrivals ins))

-- Of captures that are read whole in their order, off one budget, that of some name couldn't be read; those before it are taken.
pub record IsFirstUnread (names : List (List ℕ)) (budget : Budget) (old new : Seen) : Type 0 where
  pub before : List (List ℕ)
  pub name : List ℕ
  pub behind : List (List ℕ)
  pub are : names ≡ before ++ name ∷ behind
  pub ins : List (List Record)
  pub taken : captures_by 1 budget (map (λ n. old.file n) before) ≡ Ok ins
  pub rose : Rose (old.read_faults name) (new.read_faults name)

-- The captures of the ports of a bridge when these frames were handled, in port order.
abbrev pub captures : Settings → ℕ → List Arrival → List (List ℕ)
captures c n came = map (λ q. capture (forwarder_of c) q came) (counting 1 n)
