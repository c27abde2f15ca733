-- What an entry sends, as messages with their ports.
use Rattle.std.specs.Prelude.{ℕ, ◌+◌, ◌%◌, ◌++◌, if◌then◌else◌, List, [], ◌∷◌, length, map, filter, flat_map, Option}
use Rattle.fab_base.specs.Fabric.{same_enode}
use Rattle.fab_base.specs.declared.values.Caught.{Caught}
use Rattle.fab_base.specs.declared.values.Enode.{Enode}
use Rattle.fab_config.specs.Settings.{Settings}
use Rattle.fab_base.specs.Counting.{counting}
use Rattle.fab_policy.specs.Outputs.{Notice, State, enodes_of, hundreds, is_owed, vx_port_of}
use Rattle.fab_policy.specs.State.{LivePort, overdue}
use Rattle.fab_policy.specs.declared.verdict.Verdict.{Verdict}
use Rattle.fab_sending.specs.MessageLaws.{messages}
use Rattle.fab_sending.specs.declared.message.Out.{Out}
use Rattle.fab_sending.specs.declared.message.OutMessage.{OutMessage}
use Rattle.fab_sending.specs.declared.message.OutMessage.TheVariants as out
use Rattle.fab_sending.specs.Notices.{notices_of_frame, notices_of_tick}

-- messages that are sent at a moment
abbrev pub at_moment : ℕ → List (ℕ × OutMessage) → List Out
at_moment moment messages = map (λ x. record { port = x.0; moment = moment; message = x.1 }) messages

-- state changes, of which the first has this number
abbrev pub changes : ℕ → List Notice → List (ℕ × OutMessage)
changes n [] = []
changes n (notice ∷ more) = (notice.port, out.Rscn notice.watcher notice.affected (n % 65535)) ∷ changes (n + 1) more

-- the clear link messages to an ENode, one for each hundred of its N_Ports
abbrev pub clears_to : Settings → List LivePort → Enode → List (ℕ × OutMessage)
clears_to c ended x =
    let own = filter (λ p. same_enode p.enode x) ended in
    map (λ group. (x.port, out.Clear x.mac (map (vx_port_of c) group))) (hundreds (length own) own)

-- the clear link messages to each ENode, by port and MAC
abbrev pub clears : Settings → List LivePort → List (ℕ × OutMessage)
clears c ended = flat_map (clears_to c ended) (enodes_of ended)

-- an advertisement on each of n ports
abbrev pub advertisements : ℕ → List (ℕ × OutMessage)
advertisements n = map (λ port. (port, out.Advertisement)) (counting 1 n)

abbrev pub advertisements_owed : Settings → ℕ → Option ℕ → ℕ → List (ℕ × OutMessage)
advertisements_owed c n last m = if is_owed c last m then advertisements n else []

-- all that a tick sends
abbrev pub tick_messages : Settings → ℕ → State → ℕ → List (ℕ × OutMessage)
tick_messages c n S m =
    clears c (overdue c S.tables m) ++ changes S.rscns (notices_of_tick c S.tables m) ++ advertisements_owed c n S.advertised m

-- all that a frame sends which stands in the entry at this place
abbrev pub frame_messages : Settings → State → ℕ → ℕ → Caught → Verdict → List (ℕ × OutMessage)
frame_messages c S port entry caught v = messages c S.tables port entry caught v ++ changes S.rscns (notices_of_frame c S.tables port caught v)
