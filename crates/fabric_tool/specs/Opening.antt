-- What opening the outputs of a command does, and what its work ends it with.
use Rattle.std.specs.Prelude.{◌≡◌, ℕ, List, length, ◌∷◌, Ok, Err, Result}
use Rattle.fab_base.specs.Seen.{Seen}
use Rattle.fab_base.specs.declared.values.Failed.{Failed}
use Rattle.run_files.specs.Opening.{AllOpened}
use Rattle.run_files.specs.declared.fault.RunFault.{RunFault}
use Rattle.run_files.specs.declared.fault.RunFault.TheVariants as faults
use Rattle.fab_windows.specs.declared.Done.{Done}
use Rattle.fab_live.specs.declared.fault.LiveFault.{LiveFault}
use Rattle.fab_live.specs.declared.fault.LiveFault.TheVariants as live
use Rattle.enode_core.specs.declared.node.Phase.{Phase}
use Rattle.side_runs.specs.declared.bridge_run.Crossed.{Crossed}
use Rattle.fabric_tool.specs.Command.{RunNames, LiveWords, by_port}
use Rattle.fabric_tool.specs.declared.live.Recorded.{Recorded}
use Rattle.fabric_tool.specs.declared.making.LoadFiles.{LoadFiles}
use Rattle.fabric_tool.specs.declared.outcome.Outcome.{Outcome}
use Rattle.fabric_tool.specs.declared.outcome.Outcome.TheVariants as ends
use Rattle.fabric_tool.specs.declared.outputs.Outputs.{Outputs}

-- the outputs of `run`: the journal, and then those of the ports in their order
abbrev pub OutputsOpened : RunNames → Seen → Seen → Result Outputs Failed → Type 0
OutputsOpened k = AllOpened {T = Outputs} (λ o. o.journal ∷ o.outs.items) (k.journal ∷ k.outs)

-- the files of `make` in their order
abbrev pub FilesOpened : List (List ℕ) → Seen → Seen → Result LoadFiles Failed → Type 0
FilesOpened files = AllOpened {T = LoadFiles} (λ o. o.slots.items) files

-- the outputs of `live`: the journal, and then what came and what is sent of each port
abbrev pub RecordedOpened : LiveWords → Seen → Seen → Result Recorded Failed → Type 0
RecordedOpened k = AllOpened {T = Recorded} (λ o. o.journal ∷ by_port o.ins.items o.outs.items) (k.journal ∷ by_port k.ins k.outs)

-- two of them for each port
abbrev pub HasWidth : LiveWords → Recorded → Type 0
HasWidth k o = (length o.ins.items ≡ length k.ins) × (length o.outs.items ≡ length k.outs)

-- what a fault of the windows ends `run` with
abbrev pub stopped_by : RunFault → Outcome
stopped_by (faults.Capture port at why) = ends.Capture port at why
stopped_by (faults.Limit kind) = ends.Limit kind
stopped_by faults.Read = ends.ReadFault
stopped_by faults.Write = ends.WriteFault
stopped_by faults.Memory = ends.Memory

-- what their end does
abbrev pub ran_by : Result Done RunFault → Outcome
ran_by (Ok done) = ends.Ran done.frames done.entries
ran_by (Err fault) = stopped_by fault

-- what the end of a node's run ends `enode` with
abbrev pub stood_by : Result Phase RunFault → Outcome
stood_by (Ok last) = ends.Stood last
stood_by (Err fault) = stopped_by fault

-- what the end of a bridge ends `snoop` with
abbrev pub crossed_by : Result Crossed RunFault → Outcome
crossed_by (Ok done) = ends.Bridged done.passed done.dropped
crossed_by (Err fault) = stopped_by fault

-- what the end of a stream ends `live` with
abbrev pub lived_by : Result Done LiveFault → Outcome
lived_by (Ok done) = ends.Ran done.frames done.entries
lived_by (Err (live.Block at fault)) = ends.BadStream at fault
lived_by (Err (live.Port face)) = ends.NoPort face
lived_by (Err (live.Limit kind)) = ends.Limit kind
lived_by (Err live.Read) = ends.ReadFault
lived_by (Err live.Write) = ends.WriteFault
lived_by (Err live.Memory) = ends.Memory
