use Rattle.std.proofs.Common.{refl, ◌∙◌}
use Rattle.fabric_tool.specs.Outcome.{line_of}
use Rattle.fabric_tool.proofs.OutcomeLemmas.{reports, reports_made}
use Rattle.fabric_tool.proofs.outcome.report.Goals as goal

pub returns-in-Ran : goal.returns-in-Ran
unfolding line_of
returns-in-Ran g c = record { reports = reports_made _ (g.K.Sink.sunk c.args.say.now) (g.K.Sink.sunk c.put_made.new.say) c.in-Ran.is refl refl tt c.run_line.ensures c.put_made.ensures.ok c.put_made.ensures.err }

pub returns-in-Config : goal.returns-in-Config
unfolding line_of
returns-in-Config g c = record { reports = reports_made _ (g.K.Sink.sunk c.args.say.now) (g.K.Sink.sunk c.put_made-in-Config.new.say) c.in-Config.is refl refl tt c.config_line.ensures c.put_made-in-Config.ensures.ok c.put_made-in-Config.ensures.err }

pub returns-in-Capture : goal.returns-in-Capture
unfolding line_of
returns-in-Capture g c = record { reports = reports_made _ (g.K.Sink.sunk c.args.say.now) (g.K.Sink.sunk c.put_made-in-Capture.new.say) c.in-Capture.is refl refl tt c.capture_line.ensures c.put_made-in-Capture.ensures.ok c.put_made-in-Capture.ensures.err }

pub returns-in-Words : goal.returns-in-Words
unfolding line_of
returns-in-Words g c = record { reports = reports (g.K.Sink.sunk c.args.say.now) (g.K.Sink.sunk c.put_line-in-Words.new.say) c.in-Words.is refl refl c.put_line-in-Words.ensures }

pub returns-in-ReadFault : goal.returns-in-ReadFault
unfolding line_of
returns-in-ReadFault g c = record { reports = reports (g.K.Sink.sunk c.args.say.now) (g.K.Sink.sunk c.put_line-in-ReadFault.new.say) c.in-ReadFault.is refl refl c.put_line-in-ReadFault.ensures }

pub returns-in-WriteFault : goal.returns-in-WriteFault
unfolding line_of
returns-in-WriteFault g c = record { reports = reports (g.K.Sink.sunk c.args.say.now) (g.K.Sink.sunk c.put_line-in-WriteFault.new.say) c.in-WriteFault.is refl refl c.put_line-in-WriteFault.ensures }

pub returns-in-Memory : goal.returns-in-Memory
unfolding line_of
returns-in-Memory g c = record { reports = reports (g.K.Sink.sunk c.args.say.now) (g.K.Sink.sunk c.put_line-in-Memory.new.say) c.in-Memory.is refl refl c.put_line-in-Memory.ensures }

pub returns-in-Converted : goal.returns-in-Converted
unfolding line_of
returns-in-Converted g c = record { reports = reports_made _ (g.K.Sink.sunk c.args.say.now) (g.K.Sink.sunk c.put_made-in-Converted.new.say) c.in-Converted.is refl refl tt c.converted_line.ensures c.put_made-in-Converted.ensures.ok c.put_made-in-Converted.ensures.err }

pub returns-in-BadBlock : goal.returns-in-BadBlock
unfolding line_of
returns-in-BadBlock g c = record { reports = reports_made _ (g.K.Sink.sunk c.args.say.now) (g.K.Sink.sunk c.put_made-in-BadBlock.new.say) c.in-BadBlock.is refl refl tt c.block_line.ensures c.put_made-in-BadBlock.ensures.ok c.put_made-in-BadBlock.ensures.err }

pub returns-in-Limit : goal.returns-in-Limit
unfolding line_of
returns-in-Limit g c = record { reports = reports_made _ (g.K.Sink.sunk c.args.say.now) (g.K.Sink.sunk c.put_made-in-Limit.new.say) c.in-Limit.is refl refl tt c.limit_line.ensures c.put_made-in-Limit.ensures.ok c.put_made-in-Limit.ensures.err }

pub returns-in-Help : goal.returns-in-Help
unfolding line_of
returns-in-Help g c = record { reports = reports (g.K.Sink.sunk c.args.say.now) (g.K.Sink.sunk c.put_line-in-Help.new.say) c.in-Help.is (c.as_bytes.ensures.value ∙ c.help.ensures) refl c.put_line-in-Help.ensures }

pub returns-in-Version : goal.returns-in-Version
unfolding line_of
returns-in-Version g c = record { reports = reports (g.K.Sink.sunk c.args.say.now) (g.K.Sink.sunk c.put_line-in-Version.new.say) c.in-Version.is (c.as_bytes-in-Version.ensures.value ∙ c.version.ensures) refl c.put_line-in-Version.ensures }

pub returns-in-Migrated : goal.returns-in-Migrated
unfolding line_of
returns-in-Migrated g c = record { reports = reports_made _ (g.K.Sink.sunk c.args.say.now) (g.K.Sink.sunk c.put_made-in-Migrated.new.say) c.in-Migrated.is refl refl tt c.migrated_line.ensures c.put_made-in-Migrated.ensures.ok c.put_made-in-Migrated.ensures.err }

pub returns-in-Made : goal.returns-in-Made
unfolding line_of
returns-in-Made g c = record { reports = reports_made _ (g.K.Sink.sunk c.args.say.now) (g.K.Sink.sunk c.put_made-in-Made.new.say) c.in-Made.is refl refl tt c.made_line.ensures c.put_made-in-Made.ensures.ok c.put_made-in-Made.ensures.err }

pub returns-in-Bridged : goal.returns-in-Bridged
unfolding line_of
returns-in-Bridged g c = record { reports = reports_made _ (g.K.Sink.sunk c.args.say.now) (g.K.Sink.sunk c.put_made-in-Bridged.new.say) c.in-Bridged.is refl refl tt c.bridged_line.ensures c.put_made-in-Bridged.ensures.ok c.put_made-in-Bridged.ensures.err }

pub returns-in-Stood : goal.returns-in-Stood
unfolding line_of
returns-in-Stood g c = record { reports = reports (g.K.Sink.sunk c.args.say.now) (g.K.Sink.sunk c.put_phase.new.say) c.in-Stood.is refl refl c.put_phase.ensures }

pub returns-in-Legal : goal.returns-in-Legal
unfolding line_of
returns-in-Legal g c = record { reports = reports_made _ (g.K.Sink.sunk c.args.say.now) (g.K.Sink.sunk c.put_made-in-Legal.new.say) c.in-Legal.is refl refl tt c.legal_line.ensures c.put_made-in-Legal.ensures.ok c.put_made-in-Legal.ensures.err }

pub returns-in-Shown : goal.returns-in-Shown
unfolding line_of
returns-in-Shown g c = record { reports = reports (g.K.Sink.sunk c.args.say.now) (g.K.Sink.sunk c.put_line.new.say) c.in-Shown.is c.view.ensures.value refl c.put_line.ensures }

pub returns-in-WrongLine : goal.returns-in-WrongLine
unfolding line_of
returns-in-WrongLine g c = record { reports = reports_made _ (g.K.Sink.sunk c.args.say.now) (g.K.Sink.sunk c.put_made-in-WrongLine.new.say) c.in-WrongLine.is refl refl tt c.wrong_line.ensures c.put_made-in-WrongLine.ensures.ok c.put_made-in-WrongLine.ensures.err }

pub returns-in-WrongOutput : goal.returns-in-WrongOutput
unfolding line_of
returns-in-WrongOutput g c = record { reports = reports_made _ (g.K.Sink.sunk c.args.say.now) (g.K.Sink.sunk c.put_made-in-WrongOutput.new.say) c.in-WrongOutput.is refl refl tt c.output_line.ensures c.put_made-in-WrongOutput.ensures.ok c.put_made-in-WrongOutput.ensures.err }

pub returns-in-BadLine : goal.returns-in-BadLine
unfolding line_of
returns-in-BadLine g c = record { reports = reports_made _ (g.K.Sink.sunk c.args.say.now) (g.K.Sink.sunk c.put_made-in-BadLine.new.say) c.in-BadLine.is refl refl tt c.journal_line.ensures c.put_made-in-BadLine.ensures.ok c.put_made-in-BadLine.ensures.err }

pub returns-in-BadStream : goal.returns-in-BadStream
unfolding line_of
returns-in-BadStream g c = record { reports = reports_made _ (g.K.Sink.sunk c.args.say.now) (g.K.Sink.sunk c.put_made-in-BadStream.new.say) c.in-BadStream.is refl refl tt c.stream_line.ensures c.put_made-in-BadStream.ensures.ok c.put_made-in-BadStream.ensures.err }

pub returns-in-NoPort : goal.returns-in-NoPort
unfolding line_of
returns-in-NoPort g c = record { reports = reports_made _ (g.K.Sink.sunk c.args.say.now) (g.K.Sink.sunk c.put_made-in-NoPort.new.say) c.in-NoPort.is refl refl tt c.port_line.ensures c.put_made-in-NoPort.ensures.ok c.put_made-in-NoPort.ensures.err }
