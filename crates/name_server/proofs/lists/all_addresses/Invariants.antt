use Rattle.std.proofs.Common.{◌≡◌, ◌++◌, drop}
use Rattle.ct_messages.specs.Server.{addresses}
use Rattle.name_server.specs.Registry.{known}
use Rattle.name_server.proofs.lists.all_addresses.Given as goal

abbrev pub invariant-loop-port : goal.invariant-loop-port
invariant-loop-port l = l.list ++ addresses (known l.registry.entries (drop l.port-index l.seen)) ≡ addresses (known l.registry.entries l.seen)
