use Rattle.std.proofs.Common.{arith}
use Rattle.std.proofs.lemmas.List.Elements.{All-nil}
use Rattle.sorted_lists.proofs.OrderLemmas.{IsOrder-empty}
use Rattle.login_table.specs.Logins.{address_of, name_of}
use Rattle.login_table.specs.Sound.{behind_number, FitsLogin}
use Rattle.login_table.proofs.table.LoginTable.new.Goals as goal

pub invariant_of-result : goal.invariant_of-result
invariant_of-result c =
    let empty = c.in_ok-logins.ensures.empty in
    let none = c.in_ok-by_address.ensures.items in
    record {
      sound = rw none record { ascending = tt; names = tt; bound = omega arith };
      fit = rw none (All-nil FitsLogin);
      by_address = rw none (IsOrder-empty address_of c.in_ok-logins.logins empty);
      by_name = rw c.in_ok-by_name.ensures.items (IsOrder-empty name_of c.in_ok-logins.logins empty);
      by_enode = rw c.in_ok-by_enode.ensures.items (IsOrder-empty behind_number c.in_ok-logins.logins empty);
      room = c.in_ok-logins.ensures.capacity;
      address_room = c.in_ok-by_address.ensures.capacity;
      name_room = c.in_ok-by_name.ensures.capacity;
      enode_room = c.in_ok-by_enode.ensures.capacity;
      range = omega arith;
    }
