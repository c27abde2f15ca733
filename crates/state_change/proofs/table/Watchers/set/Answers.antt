use Rattle.std.proofs.Common.{◌≡◌, ◌<◌, ◌==◌, ◌∙◌, Bool, true, false, if◌then◌else◌, Option, Some, None, is_some, length, refl, sym, ap}
use Rattle.std.proofs.lemmas.Bool.{ne_eqb}
use Rattle.fab_base.proofs.KeyedLemmas as keyed
use Rattle.state_change.specs.Watchers.{Watching, address_of, set_to, without}
use Rattle.state_change.specs.declared.watcher.Watcher.{Watcher}
use Rattle.state_change.proofs.table.Watchers.set.Goals as goal

none_from : (o : Option Watcher) → is_some o ≡ false → o ≡ None
none_from None e = refl
none_from (Some w) e = absurd (cc)

pub add-requires-clause-room : goal.add-requires-clause-room
add-requires-clause-room c = go c.forget.result refl
  where
    go : (b : Bool) → c.forget.result ≡ b → length c.forget.new.self.watchers < c.forget.new.self.room
    go true gone = c.forget.ensures.room gone
    go false absent = rw (c.forget.ensures.absent absent) (c.requires.room (ne_eqb _ _ c.if-function-ne-CLEAR.true) (none_from _ (sym c.forget.ensures.there ∙ absent)))

pub returns-then-function-ne-CLEAR-clause-watchers : goal.returns-then-function-ne-CLEAR-clause-watchers
returns-then-function-ne-CLEAR-clause-watchers c =
    let w : Watcher = record { address = c.args.address; name = c.args.name; function = c.args.function } in
    let old = c.args.self.now.watchers in
    let asks : (c.args.function == 255) ≡ false = ne_eqb _ _ c.if-function-ne-CLEAR.true in
    c.add.ensures.watchers
    ∙ ap (λ (t : Watching). record t { watchers = set_to w t.watchers }) c.forget.ensures.watchers
    ∙ ap (λ l. record { room = c.args.self.now.room; watchers = l }) (keyed.added-without address_of w old ∙ sym (ap (λ b. if b then without c.args.address old else set_to w old) asks))
