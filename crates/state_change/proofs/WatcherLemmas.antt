-- What is kept of the watchers after a change, and the first of those that pass a test.
use Rattle.std.proofs.Common.{◌≡◌, ◌∙◌, ℕ, ◌+◌, ◌<◌, ◌&&◌, Bool, List, length, filter, find, Some, None, IsTrue, nat_le, sym, ap, subst, arith}
use Rattle.std.specs.Option.{option_map}
use Rattle.std.proofs.lemmas.List.Elements.{All-filter}
use Rattle.slab.specs.Slab.{Slab, get, slab_len, Updates, HasRoomFor}
use Rattle.fab_base.proofs.KeyedLemmas as keyed
use Rattle.fab_base.proofs.SamenessLemmas.{find-filter}
use Rattle.sorted_lists.specs.Orders.{seen, IsOrder, IsOrderBut}
use Rattle.sorted_lists.proofs.IndexLemmas.{some_same, key_found}
use Rattle.sorted_lists.proofs.OrderLemmas as orders
use Rattle.state_change.specs.Sound.{HasRoom}
use Rattle.state_change.specs.Watchers.{Watching, address_of, watcher_at, set_to, without, first_from, is_asking, IsSound}
use Rattle.state_change.specs.declared.watcher.Watcher.{Watcher}

IsSound-set_to : (x : Watcher) (t : Watching) → IsSound t → length t.watchers < t.room → watcher_at x.address t.watchers ≡ None → IsTrue (is_asking x.function) →
    IsSound (record { room = t.room; watchers = set_to x t.watchers })
IsSound-set_to x t sound room absent asks = record {
  ascending = keyed.AscendFrom-added address_of x 0 t.watchers sound.ascending (omega arith);
  functions = keyed.All-added address_of (λ w. IsTrue (is_asking w.function)) x t.watchers sound.functions asks;
  bound = omega (arith, keyed.length-added address_of x 0 t.watchers sound.ascending absent);
}

IsSound-without : (a : ℕ) (t : Watching) → IsSound t → IsSound (record { room = t.room; watchers = without a t.watchers })
IsSound-without a t sound = record {
  ascending = keyed.AscendFrom-filter address_of _ 0 t.watchers sound.ascending;
  functions = All-filter _ (λ w. IsTrue (is_asking w.function)) t.watchers sound.functions;
  bound = omega (arith, sound.bound, keyed.length-without address_of a t.watchers);
}

module _ (most : ℕ) (slab : Slab Watcher) (places : List ℕ) (capacity : ℕ) (has : HasRoom most slab places capacity) where
  length_seen : length (seen slab places) ≡ length places
  length_seen = orders.length-seen slab places has.order.sorted.there

  pub room_for : length (seen slab places) < most → HasRoomFor slab 1
  room_for fewer = omega (arith, fewer, length_seen, has.order.count, has.slab_room)

  pub room_in : length (seen slab places) < most → length places < capacity
  room_in fewer = omega (arith, fewer, length_seen, has.room)

  -- a watcher is put into a vacant place
  module _ (x : Watcher) (p : ℕ) (new : Slab Watcher) (vacant : get slab p ≡ None) (updates : Updates slab new p (Some x)) where
    seen_filled : seen new places ≡ seen slab places
    seen_filled = orders.seen-updates slab new p (Some x) places updates (orders.absent-vacant slab p places vacant has.order.sorted.there)

    pub order_filled : slab_len new ≡ slab_len slab + 1 → IsOrderBut address_of p new places
    order_filled more = orders.IsOrderBut-filled address_of slab new p x places has.order vacant updates more

    pub absent_filled : watcher_at x.address (seen slab places) ≡ None → (y : Watcher) → get new p ≡ Some y → watcher_at y.address (seen new places) ≡ None
    absent_filled none y here =
        ap (λ (z : Watcher). watcher_at z.address (seen new places)) (some_same y x (sym here ∙ updates.changed)) ∙ ap (watcher_at x.address) seen_filled ∙ none

    module _ (after : List ℕ) (put : (y : Watcher) → get new p ≡ Some y → seen new after ≡ set_to y (seen new places)) where
      pub seen_put : seen new after ≡ set_to x (seen slab places)
      seen_put = put x updates.changed ∙ ap (set_to x) seen_filled

      pub HasRoom-put : (m : ℕ) → IsOrder address_of new after → length (seen slab places) < most → watcher_at x.address (seen slab places) ≡ None → IsTrue (is_asking x.function)
          → new.capacity ≡ slab.capacity → m ≡ capacity → HasRoom most new after m
      HasRoom-put m order fewer none asks same also = record {
        sound = subst (λ l. IsSound (record { room = most; watchers = l })) (sym seen_put) (IsSound-set_to x (record { room = most; watchers = seen slab places }) has.sound fewer none asks);
        order = order;
        slab_room = omega (arith, has.slab_room, same);
        room = omega (arith, has.room, also);
        range = has.range;
      }

  -- a watcher goes whose place was taken out
  module _ (x : Watcher) (p : ℕ) (new : Slab Watcher) (after : List ℕ) (a : ℕ) (found : watcher_at a (seen slab places) ≡ Some x) (here : get slab p ≡ Some x) (updates : Updates slab new p None)
      (but : IsOrderBut address_of p slab after) (take : (y : Watcher) → get slab p ≡ Some y → seen slab after ≡ without y.address (seen slab places)) where
    pub seen_taken : seen new after ≡ without a (seen slab places)
    seen_taken = orders.seen-updates slab new p None after updates but.absent ∙ take x here ∙ ap (λ (n : ℕ). without n (seen slab places)) (key_found address_of a x (seen slab places) found)

    pub HasRoom-taken : (m : ℕ) → slab_len new + 1 ≡ slab_len slab → new.capacity ≡ slab.capacity → m ≡ capacity → HasRoom most new after m
    HasRoom-taken m fewer same also = record {
      sound = subst (λ l. IsSound (record { room = most; watchers = l })) (sym seen_taken) (IsSound-without a (record { room = most; watchers = seen slab places }) has.sound);
      order = orders.IsOrder-vacated address_of slab new p after but updates fewer;
      slab_room = omega (arith, has.slab_room, same);
      room = omega (arith, has.room, also);
      range = has.range;
    }

pub first_from-filter : (from : ℕ) (q : Watcher → Bool) (ws : List Watcher) → option_map address_of (find (λ w. nat_le from w.address && q w) ws) ≡ first_from from (filter q ws)
first_from-filter from q ws = ap (option_map address_of) (find-filter (λ w. nat_le from w.address) q ws)
