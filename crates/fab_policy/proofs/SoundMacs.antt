-- Distinct addresses have distinct granted MACs, and those of live N_Ports differ.
use Rattle.std.proofs.Common.{◌≡◌, ℕ, ◌+◌, ◌*◌, ◌^◌, ◌<◌, ◌≤◌, Bool, ◌&&◌, List, [], ◌∷◌, ◌++◌, refl, sym, ap, ◌∙◌, arith, IsTrue, nat_le, nat_lt, length, drop}
use Rattle.std.proofs.lemmas.Bool.{and_parts, leb-true}
use Rattle.std.proofs.lemmas.List.Elements.{All-head, All-tail}
use Rattle.fab_base.specs.Layout.{spelled, big_endian}
use Rattle.fab_base.proofs.LayoutLemmas.{big_endian-spelled, length-spelled}
use Rattle.fab_config.specs.Settings.{Settings, is_in_range, is_between, is_station, are_zones, are_sets, are_activations}
use Rattle.fab_policy.specs.State.{LivePort, tables_of}
use Rattle.fab_policy.specs.Steps.{AreAscending}
use Rattle.fab_policy.specs.Sound.{MacsTellAddresses, LiveMacsDiffer, IsNewMac, HaveDifferentMacs}
use Rattle.fab_policy.proofs.Found.{IsBelow}
use Rattle.fab_policy.proofs.Quiet.{tables_ascend}

-- what stands behind three bytes
behind : (xs ys : List ℕ) → length xs ≡ 3 → drop 3 (xs ++ ys) ≡ ys
behind [] ys e = cc
behind (x ∷ []) ys e = cc
behind (x ∷ y ∷ []) ys e = cc
behind (x ∷ y ∷ z ∷ []) ys e = refl
behind (x ∷ y ∷ z ∷ w ∷ xs) ys e = absurd (omega (arith, e))

pub macs_tell_addresses : MacsTellAddresses
macs_tell_addresses c a b la lb e =
    sym (big_endian-spelled 3 a la)
    ∙ ap big_endian (sym (behind (spelled 3 c.fc_map) (spelled 3 a) (length-spelled 3 c.fc_map)) ∙ ap (drop 3) e ∙ behind (spelled 3 c.fc_map) (spelled 3 b) (length-spelled 3 c.fc_map))
    ∙ big_endian-spelled 3 b lb

-- ---- live N_Ports

new_mac : (c : Settings) (from to : ℕ) (p : LivePort) (ports : List LivePort) → p.address < from → to ≤ 2 ^ 24 → AreAscending from to ports → IsNewMac c p ports
new_mac c from to p [] lt le h = tt
new_mac c from to p (q ∷ ports) lt le h =
    let fits : q.address < to = All-head (IsBelow to) q ports h.1 in
    (λ e. differ p.address q.address (omega (arith, h.0.0)) (macs_tell_addresses c p.address q.address (omega (arith, h.0.0, fits)) (omega (arith, fits)) e), new_mac c (q.address + 1) to p ports (omega (arith, h.0.0)) le (h.0.1, All-tail (IsBelow to) q ports h.1))
  where
    differ : (x y : ℕ) → x < y → x ≡ y → ⊥
    differ x y l e = omega (arith, e)

macs_differ : (c : Settings) (from to : ℕ) (ports : List LivePort) → to ≤ 2 ^ 24 → AreAscending from to ports → HaveDifferentMacs c ports
macs_differ c from to [] le h = tt
macs_differ c from to (p ∷ ports) le h =
    let later = All-tail (IsBelow to) p ports h.1 in
    (new_mac c (p.address + 1) to p ports (omega arith) le (h.0.1, later), macs_differ c (p.address + 1) to ports le (h.0.1, later))

at_most : (least most n : ℕ) → IsTrue (is_between least most n) → n ≤ most
at_most least most n e = leb-true n most (and_parts (nat_le least n) (nat_le n most) e).1

-- of all ranges those of the domain and of the pool
in_range : (a b c d e f g h i j k l m : Bool) → IsTrue (a && b && c && d && e && f && g && h && i && j && k && l && m) → IsTrue e × IsTrue f
in_range a b c d e f g h i j k l m t =
    let all = and_parts (a && b && c && d && e && f && g && h && i && j && k && l) m t in
    let to_l = and_parts (a && b && c && d && e && f && g && h && i && j && k) l all.0 in
    let to_k = and_parts (a && b && c && d && e && f && g && h && i && j) k to_l.0 in
    let to_j = and_parts (a && b && c && d && e && f && g && h && i) j to_k.0 in
    let to_i = and_parts (a && b && c && d && e && f && g && h) i to_j.0 in
    let to_h = and_parts (a && b && c && d && e && f && g) h to_i.0 in
    let to_g = and_parts (a && b && c && d && e && f) g to_h.0 in
    let to_f = and_parts (a && b && c && d && e) f to_g.0 in
    ((and_parts (a && b && c && d) e to_f.0).1, to_f.1)

-- the pool's addresses have 24 bits
pub pool_fits : (c : Settings) → IsTrue (is_in_range c) → c.domain * 65536 + 256 + c.pool ≤ 2 ^ 24
pool_fits c t =
    let both = in_range (nat_lt c.switch (2 ^ 64)) (is_station c.fcf_mac) (is_between 0x0efc00 0x0efcff c.fc_map) (is_between 1 4094 c.vlan) (is_between 1 239 c.domain) (is_between 1 60000 c.pool)
    (nat_le c.priority 255) (is_between 250 90000 c.period) (is_between 10 1000 c.window) (is_between 1 1000 c.limit) (are_zones c.zones) (are_sets (length c.zones) c.sets)
    (are_activations (length c.sets) c.activations) t in
    omega (arith, at_most 1 239 c.domain both.0, at_most 1 60000 c.pool both.1)

pub live_macs_differ : LiveMacsDiffer
live_macs_differ c J t = macs_differ c (c.domain * 65536 + 256) (c.domain * 65536 + 256 + c.pool) (tables_of c J).ports (pool_fits c t) (tables_ascend c J)
