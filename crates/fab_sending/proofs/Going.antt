-- The sizes of a frame that carries FCoE.
use Rattle.std.proofs.Common.{◌≡◌, ℕ, ◌+◌, ◌≤◌, ◌%◌, ◌==◌, Bool, true, false, ◌&&◌, nat_le, nat_lt, List, Result, Ok, Err, refl, ap, arith, drop, length, length-drop, if◌then◌else◌}
use Rattle.std.proofs.lemmas.Bool.{and_from, le-leb, leb-true, ltb-false}
use Rattle.eth_frames.specs.Ethernet as eth
use Rattle.eth_frames.specs.declared.EthFault.{EthFault}
use Rattle.eth_frames.specs.declared.EthFault.TheVariants.{Short}
use Rattle.fcoe_codec.specs.Fcoe as capsule
use Rattle.fcoe_codec.specs.declared.FcoeFault.{FcoeFault}
use Rattle.fcoe_codec.specs.declared.FcoeFault.TheVariants.{Length}
use Rattle.fip_codec.proofs.Sound.{and-left, and-right}
use Rattle.fab_policy.proofs.Carried.{fcoe_of}
use Rattle.fab_sending.specs.MessageLaws.{DataFramesGoOn}

-- the bytes of a body that was read
abbrev body_size : Result eth.Eth EthFault → ℕ
body_size (Ok g) = length g.body
body_size (Err fault) = 0

-- a frame has the head of its form and its body
abbrev Ends : List ℕ → eth.Eth → Type 0
Ends l f = (14 ≤ length l) × (length l ≤ length f.body + 18)

ends_by : (l : List ℕ) (f : eth.Eth) (tag short : Bool) → nat_lt (length l) (if tag then 18 else 14) ≡ short →
    (if short then Err Short else Ok (if tag then eth.tagged_frame l else eth.plain_frame l)) ≡ Ok f → Ends l f
ends_by l f tag true s e = cc
ends_by l f true false s e =
    let least = ltb-false _ _ s in
    let size : length (drop 18 l) ≡ length f.body = ap (λ r. body_size r) e in
    (omega arith, omega (arith, length-drop 18 l))
ends_by l f false false s e =
    let least = ltb-false _ _ s in
    let size : length (drop 14 l) ≡ length f.body = ap (λ r. body_size r) e in
    (omega arith, omega (arith, length-drop 14 l))

ends : (l : List ℕ) (f : eth.Eth) → eth.decoded l ≡ Ok f → Ends l f
unfolding eth.decoded
ends l f e = ends_by l f (eth.has_tag l) (eth.is_short l) refl e

most_by : (n : ℕ) (x : capsule.Fcoe) (rest : Result capsule.Fcoe FcoeFault) (fits : Bool) → (nat_le 46 n && nat_le n 2158 && n % 4 == 2) ≡ fits →
    (elim fits as (λ _. Result capsule.Fcoe FcoeFault) [ false ↦ Err Length | true ↦ rest ]) ≡ Ok x → n ≤ 2158
most_by n x rest false s e = absurd (cc)
most_by n x rest true s e = leb-true _ _ (and-right _ _ (and-left _ _ s))

most : (body : List ℕ) (x : capsule.Fcoe) → capsule.decoded body ≡ Ok x → length body ≤ 2158
unfolding capsule.decoded
most body x e = most_by (length body) x _ _ refl e

pub go_on : DataFramesGoOn
go_on caught f x e =
    let is = fcoe_of caught f (Ok x) e in
    let size = ends caught.bytes f is.frame in
    let body = most f.body x is.body in
    let least = size.0 in
    let behind = size.1 in
    and_from _ _ (le-leb _ _ least) (le-leb _ _ (omega arith))
