-- A fabric can be made of each seam of a session.
use Rattle.std.proofs.Common.{◌≡◌, ℕ, zero, suc, ◌+◌, ◌*◌, ◌<◌, ◌≤◌, ◌^◌, List, [], ◌∷◌, length, map, refl, sym, ap, subst, ◌∙◌, arith}
use Rattle.fab_base.specs.Counting.{counting}
use Rattle.fab_config.specs.Settings.{Settings}
use Rattle.pcap_file.specs.declared.Record.{Record}
use Rattle.fab_policy.specs.Legal.{HasPorts}
use Rattle.fab_policy.specs.Outputs.{state_of}
use Rattle.fab_policy.specs.State.{past_of}
use Rattle.fab_states.specs.Runs.{counts_of, counts_on}
use Rattle.fab_pieces.specs.Restored.{FirstCanRestore, RunsCanRestore, first_seam}
use Rattle.fab_pieces.specs.Seam.{AreBelow, ArePast, ArePorts, IsRangedSeam}
use Rattle.fab_pieces.specs.Session.{no_records}
use Rattle.fab_pieces.specs.Sound.{AreBehind, EachPort, IsServed, IsSoundState, IsTimely}
use Rattle.fab_pieces.proofs.PortLemmas.{pieces_keep_ports}
use Rattle.fab_pieces.proofs.ServesLemmas.{pieces_keep_served}
use Rattle.fab_pieces.proofs.SoundLemmas.{first_is_sound, no_ports, nobody_first, pieces_keep_sound}
use Rattle.fab_pieces.proofs.TimelyLemmas.{first_timely, runs_keep_timely}

-- ---- the first

none_below : (n : ℕ) → AreBelow (2 ^ 64) (counts_of (no_records n))
none_below zero = tt
none_below (suc n) = (omega arith, none_below n)

count_none : (n : ℕ) → length (counts_of (no_records n)) ≡ n
count_none zero = refl
count_none (suc n) = let e = count_none n in omega arith

unused_ranged : (n k : ℕ) → k + n ≤ 2 ^ 24 → ArePast (map (λ a. past_of a []) (counting k n))
unused_ranged zero k le = tt
unused_ranged (suc n) k le = (record { address = omega (arith, le); name = tt; ended = tt; plain = λ e. refl }, unused_ranged n (k + 1) (omega (arith, le)))

none_ranged : (c : Settings) → ArePorts (state_of c []).tables.ports
none_ranged c = subst ArePorts (sym (no_ports c c.pool (c.domain * 65536 + 256))) tt

first_ranged : (c : Settings) (n : ℕ) → n < 65 → c.domain * 65536 + 256 + c.pool ≤ 2 ^ 24 → IsRangedSeam (first_seam c n)
first_ranged c n few le = record {
  clock = tt;
  advertised = tt;
  rscns = omega arith;
  greatest = omega arith;
  nexts = none_below n;
  few = subst (λ (m : ℕ). m < 65) (sym (count_none n)) few;
  past = unused_ranged c.pool (c.domain * 65536 + 256) le;
  ports = none_ranged c;
}

pub first_can_restore : FirstCanRestore
first_can_restore c n few le = record {
  sound = first_is_sound c;
  served = λ a p x. absurd (nobody_first c a p x);
  behind = λ a p x. absurd (nobody_first c a p x);
  timely = first_timely c;
  ranged = first_ranged c n few le;
  ports = count_none n;
  order = omega arith;
}

-- ---- a piece

counts_stay : (firsts : List ℕ) (ins : List (List Record)) → length (counts_on firsts ins) ≡ length firsts
counts_stay [] ins = refl
counts_stay (first ∷ firsts) [] = refl
counts_stay (first ∷ firsts) (rs ∷ ins) = let e = counts_stay firsts ins in omega arith

pub runs_can_restore : RunsCanRestore
runs_can_restore c n s t ins K can width run state nexts order ranged = record {
  sound = subst (IsSoundState c) (sym state) (pieces_keep_sound c s.state K can.sound run.legal);
  served = subst (λ S. EachPort S.tables IsServed) (sym state) (pieces_keep_served c s.state K can.served run.legal);
  behind = subst (λ S. AreBehind n S.tables) (sym state) (pieces_keep_ports c n s.state K can.behind (subst (λ (m : ℕ). HasPorts m K) width run.ports));
  timely = subst (λ S. IsTimely S.tables) (sym state) (runs_keep_timely c s.state s.nexts ins K can.timely run);
  ranged = ranged;
  ports = ap length nexts ∙ counts_stay s.nexts ins ∙ can.ports;
  order = order;
}
