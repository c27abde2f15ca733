-- A whole run with a login that falls silent: every tick comes when it is owed and no earlier.
use Rattle.std.specs.Prelude.{◌≡◌, ℕ, ◌+◌, ◌-◌, ◌*◌, ◌%◌, ◌<◌, ◌≤◌, Bool, true, false, not, ◌==◌, ◌||◌, nat_lt, nat_le, List, [], ◌∷◌, length, filter, refl, codes}
use Rattle.std.specs.Fmt as fmt
use Rattle.std.proofs.Common.{lit≤, lit<, arith, inl, inr, ap}
use Rattle.std.proofs.lemmas.Bool.{le-ltb, lt-leb}
use Rattle.fab_config.specs.Settings.{Settings}
use Rattle.pcap_file.specs.declared.Record.{Record}
use Rattle.heard_frames.specs.Heard as heard
use Rattle.fab_policy.specs.Journal.{Journal}
use Rattle.fab_policy.specs.Legal as legal
use Rattle.fab_policy.specs.Rules as rules
use Rattle.fab_policy.specs.Text as text
use Rattle.fab_policy.specs.Verdicts as verdicts
use Rattle.fab_policy.specs.declared.event.Event.TheVariants.{Tick, Frame}
use Rattle.fab_policy.specs.declared.verdict.Verdict.TheVariants.{Vlans, Granted}
use Rattle.eth_frames.specs.Ethernet as eth
use Rattle.fc_frames.specs.Frame as fc
use Rattle.fip_codec.specs.Reading as reading
use Rattle.els_messages.specs.Els as els
use Rattle.examples.specs.Given.{K, flogi_a, vlan_request}

abbrev pub C : Settings
C = record K { pool = 1 }

-- A's FLOGI at 1000 and its VLAN request at 30000
abbrev pub records : List Record
records = record { moment = 1000; caught = flogi_a } ∷ record { moment = 30000; caught = vlan_request } ∷ []

abbrev pub login : Journal
login = Frame 1 0 flogi_a (Granted 0x010100) ∷ Tick 1000 [] ∷ []

abbrev pub after_9000 : Journal
after_9000 = Tick 9000 [] ∷ login

abbrev pub after_17000 : Journal
after_17000 = Tick 17000 [] ∷ after_9000

-- more than two and a half periods of 8 seconds after the FLOGI, at the first window
abbrev pub after_end : Journal
after_end = Tick 21100 (0x010100 ∷ []) ∷ after_17000

abbrev pub after_25000 : Journal
after_25000 = Tick 25000 [] ∷ after_end

abbrev pub J : Journal
J = Frame 1 1 vlan_request Vlans ∷ Tick 30000 [] ∷ after_25000

-- ---- no tick is owed before

-- no tick is owed where the one who is logged in isn't silent and no advertisement is owed
not_owed : {X : Type 0} → (p : X) (node port due : Bool) → node ≡ false → port ≡ false → due ≡ false →
    not (length (filter (λ q. node || port) (p ∷ [])) == 0) || due || false ≡ false
not_owed p true port due e1 e2 e3 = cc
not_owed p false true due e1 e2 e3 = cc
not_owed p false false true e1 e2 e3 = cc
not_owed p false false false e1 e2 e3 = refl

-- whoever was heard at 1000 isn't silent before 21100, in windows of 100
quiet : {X : Type 0} → (p : X) (last k : ℕ) → k ≤ 21000 → k < last + 8000 →
    not (length (filter (λ q. nat_lt 40000 (2 * (k - 1000)) || nat_lt 450000 (2 * (k - 1000))) (p ∷ [])) == 0) || nat_le 8000 (k - last) || false ≡ false
quiet p last k le lt =
    not_owed p (nat_lt 40000 (2 * (k - 1000))) (nat_lt 450000 (2 * (k - 1000))) (nat_le 8000 (k - last)) (le-ltb 40000 (2 * (k - 1000)) (omega (arith, le)))
    (le-ltb 450000 (2 * (k - 1000)) (omega (arith, le))) (lt-leb 8000 (k - last) (omega (arith, lt)))

-- nobody is logged in
nobody : (last k : ℕ) → k < last + 8000 → nat_le 8000 (k - last) || false ≡ false
nobody last k lt = ap (λ b. b || false) (lt-leb 8000 (k - last) (omega (arith, lt)))

in_windows : (k : ℕ) → k % 100 ≡ 0 → k < 21100 → k ≤ 21000
in_windows k e lt = omega (arith, e, lt)

pub run : legal.Run C (records ∷ []) J
unfolding verdicts.judged rules.rule_for heard.decoded heard.carried heard.is_flogi eth.decoded reading.decoded fc.decoded els.decoded legal.is_tick_owed
run = record {
  ports = ((tt, lit≤ tt, lit≤ tt), lit≤ tt, lit≤ tt);
  frames = (refl, tt);
  legal = ((((((((tt, refl), (refl, refl)), refl), refl), refl), refl), refl), (refl, refl));
  timed = (
    (
      (
        (
          (
            (
              ((tt, (1000, (refl, refl), refl)), refl),
              (30000, (refl, refl), (lit< tt, lit≤ tt, inr refl, refl, λ k time lt. quiet _ 1000 k (omega (arith, lt)) (omega (arith, lt)))),
            ),
            (30000, (refl, refl), (lit< tt, lit≤ tt, inr refl, refl, λ k time lt. quiet _ 9000 k (omega (arith, lt)) (omega (arith, lt)))),
          ),
          (30000, (refl, refl), (lit< tt, lit≤ tt, inr refl, refl, λ k time lt. quiet _ 17000 k (in_windows k time.0 lt) (omega (arith, lt)))),
        ),
        (30000, (refl, refl), (lit< tt, lit≤ tt, inr refl, refl, λ k time lt. nobody 17000 k (omega (arith, lt)))),
      ),
      (30000, (refl, refl), (lit< tt, lit≤ tt, inl refl, refl, λ k time lt. nobody 25000 k (omega (arith, lt)))),
    ),
    refl,
  );
}

-- the end at 21100 is the next that is due
pub due : legal.IsDue C after_17000 21100
unfolding heard.carried heard.is_flogi eth.decoded reading.decoded fc.decoded legal.is_tick_owed
due = record { begun = refl; time = (refl, lit< tt); owed = refl; least = λ k time lt. quiet _ 17000 k (in_windows k time.0 lt) (omega (arith, lt)) }

-- ---- what it writes

pub lines : text.text J ≡ codes "journal 2\n1000 tick\n1000 1 0 granted 010100\n9000 tick\n17000 tick\n21100 tick 010100\n25000 tick\n30000 tick\n30000 1 1 vlans\n"
unfolding text.text fmt.digits
lines = refl
