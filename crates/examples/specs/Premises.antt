-- What premises and parts of laws say at single entries, and what they exclude.
use Rattle.std.specs.Prelude.{◌≡◌, ℕ, ◌==◌, ◌⊎◌, Bool, true, false, List, [], ◌∷◌, length, map, refl}
use Rattle.std.proofs.Common.{ap, arith}
use Rattle.fab_base.specs.Ending.{IsPrefixOf}
use Rattle.fab_base.specs.declared.values.Caught.{Caught}
use Rattle.fab_config.specs.Settings.{Settings}
use Rattle.pcap_file.specs.declared.Record.{Record}
use Rattle.ct_messages.specs.Ct.{SetNode, SetFeature, Erase}
use Rattle.ct_messages.specs.CanWrite.{HasByte}
use Rattle.ct_messages.specs.Server.{is_registration}
use Rattle.fab_policy.specs.Changes.{CanStay, leaves_logins}
use Rattle.heard_frames.specs.Heard.{ask_of}
use Rattle.fab_policy.specs.State.{LivePort}
use Rattle.fab_policy.specs.Journal.{Journal}
use Rattle.fab_policy.specs.Legal.{HoldsFrames}
use Rattle.fab_policy.specs.Spelling.{IsClockOf, EndsAscend}
use Rattle.fab_policy.specs.Standing.{AreFrames}
use Rattle.fab_policy.specs.Text.{text, text1}
use Rattle.fab_policy.specs.Written.{IsNamed}
use Rattle.fab_policy.specs.declared.event.Event.TheVariants.{Tick, Frame}
use Rattle.fab_policy.specs.declared.verdict.Verdict.TheVariants.{Vlans, Granted, Logout, Registered, Noted}
use Rattle.examples.specs.Given.{vlan_request}

-- ---- entries

-- a fabric grows by frames, and by no tick
pub by_frames : AreFrames (Frame 1 0 vlan_request Vlans ∷ Frame 2 0 vlan_request Vlans ∷ [])
by_frames = tt

pub by_no_tick : AreFrames (Frame 1 0 vlan_request Vlans ∷ Tick 1000 [] ∷ []) → ⊥
by_no_tick h = h

-- the clock of a tick is its moment, and that of a frame may be any
pub other_moment : IsClockOf 999 (Tick 1000 []) → ⊥
other_moment h = absurd (omega (arith, h))

pub any_clock : IsClockOf 999 (Frame 1 0 vlan_request Vlans)
any_clock = tt

-- a tick lists each address once, and a frame lists none
pub listed_twice : EndsAscend (Tick 1000 (5 ∷ 5 ∷ [])) → ⊥
listed_twice h = absurd (omega (arith, h.0.1.0))

pub none_listed : EndsAscend (Frame 1 0 vlan_request Vlans)
none_listed = tt

-- ---- registrations

-- a feature is registered for a type of one byte; other registrations have no type
pub no_byte : HasByte (SetFeature 0x010100 1 256) → ⊥
no_byte h = absurd (omega (arith, h))

pub no_type : HasByte (SetNode 0x010100 1) × HasByte (Erase 0x010100)
no_type = (tt, tt)

-- an N_Port may register what the table knows, of the features of 256 types; it stays beside an address that is granted
pub may_register : (caught : Caught) (p : LivePort) → is_registration (ask_of caught) ≡ true → HasByte (ask_of caught) → length p.values.features ≡ 256 → CanStay caught Registered p
may_register caught p kind byte long = (kind, byte, long)

pub beside : (p : LivePort) → p.address ≡ 0x010101 → CanStay vlan_request (Granted 0x010100) p
beside p is = ap (λ a. a == 0x010100) is

pub stays : (p : LivePort) → CanStay vlan_request Noted p × (map leaves_logins (Noted ∷ Registered ∷ Logout 0x010100 ∷ Granted 0x010100 ∷ []) ≡ true ∷ true ∷ false ∷ false ∷ [])
stays p = (tt, refl)

-- ---- files

pub begins_so : IsPrefixOf (1 ∷ 2 ∷ []) (1 ∷ 2 ∷ 3 ∷ [])
begins_so = (3 ∷ [], refl)

pub begins_otherwise : IsPrefixOf (2 ∷ []) (1 ∷ 2 ∷ []) → ⊥
begins_otherwise h = absurd (omega (arith, ap first h.1))
  where
    first : List ℕ → ℕ
    first [] = 0
    first (x ∷ l) = x

-- a journal file names the journal by its text in one of two formats, over the frames of the port
pub named : (records : List Record) (J : Journal) (journal : List ℕ) → IsNamed (records ∷ []) J journal → ((journal ≡ text J) ⊎ (journal ≡ text1 J)) × HoldsFrames J 1 (records ∷ [])
named records J journal n = (n.lines, n.frames)
