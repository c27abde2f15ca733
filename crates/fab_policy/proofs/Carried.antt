-- What a decoded frame says is what a journal reads from its bytes.
use Rattle.std.proofs.Common.{◌≡◌, ℕ, Bool, true, false, ◌==◌, ◌&&◌, ◌%◌, ◌/◌, List, Option, Some, None, Result, Ok, Err, refl, sym, ap, subst, ◌∙◌, arith, nat_le, length, if◌then◌else◌}
use Rattle.std.proofs.lemmas.Bool.Decides.{nat_tests}
use Rattle.fab_base.specs.Layout.{field, byte}
use Rattle.fab_base.specs.declared.values.Caught.{Caught}
use Rattle.eth_frames.specs.Ethernet as eth
use Rattle.eth_frames.specs.declared.EthFault.{EthFault}
use Rattle.eth_frames.specs.declared.EthFault.TheVariants.{Short}
use Rattle.fc_check.specs.Crc.{crc}
use Rattle.fc_frames.specs.Frame as fc
use Rattle.fcoe_codec.specs.Fcoe as capsule
use Rattle.fcoe_codec.specs.declared.FcoeFault.{FcoeFault}
use Rattle.fcoe_codec.specs.declared.FcoeFault.TheVariants.{Length, Version, Sof, Eof, Crc}
use Rattle.fip_codec.specs.Message as fip
use Rattle.fip_codec.specs.Reading as reading
use Rattle.fip_codec.specs.declared.fault.FipFault.{FipFault}
use Rattle.fip_codec.specs.declared.message.LoginKind.{LoginKind}
use Rattle.els_messages.specs.Els as els
use Rattle.fab_policy.specs.Carried.{SourcesAreRead, LoginsAreCarried, BodiesAreCarried, ParmsAreAsked, AnswersAreAsked}
use Rattle.heard_frames.specs.Heard.{What, Bad, Fip, Fcoe, FIP, FCOE, decoded, frame_in, fip_in, source, fc_of, login_of, carried, NO_FRAME}
use Rattle.heard_frames.specs.declared.unreadable.Unreadable.TheVariants as unreadable
use Rattle.fab_policy.specs.Replies.{size_in, size_asked}
use Rattle.fab_policy.proofs.SoundParms.{SaysParms, says_parms}

-- ---- which parts a decoded frame comes from

-- the parts of a FIP message
pub record IsFipOf (caught : Caught) (f : eth.Eth) (m : fip.Fip) : Type 0 where
  pub frame : eth.decoded caught.bytes ≡ Ok f
  pub kind : f.kind == FIP ≡ true
  pub message : reading.decoded f.body ≡ Ok m

-- the parts of a body of FCoE
pub record IsFcoeOf (caught : Caught) (f : eth.Eth) (read : Result capsule.Fcoe FcoeFault) : Type 0 where
  pub frame : eth.decoded caught.bytes ≡ Ok f
  pub kind : f.kind == FCOE ≡ true
  pub body : capsule.decoded f.body ≡ read

abbrev PartsOf : Caught → What → Type 0
PartsOf caught (Bad fault) = Unit {0}
PartsOf caught (Fip f m) = IsFipOf caught f m
PartsOf caught (Fcoe f read) = IsFcoeOf caught f read

parts_of : (caught : Caught) → PartsOf caught (decoded caught)
unfolding decoded
parts_of caught = by_whole caught.whole (eth.decoded caught.bytes) refl
  where
    by_message : (f : eth.Eth) → eth.decoded caught.bytes ≡ Ok f → f.kind == FIP ≡ true → (r : Result fip.Fip FipFault) → reading.decoded f.body ≡ r →
        PartsOf caught (elim r as (λ _. What) [ Err fault ↦ Bad (unreadable.Fip fault) | Ok message ↦ Fip f message ])
    by_message f x k (Err fault) y = tt
    by_message f x k (Ok m) y = record { frame = x; kind = k; message = y }

    by_kind : (f : eth.Eth) → eth.decoded caught.bytes ≡ Ok f → (b o : Bool) → f.kind == FIP ≡ b → f.kind == FCOE ≡ o →
        PartsOf caught (elim b as (λ _. What) [ true ↦ fip_in f | false ↦ elim o as (λ _. What) [ true ↦ Fcoe f (capsule.decoded f.body) | false ↦ Bad unreadable.Ethertype ] ])
    by_kind f x true o k j = by_message f x k (reading.decoded f.body) refl
    by_kind f x false true k j = record { frame = x; kind = j; body = refl }
    by_kind f x false false k j = tt

    by_whole : (b : Bool) (r : Result eth.Eth EthFault) → eth.decoded caught.bytes ≡ r →
        PartsOf caught (elim b as (λ _. What) [ false ↦ Bad unreadable.Truncated | true ↦ elim r as (λ _. What) [ Err fault ↦ Bad unreadable.EthShort | Ok f ↦ frame_in f ] ])
    by_whole false r x = tt
    by_whole true (Err fault) x = tt
    by_whole true (Ok f) x = by_kind f x (f.kind == FIP) (f.kind == FCOE) refl refl

pub fip_of : (caught : Caught) (f : eth.Eth) (m : fip.Fip) → decoded caught ≡ Fip f m → IsFipOf caught f m
fip_of caught f m e = subst (PartsOf caught) e (parts_of caught)

pub fcoe_of : (caught : Caught) (f : eth.Eth) (read : Result capsule.Fcoe FcoeFault) → decoded caught ≡ Fcoe f read → IsFcoeOf caught f read
fcoe_of caught f read e = subst (PartsOf caught) e (parts_of caught)

-- ---- its sender

source_of : (l : List ℕ) (short tag : Bool) (f : eth.Eth) →
    (if short then Err Short else Ok (if tag then eth.tagged_frame l else eth.plain_frame l)) ≡ Ok f → field l 6 6 ≡ f.src
source_of l true tag f e = cc
source_of l false true f e = ap (λ (r : Result eth.Eth EthFault). from r) e
  where
    from : Result eth.Eth EthFault → List ℕ
    from (Ok g) = g.src
    from (Err fault) = field l 6 6
source_of l false false f e = ap (λ (r : Result eth.Eth EthFault). from r) e
  where
    from : Result eth.Eth EthFault → List ℕ
    from (Ok g) = g.src
    from (Err fault) = field l 6 6

pub source_is : (caught : Caught) (f : eth.Eth) → eth.decoded caught.bytes ≡ Ok f → source caught ≡ f.src
unfolding eth.decoded
source_is caught f e = source_of caught.bytes (eth.is_short caught.bytes) (eth.has_tag caught.bytes) f e

pub sources_are_read : SourcesAreRead
sources_are_read = (λ caught f m e. source_is caught f (fip_of caught f m e).frame, λ caught f read e. source_is caught f (fcoe_of caught f read e).frame)

-- ---- what it carries

not_fcoe : (kind : ℕ) → kind == FIP ≡ true → kind == FCOE ≡ false
not_fcoe kind e = grind (arith, nat_tests)

not_fip : (kind : ℕ) → kind == FCOE ≡ true → kind == FIP ≡ false
not_fip kind e = grind (arith, nat_tests)

abbrev login_read : Result fip.Fip FipFault → Option (LoginKind × List ℕ)
login_read r = elim r as (λ _. Option (LoginKind × List ℕ)) [ Ok (fip.Login kind fp l mac) ↦ Some (kind, l) | _ ↦ None ]

-- the login of a frame by its reading and by whether it is FIP
abbrev login_by : Result eth.Eth EthFault → Option (LoginKind × List ℕ)
login_by r = elim r as (λ _. Option (LoginKind × List ℕ)) [ Err fault ↦ None | Ok f ↦ elim (f.kind == FIP) as (λ _. Option (LoginKind × List ℕ)) [ true ↦ login_read (reading.decoded f.body) | false ↦ None ] ]

abbrev in_login : Option (LoginKind × List ℕ) → fc.Frame
in_login o = elim o as (λ _. fc.Frame) [ None ↦ NO_FRAME | Some login ↦ fc_of login.1 ]

abbrev carried_by : Result eth.Eth EthFault → Option (LoginKind × List ℕ) → fc.Frame
carried_by r o = elim r as (λ _. fc.Frame) [ Err fault ↦ NO_FRAME | Ok f ↦ elim (f.kind == FCOE) as (λ _. fc.Frame) [ true ↦ capsule.frame_in (capsule.covered f.body) | false ↦ in_login o ] ]

carried_is : (caught : Caught) → carried caught ≡ carried_by (eth.decoded caught.bytes) (login_of caught)
unfolding carried
carried_is caught = refl

-- the login that the journal reads from the frame of a FIP login
pub login_there : (caught : Caught) (f : eth.Eth) (kind : LoginKind) (fp : Bool) (l mac : List ℕ) → IsFipOf caught f (fip.Login kind fp l mac) → login_of caught ≡ Some (kind, l)
login_there caught f kind fp l mac h =
    ap login_by h.frame
    ∙ ap (λ b. elim b as (λ _. Option (LoginKind × List ℕ)) [ true ↦ login_read (reading.decoded f.body) | false ↦ None ]) h.kind
    ∙ ap login_read h.message

pub carried_there : (caught : Caught) (f : eth.Eth) (kind : LoginKind) (fp : Bool) (l mac : List ℕ) → IsFipOf caught f (fip.Login kind fp l mac) → carried caught ≡ fc_of l
carried_there caught f kind fp l mac h =
    carried_is caught
    ∙ ap (λ r. carried_by r (login_of caught)) h.frame
    ∙ ap (λ b. elim b as (λ _. fc.Frame) [ true ↦ capsule.frame_in (capsule.covered f.body) | false ↦ in_login (login_of caught) ]) (not_fcoe f.kind h.kind)
    ∙ ap in_login (login_there caught f kind fp l mac h)

pub logins_are_carried : LoginsAreCarried
logins_are_carried caught f kind fp l mac e =
    let h = fip_of caught f (fip.Login kind fp l mac) e in
    (login_there caught f kind fp l mac h, carried_there caught f kind fp l mac h)

-- a body that was read has the frame that stands in it
body_frame : (body : List ℕ) (x : capsule.Fcoe) → capsule.decoded body ≡ Ok x → capsule.frame_in (capsule.covered body) ≡ x.frame
unfolding capsule.decoded
body_frame body x e = by_tests (nat_le 46 (length body) && nat_le (length body) 2158 && length body % 4 == 2) (byte body 0 / 16 == 0) (capsule.is_sof (byte body capsule.SOF_AT)) (capsule.is_eof (capsule.eof_of body))
    (capsule.crc_found body == crc (capsule.covered body)) e
  where
    frame : Result capsule.Fcoe FcoeFault → fc.Frame
    frame (Ok y) = y.frame
    frame (Err fault) = x.frame

    by_tests : (long version sof eof check : Bool) → (elim long as (λ _. Result capsule.Fcoe FcoeFault) [
      | false ↦ Err Length
      | true ↦ elim version as (λ _. Result capsule.Fcoe FcoeFault) [
        | false ↦ Err Version
        | true ↦ elim sof as (λ _. Result capsule.Fcoe FcoeFault) [
          | false ↦ Err Sof
          | true ↦ elim eof as (λ _. Result capsule.Fcoe FcoeFault) [
            | false ↦ Err Eof
            | true ↦ (if check
                then Ok (record { sof = byte body capsule.SOF_AT; eof = capsule.eof_of body; frame = capsule.frame_in (capsule.covered body) })
                else Err (Crc (capsule.crc_found body) (crc (capsule.covered body))))
          ]
        ]
      ]
    ]) ≡ Ok x → capsule.frame_in (capsule.covered body) ≡ x.frame
    by_tests false version sof eof check is = cc
    by_tests true false sof eof check is = cc
    by_tests true true false eof check is = cc
    by_tests true true true false check is = cc
    by_tests true true true true false is = cc
    by_tests true true true true true is = ap (λ r. frame r) is

no_login_there : (caught : Caught) (f : eth.Eth) (read : Result capsule.Fcoe FcoeFault) → IsFcoeOf caught f read → login_of caught ≡ None
no_login_there caught f read h =
    ap login_by h.frame
    ∙ ap (λ b. elim b as (λ _. Option (LoginKind × List ℕ)) [ true ↦ login_read (reading.decoded f.body) | false ↦ None ]) (not_fip f.kind h.kind)

body_there : (caught : Caught) (f : eth.Eth) (x : capsule.Fcoe) → IsFcoeOf caught f (Ok x) → carried caught ≡ x.frame
body_there caught f x h =
    carried_is caught
    ∙ ap (λ r. carried_by r (login_of caught)) h.frame
    ∙ ap (λ b. elim b as (λ _. fc.Frame) [ true ↦ capsule.frame_in (capsule.covered f.body) | false ↦ in_login (login_of caught) ]) h.kind
    ∙ body_frame f.body x h.body

pub bodies_are_carried : BodiesAreCarried
bodies_are_carried caught f x e =
    let h = fcoe_of caught f (Ok x) e in
    (body_there caught f x h, no_login_there caught f (Ok x) h)

-- ---- what it asks

pub parms_are_asked : ParmsAreAsked
parms_are_asked caught p = (λ e. sym (said (els.Flogi p) e), λ e. sym (said (els.Fdisc p) e), λ e. sym (said (els.Plogi p) e))
  where
    said : (v : els.Els) → els.payload_of (carried caught).payload ≡ v → SaysParms (carried caught).payload v
    said v e = subst (SaysParms (carried caught).payload) e (says_parms (carried caught).payload)

abbrev untagged_by : Result eth.Eth EthFault → Bool
untagged_by r = elim r as (λ _. Bool) [ Ok f ↦ eth.vlan_of_tag f.tag == 0 | Err e ↦ true ]

abbrev size_by : Result eth.Eth EthFault → ℕ
size_by r = elim r as (λ _. ℕ) [ Err e ↦ 0 | Ok f ↦ size_in f.body ]

abbrev size_read : Result fip.Fip FipFault → ℕ
size_read r = elim r as (λ _. ℕ) [ Ok (fip.Solicit from_fcf fp mac name size) ↦ size | _ ↦ 0 ]

pub answers_are_asked : AnswersAreAsked
answers_are_asked = (λ caught f m e. ap untagged_by (fip_of caught f m e).frame, λ caught f from_fcf fp mac name size e. size_is caught f from_fcf fp mac name size (fip_of caught f (fip.Solicit from_fcf fp mac name size) e))
  where
    size_is : (caught : Caught) (f : eth.Eth) (from_fcf fp : Bool) (mac : List ℕ) (name size : ℕ) → IsFipOf caught f (fip.Solicit from_fcf fp mac name size) → size_asked caught ≡ size
    size_is caught f from_fcf fp mac name size h = ap size_by h.frame ∙ ap size_read h.message
