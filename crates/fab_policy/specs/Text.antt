-- The text of a journal in its two formats, and the captures of what a journal sends.
use Rattle.std.specs.Prelude.{ℕ, ◌==◌, List, [], ◌∷◌, ◌++◌, filter, flat_map, Some, None, codes, decimal}
use Rattle.fab_config.specs.Settings.{Settings}
use Rattle.pcap_file.specs.Capture.{head_bytes, record_bytes}
use Rattle.fab_base.specs.Texts.{hex}
use Rattle.fab_policy.specs.Cause.{Cause}
use Rattle.fab_policy.specs.Journal.{Journal, now}
use Rattle.fab_policy.specs.Outputs.{Sent, outputs}
use Rattle.fab_policy.specs.declared.event.Event.{Event}
use Rattle.fab_policy.specs.declared.event.Event.TheVariants.{Tick, Frame}
use Rattle.fab_policy.specs.declared.verdict.Verdict.{Verdict}
use Rattle.fab_policy.specs.declared.verdict.Verdict.TheVariants.{Vlans, Advertised, Granted, Rejected, Logout, AliveNode, AlivePort, NsLogin, NsLogout, Watching, Registered, Answered, Refused, Noted, Forwarded, Dropped}
use Rattle.fab_policy.specs.declared.verdict.Rule.{Rule}
use Rattle.fab_policy.specs.declared.verdict.Rule.TheVariants as rule

-- ---- words

abbrev pub SPACE : ℕ
SPACE = 32

abbrev pub LINE_FEED : ℕ
LINE_FEED = 10

-- a word after a space
abbrev pub then_word : List ℕ → List ℕ
then_word w = SPACE ∷ w

abbrev pub address_word : ℕ → List ℕ
address_word a = hex 6 a

abbrev pub code_word : ℕ → List ℕ
code_word b = hex 2 b

-- ---- verdicts

abbrev pub rule_word : Rule → List ℕ
rule_word rule.Truncated = codes "truncated"
rule_word rule.EthShort = codes "eth-short"
rule_word rule.Ethertype = codes "ethertype"
rule_word rule.FipShort = codes "fip-short"
rule_word rule.FipVersion = codes "fip-version"
rule_word rule.FipOperation = codes "fip-operation"
rule_word rule.FipList = codes "fip-list"
rule_word rule.FipLength = codes "fip-length"
rule_word rule.FipCritical = codes "fip-critical"
rule_word rule.FipDouble = codes "fip-double"
rule_word rule.FipMissing = codes "fip-missing"
rule_word rule.Vlan = codes "vlan"
rule_word rule.FipDest = codes "fip-dest"
rule_word rule.FipRole = codes "fip-role"
rule_word rule.FipMac = codes "fip-mac"
rule_word rule.ElsShort = codes "els-short"
rule_word rule.ElsKind = codes "els-kind"
rule_word rule.KeepaliveUnknown = codes "keepalive-unknown"
rule_word rule.FcoeLength = codes "fcoe-length"
rule_word rule.FcoeVersion = codes "fcoe-version"
rule_word rule.FcoeSof = codes "fcoe-sof"
rule_word rule.FcoeEof = codes "fcoe-eof"
rule_word rule.FcoeCrc = codes "fcoe-crc"
rule_word rule.FcoeClass = codes "fcoe-class"
rule_word rule.FcoeDest = codes "fcoe-dest"
rule_word rule.SourceMac = codes "source-mac"
rule_word rule.SourceLogin = codes "source-login"
rule_word rule.SourcePort = codes "source-port"
rule_word rule.ServiceAddress = codes "service-address"
rule_word rule.ServiceFrame = codes "service-frame"
rule_word rule.CtShort = codes "ct-short"
rule_word rule.OwnAddress = codes "self"
rule_word rule.DestLogin = codes "dest-login"
rule_word rule.Zone = codes "zone"

-- all rules, in the order of the tests
abbrev pub ALL_RULES : List Rule
ALL_RULES =
    rule.Truncated ∷ rule.EthShort ∷ rule.Ethertype ∷ rule.FipShort ∷ rule.FipVersion ∷ rule.FipOperation ∷ rule.FipList ∷ rule.FipLength
    ∷ rule.FipCritical ∷ rule.FipDouble ∷ rule.FipMissing ∷ rule.Vlan ∷ rule.FipDest ∷ rule.FipRole ∷ rule.FipMac ∷ rule.ElsShort ∷ rule.ElsKind
    ∷ rule.KeepaliveUnknown ∷ rule.FcoeLength ∷ rule.FcoeVersion ∷ rule.FcoeSof ∷ rule.FcoeEof ∷ rule.FcoeCrc ∷ rule.FcoeClass ∷ rule.FcoeDest
    ∷ rule.SourceMac ∷ rule.SourceLogin ∷ rule.SourcePort ∷ rule.ServiceAddress ∷ rule.ServiceFrame ∷ rule.CtShort ∷ rule.OwnAddress ∷ rule.DestLogin
    ∷ rule.Zone ∷ []

abbrev pub cause_text : Cause → List ℕ
cause_text cause = rule_word cause.rule ++ elim cause.number [ None ↦ [] | Some n ↦ then_word (decimal n) ]

abbrev pub verdict_text : Verdict → List ℕ
verdict_text Vlans = codes "vlans"
verdict_text Advertised = codes "advertised"
verdict_text (Granted a) = codes "granted" ++ then_word (address_word a)
verdict_text (Rejected reason explanation) = codes "rejected" ++ then_word (code_word reason) ++ then_word (code_word explanation)
verdict_text (Logout a) = codes "logout" ++ then_word (address_word a)
verdict_text AliveNode = codes "alive"
verdict_text (AlivePort a) = codes "alive" ++ then_word (address_word a)
verdict_text NsLogin = codes "ns-login"
verdict_text NsLogout = codes "ns-logout"
verdict_text (Watching function) = codes "watching" ++ then_word (decimal function)
verdict_text Registered = codes "registered"
verdict_text Answered = codes "answered"
verdict_text (Refused reason explanation) = codes "refused" ++ then_word (code_word reason) ++ then_word (code_word explanation)
verdict_text Noted = codes "noted"
verdict_text (Forwarded port) = codes "forwarded" ++ then_word (decimal port)
verdict_text (Dropped cause) = codes "dropped" ++ then_word (cause_text cause)

-- ---- lines

abbrev pub frame_words : ℕ → ℕ → Verdict → List ℕ
frame_words port index verdict = decimal port ++ then_word (decimal index) ++ then_word (verdict_text verdict)

-- addresses, each after a space
abbrev pub address_words : List ℕ → List ℕ
address_words ended = flat_map (λ a. then_word (address_word a)) ended

-- a line of format 1
abbrev pub line1 : Event → List ℕ
line1 (Tick m ended) = codes "tick" ++ then_word (decimal m) ++ address_words ended ++ LINE_FEED ∷ []
line1 (Frame port index caught verdict) = frame_words port index verdict ++ LINE_FEED ∷ []

-- a line of format 2, which begins with the clock at the entry
abbrev pub line : ℕ → Event → List ℕ
line t (Tick m ended) = decimal t ++ then_word (codes "tick") ++ address_words ended ++ LINE_FEED ∷ []
line t (Frame port index caught verdict) = decimal t ++ then_word (frame_words port index verdict) ++ LINE_FEED ∷ []

-- the line that begins a journal of format 2
abbrev pub head_line : List ℕ
head_line = codes "journal 2" ++ LINE_FEED ∷ []

-- the text of a journal in format 1, and in format 2
unfoldable pub text1 : Journal → List ℕ
text1 [] = []
text1 (e ∷ J) = text1 J ++ line1 e

unfoldable pub text : Journal → List ℕ
text [] = head_line
text (e ∷ J) = text J ++ line (now (e ∷ J)) e

-- ---- captures

-- a record of a frame that is sent
abbrev pub sent_bytes : Sent → List ℕ
sent_bytes s = record_bytes s.moment s.bytes

-- the capture of what a journal sends on a port of a forwarder of n ports
unfoldable pub egress : Settings → ℕ → ℕ → Journal → List ℕ
egress c n p [] = head_bytes
egress c n p (e ∷ J) = egress c n p J ++ flat_map sent_bytes (filter (λ s. s.port == p) (outputs c n J e))
