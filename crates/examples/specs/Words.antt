-- The one spelling of each verdict and each rule in a journal.
use Rattle.std.specs.Prelude.{◌≡◌, ℕ, List, [], ◌∷◌, ◌++◌, flat_map, map, codes, refl}
use Rattle.std.specs.Fmt as fmt
use Rattle.fab_policy.specs.Cause.{plain, cause_of}
use Rattle.fab_policy.specs.Text as text
use Rattle.fab_policy.specs.declared.event.Event.TheVariants.{Tick, Frame}
use Rattle.fab_policy.specs.declared.verdict.Rule.{Rule}
use Rattle.fab_policy.specs.declared.verdict.Rule.TheVariants as rule
use Rattle.fab_policy.specs.declared.verdict.Verdict.{Verdict}
use Rattle.fab_policy.specs.declared.verdict.Verdict.TheVariants.{Vlans, Advertised, Granted, Rejected, Logout, AliveNode, AlivePort, NsLogin, NsLogout, Watching, Registered, Answered, Refused, Noted, Forwarded, Dropped}
use Rattle.fip_codec.specs.declared.fault.FipFault.TheVariants.{Short, Version, Operation, ListLength, DescLength, Critical, Double, Missing}
use Rattle.examples.specs.Given.{vlan_request}

-- verdicts, each with a line feed behind it
abbrev pub verdict_lines : List Verdict → List ℕ
verdict_lines verdicts = flat_map (λ v. text.verdict_text v ++ 10 ∷ []) verdicts

pub verdicts : verdict_lines (Vlans ∷ Advertised ∷ Granted 0x010100 ∷ Rejected 9 0x29 ∷ Logout 0x010100 ∷ AliveNode ∷ AlivePort 0x010100 ∷ NsLogin ∷ NsLogout ∷ Watching 255
    ∷ Registered ∷ Answered ∷ Refused 9 2 ∷ Noted ∷ Forwarded 64 ∷ []) ≡
    codes "vlans\nadvertised\ngranted 010100\nrejected 09 29\nlogout 010100\nalive\nalive 010100\nns-login\nns-logout\nwatching 255\nregistered\nanswered\nrefused 09 02\nnoted\nforwarded 64\n"
unfolding fmt.digits
verdicts = refl

-- hexadecimal digits are in lower case, and an address has six
pub addresses : verdict_lines (Granted 0xabcdef ∷ Logout 1 ∷ Rejected 0x0b 0xff ∷ []) ≡ codes "granted abcdef\nlogout 000001\nrejected 0b ff\n"
unfolding fmt.digits
addresses = refl

-- the rules without a number
abbrev pub drops : List Rule → List ℕ
drops rules = verdict_lines (map (λ r. Dropped (plain r)) rules)

pub rules_of_fip : drops (rule.Truncated ∷ rule.EthShort ∷ rule.Ethertype ∷ rule.FipShort ∷ rule.FipVersion ∷ rule.FipOperation ∷ rule.FipList ∷ rule.Vlan ∷ rule.FipDest ∷ rule.FipRole ∷ rule.FipMac ∷ rule.ElsShort ∷ rule.ElsKind ∷ rule.KeepaliveUnknown ∷ []) ≡
    codes "dropped truncated\ndropped eth-short\ndropped ethertype\ndropped fip-short\ndropped fip-version\ndropped fip-operation\ndropped fip-list\ndropped vlan\ndropped fip-dest\ndropped fip-role\ndropped fip-mac\ndropped els-short\ndropped els-kind\ndropped keepalive-unknown\n"
unfolding fmt.digits
rules_of_fip = refl

pub rules_of_fcoe : drops (rule.FcoeLength ∷ rule.FcoeVersion ∷ rule.FcoeSof ∷ rule.FcoeEof ∷ rule.FcoeCrc ∷ rule.FcoeClass ∷ rule.FcoeDest ∷ rule.SourceMac ∷ rule.SourceLogin ∷ rule.SourcePort ∷ rule.ServiceAddress ∷ rule.ServiceFrame ∷ rule.CtShort ∷ rule.OwnAddress ∷ rule.DestLogin ∷ rule.Zone ∷ []) ≡
    codes "dropped fcoe-length\ndropped fcoe-version\ndropped fcoe-sof\ndropped fcoe-eof\ndropped fcoe-crc\ndropped fcoe-class\ndropped fcoe-dest\ndropped source-mac\ndropped source-login\ndropped source-port\ndropped service-address\ndropped service-frame\ndropped ct-short\ndropped self\ndropped dest-login\ndropped zone\n"
unfolding fmt.digits
rules_of_fcoe = refl

-- the rules of the faults of FIP, four of them with a place or a type
pub rules_of_faults : verdict_lines (map (λ f. Dropped (cause_of f)) (Short ∷ Version ∷ Operation ∷ ListLength ∷ DescLength 18 ∷ Critical 4294967295 13 ∷ Double 0 ∷ Missing 7 ∷ [])) ≡
    codes "dropped fip-short\ndropped fip-version\ndropped fip-operation\ndropped fip-list\ndropped fip-length 18\ndropped fip-critical 4294967295\ndropped fip-double 0\ndropped fip-missing 7\n"
unfolding fmt.digits
rules_of_faults = refl

-- lines of both formats, at the ends of their numbers
pub line_of_format_one : text.line1 (Frame 64 18446744073709551615 vlan_request Vlans) ≡ codes "64 18446744073709551615 vlans\n"
unfolding fmt.digits
line_of_format_one = refl

pub line_of_format_two : text.line 18446744073709551615 (Frame 1 0 vlan_request Vlans) ≡ codes "18446744073709551615 1 0 vlans\n"
unfolding fmt.digits
line_of_format_two = refl

pub tick_of_format_one : text.line1 (Tick 0 (0 ∷ 0x010100 ∷ 0xffffff ∷ [])) ≡ codes "tick 0 000000 010100 ffffff\n"
unfolding fmt.digits
tick_of_format_one = refl

pub tick_of_format_two : text.line 0 (Tick 0 (0 ∷ 0x010100 ∷ 0xffffff ∷ [])) ≡ codes "0 tick 000000 010100 ffffff\n"
unfolding fmt.digits
tick_of_format_two = refl

-- an empty journal has no line in the first format, and its head in the second
pub empty_of_format_one : text.text1 [] ≡ []
unfolding text.text1
empty_of_format_one = refl

pub empty_of_format_two : text.text [] ≡ codes "journal 2\n"
unfolding text.text
empty_of_format_two = refl
