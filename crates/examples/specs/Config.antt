-- Configuration texts, their values and their faults.
use Rattle.std.specs.Prelude.{◌≡◌, ℕ, ◌++◌, List, [], ◌∷◌, refl, codes, Ok, Err}
use Rattle.std.specs.Fmt as fmt
use Rattle.fab_config.specs.Settings.{Settings}
use Rattle.fab_config.specs.Text as config
use Rattle.fab_config.specs.Written as text
use Rattle.fab_config.specs.declared.ConfigWhy.TheVariants.{Twice, Value, Missing}
use Rattle.examples.specs.Given.{K, NAME_A, NAME_B}

abbrev pub text_of_k : List ℕ
text_of_k = codes "fcf-mac 00:05:1e:00:00:02\nvlan 100\n"

pub value : config.decoded text_of_k ≡ Ok K
unfolding config.decoded config.line_read config.keyword_of config.zones_with config.sets_with config.activations_with config.finished
value = refl

pub written : text.written K ≡ codes "fcf-mac 00:05:1e:00:00:02\nvlan 100\nswitch 10:00:00:05:1e:00:00:02\nfc-map 0e:fc:00\ndomain 1\npool 256\npriority 128\nperiod 8000\nwindow 100\nlimit 240\n"
unfolding text.written fmt.digits
written = refl

pub again : config.decoded (text.written K) ≡ Ok K
unfolding text.written config.decoded config.line_read config.keyword_of config.finished fmt.digits
again = refl

pub too_large : config.decoded (codes "fcf-mac 00:05:1e:00:00:02\nvlan 5000\n") ≡ Err (record { line = 2; why = Value })
unfolding config.decoded config.line_read config.keyword_of config.zones_with config.sets_with config.activations_with config.finished
too_large = refl

pub twice : config.decoded (text_of_k ++ codes "vlan 100\n") ≡ Err (record { line = 3; why = Twice })
unfolding config.decoded config.line_read config.keyword_of config.zones_with config.sets_with config.activations_with config.finished
twice = refl

pub missing : config.decoded (codes "fcf-mac 00:05:1e:00:00:02\n") ≡ Err (record { line = 2; why = Missing })
unfolding config.decoded config.line_read config.keyword_of config.zones_with config.sets_with config.activations_with config.finished
missing = refl

pub no_such_set : config.decoded (text_of_k ++ codes "activate s9 0\n") ≡ Err (record { line = 3; why = Value })
unfolding config.decoded config.line_read config.keyword_of config.zones_with config.sets_with config.activations_with config.finished
no_such_set = refl

-- two zones, two sets, and two activations
abbrev pub zoned : Settings
zoned = record K {
  zones = record { name = codes "z"; members = NAME_A ∷ NAME_B ∷ [] } ∷ record { name = codes "y"; members = NAME_A ∷ 0x2000001b2100000c ∷ [] } ∷ [];
  sets = record { name = codes "s1"; places = 0 ∷ [] } ∷ record { name = codes "s2"; places = 1 ∷ [] } ∷ [];
  activations = record { set = 0; moment = 0 } ∷ record { set = 1; moment = 5000 } ∷ [];
}

pub value_zoned : config.decoded (text_of_k ++ codes "zone z 20:00:00:1b:21:00:00:0a 20:00:00:1b:21:00:00:0b\nzone y 20:00:00:1b:21:00:00:0A\t20:00:00:1b:21:00:00:0c\r\nzoneset s1 z\nzoneset s2 y\n# two activations\n\nactivate s1 0\nactivate s2 5000\n") ≡ Ok zoned
unfolding config.decoded config.line_read config.keyword_of config.zones_with config.sets_with config.activations_with config.finished
value_zoned = refl
