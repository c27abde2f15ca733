-- Configuration texts at the edges of what is allowed, and the first fault of others.
use Rattle.std.specs.Prelude.{◌≡◌, ◌++◌, [], ◌∷◌, refl, codes, Ok, Err}
use Rattle.fab_config.specs.Settings.{Settings}
use Rattle.fab_config.specs.Text as config
use Rattle.fab_config.specs.declared.ConfigWhy.TheVariants.{Ascii, Key, Twice, Value, Missing}
use Rattle.examples.specs.Given.{bytes}

pub no_text : config.decoded (codes "") ≡ Err (record { line = 1; why = Missing })
unfolding config.decoded config.line_read config.keyword_of config.zones_with config.sets_with config.activations_with config.finished
no_text = refl

pub blank_line : config.decoded (codes "fcf-mac 00:05:1e:00:00:02\nvlan 100\n  \n") ≡ Err (record { line = 3; why = Key })
unfolding config.decoded config.line_read config.keyword_of config.zones_with config.sets_with config.activations_with config.finished
blank_line = refl

pub bad_key : config.decoded (codes "fcf-mac 00:05:1e:00:00:02\nvlan 100\nVlan 100\n") ≡ Err (record { line = 3; why = Key })
unfolding config.decoded config.line_read config.keyword_of config.zones_with config.sets_with config.activations_with config.finished
bad_key = refl

pub high_byte : config.decoded (codes "fcf-mac 00:05:1e:00:00:02\nvlan 100\ndomain 1" ++ 127 ∷ codes "\n") ≡ Err (record { line = 3; why = Ascii })
unfolding config.decoded config.line_read config.keyword_of config.zones_with config.sets_with config.activations_with config.finished
high_byte = refl

pub two_returns : config.decoded (codes "fcf-mac 00:05:1e:00:00:02\nvlan 100\ndomain 1\r\r\n") ≡ Err (record { line = 3; why = Ascii })
unfolding config.decoded config.line_read config.keyword_of config.zones_with config.sets_with config.activations_with config.finished
two_returns = refl

pub twice_bad : config.decoded (codes "fcf-mac 00:05:1e:00:00:02\nvlan 100\nvlan x\n") ≡ Err (record { line = 3; why = Twice })
unfolding config.decoded config.line_read config.keyword_of config.zones_with config.sets_with config.activations_with config.finished
twice_bad = refl

pub twice_zone : config.decoded (codes "fcf-mac 00:05:1e:00:00:02\nvlan 100\nzone z 20:00:00:1b:21:00:00:0a\nzone z\n") ≡ Err (record { line = 4; why = Twice })
unfolding config.decoded config.line_read config.keyword_of config.zones_with config.sets_with config.activations_with config.finished
twice_zone = refl

pub no_member : config.decoded (codes "fcf-mac 00:05:1e:00:00:02\nvlan 100\nzone z\n") ≡ Err (record { line = 3; why = Value })
unfolding config.decoded config.line_read config.keyword_of config.zones_with config.sets_with config.activations_with config.finished
no_member = refl

pub bad_zone_name : config.decoded (codes "fcf-mac 00:05:1e:00:00:02\nvlan 100\nzone 9z 20:00:00:1b:21:00:00:0a\n") ≡ Err (record { line = 3; why = Value })
unfolding config.decoded config.line_read config.keyword_of config.zones_with config.sets_with config.activations_with config.finished
bad_zone_name = refl

pub long_name : config.decoded (codes "fcf-mac 00:05:1e:00:00:02\nvlan 100\nzone aaaaaaaaaaaaaaaaaaaaaaaaaaaaaaaaaaaaaaaaaaaaaaaaaaaaaaaaaaaaaaaaa 20:00:00:1b:21:00:00:0a\n") ≡ Err (record { line = 3; why = Value })
unfolding config.decoded config.line_read config.keyword_of config.zones_with config.sets_with config.activations_with config.finished
long_name = refl

pub leading_zero : config.decoded (codes "fcf-mac 00:05:1e:00:00:02\nvlan 100\ndomain 01\n") ≡ Err (record { line = 3; why = Value })
unfolding config.decoded config.line_read config.keyword_of config.zones_with config.sets_with config.activations_with config.finished
leading_zero = refl

pub vlan_high : config.decoded (codes "fcf-mac 00:05:1e:00:00:02\nvlan 4095\n") ≡ Err (record { line = 2; why = Value })
unfolding config.decoded config.line_read config.keyword_of config.zones_with config.sets_with config.activations_with config.finished
vlan_high = refl

pub vlan_zero : config.decoded (codes "fcf-mac 00:05:1e:00:00:02\nvlan 0\n") ≡ Err (record { line = 2; why = Value })
unfolding config.decoded config.line_read config.keyword_of config.zones_with config.sets_with config.activations_with config.finished
vlan_zero = refl

pub domain_zero : config.decoded (codes "fcf-mac 00:05:1e:00:00:02\nvlan 100\ndomain 0\n") ≡ Err (record { line = 3; why = Value })
unfolding config.decoded config.line_read config.keyword_of config.zones_with config.sets_with config.activations_with config.finished
domain_zero = refl

pub domain_high : config.decoded (codes "fcf-mac 00:05:1e:00:00:02\nvlan 100\ndomain 240\n") ≡ Err (record { line = 3; why = Value })
unfolding config.decoded config.line_read config.keyword_of config.zones_with config.sets_with config.activations_with config.finished
domain_high = refl

pub pool_high : config.decoded (codes "fcf-mac 00:05:1e:00:00:02\nvlan 100\npool 60001\n") ≡ Err (record { line = 3; why = Value })
unfolding config.decoded config.line_read config.keyword_of config.zones_with config.sets_with config.activations_with config.finished
pool_high = refl

pub period_low : config.decoded (codes "fcf-mac 00:05:1e:00:00:02\nvlan 100\nperiod 249\n") ≡ Err (record { line = 3; why = Value })
unfolding config.decoded config.line_read config.keyword_of config.zones_with config.sets_with config.activations_with config.finished
period_low = refl

pub period_high : config.decoded (codes "fcf-mac 00:05:1e:00:00:02\nvlan 100\nperiod 90001\n") ≡ Err (record { line = 3; why = Value })
unfolding config.decoded config.line_read config.keyword_of config.zones_with config.sets_with config.activations_with config.finished
period_high = refl

pub window_low : config.decoded (codes "fcf-mac 00:05:1e:00:00:02\nvlan 100\nwindow 9\n") ≡ Err (record { line = 3; why = Value })
unfolding config.decoded config.line_read config.keyword_of config.zones_with config.sets_with config.activations_with config.finished
window_low = refl

pub window_high : config.decoded (codes "fcf-mac 00:05:1e:00:00:02\nvlan 100\nwindow 1001\n") ≡ Err (record { line = 3; why = Value })
unfolding config.decoded config.line_read config.keyword_of config.zones_with config.sets_with config.activations_with config.finished
window_high = refl

pub limit_high : config.decoded (codes "fcf-mac 00:05:1e:00:00:02\nvlan 100\nlimit 1001\n") ≡ Err (record { line = 3; why = Value })
unfolding config.decoded config.line_read config.keyword_of config.zones_with config.sets_with config.activations_with config.finished
limit_high = refl

pub limit_zero : config.decoded (codes "fcf-mac 00:05:1e:00:00:02\nvlan 100\nlimit 0\n") ≡ Err (record { line = 3; why = Value })
unfolding config.decoded config.line_read config.keyword_of config.zones_with config.sets_with config.activations_with config.finished
limit_zero = refl

pub priority_high : config.decoded (codes "fcf-mac 00:05:1e:00:00:02\nvlan 100\npriority 256\n") ≡ Err (record { line = 3; why = Value })
unfolding config.decoded config.line_read config.keyword_of config.zones_with config.sets_with config.activations_with config.finished
priority_high = refl

pub map_high : config.decoded (codes "fcf-mac 00:05:1e:00:00:02\nvlan 100\nfc-map 0e:fd:00\n") ≡ Err (record { line = 3; why = Value })
unfolding config.decoded config.line_read config.keyword_of config.zones_with config.sets_with config.activations_with config.finished
map_high = refl

pub odd_mac : config.decoded (codes "fcf-mac 01:05:1e:00:00:02\nvlan 100\n") ≡ Err (record { line = 1; why = Value })
unfolding config.decoded config.line_read config.keyword_of config.zones_with config.sets_with config.activations_with config.finished
odd_mac = refl

pub zero_mac : config.decoded (codes "fcf-mac 00:00:00:00:00:00\nvlan 100\n") ≡ Err (record { line = 1; why = Value })
unfolding config.decoded config.line_read config.keyword_of config.zones_with config.sets_with config.activations_with config.finished
zero_mac = refl

pub short_mac : config.decoded (codes "fcf-mac 00:05:1e:00:00\nvlan 100\n") ≡ Err (record { line = 1; why = Value })
unfolding config.decoded config.line_read config.keyword_of config.zones_with config.sets_with config.activations_with config.finished
short_mac = refl

pub end_colon : config.decoded (codes "fcf-mac 00:05:1e:00:00:02:\nvlan 100\n") ≡ Err (record { line = 1; why = Value })
unfolding config.decoded config.line_read config.keyword_of config.zones_with config.sets_with config.activations_with config.finished
end_colon = refl

pub two_values : config.decoded (codes "fcf-mac 00:05:1e:00:00:02\nvlan 100\npool 4 5\n") ≡ Err (record { line = 3; why = Value })
unfolding config.decoded config.line_read config.keyword_of config.zones_with config.sets_with config.activations_with config.finished
two_values = refl

pub no_value : config.decoded (codes "fcf-mac 00:05:1e:00:00:02\nvlan 100\npool\n") ≡ Err (record { line = 3; why = Value })
unfolding config.decoded config.line_read config.keyword_of config.zones_with config.sets_with config.activations_with config.finished
no_value = refl

pub missing_unended : config.decoded (codes "fcf-mac 00:05:1e:00:00:02") ≡ Err (record { line = 2; why = Missing })
unfolding config.decoded config.line_read config.keyword_of config.zones_with config.sets_with config.activations_with config.finished
missing_unended = refl

pub missing_after_blank : config.decoded (codes "fcf-mac 00:05:1e:00:00:02\n\n#\n") ≡ Err (record { line = 4; why = Missing })
unfolding config.decoded config.line_read config.keyword_of config.zones_with config.sets_with config.activations_with config.finished
missing_after_blank = refl

pub no_zone : config.decoded (codes "fcf-mac 00:05:1e:00:00:02\nvlan 100\nzone z 20:00:00:1b:21:00:00:0a\nzoneset s z y\n") ≡ Err (record { line = 4; why = Value })
unfolding config.decoded config.line_read config.keyword_of config.zones_with config.sets_with config.activations_with config.finished
no_zone = refl

pub later_zone : config.decoded (codes "fcf-mac 00:05:1e:00:00:02\nvlan 100\nzoneset s z\nzone z 20:00:00:1b:21:00:00:0a\n") ≡ Err (record { line = 3; why = Value })
unfolding config.decoded config.line_read config.keyword_of config.zones_with config.sets_with config.activations_with config.finished
later_zone = refl

pub same_moment : config.decoded (codes "fcf-mac 00:05:1e:00:00:02\nvlan 100\nzone z 20:00:00:1b:21:00:00:0a\nzoneset s z\nactivate s 5\nactivate s 5\n") ≡ Err (record { line = 6; why = Value })
unfolding config.decoded config.line_read config.keyword_of config.zones_with config.sets_with config.activations_with config.finished
same_moment = refl

pub moment_high : config.decoded (codes "fcf-mac 00:05:1e:00:00:02\nvlan 100\nzone z 20:00:00:1b:21:00:00:0a\nzoneset s z\nactivate s 4294967296000\n") ≡ Err (record { line = 5; why = Value })
unfolding config.decoded config.line_read config.keyword_of config.zones_with config.sets_with config.activations_with config.finished
moment_high = refl

pub activate_words : config.decoded (codes "fcf-mac 00:05:1e:00:00:02\nvlan 100\nzone z 20:00:00:1b:21:00:00:0a\nzoneset s z\nactivate s\n") ≡ Err (record { line = 5; why = Value })
unfolding config.decoded config.line_read config.keyword_of config.zones_with config.sets_with config.activations_with config.finished
activate_words = refl

pub twice_set : config.decoded (codes "fcf-mac 00:05:1e:00:00:02\nvlan 100\nzone z 20:00:00:1b:21:00:00:0a\nzoneset s z\nzoneset s q\n") ≡ Err (record { line = 5; why = Twice })
unfolding config.decoded config.line_read config.keyword_of config.zones_with config.sets_with config.activations_with config.finished
twice_set = refl

pub remark_any : config.decoded (codes "fcf-mac 00:05:1e:00:00:02\nvlan 100\n#" ++ 127 ∷ codes "\ndomain 0\n") ≡ Err (record { line = 4; why = Value })
unfolding config.decoded config.line_read config.keyword_of config.zones_with config.sets_with config.activations_with config.finished
remark_any = refl

pub blank_remark : config.decoded (codes "fcf-mac 00:05:1e:00:00:02\nvlan 100\n #\n") ≡ Err (record { line = 3; why = Key })
unfolding config.decoded config.line_read config.keyword_of config.zones_with config.sets_with config.activations_with config.finished
blank_remark = refl

abbrev pub of_edges : Settings
of_edges = record { switch = 0x2000001b210000fa; fcf_mac = bytes (codes "0e051e000002"); fc_map = 0xefcff; vlan = 4094; domain = 239; pool = 60000; priority = 0; period = 250; window = 10; limit = 1000; zones = []; sets = []; activations = [] }

pub edges : config.decoded (codes "vlan 4094\r\nfcf-mac 0E:05:1e:00:00:02\ndomain 239\npool 60000\npriority 0\nperiod 250\nwindow 10\nlimit 1000\nfc-map 0e:fc:ff\nswitch 20:00:00:1b:21:00:00:Fa\n") ≡ Ok of_edges
unfolding config.decoded config.line_read config.keyword_of config.zones_with config.sets_with config.activations_with config.finished
edges = refl

abbrev pub of_other_edges : Settings
of_other_edges = record { switch = 0x10000e051e000002; fcf_mac = bytes (codes "0e051e000002"); fc_map = 0xefc00; vlan = 1; domain = 1; pool = 1; priority = 255; period = 90000; window = 1000; limit = 1; zones = []; sets = []; activations = [] }

pub other_edges : config.decoded (codes "vlan 1\nfcf-mac 0e:05:1e:00:00:02\ndomain 1\npool 1\npriority 255\nperiod 90000\nwindow 1000\nlimit 1\nfc-map 0e:fc:00") ≡ Ok of_other_edges
unfolding config.decoded config.line_read config.keyword_of config.zones_with config.sets_with config.activations_with config.finished
other_edges = refl

abbrev pub of_members : Settings
of_members = record { switch = 0x10000e051e000002; fcf_mac = bytes (codes "0e051e000002"); fc_map = 0xefc00; vlan = 7; domain = 1; pool = 256; priority = 128; period = 8000; window = 100; limit = 240; zones = record { name = codes "aaaaaaaaaaaaaaaaaaaaaaaaaaaaaaaaaaaaaaaaaaaaaaaaaaaaaaaaaaaaaaaa"; members = 0x2000001b2100000a ∷ 0x2000001b2100000b ∷ [] } ∷ record { name = codes "Z$-^_9"; members = 0x2000001b2100000c ∷ [] } ∷ []; sets = record { name = codes "S"; places = 1 ∷ 0 ∷ [] } ∷ record { name = codes "z"; places = 1 ∷ [] } ∷ []; activations = record { set = 0; moment = 0 } ∷ record { set = 1; moment = 4294967295999 } ∷ [] }

pub members : config.decoded (codes "\r\nfcf-mac 0e:05:1e:00:00:02\n#x\nvlan 7\nzone aaaaaaaaaaaaaaaaaaaaaaaaaaaaaaaaaaaaaaaaaaaaaaaaaaaaaaaaaaaaaaaa 20:00:00:1b:21:00:00:0a 20:00:00:1b:21:00:00:0b\t20:00:00:1b:21:00:00:0A \nzone Z$-^_9 20:00:00:1b:21:00:00:0c\nzoneset S Z$-^_9 aaaaaaaaaaaaaaaaaaaaaaaaaaaaaaaaaaaaaaaaaaaaaaaaaaaaaaaaaaaaaaaa Z$-^_9\nzoneset z Z$-^_9\nactivate S 0\nactivate z 4294967295999") ≡ Ok of_members
unfolding config.decoded config.line_read config.keyword_of config.zones_with config.sets_with config.activations_with config.finished
members = refl
