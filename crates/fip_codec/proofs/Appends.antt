-- What is appended in several steps.
use Rattle.std.proofs.Common.{◌≡◌, ℕ, ◌/◌, List, [], ◌∷◌, ◌++◌, length, get_or, refl, sym, ap, ◌∙◌}
use Rattle.fab_base.specs.Layout.{spelled}
use Rattle.fab_base.proofs.LayoutLemmas.{appended_two, appended_three}
use Rattle.fip_codec.specs.Message.{Fip, Solicit, Advertise, Login, LoginReply, Keep, Clear, VlanAsk, VlanTell, written, head_bytes, message_bytes, fabric_bytes}
use Rattle.fip_codec.specs.Written.{code_out, flags_out, list_out}

-- a fabric descriptor in three parts
pub fabric_parts : (old s t u four eight : List ℕ) (fc_map fabric : ℕ) → s ≡ old ++ 5 ∷ 4 ∷ 0 ∷ 0 ∷ [] → four ≡ spelled 4 fc_map
    → t ≡ s ++ 0 ∷ get_or four 1 0 ∷ get_or four 2 0 ∷ get_or four 3 0 ∷ [] → eight ≡ spelled 8 fabric → u ≡ t ++ eight → u ≡ old ++ fabric_bytes fc_map fabric
fabric_parts old s t u four eight fc_map fabric e is_four f is_eight g =
    appended_three old (5 ∷ 4 ∷ 0 ∷ 0 ∷ []) (0 ∷ get_or four 1 0 ∷ get_or four 2 0 ∷ get_or four 3 0 ∷ []) eight s t u e f g
    ∙ ap (λ b. old ++ (5 ∷ 4 ∷ 0 ∷ 0 ∷ 0 ∷ get_or b 1 0 ∷ get_or b 2 0 ∷ get_or b 3 0 ∷ eight)) is_four
    ∙ ap (λ b. old ++ (5 ∷ 4 ∷ 0 ∷ 0 ∷ 0 ∷ spelled 3 fc_map ++ b)) is_eight

-- the parts of a written message
written-is : (m : Fip) → written m ≡ message_bytes (code_out m).0 (code_out m).1 (flags_out m) (list_out m)
unfolding written
written-is (Solicit from_fcf fp mac node size) = refl
written-is (Advertise solicited available from_fcf fp priority mac switch fc_map fabric quiet period) = refl
written-is (Login kind fp frame mac) = refl
written-is (LoginReply kind fp frame mac) = refl
written-is (Keep mac port) = refl
written-is (Clear mac switch ports) = refl
written-is (VlanAsk mac node) = refl
written-is (VlanTell mac vlans) = refl

-- header and list, one behind the other, are the message
pub written_put : (m : Fip) (old one new head list : List ℕ) → head ≡ head_bytes (code_out m).0 (code_out m).1 (flags_out m) (length list / 4) → list ≡ list_out m → one ≡ old ++ head → new ≡ one ++ list → new ≡ old ++ written m
written_put m old one new head list is_head is_list first second =
    appended_two old head list one new first second ∙ ap (λ l. old ++ (l ++ list)) is_head ∙ ap (λ l. old ++ message_bytes (code_out m).0 (code_out m).1 (flags_out m) l) is_list
    ∙ ap (λ l. old ++ l) (sym (written-is m))
