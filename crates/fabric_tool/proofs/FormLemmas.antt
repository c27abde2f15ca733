-- The command that words of a form are, and what a form says of them.
use Rattle.std.proofs.Common.{◌≡◌, ℕ, ◌≤◌, Bool, true, false, if◌then◌else◌, Option, Some, None, codes, refl, ap, subst}
use Rattle.std.specs.Prelude.{List, String, nat_le, option_map, option_and_then}
use Rattle.std.proofs.lemmas.Bool.{leb-true}
use Rattle.std.specs.Str.{bytes_eq}
use Rattle.std.specs.declared.alloc.Global.{Global}
use Rattle.enode_core.specs.declared.node.Identity.{Identity}
use Rattle.fab_base.specs.Places.{name_at}
use Rattle.fabric_tool.specs.Command.{form_of, named, command, are_pairs, are_singles, is_over, is_over_singles, is_pair, is_make, make_form, number_of, is_snoop, is_enode, enode_form, start_of, own_of, is_live, is_word}
use Rattle.fabric_tool.specs.declared.command.Form.{Form}
use Rattle.fabric_tool.specs.declared.command.Form.TheVariants as forms
use Rattle.fabric_tool.proofs.NameLemmas.{and_true}

pub command_is : (words : List (String Global)) (o : Option Form) → form_of words ≡ o → command words ≡ option_map (named words) o
unfolding command
command_is words o is = ap (option_map (named words)) is

-- words of this form
abbrev pub HaveForm : List (String Global) → Form → Type 0
HaveForm words forms.Run = are_pairs words ≡ true
HaveForm words forms.Replay = are_pairs words ≡ true
HaveForm words forms.Show = are_singles words ≡ true
HaveForm words forms.Convert = is_pair (codes "convert") words ≡ true
HaveForm words forms.Migrate = is_pair (codes "migrate") words ≡ true
HaveForm words (forms.Make number) = is_make words ≡ true
HaveForm words forms.Snoop = is_snoop words ≡ true
HaveForm words (forms.Enode start own) = (is_enode words ≡ true) × (start ≤ 4294967295999)
HaveForm words forms.Live = is_live words ≡ true
HaveForm words forms.Help = Unit {0}
HaveForm words forms.Version = Unit {0}

module _ (words : List (String Global)) where
  -- the first test that holds gives the form
  tried : (b : Bool) (x rest : Option Form) → (b ≡ true → (f : Form) → x ≡ Some f → HaveForm words f) → ((f : Form) → rest ≡ Some f → HaveForm words f) → (f : Form) → (if b then x else rest) ≡ Some f → HaveForm words f
  tried true x rest here more f e = here refl f e
  tried false x rest here more f e = more f e

  tested : (b : Bool) (x : Form) (rest : Option Form) → (b ≡ true → HaveForm words x) → ((f : Form) → rest ≡ Some f → HaveForm words f) → (f : Form) → (if b then Some x else rest) ≡ Some f → HaveForm words f
  tested b x rest here = tried b (Some x) rest (λ is f e. subst (HaveForm words) (let same : x ≡ f = cc in same) (here is))

  -- words with values
  numbered : is_make words ≡ true → (n : Option ℕ) (f : Form) → option_map (λ number. forms.Make number) n ≡ Some f → HaveForm words f
  numbered is None f e = absurd (cc)
  numbered is (Some n) f e = subst (HaveForm words) (let same : forms.Make n ≡ f = cc in same) is

  timely : (number : Option ℕ) (start : ℕ) → option_and_then (λ n. if nat_le n 4294967295999 then Some n else None) number ≡ Some start → start ≤ 4294967295999
  timely None start e = absurd (cc)
  timely (Some n) start e = go (nat_le n 4294967295999) refl e
    where
      go : (b : Bool) → nat_le n 4294967295999 ≡ b → (if b then Some n else None) ≡ Some start → start ≤ 4294967295999
      go true is e = let same : n ≡ start = cc in subst (λ (m : ℕ). m ≤ 4294967295999) same (leb-true n 4294967295999 is)
      go false is e = absurd (cc)

  started : is_enode words ≡ true → (start : Option ℕ) (own : Option Identity) → ((n : ℕ) → start ≡ Some n → n ≤ 4294967295999) → (f : Form) → option_and_then (λ n. option_map (λ own. forms.Enode n own) own) start ≡ Some f → HaveForm words f
  started is None own few f e = absurd (cc)
  started is (Some n) None few f e = absurd (cc)
  started is (Some n) (Some own) few f e = subst (HaveForm words) (let same : forms.Enode n own ≡ f = cc in same) (is, few n refl)

  pub have_form : (f : Form) → form_of words ≡ Some f → HaveForm words f
  have_form =
      tested (is_over (codes "run") words) forms.Run _ (λ h. (and_true (are_pairs words) (bytes_eq (name_at words 0) (codes "run")) h).0)
      (tested (is_over (codes "replay") words) forms.Replay _ (λ h. (and_true (are_pairs words) (bytes_eq (name_at words 0) (codes "replay")) h).0)
      (tested (is_over_singles (codes "show") words) forms.Show _ (λ h. (and_true (are_singles words) (bytes_eq (name_at words 0) (codes "show")) h).0)
      (tested (is_pair (codes "convert") words) forms.Convert _ (λ h. h)
      (tested (is_pair (codes "migrate") words) forms.Migrate _ (λ h. h)
      (tried (is_make words) (make_form words) _ (λ h. numbered h (number_of (name_at words 1)))
      (tested (is_snoop words) forms.Snoop _ (λ h. h)
      (tried (is_enode words) (enode_form words) _ (λ h. started h (start_of (name_at words 1)) (own_of words) (timely (number_of (name_at words 1))))
      (tested (is_live words) forms.Live _ (λ h. h)
      (tested (is_word (codes "--help") words) forms.Help _ (λ h. tt)
      (tested (is_word (codes "--version") words) forms.Version None (λ h. tt) (λ f e. absurd (cc))))))))))))
