-- What was found of the files of captures, by files that are as they were.
use Rattle.std.proofs.Common.{◌≡◌, ℕ, ◌≤◌, List, [], ◌∷◌, sym, ◌∙◌}
use Rattle.fab_base.specs.Seen.{Seen, SameFiles}
use Rattle.fab_base.proofs.SeenLemmas.{rose_later}
use Rattle.window_records.specs.Looks.{Opened}
use Rattle.pcap_file.specs.declared.fault.CapWhy.{CapWhy}
use Rattle.fabric_tool.specs.Inputs.{AreOpened, IsFirstWithout, HaveNoRoom, IsFirstUnread}

pub opened_since : (old b : Seen) → SameFiles old b → (names : List (List ℕ)) (opened : List Opened) → AreOpened b names opened → AreOpened old names opened
opened_since old b same [] [] are = tt
opened_since old b same [] (o ∷ opened) are = absurd are
opened_since old b same (n ∷ names) [] are = absurd are
opened_since old b same (n ∷ names) (o ∷ opened) are =
    (record { bytes = are.0.bytes; file = sym (same n) ∙ are.0.file; head = are.0.head; body = are.0.body }, opened_since old b same names opened are.1)

-- the same of a capture that is the first without a head, past the limit, or unread, among names that are these
module _ (old b : Seen) (same : SameFiles old b) {ins names : List (List ℕ)} (are : names ≡ ins) where
  pub without_since : {port : ℕ} {reason : CapWhy} → IsFirstWithout ins b port reason → IsFirstWithout names old port reason
  without_since f = record {
    before = f.before;
    name = f.name;
    behind = f.behind;
    are = are ∙ f.are;
    number = f.number;
    opened = f.opened;
    heads = opened_since old b same f.before f.opened f.heads;
    without = record { bytes = f.without.bytes; file = sym (same f.name) ∙ f.without.file; fault = f.without.fault; says = f.without.says; word = f.without.word };
  }

  pub no_room_since : {bytes : ℕ} → HaveNoRoom ins b bytes → HaveNoRoom names old bytes
  no_room_since f = record { before = f.before; name = f.name; behind = f.behind; are = are ∙ f.are; opened = f.opened; heads = opened_since old b same f.before f.opened f.heads; above = f.above }

  pub unread_since : (new : Seen) {bytes : ℕ} → ((n : List ℕ) → old.read_faults n ≤ b.read_faults n) → IsFirstUnread ins b new bytes → IsFirstUnread names old new bytes
  unread_since new rise f = record {
    before = f.before;
    name = f.name;
    behind = f.behind;
    are = are ∙ f.are;
    opened = f.opened;
    heads = opened_since old b same f.before f.opened f.heads;
    within = f.within;
    rose = rose_later _ _ _ (rise f.name) f.rose;
  }
