-- What follows of an ending, whatever the command.
use Rattle.std.proofs.Common.{◌⊎◌, inl, inr, IsTrue}
use Rattle.fab_base.specs.Seen.{Seen, SameFiles}
use Rattle.fabric_tool.specs.Ending.{Ending, Never, Untouched, Leaves, Unread, LeavesUnread, Unwritten, LeavesUnwritten, Also, EndsBy, KeepsAllBut, ReadRose, WriteRose}
use Rattle.fabric_tool.specs.Meaning.{Meaning}

-- what an ending says of outputs that were written
abbrev pub Left : Ending → Type 0
Left Never = ⊥
Left (Untouched P) = ⊥
Left (Leaves P) = P
Left (Unread P) = ⊥
Left (LeavesUnread P) = P
Left (Unwritten P) = P
Left (LeavesUnwritten P) = P
Left (Also F e) = Left e

-- what an ending says that is no fault of the depot
abbrev pub Said : Seen → Ending → Type 0
Said old Never = ⊥
Said old (Untouched P) = IsTrue old.told → P
Said old (Leaves P) = IsTrue old.told → P
Said old (Unread P) = ⊥
Said old (LeavesUnread P) = ⊥
Said old (Unwritten P) = ⊥
Said old (LeavesUnwritten P) = ⊥
Said old (Also F e) = F × Said old e

-- endings that are no fault of the depot, and those of them that open no output
abbrev pub IsAnswer : Ending → Type 0
IsAnswer (Untouched P) = Unit {0}
IsAnswer (Leaves P) = Unit {0}
IsAnswer (Also F e) = IsAnswer e
IsAnswer e = ⊥

abbrev pub IsClosed : Ending → Type 0
IsClosed (Untouched P) = Unit {0}
IsClosed (Also F e) = IsClosed e
IsClosed e = ⊥

module _ (m : Meaning) (old new : Seen) where
  -- no file but the outputs has changed
  pub kept : (e : Ending) → EndsBy m.reads m.writes old new e → KeepsAllBut m.writes old new
  kept Never h = absurd h
  kept (Untouched P) h = λ name none. h.0 name
  kept (Leaves P) h = h.0
  kept (Unread P) h = λ name none. h.0 name
  kept (LeavesUnread P) h = h.0
  kept (Unwritten P) h = h.0
  kept (LeavesUnwritten P) h = h.0
  kept (Also F e) h = kept e h.1

  -- no file has changed, or the outputs are so
  pub left : IsTrue old.told → (e : Ending) → EndsBy m.reads m.writes old new e → SameFiles old new ⊎ Left e
  left told Never h = absurd h
  left told (Untouched P) h = inl h.0
  left told (Leaves P) h = inr (h.1 told)
  left told (Unread P) h = inl h.0
  left told (LeavesUnread P) h = inr (h.1 told)
  left told (Unwritten P) h = inr (h.1 told)
  left told (LeavesUnwritten P) h = inr (h.1 told)
  left told (Also F e) h = left told e h.1

  -- where no fault was counted, none is told
  pub said : (ReadRose m.reads old new → ⊥) → (WriteRose m.writes old new → ⊥) → (e : Ending) → EndsBy m.reads m.writes old new e → Said old e
  said reads writes Never h = h
  said reads writes (Untouched P) h = h.1
  said reads writes (Leaves P) h = h.1
  said reads writes (Unread P) h = reads h.2.0
  said reads writes (LeavesUnread P) h = reads h.2.0
  said reads writes (Unwritten P) h = writes h.2.0
  said reads writes (LeavesUnwritten P) h = writes h.2
  said reads writes (Also F e) h = (h.0, said reads writes e h.1)

  -- what is left of an answer, told as less
  pub less : (F : Type 0) → (SameFiles old new → F) → (e : Ending) → IsAnswer e → (Left e → F) → EndsBy m.reads m.writes old new e → EndsBy m.reads m.writes old new (Leaves F)
  less F same (Untouched P) is whole h = (λ name none. h.0 name, λ told. same h.0, h.2)
  less F same (Leaves P) is whole h = (h.0, λ told. whole (h.1 told), h.2)
  less F same (Also G e) is whole h = less F same e is whole h.1
  less F same e is whole h = absurd is

  pub nothing : (e : Ending) → IsClosed e → EndsBy m.reads m.writes old new e → EndsBy m.reads m.writes old new (Untouched (Unit {0}))
  nothing (Untouched P) is h = (h.0, λ told. tt, h.2)
  nothing (Also G e) is h = nothing e is h.1
  nothing e is h = absurd is
