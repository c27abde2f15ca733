-- A store of which no content is told does what its files do.
use Rattle.std.proofs.Common.{ℕ, ◌≤◌, false, IsTrue, List, length, Ok, Err, refl}
use Rattle.std.specs.Prelude.{Result}
use Rattle.fab_base.specs.Seen.{Seen, SameSlots, KeepsOthers, KeepsSlots, Keeps, Reads, OpensIn, OpensOut, Fetches, Puts}
use Rattle.fab_base.specs.declared.values.Failed.{Failed}
use Rattle.fab_base.proofs.SeenLemmas.{reads_refl, others_refl}
use Rattle.wire_store.specs.Store.{untold}

never : IsTrue false → ⊥
never h = cc

keeps : (name : List ℕ) (a b : Seen) → Keeps name a b → Keeps name (untold a) (untold b)
keeps name a b k = record { told = refl; knows = k.knows; slots = λ s o. record { input = (k.slots s o).input; output = (k.slots s o).output; name = (k.slots s o).name }; files = λ m n. refl; left = λ s i n. refl; reads = k.reads; writes = k.writes; reads_rise = k.reads_rise; writes_rise = k.writes_rise }

reads : (name : List ℕ) (a b : Seen) → Reads name a b → Reads name (untold a) (untold b)
reads name a b r = record { keeps = keeps name a b r.keeps; files = λ m. refl; writes = r.writes }

others : (s : ℕ) (a b : Seen) → KeepsOthers s a b → KeepsOthers s (untold a) (untold b)
others s a b k = record { slots = λ t n. record { input = (k.slots t n).input; output = (k.slots t n).output; name = (k.slots t n).name }; left = λ t n i. refl }

same : (a b : Seen) → SameSlots a b → SameSlots (untold a) (untold b)
same a b k = λ t. record { input = (k t).input; output = (k t).output; name = (k t).name }

slots : (a b : Seen) → KeepsSlots a b → KeepsSlots (untold a) (untold b)
slots a b k = record { slots = same a b k.slots; left = λ t i. refl }

pub opens_in : (name : List ℕ) (a b : Seen) (r : Result ℕ Failed) → OpensIn name a b r → OpensIn name (untold a) (untold b) r
opens_in name a b (Ok s) h = record { reads = reads name a b h.reads; fresh = h.fresh; opened = h.opened; left = λ t. absurd (never t); cause = tt; others = others s a b h.others; refused = tt; counts = h.counts }
opens_in name a b (Err e) h = record { reads = reads name a b h.reads; fresh = tt; opened = tt; left = λ t. absurd (never t); cause = h.cause; others = tt; refused = slots a b h.refused; counts = tt }

pub opens_out : (name : List ℕ) (a b : Seen) (r : Result ℕ Failed) → OpensOut name a b r → OpensOut name (untold a) (untold b) r
opens_out name a b (Ok s) h = record { keeps = keeps name a b h.keeps; fresh = h.fresh; opened = h.opened; emptied = λ t. absurd (never t); same = tt; cause = tt; others = λ t n. record { input = (h.others t n).input; output = (h.others t n).output; name = (h.others t n).name }; refused = tt; counts = h.counts; reads = h.reads }
opens_out name a b (Err e) h = record { keeps = keeps name a b h.keeps; fresh = tt; opened = tt; emptied = λ t. absurd (never t); same = refl; cause = h.cause; others = tt; refused = slots a b h.refused; counts = tt; reads = h.reads }

pub fetches : (s : ℕ) (buffer : List ℕ) (a b : Seen) (r : Result ℕ Failed) → Fetches s buffer a b r → Fetches s buffer (untold a) (untold b) r
fetches s buffer a b (Ok n) h = record { reads = reads (a.name s) a b h.reads; bound = h.bound; taken = λ t. absurd (never t); ended = λ t. absurd (never t); nothing = λ t. absurd (never t); cause = tt; others = others s a b h.others; refused = tt; counts = h.counts }
fetches s buffer a b (Err e) h = record { reads = reads (a.name s) a b h.reads; bound = tt; taken = λ t. absurd (never t); ended = λ t. absurd (never t); nothing = λ t. absurd (never t); cause = h.cause; others = tt; refused = slots a b h.refused; counts = tt }

-- what devices give changes no file
pub feeds : (s n : ℕ) (buffer : List ℕ) (a : Seen) → n ≤ length buffer → Fetches {E = Failed} s buffer (untold a) (untold a) (Ok n)
feeds s n buffer a le = record { reads = reads_refl (a.name s) (untold a); bound = le; taken = λ t. absurd (never t); ended = λ t. absurd (never t); nothing = λ t. absurd (never t); cause = tt; others = others_refl s (untold a); refused = tt; counts = λ m. refl }

pub puts : (s : ℕ) (from : List ℕ) (a b : Seen) (r : Result ℕ Failed) → Puts s from a b r → Puts s from (untold a) (untold b) r
puts s from a b (Ok n) h = record { keeps = keeps (a.name s) a b h.keeps; some = h.some; grown = λ t. absurd (never t); same = tt; cause = tt; slots = same a b h.slots; refused = tt; counts = h.counts; reads = h.reads }
puts s from a b (Err e) h = record { keeps = keeps (a.name s) a b h.keeps; some = tt; grown = λ t. absurd (never t); same = refl; cause = h.cause; slots = same a b h.slots; refused = slots a b h.refused; counts = tt; reads = h.reads }
