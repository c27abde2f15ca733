-- What calls that read some names and write none leave and count, in other words.
use Rattle.std.proofs.Common.{◌≡◌, ℕ, ◌<◌, inl, inr, List, length, Option, None, Ok, Err, refl, subst}
use Rattle.fab_base.specs.Ending.{End, Said, Read, Write, Memory, SparesReads, CountsRead, Either, RoseIn, Uses}
use Rattle.fab_base.specs.Seen.{Seen, Reads, Rose, Touches, Nothing, Only, SameWriteFaults}
use Rattle.fab_base.specs.Slots.{name_of, NameIn}
use Rattle.fab_base.proofs.EndingLemmas.{counts_reads, uses_read}
use Rattle.fab_base.proofs.SeenLemmas.{touches_wider}
use Rattle.pcap_file.specs.Faults.{fault_by, gather_end}
use Rattle.pcap_file.specs.Reading.{NextReads, ReaderStand}
use Rattle.pcap_file.specs.declared.CapError.{CapError}
use Rattle.pcap_file.specs.declared.CapError.TheVariants as errors
use Rattle.pcap_file.specs.declared.Record.{Record}

-- ---- what is touched and counted

is_read : (reads : List ℕ → Type 0) (m : List ℕ) → Either reads Nothing m → reads m
is_read reads m (inl x) = x
is_read reads m (inr none) = absurd none

module _ (reads : List ℕ → Type 0) where
  pub uses_touches : {end : End} (a b : Seen) → Uses reads Nothing end a b → Touches Nothing reads a b
  uses_touches a b u = touches_wider Nothing (Either reads Nothing) Nothing reads a b (λ m x. x) (is_read reads) u.touches

  pub uses_spares : (end : End) (a b : Seen) → Uses reads Nothing end a b → SparesReads end a b
  uses_spares end a b u = counts_reads (RoseIn reads a.read_faults b.read_faults) (RoseIn Nothing a.write_faults b.write_faults) end a b u.counts

  pub uses_writes : (end : End) (a b : Seen) → Uses reads Nothing end a b → SameWriteFaults a b
  uses_writes Said a b u = u.counts.1
  uses_writes Read a b u = u.counts.1
  uses_writes Write a b u = absurd u.counts.0.1
  uses_writes Memory a b u = u.counts.1

  -- a fault of reading is of one of these names
  pub uses_rose : {end : End} (a b : Seen) → Uses reads Nothing end a b → end ≡ Read → RoseIn reads a.read_faults b.read_faults
  uses_rose a b u is = (subst (λ e. Uses reads Nothing e a b) is u).counts.0

-- of one name
pub uses_reads : (name : List ℕ) (end : End) (a b : Seen) → Uses (Only name) Nothing end a b → Reads name a b
uses_reads name end a b u =
    let t = uses_touches (Only name) a b u in
    record {
      keeps = record {
        told = t.told;
        knows = t.knows;
        slots = t.slots;
        files = λ m ne. t.files m (λ x. x);
        left = t.left;
        reads = t.reads;
        writes = t.writes;
        reads_rise = t.reads_rise name;
        writes_rise = t.writes_rise name;
      };
      files = λ m. t.files m (λ x. x);
      writes = uses_writes (Only name) end a b u;
    }

-- of one of several slots
pub rose_at : (d : Seen) (slots : List ℕ) (before now : List ℕ → ℕ) → RoseIn (NameIn d slots) before now → (q : ℕ) × (q < length slots) × Rose (before (name_of d slots q)) (now (name_of d slots q))
rose_at d slots before now r = (r.1.0, r.1.1, subst (λ m. Rose (before m) (now m)) r.1.2 r.2)

-- ---- a reader's next record

module _ (slot : ℕ) (old new : ReaderStand) where
  pub next_uses : (next : Option Record) → NextReads slot old new (Ok next) → Uses (Only (old.depot.name slot)) Nothing Said old.depot new.depot
  next_uses next n = uses_read (old.depot.name slot) Said old.depot new.depot n.reads (n.counts, n.reads.writes)

  module _ (port : ℕ) (fresh : old.reader.kept ≡ None) where
    counted : (e : CapError) → NextReads slot old new (Err e) → CountsRead (old.depot.name slot) (gather_end (fault_by e port)) old.depot new.depot
    counted (errors.Cut at) n = (n.counts, n.reads.writes)
    counted (errors.TooLong at len) n = (n.counts, n.reads.writes)
    counted errors.Bytes n = (n.counts, n.reads.writes)
    counted errors.Frames n = (n.counts, n.reads.writes)
    counted (errors.Read failed) n = (n.cause fresh failed refl, n.reads.writes)
    counted errors.Memory n = (n.counts, n.reads.writes)

    pub failed_uses : (e : CapError) → NextReads slot old new (Err e) → Uses (Only (old.depot.name slot)) Nothing (gather_end (fault_by e port)) old.depot new.depot
    failed_uses e n = uses_read (old.depot.name slot) (gather_end (fault_by e port)) old.depot new.depot n.reads (counted e n)
