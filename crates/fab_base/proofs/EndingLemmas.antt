-- What several calls leave and count, one after another. Other crates cite this module.
use Rattle.std.proofs.Common.{◌≢◌, ℕ, List, Result, Ok, Err, refl, ◌∙◌, subst, inl, inr}
use Rattle.fab_base.specs.Seen.{Seen, Keeps, Reads, Rose, Nothing, Only, SameReadFaults, SameWriteFaults, OpensIn, OpensOut, PutsAll}
use Rattle.fab_base.specs.Ending.{End, Said, Read, Write, Memory, end_by, IsSaid, WhereSaid, NoFaults, SparesReads, SparesWrites, Counts, CountsRead, Either, RoseIn, Uses}
use Rattle.fab_base.proofs.SeenLemmas.{rose_later, keeps_touches, reads_touches, touches_refl, touches_trans, touches_wider}

-- ---- what an answer says

pub said_is : (end : End) (fact : Type 0) → WhereSaid end fact → IsSaid end → fact
said_is Said fact is said = is
said_is Read fact is said = absurd said
said_is Write fact is said = absurd said
said_is Memory fact is said = absurd said

pub said_so : {fact other : Type 0} (end : End) → (fact → other) → WhereSaid end fact → WhereSaid end other
said_so Said so is = so is
said_so Read so is = tt
said_so Write so is = tt
said_so Memory so is = tt

-- ---- no faults

pub none_yet : (a : Seen) → NoFaults a a
none_yet a = (λ m. refl, λ m. refl)

pub none_then : (a b d : Seen) → NoFaults a b → NoFaults b d → NoFaults a d
none_then a b d before now = (λ m. now.0 m ∙ before.0 m, λ m. now.1 m ∙ before.1 m)

-- ---- faults of one kind

-- a call that doesn't end in one counts none
pub reads_spared : (end : End) (a b : Seen) → SparesReads end a b → end ≢ Read → SameReadFaults a b
reads_spared Said a b h other = h
reads_spared Read a b h other = absurd (other refl)
reads_spared Write a b h other = h
reads_spared Memory a b h other = h

pub writes_spared : (end : End) (a b : Seen) → SparesWrites end a b → end ≢ Write → SameWriteFaults a b
writes_spared Said a b h other = h
writes_spared Read a b h other = h
writes_spared Write a b h other = absurd (other refl)
writes_spared Memory a b h other = h

pub spares_reads : (end : End) (a b : Seen) → (end ≢ Read → SameReadFaults a b) → SparesReads end a b
spares_reads Said a b h = h (λ e. cc)
spares_reads Read a b h = tt
spares_reads Write a b h = h (λ e. cc)
spares_reads Memory a b h = h (λ e. cc)

pub spares_writes : (end : End) (a b : Seen) → (end ≢ Write → SameWriteFaults a b) → SparesWrites end a b
spares_writes Said a b h = h (λ e. cc)
spares_writes Read a b h = h (λ e. cc)
spares_writes Write a b h = tt
spares_writes Memory a b h = h (λ e. cc)

-- nothing was called
pub spares_none : (end : End) (a : Seen) → SparesReads end a a
spares_none end a = spares_reads end a a (λ other m. refl)

-- behind a call that counts none
pub spares_reads_then : (end : End) (a b c : Seen) → SameReadFaults a b → SparesReads end b c → SparesReads end a c
spares_reads_then end a b c before now = spares_reads end a c (λ other m. reads_spared end b c now other m ∙ before m)

pub spares_writes_then : (end : End) (a b c : Seen) → SameWriteFaults a b → SparesWrites end b c → SparesWrites end a c
spares_writes_then end a b c before now = spares_writes end a c (λ other m. writes_spared end b c now other m ∙ before m)

-- ---- all that is counted

-- behind a call that counts none, and where less is shown
pub counts_then : {read write read' write' : Type 0} (end : End) (a b c : Seen) → (read → read') → (write → write') → NoFaults a b → Counts read write end b c → Counts read' write' end a c
counts_then Said a b c reads writes before now = none_then a b c before now
counts_then Read a b c reads writes before now = (reads now.0, λ m. now.1 m ∙ before.1 m)
counts_then Write a b c reads writes before now = (writes now.0, λ m. now.1 m ∙ before.0 m)
counts_then Memory a b c reads writes before now = none_then a b c before now

pub counts_reads : (read write : Type 0) (end : End) (a b : Seen) → Counts read write end a b → SparesReads end a b
counts_reads read write Said a b h = h.0
counts_reads read write Read a b h = tt
counts_reads read write Write a b h = h.1
counts_reads read write Memory a b h = h.0

pub counts_writes : (read write : Type 0) (end : End) (a b : Seen) → Counts read write end a b → SparesWrites end a b
counts_writes read write Said a b h = h.1
counts_writes read write Read a b h = h.1
counts_writes read write Write a b h = tt
counts_writes read write Memory a b h = h.1

-- ---- calls on names

module _ (reads writes : List ℕ → Type 0) where
  -- nothing was called
  pub uses_none : (a : Seen) → Uses reads writes Said a a
  uses_none a = record { touches = touches_refl writes (Either reads writes) a; counts = none_yet a }

  -- memory was refused, and nothing was called since
  pub uses_refused : (a b : Seen) → Uses reads writes Said a b → Uses reads writes Memory a b
  uses_refused a b h = record { touches = h.touches; counts = h.counts }

  -- calls that end with an answer, and others
  pub uses_then : (end : End) (a b c : Seen) → Uses reads writes Said a b → Uses reads writes end b c → Uses reads writes end a c
  uses_then end a b c before now = record {
    touches = touches_trans writes (Either reads writes) a b c before.touches now.touches;
    counts = counts_then end a b c (λ r. (r.0, r.1, rose_later _ _ _ (before.touches.reads_rise r.0) r.2)) (λ r. (r.0, r.1, rose_later _ _ _ (before.touches.writes_rise r.0) r.2)) before.counts now.counts;
  }

  -- of more names
  pub uses_wider : (reads' writes' : List ℕ → Type 0) → ((m : List ℕ) → reads m → reads' m) → ((m : List ℕ) → writes m → writes' m) → (end : End) (a b : Seen) → Uses reads writes end a b → Uses reads' writes' end a b
  uses_wider reads' writes' more_reads more_writes end a b h = record {
    touches = touches_wider writes (Either reads writes) writes' (Either reads' writes') a b more_writes (λ m x. either m x) h.touches;
    counts = counts_then end a a b (λ r. (r.0, more_reads r.0 r.1, r.2)) (λ r. (r.0, more_writes r.0 r.1, r.2)) (none_yet a) h.counts;
  }
    where
      either : (m : List ℕ) → Either reads writes m → Either reads' writes' m
      either m (inl x) = inl (more_reads m x)
      either m (inr x) = inr (more_writes m x)

-- a call that reads one name
pub uses_read : (name : List ℕ) (end : End) (a b : Seen) → Reads name a b → CountsRead name end a b → Uses (Only name) Nothing end a b
uses_read name end a b reads counts = record {
  touches = touches_wider Nothing (Only name) Nothing (Either (Only name) Nothing) a b (λ m x. x) (λ m x. inl x) (reads_touches name a b reads);
  counts = counts_then end a a b (λ rose. (name, refl, rose)) (λ none. absurd none) (none_yet a) counts;
}

-- a call that writes one name
pub uses_written : (name : List ℕ) (end : End) (a b : Seen) → Keeps name a b → Counts ⊥ (Rose (a.write_faults name) (b.write_faults name)) end a b → Uses Nothing (Only name) end a b
uses_written name end a b keeps counts = record {
  touches = touches_wider (Only name) (Only name) (Only name) (Either Nothing (Only name)) a b (λ m x. x) (λ m x. inr x) (keeps_touches name a b keeps);
  counts = counts_then end a a b (λ none. absurd none) (λ rose. (name, refl, rose)) (none_yet a) counts;
}

-- a fault that is shown by one name alone
pub rose_only : (name : List ℕ) (before now : List ℕ → ℕ) → RoseIn (Only name) before now → Rose (before name) (now name)
rose_only name before now rose = subst (λ m. Rose (before m) (now m)) rose.1 rose.2

-- the calls of a depot
module _ {E : Type 0} (a b : Seen) where
  pub opens_in_uses : (name : List ℕ) (result : Result ℕ E) → OpensIn {E = E} name a b result → Uses (Only name) Nothing (end_by (λ e. Read) result) a b
  opens_in_uses name (Ok s) o = uses_read name Said a b o.reads (o.counts, o.reads.writes)
  opens_in_uses name (Err e) o = uses_read name Read a b o.reads (o.cause, o.reads.writes)

  pub opens_out_uses : (name : List ℕ) (result : Result ℕ E) → OpensOut {E = E} name a b result → Uses Nothing (Only name) (end_by (λ e. Write) result) a b
  opens_out_uses name (Ok s) o = uses_written name Said a b o.keeps (o.reads, o.counts)
  opens_out_uses name (Err e) o = uses_written name Write a b o.keeps (o.cause, o.reads)

  pub puts_all_uses : {T : Type 0} (s : ℕ) (from : List ℕ) (result : Result T E) → PutsAll {T = T} {E = E} s from a b result → Uses Nothing (Only (a.name s)) (end_by (λ e. Write) result) a b
  puts_all_uses s from (Ok x) p = uses_written (a.name s) Said a b p.keeps (p.reads, p.counts)
  puts_all_uses s from (Err e) p = uses_written (a.name s) Write a b p.keeps (p.cause, p.reads)
