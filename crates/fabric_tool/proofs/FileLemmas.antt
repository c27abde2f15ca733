-- A file that is converted or migrated to another.
use Rattle.std.proofs.Common.{◌≡◌, List, ℕ, Ok, Err, inl, refl, sym, subst}
use Rattle.std.specs.Prelude.{Result}
use Rattle.std.specs.Str.{bytes_eq}
use Rattle.fab_base.specs.Ending.{End, Said, Uses}
use Rattle.fab_base.specs.Seen.{Seen, Only}
use Rattle.fab_base.proofs.EndingLemmas.{rose_only}
use Rattle.pcapng_file.specs.declared.fault.ConvertError.{ConvertError}
use Rattle.pcapng_file.specs.declared.fault.ConvertError.TheVariants as errors
use Rattle.pcapng_file.specs.declared.fault.NgError.{NgError}
use Rattle.pcapng_file.specs.declared.fault.NgError.TheVariants as ng
use Rattle.pcapng_file.specs.Classic.{Converts, Same, converting_end}
use Rattle.pcapng_file.specs.File.{ng_end}
use Rattle.fab_base.specs.declared.values.Failed.{Failed}
use Rattle.fab_migrate.specs.Migrating.{Migrates, Untouched, old_end, migrating_end}
use Rattle.fab_migrate.specs.declared.old.OldError.{OldError}
use Rattle.fab_migrate.specs.declared.old.OldError.TheVariants as olds
use Rattle.fab_migrate.specs.declared.old.MigrateError.{MigrateError}
use Rattle.fab_migrate.specs.declared.old.MigrateError.TheVariants as moves
use Rattle.fabric_tool.specs.Command.{PairNames, Convert, Migrate}
use Rattle.fabric_tool.specs.Ends.{Holds, KeepsOthers}
use Rattle.fabric_tool.specs.Inputs.{LIMITS, MOST_BYTES}
use Rattle.fabric_tool.specs.Reading.{unconverted_by, unmigrated_by}
use Rattle.fabric_tool.specs.declared.outcome.Outcome.{Outcome}
use Rattle.fabric_tool.specs.declared.outcome.Outcome.TheVariants as ends
use Rattle.fabric_tool.proofs.AmongLemmas.{or_false}
use Rattle.run_files.proofs.NameLemmas.{differs}

others_keep : (k : PairNames) (a b : Seen) → ((m : List ℕ) → ¬ Only k.to m → b.file m ≡ a.file m) → KeepsOthers (Convert k) a b
others_keep k a b others m none = others m (λ e. differs k.to m (or_false (bytes_eq k.to m) _ none).0 (sym e))

module _ (k : PairNames) (a b : Seen) where
  -- ---- `convert`

  pub output_written : (records : ℕ) → Converts k.from k.to LIMITS a b (Ok records) → Uses (Only k.from) (Only k.to) Said a b → Holds (Convert k) a b (ends.Converted records)
  output_written records c u = (others_keep k a b u.touches.files, c, u.counts)

  not_converted : (e : NgError) → Converts k.from k.to LIMITS a b (Err (errors.Input e)) → Uses (Only k.from) (Only k.to) (ng_end e) a b → Holds (Convert k) a b (unconverted_by e)
  not_converted (ng.Fault at fault) c u = (c.0, c.1, u.counts)
  not_converted (ng.Limit limit) c u = (c.0, λ told. (limit, refl, c.1 told), u.counts)
  not_converted (ng.Read failed) c u = (c.0, λ told. tt, ((k.from, inl refl, rose_only k.from a.read_faults b.read_faults u.counts.0), u.counts.1))
  not_converted ng.Memory c u = ((λ m none. c.0 m), λ told. Same (c.0 k.to), u.counts)

  pub input_refused : (e : NgError) (o : Outcome) → o ≡ unconverted_by e → (x : ConvertError) → x ≡ errors.Input e → Converts k.from k.to LIMITS a b (Err x) → Uses (Only k.from) (Only k.to) (converting_end x) a b → Holds (Convert k) a b o
  input_refused e o o_is x x_is c u =
      subst (Holds (Convert k) a b) (sym o_is)
      (not_converted e (subst (λ (y : ConvertError). Converts k.from k.to LIMITS a b (Err y)) x_is c) (subst (λ (y : ConvertError). Uses (Only k.from) (Only k.to) (converting_end y) a b) x_is u))

  -- the output couldn't be written
  pub output_failed : (failed : Failed) (x : ConvertError) → x ≡ errors.Write failed → Converts k.from k.to LIMITS a b (Err x) → Uses (Only k.from) (Only k.to) (converting_end x) a b → Holds (Convert k) a b ends.WriteFault
  output_failed failed x is c u =
      let w = subst (λ (y : ConvertError). Converts k.from k.to LIMITS a b (Err y)) is c in
      let v = subst (λ (y : ConvertError). Uses (Only k.from) (Only k.to) (converting_end y) a b) is u in
      (others_keep k a b v.touches.files, w, ((k.to, inl refl, rose_only k.to a.write_faults b.write_faults v.counts.0), v.counts.1))

  -- ---- `migrate`

  pub journal_written : (entries : ℕ) → Migrates k.from k.to MOST_BYTES a b (Ok entries) → Uses (Only k.from) (Only k.to) Said a b → Holds (Migrate k) a b (ends.Migrated entries)
  journal_written entries c u = (others_keep k a b u.touches.files, c, u.counts)

  not_migrated : (e : OldError) → Migrates k.from k.to MOST_BYTES a b (Err (moves.Input e)) → Uses (Only k.from) (Only k.to) (old_end e) a b → Holds (Migrate k) a b (unmigrated_by e)
  not_migrated (olds.Fault line fault) c u = (c.0, c.1, u.counts)
  not_migrated olds.Bytes c u = (refl, (c.0, c.1, u.counts))
  not_migrated (olds.Read failed) c u = (c.0, λ told. tt, ((k.from, inl refl, rose_only k.from a.read_faults b.read_faults u.counts.0), u.counts.1))
  not_migrated olds.Memory c u = ((λ m none. c.0 m), λ told. Untouched (c.0 k.to), u.counts)

  pub journal_refused : (e : OldError) (o : Outcome) → o ≡ unmigrated_by e → (x : MigrateError) → x ≡ moves.Input e → Migrates k.from k.to MOST_BYTES a b (Err x) → Uses (Only k.from) (Only k.to) (migrating_end x) a b → Holds (Migrate k) a b o
  journal_refused e o o_is x x_is c u =
      subst (Holds (Migrate k) a b) (sym o_is)
      (not_migrated e (subst (λ (y : MigrateError). Migrates k.from k.to MOST_BYTES a b (Err y)) x_is c) (subst (λ (y : MigrateError). Uses (Only k.from) (Only k.to) (migrating_end y) a b) x_is u))

  -- the other file of a journal couldn't be written
  pub journal_failed : (failed : Failed) (x : MigrateError) → x ≡ moves.Write failed → Migrates k.from k.to MOST_BYTES a b (Err x) → Uses (Only k.from) (Only k.to) (migrating_end x) a b → Holds (Migrate k) a b ends.WriteFault
  journal_failed failed x is c u =
      let w = subst (λ (y : MigrateError). Migrates k.from k.to MOST_BYTES a b (Err y)) is c in
      let v = subst (λ (y : MigrateError). Uses (Only k.from) (Only k.to) (migrating_end y) a b) is u in
      (others_keep k a b v.touches.files, w, ((k.to, inl refl, rose_only k.to a.write_faults b.write_faults v.counts.0), v.counts.1))

-- ---- names that are words

pub converts_as : (x m y n : List ℕ) (a b : Seen) (r : Result ℕ ConvertError) → x ≡ m → y ≡ n → Converts x y LIMITS a b r → Converts m n LIMITS a b r
converts_as x m y n a b r e f c = subst (λ l. Converts m l LIMITS a b r) f (subst (λ l. Converts l y LIMITS a b r) e c)

pub pair_uses : (x m y n : List ℕ) (end : End) (a b : Seen) → x ≡ m → y ≡ n → Uses (Only x) (Only y) end a b → Uses (Only m) (Only n) end a b
pair_uses x m y n end a b e f u = subst (λ l. Uses (Only m) (Only l) end a b) f (subst (λ l. Uses (Only l) (Only y) end a b) e u)

pub migrates_as : (x m y n : List ℕ) (a b : Seen) (r : Result ℕ MigrateError) → x ≡ m → y ≡ n → Migrates x y MOST_BYTES a b r → Migrates m n MOST_BYTES a b r
migrates_as x m y n a b r e f c = subst (λ l. Migrates m l MOST_BYTES a b r) f (subst (λ l. Migrates l y MOST_BYTES a b r) e c)
