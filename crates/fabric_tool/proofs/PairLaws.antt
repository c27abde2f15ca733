-- The laws of `convert` and of `migrate`.
use Rattle.std.proofs.Common.{◌≡◌, ℕ, ◌⊎◌, ◌++◌, inl, inr, IsTrue, List, [], append-nil, length, Some, Ok, Err, refl, sym, ap, ◌∙◌, subst, arith}
use Rattle.std.specs.Prelude.{Result, ◌↔◌}
use Rattle.fab_base.specs.Seen.{Seen}
use Rattle.fab_base.specs.Sunk.{Sunk}
use Rattle.pcap_file.specs.declared.Record.{Record}
use Rattle.pcap_file.specs.Capture.{IsCapture}
use Rattle.pcap_file.proofs.lemmas.Chains.{one_capture}
use Rattle.pcapng_file.specs.declared.NgRecord.{NgRecord}
use Rattle.pcapng_file.specs.declared.fault.NgError.{NgError}
use Rattle.pcapng_file.specs.declared.fault.NgError.TheVariants as ng
use Rattle.pcapng_file.specs.File.{ng_read}
use Rattle.pcapng_file.specs.Classic.{Converted, IsFront, Same, Front, classic_bytes, timed, written}
use Rattle.pcapng_file.proofs.LawLemmas.{file_is_read}
use Rattle.pcap_file.specs.declared.fault.LimitKind.{LimitKind}
use Rattle.fab_policy.specs.declared.line.Line.{Line}
use Rattle.fab_migrate.specs.Migrating.{Migrated, IsNewFront, Untouched, Begun}
use Rattle.fab_migrate.specs.Old.{new_text}
use Rattle.fab_migrate.specs.declared.old.OldWhy.{OldWhy}
use Rattle.fab_migrate.proofs.OldReadingLemmas.{one_reading}
use Rattle.fabric_tool.specs.Command.{PairNames, Convert, Migrate}
use Rattle.fabric_tool.specs.Ends.{TakesMemory, Holds}
use Rattle.fabric_tool.specs.Inputs.{HasCapture, LIMITS, MOST_BYTES}
use Rattle.fabric_tool.specs.Outcome.{status_of, line_of}
use Rattle.fabric_tool.specs.Pairs.{convert_ending, ConvertEnded, ended_by, convert_meaning, migrate_ending, MigrateEnded, MigrateSays, migrate_meaning}
use Rattle.fabric_tool.specs.declared.outcome.Outcome.{Outcome}
use Rattle.fabric_tool.specs.declared.outcome.Outcome.TheVariants as ends
use Rattle.fabric_tool.proofs.EndingLemmas.{Left, Said, IsAnswer, less}
use Rattle.fabric_tool.proofs.Laws.{Laws, alike}

-- ---- `convert`

-- the whole capture is a front of it
whole_front : (k : PairNames) (old new : Seen) (records : ℕ) → Converted k.from k.to LIMITS old new records → IsFront k.from k.to LIMITS old new
whole_front k old new records c = Front c.bytes c.packets c.found c.is c.within (classic_bytes c.packets, c.output, ([], append-nil (classic_bytes c.packets)))

converted : (k : PairNames) (old new : Seen) (o : Outcome) → Left (convert_ending k old new o) → IsFront k.from k.to LIMITS old new
converted k old new (ends.Converted records) h = whole_front k old new records h
converted k old new ends.WriteFault h = h
converted k old new ends.Memory h = h
converted k old new o h = absurd h

convert_answered : (k : PairNames) (old new : Seen) (o : Outcome) → Holds (Convert k) old new o → TakesMemory o → IsAnswer (convert_ending k old new o)
convert_answered k old new (ends.Converted records) h takes = tt
convert_answered k old new (ends.BadBlock at fault) h takes = tt
convert_answered k old new (ends.Limit kind) h takes = tt
convert_answered k old new o h takes = absurd (omega arith)

-- the records of the capture that was written, and no others
taken : (k : PairNames) (old new : Seen) (records : ℕ) (c : Converted k.from k.to LIMITS old new records) (rs : List Record) → HasCapture new k.to rs ↔ (rs ≡ timed 0 c.packets)
taken k old new records c rs = (
  λ h.
      let file : Some h.bytes ≡ Some (classic_bytes c.packets) = sym h.file ∙ c.output in
      let same : h.bytes ≡ classic_bytes c.packets = cc in
      (one_capture (classic_bytes c.packets) h.head written rs (timed 0 c.packets) (subst (λ l. IsCapture h.head rs l) same h.capture) c.read_back).1,
  λ is. record { bytes = classic_bytes c.packets; file = c.output; head = written; capture = subst (λ l. IsCapture written l (classic_bytes c.packets)) (sym is) c.read_back },
)

done_convert : (k : PairNames) (old new : Seen) (before after : Sunk) (o : Outcome) → status_of o ≡ 0 → Holds (Convert k) old new o → (IsTrue before.told → after.written ≡ before.written ++ line_of o) → IsTrue old.told → ConvertEnded k old new before after
unfolding line_of
done_convert k old new before after (ends.Converted records) is h printed = λ told. record { count = records; done = h.1 told; run_takes = taken k old new records (h.1 told); printed = printed }
done_convert k old new before after o is h printed = absurd (omega arith)

-- how `convert` ends by the bytes that it finds
convert_found : (k : PairNames) (old new : Seen) (l : List ℕ) → IsTrue old.told → old.file k.from ≡ Some l → (o : Outcome) → Said old (convert_ending k old new o) → (o ≡ ended_by (ng_read LIMITS l)) ⊎ (o ≡ ends.Memory)
convert_found k old new l told found = go
  where
    read_there : (m : List ℕ) → old.file k.from ≡ Some m → (r : Result (List NgRecord) NgError) → ng_read LIMITS m ≡ r → ng_read LIMITS l ≡ r
    read_there m other r is = let same : Some l ≡ Some m = sym found ∙ other in let e : l ≡ m = cc in ap (ng_read LIMITS) e ∙ is

    go : (o : Outcome) → Said old (convert_ending k old new o) → (o ≡ ended_by (ng_read LIMITS l)) ⊎ (o ≡ ends.Memory)
    go (ends.Converted records) h = let c = h told in inl (ap (λ (n : ℕ). ends.Converted n) c.counted ∙ sym (ap ended_by (read_there c.bytes c.found (Ok c.packets) c.read)))
    go (ends.BadBlock at fault) h = let s = h told in inl (sym (ap ended_by (read_there s.0 s.1 (Err (ng.Fault at fault)) s.2)))
    go (ends.Limit kind) h = let l' = h told in let s = l'.2 in inl (ap (λ (x : LimitKind). ends.Limit x) l'.1 ∙ sym (ap ended_by (read_there s.0 s.1 (Err (ng.Limit l'.0)) s.2)))
    go ends.Memory h = inr refl
    go o h = absurd h

pub convert_laws : (k : PairNames) → Laws (convert_meaning k)
convert_laws k = record {
  same = λ old new files. Same (files k.to);
  whole = converted k;
  spare = λ old new o h takes. less (convert_meaning k) old new (IsFront k.from k.to LIMITS old new) (λ files. Same (files k.to)) (convert_ending k old new o) (convert_answered k old new o h takes) (converted k old new o) h;
  done = done_convert k;
  once = λ old new o p told h says. elim (convert_found k old new says.0 told says.1 o h) [ inl is ↦ inl (alike o p (is ∙ sym says.2)) | inr memory ↦ inr memory ];
  formed = λ old new o forms h. elim (convert_found k old new forms.input.bytes forms.told forms.input.file o h) [
    | inl is ↦ inl (ap status_of (is ∙ ap ended_by (file_is_read LIMITS forms.packets forms.input.bytes forms.input.is forms.input.within.0 forms.input.within.1)))
    | inr memory ↦ inr memory
  ];
}

-- ---- `migrate`

-- the whole journal is a front of it
whole_journal : (k : PairNames) (old new : Seen) (entries : ℕ) → Migrated k.from k.to MOST_BYTES old new entries → IsNewFront k.from k.to MOST_BYTES old new
whole_journal k old new entries m = Begun m.bytes m.lines m.found m.within m.is (new_text m.lines, m.output, ([], append-nil (new_text m.lines)))

migrated : (k : PairNames) (old new : Seen) (o : Outcome) → Left (migrate_ending k old new o) → IsNewFront k.from k.to MOST_BYTES old new
migrated k old new (ends.Migrated entries) h = whole_journal k old new entries h
migrated k old new ends.WriteFault h = h
migrated k old new ends.Memory h = h
migrated k old new o h = absurd h

migrate_answered : (k : PairNames) (old new : Seen) (o : Outcome) → Holds (Migrate k) old new o → TakesMemory o → IsAnswer (migrate_ending k old new o)
migrate_answered k old new (ends.Migrated entries) h takes = tt
migrate_answered k old new (ends.BadLine line fault) h takes = tt
migrate_answered k old new (ends.Limit kind) h takes = tt
migrate_answered k old new o h takes = absurd (omega arith)

done_migrate : (k : PairNames) (old new : Seen) (before after : Sunk) (o : Outcome) → status_of o ≡ 0 → Holds (Migrate k) old new o → (IsTrue before.told → after.written ≡ before.written ++ line_of o) → IsTrue old.told → MigrateEnded k old new before after
unfolding line_of
done_migrate k old new before after (ends.Migrated entries) is h printed = λ told. record { count = entries; done = h.1 told; printed = printed }
done_migrate k old new before after o is h printed = absurd (omega arith)

-- the bytes of a journal name one end of `migrate`
one_end : (bytes : List ℕ) (o p : Outcome) → MigrateSays bytes o → MigrateSays bytes p → o ≡ p
one_end bytes (ends.Migrated m) (ends.Migrated n) a b = ap ends.Migrated (a.3 ∙ ap (λ (ls : List Line). length ls) ((one_reading bytes).lines a.1 b.1 a.2 b.2) ∙ sym b.3)
one_end bytes (ends.Migrated m) (ends.BadLine line fault) a b = absurd ((one_reading bytes).not_both a.1 line fault a.2 b.1)
one_end bytes (ends.Migrated m) (ends.Limit kind) a b = absurd (omega (arith, a.0, b.0))
one_end bytes (ends.Migrated m) p a b = absurd b
one_end bytes (ends.BadLine line fault) (ends.Migrated n) a b = absurd ((one_reading bytes).not_both b.1 line fault b.2 a.1)
one_end bytes (ends.BadLine line fault) (ends.BadLine other reason) a b =
    let same = (one_reading bytes).fault line other fault reason a.1 b.1 in
    ap (λ (n : ℕ). ends.BadLine n fault) same.0 ∙ ap (λ (w : OldWhy). ends.BadLine other w) same.1
one_end bytes (ends.BadLine line fault) (ends.Limit kind) a b = absurd (omega (arith, a.0, b.0))
one_end bytes (ends.BadLine line fault) p a b = absurd b
one_end bytes (ends.Limit kind) (ends.Migrated n) a b = absurd (omega (arith, a.0, b.0))
one_end bytes (ends.Limit kind) (ends.BadLine line fault) a b = absurd (omega (arith, a.0, b.0))
one_end bytes (ends.Limit kind) (ends.Limit other) a b = ap (λ (x : LimitKind). ends.Limit x) (a.1 ∙ sym b.1)
one_end bytes (ends.Limit kind) p a b = absurd b
one_end bytes o p a b = absurd a

-- how `migrate` ends by the bytes that it finds
migrate_found : (k : PairNames) (old new : Seen) (l : List ℕ) → IsTrue old.told → old.file k.from ≡ Some l → (o : Outcome) → Said old (migrate_ending k old new o) → MigrateSays l o ⊎ (o ≡ ends.Memory)
migrate_found k old new l told found = go
  where
    there : (m : List ℕ) → old.file k.from ≡ Some m → m ≡ l
    there m other = let same : Some m ≡ Some l = sym other ∙ found in cc

    go : (o : Outcome) → Said old (migrate_ending k old new o) → MigrateSays l o ⊎ (o ≡ ends.Memory)
    go (ends.Migrated entries) h = let m = h told in inl (subst (λ x. MigrateSays x (ends.Migrated entries)) (there m.bytes m.found) (m.within, m.lines, m.is, m.counted))
    go (ends.BadLine line fault) h = let s = h told in inl (subst (λ x. MigrateSays x (ends.BadLine line fault)) (there s.0 s.1) s.2)
    go (ends.Limit kind) h = let s = h.1 told in inl (subst (λ x. MigrateSays x (ends.Limit kind)) (there s.0 s.1) (s.2, h.0))
    go ends.Memory h = inr refl
    go o h = absurd h

pub migrate_laws : (k : PairNames) → Laws (migrate_meaning k)
migrate_laws k = record {
  same = λ old new files. Untouched (files k.to);
  whole = migrated k;
  spare = λ old new o h takes. less (migrate_meaning k) old new (IsNewFront k.from k.to MOST_BYTES old new) (λ files. Untouched (files k.to)) (migrate_ending k old new o) (migrate_answered k old new o h takes) (migrated k old new o) h;
  done = done_migrate k;
  once = λ old new o p told h says. elim (migrate_found k old new says.0 told says.1 o h) [ inl is ↦ inl (alike o p (one_end says.0 o p is says.2)) | inr memory ↦ inr memory ];
  formed = λ old new o forms h. elim (migrate_found k old new forms.bytes forms.told forms.file o h) [
    | inl is ↦ inl (ap status_of (one_end forms.bytes o (ends.Migrated (length forms.lines)) is (forms.within, forms.lines, forms.is, refl)))
    | inr memory ↦ inr memory
  ];
}
