use Rattle.std.proofs.Common.{◌≡◌, arith, ap, ◌∙◌, max, ℕ, not, nat_lt, length, vec_len}
use Rattle.pcap_file.proofs.StepLemmas.{leb_not, read_end, read_short, read_long, read_bytes, read_frames, read_refused, read_cut, read_given}
use Rattle.pcap_file.proofs.reader.read_record.Goals as goal

pub returns-then-got-eq0 : goal.returns-then-got-eq0
returns-then-got-eq0 g c = record {
  reads = read_end c.args.slot _ _ _ _ c.pull.new.into c.in-Ok.got c.args.place c.args.budget c.pull.auto.into c.in-Ok.ensures.pulls c.if-got-eq0.true;
}

pub returns-then-got-lt-RECORD_HEAD : goal.returns-then-got-lt-RECORD_HEAD
returns-then-got-lt-RECORD_HEAD g c = record {
  reads = read_short c.args.slot _ _ _ _ c.pull.new.into c.in-Ok.got c.args.place c.args.budget c.pull.auto.into c.in-Ok.ensures.pulls c.if-got-eq0.false (omega arith);
}

pub returns-then-len-gt-MOST_STORED : goal.returns-then-len-gt-MOST_STORED
returns-then-len-gt-MOST_STORED g c = record {
  reads = read_long c.args.slot _ _ _ _ c.pull.new.into c.in-Ok.got c.args.place c.args.budget c.pull.auto.into c.in-Ok.ensures.pulls _ c.number_at-len.ensures (omega arith) (omega arith);
}

pub returns-then-budget-len : goal.returns-then-budget-len
returns-then-budget-len g c = record {
  reads = read_bytes c.args.slot _ _ _ _ c.pull.new.into c.in-Ok.got c.args.place c.args.budget c.pull.auto.into c.in-Ok.ensures.pulls _ c.number_at-len.ensures (omega arith) (omega arith) (omega arith);
}

pub returns-then-budget-eq0 : goal.returns-then-budget-eq0
returns-then-budget-eq0 g c = record {
  reads = read_frames c.args.slot _ _ _ _ c.pull.new.into c.in-Ok.got c.args.place c.args.budget c.pull.auto.into c.in-Ok.ensures.pulls _ c.number_at-len.ensures (omega arith) (omega arith) (omega arith) (omega arith);
}

pub returns-then-len : goal.returns-then-len
returns-then-len g c =
    let sized : vec_len c.collect.new.into ≡ length c.collect.new.into.items = c.collect.new.into.ok.0 in
    record {
      reads = read_cut c.args.slot _ _ _ _ c.pull.new.into c.in-Ok.got c.args.place c.args.budget c.pull.auto.into c.in-Ok.ensures.pulls c.number_at-len.result c.number_at-len.ensures (omega arith) (omega arith) _ c.collect.new.self c.collect.new.into.items c.requires.input
          c.in-Ok-collect.ensures.collects (omega arith) c.if-budget-eq0.false (omega (arith, sized, c.len.ensures, c.if-len.true));
    }

pub returns : goal.returns
returns g c =
    let sized : vec_len c.collect.new.into ≡ length c.collect.new.into.items = c.collect.new.into.ok.0 in
    record {
      reads = read_given c.args.slot _ _ _ _ c.pull.new.into c.in-Ok.got c.args.place c.args.budget c.pull.auto.into c.in-Ok.ensures.pulls c.number_at-len.result c.number_at-len.ensures (omega arith) (omega arith) _ c.collect.new.self c.collect.new.into.items c.requires.input
          c.in-Ok-collect.ensures.collects (omega arith) c.if-budget-eq0.false c.record_of.result (omega (arith, sized, c.len.ensures, c.if-len.false, c.in-Ok-collect.ensures.collects.bound)) c.requires.greatest (omega (arith, c.moment_in.ensures.value, c.moment_in.ensures.range)) (c.record_of.ensures.moment ∙ c.max.ensures ∙ ap (λ (m : ℕ). max m c.args.place.greatest) c.moment_in.ensures.value) c.record_of.ensures.bytes
          (c.record_of.ensures.whole ∙ leb_not c.number_at.result c.number_at-len.result ∙ ap (λ (n : ℕ). not (nat_lt c.number_at-len.result n)) c.number_at.ensures);
    }

pub returns-in_default : goal.returns-in_default
returns-in_default g c = record {
  reads = read_refused c.args.slot _ _ _ _ c.pull.new.into c.in-Ok.got c.args.place c.args.budget c.pull.auto.into c.in-Ok.ensures.pulls _ c.number_at-len.ensures (omega arith) (omega arith) (omega arith) c.if-budget-eq0.false;
}
