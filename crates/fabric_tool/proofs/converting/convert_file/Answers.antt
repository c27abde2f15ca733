use Rattle.std.proofs.Common.{Ok, Err, inl}
use Rattle.fab_base.specs.Ending.{Said}
use Rattle.pcapng_file.specs.Classic.{converting_end}
use Rattle.fabric_tool.specs.Command.{Convert, pair_of}
use Rattle.fabric_tool.proofs.FileLemmas.{output_written, input_refused, output_failed, converts_as, pair_uses}
use Rattle.fabric_tool.proofs.TouchLemmas.{own_pair}
use Rattle.fabric_tool.proofs.converting.convert_file.Goals as goal

pub returns-in-Ok : goal.returns-in-Ok
returns-in-Ok g c =
    let seen = g.D.Depot.seen in
    let a = seen c.args.depot.now in
    let b = seen c.convert.new.depot in
    record {
      holds = output_written (pair_of c.args.words.now) a b c.in-Ok.records (converts_as _ _ _ _ a b (Ok c.in-Ok.records) c.word_at.ensures c.word_at-2.ensures c.in-Ok.ensures.converts) (pair_uses _ _ _ _ Said a b c.word_at.ensures c.word_at-2.ensures c.in-Ok.ensures.uses);
      touches = own_pair (Convert (pair_of c.args.words.now)) _ _ _ _ (inl c.word_at.ensures) (inl c.word_at-2.ensures) c.convert.ensures.uses.touches;
    }

pub returns-in-Err-Input : goal.returns-in-Err-Input
returns-in-Err-Input g c =
    let seen = g.D.Depot.seen in
    let a = seen c.args.depot.now in
    let b = seen c.convert.new.depot in
    let x = c.in-Err-Input.field-0 in
    record {
      holds = input_refused (pair_of c.args.words.now) a b c.in-Err-Input.error c.unconverted.result c.unconverted.ensures x c.in-Err-Input.field-0-is (converts_as _ _ _ _ a b (Err x) c.word_at.ensures c.word_at-2.ensures c.in-Err-Input.ensures.converts)
          (pair_uses _ _ _ _ (converting_end x) a b c.word_at.ensures c.word_at-2.ensures c.in-Err-Input.ensures.uses);
      touches = own_pair (Convert (pair_of c.args.words.now)) _ _ _ _ (inl c.word_at.ensures) (inl c.word_at-2.ensures) c.convert.ensures.uses.touches;
    }

pub returns-in-Err-Write : goal.returns-in-Err-Write
returns-in-Err-Write g c =
    let seen = g.D.Depot.seen in
    let a = seen c.args.depot.now in
    let b = seen c.convert.new.depot in
    let x = c.in-Err-Write.field-0 in
    record {
      holds = output_failed (pair_of c.args.words.now) a b c.in-Err-Write.field-0-0 x c.in-Err-Write.field-0-is (converts_as _ _ _ _ a b (Err x) c.word_at.ensures c.word_at-2.ensures c.in-Err-Write.ensures.converts)
          (pair_uses _ _ _ _ (converting_end x) a b c.word_at.ensures c.word_at-2.ensures c.in-Err-Write.ensures.uses);
      touches = own_pair (Convert (pair_of c.args.words.now)) _ _ _ _ (inl c.word_at.ensures) (inl c.word_at-2.ensures) c.convert.ensures.uses.touches;
    }
