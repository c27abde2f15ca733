use Rattle.std.proofs.Common.{rules, refl}
use Rattle.fab_pages.specs.Pages.{sent_by}
use Rattle.fab_pages.proofs.FrontLemmas.{within_back, written_back}
use Rattle.fab_pages.proofs.encoders.write_by.Goals as goal

pub put_back-requires : goal.put_back-requires
put_back-requires g c = record {
  within = within_back (sent_by c.args.sendings.now) (λ o. refl) c.args.sendings.now.drained.now.outs c.as_mut_slice.result.now c.take_pages.new.encoders.items c.encode_all.new.encoders c.take_pages.new.encoders.len c.args.pages.now c.take_pages.new.pages
      (search rules) c.encode_all.auto.encoders c.encode_all.ensures c.take_pages.new.encoders.ok.0 c.take_pages.ensures.out c.take_pages.ensures.count;
}

pub returns : goal.returns
returns g c =
    let both = written_back (sent_by c.args.sendings.now) (λ o. refl) c.args.sendings.now.drained.now.outs c.as_mut_slice.result.now c.take_pages.new.encoders.items c.encode_all.new.encoders c.take_pages.new.encoders.len c.args.pages.now c.take_pages.new.pages
    (search rules) c.encode_all.auto.encoders c.encode_all.ensures c.take_pages.new.encoders.ok.0 c.take_pages.ensures.out c.take_pages.ensures.count c.put_back.new.pages c.put_back.ensures.count c.put_back.ensures.pages c.put_back.ensures.refused in
    record { adds = both.0; fronts = both.1 }
