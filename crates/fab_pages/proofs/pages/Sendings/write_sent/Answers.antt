use Rattle.std.proofs.Common.{◌∙◌, ◌++◌, ◌-◌, ap, sym, take, drop, length, refl}
use Rattle.fab_policy.specs.Text.{sent_bytes}
use Rattle.fab_sending.specs.Message.{bytes_of}
use Rattle.fab_pages.specs.Pages.{sent_by}
use Rattle.fab_pages.proofs.PageLemmas.{sent_made}
use Rattle.fab_pages.proofs.pages.Sendings.write_sent.Goals as goal

pub returns-clause-ok : goal.returns-clause-ok
returns-clause-ok c =
    let P = c.deref_mut.result.now in
    let b = c.len-begin.result in
    let bytes = bytes_of c.args.self.now.config.now c.args.self.now.drained.now.events c.args.out.now.message in
    sent_made c.args.page.now.items P (take (length P - b) (drop b P)) c.set_length.new.stored _ b c.write_out.new.into.len c.args.out.now.moment bytes (c.len-begin.ensures ∙ c.args.page.now.ok.0)
    (c.deref_mut.ensures.value ∙ c.in_ok-write_out.ensures.ok ∙ ap (λ l. l ++ bytes) c.in_ok-write_front.ensures.ok) refl c.set_length.ensures (c.write_out.new.into.ok.0 ∙ ap length (sym c.deref_mut.ensures.value))

pub returns-clause-front : goal.returns-clause-front
returns-clause-front c = (sent_bytes (sent_by c.args.self.now c.args.out.now), returns-clause-ok c)
