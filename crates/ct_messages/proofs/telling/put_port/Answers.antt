use Rattle.std.proofs.lemmas.Result.{on_ok_weaker}
use Rattle.ct_messages.proofs.Appends.{five}
use Rattle.ct_messages.proofs.telling.put_port.Goals as goal

pub returns-clause-bytes : goal.returns-clause-bytes
returns-clause-bytes c =
    on_ok_weaker c.put_symbol-2.result (λ last. five c.args.bytes.now.items _ _ _ _ _ _ _ _ _ _ c.in_ok-put_marked.ensures.bytes c.in_ok-put_name.ensures.bytes c.in_ok-put_symbol.ensures.bytes c.in_ok-put_name-2.ensures.bytes last) c.put_symbol-2.ensures.bytes
