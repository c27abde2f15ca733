use Rattle.std.proofs.Common.{◌∙◌, ◌++◌, ℕ, ap, sym, take, min, length, length-drop}
use Rattle.fab_base.specs.Seen.{bytes_of}
use Rattle.fab_base.specs.Contents.{content_bytes}
use Rattle.fab_base.proofs.MemLemmas.{left_is, content_read}
use Rattle.fab_base.proofs.mem_depot.MemDepot.try_fetch.Goals as goal

pub returns-clause-taken : goal.returns-clause-taken
returns-clause-taken c =
    let is = content_read c.args.self.now.contents.items c.args.file _ c.requires.within c.index.ensures in
    let e = c.copy_content-count.ensures in
    ap (λ l. take c.copy_content-count.result c.copy_content-count.new.into ++ l)
    (left_is c.set_at.new.self c.args.self.now.contents.items c.args.slot _ c.args.file (content_bytes c.index.result.now) c.set_at.ensures.at
    ((c.set_at.ensures.stays.slots c.args.slot c.requires.slot).file ∙ c.requires.file) is)
    ∙ e.taken
    ∙ sym (left_is c.args.self.now.desk c.args.self.now.contents.items c.args.slot _ c.args.file (content_bytes c.index.result.now) (sym c.at-at.ensures) c.requires.file is)

pub returns-clause-all : goal.returns-clause-all
returns-clause-all c =
    let is = content_read c.args.self.now.contents.items c.args.file _ c.requires.within c.index.ensures in
    let bytes = bytes_of (content_bytes c.index.result.now) in
    let left = left_is c.args.self.now.desk c.args.self.now.contents.items c.args.slot _ c.args.file (content_bytes c.index.result.now) (sym c.at-at.ensures) c.requires.file is in
    c.copy_content-count.ensures.all ∙ ap (λ (n : ℕ). min (length c.args.into.now) n) (sym (ap length left ∙ length-drop c.at-at.result bytes))
