use Rattle.std.proofs.Common.{Err, refl, sym, ap, ◌∙◌, subst}
use Rattle.fab_vectors.specs.Making.{AreNine}
use Rattle.fabric_tool.specs.Command.{Make, make_of}
use Rattle.fabric_tool.proofs.TouchLemmas.{own_written}
use Rattle.fabric_tool.proofs.MakeLemmas.{are_nine, made_own, made_whole, made_failed, made_memory, not_opened, makes_as}
use Rattle.fabric_tool.proofs.making.make.Goals as goal

pub returns-in-Err : goal.returns-in-Err
returns-in-Err g c =
    let seen = g.D.Depot.seen in
    record { holds = not_opened c.args.number c.args.words.now (seen c.args.depot.now) (seen c.open_files.new.depot) c.in-Err.field-0 c.in-Err.ensures.opens; touches = own_written (Make (make_of c.args.number c.args.words.now)) _ _ c.in-Err.ensures.opens.opens.touches }

pub make_load-requires : goal.make_load-requires
make_load-requires g c =
    let b = g.D.Depot.seen c.open_files.new.depot in
    record { files = subst (λ l. AreNine b l) (sym c.as_slice.ensures.value) (are_nine c.args.words.now c.requires.make b c.in-Ok.files.slots.items c.in-Ok.ensures.opens.slots) }

pub returns-in-Ok-make_load : goal.returns-in-Ok-make_load
returns-in-Ok-make_load g c =
    let opened = c.in-Ok.ensures.opens in
    record { holds = made_whole c.args.words.now c.requires.make _ _ opened.slots c.args.number opened.opens opened.counts (makes_as refl c.as_slice.ensures.value c.make_load.ensures.makes) c.in-Ok-make_load.frames c.in-Ok-make_load.is; touches = made_own c.args.words.now c.requires.make _ _ opened.slots c.args.number opened.opens opened.counts (makes_as refl c.as_slice.ensures.value c.make_load.ensures.makes) }

pub returns-in-Err-Write : goal.returns-in-Err-Write
returns-in-Err-Write g c =
    let opened = c.in-Ok.ensures.opens in
    record { holds = made_failed c.args.words.now c.requires.make _ _ opened.slots c.args.number opened.opens opened.counts (makes_as refl c.as_slice.ensures.value c.make_load.ensures.makes) (c.in-Err-Write.is ∙ ap (λ e. Err e) c.in-Err-Write.field-0-is); touches = made_own c.args.words.now c.requires.make _ _ opened.slots c.args.number opened.opens opened.counts (makes_as refl c.as_slice.ensures.value c.make_load.ensures.makes) }

pub returns-in-Err-Memory : goal.returns-in-Err-Memory
returns-in-Err-Memory g c =
    let opened = c.in-Ok.ensures.opens in
    record { holds = made_memory c.args.words.now c.requires.make _ _ opened.slots c.args.number opened.opens opened.counts (makes_as refl c.as_slice.ensures.value c.make_load.ensures.makes) (c.in-Err-Memory.is ∙ ap (λ e. Err e) c.in-Err-Memory.field-0-is); touches = made_own c.args.words.now c.requires.make _ _ opened.slots c.args.number opened.opens opened.counts (makes_as refl c.as_slice.ensures.value c.make_load.ensures.makes) }
