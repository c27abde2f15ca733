use Rattle.std.proofs.Common.{Some, sym, ap, ◌∙◌, subst}
use Rattle.fabric_tool.specs.Command.{named}
use Rattle.fabric_tool.specs.Ends.{Holds, TouchesOwn}
use Rattle.fabric_tool.specs.declared.command.Form.{Form}
use Rattle.fabric_tool.specs.declared.command.Form.TheVariants as forms
use Rattle.fabric_tool.proofs.FormLemmas.{have_form}
use Rattle.fabric_tool.proofs.tool.outcome_by.Goals as goal

pub run-requires-clause-run : goal.run-requires-clause-run
run-requires-clause-run g c κs within = have_form c.args.words.now forms.Run (c.requires.form ∙ ap (λ (f : Form). Some f) c.in-Run.is)

pub replay-requires-clause-pairs : goal.replay-requires-clause-pairs
replay-requires-clause-pairs g c = have_form c.args.words.now forms.Replay (c.requires.form ∙ ap (λ (f : Form). Some f) c.in-Replay.is)

pub show-requires-clause-singles : goal.show-requires-clause-singles
show-requires-clause-singles g c = have_form c.args.words.now forms.Show (c.requires.form ∙ ap (λ (f : Form). Some f) c.in-Show.is)

pub convert_file-requires-clause-convert : goal.convert_file-requires-clause-convert
convert_file-requires-clause-convert g c = have_form c.args.words.now forms.Convert (c.requires.form ∙ ap (λ (f : Form). Some f) c.in-Convert.is)

pub migrate_file-requires-clause-migrate : goal.migrate_file-requires-clause-migrate
migrate_file-requires-clause-migrate g c = have_form c.args.words.now forms.Migrate (c.requires.form ∙ ap (λ (f : Form). Some f) c.in-Migrate.is)

pub make-requires-clause-make : goal.make-requires-clause-make
make-requires-clause-make g c = have_form c.args.words.now (forms.Make c.in-Make.number) (c.requires.form ∙ ap (λ (f : Form). Some f) c.in-Make.is)

pub snoop-requires-clause-snoop : goal.snoop-requires-clause-snoop
snoop-requires-clause-snoop g c = have_form c.args.words.now forms.Snoop (c.requires.form ∙ ap (λ (f : Form). Some f) c.in-Snoop.is)

pub enode-requires-clause-start : goal.enode-requires-clause-start
enode-requires-clause-start g c = (have_form c.args.words.now (forms.Enode c.in-Enode.start c.in-Enode.own) (c.requires.form ∙ ap (λ (f : Form). Some f) c.in-Enode.is)).1

pub enode-requires-clause-enode : goal.enode-requires-clause-enode
enode-requires-clause-enode g c = (have_form c.args.words.now (forms.Enode c.in-Enode.start c.in-Enode.own) (c.requires.form ∙ ap (λ (f : Form). Some f) c.in-Enode.is)).0

pub live-requires-clause-live : goal.live-requires-clause-live
live-requires-clause-live g c κs within = have_form c.args.words.now forms.Live (c.requires.form ∙ ap (λ (f : Form). Some f) c.in-Live.is)

pub returns-in-Make : goal.returns-in-Make
returns-in-Make g c =
    let seen = g.D.Depot.seen in
    record { holds = subst (λ (f : Form). Holds (named c.args.words.now f) (seen c.args.depot.now) (seen c.make.new.depot) c.make.result) (sym c.in-Make.is) c.make.ensures.holds; touches = subst (λ (f : Form). TouchesOwn (named c.args.words.now f) (seen c.args.depot.now) (seen c.make.new.depot)) (sym c.in-Make.is) c.make.ensures.touches }
