use Rattle.std.proofs.Common.{sym, ◌∙◌, subst}
use Rattle.fab_replay.proofs.ResultLemmas.{err_is}
use Rattle.fabric_tool.specs.Checking.{GivenRead}
use Rattle.fabric_tool.specs.Command.{names_of}
use Rattle.fabric_tool.proofs.JournalLemmas.{given_no_config, given_whole, given_unread, journal_as, config_named, journal_named}
use Rattle.fabric_tool.proofs.RanLemmas.{config_as}
use Rattle.fabric_tool.proofs.replaying.config_and_journal.Goals as goal

pub returns-in_err-config : goal.returns-in_err-config
returns-in_err-config g c =
    let seen = g.D.Depot.seen in
    let w = c.args.width in
    let words = c.args.words.now in
    let a = seen c.args.depot.now in
    let d = seen c.config_of.new.depot in
    record {
      reads = subst (GivenRead (names_of w words) a d) (err_is c.from_residual.result _ c.from_residual.ensures.1)
          (given_no_config (names_of w words) a d c.in_err-config.field-0.0 (config_as (c.word_at.ensures ∙ sym (config_named w words)) c.in_err-config.ensures.reads));
    }

pub returns-in_err-journal : goal.returns-in_err-journal
returns-in_err-journal g c =
    let seen = g.D.Depot.seen in
    let w = c.args.width in
    let words = c.args.words.now in
    let a = seen c.args.depot.now in
    let d = seen c.journal_of.new.depot in
    record {
      reads = subst (GivenRead (names_of w words) a d) (err_is c.from_residual-in_err-journal.result _ c.from_residual-in_err-journal.ensures.1)
          (given_unread (names_of w words) a (seen c.config_of.new.depot) d c.in_ok-config.config (config_as (c.word_at.ensures ∙ sym (config_named w words)) c.in_ok-config.ensures.reads)
          c.in_err-journal.field-0.0 (journal_as (c.word_at-2.ensures ∙ sym (journal_named w words)) c.in_err-journal.ensures.reads));
    }

pub returns : goal.returns
returns g c =
    let seen = g.D.Depot.seen in
    let w = c.args.width in
    let words = c.args.words.now in
    record {
      reads = given_whole (names_of w words) (seen c.args.depot.now) (seen c.config_of.new.depot) (seen c.journal_of.new.depot) c.in_ok-config.config (config_as (c.word_at.ensures ∙ sym (config_named w words)) c.in_ok-config.ensures.reads)
          c.in_ok-journal.journal (journal_as (c.word_at-2.ensures ∙ sym (journal_named w words)) c.in_ok-journal.ensures.reads);
    }
