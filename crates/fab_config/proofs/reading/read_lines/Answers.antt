use Rattle.std.proofs.Common.{◌≡◌, ◌∙◌, length, sym, arith, rules}
use Rattle.std.proofs.lemmas.Result.{err_from_is_err_and}
use Rattle.fab_config.specs.Lines.{lines_of}
use Rattle.fab_config.proofs.FitLemmas.{line_fits}
use Rattle.fab_config.proofs.ReadLemmas.{lines_ok, at_end}
use Rattle.fab_config.proofs.reading.read_lines.Goals as goal

pub loop-rest-preserved : goal.loop-rest-preserved
loop-rest-preserved c =
    let d = c.loop-rest.draft in
    let next = c.in-Ok-with_line.draft in
    let line = c.cut_line.result.0.now in
    record {
      on = lines_ok c.loop-rest.line d next (lines_of c.loop-rest.rest.now) (lines_of c.cut_line.result.1.now) line c.cut_line.ensures.lines c.in-Ok-with_line.ensures ∙ c.loop-rest.invariant.on;
      fits = line_fits d next line c.in-Ok-with_line.ensures c.loop-rest.invariant.fits;
      few = let f = c.loop-rest.invariant.few in let l = c.cut_line.ensures.less in omega (arith, f, l);
    }

pub returns : goal.returns
returns c =
    let empty : length c.loop-rest.rest.now ≡ 0 = search rules in
    sym c.loop-rest.invariant.on ∙ at_end c.loop-rest.line c.loop-rest.draft c.loop-rest.rest.now empty ∙ sym c.in_ok-finished.ensures

pub returns-in_err-finished : goal.returns-in_err-finished
returns-in_err-finished c =
    let empty : length c.loop-rest.rest.now ≡ 0 = search rules in
    let p = err_from_is_err_and c.from_residual.result c.from_residual.ensures.1 in
    rw (p.1, p.2) (sym c.loop-rest.invariant.on ∙ at_end c.loop-rest.line c.loop-rest.draft c.loop-rest.rest.now empty ∙ sym c.in_err-finished.ensures)
