-- `piet::run_picture::run_colours` meets its contract: building refuses nothing.
-- Assumes nothing.
use mathlib.Core.Path.{refl}
use Rattle.std.proofs.lemmas.Result.{err_from_is_err_and}
use Rattle.piet.proofs.Drawing.{built, named}
use Rattle.piet.proofs.run_picture.run_colours.Goals as goal

pub returns-in_err-regions : goal.returns-in_err-regions
returns-in_err-regions c = absurd (built c.requires (named c.in_err-regions.was c.build.ensures))

pub returns-in_err-ended : goal.returns-in_err-ended
returns-in_err-ended c =
    let p = err_from_is_err_and c.from_residual-in_err-ended.result c.from_residual-in_err-ended.ensures.1 in
    rw (p.1, p.2) (record {
      regions = c.in_ok-regions.regions;
      built = named c.in_ok-regions.was c.build.ensures;
      answer = c.run.result;
      is = rw c.in_err-ended.was refl;
      ran = c.run.ensures.outcome;
    })

pub returns : goal.returns
returns c = record {
  regions = c.in_ok-regions.regions;
  built = named c.in_ok-regions.was c.build.ensures;
  answer = c.run.result;
  is = rw c.in_ok-ended.was refl;
  ran = c.run.ensures.outcome;
}
