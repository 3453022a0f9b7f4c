use Rattle.xxh3.specs.Told.{told_fine, told_bad_lem}
use Rattle.xxh3.proofs.number_told.Goals as goal

pub returns-in-Ok : goal.returns-in-Ok
returns-in-Ok c = told_fine _ c.in-Ok.is

pub returns-in-Err : goal.returns-in-Err
returns-in-Err c = told_bad_lem _ _ c.in-Err.is c.told_of.ensures.0
