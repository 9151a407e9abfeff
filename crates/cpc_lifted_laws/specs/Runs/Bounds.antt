-- How many steps of the event program there are at most in the parts of a row, and how far its live cells rise.
use Rattle.std.specs.Prelude.{◌+◌, ◌*◌}
use Rattle.cpc_tree.specs.Syntax.{Program}
use Rattle.cpc_meaning.specs.Runs.{most_variables}
use Rattle.cpc_lifted_laws.specs.Related.Bounds.{Bounds}

-- by the greatest number of variables of a cps function
abbrev pub bounds_of : Program → Bounds
bounds_of p = record {
  leads = 16 + 3 * most_variables p;
  onward = 8 + most_variables p;
  resumes = 8 + 2 * most_variables p;
  begins = 24 + 5 * most_variables p;
  mains = 9;
  piece = 7 + most_variables p;
  takes = 10 + 2 * most_variables p;
  opens = 21 + 4 * most_variables p;
  rise = 54 + 7 * most_variables p;
}
