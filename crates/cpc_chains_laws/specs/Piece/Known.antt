-- What is known of a cps function of an accepted program, so that pieces can stand for its frames.
use Rattle.cpc_tree.specs.Syntax.{Program}
use Rattle.cpc_chains_event.specs.Converted.{converted}
use Rattle.cpc_convert_image_laws.specs.Relations.{Common}
use Rattle.cpc_lifted_laws.specs.Accepted.Functions.{IsShown}
use Rattle.cpc_lifted_laws.specs.Accepted.Known.{Stays}
use Rattle.cpc_lifted_laws.specs.Accepted.Points.{PositionsKnown}
use Rattle.cpc_lifted_laws.specs.Native.Instance.{StaysAs}

-- what is known of a whole program: what stands at its positions, what it has in common with its event program, and how faults name its functions
pub record ProgramKnown (p : Program) : Type 0 where
  pub positions : PositionsKnown p
  pub common : Common (Stays p) (StaysAs p) p (converted p)
  pub shown : IsShown p
