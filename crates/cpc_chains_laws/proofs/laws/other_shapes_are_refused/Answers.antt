use Rattle.cpc_chains_laws.proofs.Shape.Refusals.{every_statement_a_function, a_statement_is_dropped}
use Rattle.cpc_chains_laws.proofs.laws.other_shapes_are_refused.Goals as goal

pub returns : goal.returns
returns c = record { each = every_statement_a_function; dropped = a_statement_is_dropped }
