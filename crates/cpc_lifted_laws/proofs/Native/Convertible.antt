-- An accepted program has all that is asked of a program.
use Rattle.cpc_lifted_laws.proofs.Accepted.Functions.{accepted_is_shown, accepted_has_main}
use Rattle.cpc_lifted_laws.proofs.Accepted.Names.{accepted_has_names, accepted_is_named}
use Rattle.cpc_lifted_laws.proofs.Accepted.Points.{accepted_positions_known}
use Rattle.cpc_lifted_laws.specs.Native.Laws.{AcceptedIsConvertible}
use Rattle.cpc_lifted_laws.proofs.Native.Accepted.{accepted_globals}
use Rattle.cpc_lifted_laws.proofs.Native.Declared.{accepted_closes}

pub accepted_is_convertible : AcceptedIsConvertible
accepted_is_convertible list end p read unbroken = record {
  names = accepted_has_names list end p read unbroken;
  named = accepted_is_named list end p read unbroken;
  positions = accepted_positions_known list end p read unbroken;
  shown = accepted_is_shown list end p read unbroken;
  main = accepted_has_main list end p read unbroken;
  closes = accepted_closes list end p read unbroken;
  globals = accepted_globals list end p read unbroken;
}
