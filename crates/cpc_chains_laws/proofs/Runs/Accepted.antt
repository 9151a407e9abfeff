-- Accepted programs are as the pieces of their functions ask.
use Rattle.std.proofs.Common.{arith}
use Rattle.std.proofs.lemmas.List.{length-map}
use Rattle.cpc_base.specs.declared.stop.Dialect.TheVariants as D
use Rattle.cpc_tree.specs.Located.{bare}
use Rattle.cpc_forms.specs.Graph.{node_of}
use Rattle.cpc_forms.specs.Order.{points}
use Rattle.cpc_check_laws.proofs.Sound.Accepted.{accepted_is_typed}
use Rattle.cpc_lifted_laws.proofs.Accepted.Functions.{accepted_is_shown}
use Rattle.cpc_lifted_laws.proofs.Accepted.Names.{accepted_has_names, accepted_is_named}
use Rattle.cpc_lifted_laws.proofs.Accepted.Pieces.{accepted_suits_pieces}
use Rattle.cpc_lifted_laws.proofs.Accepted.Points.{accepted_positions_known}
use Rattle.cpc_chains_event.proofs.BoxesThere.{structs_there}
use Rattle.cpc_chains_laws.proofs.Native.Codes.{codes_found}
use Rattle.cpc_chains_laws.specs.Runs.Laws.{AcceptedCpsIsKnown, AcceptedIsKnown}

pub cps_is_known : AcceptedCpsIsKnown
cps_is_known list end p read unbroken f cps =
    let names = accepted_has_names list end p read unbroken in
    let named = accepted_is_named list end p read unbroken in
    let found = (names.functions f cps.has).found in
    let suits = accepted_suits_pieces list end p read unbroken f cps.has in
    record {
      names = named;
      found = record { cps = cps; named = found };
      few_nodes = let few = names.points f cps.has cps.mode in let e = length-map (points f.body) (node_of (bare p) f) in omega (arith, few, e);
      few_variables = (names.functions f cps.has).few;
      primitives = names.primitives;
      addresses = suits.addresses;
      stays = ((accepted_is_typed D.Cpc list end p read unbroken).functions f.called f found).control;
      results = suits.results;
    }

pub program_is_known : AcceptedIsKnown
program_is_known list end p read unbroken =
    let names = accepted_has_names list end p read unbroken in
    let named = accepted_is_named list end p read unbroken in
    record {
      positions = accepted_positions_known list end p read unbroken;
      common = record { types = (structs_there (bare p) named).types; codes = codes_found (bare p) names named };
      shown = accepted_is_shown list end p read unbroken;
    }
