-- A program with a little of everything runs as its event program, by computing.
use Rattle.std.specs.Prelude.{refl}
use Rattle.std.specs.Fmt.{digits}
use Rattle.cpc_num.specs.Number.{settle, divided}
use Rattle.cpc_convert_common.specs.Converted.{spawner_name}
use Rattle.cpc_convert_routines.specs.Names.{start_name, leader_name, value_tag, box_tag, variable_name, node_label}
use Rattle.cpc_chains_event.specs.Mixed.{MixedRunsAlike}

pub mixed_alike : MixedRunsAlike
unfolding digits settle divided spawner_name start_name leader_name value_tag box_tag variable_name node_label
mixed_alike = record { output = refl; ended = refl; trace = refl; outcome = refl }
