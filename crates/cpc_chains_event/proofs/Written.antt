-- The event programs of worked programs are as they are written out, by computing.
use Rattle.std.specs.Prelude.{◌≡◌, refl}
use Rattle.std.specs.Fmt.{digits}
use Rattle.cpc_convert_common.specs.Converted.{spawner_name}
use Rattle.cpc_convert_routines.specs.Names.{start_name, leader_name, value_tag, box_tag, variable_name, node_label}
use Rattle.cpc_chains_event.specs.Converted.{converted}
use Rattle.cpc_chains_event.specs.Programs.{two_counters}
use Rattle.cpc_chains_event.specs.MorePrograms.{shared_local}
use Rattle.cpc_chains_event.specs.BoxPrograms.{counting}
use Rattle.cpc_chains_event.specs.WrittenLoop.{counting_event}
use Rattle.cpc_chains_event.specs.Written.{counters_event}
use Rattle.cpc_chains_event.specs.WrittenBoxes.{shared_event}

pub counters_written : converted two_counters ≡ counters_event
unfolding digits spawner_name start_name leader_name value_tag box_tag variable_name node_label
counters_written = refl

pub shared_written : converted shared_local ≡ shared_event
unfolding digits spawner_name start_name leader_name value_tag box_tag variable_name node_label
shared_written = refl

pub loop_written : converted counting ≡ counting_event
unfolding digits spawner_name start_name leader_name value_tag box_tag variable_name node_label
loop_written = refl
