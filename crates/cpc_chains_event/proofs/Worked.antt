-- Worked programs of calls and control run alike, by computing.
use Rattle.std.specs.Prelude.{codes, refl}
use Rattle.std.specs.Fmt.{digits}
use Rattle.cpc_num.specs.Number.{settle, divided}
use Rattle.cpc_tree.specs.Trace.{Ended}
use Rattle.cpc_convert_common.specs.Converted.{spawner_name}
use Rattle.cpc_convert_image_laws.specs.Shown.{no_polls}
use Rattle.cpc_convert_routines.specs.Names.{start_name, leader_name, value_tag, box_tag, variable_name, node_label}
use Rattle.cpc_chains_event.specs.Programs.{two_counters, two_ways_in, two_ways_in_over_globals, many_calls, diving, asking_main}
use Rattle.cpc_chains_event.specs.Worked.{RunsAlike}

pub counters : RunsAlike two_counters no_polls 200 500 (codes "34\n133\n430\n") (Ended 0)
unfolding digits settle divided spawner_name start_name leader_name value_tag box_tag variable_name node_label
counters = record { output = refl; ended = refl; trace = refl; outcome = refl }

pub jumps : RunsAlike two_ways_in no_polls 150 600 (codes "1\n3\n6\n7\n9\n12\n13\n15\n18\n19\n21\n24\n") (Ended 0)
unfolding digits settle divided spawner_name start_name leader_name value_tag box_tag variable_name node_label
jumps = record { output = refl; ended = refl; trace = refl; outcome = refl }

pub jumps_over_globals : RunsAlike two_ways_in_over_globals no_polls 150 600 (codes "1\n3\n6\n7\n9\n12\n13\n15\n18\n19\n21\n24\n") (Ended 0)
unfolding digits settle divided spawner_name start_name leader_name value_tag box_tag variable_name node_label
jumps_over_globals = record { output = refl; ended = refl; trace = refl; outcome = refl }

pub loops : RunsAlike many_calls no_polls 300 2500 (codes "30\n") (Ended 0)
unfolding digits settle divided spawner_name start_name leader_name value_tag box_tag variable_name node_label
loops = record { output = refl; ended = refl; trace = refl; outcome = refl }

pub recursion : RunsAlike diving no_polls 150 500 (codes "1\n2\n3\n30\n30\n30\n103\n") (Ended 0)
unfolding digits settle divided spawner_name start_name leader_name value_tag box_tag variable_name node_label
recursion = record { output = refl; ended = refl; trace = refl; outcome = refl }

pub cps_main : RunsAlike asking_main no_polls 40 120 (codes "6\n") (Ended 0)
unfolding digits settle divided spawner_name start_name leader_name value_tag box_tag variable_name node_label
cps_main = record { output = refl; ended = refl; trace = refl; outcome = refl }
