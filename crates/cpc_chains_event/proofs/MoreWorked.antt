-- Worked programs of boxes, waits and sections run alike, by computing.
use Rattle.std.specs.Prelude.{codes, refl}
use Rattle.std.specs.Fmt.{digits}
use Rattle.cpc_num.specs.Number.{settle, divided}
use Rattle.cpc_num.specs.declared.kinds.Fault.TheVariants as F
use Rattle.cpc_tree.specs.Trace.{Ended, Failed, HistoryEnded, BadHistory}
use Rattle.cpc_convert_common.specs.Converted.{spawner_name}
use Rattle.cpc_convert_image_laws.specs.Shown.{no_polls, polls}
use Rattle.cpc_convert_routines.specs.Names.{start_name, leader_name, value_tag, box_tag, variable_name, node_label}
use Rattle.cpc_chains_event.specs.BoxPrograms.{boxed_code, boxed_parts, counting}
use Rattle.cpc_chains_event.specs.MorePrograms.{shared_local, passing_unset, outliving, two_arrays, three_waiters, sleepers, two_readers, two_sums}
use Rattle.cpc_chains_event.specs.Worked.{RunsAlike}

pub boxes : RunsAlike shared_local no_polls 60 150 (codes "8\n") (Ended 0)
unfolding digits settle divided spawner_name start_name leader_name value_tag box_tag variable_name node_label
boxes = record { output = refl; ended = refl; trace = refl; outcome = refl }

pub unset : RunsAlike passing_unset no_polls 60 150 (codes "4\n") (Failed F.Unset (codes "f"))
unfolding digits settle divided spawner_name start_name leader_name value_tag box_tag variable_name node_label
unset = record { output = refl; ended = refl; trace = refl; outcome = refl }

pub freed : RunsAlike outliving no_polls 60 200 (codes "") (Failed F.Freed (codes "h"))
unfolding digits settle divided spawner_name start_name leader_name value_tag box_tag variable_name node_label
freed = record { output = refl; ended = refl; trace = refl; outcome = refl }

pub arrays : RunsAlike two_arrays no_polls 150 600 (codes "123\n456\n") (Ended 0)
unfolding digits settle divided spawner_name start_name leader_name value_tag box_tag variable_name node_label
arrays = record { output = refl; ended = refl; trace = refl; outcome = refl }

pub conditions : RunsAlike three_waiters no_polls 100 400 (codes "1\n2\n3\n") (Ended 1)
unfolding digits settle divided spawner_name start_name leader_name value_tag box_tag variable_name node_label
conditions = record { output = refl; ended = refl; trace = refl; outcome = refl }

pub timers : RunsAlike sleepers (polls (codes "poll 0\npoll 3\npoll 2\npoll 9\n")) 100 300 (codes "4\n2\n3\n1\n") (Ended 0)
unfolding digits settle divided spawner_name start_name leader_name value_tag box_tag variable_name node_label
timers = record { output = refl; ended = refl; trace = refl; outcome = refl }

pub no_history : RunsAlike sleepers no_polls 60 200 (codes "") HistoryEnded
unfolding digits settle divided spawner_name start_name leader_name value_tag box_tag variable_name node_label
no_history = record { output = refl; ended = refl; trace = refl; outcome = refl }

pub descriptors : RunsAlike two_readers (polls (codes "poll 1 r9\npoll 2 r3\n")) 100 250 (codes "1\n2\n") (Ended 0)
unfolding digits settle divided spawner_name start_name leader_name value_tag box_tag variable_name node_label
descriptors = record { output = refl; ended = refl; trace = refl; outcome = refl }

pub sections : RunsAlike two_sums (polls (codes "poll 0\npoll 1 d1\npoll 2 d0\n")) 100 300 (codes "99\n202\n2\n200\n22\n2\n20\n") (Ended 0)
unfolding digits settle divided spawner_name start_name leader_name value_tag box_tag variable_name node_label
sections = record { output = refl; ended = refl; trace = refl; outcome = refl }

pub bad_history : RunsAlike two_sums (polls (codes "poll 0\npoll 1 d5\n")) 60 200 (codes "99\n") (BadHistory 5)
unfolding digits settle divided spawner_name start_name leader_name value_tag box_tag variable_name node_label
bad_history = record { output = refl; ended = refl; trace = refl; outcome = refl }

pub boxed_codes : RunsAlike boxed_code no_polls 60 200 (codes "7\n") (Ended 0)
unfolding digits settle divided spawner_name start_name leader_name value_tag box_tag variable_name node_label
boxed_codes = record { output = refl; ended = refl; trace = refl; outcome = refl }

pub boxed_structs : RunsAlike boxed_parts no_polls 100 400 (codes "4155\n") (Ended 0)
unfolding digits settle divided spawner_name start_name leader_name value_tag box_tag variable_name node_label
boxed_structs = record { output = refl; ended = refl; trace = refl; outcome = refl }

pub first_loop : RunsAlike counting no_polls 60 200 (codes "0\n") (Ended 0)
unfolding digits settle divided spawner_name start_name leader_name value_tag box_tag variable_name node_label
first_loop = record { output = refl; ended = refl; trace = refl; outcome = refl }
