-- What is known of worked programs: their event programs leave the same trace, and end alike.
use Rattle.std.specs.Prelude.{◌≡◌, ℕ, codes}
use Rattle.cpc_base.specs.Bytes.{Text}
use Rattle.cpc_num.specs.declared.kinds.Fault.TheVariants as F
use Rattle.cpc_tree.specs.Syntax.{Program}
use Rattle.cpc_tree.specs.Trace.{Outcome, Ended, Failed, HistoryEnded, BadHistory}
use Rattle.cpc_tree.specs.Texts.{output}
use Rattle.cpc_meaning.specs.History.{History}
use Rattle.cpc_meaning.specs.Threads.{threaded}
use Rattle.cpc_meaning.specs.Events.{event}
use Rattle.cpc_convert_image_laws.specs.Shown.{no_polls, polls}
use Rattle.cpc_chains_event.specs.Converted.{converted}
use Rattle.cpc_chains_event.specs.Programs.{two_counters, two_ways_in, two_ways_in_over_globals, many_calls, diving, asking_main}
use Rattle.cpc_chains_event.specs.BoxPrograms.{boxed_code, boxed_parts, counting}
use Rattle.cpc_chains_event.specs.MorePrograms.{shared_local, passing_unset, outliving, two_arrays, three_waiters, sleepers, two_readers, two_sums}

-- after m steps the threads of a program have made this output and have this outcome; after n steps its event program has left the same trace, and has it too
pub record RunsAlike (p : Program) (h : History) (m n : ℕ) (out : Text) (o : Outcome) : Type 0 where
  pub output : output (threaded p h m).trace ≡ out
  pub ended : (threaded p h m).outcome ≡ o
  pub trace : (event (converted p) h n).trace ≡ (threaded p h m).trace
  pub outcome : (event (converted p) h n).outcome ≡ o

-- programs of calls and control
pub record CallsRunAlike : Type 0 where
  pub counters : RunsAlike two_counters no_polls 200 500 (codes "34\n133\n430\n") (Ended 0)
  pub jumps : RunsAlike two_ways_in no_polls 150 600 (codes "1\n3\n6\n7\n9\n12\n13\n15\n18\n19\n21\n24\n") (Ended 0)
  pub jumps_over_globals : RunsAlike two_ways_in_over_globals no_polls 150 600 (codes "1\n3\n6\n7\n9\n12\n13\n15\n18\n19\n21\n24\n") (Ended 0)
  pub loops : RunsAlike many_calls no_polls 300 2500 (codes "30\n") (Ended 0)
  pub recursion : RunsAlike diving no_polls 150 500 (codes "1\n2\n3\n30\n30\n30\n103\n") (Ended 0)
  pub cps_main : RunsAlike asking_main no_polls 40 120 (codes "6\n") (Ended 0)

-- programs of boxes, waits and sections; also those that fault, run out of history, or have a bad one
pub record WaitsRunAlike : Type 0 where
  pub boxes : RunsAlike shared_local no_polls 60 150 (codes "8\n") (Ended 0)
  pub unset : RunsAlike passing_unset no_polls 60 150 (codes "4\n") (Failed F.Unset (codes "f"))
  pub freed : RunsAlike outliving no_polls 60 200 (codes "") (Failed F.Freed (codes "h"))
  pub arrays : RunsAlike two_arrays no_polls 150 600 (codes "123\n456\n") (Ended 0)
  pub conditions : RunsAlike three_waiters no_polls 100 400 (codes "1\n2\n3\n") (Ended 1)
  pub timers : RunsAlike sleepers (polls (codes "poll 0\npoll 3\npoll 2\npoll 9\n")) 100 300 (codes "4\n2\n3\n1\n") (Ended 0)
  pub no_history : RunsAlike sleepers no_polls 60 200 (codes "") HistoryEnded
  pub descriptors : RunsAlike two_readers (polls (codes "poll 1 r9\npoll 2 r3\n")) 100 250 (codes "1\n2\n") (Ended 0)
  pub sections : RunsAlike two_sums (polls (codes "poll 0\npoll 1 d1\npoll 2 d0\n")) 100 300 (codes "99\n202\n2\n200\n22\n2\n20\n") (Ended 0)
  pub bad_history : RunsAlike two_sums (polls (codes "poll 0\npoll 1 d5\n")) 60 200 (codes "99\n") (BadHistory 5)

-- programs with boxes of each type, and a loop that begins with the first node
pub record BoxesRunAlike : Type 0 where
  pub code : RunsAlike boxed_code no_polls 60 200 (codes "7\n") (Ended 0)
  pub parts : RunsAlike boxed_parts no_polls 100 400 (codes "4155\n") (Ended 0)
  pub loop : RunsAlike counting no_polls 60 200 (codes "0\n") (Ended 0)
