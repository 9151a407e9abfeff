-- What is not so: wrong expectations of the worked programs are refuted.
use Rattle.std.proofs.Common.{◌≡◌, true, false, refl, sym, ◌∙◌}
use Rattle.std.proofs.lemmas.Slice.Eq.{bytes_eq-Decides}
use Rattle.std.specs.Prelude.{bytes_eq, codes}
use Rattle.cpc_base.specs.Bytes.{Text}
use Rattle.cpc_num.specs.declared.kinds.Fault.TheVariants as F
use Rattle.cpc_tree.specs.Trace.{Going, Ended, Failed}
use Rattle.cpc_meaning_laws.specs.Worked.Shown.{RunsTo, no_polls, polls}
use Rattle.cpc_meaning_laws.proofs.Worked.Rounds.{spawning, a_spawned_thread_runs_in_the_next_round, counting_steps, the_eighth_step_is_not_the_last}
use Rattle.cpc_meaning_laws.proofs.Worked.Calls.{moving_target, the_place_is_found_when_the_value_arrives}
use Rattle.cpc_meaning_laws.proofs.Worked.Memory.{two_arrays, each_call_has_its_own_array}
use Rattle.cpc_meaning_laws.proofs.Worked.Numbers.{int_overflow, a_signed_sum_does_not_wrap}
use Rattle.cpc_meaning_laws.proofs.Worked.Conditions.{three_waiters, a_signal_wakes_the_longest_waiter}
use Rattle.cpc_meaning_laws.proofs.Worked.Timers.{sleepers, sleepers_wake_by_deadline}
use Rattle.cpc_meaning_laws.proofs.Worked.Sections.{two_sums, a_section_works_on_its_copy}
use Rattle.cpc_meaning_laws.proofs.Worked.Orders.{right_before_place, the_right_side_comes_first}

-- texts that are told apart are not equal
differ : (a b : Text) → bytes_eq a b ≡ false → ¬ (a ≡ b)
differ a b f e = let g : bytes_eq a b ≡ true = (bytes_eq-Decides a b).1 e in absurd (cc)

-- a spawned thread does not run in the same round
pub not_in_the_same_round : ¬ RunsTo spawning no_polls 100 (codes "0\n10\n7\n1\n11\n8\n2\n12\n") (Ended 0)
not_in_the_same_round r = differ (codes "0\n7\n10\n1\n8\n11\n2\n12\n") (codes "0\n10\n7\n1\n11\n8\n2\n12\n") refl (sym a_spawned_thread_runs_in_the_next_round.output ∙ r.output)

-- a signal to nobody is not remembered, so that one waiter is left
pub not_remembered : ¬ RunsTo three_waiters no_polls 100 (codes "1\n2\n3\n") (Ended 0)
not_remembered r = differ (sym a_signal_wakes_the_longest_waiter.outcome ∙ r.outcome)
  where
    differ : ¬ ((Ended 1) ≡ (Ended 0))
    differ e = absurd (cc)

-- a section does not see what is written while it is out
pub not_the_later_cells : ¬ RunsTo two_sums (polls (codes "poll 0\npoll 1 d1\npoll 2 d0\n")) 100 (codes "99\n5050\n50\n5000\n550\n50\n500\n") (Ended 0)
not_the_later_cells r = differ (codes "99\n202\n2\n200\n22\n2\n20\n") (codes "99\n5050\n50\n5000\n550\n50\n500\n") refl (sym a_section_works_on_its_copy.output ∙ r.output)

-- a clock that goes back does not put a timer behind one of a later deadline
pub not_delayed : ¬ RunsTo sleepers (polls (codes "poll 0\npoll 3\npoll 2\npoll 9\n")) 100 (codes "4\n1\n2\n3\n") (Ended 0)
not_delayed r = differ (codes "4\n2\n3\n1\n") (codes "4\n1\n2\n3\n") refl (sym sleepers_wake_by_deadline.output ∙ r.output)

-- the place is not evaluated before the right side
pub not_the_place_first : ¬ RunsTo right_before_place no_polls 30 (codes "") (Failed F.Null (codes "main"))
not_the_place_first r = differ (sym the_right_side_comes_first.outcome ∙ r.outcome)
  where
    differ : ¬ ((Failed F.Divide (codes "main")) ≡ (Failed F.Null (codes "main")))
    differ e = absurd (cc)

-- an addition of ints does not wrap
pub not_wrapped : ¬ RunsTo int_overflow no_polls 20 (codes "") (Ended 0)
not_wrapped r = differ (sym a_signed_sum_does_not_wrap.outcome ∙ r.outcome)
  where
    differ : ¬ ((Failed F.Overflow (codes "main")) ≡ (Ended 0))
    differ e = absurd (cc)

-- the end is a step of its own
pub not_done_a_step_before : ¬ RunsTo counting_steps no_polls 8 (codes "5\n") (Ended 0)
not_done_a_step_before r = differ (sym the_eighth_step_is_not_the_last.outcome ∙ r.outcome)
  where
    differ : ¬ (Going ≡ (Ended 0))
    differ e = absurd (cc)

-- two calls of a function do not share its variables
pub not_one_array_for_all : ¬ RunsTo two_arrays no_polls 150 (codes "456\n456\n") (Ended 0)
not_one_array_for_all r = differ (codes "123\n456\n") (codes "456\n456\n") refl (sym each_call_has_its_own_array.output ∙ r.output)

-- the place of a call is not found before the call
pub not_found_at_the_call : ¬ RunsTo moving_target no_polls 60 (codes "9\n0\n") (Ended 0)
not_found_at_the_call r = differ (codes "0\n9\n") (codes "9\n0\n") refl (sym the_place_is_found_when_the_value_arrives.output ∙ r.output)
