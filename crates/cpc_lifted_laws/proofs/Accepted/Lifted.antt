-- The lifted machine of every program matches its threads.
use Rattle.std.proofs.Common.{[]}
use Rattle.cpc_meaning.specs.Start.{main_name}
use Rattle.cpc_meaning.specs.Threads.{Pending, threads_of}
use Rattle.cpc_meaning.specs.Trees.{trees}
use Rattle.cpc_meaning.proofs.Connect.{machine_ends}
use Rattle.cpc_meaning_matching.proofs.Systems.{follows_compose}
use Rattle.cpc_forms.specs.Split.{Position, split_form}
use Rattle.cpc_graph_laws.proofs.Positions.{positions_follow}
use Rattle.cpc_lift_laws.specs.Boxes.{is_box}
use Rattle.cpc_lift_laws.proofs.Boxes.{programs_have_marks}
use Rattle.cpc_lift_laws.proofs.Lift.{lift_is_closed}
use Rattle.cpc_lift_laws.proofs.Lifting as L
use Rattle.cpc_lift_laws.proofs.Standing.{lifted_stands, lifted_is_same}
use Rattle.cpc_convert_routines.specs.ClosureLaws.{lifting}
use Rattle.cpc_lifted_laws.specs.Accepted.Lifted.{kept_of, ProgramsAreClosed, ThreadsFollow, LiftedRunsAreKnown}
use Rattle.cpc_lifted_laws.proofs.Accepted.Cut.{programs_are_split}

pub programs_are_closed : ProgramsAreClosed
programs_are_closed p = lift_is_closed Position (split_form p) (lifting p) (programs_are_split p)

pub threads_follow : ThreadsFollow
threads_follow p =
    let lift = L.lifting_follows Position (split_form p) (is_box p) (lifting p).there (kept_of p) (programs_have_marks p) (programs_are_closed p) in
    record { text = follows_compose (λ h. machine_ends (threads_of (trees p)) (Pending main_name []) h) (positions_follow p).1 lift; graphs = lift }

pub lifted_runs_are_known : LiftedRunsAreKnown
lifted_runs_are_known p h = record {
  ends = L.lifted_ends Position (split_form p) (kept_of p) h;
  stands = lifted_stands Position (split_form p) (is_box p) (lifting p).there (kept_of p) (programs_have_marks p) (programs_are_closed p) h;
  tidy = L.lifted_is_tidy Position (split_form p) (kept_of p) h;
  same = lifted_is_same Position (split_form p) (is_box p) (lifting p).there (kept_of p) (programs_have_marks p) (programs_are_closed p) h;
}
