-- All that the join of the conversion asks of a program is had of each accepted one.
use Rattle.std.proofs.Common.{ℕ}
use Rattle.cpc_tree.specs.Located.{bare}
use Rattle.cpc_tree.specs.Syntax.{Function, FunctionItem, Program}
use Rattle.cpc_meaning.specs.History.{History}
use Rattle.cpc_meaning.specs.Matching.{RunsNeverStuck}
use Rattle.cpc_check_laws.proofs.Sound.Accepted.{accepted_threads_never_stuck}
use Rattle.cpc_check_laws.specs.Kept.Layers.{KeepsModes}
use Rattle.cpc_check_laws.proofs.Kept.Modes.{accepted_keeps_modes}
use Rattle.cpc_forms.specs.Split.{split_form}
use Rattle.cpc_convert_common.specs.Members.{Has}
use Rattle.cpc_convert_routines.specs.Named.{IsCps}
use Rattle.cpc_lifted_laws.specs.Known.Jobs.{SectionsTake}
use Rattle.cpc_lifted_laws.specs.Accepted.Accepted.{OfAccepted}
use Rattle.cpc_lifted_laws.specs.Accepted.Known.{Stays, FineState}
use Rattle.cpc_lifted_laws.specs.Accepted.Lifted.{lifted_after}
use Rattle.cpc_lifted_laws.specs.Accepted.Pieces.{SuitsPieces}
use Rattle.cpc_lifted_laws.proofs.Accepted.Known.{accepted_is_fine}
use Rattle.cpc_lifted_laws.proofs.Accepted.Pieces.{accepted_suits_pieces}
use Rattle.cpc_lifted_laws.proofs.Accepted.Steady.{splits_are_steady}
use Rattle.cpc_lifted_laws.specs.Native.Convertible.{Convertible}
use Rattle.cpc_lifted_laws.specs.Native.Instance.{NamesDetached}
use Rattle.cpc_lifted_laws.proofs.Native.Convertible.{accepted_is_convertible}
use Rattle.cpc_lifted_laws.specs.Piece.Known.{CpsKnown}
use Rattle.cpc_chains_laws.specs.Piece.Known.{ProgramKnown}
use Rattle.cpc_lifted_laws.specs.Arrival.Taken.{RunsWell}
use Rattle.cpc_lifted_laws.proofs.Arrival.Accepted.{accepted_runs_well}
use Rattle.cpc_chains_laws.proofs.Runs.Accepted.{cps_is_known, program_is_known}
use Rattle.cpc_lifted_laws.proofs.Runs.Sections.{sections_take}

-- all that is had of an accepted program
pub record Had (p : Program) : Type 0 where
  pub convertible : Convertible p
  pub known : ProgramKnown p
  pub cps : (f : Function) → IsCps p f → CpsKnown p f
  pub suits : (f : Function) → Has (FunctionItem f) p → SuitsPieces p f
  pub sections : SectionsTake (split_form p) (NamesDetached p)
  pub modes : KeepsModes (split_form p)
  pub fine : (h : History) (n : ℕ) → FineState p (Stays p) (lifted_after p h n)
  pub well : (h : History) (n : ℕ) → RunsWell p (lifted_after p h n)
  pub live : RunsNeverStuck p

pub accepted_had : OfAccepted Had
accepted_had list end p read unbroken = record {
  convertible = accepted_is_convertible list end p read unbroken;
  known = program_is_known list end p read unbroken;
  cps = cps_is_known list end p read unbroken;
  suits = accepted_suits_pieces list end p read unbroken;
  sections = sections_take list end p read unbroken;
  modes = (splits_are_steady (bare p)).modes (accepted_keeps_modes list end p read unbroken).1;
  fine = accepted_is_fine list end p read unbroken;
  well = accepted_runs_well list end p read unbroken;
  live = accepted_threads_never_stuck list end p read unbroken;
}
