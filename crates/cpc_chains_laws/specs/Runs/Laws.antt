-- What joins the conversion, as statements.
use Rattle.std.specs.Prelude.{◌≡◌, true, []}
use Rattle.cpc_tree.specs.Syntax.{Function, Program}
use Rattle.cpc_convert_routines.specs.Kept.{routines}
use Rattle.cpc_chains_event.specs.Converted.{converted}
use Rattle.cpc_convert_routines.specs.Named.{IsCps}
use Rattle.cpc_lifted_laws.specs.Accepted.Accepted.{OfAccepted}
use Rattle.cpc_meaning.specs.Runs.{SameRuns, Within}
use Rattle.cpc_check_laws.specs.Run.Plain.{is_plain}
use Rattle.cpc_lifted_laws.specs.Piece.Known.{CpsKnown}
use Rattle.cpc_chains_laws.specs.Piece.Known.{ProgramKnown}

-- what pieces ask of a cps function is had of each one of an accepted program
abbrev pub AcceptedCpsIsKnown : Type 0
AcceptedCpsIsKnown = OfAccepted (λ p. (f : Function) → IsCps p f → CpsKnown p f)

-- and what they ask of the whole program
abbrev pub AcceptedIsKnown : Type 0
AcceptedIsKnown = OfAccepted ProgramKnown

-- a program that is its own event program, and runs alike in both machines
pub record IsNative (p : Program) : Type 0 where
  pub plain : is_plain p ≡ true
  pub same : converted p ≡ p

-- so it is where an accepted program has no cps function
abbrev pub AcceptedIsNative : Type 0
AcceptedIsNative = OfAccepted (λ p. routines p ≡ [] → IsNative p)

-- the threaded runs of an accepted program and the runs of its event program show the same, whatever the history, and each state within the cost
abbrev pub ConvertedHasSameRuns : Type 0
ConvertedHasSameRuns = OfAccepted (λ p. SameRuns p (converted p) × Within p (converted p))
