use Rattle.cpc_forms.specs.Spread.{IsSpread, left_to_do}
use Rattle.cpc_split.specs.Steps.{flow_by}
use Rattle.cpc_split.specs.Seen.{spread_of}
use Rattle.cpc_split.proofs.owning.owners.Given as goal

-- what is known are owners
abbrev pub invariant-loop-marks : goal.invariant-loop-marks
invariant-loop-marks l = IsSpread (flow_by l.entry l.steps) (spread_of l.marks)

-- how much is left to do
abbrev pub decreases-loop-marks : goal.decreases-loop-marks
decreases-loop-marks l = left_to_do (spread_of l.marks)
