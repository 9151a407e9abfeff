-- The laws of the beginning of pieces, as statements.
use Rattle.std.specs.Prelude.{◌≡◌, ℕ, true}
use Rattle.cpc_tree.specs.Syntax.{Function, Program}
use Rattle.cpc_forms.specs.Flow.{At}
use Rattle.cpc_convert_routines.specs.Routines.{routine_of}
use Rattle.cpc_convert_routines.specs.Nodes.{is_own, has_row}

-- a node that owns itself has a row: it is not the arrival of a call that stands with the call
abbrev pub LeadersHaveRows : Type 0
LeadersHaveRows = (p : Program) (f : Function) (n : ℕ) → is_own (routine_of p f).split (At n) n ≡ true → has_row (routine_of p f).split n ≡ true
