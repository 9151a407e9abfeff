-- Which calls of an object in memory are to fail.
use Rattle.std.specs.Prelude.{ℕ, List, Contains}
use Rattle.cpc_base.specs.Outside.{one_more}

-- the calls made so far, and the numbers of those that are to fail, counted from 1
pub record Plan : Type 0 where
  pub failing : List ℕ
  pub made : ℕ

-- the plan after one more call
abbrev pub after_call : Plan → Plan
after_call plan = record plan { made = one_more plan.made }

-- the next call is to fail
abbrev pub FailsNext : Plan → Type 0
FailsNext plan = Contains plan.failing (one_more plan.made)
