use Rattle.cpc_meaning_matching.proofs.Refusals.{bounds_count, rows_are_not_empty, rows_are_not_stuck, rows_show_nothing_else}
use Rattle.cpc_meaning_matching.proofs.matching_refuses.Goals as goal

pub returns-clause-cost : goal.returns-clause-cost
returns-clause-cost c = bounds_count

pub returns-clause-empty : goal.returns-clause-empty
returns-clause-empty c = rows_are_not_empty

pub returns-clause-stuck : goal.returns-clause-stuck
returns-clause-stuck c = rows_are_not_stuck

pub returns-clause-shown : goal.returns-clause-shown
returns-clause-shown c = rows_show_nothing_else
