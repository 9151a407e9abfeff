use Rattle.std.proofs.Common.{◌++◌, ◌∙◌, ap}
use Rattle.cpc_tree.specs.Erase.{stmt_of}
use Rattle.cpc_eval_locals.specs.Marks.{marks}
use Rattle.cpc_eval_locals.specs.Seen.{marks_seen}
use Rattle.cpc_eval_locals.proofs.locals.marks_of.Goals as goal

pub returns : goal.returns
returns c = λ names. c.in_ok-mark_parts.ensures names ∙ ap (λ ms. marks_seen names ms ++ marks 0 (stmt_of names c.args.body.now)) c.new-marks.ensures.items
