use Rattle.std.proofs.Common.{◌+◌, ◌∙◌, ap, arith}
use Rattle.cpc_base.specs.Texts.{with_text}
use Rattle.cpc_convert_names.proofs.Copied.{copied}
use Rattle.cpc_convert_names.proofs.table.table_of.Goals as goal

pub loop-number-preserved : goal.loop-number-preserved
loop-number-preserved c =
    copied c.args.source.now c.intern.new.self c.loop-number.number c.in_ok-intern-in-Some.field-0.0 (c.loop-number.number + 1) c.in-Some.text.now c.text.ensures.distinct c.in-Some.ensures.text c.in_ok-intern-in-Some.ensures.there
    (c.in_ok-intern-in-Some.ensures.table ∙ ap (λ l. with_text l c.in-Some.text.now) c.loop-number.invariant) (omega arith)
