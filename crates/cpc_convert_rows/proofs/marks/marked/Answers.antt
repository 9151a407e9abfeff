use Rattle.std.proofs.Common.{◌∙◌, take, subst, sym, arith}
use Rattle.std.proofs.lemmas.List.{take_more, take_all}
use Rattle.cpc_convert_rows.specs.Marks.{AreMarked}
use Rattle.cpc_convert_rows.proofs.marks.marked.Goals as goal

pub loop-number-preserved : goal.loop-number-preserved
loop-number-preserved c = record {
  long = c.mark.ensures.long ∙ c.loop-number.invariant.long;
  marks = subst (AreMarked c.mark.new.marks.items) (sym (take_more c.args.numbers.now c.loop-number.number-index 0 (omega arith))) (c.mark.ensures.marks (take c.loop-number.number-index c.args.numbers.now) c.loop-number.invariant.marks);
}

pub returns-clause-marks : goal.returns-clause-marks
returns-clause-marks c = subst (AreMarked c.loop-number.marks.items) (take_all c.loop-number.number-index c.args.numbers.now (omega arith)) c.loop-number.invariant.marks
