use Rattle.std.proofs.Common.{◌+◌, ◌++◌, ◌∙◌, map, decimal, ap, arith}
use Rattle.cpc_tree.specs.Erase.{text_of}
use Rattle.cpc_convert_common.specs.Converted.{marked}
use Rattle.cpc_convert_names.proofs.Growing.{grown_none, grown_more, spells_before}
use Rattle.cpc_convert_names.specs.Counted.{counted}
use Rattle.cpc_convert_names.proofs.Rows.{row_more}
use Rattle.cpc_convert_names.proofs.called.numbered_names.Goals as goal

pub loop-number-init : goal.loop-number-init
loop-number-init c = record { grown = grown_none _; are = λ source to g s e. ap (map (text_of to)) c.new-all.ensures.items }

pub loop-number-preserved : goal.loop-number-preserved
loop-number-preserved c = record {
  grown = grown_more _ _ _ c.loop-number.invariant.grown c.in_ok-name.ensures.grown;
  are = λ source to g s e. row_more to (λ k. marked (to c.args.of) (c.args.word.now ++ decimal k)) c.loop-number.all.items c.push.new.self.items c.loop-number.number (c.loop-number.number + 1) c.in_ok-name.name c.in_ok-push.ensures.items
      (c.loop-number.invariant.are source to g (spells_before _ _ to c.in_ok-name.ensures.grown s) e) (c.in_ok-name.ensures.is source to (grown_more _ _ _ g c.loop-number.invariant.grown) s e) (omega arith);
}

pub returns-clause-grown : goal.returns-clause-grown
returns-clause-grown c = c.loop-number.invariant.grown

pub returns-clause-are : goal.returns-clause-are
returns-clause-are c = λ source to g s e. c.loop-number.invariant.are source to g s e ∙ ap (counted (λ k. marked (to c.args.of) (c.args.word.now ++ decimal k)) 0) (omega (arith, c.loop-number.auto.number-end, c.loop-number-test.false))
