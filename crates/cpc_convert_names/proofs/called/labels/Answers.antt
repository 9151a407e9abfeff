use Rattle.std.proofs.Common.{◌+◌, ◌∙◌, map, ap, arith}
use Rattle.cpc_tree.specs.Erase.{text_of}
use Rattle.cpc_convert_routines.specs.Names.{node_label}
use Rattle.cpc_convert_names.proofs.Growing.{grown_none, grown_more, spells_before}
use Rattle.cpc_convert_names.specs.Counted.{counted}
use Rattle.cpc_convert_names.proofs.Rows.{row_more}
use Rattle.cpc_convert_names.proofs.called.labels.Goals as goal

pub loop-number-init : goal.loop-number-init
loop-number-init c = record { grown = grown_none _; are = λ to s. ap (map (text_of to)) c.new-all.ensures.items }

pub loop-number-preserved : goal.loop-number-preserved
loop-number-preserved c = record {
  grown = grown_more _ _ _ c.loop-number.invariant.grown c.in_ok-name.ensures.grown;
  are = λ to s. row_more to node_label c.loop-number.all.items c.push.new.self.items c.loop-number.number (c.loop-number.number + 1) c.in_ok-name.name c.in_ok-push.ensures.items
      (c.loop-number.invariant.are to (spells_before _ _ to c.in_ok-name.ensures.grown s)) (c.in_ok-name.ensures.is to s) (omega arith);
}

pub returns-clause-grown : goal.returns-clause-grown
returns-clause-grown c = c.loop-number.invariant.grown

pub returns-clause-are : goal.returns-clause-are
returns-clause-are c = λ to s. c.loop-number.invariant.are to s ∙ ap (counted node_label 0) (omega (arith, c.loop-number.auto.number-end, c.loop-number-test.false))
