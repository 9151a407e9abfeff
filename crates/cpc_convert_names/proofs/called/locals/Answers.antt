use Rattle.std.proofs.Common.{◌+◌, ◌∙◌, map, sym, ap, arith}
use Rattle.std.proofs.lemmas.List.{take_all}
use Rattle.cpc_tree.specs.Erase.{in_table, text_of}
use Rattle.cpc_convert_routines.specs.Names.{variable_name}
use Rattle.cpc_convert_names.proofs.Growing.{grown_none, grown_more, spells_before}
use Rattle.cpc_convert_names.specs.Counted.{called_of, locals_from}
use Rattle.cpc_convert_names.proofs.Rows.{row_of_locals, agree_at}
use Rattle.cpc_convert_names.proofs.called.locals.Goals as goal

pub loop-number-init : goal.loop-number-init
loop-number-init c = record { grown = grown_none _; are = λ source to g s e. ap (map (text_of to)) c.new-all.ensures.items }

pub loop-number-preserved : goal.loop-number-preserved
loop-number-preserved c = record {
  grown = grown_more _ _ _ c.loop-number.invariant.grown c.in_ok-name.ensures.grown;
  are = λ source to g s e.
      let v = c.index-variables-number.result in
      let is = c.index-variables-number.is in
      let same = agree_at (called_of (in_table source)) (called_of to) c.args.variables.now c.loop-number.number v e c.loop-number-test.true is in
      let there = sym (ap (called_of (in_table source)) is) ∙ (same ∙ ap (called_of to) is) in
      row_of_locals to c.args.variables.now c.loop-number.all.items c.push.new.self.items c.loop-number.number (c.loop-number.number + 1) c.in_ok-name.name v c.in_ok-push.ensures.items
      (c.loop-number.invariant.are source to g (spells_before _ _ to c.in_ok-name.ensures.grown s) e) c.loop-number-test.true is
      (c.in_ok-name.ensures.is source to (grown_more _ _ _ g c.loop-number.invariant.grown) s there ∙ ap (λ u. variable_name c.loop-number.number (called_of to u)) (sym is)) (omega arith);
}

pub returns-clause-grown : goal.returns-clause-grown
returns-clause-grown c = c.loop-number.invariant.grown

pub returns-clause-are : goal.returns-clause-are
returns-clause-are c = λ source to g s e. c.loop-number.invariant.are source to g s e ∙ ap (locals_from to 0) (take_all _ c.args.variables.now c.loop-number-test.false)
