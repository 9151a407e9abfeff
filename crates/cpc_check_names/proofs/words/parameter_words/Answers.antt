use Rattle.std.proofs.Common.{arith, map, sym, ◌∙◌}
use Rattle.cpc_tree.specs.Locate.{ident}
use Rattle.cpc_check_names.proofs.Parameters.{named_more, named_end}
use Rattle.cpc_check_names.proofs.words.parameter_words.Goals as goal

pub loop-parameter-preserved : goal.loop-parameter-preserved
loop-parameter-preserved c = λ names.
    named_more names (map (ident names) c.loop-parameter.words.items) _ c.args.parameters.now c.loop-parameter.parameter-index c.parameter-item.result (omega arith) c.parameter-item.is (c.in_ok-add_named.ensures names)
    ∙ c.loop-parameter.invariant names

pub returns : goal.returns
returns c = λ names.
    sym (named_end names (map (ident names) c.loop-parameter.words.items) c.args.parameters.now c.loop-parameter.parameter-index (omega arith)) ∙ c.loop-parameter.invariant names
