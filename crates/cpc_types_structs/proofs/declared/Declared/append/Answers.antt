use Rattle.cpc_shapes.specs.Counted.{name_of}
use Rattle.cpc_types_structs.specs.Placed.{definition_of}
use Rattle.cpc_types_structs.proofs.First.{first_more}
use Rattle.cpc_types_structs.proofs.declared.Declared.append.Goals as goal

pub returns-clause-declares : goal.returns-clause-declares
returns-clause-declares c = λ xs at d. record {
  structs = c.in_ok-append.ensures.structs xs d.structs;
  named = λ x. first_more name_of xs c.args.item.now x c.args.place _ _ _ at c.name_of.ensures (d.named x) (c.in_ok-keep_first.ensures x);
  defined = λ x. first_more definition_of xs c.args.item.now x c.args.place _ _ _ at c.definition_of.ensures (d.defined x) (c.in_ok-keep_first-2.ensures x);
}
