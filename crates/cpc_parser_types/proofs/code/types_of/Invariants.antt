use Rattle.std.proofs.Common.{◌≡◌, ◌++◌, map}
use Rattle.cpc_tree.specs.declared.program.Parameter.{Parameter}
use Rattle.cpc_parser_types.proofs.code.types_of.Given as goal

abbrev pub invariant-types : goal.invariant-types
invariant-types l = l.all.items ++ map (λ (p : Parameter). p.of) l.parameter-iterator.rest.items ≡ map (λ (p : Parameter). p.of) l.fn.list.items
