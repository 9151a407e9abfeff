use Rattle.std.specs.List.{All}
use Rattle.cpc_tree.specs.Erase.{Names, exprs_of}
use Rattle.cpc_store.specs.Seen.{seen, IsLawful}
use Rattle.cpc_eval_index.specs.Indexed.{items_of}
use Rattle.cpc_eval.specs.Around.{context_of, IsToldIn}
use Rattle.cpc_eval.specs.Numbers.{AllNumbers}
use Rattle.cpc_native_plans.proofs.Evaluated.{SoFar}
use Rattle.cpc_native_plans.proofs.rows.values.Given as goal

-- the arguments that are left decide
abbrev pub invariant-loop-argument : goal.invariant-loop-argument
invariant-loop-argument l = record {
  lawful : All (λ v. IsLawful (seen v)) l.row.items;
  rest : (names : Names) → IsToldIn names l.around → AllNumbers (items_of names l.around.index.now) (exprs_of names l.arguments)
      → SoFar names (context_of names l.around) l.arguments l.argument-index l.row.items;
}
