use Rattle.std.proofs.Common.{◌∙◌, min, ap}
use Rattle.std.proofs.Math.Logic.{∥∥₁_elim}
use Rattle.std.proofs.Math.Nat.{ℕ_set}
use Rattle.cpc_tree.specs.Erase.{function_of}
use Rattle.cpc_meaning_laws.specs.Cell.Cells.{call_cells}
use Rattle.cpc_eval_index.specs.Indexed.{items_of}
use Rattle.cpc_eval_locals.specs.Owners.{owner_of}
use Rattle.cpc_eval.proofs.Own.{same_function, no_own}
use Rattle.cpc_native.specs.Next.{greatest}
use Rattle.cpc_native.proofs.next.called_cells.Goals as goal

pub returns : goal.returns
returns c = λ names apart. ∥∥₁_elim c.in-Some.ensures (ℕ_set _ _) (λ found.
    let p = items_of names c.args.index.now in
    let same = same_function _ (function_of names c.args.function.now) (function_of names (owner_of c.in-Some.locals)) (found names apart) (c.requires names apart) in
    c.call_cells.ensures names apart ∙ ap (λ f. min (call_cells p f) greatest) same)

pub unreachable-requires : goal.unreachable-requires
unreachable-requires c = no_own c.args.index.now c.args.function.now c.in-None.ensures c.requires
