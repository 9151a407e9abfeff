use Rattle.std.proofs.Common.{◌≡◌, ℕ, ◌+◌, ◌^◌, ◌-◌, ◌∙◌, min, sym, ap, arith}
use Rattle.std.proofs.Math.Logic.{∥∥₁_elim}
use Rattle.std.proofs.Math.Nat.{ℕ_set}
use Rattle.cpc_tree.specs.Erase.{function_of}
use Rattle.cpc_tree.specs.Syntax as X
use Rattle.cpc_meaning_laws.specs.Cell.Cells.{call_cells}
use Rattle.cpc_eval_index.specs.Indexed.{items_of}
use Rattle.cpc_eval_locals.specs.Owners.{owner_of}
use Rattle.cpc_eval.proofs.Own.{same_function, never_absent}
use Rattle.cpc_native.proofs.machine.Machine.cells_with.Goals as goal

with_call : (live cells call before r : ℕ) → live ≡ min before (2 ^ 64 - 1) → cells ≡ min call (2 ^ 64 - 1) → r ≡ min (live + cells) (2 ^ 64 - 1) → r ≡ min (before + call) (2 ^ 64 - 1)
with_call live cells call before r a b e = omega arith

pub returns-in-Some-clause-some : goal.returns-in-Some-clause-some
returns-in-Some-clause-some c = λ names apart g named. ∥∥₁_elim c.in-Some.ensures (ℕ_set _ _) (λ found.
    let p = items_of names c.args.self.now.index in
    let same : function_of names (owner_of c.in-Some.locals) ≡ g = same_function _ g (function_of names (owner_of c.in-Some.locals)) (found names apart) named in
    with_call c.live_cells-live.result c.call_cells.result (call_cells p g) _ c.saturating_add.result (c.live_cells-live.ensures names)
    (c.call_cells.ensures names apart ∙ ap (λ (f : X.Function). min (call_cells p f) (2 ^ 64 - 1)) same) c.saturating_add.ensures)

pub returns-in-None-clause-some : goal.returns-in-None-clause-some
returns-in-None-clause-some c = λ names apart g named. ∥∥₁_elim c.in-None.ensures (ℕ_set _ _) (λ found. absurd (never_absent _ g (found names apart) named))

pub returns-in-Some-clause-none : goal.returns-in-Some-clause-none
returns-in-Some-clause-none c = λ names apart none. ∥∥₁_elim c.in-Some.ensures (ℕ_set _ _) (λ found. absurd (never_absent _ (function_of names (owner_of c.in-Some.locals)) (sym none) (sym (found names apart))))

pub returns-in-None-clause-none : goal.returns-in-None-clause-none
returns-in-None-clause-none c = λ names apart none. c.live_cells-live.ensures names
