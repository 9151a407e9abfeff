-- What a name stands for at a path of a function, by the marks of its body.
use Rattle.std.proofs.Common.{◌≡◌, ℕ, ◌^◌, ◌<◌, List, length, Option, map, ap, ◌∙◌, arith}
use Rattle.cpc_base.specs.Bytes.{Text}
use Rattle.cpc_tree.specs.declared.program.Function as GFunction
use Rattle.cpc_tree.specs.Erase.{Names, stmt_of, parameter_of, function_of}
use Rattle.cpc_tree.specs.Syntax.{Ty}
use Rattle.cpc_tree.specs.Points.{Path}
use Rattle.cpc_tree.specs.Registers.{scope_in_function}
use Rattle.cpc_eval_values.specs.Counted.{capped}
use Rattle.cpc_eval_locals.specs.Held.{Held, local_in, capped_held, held_among}
use Rattle.cpc_eval_locals.specs.Marks.{Mark, own_of, marks, own_after, look}
use Rattle.cpc_eval_locals.proofs.Paths.{looked}
use Rattle.cpc_eval_locals.proofs.Scoping.{function_is}

pub at_is : (names : Names) (f : GFunction.Function) (x : Text) (p : Path) (n : ℕ) (outer held result : Held) (own : Option (Text × Ty)) (ms : List Mark)
    → n ≡ length f.parameters.items → n < 2 ^ 64 → outer ≡ held_among x 0 (map (parameter_of names) f.parameters.items) → own ≡ own_of (stmt_of names f.body) → held ≡ own_after x n outer own
    → ms ≡ marks 0 (stmt_of names f.body) → result ≡ look x n held 0 p ms → result ≡ capped_held (local_in (scope_in_function (function_of names f) p) x)
at_is names f x p n outer held result own ms count fits among is after marked found =
    let small : n ≡ capped n = omega (arith, fits) in
    found
    ∙ ap (look x n held 0 p) marked
    ∙ ap (λ h. look x n h 0 p (marks 0 (stmt_of names f.body))) (after ∙ ap (own_after x n outer) is)
    ∙ looked x n outer (stmt_of names f.body) p small
    ∙ function_is names f x p n outer count fits among
