-- What a program breaks, in each dialect, and the first of it.
use Rattle.std.specs.Prelude.{ℕ, suc, ◌+◌, ◌*◌, Bool, true, false, ◌&&◌, not, if◌then◌else◌, List, [], ◌∷◌, ◌++◌, length, bytes_eq, codes, nat_lt}
use Rattle.cpc_base.specs.declared.stop.Dialect.{Dialect}
use Rattle.cpc_base.specs.declared.stop.Dialect.TheVariants as D
use Rattle.cpc_tree.specs.KindVariants.{Int}
use Rattle.cpc_tree.specs.declared.program.Mode.{Mode}
use Rattle.cpc_tree.specs.declared.program.Mode.TheVariants.{Native, Cps}
use Rattle.cpc_tree.specs.Syntax.{Ty, TyInt}
use Rattle.cpc_tree.specs.Located.{LFunction, LItem, LFunctionItem, LProgram, bare}
use Rattle.cpc_tree.specs.Lists.{is_empty}
use Rattle.cpc_check_rules.specs.declared.rule.Rule.TheVariants.{NoMain, TooBroad}
use Rattle.cpc_check_rules.specs.Rule.{Broken, at_if}
use Rattle.cpc_check_rules.specs.Operators.{is_cps}
use Rattle.cpc_check_rules.specs.FunctionRules.{statements, variables}
use Rattle.cpc_check_rules.specs.ItemRules.{items_breaks}

abbrev runs_alone : Mode → Bool
runs_alone Native = true
runs_alone Cps = true
runs_alone mode = false

abbrev is_int : Ty → Bool
is_int (TyInt Int) = true
is_int t = false

-- a native or cps function `main` with result `int` and no parameters
abbrev pub is_main : LFunction → Bool
is_main f = bytes_eq f.called.text (codes "main") && (runs_alone f.mode && (is_int f.result && is_empty f.parameters))

abbrev pub has_main : List LItem → Bool
has_main [] = false
has_main (LFunctionItem f ∷ xs) = if is_main f then true else has_main xs
has_main (x ∷ xs) = has_main xs

-- the breadth of cps functions: the number of statements times one more than the number of variables
abbrev pub breadth : LFunction → ℕ
breadth f = statements f.body * suc (length (variables f.parameters f.body))

abbrev pub breadth_limit : ℕ
breadth_limit = 500000

-- the first cps function at which the breadth of all so far exceeds the limit
abbrev pub broad_breaks : ℕ → List LItem → Broken
broad_breaks n [] = []
broad_breaks n (LFunctionItem f ∷ xs) =
    if is_cps f.mode then (if nat_lt breadth_limit (n + breadth f) then (f.called.place, TooBroad) ∷ [] else broad_breaks (n + breadth f) xs) else broad_breaks n xs
broad_breaks n (x ∷ xs) = broad_breaks n xs

abbrev pub breadth_breaks : Dialect → List LItem → Broken
breadth_breaks D.Cpc xs = broad_breaks 0 xs
breadth_breaks D.Event xs = []

-- the broken rules of a program
abbrev pub breaks : Dialect → LProgram → Broken
breaks dialect p = items_breaks dialect (bare p) [] p.items ++ (at_if (not (has_main p.items)) p.end NoMain ++ breadth_breaks dialect p.items)
