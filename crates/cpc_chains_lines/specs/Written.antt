-- Statements that are written one after the other, the next one perhaps behind a label.
use Rattle.std.specs.Prelude.{List, [], ◌∷◌, ◌++◌, map, Option, Some, None, option_map}
use Rattle.cpc_base.specs.Bytes.{Text}
use Rattle.cpc_tree.specs.Erase.{Names, stmt_of}
use Rattle.cpc_tree.specs.Syntax.{Stmt, Label}
use Rattle.cpc_tree.specs.declared.program.Word.{Word}
use Rattle.cpc_chains_lines.specs.declared.out.Out.{Out}

-- what is written, and the label of what comes next
pub record Written : Type 0 where
  pub done : List Stmt
  pub label : Option Text

-- by the texts of its names
abbrev pub written : Names → Out → Written
written names o = record { done = map (stmt_of names) o.statements.items; label = option_map (λ (w : Word). names w.name) o.label }

-- a statement, behind a label where there is one
abbrev pub labelled : Option Text → Stmt → Stmt
labelled None s = s
labelled (Some l) s = Label l s

-- one more statement
abbrev pub put : Written → Stmt → Written
put w s = record { done = w.done ++ labelled w.label s ∷ []; label = None }

-- more statements
abbrev pub puts : Written → List Stmt → Written
puts w [] = w
puts w (s ∷ ss) = puts (put w s) ss
