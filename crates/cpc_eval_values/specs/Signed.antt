-- The operators on one promoted integer.
use Rattle.std.specs.Prelude.{ℤ, pos, ◌-ℤ◌}
use Rattle.cpc_num.specs.declared.kinds.Kind.{Kind}
use Rattle.cpc_num.specs.Number.{convert, negate}
use Rattle.cpc_tree.specs.declared.program.UnaryOp.{UnaryOp}
use Rattle.cpc_tree.specs.declared.program.UnaryOp.TheVariants.{Minus, Plus, Complement}
use Rattle.cpc_store.specs.Store.{Value, Whole}
use Rattle.cpc_meaning.specs.Answer.{Answer, Gives, NoAnswer}
use Rattle.cpc_meaning.specs.Eval.{number}

-- `-`, `+` and `~` on a number of a kind
abbrev pub signed : UnaryOp → Kind → ℤ → Answer Value
signed Minus kind z = number kind (negate kind z)
signed Plus kind z = Gives (Whole kind z)
signed Complement kind z = Gives (Whole kind (convert kind (pos 0 -ℤ pos 1 -ℤ z)))
signed _ kind z = NoAnswer
