-- The blocks round a place, by what was entered and declared.
use Rattle.std.specs.Prelude.{List, [], ◌∷◌, Option, Some, None, reverse}
use Rattle.cpc_tree.specs.Erase.{Names, type_of}
use Rattle.cpc_base.specs.Bytes.{Text}
use Rattle.cpc_tree.specs.Syntax.{Ty, Variable, Program}
use Rattle.cpc_tree.specs.Typing.{Meant, ALocal}
use Rattle.cpc_tree.specs.declared.program.Parameter.{Parameter}
use Rattle.cpc_tree.specs.declared.program.Word.{Word}
use Rattle.cpc_check_rules.specs.Scopes.{Block, Scope, meant, with_name, with_block}
use Rattle.cpc_types.specs.declared.blocks.Local.{Local}
use Rattle.cpc_types.specs.declared.blocks.Entry.{Entry}
use Rattle.cpc_types.specs.declared.blocks.Entry.TheVariants as E
use Rattle.cpc_types.specs.declared.blocks.Blocks.{Blocks}

-- a name of a block
abbrev pub local_of : Names → Local → Variable
local_of names l = record { called = names l.name; type = type_of names l.of }

-- the scope that entries make of these items, the last entry first
abbrev pub entered : Names → Program → List Entry → Scope
entered names items [] = record { items = items; blocks = [] }
entered names items (E.Begin ∷ es) = with_block (entered names items es)
entered names items (E.Named l ∷ es) = with_name (entered names items es) (local_of names l)

-- the scope inside these blocks, where these items are in scope
abbrev pub inside : Names → Program → Blocks → Scope
inside names items b = entered names items (reverse b.entries.items)

-- all blocks but the innermost
abbrev pub rest_of : List Block → List Block
rest_of [] = []
rest_of (b ∷ bs) = bs

-- without the innermost block
abbrev pub without_block : Scope → Scope
without_block s = record { items = s.items; blocks = rest_of s.blocks }

-- a name that may be absent, in the innermost block
abbrev with_word : Names → Scope → Option Word → Ty → Scope
with_word names s None t = s
with_word names s (Some w) t = with_name s (record { called = names w.name; type = t })

-- a parameter in the innermost block, where it has a name
abbrev pub with_parameter : Names → Scope → Parameter → Scope
with_parameter names s p = with_word names s p.word (type_of names p.of)

-- the same of all these, in order
abbrev pub with_parameters : Names → Scope → List Parameter → Scope
with_parameters names s [] = s
with_parameters names s (p ∷ ps) = with_parameters names (with_parameter names s p) ps

-- a local, or else what a name stands for outside of the blocks
abbrev pub local_or : Option Ty → Meant → Meant
local_or None m = m
local_or (Some t) m = ALocal 0 t

-- what a name stands for outside of all blocks
abbrev pub outer_meant : Program → Text → Meant
outer_meant items x = meant (record { items = items; blocks = [] }) x
