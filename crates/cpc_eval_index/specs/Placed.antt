-- Which item is the last that declares a name, and which items are globals.
use Rattle.std.specs.Prelude.{ℕ, List, reverse, Option}
use Rattle.cpc_base.specs.declared.names.Name.{Name}
use Rattle.cpc_tree.specs.declared.program.Item.{Item}
use Rattle.cpc_tree.specs.declared.program.Item.TheVariants as I
use Rattle.cpc_shapes.specs.Indexed.{latest}

-- the number of the last of these that is a name
abbrev pub last_place : ℕ → List (Option Name) → Option ℕ
last_place x ks = latest x (reverse ks)

-- how many globals an item is
abbrev pub globals_in : Item → ℕ
globals_in (I.Global w t start) = 1
globals_in _ = 0
