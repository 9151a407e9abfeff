-- Tables of names that grow, and programs whose names are all in their table.
use Rattle.std.specs.Prelude.{◌≡◌, ◌<◌, ◌++◌, map, length}
use Rattle.cpc_base.specs.declared.names.Name.{Name}
use Rattle.cpc_tree.specs.declared.program.Program.{Program}
use Rattle.cpc_tree.specs.Erase.{Names, Table, in_table, item_of}

-- the table has only grown, at its end
pub record HasGrown (old new : Table) : Type 0 where
  pub more : Table
  pub is : new ≡ old ++ more

-- a spelling in which the names of the table have its texts
pub record Spells (table : Table) (to : Names) : Type 0 where
  pub spelled : (n : Name) → n.0 < length table → to n ≡ in_table table n

-- all names of a program are in its table: spellings that agree on the table's names spell its items alike
abbrev pub AreWithin : Program → Type 0
AreWithin source = (names : Names) → Spells source.names names → map (item_of names) source.items.items ≡ map (item_of (in_table source.names)) source.items.items
