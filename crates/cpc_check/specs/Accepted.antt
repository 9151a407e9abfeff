-- Which texts are accepted, and as which programs.
use Rattle.std.specs.Prelude.{◌≡◌, ◌<◌, [], All, length, map}
use Rattle.cpc_base.specs.Bytes.{Text}
use Rattle.cpc_base.specs.declared.names.Name.{Name}
use Rattle.cpc_base.specs.declared.stop.Dialect.{Dialect}
use Rattle.cpc_tree.specs.declared.program.Program as GProgram
use Rattle.cpc_tree.specs.Erase.{Names, in_table}
use Rattle.cpc_tree.specs.Located.{LProgram}
use Rattle.cpc_tree.specs.Locate.{located_item}
use Rattle.cpc_tree.specs.Grammar.{Parses}
use Rattle.cpc_check_rules.specs.Rules.{breaks}

-- the text is cut and read as the program, which breaks no rule
pub record Accepts (dialect : Dialect) (text : Text) (p : LProgram) : Type 0 where
  pub parses : Parses dialect text p
  pub unbroken : breaks dialect p ≡ []

-- some text is read as the program
pub record IsRead (dialect : Dialect) (p : LProgram) : Type 0 where
  pub text : Text
  pub bytes : All (λ b. b < 256) text
  pub parses : Parses dialect text p

-- All names of a program are in its table: the texts of others do not matter.
pub record IsWithin (p : GProgram.Program) : Type 0 where
  pub alike : (names : Names) → ((n : Name) → n.0 < length p.names → names n ≡ in_table p.names n)
      → map (located_item names) p.items.items ≡ map (located_item (in_table p.names)) p.items.items
