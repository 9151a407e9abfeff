-- All names of a conversion, by their texts.
use Rattle.std.specs.Prelude.{◌≡◌, List, [], ◌∷◌, bytes_eq, if◌then◌else◌, map, Option, Some, None, All}
use Rattle.cpc_base.specs.Bytes.{Text}
use Rattle.cpc_tree.specs.Erase.{Names, Table, text_of}
use Rattle.cpc_convert_common.specs.Converted.{spawner_name}
use Rattle.cpc_convert_names.specs.Words.{AreOwn, AreOfLoop}
use Rattle.cpc_convert_names.specs.Called.{name_in, AreCalled}
use Rattle.cpc_convert_names.specs.declared.called.Called.{Called}
use Rattle.cpc_convert_names.specs.declared.book.Book.{Book}

-- the first function of this name
abbrev pub find : Names → List Called → Text → Option Called
find names [] x = None
find names (c ∷ cs) x = if bytes_eq (name_in names c.lifted.now) x then Some c else find names cs x

-- the names of a conversion of a program with this table
pub record IsBook (source : Table) (to : Names) (b : Book) : Type 0 where
  pub own : AreOwn to b.own
  pub of_loop : AreOfLoop to b.of_loop
  pub spawners : map (text_of to) b.spawners.items ≡ map spawner_name source
  pub of_none : to b.of_none ≡ spawner_name []
  pub functions : All (AreCalled to) b.functions.items
