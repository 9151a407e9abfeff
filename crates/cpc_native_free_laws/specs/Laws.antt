-- Where accepted programs free blocks, as a statement.
use Rattle.std.specs.Prelude.{◌≡◌, List, []}
use Rattle.cpc_base.specs.declared.stop.Dialect.{Dialect}
use Rattle.cpc_base.specs.declared.stop.Place.{Place}
use Rattle.cpc_tree.specs.Grammar.{IsProgram}
use Rattle.cpc_tree.specs.Located.{LProgram, bare}
use Rattle.cpc_tree.specs.Points.{Point}
use Rattle.cpc_tree.specs.Tokens.{Placed}
use Rattle.cpc_store.specs.Store.{Store}
use Rattle.cpc_meaning.specs.Plain.{Stack}
use Rattle.cpc_meaning.specs.Trees.{trees}
use Rattle.cpc_check_rules.specs.Rules.{breaks}
use Rattle.cpc_native.specs.Next.{FreesAlone}

-- a program that is read from tokens and breaks no rule wants no value of what frees a block, whatever its calls and its store are
abbrev pub AcceptedFreeAlone : Type 0
AcceptedFreeAlone = (dialect : Dialect) (list : List Placed) (end : Place) (p : LProgram) → IsProgram dialect list end p → breaks dialect p ≡ []
    → (s : Store) (k : Stack Point) → FreesAlone (trees (bare p)) s k
