-- The laws of cps statements, as statements.
use Rattle.std.specs.Prelude.{◌≡◌, ℕ, [], ◌∷◌, slice_get, Some}
use Rattle.cpc_base.specs.declared.stop.Dialect.TheVariants as D
use Rattle.cpc_check_laws.specs.Sound.Typed.{FoundTyped}
use Rattle.cpc_tree.specs.declared.program.Mode.TheVariants.{Native}
use Rattle.cpc_tree.specs.Points.{Simple}
use Rattle.cpc_tree.specs.Syntax.{Stmt, Function, Program}
use Rattle.cpc_tree.specs.Typing.{AFunction, named}
use Rattle.cpc_meaning.specs.Act.{AtStatement}
use Rattle.cpc_meaning.specs.Ways.{AsCps}
use Rattle.cpc_forms.specs.Flow.{Place}
use Rattle.cpc_forms.specs.Graph.{Node, graph_of}
use Rattle.cpc_chains_store_laws.specs.Driver.{DriverMeant, any_pointer}
use Rattle.cpc_chains_event.specs.Converted.{converted}
use Rattle.cpc_chains_event.specs.FlatLaws.{piece_scope}
use Rattle.cpc_convert_routines.specs.Named.{IsCps, IsOwner}
use Rattle.cpc_convert_routines.specs.Names.{start_name}
use Rattle.cpc_convert_routines.specs.Routines.{routine_of}
use Rattle.cpc_lifted_laws.specs.Accepted.Names.{HasNames}
use Rattle.cpc_lifted_laws.specs.Piece.Known.{CpsKnown}
use Rattle.cpc_chains_laws.specs.Wait.Waiting.{Waiting}

-- a node of a cps statement that is typed has one of three: a call of a cps function, a call of a primitive that waits, or a section
abbrev pub CpsStatementsWait : Type 0
CpsStatementsWait =
    (p : Program) → HasNames p → (f : Function) (n : ℕ) (node : Node) (s : Stmt) → slice_get (graph_of p f).nodes n ≡ Some node → node.stood ≡ AtStatement (Simple s) → node.manner ≡ AsCps
    → FoundTyped D.Cpc p f node.scope (Simple s) → Waiting p node.scope s

-- in each piece the name of the driver means the driver, and that of the start of a cps function means the start
abbrev pub StartsAreMeant : Type 0
StartsAreMeant =
    (p : Program) (f : Function) → CpsKnown p f → (l : Place) → IsOwner (routine_of p f) l
    → DriverMeant (converted p) (piece_scope p (routine_of p f) l)
    × ((g : Function) → IsCps p g → named (converted p) (piece_scope p (routine_of p f) l) (start_name g.called) ≡ AFunction Native any_pointer (any_pointer ∷ []))
