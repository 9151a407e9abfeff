-- What accepted programs ask for, as statements.
use Rattle.std.specs.Prelude.{◌≡◌, ◌⊎◌, ℕ, true, List, [], ◌∷◌, length}
use Rattle.cpc_base.specs.Bytes.{Text}
use Rattle.cpc_base.specs.declared.stop.Dialect.{Dialect}
use Rattle.cpc_base.specs.declared.stop.Dialect.TheVariants as D
use Rattle.cpc_base.specs.declared.stop.Place.{Place}
use Rattle.cpc_tree.specs.Grammar.{IsProgram}
use Rattle.cpc_tree.specs.Located.{LProgram, bare}
use Rattle.cpc_tree.specs.Points.{Point}
use Rattle.cpc_tree.specs.Syntax.{Item, PrototypeItem, Program}
use Rattle.cpc_tree.specs.Tokens.{Placed}
use Rattle.cpc_tree.specs.declared.program.Mode.TheVariants.{Extern}
use Rattle.cpc_store.specs.Store.{Value, Store}
use Rattle.cpc_meaning.specs.Answer.{Gives}
use Rattle.cpc_meaning.specs.Plain.{Stack, Asks, plain}
use Rattle.cpc_meaning.specs.Requests.{Host}
use Rattle.cpc_meaning.specs.Trees.{trees}
use Rattle.cpc_check_rules.specs.Rules.{breaks}
use Rattle.cpc_native_builtins.specs.Served.{is_served_program}

-- an event program that is read from tokens and breaks no rule asks only for what the loop answers
abbrev pub AcceptedAreServed : Type 0
AcceptedAreServed = (list : List Placed) (end : Place) (p : LProgram) → IsProgram D.Event list end p → breaks D.Event p ≡ [] → is_served_program (bare p) ≡ true

-- the item declares a function of the host under this name, with so many parameters
abbrev pub IsHost : Text → ℕ → Item → Type 0
IsHost x n (PrototypeItem Extern y r ps) = (y ≡ x) × (n ≡ length ps)
IsHost x n item = ⊥

-- one of the items does
abbrev pub DeclaresHost : Program → Text → ℕ → Type 0
DeclaresHost [] x n = ⊥
DeclaresHost (item ∷ items) x n = IsHost x n item ⊎ DeclaresHost items x n

-- where code of the program asks for a function of the host, in whatever state, the program declares it with as many parameters as there are arguments
abbrev pub AsksDeclared : Program → Type 0
AsksDeclared p =
    (s : Store) (k : Stack Point) (x : Text) (vs : List Value) → plain (trees p) s k ≡ Gives (Asks (record { asked = Host x; arguments = vs }))
    → DeclaresHost p x (length vs)

-- so it is with a program that is read from tokens and breaks no rule
abbrev pub AcceptedAskDeclared : Type 0
AcceptedAskDeclared = (dialect : Dialect) (list : List Placed) (end : Place) (p : LProgram) → IsProgram dialect list end p → breaks dialect p ≡ [] → AsksDeclared (bare p)
