-- What is promised of programs that break no rule, as statements.
use Rattle.std.specs.Prelude.{◌≡◌, Bool, true, List, [], Some}
use Rattle.cpc_tree.specs.Syntax.{Ty, Expr, Stmt, Program}
use Rattle.cpc_tree.specs.Typing.{Typed, typing, typed_place, used, is_scalar}
use Rattle.cpc_tree.specs.Registers.{addresses}
use Rattle.cpc_tree.specs.Points.{Path, Here, found, begin, next_point}
use Rattle.cpc_meaning.specs.Eval.{Context, place, value}
use Rattle.cpc_check_laws.specs.Sound.Suits.{Comes, Suits, SuitSlots, ScopeOf, AllBoxed, SuitsSpot}
use Rattle.cpc_base.specs.declared.stop.Place.{Place}
use Rattle.cpc_base.specs.declared.stop.Dialect.{Dialect}
use Rattle.cpc_base.specs.declared.stop.Dialect.TheVariants as D
use Rattle.cpc_tree.specs.Tokens.{Placed}
use Rattle.cpc_tree.specs.Located.{LProgram, bare}
use Rattle.cpc_tree.specs.Grammar.{IsProgram}
use Rattle.cpc_check_rules.specs.Rules.{breaks}
use Rattle.cpc_tree.specs.Trace.{is_over}
use Rattle.cpc_meaning_matching.specs.Systems.{NeverStuck}
use Rattle.cpc_meaning.specs.Trees.{trees}
use Rattle.cpc_meaning.specs.History.{History}
use Rattle.cpc_meaning.specs.Matching.{RunsNeverStuck, event_system}
use Rattle.cpc_check_laws.specs.Sound.Typed.{TypedProgram}
use Rattle.cpc_check_laws.specs.Sound.Control.{StaysIn, GoesOnward, IsPoint, HasNext}

-- An expression that has a type, in a frame whose variables have their slots, has a value that suits its type, or a fault; and a place
-- likewise.
abbrev pub ExpressionsAnswer : Type 0
ExpressionsAnswer =
    (c : Context) (ts : List Ty) (e : Expr) (d : Typed)
    → ScopeOf ts c.scope → SuitSlots ts c.slots → AllBoxed c.slots (addresses c.scope e) → typing c.program c.scope e ≡ Some d
    → ((t : Ty) → used d ≡ Some t → is_scalar t ≡ true → Comes (Suits t) (value c e))
    × ((t : Ty) → typed_place d ≡ Some t → Comes (SuitsSpot ts c.slots t) (place c e))

-- A body begins where something stands; and from there control goes to where something stands, or to the end, but for a return.
abbrev pub ControlStays : Type 0
ControlStays =
    (body : Stmt) → IsPoint body (begin body)
    × ((p : Path) (h : Bool) → StaysIn body → GoesOnward (found body p) → HasNext body (next_point body (Here p) h))

-- The threads of a well typed program are never stuck.
abbrev pub TypedThreadsNeverStuck : Type 0
TypedThreadsNeverStuck = (p : Program) → TypedProgram D.Cpc p → RunsNeverStuck p

-- Neither are the callbacks of a well typed event program.
abbrev pub TypedCallbacksNeverStuck : Type 0
TypedCallbacksNeverStuck = (p : Program) → TypedProgram D.Event p → (h : History) → NeverStuck is_over (event_system (trees p) h)

-- A program that is read from tokens and breaks no rule is well typed.
abbrev pub AcceptedIsTyped : Type 0
AcceptedIsTyped = (dialect : Dialect) (list : List Placed) (end : Place) (p : LProgram) → IsProgram dialect list end p → breaks dialect p ≡ [] → TypedProgram dialect (bare p)

-- So its threads are never stuck, where it is one of the dialect Cpc.
abbrev pub AcceptedThreadsNeverStuck : Type 0
AcceptedThreadsNeverStuck = (list : List Placed) (end : Place) (p : LProgram) → IsProgram D.Cpc list end p → breaks D.Cpc p ≡ [] → RunsNeverStuck (bare p)

-- And its callbacks are never stuck, where it is one of the dialect Event.
abbrev pub AcceptedCallbacksNeverStuck : Type 0
AcceptedCallbacksNeverStuck =
    (list : List Placed) (end : Place) (p : LProgram) → IsProgram D.Event list end p → breaks D.Event p ≡ [] → (h : History) → NeverStuck is_over (event_system (trees (bare p)) h)
