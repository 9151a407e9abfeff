-- The code of trees is steady, where the sections of the program give ints.
use Rattle.std.proofs.Common.{◌⊎◌, inl, inr, refl, ◌≡◌, Option, Some, sym, ◌∙◌, ap, subst}
use Rattle.cpc_base.specs.Bytes.{Text}
use Rattle.cpc_base.specs.declared.stop.Dialect.TheVariants as D
use Rattle.cpc_tree.specs.Syntax.{Expr, Exprs, Detach, Function, Program}
use Rattle.cpc_tree.specs.declared.program.Mode.TheVariants.{Extern, Native, Cps, Detached}
use Rattle.cpc_store.specs.Store.{Code}
use Rattle.cpc_tree.specs.Located.{bare}
use Rattle.cpc_tree.specs.Points.{Path, Point, Here, Arrival, End, Found, Simple, found}
use Rattle.cpc_tree.specs.Registers.{scope_in_function}
use Rattle.cpc_tree.specs.Typing.{Meant, ALocal, AGlobal, AFunction, NotMeant, item_named, function_named}
use Rattle.cpc_meaning.specs.Act.{AtStatement}
use Rattle.cpc_meaning.specs.Trees.{stood_at, scope_from}
use Rattle.cpc_check_laws.specs.Sound.Suits.{ScopeOf}
use Rattle.cpc_check_laws.specs.Sound.Typed.{FoundTyped}
use Rattle.cpc_check_laws.proofs.Sound.Accepted.{accepted_is_typed, accepted_facts}
use Rattle.cpc_check_laws.proofs.Sound.Agreement.{Facts}
use Rattle.cpc_check_laws.proofs.Sound.Paths.{function_scope, function_typed}
use Rattle.cpc_check_laws.specs.Kept.Codes.{IsNative, IsCode}
use Rattle.cpc_check_laws.specs.Kept.Fits.{types_of, GivesInt}
use Rattle.cpc_check_laws.specs.Kept.Kept.{SectionsGive}
use Rattle.cpc_check_laws.specs.Kept.Laws.{TreesAreSteady, TypedSectionsGive, AcceptedIsSteady, CodesAreNative}

scope_there : (f : Function) (point : Point) → ScopeOf (types_of f) (scope_from (Some f) point)
scope_there f (Here path) = function_scope f path
scope_there f (Arrival path) = function_scope f path
scope_there f End = tt

pub statement_is : (x y : Found) → AtStatement x ≡ AtStatement y → x ≡ y
statement_is x y e = cc

module _ (p : Program) where
  scopes : (x : Text) (f : Function) (point : Point) → function_named p x ≡ Some f → ScopeOf (types_of f) (scope_from (function_named p x) point)
  scopes x f point e = subst (λ o. ScopeOf (types_of f) (scope_from o point)) (sym e) (scope_there f point)

  module _ (give : SectionsGive p) where
    section_at : (x : Text) (f : Function) (point : Point) (to : Option Expr) (y : Text) (es : Exprs) (g : Function)
        → function_named p x ≡ Some f → stood_at (Some f) point ≡ AtStatement (Simple (Detach to y es)) → function_named p y ≡ Some g → GivesInt g
    section_at x f (Here path) to y es g e i j = give.int x f path to y es g e (statement_is _ _ i) j
    section_at x f (Arrival path) to y es g e i j = absurd (cc)
    section_at x f End to y es g e i j = absurd (cc)

    sections : (x : Text) (f : Function) (point : Point) (to : Option Expr) (y : Text) (es : Exprs) (g : Function)
        → function_named p x ≡ Some f → stood_at (function_named p x) point ≡ AtStatement (Simple (Detach to y es)) → function_named p y ≡ Some g → GivesInt g
    sections x f point to y es g e i j = section_at x f point to y es g e (ap (λ o. stood_at o point) (sym e) ∙ i) j

pub trees_are_steady : TreesAreSteady
trees_are_steady p give = (record { scopes = scopes p; sections = sections p give }, record { scopes = scopes p; sections = sections p give })

-- ---- typed programs

pub typed_sections_give : TypedSectionsGive
typed_sections_give p typed = record { int = gives }
  where
    gives : (x : Text) (f : Function) (path : Path) (to : Option Expr) (y : Text) (es : Exprs) (g : Function) → function_named p x ≡ Some f → found f.body path ≡ Simple (Detach to y es) → function_named p y ≡ Some g → GivesInt g
    gives x f path to y es g e i j =
        let h = subst (FoundTyped D.Cpc p f (scope_in_function f path)) i (function_typed D.Cpc p f path (typed.functions x f e).body) in
        let section = h.1.section in
        let same : h.1.function ≡ g = let k : Some h.1.function ≡ Some g = sym section.is_function ∙ j in cc in
        ap (λ g. g.result) (sym same) ∙ section.result

-- ---- accepted programs

pub accepted_is_steady : AcceptedIsSteady
accepted_is_steady list end p h e = trees_are_steady (bare p) (typed_sections_give (bare p) (accepted_is_typed D.Cpc list end p h e))

-- what an item says of a function is so of the function
pub native_there : (p : Program) → Facts p → (x : Text) → IsCode p (Code x) → (g : Function) × (function_named p x ≡ Some g) × ((g.mode ≡ Native) ⊎ (g.mode ≡ Detached))
native_there p facts x h = go (item_named 0 p x) refl h
  where
    go : (m : Meant) → item_named 0 p x ≡ m → IsNative m → (g : Function) × (function_named p x ≡ Some g) × ((g.mode ≡ Native) ⊎ (g.mode ≡ Detached))
    go (AFunction Native r ps) e h = let k = facts.function x Native r ps e refl in (k.0, k.1, inl k.2)
    go (AFunction Detached r ps) e h = let k = facts.function x Detached r ps e refl in (k.0, k.1, inr k.2)
    go (AFunction Cps r ps) e h = absurd h
    go (AFunction Extern r ps) e h = absurd h
    go (ALocal k t) e h = absurd h
    go (AGlobal k t) e h = absurd h
    go NotMeant e h = absurd h

pub codes_are_native : CodesAreNative
codes_are_native list end p h e x code = native_there (bare p) (accepted_facts D.Cpc list end p h e) x code
