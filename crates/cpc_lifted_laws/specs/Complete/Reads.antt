-- How the names of a text are read at another place of the rules: as themselves, as a local, or as a field of what a local points to.
use Rattle.std.specs.Prelude.{◌≡◌, ℕ, Bool, true, false, not, List, Option, Some, None}
use Rattle.cpc_base.specs.Bytes.{Text}
use Rattle.cpc_base.specs.declared.stop.Dialect.TheVariants as D
use Rattle.cpc_tree.specs.declared.program.Mode.{Mode}
use Rattle.cpc_tree.specs.declared.program.Mode.TheVariants.{Cps}
use Rattle.cpc_tree.specs.Syntax.{Ty, TyPointer, TyStruct, Expr, ENamed}
use Rattle.cpc_tree.specs.Typing.{Meant, ALocal, AGlobal, AFunction, NotMeant, cells, field}
use Rattle.cpc_tree.specs.Primitives.{Primitive, primitive_named}
use Rattle.cpc_check_rules.specs.Scopes.{Scope, meant}
use Rattle.cpc_check_rules.specs.Operators.{Where, is_detached}
use Rattle.cpc_check_rules.specs.Calls.{gives_up}
use Rattle.cpc_convert_image_laws.specs.Images.{Reading, AsLocal, AsField, Readings}

-- a name that stands for something elsewhere, and how it is read in this scope; of a cps function nothing is said
pub data Reads (s : Scope) (x : Text) : Option Reading → Meant → Type 0 where
  ReadsLocal : (y : Text) (j k : ℕ) (t : Ty) → meant s y ≡ ALocal k t → Reads s x (Some (AsLocal y)) (ALocal j t)
  ReadsField : (y f tag : Text) (j k n : ℕ) (t : Ty) → meant s y ≡ ALocal k (TyPointer (TyStruct tag)) → field s.items tag f ≡ Some (n, t) → Reads s x (Some (AsField y f)) (ALocal j t)
  StaysLocal : (j k : ℕ) (t : Ty) → meant s x ≡ ALocal k t → Reads s x None (ALocal j t)
  StaysGlobal : (j k : ℕ) (t : Ty) → meant s x ≡ AGlobal k t → Reads s x None (AGlobal j t)
  StaysFunction : (mode : Mode) (r : Ty) (ps : List Ty) → meant s x ≡ AFunction mode r ps → Reads s x None (AFunction mode r ps)
  IsCps : (o : Option Reading) (r : Ty) (ps : List Ty) → Reads s x o (AFunction Cps r ps)
  StaysNothing : ((prim : Primitive) → primitive_named x ≡ Some prim → meant s x ≡ NotMeant) → Reads s x None NotMeant

-- a place of the dialect Cpc, and one of the dialect Event at which its texts are read so: types that are complete at the first have the
-- same cells at the second, and structs the same fields
pub record Carries (w v : Where) (r : Readings) : Type 0 where
  pub names : (x : Text) → Reads v.scope x (r x) (meant w.scope x)
  pub cells : (t : Ty) (ts : List Ty) → cells w.scope.items t ≡ Some ts → cells v.scope.items t ≡ Some ts
  pub fields : (tag x : Text) (f : ℕ × Ty) → field w.scope.items tag x ≡ Some f → field v.scope.items tag x ≡ Some f
  pub closed : is_detached v.mode ≡ is_detached w.mode
  pub source : w.dialect ≡ D.Cpc
  pub target : v.dialect ≡ D.Event

-- what is called is neither a cps function nor a primitive at which a thread gives up the processor
abbrev pub stays_meant : Meant → Option Primitive → Bool
stays_meant (AFunction Cps r ps) o = false
stays_meant NotMeant (Some prim) = not (gives_up prim)
stays_meant m o = true

abbrev pub stays_called : Scope → Expr → Bool
stays_called s (ENamed x) = stays_meant (meant s x) (primitive_named x)
stays_called s f = true
