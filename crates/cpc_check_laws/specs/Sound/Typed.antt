-- What it is for statements to be well typed: simple ones and tests in a scope, and the bodies made of them.
use Rattle.std.specs.Prelude.{◌≡◌, ◌⊎◌, ℕ, ◌+◌, Bool, true, false, not, List, [], ◌∷◌, length, Option, Some, None}
use Rattle.cpc_base.specs.Bytes.{Text}
use Rattle.cpc_base.specs.declared.stop.Dialect.{Dialect}
use Rattle.cpc_base.specs.declared.stop.Dialect.TheVariants as D
use Rattle.cpc_num.specs.declared.kinds.Kind.TheVariants.{Int, Long}
use Rattle.cpc_tree.specs.declared.program.Mode.{Mode}
use Rattle.cpc_tree.specs.declared.program.Mode.TheVariants.{Extern, Native, Detached}
use Rattle.cpc_tree.specs.Syntax.{Ty, TyVoid, TyInt, TyPointer, TyCode, Tys, Expr, ENamed, EText, Exprs, NoExpr, AndExpr, Stmt, Block, Declare, Assign, Call, Detach, Spawn, If, While, DoWhile, For, Label, Return, Stmts, NoStmt, AndStmt, MaybeStmt, Absent, Present, Variable, Function, Program}
use Rattle.cpc_tree.specs.Primitives.{Primitive, Puts, RtDetach, primitive_named, Taken, AnyInteger, SetOf, FreeOf, takes_first}
use Rattle.cpc_tree.specs.Typing.{Scope, Meant, AFunction, NotMeant, ALocal, AGlobal, Typed, APlace, named, typing, used, is_testable, size, function_named, function_type, parameter_types, list_of_tys}
use Rattle.cpc_tree.specs.Points.{Found, Simple, Test, Nothing, extended, extended_all, declared, locals_in}
use Rattle.cpc_tree.specs.Registers.{variables, outer_scope}
use Rattle.cpc_meaning.specs.Act.{right_side}
use Rattle.cpc_meaning.specs.Start.{main_name}
use Rattle.cpc_store.specs.declared.values.Scalar.{Scalar}
use Rattle.cpc_meaning.specs.Layout.{layout}
use Rattle.cpc_meaning.specs.Requests.{section_takes}
use Rattle.cpc_check_rules.specs.Operators.{is_detached, is_cps}
use Rattle.cpc_check_rules.specs.Calls.{gives, gives_up, is_rt, is_closed}
use Rattle.cpc_check_laws.specs.Sound.Suits.{converts}
use Rattle.cpc_check_laws.specs.Sound.Control.{StaysIn}

-- ---- values

-- the value of an expression can be assigned to a type
pub record Gets (p : Program) (scope : Scope) (t : Ty) (e : Expr) : Type 0 where
  pub typed : Typed
  pub type : Ty
  pub is_typed : typing p scope e ≡ Some typed
  pub is_type : used typed ≡ Some type
  pub converts : converts t type ≡ true

-- an expression can be tested
pub record IsTest (p : Program) (scope : Scope) (e : Expr) : Type 0 where
  pub typed : Typed
  pub type : Ty
  pub is_typed : typing p scope e ≡ Some typed
  pub is_type : used typed ≡ Some type
  pub testable : is_testable type ≡ true

-- the value of an expression can be assigned to a place
pub record Assigns (p : Program) (scope : Scope) (place e : Expr) : Type 0 where
  pub type : Ty
  pub is_place : typing p scope place ≡ Some (APlace type)
  pub gets : Gets p scope type e

-- a value of the type can be given to the place of a call, where it has one
abbrev pub Delivers : Program → Scope → Ty → Option Expr → Type 0
Delivers p scope r None = Unit {0}
Delivers p scope r (Some e) = (t : Ty) × (typing p scope e ≡ Some (APlace t)) × (converts t r ≡ true)

-- arguments can be assigned to the types of parameters
abbrev pub AllGet : Program → Scope → List Ty → Exprs → Type 0
AllGet p scope [] NoExpr = Unit {0}
AllGet p scope (t ∷ ts) (AndExpr e es) = Gets p scope t e × AllGet p scope ts es
AllGet p scope _ _ = ⊥

-- each argument can be assigned to one type
abbrev pub EachGets : Program → Scope → Ty → Exprs → Type 0
EachGets p scope t NoExpr = Unit {0}
EachGets p scope t (AndExpr e es) = Gets p scope t e × EachGets p scope t es

-- ---- what primitives take

-- the name of a function of the type that the program defines, which can be a value
pub record NamesFunction (p : Program) (scope : Scope) (t : Ty) (x : Text) : Type 0 where
  pub mode : Mode
  pub result : Ty
  pub parameters : List Ty
  pub function : Function
  pub is_meant : named p scope x ≡ AFunction mode result parameters
  pub is_value : (mode ≡ Native) ⊎ (mode ≡ Detached)
  pub is_function : function_named p x ≡ Some function
  pub is_type : t ≡ function_type function.result (parameter_types function)

-- an argument of a primitive; any integer can be assigned to long, and a callback is the name of a function of its type
abbrev pub GetsTaken : Program → Scope → Taken → Expr → Type 0
GetsTaken p scope AnyInteger e = Gets p scope (TyInt Long) e
GetsTaken p scope (SetOf (TyCode r ps)) (ENamed x) = NamesFunction p scope (TyCode r ps) x
GetsTaken p scope (SetOf (TyCode r ps)) e = ⊥
GetsTaken p scope (SetOf t) e = Gets p scope t e
GetsTaken p scope (FreeOf t) e = Gets p scope t e

-- the arguments of a primitive, one for each that it takes
abbrev pub AllGetTaken : Program → Scope → List Taken → Exprs → Type 0
AllGetTaken p scope [] NoExpr = Unit {0}
AllGetTaken p scope (t ∷ ts) (AndExpr e es) = GetsTaken p scope t e × AllGetTaken p scope ts es
AllGetTaken p scope _ _ = ⊥

-- a function of a section: it is detached, gives an int, and takes a pointer to cells whose layout is known, and more
pub record IsSection (p : Program) (x : Text) (f : Function) : Type 0 where
  pub is_function : function_named p x ≡ Some f
  pub detached : is_detached f.mode ≡ true
  pub result : f.result ≡ TyInt Int
  pub cells : Ty
  pub others : List Ty
  pub parameters : parameter_types f ≡ TyPointer cells ∷ others
  pub complete : (scalars : List Scalar) × (layout p cells ≡ Some scalars)

-- a section with its arguments
pub record Detaches (p : Program) (scope : Scope) (x : Text) (es : Exprs) : Type 0 where
  pub function : Function
  pub section : IsSection p x function
  pub arguments : AllGetTaken p scope (section_takes (parameter_types function)) es

-- the arguments of a primitive, by what it takes
abbrev pub TakesArguments : Program → Scope → Primitive → Exprs → Type 0
TakesArguments p scope Puts (AndExpr (EText bytes) NoExpr) = Unit {0}
TakesArguments p scope Puts es = ⊥
TakesArguments p scope RtDetach (AndExpr a (AndExpr b (AndExpr (ENamed x) es))) =
    GetsTaken p scope (SetOf (function_type TyVoid (TyPointer TyVoid ∷ TyInt Int ∷ []))) a × Gets p scope (TyPointer TyVoid) b
    × ((r : Ty) × (ps : List Ty) × (named p scope x ≡ AFunction Detached r ps)) × Detaches p scope x es
TakesArguments p scope RtDetach es = ⊥
TakesArguments p scope prim es = AllGetTaken p scope (takes_first prim) es

-- the primitives of a dialect
abbrev pub is_for : Dialect → Primitive → Bool
is_for D.Cpc prim = not (is_rt prim)
is_for D.Event prim = not (gives_up prim)

-- ---- calls

-- a function that is no host's
abbrev pub is_own : Mode → Bool
is_own Extern = false
is_own mode = true

-- what is no name of a function or a primitive
abbrev pub is_variable : Meant → Bool
is_variable (ALocal k t) = true
is_variable (AGlobal n t) = true
is_variable _ = false

-- a call of a value: what is called is no name of a function or a primitive
abbrev pub is_pointer_call : Program → Scope → Expr → Bool
is_pointer_call p scope (ENamed x) = is_variable (named p scope x)
is_pointer_call p scope f = true

-- a call in a function of this mode, and the type of its value; a detached function calls detached ones, `malloc` and `free` alone, and a cps
-- function is called by cps functions alone, as what gives up the processor is
pub data Calls (d : Dialect) (p : Program) (around : Mode) (scope : Scope) : Expr → Exprs → Ty → Type 0 where
  CallsHost : (x : Text) (r : Ty) (ps : List Ty) (es : Exprs) → is_detached around ≡ false → named p scope x ≡ AFunction Extern r ps → EachGets p scope (TyInt Long) es → AllGet p scope ps es
      → Calls d p around scope (ENamed x) es (TyInt Long)
  CallsFunction : (x : Text) (mode : Mode) (r : Ty) (ps : List Ty) (f : Function) (es : Exprs) → is_own mode ≡ true → named p scope x ≡ AFunction mode r ps → function_named p x ≡ Some f
      → (is_detached around ≡ true → is_detached f.mode ≡ true) → (is_cps f.mode ≡ true → is_cps around ≡ true) → AllGet p scope (parameter_types f) es → Calls d p around scope (ENamed x) es f.result
  CallsPrimitive : (x : Text) (prim : Primitive) (es : Exprs) → named p scope x ≡ NotMeant → primitive_named x ≡ Some prim → is_for d prim ≡ true
      → (is_detached around ≡ true → is_closed prim ≡ true) → (gives_up prim ≡ true → is_cps around ≡ true) → TakesArguments p scope prim es → Calls d p around scope (ENamed x) es (gives prim)
  CallsPointer : (f : Expr) (typed : Typed) (r : Ty) (ps : Tys) (es : Exprs) → is_detached around ≡ false → is_pointer_call p scope f ≡ true → typing p scope f ≡ Some typed → used typed ≡ Some (TyCode r ps)
      → AllGet p scope (list_of_tys ps) es → Calls d p around scope f es r

-- ---- statements

-- forms of the dialect Cpc
pub record IsOpen (d : Dialect) (around : Mode) : Type 0 where
  pub dialect : d ≡ D.Cpc
  pub not_detached : is_detached around ≡ false

-- a statement that makes one step
abbrev pub IsTyped : Dialect → Program → Function → Scope → Stmt → Type 0
IsTyped d p f scope (Declare x t (Some e)) = Assigns p scope (ENamed x) e
IsTyped d p f scope (Assign x op e) = Assigns p scope x (right_side op x e)
IsTyped d p f scope (Call x g es) = (r : Ty) × Calls d p f.mode scope g es r × Delivers p scope r x
IsTyped d p f scope (Detach x g es) = IsOpen d f.mode × Detaches p scope g es × Delivers p scope (TyInt Int) x × (is_cps f.mode ≡ true)
IsTyped d p f scope (Spawn g es) = IsOpen d f.mode × ((h : Function) × (function_named p g ≡ Some h) × AllGet p scope (parameter_types h) es × (is_cps h.mode ≡ true))
IsTyped d p f scope (Return (Some e)) = Gets p scope f.result e
IsTyped d p f scope s = Unit {0}

-- a test that may be absent
abbrev pub IsTestIf : Program → Scope → Option Expr → Type 0
IsTestIf p scope None = Unit {0}
IsTestIf p scope (Some e) = IsTest p scope e

-- what stands at a point
abbrev pub FoundTyped : Dialect → Program → Function → Scope → Found → Type 0
FoundTyped d p f scope (Simple s) = IsTyped d p f scope s
FoundTyped d p f scope (Test t) = IsTestIf p scope t
FoundTyped d p f scope Nothing = Unit {0}

-- the step of a `for` is one assignment, call or section
abbrev pub StepTyped : Dialect → Program → Function → Scope → MaybeStmt → Type 0
StepTyped d p f scope Absent = Unit {0}
StepTyped d p f scope (Present (Assign x op e)) = IsTyped d p f scope (Assign x op e)
StepTyped d p f scope (Present (Call x g es)) = IsTyped d p f scope (Call x g es)
StepTyped d p f scope (Present (Detach x g es)) = IsTyped d p f scope (Detach x g es)
StepTyped d p f scope (Present s) = ⊥

abbrev mutual
  -- a statement with those in it, where n variables come before it
  pub BodyTyped : Dialect → Program → Function → Scope → ℕ → Stmt → Type 0
  BodyTyped d p f scope n (Block ss) = AllTyped d p f scope n ss
  BodyTyped d p f scope n (Declare x t start) = IsTyped d p f (extended scope n (Declare x t start)) (Declare x t start)
  BodyTyped d p f scope n (If t a b) = IsTest p scope t × BodyTyped d p f scope n a × ArmTyped d p f scope (n + declared a) b
  BodyTyped d p f scope n (While t s) = IsTest p scope t × BodyTyped d p f scope n s
  BodyTyped d p f scope n (DoWhile s t) = BodyTyped d p f scope n s × IsTest p scope t
  BodyTyped d p f scope n (For first t step s) =
      AllTyped d p f scope n first × IsTestIf p (extended_all scope n first) t × StepTyped d p f (extended_all scope n first) step
      × BodyTyped d p f (extended_all scope n first) (n + length (locals_in first)) s
  BodyTyped d p f scope n (Label l s) = BodyTyped d p f scope n s
  BodyTyped d p f scope n s = IsTyped d p f scope s

  -- statements in a row
  pub AllTyped : Dialect → Program → Function → Scope → ℕ → Stmts → Type 0
  AllTyped d p f scope n NoStmt = Unit {0}
  AllTyped d p f scope n (AndStmt s ss) = BodyTyped d p f scope n s × AllTyped d p f (extended scope n s) (n + declared s) ss

  -- an arm that may be absent
  pub ArmTyped : Dialect → Program → Function → Scope → ℕ → MaybeStmt → Type 0
  ArmTyped d p f scope n Absent = Unit {0}
  ArmTyped d p f scope n (Present s) = BodyTyped d p f scope n s

-- ---- programs

-- the types of variables are complete
abbrev pub AllSized : Program → List Variable → Type 0
AllSized p [] = Unit {0}
AllSized p (x ∷ xs) = ((n : ℕ) × (size p x.type ≡ Some n)) × AllSized p xs

-- a function whose variables have sizes, whose body is typed, and in which control stays
pub record TypedFunction (d : Dialect) (p : Program) (f : Function) : Type 0 where
  pub sized : AllSized p (variables f)
  pub body : BodyTyped d p f (outer_scope f) (length f.parameters) f.body
  pub control : StaysIn f.body

-- a program of typed functions that has a `main`
pub record TypedProgram (d : Dialect) (p : Program) : Type 0 where
  pub functions : (x : Text) (f : Function) → function_named p x ≡ Some f → TypedFunction d p f
  pub main : Function
  pub is_main : function_named p main_name ≡ Some main
