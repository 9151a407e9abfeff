-- The parts of the setting of a program and its event program: which functions are not cut, how the others are, and what is named where.
use Rattle.std.specs.Prelude.{◌≡◌, ℕ, Bool, true, false, not, List, [], Option, Some, None}
use Rattle.cpc_base.specs.Bytes.{Text}
use Rattle.cpc_check_rules.specs.Operators.{is_detached}
use Rattle.cpc_tree.specs.Points.{Point, Arrival}
use Rattle.cpc_tree.specs.Syntax.{Ty, Function, Program}
use Rattle.cpc_tree.specs.Typing.{Scope, AFunction, named, function_named}
use Rattle.cpc_tree.specs.declared.program.Mode.{Mode}
use Rattle.cpc_meaning.specs.Threads.{is_cps_mode}
use Rattle.cpc_convert_common.specs.Converted.{spawner_name}
use Rattle.cpc_convert_routines.specs.Kept.{kept_function}
use Rattle.cpc_convert_routines.specs.Named.{IsKept}
use Rattle.cpc_convert_routines.specs.Names.{piece_name}
use Rattle.cpc_convert_routines.specs.Routines.{routine_of, closure_of}
use Rattle.cpc_lifted_laws.specs.Related.Cut.{Cut}
use Rattle.cpc_forms.specs.Flow.{Place}
use Rattle.cpc_forms.specs.Split.{Position, InTree, InGraph, split_form}
use Rattle.cpc_meaning.specs.Ways.{arrives_later, manner_at}
use Rattle.cpc_lifted_laws.specs.Accepted.Points.{UsedName}

-- ---- functions

-- a function that is there and not cps
abbrev pub stays_whole : Option Function → Bool
stays_whole None = false
stays_whole (Some f) = not (is_cps_mode f.mode)

-- the name of a native or detached function
abbrev pub is_whole : Program → Text → Bool
is_whole p x = stays_whole (function_named p x)

-- a native or detached function, and what it is in the event program
pub record StaysAs (p : Program) (f g : Function) : Type 0 where
  pub kept : IsKept p f
  pub same : g ≡ kept_function f

-- the name of a detached function
pub record NamesDetached (p : Program) (x : Text) : Type 0 where
  pub function : Function
  pub named : function_named p x ≡ Some function
  pub detached : is_detached function.mode ≡ true

-- a detached function, and what it is in the event program
pub record DetachedAs (p : Program) (f g : Function) : Type 0 where
  pub stays : StaysAs p f g
  pub detached : is_detached f.mode ≡ true

-- ---- cps functions

-- the variables that the frames of an owner keep; none where there is no function
abbrev pub keeps_in : Program → Option Function → Place → List ℕ
keeps_in p None l = []
keeps_in p (Some f) l = closure_of (routine_of p f) l

-- how cps functions are cut: into the pieces of their owners
abbrev pub cut_of : Program → Cut
cut_of p = record {
  piece = piece_name;
  keeps = λ x l. keeps_in p (function_named p x) l;
  spawner = spawner_name;
  whole = is_whole p;
}

-- ---- names

-- a name in scope that is that of a detached function, where it is that of a function
abbrev pub ClosedName : Program → Scope → Text → Type 0
ClosedName p scope x = (mode : Mode) (r : Ty) (ps : List Ty) → named p scope x ≡ AFunction mode r ps → NamesDetached p x

-- a name that occurs at a point of a native or detached function: of a variable, or of an item that stays; a function that a detached one
-- names is detached
pub record UsedAt (p : Program) (f : Text) (b : Point) (x : Text) : Type 0 where
  pub used : UsedName p ((split_form p).code.scope f (InTree b)) x
  pub closed : NamesDetached p f → ClosedName p ((split_form p).code.scope f (InTree b)) x

-- ---- where code stands

-- whether native code may stand at a point: where a value arrives only if the value of what stands there does
abbrev pub may_be_at : Program → Option Function → Point → Bool
may_be_at p (Some f) (Arrival path) = arrives_later (manner_at p f path)
may_be_at p o b = true

-- whether code may stand at a position; nothing is said of nodes
abbrev pub may_be : Program → Text → Position → Bool
may_be p x (InTree b) = may_be_at p (function_named p x) b
may_be p x (InGraph l n) = true
