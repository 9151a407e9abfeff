-- What is known of the names of an accepted program, as statements.
use Rattle.std.specs.Prelude.{◌≡◌, ◌≤◌, ℕ, true, false, length, map, slice_get, Some}
use Rattle.cpc_base.specs.Bytes.{Text}
use Rattle.cpc_tree.specs.Syntax.{Variable, Function, Item, StructItem, GlobalItem, PrototypeItem, FunctionItem, Program}
use Rattle.cpc_tree.specs.Primitives.{Primitive, primitive_named}
use Rattle.cpc_tree.specs.Typing.{AFunction, NotMeant, item_named, function_named, parameter_type}
use Rattle.cpc_tree.specs.Registers.{variables}
use Rattle.cpc_check_rules.specs.FunctionRules.{is_kept}
use Rattle.cpc_meaning.specs.Threads.{is_cps_mode}
use Rattle.cpc_convert_common.specs.Marks.{has_marks}
use Rattle.cpc_convert_common.specs.Members.{Has}
use Rattle.cpc_forms.specs.Order.{points}
use Rattle.cpc_convert_routines.specs.Named.{IsNamed}
use Rattle.cpc_lifted_laws.specs.Accepted.Accepted.{OfAccepted}

-- a name in which no two underscores stand side by side, and which the language does not keep for itself
pub record IsPlain (x : Text) : Type 0 where
  pub unmarked : has_marks x ≡ false
  pub unkept : is_kept x ≡ false

-- the name of an item
abbrev pub name_of : Item → Text
name_of (StructItem tag fs) = tag
name_of (GlobalItem x t start) = x
name_of (PrototypeItem mode f r ps) = f
name_of (FunctionItem f) = f.called

-- a function is found by its name, which means it; its variables have plain names, and are at most 255
pub record IsFound (p : Program) (f : Function) : Type 0 where
  pub found : function_named p f.called ≡ Some f
  pub meant : item_named 0 p f.called ≡ AFunction f.mode f.result (map parameter_type f.parameters)
  pub plain : (k : ℕ) (x : Variable) → slice_get (variables f) k ≡ Some x → IsPlain x.called
  pub few : length (variables f) ≤ 255

-- the names of a program: its items have plain names, its functions are found by them, what is found by a name is an item of that name,
-- cps functions have at most 1,000,001 points, and no item has the name of a primitive
pub record HasNames (p : Program) : Type 0 where
  pub items : (i : Item) → Has i p → IsPlain (name_of i)
  pub functions : (f : Function) → Has (FunctionItem f) p → IsFound p f
  pub there : (x : Text) (f : Function) → function_named p x ≡ Some f → Has (FunctionItem f) p × (f.called ≡ x)
  pub points : (f : Function) → Has (FunctionItem f) p → is_cps_mode f.mode ≡ true → length (points f.body) ≤ 1000001
  pub primitives : (x : Text) (prim : Primitive) → primitive_named x ≡ Some prim → item_named 0 p x ≡ NotMeant

-- so it is where the program is accepted
abbrev pub AcceptedHasNames : Type 0
AcceptedHasNames = OfAccepted HasNames

-- then the names are what the conversion asks
abbrev pub AcceptedIsNamed : Type 0
AcceptedIsNamed = OfAccepted IsNamed
