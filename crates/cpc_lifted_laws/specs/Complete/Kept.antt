-- Items of an event program beside those of its source: what native code finds among them.
use Rattle.std.specs.Prelude.{◌≡◌, ℕ, Bool, true, ◌&&◌, List, [], ◌∷◌, reverse, Some}
use Rattle.cpc_base.specs.Bytes.{Text}
use Rattle.cpc_tree.specs.declared.program.Mode.{Mode}
use Rattle.cpc_tree.specs.declared.program.Mode.TheVariants.{Native, Cps}
use Rattle.cpc_tree.specs.Syntax.{Ty, TyVoid, Program}
use Rattle.cpc_tree.specs.Typing.{Meant, ALocal, AGlobal, AFunction, NotMeant, cells, field, is_scalar}
use Rattle.cpc_tree.specs.Primitives.{Primitive, primitive_named}
use Rattle.cpc_check_rules.specs.Scopes.{in_items}
use Rattle.cpc_convert_common.specs.Converted.{spawner_name}

-- what a name stands for in a source, and in its event program: the same, but for names of cps functions and those that stand for nothing
pub data KeptName (x : Text) : Meant → Meant → Type 0 where
  KeptLocal : (j k : ℕ) (t : Ty) → KeptName x (ALocal j t) (ALocal k t)
  KeptGlobal : (j k : ℕ) (t : Ty) → KeptName x (AGlobal j t) (AGlobal k t)
  KeptFunction : (mode : Mode) (r : Ty) (ps : List Ty) → KeptName x (AFunction mode r ps) (AFunction mode r ps)
  KeptCps : (r : Ty) (ps : List Ty) (m : Meant) → KeptName x (AFunction Cps r ps) m
  KeptNothing : (m : Meant) → ((prim : Primitive) → primitive_named x ≡ Some prim → m ≡ NotMeant) → KeptName x NotMeant m

abbrev pub all_scalar : List Ty → Bool
all_scalar [] = true
all_scalar (t ∷ ts) = is_scalar t && all_scalar ts

-- the items so far of a source, and those of its event program: what stays is found, types stay as they are, and a function that can be
-- spawned has its spawner, which takes what it takes
pub record KeepsItems (before after : Program) : Type 0 where
  pub names : (x : Text) → KeptName x (in_items (reverse before) x) (in_items (reverse after) x)
  pub cells : (t : Ty) (ts : List Ty) → cells before t ≡ Some ts → cells after t ≡ Some ts
  pub fields : (tag x : Text) (f : ℕ × Ty) → field before tag x ≡ Some f → field after tag x ≡ Some f
  pub spawners : (x : Text) (r : Ty) (ps : List Ty) → in_items (reverse before) x ≡ AFunction Cps r ps → all_scalar ps ≡ true → in_items (reverse after) (spawner_name x) ≡ AFunction Native TyVoid ps
