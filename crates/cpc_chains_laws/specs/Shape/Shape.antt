-- The shape of an event program: what it keeps of its source, and which functions it has besides.
use Rattle.std.specs.Prelude.{◌≡◌, ◌↔◌, ℕ, Bool, true, not, List, [], ◌∷◌, map, slice_get, Some}
use Rattle.cpc_base.specs.Bytes.{Text}
use Rattle.cpc_tree.specs.declared.program.Mode.TheVariants.{Native, Extern}
use Rattle.cpc_tree.specs.Lists.{holds_number}
use Rattle.cpc_tree.specs.Points.{Point}
use Rattle.cpc_tree.specs.Registers.{variables}
use Rattle.cpc_tree.specs.Syntax.{Stmt, Block, NoStmt, Variable, Item, GlobalItem, PrototypeItem, FunctionItem, Function, Program}
use Rattle.cpc_meaning.specs.Start.{main_name}
use Rattle.cpc_meaning.specs.Trees.{stood_at, scope_from}
use Rattle.cpc_convert_common.specs.Converted.{marked}
use Rattle.cpc_convert_common.specs.Members.{Has}
use Rattle.cpc_forms.specs.Control.{Node, IsOwner, Owns}
use Rattle.cpc_lift_laws.specs.Lift.{boxes}
use Rattle.cpc_lift_laws.specs.Used.{used_at}
use Rattle.cpc_convert_image_laws.specs.Images.{Readings}
use Rattle.cpc_convert_image_laws.specs.Locals.{readings_in, local_type}
use Rattle.cpc_chains_store_laws.specs.Driver.{drive_function}
use Rattle.cpc_convert_flat_laws.specs.Flat.{before, bare}
use Rattle.cpc_convert_routines.specs.Kept.{kept_function}
use Rattle.cpc_chains_event.specs.Converted.{main_function}
use Rattle.cpc_convert_routines.specs.Named.{IsCps, IsKept}
use Rattle.cpc_chains_event.specs.Pieces.{spawner_function}
use Rattle.cpc_chains_laws.specs.Shape.Help.{words, Between}
use Rattle.cpc_chains_laws.specs.Shape.Images.{Images}

-- the globals, in their order
abbrev pub globals : Program → List Item
globals [] = []
globals (GlobalItem x t start ∷ items) = GlobalItem x t start ∷ globals items
globals (_ ∷ items) = globals items

-- the declarations of `extern` functions, in their order
abbrev pub externs : Program → List Item
externs [] = []
externs (PrototypeItem Extern f r ps ∷ items) = PrototypeItem Extern f r ps ∷ externs items
externs (_ ∷ items) = externs items

-- whether the variable of a number is a register
abbrev pub is_plain : Program → Function → ℕ → Bool
is_plain p f k = not (holds_number (boxes p f.called) k)

-- how the names in scope at a point are read, where each variable has the local that is spelled so: a register as that local, any other variable
-- as the field of its name of what the local points to
abbrev pub names_at : Program → Function → (spelled : ℕ → Text → Text) → Point → Readings
names_at p f spelled a = readings_in (is_plain p f) spelled (scope_from (Some f) a)

-- no two variables of a function have one local, and none has a word
pub record AreApart (f : Function) (spelled : ℕ → Text → Text) : Type 0 where
  pub locals : (j k : ℕ) (x y : Variable) → slice_get (variables f) j ≡ Some x → slice_get (variables f) k ≡ Some y → spelled j x.called ≡ spelled k y.called → j ≡ k
  pub words : (k : ℕ) (x : Variable) → slice_get (variables f) k ≡ Some x → ¬ (Has (spelled k x.called) words)

-- a local of a function in which a variable stands is of its type, where the variable is a register, and else points to a struct
abbrev pub AreTyped : Program → (source made : Function) → (spelled : ℕ → Text → Text) → Type 0
AreTyped p f g spelled =
    (k : ℕ) (x v : Variable) → slice_get (variables f) k ≡ Some x → Has v (variables g) → v.called ≡ spelled k x.called → (tag : Text) × (v.type ≡ local_type (is_plain p f k) x.type tag)

-- each variable that is read or written at a point which the owner owns has its local there
abbrev pub HasLocals : Program → (source : Function) → (owner : Node) → (made : Function) → (spelled : ℕ → Text → Text) → Type 0
HasLocals p f owner g spelled =
    (a : Point) (k : ℕ) (x : Variable) → Owns p f owner a → slice_get (variables f) k ≡ Some x → holds_number (used_at (scope_from (Some f) a) (stood_at (Some f) a)) k ≡ true
    → (v : Variable) × Has v (variables g) × (v.called ≡ spelled k x.called)

-- What is made of f for an owner, where this is made for each: the images of the points that the owner owns, each once, under one reading of names,
-- and nothing else but help
pub record IsPiece (p : Program) (f : Function) (owner : Node) (made : Function → Node → Function) : Type 0 where
  pub rest : Text
  pub called : (made f owner).called ≡ marked f.called rest
  pub native : (made f owner).mode ≡ Native
  pub spelled : ℕ → Text → Text
  pub apart : AreApart f spelled
  pub typed : AreTyped p f (made f owner) spelled
  pub declared : HasLocals p f owner (made f owner) spelled
  pub points : List Point
  pub owned : (a : Point) → Has a points ↔ Owns p f owner a
  pub once : (a : Point) (i j : ℕ) → slice_get points i ≡ Some a → slice_get points j ≡ Some a → i ≡ j
  pub images : List Stmt
  pub are_images : Images p f (names_at p f spelled) made points images
  pub body : List Stmt
  pub is_body : (made f owner).body ≡ Block (before body NoStmt)
  pub between : Between images (map bare body)

-- where a function of the event program comes from: a native one, the one spawner of a cps function, an owner in a cps function, the driver, or a
-- `main` that spawns
pub data Origin (p : Program) (made : Function → Node → Function) : Function → Type 0 where
  Kept : (f : Function) → IsKept p f → Origin p made (kept_function f)
  ASpawner : (f : Function) → IsCps p f → Origin p made (spawner_function f)
  APiece : (f : Function) (owner : Node) → IsCps p f → IsOwner p f owner → Origin p made (made f owner)
  TheDriver : (f : Function) → IsCps p f → Origin p made drive_function
  TheMain : (f : Function) → IsCps p f → f.called ≡ main_name → Origin p made main_function

-- q has the shape of an event program of p
pub record Shape (p q : Program) : Type 0 where
  pub globals : globals q ≡ globals p
  pub externs : externs q ≡ externs p
  -- native functions stay, each spawn in them a call of the spawner
  pub kept : (f : Function) → IsKept p f → Has (FunctionItem (kept_function f)) q
  -- each cps function has a spawner, there is a driver, and a cps `main` is spawned
  pub spawners : (f : Function) → IsCps p f → Has (FunctionItem (spawner_function f)) q
  pub driver : (f : Function) → IsCps p f → Has (FunctionItem drive_function) q
  pub main : (f : Function) → IsCps p f → f.called ≡ main_name → Has (FunctionItem main_function) q
  -- each owner in a cps function has one function, which is that of no other
  pub made : Function → Node → Function
  pub pieces : (f : Function) (owner : Node) → IsCps p f → IsOwner p f owner → Has (FunctionItem (made f owner)) q × IsPiece p f owner made
  pub apart : (f g : Function) (a b : Node) → IsCps p f → IsOwner p f a → IsCps p g → IsOwner p g b → (made f a).called ≡ (made g b).called → (f ≡ g) × (a ≡ b)
  -- there is no other function
  pub all : (g : Function) → Has (FunctionItem g) q → Origin p made g
