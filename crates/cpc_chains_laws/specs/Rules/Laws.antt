-- That the event program of an accepted program breaks no rule, as statements.
use Rattle.std.specs.Prelude.{◌≡◌, true, false, [], ◌∷◌, ◌++◌, map, reverse}
use Rattle.cpc_base.specs.Bytes.{Text}
use Rattle.cpc_base.specs.declared.stop.Dialect.TheVariants as D
use Rattle.cpc_num.specs.declared.kinds.Kind.TheVariants.{Int}
use Rattle.cpc_tree.specs.declared.program.Mode.TheVariants.{Native}
use Rattle.cpc_tree.specs.Located.{LProgram, bare}
use Rattle.cpc_tree.specs.Syntax.{Ty, TyVoid, TyInt, Function, Program}
use Rattle.cpc_tree.specs.Typing.{AFunction, NotMeant, parameter_type, cells, fields}
use Rattle.cpc_check_rules.specs.Scopes.{in_items}
use Rattle.cpc_check_rules.specs.FunctionRules.{is_kept, reserved_breaks, locals, labels, label_breaks, stray_breaks, many_breaks}
use Rattle.cpc_check_rules.specs.ItemRules.{in_body, body_breaks}
use Rattle.cpc_check_rules.specs.Rules.{breaks}
use Rattle.cpc_check_laws.proofs.Native.OnePlace.{parameter_here, stmt_here, function_here}
use Rattle.cpc_lifted_laws.specs.Complete.Kept.{KeepsItems}
use Rattle.cpc_convert_common.specs.Marks.{has_marks}
use Rattle.cpc_convert_common.specs.Converted.{spawner_name, function_item}
use Rattle.cpc_convert_image_laws.specs.InPlace.{is_cps}
use Rattle.cpc_forms.specs.Flow.{Place}
use Rattle.cpc_chains_store_laws.specs.Driver.{drive_name, any_pointer}
use Rattle.cpc_chains_event.specs.Converted.{converted}
use Rattle.cpc_convert_routines.specs.Named.{IsCps, IsOwner}
use Rattle.cpc_convert_routines.specs.Names.{piece_name}
use Rattle.cpc_chains_event.specs.Pieces.{parameter_of, piece_function, spawner_function}
use Rattle.cpc_convert_routines.specs.Routines.{routine_of, passed}
use Rattle.cpc_lifted_laws.specs.Accepted.Accepted.{OfAccepted}

-- what what is made of a program knows of the items so far of its event program: what is made is declared, names of the source that are no
-- cps functions' stand for what they stand for at its end and wherever they are declared, those that the language keeps stand for nothing, and all structs are there
pub record Knows (p items : Program) : Type 0 where
  pub pieces : (f : Function) → IsCps p f → (l : Place) → IsOwner (routine_of p f) l → in_items (reverse items) (piece_name f.called l) ≡ AFunction Native any_pointer (any_pointer ∷ [])
  pub spawners : (f : Function) → IsCps p f → in_items (reverse items) (spawner_name f.called) ≡ AFunction Native TyVoid (map parameter_type (map parameter_of (passed f)))
  pub driver : in_items (reverse items) drive_name ≡ AFunction Native TyVoid (any_pointer ∷ TyInt Int ∷ [])
  pub stays : (x : Text) → has_marks x ≡ false → is_cps (in_items (reverse p) x) ≡ false → in_items (reverse items) x ≡ in_items (reverse p) x
  pub keeps : (front back : Program) → p ≡ front ++ back → KeepsItems front items
  pub nothing : (x : Text) → is_kept x ≡ true → in_items (reverse items) x ≡ NotMeant
  pub cells : (t : Ty) → cells items t ≡ cells (converted p) t
  pub fields : (tag : Text) → fields items tag ≡ fields (converted p) tag

-- of a function that is defined behind these items all but what is said at its head breaks no rule
pub record BodyFine (before : Program) (g : Function) : Type 0 where
  pub body : body_breaks (in_body D.Event before (function_here g)) (stmt_here g.body) ≡ []
  pub names : reserved_breaks D.Event (locals (stmt_here g.body) ++ labels (stmt_here g.body)) ≡ []
  pub labelled : label_breaks (stmt_here g.body) ≡ []
  pub stray : stray_breaks (stmt_here g.body) ≡ []
  pub few : many_breaks D.Event (map parameter_here g.parameters) (stmt_here g.body) ≡ []

-- so it is of each piece and each spawner, wherever what they name is known
pub record BodiesFine (p : Program) : Type 0 where
  pub pieces : (f : Function) → IsCps p f → (l : Place) → IsOwner (routine_of p f) l → (before : Program) → Knows p (before ++ function_item (piece_function p (routine_of p f) l) ∷ []) → BodyFine before (piece_function p (routine_of p f) l)
  pub spawners : (f : Function) → IsCps p f → (before : Program) → Knows p (before ++ function_item (spawner_function f) ∷ []) → BodyFine before (spawner_function f)

-- the event program breaks no rule of the dialect Event, at whatever places it stands
abbrev pub Unbroken : Program → Type 0
Unbroken p = (q : LProgram) → bare q ≡ converted p → breaks D.Event q ≡ []

-- it breaks none, where the bodies of what is made break none
abbrev pub BodiesSuffice : Type 0
BodiesSuffice = OfAccepted (λ p. BodiesFine p → Unbroken p)
