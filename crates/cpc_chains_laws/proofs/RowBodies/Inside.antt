-- What names stand for behind the opening of a piece, as the rules see it.
use Rattle.std.proofs.Common.{◌≡◌, ℕ, Bool, true, false, cond, List, [], ◌∷◌, map, reverse, bytes_eq, Some, None, refl, sym, ◌∙◌}
use Rattle.cpc_base.specs.Bytes.{Text}
use Rattle.cpc_num.specs.declared.kinds.Kind.TheVariants.{Int}
use Rattle.cpc_tree.specs.declared.program.Mode.TheVariants.{Native}
use Rattle.cpc_tree.specs.Registers.{outer_scope}
use Rattle.cpc_tree.specs.Syntax.{Ty, TyVoid, TyInt, Variable, Function, Program}
use Rattle.cpc_tree.specs.Typing.{Meant, ALocal, AFunction, NotMeant, named, item_named, parameter_type}
use Rattle.cpc_tree.specs.Typing as T
use Rattle.cpc_tree.proofs.Named.{no_local}
use Rattle.cpc_check_rules.specs.Scopes as S
use Rattle.cpc_check_rules.specs.Scopes.{in_items, meant}
use Rattle.cpc_check_rules.specs.Operators.{Where}
use Rattle.cpc_check_laws.proofs.Native.NativeValues.{event}
use Rattle.cpc_check_laws.proofs.Run.Names.{primitive_kept}
use Rattle.cpc_lifted_laws.specs.Complete.Standing.{local_named, Tells}
use Rattle.cpc_chains_laws.specs.Complete.Flat.{all_named_at}
use Rattle.cpc_chains_laws.proofs.Complete.Flat.{opened}
use Rattle.cpc_chains_laws.proofs.Complete.FrameRows.{PrimitivesFree}
use Rattle.cpc_lifted_laws.proofs.Complete.Kept.{over}
use Rattle.cpc_chains_laws.proofs.Complete.Pieces.{told_local, told_free, opened_told}
use Rattle.cpc_lifted_laws.proofs.Complete.Standing.{tells_more}
use Rattle.cpc_convert_common.specs.Marks.{has_marks}
use Rattle.cpc_convert_common.specs.Converted.{spawner_name}
use Rattle.cpc_forms.specs.Flow.{Place, Start}
use Rattle.cpc_chains_store_laws.specs.Driver.{drive_name, any_pointer}
use Rattle.cpc_chains_event.specs.Converted.{converted}
use Rattle.cpc_chains_event.specs.FlatLaws.{piece_scope}
use Rattle.cpc_chains_event.specs.LocalLaws.{piece_locals, StandsIn}
use Rattle.cpc_convert_routines.specs.Named.{IsCps, IsOwner, TheStart}
use Rattle.cpc_convert_routines.specs.Names.{start_name, piece_name, pointer_name, frame_name}
use Rattle.cpc_chains_event.specs.Pieces.{parameter_of, called_so, loads_of, declares_of, piece_function}
use Rattle.cpc_convert_routines.specs.Routines.{Routine, routine_of, passed}
use Rattle.cpc_chains_event.proofs.Scopes.{nothing_hidden}
use Rattle.cpc_lifted_laws.proofs.Accepted.Used.{primitive_unmarked}
use Rattle.cpc_lifted_laws.specs.Piece.Known.{CpsKnown}
use Rattle.cpc_chains_laws.proofs.Piece.Scopes.{piece_meant}
use Rattle.cpc_chains_laws.proofs.Piece.Scopes as scopes
use Rattle.cpc_chains_laws.proofs.Call.Shown.{spawner_meant}
use Rattle.cpc_chains_laws.proofs.Wait.Meant.{start_meant, driver_meant}
use Rattle.cpc_chains_laws.specs.Rules.Laws.{Knows}

-- variables that are declared at a place of a native function leave it such a place
pub still_event : (items : Program) (blocks : List S.Block) (u : Ty) (xs : List Variable) → all_named_at (event (over items blocks) Native u) xs ≡ event (over items (all_named_at (event (over items blocks) Native u) xs).scope.blocks) Native u
still_event items blocks u [] = refl
still_event items blocks u (x ∷ xs) = still_event items (S.with_name (over items blocks) x).blocks u xs

-- a name that means no variable is that of none in scope
pub none_named : (q : Program) (scope : T.Scope) (x : Text) → ((k : ℕ) (t : Ty) → named q scope x ≡ ALocal k t → ⊥) → local_named scope x ≡ None
none_named q [] x h = refl
none_named q (l ∷ scope) x h = go (bytes_eq l.called x) h (λ i. none_named q scope x i)
  where
    go : (b : Bool) → ((k : ℕ) (t : Ty) → cond b (ALocal l.slot l.type) (named q scope x) ≡ ALocal k t → ⊥) → (((k : ℕ) (t : Ty) → named q scope x ≡ ALocal k t → ⊥) → local_named scope x ≡ None) → cond b (Some l) (local_named scope x) ≡ None
    go true h rest = absurd (h l.slot l.type refl)
    go false h rest = rest h

module _ (p : Program) (f : Function) (known : CpsKnown p f) (l : Place) (owner : IsOwner (routine_of p f) l) (all : Program) (k : Knows p all) where
  abbrev pub r : Routine
  r = routine_of p f

  abbrev sc : T.Scope
  sc = piece_scope p r l

  abbrev pub tag : Text
  tag = piece_name f.called l

  -- the block of the one parameter
  abbrev pub first_blocks : List S.Block
  first_blocks = (called_so pointer_name any_pointer ∷ []) ∷ []

  -- where the body of the piece begins
  abbrev pub begins : Where
  begins = event (over all first_blocks) Native any_pointer

  -- what the opening declares
  abbrev pub declared : List Variable
  declared = opened frame_name tag (loads_of p r l) (declares_of p r l)

  abbrev pub blocks : List S.Block
  blocks = (all_named_at begins declared).scope.blocks

  -- behind the opening
  abbrev pub inside : Where
  inside = event (over all blocks) Native any_pointer

  pub is_inside : all_named_at begins declared ≡ inside
  is_inside = still_event all first_blocks any_pointer declared

  pub told : Tells sc blocks
  told = opened_told begins frame_name tag (loads_of p r l) (declares_of p r l) (outer_scope (piece_function p r l)) 1 (tells_more [] ([] ∷ []) (called_so pointer_name any_pointer) 0 (λ x m. refl))

  -- a variable of the piece
  pub local : (x : Variable) → StandsIn x (piece_locals p r l) → meant inside.scope x.called ≡ ALocal 0 x.type
  local x at = told_local (converted p) sc blocks told x.called at.0 x.type ((scopes.meant p f known l owner).meant (converted p) at.0 x at.1) (in_items (reverse all) x.called)

  -- a name that means no variable of the piece stands for what it does among the items
  pub shown : (x : Text) → ((i : ℕ) (t : Ty) → named (converted p) sc x ≡ ALocal i t → ⊥) → meant inside.scope x ≡ in_items (reverse all) x
  shown x h = told_free sc blocks told x (none_named (converted p) sc x h) (in_items (reverse all) x)

  pub plain : (x : Text) → has_marks x ≡ false → meant inside.scope x ≡ in_items (reverse all) x
  plain x h = shown x (λ i t e. no_local 0 (converted p) x i t (sym (nothing_hidden p (converted p) r l x h) ∙ e))

  function_shown : (x : Text) (mode : _) (u : Ty) (ts : List Ty) → named (converted p) sc x ≡ AFunction mode u ts → meant inside.scope x ≡ in_items (reverse all) x
  function_shown x mode u ts h = shown x (λ i t e. let z : AFunction mode u ts ≡ ALocal i t = sym h ∙ e in absurd (cc))

  pub free : PrimitivesFree inside
  free x prim e = plain x (primitive_unmarked x prim e) ∙ k.nothing x (primitive_kept x prim e)

  pub piece : (m : Place) → IsOwner r m → meant inside.scope (piece_name f.called m) ≡ AFunction Native any_pointer (any_pointer ∷ [])
  piece m o = function_shown (piece_name f.called m) _ _ _ (piece_meant p f known l m o) ∙ k.pieces f known.found.cps m o

  pub driver : meant inside.scope drive_name ≡ AFunction Native TyVoid (any_pointer ∷ TyInt Int ∷ [])
  driver = function_shown drive_name _ _ _ (driver_meant p f known l owner) ∙ k.driver

  pub start : (g : Function) → IsCps p g → meant inside.scope (start_name g.called) ≡ AFunction Native any_pointer (any_pointer ∷ [])
  start g c = function_shown (start_name g.called) _ _ _ (start_meant p f known l owner g c) ∙ k.pieces g c Start TheStart

  pub spawner : (g : Function) → IsCps p g → meant inside.scope (spawner_name g.called) ≡ AFunction Native TyVoid (map parameter_type (map parameter_of (passed g)))
  spawner g c = function_shown (spawner_name g.called) _ _ _ (spawner_meant p f known l owner g c) ∙ k.spawners g c
