-- The body of a spawner breaks no rule, wherever what it names is known.
use Rattle.std.proofs.Common.{◌≡◌, ℕ, zero, suc, ◌+◌, ◌≤◌, Bool, true, false, cond, List, [], ◌∷◌, ◌++◌, map, reverse, length, slice_get, bytes_eq, Some, None, refl, sym, ◌∙◌, ap, subst, arith, nat_le, pos}
use Rattle.std.specs.Prelude.{is_some}
use Rattle.std.proofs.lemmas.Bool.Decides.{nat_tests}
use Rattle.cpc_base.specs.Bytes.{Text}
use Rattle.cpc_base.specs.declared.stop.Dialect.TheVariants as D
use Rattle.cpc_base.proofs.Truth.{bytes_eq_fails_back}
use Rattle.cpc_num.specs.declared.kinds.Kind.TheVariants.{Int}
use Rattle.cpc_tree.specs.declared.program.Mode.TheVariants.{Native}
use Rattle.cpc_tree.specs.Located.{bare}
use Rattle.cpc_tree.specs.Registers.{variables}
use Rattle.cpc_tree.specs.Syntax.{Ty, TyVoid, TyInt, TyPointer, TyStruct, ENamed, EInteger, Stmt, Block, Declare, NoStmt, AndStmt, Variable, Function, FunctionItem, Program}
use Rattle.cpc_tree.specs.Typing.{ALocal, is_scalar, size, field, field_from, ◌>>=◌}
use Rattle.cpc_check_rules.specs.Scopes.{Scope, in_block, in_items, meant, measured, cell_limit, is_here}
use Rattle.cpc_check_rules.specs.Scopes as S
use Rattle.cpc_check_rules.specs.Operators.{Where}
use Rattle.cpc_check_rules.specs.FunctionRules.{is_kept, parameter_names, reserved_breaks, locals, labels, label_breaks, stray_breaks, many_breaks}
use Rattle.cpc_check_rules.specs.ItemRules.{parameter_block, body_breaks}
use Rattle.cpc_check_laws.proofs.Native.NativeValues.{event}
use Rattle.cpc_check_laws.proofs.Native.OnePlace.{parameter_here, stmt_here, item_again}
use Rattle.cpc_check_laws.proofs.Run.Names.{primitive_kept}
use Rattle.cpc_meaning.proofs.Functions.{text_same, texts_differ}
use Rattle.cpc_convert_common.specs.Marks.{has_marks}
use Rattle.cpc_convert_common.specs.Converted.{function_item}
use Rattle.cpc_forms.specs.Flow.{Start}
use Rattle.cpc_convert_flat_laws.specs.Flat.{before}
use Rattle.cpc_convert_flat_laws.specs.Structs.{NotCalled, NoneSo, NotSo, ScalarFields, AndField, IsStruct}
use Rattle.cpc_convert_flat_laws.specs.Locals.{Save, saves_one}
use Rattle.cpc_chains_store_laws.specs.Frames.{asks_block, fills_frame}
use Rattle.cpc_chains_store_laws.specs.Driver.{drive_name, code_field, next_field, head_fields, readies}
use Rattle.cpc_convert_flat_laws.proofs.Structs.{field_at}
use Rattle.cpc_convert_flat_laws.proofs.Rows.{before_append}
use Rattle.cpc_chains_laws.specs.Complete.Laws.{FlatFine}
use Rattle.cpc_chains_laws.specs.Complete.Flat.{Runs, AndDeclare, named_at, called, Savable, NoSave, AndSave, Distinct, NoneDistinct, AllOf, NoneAsked, NoneKept, NoneIsKept, AndUnkept, all_flat, labels_of, gotos_of, locals_of}
use Rattle.cpc_chains_laws.proofs.Complete.Flat.{rows_fine, flat_fine, first_meant, later_meant}
use Rattle.cpc_chains_laws.proofs.Complete.FrameRows.{PrimitivesFree, free_more, spawner_run}
use Rattle.cpc_lifted_laws.proofs.Complete.Kept.{over}
use Rattle.cpc_convert_routines.specs.Names.{piece_name, frame_name, variable_name}
use Rattle.cpc_chains_event.specs.Lines.{save_of}
use Rattle.cpc_chains_event.specs.Pieces.{parameter_of, spawner_function}
use Rattle.cpc_convert_routines.specs.Routines.{passed_from, passed, variable_if}
use Rattle.cpc_chains_event.specs.Converted.{converted}
use Rattle.cpc_convert_routines.specs.Named.{IsCps, TheStart}
use Rattle.cpc_chains_event.proofs.BoxesThere.{structs_there}
use Rattle.cpc_chains_event.proofs.Fields.{Rising, passed_rise, frame_fields, fields_behind}
use Rattle.cpc_chains_laws.proofs.Native.SpawnerCall.{passed_few}
use Rattle.cpc_chains_laws.proofs.Native.SpawnerScope.{no_frame, no_driver, no_piece, frame_piece}
use Rattle.cpc_chains_laws.specs.Rules.Laws.{Knows, BodyFine}
use Rattle.cpc_chains_laws.proofs.Rules.KeptRows.{Source}
use Rattle.cpc_chains_laws.proofs.Rules.Theorem.{source_of}
use Rattle.cpc_chains_laws.proofs.Rules.FunctionRows.{variable_free}
use Rattle.cpc_chains_laws.specs.Bodies.Laws.{SpawnersFine}

-- ---- structs

-- a struct of scalar fields is the same where the same structs are there
pub struct_there : (p items : Program) → Knows p items → (tag : Text) (fs : List Variable) → ScalarFields fs → IsStruct (converted p) tag fs → IsStruct items tag fs
struct_there p items k tag fs scalars s =
    let same = k.fields tag ∙ s.fields in record {
      fields = same;
      size = ap (λ o. o >>= λ xs. Some (length xs)) (k.cells (TyStruct tag)) ∙ s.size;
      field = λ i v e. ap (λ o. o >>= λ gs. field_from items 0 gs v.called) same ∙ (field_at items 0 fs i v scalars e ∙ ap (λ m. Some (m, v.type)) (let z : 0 + i ≡ i = omega arith in z));
    }

-- ---- parameters

abbrev pub block_of : S.Block → List Variable → S.Block
block_of b xs = parameter_block b (map parameter_here (map parameter_of xs))

-- a name that no parameter has
pub past : (x : Text) (b : S.Block) (xs : List Variable) → NotCalled x xs → in_block (block_of b xs) x ≡ in_block b x
past x b _ NoneSo = refl
past x b _ (NotSo y ys e h) = past x (y ∷ b) ys h ∙ ap (λ c. cond c (Some y.type) (in_block b x)) (bytes_eq_fails_back x y.called e)

-- a parameter
pub at_name : (b : S.Block) (xs : List Variable) → ScalarFields xs → (i : ℕ) (x : Variable) → slice_get xs i ≡ Some x → in_block (block_of b xs) x.called ≡ Some x.type
at_name b [] s i x e = absurd (cc)
at_name b (y ∷ ys) (AndField _ _ _ n s) zero x e =
    let same : y ≡ x = cc in
    subst (λ (z : Variable). in_block (block_of (y ∷ b) ys) z.called ≡ Some z.type) same (past y.called (y ∷ b) ys n ∙ ap (λ c. cond c (Some y.type) (in_block b y.called)) (text_same y.called))
at_name b (y ∷ ys) (AndField _ _ _ n s) (suc i) x e = at_name (y ∷ b) ys s i x e

-- ---- saves

savable : (v : Where) (tag : Text) (xs : List Variable) → ScalarFields xs → ((i : ℕ) (x : Variable) → slice_get xs i ≡ Some x → (n : ℕ) × (field v.scope.items tag x.called ≡ Some (n, x.type)) × (meant v.scope x.called ≡ ALocal 0 x.type))
    → Savable v tag (map save_of xs)
savable v tag [] s h = NoSave
savable v tag (x ∷ xs) (AndField _ _ e _ s) h =
    let a = h 0 x refl in AndSave (save_of x) (map save_of xs) a.0 0 x.type a.1 e a.2 (savable v tag xs s (λ i y k. h (suc i) y k))

-- ---- flat lines

saves_flat : (e : _) (ps : List Save) (rest : List Stmt) → all_flat rest ≡ true → all_flat (map (saves_one e) ps ++ rest) ≡ true
saves_flat e [] rest h = h
saves_flat e (p ∷ ps) rest h = saves_flat e ps rest h

saves_labels : (e : _) (ps : List Save) (rest : List Stmt) → labels_of (map (saves_one e) ps ++ rest) ≡ labels_of rest
saves_labels e [] rest = refl
saves_labels e (p ∷ ps) rest = saves_labels e ps rest

saves_gotos : (e : _) (ps : List Save) (rest : List Stmt) → gotos_of (map (saves_one e) ps ++ rest) ≡ gotos_of rest
saves_gotos e [] rest = refl
saves_gotos e (p ∷ ps) rest = saves_gotos e ps rest

saves_locals : (e : _) (ps : List Save) (rest : List Stmt) → locals_of (map (saves_one e) ps ++ rest) ≡ locals_of rest
saves_locals e [] rest = refl
saves_locals e (p ∷ ps) rest = saves_locals e ps rest

names_many : (xs : List Variable) → length (parameter_names (map parameter_here (map parameter_of xs))) ≡ length xs
names_many [] = refl
names_many (x ∷ xs) = ap suc (names_many xs)

-- ---- names that are not kept

-- no parameter is called by a name that the language keeps
kept_apart : (y : Text) → is_kept y ≡ true → (k count : ℕ) (xs : List Variable) → ((j : ℕ) (x : Variable) → slice_get xs j ≡ Some x → is_kept x.called ≡ false) → NotCalled y (passed_from k count xs)
kept_apart y e k zero xs h = NoneSo
kept_apart y e k (suc n) [] h = NoneSo
kept_apart y e k (suc n) (x ∷ xs) h = go (is_scalar x.type) (kept_apart y e (suc k) n xs (λ j z i. h (suc j) z i))
  where
    apart : bytes_eq y (variable_name k x.called) ≡ false
    apart = texts_differ y (variable_name k x.called) (λ (i : y ≡ variable_name k x.called). absurd (let z : true ≡ false = sym e ∙ (ap is_kept i ∙ variable_free k x.called (h 0 x refl)) in cc))

    go : (b : Bool) → NotCalled y (passed_from (suc k) n xs) → NotCalled y (variable_if b (record { called = variable_name k x.called; type = x.type }) (passed_from (suc k) n xs))
    go true r = NotSo (record { called = variable_name k x.called; type = x.type }) (passed_from (suc k) n xs) apart r
    go false r = r

not_at : (y : Text) (xs : List Variable) → NotCalled y xs → (i : ℕ) (x : Variable) → slice_get xs i ≡ Some x → bytes_eq y x.called ≡ false
not_at y _ NoneSo i x e = absurd (cc)
not_at y _ (NotSo z zs d h) zero x e = let same : z ≡ x = cc in subst (λ (v : Variable). bytes_eq y v.called ≡ false) same d
not_at y _ (NotSo z zs d h) (suc i) x e = not_at y zs h i x e

-- ---- sizes

fits : (n : ℕ) → n ≤ 1024 → cond (nat_le n cell_limit) (Some n) None ≡ Some n
fits n h = grind (arith, nat_tests)

measured_is : (s : Scope) (t : Ty) (n : ℕ) → size s.items t ≡ Some n → n ≤ 1024 → measured s t ≡ Some n
measured_is s t n e h = let i : measured s t ≡ cond (nat_le n cell_limit) (Some n) None = simp e refl in i ∙ fits n h

-- ---- the spawner

module _ (p : Program) (source : Source p) (f : Function) (c : IsCps p f) (items : Program) (k : Knows p (items ++ function_item (spawner_function f) ∷ [])) where
  abbrev g : Function
  g = spawner_function f

  abbrev xs : List Variable
  xs = passed f

  abbrev tag : Text
  tag = piece_name f.called Start

  abbrev all : Program
  all = items ++ FunctionItem (spawner_function f) ∷ []

  abbrev frame : Variable
  frame = called frame_name (TyPointer (TyStruct tag))

  -- at the beginning, and behind the declaration
  abbrev w : Where
  w = event (over all (block_of [] (passed f) ∷ [])) Native TyVoid

  abbrev v : Where
  v = named_at w frame

  rise : Rising 0 xs
  rise = passed_rise p source.named f c

  fields_scalar : ScalarFields (head_fields (TyInt Int) xs)
  fields_scalar = frame_fields (TyInt Int) 0 xs refl rise

  scalars : ScalarFields xs
  scalars = fields_behind (TyInt Int) xs fields_scalar

  struct : IsStruct all tag (head_fields (TyInt Int) xs)
  struct = struct_there p all k tag (head_fields (TyInt Int) xs) fields_scalar ((structs_there p source.named).start f c)

  few : length xs ≤ 255
  few = let a = passed_few f in let b = (source.names.functions f c.has).few in omega (arith, a, b)

  outer : (x : Text) → NotCalled x xs → meant w.scope x ≡ in_items (reverse all) x
  outer x n = rw (past x [] xs n) refl

  free : PrimitivesFree v
  free = free_more w frame refl (λ x prim e.
      let i = primitive_kept x prim e in
      outer x (kept_apart x i 0 (length f.parameters) (variables f) (λ j y h. ((source.names.functions f c.has).plain j y h).unkept)) ∙ k.nothing x i)

  saves : Savable v tag (map save_of xs)
  saves = savable v tag xs scalars (λ i x e.
      let there : meant w.scope x.called ≡ ALocal 0 x.type = rw (at_name [] xs scalars i x e) refl in
      (suc (suc (suc i)), struct.field (suc (suc (suc i))) x e, later_meant w frame x.called (not_at frame_name xs (no_frame 0 xs rise) i x e) ∙ there))

  size_is : measured v.scope (TyStruct tag) ≡ Some (length (head_fields (TyInt Int) xs))
  size_is = measured_is v.scope (TyStruct tag) (length (head_fields (TyInt Int) xs)) struct.size (omega (arith, few))

  abbrev lines : List Stmt
  lines = asks_block frame_name tag ∷ (fills_frame (ENamed frame_name) (ENamed frame_name) code_field next_field tag (EInteger Int (pos 0)) (map save_of (passed f)) ++ readies frame_name ∷ [])

  runs : Runs w (Declare frame_name (TyPointer (TyStruct tag)) None ∷ lines) v
  runs = AndDeclare w v frame_name (TyPointer (TyStruct tag)) None lines here refl refl
      (spawner_run v refl refl free frame_name tag 0 (length (head_fields (TyInt Int) xs)) (map save_of xs) (first_meant w frame frame_name refl) size_is
      (record { code = (0, struct.field 0 _ refl); next = (1, struct.field 1 _ refl) })
      (later_meant w frame tag (frame_piece f.called unmarked) ∙ (outer tag (no_piece 0 xs rise f.called unmarked) ∙ k.pieces f c Start TheStart))
      (later_meant w frame drive_name refl ∙ (outer drive_name (no_driver 0 xs rise) ∙ k.driver)) saves)
    where
      unmarked : has_marks f.called ≡ false
      unmarked = source.named.unmarked (FunctionItem f) c.has

      here : is_here w.scope.blocks frame_name ≡ false
      here = ap is_some (past frame_name [] xs (no_frame 0 xs rise))

  flat : FlatFine (map parameter_here g.parameters) (Declare frame_name (TyPointer (TyStruct tag)) None ∷ lines)
  flat =
      let ps = map save_of xs in
      let last : List Stmt = readies frame_name ∷ [] in
      let names : locals_of (Declare frame_name (TyPointer (TyStruct tag)) None ∷ lines) ++ labels_of (Declare frame_name (TyPointer (TyStruct tag)) None ∷ lines) ≡ frame_name ∷ [] =
      ap (λ zs. frame_name ∷ (zs ++ labels_of (map (saves_one (ENamed frame_name)) ps ++ last))) (saves_locals (ENamed frame_name) ps last) ∙ ap (λ zs. frame_name ∷ zs) (saves_labels (ENamed frame_name) ps last) in
      let one : length (locals_of (Declare frame_name (TyPointer (TyStruct tag)) None ∷ lines)) ≡ 1 = ap (λ zs. suc (length zs)) (saves_locals (ENamed frame_name) ps last) in
      flat_fine (map parameter_here g.parameters) (Declare frame_name (TyPointer (TyStruct tag)) None ∷ lines) (saves_flat (ENamed frame_name) ps last refl) (subst Distinct (sym (saves_labels (ENamed frame_name) ps last)) NoneDistinct)
      (subst (AllOf (labels_of (Declare frame_name (TyPointer (TyStruct tag)) None ∷ lines))) (sym (saves_gotos (ENamed frame_name) ps last)) NoneAsked) (subst NoneKept (sym names) (AndUnkept frame_name [] refl NoneIsKept))
      (omega (arith, names_many xs, one, few))

  is_body : g.body ≡ Block (before (Declare frame_name (TyPointer (TyStruct tag)) None ∷ lines) NoStmt)
  is_body =
      ap (λ r. Block (AndStmt (Declare frame_name (TyPointer (TyStruct tag)) None) (AndStmt (asks_block frame_name tag) r)))
      (sym (before_append (fills_frame (ENamed frame_name) (ENamed frame_name) code_field next_field tag (EInteger Int (pos 0)) (map save_of xs)) (readies frame_name ∷ []) NoStmt))

  pub spawner_fine : BodyFine items g
  spawner_fine =
      let rows = rows_fine w v (Declare frame_name (TyPointer (TyStruct tag)) None ∷ lines) NoStmt runs refl in record {
        body =
            subst (λ i. body_breaks (event (over (items ++ i ∷ []) (parameter_block [] (map parameter_here g.parameters) ∷ [])) Native TyVoid) (stmt_here g.body) ≡ []) (sym (item_again (FunctionItem g)))
            (subst (λ s. body_breaks w (stmt_here s) ≡ []) (sym is_body) rows);
        names = subst (λ s. reserved_breaks D.Event (locals (stmt_here s) ++ labels (stmt_here s)) ≡ []) (sym is_body) flat.reserved;
        labelled = subst (λ s. label_breaks (stmt_here s) ≡ []) (sym is_body) flat.labelled;
        stray = subst (λ s. stray_breaks (stmt_here s) ≡ []) (sym is_body) flat.stray;
        few = subst (λ s. many_breaks D.Event (map parameter_here g.parameters) (stmt_here s) ≡ []) (sym is_body) flat.many;
      }

pub spawners_fine : SpawnersFine
spawners_fine list end p read h f c items k = spawner_fine (bare p) (source_of list end p read h) f c items k
