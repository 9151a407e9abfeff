-- How the names in scope at a point of a cps function are read in the piece of an owner: as in the piece where the owner keeps the variable. Of the
-- others nothing is asked; they are read as the frame, so that each name in scope has a reading.
use Rattle.std.proofs.Common.{◌≡◌, ℕ, Bool, true, false, ◌||◌, cond, if◌then◌else◌, List, [], ◌∷◌, ◌++◌, reverse, slice_get, bytes_eq, Option, Some, None, refl, sym, ◌∙◌, ap, subst}
use Rattle.cpc_base.specs.Bytes.{Text}
use Rattle.cpc_base.specs.declared.stop.Dialect.TheVariants as D
use Rattle.cpc_base.proofs.Truth.{eq_reflexive, true_not_false, not_fails}
use Rattle.cpc_tree.specs.declared.program.Mode.{Mode}
use Rattle.cpc_tree.specs.declared.program.Mode.TheVariants.{Extern, Native, Cps, Detached}
use Rattle.cpc_tree.specs.ItemGrammar.{all_named}
use Rattle.cpc_tree.specs.Lists.{holds_number}
use Rattle.cpc_tree.specs.Points.{Path, found}
use Rattle.cpc_tree.specs.Registers.{variables, slot_of, scope_in_function}
use Rattle.cpc_tree.specs.Syntax.{Ty, TyPointer, TyStruct, Stmts, Block, Variable, Parameter, Function, Item, FunctionItem, Program}
use Rattle.cpc_tree.specs.Typing as T
use Rattle.cpc_tree.specs.Typing.{Meant, ALocal, NotMeant, named, field}
use Rattle.cpc_check_rules.specs.Scopes as S
use Rattle.cpc_check_rules.specs.Scopes.{in_items, in_blocks, meant}
use Rattle.cpc_check_rules.specs.Operators.{Where, is_detached}
use Rattle.cpc_check_rules.specs.FunctionRules.{is_kept}
use Rattle.cpc_check_laws.proofs.Native.NativeValues.{cpc}
use Rattle.cpc_meaning.specs.Threads.{is_cps_mode}
use Rattle.cpc_lifted_laws.specs.Complete.Kept.{KeptName, KeptNothing, KeepsItems}
use Rattle.cpc_lifted_laws.specs.Complete.Reads.{Reads, ReadsLocal, ReadsField, Carries}
use Rattle.cpc_lifted_laws.specs.Complete.Standing.{local_named, local_or, Tells, Standing}
use Rattle.cpc_lifted_laws.proofs.Complete.Kept.{over}
use Rattle.cpc_chains_laws.proofs.Complete.Pieces.{piece_carries}
use Rattle.cpc_lifted_laws.proofs.Complete.Sources.{RowOf, row_of, point_standing}
use Rattle.cpc_lifted_laws.proofs.Complete.Standing.{tells_more}
use Rattle.cpc_convert_common.specs.Marks.{has_marks}
use Rattle.cpc_convert_common.specs.Members.{Has}
use Rattle.cpc_convert_common.proofs.Members.{has_left}
use Rattle.cpc_convert_image_laws.specs.Images.{Reading, AsLocal, Readings}
use Rattle.cpc_convert_image_laws.specs.Locals.{reading_of, readings_in, local_type}
use Rattle.cpc_forms.specs.Flow.{Place}
use Rattle.cpc_chains_store_laws.specs.Driver.{any_pointer}
use Rattle.cpc_convert_routines.specs.Named.{IsOwner}
use Rattle.cpc_convert_routines.specs.Names.{piece_name, box_tag, variable_name, frame_name}
use Rattle.cpc_chains_event.specs.Pieces.{called_so}
use Rattle.cpc_convert_routines.specs.Routines.{Routine, routine_of, closure_of, is_plain, variable_of, variable_or, local_of, stood_variable, readings_of}
use Rattle.cpc_chains_event.proofs.BoxesThere.{structs_there}
use Rattle.cpc_chains_event.proofs.Boxing.{held_has}
use Rattle.cpc_lifted_laws.proofs.Accepted.Scoped.{means_variable}
use Rattle.cpc_lifted_laws.proofs.Accepted.Used.{primitive_unmarked}
use Rattle.cpc_lifted_laws.specs.Piece.Known.{CpsKnown}
use Rattle.cpc_chains_laws.proofs.Piece.Scopes as scopes
use Rattle.cpc_chains_laws.specs.Rules.Laws.{Knows}
use Rattle.cpc_chains_laws.proofs.Rules.Parts.{declares_plain}
use Rattle.cpc_chains_laws.proofs.Rules.KeptRows.{Source}
use Rattle.cpc_lifted_laws.proofs.Rules.Meant.{nothing_meant}
use Rattle.cpc_chains_laws.proofs.RowBodies.Inside.{blocks, inside, local, plain}
use Rattle.cpc_lifted_laws.proofs.RowBodies.Occurring.{Same}
use Rattle.cpc_chains_laws.proofs.RowBodies.Opening.{box_field}

-- ---- scopes in which some variables are kept

-- the block of a scope
abbrev pub block_in : T.Scope → S.Block
block_in [] = []
block_in (y ∷ ys) = record { called = y.called; type = y.type } ∷ block_in ys

pub told_block : (xs : T.Scope) → Tells xs (block_in xs ∷ [])
told_block [] = λ x m. refl
told_block (y ∷ ys) = tells_more ys (block_in ys ∷ []) (record { called = y.called; type = y.type }) y.slot (told_block ys)

module _ (p : Program) (held : ℕ → Bool) (marks : ℕ → Bool) (other : Ty) where
  abbrev pub kept_type : Bool → Ty → Ty
  kept_type true t = t
  kept_type false t = other

  abbrev pub narrow_one : T.Local → T.Local
  narrow_one y = record { called = y.called; type = kept_type (held y.slot) y.type; slot = y.slot }

  -- the scope with the type of the frame in place of those that are not kept
  abbrev pub narrowed : T.Scope → T.Scope
  narrowed [] = []
  narrowed (y ∷ ys) = narrow_one y ∷ narrowed ys

  abbrev pub read_one : Bool → ℕ → Text → Reading
  read_one true j x = reading_of (marks j) (variable_name j x) x
  read_one false j x = AsLocal frame_name

  -- and their readings
  abbrev pub narrow : T.Scope → Readings
  narrow [] x = None
  narrow (y ∷ ys) x = if bytes_eq y.called x then Some (read_one (held y.slot) y.slot x) else narrow ys x

  -- these are held
  abbrev pub AreHeld : List ℕ → Type 0
  AreHeld js = (j : ℕ) → holds_number js j ≡ true → held j ≡ true

  pub narrow_same : (xs : T.Scope) (x : Text) (m : Meant) → AreHeld (slot_of xs x) → local_or (local_named xs x) m ≡ local_or (local_named (narrowed xs) x) m
  narrow_same [] x m h = refl
  narrow_same (y ∷ ys) x m h = go (bytes_eq y.called x) h (λ g. narrow_same ys x m g)
    where
      go : (b : Bool) → AreHeld (cond b (y.slot ∷ []) (slot_of ys x)) → (AreHeld (slot_of ys x) → local_or (local_named ys x) m ≡ local_or (local_named (narrowed ys) x) m)
          → local_or (cond b (Some y) (local_named ys x)) m ≡ local_or (cond b (Some (narrow_one y)) (local_named (narrowed ys) x)) m
      go true g rest = ap (λ c. ALocal 0 (kept_type c y.type)) (sym (g y.slot (ap (λ c. c || false) (eq_reflexive y.slot))))
      go false g rest = rest g

  pub narrow_reads : (xs : T.Scope) (x : Text) → AreHeld (slot_of xs x) → readings_in marks variable_name xs x ≡ narrow xs x
  narrow_reads [] x h = refl
  narrow_reads (y ∷ ys) x h = go (bytes_eq y.called x) h (λ g. narrow_reads ys x g)
    where
      go : (b : Bool) → AreHeld (cond b (y.slot ∷ []) (slot_of ys x)) → (AreHeld (slot_of ys x) → readings_in marks variable_name ys x ≡ narrow ys x)
          → cond b (Some (reading_of (marks y.slot) (variable_name y.slot x) x)) (readings_in marks variable_name ys x) ≡ cond b (Some (read_one (held y.slot) y.slot x)) (narrow ys x)
      go true g rest = ap (λ c. Some (read_one c y.slot x)) (sym (g y.slot (ap (λ c. c || false) (eq_reflexive y.slot))))
      go false g rest = rest g

  -- a variable in scope
  pub record IsNarrow (xs : T.Scope) (x : Text) (y : T.Local) : Type 0 where
    pub narrow_local : local_named (narrowed xs) x ≡ Some (narrow_one y)
    pub is_read : narrow xs x ≡ Some (read_one (held y.slot) y.slot x)
    pub is_named : named p xs x ≡ ALocal y.slot y.type

  pub is_narrow : (xs : T.Scope) (x : Text) (y : T.Local) → local_named xs x ≡ Some y → IsNarrow xs x y
  is_narrow [] x y e = absurd (cc)
  is_narrow (z ∷ zs) x y e = go (bytes_eq z.called x) refl e (λ i. is_narrow zs x y i)
    where
      go : (b : Bool) → bytes_eq z.called x ≡ b → cond b (Some z) (local_named zs x) ≡ Some y → (local_named zs x ≡ Some y → IsNarrow zs x y) → IsNarrow (z ∷ zs) x y
      go true b i rest =
          let same : z ≡ y = cc in
          subst (λ w. IsNarrow (z ∷ zs) x w) same (record {
            narrow_local = ap (λ c. cond c (Some (narrow_one z)) (local_named (narrowed zs) x)) b;
            is_read = ap (λ c. cond c (Some (read_one (held z.slot) z.slot x)) (narrow zs x)) b;
            is_named = ap (λ c. cond c (ALocal z.slot z.type) (named p zs x)) b;
          })
      go false b i rest =
          let d = rest i in
          record {
            narrow_local = ap (λ c. cond c (Some (narrow_one z)) (local_named (narrowed zs) x)) b ∙ d.narrow_local;
            is_read = ap (λ c. cond c (Some (read_one (held z.slot) z.slot x)) (narrow zs x)) b ∙ d.is_read;
            is_named = ap (λ c. cond c (ALocal z.slot z.type) (named p zs x)) b ∙ d.is_named;
          }

  -- a name of no variable
  pub none_narrow : (xs : T.Scope) (x : Text) → local_named xs x ≡ None → (local_named (narrowed xs) x ≡ None) × (narrow xs x ≡ None)
  none_narrow [] x e = (refl, refl)
  none_narrow (z ∷ zs) x e = go (bytes_eq z.called x) refl e (λ i. none_narrow zs x i)
    where
      go : (b : Bool) → bytes_eq z.called x ≡ b → cond b (Some z) (local_named zs x) ≡ None → (local_named zs x ≡ None → (local_named (narrowed zs) x ≡ None) × (narrow zs x ≡ None)) → (local_named (narrowed (z ∷ zs)) x ≡ None) × (narrow (z ∷ zs) x ≡ None)
      go true b i rest = absurd (cc)
      go false b i rest =
          let d = rest i in
          (ap (λ c. cond c (Some (narrow_one z)) (local_named (narrowed zs) x)) b ∙ d.0, ap (λ c. cond c (Some (read_one (held z.slot) z.slot x)) (narrow zs x)) b ∙ d.1)

-- ---- the source

-- the form of a function as the grammar reads it
pub record IsFormed (f : Function) : Type 0 where
  pub statements : Stmts
  pub is_block : f.body ≡ Block statements
  pub named : all_named (λ (q : Parameter). q.called) f.parameters ≡ true

cps_open : (m : Mode) → is_cps_mode m ≡ true → is_detached m ≡ false
cps_open Cps e = refl
cps_open Native e = refl
cps_open Extern e = refl
cps_open Detached e = absurd (cc)

module _ (p : Program) (source : Source p) (f : Function) (known : CpsKnown p f) (formed : IsFormed f) (l : Place) (owner : IsOwner (routine_of p f) l) (all : Program) (k : Knows p all) where
  abbrev pub r : Routine
  r = routine_of p f

  -- whether the owner keeps a variable
  abbrev pub held : ℕ → Bool
  held j = holds_number (closure_of r l) j

  abbrev pub frame_type : Ty
  frame_type = TyPointer (TyStruct (piece_name f.called l))

  pub row : RowOf D.Cpc [] p f
  row = row_of D.Cpc p [] p source.fine f.called f known.found.named

  -- the items so far where its body stands
  abbrev pub before : Program
  before = row.front ++ FunctionItem f ∷ []

  pub is_part : p ≡ before ++ row.rest
  is_part = row.is ∙ sym (assoc row.front (FunctionItem f ∷ []) row.rest)
    where
      assoc : (xs ys zs : Program) → (xs ++ ys) ++ zs ≡ xs ++ (ys ++ zs)
      assoc [] ys zs = refl
      assoc (x ∷ xs) ys zs = ap (λ us. x ∷ us) (assoc xs ys zs)

  pub keeps : KeepsItems before all
  keeps = k.keeps before row.rest is_part

  -- where its body stands
  abbrev pub source_at : List S.Block → Where
  source_at bs = cpc (over before bs) f.mode f.result

  -- what stands at a path of it breaks no rule
  pub standing : (path : Path) → Standing source_at (scope_in_function f path) (found f.body path)
  standing path = point_standing D.Cpc row.front f row.row formed.statements formed.is_block formed.named (source.steps f known.found.cps.has) path

  in_p : (i : Item) → Has i before → Has i p
  in_p i h = subst (Has i) (sym is_part) (has_left i before row.rest h)

  marked_nothing : (x : Text) → has_marks x ≡ true → in_items (reverse before) x ≡ NotMeant
  marked_nothing x e = nothing_meant x before (λ i h d. true_not_false (sym e ∙ (declares_plain p source.names source.named x i (in_p i h) d).0))

  -- a name that the language keeps is that of no item
  pub kept_nothing : (x : Text) → is_kept x ≡ true → in_items (reverse before) x ≡ NotMeant
  kept_nothing x e = nothing_meant x before (λ i h d. true_not_false (sym e ∙ (declares_plain p source.names source.named x i (in_p i h) d).1))

  pub kept_item : (x : Text) → KeptName x (in_items (reverse before) x) (meant (inside p f known l owner all k).scope x)
  kept_item x = go (has_marks x) refl
    where
      go : (b : Bool) → has_marks x ≡ b → KeptName x (in_items (reverse before) x) (meant (inside p f known l owner all k).scope x)
      go true e =
          subst (λ m. KeptName x m (meant (inside p f known l owner all k).scope x)) (sym (marked_nothing x e))
          (KeptNothing _ (λ prim i. absurd (let z : true ≡ false = sym e ∙ primitive_unmarked x prim i in cc)))
      go false e = subst (KeptName x (in_items (reverse before) x)) (sym (plain p f known l owner all k x e)) (keeps.names x)

  -- ---- a point

  module _ (path : Path) where
    abbrev pub scope : T.Scope
    scope = scope_in_function f path

    abbrev pub narrow_scope : T.Scope
    narrow_scope = narrowed p held (is_plain r) frame_type scope

    abbrev pub narrow_reading : Readings
    narrow_reading = narrow p held (is_plain r) frame_type scope

    abbrev pub narrow_blocks : List S.Block
    narrow_blocks = block_in narrow_scope ∷ []

    -- a variable that is kept, in its local
    kept_reads : (x : Text) (j : ℕ) (t : Ty) → slice_get (variables f) j ≡ Some (record { called = x; type = t }) → held j ≡ true → Reads (inside p f known l owner all k).scope x (Some (reading_of (is_plain r j) (variable_name j x) x)) (ALocal 0 t)
    kept_reads x j t e h = go (is_plain r j) refl at
      where
        at : meant (inside p f known l owner all k).scope (variable_name j x) ≡ ALocal 0 (local_type (is_plain r j) t (box_tag f.called j))
        at = subst (λ o. meant (inside p f known l owner all k).scope (stood_variable r j (variable_or o)).called ≡ ALocal 0 (stood_variable r j (variable_or o)).type) e (local p f known l owner all k (local_of r j) ((scopes.meant p f known l owner).kept j h))

        its_field : is_plain r j ≡ false → field all (box_tag f.called j) x ≡ Some (0, t)
        its_field i =
            subst (λ (w : Variable). field all (box_tag f.called j) w.called ≡ Some (0, w.type)) (ap variable_or e)
            (box_field p f known all k (box_tag f.called j) (variable_of r j) ((structs_there p known.names).box f known.found.cps j (held_has r.boxes j (not_fails (holds_number r.boxes j) i))))

        go : (b : Bool) → is_plain r j ≡ b → meant (inside p f known l owner all k).scope (variable_name j x) ≡ ALocal 0 (local_type b t (box_tag f.called j))
            → Reads (inside p f known l owner all k).scope x (Some (reading_of b (variable_name j x) x)) (ALocal 0 t)
        go true i m = ReadsLocal (variable_name j x) 0 0 t m
        go false i m = ReadsField (variable_name j x) x (box_tag f.called j) 0 0 0 t m (its_field i)

    one_reads : (x : Text) (y : T.Local) → slice_get (variables f) y.slot ≡ Some (record { called = x; type = y.type }) → (b : Bool) → held y.slot ≡ b
        → Reads (inside p f known l owner all k).scope x (Some (read_one p held (is_plain r) frame_type b y.slot x)) (ALocal 0 (kept_type p held (is_plain r) frame_type b y.type))
    one_reads x y e true h = kept_reads x y.slot y.type e h
    one_reads x y e false h = ReadsLocal frame_name 0 0 frame_type (local p f known l owner all k (called_so frame_name frame_type) (1, refl))

    variables_read : (x : Text) (z : T.Local) → local_named narrow_scope x ≡ Some z → Reads (inside p f known l owner all k).scope x (narrow_reading x) (ALocal 0 z.type)
    variables_read x z e = go (local_named scope x) refl
      where
        go : (o : Option T.Local) → local_named scope x ≡ o → Reads (inside p f known l owner all k).scope x (narrow_reading x) (ALocal 0 z.type)
        go None i = absurd (let w : None ≡ Some z = sym (none_narrow p held (is_plain r) frame_type scope x i).0 ∙ e in cc)
        go (Some y) i =
            let d = is_narrow p held (is_plain r) frame_type scope x y i in
            let is : Some (narrow_one p held (is_plain r) frame_type y) ≡ Some z = sym d.narrow_local ∙ e in
            let same : narrow_one p held (is_plain r) frame_type y ≡ z = cc in
            subst (λ (w : T.Local). Reads (inside p f known l owner all k).scope x (narrow_reading x) (ALocal 0 w.type)) same
            (subst (λ q. Reads (inside p f known l owner all k).scope x q (ALocal 0 (kept_type p held (is_plain r) frame_type (held y.slot) y.type))) (sym d.is_read)
            (one_reads x y (means_variable p f path x y.slot y.type d.is_named) (held y.slot) refl))

    items_read : (x : Text) → local_named narrow_scope x ≡ None → (narrow_reading x ≡ None) × KeptName x (in_items (reverse before) x) (meant (inside p f known l owner all k).scope x)
    items_read x e = go (local_named scope x) refl
      where
        go : (o : Option T.Local) → local_named scope x ≡ o → (narrow_reading x ≡ None) × KeptName x (in_items (reverse before) x) (meant (inside p f known l owner all k).scope x)
        go None i = ((none_narrow p held (is_plain r) frame_type scope x i).1, kept_item x)
        go (Some y) i = absurd (let w : Some (narrow_one p held (is_plain r) frame_type y) ≡ None = sym (is_narrow p held (is_plain r) frame_type scope x y i).narrow_local ∙ e in cc)

    -- the names are read so in the piece
    pub carries : Carries (source_at narrow_blocks) (inside p f known l owner all k) narrow_reading
    carries =
        piece_carries before all keeps f.mode f.result any_pointer narrow_scope narrow_blocks (blocks p f known l owner all k) narrow_reading (cps_open f.mode known.found.cps.mode) (told_block narrow_scope) variables_read items_read

    -- a name of a variable that is kept, or of no variable, stands for the same
    pub same_name : (bs : List S.Block) → Tells scope bs → (x : Text) → AreHeld p held (is_plain r) frame_type (slot_of scope x) → Same before bs narrow_blocks f.mode f.result D.Cpc x
    same_name bs tells x h =
        let m = in_items (reverse before) x in
        tells x m ∙ (narrow_same p held (is_plain r) frame_type scope x m h ∙ sym (told_block narrow_scope x m))

    -- and is read alike
    pub same_reading : (x : Text) → AreHeld p held (is_plain r) frame_type (slot_of scope x) → readings_of r scope x ≡ narrow_reading x
    same_reading x h = narrow_reads p held (is_plain r) frame_type scope x h
