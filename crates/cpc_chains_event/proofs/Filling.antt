-- What is saved in the frames of an event program, and loaded from them.
use Rattle.std.proofs.Common.{◌≡◌, ℕ, zero, suc, ◌+◌, ◌<◌, Bool, true, false, ◌&&◌, ◌||◌, ◌==◌, cond, List, [], ◌∷◌, ◌++◌, map, length, slice_get, get_or, Some, refl, sym, ◌∙◌, ap, subst, codes, arith}
use Rattle.std.proofs.lemmas.Option.{slice_get-get_or}
use Rattle.cpc_base.specs.Bytes.{Text}
use Rattle.cpc_base.proofs.Truth.{and_both, eq_reflexive, or_by_second, lt_means}
use Rattle.cpc_num.specs.declared.kinds.Kind.TheVariants.{Int}
use Rattle.cpc_tree.specs.Lists.{holds_number}
use Rattle.cpc_tree.specs.Syntax.{Ty, TyVoid, TyInt, TyPointer, TyStruct, Variable, Function, Program}
use Rattle.cpc_tree.specs.Registers.{variables}
use Rattle.cpc_tree.specs.Typing.{Scope, is_scalar, field}
use Rattle.cpc_store.specs.Store.{Value, Unset, Whole, Null, At as Pointer, Code, Cond}
use Rattle.cpc_meaning.specs.Eval.{Slot}
use Rattle.cpc_convert_common.specs.Members.{Has}
use Rattle.cpc_forms.specs.Flow.{Place, Start, At}
use Rattle.cpc_convert_image_laws.specs.Locals.{local_type}
use Rattle.cpc_chains_store_laws.specs.Chains.{frame_cells}
use Rattle.cpc_chains_store_laws.specs.Driver.{any_pointer, head_fields}
use Rattle.cpc_meaning.specs.Eval.{Fits}
use Rattle.cpc_convert_flat_laws.specs.Locals.{Saving, NoSaving, AndSaving, Load, Loading, NoLoading, AndLoading, Scalars, AndScalar}
use Rattle.cpc_convert_flat_laws.specs.Structs.{IsStruct}
use Rattle.cpc_convert_routines.specs.Names.{piece_name, value_tag, frame_name, variable_name, box_tag}
use Rattle.cpc_convert_routines.specs.Routines.{Routine, routine_of, closure_of, is_plain, variable_of, variable_or, local_of, locals_of, variable_if, passed_from, passed, is_parameter}
use Rattle.cpc_convert_routines.specs.Arriving.{arriving_type}
use Rattle.cpc_chains_event.specs.Lines.{save_of}
use Rattle.cpc_chains_event.specs.Pieces.{load_of, below_if, value_load, loaded, loads_of}
use Rattle.cpc_convert_routines.specs.Taken.{takes_value}
use Rattle.cpc_chains_event.specs.Converted.{converted}
use Rattle.cpc_convert_routines.specs.Named.{IsNamed, IsCps}
use Rattle.cpc_convert_routines.specs.Given.{AllFit, NoneFit, OneFits, AllHold, NoneHold, OneHolds, value_before, ParametersAreScalar}
use Rattle.cpc_chains_event.specs.FillLaws.{AllFramesAreFilled}
use Rattle.cpc_chains_event.proofs.StructsThere.{arriving_scalar, leader_there, start_there}
use Rattle.cpc_chains_event.proofs.Locals.{NoneCalled, none_word, locals_scalar, closure_rise, loaded_below}
use Rattle.cpc_convert_routines.proofs.Numbers.{chosen_is, AllBelow, NoneBelow, OneBelow, rises_below}

-- ---- values that fit

-- a pointer is one of each pointer type
pointer_fits : (t u : Ty) (v : Value) → Fits (TyPointer t) v → Fits (TyPointer u) v
pointer_fits t u Unset e = refl
pointer_fits t u (Whole kind z) e = absurd (cc)
pointer_fits t u Null e = refl
pointer_fits t u (Pointer c n k) e = refl
pointer_fits t u (Code f) e = absurd (cc)
pointer_fits t u (Cond n) e = absurd (cc)

below_fits : (b : Bool) (f : Text) (v : Value) → Fits any_pointer v → Fits (below_if b f) v
below_fits true f v e = pointer_fits TyVoid (TyStruct (value_tag f)) v e
below_fits false f v e = e

-- ---- fields

-- the fields of these variables, the first of which is at this offset
abbrev pub FieldsFrom : Program → Text → ℕ → List Variable → Type 0
FieldsFrom q tag base xs = (i : ℕ) (x : Variable) → slice_get xs i ≡ Some x → field q tag x.called ≡ Some (base + i, x.type)

fields_later : (q : Program) (tag : Text) (base : ℕ) (x : Variable) (xs : List Variable) → FieldsFrom q tag base (x ∷ xs) → FieldsFrom q tag (suc base) xs
fields_later q tag base x xs h i y e = h (suc i) y e ∙ ap (λ n. Some (n, y.type)) (let z : base + suc i ≡ suc base + i = omega arith in z)

first_field : (q : Program) (tag : Text) (base : ℕ) (x : Variable) (xs : List Variable) → FieldsFrom q tag base (x ∷ xs) → field q tag x.called ≡ Some (base, x.type)
first_field q tag base x xs h = h 0 x refl ∙ ap (λ n. Some (n, x.type)) (let z : base + 0 ≡ base = omega arith in z)

-- those of a frame behind its head
struct_fields : (q : Program) (tag : Text) (t : Ty) (xs : List Variable) → IsStruct q tag (head_fields t xs) → FieldsFrom q tag 3 xs
struct_fields q tag t xs s i x e = s.field (suc (suc (suc i))) x e ∙ ap (λ n. Some (n, x.type)) (let z : suc (suc (suc i)) ≡ 3 + i = omega arith in z)

-- ---- saves and loads

pub saving_from : (q : Program) (scope : Scope) (slots : List Slot) (tag : Text) (base : ℕ) (xs : List Variable) (vs : List Value) → FieldsFrom q tag base xs → AllHold q scope slots xs vs → Saving q scope slots tag base (map save_of xs) vs
saving_from q scope slots tag base _ _ fs NoneHold = NoSaving base
saving_from q scope slots tag base _ _ fs (OneHolds x v xs vs h fits more) =
    AndSaving base (save_of x) x.type x.type v (map save_of xs) vs (first_field q tag base x xs fs) h fits (saving_from q scope slots tag (suc base) xs vs (fields_later q tag base x xs fs) more)

-- these values are the cells from this one on
abbrev CellsFrom : List Value → ℕ → List Value → Type 0
CellsFrom cells base vs = (i : ℕ) (v : Value) → slice_get vs i ≡ Some v → slice_get cells (base + i) ≡ Some v

cells_later : (cells : List Value) (base : ℕ) (v : Value) (vs : List Value) → CellsFrom cells base (v ∷ vs) → CellsFrom cells (suc base) vs
cells_later cells base v vs h i w e = ap (slice_get cells) (let z : suc base + i ≡ base + suc i = omega arith in z) ∙ h (suc i) w e

first_cell : (cells : List Value) (base : ℕ) (v : Value) (vs : List Value) → CellsFrom cells base (v ∷ vs) → slice_get cells base ≡ Some v
first_cell cells base v vs h = ap (slice_get cells) (let z : base ≡ base + 0 = omega arith in z) ∙ h 0 v refl

loading_from : (q : Program) (tag : Text) (cells : List Value) (base : ℕ) (xs : List Variable) (vs : List Value) → FieldsFrom q tag base xs → CellsFrom cells base vs → NoneCalled frame_name xs → Scalars xs → AllFit xs vs → Loading q tag frame_name cells (map load_of xs) vs
loading_from q tag cells base _ _ fs cs none sc NoneFit = NoLoading
loading_from q tag cells base _ _ fs cs none (AndScalar _ _ e sc) (OneFits x v xs vs fits more) =
    AndLoading (load_of x) x.type base v (map load_of xs) vs none.0 (first_field q tag base x xs fs) e (first_cell cells base v vs cs) fits fits
    (loading_from q tag cells (suc base) xs vs (fields_later q tag base x xs fs) (cells_later cells base v vs cs) none.1 sc more)

map_map : (r : Routine) (ks : List ℕ) → map (λ k. save_of (local_of r k)) ks ≡ map save_of (locals_of r ks)
map_map r [] = refl
map_map r (k ∷ ks) = ap (λ ss. save_of (local_of r k) ∷ ss) (map_map r ks)

-- the head of what a piece loads
head_loads : (p : Program) (r : Routine) (l : Place) (q : Program) (tag : Text) (u : Ty) (fields : List Variable) (piece : Text) (cs : List Value) (next v : Value) (vs : List Value) (ks : List ℕ) → IsStruct q tag (head_fields u fields) → is_scalar u ≡ true → (takes_value r l ≡ true → arriving_type p r l ≡ u) → Fits any_pointer next → (takes_value r l ≡ true → Fits u v)
    → Loading q tag frame_name (frame_cells (record { piece = piece; values = cs }) next v) (map load_of (locals_of r ks)) vs
    → Loading q tag frame_name (frame_cells (record { piece = piece; values = cs }) next v) (record { variable = codes "next__"; type = below_if (is_scalar r.function.result) r.function.called; field = codes "next__" } ∷ (value_load p r l ++ map load_of (locals_of r ks))) (next ∷ value_before (takes_value r l) v vs)
head_loads p r l q tag u fields piece cs next v vs ks s sc same fits fits' more =
    AndLoading _ any_pointer 1 next _ _ refl (s.field 1 _ refl) refl refl fits (below_fits (is_scalar r.function.result) r.function.called next fits) (go (takes_value r l) refl)
  where
    cells : List Value
    cells = frame_cells (record { piece = piece; values = cs }) next v

    go : (b : Bool) → takes_value r l ≡ b → Loading q tag frame_name cells (cond b (record { variable = codes "value__"; type = arriving_type p r l; field = codes "value__" } ∷ []) [] ++ map load_of (locals_of r ks)) (value_before b v vs)
    go true e =
        subst (λ t. Loading q tag frame_name cells (record { variable = codes "value__"; type = t; field = codes "value__" } ∷ map load_of (locals_of r ks)) (v ∷ vs)) (sym (same e))
        (AndLoading _ u 2 v _ vs refl (s.field 2 _ refl) sc refl (fits' e) (fits' e) more)
    go false e = more

module _ (p : Program) (ok : IsNamed p) (f : Function) (c : IsCps p f) where
  abbrev r : Routine
  r = routine_of p f

  abbrev kept : ℕ → List ℕ
  kept n = closure_of r (At n)

  saved : (n : ℕ) → Has n r.split.leaders → (scope : Scope) (slots : List Slot) (vs : List Value) → AllHold (converted p) scope slots (locals_of r (kept n)) vs → Saving (converted p) scope slots (piece_name f.called (At n)) 3 (map (λ k. save_of (local_of r k)) (kept n)) vs
  saved n h scope slots vs all =
      subst (λ ss. Saving (converted p) scope slots (piece_name f.called (At n)) 3 ss vs) (sym (map_map r (kept n)))
      (saving_from (converted p) scope slots (piece_name f.called (At n)) 3 (locals_of r (kept n)) vs (struct_fields (converted p) (piece_name f.called (At n)) (arriving_type p r (At n)) (locals_of r (kept n)) (leader_there p ok f c n h)) all)

  loads_leader : (n : ℕ) → Has n r.split.leaders → (next v : Value) (vs : List Value) → Fits any_pointer next → (takes_value r (At n) ≡ true → Fits (arriving_type p r (At n)) v) → AllFit (locals_of r (kept n)) vs
      → Loading (converted p) (piece_name f.called (At n)) frame_name (frame_cells (record { piece = piece_name f.called (At n); values = vs }) next v) (loads_of p r (At n)) (next ∷ value_before (takes_value r (At n)) v vs)
  loads_leader n h next v vs fits fits' all =
      let s = leader_there p ok f c n h in
      let below = rises_below (length (variables f)) 0 (kept n) (closure_rise p ok f c (At n)) in
      head_loads p r (At n) (converted p) (piece_name f.called (At n)) (arriving_type p r (At n)) (locals_of r (kept n)) (piece_name f.called (At n)) vs next v vs (kept n) s (arriving_scalar p r (At n)) (λ e. refl) fits fits'
      (loading_from (converted p) (piece_name f.called (At n)) (frame_cells (record { piece = piece_name f.called (At n); values = vs }) next v) 3 (locals_of r (kept n)) vs (struct_fields (converted p) (piece_name f.called (At n)) (arriving_type p r (At n)) (locals_of r (kept n)) s)
      (λ i w e. ap (slice_get (frame_cells (record { piece = piece_name f.called (At n); values = vs }) next v)) (let z : 3 + i ≡ suc (suc (suc i)) = omega arith in z) ∙ e) (none_word p ok f c (codes "e") (kept n) refl below) (locals_scalar p ok f c (kept n) below) all)

  -- ---- arguments

  -- the parameters, as they are passed
  pub passed_at : (base count : ℕ) (xs : List Variable) → ((i : ℕ) (x : Variable) → i < count → slice_get xs i ≡ Some x → is_scalar x.type ≡ true) → (i : ℕ) (x : Variable) → i < count → slice_get xs i ≡ Some x
      → slice_get (passed_from base count xs) i ≡ Some (record { called = variable_name (base + i) x.called; type = x.type })
  passed_at base zero xs sc i x h e = absurd (omega arith)
  passed_at base (suc n) [] sc i x h e = absurd (cc)
  passed_at base (suc n) (y ∷ ys) sc zero x h e =
      let same : y ≡ x = cc in
      ap (λ b. slice_get (variable_if b (record { called = variable_name base y.called; type = y.type }) (passed_from (suc base) n ys)) 0) (sc 0 y h refl)
      ∙ (ap (λ z. Some (record { called = variable_name base z.called; type = z.type })) same ∙ ap (λ m. Some (record { called = variable_name m x.called; type = x.type })) (let z : base ≡ base + 0 = omega arith in z))
  passed_at base (suc n) (y ∷ ys) sc (suc i) x h e =
      ap (λ b. slice_get (variable_if b (record { called = variable_name base y.called; type = y.type }) (passed_from (suc base) n ys)) (suc i)) (sc 0 y (omega arith) refl)
      ∙ (passed_at (suc base) n ys (λ j z g k. sc (suc j) z (omega arith) k) i x (omega arith) e ∙ ap (λ m. Some (record { called = variable_name m x.called; type = x.type })) (let z : suc base + i ≡ base + suc i = omega arith in z))

  -- the value of one that fits
  pub fit_at : (xs : List Variable) (vs : List Value) (i : ℕ) (x : Variable) → AllFit xs vs → slice_get xs i ≡ Some x → (slice_get vs i ≡ Some (get_or vs i Unset)) × Fits x.type (get_or vs i Unset)
  fit_at _ _ i x NoneFit e = absurd (cc)
  fit_at _ _ zero x (OneFits y v ys vs h more) e = let same : y ≡ x = cc in (refl, subst (λ z. Fits z.type v) same h)
  fit_at _ _ (suc i) x (OneFits y v ys vs h more) e = fit_at ys vs i x more e

  module _ (sc : ParametersAreScalar f) (next v : Value) (vs : List Value) (fits : Fits any_pointer next) (all : AllFit (passed f) vs) where
    abbrev cells : List Value
    cells = frame_cells (record { piece = piece_name f.called Start; values = vs }) next v

    abbrev args : List ℕ → List Value
    args ks = map (λ k. get_or vs k Unset) ks

    -- a parameter that is a register
    one_taken : (k : ℕ) → k < length (variables f) → (is_parameter f k && is_plain r k) ≡ true → Loading (converted p) (piece_name f.called Start) frame_name cells (map load_of (locals_of r (k ∷ []))) (args (k ∷ []))
    one_taken k h t =
        let parts = and_both (is_parameter f k) (is_plain r k) t in
        let less : k < length f.parameters = lt_means k (length f.parameters) parts.0 in
        let nothing : Variable = record { called = []; type = TyInt Int } in
        let there : slice_get (variables f) k ≡ Some (get_or (variables f) k nothing) = slice_get-get_or (variables f) k nothing h in
        let x = variable_of r k in
        let is_x : slice_get (variables f) k ≡ Some x = there ∙ ap (λ o. Some (variable_or o)) (sym there) in
        let at = passed_at 0 (length f.parameters) (variables f) sc k x less is_x ∙ ap (λ m. Some (record { called = variable_name m x.called; type = x.type })) (let z : 0 + k ≡ k = omega arith in z) in
        let s = start_there p ok f c in
        let fit = fit_at (passed f) vs k (record { called = variable_name k x.called; type = x.type }) all at in
        let none = none_word p ok f c (codes "e") (k ∷ []) refl (OneBelow k [] h NoneBelow) in
        subst (λ b. Loading (converted p) (piece_name f.called Start) frame_name cells (record { variable = variable_name k x.called; type = local_type b x.type (box_tag f.called k); field = variable_name k x.called } ∷ []) (args (k ∷ []))) (sym parts.1)
        (AndLoading _ x.type (suc (suc (suc k))) _ [] [] none.0 (s.field (suc (suc (suc k))) (record { called = variable_name k x.called; type = x.type }) at) (sc k x less is_x) fit.0 fit.1 fit.1 NoLoading)

    joined : (tag : Text) (ls ls' : List Load) (us us' : List Value) → Loading (converted p) tag frame_name cells ls us → Loading (converted p) tag frame_name cells ls' us' → Loading (converted p) tag frame_name cells (ls ++ ls') (us ++ us')
    joined tag _ ls' _ us' NoLoading h = h
    joined tag _ ls' _ us' (AndLoading l t i w ls us a b d e g g' more) h = AndLoading l t i w (ls ++ ls') (us ++ us') a b d e g g' (joined tag ls ls' us us' more h)

    all_taken : (ks : List ℕ) → AllBelow (length (variables f)) ks → ((k : ℕ) → holds_number ks k ≡ true → (is_parameter f k && is_plain r k) ≡ true) → Loading (converted p) (piece_name f.called Start) frame_name cells (map load_of (locals_of r ks)) (args ks)
    all_taken _ NoneBelow t = NoLoading
    all_taken _ (OneBelow k ks h more) t =
        joined (piece_name f.called Start) (map load_of (locals_of r (k ∷ []))) (map load_of (locals_of r ks)) (args (k ∷ [])) (args ks) (one_taken k h (t k (ap (λ b. b || holds_number ks k) (eq_reflexive k))))
        (all_taken ks more (λ j i. t j (or_by_second (k == j) (holds_number ks j) i)))

    takes_start : Loading (converted p) (piece_name f.called Start) frame_name cells (loads_of p r Start) (next ∷ args (loaded r Start))
    takes_start =
        head_loads p r Start (converted p) (piece_name f.called Start) (TyInt Int) (passed f) (piece_name f.called Start) vs next v (args (loaded r Start)) (loaded r Start) (start_there p ok f c) refl (λ e. absurd (cc)) fits (λ e. absurd (cc))
        (all_taken (loaded r Start) (loaded_below p ok f c Start) (λ k h. (chosen_is (λ j. is_parameter f j && is_plain r j) (closure_of r Start) k h).1))

pub frames_filled : AllFramesAreFilled
frames_filled p ok f c = record { saves = saved p ok f c; loads = loads_leader p ok f c; takes = λ sc next v vs fits all. takes_start p ok f c sc next v vs fits all }
