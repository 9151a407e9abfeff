-- What is assigned to a type fits it, and what fits a scalar type is loaded as it is.
use Rattle.std.proofs.Common.{◌≡◌, ℕ, true, List, slice_get, Some, refl, sym, ◌∙◌, ap}
use Rattle.cpc_base.specs.Bytes.{Text}
use Rattle.cpc_num.specs.declared.kinds.Kind.TheVariants.{Int}
use Rattle.cpc_num.specs.Number.{convert, same_kind}
use Rattle.cpc_num.proofs.KindLemmas.{convert-convert, same_kind-refl}
use Rattle.cpc_tree.specs.Syntax.{Ty, TyVoid, TyInt, TyCondvar, TyPointer, TyCode, TyStruct, TyArray}
use Rattle.cpc_tree.specs.Typing.{is_scalar}
use Rattle.cpc_store.specs.declared.values.Class.{Class}
use Rattle.cpc_store.specs.declared.values.Scalar.{Scalar}
use Rattle.cpc_store.specs.declared.values.Scalar.TheVariants as Sc
use Rattle.cpc_store.specs.Store.{Value, Unset, Whole, Null, At, Code, Cond, Store, cells_of, load, suits}
use Rattle.cpc_meaning.specs.Answer.{Gives, of_result}
use Rattle.cpc_meaning.specs.Layout.{scalar_of}
use Rattle.cpc_meaning.specs.Eval.{Slot, assigned, InCell, read}
use Rattle.cpc_meaning.specs.Eval.{Fits}
use Rattle.cpc_meaning.proofs.Scalars.{scalar_there}

-- what is assigned fits
pub assigned_fits : (t : Ty) (v w : Value) → assigned t v ≡ Gives w → Fits t w
assigned_fits t Unset w e = let f : Unset ≡ w = cc in ap (λ u. assigned t u) (sym f) ∙ ap Gives f
assigned_fits (TyInt kind) (Whole j z) w e =
    let f : Whole kind (convert kind z) ≡ w = cc in
    ap (λ u. assigned (TyInt kind) u) (sym f) ∙ ap (λ y. Gives (Whole kind y)) (convert-convert kind z) ∙ ap Gives f
assigned_fits (TyPointer t) (Whole j z) w e = let f : Null ≡ w = cc in ap (λ u. assigned (TyPointer t) u) (sym f) ∙ ap Gives f
assigned_fits (TyPointer t) Null w e = let f : Null ≡ w = cc in ap (λ u. assigned (TyPointer t) u) (sym f) ∙ ap Gives f
assigned_fits (TyPointer t) (At c n k) w e = let f : At c n k ≡ w = cc in ap (λ u. assigned (TyPointer t) u) (sym f) ∙ ap Gives f
assigned_fits (TyCode r ps) (Whole j z) w e = let f : Null ≡ w = cc in ap (λ u. assigned (TyCode r ps) u) (sym f) ∙ ap Gives f
assigned_fits (TyCode r ps) Null w e = let f : Null ≡ w = cc in ap (λ u. assigned (TyCode r ps) u) (sym f) ∙ ap Gives f
assigned_fits (TyCode r ps) (Code g) w e = let f : Code g ≡ w = cc in ap (λ u. assigned (TyCode r ps) u) (sym f) ∙ ap Gives f
assigned_fits TyCondvar (Cond n) w e = let f : Cond n ≡ w = cc in ap (λ u. assigned TyCondvar u) (sym f) ∙ ap Gives f
assigned_fits _ _ w e = absurd (cc)

-- what fits a scalar type suits its cell
pub fits_suits : (t : Ty) (x : Scalar) (v : Value) → scalar_of t ≡ Some x → Fits t v → suits x v ≡ true
fits_suits t x Unset e f = refl
fits_suits (TyInt kind) x (Whole j z) e f =
    let a : Sc.Int kind ≡ x = cc in
    let b : kind ≡ j = cc in
    ap (λ y. suits {C = Text} y (Whole j z)) (sym a) ∙ ap (λ k. same_kind kind k) (sym b) ∙ same_kind-refl kind
fits_suits (TyPointer t) x Null e f = let a : Sc.Pointer ≡ x = cc in ap (λ y. suits {C = Text} y Null) (sym a)
fits_suits (TyPointer t) x (At c n k) e f = let a : Sc.Pointer ≡ x = cc in ap (λ y. suits {C = Text} y (At c n k)) (sym a)
fits_suits (TyCode r ps) x Null e f = let a : Sc.Code ≡ x = cc in ap (λ y. suits {C = Text} y Null) (sym a)
fits_suits (TyCode r ps) x (Code g) e f = let a : Sc.Code ≡ x = cc in ap (λ y. suits {C = Text} y (Code g)) (sym a)
fits_suits TyCondvar x (Cond n) e f = let a : Sc.Cond ≡ x = cc in ap (λ y. suits {C = Text} y (Cond n)) (sym a)
fits_suits (TyInt kind) x Null e f = absurd (cc)
fits_suits (TyInt kind) x (At c n k) e f = absurd (cc)
fits_suits (TyInt kind) x (Code g) e f = absurd (cc)
fits_suits (TyInt kind) x (Cond n) e f = absurd (cc)
fits_suits (TyPointer t) x (Whole j z) e f = absurd (cc)
fits_suits (TyPointer t) x (Code g) e f = absurd (cc)
fits_suits (TyPointer t) x (Cond n) e f = absurd (cc)
fits_suits (TyCode r ps) x (Whole j z) e f = absurd (cc)
fits_suits (TyCode r ps) x (At c n k) e f = absurd (cc)
fits_suits (TyCode r ps) x (Cond n) e f = absurd (cc)
fits_suits TyCondvar x (Whole j z) e f = absurd (cc)
fits_suits TyCondvar x Null e f = absurd (cc)
fits_suits TyCondvar x (At c n k) e f = absurd (cc)
fits_suits TyCondvar x (Code g) e f = absurd (cc)
fits_suits TyVoid x (Whole j z) e f = absurd (cc)
fits_suits TyVoid x Null e f = absurd (cc)
fits_suits TyVoid x (At c n k) e f = absurd (cc)
fits_suits TyVoid x (Code g) e f = absurd (cc)
fits_suits TyVoid x (Cond n) e f = absurd (cc)
fits_suits (TyStruct tag) x v e f = absurd (cc)
fits_suits (TyArray t m) x v e f = absurd (cc)

read_cell : (t : Ty) (x : Scalar) (slots : List Slot) (s : Store) (c : Class) (n k : ℕ) → scalar_of t ≡ Some x → read slots s (Some t) (InCell c n k) ≡ of_result (load x c n k s)
read_cell (TyInt kind) x slots s c n k e = let f : Sc.Int kind ≡ x = cc in ap (λ y. of_result (load y c n k s)) f
read_cell TyCondvar x slots s c n k e = let f : Sc.Cond ≡ x = cc in ap (λ y. of_result (load y c n k s)) f
read_cell (TyPointer t) x slots s c n k e = let f : Sc.Pointer ≡ x = cc in ap (λ y. of_result (load y c n k s)) f
read_cell (TyCode r ps) x slots s c n k e = let f : Sc.Code ≡ x = cc in ap (λ y. of_result (load y c n k s)) f
read_cell TyVoid x slots s c n k e = absurd (cc)
read_cell (TyStruct tag) x slots s c n k e = absurd (cc)
read_cell (TyArray t m) x slots s c n k e = absurd (cc)

-- a cell with a value that fits is read as that value
pub read_fits : (t : Ty) (slots : List Slot) (s : Store) (c : Class) (n k : ℕ) (cells : List Value) (v : Value) → is_scalar t ≡ true → cells_of c n s ≡ Some cells → slice_get cells k ≡ Some v → Fits t v
    → read slots s (Some t) (InCell c n k) ≡ Gives v
read_fits t slots s c n k cells v e there is f =
    let x = scalar_there t e in
    let g = fits_suits t x.0 v x.1 f in
    read_cell t x.0 slots s c n k x.1 ∙ simp (there, is, g) refl
