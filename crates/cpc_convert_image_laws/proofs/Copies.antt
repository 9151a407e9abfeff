-- Cells are copied for a section, and written back after it, beside frames as in the store of the source.
use Rattle.std.proofs.Common.{ℕ, suc, List, [], ◌∷◌, sym}
use Rattle.std.specs.List.{All}
use Rattle.std.proofs.lemmas.List.Elements.{All-nil, All-cons, All-head, All-tail}
use Rattle.cpc_base.specs.Bytes.{Text}
use Rattle.cpc_tree.specs.Syntax.{Ty, TyPointer, Function, Program}
use Rattle.cpc_tree.specs.Typing.{parameter_types}
use Rattle.cpc_store.specs.declared.values.Class.{Class}
use Rattle.cpc_store.specs.declared.values.Scalar.{Scalar}
use Rattle.cpc_store.specs.Store.{Value, Unset, Whole, Null, At, Code, Cond, Store, Blocks}
use Rattle.cpc_meaning.specs.Answer.{Answer, ◌>>=◌}
use Rattle.cpc_meaning.specs.Copies.{copied, pointed_layout, copy_of, write_back, write_to}
use Rattle.cpc_meaning.specs.Layout.{layout, scalars}
use Rattle.cpc_convert_image_laws.specs.Held.{IsShared, IsHeld, IsHeldStore, beside}
use Rattle.cpc_convert_image_laws.specs.Relations.{Less, AsIs, Extends, SameHead, Meets, BothGive, BothFault, Stuck, Same, It, StoreBeside, InBoth}
use Rattle.cpc_convert_image_laws.proofs.Options.{less_then}
use Rattle.cpc_convert_image_laws.proofs.Answers.{same_then, needed_then}
use Rattle.cpc_convert_image_laws.proofs.Operators.{loads}
use Rattle.cpc_convert_image_laws.proofs.Arguments.{same_parameters}
use Rattle.cpc_convert_image_laws.proofs.Beside.{saves}

module _ (C : Text → Type 0) (frames : Blocks) where
  abbrev BothAll : Answer (List Value) → Answer (List Value) → Type 0
  BothAll a b = Meets (Same (All (IsHeld C))) a b

  module _ (s : Store) (source : IsHeldStore C s) where
    copied_alike : (wanted : List Scalar) (c : Class) (n k : ℕ) → IsShared c → BothAll (copied wanted c n k s) (copied wanted c n k (beside frames s))
    copied_alike [] c n k h = BothGive _ _ (It [] (All-nil (IsHeld C)))
    copied_alike (w ∷ wanted) c n k h =
        same_then (IsHeld C) (Same (All (IsHeld C))) _ _ _ _ (loads C s source frames w c n k h) λ v i.
        same_then (All (IsHeld C)) (Same (All (IsHeld C))) _ _ _ _ (copied_alike wanted c n (suc k) h) λ vs j.
        BothGive _ _ (It (v ∷ vs) (All-cons (IsHeld C) v vs i j))

    layout_less : (p q : Program) → Extends p q → (t : Ty) → Less (layout p t) (layout q t)
    layout_less p q types t = less_then _ _ _ _ (types.cells t) λ ts. AsIs (scalars ts)

    pointed_then : (p q : Program) → Extends p q → (ts : List Ty) (f g : List Scalar → Answer (List Value)) → ((x : List Scalar) → BothAll (f x) (g x)) → BothAll (pointed_layout p ts >>= f) (pointed_layout q ts >>= g)
    pointed_then p q types (TyPointer t ∷ ts) f g h = needed_then (Same (All (IsHeld C))) _ _ _ _ (layout_less p q types t) h
    pointed_then p q types [] f g h = Stuck _
    pointed_then p q types (_ ∷ ts) f g h = Stuck _

    -- the cells that a section takes
    pub copy_alike : (p q : Program) → Extends p q → (f g : Function) → SameHead f g → (v : Value) → IsHeld C v → BothAll (copy_of p f v s) (copy_of q g v (beside frames s))
    copy_alike p q types f g head (At c n k) h = rw (sym (same_parameters f g head)) (pointed_then p q types (parameter_types f) _ _ λ x. copied_alike x c n k h)
    copy_alike p q types f g head Unset h = BothGive _ _ (It [] (All-nil (IsHeld C)))
    copy_alike p q types f g head (Whole kind z) h = BothGive _ _ (It [] (All-nil (IsHeld C)))
    copy_alike p q types f g head Null h = BothGive _ _ (It [] (All-nil (IsHeld C)))
    copy_alike p q types f g head (Code x) h = BothGive _ _ (It [] (All-nil (IsHeld C)))
    copy_alike p q types f g head (Cond n) h = BothGive _ _ (It [] (All-nil (IsHeld C)))

  back_alike : (vs : List Value) (c : Class) (n k : ℕ) (s : Store) → IsHeldStore C s → IsShared c → All (IsHeld C) vs → Meets (StoreBeside C frames) (write_back vs c n k s) (write_back vs c n k (beside frames s))
  back_alike [] c n k s source h i = BothGive _ _ (InBoth s source)
  back_alike (v ∷ vs) c n k s source h i =
      go (λ t on. back_alike vs c n (suc k) t on h (All-tail (IsHeld C) v vs i)) _ _ (saves C frames s source c n k v h (All-head (IsHeld C) v vs i))
    where
      go : ((t : Store) → IsHeldStore C t → Meets (StoreBeside C frames) (write_back vs c n (suc k) t) (write_back vs c n (suc k) (beside frames t)))
          → (a b : Answer Store) → Meets (StoreBeside C frames) a b → Meets (StoreBeside C frames) (a >>= λ t. write_back vs c n (suc k) t) (b >>= λ t. write_back vs c n (suc k) t)
      go rest _ _ (BothGive _ _ (InBoth t on)) = rest t on
      go rest _ _ (BothFault fault) = BothFault fault
      go rest _ _ (Stuck b) = Stuck _

  -- the cells that a section brings back
  pub write_alike : (v : Value) (vs : List Value) (s : Store) → IsHeldStore C s → IsHeld C v → All (IsHeld C) vs → Meets (StoreBeside C frames) (write_to v vs s) (write_to v vs (beside frames s))
  write_alike (At c n k) vs s source h i = back_alike vs c n k s source h i
  write_alike Unset vs s source h i = BothGive _ _ (InBoth s source)
  write_alike (Whole kind z) vs s source h i = BothGive _ _ (InBoth s source)
  write_alike Null vs s source h i = BothGive _ _ (InBoth s source)
  write_alike (Code f) vs s source h i = BothGive _ _ (InBoth s source)
  write_alike (Cond n) vs s source h i = BothGive _ _ (InBoth s source)
