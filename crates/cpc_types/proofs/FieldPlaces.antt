-- The type of a field, whatever its offset is.
use Rattle.std.proofs.Common.{◌≡◌, ℕ, ◌+◌, Bool, true, false, if◌then◌else◌, List, [], ◌∷◌, Option, Some, None, is_some, bytes_eq, refl, ap, sym, ◌∙◌}
use Rattle.cpc_base.specs.Bytes.{Text}
use Rattle.cpc_tree.specs.Syntax.{Ty, TyStruct, Variable, Program}
use Rattle.cpc_tree.specs.Typing as T
use Rattle.cpc_tree.specs.Typing.{◌>>=◌}
use Rattle.cpc_shapes.specs.Found.{field_place}

place_of : Option (ℕ × Ty) → Option T.Typed
place_of None = None
place_of (Some f) = Some (T.APlace f.1)

-- one step of the search for a field
step : (b : Bool) (n : ℕ) (t : Ty) (o : Option ℕ) (p : Program) (fs : List Variable) (x : Text) → ((m : ℕ) → place_of (T.field_from p m fs x) ≡ field_place p fs x)
    → place_of (if b then Some (n, t) else (o >>= (λ k. T.field_from p (n + k) fs x))) ≡ (if b then Some (T.APlace t) else (if is_some o then field_place p fs x else None))
unfolding place_of
step true n t o p fs x h = refl
step false n t None p fs x h = refl
step false n t (Some k) p fs x h = h (n + k)

field_any : (p : Program) (fs : List Variable) (x : Text) (n : ℕ) → place_of (T.field_from p n fs x) ≡ field_place p fs x
unfolding place_of
field_any p [] x n = refl
field_any p (f ∷ fs) x n = step (bytes_eq f.called x) n f.type (T.size p f.type) p fs x (field_any p fs x)

place_is : (r : Option (ℕ × Ty)) → (r >>= (λ (f : ℕ × Ty). Some (T.APlace f.1))) ≡ place_of r
unfolding place_of
place_is None = refl
place_is (Some f) = refl

field_in : (p : Program) (x : Text) (o : Option (List Variable)) → ((o >>= (λ (fs : List Variable). T.field_from p 0 fs x)) >>= (λ (f : ℕ × Ty). Some (T.APlace f.1))) ≡ (o >>= (λ (fs : List Variable). field_place p fs x))
field_in p x None = refl
field_in p x (Some fs) = place_is (T.field_from p 0 fs x) ∙ field_any p fs x 0

-- the type of a field of a struct that has these fields
pub field_found : (p : Program) (tag x : Text) (fs : List Variable) → Some fs ≡ T.fields p tag → T.field_type p (Some (TyStruct tag)) x ≡ field_place p fs x
field_found p tag x fs e = field_in p x (T.fields p tag) ∙ ap (λ (o : Option (List Variable)). o >>= (λ (gs : List Variable). field_place p gs x)) (sym e)

-- a struct that is not declared has no field
pub field_absent : (p : Program) (tag x : Text) → None ≡ T.fields p tag → T.field_type p (Some (TyStruct tag)) x ≡ None
field_absent p tag x e = field_in p x (T.fields p tag) ∙ ap (λ (o : Option (List Variable)). o >>= (λ (gs : List Variable). field_place p gs x)) (sym e)

-- a field of a type is one of the struct of its tag
pub field_by_tag : (p : Program) (t : Ty) (tag x : Text) → Some tag ≡ T.struct_tag t → T.field_type p (Some t) x ≡ T.field_type p (Some (TyStruct tag)) x
field_by_tag p (TyStruct g) tag x e = let d : g ≡ tag = cc in ap (λ y. T.field_type p (Some (TyStruct y)) x) d
field_by_tag p t tag x e = cc

-- another type has no field
pub field_elsewhere : (p : Program) (t : Ty) (x : Text) → None ≡ T.struct_tag t → T.field_type p (Some t) x ≡ None
field_elsewhere p (TyStruct g) x e = cc
field_elsewhere p t x e = refl
