-- The parts of a code type.
use Rattle.std.proofs.Common.{◌≡◌, suc, false, ◌&&◌, List, [], ◌∷◌, length, Some, refl, ap, ◌∙◌, Vec, Box, Global, rules}
use Rattle.cpc_base.proofs.Truth.{and_with_false}
use Rattle.cpc_tree.specs.Erase.{Names, type_of, types_of}
use Rattle.cpc_shapes.specs.Listed.{listed_of}
use Rattle.cpc_tree.specs.declared.program.CType.{CType, Row_of-CType, end_of-CType, more_of-CType}
use Rattle.cpc_tree.specs.declared.program.CType.TheVariants as C
use Rattle.cpc_tree.specs.declared.program.CType.TheViews.{the_lemmas}
use Rattle.cpc_tree.specs.declared.program.CType.TheBlock.{items-the_row-CType}
use Rattle.cpc_tree.specs.Syntax.{Ty, TyCode, Tys, AndTy}
use Rattle.cpc_tree.specs.Typing as T
use Rattle.cpc_shapes.specs.Shapes.{code_parts}

-- a Vec of types is the list of its types
types_listed : (names : Names) (n : _) (k : Row_of-CType n) → types_of names k ≡ listed_of names (items-the_row-CType n k)
types_listed names n end_of-CType = refl
types_listed names n (more_of-CType t rest) = ap (AndTy (type_of names t)) (types_listed names _ rest)

pub code_is : (names : Names) (b : Box CType Global) (ts : Vec CType Global) → type_of names (C.Code b ts) ≡ TyCode (type_of names b.value) (listed_of names ts.items)
code_is names b ts = search (rules, the_lemmas, types_listed)

pub code_at : (names : Names) (t : CType) (b : Box CType Global) (ts : Vec CType Global) → t ≡ C.Code b ts → type_of names t ≡ TyCode (type_of names b.value) (listed_of names ts.items)
code_at names t b ts e = ap (type_of names) e ∙ code_is names b ts

-- code types are one where their parts are
pub code_same : (r : Ty) (ps : Tys) (b q : Ty) (qs : Tys) → Some (q, qs) ≡ code_parts b → T.same_type (TyCode r ps) b ≡ (T.same_type r q && T.same_types ps qs)
code_same r ps (TyCode u us) q qs e = let g : (u, us) ≡ (q, qs) = cc in ap (λ (x : Ty × Tys). T.same_type r x.0 && T.same_types ps x.1) g
code_same r ps b q qs e = cc

-- rows of two lengths differ
pub lengths_differ : (names : Names) (xs ys : List CType) → (length xs ≡ length ys → ⊥) → T.same_types (listed_of names xs) (listed_of names ys) ≡ false
lengths_differ names [] [] f = absurd (f refl)
lengths_differ names [] (y ∷ ys) f = refl
lengths_differ names (x ∷ xs) [] f = refl
lengths_differ names (x ∷ xs) (y ∷ ys) f =
    let h : T.same_types (listed_of names xs) (listed_of names ys) ≡ false = lengths_differ names xs ys (λ e. f (ap suc e)) in
    rw h (and_with_false (T.same_type (type_of names x) (type_of names y)))
