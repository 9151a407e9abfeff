-- What is wanted at a place of a row.
use Rattle.std.proofs.Common.{◌≡◌, ℕ, zero, suc, ◌-◌, ◌<◌, ◌≤◌, List, map, length, replicate, get_or, Option, Some, None, option_map, refl, sym, ap, ◌∙◌, arith, max, ◌⊎◌, inl, inr, subst}
use Rattle.std.specs.Prelude.{slice_get}
use Rattle.std.proofs.lemmas.List.{length-replicate, get_or-replicate}
use Rattle.std.proofs.lemmas.Option.{slice_get-map, slice_get-get_or, slice_get_past}
use Rattle.cpc_tree.specs.declared.program.CType.{CType}
use Rattle.cpc_tree.specs.declared.program.Parameter.{Parameter}
use Rattle.cpc_tree.specs.Erase.{Names, type_of, parameter_of}
use Rattle.cpc_tree.specs.Typing.{parameter_type}
use Rattle.cpc_tree.specs.Primitives as P
use Rattle.cpc_tree.specs.PrimitiveNames.{primitive_of}
use Rattle.cpc_check_rules.specs.Calls as C
use Rattle.cpc_check_values.specs.declared.wants.Wanted.{Wanted}
use Rattle.cpc_tree.specs.declared.primitive.Primitive.{Primitive}
use Rattle.cpc_tree.specs.declared.primitive.Primitive.TheVariants as R
use Rattle.cpc_check_values.specs.Wants.{want_of, wants_of, front_wants, primitive_wants, section_wants}

pub row_wanted : (names : Names) (o : Option Wanted) (row : List Wanted) (place : ℕ) → o ≡ slice_get row place → option_map (want_of names) o ≡ slice_get (map (want_of names) row) place
row_wanted names o row place e = ap (option_map (want_of names)) e ∙ sym (slice_get-map (want_of names) row place)

-- ---- parameters

parameter_want : Names → Parameter → C.Wanted
parameter_want names p = C.Of (type_of names p.of)

wants_at : (names : Names) (ps : List Parameter) (i : ℕ) → slice_get (wants_of names ps) i ≡ option_map (parameter_want names) (slice_get ps i)
unfolding parameter_want
wants_at names ps i =
    slice_get-map (λ t. C.Of t) (map parameter_type (map (parameter_of names) ps)) i
    ∙ ap (option_map (λ t. C.Of t)) (slice_get-map parameter_type (map (parameter_of names) ps) i ∙ ap (option_map parameter_type) (slice_get-map (parameter_of names) ps i))
    ∙ thrice (slice_get ps i)
  where
    thrice : (o : Option Parameter) → option_map (λ t. C.Of t) (option_map parameter_type (option_map (parameter_of names) o)) ≡ option_map (parameter_want names) o
    thrice None = refl
    thrice (Some p) = refl

pub parameter_wanted : (names : Names) (ps : List Parameter) (i : ℕ) (p : Parameter) → i < length ps → p ≡ get_or ps i p → Some (C.Of (type_of names p.of)) ≡ slice_get (wants_of names ps) i
unfolding parameter_want
parameter_wanted names ps i p h e = sym (wants_at names ps i ∙ ap (option_map (parameter_want names)) (slice_get-get_or ps i p h ∙ ap (λ q. Some q) (sym e)))

pub parameter_past : (names : Names) (ps : List Parameter) (i : ℕ) → length ps ≤ i → None ≡ slice_get (wants_of names ps) i
parameter_past names ps i h = sym (wants_at names ps i ∙ ap (option_map (parameter_want names)) (slice_get_past ps i h))

-- ---- the parameters of a pointer's function

types_at : (names : Names) (ts : List CType) (i : ℕ) → slice_get (map (λ t. C.Of t) (map (type_of names) ts)) i ≡ option_map (λ t. C.Of t) (option_map (type_of names) (slice_get ts i))
types_at names ts i = slice_get-map (λ t. C.Of t) (map (type_of names) ts) i ∙ ap (option_map (λ t. C.Of t)) (slice_get-map (type_of names) ts i)

pub type_wanted : (names : Names) (ts : List CType) (i : ℕ) (t : CType) → i < length ts → t ≡ get_or ts i t → Some (C.Of (type_of names t)) ≡ slice_get (map (λ u. C.Of u) (map (type_of names) ts)) i
type_wanted names ts i t h e = sym (types_at names ts i ∙ ap (λ o. option_map (λ u. C.Of u) (option_map (type_of names) o)) (slice_get-get_or ts i t h ∙ ap (λ q. Some q) (sym e)))

pub type_past : (names : Names) (ts : List CType) (i : ℕ) → length ts ≤ i → None ≡ slice_get (map (λ u. C.Of u) (map (type_of names) ts)) i
type_past names ts i h = sym (types_at names ts i ∙ ap (λ o. option_map (λ u. C.Of u) (option_map (type_of names) o)) (slice_get_past ts i h))

-- ---- primitives

-- the function of a section matters to `rt_detach` alone
pub front_same : (names : Names) (p : Primitive) (given : ℕ) (o : Option (List Parameter)) → (p ≡ R.RtDetach → ⊥) → front_wants (primitive_of p) ≡ primitive_wants names (primitive_of p) given o
front_same names R.RtDetach given o h = absurd (h refl)
front_same names p given o h = refl

pub detach_front : (names : Names) (given : ℕ) (o : Option (List Parameter)) (i : ℕ) → i < 3 → slice_get (front_wants P.RtDetach) i ≡ slice_get (primitive_wants names P.RtDetach given o) i
detach_front names given o zero h = refl
detach_front names given o (suc zero) h = refl
detach_front names given o (suc (suc zero)) h = refl
detach_front names given o (suc (suc (suc i))) h = absurd (omega arith)

pub detach_rest : (names : Names) (given : ℕ) (o : Option (List Parameter)) (i : ℕ) → 3 ≤ i → slice_get (section_wants names given o) (i - 3) ≡ slice_get (primitive_wants names P.RtDetach given o) i
detach_rest names given o zero h = absurd (omega arith)
detach_rest names given o (suc zero) h = absurd (omega arith)
detach_rest names given o (suc (suc zero)) h = absurd (omega arith)
detach_rest names given o (suc (suc (suc i))) h = let e : suc (suc (suc i)) - 3 ≡ i = omega arith in ap (slice_get (section_wants names given o)) e

-- an argument in front of those for a section's function
pub front_row : (names : Names) (p : Primitive) (given : ℕ) (o : Option (List Parameter)) (i : ℕ) → ((p ≡ R.RtDetach) × (i < 3)) ⊎ (p ≡ R.RtDetach → ⊥) → slice_get (front_wants (primitive_of p)) i ≡ slice_get (primitive_wants names (primitive_of p) given o) i
front_row names p given o i (inl h) = subst (λ q. slice_get (front_wants (primitive_of q)) i ≡ slice_get (primitive_wants names (primitive_of q) given o) i) (sym h.0) (detach_front names given o i h.1)
front_row names p given o i (inr h) = ap (λ ws. slice_get ws i) (front_same names p given o h)

-- how many are wanted where no section's function is named
pub detach_count : (names : Names) (given : ℕ) → max given 4 ≡ length (primitive_wants names P.RtDetach given None)
detach_count names given =
    let n : length (replicate (max (given - 3) 1) C.Anything) ≡ max (given - 3) 1 = length-replicate (max (given - 3) 1) C.Anything in
    omega (arith, n)

-- anything is wanted so many times
pub anything_at : (n i : ℕ) → i < n → Some C.Anything ≡ slice_get (replicate n C.Anything) i
anything_at n i h =
    let long : i < length (replicate n C.Anything) = grind (arith, length-replicate n C.Anything) in
    sym (slice_get-get_or (replicate n C.Anything) i C.Anything long ∙ ap (λ w. Some w) (get_or-replicate n i C.Anything C.Anything h))

pub nothing_past : (n i : ℕ) → n ≤ i → None ≡ slice_get (replicate n C.Anything) i
nothing_past n i h = sym (slice_get_past (replicate n C.Anything) i (grind (arith, length-replicate n C.Anything)))
