-- Rows of types that are compared type by type.
use Rattle.std.proofs.Common.{◌≡◌, ℕ, suc, ◌+◌, ◌<◌, ◌≤◌, Bool, true, false, ◌&&◌, ◌==◌, inl, inr, List, [], ◌∷◌, length, get_or, drop, map, Option, Some, None, refl, sym, ap, ◌∙◌, add-one, eq-eqb}
use Rattle.std.specs.Prelude.{slice_get}
use Rattle.std.proofs.lemmas.List.{drop_more, drop_all, length-map}
use Rattle.std.proofs.Common.{option_map}
use Rattle.std.proofs.lemmas.Option.{slice_get-map}
use Rattle.cpc_base.proofs.Truth.{and_second}
use Rattle.cpc_tree.specs.Erase.{Names, type_of, parameter_of}
use Rattle.cpc_tree.specs.Syntax.{Ty}
use Rattle.cpc_tree.specs.Typing.{same_type, same_types, tys_of, parameter_type}
use Rattle.cpc_tree.specs.declared.program.Parameter.{Parameter}
use Rattle.cpc_native_plans.specs.Rows.{parameter_list}
use Rattle.cpc_native_plans.specs.Calls.{is_same}
use Rattle.cpc_native_plans.proofs.Rowing.{rest_of}

same_length : (ts us : List Ty) → same_types (tys_of ts) (tys_of us) ≡ true → length ts ≡ length us
same_length [] [] e = refl
same_length [] (u ∷ us) e = absurd cc
same_length (t ∷ ts) [] e = absurd cc
same_length (t ∷ ts) (u ∷ us) e = ap suc (same_length ts us (and_second (same_type t u) (same_types (tys_of ts) (tys_of us)) e))

some_type : (names : Names) (o : Option Parameter) → option_map (λ (p : Parameter). type_of names p.of) o ≡ option_map parameter_type (option_map (parameter_of names) o)
some_type names None = refl
some_type names (Some p) = refl

-- the type of a parameter
pub parameter_found : (names : Names) (ps : List Parameter) (i : ℕ) (o : Option Parameter) → o ≡ slice_get ps i → option_map (λ (p : Parameter). type_of names p.of) o ≡ slice_get (parameter_list names ps) i
parameter_found names ps i o e =
    some_type names o ∙ (ap (λ q. option_map parameter_type (option_map (parameter_of names) q)) e
    ∙ (ap (option_map parameter_type) (sym (slice_get-map (parameter_of names) ps i)) ∙ sym (slice_get-map parameter_type (map (parameter_of names) ps) i)))

pub parameter_count : (names : Names) (ps : List Parameter) → length (parameter_list names ps) ≡ length ps
parameter_count names ps = length-map (map (parameter_of names) ps) parameter_type ∙ length-map ps (parameter_of names)

-- rows of other lengths
pub unlike : (ts us : List Ty) → (length ts == length us) ≡ false → same_types (tys_of ts) (tys_of us) ≡ false
unlike ts us e = go (same_types (tys_of ts) (tys_of us)) refl
  where
    clash : (length ts == length us) ≡ true → ⊥
    clash h = cc

    go : (b : Bool) → same_types (tys_of ts) (tys_of us) ≡ b → b ≡ false
    go true h = absurd (clash (eq-eqb (length ts) (length us) (same_length ts us h)))
    go false h = refl

-- the first types that are left
pub first_alike : (ts : List Ty) (i : ℕ) (u : Ty) (us : List Ty) → same_types (tys_of (drop i ts)) (tys_of (u ∷ us)) ≡ (is_same (slice_get ts i) u && same_types (tys_of (drop (suc i) ts)) (tys_of us))
first_alike ts i u us = elim (rest_of ts i) [
  | inl e ↦ rw (e.0, e.1) refl
  | inr e ↦ rw (e.1.0, e.1.1) refl
]

module _ (names : Names) (ts : List Ty) (ps : List Parameter) (i : ℕ) (d : Parameter) (within : i < length ps) where
  -- what is left of a row and of parameters, the first compared
  pub next_alike : same_types (tys_of (drop i ts)) (tys_of (parameter_list names (drop i ps)))
      ≡ (is_same (slice_get ts i) (type_of names (get_or ps i d).of) && same_types (tys_of (drop (i + 1) ts)) (tys_of (parameter_list names (drop (i + 1) ps))))
  next_alike =
      ap (λ l. same_types (tys_of (drop i ts)) (tys_of (parameter_list names l))) (drop_more ps i d within)
      ∙ (first_alike ts i (type_of names (get_or ps i d).of) (parameter_list names (drop (i + 1) ps))
      ∙ ap (λ n. is_same (slice_get ts i) (type_of names (get_or ps i d).of) && same_types (tys_of (drop n ts)) (tys_of (parameter_list names (drop (i + 1) ps)))) (sym (add-one i)))

  pub alike_more : (b : Bool) → b ≡ is_same (slice_get ts i) (type_of names (get_or ps i d).of) → b ≡ true → same_types (tys_of (drop i ts)) (tys_of (parameter_list names (drop i ps))) ≡ same_types (tys_of (drop (i + 1) ts)) (tys_of (parameter_list names (drop (i + 1) ps)))
  alike_more b e h = next_alike ∙ ap (λ x. x && same_types (tys_of (drop (i + 1) ts)) (tys_of (parameter_list names (drop (i + 1) ps)))) (sym e ∙ h)

  pub alike_not : (b : Bool) → b ≡ is_same (slice_get ts i) (type_of names (get_or ps i d).of) → b ≡ false → same_types (tys_of (drop i ts)) (tys_of (parameter_list names (drop i ps))) ≡ false
  alike_not b e h = next_alike ∙ ap (λ x. x && same_types (tys_of (drop (i + 1) ts)) (tys_of (parameter_list names (drop (i + 1) ps)))) (sym e ∙ h)

-- nothing is left
pub alike_all : (names : Names) (ts : List Ty) (ps : List Parameter) (i : ℕ) → length ts ≤ i → length ps ≤ i → same_types (tys_of (drop i ts)) (tys_of (parameter_list names (drop i ps))) ≡ true
alike_all names ts ps i h g = rw (drop_all i ts h, drop_all i ps g) refl
