-- Locals that are loaded or declared.
use Rattle.std.proofs.Common.{◌≡◌, ℕ, Bool, true, false, List, [], ◌∷◌, ◌++◌, map, refl, sym, ap, ◌∙◌}
use Rattle.cpc_base.specs.Bytes.{Text}
use Rattle.cpc_tree.specs.Syntax.{Ty, Variable}
use Rattle.cpc_convert_flat_laws.specs.Locals.{loads_one, declares_one}
use Rattle.cpc_convert_routines.specs.Names.{frame_name, to_name, under_name, result_name}
use Rattle.cpc_chains_event.specs.Pieces.{load_of, called_so, to_frame, words_if}
use Rattle.cpc_convert_routines.specs.Routines.{Routine, local_of, locals_of, variable_if}
use Rattle.cpc_chains_lines.specs.Puts.{loads, declares}
use Rattle.cpc_chains_lines.specs.Written.{Written, puts}
use Rattle.cpc_chains_lines.proofs.Puts.{behind, map_both}

-- a local is loaded
abbrev pub loaded_as : Written → (name : Text) → Ty → (field : Text) → Written
loaded_as u x t f = puts u (loads_one frame_name (record { variable = x; type = t; field = f }) ∷ [])

-- by equal texts and types
pub loaded_so : (u w : Written) (x y f g : Text) (t s : Ty) → x ≡ y → t ≡ s → f ≡ g → w ≡ loaded_as u x t f → w ≡ loaded_as u y s g
loaded_so u w x y f g t s is_x is_t is_f e = e ∙ (ap (λ (z : Text). loaded_as u z t f) is_x ∙ (ap (λ (z : Ty). loaded_as u y z f) is_t ∙ ap (λ (z : Text). loaded_as u y s z) is_f))

-- all of these locals
pub loads_all : (r : Routine) (ks : List ℕ) → map (loads r) ks ≡ map (loads_one frame_name) (map load_of (locals_of r ks))
loads_all r [] = refl
loads_all r (k ∷ ks) = ap (λ l. loads r k ∷ l) (loads_all r ks)

pub declares_all : (r : Routine) (ks : List ℕ) → map (declares r) ks ≡ map declares_one (locals_of r ks)
declares_all r ks = sym (map_both declares_one (local_of r) ks)

-- ---- words

pub word_first : (b : Bool) (x : Variable) (xs : List Variable) → map declares_one (variable_if b x []) ++ map declares_one xs ≡ map declares_one (variable_if b x xs)
word_first true x xs = refl
word_first false x xs = refl

-- the words of a piece, by those that are given and are below, and that for the value
pub words_declared : (a b c : Bool) (t : Ty) (x y : Text) (u v w z : Written) → x ≡ to_name → y ≡ under_name
    → v ≡ puts u (map declares_one (variable_if a (called_so x to_frame) [])) → w ≡ puts v (map declares_one (variable_if b (called_so y to_frame) []))
    → z ≡ puts w (map declares_one (variable_if c (called_so result_name t) [])) → z ≡ puts u (map declares_one (words_if a b c t))
words_declared a b c t x y u v w z is_x is_y e f g =
    let given : v ≡ puts u (map declares_one (variable_if a (called_so to_name to_frame) [])) = e ∙ ap (λ (s : Text). puts u (map declares_one (variable_if a (called_so s to_frame) []))) is_x in
    let below : w ≡ puts v (map declares_one (variable_if b (called_so under_name to_frame) [])) = f ∙ ap (λ (s : Text). puts v (map declares_one (variable_if b (called_so s to_frame) []))) is_y in
    let last : z ≡ puts v (map declares_one (variable_if b (called_so under_name to_frame) (variable_if c (called_so result_name t) []))) =
    behind v w z (map declares_one (variable_if b (called_so under_name to_frame) [])) (map declares_one (variable_if c (called_so result_name t) [])) below g
    ∙ ap (puts v) (word_first b (called_so under_name to_frame) (variable_if c (called_so result_name t) [])) in
    behind u v z (map declares_one (variable_if a (called_so to_name to_frame) [])) (map declares_one (variable_if b (called_so under_name to_frame) (variable_if c (called_so result_name t) []))) given last
    ∙ ap (puts u) (word_first a (called_so to_name to_frame) (variable_if b (called_so under_name to_frame) (variable_if c (called_so result_name t) [])))
