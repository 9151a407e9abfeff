-- The cps functions among items, one item after the other.
use Rattle.std.proofs.Common.{◌≡◌, ℕ, ◌+◌, ◌<◌, Bool, true, false, List, [], ◌∷◌, ◌++◌, length, take, get_or, refl, sym, ap, ◌∙◌}
use Rattle.std.proofs.lemmas.List.{take_more}
use Rattle.cpc_tree.specs.declared.program.Function.{Function}
use Rattle.cpc_tree.specs.declared.program.Item.{Item}
use Rattle.cpc_tree.specs.declared.program.Item.TheVariants as I
use Rattle.cpc_meaning.specs.Threads.{is_cps_mode}
use Rattle.cpc_forms_code.specs.Programs.{function_if, cps_functions}

if_more : (b : Bool) (f : Function) (xs ys : List Function) → function_if b f (xs ++ ys) ≡ function_if b f xs ++ ys
if_more true f xs ys = refl
if_more false f xs ys = refl

both_cps : (xs ys : List Item) → cps_functions (xs ++ ys) ≡ cps_functions xs ++ cps_functions ys
both_cps [] ys = refl
both_cps (I.Function f ∷ xs) ys = ap (function_if (is_cps_mode f.mode) f) (both_cps xs ys) ∙ if_more (is_cps_mode f.mode) f (cps_functions xs) (cps_functions ys)
both_cps (I.Struct tag fields ∷ xs) ys = both_cps xs ys
both_cps (I.Global word of start ∷ xs) ys = both_cps xs ys
both_cps (I.Prototype place mode word given parameters ∷ xs) ys = both_cps xs ys

-- one item more
pub cps_more : (xs : List Item) (i : ℕ) (x : Item) → i < length xs → x ≡ get_or xs i x → cps_functions (take i xs) ++ cps_functions (x ∷ []) ≡ cps_functions (take (i + 1) xs)
cps_more xs i x h is = sym (ap cps_functions (take_more xs i x h ∙ ap (λ y. take i xs ++ y ∷ []) (sym is)) ∙ both_cps (take i xs) (x ∷ []))
