-- How functions are found by their names where prototypes and functions are listed one after the other.
use Rattle.std.proofs.Common.{◌≡◌, ℕ, Bool, true, false, List, [], ◌∷◌, ◌++◌, map, Some, bytes_eq, cond, refl, ap}
use Rattle.cpc_base.specs.Bytes.{Text}
use Rattle.cpc_tree.specs.Syntax.{Function, Program}
use Rattle.cpc_tree.specs.Typing.{Meant, AFunction, function_named, item_named, parameter_type}
use Rattle.cpc_convert_common.specs.Converted.{function_item, prototype}
use Rattle.cpc_convert_common.specs.Members.{Has, OnTop, Below}
use Rattle.cpc_meaning.proofs.Functions.{text_same}

pub skip_prototypes : (fs : List Function) (items : Program) (x : Text) → function_named (map prototype fs ++ items) x ≡ function_named items x
skip_prototypes [] items x = refl
skip_prototypes (f ∷ fs) items x = skip_prototypes fs items x

pub find_function : (fs : List Function) (items : Program) (g : Function) → Has g fs → ((h : Function) → Has h fs → bytes_eq h.called g.called ≡ true → h ≡ g)
    → function_named (map function_item fs ++ items) g.called ≡ Some g
find_function _ items g (OnTop _ fs) one = rw (text_same g.called) refl
find_function _ items g (Below _ f fs has) one =
    go (bytes_eq f.called g.called) refl (find_function fs items g has (λ h k e. one h (Below h f fs k) e))
  where
    go : (b : Bool) → bytes_eq f.called g.called ≡ b → function_named (map function_item fs ++ items) g.called ≡ Some g
        → cond b (Some f) (function_named (map function_item fs ++ items) g.called) ≡ Some g
    go true e rest = ap (λ h. Some h) (one f (OnTop f fs) e)
    go false e rest = rest

pub pass_functions : (fs : List Function) (items : Program) (x : Text) → ((h : Function) → Has h fs → bytes_eq h.called x ≡ false)
    → function_named (map function_item fs ++ items) x ≡ function_named items x
pass_functions [] items x none = refl
pass_functions (f ∷ fs) items x none = rw (none f (OnTop f fs)) (pass_functions fs items x (λ h k. none h (Below h f fs k)))

abbrev meant_by : Function → Meant
meant_by f = AFunction f.mode f.result (map parameter_type f.parameters)

pub find_prototype : (fs : List Function) (items : Program) (n : ℕ) (g : Function) → Has g fs → ((h : Function) → Has h fs → bytes_eq h.called g.called ≡ true → h ≡ g)
    → item_named n (map prototype fs ++ items) g.called ≡ AFunction g.mode g.result (map parameter_type g.parameters)
find_prototype _ items n g (OnTop _ fs) one = rw (text_same g.called) refl
find_prototype _ items n g (Below _ f fs has) one =
    go (bytes_eq f.called g.called) refl (find_prototype fs items n g has (λ h k e. one h (Below h f fs k) e))
  where
    go : (b : Bool) → bytes_eq f.called g.called ≡ b → item_named n (map prototype fs ++ items) g.called ≡ meant_by g
        → cond b (meant_by f) (item_named n (map prototype fs ++ items) g.called) ≡ meant_by g
    go true e rest = ap meant_by (one f (OnTop f fs) e)
    go false e rest = rest

pub pass_prototypes : (fs : List Function) (items : Program) (n : ℕ) (x : Text) → ((h : Function) → Has h fs → bytes_eq h.called x ≡ false)
    → item_named n (map prototype fs ++ items) x ≡ item_named n items x
pass_prototypes [] items n x none = refl
pass_prototypes (f ∷ fs) items n x none = rw (none f (OnTop f fs)) (pass_prototypes fs items n x (λ h k. none h (Below h f fs k)))

pub pass_items : (fs : List Function) (items : Program) (n : ℕ) (x : Text) → ((h : Function) → Has h fs → bytes_eq h.called x ≡ false)
    → item_named n (map function_item fs ++ items) x ≡ item_named n items x
pass_items [] items n x none = refl
pass_items (f ∷ fs) items n x none = rw (none f (OnTop f fs)) (pass_items fs items n x (λ h k. none h (Below h f fs k)))
