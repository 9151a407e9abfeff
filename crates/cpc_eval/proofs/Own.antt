-- A function of the program, by what an index has under its name.
use Rattle.std.proofs.Common.{◌≡◌, ℕ, zero, suc, List, [], ◌∷◌, map, Option, Some, None, option_map, bytes_eq, false, refl, ap, sym, ◌∙◌}
use Rattle.std.proofs.Math.Logic.{∥∥₁_elim}
use Rattle.std.specs.Prelude.{slice_get}
use Rattle.cpc_base.specs.declared.names.Name.{Name}
use Rattle.cpc_tree.specs.Erase.{Names, text_of, parameter_of, function_of}
use Rattle.cpc_tree.specs.Syntax as S
use Rattle.cpc_tree.specs.Typing.{function_named}
use Rattle.cpc_tree.specs.declared.program.Function as GFunction
use Rattle.cpc_tree.specs.declared.program.Parameter.{Parameter}
use Rattle.cpc_tree.specs.declared.program.Word.{Word}
use Rattle.cpc_check_rules.specs.Apart.{AreApart}
use Rattle.cpc_native_points.specs.Depth.{numbers}
use Rattle.cpc_native_points.proofs.Ways.{numbers_apart}
use Rattle.cpc_eval_index.specs.declared.index.Index.{Index}
use Rattle.cpc_eval_index.specs.Indexed.{items_of, IsOwn}
use Rattle.cpc_eval_variables.specs.Told.{IsTold}

-- the same function, where both stand under one name
pub same_function : (o : Option S.Function) (f g : S.Function) → Some g ≡ o → o ≡ Some f → g ≡ f
same_function o f g e h = cc

pub never_absent : (o : Option S.Function) (f : S.Function) → None ≡ o → o ≡ Some f → ⊥
never_absent o f e h = cc

-- what the program has under its name is there
pub no_own : (index : Index) (f : GFunction.Function) → ∥ ((names : Names) → AreApart names → None ≡ function_named (items_of names index) (names f.word.name)) ∥₁ → IsOwn index f → ⊥
no_own index f none own = ∥∥₁_elim none (λ x. absurd x) (λ missing. never_absent _ (function_of numbers f) (missing numbers numbers_apart) (own numbers numbers_apart))

-- ---- names that are told in one are told in the other

seen_at : (names : Names) (ps : List Parameter) (k : ℕ) → slice_get (map (parameter_of names) ps) k ≡ option_map (parameter_of names) (slice_get ps k)
seen_at names [] zero = refl
seen_at names [] (suc k) = refl
seen_at names (p ∷ ps) zero = refl
seen_at names (p ∷ ps) (suc k) = seen_at names ps k

no_word : (names : Names) (w : Option Word) → option_map (λ (v : Word). text_of names v.name) w ≡ None → w ≡ None
no_word names None e = refl
no_word names (Some v) e = cc

module _ (names : Names) (ps : List Parameter) (told : IsTold names ps) where
  nameless : (k : ℕ) (q : Parameter) (o : Option Parameter) → slice_get ps k ≡ o → option_map (parameter_of names) o ≡ Some (parameter_of names q) → q.word ≡ None → (x : Name) → bytes_eq [] (names x) ≡ false
  nameless k q None at e none x = cc
  nameless k q (Some p) at e none x =
      let same : parameter_of names p ≡ parameter_of names q = cc in
      told.unnamed k p at (no_word names p.word (ap (λ (v : S.Parameter). v.called) same ∙ ap (option_map (λ (v : Word). text_of names v.name)) none)) x

  pub told_along : (qs : List Parameter) → map (parameter_of names) qs ≡ map (parameter_of names) ps → IsTold names qs
  told_along qs same = record {
    apart = told.apart;
    unnamed = λ k q at none x.
        nameless k q (slice_get ps k) refl (sym (seen_at names ps k) ∙ ap (λ rs. slice_get rs k) (sym same) ∙ seen_at names qs k ∙ ap (option_map (parameter_of names)) at) none x;
  }
