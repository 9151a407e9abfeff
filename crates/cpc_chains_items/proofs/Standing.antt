-- What is known where items are made: the function and its variables by the texts of the event program, and what its closures hold.
use Rattle.std.proofs.Common.{◌≡◌, ℕ, zero, suc, ◌+◌, ◌<◌, Bool, true, false, if◌then◌else◌, List, [], ◌∷◌, ◌++◌, map, length, slice_get, take, Some, option_map, All, refl, sym, ap, ◌∙◌, arith}
use Rattle.std.proofs.lemmas.List.{length-map}
use Rattle.std.proofs.lemmas.Option.{slice_get-map, slice_get_within}
use Rattle.cpc_tree.specs.Lists.{holds_number}
use Rattle.cpc_tree.specs.Erase.{Names, Table, function_of}
use Rattle.cpc_tree.specs.Registers.{variables}
use Rattle.cpc_tree.specs.Syntax.{Function, Program, Variable}
use Rattle.cpc_forms_code.specs.declared.boxed.Variable as V
use Rattle.cpc_forms.specs.Flow.{At}
use Rattle.cpc_lift_laws.specs.Search.{Link, keepers, closure_from}
use Rattle.cpc_convert_routines.specs.Routines.{Routine, variable_of, variable_or, closure_of}
use Rattle.cpc_convert_names.specs.Called.{function_in, variables_in, name_in}
use Rattle.cpc_forms_code.specs.Lifts.{unless}
use Rattle.cpc_chains_lines.specs.Known.{plain_seen, boxes_among}
use Rattle.cpc_chains_lines.specs.Around.{Stands, IsVariable}
use Rattle.cpc_chains_lines.specs.declared.around.Around.{Around}

-- ---- closures

under : (f : Bool) (m k : ℕ) (ks : List ℕ) → k < m → All (λ j. j < m) ks → All (λ j. j < m) (if f then k ∷ ks else ks)
under true m k ks lt all zero d h = lt
under true m k ks lt all (suc i) d h = all i d (omega (arith, h))
under false m k ks lt all i d h = all i d h

-- what an owner keeps are variables of the function
closure_within : (ways uses : List Link) (l k n m : ℕ) → k + n ≡ m → All (λ j. j < m) (closure_from ways uses l k n)
closure_within ways uses l k zero m e i d h = absurd (omega (arith, h))
closure_within ways uses l k (suc n) m e i d h = under (holds_number (keepers ways uses k) l) m k (closure_from ways uses l (suc k) n) (omega (arith, e)) (closure_within ways uses l (suc k) n m (omega (arith, e))) i d h

module _ (source : Table) (from to : Names) (p : Program) (r : Routine) (a : Around) (s : Stands source from to p r a) where
  pub function_is : r.function ≡ function_of to (function_in a.called.now.lifted.now)
  function_is = s.routine.function ∙ s.routine.alike.function

  pub called_is : r.function.called ≡ name_in to a.called.now.lifted.now
  called_is = ap (λ (f : Function). f.called) function_is

  pub variables_are : variables r.function ≡ map (plain_seen to) (variables_in a.called.now.lifted.now)
  variables_are = ap variables s.routine.function ∙ (sym s.routine.alike.are ∙ s.routine.alike.variables)

  pub there : (k : ℕ) → slice_get (variables r.function) k ≡ option_map (plain_seen to) (slice_get (variables_in a.called.now.lifted.now) k)
  there k = ap (λ (l : List Variable). slice_get l k) variables_are ∙ slice_get-map (plain_seen to) (variables_in a.called.now.lifted.now) k

  pub variable_is : (k : ℕ) (v : V.Variable) → slice_get (variables_in a.called.now.lifted.now) k ≡ Some v → variable_of r k ≡ plain_seen to v
  variable_is k v at = ap variable_or (there k ∙ ap (option_map (plain_seen to)) at)

  pub kept_within : (n : ℕ) → All (IsVariable a) (closure_of r (At n))
  kept_within n =
      let same : length (variables r.function) ≡ length (variables_in a.called.now.lifted.now) = ap length variables_are ∙ length-map (variables_in a.called.now.lifted.now) (plain_seen to) in
      closure_within r.ways r.uses (suc n) 0 (length (variables r.function)) (length (variables_in a.called.now.lifted.now)) (omega (arith, same))

-- ---- boxes

number_before : (b : Bool) (k : ℕ) (ks more : List ℕ) → unless b k (ks ++ more) ≡ unless b k ks ++ more
number_before true k ks more = refl
number_before false k ks more = refl

-- one more variable may be a box
pub among_more : (k i j : ℕ) (vs : List V.Variable) (v : V.Variable) → slice_get vs i ≡ Some v → j ≡ k + i → boxes_among k (take (suc i) vs) ≡ boxes_among k (take i vs) ++ unless v.is_register j []
among_more k i j [] v at is = let h : i < 0 = slice_get_within [] i v at in absurd (omega (arith, h))
among_more k zero j (u ∷ vs) v at is =
    let same : u ≡ v = cc in
    let l : k ≡ j = omega (arith, is) in
    ap (λ (w : V.Variable). unless w.is_register k []) same ∙ ap (λ m. unless v.is_register m []) l
among_more k (suc i) j (u ∷ vs) v at is = ap (unless u.is_register k) (among_more (suc k) i j vs v at (omega (arith, is))) ∙ number_before u.is_register k (boxes_among (suc k) (take i vs)) (unless v.is_register j [])
