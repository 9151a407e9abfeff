-- Parameters, one more.
use Rattle.std.proofs.Common.{◌≡◌, ℕ, suc, ◌+◌, ◌<◌, List, [], ◌∷◌, ◌++◌, length, map, take, get_or, Option, Some, refl, sym, ap, ◌∙◌, subst, arith}
use Rattle.std.proofs.lemmas.List.{length-map, map-append, take_more}
use Rattle.cpc_tree.specs.Erase.{Names, parameter_of}
use Rattle.cpc_tree.specs.Syntax as S
use Rattle.cpc_tree.specs.Typing as T
use Rattle.cpc_tree.specs.Registers.{as_variable, or_empty, parameter_scope}
use Rattle.cpc_tree.specs.declared.program.Parameter.{Parameter}
use Rattle.cpc_eval_locals.specs.declared.variables.Variable as V
use Rattle.cpc_box.specs.declared.walk.Walk.{Walk}
use Rattle.cpc_box.specs.Walked.{Came}
use Rattle.cpc_box.proofs.Going.{both, came_as, walk_length}

abbrev pub parameter_local : S.Parameter → ℕ → T.Local
parameter_local p n = record { called = or_empty p.called; type = p.type; slot = n }

scope_last : (n m : ℕ) (ps : List S.Parameter) (p : S.Parameter) (sc : T.Scope) → m ≡ n + length ps → parameter_scope n (ps ++ p ∷ []) sc ≡ parameter_local p m ∷ parameter_scope n ps sc
scope_last n m [] p sc e = ap (λ k. parameter_local p k ∷ sc) (let h : n ≡ m = omega arith in h)
scope_last n m (q ∷ ps) p sc e = scope_last (suc n) m ps p (parameter_local q n ∷ sc) (let h : m ≡ n + suc (length ps) = e in omega arith)

module _ (names : Names) (ms : List V.Variable) (a b c : Walk) (ps : List Parameter) (i : ℕ) (p : Parameter) (o : Option ℕ) (k : ℕ) where
  abbrev variables_of : List Parameter → List S.Variable
  variables_of qs = map as_variable (map (parameter_of names) qs)

  abbrev scope_of : List Parameter → T.Scope
  scope_of qs = parameter_scope 0 (map (parameter_of names) qs) []

  pub parameter_more : a.variables.items ≡ [] → i < length ps → p ≡ get_or ps i p → Came names ms a b (variables_of (take i ps)) [] o (scope_of (take i ps))
      → Came names ms b c (as_variable (parameter_of names p) ∷ []) [] (Some k) (parameter_local (parameter_of names p) (length b.variables.items) ∷ scope_of (take i ps))
      → Came names ms a c (variables_of (take (i + 1) ps)) [] (Some k) (scope_of (take (i + 1) ps))
  parameter_more empty h is w v =
      let done = take i ps in
      let f = parameter_of names in
      let x = as_variable (f p) in
      let e : take (i + 1) ps ≡ done ++ p ∷ [] = take_more ps i p h ∙ ap (λ q. done ++ q ∷ []) (sym is) in
      let split : map f (done ++ p ∷ []) ≡ map f done ++ f p ∷ [] = map-append f done (p ∷ []) in
      let n : length b.variables.items ≡ 0 + length (map f done) =
      (let g = walk_length names ms a b (variables_of done) [] w.walked in
      let j = ap length empty in
      let l : length {A = S.Variable} [] ≡ 0 = refl in
      let m = length-map (map f done) as_variable in
      omega arith) in
      let P : List Parameter → Type 0 = λ qs. Came names ms a c (variables_of qs) [] (Some k) (scope_of qs) in
      subst P (sym e) (came_as names ms a c (variables_of done ++ x ∷ []) (variables_of (done ++ p ∷ [])) [] [] (Some k)
      (parameter_local (f p) (length b.variables.items) ∷ scope_of done) (scope_of (done ++ p ∷ []))
      (sym (ap (map as_variable) split ∙ map-append as_variable (map f done) (f p ∷ []))) refl
      (sym (ap (λ l. parameter_scope 0 l []) split ∙ scope_last 0 (length b.variables.items) (map f done) (f p) [] n))
      (record { walked = both names ms a b c (variables_of done) (x ∷ []) [] [] w.walked v.walked; scope = v.scope }))
