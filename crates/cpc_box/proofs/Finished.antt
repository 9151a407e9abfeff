-- A function that is walked through whole is boxed.
use Rattle.std.proofs.Common.{◌≡◌, ℕ, false, List, [], ◌∷◌, ◌++◌, length, map, slice_get, Option, Some, None, refl, sym, ap, ◌∙◌, subst, arith}
use Rattle.std.proofs.lemmas.List.{length-map}
use Rattle.cpc_base.specs.Bytes.{Text}
use Rattle.cpc_base.proofs.Lists.{appended_empty}
use Rattle.cpc_tree.specs.Erase.{Names, function_of, stmt_of, item_of, parameter_of}
use Rattle.cpc_tree.specs.Registers.{variables, as_variable, outer_scope}
use Rattle.cpc_tree.specs.Syntax as S
use Rattle.cpc_tree.specs.Typing as T
use Rattle.cpc_tree.specs.declared.program.Function.{Function}
use Rattle.cpc_tree.specs.declared.program.Program.{Program}
use Rattle.cpc_tree.specs.declared.program.Item.{Item}
use Rattle.cpc_check_rules.specs.Apart.{Spells}
use Rattle.cpc_eval_index.specs.declared.index.Index.{Index}
use Rattle.cpc_eval_index.specs.Indexed.{program_items, items_of}
use Rattle.cpc_eval_variables.specs.Told.{IsTold}
use Rattle.cpc_eval_locals.specs.Kept.{kept_by}
use Rattle.cpc_eval_variables.specs.Kept.{kept_from}
use Rattle.cpc_eval_locals.specs.declared.variables.Variable as V
use Rattle.cpc_forms_code.specs.declared.boxed.Variable.{Variable}
use Rattle.cpc_forms_code.specs.declared.boxed.BoxedPoint as B
use Rattle.cpc_forms_code.specs.Seen.{AreNamed}
use Rattle.cpc_forms_code.specs.Points.{IsBoxed, variable_seen}
use Rattle.cpc_forms_code.specs.Programs.{IsSpelled}
use Rattle.cpc_box.specs.declared.walk.Walk.{Walk}
use Rattle.cpc_box.specs.Outline.{declares, outline, the_end}
use Rattle.cpc_box.specs.Walked.{AreSeen, marked_by, Walked, Stands, Came}
use Rattle.cpc_box.proofs.Going.{both, walked_as, walk_length}
use Rattle.cpc_box.proofs.Marks.{marks_same}
use Rattle.cpc_box.proofs.Outlined.{declares_open, all_points}
use Rattle.cpc_box.proofs.Scopes.{all_seen}

none_named : (names : Names) (vs : List Variable) → vs ≡ [] → AreNamed names vs
none_named names vs e = record { each = λ k v g h x. absurd (let i : None ≡ Some v = sym (ap (λ (l : List Variable). slice_get l k) e) ∙ g in cc) }

none_seen : (names : Names) (vs : List Variable) (bs : List B.BoxedPoint) → bs ≡ [] → AreSeen names vs bs []
none_seen names vs bs e = let P : List B.BoxedPoint → Type 0 = λ l. AreSeen names vs l [] in subst P (sym e) tt

pub stands_first : (names : Names) (ms : List V.Variable) (texts : List Text) (a b : Walk) (xs : List S.Variable) (o : Option ℕ) (sc : T.Scope) → a.variables.items ≡ [] → Spells texts names → Came names ms a b xs [] o sc → Stands names texts b o sc
stands_first names ms texts a b xs o sc e s w = record { spells = s; named = w.walked.named (none_named names a.variables.items e); scope = w.scope }

-- what a walk has come to that went through all of a function
pub record Finished (names : Names) (ms : List V.Variable) (p : S.Program) (f : S.Function) (w : Walk) : Type 0 where
  pub variables : map (variable_seen names) w.variables.items ≡ marked_by ms 0 (variables f)
  pub named : AreNamed names w.variables.items
  pub points : AreSeen names w.variables.items w.points.items (outline p false (outer_scope f) (length f.parameters) f.body ++ the_end ∷ [])

module _ (names : Names) (ms : List V.Variable) (p : S.Program) (f : S.Function) (a b c d : Walk) (o : Option ℕ) where
  pub finished : a.variables.items ≡ [] → a.points.items ≡ [] → Came names ms a b (map as_variable f.parameters) [] o (outer_scope f)
      → Walked names ms b c (declares false f.body) (outline p false (outer_scope f) (length b.variables.items) f.body) → Walked names ms c d [] (the_end ∷ []) → Finished names ms p f d
  finished e g w v u =
      let xs = map as_variable f.parameters in
      let ys = declares false f.body in
      let ps = outline p false (outer_scope f) (length b.variables.items) f.body in
      let n : length b.variables.items ≡ length f.parameters =
      (let h = walk_length names ms a b xs [] w.walked in
      let i = ap length e in
      let j : length {A = Variable} [] ≡ 0 = refl in
      let k = length-map f.parameters as_variable in
      omega arith) in
      let all = walked_as names ms a d (xs ++ (ys ++ [])) (variables f) (ps ++ the_end ∷ []) (outline p false (outer_scope f) (length f.parameters) f.body ++ the_end ∷ [])
      (ap (λ l. xs ++ l) (sym (appended_empty ys) ∙ declares_open f.body)) (ap (λ k. outline p false (outer_scope f) k f.body ++ the_end ∷ []) n)
      (both names ms a b d xs (ys ++ []) [] (ps ++ the_end ∷ []) w.walked (both names ms b c d ys [] ps (the_end ∷ []) v u)) in
      record {
        variables = all.variables ∙ ap (λ (l : List Variable). map (variable_seen names) l ++ marked_by ms (length l) (variables f)) e;
        named = all.named (none_named names a.variables.items e);
        points = all.points [] (none_seen names a.variables.items a.points.items g);
      }

-- ---- the ghost field

module _ (source : Program) (function : Function) (index : Index) (ms : List V.Variable) (w : Walk) where
  pub is_boxed : program_items index ≡ source.items.items
      → ((names : Names) → IsTold names function.parameters.items → kept_by names ms ≡ kept_from (function_of names function) 0 (variables (function_of names function)))
      → ((names : Names) → Spells source.names names → IsTold names function.parameters.items → map (variable_seen names) w.variables.items ≡ marked_by ms 0 (variables (function_of names function)))
      → ((names : Names) → Spells source.names names → IsTold names function.parameters.items → AreNamed names w.variables.items)
      → ((names : Names) → Spells source.names names → IsTold names function.parameters.items
      → AreSeen names w.variables.items w.points.items (outline (items_of names index) false (outer_scope (function_of names function)) (length function.parameters.items) (stmt_of names function.body) ++ the_end ∷ []))
      → ((names : Names) × IsSpelled names source function) → IsBoxed source function w.variables.items w.points.items
  is_boxed items kept vs named ps it = record {
    names = it.0;
    spelled = it.1;
    named = λ names s. named names s.spells s.told;
    variables = λ names s. vs names s.spells s.told ∙ marks_same names (function_of names function) ms (variables (function_of names function)) (kept names s.told);
    points = λ names s.
        let f = function_of names function in
        all_seen names w.variables.items w.points.items (outline (items_of names index) false (outer_scope f) (length function.parameters.items) f.body ++ the_end ∷ []) (ps names s.spells s.told)
        ∙ (ap (λ k. outline (items_of names index) false (outer_scope f) k f.body ++ the_end ∷ []) (sym (length-map function.parameters.items (parameter_of names)))
        ∙ (ap (λ (l : List Item). outline (map (item_of names) l) false (outer_scope f) (length f.parameters) f.body ++ the_end ∷ []) items
        ∙ sym (all_points (map (item_of names) source.items.items) f)));
  }
