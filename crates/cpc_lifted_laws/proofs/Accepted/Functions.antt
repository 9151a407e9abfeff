-- The functions of an accepted program.
use Rattle.std.proofs.Common.{◌≡◌, ◌⊎◌, inl, inr, ◌&&◌, ◌==◌, not, ℕ, Bool, true, false, cond, List, [], ◌∷◌, ◌++◌, map, slice_get, Some, bytes_eq, codes, refl, sym, ◌∙◌, ap, subst}
use Rattle.cpc_base.specs.Bytes.{Text}
use Rattle.cpc_base.specs.declared.stop.Place.{Place}
use Rattle.cpc_num.specs.declared.kinds.Kind.TheVariants.{Int}
use Rattle.cpc_tree.specs.declared.program.Mode.{Mode}
use Rattle.cpc_tree.specs.declared.program.Mode.TheVariants.{Native, Cps}
use Rattle.cpc_tree.specs.Located.{Ident, LStmt, LParameter, LItem, LStruct, LGlobal, LPrototype, LFunctionItem, bare_function, bare_item, bare}
use Rattle.cpc_tree.specs.Points.{Point, Here, Arrival, End}
use Rattle.cpc_tree.specs.Registers.{variables}
use Rattle.cpc_tree.specs.Syntax.{Ty, TyInt, Function, FunctionItem, Program}
use Rattle.cpc_tree.specs.Typing.{Scope, ALocal, named, function_named}
use Rattle.cpc_meaning.specs.Start.{begins_with_underscores, cut_where, before_underscores, main_name}
use Rattle.cpc_meaning.specs.Threads.{is_cps_mode, is_cps, shown_in}
use Rattle.cpc_meaning.specs.Trees.{scope_from}
use Rattle.cpc_meaning.proofs.Functions.{same_text}
use Rattle.cpc_check_rules.specs.declared.rule.Rule.TheVariants.{NoMain}
use Rattle.cpc_check_rules.specs.FunctionRules.{begins_with}
use Rattle.cpc_check_rules.specs.ItemRules.{items_breaks}
use Rattle.cpc_check_rules.specs.Rule.{at_if}
use Rattle.cpc_check_rules.specs.Rules.{is_main, has_main}
use Rattle.cpc_base.specs.declared.stop.Dialect.TheVariants as D
use Rattle.cpc_base.proofs.Truth.{by_false_true, and_both}
use Rattle.cpc_check_laws.proofs.Sound.Unbroken.{split, holds_then}
use Rattle.cpc_check_laws.proofs.Run.Stands.{whole}
use Rattle.cpc_convert_common.specs.Marks.{has_marks}
use Rattle.cpc_convert_common.specs.Converted.{marked}
use Rattle.cpc_convert_common.specs.Members.{Has, OnTop, Below}
use Rattle.cpc_lifted_laws.specs.Accepted.Functions.{ScopesMeanVariables, AcceptedIsShown, AcceptedHasMain}
use Rattle.cpc_lifted_laws.specs.Accepted.Names.{HasNames}
use Rattle.cpc_lifted_laws.proofs.Accepted.Marks.{marks_are, bar_turned}
use Rattle.cpc_lifted_laws.proofs.Accepted.Names.{accepted_has_names}
use Rattle.cpc_lifted_laws.proofs.Accepted.Scoped.{meant_that, means_variable}
use Rattle.cpc_lifted_laws.proofs.Accepted.Steady.{scopes_like}

-- ---- variables in scope

pub scopes_mean_variables : ScopesMeanVariables
scopes_mean_variables p x f a is = scopes_like p x Means (meant_that p f [] tt) (λ point. subst (λ o. Means (scope_from o point)) (sym is) (at_point point)) a
  where
    Means : Scope → Type 0
    Means scope = (y : Text) (k : ℕ) (t : Ty) → named p scope y ≡ ALocal k t → slice_get (variables f) k ≡ Some (record { called = y; type = t })

    at_point : (point : Point) → Means (scope_from (Some f) point)
    at_point (Here path) = means_variable p f path
    at_point (Arrival path) = means_variable p f path
    at_point End = meant_that p f [] tt

-- ---- names in faults

-- two characters that are no two underscores
two_underscores : (b c : ℕ) (x : Text) → begins_with (95 ∷ 95 ∷ []) (b ∷ c ∷ x) ≡ false → begins_with_underscores (b ∷ c ∷ x) ≡ false
two_underscores b c x h = go (b == 95) (c == 95) refl refl
  where
    go : (d e : Bool) → (b == 95) ≡ d → (c == 95) ≡ e → (d && e) ≡ false
    go true true i j = absurd (let k : begins_with (95 ∷ 95 ∷ []) (b ∷ c ∷ x) ≡ true = simp (bar_turned b, bar_turned c, i, j) refl in let l : true ≡ false = sym k ∙ h in cc)
    go true false i j = refl
    go false e i j = refl

-- what is behind the first two underscores is not shown
before_rest : (f rest : Text) → before_underscores (f ++ 95 ∷ 95 ∷ rest) ≡ before_underscores (f ++ 95 ∷ 95 ∷ [])
before_rest [] rest = refl
before_rest (c ∷ []) rest = refl
before_rest (c ∷ d ∷ f) rest = ap (λ t. cut_where (begins_with_underscores (c ∷ d ∷ [])) (c ∷ t)) (before_rest (d ∷ f) rest)

module _ (p : Program) (names : HasNames p) where
  native_shown : (x : Text) (f : Function) → function_named p x ≡ Some f → is_cps_mode f.mode ≡ false → before_underscores x ≡ shown_in p x
  native_shown x f e c =
      let there = names.there x f e in
      let plain = subst (λ y. has_marks y ≡ false) there.1 (names.items (FunctionItem f) there.0).unmarked in
      whole x (sym (marks_are x) ∙ plain) ∙ sym (ap (λ o. cond (is_cps o) (before_underscores (x ++ codes "__")) x) e ∙ ap (λ b. cond b (before_underscores (x ++ codes "__")) x) c)

  made_shown : (x : Text) (f : Function) → function_named p x ≡ Some f → is_cps_mode f.mode ≡ true → (rest : Text) → before_underscores (marked x rest) ≡ shown_in p x
  made_shown x f e c rest = before_rest x rest ∙ sym (ap (λ o. cond (is_cps o) (before_underscores (x ++ codes "__")) x) e ∙ ap (λ b. cond b (before_underscores (x ++ codes "__")) x) c)

  nobody_shown : before_underscores [] ≡ shown_in p []
  nobody_shown = go (is_cps (function_named p []))
    where
      go : (b : Bool) → [] ≡ cond b (before_underscores (codes "__")) []
      go true = refl
      go false = refl

pub accepted_is_shown : AcceptedIsShown
accepted_is_shown list end p read unbroken =
    let names = accepted_has_names list end p read unbroken in
    record { native = native_shown (bare p) names; made = made_shown (bare p) names; nobody = nobody_shown (bare p) names }

-- ---- `main`

-- an item that is `main`
record MainItem (f : Function) : Type 0 where
  called : f.called ≡ main_name
  mode : (f.mode ≡ Native) ⊎ (f.mode ≡ Cps)
  result : f.result ≡ TyInt Int
  parameters : f.parameters ≡ []

main_is : (q : Place) (m : Mode) (x : Ident) (r : Ty) (ps : List LParameter) (body : LStmt) → is_main (record { place = q; mode = m; called = x; result = r; parameters = ps; body = body }) ≡ true
    → MainItem (bare_function (record { place = q; mode = m; called = x; result = r; parameters = ps; body = body }))
main_is q Native x (TyInt Int) [] body h = record { called = same_text x.text main_name (and_both (bytes_eq x.text (codes "main")) true h).0; mode = inl refl; result = refl; parameters = refl }
main_is q Cps x (TyInt Int) [] body h = record { called = same_text x.text main_name (and_both (bytes_eq x.text (codes "main")) true h).0; mode = inr refl; result = refl; parameters = refl }
main_is q _ x _ _ body h = by_false_true (and_both (bytes_eq x.text (codes "main")) false h).1

main_there : (xs : List LItem) → has_main xs ≡ true → (f : Function) × Has (FunctionItem f) (map bare_item xs) × MainItem f
main_there [] h = by_false_true h
main_there (LStruct tag fs ∷ xs) h = let k = main_there xs h in (k.0, Below _ _ _ k.1, k.2)
main_there (LGlobal y t start ∷ xs) h = let k = main_there xs h in (k.0, Below _ _ _ k.1, k.2)
main_there (LPrototype q m y r ps ∷ xs) h = let k = main_there xs h in (k.0, Below _ _ _ k.1, k.2)
main_there (LFunctionItem f ∷ xs) h = go (is_main f) refl h (main_there xs)
  where
    go : (b : Bool) → is_main f ≡ b → cond b true (has_main xs) ≡ true → (has_main xs ≡ true → (g : Function) × Has (FunctionItem g) (map bare_item xs) × MainItem g)
        → (g : Function) × Has (FunctionItem g) (map bare_item (LFunctionItem f ∷ xs)) × MainItem g
    go true e h rest = (bare_function f, OnTop _ _, main_is f.place f.mode f.called f.result f.parameters f.body e)
    go false e h rest = let k = rest h in (k.0, Below _ _ _ k.1, k.2)

pub accepted_has_main : AcceptedHasMain
accepted_has_main list end p read unbroken =
    let names = accepted_has_names list end p read unbroken in
    let k = split (items_breaks D.Cpc (bare p) [] p.items) _ unbroken in
    let l = split (at_if (not (has_main p.items)) p.end NoMain) _ k.1 in
    let main = main_there p.items (holds_then (has_main p.items) p.end NoMain l.0) in
    record {
      function = main.0;
      named = ap (function_named (bare p)) (sym main.2.called) ∙ (names.functions main.0 main.1).found;
      mode = main.2.mode;
      result = main.2.result;
      parameters = main.2.parameters;
    }
