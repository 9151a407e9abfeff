-- A native or detached function that breaks no rule of the dialect Cpc breaks none of the dialect Event, with each spawn as a call of the spawner.
use Rattle.std.proofs.Common.{◌≡◌, ◌&&◌, not, ℕ, true, false, List, [], ◌∷◌, ◌++◌, map, Option, Some, None, refl, sym, ◌∙◌, ap, subst}
use Rattle.cpc_base.specs.declared.stop.Dialect.TheVariants as D
use Rattle.cpc_base.proofs.Truth.{by_false_true}
use Rattle.cpc_tree.specs.Syntax.{Ty, Stmt, Function, FunctionItem, Program}
use Rattle.cpc_tree.specs.Syntax as X
use Rattle.cpc_tree.specs.Located.{Ident, LParameter}
use Rattle.cpc_tree.specs.Typing.{size}
use Rattle.cpc_check_rules.specs.declared.rule.Rule.TheVariants.{Twice, Incomplete, CpsForm}
use Rattle.cpc_check_rules.specs.Rule.{at_if}
use Rattle.cpc_check_rules.specs.Scopes as S
use Rattle.cpc_check_rules.specs.Scopes.{is_sized, has_cells}
use Rattle.cpc_check_rules.specs.Operators.{is_cps}
use Rattle.cpc_check_rules.specs.FunctionRules.{repeated, reserved_breaks, parameter_names, locals, labels, label_breaks, stray_breaks}
use Rattle.cpc_check_rules.specs.ItemRules.{Signature, declared_breaks, types, cps_breaks, parameters_breaks, sized_breaks, outside, parameter_block, in_body, body_breaks, function_breaks}
use Rattle.cpc_check_laws.proofs.Native.NativeValues.{both_none, cpc, event}
use Rattle.cpc_check_laws.proofs.Native.OnePlace.{here, ident_here, stmt_here, parameter_here, function_here, item_again}
use Rattle.cpc_check_laws.proofs.Native.NativeItems.{reserved_native, parameters_native}
use Rattle.cpc_check_laws.proofs.Sound.Unbroken.{split, holds_then}
use Rattle.cpc_convert_common.specs.Converted.{respawned}
use Rattle.cpc_convert_routines.specs.Kept.{kept_function}
use Rattle.cpc_lifted_laws.specs.Complete.Kept.{KeepsItems}
use Rattle.cpc_lifted_laws.specs.Complete.Steps.{HasSteps}
use Rattle.cpc_lifted_laws.proofs.Complete.Names.{HidesNone, hides_none_more}
use Rattle.cpc_lifted_laws.proofs.Complete.Kept.{reserved_both, barless, over, stmts_kept}
use Rattle.cpc_lifted_laws.proofs.Complete.Respawned.{same_stray, same_label_breaks, names_fine, few_fine}

-- what is declared of a function
abbrev pub defined_signature : Function → Signature
defined_signature f = record { mode = f.mode; result = f.result; parameters = types (map parameter_here f.parameters); is_defined = true }

-- ---- parameters

-- no parameter is called as a spawner
hides_parameters : (block : S.Block) (ps : List LParameter) → HidesNone (block ∷ []) → reserved_breaks D.Cpc (parameter_names ps) ≡ [] → HidesNone (parameter_block block ps ∷ [])
hides_parameters block [] hides h = hides
hides_parameters block (p ∷ ps) hides h = one p.called p.type h (λ block hides h. hides_parameters block ps hides h)
  where
    one : (o : Option Ident) (t : Ty) → reserved_breaks D.Cpc (parameter_names (record { called = o; type = t } ∷ ps)) ≡ []
        → ((block : S.Block) → HidesNone (block ∷ []) → reserved_breaks D.Cpc (parameter_names ps) ≡ [] → HidesNone (parameter_block block ps ∷ []))
        → HidesNone (parameter_block block (record { called = o; type = t } ∷ ps) ∷ [])
    one None t h rest = rest block hides h
    one (Some x) t h rest =
        rest (record { called = x.text; type = t } ∷ block) (hides_none_more [] (block ∷ []) (record { called = x.text; type = t }) (barless x (parameter_names ps) h) hides)
        (reserved_both (x ∷ []) (parameter_names ps) h).1

sized_fine : (before after : Program) → ((t : Ty) (n : ℕ) → size before t ≡ Some n → size after t ≡ Some n) → (ps : List LParameter) → sized_breaks (outside D.Cpc before).scope ps ≡ [] → sized_breaks (outside D.Event after).scope ps ≡ []
sized_fine before after sizes [] h = refl
sized_fine before after sizes (p ∷ ps) h = one p.called p.type h (λ h. sized_fine before after sizes ps h)
  where
    sized : (t : Ty) → is_sized (outside D.Cpc before).scope t ≡ true → is_sized (outside D.Event after).scope t ≡ true
    sized t h = go (size before t) refl h
      where
        go : (o : Option ℕ) → size before t ≡ o → has_cells o ≡ true → is_sized (outside D.Event after).scope t ≡ true
        go None e h = by_false_true h
        go (Some n) e h = ap has_cells (sizes t n e) ∙ h

    one : (o : Option Ident) (t : Ty) → sized_breaks (outside D.Cpc before).scope (record { called = o; type = t } ∷ ps) ≡ [] → (sized_breaks (outside D.Cpc before).scope ps ≡ [] → sized_breaks (outside D.Event after).scope ps ≡ [])
        → sized_breaks (outside D.Event after).scope (record { called = o; type = t } ∷ ps) ≡ []
    one None t h rest = rest h
    one (Some x) t h rest =
        let k = split (at_if (not (is_sized (outside D.Cpc before).scope t)) x.place Incomplete) _ h in
        both_none _ _ (ap (λ b. at_if (not b) x.place Incomplete) (sized t (holds_then (is_sized (outside D.Cpc before).scope t) x.place Incomplete k.0))) (rest k.1)

-- ---- functions

module _ (before after : Program) (f : Function) (native : is_cps f.mode ≡ false) (keeps : KeepsItems (before ++ FunctionItem f ∷ []) (after ++ FunctionItem (kept_function f) ∷ [])) where
  abbrev ps : List LParameter
  ps = map parameter_here f.parameters

  abbrev blocks : List S.Block
  blocks = parameter_block [] ps ∷ []

  block_kept : (s : Stmt) → HasSteps s → HidesNone blocks → reserved_breaks D.Cpc (locals (stmt_here s)) ≡ [] → body_breaks (cpc (over (before ++ FunctionItem f ∷ []) blocks) f.mode f.result) (stmt_here s) ≡ []
      → body_breaks (event (over (after ++ FunctionItem (kept_function f) ∷ []) blocks) f.mode f.result) (stmt_here (respawned s)) ≡ []
  block_kept (X.Block ss) g hides n h = stmts_kept (before ++ FunctionItem f ∷ []) (after ++ FunctionItem (kept_function f) ∷ []) keeps f.mode f.result native blocks hides ss g n h
  block_kept _ g hides n h = refl

  -- its body breaks no rule
  pub body_kept : HasSteps f.body → parameters_breaks D.Cpc ps ≡ [] → reserved_breaks D.Cpc (locals (stmt_here f.body)) ≡ [] → body_breaks (in_body D.Cpc before (function_here f)) (stmt_here f.body) ≡ []
      → body_breaks (in_body D.Event after (function_here (kept_function f))) (stmt_here (respawned f.body)) ≡ []
  body_kept g named n h =
      let hides = hides_parameters [] ps (λ x m. refl) (split (repeated Twice [] (parameter_names ps)) _ named).1 in
      let source : body_breaks (cpc (over (before ++ FunctionItem f ∷ []) blocks) f.mode f.result) (stmt_here f.body) ≡ [] =
      subst (λ i. body_breaks (cpc (over (before ++ i ∷ []) blocks) f.mode f.result) (stmt_here f.body) ≡ []) (item_again (FunctionItem f)) h in
      subst (λ i. body_breaks (event (over (after ++ i ∷ []) blocks) f.mode f.result) (stmt_here (respawned f.body)) ≡ []) (sym (item_again (FunctionItem (kept_function f)))) (block_kept f.body g hides n source)

  -- and it breaks none, where what it declares neither clashes nor disagrees with what was declared
  pub function_kept : HasSteps f.body → ((t : Ty) (n : ℕ) → size before t ≡ Some n → size after t ≡ Some n) → declared_breaks after (ident_here f.called) (defined_signature f) ≡ []
      → function_breaks D.Cpc before (function_here f) ≡ [] → function_breaks D.Event after (function_here (kept_function f)) ≡ []
  function_kept steps sizes declared h =
      let g = function_here f in
      let h1 = split (reserved_breaks D.Cpc (g.called ∷ [])) _ h in
      let h2 = split (cps_breaks D.Cpc g.mode g.place) _ h1.1 in
      let h3 = split (declared_breaks before g.called (defined_signature f)) _ h2.1 in
      let h4 = split (parameters_breaks D.Cpc ps) _ h3.1 in
      let h5 = split (sized_breaks (outside D.Cpc before).scope ps) _ h4.1 in
      let h6 = split (body_breaks (in_body D.Cpc before g) (stmt_here f.body)) _ h5.1 in
      let h7 = split (reserved_breaks D.Cpc (locals (stmt_here f.body) ++ labels (stmt_here f.body))) _ h6.1 in
      let h8 = split (label_breaks (stmt_here f.body)) _ h7.1 in
      let h9 = split (stray_breaks (stmt_here f.body)) _ h8.1 in
      both_none _ _ (reserved_native (ident_here f.called ∷ []) h1.0)
      (both_none _ _ (ap (λ b. at_if (b && true) here CpsForm) native)
      (both_none _ _ declared
      (both_none _ _ (parameters_native ps h4.0)
      (both_none _ _ (sized_fine before after sizes ps h5.0)
      (both_none _ _ (body_kept steps h4.0 (reserved_both (locals (stmt_here f.body)) (labels (stmt_here f.body)) h7.0).0 h6.0)
      (both_none _ _ (names_fine f.body h7.0)
      (both_none _ _ (same_label_breaks f.body ∙ h8.0)
      (both_none _ _ (same_stray f.body ∙ h9.0) (few_fine ps f.body h9.1)))))))))
