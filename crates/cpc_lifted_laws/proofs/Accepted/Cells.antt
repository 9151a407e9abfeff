-- The variables of each function of an accepted program have cells, one at least and 2^16 at most.
use Rattle.std.proofs.Common.{◌≡◌, ◌<◌, ◌≤◌, ◌^◌, ◌&&◌, not, ℕ, zero, suc, true, List, [], ◌∷◌, ◌++◌, map, slice_get, nat_lt, Option, Some, None, refl, sym, ◌∙◌, subst, append_assoc}
use Rattle.std.specs.Prelude.{is_some, nat_le}
use Rattle.std.proofs.lemmas.List.{append-nil}
use Rattle.cpc_base.specs.declared.stop.Dialect.TheVariants as D
use Rattle.cpc_base.proofs.Truth.{by_false_true, and_both, lt_means, le_means}
use Rattle.cpc_tree.specs.ItemGrammar.{all_named}
use Rattle.cpc_tree.specs.Located.{Ident, LStmt, Block, Empty, Declare, Assign, Call, Detach, Spawn, If, While, DoWhile, For, Goto, Label, Break, Continue, Return, LStmts, NoLStmt, AndLStmt, MaybeLStmt, NoneLStmt, SomeLStmt, LParameter, LFunction, LItem, LStruct, LGlobal, LPrototype, LFunctionItem, bare_stmt, bare_stmts, bare_maybe, bare_parameter, bare_function, bare_item}
use Rattle.cpc_tree.specs.Points.{locals, locals_in, locals_arm}
use Rattle.cpc_tree.specs.Registers.{as_variable, variables}
use Rattle.cpc_tree.specs.Syntax.{Ty, Variable, Function, Item, FunctionItem, Program}
use Rattle.cpc_tree.specs.Typing.{size}
use Rattle.cpc_check_rules.specs.declared.rule.Rule.TheVariants.{Twice, Incomplete}
use Rattle.cpc_check_rules.specs.FunctionRules.{reserved_breaks}
use Rattle.cpc_check_rules.specs.ItemRules.{outside, is_struct, types, declared_breaks, cps_breaks, parameters_breaks, sized_breaks, in_body, body_breaks, function_breaks, item_breaks, items_breaks}
use Rattle.cpc_check_rules.specs.Operators.{Where}
use Rattle.cpc_check_rules.specs.Rule.{at_if}
use Rattle.cpc_check_rules.specs.Scopes as R
use Rattle.cpc_check_rules.specs.Scopes.{is_sized, has_cells, cell_limit, is_here}
use Rattle.cpc_check_rules.specs.StmtRules.{inner, behind, all_behind, test_breaks, maybe_test, stmt_breaks, stmts_breaks, maybe_breaks}
use Rattle.cpc_check_laws.proofs.Sound.Agendas.{Each}
use Rattle.cpc_check_laws.proofs.Sound.Agreement.{Grows, sizes_grow}
use Rattle.cpc_check_laws.proofs.Sound.Growing.{IsFresh, grows_step, grows_same, grows_on}
use Rattle.cpc_check_laws.proofs.Sound.Programs.{BodyShape, ItemShape}
use Rattle.cpc_check_laws.proofs.Sound.Unbroken.{split, holds_then}
use Rattle.cpc_check_laws.proofs.Sound.Bodies.{behind_items, all_behind_items}
use Rattle.cpc_check_laws.proofs.Native.NativeValues.{unbroken}
use Rattle.cpc_convert_common.specs.Members.{Has, OnTop, Below}
use Rattle.cpc_lifted_laws.specs.Accepted.Pieces.{VariablesHaveCells}

-- a type has cells, one at least and not too many
abbrev pub HasCells : Program → Ty → Type 0
HasCells p t = (m : ℕ) × (size p t ≡ Some m) × (0 < m) × (m ≤ 2 ^ 16)

abbrev AllHave : Program → List Variable → Type 0
AllHave p [] = Unit {0}
AllHave p (x ∷ xs) = HasCells p x.type × AllHave p xs

all_have : (p : Program) (xs ys : List Variable) → AllHave p xs → AllHave p ys → AllHave p (xs ++ ys)
all_have p [] ys h k = k
all_have p (x ∷ xs) ys h k = (h.0, all_have p xs ys h.1 k)

sized_has : (items p : Program) (s : R.Scope) (t : Ty) → s.items ≡ items → Grows items p → is_sized s t ≡ true → HasCells p t
sized_has items p s t e g h = go (size s.items t) refl h
  where
    go : (o : Option ℕ) → size s.items t ≡ o → has_cells o ≡ true → HasCells p t
    go None f h = by_false_true h
    go (Some n) f h =
        let k = and_both (nat_lt 0 n) (nat_le n cell_limit) h in
        (n, sizes_grow items p g t n (subst (λ items. size items t ≡ Some n) e f), lt_means 0 n k.0, le_means n cell_limit k.1)

-- ---- bodies

module _ (p : Program) where
  mutual
    stmt_has : (w : Where) → Grows w.scope.items p → (s : LStmt) → stmt_breaks w s ≡ [] → AllHave p (locals (bare_stmt s))
    stmt_has w g (Block q ss) h = stmts_has (inner w) g ss h
    stmt_has w g (Declare q x t start) h =
        let h1 = split (at_if (is_here w.scope.blocks x.text) x.place Twice) _ h in
        let h2 = split (at_if (not (is_sized w.scope t)) x.place Incomplete) _ h1.1 in
        (sized_has w.scope.items p w.scope t refl g (holds_then (is_sized w.scope t) x.place Incomplete h2.0), tt)
    stmt_has w g (If q c a r) h =
        let k = split (test_breaks w c) _ h in
        let l = split (stmt_breaks w a) (maybe_breaks w r) k.1 in
        all_have p (locals (bare_stmt a)) (locals_arm (bare_maybe r)) (stmt_has w g a l.0) (maybe_has w g r l.1)
    stmt_has w g (While q c a) h = stmt_has w g a (split (test_breaks w c) (stmt_breaks w a) h).1
    stmt_has w g (DoWhile q a c) h = stmt_has w g a (split (stmt_breaks w a) (test_breaks w c) h).0
    stmt_has w g (For q ss c r a) h =
        let k = split (stmts_breaks (inner w) ss) _ h in
        let w2 = all_behind (inner w) ss in
        let l = split (maybe_test w2 c) _ k.1 in
        let m = split (maybe_breaks w2 r) (stmt_breaks w2 a) l.1 in
        all_have p (locals_in (bare_stmts ss)) (locals (bare_stmt a)) (stmts_has (inner w) g ss k.0) (stmt_has w2 (subst (λ items. Grows items p) (sym (all_behind_items (inner w) ss)) g) a m.1)
    stmt_has w g (Label x a) h = stmt_has w g a h
    stmt_has w g (Empty q) h = tt
    stmt_has w g (Assign q o v op e) h = tt
    stmt_has w g (Call q o to c es) h = tt
    stmt_has w g (Detach q o k to c es) h = tt
    stmt_has w g (Spawn q c es) h = tt
    stmt_has w g (Goto q x) h = tt
    stmt_has w g (Break q) h = tt
    stmt_has w g (Continue q) h = tt
    stmt_has w g (Return q e) h = tt

    stmts_has : (w : Where) → Grows w.scope.items p → (ss : LStmts) → stmts_breaks w ss ≡ [] → AllHave p (locals_in (bare_stmts ss))
    stmts_has w g NoLStmt h = tt
    stmts_has w g (AndLStmt a ss) h =
        let k = split (stmt_breaks w a) (stmts_breaks (behind w a) ss) h in
        all_have p (locals (bare_stmt a)) (locals_in (bare_stmts ss)) (stmt_has w g a k.0) (stmts_has (behind w a) (subst (λ items. Grows items p) (sym (behind_items w a)) g) ss k.1)

    maybe_has : (w : Where) → Grows w.scope.items p → (r : MaybeLStmt) → maybe_breaks w r ≡ [] → AllHave p (locals_arm (bare_maybe r))
    maybe_has w g NoneLStmt h = tt
    maybe_has w g (SomeLStmt a) h = stmt_has w g a h

  body_has : (w : Where) → Grows w.scope.items p → (body : LStmt) → BodyShape body → body_breaks w body ≡ [] → AllHave p (locals (bare_stmt body))
  body_has w g (Block q ss) s h = stmts_has w g ss h
  body_has w g _ s h = absurd s

  -- ---- parameters

  parameters_have : (items : Program) (s : R.Scope) (ps : List LParameter) → s.items ≡ items → Grows items p → all_named (λ (p : LParameter). p.called) ps ≡ true → sized_breaks s ps ≡ [] → AllHave p (map as_variable (map bare_parameter ps))
  parameters_have items s [] e g n h = tt
  parameters_have items s (q ∷ ps) e g n h = one q.called q.type n h (λ n h. parameters_have items s ps e g n h)
    where
      one : (o : Option Ident) (t : Ty) → (is_some o && all_named (λ (p : LParameter). p.called) ps) ≡ true → sized_breaks s (record { called = o; type = t } ∷ ps) ≡ []
          → (all_named (λ (p : LParameter). p.called) ps ≡ true → sized_breaks s ps ≡ [] → AllHave p (map as_variable (map bare_parameter ps))) → AllHave p (map as_variable (map bare_parameter (record { called = o; type = t } ∷ ps)))
      one None t n h rest = by_false_true n
      one (Some x) t n h rest =
          let k = split (at_if (not (is_sized s t)) x.place Incomplete) (sized_breaks s ps) h in
          (sized_has items p s t e g (holds_then (is_sized s t) x.place Incomplete k.0), rest n k.1)

  -- ---- functions

  function_has : (before : Program) (f : LFunction) → ItemShape (LFunctionItem f) → function_breaks D.Cpc before f ≡ [] → Grows before p → Grows (before ++ bare_item (LFunctionItem f) ∷ []) p → AllHave p (variables (bare_function f))
  function_has before f shape h grows_before grows =
      let h1 = split (reserved_breaks D.Cpc (f.called ∷ [])) _ h in
      let h2 = split (cps_breaks D.Cpc f.mode f.place) _ h1.1 in
      let h3 = split (declared_breaks before f.called (record { mode = f.mode; result = f.result; parameters = types f.parameters; is_defined = true })) _ h2.1 in
      let h4 = split (parameters_breaks D.Cpc f.parameters) _ h3.1 in
      let h5 = split (sized_breaks (outside D.Cpc before).scope f.parameters) _ h4.1 in
      let h6 = split (body_breaks (in_body D.Cpc before f) f.body) _ h5.1 in
      all_have p (map as_variable (map bare_parameter f.parameters)) (locals (bare_stmt f.body)) (parameters_have before (outside D.Cpc before).scope f.parameters refl grows_before shape.1 h5.0)
      (body_has (in_body D.Cpc before f) grows f.body shape.2 h6.0)

  abbrev ItemHas : Item → Type 0
  ItemHas (FunctionItem f) = AllHave p (variables f)
  ItemHas x = Unit {0}

  item_has : (before : Program) (x : LItem) → ItemShape x → item_breaks D.Cpc p before x ≡ [] → Grows before p → Grows (before ++ bare_item x ∷ []) p → ItemHas (bare_item x)
  item_has before (LFunctionItem f) s h g k = function_has before f s h g k
  item_has before (LStruct tag fs) s h g k = tt
  item_has before (LGlobal x t start) s h g k = tt
  item_has before (LPrototype q mode x r ps) s h g k = tt

  -- ---- all items

  fresh_item : (before : Program) (x : LItem) → item_breaks D.Cpc p before x ≡ [] → IsFresh before (bare_item x)
  fresh_item before (LStruct tag fs) h =
      let h1 = split (reserved_breaks D.Cpc (tag ∷ [])) _ h in
      unbroken (is_struct tag.text before) tag.place Twice (split (at_if (is_struct tag.text before) tag.place Twice) _ h1.1).0
  fresh_item before (LGlobal x t start) h = tt
  fresh_item before (LPrototype q mode x r ps) h = tt
  fresh_item before (LFunctionItem f) h = tt

  grows_all : (before : Program) (xs : List LItem) → items_breaks D.Cpc p before xs ≡ [] → Grows before (before ++ map bare_item xs)
  grows_all before [] h = subst (Grows before) (sym (append-nil before)) (grows_same before)
  grows_all before (x ∷ xs) h =
      let k = split (item_breaks D.Cpc p before x) (items_breaks D.Cpc p (before ++ bare_item x ∷ []) xs) h in
      subst (Grows before) (append_assoc before (bare_item x ∷ []) (map bare_item xs))
      (grows_on before (before ++ bare_item x ∷ []) ((before ++ bare_item x ∷ []) ++ map bare_item xs) (grows_step before (bare_item x) (fresh_item before x k.0)) (grows_all (before ++ bare_item x ∷ []) xs k.1))

  items_have : (before : Program) (xs : List LItem) → Each ItemShape xs → p ≡ before ++ map bare_item xs → items_breaks D.Cpc p before xs ≡ [] → (i : Item) → Has i (map bare_item xs) → ItemHas i
  items_have before [] s whole h i has = elim has [ ]
  items_have before (x ∷ xs) s whole h _ (OnTop _ _) =
      let k = split (item_breaks D.Cpc p before x) (items_breaks D.Cpc p (before ++ bare_item x ∷ []) xs) h in
      let e = append_assoc before (bare_item x ∷ []) (map bare_item xs) in
      item_has before x s.0 k.0 (subst (Grows before) (sym whole) (grows_all before (x ∷ xs) h)) (subst (Grows (before ++ bare_item x ∷ [])) (e ∙ sym whole) (grows_all (before ++ bare_item x ∷ []) xs k.1))
  items_have before (x ∷ xs) s whole h i (Below _ _ _ has) =
      items_have (before ++ bare_item x ∷ []) xs s.1 (whole ∙ sym (append_assoc before (bare_item x ∷ []) (map bare_item xs)))
      (split (item_breaks D.Cpc p before x) (items_breaks D.Cpc p (before ++ bare_item x ∷ []) xs) h).1 i has

  all_at : (xs : List Variable) → AllHave p xs → (k : ℕ) (x : Variable) → slice_get xs k ≡ Some x → HasCells p x.type
  all_at [] h k x e = absurd (cc)
  all_at (y ∷ xs) h zero x e = let i : y ≡ x = cc in subst (λ (z : Variable). HasCells p z.type) i h.0
  all_at (y ∷ xs) h (suc k) x e = all_at xs h.1 k x e

  -- the variables of each function have cells
  pub variables_have : (xs : List LItem) → Each ItemShape xs → p ≡ map bare_item xs → items_breaks D.Cpc p [] xs ≡ [] → (f : Function) → Has (FunctionItem f) p → VariablesHaveCells p f
  variables_have xs s whole h f has = all_at (variables f) (items_have [] xs s whole h (FunctionItem f) (subst (Has (FunctionItem f)) whole has))
