-- In an accepted program each section takes a pointer to integers, and integers.
use Rattle.std.proofs.Common.{◌≡◌, not, ℕ, zero, suc, Bool, true, false, cond, List, [], ◌∷◌, ◌++◌, map, reverse, Option, Some, None, bytes_eq, refl, sym, ◌∙◌, ap, subst}
use Rattle.std.specs.List.{All}
use Rattle.std.proofs.lemmas.List.Elements.{All-nil}
use Rattle.cpc_base.specs.Bytes.{Text}
use Rattle.cpc_base.specs.declared.stop.Place.{Place}
use Rattle.cpc_base.specs.declared.stop.Dialect.TheVariants as D
use Rattle.cpc_base.proofs.Truth.{by_false_true, and_both}
use Rattle.cpc_base.proofs.Lists.{some_is}
use Rattle.cpc_num.specs.declared.kinds.Kind.TheVariants.{Int}
use Rattle.cpc_tree.specs.declared.program.Mode.TheVariants.{Detached}
use Rattle.cpc_tree.specs.Located.{Ident, LExprs, LStmt, Block, Declare, Detach, If, While, DoWhile, For, Label, LStmts, NoLStmt, AndLStmt, MaybeLStmt, NoneLStmt, SomeLStmt, LFunction, LItem, LStruct, LGlobal, LPrototype, LFunctionItem, bare_stmt, bare_stmts, bare_maybe, bare_function, bare_item, bare}
use Rattle.cpc_tree.specs.Points.{Path, Point, Here, Arrival, End, Nth, TheTest, TheYes, TheNo, TheStep, TheBody, Found, Simple, found, found_in, found_arm}
use Rattle.cpc_tree.specs.Syntax as S
use Rattle.cpc_tree.specs.Syntax.{Ty, TyVoid, TyInt, TyPointer, TyStruct, TyCondvar, TyCode, TyArray, Expr, Exprs, Function, FunctionItem, Item, Program}
use Rattle.cpc_tree.specs.Typing.{Meant, AFunction, cells, item_named, function_named, parameter_type, parameter_types}
use Rattle.cpc_meaning.specs.Act.{Stood, AtStatement}
use Rattle.cpc_meaning.specs.Trees.{stood_at}
use Rattle.cpc_forms.specs.Split.{Position, split_form}
use Rattle.cpc_check_rules.specs.Calls.{section_callee, takes_section, are_integers, all_integers, is_event}
use Rattle.cpc_check_rules.specs.declared.rule.Rule.TheVariants.{CpsInNative, CpsForm, Disagree}
use Rattle.cpc_check_rules.specs.Rule.{at_if}
use Rattle.cpc_check_rules.specs.Scopes as R
use Rattle.cpc_check_rules.specs.Scopes.{meant}
use Rattle.cpc_check_rules.specs.FunctionRules.{reserved_breaks}
use Rattle.cpc_check_rules.specs.ItemRules.{outside, cps_breaks, declared_breaks, parameters_breaks, sized_breaks, types, in_body, body_breaks, function_breaks, item_breaks, items_breaks}
use Rattle.cpc_check_rules.specs.Operators.{Where, is_cps}
use Rattle.cpc_check_rules.specs.StmtRules.{inner, behind, all_behind, to_breaks, test_breaks, maybe_test, wrong_name, section_breaks, stmt_breaks, stmts_breaks, maybe_breaks}
use Rattle.cpc_check_laws.proofs.Sound.Agendas.{Each}
use Rattle.cpc_check_laws.proofs.Sound.Agreement.{Grows}
use Rattle.cpc_check_laws.proofs.Sound.Answers.{no_some}
use Rattle.cpc_check_laws.proofs.Sound.Grammar.{items_shape}
use Rattle.cpc_check_laws.proofs.Sound.Programs.{BodyShape, ItemShape}
use Rattle.cpc_check_laws.proofs.Sound.Unbroken.{split, not_broken}
use Rattle.cpc_lifted_laws.specs.Accepted.Names.{HasNames}
use Rattle.cpc_lifted_laws.proofs.Accepted.Names.{accepted_has_names}
use Rattle.cpc_lifted_laws.proofs.Accepted.Points.{accepted_positions_known}
use Rattle.cpc_lifted_laws.proofs.Accepted.Steady.{stood_like}
use Rattle.cpc_lifted_laws.specs.Known.Jobs.{TakesSection, ForSection}
use Rattle.cpc_lifted_laws.proofs.Native.Accepted.{one_more, grown}
use Rattle.cpc_lifted_laws.specs.Runs.Laws.{AcceptedSectionsTake}
use Rattle.cpc_lifted_laws.proofs.Runs.Signed.{Declares, item_declares, meant_is, declares_more}

-- ---- one section

-- a name that is no wrong one for a section stands for a function that takes one
meant_section : (s : R.Scope) (m : Meant) (q : Place) → wrong_name m (section_callee s m) q ≡ [] → (ps : List Ty) × (m ≡ AFunction Detached (TyInt Int) ps) × (takes_section s ps ≡ true)
meant_section s (AFunction Detached (TyInt Int) ps) q h = go (takes_section s ps) refl
  where
    go : (b : Bool) → takes_section s ps ≡ b → (us : List Ty) × (AFunction Detached (TyInt Int) ps ≡ AFunction Detached (TyInt Int) us) × (takes_section s us ≡ true)
    go true e = (ps, refl, e)
    go false e = absurd (let z : wrong_name (AFunction Detached (TyInt Int) ps) (section_callee s (AFunction Detached (TyInt Int) ps)) q ≡ (q, Disagree) ∷ [] = simp (e) refl in let w = sym z ∙ h in cc)
meant_section s _ q h = not_broken _ _ h

module _ (p : Program) where
  -- what such a function takes
  takes_so : (s : R.Scope) → Grows s.items p → (ps : List Ty) → takes_section s ps ≡ true → TakesSection p ps
  takes_so s grows (TyPointer t ∷ ps) h =
      let k = and_both (are_integers (cells s.items t)) (all_integers ps) h in
      ForSection t ps (λ us e. go us e (cells s.items t) refl k.0) k.1
    where
      go : (us : List Ty) → cells p t ≡ Some us → (o : Option (List Ty)) → cells s.items t ≡ o → are_integers o ≡ true → all_integers us ≡ true
      go us e None i h = by_false_true h
      go us e (Some vs) i h = let same : vs ≡ us = let z : Some vs ≡ Some us = sym (grows.cells t vs i) ∙ e in cc in ap all_integers (sym same) ∙ h
  takes_so s grows [] h = by_false_true h
  takes_so s grows (_ ∷ ps) h = by_false_true h

  -- sections run this function, which takes what they give
  abbrev Takes : Text → Type 0
  Takes y = (g : Function) → function_named p y ≡ Some g → TakesSection p (parameter_types g)

  abbrev TakesAt : Found → Type 0
  TakesAt (Simple (S.Detach to y es)) = Takes y
  TakesAt s = Unit {0}

  module _ (names : HasNames p) (items : Program) (declared : All (Declares p) (reverse items)) (grows : Grows items p) where
    section_takes : (w : Where) → w.scope.items ≡ items → (k : Place) (x : Ident) (es : LExprs) → section_breaks w k x es ≡ [] → Takes x.text
    section_takes w e k x es h g is =
        let h1 = split (at_if (not (is_cps w.mode)) k CpsInNative) _ h in
        let h2 = split (at_if (is_event w.dialect) k CpsForm) _ h1.1 in
        let h3 = split (wrong_name (meant w.scope x.text) (section_callee w.scope (meant w.scope x.text)) x.place) _ h2.1 in
        let m = meant_section w.scope (meant w.scope x.text) x.place h3.0 in
        let first = meant_is p w.scope (subst (λ its. All (Declares p) (reverse its)) (sym e) declared) x.text Detached (TyInt Int) m.0 m.1 in
        let there = names.there x.text g is in
        let second = ap (item_named 0 p) (sym there.1) ∙ (names.functions g there.0).meant in
        let same : m.0 ≡ parameter_types g = let z : AFunction Detached (TyInt Int) m.0 ≡ AFunction g.mode g.result (map parameter_type g.parameters) = sym first ∙ second in cc in
        subst (TakesSection p) same (takes_so w.scope (subst (λ its. Grows its p) (sym e) grows) m.0 m.2)

    -- ---- statements

    behind_items : (w : Where) (s : LStmt) → w.scope.items ≡ items → (behind w s).scope.items ≡ items
    behind_items w (Declare q x t start) e = e
    behind_items w _ e = e

    all_behind_items : (w : Where) (ss : LStmts) → w.scope.items ≡ items → (all_behind w ss).scope.items ≡ items
    all_behind_items w NoLStmt e = e
    all_behind_items w (AndLStmt s ss) e = all_behind_items (behind w s) ss (behind_items w s e)

    mutual
      stmt_takes : (w : Where) → w.scope.items ≡ items → (s : LStmt) → stmt_breaks w s ≡ [] → (path : Path) → TakesAt (found (bare_stmt s) path)
      stmt_takes w i (Block q NoLStmt) h [] = tt
      stmt_takes w i (Block q NoLStmt) h (k ∷ path) = tt
      stmt_takes w i (Block q (AndLStmt a ss)) h (Nth k ∷ path) = in_takes (inner w) i (AndLStmt a ss) h k path
      stmt_takes w i (Block q (AndLStmt a ss)) h _ = tt
      stmt_takes w i (Detach q o k to x es) h [] = section_takes w i k x es (split (to_breaks w to o (Some (TyInt Int))) _ h).1
      stmt_takes w i (Detach q o k to x es) h (n ∷ path) = tt
      stmt_takes w i (If q c a r) h (TheTest ∷ []) = tt
      stmt_takes w i (If q c a r) h (TheYes ∷ path) = stmt_takes w i a (split (stmt_breaks w a) _ (split (test_breaks w c) _ h).1).0 path
      stmt_takes w i (If q c a r) h (TheNo ∷ path) = arm_takes w i r (split (stmt_breaks w a) _ (split (test_breaks w c) _ h).1).1 path
      stmt_takes w i (If q c a r) h _ = tt
      stmt_takes w i (While q c a) h (TheTest ∷ []) = tt
      stmt_takes w i (While q c a) h (TheBody ∷ path) = stmt_takes w i a (split (test_breaks w c) _ h).1 path
      stmt_takes w i (While q c a) h _ = tt
      stmt_takes w i (DoWhile q a c) h (TheBody ∷ path) = stmt_takes w i a (split (stmt_breaks w a) _ h).0 path
      stmt_takes w i (DoWhile q a c) h (TheTest ∷ []) = tt
      stmt_takes w i (DoWhile q a c) h _ = tt
      stmt_takes w i (For q ss c r a) h (Nth k ∷ path) = in_takes (inner w) i ss (split (stmts_breaks (inner w) ss) _ h).0 k path
      stmt_takes w i (For q ss c r a) h (TheTest ∷ []) = tt
      stmt_takes w i (For q ss c r a) h (TheStep ∷ path) =
          let w2 = all_behind (inner w) ss in
          arm_takes w2 (all_behind_items (inner w) ss i) r (split (maybe_breaks w2 r) _ (split (maybe_test w2 c) _ (split (stmts_breaks (inner w) ss) _ h).1).1).0 path
      stmt_takes w i (For q ss c r a) h (TheBody ∷ path) =
          let w2 = all_behind (inner w) ss in
          stmt_takes w2 (all_behind_items (inner w) ss i) a (split (maybe_breaks w2 r) _ (split (maybe_test w2 c) _ (split (stmts_breaks (inner w) ss) _ h).1).1).1 path
      stmt_takes w i (For q ss c r a) h _ = tt
      stmt_takes w i (Label x a) h (TheBody ∷ path) = stmt_takes w i a h path
      stmt_takes w i (Label x a) h _ = tt
      stmt_takes w i _ h [] = tt
      stmt_takes w i _ h (k ∷ path) = tt

      in_takes : (w : Where) → w.scope.items ≡ items → (ss : LStmts) → stmts_breaks w ss ≡ [] → (k : ℕ) (path : Path) → TakesAt (found_in (bare_stmts ss) k path)
      in_takes w i NoLStmt h k path = tt
      in_takes w i (AndLStmt a ss) h zero path = stmt_takes w i a (split (stmt_breaks w a) _ h).0 path
      in_takes w i (AndLStmt a ss) h (suc k) path = in_takes (behind w a) (behind_items w a i) ss (split (stmt_breaks w a) _ h).1 k path

      arm_takes : (w : Where) → w.scope.items ≡ items → (r : MaybeLStmt) → maybe_breaks w r ≡ [] → (path : Path) → TakesAt (found_arm (bare_maybe r) path)
      arm_takes w i NoneLStmt h path = tt
      arm_takes w i (SomeLStmt a) h path = stmt_takes w i a h path

    body_takes : (w : Where) → w.scope.items ≡ items → (body : LStmt) → body_breaks w body ≡ [] → BodyShape body → (path : Path) → TakesAt (found (bare_stmt body) path)
    body_takes w i (Block q NoLStmt) h b [] = tt
    body_takes w i (Block q NoLStmt) h b (k ∷ path) = tt
    body_takes w i (Block q (AndLStmt a ss)) h b (Nth k ∷ path) = in_takes w i (AndLStmt a ss) h k path
    body_takes w i (Block q (AndLStmt a ss)) h b _ = tt
    body_takes w i _ h b path = absurd b

  -- ---- items

  abbrev FunctionTakes : Function → Type 0
  FunctionTakes f = (path : Path) → TakesAt (found f.body path)

  abbrev ItemTakes : LItem → Type 0
  ItemTakes (LFunctionItem f) = FunctionTakes (bare_function f)
  ItemTakes x = Unit {0}

  module _ (names : HasNames p) where
    function_takes : (before : Program) (f : LFunction) → BodyShape f.body → function_breaks D.Cpc before f ≡ [] → All (Declares p) (reverse (before ++ bare_item (LFunctionItem f) ∷ [])) → Grows (before ++ bare_item (LFunctionItem f) ∷ []) p → FunctionTakes (bare_function f)
    function_takes before f block h declared grows path =
        let h1 = split (reserved_breaks D.Cpc (f.called ∷ [])) _ h in
        let h2 = split (cps_breaks D.Cpc f.mode f.place) _ h1.1 in
        let h3 = split (declared_breaks before f.called (record { mode = f.mode; result = f.result; parameters = types f.parameters; is_defined = true })) _ h2.1 in
        let h4 = split (parameters_breaks D.Cpc f.parameters) _ h3.1 in
        let h5 = split (sized_breaks (outside D.Cpc before).scope f.parameters) _ h4.1 in
        let h6 = split (body_breaks (in_body D.Cpc before f) f.body) _ h5.1 in
        body_takes names (before ++ bare_item (LFunctionItem f) ∷ []) declared grows (in_body D.Cpc before f) refl f.body h6.0 block path

    item_takes : (before : Program) (x : LItem) → ItemShape x → item_breaks D.Cpc p before x ≡ [] → All (Declares p) (reverse (before ++ bare_item x ∷ [])) → Grows (before ++ bare_item x ∷ []) p → ItemTakes x
    item_takes before (LFunctionItem f) shape h declared grows = function_takes before f shape.2 h declared grows
    item_takes before (LStruct tag fs) shape h declared grows = tt
    item_takes before (LGlobal x t start) shape h declared grows = tt
    item_takes before (LPrototype q mode x r ps) shape h declared grows = tt

    items_take : (before : Program) (xs : List LItem) → Each ItemShape xs → p ≡ before ++ map bare_item xs → items_breaks D.Cpc p before xs ≡ [] → All (Declares p) (reverse before) → Each ItemTakes xs
    items_take before [] s whole h declared = tt
    items_take before (x ∷ xs) s whole h declared =
        let k = split (item_breaks D.Cpc p before x) (items_breaks D.Cpc p (before ++ bare_item x ∷ []) xs) h in
        let e = one_more before (map bare_item xs) (bare_item x) in
        let more = declares_more p before (bare_item x) declared (item_declares p before (map bare_item xs) x whole k.0) in
        let grows : Grows (before ++ bare_item x ∷ []) p = subst (Grows (before ++ bare_item x ∷ [])) (e ∙ sym whole) (grown p (before ++ bare_item x ∷ []) xs k.1) in
        (item_takes before x s.0 k.0 more grows, items_take (before ++ bare_item x ∷ []) xs s.1 (whole ∙ sym e) k.1 more)

    -- a function that is found is one of the items
    found_takes : (xs : List LItem) (x : Text) (g : Function) → Each ItemTakes xs → function_named (map bare_item xs) x ≡ Some g → FunctionTakes g
    found_takes [] x g h e = no_some g e
    found_takes (LStruct tag fs ∷ xs) x g h e = found_takes xs x g h.1 e
    found_takes (LGlobal y t start ∷ xs) x g h e = found_takes xs x g h.1 e
    found_takes (LPrototype q mode y r ps ∷ xs) x g h e = found_takes xs x g h.1 e
    found_takes (LFunctionItem f ∷ xs) x g h e = go (bytes_eq f.called.text x) e (found_takes xs x g h.1)
      where
        go : (b : Bool) → cond b (Some (bare_function f)) (function_named (map bare_item xs) x) ≡ Some g → (function_named (map bare_item xs) x ≡ Some g → FunctionTakes g) → FunctionTakes g
        go true e rest = subst FunctionTakes (some_is (bare_function f) g e) h.0
        go false e rest = rest e

  -- ---- positions

  abbrev StoodTakes : Stood → Type 0
  StoodTakes stood = (to : Option Expr) (y : Text) (es : Exprs) → stood ≡ AtStatement (Simple (S.Detach to y es)) → Takes y

  found_is : (s : Found) → TakesAt s → StoodTakes (AtStatement s)
  found_is s h to y es e = let i : s ≡ Simple (S.Detach to y es) = cc in subst TakesAt i h

  point_takes : (f : Function) → FunctionTakes f → (point : Point) → StoodTakes (stood_at (Some f) point)
  point_takes f h (Here path) to y es e = found_is (found f.body path) (h path) to y es e
  point_takes f h (Arrival path) to y es e = absurd (cc)
  point_takes f h End to y es e = absurd (cc)

  position_takes : (x : Text) (f : Function) → function_named p x ≡ Some f → FunctionTakes f → (a : Position) → StoodTakes ((split_form p).code.stood x a)
  position_takes x f is h = stood_like p x (λ stood scope. StoodTakes stood) (λ to y es e. absurd (cc)) (λ point. subst (λ o. StoodTakes (stood_at o point)) (sym is) (point_takes f h point))

pub sections_take : AcceptedSectionsTake
sections_take list end p read unbroken =
    let names = accepted_has_names list end p read unbroken in
    let known = accepted_positions_known list end p read unbroken in
    let k = split (items_breaks D.Cpc (bare p) [] p.items) _ unbroken in
    let all = items_take (bare p) names [] p.items (items_shape list p.items read.1 read.3) refl k.0 (All-nil (Declares (bare p))) in
    record {
      takes = λ x f point is to y es g stood there. position_takes (bare p) x f is (found_takes (bare p) names p.items x f all is) point to y es stood g there;
      named = λ x f point is to y es stood.
          let typed = known.typed x f point (Simple (S.Detach to y es)) is stood in
          let section = typed.1.section in
          record { function = typed.1.function; named = section.is_function; detached = section.detached };
    }
