-- Detached functions of an accepted program name no other functions: what the rules know of each item in turn.
use Rattle.std.proofs.Common.{◌≡◌, ◌&&◌, not, ℕ, suc, Bool, true, false, cond, List, [], ◌∷◌, ◌++◌, map, reverse, length, Option, Some, None, bytes_eq, refl, sym, ◌∙◌, ap, subst}
use Rattle.std.specs.Prelude.{is_some}
use Rattle.cpc_base.specs.Bytes.{Text}
use Rattle.cpc_base.specs.declared.stop.Place.{Place}
use Rattle.cpc_base.specs.declared.stop.Dialect.TheVariants as D
use Rattle.cpc_base.proofs.Truth.{by_false_true, or_neither, and_not_fails}
use Rattle.cpc_base.proofs.Lists.{some_is}
use Rattle.cpc_tree.specs.declared.program.Mode.{Mode}
use Rattle.cpc_tree.specs.Syntax.{Ty, Function, FunctionItem, Program}
use Rattle.cpc_tree.specs.Located.{Ident, LStmt, Block, NoLStmt, AndLStmt, LParameter, LFunction, LItem, LStruct, LGlobal, LPrototype, LFunctionItem, bare_stmt, bare_parameter, bare_function, bare_item, bare}
use Rattle.cpc_tree.specs.ItemGrammar.{all_named}
use Rattle.cpc_tree.specs.Points.{Path, Nth, found, scope_at}
use Rattle.cpc_tree.specs.Typing.{Scope, Meant, ALocal, AGlobal, AFunction, NotMeant, item_named, function_named, parameter_types}
use Rattle.cpc_tree.specs.Registers.{parameter_scope, outer_scope, scope_in_function}
use Rattle.cpc_check_rules.specs.declared.rule.Rule.TheVariants.{Reserved, Twice, Disagree, Undeclared}
use Rattle.cpc_check_rules.specs.Rule.{at_if}
use Rattle.cpc_check_rules.specs.Scopes as R
use Rattle.cpc_check_rules.specs.Scopes.{in_items, meant}
use Rattle.cpc_check_rules.specs.Operators.{Where, is_detached}
use Rattle.cpc_check_rules.specs.FunctionRules.{is_kept, is_reserved, reserved_breaks}
use Rattle.cpc_check_rules.specs.ItemRules.{outside, is_extern, is_clash, is_disagreeing, is_item, is_function, declared_breaks, is_host_like, types, cps_breaks, parameters_breaks, prototype_breaks, sized_breaks, parameter_block, in_body, body_breaks, function_breaks, item_breaks, items_breaks}
use Rattle.cpc_meaning.proofs.Functions.{text_same}
use Rattle.cpc_check_laws.proofs.Sound.Agendas.{Each}
use Rattle.cpc_check_laws.proofs.Sound.Agreement.{Matches, Grows, Facts, At}
use Rattle.cpc_check_laws.proofs.Sound.Answers.{no_some}
use Rattle.cpc_check_laws.proofs.Sound.Bodies.{at_name}
use Rattle.cpc_check_laws.proofs.Sound.Grammar.{items_shape}
use Rattle.cpc_check_laws.proofs.Sound.Items.{signed, named_more, function_there}
use Rattle.cpc_check_laws.proofs.Sound.Knowing.{Same, Known, nothing_known, known_struct, known_global, known_function}
use Rattle.cpc_check_laws.proofs.Sound.Programs.{BodyShape, ItemShape, types_are, no_extern, extern_is, signature}
use Rattle.cpc_check_laws.proofs.Sound.Accepted.{accepted_facts}
use Rattle.cpc_check_laws.proofs.Sound.Unbroken.{split}
use Rattle.cpc_check_laws.proofs.Native.NativeValues.{unbroken as holds_not}
use Rattle.cpc_meaning.specs.Names.{AllNamesFound}
use Rattle.cpc_lifted_laws.specs.Accepted.Names.{HasNames}
use Rattle.cpc_lifted_laws.proofs.Accepted.Names.{accepted_has_names}
use Rattle.cpc_lifted_laws.specs.Native.Instance.{ClosedName}
use Rattle.cpc_lifted_laws.specs.Native.Laws.{AcceptedCloses}
use Rattle.cpc_lifted_laws.proofs.Native.Accepted.{one_more, grown}
use Rattle.cpc_lifted_laws.proofs.Native.Closing.{in_closed}

-- ---- declarations

free_name : (x : Ident) → reserved_breaks D.Cpc (x ∷ []) ≡ [] → is_kept x.text ≡ false
free_name x h = (or_neither (is_kept x.text) _ (holds_not (is_reserved D.Cpc x.text) x.place Reserved (split (at_if (is_reserved D.Cpc x.text) x.place Reserved) [] h).0)).0

module _ (program before rest : Program) (known : Known program before) where
  known_prototype : (q : Place) (mode : Mode) (x : Ident) (r : Ty) (ps : List LParameter) → prototype_breaks D.Cpc program before q mode x r ps ≡ [] → Known program (before ++ bare_item (LPrototype q mode x r ps) ∷ [])
  known_prototype q mode x r ps h =
      let new = signature mode r ps false in
      let h1 = split (reserved_breaks D.Cpc (x ∷ [])) _ h in
      let h2 = split (cps_breaks D.Cpc mode q) _ h1.1 in
      let h3 = split (declared_breaks before x new) _ h2.1 in
      let c = split (at_if (is_clash x.text new before) x.place Twice) (at_if (is_disagreeing x.text new before) x.place Disagree) h3.0 in
      let h4 = split (at_if (is_extern mode && not (is_host_like r (types ps))) x.place Disagree) _ h3.1 in
      let h5 = split (at_if (not (is_extern mode) && not (is_function x.text program)) x.place Undeclared) _ h4.1 in
      known_function program before known (bare_item (LPrototype q mode x r ps)) x.text new
      (λ p y. ap (λ ts. cond (bytes_eq x.text y) (AFunction mode r ts) (in_items p y)) (sym (types_are ps)))
      (λ k y. ap (λ ts. cond (bytes_eq x.text y) (AFunction mode r ts) NotMeant) (sym (types_are ps)))
      (holds_not (is_clash x.text new before) x.place Twice c.0) (holds_not (is_disagreeing x.text new before) x.place Disagree c.1) (free_name x h1.0)
      (λ e. and_not_fails (is_extern mode) (is_host_like r (types ps)) (holds_not (is_extern mode && not (is_host_like r (types ps))) x.place Disagree h4.0) (extern_is mode e))
      (λ o. and_not_fails (not (is_extern mode)) (is_function x.text program) (holds_not (not (is_extern mode) && not (is_function x.text program)) x.place Undeclared h5.0) (ap not (no_extern mode o)))
      (λ y g e. no_some g e)

  known_definition : (f : LFunction) → ItemShape (LFunctionItem f) → program ≡ before ++ bare_item (LFunctionItem f) ∷ rest → function_breaks D.Cpc before f ≡ [] → Known program (before ++ bare_item (LFunctionItem f) ∷ [])
  known_definition f shape whole h =
      let new = signature f.mode f.result f.parameters true in
      let h1 = split (reserved_breaks D.Cpc (f.called ∷ [])) _ h in
      let h2 = split (cps_breaks D.Cpc f.mode f.place) _ h1.1 in
      let h3 = split (declared_breaks before f.called new) _ h2.1 in
      let c = split (at_if (is_clash f.called.text new before) f.called.place Twice) (at_if (is_disagreeing f.called.text new before) f.called.place Disagree) h3.0 in
      known_function program before known (bare_item (LFunctionItem f)) f.called.text new
      (λ p y. ap (λ ts. cond (bytes_eq f.called.text y) (AFunction f.mode f.result ts) (in_items p y)) (sym (types_are f.parameters)))
      (λ k y. ap (λ ts. cond (bytes_eq f.called.text y) (AFunction f.mode f.result ts) NotMeant) (sym (types_are f.parameters)))
      (holds_not (is_clash f.called.text new before) f.called.place Twice c.0) (holds_not (is_disagreeing f.called.text new before) f.called.place Disagree c.1) (free_name f.called h1.0)
      (λ e. by_false_true (sym (no_extern f.mode shape.0) ∙ extern_is f.mode e))
      (λ o. subst (λ p. is_function f.called.text p ≡ true) (sym whole) (function_there before rest (bare_function f) f.called.text (text_same f.called.text)))
      (λ y g e. is_new f y g e)
    where
      is_new : (f : LFunction) (y : Text) (g : Function) → function_named (FunctionItem (bare_function f) ∷ []) y ≡ Some g → (bytes_eq f.called.text y ≡ true) × (signed (signature f.mode f.result f.parameters true) ≡ AFunction g.mode g.result (parameter_types g))
      is_new f y g e = go (bytes_eq f.called.text y) e
        where
          go : (b : Bool) → cond b (Some (bare_function f)) None ≡ Some g → (b ≡ true) × (signed (signature f.mode f.result f.parameters true) ≡ AFunction g.mode g.result (parameter_types g))
          go true e =
              let i : bare_function f ≡ g = some_is (bare_function f) g e in
              (refl, ap (λ ts. AFunction f.mode f.result ts) (types_are f.parameters) ∙ ap (λ (g : Function). AFunction g.mode g.result (parameter_types g)) i)
          go false e = no_some g e

  known_item : (x : LItem) → ItemShape x → program ≡ before ++ bare_item x ∷ rest → item_breaks D.Cpc program before x ≡ [] → Known program (before ++ bare_item x ∷ [])
  known_item (LStruct tag fs) s whole h = known_struct program before known tag.text _
  known_item (LGlobal x t start) s whole h =
      let h1 = split (reserved_breaks D.Cpc (x ∷ [])) _ h in
      let h2 = split (at_if (is_item x.text before) x.place Twice) _ h1.1 in
      known_global program before known x.text t _ (holds_not (is_item x.text before) x.place Twice h2.0) (free_name x h1.0)
  known_item (LPrototype q mode x r ps) s whole h = known_prototype q mode x r ps h
  known_item (LFunctionItem f) s whole h = known_definition f s whole h

-- ---- where a body stands

module _ (p : Program) (facts : Facts p) (f : Function) (items : Program) (mode : Mode) (result : Ty) where
  abbrev among_block : R.Block → Where
  among_block block = record { scope = record { items = items; blocks = block ∷ [] }; mode = mode; result = result; dialect = D.Cpc }

  abbrev Named : List LParameter → Type 0
  Named ps = all_named (λ (p : LParameter). p.called) ps ≡ true

  parameters_at : (block : R.Block) (n : ℕ) (ps : List LParameter) (scope : Scope) → Named ps → At D.Cpc p f (among_block block) scope → At D.Cpc p f (among_block (parameter_block block ps)) (parameter_scope n (map bare_parameter ps) scope)
  parameters_at block n [] scope e at = at
  parameters_at block n (q ∷ ps) scope e at = one q.called q.type e (λ block scope e at. parameters_at block (suc n) ps scope e at)
    where
      one : (o : Option Ident) (t : Ty) → (is_some o && all_named (λ (p : LParameter). p.called) ps) ≡ true
          → ((block : R.Block) (scope : Scope) → Named ps → At D.Cpc p f (among_block block) scope → At D.Cpc p f (among_block (parameter_block block ps)) (parameter_scope (suc n) (map bare_parameter ps) scope))
          → At D.Cpc p f (among_block (parameter_block block (record { called = o; type = t } ∷ ps))) (parameter_scope n (map bare_parameter (record { called = o; type = t } ∷ ps)) scope)
      one None t e rest = by_false_true e
      one (Some x) t e rest = rest (record { called = x.text; type = t } ∷ block) (record { called = x.text; type = t; slot = n } ∷ scope) e (at_name D.Cpc p facts f (among_block block) scope n (record { called = x.text; type = t }) at)

items_match : (p items rest : Program) (x : Text) → p ≡ items ++ rest → Known p items → HasNames p → Matches x (in_items (reverse items) x) (item_named 0 p x)
items_match p items rest x whole known names = go (in_items (reverse items) x) (known.same x)
  where
    go : (m : Meant) → Same m (item_named 0 items x) → Matches x m (item_named 0 p x)
    go (ALocal k t) h = absurd h
    go (AGlobal j t) h = (h.0, ap (λ p. item_named 0 p x) whole ∙ named_more 0 items rest x (AGlobal h.0 t) tt h.1)
    go (AFunction mode r ps) h = ap (λ p. item_named 0 p x) whole ∙ named_more 0 items rest x (AFunction mode r ps) tt h
    go NotMeant h = λ prim e. names.primitives x prim e

-- ---- functions

module _ (p : Program) (facts : Facts p) (names : HasNames p) where
  -- a detached function names detached ones alone
  abbrev Closes : Function → Type 0
  Closes f = is_detached f.mode ≡ true → (path : Path) → AllNamesFound (ClosedName p (scope_in_function f path)) (found f.body path)

  body_closed : (f : Function) → is_detached f.mode ≡ true → (w : Where) (scope : Scope) (n : ℕ) → At D.Cpc p f w scope → (body : LStmt) → BodyShape body → body_breaks w body ≡ [] → (path : Path)
      → AllNamesFound (ClosedName p (scope_at scope n (bare_stmt body) path)) (found (bare_stmt body) path)
  body_closed f det w scope n at (Block q NoLStmt) s h [] = tt
  body_closed f det w scope n at (Block q NoLStmt) s h (k ∷ path) = tt
  body_closed f det w scope n at (Block q (AndLStmt a ss)) s h (Nth k ∷ path) = in_closed p facts f det w scope n at (AndLStmt a ss) s h k path
  body_closed f det w scope n at (Block q (AndLStmt a ss)) s h _ = tt
  body_closed f det w scope n at _ s h path = absurd s

  function_closed : (before rest : Program) (f : LFunction) → ItemShape (LFunctionItem f) → p ≡ (before ++ bare_item (LFunctionItem f) ∷ []) ++ rest → function_breaks D.Cpc before f ≡ []
      → Known p (before ++ bare_item (LFunctionItem f) ∷ []) → Grows (before ++ bare_item (LFunctionItem f) ∷ []) p → Closes (bare_function f)
  function_closed before rest f shape whole h known grows det path =
      let g = bare_function f in
      let items = before ++ bare_item (LFunctionItem f) ∷ [] in
      let w = in_body D.Cpc before f in
      let h1 = split (reserved_breaks D.Cpc (f.called ∷ [])) _ h in
      let h2 = split (cps_breaks D.Cpc f.mode f.place) _ h1.1 in
      let h3 = split (declared_breaks before f.called (signature f.mode f.result f.parameters true)) _ h2.1 in
      let h4 = split (parameters_breaks D.Cpc f.parameters) _ h3.1 in
      let h5 = split (sized_breaks (outside D.Cpc before).scope f.parameters) _ h4.1 in
      let h6 = split (body_breaks w f.body) _ h5.1 in
      let start : At D.Cpc p g (among_block p facts g items f.mode f.result []) [] = record { names = λ x. items_match p items rest x whole known names; grows = grows; mode = refl; result = refl; dialect = refl } in
      let at = parameters_at p facts g items f.mode f.result [] 0 f.parameters [] shape.1 start in
      body_closed g det w (outer_scope g) (length g.parameters) at f.body shape.2 h6.0 path

  -- ---- all items

  abbrev ItemCloses : LItem → Type 0
  ItemCloses (LFunctionItem f) = Closes (bare_function f)
  ItemCloses x = Unit {0}

  item_closed : (before : Program) (x : LItem) (xs : List LItem) → ItemShape x → p ≡ (before ++ bare_item x ∷ []) ++ map bare_item xs → item_breaks D.Cpc p before x ≡ [] → Known p (before ++ bare_item x ∷ []) → Grows (before ++ bare_item x ∷ []) p → ItemCloses x
  item_closed before (LFunctionItem f) xs s whole h known grows = function_closed before (map bare_item xs) f s whole h known grows
  item_closed before (LStruct tag fs) xs s whole h known grows = tt
  item_closed before (LGlobal x t start) xs s whole h known grows = tt
  item_closed before (LPrototype q mode x r ps) xs s whole h known grows = tt

  items_closed : (before : Program) (xs : List LItem) → Each ItemShape xs → p ≡ before ++ map bare_item xs → items_breaks D.Cpc p before xs ≡ [] → Known p before → Each ItemCloses xs
  items_closed before [] s whole h known = tt
  items_closed before (x ∷ xs) s whole h known =
      let k = split (item_breaks D.Cpc p before x) (items_breaks D.Cpc p (before ++ bare_item x ∷ []) xs) h in
      let e = one_more before (map bare_item xs) (bare_item x) in
      let known' = known_item p before (map bare_item xs) known x s.0 whole k.0 in
      let grows : Grows (before ++ bare_item x ∷ []) p = subst (Grows (before ++ bare_item x ∷ [])) (e ∙ sym whole) (grown p (before ++ bare_item x ∷ []) xs k.1) in
      (item_closed before x xs s.0 (whole ∙ sym e) k.0 known' grows, items_closed (before ++ bare_item x ∷ []) xs s.1 (whole ∙ sym e) k.1 known')

  -- a function that is found is one of the items
  found_closed : (xs : List LItem) (x : Text) (g : Function) → Each ItemCloses xs → function_named (map bare_item xs) x ≡ Some g → Closes g
  found_closed [] x g h e = no_some g e
  found_closed (LStruct tag fs ∷ xs) x g h e = found_closed xs x g h.1 e
  found_closed (LGlobal y t start ∷ xs) x g h e = found_closed xs x g h.1 e
  found_closed (LPrototype q mode y r ps ∷ xs) x g h e = found_closed xs x g h.1 e
  found_closed (LFunctionItem f ∷ xs) x g h e = go (bytes_eq f.called.text x) e (found_closed xs x g h.1)
    where
      go : (b : Bool) → cond b (Some (bare_function f)) (function_named (map bare_item xs) x) ≡ Some g → (function_named (map bare_item xs) x ≡ Some g → Closes g) → Closes g
      go true e rest = subst Closes (some_is (bare_function f) g e) h.0
      go false e rest = rest e

pub accepted_closes : AcceptedCloses
accepted_closes list end p read unbroken x f is det path =
    let names = accepted_has_names list end p read unbroken in
    let facts = accepted_facts D.Cpc list end p read unbroken in
    let k = split (items_breaks D.Cpc (bare p) [] p.items) _ unbroken in
    found_closed (bare p) facts names p.items x f (items_closed (bare p) facts names [] p.items (items_shape list p.items read.1 read.3) refl k.0 (nothing_known (bare p))) is det path
