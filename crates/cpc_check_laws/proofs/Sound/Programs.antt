-- A program of the grammar's shape that breaks no rule is well typed.
use Rattle.std.proofs.Common.{◌≡◌, ◌&&◌, not, ℕ, suc, Bool, true, false, cond, List, [], ◌∷◌, ◌++◌, map, reverse, length, Option, Some, None, bytes_eq, codes, refl, sym, ◌∙◌, ap, subst, append_assoc}
use Rattle.std.specs.Prelude.{is_some}
use Rattle.std.proofs.lemmas.List.{append-nil}
use Rattle.cpc_base.specs.Bytes.{Text}
use Rattle.cpc_base.specs.declared.stop.Place.{Place}
use Rattle.cpc_base.specs.declared.stop.Dialect.{Dialect}
use Rattle.cpc_base.specs.declared.stop.Dialect.TheVariants as D
use Rattle.cpc_base.proofs.Truth.{by_false_true, and_both, or_neither, and_not_fails}
use Rattle.cpc_base.proofs.Lists.{some_is}
use Rattle.cpc_tree.specs.declared.program.Mode.{Mode}
use Rattle.cpc_tree.specs.declared.program.Mode.TheVariants.{Extern, Native, Cps, Detached}
use Rattle.cpc_tree.specs.Syntax.{Ty, Function, Item, FunctionItem, Program}
use Rattle.cpc_tree.specs.Located.{Ident, LStmt, Block, LParameter, LFunction, LItem, LStruct, LGlobal, LPrototype, LFunctionItem, LProgram, bare_stmt, bare_parameter, bare_function, bare_item, bare}
use Rattle.cpc_tree.specs.ItemGrammar.{all_named}
use Rattle.cpc_tree.specs.Typing.{Scope, size, Meant, ALocal, AGlobal, AFunction, NotMeant, item_named, function_named, parameter_type, parameter_types}
use Rattle.cpc_tree.specs.Registers.{as_variable, parameter_scope, outer_scope}
use Rattle.cpc_tree.specs.Points.{locals}
use Rattle.cpc_check_rules.specs.declared.rule.Rule.TheVariants.{Reserved, Twice, Disagree, Undeclared, Incomplete, NoMain}
use Rattle.cpc_check_rules.specs.Rule.{at_if}
use Rattle.cpc_check_rules.specs.Scopes as R
use Rattle.cpc_check_rules.specs.Scopes.{in_items, meant, is_sized, with_name}
use Rattle.cpc_check_rules.specs.Operators.{Where}
use Rattle.cpc_check_rules.specs.FunctionRules.{is_kept, is_reserved, reserved_breaks, labels, locals as names_of_locals, label_breaks, stray_breaks}
use Rattle.cpc_check_rules.specs.ItemRules.{outside, is_struct, is_extern, Signature, is_clash, is_disagreeing, is_item, is_function, declared_breaks, is_host_like, types, cps_breaks, parameters_breaks, prototype_breaks, sized_breaks, parameter_block, in_body, body_breaks, function_breaks, item_breaks, items_breaks}
use Rattle.cpc_check_rules.specs.Rules.{has_main, is_main, breaks}
use Rattle.cpc_meaning.specs.Start.{main_name}
use Rattle.cpc_check_laws.specs.Sound.Typed.{AllSized, BodyTyped, TypedFunction, TypedProgram, is_own}
use Rattle.cpc_meaning.proofs.Functions.{text_same}
use Rattle.cpc_check_laws.proofs.Sound.Answers.{no_some}
use Rattle.cpc_check_laws.proofs.Sound.Agendas.{Each}
use Rattle.cpc_check_laws.proofs.Sound.Unbroken.{split, holds_then}
use Rattle.cpc_check_laws.proofs.Sound.Agreement.{Matches, Grows, sizes_grow, Facts, At}
use Rattle.cpc_check_laws.proofs.Sound.Shapes.{Written, AllWritten}
use Rattle.cpc_check_laws.proofs.Sound.Bodies.{size_of, at_name, stmts_here, all_sized, stmts_sized}
use Rattle.cpc_check_laws.proofs.Sound.Loops.{body_controlled}
use Rattle.cpc_check_laws.proofs.Sound.Items.{signed, named_more, is_defined, function_there}
use Rattle.cpc_check_laws.proofs.Sound.Knowing.{Same, Known, nothing_known, known_struct, known_global, known_function, facts_of}
use Rattle.cpc_check_laws.proofs.Sound.Growing.{IsFresh, grows_step, grows_same, grows_on}
use Rattle.cpc_check_laws.proofs.Run.Names.{primitive_kept}
use Rattle.cpc_check_laws.proofs.Native.NativeValues.{unbroken}

-- ---- shapes

-- a body is a block of the grammar's shape
abbrev pub BodyShape : LStmt → Type 0
BodyShape (Block q ss) = AllWritten ss
BodyShape s = ⊥

-- a function that is defined is no host's, and its parameters have names
abbrev pub ItemShape : LItem → Type 0
ItemShape (LFunctionItem f) = (is_own f.mode ≡ true) × (all_named (λ (p : LParameter). p.called) f.parameters ≡ true) × BodyShape f.body
ItemShape x = Unit {0}

-- ---- single items

-- the types of parameters are those of what they are bare
pub types_are : (ps : List LParameter) → types ps ≡ map parameter_type (map bare_parameter ps)
types_are [] = refl
types_are (p ∷ ps) = ap (λ ts. p.type ∷ ts) (types_are ps)

kept_not : (dialect : Dialect) (x : Text) → is_reserved dialect x ≡ false → is_kept x ≡ false
kept_not D.Event x e = e
kept_not D.Cpc x e = (or_neither (is_kept x) _ e).0

free_name : (dialect : Dialect) (x : Ident) → reserved_breaks dialect (x ∷ []) ≡ [] → is_kept x.text ≡ false
free_name dialect x h = kept_not dialect x.text (unbroken (is_reserved dialect x.text) x.place Reserved (split (at_if (is_reserved dialect x.text) x.place Reserved) [] h).0)

-- a function that is defined is not extern
pub no_extern : (m : Mode) → is_own m ≡ true → is_extern m ≡ false
no_extern Native e = refl
no_extern Cps e = refl
no_extern Detached e = refl
no_extern Extern e = by_false_true e

-- the mode extern is told as extern
pub extern_is : (m : Mode) → m ≡ Extern → is_extern m ≡ true
extern_is m e = ap is_extern e

-- the signature of a function, as a declaration and as a definition
abbrev pub signature : Mode → Ty → List LParameter → Bool → Signature
signature mode r ps is_defined = record { mode = mode; result = r; parameters = types ps; is_defined = is_defined }

module _ (dialect : Dialect) (program before rest : Program) (known : Known program before) where
  known_prototype : (q : Place) (mode : Mode) (x : Ident) (r : Ty) (ps : List LParameter) → prototype_breaks dialect program before q mode x r ps ≡ [] → Known program (before ++ bare_item (LPrototype q mode x r ps) ∷ [])
  known_prototype q mode x r ps h =
      let new = signature mode r ps false in
      let h1 = split (reserved_breaks dialect (x ∷ [])) _ h in
      let h2 = split (cps_breaks dialect mode q) _ h1.1 in
      let h3 = split (declared_breaks before x new) _ h2.1 in
      let c = split (at_if (is_clash x.text new before) x.place Twice) (at_if (is_disagreeing x.text new before) x.place Disagree) h3.0 in
      let h4 = split (at_if (is_extern mode && not (is_host_like r (types ps))) x.place Disagree) _ h3.1 in
      let h5 = split (at_if (not (is_extern mode) && not (is_function x.text program)) x.place Undeclared) _ h4.1 in
      known_function program before known (bare_item (LPrototype q mode x r ps)) x.text new
      (λ p y. ap (λ ts. cond (bytes_eq x.text y) (AFunction mode r ts) (in_items p y)) (sym (types_are ps)))
      (λ k y. ap (λ ts. cond (bytes_eq x.text y) (AFunction mode r ts) NotMeant) (sym (types_are ps)))
      (unbroken (is_clash x.text new before) x.place Twice c.0) (unbroken (is_disagreeing x.text new before) x.place Disagree c.1) (free_name dialect x h1.0)
      (λ e. and_not_fails (is_extern mode) (is_host_like r (types ps)) (unbroken (is_extern mode && not (is_host_like r (types ps))) x.place Disagree h4.0) (extern_is mode e))
      (λ o. and_not_fails (not (is_extern mode)) (is_function x.text program) (unbroken (not (is_extern mode) && not (is_function x.text program)) x.place Undeclared h5.0) (ap not (no_extern mode o)))
      (λ y g e. no_some g e)

  known_definition : (f : LFunction) → ItemShape (LFunctionItem f) → program ≡ before ++ bare_item (LFunctionItem f) ∷ rest → function_breaks dialect before f ≡ [] → Known program (before ++ bare_item (LFunctionItem f) ∷ [])
  known_definition f shape whole h =
      let new = signature f.mode f.result f.parameters true in
      let h1 = split (reserved_breaks dialect (f.called ∷ [])) _ h in
      let h2 = split (cps_breaks dialect f.mode f.place) _ h1.1 in
      let h3 = split (declared_breaks before f.called new) _ h2.1 in
      let c = split (at_if (is_clash f.called.text new before) f.called.place Twice) (at_if (is_disagreeing f.called.text new before) f.called.place Disagree) h3.0 in
      known_function program before known (bare_item (LFunctionItem f)) f.called.text new
      (λ p y. ap (λ ts. cond (bytes_eq f.called.text y) (AFunction f.mode f.result ts) (in_items p y)) (sym (types_are f.parameters)))
      (λ k y. ap (λ ts. cond (bytes_eq f.called.text y) (AFunction f.mode f.result ts) NotMeant) (sym (types_are f.parameters)))
      (unbroken (is_clash f.called.text new before) f.called.place Twice c.0) (unbroken (is_disagreeing f.called.text new before) f.called.place Disagree c.1) (free_name dialect f.called h1.0)
      (λ e. by_false_true (sym (no_extern f.mode shape.0) ∙ extern_is f.mode e))
      (λ o. subst (λ p. is_function f.called.text p ≡ true) (sym whole) (function_there before rest (bare_function f) f.called.text (text_same f.called.text)))
      (λ y g e. is_new f y g e)
    where
      is_new : (f : LFunction) (y : Text) (g : Function) → function_named (FunctionItem (bare_function f) ∷ []) y ≡ Some g → (bytes_eq f.called.text y ≡ true) × (signed (signature f.mode f.result f.parameters true) ≡ AFunction g.mode g.result (parameter_types g))
      is_new f y g e = go (bytes_eq f.called.text y) e
        where
          go : (b : Bool) → cond b (Some (bare_function f)) None ≡ Some g → (b ≡ true) × (signed (signature f.mode f.result f.parameters true) ≡ AFunction g.mode g.result (parameter_types g))
          go true e =
              let i : bare_function f ≡ g = some_is (bare_function f) g e in
              (refl, ap (λ ts. AFunction f.mode f.result ts) (types_are f.parameters) ∙ ap (λ (g : Function). AFunction g.mode g.result (parameter_types g)) i)
          go false e = no_some g e

  known_item : (x : LItem) → ItemShape x → program ≡ before ++ bare_item x ∷ rest → item_breaks dialect program before x ≡ [] → Known program (before ++ bare_item x ∷ [])
  known_item (LStruct tag fs) s whole h = known_struct program before known tag.text _
  known_item (LGlobal x t start) s whole h =
      let h1 = split (reserved_breaks dialect (x ∷ [])) _ h in
      let h2 = split (at_if (is_item x.text before) x.place Twice) _ h1.1 in
      known_global program before known x.text t _ (unbroken (is_item x.text before) x.place Twice h2.0) (free_name dialect x h1.0)
  known_item (LPrototype q mode x r ps) s whole h = known_prototype q mode x r ps h
  known_item (LFunctionItem f) s whole h = known_definition f s whole h

-- an item that breaks nothing is new
fresh_item : (dialect : Dialect) (program before : Program) (x : LItem) → item_breaks dialect program before x ≡ [] → IsFresh before (bare_item x)
fresh_item dialect program before (LStruct tag fs) h =
    let h1 = split (reserved_breaks dialect (tag ∷ [])) _ h in
    unbroken (is_struct tag.text before) tag.place Twice (split (at_if (is_struct tag.text before) tag.place Twice) _ h1.1).0
fresh_item dialect program before (LGlobal x t start) h = tt
fresh_item dialect program before (LPrototype q mode x r ps) h = tt
fresh_item dialect program before (LFunctionItem f) h = tt

-- ---- all items

one_more : (before rest : Program) (i : Item) → (before ++ i ∷ []) ++ rest ≡ before ++ i ∷ rest
one_more before rest i = append_assoc before (i ∷ []) rest

-- what is known at the end
known_all : (dialect : Dialect) (program before : Program) (xs : List LItem) → Each ItemShape xs → program ≡ before ++ map bare_item xs → items_breaks dialect program before xs ≡ [] → Known program before → Known program (before ++ map bare_item xs)
known_all dialect program before [] s whole h known = subst (Known program) (sym (append-nil before)) known
known_all dialect program before (x ∷ xs) s whole h known =
    let k = split (item_breaks dialect program before x) (items_breaks dialect program (before ++ bare_item x ∷ []) xs) h in
    let e = one_more before (map bare_item xs) (bare_item x) in
    subst (Known program) e
    (known_all dialect program (before ++ bare_item x ∷ []) xs s.1 (whole ∙ sym e) k.1 (known_item dialect program before (map bare_item xs) known x s.0 whole k.0))

-- the items so far grow to the whole program
pub grows_all : (dialect : Dialect) (program before : Program) (xs : List LItem) → items_breaks dialect program before xs ≡ [] → Grows before (before ++ map bare_item xs)
grows_all dialect program before [] h = subst (Grows before) (sym (append-nil before)) (grows_same before)
grows_all dialect program before (x ∷ xs) h =
    let k = split (item_breaks dialect program before x) (items_breaks dialect program (before ++ bare_item x ∷ []) xs) h in
    let e = one_more before (map bare_item xs) (bare_item x) in
    subst (Grows before) e
    (grows_on before (before ++ bare_item x ∷ []) ((before ++ bare_item x ∷ []) ++ map bare_item xs) (grows_step before (bare_item x) (fresh_item dialect program before x k.0)) (grows_all dialect program (before ++ bare_item x ∷ []) xs k.1))

-- ---- functions

-- where a function's parameters are in scope
module _ (d : Dialect) (p : Program) (facts : Facts p) (f : Function) (items : Program) (mode : Mode) (result : Ty) (dialect : Dialect) where
  abbrev among_block : R.Block → Where
  among_block block = record { scope = record { items = items; blocks = block ∷ [] }; mode = mode; result = result; dialect = dialect }

  abbrev Named : List LParameter → Type 0
  Named ps = all_named (λ (p : LParameter). p.called) ps ≡ true

  parameters_at : (block : R.Block) (n : ℕ) (ps : List LParameter) (scope : Scope) → Named ps → At d p f (among_block block) scope → At d p f (among_block (parameter_block block ps)) (parameter_scope n (map bare_parameter ps) scope)
  parameters_at block n [] scope e at = at
  parameters_at block n (q ∷ ps) scope e at = one q.called q.type e (λ block scope e at. parameters_at block (suc n) ps scope e at)
    where
      one : (o : Option Ident) (t : Ty) → (is_some o && all_named (λ (p : LParameter). p.called) ps) ≡ true
          → ((block : R.Block) (scope : Scope) → Named ps → At d p f (among_block block) scope → At d p f (among_block (parameter_block block ps)) (parameter_scope (suc n) (map bare_parameter ps) scope))
          → At d p f (among_block (parameter_block block (record { called = o; type = t } ∷ ps))) (parameter_scope n (map bare_parameter (record { called = o; type = t } ∷ ps)) scope)
      one None t e rest = by_false_true e
      one (Some x) t e rest = rest (record { called = x.text; type = t } ∷ block) (record { called = x.text; type = t; slot = n } ∷ scope) e (at_name d p facts f (among_block block) scope n (record { called = x.text; type = t }) at)

-- names of items, by the rules and by the meaning
items_match : (p items rest : Program) (x : Text) → p ≡ items ++ rest → Known p items → Known p p → Matches x (in_items (reverse items) x) (item_named 0 p x)
items_match p items rest x whole known all = go (in_items (reverse items) x) (known.same x)
  where
    go : (m : Meant) → Same m (item_named 0 items x) → Matches x m (item_named 0 p x)
    go (ALocal k t) h = absurd h
    go (AGlobal j t) h = (h.0, ap (λ p. item_named 0 p x) whole ∙ named_more 0 items rest x (AGlobal h.0 t) tt h.1)
    go (AFunction mode r ps) h = ap (λ p. item_named 0 p x) whole ∙ named_more 0 items rest x (AFunction mode r ps) tt h
    go NotMeant h = λ prim e. all.kept x (primitive_kept x prim e)

parameters_sized : (p items : Program) (s : R.Scope) (ps : List LParameter) → s.items ≡ items → Grows items p → all_named (λ (p : LParameter). p.called) ps ≡ true → sized_breaks s ps ≡ [] → AllSized p (map as_variable (map bare_parameter ps))
parameters_sized p items s [] e g n h = tt
parameters_sized p items s (q ∷ ps) e g n h = one q.called q.type n h (λ n h. parameters_sized p items s ps e g n h)
  where
    one : (o : Option Ident) (t : Ty) → (is_some o && all_named (λ (p : LParameter). p.called) ps) ≡ true → sized_breaks s (record { called = o; type = t } ∷ ps) ≡ []
        → (all_named (λ (p : LParameter). p.called) ps ≡ true → sized_breaks s ps ≡ [] → AllSized p (map as_variable (map bare_parameter ps))) → AllSized p (map as_variable (map bare_parameter (record { called = o; type = t } ∷ ps)))
    one None t n h rest = by_false_true n
    one (Some x) t n h rest =
        let k = split (at_if (not (is_sized s t)) x.place Incomplete) (sized_breaks s ps) h in
        let z = size_of s t (holds_then (is_sized s t) x.place Incomplete k.0) in
        ((z.0, sizes_grow items p g t z.0 (subst (λ items. size items t ≡ Some z.0) e z.1)), rest n k.1)

body_typed : (d : Dialect) (p : Program) (facts : Facts p) (f : Function) (w : Where) (scope : Scope) (n : ℕ) → At d p f w scope → (body : LStmt) → BodyShape body → body_breaks w body ≡ [] → BodyTyped d p f scope n (bare_stmt body)
body_typed d p facts f w scope n at (Block q ss) s h = stmts_here d p facts f w scope n at ss s h
body_typed d p facts f w scope n at _ s h = absurd s

body_sized : (p : Program) (w : Where) → Grows w.scope.items p → (body : LStmt) → BodyShape body → body_breaks w body ≡ [] → AllSized p (locals (bare_stmt body))
body_sized p w g (Block q ss) s h = stmts_sized p w g ss h
body_sized p w g _ s h = absurd s

body_written : (body : LStmt) → BodyShape body → Written body
body_written (Block q ss) s = s
body_written _ s = absurd s

-- a function that breaks no rule
function_typed : (dialect : Dialect) (p before rest : Program) (f : LFunction) → ItemShape (LFunctionItem f) → p ≡ (before ++ bare_item (LFunctionItem f) ∷ []) ++ rest → function_breaks dialect before f ≡ []
    → Known p (before ++ bare_item (LFunctionItem f) ∷ []) → Known p p → Grows before p → Grows (before ++ bare_item (LFunctionItem f) ∷ []) p → TypedFunction dialect p (bare_function f)
function_typed dialect p before rest f shape whole h known all grows_before grows =
    let g = bare_function f in
    let items = before ++ bare_item (LFunctionItem f) ∷ [] in
    let w = in_body dialect before f in
    let h1 = split (reserved_breaks dialect (f.called ∷ [])) _ h in
    let h2 = split (cps_breaks dialect f.mode f.place) _ h1.1 in
    let h3 = split (declared_breaks before f.called (signature f.mode f.result f.parameters true)) _ h2.1 in
    let h4 = split (parameters_breaks dialect f.parameters) _ h3.1 in
    let h5 = split (sized_breaks (outside dialect before).scope f.parameters) _ h4.1 in
    let h6 = split (body_breaks w f.body) _ h5.1 in
    let h7 = split (reserved_breaks dialect (names_of_locals f.body ++ labels f.body)) _ h6.1 in
    let h8 = split (label_breaks f.body) _ h7.1 in
    let h9 = split (stray_breaks f.body) _ h8.1 in
    let facts = facts_of p all in
    let start : At dialect p g (among_block dialect p facts g items f.mode f.result dialect []) [] = record { names = λ x. items_match p items rest x whole known all; grows = grows; mode = refl; result = refl; dialect = refl } in
    let at = parameters_at dialect p facts g items f.mode f.result dialect [] 0 f.parameters [] shape.1 start in
    record {
      sized = all_sized p (map as_variable (map bare_parameter f.parameters)) (locals (bare_stmt f.body)) (parameters_sized p before (outside dialect before).scope f.parameters refl grows_before shape.1 h5.0) (body_sized p w grows f.body shape.2 h6.0);
      body = body_typed dialect p facts g w (outer_scope g) (length g.parameters) at f.body shape.2 h6.0;
      control = body_controlled f.body (body_written f.body shape.2) h8.0 h9.0;
    }

abbrev ItemTyped : Dialect → Program → LItem → Type 0
ItemTyped dialect p (LFunctionItem f) = TypedFunction dialect p (bare_function f)
ItemTyped dialect p x = Unit {0}

item_typed : (dialect : Dialect) (p before : Program) (x : LItem) (xs : List LItem) → ItemShape x → p ≡ before ++ bare_item x ∷ map bare_item xs → item_breaks dialect p before x ≡ [] → Known p before → Known p p
    → Grows before p → Grows (before ++ bare_item x ∷ []) p → ItemTyped dialect p x
item_typed dialect p before (LFunctionItem f) xs s whole h known all g1 g2 =
    function_typed dialect p before (map bare_item xs) f s (whole ∙ sym (one_more before (map bare_item xs) (bare_item (LFunctionItem f)))) h (known_item dialect p before (map bare_item xs) known (LFunctionItem f) s whole h) all g1 g2
item_typed dialect p before (LStruct tag fs) xs s whole h known all g1 g2 = tt
item_typed dialect p before (LGlobal x t start) xs s whole h known all g1 g2 = tt
item_typed dialect p before (LPrototype q mode x r ps) xs s whole h known all g1 g2 = tt

items_typed : (dialect : Dialect) (p before : Program) (xs : List LItem) → Each ItemShape xs → p ≡ before ++ map bare_item xs → items_breaks dialect p before xs ≡ [] → Known p before → Known p p → Each (ItemTyped dialect p) xs
items_typed dialect p before [] s whole h known all = tt
items_typed dialect p before (x ∷ xs) s whole h known all =
    let k = split (item_breaks dialect p before x) (items_breaks dialect p (before ++ bare_item x ∷ []) xs) h in
    let e = one_more before (map bare_item xs) (bare_item x) in
    let g1 : Grows before p = subst (Grows before) (sym whole) (grows_all dialect p before (x ∷ xs) h) in
    let g2 : Grows (before ++ bare_item x ∷ []) p = subst (Grows (before ++ bare_item x ∷ [])) (e ∙ sym whole) (grows_all dialect p (before ++ bare_item x ∷ []) xs k.1) in (
      item_typed dialect p before x xs s.0 whole k.0 known all g1 g2,
      items_typed dialect p (before ++ bare_item x ∷ []) xs s.1 (whole ∙ sym e) k.1 (known_item dialect p before (map bare_item xs) known x s.0 whole k.0) all,
    )

-- a function that is found is one of the items
found_typed : (dialect : Dialect) (p : Program) (xs : List LItem) (x : Text) (g : Function) → Each (ItemTyped dialect p) xs → function_named (map bare_item xs) x ≡ Some g → TypedFunction dialect p g
found_typed dialect p [] x g h e = no_some g e
found_typed dialect p (LStruct tag fs ∷ xs) x g h e = found_typed dialect p xs x g h.1 e
found_typed dialect p (LGlobal y t start ∷ xs) x g h e = found_typed dialect p xs x g h.1 e
found_typed dialect p (LPrototype q mode y r ps ∷ xs) x g h e = found_typed dialect p xs x g h.1 e
found_typed dialect p (LFunctionItem f ∷ xs) x g h e = go (bytes_eq f.called.text x) e (found_typed dialect p xs x g h.1)
  where
    go : (b : Bool) → cond b (Some (bare_function f)) (function_named (map bare_item xs) x) ≡ Some g → (function_named (map bare_item xs) x ≡ Some g → TypedFunction dialect p g) → TypedFunction dialect p g
    go true e rest = subst (TypedFunction dialect p) (some_is (bare_function f) g e) h.0
    go false e rest = rest e

main_found : (xs : List LItem) → has_main xs ≡ true → (g : Function) × (function_named (map bare_item xs) main_name ≡ Some g)
main_found [] h = by_false_true h
main_found (LStruct tag fs ∷ xs) h = main_found xs h
main_found (LGlobal y t start ∷ xs) h = main_found xs h
main_found (LPrototype q mode y r ps ∷ xs) h = main_found xs h
main_found (LFunctionItem f ∷ xs) h = go (bytes_eq f.called.text (codes "main")) refl (is_main f) refl h (main_found xs)
  where
    go : (b : Bool) → bytes_eq f.called.text (codes "main") ≡ b → (c : Bool) → is_main f ≡ c → cond c true (has_main xs) ≡ true → (has_main xs ≡ true → (g : Function) × (function_named (map bare_item xs) main_name ≡ Some g))
        → (g : Function) × (cond b (Some (bare_function f)) (function_named (map bare_item xs) main_name) ≡ Some g)
    go true e c i h rest = (bare_function f, refl)
    go false e true i h rest = by_false_true (sym e ∙ (and_both (bytes_eq f.called.text (codes "main")) _ i).0)
    go false e false i h rest = rest h

-- a program of the grammar's shape that breaks no rule
pub program_typed : (dialect : Dialect) (p : LProgram) → Each ItemShape p.items → breaks dialect p ≡ [] → TypedProgram dialect (bare p)
program_typed dialect p s h =
    let k = split (items_breaks dialect (bare p) [] p.items) _ h in
    let l = split (at_if (not (has_main p.items)) p.end NoMain) _ k.1 in
    let known = known_all dialect (bare p) [] p.items s refl k.0 (nothing_known (bare p)) in
    let typed = items_typed dialect (bare p) [] p.items s refl k.0 (nothing_known (bare p)) known in
    let main = main_found p.items (holds_then (has_main p.items) p.end NoMain l.0) in
    record { functions = λ x g e. found_typed dialect (bare p) p.items x g typed e; main = main.0; is_main = main.1 }

-- what is known of its items
pub program_facts : (dialect : Dialect) (p : LProgram) → Each ItemShape p.items → breaks dialect p ≡ [] → Facts (bare p)
program_facts dialect p s h =
    let k = split (items_breaks dialect (bare p) [] p.items) _ h in
    facts_of (bare p) (known_all dialect (bare p) [] p.items s refl k.0 (nothing_known (bare p)))
