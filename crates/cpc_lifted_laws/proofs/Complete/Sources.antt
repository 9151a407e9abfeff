-- The functions of a source that breaks no rule: the row of each, what stands at its points, and the sizes of its variables.
use Rattle.std.proofs.Common.{◌≡◌, not, Bool, true, false, cond, List, [], ◌∷◌, ◌++◌, length, map, Option, Some, None, bytes_eq, refl, sym, ap, subst, append_assoc, append-nil}
use Rattle.cpc_base.specs.Bytes.{Text}
use Rattle.cpc_base.specs.declared.stop.Dialect.{Dialect}
use Rattle.cpc_base.proofs.Truth.{by_false_true}
use Rattle.cpc_base.proofs.Lists.{some_is}
use Rattle.cpc_tree.specs.Syntax.{Ty, Block, Empty, Stmts, NoStmt, AndStmt, Parameter, Function, Item, StructItem, GlobalItem, PrototypeItem, FunctionItem, Program}
use Rattle.cpc_tree.specs.Located.{LParameter}
use Rattle.cpc_tree.specs.ItemGrammar.{all_named}
use Rattle.cpc_tree.specs.Typing.{function_named}
use Rattle.cpc_tree.specs.Points.{Path, Nth, Simple, found, locals, scope_at}
use Rattle.cpc_tree.specs.Registers.{as_variable, outer_scope, scope_in_function}
use Rattle.cpc_check_rules.specs.declared.rule.Rule.TheVariants.{Incomplete}
use Rattle.cpc_check_rules.specs.Rule.{at_if}
use Rattle.cpc_check_rules.specs.Scopes as S
use Rattle.cpc_check_rules.specs.Scopes.{is_sized}
use Rattle.cpc_check_rules.specs.Operators.{Where}
use Rattle.cpc_check_rules.specs.StmtRules.{stmts_breaks}
use Rattle.cpc_check_rules.specs.FunctionRules.{reserved_breaks}
use Rattle.cpc_check_rules.specs.ItemRules.{declared_breaks, cps_breaks, parameters_breaks, sized_breaks, outside, parameter_block, in_body, body_breaks, function_breaks, item_breaks, items_breaks}
use Rattle.cpc_check_laws.proofs.Native.OnePlace.{ident_here, stmt_here, stmts_here, parameter_here, function_here, item_here, item_again}
use Rattle.cpc_check_laws.proofs.Sound.Answers.{no_some}
use Rattle.cpc_check_laws.proofs.Sound.Unbroken.{split, holds_then}
use Rattle.cpc_lifted_laws.specs.Complete.Steps.{HasSteps, AllHaveSteps}
use Rattle.cpc_lifted_laws.specs.Complete.Standing.{Tells, Standing, NothingStands, Stands, AllSized, NoneSized, AndSized}
use Rattle.cpc_lifted_laws.proofs.Complete.Standing.{at, parameters_told, all_standing, all_sized}
use Rattle.cpc_lifted_laws.proofs.Complete.Kept.{over}
use Rattle.cpc_lifted_laws.proofs.Complete.KeptFunctions.{defined_signature}

-- ---- rows of items

-- the row of a function, and the items before it
pub record RowOf (dialect : Dialect) (before xs : Program) (f : Function) : Type 0 where
  pub front : Program
  pub rest : Program
  pub is : xs ≡ front ++ FunctionItem f ∷ rest
  pub row : function_breaks dialect (before ++ front) (function_here f) ≡ []

row_later : (dialect : Dialect) (before xs : Program) (i : Item) (f : Function) → RowOf dialect (before ++ i ∷ []) xs f → RowOf dialect before (i ∷ xs) f
row_later dialect before xs i f r = record {
  front = i ∷ r.front;
  rest = r.rest;
  is = ap (λ xs. i ∷ xs) r.is;
  row = subst (λ items. function_breaks dialect items (function_here f) ≡ []) (append_assoc before (i ∷ []) r.front) r.row;
}

-- the rows behind the first
rest_row : (dialect : Dialect) (program before : Program) (i : Item) (xs : Program) → items_breaks dialect program before (map item_here (i ∷ xs)) ≡ [] → items_breaks dialect program (before ++ i ∷ []) (map item_here xs) ≡ []
rest_row dialect program before i xs h = subst (λ i. items_breaks dialect program (before ++ i ∷ []) (map item_here xs) ≡ []) (item_again i) (split (item_breaks dialect program before (item_here i)) _ h).1

-- a function that is found breaks no rule where it stands
pub row_of : (dialect : Dialect) (program before xs : Program) → items_breaks dialect program before (map item_here xs) ≡ [] → (x : Text) (f : Function) → function_named xs x ≡ Some f → RowOf dialect before xs f
row_of dialect program before [] h x f e = no_some f e
row_of dialect program before (StructItem tag fs ∷ xs) h x f e = row_later dialect before xs (StructItem tag fs) f (row_of dialect program (before ++ StructItem tag fs ∷ []) xs (rest_row dialect program before (StructItem tag fs) xs h) x f e)
row_of dialect program before (GlobalItem g t start ∷ xs) h x f e = row_later dialect before xs (GlobalItem g t start) f (row_of dialect program (before ++ GlobalItem g t start ∷ []) xs (rest_row dialect program before (GlobalItem g t start) xs h) x f e)
row_of dialect program before (PrototypeItem mode g t us ∷ xs) h x f e =
    row_later dialect before xs (PrototypeItem mode g t us) f (row_of dialect program (before ++ PrototypeItem mode g t us ∷ []) xs (rest_row dialect program before (PrototypeItem mode g t us) xs h) x f e)
row_of dialect program before (FunctionItem g ∷ xs) h x f e =
    go (bytes_eq g.called x) e (λ e. row_later dialect before xs (FunctionItem g) f (row_of dialect program (before ++ FunctionItem g ∷ []) xs (rest_row dialect program before (FunctionItem g) xs h) x f e))
  where
    go : (b : Bool) → cond b (Some g) (function_named xs x) ≡ Some f → (function_named xs x ≡ Some f → RowOf dialect before (FunctionItem g ∷ xs) f) → RowOf dialect before (FunctionItem g ∷ xs) f
    go false e later = later e
    go true e later = record {
      front = [];
      rest = xs;
      is = ap (λ g. FunctionItem g ∷ xs) (some_is g f e);
      row = subst (λ items. function_breaks dialect items (function_here f) ≡ []) (sym (append-nil before))
          (subst (λ g. function_breaks dialect before (function_here g) ≡ []) (some_is g f e) (split (item_breaks dialect program before (item_here (FunctionItem g))) _ h).0);
    }

-- ---- the points of a function

module _ (dialect : Dialect) (before : Program) (f : Function) (row : function_breaks dialect before (function_here f) ≡ []) where
  abbrev ps : List LParameter
  ps = map parameter_here f.parameters

  -- where its body stands
  abbrev pub inside : List S.Block → Where
  inside blocks = at (before ++ FunctionItem f ∷ []) f.mode f.result dialect blocks

  sized_row : sized_breaks (outside dialect before).scope ps ≡ []
  sized_row =
      let h1 = split (reserved_breaks dialect (ident_here f.called ∷ [])) _ row in
      let h2 = split (cps_breaks dialect f.mode _) _ h1.1 in
      let h3 = split (declared_breaks before (ident_here f.called) (defined_signature f)) _ h2.1 in
      let h4 = split (parameters_breaks dialect ps) _ h3.1 in
      (split (sized_breaks (outside dialect before).scope ps) _ h4.1).0

  body_row : body_breaks (inside (parameter_block [] ps ∷ [])) (stmt_here f.body) ≡ []
  body_row =
      let h1 = split (reserved_breaks dialect (ident_here f.called ∷ [])) _ row in
      let h2 = split (cps_breaks dialect f.mode _) _ h1.1 in
      let h3 = split (declared_breaks before (ident_here f.called) (defined_signature f)) _ h2.1 in
      let h4 = split (parameters_breaks dialect ps) _ h3.1 in
      let h5 = split (sized_breaks (outside dialect before).scope ps) _ h4.1 in
      let h6 = split (body_breaks (in_body dialect before (function_here f)) (stmt_here f.body)) _ h5.1 in
      subst (λ i. body_breaks (at (before ++ i ∷ []) f.mode f.result dialect (parameter_block [] ps ∷ [])) (stmt_here f.body) ≡ []) (item_again (FunctionItem f)) h6.0

  module _ (ss : Stmts) (is_block : f.body ≡ Block ss) (named : all_named (λ (p : Parameter). p.called) f.parameters ≡ true) where
    stmts_row : stmts_breaks (inside (parameter_block [] ps ∷ [])) (stmts_here ss) ≡ []
    stmts_row = subst (λ s. body_breaks (inside (parameter_block [] ps ∷ [])) (stmt_here s) ≡ []) is_block body_row

    -- what stands at a point of its body breaks no rule
    pub point_standing : HasSteps f.body → (q : Path) → Standing inside (scope_in_function f q) (found f.body q)
    point_standing steps q =
        subst (λ s. Standing inside (scope_at (outer_scope f) (length f.parameters) s q) (found s q)) (sym is_block)
        (block_standing ss q (subst HasSteps is_block steps) (parameters_told [] 0 f.parameters [] named (λ x m. refl)) stmts_row)
      where
        block_standing : (ss : Stmts) (q : Path) → AllHaveSteps ss → Tells (outer_scope f) (parameter_block [] ps ∷ []) → stmts_breaks (inside (parameter_block [] ps ∷ [])) (stmts_here ss) ≡ []
            → Standing inside (scope_at (outer_scope f) (length f.parameters) (Block ss) q) (found (Block ss) q)
        block_standing NoStmt [] g tells h = Stands (Simple Empty) (parameter_block [] ps ∷ []) tells refl
        block_standing NoStmt (k ∷ q) g tells h = NothingStands
        block_standing (AndStmt s ss) (Nth k ∷ q) g tells h = all_standing (before ++ FunctionItem f ∷ []) f.mode f.result dialect (outer_scope f) (length f.parameters) (AndStmt s ss) k q (parameter_block [] ps ∷ []) g tells h
        block_standing (AndStmt s ss) _ g tells h = NothingStands

    -- its locals have sizes
    pub locals_sized : AllSized (over (before ++ FunctionItem f ∷ []) []) (locals f.body)
    locals_sized = subst (λ s. AllSized (over (before ++ FunctionItem f ∷ []) []) (locals s)) (sym is_block) (all_sized (before ++ FunctionItem f ∷ []) f.mode f.result dialect ss (parameter_block [] ps ∷ []) stmts_row)

    -- and so have its parameters
    parameters_sized : (ps : List Parameter) → all_named (λ (p : Parameter). p.called) ps ≡ true → sized_breaks (outside dialect before).scope (map parameter_here ps) ≡ [] → AllSized (outside dialect before).scope (map as_variable ps)
    parameters_sized [] e h = NoneSized
    parameters_sized (p ∷ ps) e h = one p.called p.type e h (λ e h. parameters_sized ps e h)
      where
        one : (o : Option Text) (t : Ty) → all_named (λ (p : Parameter). p.called) (record { called = o; type = t } ∷ ps) ≡ true → sized_breaks (outside dialect before).scope (map parameter_here (record { called = o; type = t } ∷ ps)) ≡ []
            → (all_named (λ (p : Parameter). p.called) ps ≡ true → sized_breaks (outside dialect before).scope (map parameter_here ps) ≡ [] → AllSized (outside dialect before).scope (map as_variable ps))
            → AllSized (outside dialect before).scope (map as_variable (record { called = o; type = t } ∷ ps))
        one None t e h rest = by_false_true e
        one (Some x) t e h rest =
            let k = split (at_if (not (is_sized (outside dialect before).scope t)) _ Incomplete) _ h in
            AndSized _ (map as_variable ps) (holds_then (is_sized (outside dialect before).scope t) _ Incomplete k.0) (rest e k.1)

    pub parameters_have_sizes : AllSized (outside dialect before).scope (map as_variable f.parameters)
    parameters_have_sizes = parameters_sized f.parameters named sized_row
