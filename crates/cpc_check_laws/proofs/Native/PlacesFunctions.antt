-- Which rules the labels, loops, names and variables of a function break, and how many statements it has, does not depend on places.
use Rattle.std.proofs.Common.{◌≡◌, suc, ◌+◌, ◌||◌, not, List, [], ◌∷◌, ◌++◌, drop, length, map, Option, Some, None, bytes_eq, refl, sym, ap, ap₂, ◌∙◌}
use Rattle.std.proofs.lemmas.List.{map-append, drop-map, length-map}
use Rattle.cpc_base.specs.Bytes.{Text}
use Rattle.cpc_base.specs.declared.stop.Dialect.{Dialect}
use Rattle.cpc_tree.specs.Located.{Ident, LStmt, Block, Empty, Declare, Assign, Call, Detach, Spawn, If, While, DoWhile, For, Goto, Label, Break, Continue, Return, LStmts, NoLStmt, AndLStmt, MaybeLStmt, NoneLStmt, SomeLStmt, LParameter, bare_parameter}
use Rattle.cpc_check_rules.specs.declared.rule.Rule.{Rule}
use Rattle.cpc_check_rules.specs.declared.rule.Rule.TheVariants.{NoLabel, LabelTwice, Reserved}
use Rattle.cpc_check_rules.specs.FunctionRules as F
use Rattle.cpc_check_rules.specs.FunctionRules.{among, repeated, labels, labels_in, labels_maybe, gotos, gotos_in, gotos_maybe, missing, label_breaks, stray_breaks, stray_in, stray_maybe, is_reserved, reserved_breaks, parameter_names, locals, locals_in, locals_maybe, variables, variable_limit, many_breaks, statements, statements_in, statements_maybe}
use Rattle.cpc_check_laws.specs.Native.Rows.{rules_of}
use Rattle.cpc_check_laws.proofs.Native.OnePlace.{here, parameter_here}
use Rattle.cpc_check_laws.proofs.Native.PlacesValues.{both_same, same_if}
use Rattle.cpc_check_laws.proofs.Native.PlacesStatements.{moved_ident, moved_stmt, moved_stmts, moved_maybe}

abbrev pub moved_parameter : LParameter → LParameter
moved_parameter p = parameter_here (bare_parameter p)

-- names at one place
abbrev pub moved_idents : List Ident → List Ident
moved_idents xs = map moved_ident xs

abbrev pub moved_parameters : List LParameter → List LParameter
moved_parameters ps = map parameter_here (map bare_parameter ps)

-- two rows of names, each moved
both_moved : (xs ys vs ws : List Ident) → moved_idents xs ≡ vs → moved_idents ys ≡ ws → moved_idents (xs ++ ys) ≡ vs ++ ws
both_moved xs ys vs ws e f = map-append moved_ident xs ys ∙ ap₂ (λ a b. a ++ b) e f

-- ---- names among names

among_same : (x : Text) (xs : List Ident) → among x xs ≡ among x (moved_idents xs)
among_same x [] = refl
among_same x (y ∷ ys) = ap (λ b. bytes_eq y.text x || b) (among_same x ys)

repeated_at : (rule : Rule) (before xs : List Ident) → rules_of (repeated rule before xs) ≡ rules_of (repeated rule (moved_idents before) (moved_idents xs))
repeated_at rule before [] = refl
repeated_at rule before (x ∷ xs) = both_same _ _ _ _ (same_if _ _ x.place here rule (among_same x.text before)) (repeated_at rule (x ∷ before) xs)

pub repeated_same : (rule : Rule) (xs ys : List Ident) → moved_idents xs ≡ ys → rules_of (repeated rule [] xs) ≡ rules_of (repeated rule [] ys)
repeated_same rule xs ys e = repeated_at rule [] xs ∙ ap (λ ys. rules_of (repeated rule [] ys)) e

missing_at : (known xs : List Ident) → rules_of (missing known xs) ≡ rules_of (missing (moved_idents known) (moved_idents xs))
missing_at known [] = refl
missing_at known (x ∷ xs) = both_same _ _ _ _ (same_if _ _ x.place here NoLabel (ap not (among_same x.text known))) (missing_at known xs)

reserved_at : (dialect : Dialect) (xs : List Ident) → rules_of (reserved_breaks dialect xs) ≡ rules_of (reserved_breaks dialect (moved_idents xs))
reserved_at dialect [] = refl
reserved_at dialect (x ∷ xs) = both_same _ _ _ _ (same_if _ _ x.place here Reserved refl) (reserved_at dialect xs)

pub reserved_same : (dialect : Dialect) (xs ys : List Ident) → moved_idents xs ≡ ys → rules_of (reserved_breaks dialect xs) ≡ rules_of (reserved_breaks dialect ys)
reserved_same dialect xs ys e = reserved_at dialect xs ∙ ap (λ ys. rules_of (reserved_breaks dialect ys)) e

-- ---- labels

mutual
  labels_moved : (s : LStmt) → moved_idents (labels s) ≡ labels (moved_stmt s)
  labels_moved (Block q ss) = labels_in_moved ss
  labels_moved (Empty q) = refl
  labels_moved (Declare q x t start) = refl
  labels_moved (Assign q o v op e) = refl
  labels_moved (Call q o to f es) = refl
  labels_moved (Detach q o k to f es) = refl
  labels_moved (Spawn q f es) = refl
  labels_moved (If q c a b) = both_moved (labels a) (labels_maybe b) _ _ (labels_moved a) (labels_maybe_moved b)
  labels_moved (While q c a) = labels_moved a
  labels_moved (DoWhile q a c) = labels_moved a
  labels_moved (For q ss c b a) = labels_moved a
  labels_moved (Goto q x) = refl
  labels_moved (Label x a) = ap (λ xs. moved_ident x ∷ xs) (labels_moved a)
  labels_moved (Break q) = refl
  labels_moved (Continue q) = refl
  labels_moved (Return q e) = refl

  labels_in_moved : (ss : LStmts) → moved_idents (labels_in ss) ≡ labels_in (moved_stmts ss)
  labels_in_moved NoLStmt = refl
  labels_in_moved (AndLStmt s ss) = both_moved (labels s) (labels_in ss) _ _ (labels_moved s) (labels_in_moved ss)

  labels_maybe_moved : (s : MaybeLStmt) → moved_idents (labels_maybe s) ≡ labels_maybe (moved_maybe s)
  labels_maybe_moved NoneLStmt = refl
  labels_maybe_moved (SomeLStmt s) = labels_moved s

mutual
  gotos_moved : (s : LStmt) → moved_idents (gotos s) ≡ gotos (moved_stmt s)
  gotos_moved (Block q ss) = gotos_in_moved ss
  gotos_moved (Empty q) = refl
  gotos_moved (Declare q x t start) = refl
  gotos_moved (Assign q o v op e) = refl
  gotos_moved (Call q o to f es) = refl
  gotos_moved (Detach q o k to f es) = refl
  gotos_moved (Spawn q f es) = refl
  gotos_moved (If q c a b) = both_moved (gotos a) (gotos_maybe b) _ _ (gotos_moved a) (gotos_maybe_moved b)
  gotos_moved (While q c a) = gotos_moved a
  gotos_moved (DoWhile q a c) = gotos_moved a
  gotos_moved (For q ss c b a) = gotos_moved a
  gotos_moved (Goto q x) = refl
  gotos_moved (Label x a) = gotos_moved a
  gotos_moved (Break q) = refl
  gotos_moved (Continue q) = refl
  gotos_moved (Return q e) = refl

  gotos_in_moved : (ss : LStmts) → moved_idents (gotos_in ss) ≡ gotos_in (moved_stmts ss)
  gotos_in_moved NoLStmt = refl
  gotos_in_moved (AndLStmt s ss) = both_moved (gotos s) (gotos_in ss) _ _ (gotos_moved s) (gotos_in_moved ss)

  gotos_maybe_moved : (s : MaybeLStmt) → moved_idents (gotos_maybe s) ≡ gotos_maybe (moved_maybe s)
  gotos_maybe_moved NoneLStmt = refl
  gotos_maybe_moved (SomeLStmt s) = gotos_moved s

pub label_same : (s : LStmt) → rules_of (label_breaks s) ≡ rules_of (label_breaks (moved_stmt s))
label_same s = both_same _ _ _ _ (repeated_same LabelTwice (labels s) _ (labels_moved s))
    (missing_at (labels s) (gotos s) ∙ ap₂ (λ xs ys. rules_of (missing xs ys)) (labels_moved s) (gotos_moved s))

-- ---- loops

mutual
  pub stray_same : (s : LStmt) → rules_of (stray_breaks s) ≡ rules_of (stray_breaks (moved_stmt s))
  stray_same (Block q ss) = stray_in_same ss
  stray_same (Empty q) = refl
  stray_same (Declare q x t start) = refl
  stray_same (Assign q o v op e) = refl
  stray_same (Call q o to f es) = refl
  stray_same (Detach q o k to f es) = refl
  stray_same (Spawn q f es) = refl
  stray_same (If q c a b) = both_same _ _ _ _ (stray_same a) (stray_maybe_same b)
  stray_same (While q c a) = refl
  stray_same (DoWhile q a c) = refl
  stray_same (For q ss c b a) = refl
  stray_same (Goto q x) = refl
  stray_same (Label x a) = stray_same a
  stray_same (Break q) = refl
  stray_same (Continue q) = refl
  stray_same (Return q e) = refl

  stray_in_same : (ss : LStmts) → rules_of (stray_in ss) ≡ rules_of (stray_in (moved_stmts ss))
  stray_in_same NoLStmt = refl
  stray_in_same (AndLStmt s ss) = both_same _ _ _ _ (stray_same s) (stray_in_same ss)

  stray_maybe_same : (s : MaybeLStmt) → rules_of (stray_maybe s) ≡ rules_of (stray_maybe (moved_maybe s))
  stray_maybe_same NoneLStmt = refl
  stray_maybe_same (SomeLStmt s) = stray_same s

-- ---- variables

mutual
  locals_moved : (s : LStmt) → moved_idents (locals s) ≡ locals (moved_stmt s)
  locals_moved (Block q ss) = locals_in_moved ss
  locals_moved (Empty q) = refl
  locals_moved (Declare q x t start) = refl
  locals_moved (Assign q o v op e) = refl
  locals_moved (Call q o to f es) = refl
  locals_moved (Detach q o k to f es) = refl
  locals_moved (Spawn q f es) = refl
  locals_moved (If q c a b) = both_moved (locals a) (locals_maybe b) _ _ (locals_moved a) (locals_maybe_moved b)
  locals_moved (While q c a) = locals_moved a
  locals_moved (DoWhile q a c) = locals_moved a
  locals_moved (For q ss c b a) = both_moved (locals_in ss) (locals a) _ _ (locals_in_moved ss) (locals_moved a)
  locals_moved (Goto q x) = refl
  locals_moved (Label x a) = locals_moved a
  locals_moved (Break q) = refl
  locals_moved (Continue q) = refl
  locals_moved (Return q e) = refl

  locals_in_moved : (ss : LStmts) → moved_idents (locals_in ss) ≡ locals_in (moved_stmts ss)
  locals_in_moved NoLStmt = refl
  locals_in_moved (AndLStmt s ss) = both_moved (locals s) (locals_in ss) _ _ (locals_moved s) (locals_in_moved ss)

  locals_maybe_moved : (s : MaybeLStmt) → moved_idents (locals_maybe s) ≡ locals_maybe (moved_maybe s)
  locals_maybe_moved NoneLStmt = refl
  locals_maybe_moved (SomeLStmt s) = locals_moved s

-- the locals and the labels of a body
pub names_moved : (s : LStmt) → moved_idents (locals s ++ labels s) ≡ locals (moved_stmt s) ++ labels (moved_stmt s)
names_moved s = both_moved (locals s) (labels s) _ _ (locals_moved s) (labels_moved s)

pub parameters_moved : (ps : List LParameter) → moved_idents (parameter_names ps) ≡ parameter_names (moved_parameters ps)
parameters_moved [] = refl
parameters_moved (p ∷ ps) = go p.called (parameters_moved ps)
  where
    go : (o : Option Ident) → moved_idents (parameter_names ps) ≡ parameter_names (moved_parameters ps)
        → moved_idents (parameter_names (record { called = o; type = p.type } ∷ ps)) ≡ parameter_names (moved_parameters (record { called = o; type = p.type } ∷ ps))
    go None e = e
    go (Some x) e = ap (λ xs. moved_ident x ∷ xs) e

variables_moved : (ps : List LParameter) (s : LStmt) → moved_idents (variables ps s) ≡ variables (moved_parameters ps) (moved_stmt s)
variables_moved ps s = both_moved (parameter_names ps) (locals s) _ _ (parameters_moved ps) (locals_moved s)

pub variables_count : (ps : List LParameter) (s : LStmt) → length (variables ps s) ≡ length (variables (moved_parameters ps) (moved_stmt s))
variables_count ps s = sym (length-map (variables ps s) moved_ident) ∙ ap (λ (xs : List Ident). length xs) (variables_moved ps s)

first_same : (xs : List Ident) → rules_of (F.first_of xs) ≡ rules_of (F.first_of (moved_idents xs))
first_same [] = refl
first_same (x ∷ xs) = refl

pub many_same : (dialect : Dialect) (ps : List LParameter) (s : LStmt) → rules_of (many_breaks dialect ps s) ≡ rules_of (many_breaks dialect (moved_parameters ps) (moved_stmt s))
many_same dialect ps s =
    let n = variable_limit dialect in
    first_same (drop n (variables ps s)) ∙ ap (λ xs. rules_of (F.first_of xs)) (sym (drop-map moved_ident n (variables ps s)) ∙ ap (drop n) (variables_moved ps s))

-- ---- breadth

mutual
  pub statements_same : (s : LStmt) → statements s ≡ statements (moved_stmt s)
  statements_same (Block q ss) = ap suc (statements_in_same ss)
  statements_same (Empty q) = refl
  statements_same (Declare q x t start) = refl
  statements_same (Assign q o v op e) = refl
  statements_same (Call q o to f es) = refl
  statements_same (Detach q o k to f es) = refl
  statements_same (Spawn q f es) = refl
  statements_same (If q c a b) = ap₂ (λ m n. suc (m + n)) (statements_same a) (statements_maybe_same b)
  statements_same (While q c a) = ap suc (statements_same a)
  statements_same (DoWhile q a c) = ap suc (statements_same a)
  statements_same (For q ss c b a) = ap₂ (λ m n. suc (m + n)) (statements_in_same ss) (ap₂ (λ m n. m + n) (statements_maybe_same b) (statements_same a))
  statements_same (Goto q x) = refl
  statements_same (Label x a) = ap suc (statements_same a)
  statements_same (Break q) = refl
  statements_same (Continue q) = refl
  statements_same (Return q e) = refl

  statements_in_same : (ss : LStmts) → statements_in ss ≡ statements_in (moved_stmts ss)
  statements_in_same NoLStmt = refl
  statements_in_same (AndLStmt s ss) = ap₂ (λ m n. m + n) (statements_same s) (statements_in_same ss)

  statements_maybe_same : (s : MaybeLStmt) → statements_maybe s ≡ statements_maybe (moved_maybe s)
  statements_maybe_same NoneLStmt = refl
  statements_maybe_same (SomeLStmt s) = statements_same s
