-- A spawn as a call of the spawner leaves locals, labels, and breaks and continues as they are.
use Rattle.std.proofs.Common.{◌≡◌, List, [], ◌∷◌, ◌++◌, refl, sym, ◌∙◌, ap, ap₂, drop, drop-drop}
use Rattle.cpc_base.specs.declared.stop.Dialect.TheVariants as D
use Rattle.cpc_tree.specs.Syntax.{Stmt, Block, If, While, DoWhile, For, Label, Stmts, NoStmt, AndStmt, MaybeStmt, Absent, Present}
use Rattle.cpc_tree.specs.Located.{LParameter}
use Rattle.cpc_check_rules.specs.declared.rule.Rule.TheVariants.{LabelTwice}
use Rattle.cpc_check_rules.specs.FunctionRules as F
use Rattle.cpc_check_rules.specs.FunctionRules.{locals, locals_in, locals_maybe, labels, labels_in, labels_maybe, gotos, gotos_in, gotos_maybe, stray_breaks, stray_in, stray_maybe, label_breaks, repeated, missing, many_breaks, variables, parameter_names, reserved_breaks}
use Rattle.cpc_check_laws.proofs.Native.OnePlace.{ident_here, stmt_here, stmts_here, maybe_here}
use Rattle.cpc_check_laws.proofs.Native.NativeItems.{none_first, reserved_native}
use Rattle.cpc_convert_common.specs.Converted.{respawned, respawned_all, respawned_arm}

mutual
  -- the locals
  pub same_locals : (s : Stmt) → locals (stmt_here (respawned s)) ≡ locals (stmt_here s)
  same_locals (Block ss) = same_locals_in ss
  same_locals (If t a b) = ap₂ (λ x y. x ++ y) (same_locals a) (same_locals_maybe b)
  same_locals (While t s) = same_locals s
  same_locals (DoWhile s t) = same_locals s
  same_locals (For first t step s) = ap₂ (λ x y. x ++ y) (same_locals_in first) (same_locals s)
  same_locals (Label l s) = same_locals s
  same_locals _ = refl

  same_locals_in : (ss : Stmts) → locals_in (stmts_here (respawned_all ss)) ≡ locals_in (stmts_here ss)
  same_locals_in NoStmt = refl
  same_locals_in (AndStmt s ss) = ap₂ (λ x y. x ++ y) (same_locals s) (same_locals_in ss)

  same_locals_maybe : (s : MaybeStmt) → locals_maybe (maybe_here (respawned_arm s)) ≡ locals_maybe (maybe_here s)
  same_locals_maybe Absent = refl
  same_locals_maybe (Present s) = same_locals s

mutual
  -- the labels
  pub same_labels : (s : Stmt) → labels (stmt_here (respawned s)) ≡ labels (stmt_here s)
  same_labels (Block ss) = same_labels_in ss
  same_labels (If t a b) = ap₂ (λ x y. x ++ y) (same_labels a) (same_labels_maybe b)
  same_labels (While t s) = same_labels s
  same_labels (DoWhile s t) = same_labels s
  same_labels (For first t step s) = same_labels s
  same_labels (Label l s) = ap (λ x. ident_here l ∷ x) (same_labels s)
  same_labels _ = refl

  same_labels_in : (ss : Stmts) → labels_in (stmts_here (respawned_all ss)) ≡ labels_in (stmts_here ss)
  same_labels_in NoStmt = refl
  same_labels_in (AndStmt s ss) = ap₂ (λ x y. x ++ y) (same_labels s) (same_labels_in ss)

  same_labels_maybe : (s : MaybeStmt) → labels_maybe (maybe_here (respawned_arm s)) ≡ labels_maybe (maybe_here s)
  same_labels_maybe Absent = refl
  same_labels_maybe (Present s) = same_labels s

mutual
  -- the labels that control goes to
  same_gotos : (s : Stmt) → gotos (stmt_here (respawned s)) ≡ gotos (stmt_here s)
  same_gotos (Block ss) = same_gotos_in ss
  same_gotos (If t a b) = ap₂ (λ x y. x ++ y) (same_gotos a) (same_gotos_maybe b)
  same_gotos (While t s) = same_gotos s
  same_gotos (DoWhile s t) = same_gotos s
  same_gotos (For first t step s) = same_gotos s
  same_gotos (Label l s) = same_gotos s
  same_gotos _ = refl

  same_gotos_in : (ss : Stmts) → gotos_in (stmts_here (respawned_all ss)) ≡ gotos_in (stmts_here ss)
  same_gotos_in NoStmt = refl
  same_gotos_in (AndStmt s ss) = ap₂ (λ x y. x ++ y) (same_gotos s) (same_gotos_in ss)

  same_gotos_maybe : (s : MaybeStmt) → gotos_maybe (maybe_here (respawned_arm s)) ≡ gotos_maybe (maybe_here s)
  same_gotos_maybe Absent = refl
  same_gotos_maybe (Present s) = same_gotos s

mutual
  -- breaks and continues where no loop is around them
  pub same_stray : (s : Stmt) → stray_breaks (stmt_here (respawned s)) ≡ stray_breaks (stmt_here s)
  same_stray (Block ss) = same_stray_in ss
  same_stray (If t a b) = ap₂ (λ x y. x ++ y) (same_stray a) (same_stray_maybe b)
  same_stray (Label l s) = same_stray s
  same_stray _ = refl

  same_stray_in : (ss : Stmts) → stray_in (stmts_here (respawned_all ss)) ≡ stray_in (stmts_here ss)
  same_stray_in NoStmt = refl
  same_stray_in (AndStmt s ss) = ap₂ (λ x y. x ++ y) (same_stray s) (same_stray_in ss)

  same_stray_maybe : (s : MaybeStmt) → stray_maybe (maybe_here (respawned_arm s)) ≡ stray_maybe (maybe_here s)
  same_stray_maybe Absent = refl
  same_stray_maybe (Present s) = same_stray s

-- ---- so what a whole body breaks in the one dialect it breaks in the other

-- labels
pub same_label_breaks : (s : Stmt) → label_breaks (stmt_here (respawned s)) ≡ label_breaks (stmt_here s)
same_label_breaks s = ap₂ (λ x y. repeated LabelTwice [] x ++ missing x y) (same_labels s) (same_gotos s)

-- names of locals and labels
pub names_fine : (s : Stmt) → reserved_breaks D.Cpc (locals (stmt_here s) ++ labels (stmt_here s)) ≡ [] → reserved_breaks D.Event (locals (stmt_here (respawned s)) ++ labels (stmt_here (respawned s))) ≡ []
names_fine s h = ap₂ (λ x y. reserved_breaks D.Event (x ++ y)) (same_locals s) (same_labels s) ∙ reserved_native (locals (stmt_here s) ++ labels (stmt_here s)) h

-- the number of variables: the limit of the dialect Event is above that of the dialect Cpc
pub few_fine : (ps : List LParameter) (s : Stmt) → many_breaks D.Cpc ps (stmt_here s) ≡ [] → many_breaks D.Event ps (stmt_here (respawned s)) ≡ []
few_fine ps s h =
    let xs = variables ps (stmt_here s) in
    let front : drop 255 xs ≡ [] = none_first (drop 255 xs) h in
    ap (λ x. F.first_of (drop 1023 (parameter_names ps ++ x))) (same_locals s) ∙ ap F.first_of (sym (drop-drop 768 255 xs) ∙ ap (drop 768) front)
