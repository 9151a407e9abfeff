-- Rows of lines that break no rule, whatever stands behind them.
use Rattle.std.proofs.Common.{◌≡◌, ℕ, Bool, true, false, cond, List, [], ◌∷◌, ◌++◌, map, Option, Some, None, refl, sym, subst}
use Rattle.cpc_base.specs.Bytes.{Text}
use Rattle.cpc_tree.specs.Syntax.{Expr, Stmt, Empty, Declare, Goto, If, Label, Absent}
use Rattle.cpc_check_rules.specs.Operators.{Where}
use Rattle.cpc_check_rules.specs.StmtRules.{test_breaks, stmt_breaks}
use Rattle.cpc_check_laws.proofs.Native.OnePlace.{expr_here, stmt_here}
use Rattle.cpc_chains_laws.specs.Complete.Flat.{Runs, NoRow, AndDeclare, AndLine}
use Rattle.cpc_lifted_laws.proofs.Complete.Rows.{if_fine}
use Rattle.cpc_convert_flat_laws.specs.Flat.{is_line}
use Rattle.cpc_convert_image_laws.specs.Images.{Readings, image}
use Rattle.cpc_chains_event.specs.Lines.{Line, Does, goes, passes, all_do, test_lines}
use Rattle.cpc_convert_routines.specs.Names.{node_label}
use Rattle.cpc_chains_event.specs.Rows.{Plain, Jump, is_next, put_lines, put_statement, label_if}
use Rattle.cpc_chains_event.proofs.Lines.{is_bare, AreBare}
use Rattle.cpc_chains_laws.proofs.Piece.Frames.{puts_do}

module _ (v : Where) where
  -- lines that break no rule before any number
  abbrev pub LinesRun : List Line → Type 0
  LinesRun ls = (o : Option ℕ) → Runs v (map put_statement (put_lines o ls)) v

  jump_if : (b : Bool) (n : ℕ) → Runs v (map put_statement (cond b [] (Jump n ∷ []) ++ [])) v
  jump_if true n = NoRow v
  jump_if false n = AndLine v v (Goto (node_label n)) [] refl refl (NoRow v)

  pass_if : (b : Bool) (n : ℕ) → Runs v (map put_statement (cond b (Plain Empty ∷ []) (Jump n ∷ []) ++ [])) v
  pass_if true n = AndLine v v Empty [] refl refl (NoRow v)
  pass_if false n = AndLine v v (Goto (node_label n)) [] refl refl (NoRow v)

  pub goes_run : (n : Option ℕ) → LinesRun (goes n)
  goes_run None o = NoRow v
  goes_run (Some n) o = jump_if (is_next n o) n

  pub passes_run : (n : Option ℕ) → LinesRun (passes n ∷ [])
  passes_run None o = AndLine v v Empty [] refl refl (NoRow v)
  passes_run (Some n) o = pass_if (is_next n o) n

  pub does_run : (s : Stmt) (n : Option ℕ) → is_line s ≡ true → stmt_breaks v (stmt_here s) ≡ [] → LinesRun (Does s ∷ goes n)
  does_run s n line fine o = AndLine v v s _ line fine (goes_run n o)

  pub all_run : (ss : List Stmt) → Runs v ss v → LinesRun (all_do ss)
  all_run ss h o = subst (λ xs. Runs v xs v) (sym (puts_do o ss)) h

  pub tests_run : (names : Readings) (e : Expr) (n m : Option ℕ) → test_breaks v (expr_here (image names e)) ≡ [] → LinesRun (test_lines names (Some e) n m)
  tests_run names e None m h = passes_run None
  tests_run names e (Some n) m h = λ o. AndLine v v (If (image names e) (Goto (node_label n)) Absent) _ refl (if_fine v (image names e) (Goto (node_label n)) h refl) (goes_run m o)

  -- a label before the first of them breaks none
  pub labelled_run : (b : Bool) (l : Text) (ss : List Stmt) → AreBare ss → Runs v ss v → Runs v (label_if b l ss) v
  labelled_run b l ss h r = go v b ss h r
    where
      go : (u : Where) (b : Bool) (ss : List Stmt) → AreBare ss → Runs v ss u → Runs v (label_if b l ss) u
      go u true [] h r = r
      go u false ss h r = r
      go _ true _ h (AndDeclare _ u x t o ss e s i r) = absurd (let z : is_bare (Declare x t o) ≡ true = h.0 in cc)
      go _ true _ h (AndLine _ u s ss line fine r) = AndLine v u (Label l s) ss line fine r
