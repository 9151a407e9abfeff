-- A row of statements, one after the other.
use Rattle.std.proofs.Common.{◌≡◌, ℕ, ◌+◌, Bool, List, [], ◌++◌, length, Option, refl, ap, ◌∙◌, subst, append_assoc}
use Rattle.cpc_base.specs.Bytes.{Text}
use Rattle.cpc_base.proofs.Lists.{appended_empty}
use Rattle.cpc_tree.specs.Erase.{Names}
use Rattle.cpc_tree.specs.Syntax as S
use Rattle.cpc_tree.specs.Typing as T
use Rattle.cpc_eval_locals.specs.declared.variables.Variable as V
use Rattle.cpc_forms_code.specs.Points.{BoxedPoint}
use Rattle.cpc_box.specs.declared.walk.Walk.{Walk}
use Rattle.cpc_box.specs.Outline.{declares, declares_in, behind, behind_all, outline, outline_in}
use Rattle.cpc_box.specs.Walked.{Stands, Came}
use Rattle.cpc_box.proofs.Going.{both, none, walk_length, walked_as, stands_in}

-- how far a walk through a row has come, of which this is left
pub record SoFar (names : Names) (ms : List V.Variable) (p : S.Program) (fixed : Bool) (old new : Walk) (o : Option ℕ) (sc : T.Scope) (whole rest : S.Stmts) : Type 0 where
  pub xs : List S.Variable
  pub ps : List BoxedPoint
  pub inner : T.Scope
  pub came : Came names ms old new xs ps o inner
  pub variables : xs ++ declares_in fixed rest ≡ declares_in fixed whole
  pub points : ps ++ outline_in p fixed inner (length new.variables.items) rest ≡ outline_in p fixed sc (length old.variables.items) whole
  pub scope : behind_all fixed inner (length new.variables.items) rest ≡ behind_all fixed sc (length old.variables.items) whole

module _ (names : Names) (ms : List V.Variable) (p : S.Program) (fixed : Bool) (texts : List Text) (old : Walk) (q : Option ℕ) (sc : T.Scope) (whole : S.Stmts) where
  pub begins : Stands names texts old q sc → SoFar names ms p fixed old old q sc whole whole
  begins st = record { xs = []; ps = []; inner = sc; came = record { walked = none names ms old old refl; scope = st.scope }; variables = refl; points = refl; scope = refl }

  pub stands_there : (new : Walk) (o : Option ℕ) (rest : S.Stmts) → Stands names texts old q sc → (s : SoFar names ms p fixed old new o sc whole rest) → Stands names texts new o s.inner
  stands_there new o rest st s = stands_in names ms texts old new s.xs s.ps q o sc s.inner st s.came

  pub goes_on : (now new : Walk) (o r : Option ℕ) (s : S.Stmt) (rest : S.Stmts) → (f : SoFar names ms p fixed old now o sc whole (S.AndStmt s rest))
      → Came names ms now new (declares fixed s) (outline p fixed f.inner (length now.variables.items) s) r (behind fixed f.inner (length now.variables.items) s)
      → SoFar names ms p fixed old new r sc whole rest
  goes_on now new o r s rest f c =
      let n = length now.variables.items in
      let m : length new.variables.items ≡ n + length (declares fixed s) = walk_length names ms now new (declares fixed s) (outline p fixed f.inner n s) c.walked in
      let d = behind fixed f.inner n s in
      record {
        xs = f.xs ++ declares fixed s;
        ps = f.ps ++ outline p fixed f.inner n s;
        inner = d;
        came = record { walked = both names ms old now new f.xs (declares fixed s) f.ps (outline p fixed f.inner n s) f.came.walked c.walked; scope = c.scope };
        variables = append_assoc f.xs (declares fixed s) (declares_in fixed rest) ∙ f.variables;
        points =
            append_assoc f.ps (outline p fixed f.inner n s) (outline_in p fixed d (length new.variables.items) rest)
            ∙ (ap (λ k. f.ps ++ (outline p fixed f.inner n s ++ outline_in p fixed d k rest)) m ∙ f.points);
        scope = ap (λ k. behind_all fixed d k rest) m ∙ f.scope;
      }

  pub ends : (new : Walk) (o : Option ℕ) → SoFar names ms p fixed old new o sc whole S.NoStmt → Came names ms old new (declares_in fixed whole) (outline_in p fixed sc (length old.variables.items) whole) o (behind_all fixed sc (length old.variables.items) whole)
  ends new o f =
      let P : T.Scope → Type 0 = λ t. Came names ms old new (declares_in fixed whole) (outline_in p fixed sc (length old.variables.items) whole) o t in
      subst P f.scope (record {
        walked = walked_as names ms old new f.xs (declares_in fixed whole) f.ps (outline_in p fixed sc (length old.variables.items) whole) (appended_empty f.xs ∙ f.variables) (appended_empty f.ps ∙ f.points) f.came.walked;
        scope = f.came.scope;
      })

pub rest_same : (names : Names) (ms : List V.Variable) (p : S.Program) (fixed : Bool) (old new : Walk) (o : Option ℕ) (sc : T.Scope) (whole rest other : S.Stmts) → rest ≡ other
    → SoFar names ms p fixed old new o sc whole rest → SoFar names ms p fixed old new o sc whole other
rest_same names ms p fixed old new o sc whole rest other e f = let P : S.Stmts → Type 0 = SoFar names ms p fixed old new o sc whole in subst P e f
