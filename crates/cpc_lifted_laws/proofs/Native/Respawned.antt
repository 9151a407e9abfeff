-- What stands at the points of a native function, and in it with its spawns as calls of spawners.
use Rattle.std.proofs.Common.{◌≡◌, ℕ, zero, suc, Bool, [], ◌∷◌, refl, ◌∙◌, ap, length, Some}
use Rattle.cpc_base.specs.Bytes.{Text}
use Rattle.cpc_tree.specs.Syntax.{Exprs, Stmt, Block, Spawn, If, While, DoWhile, For, Label, Stmts, NoStmt, AndStmt, MaybeStmt, Absent, Present, Function}
use Rattle.cpc_tree.specs.Points.{Nth, TheTest, TheYes, TheNo, TheStep, TheBody, Path, Point, Here, Arrival, End, Found, Simple, found, found_in, found_arm, after, Move, Into, Out, ToLabel, Broken, Continued, NoMove, at_label, arrived, next_point}
use Rattle.cpc_tree.specs.Registers.{outer_scope}
use Rattle.cpc_meaning.specs.Trees.{scope_from}
use Rattle.cpc_convert_common.specs.Converted.{respawned}
use Rattle.cpc_convert_common.proofs.Respawn.{afters, labels, respawned_found, same_scope}
use Rattle.cpc_convert_routines.specs.Kept.{kept_function}

-- a spawn, or what is the same then
pub data Kind : Found → Type 0 where
  ASpawn : (f : Text) (es : Exprs) → Kind (Simple (Spawn f es))
  Another : (s : Found) → respawned_found s ≡ s → Kind s

mutual
  pub kind_of : (s : Stmt) (p : Path) → Kind (found s p)
  kind_of (Block NoStmt) [] = Another _ refl
  kind_of (Block (AndStmt s ss)) (Nth n ∷ p) = kind_in (AndStmt s ss) n p
  kind_of (If t a b) (TheYes ∷ p) = kind_of a p
  kind_of (If t a b) (TheNo ∷ p) = kind_arm b p
  kind_of (While t s) (TheBody ∷ p) = kind_of s p
  kind_of (DoWhile s t) (TheBody ∷ p) = kind_of s p
  kind_of (For first t step s) (Nth n ∷ p) = kind_in first n p
  kind_of (For first t step s) (TheStep ∷ p) = kind_arm step p
  kind_of (For first t step s) (TheBody ∷ p) = kind_of s p
  kind_of (Label l s) (TheBody ∷ p) = kind_of s p
  kind_of (Block NoStmt) (x ∷ p) = Another _ refl
  kind_of (Block (AndStmt s ss)) [] = Another _ refl
  kind_of (If t a b) (TheTest ∷ []) = Another _ refl
  kind_of (While t s) (TheTest ∷ []) = Another _ refl
  kind_of (DoWhile s t) (TheTest ∷ []) = Another _ refl
  kind_of (For first t step s) (TheTest ∷ []) = Another _ refl
  kind_of (Spawn f es) [] = ASpawn f es
  kind_of _ [] = Another _ refl
  kind_of _ (x ∷ []) = Another _ refl
  kind_of _ (x ∷ y ∷ p) = Another _ refl

  kind_in : (ss : Stmts) (n : ℕ) (p : Path) → Kind (found_in ss n p)
  kind_in (AndStmt s ss) zero p = kind_of s p
  kind_in (AndStmt s ss) (suc n) p = kind_in ss n p
  kind_in NoStmt n p = Another _ refl

  kind_arm : (o : MaybeStmt) (p : Path) → Kind (found_arm o p)
  kind_arm Absent p = Another _ refl
  kind_arm (Present s) p = kind_of s p

-- control goes on alike
same_arrived : (body : Stmt) (m : Move) → arrived (respawned body) m ≡ arrived body m
same_arrived body (Into p) = refl
same_arrived body Out = refl
same_arrived body (ToLabel l) = ap at_label (labels l body)
same_arrived body Broken = refl
same_arrived body Continued = refl
same_arrived body NoMove = refl

pub same_next : (body : Stmt) (b : Point) (h : Bool) → next_point (respawned body) b h ≡ next_point body b h
same_next body (Here p) h = ap (arrived (respawned body)) (afters body p h) ∙ same_arrived body (after body p h)
same_next body (Arrival p) h = ap (arrived (respawned body)) (afters body p h) ∙ same_arrived body (after body p h)
same_next body End h = refl

-- the same is in scope
pub same_scope_from : (f : Function) (b : Point) → scope_from (Some (kept_function f)) b ≡ scope_from (Some f) b
same_scope_from f (Here p) = same_scope (outer_scope f) (length f.parameters) f.body p
same_scope_from f (Arrival p) = same_scope (outer_scope f) (length f.parameters) f.body p
same_scope_from f End = refl
