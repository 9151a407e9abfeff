-- A spawn as a call of the spawner leaves every point where it is.
use Rattle.std.proofs.Common.{◌≡◌, ℕ, zero, suc, Bool, [], ◌∷◌, refl, ap, length, ◌+◌}
use Rattle.cpc_base.specs.Bytes.{Text}
use Rattle.cpc_tree.specs.Syntax.{Stmt, Block, Declare, Spawn, If, While, DoWhile, For, Label, Stmts, NoStmt, AndStmt, MaybeStmt, Absent, Present}
use Rattle.cpc_tree.specs.Lists.{holds_number}
use Rattle.cpc_tree.specs.Typing.{Scope}
use Rattle.cpc_tree.specs.Points.{Nth, TheTest, TheYes, TheNo, TheStep, TheBody, Path, Found, Simple, Test, Nothing, found, found_in, found_arm, enter, enter_rest, enter_arm, enter_step, after, after_all, after_arm, locals, locals_in, locals_arm, labelled, labelled_in, labelled_arm, scope_at, scope_in, scope_arm, extended, extended_all, declared}
use Rattle.cpc_tree.specs.Registers.{addresses_by, addresses_in, addresses_arm}
use Rattle.cpc_tree.proofs.Holding.{holds_both}
use Rattle.cpc_convert_common.specs.Converted.{respawned, respawned_all, respawned_arm}

pub enters : (s : Stmt) → enter (respawned s) ≡ enter s
enters (Block NoStmt) = refl
enters (Block (AndStmt s ss)) = ap (λ p. Nth 0 ∷ p) (enters s)
enters (DoWhile s t) = ap (λ p. TheBody ∷ p) (enters s)
enters (For NoStmt t step s) = refl
enters (For (AndStmt s ss) t step body) = ap (λ p. Nth 0 ∷ p) (enters s)
enters (Label l s) = ap (λ p. TheBody ∷ p) (enters s)
enters _ = refl

enters_rest : (ss : Stmts) → enter_rest (respawned_all ss) ≡ enter_rest ss
enters_rest NoStmt = refl
enters_rest (AndStmt s ss) = rw (enters s) refl

enters_arm : (o : MaybeStmt) → enter_arm (respawned_arm o) ≡ enter_arm o
enters_arm Absent = refl
enters_arm (Present s) = rw (enters s) refl

enters_step : (o : MaybeStmt) → enter_step (respawned_arm o) ≡ enter_step o
enters_step Absent = refl
enters_step (Present s) = rw (enters s) refl

mutual
  pub afters : (s : Stmt) (p : Path) (h : Bool) → after (respawned s) p h ≡ after s p h
  afters (Block NoStmt) p h = refl
  afters (Block (AndStmt s ss)) (Nth k ∷ p) h = afters_all (AndStmt s ss) k p h
  afters (Block (AndStmt s ss)) _ h = refl
  afters (If t a b) (TheTest ∷ p) h = simp (enters a, enters_arm b) refl
  afters (If t a b) (TheYes ∷ p) h = simp (afters a p h) refl
  afters (If t a b) (TheNo ∷ p) h = simp (afters_arm b p h) refl
  afters (If t a b) _ h = refl
  afters (While t s) (TheTest ∷ p) h = simp (enters s) refl
  afters (While t s) (TheBody ∷ p) h = simp (afters s p h) refl
  afters (While t s) _ h = refl
  afters (DoWhile s t) (TheBody ∷ p) h = simp (afters s p h) refl
  afters (DoWhile s t) (TheTest ∷ p) h = simp (enters s) refl
  afters (DoWhile s t) _ h = refl
  afters (For first t step s) (Nth k ∷ p) h = simp (afters_all first k p h) refl
  afters (For first t step s) (TheTest ∷ p) h = simp (enters s) refl
  afters (For first t step s) (TheStep ∷ p) h = simp (afters_arm step p h) refl
  afters (For first t step s) (TheBody ∷ p) h = simp (afters s p h, enters_step step) refl
  afters (For first t step s) _ h = refl
  afters (Label l s) (TheBody ∷ p) h = simp (afters s p h) refl
  afters (Label l s) _ h = refl
  afters _ p h = refl

  afters_all : (ss : Stmts) (n : ℕ) (p : Path) (h : Bool) → after_all (respawned_all ss) n p h ≡ after_all ss n p h
  afters_all (AndStmt s ss) zero p h = simp (afters s p h, enters_rest ss) refl
  afters_all (AndStmt s ss) (suc n) p h = simp (afters_all ss n p h) refl
  afters_all NoStmt n p h = refl

  afters_arm : (o : MaybeStmt) (p : Path) (h : Bool) → after_arm (respawned_arm o) p h ≡ after_arm o p h
  afters_arm Absent p h = refl
  afters_arm (Present s) p h = afters s p h

abbrev pub respawned_found : Found → Found
respawned_found (Simple s) = Simple (respawned s)
respawned_found (Test t) = Test t
respawned_found Nothing = Nothing

mutual
  pub founds : (s : Stmt) (p : Path) → found (respawned s) p ≡ respawned_found (found s p)
  founds (Block NoStmt) [] = refl
  founds (Block (AndStmt s ss)) (Nth n ∷ p) = founds_in (AndStmt s ss) n p
  founds (If t a b) (TheYes ∷ p) = founds a p
  founds (If t a b) (TheNo ∷ p) = founds_arm b p
  founds (While t s) (TheBody ∷ p) = founds s p
  founds (DoWhile s t) (TheBody ∷ p) = founds s p
  founds (For first t step s) (Nth n ∷ p) = founds_in first n p
  founds (For first t step s) (TheStep ∷ p) = founds_arm step p
  founds (For first t step s) (TheBody ∷ p) = founds s p
  founds (Label l s) (TheBody ∷ p) = founds s p
  founds (Block NoStmt) (x ∷ p) = refl
  founds (Block (AndStmt s ss)) [] = refl
  founds (If t a b) (TheTest ∷ []) = refl
  founds (While t s) (TheTest ∷ []) = refl
  founds (DoWhile s t) (TheTest ∷ []) = refl
  founds (For first t step s) (TheTest ∷ []) = refl
  founds (Spawn f es) [] = refl
  founds _ [] = refl
  founds _ (x ∷ []) = refl
  founds _ (x ∷ y ∷ p) = refl

  founds_in : (ss : Stmts) (n : ℕ) (p : Path) → found_in (respawned_all ss) n p ≡ respawned_found (found_in ss n p)
  founds_in (AndStmt s ss) zero p = founds s p
  founds_in (AndStmt s ss) (suc n) p = founds_in ss n p
  founds_in NoStmt n p = refl

  founds_arm : (o : MaybeStmt) (p : Path) → found_arm (respawned_arm o) p ≡ respawned_found (found_arm o p)
  founds_arm Absent p = refl
  founds_arm (Present s) p = founds s p

mutual
  pub labels : (l : Text) (s : Stmt) → labelled l (respawned s) ≡ labelled l s
  labels l (Block ss) = labels_in l ss
  labels l (If t a b) = simp (labels l a, labels_arm l b) refl
  labels l (While t s) = simp (labels l s) refl
  labels l (DoWhile s t) = simp (labels l s) refl
  labels l (For first t step s) = simp (labels l s) refl
  labels l (Label m s) = simp (labels l s, enters s) refl
  labels l _ = refl

  labels_in : (l : Text) (ss : Stmts) → labelled_in l (respawned_all ss) ≡ labelled_in l ss
  labels_in l NoStmt = refl
  labels_in l (AndStmt s ss) = simp (labels l s, labels_in l ss) refl

  labels_arm : (l : Text) (o : MaybeStmt) → labelled_arm l (respawned_arm o) ≡ labelled_arm l o
  labels_arm l Absent = refl
  labels_arm l (Present s) = labels l s

mutual
  pub same_locals : (s : Stmt) → locals (respawned s) ≡ locals s
  same_locals (Block ss) = same_locals_in ss
  same_locals (If t a b) = simp (same_locals a, same_locals_arm b) refl
  same_locals (While t s) = same_locals s
  same_locals (DoWhile s t) = same_locals s
  same_locals (For first t step s) = simp (same_locals_in first, same_locals s) refl
  same_locals (Label l s) = same_locals s
  same_locals _ = refl

  same_locals_in : (ss : Stmts) → locals_in (respawned_all ss) ≡ locals_in ss
  same_locals_in NoStmt = refl
  same_locals_in (AndStmt s ss) = simp (same_locals s, same_locals_in ss) refl

  same_locals_arm : (o : MaybeStmt) → locals_arm (respawned_arm o) ≡ locals_arm o
  same_locals_arm Absent = refl
  same_locals_arm (Present s) = same_locals s

pub same_extended : (scope : Scope) (n : ℕ) (s : Stmt) → extended scope n (respawned s) ≡ extended scope n s
same_extended scope n (Block ss) = refl
same_extended scope n _ = refl

pub same_extended_all : (scope : Scope) (n : ℕ) (ss : Stmts) → extended_all scope n (respawned_all ss) ≡ extended_all scope n ss
same_extended_all scope n NoStmt = refl
same_extended_all scope n (AndStmt s ss) = simp (same_extended scope n s, same_locals s, same_extended_all (extended scope n s) (n + declared s) ss) refl

mutual
  pub same_scope : (scope : Scope) (n : ℕ) (s : Stmt) (p : Path) → scope_at scope n (respawned s) p ≡ scope_at scope n s p
  same_scope scope n (Block ss) (Nth k ∷ p) = same_scope_in scope n ss k p
  same_scope scope n (If t a b) (TheYes ∷ p) = same_scope scope n a p
  same_scope scope n (If t a b) (TheNo ∷ p) = simp (same_locals a, same_scope_arm scope (n + declared a) b p) refl
  same_scope scope n (While t s) (TheBody ∷ p) = same_scope scope n s p
  same_scope scope n (DoWhile s t) (TheBody ∷ p) = same_scope scope n s p
  same_scope scope n (For first t step s) (Nth k ∷ p) = same_scope_in scope n first k p
  same_scope scope n (For first t step s) (TheTest ∷ p) = same_extended_all scope n first
  same_scope scope n (For first t step s) (TheStep ∷ p) = same_extended_all scope n first
  same_scope scope n (For first t step s) (TheBody ∷ p) = simp (same_extended_all scope n first, same_locals_in first, same_scope (extended_all scope n first) (n + length (locals_in first)) s p) refl
  same_scope scope n (Label l s) (TheBody ∷ p) = same_scope scope n s p
  same_scope scope n (Declare x t start) p = refl
  same_scope scope n _ [] = refl
  same_scope scope n _ (x ∷ p) = refl

  same_scope_in : (scope : Scope) (n : ℕ) (ss : Stmts) (k : ℕ) (p : Path) → scope_in scope n (respawned_all ss) k p ≡ scope_in scope n ss k p
  same_scope_in scope n (AndStmt s ss) zero p = same_scope scope n s p
  same_scope_in scope n (AndStmt s ss) (suc k) p = simp (same_extended scope n s, same_locals s, same_scope_in (extended scope n s) (n + declared s) ss k p) refl
  same_scope_in scope n NoStmt k p = refl

  same_scope_arm : (scope : Scope) (n : ℕ) (o : MaybeStmt) (p : Path) → scope_arm scope n (respawned_arm o) p ≡ scope_arm scope n o p
  same_scope_arm scope n Absent p = refl
  same_scope_arm scope n (Present s) p = same_scope scope n s p

mutual
  pub takes : (scope : Scope) (n k : ℕ) (s : Stmt) → holds_number (addresses_by scope n (respawned s)) k ≡ holds_number (addresses_by scope n s) k
  takes scope n k (Block ss) = takes_in scope n k ss
  takes scope n k (If t a b) = simp (holds_both, same_locals a, takes scope n k a, takes_arm scope (n + declared a) k b) refl
  takes scope n k (While t s) = simp (holds_both, takes scope n k s) refl
  takes scope n k (DoWhile s t) = simp (holds_both, takes scope n k s) refl
  takes scope n k (For first t step s) =
      simp (
        holds_both,
        same_extended_all scope n first,
        same_locals_in first,
        takes_in scope n k first,
        takes_arm (extended_all scope n first) n k step,
        takes (extended_all scope n first) (n + length (locals_in first)) k s,
      ) refl
  takes scope n k (Label l s) = takes scope n k s
  takes scope n k _ = refl

  takes_in : (scope : Scope) (n k : ℕ) (ss : Stmts) → holds_number (addresses_in scope n (respawned_all ss)) k ≡ holds_number (addresses_in scope n ss) k
  takes_in scope n k NoStmt = refl
  takes_in scope n k (AndStmt s ss) =
      simp (holds_both, same_extended scope n s, same_locals s, takes scope n k s, takes_in (extended scope n s) (n + declared s) k ss) refl

  takes_arm : (scope : Scope) (n k : ℕ) (o : MaybeStmt) → holds_number (addresses_arm scope n (respawned_arm o)) k ≡ holds_number (addresses_arm scope n o) k
  takes_arm scope n k Absent = refl
  takes_arm scope n k (Present s) = takes scope n k s
