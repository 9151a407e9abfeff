-- No path to which control goes in a statement is longer than the statement is deep.
use Rattle.std.proofs.Common.{ℕ, zero, suc, ◌≤◌, max, Bool, true, false, [], ◌∷◌, length, Option, Some, None, if◌then◌else◌, bytes_eq, arith}
use Rattle.cpc_base.specs.Bytes.{Text}
use Rattle.cpc_tree.specs.Syntax.{Stmt, Block, If, While, DoWhile, For, Label, Stmts, NoStmt, AndStmt, MaybeStmt, Absent, Present}
use Rattle.cpc_tree.specs.Points.{Part, Nth, TheTest, TheYes, TheNo, TheStep, TheBody, Path, Move, Into, Out, ToLabel, Broken, Continued, NoMove, enter, under, later, or_out, loop_out, if_holds, enter_rest, enter_arm, enter_step, after, after_all, after_arm, path_under, path_later, or_else, labelled, labelled_in, labelled_arm}
use Rattle.cpc_native_points.specs.Depth.{depth, depth_row, depth_arm}

-- ---- where statements begin

mutual
  pub enter_within : (s : Stmt) → length (enter s) ≤ depth s
  enter_within (Block NoStmt) = omega arith
  enter_within (Block (AndStmt s ss)) = let h = enter_within s in omega (arith, h)
  enter_within (If t a b) = omega arith
  enter_within (While t s) = omega arith
  enter_within (DoWhile s t) = let h = enter_within s in omega (arith, h)
  enter_within (For NoStmt t step s) = omega arith
  enter_within (For (AndStmt x ss) t step s) = let h = enter_within x in omega (arith, h)
  enter_within (Label l s) = let h = enter_within s in omega (arith, h)
  enter_within _ = omega arith

-- ---- where control goes

-- a path to which control goes has no more parts than this
abbrev pub Fits : ℕ → Move → Type 0
Fits n (Into p) = length p ≤ n
Fits n m = Unit {0}

pub fits_more : (n k : ℕ) (m : Move) → n ≤ k → Fits n m → Fits k m
fits_more n k (Into p) h f = omega (arith, h, f)
fits_more n k Out h f = tt
fits_more n k (ToLabel l) h f = tt
fits_more n k Broken h f = tt
fits_more n k Continued h f = tt
fits_more n k NoMove h f = tt

fits_under : (n : ℕ) (part : Part) (m : Move) → Fits n m → Fits (suc n) (under part m)
fits_under n part (Into p) f = omega (arith, f)
fits_under n part Out f = tt
fits_under n part (ToLabel l) f = tt
fits_under n part Broken f = tt
fits_under n part Continued f = tt
fits_under n part NoMove f = tt

fits_later : (n : ℕ) (m : Move) → Fits n m → Fits n (later m)
fits_later n (Into []) f = f
fits_later n (Into (Nth k ∷ p)) f = f
fits_later n (Into (TheTest ∷ p)) f = f
fits_later n (Into (TheYes ∷ p)) f = f
fits_later n (Into (TheNo ∷ p)) f = f
fits_later n (Into (TheStep ∷ p)) f = f
fits_later n (Into (TheBody ∷ p)) f = f
fits_later n Out f = tt
fits_later n (ToLabel l) f = tt
fits_later n Broken f = tt
fits_later n Continued f = tt
fits_later n NoMove f = tt

fits_or : (n : ℕ) (m next : Move) → Fits n m → Fits n next → Fits n (or_out m next)
fits_or n (Into p) next f g = f
fits_or n Out next f g = g
fits_or n (ToLabel l) next f g = tt
fits_or n Broken next f g = tt
fits_or n Continued next f g = tt
fits_or n NoMove next f g = tt

fits_loop : (n : ℕ) (m next : Move) → Fits n m → Fits n next → Fits n (loop_out m next)
fits_loop n (Into p) next f g = f
fits_loop n Out next f g = g
fits_loop n (ToLabel l) next f g = tt
fits_loop n Broken next f g = tt
fits_loop n Continued next f g = g
fits_loop n NoMove next f g = tt

fits_if : (n : ℕ) (h : Bool) (a b : Move) → Fits n a → Fits n b → Fits n (if_holds h a b)
fits_if n true a b f g = f
fits_if n false a b f g = g

fits_rest : (ss : Stmts) → Fits (depth_row ss) (enter_rest ss)
fits_rest NoStmt = tt
fits_rest (AndStmt s ss) = let h = enter_within s in omega (arith, h)

fits_arm : (b : MaybeStmt) → Fits (suc (depth_arm b)) (enter_arm b)
fits_arm Absent = tt
fits_arm (Present s) = let h = enter_within s in omega (arith, h)

fits_step : (b : MaybeStmt) → Fits (suc (depth_arm b)) (enter_step b)
fits_step Absent = omega arith
fits_step (Present s) = let h = enter_within s in omega (arith, h)

-- to the body of a loop, or past it
fits_body : (s : Stmt) (h : Bool) → Fits (suc (depth s)) (if_holds h (Into (TheBody ∷ enter s)) Out)
fits_body s h = let e = enter_within s in fits_if (suc (depth s)) h (Into (TheBody ∷ enter s)) Out (omega (arith, e)) tt

-- from the body of a loop to its test
fits_test : (n : ℕ) (m : Move) → Fits n m → Fits (suc n) (loop_out (under TheBody m) (Into (TheTest ∷ [])))
fits_test n m f = fits_loop (suc n) (under TheBody m) (Into (TheTest ∷ [])) (fits_under n TheBody m f) (omega arith)

mutual
  pub after_fits : (s : Stmt) (p : Path) (h : Bool) → Fits (depth s) (after s p h)
  after_fits (Block NoStmt) p h = tt
  after_fits (Block (AndStmt s ss)) (Nth k ∷ p) h = row_fits (AndStmt s ss) k p h
  after_fits (If t a b) (TheTest ∷ p) h =
      let e = enter_within a in
      let d = suc (max (depth a) (depth_arm b)) in
      fits_if d h (Into (TheYes ∷ enter a)) (enter_arm b) (omega (arith, e)) (fits_more (suc (depth_arm b)) d (enter_arm b) (omega arith) (fits_arm b))
  after_fits (If t a b) (TheYes ∷ p) h = fits_more (suc (depth a)) (suc (max (depth a) (depth_arm b))) (under TheYes (after a p h)) (omega arith) (fits_under (depth a) TheYes (after a p h) (after_fits a p h))
  after_fits (If t a b) (TheNo ∷ p) h = fits_more (suc (depth_arm b)) (suc (max (depth a) (depth_arm b))) (under TheNo (after_arm b p h)) (omega arith) (fits_under (depth_arm b) TheNo (after_arm b p h) (arm_fits b p h))
  after_fits (While t s) (TheTest ∷ p) h = fits_body s h
  after_fits (While t s) (TheBody ∷ p) h = fits_test (depth s) (after s p h) (after_fits s p h)
  after_fits (DoWhile s t) (TheTest ∷ p) h = fits_body s h
  after_fits (DoWhile s t) (TheBody ∷ p) h = fits_test (depth s) (after s p h) (after_fits s p h)
  after_fits (For first t step s) (Nth k ∷ p) h =
      let d = depth (For first t step s) in
      fits_or d (after_all first k p h) (Into (TheTest ∷ [])) (fits_more (depth_row first) d (after_all first k p h) (omega arith) (row_fits first k p h)) (omega arith)
  after_fits (For first t step s) (TheTest ∷ p) h = fits_more (suc (depth s)) (depth (For first t step s)) (if_holds h (Into (TheBody ∷ enter s)) Out) (omega arith) (fits_body s h)
  after_fits (For first t step s) (TheStep ∷ p) h =
      let d = depth (For first t step s) in
      let m = under TheStep (after_arm step p h) in
      fits_or d m (Into (TheTest ∷ [])) (fits_more (suc (depth_arm step)) d m (omega arith) (fits_under (depth_arm step) TheStep (after_arm step p h) (arm_fits step p h))) (omega arith)
  after_fits (For first t step s) (TheBody ∷ p) h =
      let d = depth (For first t step s) in
      let m = under TheBody (after s p h) in
      fits_loop d m (enter_step step) (fits_more (suc (depth s)) d m (omega arith) (fits_under (depth s) TheBody (after s p h) (after_fits s p h)))
      (fits_more (suc (depth_arm step)) d (enter_step step) (omega arith) (fits_step step))
  after_fits (Label l s) (TheBody ∷ p) h = fits_under (depth s) TheBody (after s p h) (after_fits s p h)
  after_fits _ p h = tt

  row_fits : (ss : Stmts) (k : ℕ) (p : Path) (h : Bool) → Fits (depth_row ss) (after_all ss k p h)
  row_fits (AndStmt s ss) zero p h =
      let d = max (suc (depth s)) (depth_row ss) in
      let m = under (Nth 0) (after s p h) in
      fits_or d m (enter_rest ss) (fits_more (suc (depth s)) d m (omega arith) (fits_under (depth s) (Nth 0) (after s p h) (after_fits s p h)))
      (fits_more (depth_row ss) d (enter_rest ss) (omega arith) (fits_rest ss))
  row_fits (AndStmt s ss) (suc n) p h =
      let d = max (suc (depth s)) (depth_row ss) in
      fits_later d (after_all ss n p h) (fits_more (depth_row ss) d (after_all ss n p h) (omega arith) (row_fits ss n p h))
  row_fits NoStmt n p h = tt

  arm_fits : (b : MaybeStmt) (p : Path) (h : Bool) → Fits (depth_arm b) (after_arm b p h)
  arm_fits Absent p h = tt
  arm_fits (Present s) p h = after_fits s p h

-- ---- where labels lead

-- a path, where there is one, has no more parts than this
abbrev pub FitsIf : ℕ → Option Path → Type 0
FitsIf n None = Unit {0}
FitsIf n (Some p) = length p ≤ n

fits_if_more : (n k : ℕ) (o : Option Path) → n ≤ k → FitsIf n o → FitsIf k o
fits_if_more n k None h f = tt
fits_if_more n k (Some p) h f = omega (arith, h, f)

fits_if_under : (n : ℕ) (part : Part) (o : Option Path) → FitsIf n o → FitsIf (suc n) (path_under part o)
fits_if_under n part None f = tt
fits_if_under n part (Some p) f = omega (arith, f)

fits_if_later : (n : ℕ) (o : Option Path) → FitsIf n o → FitsIf n (path_later o)
fits_if_later n None f = tt
fits_if_later n (Some []) f = f
fits_if_later n (Some (Nth k ∷ p)) f = f
fits_if_later n (Some (TheTest ∷ p)) f = f
fits_if_later n (Some (TheYes ∷ p)) f = f
fits_if_later n (Some (TheNo ∷ p)) f = f
fits_if_later n (Some (TheStep ∷ p)) f = f
fits_if_later n (Some (TheBody ∷ p)) f = f

fits_if_else : (n : ℕ) (o q : Option Path) → FitsIf n o → FitsIf n q → FitsIf n (or_else o q)
fits_if_else n None q f g = g
fits_if_else n (Some p) q f g = f

-- at a label, or behind it
fits_label : (n : ℕ) (b : Bool) (s : Stmt) (o : Option Path) → length (enter s) ≤ n → FitsIf n o → FitsIf (suc n) (if b then Some (TheBody ∷ enter s) else path_under TheBody o)
fits_label n true s o e f = omega (arith, e)
fits_label n false s o e f = fits_if_under n TheBody o f

mutual
  pub labelled_fits : (l : Text) (s : Stmt) → FitsIf (depth s) (labelled l s)
  labelled_fits l (Block ss) = row_labelled_fits l ss
  labelled_fits l (If t a b) =
      let d = suc (max (depth a) (depth_arm b)) in
      fits_if_else d (path_under TheYes (labelled l a)) (path_under TheNo (labelled_arm l b))
      (fits_if_more (suc (depth a)) d (path_under TheYes (labelled l a)) (omega arith) (fits_if_under (depth a) TheYes (labelled l a) (labelled_fits l a)))
      (fits_if_more (suc (depth_arm b)) d (path_under TheNo (labelled_arm l b)) (omega arith) (fits_if_under (depth_arm b) TheNo (labelled_arm l b) (arm_labelled_fits l b)))
  labelled_fits l (While t s) = fits_if_under (depth s) TheBody (labelled l s) (labelled_fits l s)
  labelled_fits l (DoWhile s t) = fits_if_under (depth s) TheBody (labelled l s) (labelled_fits l s)
  labelled_fits l (For first t step s) = fits_if_more (suc (depth s)) (depth (For first t step s)) (path_under TheBody (labelled l s)) (omega arith) (fits_if_under (depth s) TheBody (labelled l s) (labelled_fits l s))
  labelled_fits l (Label m s) = fits_label (depth s) (bytes_eq m l) s (labelled l s) (enter_within s) (labelled_fits l s)
  labelled_fits l _ = tt

  row_labelled_fits : (l : Text) (ss : Stmts) → FitsIf (depth_row ss) (labelled_in l ss)
  row_labelled_fits l NoStmt = tt
  row_labelled_fits l (AndStmt s ss) =
      let d = max (suc (depth s)) (depth_row ss) in
      fits_if_else d (path_under (Nth 0) (labelled l s)) (path_later (labelled_in l ss))
      (fits_if_more (suc (depth s)) d (path_under (Nth 0) (labelled l s)) (omega arith) (fits_if_under (depth s) (Nth 0) (labelled l s) (labelled_fits l s)))
      (fits_if_more (depth_row ss) d (path_later (labelled_in l ss)) (omega arith) (fits_if_later (depth_row ss) (labelled_in l ss) (row_labelled_fits l ss)))

  arm_labelled_fits : (l : Text) (b : MaybeStmt) → FitsIf (depth_arm b) (labelled_arm l b)
  arm_labelled_fits l Absent = tt
  arm_labelled_fits l (Present s) = labelled_fits l s
