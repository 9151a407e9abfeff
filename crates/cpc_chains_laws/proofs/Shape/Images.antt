-- The lines of a node hold the image of what stands there, and help besides.
use Rattle.std.proofs.Common.{◌≡◌, ℕ, zero, suc, List, [], ◌∷◌, ◌++◌, map, Option, Some, None, refl, sym, subst}
use Rattle.cpc_base.specs.Bytes.{Text}
use Rattle.cpc_tree.specs.Points.{locals, Path, Nth, TheTest, TheYes, TheNo, TheStep, TheBody, Found, Simple, Test, Nothing, found, found_in, found_arm}
use Rattle.cpc_tree.specs.Primitives.{primitive_named}
use Rattle.cpc_tree.specs.Registers.{variables, as_variable}
use Rattle.cpc_tree.specs.Syntax.{Expr, ENamed, Exprs, NoExpr, AndExpr, Stmt, Block, Empty, Declare, Assign, Call, Detach, Spawn, If, While, DoWhile, For, Goto, Label, Break, Continue, Return, Absent, Present, Stmts, NoStmt, AndStmt, MaybeStmt, Variable, Parameter, Function, Program}
use Rattle.cpc_tree.specs.Typing.{Scope, function_named, parameter_type, parameter_types}
use Rattle.cpc_meaning.specs.Act.{Stood, AtStatement, AtArrival, AtEnd, target_of}
use Rattle.cpc_meaning.specs.Ways.{Manner, InPlace, AsCps, manner_of}
use Rattle.cpc_check_laws.specs.Sound.Typed.{AllGet}
use Rattle.cpc_convert_image_laws.specs.Images.{Readings, image, images}
use Rattle.cpc_chains_store_laws.specs.Driver.{detaches, patches}
use Rattle.cpc_chains_store_laws.specs.Frames.{frame_through, gives_one, asks_block}
use Rattle.cpc_forms.specs.Flow.{At}
use Rattle.cpc_chains_event.specs.Lines.{Line, Does, goes, passes, all_do, frame_lines, gives_from, call_lines, hands_over, hands_nothing, wait_lines, section_lines, enter_lines, waits_lines, leave_lines, test_lines, arrival_lines, stood_lines, unbox_lines}
use Rattle.cpc_convert_routines.specs.Names.{piece_name, start_name, next_name, result_name, to_name, under_name, node_label}
use Rattle.cpc_convert_routines.specs.Routines.{Routine}
use Rattle.cpc_chains_laws.specs.Shape.Help.{HandedOver, BelowIt, names_code, links, MakesFrame, Between, Done, Helps, Stands}
use Rattle.cpc_chains_laws.specs.Shape.Images.{IsQuiet, AnEmpty, ADeclare, AGoto, ABreak, AContinue, Given, NoneGiven, OneGiven, NoPlace, IsImage, ATest, AnAssign, ACall, AStart, ASpawn, Quietly, NoTest, AWait, ASection, ACpsCall, AnArrival, NoArrival, AResult, AReturn, AnEnd}
use Rattle.cpc_chains_laws.proofs.Shape.Strewn.{bares, all_bare, frame_image, unboxes_help, put, put_do, goes_help, passes_quiet}

-- ---- what stands at a path

-- no statement that has others in it
abbrev pub IsOne : Found → Type 0
IsOne (Simple (Block ss)) = ⊥
IsOne (Simple (If t a b)) = ⊥
IsOne (Simple (While t s)) = ⊥
IsOne (Simple (DoWhile s t)) = ⊥
IsOne (Simple (For first t step s)) = ⊥
IsOne (Simple (Label l s)) = ⊥
IsOne _ = Unit {0}

mutual
  pub found_one : (s : Stmt) (path : Path) → IsOne (found s path)
  found_one (Block NoStmt) [] = tt
  found_one (Block NoStmt) (x ∷ path) = tt
  found_one (Block (AndStmt s ss)) (Nth n ∷ path) = one_in (AndStmt s ss) n path
  found_one (If t a b) (TheTest ∷ []) = tt
  found_one (If t a b) (TheYes ∷ path) = found_one a path
  found_one (If t a b) (TheNo ∷ path) = one_arm b path
  found_one (While t s) (TheTest ∷ []) = tt
  found_one (While t s) (TheBody ∷ path) = found_one s path
  found_one (DoWhile s t) (TheBody ∷ path) = found_one s path
  found_one (DoWhile s t) (TheTest ∷ []) = tt
  found_one (For first t step s) (Nth n ∷ path) = one_in first n path
  found_one (For first t step s) (TheTest ∷ []) = tt
  found_one (For first t step s) (TheStep ∷ path) = one_arm step path
  found_one (For first t step s) (TheBody ∷ path) = found_one s path
  found_one (Label l s) (TheBody ∷ path) = found_one s path
  found_one Empty [] = tt
  found_one Empty (q ∷ path) = tt
  found_one (Declare x t start) [] = tt
  found_one (Declare x t start) (q ∷ path) = tt
  found_one (Assign e op v) [] = tt
  found_one (Assign e op v) (q ∷ path) = tt
  found_one (Call e f es) [] = tt
  found_one (Call e f es) (q ∷ path) = tt
  found_one (Detach e f es) [] = tt
  found_one (Detach e f es) (q ∷ path) = tt
  found_one (Spawn f es) [] = tt
  found_one (Spawn f es) (q ∷ path) = tt
  found_one (Goto l) [] = tt
  found_one (Goto l) (q ∷ path) = tt
  found_one Break [] = tt
  found_one Break (q ∷ path) = tt
  found_one Continue [] = tt
  found_one Continue (q ∷ path) = tt
  found_one (Return v) [] = tt
  found_one (Return v) (q ∷ path) = tt
  found_one _ _ = tt

  one_in : (ss : Stmts) (n : ℕ) (path : Path) → IsOne (found_in ss n path)
  one_in (AndStmt s ss) zero path = found_one s path
  one_in (AndStmt s ss) (suc n) path = one_in ss n path
  one_in NoStmt n path = tt

  one_arm : (b : MaybeStmt) (path : Path) → IsOne (found_arm b path)
  one_arm Absent path = tt
  one_arm (Present s) path = found_one s path

-- ---- arguments

given_from : (p : Program) (scope : Scope) (names : Readings) (frame : Expr) (k : ℕ) (ps : List Parameter) (rest : List Variable) (es : Exprs) → AllGet p scope (map parameter_type ps) es
    → Given names frame es (map (gives_one frame) (gives_from k (map as_variable ps ++ rest) names es))
given_from p scope names frame k [] [] NoExpr h = NoneGiven
given_from p scope names frame k [] (x ∷ rest) NoExpr h = NoneGiven
given_from p scope names frame k [] rest (AndExpr e es) h = absurd h
given_from p scope names frame k (x ∷ ps) rest NoExpr h = absurd h
given_from p scope names frame k (x ∷ ps) rest (AndExpr e es) h = OneGiven _ e es _ (given_from p scope names frame (suc k) ps rest es h.1)

-- fields that are assigned have no labels, and are images
given_bare : (names : Readings) (frame : Expr) (es : Exprs) (ss is ts : List Stmt) → Given names frame es ss → Between is (bares ts) → Between (ss ++ is) (bares (ss ++ ts))
given_bare names frame _ _ is ts NoneGiven h = h
given_bare names frame _ _ is ts (OneGiven field e es ss g) h = Stands _ _ _ (given_bare names frame es ss is ts g h)

-- ---- rows

module _ (p : Program) (r : Routine) (o : Option ℕ) (names : Readings) (entry : Function → Text) (arrival : Text) where
  -- these lines, put in their row, hold the image of what stands at a point
  pub record RowImage (m : Manner) (s : Stood) (lines : List Line) : Type 0 where
    pub images : List Stmt
    pub image : IsImage p names entry arrival m s images
    pub between : Between images (bares (put o lines))

  -- a statement, and the way behind it
  one_does : (m : Manner) (s : Stood) (x : Stmt) (n : Option ℕ) → bares (x ∷ []) ≡ x ∷ [] → IsImage p names entry arrival m s (x ∷ []) → RowImage m s (Does x ∷ goes n)
  one_does m s x n e i = record { images = x ∷ []; image = i; between = subst (λ ys. Between (x ∷ []) (ys ++ bares (put o (goes n)))) (sym e) (Stands x [] _ (goes_help o n)) }

  quiet_row : (m : Manner) (s : Stood) (n : Option ℕ) → ((t : Stmt) → IsQuiet t → IsImage p names entry arrival m s (t ∷ [])) → RowImage m s (passes n ∷ [])
  quiet_row m s n i = let q = passes_quiet o n in record { images = q.statement ∷ []; image = i q.statement q.is_quiet; between = q.between }

  all_row : (m : Manner) (s : Stood) (is ss : List Stmt) → IsImage p names entry arrival m s is → Between is (bares ss) → RowImage m s (all_do ss)
  all_row m s is ss i h = record { images = is; image = i; between = put_do is o ss h }

  test_row : (e : Expr) (to not : Option ℕ) (n : ℕ) → to ≡ Some n → RowImage InPlace (AtStatement (Test (Some e))) (test_lines names (Some e) to not)
  test_row e to not n h =
      subst (λ y. RowImage InPlace (AtStatement (Test (Some e))) (test_lines names (Some e) y not)) (sym h)
      (record { images = If (image names e) (Goto (node_label n)) Absent ∷ []; image = ATest e (node_label n); between = Stands _ [] _ (goes_help o not) })

  next_row : (m : Manner) (s : Stood) (t : List Stmt) → IsImage p names entry arrival m s (hands_over next_name ∷ []) → RowImage m s (all_do (unbox_lines r ++ (hands_over next_name ∷ [])))
  next_row m s t i = all_row m s _ _ i (all_bare [] (hands_over next_name ∷ []) (unbox_lines r) (hands_over next_name ∷ []) (unboxes_help r) (Stands _ [] [] Done))

  result_row : (e : Expr) → RowImage InPlace (AtStatement (Simple (Return (Some e)))) (all_do (leave_lines r names (Some e)))
  result_row e =
      all_row InPlace _ _ (leave_lines r names (Some e)) (AResult e)
      (Stands (Assign (ENamed result_name) None (image names e)) _ _
      (all_bare [] (patches next_name (ENamed result_name) ∷ hands_over next_name ∷ []) (unbox_lines r) (patches next_name (ENamed result_name) ∷ hands_over next_name ∷ []) (unboxes_help r)
      (Stands _ _ _ (Stands _ [] [] Done))))

  -- what is left in its own step
  pub in_place_row : (x : Found) (scope : Scope) (to not a : Option ℕ) → IsOne x → ¬ (x ≡ Nothing) → manner_of p scope x ≡ InPlace → ((e : Expr) → x ≡ Test (Some e) → (n : ℕ) × (to ≡ Some n))
      → RowImage InPlace (AtStatement x) (stood_lines p r names InPlace (AtStatement x) to not a)
  in_place_row Nothing scope to not a one there m way = absurd (there refl)
  in_place_row (Test None) scope to not a one there m way = quiet_row InPlace _ to (λ t q. NoTest t q)
  in_place_row (Test (Some e)) scope to not a one there m way = let w = way e refl in test_row e to not w.0 w.1
  in_place_row (Simple Empty) scope to not a one there m way = quiet_row InPlace _ to (λ t q. Quietly Empty t AnEmpty q)
  in_place_row (Simple (Declare x t None)) scope to not a one there m way = quiet_row InPlace _ to (λ u q. Quietly (Declare x t None) u (ADeclare x t) q)
  in_place_row (Simple (Declare x t (Some e))) scope to not a one there m way = one_does InPlace _ _ to refl (AStart x t e)
  in_place_row (Simple (Assign e op v)) scope to not a one there m way = one_does InPlace _ _ to refl (AnAssign e op v)
  in_place_row (Simple (Call x f es)) scope to not a one there m way = one_does InPlace _ _ to refl (ACall x f es)
  in_place_row (Simple (Detach x f es)) scope to not a one there m way = absurd (cc)
  in_place_row (Simple (Spawn f es)) scope to not a one there m way = one_does InPlace _ _ to refl (ASpawn f es)
  in_place_row (Simple (Goto l)) scope to not a one there m way = quiet_row InPlace _ to (λ t q. Quietly (Goto l) t (AGoto l) q)
  in_place_row (Simple Break) scope to not a one there m way = quiet_row InPlace _ to (λ t q. Quietly Break t ABreak q)
  in_place_row (Simple Continue) scope to not a one there m way = quiet_row InPlace _ to (λ t q. Quietly Continue t AContinue q)
  in_place_row (Simple (Return None)) scope to not a one there m way = next_row InPlace _ [] AReturn
  in_place_row (Simple (Return (Some e))) scope to not a one there m way = result_row e
  in_place_row (Simple (Block ss)) scope to not a one there m way = absurd one
  in_place_row (Simple (If t s b)) scope to not a one there m way = absurd one
  in_place_row (Simple (While t s)) scope to not a one there m way = absurd one
  in_place_row (Simple (DoWhile s t)) scope to not a one there m way = absurd one
  in_place_row (Simple (For first t step s)) scope to not a one there m way = absurd one
  in_place_row (Simple (Label l s)) scope to not a one there m way = absurd one

  -- ---- what waits

  -- a frame of the arrival is made
  framed_between : (to : Text) (n : ℕ) (is ss : List Stmt) → arrival ≡ piece_name r.function.called (At n) → Between (names_code to (piece_name r.function.called (At n)) ∷ []) (bares (frame_lines r to (At n))) → Between is (bares ss)
      → Between (names_code to arrival ∷ is) (bares (frame_lines r to (At n) ++ ss))
  framed_between to n is ss e f h = subst (λ x. Between (names_code to x ∷ is) (bares (frame_lines r to (At n) ++ ss))) (sym e) (all_bare _ is (frame_lines r to (At n)) ss f h)

  wait_row : (x : Text) (place : Option Expr) (es : Exprs) (n : ℕ) → arrival ≡ piece_name r.function.called (At n) → function_named p x ≡ None
      → RowImage AsCps (AtStatement (Simple (Call place (ENamed x) es))) (all_do (wait_lines r names (Some n) (primitive_named x) es))
  wait_row x place es n e f = all_row AsCps _ _ (wait_lines r names (Some n) (primitive_named x) es) (AWait x place es f)
      (framed_between to_name n _ _ e (frame_image r to_name (At n) HandedOver) (Stands _ _ _ (Stands hands_nothing [] [] Done)))

  section_row : (x : Text) (place : Option Expr) (es : Exprs) (n : ℕ) → arrival ≡ piece_name r.function.called (At n) → RowImage AsCps (AtStatement (Simple (Detach place x es))) (all_do (section_lines r names (Some n) x es))
  section_row x place es n e = all_row AsCps _ _ (section_lines r names (Some n) x es) (ASection x place es)
      (framed_between to_name n (detaches to_name x (images names es) ∷ hands_nothing ∷ []) (detaches to_name x (images names es) ∷ hands_nothing ∷ []) e (frame_image r to_name (At n) HandedOver) (Stands _ _ _ (Stands hands_nothing [] [] Done)))

  -- the first frame of a call
  call_between : (g : Function) (es : Exprs) (given : List Stmt) → given ≡ map (gives_one (frame_through to_name (start_name g.called))) (gives_from 0 (variables g) names es) → Given names (frame_through to_name (start_name g.called)) es given
      → Between (names_code to_name (start_name g.called) ∷ links to_name under_name ∷ (given ++ (hands_over to_name ∷ []))) (bares (call_lines g names es ++ (hands_over to_name ∷ [])))
  call_between g es given e h =
      subst (λ ys. Between (names_code to_name (start_name g.called) ∷ links to_name under_name ∷ (given ++ (hands_over to_name ∷ []))) (bares ((asks_block to_name (start_name g.called) ∷ names_code to_name (start_name g.called) ∷ links to_name under_name ∷ ys) ++ (hands_over to_name ∷ [])))) e
      (Helps _ _ _ (MakesFrame to_name (start_name g.called) HandedOver)
      (Stands _ _ _ (Stands _ _ _ (given_bare names (frame_through to_name (start_name g.called)) es given (hands_over to_name ∷ []) (hands_over to_name ∷ []) h (Stands _ [] [] Done)))))

  enter_row : (x : Text) (g : Function) (scope : Scope) (place : Option Expr) (es : Exprs) (n : ℕ) → arrival ≡ piece_name r.function.called (At n) → entry g ≡ start_name g.called → function_named p x ≡ Some g → AllGet p scope (parameter_types g) es
      → RowImage AsCps (AtStatement (Simple (Call place (ENamed x) es))) (all_do (enter_lines r names (Some n) g es))
  enter_row x g scope place es n e i f t =
      let frame = frame_through to_name (start_name g.called) in
      let given = map (gives_one frame) (gives_from 0 (variables g) names es) in
      let h = given_from p scope names frame 0 g.parameters (locals g.body) es t in
      all_row AsCps _ _ (enter_lines r names (Some n) g es) (ACpsCall x g (start_name g.called) place es given f h)
      (subst (λ y. Between (names_code under_name arrival ∷ names_code to_name y ∷ links to_name under_name ∷ (given ++ (hands_over to_name ∷ []))) (bares (enter_lines r names (Some n) g es))) (sym i)
      (framed_between under_name n _ (call_lines g names es ++ (hands_over to_name ∷ [])) e (frame_image r under_name (At n) BelowIt) (call_between g es given refl h)))

  -- a cps statement
  pub cps_row : (x : Found) (scope : Scope) (a : Option ℕ) (n : ℕ) (to not : Option ℕ) → manner_of p scope x ≡ AsCps → a ≡ Some n → arrival ≡ piece_name r.function.called (At n) → ((g : Function) → entry g ≡ start_name g.called)
      → ((place : Option Expr) (y : Text) (es : Exprs) (g : Function) → x ≡ Simple (Call place (ENamed y) es) → function_named p y ≡ Some g → AllGet p scope (parameter_types g) es)
      → RowImage AsCps (AtStatement x) (stood_lines p r names AsCps (AtStatement x) to not a)
  cps_row (Simple (Call place (ENamed y) es)) scope a n to not m i e entered typed = subst (λ b. RowImage AsCps (AtStatement (Simple (Call place (ENamed y) es))) (all_do (waits_lines r names b y (function_named p y) es))) (sym i) (go (function_named p y) refl)
    where
      go : (k : Option Function) → function_named p y ≡ k → RowImage AsCps (AtStatement (Simple (Call place (ENamed y) es))) (all_do (waits_lines r names (Some n) y k es))
      go None f = wait_row y place es n e f
      go (Some g) f = enter_row y g scope place es n e (entered g) f (typed place y es g refl f)
  cps_row (Simple (Detach place y es)) scope a n to not m i e entered typed = subst (λ b. RowImage AsCps (AtStatement (Simple (Detach place y es))) (all_do (section_lines r names b y es))) (sym i) (section_row y place es n e)
  cps_row x scope a n to not m i e entered typed = absurd (cc)

  -- ---- what arrives

  pub arrival_row : (x : Found) (to : Option ℕ) → RowImage AsCps (AtArrival x) (arrival_lines names (target_of x) to)
  arrival_row x to = go (target_of x) refl
    where
      go : (t : Option (Option Expr)) → target_of x ≡ t → RowImage AsCps (AtArrival x) (arrival_lines names t to)
      go (Some (Some e)) i = one_does AsCps _ _ to refl (AnArrival x e i)
      go (Some None) i = quiet_row AsCps _ to (λ t q. NoArrival x t (subst NoPlace (sym i) tt) q)
      go None i = quiet_row AsCps _ to (λ t q. NoArrival x t (subst NoPlace (sym i) tt) q)

  pub end_row : RowImage InPlace AtEnd (all_do (leave_lines r names None))
  end_row = next_row InPlace AtEnd [] AnEnd
