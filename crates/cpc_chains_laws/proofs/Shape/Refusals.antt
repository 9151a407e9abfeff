-- Programs that have not the shape of an event program.
use Rattle.std.proofs.Common.{◌≡◌, ℕ, zero, suc, ◌<◌, true, false, List, [], ◌∷◌, codes, Option, Some, None, pos, bytes_eq, refl, sym, ◌∙◌, ap, subst, arith}
use Rattle.cpc_base.specs.Bytes.{Text}
use Rattle.cpc_num.specs.declared.kinds.Kind.TheVariants.{Int}
use Rattle.cpc_tree.specs.Points.{Nth, Path, Point, Here, Simple, found}
use Rattle.cpc_tree.specs.Syntax.{TyPointer, TyStruct, Expr, ENamed, EInteger, Exprs, NoExpr, AndExpr, Stmt, Block, Declare, Call, NoStmt, Function, FunctionItem, Program}
use Rattle.cpc_meaning.specs.Act.{Stood, AtStatement}
use Rattle.cpc_meaning.specs.Start.{main_name}
use Rattle.cpc_meaning.specs.Threads.{is_cps_mode}
use Rattle.cpc_meaning.specs.Trees.{stood_at}
use Rattle.cpc_meaning.specs.Ways.{Manner, InPlace, ByFrame, manner_at}
use Rattle.cpc_meaning.proofs.Functions.{text_same}
use Rattle.cpc_convert_common.specs.Converted.{marked}
use Rattle.cpc_convert_common.specs.Members.{Has, OnTop, Below}
use Rattle.cpc_convert_common.proofs.Members.{has_left, has_right}
use Rattle.cpc_convert_common.proofs.Marks.{marked_is, marked_differs, no_bar_spawn}
use Rattle.cpc_forms.specs.Control as C
use Rattle.cpc_forms.specs.Flow.{Place, Start, At, is_leader}
use Rattle.cpc_forms.specs.Graph.{manner_from}
use Rattle.cpc_forms.specs.Order.{number_of}
use Rattle.cpc_graph_laws.specs.Laws.{flow_in}
use Rattle.cpc_graph_laws.proofs.Leaders.{is_leading, leader_place}
use Rattle.cpc_graph_laws.proofs.Owned.{owner_is}
use Rattle.cpc_convert_image_laws.specs.Images.{Readings, image_stmt}
use Rattle.cpc_chains_store_laws.specs.Driver.{next_field, any_pointer, drive_function}
use Rattle.cpc_convert_flat_laws.specs.Flat.{before}
use Rattle.cpc_convert_flat_laws.specs.Locals.{loads_one}
use Rattle.cpc_chains_store_laws.specs.Frames.{frees_frame}
use Rattle.cpc_chains_event.specs.Lines.{hands_over}
use Rattle.cpc_convert_routines.specs.Kept.{kept_function}
use Rattle.cpc_convert_routines.specs.Named.{IsCps, IsKept}
use Rattle.cpc_convert_routines.specs.Names.{piece_name, pointer_name, frame_name, next_name}
use Rattle.cpc_chains_event.specs.Pieces.{spawner_function}
use Rattle.cpc_chains_event.proofs.Apart.{behind, piece_is as piece_named, spawner_is, driver_is, no_underscore_behind, no_bar_nothing, piece_spawn, piece_nothing, StartIsSmall, NumberIsSmall, behind_is}
use Rattle.cpc_chains_laws.specs.Shape.Help.{Between, Done, Helps, Stands}
use Rattle.cpc_chains_laws.specs.Shape.Images.{IsQuiet, AnEmpty, ADeclare, AGoto, ABreak, AContinue, IsImage, ATest, AnAssign, ACall, AStart, ASpawn, Quietly, NoTest, AWait, ASection, ACpsCall, AnArrival, NoArrival, AResult, AReturn, AnEnd, Images, NoImage, AnImage, WithArrival}
use Rattle.cpc_chains_laws.specs.Shape.Refusals.{prints, f_name, f_function, idle_main, two_prints, first_print, second_print, one_print, EveryStatementAFunction, AStatementIsDropped}
use Rattle.cpc_chains_laws.specs.Shape.Shape.{names_at, Origin, Kept, ASpawner, APiece, TheDriver, TheMain}
use Rattle.cpc_chains_laws.proofs.Shape.Strewn.{bares}

-- ---- what a function may be

cps_is : (g : Function) → IsCps two_prints g → g ≡ f_function
cps_is g c = go g c.has c.mode
  where
    go : (g : Function) → Has (FunctionItem g) two_prints → is_cps_mode g.mode ≡ true → g ≡ f_function
    go _ (OnTop _ _) m = refl
    go _ (Below _ _ _ (OnTop _ _)) m = absurd (cc)
    go g (Below _ _ _ (Below _ _ _ h)) m = elim h [ ]

kept_is : (g : Function) → IsKept two_prints g → g ≡ idle_main
kept_is g c = go g c.has c.mode
  where
    go : (g : Function) → Has (FunctionItem g) two_prints → is_cps_mode g.mode ≡ false → g ≡ idle_main
    go _ (OnTop _ _) m = absurd (cc)
    go _ (Below _ _ _ (OnTop _ _)) m = refl
    go g (Below _ _ _ (Below _ _ _ h)) m = elim h [ ]

the_f : IsCps two_prints f_function
the_f = record { has = OnTop _ _; mode = refl }

-- no point of f leads
no_leader : (n : ℕ) → n < 5 → is_leader (flow_in two_prints f_function) n ≡ true → ⊥
no_leader zero h e = absurd (cc)
no_leader (suc zero) h e = absurd (cc)
no_leader (suc (suc zero)) h e = absurd (cc)
no_leader (suc (suc (suc zero))) h e = absurd (cc)
no_leader (suc (suc (suc (suc zero)))) h e = absurd (cc)
no_leader (suc (suc (suc (suc (suc n))))) h e = absurd (omega (arith, h))

entry_alone : (owner : C.Node) → C.IsOwner two_prints f_function owner → owner ≡ C.Entry
entry_alone _ C.TheEntry = refl
entry_alone _ (C.ALeader l leads) =
    let e = is_leading two_prints f_function l leads in
    absurd (no_leader (number_of f_function.body l) (leader_place two_prints f_function (number_of f_function.body l) e) e)

module _ (made : Function → C.Node → Function) where
  data Kind : Function → Type 0 where
    KindMain : Kind (kept_function idle_main)
    KindSpawner : Kind (spawner_function f_function)
    KindDriver : Kind drive_function
    KindPiece : Kind (made f_function C.Entry)

  kind_of : (g : Function) → Origin two_prints made g → Kind g
  kind_of _ (Kept g k) = subst (λ h. Kind (kept_function h)) (sym (kept_is g k)) KindMain
  kind_of _ (ASpawner g c) = subst (λ h. Kind (spawner_function h)) (sym (cps_is g c)) KindSpawner
  kind_of _ (APiece g owner c o) =
      let same = cps_is g c in
      let alone = entry_alone owner (subst (λ h. C.IsOwner two_prints h owner) same o) in
      subst (λ h. Kind (made h owner)) (sym same) (subst (λ n. Kind (made f_function n)) (sym alone) KindPiece)
  kind_of _ (TheDriver g c) = KindDriver
  kind_of _ (TheMain g c e) = absurd (let z : f_name ≡ main_name = ap (λ h. h.called) (sym (cps_is g c)) ∙ e in let w : true ≡ false = sym (text_same f_name) ∙ ap (bytes_eq f_name) z in cc)

  -- one with the name of a piece is what is made for the entry
  piece_is : (l : Place) (g : Function) → Kind g → g.called ≡ piece_name f_name l → g ≡ made f_function C.Entry
  piece_is l _ KindMain e = absurd
      (let same : bytes_eq (marked f_name (behind l)) main_name ≡ true = ap (λ x. bytes_eq x main_name) (sym (e ∙ piece_named f_name l)) ∙ text_same main_name in
      let other = marked_differs f_name (behind l) main_name refl in let w : true ≡ false = sym same ∙ other in cc)
  piece_is l _ KindSpawner e = absurd (piece_spawn l (sym (marked_is f_name f_name (codes "spawn") (behind l) refl refl no_bar_spawn (no_underscore_behind l) (sym (spawner_is f_name) ∙ (e ∙ piece_named f_name l))).1))
  piece_is l _ KindDriver e = absurd (piece_nothing l (sym (marked_is (codes "drive") f_name (codes "") (behind l) refl refl no_bar_nothing (no_underscore_behind l) (sym driver_is ∙ (e ∙ piece_named f_name l))).1))
  piece_is l _ KindPiece e = refl

-- ---- a function for each statement

pub every_statement_a_function : EveryStatementAFunction
every_statement_a_function s =
    let is_first = s.all first_print (Below _ _ _ (Below _ _ _ (Below _ _ _ (Below _ _ _ (Below _ _ _ (OnTop _ _)))))) in
    let is_second = s.all second_print (Below _ _ _ (Below _ _ _ (Below _ _ _ (Below _ _ _ (Below _ _ _ (Below _ _ _ (OnTop _ _))))))) in
    let a = piece_is s.made Start first_print (kind_of s.made first_print is_first) refl in
    let b = piece_is s.made (At 2) second_print (kind_of s.made second_print is_second) refl in
    let e : piece_name f_name Start ≡ piece_name f_name (At 2) = ap (λ g. g.called) (a ∙ sym b) in
    let same : Start ≡ At 2 = behind_is Start (At 2) StartIsSmall (NumberIsSmall 2 (omega arith)) (marked_is f_name f_name (behind Start) (behind (At 2)) refl refl (no_underscore_behind Start) (no_underscore_behind (At 2)) (sym (piece_named f_name Start) ∙ (e ∙ piece_named f_name (At 2)))).1 in
    absurd (cc)

-- ---- a statement that is missing

at_simple : (x y : Stmt) → AtStatement (Simple x) ≡ AtStatement (Simple y) → x ≡ y
at_simple x y e = let g : Simple x ≡ Simple y = cc in cc

no_quiet_call : (s : Stmt) (to : Option Expr) (g : Expr) (es : Exprs) → IsQuiet s → s ≡ Call to g es → ⊥
no_quiet_call _ to g es AnEmpty e = absurd (cc)
no_quiet_call _ to g es (ADeclare x t) e = absurd (cc)
no_quiet_call _ to g es (AGoto l) e = absurd (cc)
no_quiet_call _ to g es ABreak e = absurd (cc)
no_quiet_call _ to g es AContinue e = absurd (cc)

module _ (p : Program) (names : Readings) (entry : Function → Text) (arrival : Text) (to : Option Expr) (g : Expr) (es : Exprs) where
  -- the image of a call in place is the same call under the reading of names
  call_image : (m : Manner) (x : Stood) (is : List Stmt) → IsImage p names entry arrival m x is → m ≡ InPlace → x ≡ AtStatement (Simple (Call to g es)) → Has (image_stmt names (Call to g es)) is
  call_image _ _ _ (ATest e l) em ex = absurd (cc)
  call_image _ _ _ (AnAssign e op v) em ex = absurd (let z = at_simple _ _ ex in cc)
  call_image _ _ _ (ACall x f vs) em ex = let z = at_simple _ _ ex in subst (λ s. Has (image_stmt names s) (image_stmt names (Call x f vs) ∷ [])) z (OnTop _ [])
  call_image _ _ _ (AStart x t e) em ex = absurd (let z = at_simple _ _ ex in cc)
  call_image _ _ _ (ASpawn f vs) em ex = absurd (let z = at_simple _ _ ex in cc)
  call_image _ _ _ (Quietly s t q u) em ex = absurd (no_quiet_call s to g es q (at_simple s _ ex))
  call_image _ _ _ (NoTest t q) em ex = absurd (cc)
  call_image _ _ _ (AWait x y vs f) em ex = absurd (cc)
  call_image _ _ _ (ASection x y vs) em ex = absurd (cc)
  call_image _ _ _ (ACpsCall x h tag y vs given f k) em ex = absurd (cc)
  call_image _ _ _ (AnArrival s e k) em ex = absurd (cc)
  call_image _ _ _ (NoArrival s t k q) em ex = absurd (cc)
  call_image _ _ _ (AResult e) em ex = absurd (let z = at_simple _ _ ex in cc)
  call_image _ _ _ AReturn em ex = absurd (let z = at_simple _ _ ex in cc)
  call_image _ _ _ AnEnd em ex = absurd (cc)

module _ (p : Program) (f : Function) (names : Point → Readings) (made : Function → C.Node → Function) (path : Path) (to : Option Expr) (g : Expr) (es : Exprs)
    (manner : manner_at p f path ≡ InPlace) (stands : found f.body path ≡ Simple (Call to g es)) where
  abbrev call : Stmt
  call = image_stmt (names (Here path)) (Call to g es)

  -- it stands among the images of points that are those of the call too
  image_has : (points : List Point) (is : List Stmt) → Images p f names made points is → (a : Point) → a ≡ Here path → Has a points → Has call is
  image_has _ _ NoImage a e h = elim h [ ]
  image_has _ _ (AnImage b rest is ss i more) _ e (OnTop _ _) = has_left call is ss
      (subst (λ x. Has (image_stmt (names x) (Call to g es)) is) e (call_image p (names b) _ _ to g es _ _ is i (ap (manner_from p f) e ∙ manner) (ap (stood_at (Some f)) e ∙ ap (λ x. AtStatement x) stands)))
  image_has _ _ (AnImage b rest is ss i more) a e (Below _ _ _ h) = has_right call is ss (image_has rest ss more a e h)
  image_has _ _ (WithArrival other x h vs rest ss m k more) _ e (OnTop _ _) = absurd (let z : other ≡ path = cc in let w : ByFrame ≡ InPlace = sym m ∙ (ap (manner_at p f) z ∙ manner) in cc)
  image_has _ _ (WithArrival other x h vs rest ss m k more) _ e (Below _ _ _ (OnTop _ _)) = absurd (cc)
  image_has _ _ (WithArrival other x h vs rest ss m k more) a e (Below _ _ _ (Below _ _ _ there)) = Below _ _ _ (image_has rest ss more a e there)

between_has : (is ss : List Stmt) (s : Stmt) → Between is ss → Has s is → Has s ss
between_has _ _ s Done h = h
between_has _ _ s (Helps x is ss help more) h = Below s x ss (between_has is ss s more h)
between_has _ _ _ (Stands x is ss more) (OnTop _ _) = OnTop x ss
between_has _ _ s (Stands x is ss more) (Below _ _ _ h) = Below s x ss (between_has is ss s more h)

before_is : (xs ys : List Stmt) → before xs NoStmt ≡ before ys NoStmt → xs ≡ ys
before_is [] [] e = refl
before_is [] (y ∷ ys) e = absurd (cc)
before_is (x ∷ xs) [] e = absurd (cc)
before_is (x ∷ xs) (y ∷ ys) e =
    let head : x ≡ y = cc in
    let rest : before xs NoStmt ≡ before ys NoStmt = cc in
    let tail = before_is xs ys rest in cc

block_is : (xs ys : List Stmt) → Block (before xs NoStmt) ≡ Block (before ys NoStmt) → xs ≡ ys
block_is xs ys e = before_is xs ys (let z : before xs NoStmt ≡ before ys NoStmt = cc in z)

-- the second print
abbrev second : Path
second = Nth 1 ∷ []

second_owned : C.Owns two_prints f_function C.Entry (Here second)
second_owned = owner_is two_prints f_function C.Entry (Here second) refl refl refl

-- it stands in none of the statements of the one piece
other_number : prints 1 ≡ prints 2 → ⊥
other_number e =
    let a : ◌≡◌ {A = Exprs} (AndExpr (EInteger Int (pos 1)) NoExpr) (AndExpr (EInteger Int (pos 2)) NoExpr) = cc in
    let b : ◌≡◌ {A = Expr} (EInteger Int (pos 1)) (EInteger Int (pos 2)) = cc in
    let c : ◌≡◌ {A = ℕ} 1 2 = cc in absurd (omega (arith, c))

abbrev one_body : List Stmt
one_body =
    Declare frame_name (TyPointer (TyStruct (piece_name f_name Start))) (Some (ENamed pointer_name)) ∷ loads_one frame_name (record { variable = next_name; type = any_pointer; field = next_field }) ∷ frees_frame pointer_name
    ∷ prints 1 ∷ hands_over next_name ∷ []

pub a_statement_is_dropped : AStatementIsDropped
a_statement_is_dropped s =
    let is_one = s.all one_print (Below _ _ _ (Below _ _ _ (Below _ _ _ (Below _ _ _ (OnTop _ _))))) in
    let same = piece_is s.made Start one_print (kind_of s.made one_print is_one) refl in
    let piece = (s.pieces f_function C.Entry the_f C.TheEntry).1 in
    let has = image_has two_prints f_function (names_at two_prints f_function piece.spelled) s.made second None (ENamed (codes "cpc_print")) (AndExpr (EInteger Int (pos 2)) NoExpr) refl refl piece.points piece.images piece.are_images (Here second) refl ((piece.owned (Here second)).1 second_owned) in
    let body = block_is piece.body one_body (sym piece.is_body ∙ ap (λ h. h.body) (sym same)) in
    none (prints 2) refl (subst (λ ss. Has (prints 2) (bares ss)) body (between_has piece.images (bares piece.body) (prints 2) piece.between has))
  where
    none : (x : Stmt) → x ≡ prints 2 → Has x (bares one_body) → ⊥
    none _ e (OnTop _ _) = absurd (cc)
    none _ e (Below _ _ _ (OnTop _ _)) = absurd (cc)
    none _ e (Below _ _ _ (Below _ _ _ (OnTop _ _))) = absurd (cc)
    none _ e (Below _ _ _ (Below _ _ _ (Below _ _ _ (OnTop _ _)))) = other_number e
    none _ e (Below _ _ _ (Below _ _ _ (Below _ _ _ (Below _ _ _ (OnTop _ _))))) = absurd (cc)
    none x e (Below _ _ _ (Below _ _ _ (Below _ _ _ (Below _ _ _ (Below _ _ _ h))))) = elim h [ ]
