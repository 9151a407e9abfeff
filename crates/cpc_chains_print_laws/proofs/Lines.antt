-- The lines of the pieces of a cps function can be printed.
use Rattle.std.proofs.Common.{◌≡◌, ℕ, suc, ◌+◌, ◌≤◌, ◌<◌, ◌^◌, Bool, true, false, ◌||◌, if◌then◌else◌, List, [], ◌∷◌, ◌++◌, map, length, slice_get, pos, codes, bytes_eq, Option, Some, None, refl, subst, ap, arith}
use Rattle.cpc_base.specs.Bytes.{Text}
use Rattle.cpc_base.specs.declared.stop.Dialect.TheVariants as D
use Rattle.cpc_base.proofs.Truth.{eq_reflexive}
use Rattle.cpc_num.specs.declared.kinds.Kind.TheVariants.{Int}
use Rattle.cpc_tree.specs.Lists.{holds_number}
use Rattle.cpc_tree.specs.Spelling.{IsName}
use Rattle.cpc_tree.specs.Points.{Found, Simple, Test, Nothing}
use Rattle.cpc_tree.specs.Primitives.{Primitive, Sleep, IoWait, Wait, primitive_named}
use Rattle.cpc_tree.specs.Registers.{slot_of, variables}
use Rattle.cpc_tree.specs.Syntax.{Expr, ENamed, EInteger, ESizeOf, EArrow, TyStruct, Exprs, NoExpr, AndExpr, Stmt, Block, Empty, Declare, Assign, Call, Detach, Spawn, If, While, DoWhile, For, Goto, Label, Break, Continue, Return, Variable, Function, Program}
use Rattle.cpc_tree.specs.Typing.{Scope, function_named}
use Rattle.cpc_tree.specs.StmtGrammar.{is_call}
use Rattle.cpc_convert_common.specs.Converted.{spawner_name}
use Rattle.cpc_meaning.specs.Act.{Stood, AtStatement, AtArrival, AtEnd, target_of}
use Rattle.cpc_meaning.specs.Ways.{Manner, InPlace, ByFrame, AsCps}
use Rattle.cpc_forms.specs.Flow.{Place, At}
use Rattle.cpc_convert_image_laws.specs.Images.{Readings, image, images, followed}
use Rattle.cpc_convert_image_laws.specs.Locals.{reading_of, readings_in}
use Rattle.cpc_convert_flat_laws.specs.Locals.{Save, saves_one}
use Rattle.cpc_chains_store_laws.specs.Frames.{asks_block, fills_frame, frame_through, gives_one}
use Rattle.cpc_convert_flat_laws.specs.Boxes.{unboxes_one}
use Rattle.cpc_chains_store_laws.specs.Driver.{drive_name, code_field, next_field, value_field}
use Rattle.cpc_convert_routines.specs.Names.{start_name, variable_name, next_name, value_name, to_name, under_name, result_name}
use Rattle.cpc_convert_routines.specs.Routines.{Routine, routine_of, is_plain, readings_of, closure_of, local_of}
use Rattle.cpc_chains_event.specs.Lines.{Line, Does, Goes, Tests, Passes, goes, passes, all_do, save_of, frame_lines, frame_lines_if, gives_from, call_lines, hands_over, hands_nothing, runtime_name, wait_lines, section_lines, enter_lines, waits_lines, unbox_lines, result_lines, patch_lines, leave_lines, simple_lines, cps_lines, test_lines, arrival_lines, behind_arrival, framed_lines, stood_lines}
use Rattle.cpc_chains_print_laws.proofs.Names as N
use Rattle.cpc_chains_print_laws.proofs.Names.{IsSmall, name_widened, spawner_is_name, start_is_name, piece_is_name, variable_is_name}
use Rattle.cpc_chains_print_laws.proofs.Images.{ReadingSpelled, ReadingsSpelled, image_no_call}
use Rattle.cpc_chains_print_laws.proofs.Source.{ExprPrints, named_prints, MaybePrints, EachPrints, SimplePrints, FoundPrints}
use Rattle.cpc_chains_print_laws.proofs.Known.{FunctionReads, StoodPrints, local_made}
use Rattle.cpc_chains_print_laws.proofs.Made.{ExprMade, named_made, zero_made, arrow_made, through_made, size_made, set_made, image_made, EachMade, images_made, followed_made, LineMade, RowMade, line_row, assign_made, call_made, puts_made, return_made, empty_made, if_made, image_line, image_call}

-- ---- scopes

-- the variables in scope have small numbers
abbrev pub ScopeSmall : Scope → Type 0
ScopeSmall scope = (x : Text) (k : ℕ) → holds_number (slot_of scope x) k ≡ true → k < 2 ^ 64

-- so what their names are read as can be spelled
pub readings_spelled : (r : Routine) (scope : Scope) → ScopeSmall scope → ReadingsSpelled (readings_of r scope)
readings_spelled r scope small x n = go scope (small x)
  where
    read : (b : Bool) (k : ℕ) → k < 2 ^ 64 → ReadingSpelled (Some (reading_of b (variable_name k x) x))
    read true k h = variable_is_name k x n h
    read false k h = (variable_is_name k x n h, name_widened x n)

    go : (scope : Scope) → ((k : ℕ) → holds_number (slot_of scope x) k ≡ true → k < 2 ^ 64) → ReadingSpelled (readings_in (is_plain r) variable_name scope x)
    go [] s = tt
    go (l ∷ scope) s = by (bytes_eq l.called x) s (λ deeper. go scope deeper)
      where
        by : (b : Bool) → ((k : ℕ) → holds_number (if b then l.slot ∷ [] else slot_of scope x) k ≡ true → k < 2 ^ 64)
            → (((k : ℕ) → holds_number (slot_of scope x) k ≡ true → k < 2 ^ 64) → ReadingSpelled (readings_in (is_plain r) variable_name scope x))
            → ReadingSpelled (if b then Some (reading_of (is_plain r l.slot) (variable_name l.slot x) x) else readings_in (is_plain r) variable_name scope x)
        by true s deeper = read (is_plain r l.slot) l.slot (s l.slot (ap (λ b. b || false) (eq_reflexive l.slot)))
        by false s deeper = deeper s

-- ---- what is no call

-- no argument is a call
abbrev pub AllNoCalls : Exprs → Type 0
AllNoCalls NoExpr = Unit {0}
AllNoCalls (AndExpr e es) = (is_call e ≡ false) × AllNoCalls es

-- of what stands at a node: the arguments of a call by name, and what is returned, are none
abbrev pub SimpleSound : Stmt → Type 0
SimpleSound (Call to (ENamed f) es) = AllNoCalls es
SimpleSound (Return (Some e)) = is_call e ≡ false
SimpleSound s = Unit {0}

abbrev pub StoodSound : Stood → Type 0
StoodSound (AtStatement (Simple s)) = SimpleSound s
StoodSound s = Unit {0}

-- ---- rows of statements

module _ (tight : Bool) (H : ℕ) (room : 8 ≤ H) where
  abbrev pub EachRow : List Stmt → Type 0
  EachRow [] = Unit {0}
  EachRow (s ∷ ss) = RowMade tight H room s × EachRow ss

  pub both_rows : (ss ts : List Stmt) → EachRow ss → EachRow ts → EachRow (ss ++ ts)
  both_rows [] ts a b = b
  both_rows (s ∷ ss) ts a b = (a.0, both_rows ss ts a.1 b)

  -- a line whose number is small
  abbrev pub LinePrints : Line → Type 0
  LinePrints (Does s) = RowMade tight H room s
  LinePrints (Goes n) = n < 2 ^ 64
  LinePrints (Tests e n) = ExprMade tight H room e × (n < 2 ^ 64)
  LinePrints (Passes n) = n < 2 ^ 64

  abbrev pub EachLine : List Line → Type 0
  EachLine [] = Unit {0}
  EachLine (l ∷ ls) = LinePrints l × EachLine ls

  -- a number that may be absent
  abbrev pub SmallIf : Option ℕ → Type 0
  SmallIf None = Unit {0}
  SmallIf (Some n) = n < 2 ^ 64

  pub rows_lines : (ss : List Stmt) → EachRow ss → EachLine (all_do ss)
  rows_lines [] a = tt
  rows_lines (s ∷ ss) a = (a.0, rows_lines ss a.1)

  pub goes_print : (o : Option ℕ) → SmallIf o → EachLine (goes o)
  goes_print None s = tt
  goes_print (Some n) s = (s, tt)

  row : (s : Stmt) → LineMade tight H room s → RowMade tight H room s
  row s a = line_row tight H room s a

  pub passes_print : (o : Option ℕ) → SmallIf o → LinePrints (passes o)
  passes_print None s = row Empty (empty_made tight H room)
  passes_print (Some n) s = s

  name : (x : Text) → IsName D.Event x → ExprMade tight H room (ENamed x)
  name x n = named_made tight H room x n

  -- ---- what hands frames over

  pub hands_made : (x : Text) → IsName D.Event x → RowMade tight H room (hands_over x)
  hands_made x n = row (hands_over x) (return_made tight H room (ENamed x) (name x n))

  nothing_made : RowMade tight H room hands_nothing
  nothing_made = row hands_nothing (return_made tight H room (EInteger Int (pos 0)) (zero_made tight H room))

  -- ---- frames

  -- a block is asked for
  pub asks_made : (to tag : Text) → IsName D.Event to → IsName D.Event tag → RowMade tight H room (asks_block to tag)
  asks_made to tag n m = row (asks_block to tag) (puts_made tight H room (ENamed to) (ENamed (codes "rt_frame")) (AndExpr (ESizeOf (TyStruct tag)) NoExpr) (name to n) (name (codes "rt_frame") N.rt_frame_name) (size_made tight H room tag m, tt))

  -- a field, through a pointer of the tag
  field_made : (to tag f : Text) (e : Expr) → IsName D.Event to → IsName D.Event tag → IsName D.Event f → ExprMade tight H room e → is_call e ≡ false → RowMade tight H room (Assign (EArrow (frame_through to tag) f) None e)
  field_made to tag f e n m l a c = row _ (assign_made tight H room (EArrow (frame_through to tag) f) e (through_made tight H room to tag f n m l) a c)

  -- a field of any frame
  any_made : (to f : Text) (e : Expr) → IsName D.Event to → IsName D.Event f → ExprMade tight H room e → is_call e ≡ false → RowMade tight H room (Assign (EArrow (ENamed to) f) None e)
  any_made to f e n l a c = row _ (assign_made tight H room (EArrow (ENamed to) f) e (arrow_made tight H room to f n l) a c)

  -- variables are saved
  abbrev pub SavesSpelled : List Save → Type 0
  SavesSpelled [] = Unit {0}
  SavesSpelled (p ∷ ps) = IsName D.Event p.field × IsName D.Event p.variable × SavesSpelled ps

  through_saves : (to tag : Text) → IsName D.Event to → IsName D.Event tag → (ps : List Save) → SavesSpelled ps → EachRow (map (saves_one (frame_through to tag)) ps)
  through_saves to tag n m [] s = tt
  through_saves to tag n m (p ∷ ps) s = (field_made to tag p.field (ENamed p.variable) n m s.0 (name p.variable s.1) refl, through_saves to tag n m ps s.2)

  pub name_saves : (to : Text) → IsName D.Event to → (ps : List Save) → SavesSpelled ps → EachRow (map (saves_one (ENamed to)) ps)
  name_saves to n [] s = tt
  name_saves to n (p ∷ ps) s = (any_made to p.field (ENamed p.variable) n s.0 (name p.variable s.1) refl, name_saves to n ps s.2)

  pub heads_made : (to piece : Text) (below : Expr) → IsName D.Event to → IsName D.Event piece → ExprMade tight H room below → is_call below ≡ false → EachRow (Assign (EArrow (ENamed to) code_field) None (ENamed piece) ∷ Assign (EArrow (ENamed to) next_field) None below ∷ [])
  heads_made to piece below n m b c = (any_made to code_field (ENamed piece) n N.code_field_name (name piece m) refl, (any_made to next_field below n N.next_is_name b c, tt))

  fills_made : (to piece : Text) → IsName D.Event to → IsName D.Event piece → (ps : List Save) → SavesSpelled ps → EachRow (fills_frame (ENamed to) (frame_through to piece) code_field next_field piece (ENamed next_name) ps)
  fills_made to piece n m ps s = let h = heads_made to piece (ENamed next_name) n m (name next_name N.next_is_name) refl in (h.0, (h.1.0, through_saves to piece n m ps s))

  gives_made : (to tag : Text) → IsName D.Event to → IsName D.Event tag → (k : ℕ) (xs : List Variable) (r : Readings) (es : Exprs) → ((j : ℕ) (x : Variable) → slice_get xs j ≡ Some x → IsName D.Cpc x.called) → k + length xs ≤ 2 ^ 63
      → ReadingsSpelled r → (h : ℕ) → h + 3 ≤ H → EachPrints tight h es → AllNoCalls es → EachRow (map (gives_one (frame_through to tag)) (gives_from k xs r es))
  gives_made to tag n m k [] r es xs few names h below p c = tt
  gives_made to tag n m k (x ∷ xs) r NoExpr all few names h below p c = tt
  gives_made to tag n m k (x ∷ xs) r (AndExpr e es) all few names h below p c = (
    field_made to tag (variable_name k x.called) (image r e) n m (variable_is_name k x.called (all 0 x refl) (omega (arith, few))) (image_made tight H room h below r names e p.0) (image_no_call r e c.0),
    gives_made to tag n m (suc k) xs r es (λ j y e. all (suc j) y e) (omega (arith, few)) names h below p.1 c.1,
  )

  -- ---- the frames of a routine

  module _ (h : ℕ) (below : h + 3 ≤ H) (p : Program) (f : Function) (reads : FunctionReads tight h f) (few : length (variables f) ≤ 255) where
    abbrev r : Routine
    r = routine_of p f

    -- these are numbers of variables
    abbrev pub AllVariables : List ℕ → Type 0
    AllVariables [] = Unit {0}
    AllVariables (k ∷ ks) = (k < length (variables f)) × AllVariables ks

    saves_spelled : (ks : List ℕ) → AllVariables ks → SavesSpelled (map (λ k. save_of (local_of r k)) ks)
    saves_spelled [] a = tt
    saves_spelled (k ∷ ks) a = let one = local_made tight H room h (omega (arith, below)) p f reads k a.0 (let less = a.0 in omega (arith, few, less)) in (one.name, one.name, saves_spelled ks a.1)

    -- what frames keep
    module _ (kept : (l : Place) → AllVariables (closure_of r l)) where
      pub frame_made : (to : Text) (l : Place) → IsName D.Event to → IsSmall l → EachRow (frame_lines r to l)
      frame_made to l n small = let piece = piece_is_name f.called l reads.name small in (asks_made to _ n piece, fills_made to _ n piece _ (saves_spelled (closure_of r l) (kept l)))

      pub frame_if_made : (to : Text) (o : Option ℕ) → IsName D.Event to → SmallIf o → EachRow (frame_lines_if r to o)
      frame_if_made to None n small = tt
      frame_if_made to (Some m) n small = frame_made to (At m) n small

      pub stub_made : (n : ℕ) → n < 2 ^ 64 → EachLine (all_do (frame_lines r to_name (At n) ++ (hands_over to_name ∷ [])))
      stub_made n small = rows_lines (frame_lines r to_name (At n) ++ (hands_over to_name ∷ [])) (both_rows (frame_lines r to_name (At n)) (hands_over to_name ∷ []) (frame_made to_name (At n) N.to_is_name small) (hands_made to_name N.to_is_name, tt))

      -- ---- what stands at a node

      module _ (scope : Scope) (small : ScopeSmall scope) where
        abbrev names : Readings
        names = readings_of r scope

        spelled : ReadingsSpelled names
        spelled = readings_spelled r scope small

        img : (e : Expr) → ExprPrints tight h e → ExprMade tight H room (image names e)
        img e a = image_made tight H room h below names spelled e a

        imgs : (es : Exprs) → EachPrints tight h es → EachMade tight H room (images names es)
        imgs es a = images_made tight H room h below names spelled es a

        runtime_is_name : (o : Option Primitive) → IsName D.Event (runtime_name o)
        runtime_is_name (Some Sleep) = N.rt_sleep_name
        runtime_is_name (Some IoWait) = N.rt_io_name
        runtime_is_name (Some Wait) = N.rt_wait_name
        runtime_is_name _ = N.rt_ready_name

        waits_made : (a : Option ℕ) → SmallIf a → (o : Option Primitive) (es : Exprs) → EachPrints tight h es → EachRow (wait_lines r names a o es)
        waits_made a sm o es p =
            both_rows (frame_lines_if r to_name a) _ (frame_if_made to_name a N.to_is_name sm) (
              row _ (call_made tight H room (ENamed (runtime_name o)) (followed (images names es) (ENamed drive_name) (ENamed to_name)) (name _ (runtime_is_name o))
                  (followed_made tight H room (images names es) (ENamed drive_name) (ENamed to_name) (imgs es p) (name drive_name N.drive_name) (name to_name N.to_is_name))),
              (nothing_made, tt),
            )

        section_made : (a : Option ℕ) → SmallIf a → (g : Text) → IsName D.Cpc g → (es : Exprs) → EachPrints tight h es → EachRow (section_lines r names a g es)
        section_made a sm g n es p =
            both_rows (frame_lines_if r to_name a) _ (frame_if_made to_name a N.to_is_name sm) (
              row _ (call_made tight H room (ENamed (codes "rt_detach")) (AndExpr (ENamed drive_name) (AndExpr (ENamed to_name) (AndExpr (ENamed g) (images names es)))) (name _ N.rt_detach_name)
                  (name drive_name N.drive_name, (name to_name N.to_is_name, (name g (name_widened g n), imgs es p)))),
              (nothing_made, tt),
            )

        enters_made : (a : Option ℕ) → SmallIf a → (g : Function) → FunctionReads tight h g → length (variables g) ≤ 255 → (es : Exprs) → EachPrints tight h es → AllNoCalls es → EachRow (enter_lines r names a g es)
        enters_made a sm g others many es p c =
            let tag = start_is_name g.called others.name in
            let head = heads_made to_name (start_name g.called) (ENamed under_name) N.to_is_name tag (name under_name N.under_is_name) refl in
            both_rows (frame_lines_if r under_name a) _ (frame_if_made under_name a N.under_is_name sm)
            (both_rows (call_lines g names es) _
            (asks_made to_name (start_name g.called) N.to_is_name tag, (head.0, (head.1.0, gives_made to_name (start_name g.called) N.to_is_name tag 0 (variables g) names es (λ j x e. (others.variables j x e).name) (omega (arith, many)) spelled h below p c)))
            (hands_made to_name N.to_is_name, tt))

        -- the boxes are given back, and the value
        unboxes_made : (ks : List ℕ) → AllVariables ks → EachRow (map (λ k. unboxes_one (local_of r k).called) ks)
        unboxes_made [] a = tt
        unboxes_made (k ∷ ks) a =
            let one = local_made tight H room h (omega (arith, below)) p f reads k a.0 (let less = a.0 in omega (arith, few, less)) in
            (row _ (call_made tight H room (ENamed (codes "rt_unbox")) (AndExpr (ENamed (local_of r k).called) NoExpr) (name _ N.rt_unbox_name) (name _ one.name, tt)), unboxes_made ks a.1)

        result_made : (o : Option Expr) → MaybePrints tight h o → SimpleSound (Return o) → EachRow (result_lines names o)
        result_made None p c = tt
        result_made (Some e) p c = (row _ (assign_made tight H room (ENamed result_name) (image names e) (name result_name N.result_is_name) (img e p) (image_no_call names e c)), tt)

        patch_made : (o : Option Expr) → EachRow (patch_lines o)
        patch_made None = tt
        patch_made (Some e) = (
          if_made tight H room _ (Assign (EArrow (ENamed next_name) value_field) None (ENamed result_name)) (set_made tight H room next_name N.next_is_name)
              (assign_made tight H room (EArrow (ENamed next_name) value_field) (ENamed result_name) (arrow_made tight H room next_name value_field N.next_is_name N.value_word_name) (name result_name N.result_is_name) refl),
          tt,
        )

        module _ (boxes : AllVariables r.boxes) where
          leaves_made : (o : Option Expr) → MaybePrints tight h o → SimpleSound (Return o) → EachRow (leave_lines r names o)
          leaves_made o p c =
              both_rows (result_lines names o) _ (result_made o p c)
              (both_rows (unbox_lines r) _ (unboxes_made r.boxes boxes) (both_rows (patch_lines o) _ (patch_made o) (hands_made next_name N.next_is_name, tt)))

          simple_made : (s : Stmt) → SimplePrints tight h s → SimpleSound s → (n : Option ℕ) → SmallIf n → EachLine (simple_lines r names s n)
          simple_made (Return o) p c n sm = rows_lines _ (leaves_made o p c)
          simple_made (Spawn g es) p c n sm = (row _ (call_made tight H room (ENamed (spawner_name g)) (images names es) (name _ (spawner_is_name g p.0)) (imgs es p.1)), goes_print n sm)
          simple_made (Declare x t (Some e)) p c n sm =
              (row _ (assign_made tight H room (image names (ENamed x)) (image names e) (img (ENamed x) (named_source x p.0)) (img e p.1.0) (image_no_call names e p.1.1)), goes_print n sm)
            where
              named_source : (x : Text) → IsName D.Cpc x → ExprPrints tight h (ENamed x)
              named_source x n = named_prints tight h x n
          simple_made (Declare x t None) p c n sm = (passes_print n sm, tt)
          simple_made (Assign e op v) p c n sm = (row _ (image_line tight H room h below names spelled e op v p), goes_print n sm)
          simple_made (Call to g es) p c n sm = (row _ (image_call tight H room h below names spelled to g es p), goes_print n sm)
          simple_made (Detach to g es) p c n sm = (passes_print n sm, tt)
          simple_made (Block ss) p c n sm = (passes_print n sm, tt)
          simple_made Empty p c n sm = (passes_print n sm, tt)
          simple_made (If a b d) p c n sm = (passes_print n sm, tt)
          simple_made (While a b) p c n sm = (passes_print n sm, tt)
          simple_made (DoWhile a b) p c n sm = (passes_print n sm, tt)
          simple_made (For a b d e) p c n sm = (passes_print n sm, tt)
          simple_made (Goto x) p c n sm = (passes_print n sm, tt)
          simple_made (Label x s) p c n sm = (passes_print n sm, tt)
          simple_made Break p c n sm = (passes_print n sm, tt)
          simple_made Continue p c n sm = (passes_print n sm, tt)

          test_made : (t : Option Expr) → MaybePrints tight h t → (n m : Option ℕ) → SmallIf n → SmallIf m → EachLine (test_lines names t n m)
          test_made (Some e) p (Some n) m sn sm = ((img e p, sn), goes_print m sm)
          test_made (Some e) p None m sn sm = (passes_print None tt, tt)
          test_made None p n m sn sm = (passes_print n sn, tt)

          arrival_made : (o : Option (Option Expr)) → ((e : Expr) → o ≡ Some (Some e) → ExprPrints tight h e) → (n : Option ℕ) → SmallIf n → EachLine (arrival_lines names o n)
          arrival_made None p n sm = (passes_print n sm, tt)
          arrival_made (Some None) p n sm = (passes_print n sm, tt)
          arrival_made (Some (Some e)) p n sm = (row _ (assign_made tight H room (image names e) (ENamed value_name) (img e (p e refl)) (name value_name N.value_word_name) refl), goes_print n sm)

          framed_made : (s : Stmt) → SimplePrints tight h s → (a b : Option ℕ) → SmallIf b → b ≡ behind_arrival r a → EachLine (framed_lines r names s a)
          framed_made (Call to g es) p a b sm e = (row _ (image_call tight H room h below names spelled to g es p), goes_print (behind_arrival r a) (subst SmallIf e sm))
          framed_made (Return o) p a b sm e = (passes_print (behind_arrival r a) (subst SmallIf e sm), tt)
          framed_made (Spawn g es) p a b sm e = (passes_print (behind_arrival r a) (subst SmallIf e sm), tt)
          framed_made (Declare x t o) p a b sm e = (passes_print (behind_arrival r a) (subst SmallIf e sm), tt)
          framed_made (Assign x o v) p a b sm e = (passes_print (behind_arrival r a) (subst SmallIf e sm), tt)
          framed_made (Detach to g es) p a b sm e = (passes_print (behind_arrival r a) (subst SmallIf e sm), tt)
          framed_made (Block ss) p a b sm e = (passes_print (behind_arrival r a) (subst SmallIf e sm), tt)
          framed_made Empty p a b sm e = (passes_print (behind_arrival r a) (subst SmallIf e sm), tt)
          framed_made (If u v w) p a b sm e = (passes_print (behind_arrival r a) (subst SmallIf e sm), tt)
          framed_made (While u v) p a b sm e = (passes_print (behind_arrival r a) (subst SmallIf e sm), tt)
          framed_made (DoWhile u v) p a b sm e = (passes_print (behind_arrival r a) (subst SmallIf e sm), tt)
          framed_made (For u v w x) p a b sm e = (passes_print (behind_arrival r a) (subst SmallIf e sm), tt)
          framed_made (Goto x) p a b sm e = (passes_print (behind_arrival r a) (subst SmallIf e sm), tt)
          framed_made (Label x s) p a b sm e = (passes_print (behind_arrival r a) (subst SmallIf e sm), tt)
          framed_made Break p a b sm e = (passes_print (behind_arrival r a) (subst SmallIf e sm), tt)
          framed_made Continue p a b sm e = (passes_print (behind_arrival r a) (subst SmallIf e sm), tt)

          -- the functions that are called
          module _ (all : (x : Text) (g : Function) → function_named p x ≡ Some g → FunctionReads tight h g × (length (variables g) ≤ 255)) where
            called_made : (g : Text) (es : Exprs) → EachPrints tight h es → AllNoCalls es → (a : Option ℕ) → SmallIf a → (o : Option Function) → function_named p g ≡ o → EachRow (waits_lines r names a g o es)
            called_made g es p c a sm None e = waits_made a sm (primitive_named g) es p
            called_made g es p c a sm (Some k) e = let known = all g k e in enters_made a sm k known.0 known.1 es p c

            cps_made : (s : Stmt) → SimplePrints tight h s → SimpleSound s → (a : Option ℕ) → SmallIf a → EachRow (cps_lines p r names s a)
            cps_made (Call to (ENamed g) es) q c a sm = called_made g es q.2 c a sm (function_named p g) refl
            cps_made (Detach to g es) p c a sm = section_made a sm g p.1 es p.2
            cps_made _ p c a sm = tt

            target_prints : (x : Found) → FoundPrints tight h x → (e : Expr) → target_of x ≡ Some (Some e) → ExprPrints tight h e
            target_prints (Simple (Call (Some u) g es)) p e i = subst (ExprPrints tight h) (let z : u ≡ e = cc in z) p.0
            target_prints (Simple (Detach (Some u) g es)) p e i = subst (ExprPrints tight h) (let z : u ≡ e = cc in z) p.0
            target_prints (Simple s) p e i = absurd cc
            target_prints (Test t) p e i = absurd cc
            target_prints Nothing p e i = absurd cc

            pub stood_made : (w : Manner) (s : Stood) → StoodPrints tight h s → StoodSound s → (n m a : Option ℕ) → SmallIf n → SmallIf m → SmallIf a → SmallIf (behind_arrival r a) → EachLine (stood_lines p r names w s n m a)
            stood_made w AtEnd p c n m a sn sm sa sb = rows_lines _ (leaves_made None tt tt)
            stood_made w (AtArrival x) p c n m a sn sm sa sb = arrival_made (target_of x) (target_prints x p) n sn
            stood_made w (AtStatement (Test t)) p c n m a sn sm sa sb = test_made t p n m sn sm
            stood_made InPlace (AtStatement (Simple s)) p c n m a sn sm sa sb = simple_made s p c n sn
            stood_made ByFrame (AtStatement (Simple s)) p c n m a sn sm sa sb = framed_made s p a (behind_arrival r a) sb refl
            stood_made AsCps (AtStatement (Simple s)) p c n m a sn sm sa sb = rows_lines _ (cps_made s p c a sa)
            stood_made w (AtStatement Nothing) p c n m a sn sm sa sb = (passes_print n sn, tt)
