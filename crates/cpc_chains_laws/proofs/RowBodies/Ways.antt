-- Where the lines of a node go: on from it; and no statement among them goes anywhere by itself.
use Rattle.std.proofs.Common.{◌≡◌, ℕ, Bool, true, false, cond, List, [], ◌∷◌, ◌++◌, map, Option, Some, None, refl}
use Rattle.cpc_base.specs.Bytes.{Text}
use Rattle.cpc_tree.specs.Syntax.{Expr, ENamed, EInteger, ECharacter, EText, EUnary, EBinary, EAnd, EOr, EChoose, ECast, ESizeOf, EIndex, EMember, EArrow, ECall, Exprs, Stmt, Block, Empty, Declare, Assign, Call, Detach, Spawn, If, While, DoWhile, For, Goto, Label, Break, Continue, Return, Function, Program}
use Rattle.cpc_tree.specs.Points.{Simple, Test, Nothing}
use Rattle.cpc_tree.specs.Typing.{function_named}
use Rattle.cpc_meaning.specs.Act.{Stood, AtStatement, AtArrival, AtEnd, target_of}
use Rattle.cpc_meaning.specs.Ways.{Manner, InPlace, ByFrame, AsCps}
use Rattle.cpc_chains_laws.specs.Complete.Flat.{line_gotos}
use Rattle.cpc_convert_image_laws.specs.Images.{Readings}
use Rattle.cpc_forms.specs.Flow.{Place, At}
use Rattle.cpc_convert_routines.specs.Names.{to_name, under_name}
use Rattle.cpc_convert_routines.specs.Routines.{Routine}
use Rattle.cpc_chains_event.specs.Lines.{Line, Does, Goes, Tests, Passes, goes, passes, all_do, frame_lines, frame_lines_if, call_lines, waits_lines, unbox_lines, result_lines, patch_lines, leave_lines, simple_lines, cps_lines, test_lines, arrival_lines, behind_arrival, framed_lines, stood_lines, hands_over}
use Rattle.cpc_chains_event.specs.Rows.{stub_lines, Put, Plain, Jump, JumpIf, is_next, put_line, put_lines}

-- ---- statements that go nowhere

-- none of these goes anywhere
abbrev pub AllStay : List Stmt → Type 0
AllStay [] = Unit {0}
AllStay (s ∷ ss) = (line_gotos s ≡ []) × AllStay ss

stay_append : (xs ys : List Stmt) → AllStay xs → AllStay ys → AllStay (xs ++ ys)
stay_append [] ys h g = g
stay_append (x ∷ xs) ys h g = (h.0, stay_append xs ys h.1 g)

stay_map : {X : Type 0} (f : X → Stmt) → ((x : X) → line_gotos (f x) ≡ []) → (xs : List X) → AllStay (map f xs)
stay_map f h [] = tt
stay_map f h (x ∷ xs) = (h x, stay_map f h xs)

frame_stays : (r : Routine) (to : Text) (l : Place) → AllStay (frame_lines r to l)
frame_stays r to l = (refl, (refl, (refl, stay_map _ (λ x. refl) _)))

frame_if_stays : (r : Routine) (to : Text) (o : Option ℕ) → AllStay (frame_lines_if r to o)
frame_if_stays r to None = tt
frame_if_stays r to (Some n) = frame_stays r to (At n)

call_stays : (g : Function) (names : Readings) (es : Exprs) → AllStay (call_lines g names es)
call_stays g names es = (refl, (refl, (refl, stay_map _ (λ x. refl) _)))

waits_stay : (r : Routine) (names : Readings) (a : Option ℕ) (f : Text) (o : Option Function) (es : Exprs) → AllStay (waits_lines r names a f o es)
waits_stay r names a f None es = stay_append (frame_lines_if r to_name a) _ (frame_if_stays r to_name a) (refl, (refl, tt))
waits_stay r names a f (Some g) es = stay_append (frame_lines_if r under_name a) _ (frame_if_stays r under_name a) (stay_append (call_lines g names es) _ (call_stays g names es) (refl, tt))

result_stays : (names : Readings) (o : Option Expr) → AllStay (result_lines names o)
result_stays names None = tt
result_stays names (Some e) = (refl, tt)

patch_stays : (o : Option Expr) → AllStay (patch_lines o)
patch_stays None = tt
patch_stays (Some e) = (refl, tt)

leave_stays : (r : Routine) (names : Readings) (o : Option Expr) → AllStay (leave_lines r names o)
leave_stays r names o =
    stay_append (result_lines names o) _ (result_stays names o) (stay_append (unbox_lines r) _ (stay_map _ (λ k. refl) r.boxes) (stay_append (patch_lines o) _ (patch_stays o) (refl, tt)))

called_stays : (p : Program) (r : Routine) (names : Readings) (to : Option Expr) (f : Expr) (es : Exprs) (a : Option ℕ) → AllStay (cps_lines p r names (Call to f es) a)
called_stays p r names to (ENamed f) es a = waits_stay r names a f (function_named p f) es
called_stays p r names to (EInteger k z) es a = tt
called_stays p r names to (ECharacter z) es a = tt
called_stays p r names to (EText z) es a = tt
called_stays p r names to (EUnary k z) es a = tt
called_stays p r names to (EBinary o x y) es a = tt
called_stays p r names to (EAnd x y) es a = tt
called_stays p r names to (EOr x y) es a = tt
called_stays p r names to (EChoose x y z) es a = tt
called_stays p r names to (ECast x y) es a = tt
called_stays p r names to (ESizeOf x) es a = tt
called_stays p r names to (EIndex x y) es a = tt
called_stays p r names to (EMember x y) es a = tt
called_stays p r names to (EArrow x y) es a = tt
called_stays p r names to (ECall x y) es a = tt

cps_stays : (p : Program) (r : Routine) (names : Readings) (s : Stmt) (a : Option ℕ) → AllStay (cps_lines p r names s a)
cps_stays p r names (Call to f es) a = called_stays p r names to f es a
cps_stays p r names (Detach to f es) a = stay_append (frame_lines_if r to_name a) _ (frame_if_stays r to_name a) (refl, (refl, tt))
cps_stays p r names (Return e) a = tt
cps_stays p r names (Spawn f es) a = tt
cps_stays p r names (Declare x t e) a = tt
cps_stays p r names (Assign e op v) a = tt
cps_stays p r names (Block ss) a = tt
cps_stays p r names Empty a = tt
cps_stays p r names (If t x b) a = tt
cps_stays p r names (While t s) a = tt
cps_stays p r names (DoWhile s t) a = tt
cps_stays p r names (For x t b s) a = tt
cps_stays p r names (Goto l) a = tt
cps_stays p r names (Label l s) a = tt
cps_stays p r names Break a = tt
cps_stays p r names Continue a = tt

-- ---- where lines go

-- all numbers to which lines go have a property
module _ (T : ℕ → Type 0) where
  abbrev pub LineGoes : Line → Type 0
  LineGoes (Does s) = line_gotos s ≡ []
  LineGoes (Goes n) = T n
  LineGoes (Tests e n) = T n
  LineGoes (Passes n) = T n

  abbrev pub AllGo : List Line → Type 0
  AllGo [] = Unit {0}
  AllGo (x ∷ xs) = LineGoes x × AllGo xs

  abbrev pub WayIf : Option ℕ → Type 0
  WayIf None = Unit {0}
  WayIf (Some n) = T n

  all_go : (ss : List Stmt) → AllStay ss → AllGo (all_do ss)
  all_go [] h = tt
  all_go (s ∷ ss) h = (h.0, all_go ss h.1)

  goes_go : (o : Option ℕ) → WayIf o → AllGo (goes o)
  goes_go None h = tt
  goes_go (Some n) h = (h, tt)

  passes_go : (o : Option ℕ) → WayIf o → AllGo (passes o ∷ [])
  passes_go None h = (refl, tt)
  passes_go (Some n) h = (h, tt)

  simple_go : (r : Routine) (names : Readings) (s : Stmt) (o : Option ℕ) → WayIf o → AllGo (simple_lines r names s o)
  simple_go r names (Return e) o h = all_go (leave_lines r names e) (leave_stays r names e)
  simple_go r names (Spawn f es) o h = (refl, goes_go o h)
  simple_go r names (Declare x t (Some e)) o h = (refl, goes_go o h)
  simple_go r names (Declare x t None) o h = passes_go o h
  simple_go r names (Assign e op v) o h = (refl, goes_go o h)
  simple_go r names (Call to f es) o h = (refl, goes_go o h)
  simple_go r names (Block ss) o h = passes_go o h
  simple_go r names Empty o h = passes_go o h
  simple_go r names (Detach to f es) o h = passes_go o h
  simple_go r names (If t a b) o h = passes_go o h
  simple_go r names (While t s) o h = passes_go o h
  simple_go r names (DoWhile s t) o h = passes_go o h
  simple_go r names (For a t b s) o h = passes_go o h
  simple_go r names (Goto l) o h = passes_go o h
  simple_go r names (Label l s) o h = passes_go o h
  simple_go r names Break o h = passes_go o h
  simple_go r names Continue o h = passes_go o h

  framed_go : (r : Routine) (names : Readings) (s : Stmt) (a : Option ℕ) → WayIf (behind_arrival r a) → AllGo (framed_lines r names s a)
  framed_go r names (Call to f es) a h = (refl, goes_go (behind_arrival r a) h)
  framed_go r names (Return e) a h = passes_go (behind_arrival r a) h
  framed_go r names (Spawn f es) a h = passes_go (behind_arrival r a) h
  framed_go r names (Declare x t e) a h = passes_go (behind_arrival r a) h
  framed_go r names (Assign e op v) a h = passes_go (behind_arrival r a) h
  framed_go r names (Block ss) a h = passes_go (behind_arrival r a) h
  framed_go r names Empty a h = passes_go (behind_arrival r a) h
  framed_go r names (Detach to f es) a h = passes_go (behind_arrival r a) h
  framed_go r names (If t x b) a h = passes_go (behind_arrival r a) h
  framed_go r names (While t s) a h = passes_go (behind_arrival r a) h
  framed_go r names (DoWhile s t) a h = passes_go (behind_arrival r a) h
  framed_go r names (For x t b s) a h = passes_go (behind_arrival r a) h
  framed_go r names (Goto l) a h = passes_go (behind_arrival r a) h
  framed_go r names (Label l s) a h = passes_go (behind_arrival r a) h
  framed_go r names Break a h = passes_go (behind_arrival r a) h
  framed_go r names Continue a h = passes_go (behind_arrival r a) h

  test_goes : (names : Readings) (t : Option Expr) (n m : Option ℕ) → WayIf n → WayIf m → AllGo (test_lines names t n m)
  test_goes names None n m h g = passes_go n h
  test_goes names (Some e) None m h g = passes_go None tt
  test_goes names (Some e) (Some n) m h g = (h, goes_go m g)

  arrival_goes : (names : Readings) (o : Option (Option Expr)) (n : Option ℕ) → WayIf n → AllGo (arrival_lines names o n)
  arrival_goes names None n h = passes_go n h
  arrival_goes names (Some None) n h = passes_go n h
  arrival_goes names (Some (Some e)) n h = (refl, goes_go n h)

  -- the lines of a node go where the node does; a call that is left over a frame goes on behind its arrival
  pub stood_goes : (p : Program) (r : Routine) (names : Readings) (w : Manner) (s : Stood) (n m a : Option ℕ) → WayIf n → WayIf m → (w ≡ ByFrame → (x : Stmt) → s ≡ AtStatement (Simple x) → WayIf (behind_arrival r a)) → AllGo (stood_lines p r names w s n m a)
  stood_goes p r names w AtEnd n m a h g k = all_go (leave_lines r names None) (leave_stays r names None)
  stood_goes p r names w (AtArrival x) n m a h g k = arrival_goes names (target_of x) n h
  stood_goes p r names w (AtStatement (Test t)) n m a h g k = test_goes names t n m h g
  stood_goes p r names InPlace (AtStatement (Simple s)) n m a h g k = simple_go r names s n h
  stood_goes p r names ByFrame (AtStatement (Simple s)) n m a h g k = framed_go r names s a (k refl s refl)
  stood_goes p r names AsCps (AtStatement (Simple s)) n m a h g k = all_go (cps_lines p r names s a) (cps_stays p r names s a)
  stood_goes p r names w (AtStatement Nothing) n m a h g k = passes_go n h

  -- the lines that go to another leader go nowhere else
  pub stub_goes : (r : Routine) (n : ℕ) → AllGo (stub_lines r n)
  stub_goes r n = all_go (frame_lines r to_name (At n) ++ (hands_over to_name ∷ [])) (stay_append (frame_lines r to_name (At n)) (hands_over to_name ∷ []) (frame_stays r to_name (At n)) (refl, tt))

  -- ---- lines whose ways are known

  abbrev pub PutGoes : Put → Type 0
  PutGoes (Plain s) = line_gotos s ≡ []
  PutGoes (Jump n) = T n
  PutGoes (JumpIf e n) = T n

  abbrev pub AllPut : List Put → Type 0
  AllPut [] = Unit {0}
  AllPut (x ∷ xs) = PutGoes x × AllPut xs

  put_append : (xs ys : List Put) → AllPut xs → AllPut ys → AllPut (xs ++ ys)
  put_append [] ys h g = g
  put_append (x ∷ xs) ys h g = (h.0, put_append xs ys h.1 g)

  put_goes : (o : Option ℕ) (x : Line) → LineGoes x → AllPut (put_line o x)
  put_goes o (Does x) h = (h, tt)
  put_goes o (Goes n) h = go (is_next n o)
    where
      go : (b : Bool) → AllPut (cond b [] (Jump n ∷ []))
      go true = tt
      go false = (h, tt)
  put_goes o (Tests e n) h = (h, tt)
  put_goes o (Passes n) h = go (is_next n o)
    where
      go : (b : Bool) → AllPut (cond b (Plain Empty ∷ []) (Jump n ∷ []))
      go true = (refl, tt)
      go false = (h, tt)

  pub puts_go : (o : Option ℕ) (xs : List Line) → AllGo xs → AllPut (put_lines o xs)
  puts_go o [] h = tt
  puts_go o (x ∷ xs) h = put_append (put_line o x) (put_lines o xs) (put_goes o x h.0) (puts_go o xs h.1)
