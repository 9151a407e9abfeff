-- The structs of frames are there, each once.
use Rattle.std.proofs.Common.{◌≡◌, ◌⊎◌, inl, inr, ℕ, ⊎_elim, Bool, true, false, List, [], ◌∷◌, ◌++◌, map, slice_get, Option, Some, None, refl, sym, ◌∙◌, ap, subst, codes}
use Rattle.cpc_base.specs.Bytes.{Text}
use Rattle.cpc_num.specs.declared.kinds.Kind.TheVariants.{Int}
use Rattle.cpc_tree.specs.Syntax.{Ty, TyInt, Expr, ENamed, EInteger, ECharacter, EText, EUnary, EBinary, EAnd, EOr, EChoose, ECast, ESizeOf, EIndex, EMember, EArrow, ECall, Exprs, Stmt, Block, Empty, Declare, Assign, Call, Detach, Spawn, If, While, DoWhile, For, Goto, Label, Break, Continue, Return, Variable, Function, Item, StructItem, GlobalItem, PrototypeItem, FunctionItem, Program}
use Rattle.cpc_tree.specs.Points.{Found, Simple, Test, Nothing}
use Rattle.cpc_tree.specs.Typing.{is_scalar, function_named}
use Rattle.cpc_meaning.specs.Start.{main_name}
use Rattle.cpc_meaning.specs.Act.{Stood, AtStatement, AtArrival, AtEnd}
use Rattle.cpc_meaning.specs.Ways.{Manner, InPlace, ByFrame, AsCps}
use Rattle.cpc_meaning.specs.Threads.{is_cps_mode, is_cps}
use Rattle.cpc_convert_common.specs.Marks.{has_marks}
use Rattle.cpc_convert_common.specs.Converted.{marked, function_item, prototype}
use Rattle.cpc_convert_common.specs.Members.{Has, OnTop, Below}
use Rattle.cpc_convert_common.proofs.Marks.{marked_has}
use Rattle.cpc_convert_common.proofs.Members.{has_left, has_either}
use Rattle.cpc_forms.specs.Graph.{Node, at_node}
use Rattle.cpc_forms.specs.Flow.{Place, Start, At}
use Rattle.cpc_convert_flat_laws.specs.Structs.{IsStruct, ScalarFields}
use Rattle.cpc_chains_store_laws.specs.Driver.{drive_function, frame_tag, head_fields}
use Rattle.cpc_convert_routines.specs.Names.{piece_name, value_tag}
use Rattle.cpc_convert_routines.specs.Routines.{Routine, routine_of, closure_of, locals_of, passed}
use Rattle.cpc_chains_event.specs.Frames.{any_frame, value_struct, start_struct, leader_struct, structs_of}
use Rattle.cpc_convert_routines.specs.Arriving.{arriving_if, arriving_from, arriving_found, arriving_stood, arriving_type}
use Rattle.cpc_convert_routines.specs.Kept.{kept_function, item_unless, kept_items, routines}
use Rattle.cpc_chains_event.specs.Converted.{all_structs, all_boxes, all_made, main_if, converted_with, converted}
use Rattle.cpc_convert_routines.specs.Named.{IsNamed, IsCps}
use Rattle.cpc_chains_event.proofs.Apart.{behind, piece_is, value_is, frame_is}
use Rattle.cpc_chains_event.proofs.Fields.{kept_rises, passed_rise, frame_fields, NoneRises}
use Rattle.cpc_chains_event.proofs.Framed.{Framed, AnyFrame, AValue, AStart, OfLeader, framed_is, boxed_is, framed_has, has_value, has_start, has_leader, framed_once}
use Rattle.cpc_chains_event.proofs.FrameStructs.{struct_of}

-- ---- no struct elsewhere

pub no_prototype : (fs : List Function) (tag : Text) (gs : List Variable) → Has (StructItem tag gs) (map prototype fs) → ⊥
no_prototype [] tag gs h = elim h [ ]
no_prototype (f ∷ fs) tag gs (Below _ _ _ h) = no_prototype fs tag gs h

no_function : (fs : List Function) (tag : Text) (gs : List Variable) → Has (StructItem tag gs) (map function_item fs) → ⊥
no_function [] tag gs h = elim h [ ]
no_function (f ∷ fs) tag gs (Below _ _ _ h) = no_function fs tag gs h

no_main : (b : Bool) (tag : Text) (gs : List Variable) → Has (StructItem tag gs) (main_if b) → ⊥
no_main true tag gs (Below _ _ _ h) = elim h [ ]
no_main false tag gs h = elim h [ ]

unless_prototype : (b : Bool) (item : Item) (its : List Item) (x : Item) → Has x (item_unless b item its) → Has x (item ∷ its)
unless_prototype true item its x h = Below _ _ _ h
unless_prototype false item its x h = h

kept_struct : (its : List Item) (tag : Text) (gs : List Variable) → Has (StructItem tag gs) (kept_items its) → Has (StructItem tag gs) its
kept_struct [] tag gs h = h
kept_struct (StructItem t fs ∷ its) tag gs (OnTop _ _) = OnTop _ _
kept_struct (StructItem t fs ∷ its) tag gs (Below _ _ _ h) = Below _ _ _ (kept_struct its tag gs h)
kept_struct (GlobalItem y t s ∷ its) tag gs (Below _ _ _ h) = Below _ _ _ (kept_struct its tag gs h)
kept_struct (PrototypeItem m f r ps ∷ its) tag gs h = past (unless_prototype (is_cps_mode m) (PrototypeItem m f r ps) (kept_items its) (StructItem tag gs) h) (λ k. kept_struct its tag gs k)
  where
    past : Has (StructItem tag gs) (PrototypeItem m f r ps ∷ kept_items its) → (Has (StructItem tag gs) (kept_items its) → Has (StructItem tag gs) its) → Has (StructItem tag gs) (PrototypeItem m f r ps ∷ its)
    past (Below _ _ _ k) rest = Below _ _ _ (rest k)
kept_struct (FunctionItem f ∷ its) tag gs h = past (unless_prototype (is_cps_mode f.mode) (FunctionItem (kept_function f)) (kept_items its) (StructItem tag gs) h) (λ k. kept_struct its tag gs k)
  where
    past : Has (StructItem tag gs) (FunctionItem (kept_function f) ∷ kept_items its) → (Has (StructItem tag gs) (kept_items its) → Has (StructItem tag gs) its) → Has (StructItem tag gs) (FunctionItem f ∷ its)
    past (Below _ _ _ k) rest = Below _ _ _ (rest k)

-- ---- the parts of an event program

-- what stands behind the boxes
abbrev pub behind_boxes : Program → List Routine → List Item
behind_boxes p rs = map function_item (all_made p rs) ++ main_if (is_cps (function_named p main_name))

-- what stands behind the frames
abbrev pub behind_structs : Program → List Routine → List Item
behind_structs p rs = map prototype (all_made p rs) ++ FunctionItem drive_function ∷ (kept_items p ++ (all_boxes rs ++ behind_boxes p rs))

-- it has the structs of the source, and boxes
struct_behind : (p : Program) (rs : List Routine) (tag : Text) (gs : List Variable) → Has (StructItem tag gs) (behind_structs p rs) → Has (StructItem tag gs) p ⊎ Has (StructItem tag gs) (all_boxes rs)
struct_behind p rs tag gs h =
    ⊎_elim (λ a. absurd (no_prototype (all_made p rs) tag gs a)) (λ a. past_driver a)
    (has_either (StructItem tag gs) (map prototype (all_made p rs)) (FunctionItem drive_function ∷ (kept_items p ++ (all_boxes rs ++ behind_boxes p rs))) h)
  where
    past_driver : Has (StructItem tag gs) (FunctionItem drive_function ∷ (kept_items p ++ (all_boxes rs ++ behind_boxes p rs))) → Has (StructItem tag gs) p ⊎ Has (StructItem tag gs) (all_boxes rs)
    past_driver (Below _ _ _ k) =
        ⊎_elim (λ a. inl (kept_struct p tag gs a))
        (λ a. ⊎_elim (λ b. inr b)
        (λ b. ⊎_elim (λ c. absurd (no_function (all_made p rs) tag gs c)) (λ c. absurd (no_main (is_cps (function_named p main_name)) tag gs c))
        (has_either (StructItem tag gs) (map function_item (all_made p rs)) (main_if (is_cps (function_named p main_name))) b))
        (has_either (StructItem tag gs) (all_boxes rs) (behind_boxes p rs) a))
        (has_either (StructItem tag gs) (kept_items p) (all_boxes rs ++ behind_boxes p rs) k)

-- where there are structs, the program begins with that of any frame
pub with_structs : (p : Program) (rs : List Routine) (x : Item) → Has x (all_structs p rs) → converted_with p rs ≡ any_frame ∷ (all_structs p rs ++ behind_structs p rs)
with_structs p [] x h = elim h [ ]
with_structs p (r ∷ rs) x h = refl

-- ---- the value that arrives

arriving_if_scalar : (b : Bool) (t : Ty) → is_scalar t ≡ b → is_scalar (arriving_if b t) ≡ true
arriving_if_scalar true t e = e
arriving_if_scalar false t e = refl

arriving_from_scalar : (o : Option Function) → is_scalar (arriving_from o) ≡ true
arriving_from_scalar None = refl
arriving_from_scalar (Some f) = arriving_if_scalar (is_scalar f.result) f.result refl

arriving_call : (p : Program) (to : Option Expr) (f : Expr) (es : Exprs) → is_scalar (arriving_found p (Simple (Call to f es))) ≡ true
arriving_call p to (ENamed f) es = arriving_from_scalar (function_named p f)
arriving_call p to (EInteger k z) es = refl
arriving_call p to (ECharacter z) es = refl
arriving_call p to (EText z) es = refl
arriving_call p to (EUnary k z) es = refl
arriving_call p to (EBinary o x y) es = refl
arriving_call p to (EAnd x y) es = refl
arriving_call p to (EOr x y) es = refl
arriving_call p to (EChoose x y z) es = refl
arriving_call p to (ECast x y) es = refl
arriving_call p to (ESizeOf x) es = refl
arriving_call p to (EIndex x y) es = refl
arriving_call p to (EMember x y) es = refl
arriving_call p to (EArrow x y) es = refl
arriving_call p to (ECall x y) es = refl

arriving_simple : (p : Program) (s : Stmt) → is_scalar (arriving_found p (Simple s)) ≡ true
arriving_simple p (Call to f es) = arriving_call p to f es
arriving_simple p (Detach to f es) = refl
arriving_simple p (Return e) = refl
arriving_simple p (Spawn f es) = refl
arriving_simple p (Declare x t e) = refl
arriving_simple p (Assign e op v) = refl
arriving_simple p (Block ss) = refl
arriving_simple p Empty = refl
arriving_simple p (If t x b) = refl
arriving_simple p (While t s) = refl
arriving_simple p (DoWhile s t) = refl
arriving_simple p (For x t b s) = refl
arriving_simple p (Goto l) = refl
arriving_simple p (Label l s) = refl
arriving_simple p Break = refl
arriving_simple p Continue = refl

arriving_found_scalar : (p : Program) (x : Found) → is_scalar (arriving_found p x) ≡ true
arriving_found_scalar p (Simple s) = arriving_simple p s
arriving_found_scalar p (Test t) = refl
arriving_found_scalar p Nothing = refl

arriving_stood_scalar : (p : Program) (m : Manner) (s : Stood) → is_scalar (arriving_stood p m s) ≡ true
arriving_stood_scalar p AsCps (AtArrival x) = arriving_found_scalar p x
arriving_stood_scalar p AsCps (AtStatement x) = refl
arriving_stood_scalar p AsCps AtEnd = refl
arriving_stood_scalar p InPlace s = refl
arriving_stood_scalar p ByFrame s = refl

pub arriving_scalar : (p : Program) (r : Routine) (l : Place) → is_scalar (arriving_type p r l) ≡ true
arriving_scalar p r Start = refl
arriving_scalar p r (At n) = go (slice_get r.split.graph.nodes n)
  where
    go : (o : Option Node) → is_scalar (at_node (TyInt Int) (λ node. arriving_stood p node.manner node.stood) o) ≡ true
    go None = refl
    go (Some node) = arriving_stood_scalar p node.manner node.stood

-- ---- the structs

module _ (p : Program) (ok : IsNamed p) where
  -- a struct with a marked tag is one that is made
  framed_in : (tag f rest : Text) → tag ≡ marked f rest → (gs : List Variable) → Has (StructItem tag gs) (any_frame ∷ (all_structs p (routines p) ++ behind_structs p (routines p))) → Framed p p (StructItem tag gs)
  framed_in tag f rest e gs (OnTop _ _) = AnyFrame
  framed_in tag f rest e gs (Below _ _ _ h) =
      ⊎_elim (λ a. framed_is p p (StructItem tag gs) a)
      (λ a. ⊎_elim (λ b. absurd (let none = ok.unmarked (StructItem tag gs) b in let z : true ≡ false = sym (marked_has f rest) ∙ sym (ap has_marks e) ∙ none in cc))
      (λ b. boxed_is p p (StructItem tag gs) b) (struct_behind p (routines p) tag gs a))
      (has_either (StructItem tag gs) (all_structs p (routines p)) (behind_structs p (routines p)) h)

  -- it is there once, where some struct is made
  is_there : (tag : Text) (fs : List Variable) (f rest : Text) (x : Item) → Has x (all_structs p (routines p)) → tag ≡ marked f rest → Framed p p (StructItem tag fs)
      → Has (StructItem tag fs) (any_frame ∷ (all_structs p (routines p) ++ behind_structs p (routines p))) → ScalarFields fs → IsStruct (converted p) tag fs
  is_there tag fs f rest x some e framed has s =
      subst (λ xs. IsStruct xs tag fs) (sym (with_structs p (routines p) x some))
      (struct_of tag fs (any_frame ∷ (all_structs p (routines p) ++ behind_structs p (routines p))) has
      (λ gs h. let same = framed_once p ok (StructItem tag fs) (StructItem tag gs) framed (framed_in tag f rest e gs h) refl in cc) s)

  among : (f : Function) → IsCps p f → (x : Item) → Has x (structs_of p (routine_of p f)) → Has x (all_structs p (routines p))
  among f c x h = framed_has p p f x c.has c.mode h

  behind_any : (x : Item) → Has x (all_structs p (routines p)) → Has x (any_frame ∷ (all_structs p (routines p) ++ behind_structs p (routines p)))
  behind_any x h = Below _ _ _ (has_left x (all_structs p (routines p)) (behind_structs p (routines p)) h)

  pub any_there : (f : Function) → IsCps p f → IsStruct (converted p) frame_tag (head_fields (TyInt Int) [])
  any_there f c =
      is_there frame_tag (head_fields (TyInt Int) []) (codes "frame") (codes "") (start_struct f) (among f c (start_struct f) (has_start p f)) frame_is AnyFrame (OnTop _ _) (frame_fields (TyInt Int) 0 [] refl (NoneRises 0))

  pub value_there : (f : Function) → IsCps p f → is_scalar f.result ≡ true → IsStruct (converted p) (value_tag f.called) (head_fields f.result [])
  value_there f c s =
      let h = among f c (value_struct f.called f.result) (has_value p f s) in
      is_there (value_tag f.called) (head_fields f.result []) f.called (codes "value") (value_struct f.called f.result) h (value_is f.called) (AValue f c.has c.mode) (behind_any (value_struct f.called f.result) h)
      (frame_fields f.result 0 [] s (NoneRises 0))

  pub start_there : (f : Function) → IsCps p f → IsStruct (converted p) (piece_name f.called Start) (head_fields (TyInt Int) (passed f))
  start_there f c =
      let h = among f c (start_struct f) (has_start p f) in
      is_there (piece_name f.called Start) (head_fields (TyInt Int) (passed f)) f.called (behind Start) (start_struct f) h (piece_is f.called Start) (AStart f c.has c.mode) (behind_any (start_struct f) h)
      (frame_fields (TyInt Int) 0 (passed f) refl (passed_rise p ok f c))

  pub leader_there : (f : Function) → IsCps p f → (n : ℕ) → Has n (routine_of p f).split.leaders
      → IsStruct (converted p) (piece_name f.called (At n)) (head_fields (arriving_type p (routine_of p f) (At n)) (locals_of (routine_of p f) (closure_of (routine_of p f) (At n))))
  leader_there f c n k =
      let r = routine_of p f in
      let h = among f c (leader_struct p r n) (has_leader p f n k) in
      is_there (piece_name f.called (At n)) (head_fields (arriving_type p r (At n)) (locals_of r (closure_of r (At n)))) f.called (behind (At n)) (leader_struct p r n) h (piece_is f.called (At n)) (OfLeader f n c.has c.mode k) (behind_any (leader_struct p r n) h)
      (frame_fields (arriving_type p r (At n)) 0 (locals_of r (closure_of r (At n))) (arriving_scalar p r (At n)) (kept_rises p ok f c (At n)))
