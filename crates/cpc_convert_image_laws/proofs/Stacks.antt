-- A step of native code over stacks that stand for each other.
use Rattle.std.proofs.Common.{◌≡◌, Bool, List, [], ◌∷◌, Option, Some, None, slice_set, refl, sym, ◌∙◌, ap, subst}
use Rattle.std.specs.List.{All}
use Rattle.cpc_base.specs.Bytes.{Text}
use Rattle.cpc_tree.specs.Lists.{is_empty}
use Rattle.cpc_tree.specs.Syntax.{Ty, Variable, Function}
use Rattle.cpc_tree.specs.Points.{Found as Standing}
use Rattle.cpc_tree.specs.Registers.{variables}
use Rattle.cpc_tree.specs.Typing.{function_named}
use Rattle.cpc_store.specs.Store.{Value, Store, Blocks}
use Rattle.cpc_meaning.specs.Answer.{Answer, Gives, ◌>>=◌, needed}
use Rattle.cpc_meaning.specs.Eval.{Slot, Register}
use Rattle.cpc_meaning.specs.Slots.{make_slots}
use Rattle.cpc_meaning.specs.Act.{Stood, AtStatement, AtArrival, AtEnd, Act, Enters, act, arrives}
use Rattle.cpc_meaning.specs.Plain.{Form, Frame, Done, Went, moved_to, returned_to, perform, context, frames_step, frames_answered, asking}
use Rattle.cpc_meaning.proofs.SameValues.{at}
use Rattle.cpc_convert_image_laws.specs.Held.{IsHeld, IsHeldSlot, IsHeldStore, beside}
use Rattle.cpc_convert_image_laws.specs.Relations.{Common, Found, BothFound, NoneFound, Meets, BothGive, BothFault, Stuck, Changed, NoneChanged, BothChanged, SameAct, BothGo, BothEnter, BothLeave, BothAsk, Entered, SlotsMade}
use Rattle.cpc_meaning.specs.Names.{AllNamesStood}
use Rattle.cpc_convert_image_laws.specs.Native.{IsSelf, IsHeldIf, IsArrival}
use Rattle.cpc_convert_image_laws.specs.Stacks.{frame_of, Native, NoMore, OneMore, Onwards, BothGoTo, GoesNowhere, EntersAlike, NativePoint, DoneAlike, BothWent, BothReturned, BothAsked}
use Rattle.cpc_convert_image_laws.proofs.Answers.{meets_then}
use Rattle.cpc_convert_image_laws.proofs.Entering.{slots_beside}
use Rattle.cpc_convert_image_laws.proofs.Natives.{native_act, native_arrives}

-- the same slot is changed alike
self_changed : (xs ys a b : List Slot) → xs ≡ ys → Changed IsSelf xs ys a b → a ≡ b
self_changed _ _ _ _ e NoneChanged = e
self_changed xs ys _ _ e (BothChanged k k' t u v w i g g' f) = ap (λ n. slice_set xs n (Register w)) i ∙ ap (λ zs. slice_set zs k' (Register w)) e

module _ {A B : Type 0} (C : Text → Type 0) (R : Function → Function → Type 0) (Pos : Text → A → B → Type 0) (Below : List (Frame A) → List (Frame B) → Type 0) (ends : (xs : List (Frame A)) (ys : List (Frame B)) → Below xs ys → is_empty xs ≡ is_empty ys) (p : Form A) (q : Form B) (common : Common C R p.program q.program) (enters : (f g : Function) → R f g → EntersAlike Pos p q f g) (frames : Blocks) where
  abbrev BothDone : Answer (Done A) → Answer (Done B) → Type 0
  BothDone a b = Meets (DoneAlike C Pos Below frames) a b

  abbrev Stacks : List (Frame A) → List (Frame B) → Type 0
  Stacks xs ys = Native C Pos Below xs ys

  -- both stacks are empty, or none is
  both_end : (xs : List (Frame A)) (ys : List (Frame B)) → Stacks xs ys → is_empty xs ≡ is_empty ys
  both_end _ _ (NoMore xs ys h) = ends xs ys h
  both_end _ _ (OneMore f a b slots xs ys h i k) = refl

  -- a value is returned to the frames below
  returns_alike : (xs : List (Frame A)) (ys : List (Frame B)) (v : Value) (t : Store) → IsHeldStore C t → IsHeld C v → Stacks xs ys → DoneAlike C Pos Below frames (returned_to xs v t) (returned_to ys v (beside frames t))
  returns_alike xs ys v t h i k = go xs ys (both_end xs ys k) k
    where
      go : (xs : List (Frame A)) (ys : List (Frame B)) → is_empty xs ≡ is_empty ys → Stacks xs ys → DoneAlike C Pos Below frames (returned_to xs v t) (returned_to ys v (beside frames t))
      go [] [] e k = BothReturned v t h i
      go (x ∷ xs) (y ∷ ys) e k = BothWent t (x ∷ xs) (y ∷ ys) (Some v) h i k
      go [] (y ∷ ys) e k = absurd (cc)
      go (x ∷ xs) [] e k = absurd (cc)

  module _ (s : Store) (source : IsHeldStore C s) (f : Text) (a : A) (b : B) (slots : List Slot) (xs : List (Frame A)) (ys : List (Frame B)) (held : All (IsHeldSlot C) slots) (below : Stacks xs ys) where
    abbrev one : Frame A
    one = frame_of f a slots

    abbrev other : Frame B
    other = frame_of f b slots

    -- control goes on
    goes_alike : (o : Option A) (u : Option B) (t : Store) (zs ws : List Slot) → Onwards (Pos f) o u → IsHeldStore C t → All (IsHeldSlot C) zs → zs ≡ ws
        → BothDone (needed o >>= λ next. Gives (Went t (record { frames = frame_of f next zs ∷ xs; arriving = None }))) (needed u >>= λ next. Gives (Went (beside frames t) (record { frames = frame_of f next ws ∷ ys; arriving = None })))
    goes_alike _ _ t zs ws (BothGoTo c d h) i k e =
        subst (λ vs. BothDone (Gives (Went t (record { frames = frame_of f c zs ∷ xs; arriving = None }))) (Gives (Went (beside frames t) (record { frames = frame_of f d vs ∷ ys; arriving = None })))) e
        (BothGive _ _ (BothWent t _ _ None i tt (OneMore f c d zs xs ys h k below)))
    goes_alike _ _ t zs ws (GoesNowhere u) i k e = Stuck _

    -- the frame of a call, and the frame that calls, which waits at an arrival
    abbrev framed : Text → A → List Slot × Store → Answer (Frame A × Store)
    framed x c r = Gives (frame_of x c r.0, r.1)

    abbrev framed_there : Text → B → List Slot × Store → Answer (Frame B × Store)
    framed_there x c r = Gives (frame_of x c r.0, r.1)

    abbrev waits : Option A → Frame A × Store → Answer (Done A)
    waits o r = needed o >>= λ back. Gives (Went r.1 (record { frames = r.0 ∷ moved_to one back ∷ xs; arriving = None }))

    abbrev waits_there : Option B → Frame B × Store → Answer (Done B)
    waits_there o r = needed o >>= λ back. Gives (Went r.1 (record { frames = r.0 ∷ moved_to other back ∷ ys; arriving = None }))

    -- a function is entered
    enters_alike : (x : Text) (c : A) (d : B) (o : Option A) (u : Option B) → Pos x c d → Onwards (Pos f) o u → (m n : Answer (List Slot × Store)) → Meets (Entered C frames) m n
        → BothDone ((m >>= framed x c) >>= waits o) ((n >>= framed_there x d) >>= waits_there u)
    enters_alike x c d _ _ h (BothGoTo i j k) _ _ (BothGive _ _ (SlotsMade t zs l m)) = BothGive _ _ (BothWent t _ _ None l tt (OneMore x c d zs _ _ h m (OneMore f i j slots xs ys k held below)))
    enters_alike x c d _ _ h (GoesNowhere u) _ _ (BothGive _ _ (SlotsMade t zs l m)) = Stuck _
    enters_alike x c d o u h i _ _ (BothFault fault) = BothFault fault
    enters_alike x c d o u h i _ _ (Stuck n) = Stuck _

    -- where an act leads
    performs : ((h : Bool) → Onwards (Pos f) (p.code.goes f a h) (q.code.goes f b h)) → Onwards (Pos f) (p.code.arrival f a) (q.code.arrival f b) → (x y : Act) → SameAct C R IsSelf frames slots slots x y
        → BothDone (perform p s one xs x) (perform q (beside frames s) other ys y)
    performs goes back _ _ (BothGo h t zs ws i k c) = goes_alike (p.code.goes f a h) (q.code.goes f b h) t zs ws (goes h) i k (self_changed slots slots zs ws refl c)
    performs goes back _ _ (BothEnter g g' vs h i k) = go (enters g g' h)
      where
        go : EntersAlike Pos p q g g' → BothDone (perform p s one xs (Enters g vs)) (perform q (beside frames s) other ys (Enters g' vs))
        go e =
            subst (λ y. BothDone (perform p s one xs (Enters g vs)) (entered y (variables g'))) e.called
            (subst (λ zs. BothDone (perform p s one xs (Enters g vs)) (entered g.called zs)) e.variables
            (enters_alike g.called _ _ (p.code.arrival f a) (q.code.arrival f b) e.first back _ _ (slots_beside C p.program q.program common.types g g' e.marks frames 0 (variables g) vs s source k)))
          where
            entered : Text → List Variable → Answer (Done B)
            entered y zs = (make_slots q.program g' 0 zs vs (beside frames s) >>= framed_there y (q.code.first y)) >>= waits_there (q.code.arrival f b)
    performs goes back _ _ (BothLeave v t h i) = BothGive _ _ (returns_alike xs ys v t h i below)
    performs goes back _ _ (BothAsk r h) = BothGive _ _ (BothAsked r h)

    -- a step of native code
    pub native_step : (L : Text → Type 0) (o : Option Value) → NativePoint C R Pos L p q s f a b slots → IsHeldIf C o → BothDone (frames_step p s o (one ∷ xs)) (frames_step q (beside frames s) o (other ∷ ys))
    native_step L o n h = stepped (function_named p.program f) (function_named q.program f) n.function
      where
        acts : (result : Ty) → Meets (SameAct C R IsSelf frames slots slots) (act (context p s one) result o (p.code.stood f a)) (act (context q (beside frames s) other) result o (q.code.stood f b))
        acts result =
            rw (sym n.scope, sym n.stood)
            (native_act C R p.program q.program common L (p.code.scope f a) slots n.names s source held frames result o (p.code.stood f a) n.native h n.all_names)

        stepped : (g g' : Option Function) → Found R g g' → BothDone (needed g >>= λ g. act (context p s one) g.result o (p.code.stood f a) >>= perform p s one xs) (needed g' >>= λ g. act (context q (beside frames s) other) g.result o (q.code.stood f b) >>= perform q (beside frames s) other ys)
        stepped _ _ (BothFound g g' i j) =
            rw (sym j.result)
            (meets_then (SameAct C R IsSelf frames slots slots) (DoneAlike C Pos Below frames) _ _ _ _ (acts g.result) (performs n.goes n.arrival))
        stepped _ _ NoneFound = Stuck _

    -- the answer to what native code asks
    pub native_answered : (L : Text → Type 0) (v : Value) → NativePoint C R Pos L p q s f a b slots → ((g : Standing) → asking (p.code.stood f a) ≡ Some g → IsArrival (context p s one) g) → IsHeld C v
        → BothDone (frames_answered p s v (one ∷ xs)) (frames_answered q (beside frames s) v (other ∷ ys))
    native_answered L v n written h =
        rw (sym n.scope, sym n.stood)
        (asked (p.code.stood f a) written n.all_names)
      where
        asked : (st : Stood) → ((g : Standing) → asking st ≡ Some g → IsArrival (context p s one) g) → AllNamesStood L st
            → BothDone (needed (asking st) >>= λ g. arrives (context p s one) g (Some v) >>= perform p s one xs) (needed (asking st) >>= λ g. arrives (at q.program (p.code.scope f a) slots (beside frames s)) g (Some v) >>= perform q (beside frames s) other ys)
        asked (AtStatement g) i l =
            meets_then (SameAct C R IsSelf frames slots slots) (DoneAlike C Pos Below frames) _ _ _ _
            (native_arrives C R p.program q.program common L (p.code.scope f a) slots n.names s source held frames g (Some v) (i g refl) h l) (performs n.goes n.arrival)
        asked (AtArrival g) i l = Stuck _
        asked AtEnd i l = Stuck _
