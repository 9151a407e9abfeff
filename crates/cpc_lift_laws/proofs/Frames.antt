-- Stacks whose frames stand at the same points, with slots that agree where they are kept, make the same steps.
use Rattle.std.proofs.Common.{◌≡◌, ℕ, ◌+◌, Bool, true, not, List, [], length, map, Option, Some, None, refl, sym, ◌∙◌, ap, subst, arith}
use Rattle.cpc_base.specs.Bytes.{Text}
use Rattle.cpc_tree.specs.Syntax.{Function, Program}
use Rattle.cpc_tree.specs.Typing.{Scope, function_named}
use Rattle.cpc_tree.specs.Points.{Found}
use Rattle.cpc_tree.specs.Registers.{variables, is_register}
use Rattle.cpc_store.specs.Store.{Value, Store}
use Rattle.cpc_meaning.specs.Answer.{Answer, Gives, Faults, NoAnswer, needed}
use Rattle.cpc_meaning.specs.Eval.{Slot}
use Rattle.cpc_meaning.specs.Slots.{call_slots}
use Rattle.cpc_meaning.specs.Requests.{Request}
use Rattle.cpc_meaning.specs.Act.{Stood, AtStatement, AtArrival, AtEnd, Act, target_of}
use Rattle.cpc_meaning.specs.Plain.{Code, Form, Frame, Stack, stack_of, Done, Went, Returned, Asks, make_frame, returned_to, perform, plain, asking, answered, waiting, running_function}
use Rattle.cpc_meaning.proofs.Both.{Both, Ends, Goes}
use Rattle.cpc_meaning.proofs.Functions.{gives_then, found_again, one_slot_each}
use Rattle.cpc_meaning.proofs.Meeting.{BothAnswer, BothGive, BothFault, BothStick, both_then, same_then, same_known}
use Rattle.cpc_lift_laws.specs.Used.{used_at, used_place}
use Rattle.cpc_lift_laws.specs.Boxes.{Marks}
use Rattle.cpc_lift_laws.specs.Closed.{ClosedIn}
use Rattle.cpc_lift_laws.specs.Lifted.{tidy_slots, tidy_frame}
use Rattle.cpc_lift_laws.proofs.Slots.{SlotsMeet, keep_less, tidy_slots_meet}
use Rattle.cpc_lift_laws.proofs.Kept.{Kept}
use Rattle.cpc_lift_laws.proofs.Acts.{ActsMeet, GoesOnBoth, EntersBoth, LeavesBoth, AsksBoth, act_kept, arrives_kept, place_there}
use Rattle.cpc_lift_laws.proofs.Boxes.{slots_made}
use Rattle.cpc_meaning.proofs.Stacks.{MadeBoth, MadeSame, AnswersMeet, WentBoth, ReturnedBoth, AskedBoth, Replies, DonesMeet, Move, Return, Ask, StacksGo}
use Rattle.cpc_meaning.proofs.Machines.{needed_is}

-- a function of a name, with so many variables
pub record Of (prog : Program) (f : Text) (n : ℕ) : Type 0 where
  pub function : Function
  pub named : function_named prog f ≡ Some function
  pub number : n ≡ length (variables function)

module _ {P : Type 0} (prog : Program) (box : Text → ℕ → Bool) (there : Text → P → Bool) (kept : Text → P → ℕ → Bool) where
  -- the same function and point, and slots of its variables that agree where they are kept there
  pub data FramesAgree : Frame P → Frame P → Type 0 where
    FrameAgrees : (f : Text) (a : P) (xs ys : List Slot) → there f a ≡ true → Of prog f (length xs) → SlotsMeet (kept f a) (box f) xs ys
        → FramesAgree (record { function = f; point = a; slots = xs }) (record { function = f; point = a; slots = ys })

  pub data StacksAgree : Stack P → Stack P → Type 0 where
    StackAgrees : (us ws : List (Frame P)) (o : Option Value) → Both FramesAgree us ws
        → StacksAgree (record { frames = us; arriving = o }) (record { frames = ws; arriving = o })

  -- ---- what is not kept is forgotten

  tidy_frame_agrees : (x y : Frame P) → FramesAgree x y → FramesAgree x (tidy_frame kept y)
  tidy_frame_agrees _ _ (FrameAgrees f a xs ys t n m) = FrameAgrees f a xs (tidy_slots (kept f a) ys) t n (tidy_slots_meet (kept f a) (box f) xs ys m)

  tidy_frames_agree : (us ws : List (Frame P)) → Both FramesAgree us ws → Both FramesAgree us (map (tidy_frame kept) ws)
  tidy_frames_agree _ _ Ends = Ends
  tidy_frames_agree _ _ (Goes x y us ws r rs) = Goes x (tidy_frame kept y) us _ (tidy_frame_agrees x y r) (tidy_frames_agree us ws rs)

  pub tidy_agrees : (k j : Stack P) → StacksAgree k j → StacksAgree k (record j { frames = map (tidy_frame kept) j.frames })
  tidy_agrees _ _ (StackAgrees us ws o rs) = StackAgrees us _ o (tidy_frames_agree us ws rs)

-- what asks is a statement, and the place of its call is kept
asked_place : (keep : ℕ → Bool) (scope : Scope) (st : Stood) (f : Found) → asking st ≡ Some f → Kept keep (used_at scope st) → Kept keep (used_place scope (target_of f))
asked_place keep scope (AtStatement g) f e h = let i : g ≡ f = cc in subst (λ z. Kept keep (used_place scope (target_of z))) i (place_there keep scope g h)
asked_place keep scope (AtArrival g) f e h = absurd (cc)
asked_place keep scope AtEnd f e h = absurd (cc)

module _ {P : Type 0} (prog : Program) (code : Code P) (box : Text → ℕ → Bool) (there : Text → P → Bool) (kept : Text → P → ℕ → Bool) (marks : Marks prog box) (closed : (f : Text) → ClosedIn code f (box f) (there f) (kept f)) where
  abbrev p : Form P
  p = record { program = prog; code = code }

  abbrev Agree : Frame P → Frame P → Type 0
  Agree = FramesAgree prog box there kept

  abbrev Stacks : Stack P → Stack P → Type 0
  Stacks = StacksAgree prog box there kept

  -- ---- a frame that is made

  frame_made : (f : Function) (vs : List Value) (s : Store) (made : Frame P × Store) → function_named prog f.called ≡ Some f → make_frame p f vs s ≡ Gives made → Agree made.0 made.0
  frame_made f vs s made e g =
      let a = gives_then (call_slots prog f vs s) _ made g in
      let i : (record { function = f.called; point = code.first f.called; slots = a.0.0 }, a.0.1) ≡ made = cc in
      subst (λ z. Agree z.0 z.0) i
      (FrameAgrees f.called (code.first f.called) a.0.0 a.0.0 (closed f.called).stands.first
      (record { function = f; named = e; number = one_slot_each prog f 0 (variables f) vs s a.0 a.1 })
      (slots_made prog f 0 (kept f.called (code.first f.called)) (box f.called) (variables f) (λ k x h. marks.marked f e k x h ∙ ap (λ n. not (is_register f n x)) (from_none k)) vs s a.0 a.1))
    where
      from_none : (k : ℕ) → k ≡ 0 + k
      from_none k = omega arith

  -- ---- where an act leads

  -- a frame goes on at another point that keeps no more
  goes_to : (f : Text) (a b : P) (h : Bool) (xs ys : List Slot) → there f a ≡ true → Of prog f (length xs) → code.goes f a h ≡ Some b → SlotsMeet (kept f a) (box f) xs ys
      → Agree (record { function = f; point = b; slots = xs }) (record { function = f; point = b; slots = ys })
  goes_to f a b h xs ys t n e m =
      FrameAgrees f b xs ys ((closed f).stands.goes a b h t e) n (keep_less (kept f a) (kept f b) (box f) (λ k g. (closed f).along a b h k t e g) xs ys m)

  -- or waits there
  waits_at : (f : Text) (a b : P) (xs ys : List Slot) → there f a ≡ true → Of prog f (length xs) → code.arrival f a ≡ Some b → SlotsMeet (kept f a) (box f) xs ys
      → Agree (record { function = f; point = b; slots = xs }) (record { function = f; point = b; slots = ys })
  waits_at f a b xs ys t n e m =
      FrameAgrees f b xs ys ((closed f).stands.arrival a b t e) n (keep_less (kept f a) (kept f b) (box f) (λ k g. (closed f).over a b k t e g) xs ys m)

  module _ (D : Done P → Done P → Type 0) (move : (s : Store) (k j : Stack P) → Stacks k j → D (Went s k) (Went s j)) (gives_back : (v : Value) (s : Store) → D (Returned v s) (Returned v s)) (asks : (r : Request) → D (Asks r) (Asks r)) where
    returns : (v : Value) (s : Store) (us ws : List (Frame P)) → Both Agree us ws → D (returned_to us v s) (returned_to ws v s)
    returns v s _ _ Ends = gives_back v s
    returns v s _ _ (Goes x y us ws r rs) = move s _ _ (StackAgrees _ _ (Some v) (Goes x y us ws r rs))

    performs : (s : Store) (f : Text) (a : P) (xs ys : List Slot) (us ws : List (Frame P)) → there f a ≡ true → Of prog f (length xs) → SlotsMeet (kept f a) (box f) xs ys → Both Agree us ws → (c d : Act) → ActsMeet prog (kept f a) (box f) (length xs) c d
        → BothAnswer D (perform p s (record { function = f; point = a; slots = xs }) us c) (perform p s (record { function = f; point = a; slots = ys }) ws d)
    performs s f a xs ys us ws t n m rs _ _ (GoesOnBoth h st new new' r same) =
        same_known _ _ (needed (code.goes f a h)) λ b e.
        BothGive _ _ (move st _ _ (StackAgrees _ _ None (Goes _ _ us ws (goes_to f a b h new new' t (subst (Of prog f) (sym same) n) (needed_is _ b e) r) rs)))
    performs s f a xs ys us ws t n m rs _ _ (EntersBoth g vs i) =
        same_known _ _ (make_frame p g vs s) λ made e.
        same_known _ _ (needed (code.arrival f a)) λ b k.
        BothGive _ _ (move made.1 _ _ (StackAgrees _ _ None (Goes _ _ _ _ (frame_made g vs s made i e) (Goes _ _ us ws (waits_at f a b xs ys t n (needed_is _ b k) m) rs))))
    performs s f a xs ys us ws t n m rs _ _ (LeavesBoth v st) = BothGive _ _ (returns v st us ws rs)
    performs s f a xs ys us ws t n m rs _ _ (AsksBoth r) = BothGive _ _ (asks r)

  -- ---- requests

  used_there : (f : Text) (a : P) → there f a ≡ true → Kept (kept f a) (used_at (code.scope f a) (code.stood f a))
  used_there f a t k e = (closed f).used a k t e

  answers : (s : Store) (v : Value) (us ws : List (Frame P)) (o : Option Value) → Both Agree us ws
      → BothAnswer (AnswersMeet Stacks) (answered p s (record { frames = us; arriving = o }) v) (answered p s (record { frames = ws; arriving = o }) v)
  answers s v _ _ o Ends = BothStick
  answers s v _ _ o (Goes _ _ us ws (FrameAgrees f a xs ys t size m) rs) =
      same_known _ _ (needed (asking (code.stood f a))) λ g e.
      both_then _ _ _ _ (arrives_kept prog (kept f a) (box f) (code.scope f a) xs ys m s g (Some v) (asked_place (kept f a) (code.scope f a) (code.stood f a) g (needed_is _ g e) (used_there f a t))) λ c d r.
      performs (AnswersMeet Stacks) WentBoth ReturnedBoth AskedBoth s f a xs ys us ws t size m rs c d r

  waits : (us ws : List (Frame P)) (o : Option Value) → Both Agree us ws → BothAnswer Stacks (waiting p (record { frames = us; arriving = o })) (waiting p (record { frames = ws; arriving = o }))
  waits _ _ o Ends = BothStick
  waits _ _ o (Goes _ _ us ws (FrameAgrees f a xs ys t size m) rs) =
      same_known _ _ (needed (code.arrival f a)) λ b e.
      BothGive _ _ (StackAgrees _ _ None (Goes _ _ us ws (waits_at f a b xs ys t size (needed_is _ b e) m) rs))

  replies : (r : Request) (k j : Stack P) → Stacks k j → Replies Stacks p p r k j
  replies r _ _ (StackAgrees us ws o rs) = record { answers = λ h s v. answers s v us ws o rs; waits = λ h. waits us ws o rs }

  -- ---- steps

  steps : (s : Store) (k j : Stack P) → Stacks k j → BothAnswer (DonesMeet Stacks p p k j) (plain p s k) (plain p s j)
  steps s _ _ (StackAgrees _ _ o Ends) = BothStick
  steps s _ _ (StackAgrees _ _ o (Goes x y us ws (FrameAgrees f a xs ys t size m) rs)) =
      let all = StackAgrees _ _ o (Goes _ _ us ws (FrameAgrees f a xs ys t size m) rs) in
      same_then _ _ (needed (function_named prog f)) λ g.
      both_then _ _ _ _ (act_kept prog (kept f a) (box f) (code.scope f a) xs ys m s g.result o (code.stood f a) (used_there f a t) (λ l k b. (closed f).left a k t l b)) λ c d r.
      performs (DonesMeet Stacks p p _ _) Move Return (λ q. Ask q (replies q _ _ all)) s f a xs ys us ws t size m rs c d r

  called : (x : Text) (f : Function) (vs : List Value) (s : Store) → function_named prog x ≡ Some f → BothAnswer (MadeBoth Stacks) (make_frame p f vs s) (make_frame p f vs s)
  called x f vs s e =
      made_twice (make_frame p f vs s) λ made i. StackAgrees _ _ None (Goes _ _ [] [] (frame_made f vs s made (found_again prog x f e) i) Ends)
    where
      made_twice : (a : Answer (Frame P × Store)) → ((made : Frame P × Store) → a ≡ Gives made → Stacks (stack_of made.0) (stack_of made.0)) → BothAnswer (MadeBoth Stacks) a a
      made_twice (Gives made) h = BothGive _ _ (MadeSame made.0 made.0 made.1 (h made refl))
      made_twice (Faults fault) h = BothFault fault
      made_twice NoAnswer h = BothStick

  named : (k j : Stack P) → Stacks k j → running_function k ≡ running_function j
  named _ _ (StackAgrees _ _ o Ends) = refl
  named _ _ (StackAgrees _ _ o (Goes _ _ us ws (FrameAgrees f a xs ys t size m) rs)) = refl

  arrives : (k j : Stack P) (v : Value) → Stacks k j → Stacks (record k { arriving = Some v }) (record j { arriving = Some v })
  arrives _ _ v (StackAgrees us ws o rs) = StackAgrees us ws (Some v) rs

  -- all that is done to stacks keeps them agreeing; sections are the same
  pub stacks_go : StacksGo Stacks prog code code
  stacks_go = record { named = named; arrives = arrives; called = called; steps = steps; collects = λ bound jobs ns s. refl }
