-- The row in which a native `main` is called: it begins in both, with the same variables.
use Rattle.std.proofs.Common.{◌≡◌, ℕ, List, [], ◌∷◌, Option, Some, None, option_map, refl, sym, subst, arith}
use Rattle.cpc_base.specs.Bytes.{Text}
use Rattle.cpc_store.specs.Store.{Store}
use Rattle.cpc_tree.specs.Syntax.{Function}
use Rattle.cpc_tree.specs.Registers.{variables}
use Rattle.cpc_tree.specs.Points.{Point}
use Rattle.cpc_tree.specs.Typing.{function_named}
use Rattle.cpc_meaning.specs.Answer.{Answer, Gives, ◌>>=◌, needed}
use Rattle.cpc_meaning.specs.Agenda.{new_agenda, begin_round}
use Rattle.cpc_meaning.specs.Eval.{Slot}
use Rattle.cpc_meaning.specs.Slots.{make_slots}
use Rattle.cpc_meaning.specs.Machine.{next}
use Rattle.cpc_meaning.specs.Plain.{Frame as CallFrame}
use Rattle.cpc_meaning.specs.Start.{main_name}
use Rattle.cpc_meaning.specs.Threads.{Pending, threads_of}
use Rattle.cpc_meaning.specs.Events.{CallMain}
use Rattle.cpc_meaning.proofs.Both as B
use Rattle.cpc_forms.specs.Split.{Position}
use Rattle.cpc_lift_laws.specs.Lifted.{tidy}
use Rattle.cpc_convert_image_laws.specs.Held.{IsHeldStore, beside}
use Rattle.cpc_convert_image_laws.specs.Relations.{Found, BothFound, NoneFound, Meets, BothGive, BothFault, Stuck, Entered, SlotsMade}
use Rattle.cpc_convert_image_laws.specs.Stacks.{frame_of, NoMore, OneMore, EntersAlike}
use Rattle.cpc_convert_image_laws.proofs.Entering.{slots_beside}
use Rattle.cpc_convert_flat_laws.specs.Blocks.{Owns}
use Rattle.cpc_chains_laws.specs.Related.Running.{SamePoint, Bottom, NativeRuns}
use Rattle.cpc_chains_laws.proofs.Related.Relation.{Source, Target, Shared, AgendaFor, going, source_state, target_state, with_main, Related, MainIsNext, Goes}
use Rattle.cpc_chains_laws.proofs.Related.Setting.{Setting, from_form, to_form, NativeFacts, KeepsFacts}
use Rattle.cpc_chains_laws.proofs.Related.Rows.{RowFor, BothTo, settled_alike, one_step}

-- the call of `main` is put into the first round
pub first_row : {k : ℕ} (z : Setting) → NativeFacts z → KeepsFacts z → (w : Shared) (x' : Source) → option_map (tidy z.kept) (next (threads_of (from_form z)) (source_state w None (with_main (Pending main_name [])))) ≡ Some x'
    → RowFor z k (source_state w None (with_main (Pending main_name []))) x' 1 (target_state w [] None (with_main CallMain))
first_row z native keeps w x' e =
    one_step z native keeps (source_state w None (with_main (Pending main_name []))) x' (target_state w [] None (with_main CallMain)) _ _ (BothTo _ _ (MainIsNext w)) e refl

-- the first frame, once its variables are made
abbrev pub framed : {P : Type 0} → Text → P → List Slot × Store → Answer (CallFrame P × Store)
framed f point r = Gives (frame_of f point r.0, r.1)

module _ (z : Setting) (native : NativeFacts z) (keeps : KeepsFacts z) (w : Shared) (source : IsHeldStore z.codes w.store) where
  abbrev Steps : Answer Source → Answer Target → Type 0
  Steps = Meets (Related z.codes z.cut z.there)

  nothing_waits : AgendaFor z.cut [] new_agenda new_agenda new_agenda
  nothing_waits = record {
    items = record { ready = B.Ends; round = B.Ends; waiters = B.Ends; descriptors = B.Ends; timers = B.Ends; sections = B.Ends; live = refl; now = refl; conditions_made = refl; timers_made = refl; sections_made = refl };
    untagged = record { ready = B.Ends; round = B.Ends; waiters = B.Ends; descriptors = B.Ends; timers = B.Ends; sections = B.Ends; live = refl; now = refl; conditions_made = refl; timers_made = refl; sections_made = refl };
  }

  nothing_owned : Owns [] []
  nothing_owned = record { each = λ b. refl }

  abbrev runs_here : CallFrame Position × Store → Answer Source
  runs_here r = Gives (source_state (record w { store = r.1 }) (Some (record { frames = r.0 ∷ []; arriving = None })) new_agenda)

  abbrev runs_there : CallFrame Point × Store → Answer Target
  runs_there r = Gives (going w r.1 (Some (record { frames = r.0 ∷ []; arriving = None })) new_agenda)

  begins : (f : Text) (a : Position) (b : Point) → SamePoint z.cut f a b → (u v : Answer (List Slot × Store)) → Meets (Entered z.codes []) u v → Steps ((u >>= framed f a) >>= runs_here) ((v >>= framed f b) >>= runs_there)
  begins f a b same _ _ (BothGive _ _ (SlotsMade t slots h l)) =
      BothGive _ _ (Goes (record w { store = t }) [] _ _ [] new_agenda new_agenda new_agenda (NativeRuns _ _ None [] (OneMore f a b slots [] [] same l (NoMore [] [] Bottom)) tt) nothing_waits nothing_owned tt)
  begins f a b same _ _ (BothFault fault) = BothFault fault
  begins f a b same _ _ (Stuck v) = Stuck _

  found : (u v : Option Function) → Found z.pairs u v
      → Steps (needed u >>= λ g. (make_slots z.source g 0 (variables g) [] w.store >>= framed g.called ((from_form z).code.first g.called)) >>= runs_here)
      (needed v >>= λ g. (make_slots z.target g 0 (variables g) [] (beside [] w.store) >>= framed g.called ((to_form z).code.first g.called)) >>= runs_there)
  found _ _ NoneFound = Stuck _
  found _ _ (BothFound g g' i j) = go (native.enters g g' i)
    where
      go : EntersAlike (SamePoint z.cut) (from_form z) (to_form z) g g' → Steps ((make_slots z.source g 0 (variables g) [] w.store >>= framed g.called ((from_form z).code.first g.called)) >>= runs_here) ((make_slots z.target g' 0 (variables g') [] (beside [] w.store) >>= framed g'.called ((to_form z).code.first g'.called)) >>= runs_there)
      go e =
          subst (λ y. Steps ((make_slots z.source g 0 (variables g) [] w.store >>= framed g.called ((from_form z).code.first g.called)) >>= runs_here) ((make_slots z.target g' 0 (variables g') [] (beside [] w.store) >>= framed y ((to_form z).code.first y)) >>= runs_there)) e.called
          (subst (λ xs. Steps ((make_slots z.source g 0 (variables g) [] w.store >>= framed g.called ((from_form z).code.first g.called)) >>= runs_here) ((make_slots z.target g' 0 xs [] (beside [] w.store) >>= framed g.called ((to_form z).code.first g.called)) >>= runs_there)) e.variables
          (begins g.called _ _ e.first _ _ (slots_beside z.codes z.source z.target native.common.types g g' e.marks [] 0 (variables g) [] w.store source (λ k d lt. absurd (omega arith)))))

  -- `main`, where it is native, is called in both
  pub main_row : {k : ℕ} → Found z.pairs (function_named z.source main_name) (function_named z.target main_name) → (x' : Source)
      → option_map (tidy z.kept) (next (threads_of (from_form z)) (source_state w None (begin_round (with_main (Pending main_name []))))) ≡ Some x'
      → RowFor z k (source_state w None (begin_round (with_main (Pending main_name [])))) x' 1 (target_state w [] None (begin_round (with_main CallMain)))
  main_row h x' e =
      one_step z native keeps (source_state w None (begin_round (with_main (Pending main_name [])))) x' (target_state w [] None (begin_round (with_main CallMain))) _ _
      (settled_alike z (source_state w None (begin_round (with_main (Pending main_name [])))) (target_state w [] None (begin_round (with_main CallMain))) refl (sym native.nobody) _ _ (found _ _ h)) e refl
