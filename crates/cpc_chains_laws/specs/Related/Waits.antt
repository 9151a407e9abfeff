-- What a thread waits for, apart from sections: how the agenda takes its item, and the mark that it leaves.
use Rattle.std.specs.Prelude.{ℕ, ℤ, List, [], ◌∷◌, ◌++◌, Option, Some, None, Result, Ok}
use Rattle.cpc_base.specs.declared.poll.Direction.{Direction}
use Rattle.cpc_num.specs.declared.kinds.Fault.{Fault}
use Rattle.cpc_tree.specs.Trace.{Mark, Sleeping, Waiting, Awaiting}
use Rattle.cpc_store.specs.Store.{Value, Whole, Cond}
use Rattle.cpc_meaning.specs.Agenda.{Agenda, ready_one, wait, sleep, io}
use Rattle.cpc_meaning.specs.Machine.{direction_of}
use Rattle.cpc_meaning.specs.Requests.{Primitive, Yield, Sleep, IoWait, Wait}

-- for its turn, for a time, for a descriptor, or on a condition
pub data Awaited : Type 0 where
  ATurn : Awaited
  ATime : ℤ → Awaited
  ADescriptor : ℤ → Direction → Awaited
  ACondition : ℕ → Awaited

-- for what a primitive with these arguments waits
abbrev pub awaited : Primitive → List Value → Option Awaited
awaited Yield [] = Some ATurn
awaited Sleep (Whole kind z ∷ []) = Some (ATime z)
awaited IoWait (Whole kind z ∷ Whole other y ∷ []) = Some (ADescriptor z (direction_of y))
awaited Wait (Cond c ∷ []) = Some (ACondition c)
awaited prim vs = None

-- the item waits
abbrev pub put_waiting : {T : Type 0} → Awaited → T → Agenda T → Result (Agenda T) Fault
put_waiting ATurn item a = Ok (ready_one item a)
put_waiting (ATime z) item a = sleep z item a
put_waiting (ADescriptor fd way) item a = Ok (io fd way item a)
put_waiting (ACondition c) item a = wait c item a

-- the mark that is left, if any
abbrev pub wait_marks : Awaited → List Mark → List Mark
wait_marks ATurn trace = trace
wait_marks (ATime z) trace = trace ++ Sleeping z ∷ []
wait_marks (ADescriptor fd way) trace = trace ++ Awaiting fd way ∷ []
wait_marks (ACondition c) trace = trace ++ Waiting c ∷ []
