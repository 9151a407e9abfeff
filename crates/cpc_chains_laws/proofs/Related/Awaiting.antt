-- A thread that waits: what its primitives come to, and how the agendas of both take it.
use Rattle.std.proofs.Common.{◌≡◌, ℕ, ◌+◌, false, List, [], ◌∷◌, Option, Some, None, Ok, refl, ap, arith}
use Rattle.cpc_store.specs.Store.{Value, Unset, Null, Whole, At as Pointer, Code, Cond}
use Rattle.cpc_meaning.specs.Agenda.{Agenda, ready_one, io}
use Rattle.cpc_meaning.specs.Answer.{Answer, NoAnswer, ◌>>=◌}
use Rattle.cpc_meaning.specs.Machine.{State, primitive}
use Rattle.cpc_meaning.specs.Plain.{Form, Stack, waiting}
use Rattle.cpc_meaning.specs.Requests.{Primitive, Print, Putc, Puts, Now, CondNew, CondFree, Signal, SignalAll, Exit, Malloc, Free, Yield, Sleep, IoWait, Wait}
use Rattle.cpc_meaning.specs.Threads.{Thread, Suspended, suspends, threads_of}
use Rattle.cpc_meaning.proofs.Agendas.{SameAgenda, SameResult, BothOk, readies_all, ios, waits, slept}
use Rattle.cpc_meaning.proofs.Both as B
use Rattle.cpc_lifted_laws.specs.Related.Sums.{total}
use Rattle.cpc_chains_laws.specs.Related.Waits.{Awaited, ATurn, ATime, ADescriptor, ACondition, awaited, put_waiting, wait_marks}
use Rattle.cpc_chains_laws.proofs.Related.Setting.{is_common}
use Rattle.cpc_lifted_laws.proofs.Related.Sums.{total_ready, total_io, total_sleep, total_wait}

-- ---- the primitives of threads

module _ {P : Type 0} (p : Form P) (k : Stack P) (s : State P (Thread P)) where
  -- the running thread waits, if for something
  abbrev pub waits_by : Option Awaited → Answer (State P (Thread P))
  waits_by None = NoAnswer
  waits_by (Some q) = waiting p k >>= λ j. suspends (record s { trace = wait_marks q s.trace }) (put_waiting q (Suspended j) s.agenda)

  pub primitive_waits : (prim : Primitive) (vs : List Value) → is_common prim ≡ false → primitive (threads_of p) prim vs k s ≡ waits_by (awaited prim vs)
  primitive_waits Print vs e = absurd (cc)
  primitive_waits Putc vs e = absurd (cc)
  primitive_waits Puts vs e = absurd (cc)
  primitive_waits Now vs e = absurd (cc)
  primitive_waits CondNew vs e = absurd (cc)
  primitive_waits CondFree vs e = absurd (cc)
  primitive_waits Signal vs e = absurd (cc)
  primitive_waits SignalAll vs e = absurd (cc)
  primitive_waits Exit vs e = absurd (cc)
  primitive_waits Malloc vs e = absurd (cc)
  primitive_waits Free vs e = absurd (cc)
  primitive_waits Yield [] e = refl
  primitive_waits Yield (v ∷ vs) e = refl
  primitive_waits Sleep [] e = refl
  primitive_waits Sleep (Whole kind z ∷ []) e = refl
  primitive_waits Sleep (Unset ∷ []) e = refl
  primitive_waits Sleep (Null ∷ []) e = refl
  primitive_waits Sleep (Pointer c n j ∷ []) e = refl
  primitive_waits Sleep (Code f ∷ []) e = refl
  primitive_waits Sleep (Cond c ∷ []) e = refl
  primitive_waits Sleep (Unset ∷ u ∷ vs) e = refl
  primitive_waits Sleep (Null ∷ u ∷ vs) e = refl
  primitive_waits Sleep (Whole kind z ∷ u ∷ vs) e = refl
  primitive_waits Sleep (Pointer c n j ∷ u ∷ vs) e = refl
  primitive_waits Sleep (Code f ∷ u ∷ vs) e = refl
  primitive_waits Sleep (Cond c ∷ u ∷ vs) e = refl
  primitive_waits IoWait [] e = refl
  primitive_waits IoWait (Unset ∷ []) e = refl
  primitive_waits IoWait (Null ∷ []) e = refl
  primitive_waits IoWait (Whole kind z ∷ []) e = refl
  primitive_waits IoWait (Pointer c n j ∷ []) e = refl
  primitive_waits IoWait (Code f ∷ []) e = refl
  primitive_waits IoWait (Cond c ∷ []) e = refl
  primitive_waits IoWait (Whole kind z ∷ Whole other y ∷ []) e = refl
  primitive_waits IoWait (Whole kind z ∷ Unset ∷ []) e = refl
  primitive_waits IoWait (Whole kind z ∷ Null ∷ []) e = refl
  primitive_waits IoWait (Whole kind z ∷ Pointer c n j ∷ []) e = refl
  primitive_waits IoWait (Whole kind z ∷ Code f ∷ []) e = refl
  primitive_waits IoWait (Whole kind z ∷ Cond c ∷ []) e = refl
  primitive_waits IoWait (Unset ∷ u ∷ []) e = refl
  primitive_waits IoWait (Null ∷ u ∷ []) e = refl
  primitive_waits IoWait (Pointer c n j ∷ u ∷ []) e = refl
  primitive_waits IoWait (Code f ∷ u ∷ []) e = refl
  primitive_waits IoWait (Cond c ∷ u ∷ []) e = refl
  primitive_waits IoWait (Unset ∷ u ∷ x ∷ vs) e = refl
  primitive_waits IoWait (Null ∷ u ∷ x ∷ vs) e = refl
  primitive_waits IoWait (Whole kind z ∷ Unset ∷ x ∷ vs) e = refl
  primitive_waits IoWait (Whole kind z ∷ Null ∷ x ∷ vs) e = refl
  primitive_waits IoWait (Whole kind z ∷ Whole other y ∷ x ∷ vs) e = refl
  primitive_waits IoWait (Whole kind z ∷ Pointer c n j ∷ x ∷ vs) e = refl
  primitive_waits IoWait (Whole kind z ∷ Code f ∷ x ∷ vs) e = refl
  primitive_waits IoWait (Whole kind z ∷ Cond c ∷ x ∷ vs) e = refl
  primitive_waits IoWait (Pointer c n j ∷ u ∷ x ∷ vs) e = refl
  primitive_waits IoWait (Code f ∷ u ∷ x ∷ vs) e = refl
  primitive_waits IoWait (Cond c ∷ u ∷ x ∷ vs) e = refl
  primitive_waits Wait [] e = refl
  primitive_waits Wait (Cond c ∷ []) e = refl
  primitive_waits Wait (Unset ∷ []) e = refl
  primitive_waits Wait (Null ∷ []) e = refl
  primitive_waits Wait (Whole kind z ∷ []) e = refl
  primitive_waits Wait (Pointer c n j ∷ []) e = refl
  primitive_waits Wait (Code f ∷ []) e = refl
  primitive_waits Wait (Unset ∷ u ∷ vs) e = refl
  primitive_waits Wait (Null ∷ u ∷ vs) e = refl
  primitive_waits Wait (Whole kind z ∷ u ∷ vs) e = refl
  primitive_waits Wait (Pointer c n j ∷ u ∷ vs) e = refl
  primitive_waits Wait (Code f ∷ u ∷ vs) e = refl
  primitive_waits Wait (Cond c ∷ u ∷ vs) e = refl
  primitive_waits prim vs e = refl

-- ---- agendas

module _ {T U : Type 0} (R : T → U → Type 0) where
  -- two items wait alike
  pub put_same : (q : Awaited) (x : T) (y : U) (a : Agenda T) (b : Agenda U) → R x y → SameAgenda R a b → SameResult R (put_waiting q x a) (put_waiting q y b)
  put_same ATurn x y a b r g = BothOk _ _ (readies_all R (x ∷ []) (y ∷ []) a b (B.Goes x y [] [] r B.Ends) g)
  put_same (ATime z) x y a b r g = slept R z x y a b r g
  put_same (ADescriptor fd way) x y a b r g = BothOk _ _ (ios R fd way x y a b r g)
  put_same (ACondition c) x y a b r g = waits R c x y a b r g

-- and the items weigh as much more as the one that waits
pub total_put : {T : Type 0} (w : T → ℕ) (q : Awaited) (x : T) (a d : Agenda T) → put_waiting q x a ≡ Ok d → total w d ≡ w x + total w a
total_put w ATurn x a d e = let h = total_ready w (x ∷ []) a in let i : ready_one x a ≡ d = cc in let j = ap (total w) i in omega (arith, h, j)
total_put w (ATime z) x a d e = total_sleep w z x a d e
total_put w (ADescriptor fd way) x a d e = let h = total_io w fd way x a in let i : io fd way x a ≡ d = cc in let j = ap (total w) i in omega (arith, h, j)
total_put w (ACondition c) x a d e = total_wait w c x a d e
