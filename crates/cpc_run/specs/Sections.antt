-- A section that is submitted in the step that asks.
use Rattle.std.specs.Prelude.{List}
use Rattle.cpc_base.specs.Bytes.{Text}
use Rattle.cpc_store.specs.Store.{Value, Unset}
use Rattle.cpc_meaning.specs.Answer.{Answer, ◌>>=◌}
use Rattle.cpc_meaning.specs.Events.{Callback}
use Rattle.cpc_meaning.specs.Machine.{State, reply, submits}
use Rattle.cpc_meaning.specs.Plain.{Form, Stack}

-- a section of a function waits with its item, and the code that asked goes on
abbrev pub submitted : {P : Type 0} → Form P → Text → List Value → Callback → Stack P → State P Callback → Answer (State P Callback)
submitted p f vs item k s = do
  t ← submits p f vs item s
  reply p k Unset t
