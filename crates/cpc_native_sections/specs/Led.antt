-- What a step of a section in code leads to, against the definition.
use Rattle.std.specs.Prelude.{ℕ, Bool, Option, Some, None}
use Rattle.cpc_base.specs.Bytes.{Text}
use Rattle.cpc_tree.specs.Erase.{Names}
use Rattle.cpc_tree.specs.Points.{Point}
use Rattle.cpc_store.specs.Store.{Store, Value}
use Rattle.cpc_meaning.specs.Answer.{◌>>=◌}
use Rattle.cpc_meaning.specs.Plain.{Stack, plain, answered, running_function}
use Rattle.cpc_meaning.specs.Requests.{Request}
use Rattle.cpc_meaning.specs.Section as M
use Rattle.cpc_meaning.specs.Trees.{trees}
use Rattle.cpc_eval_values.specs.Shown.{store_of}
use Rattle.cpc_eval_index.specs.Indexed.{items_of}
use Rattle.cpc_native.specs.declared.machine.Machine.{Machine}
use Rattle.cpc_native.specs.Stacks.{stack_of}
use Rattle.cpc_native.specs.Runs.{Runs}
use Rattle.cpc_native.specs.Well.{IsWell}
use Rattle.cpc_sections.specs.Jobs.{EndsAs}
use Rattle.cpc_sections.specs.declared.job.SectionEnd.{SectionEnd}

-- what the rest of a section comes to, by the store and the stack from which it goes on
abbrev pub Rest : Type 0
Rest = Store → Stack Point → M.SectionEnd

-- the code has the end that the definition gives; or it goes on in a machine, and the end of the rest is that of the whole
abbrev pub LeadsTo : Names → (new : Machine) → Option SectionEnd → (whole : Rest → M.SectionEnd) → Type 0
LeadsTo names new (Some end) whole = (rest : Rest) → EndsAs names end (whole rest)
LeadsTo names new None whole = (rest : Rest) (end : SectionEnd) → EndsAs names end (rest (store_of names new.store) (stack_of names new)) → EndsAs names end (whole rest)

-- what a section comes to whose machine makes a step
abbrev pub step_of : Names → Machine → (function : Text) → (no_copy : Bool) → Rest → M.SectionEnd
step_of names m f no_copy rest =
    M.section_next rest f no_copy (running_function (stack_of names m)) (plain (trees (items_of names m.index)) (store_of names m.store) (stack_of names m) >>= M.section_done (trees (items_of names m.index)) (store_of names m.store) (stack_of names m))

-- what it comes to where its code asks
abbrev pub asking_of : Names → Machine → (function : Text) → (no_copy : Bool) → (running : Text) → Request → Rest → M.SectionEnd
asking_of names m f no_copy running r rest = M.section_next rest f no_copy running (M.section_asks (trees (items_of names m.index)) (store_of names m.store) (stack_of names m) r.asked r.arguments)

-- what it comes to where a value answers its code
abbrev pub answer_of : Names → Machine → (function : Text) → (no_copy : Bool) → (running : Text) → Value → Rest → M.SectionEnd
answer_of names m f no_copy running v rest = M.section_next rest f no_copy running (answered (trees (items_of names m.index)) (store_of names m.store) (stack_of names m) v)

-- what the machine of a section comes to within so many steps
abbrev pub run_of : Names → Machine → (function : Text) → (no_copy : Bool) → (bound : ℕ) → M.SectionEnd
run_of names m f no_copy bound = M.section_run (trees (items_of names m.index)) f no_copy bound (store_of names m.store) (stack_of names m)

-- it is said how its code runs
abbrev pub IsRunning : Names → Machine → Type 0
IsRunning names m = Runs names m.texts.now (items_of names m.index)

-- the machine is well where its code goes on
abbrev pub StaysWell : Option SectionEnd → Machine → Type 0
StaysWell (Some end) m = Unit {0}
StaysWell None m = IsWell m
