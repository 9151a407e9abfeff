-- Steps that can be made: those of a run that is never stuck, and what is known of what its code then asks for.
use Rattle.std.specs.Prelude.{◌≡◌, ℕ, ◌<◌, ◌^◌, true, List, [], ◌∷◌, length, Some}
use Rattle.cpc_base.specs.Bytes.{Text}
use Rattle.cpc_base.specs.declared.names.Name.{Name}
use Rattle.cpc_check_rules.specs.Apart.{Spells}
use Rattle.cpc_hosts.specs.Tables.{is_there}
use Rattle.cpc_tree.specs.Erase.{Names, Table, in_table}
use Rattle.cpc_tree.specs.Primitives as P
use Rattle.cpc_store.specs.declared.values.Class.{Class}
use Rattle.cpc_store.specs.declared.values.Class.TheVariants as K
use Rattle.cpc_store.specs.declared.values.Value as V
use Rattle.cpc_store.specs.declared.values.Value.TheVariants as W
use Rattle.cpc_store.specs.Seen.{seen}
use Rattle.cpc_meaning.specs.Events.{callbacks}
use Rattle.cpc_meaning.specs.Machine.{replies, try_step}
use Rattle.cpc_meaning.specs.Runs.{live_cells}
use Rattle.cpc_meaning.specs.Section.{allocated}
use Rattle.cpc_meaning.specs.Trees.{trees}
use Rattle.cpc_meaning_laws.specs.Pointer.Made.{IsMadeCode}
use Rattle.cpc_eval_values.specs.Shown.{value_of}
use Rattle.cpc_tree.specs.PrimitiveNames.{primitive_of}
use Rattle.cpc_native_builtins.specs.declared.call.Call.{Call}
use Rattle.cpc_native_builtins.specs.declared.call.Call.TheVariants as C
use Rattle.cpc_run_code.specs.Laws.{AreOthers}
use Rattle.cpc_run.specs.declared.looped.Loop.{Loop}
use Rattle.cpc_run_code.specs.Code.{stack_in}
use Rattle.cpc_run.specs.Hosts.{HasHosts}
use Rattle.cpc_run.specs.States.{States, Stands, Within, Fits, Acted, settles, program_in}
use Rattle.cpc_run_code.specs.Taken.{IsCode}

-- By two spellings that differ at each name which the table does not have, the loop stands as one state. It has no more live cells than the cap, and goes on.
-- The functions of the host that its code asks for are there.
pub record Goes (table : Table) (there : List (Text × ℕ)) (cap : ℕ) (l : Loop) : Type 0 where
  pub names : Names
  pub other : Names
  pub others : AreOthers table names other
  pub spells : Spells table names
  pub hosts : HasHosts there (program_in names l)
  pub fits : Fits names l
  pub fits_other : Fits other l
  pub programs : program_in other l ≡ program_in names l
  pub state : States
  pub sent : Text
  pub sent_other : Text
  pub stands : Stands names l sent state
  pub stands_other : Stands other l sent_other state
  pub within : Within cap state
  pub next : States
  pub goes : try_step (callbacks (program_in names l)) state ≡ Some next

-- ---- callbacks

-- those who are called back later are told by a function's code
abbrev pub HasCallback : P.Primitive → List V.Value → Type 0
HasCallback P.RtReady (v ∷ vs) = IsCode (seen v)
HasCallback P.RtReady vs = ⊥
HasCallback P.RtWait (c ∷ v ∷ vs) = IsCode (seen v)
HasCallback P.RtWait vs = ⊥
HasCallback P.RtSleep (z ∷ v ∷ vs) = IsCode (seen v)
HasCallback P.RtSleep vs = ⊥
HasCallback P.RtIo (fd ∷ way ∷ v ∷ vs) = IsCode (seen v)
HasCallback P.RtIo vs = ⊥
HasCallback P.RtDetach (v ∷ pointer ∷ f ∷ vs) = IsCode (seen v)
HasCallback P.RtDetach vs = ⊥
HasCallback prim vs = Unit {0}

-- the same of a call; a function of the host calls nobody back
abbrev pub CallsBack : Call → List V.Value → Type 0
CallsBack (C.Builtin b) vs = HasCallback (primitive_of b) vs
CallsBack (C.Host x) vs = Unit {0}

-- ---- names

-- the name of a code is in the table
abbrev pub IsKnownCode : Table → V.Value → Type 0
IsKnownCode table (W.Code f) = f.0 < length table
IsKnownCode table v = Unit {0}

-- and so is that of the function of a section
abbrev pub KnowsSection : Table → List V.Value → Type 0
KnowsSection table (callback ∷ pointer ∷ f ∷ vs) = IsKnownCode table f
KnowsSection table vs = Unit {0}

-- the names that the loop looks up for a call are in the table
abbrev pub KnowsNames : Table → Call → List V.Value → Type 0
KnowsNames table (C.Builtin b) vs = KnowsSection table vs
KnowsNames table (C.Host x) vs = x.0 < length table

-- ---- functions of the host

-- the function of the host that is called is among these, with as many arguments as it takes
abbrev pub CallsThere : List (Text × ℕ) → Table → Call → List V.Value → Type 0
CallsThere there table (C.Builtin b) vs = Unit {0}
CallsThere there table (C.Host x) vs = is_there (in_table table x) (length vs) there ≡ true

-- ---- blocks

-- by some texts, the block that is asked for leaves fewer live cells than each cap allows
pub record HasRoom (l : Loop) (function : Name) (class : Class) (count : V.Value) : Type 0 where
  pub names : Names
  pub fits : Fits names l
  pub printed : Text
  pub state : States
  pub made : IsMadeCode state.store (stack_in names l.machine)
  pub acted : Acted names l function printed state state
  pub next : States
  pub goes : settles names l state (replies (trees (program_in names l)) (stack_in names l.machine) (allocated class (value_of names count) state.store) state) ≡ Some next
  pub within : live_cells next < 2 ^ 62

-- the same by the arguments
abbrev pub HasRoomFor : Loop → Name → Class → List V.Value → Type 0
HasRoomFor l function class (count ∷ []) = HasRoom l function class count
HasRoomFor l function class vs = Unit {0}

-- and by the primitive
abbrev pub HasBlock : Loop → Name → P.Primitive → List V.Value → Type 0
HasBlock l function P.Malloc vs = HasRoomFor l function K.Heap vs
HasBlock l function P.RtFrame vs = HasRoomFor l function K.Frame vs
HasBlock l function P.RtBox vs = HasRoomFor l function K.Auto vs
HasBlock l function prim vs = Unit {0}

-- the same of a call
abbrev pub CallHasBlock : Loop → Name → Call → List V.Value → Type 0
CallHasBlock l function (C.Builtin b) vs = HasBlock l function (primitive_of b) vs
CallHasBlock l function (C.Host x) vs = Unit {0}
