-- The states of the source, the lifted run of the split form, and of the target, the callbacks of the event program, that stand for each other.
use Rattle.std.proofs.Common.{◌≡◌, ℕ, true, List, [], ◌++◌, Option, None}
use Rattle.cpc_base.specs.Bytes.{Text}
use Rattle.cpc_store.specs.Store.{Blocks, Store}
use Rattle.cpc_tree.specs.Points.{Point}
use Rattle.cpc_tree.specs.Trace.{Mark, Going, is_over}
use Rattle.cpc_meaning.specs.Agenda.{Agenda, new_agenda, ready_one, begin_round}
use Rattle.cpc_meaning.specs.History.{History}
use Rattle.cpc_meaning.specs.Machine.{State}
use Rattle.cpc_meaning.specs.Plain.{Stack}
use Rattle.cpc_meaning.specs.Section.{Job}
use Rattle.cpc_meaning.specs.Start.{main_name}
use Rattle.cpc_meaning.specs.Threads.{Thread, Pending}
use Rattle.cpc_meaning.specs.Events.{Callback, CallMain}
use Rattle.cpc_meaning.proofs.Agendas.{SameAgenda}
use Rattle.cpc_forms.specs.Split.{Position}
use Rattle.cpc_convert_image_laws.specs.Held.{beside}
use Rattle.cpc_convert_flat_laws.specs.Blocks.{Owns}
use Rattle.cpc_convert_flat_laws.specs.Walks.{World}
use Rattle.cpc_chains_laws.specs.Related.Fresh.{AllFresh}
use Rattle.cpc_lifted_laws.specs.Related.Cut.{Cut, Tagged, IsUntagged, owned_in}
use Rattle.cpc_chains_laws.specs.Related.Items.{ItemFor}
use Rattle.cpc_chains_laws.specs.Related.Running.{Places, RunningFor}

-- a state of the source, and one of the target
abbrev pub Source : Type 0
Source = State Position (Thread Position)

abbrev pub Target : Type 0
Target = State Point Callback

-- the agenda of the source, and the one of the target over these frame blocks, through callbacks that bear the numbers of their blocks
pub record AgendaFor (cut : Cut) (bs : Blocks) (a : Agenda (Thread Position)) (tags : Agenda Tagged) (b : Agenda Callback) : Type 0 where
  pub items : SameAgenda (ItemFor cut bs) a tags
  pub untagged : SameAgenda IsUntagged tags b

-- what source and target share: the store but for the frames, the sections that are out, the history that is left, and the trace
pub record Shared : Type 0 where
  pub store : Store
  pub jobs : List Job
  pub history : History
  pub trace : List Mark

-- a state that goes on, with these: what runs, and an agenda
abbrev pub going : {P T : Type 0} → Shared → Store → Option (Stack P) → Agenda T → State P T
going w s k a = record { store = s; running = k; agenda = a; jobs = w.jobs; history = w.history; trace = w.trace; outcome = Going }

-- the source, and the target, which has these frame blocks besides
abbrev pub source_state : Shared → Option (Stack Position) → Agenda (Thread Position) → Source
source_state w k a = going w w.store k a

abbrev pub target_state : Shared → Blocks → Option (Stack Point) → Agenda Callback → Target
target_state w bs k b = going w (beside bs w.store) k b

-- what the target has besides its store and what runs
abbrev pub world_of : Shared → Agenda Callback → World
world_of w b = record { agenda = b; jobs = w.jobs; history = w.history; trace = w.trace }

-- the agenda before the call of `main` is taken, and in its round
abbrev pub with_main : {T : Type 0} → T → Agenda T
with_main item = ready_one item new_agenda

module _ (C : Text → Type 0) (cut : Cut) (There : Places) where
  -- states that stand for each other: before `main` is called; where threads run and wait, the blocks of all chains are just the live frame
  -- blocks, each once, and no value has arrived at a frame; and where the run is over
  pub data Related : Source → Target → Type 0 where
    MainIsReady : (w : Shared) → Related (source_state w None (with_main (Pending main_name []))) (target_state w [] None (with_main CallMain))
    MainIsNext : (w : Shared) → Related (source_state w None (begin_round (with_main (Pending main_name [])))) (target_state w [] None (begin_round (with_main CallMain)))
    Goes : (w : Shared) (bs : Blocks) (k : Option (Stack Position)) (j : Option (Stack Point)) (owned : List ℕ) (a : Agenda (Thread Position)) (tags : Agenda Tagged) (b : Agenda Callback)
        → RunningFor C cut There bs k j owned → AgendaFor cut bs a tags b → Owns bs (owned ++ owned_in tags) → AllFresh bs → Related (source_state w k a) (target_state w bs j b)
    IsOver : (x : Source) (y : Target) → is_over x.outcome ≡ true → y.trace ≡ x.trace → y.outcome ≡ x.outcome → Related x y
