-- The row of a piece that runs: each step of the source is followed by steps of the piece, and of the driver where the piece is left.
use Rattle.std.proofs.Common.{◌≡◌, ℕ, ◌≤◌, List, Option, Some, None, option_map, refl, sym, ◌∙◌, ap}
use Rattle.cpc_base.specs.Bytes.{Text}
use Rattle.cpc_store.specs.Store.{Value, Blocks}
use Rattle.cpc_tree.specs.Points.{Point}
use Rattle.cpc_tree.specs.Syntax.{Function}
use Rattle.cpc_tree.specs.Typing.{function_named}
use Rattle.cpc_meaning.specs.Act.{Act}
use Rattle.cpc_meaning.specs.Agenda.{Agenda}
use Rattle.cpc_meaning.specs.Answer.{Answer}
use Rattle.cpc_meaning.specs.Eval.{Slot}
use Rattle.cpc_meaning.specs.Machine.{next}
use Rattle.cpc_meaning.specs.Plain.{Frame as CallFrame}
use Rattle.cpc_meaning.specs.Threads.{Thread, threads_of}
use Rattle.cpc_meaning.specs.Events.{Callback}
use Rattle.cpc_meaning.specs.Runs.{slots_registers}
use Rattle.cpc_forms.specs.Flow.{Place}
use Rattle.cpc_forms.specs.Split.{Position, InGraph}
use Rattle.cpc_lift_laws.specs.Lifted.{tidy}
use Rattle.cpc_lifted_laws.specs.Related.Bounds.{Bounds, Enough}
use Rattle.cpc_chains_laws.proofs.Related.Calling.{calls_row, enters_row}
use Rattle.cpc_chains_laws.proofs.Related.Entry.{EntryFacts}
use Rattle.cpc_chains_laws.proofs.Related.Inside.{inside, Does, Sticks, Breaks, Moves, Requests, SpawnsOne, Pauses, Submits, EntersWhole, EntersCut, GivesUp, PieceAt}
use Rattle.cpc_chains_laws.proofs.Related.Moving.{moves_row, breaks_row, requests_row, spawns_row}
use Rattle.cpc_chains_laws.proofs.Related.Onwards.{Beside}
use Rattle.cpc_chains_laws.proofs.Related.Pausing.{pauses_row, submits_row}
use Rattle.cpc_chains_laws.proofs.Related.Relation.{Source, Target, Shared}
use Rattle.cpc_chains_laws.proofs.Related.Returning.{returns_row}
use Rattle.cpc_chains_laws.proofs.Related.Rows.{RowFor}
use Rattle.cpc_chains_laws.proofs.Related.Setting.{Setting, from_form, NativeFacts, KeepsFacts, Known}
use Rattle.cpc_chains_laws.proofs.Related.Standing.{here, acts_here, comes_of, settles, steps_by, no_step, no_state}

module _ (z : Setting) (native : NativeFacts z) (keeps : KeepsFacts z) (bounds : Bounds) (entry : EntryFacts z bounds) (most : ℕ) (enough : Enough bounds most) (f : Text) (l : Place) (lower pointer result frame : Value) (w : Shared) (bs : Blocks) (c : Agenda Callback) (n : ℕ) (slots : List Slot) (o : Option Value) (piece : CallFrame Point) (o' : Option Value) (a : Agenda (Thread Position)) (below : List (CallFrame Position)) (h : Beside z bs a c below lower) (at : PieceAt z bounds f l lower pointer result frame w bs c n slots o piece o') (thin : slots_registers piece.slots ≤ bounds.piece) where
  -- the states of both
  abbrev from : Source
  from = here z f (InGraph l n) slots o w a below

  abbrev to : Target
  to = inside z bounds f l lower pointer result frame w bs c n slots o piece o'

  abbrev StepsTo : Answer Act → Source → Type 0
  StepsTo u x' = option_map (tidy z.kept) (settles z f (InGraph l n) slots o w a below (comes_of z f (InGraph l n) slots o w a below u)) ≡ Some x'

  module _ (known : Known z from) (x' : Source) (known' : Known z x') where
    -- by what the source does
    does_row : (u : Answer Act) → Does z bounds f l lower pointer result frame w bs c n slots o piece o' u → StepsTo u x' → RowFor z bounds.rise from x' most to
    does_row _ Sticks e = absurd (no_state z f (InGraph l n) slots o w a below x' _ refl e)
    does_row _ (Breaks fault name shown r less few) e = breaks_row z native keeps bounds entry most enough f l lower pointer result frame w bs c n slots o piece o' a below h thin fault name shown r less few x' e
    does_row _ (Moves t s changed goes) e = moves_row z native keeps bounds entry most enough f l lower pointer result frame w bs c n slots o piece o' a below h thin t s changed goes x' e known'
    does_row _ (Requests r answered held asks replies) e = requests_row z native keeps bounds entry most enough f l lower pointer result frame w bs c n slots o piece o' a below h thin replies r answered held asks at.shown known.store x' e known'
    does_row _ (SpawnsOne g vs r) e = spawns_row z native keeps bounds entry most enough f l lower pointer result frame w bs c n slots o piece o' a below h thin g vs r x' e known'
    does_row _ (Pauses prim vs own waits) e = pauses_row z native keeps bounds entry most enough f l lower pointer result frame w bs c n slots o piece o' a below h thin prim vs own waits x' e
    does_row _ (Submits g vs r) e = submits_row z native keeps bounds entry most enough f l lower pointer result frame w bs c n slots o piece o' a below h thin g vs r x' e
    does_row _ (EntersWhole g vs whole r) e = calls_row z native keeps bounds entry most enough f l lower pointer result frame w bs c n slots o piece o' a below h g vs r x' e
    does_row _ (EntersCut g vs r) e = enters_row z native keeps bounds entry most enough f l lower pointer result frame w bs c n slots o piece o' a below h g vs r x' e
    does_row _ (GivesUp v t r) e = returns_row z native keeps bounds entry most enough f l lower pointer result frame w bs c n slots o piece o' a below h v t r x' known' e

    pub piece_row : option_map (tidy z.kept) (next (threads_of (from_form z)) from) ≡ Some x' → RowFor z bounds.rise from x' most to
    piece_row e = go (function_named z.source f) refl
      where
        go : (g : Option Function) → function_named z.source f ≡ g → RowFor z bounds.rise from x' most to
        go None i = absurd (let s = ap (option_map (tidy z.kept)) (no_step z f (InGraph l n) slots o w a below i) in cc)
        go (Some g) i = does_row (acts_here z f (InGraph l n) slots o w a below g) (at.does g i) (sym (ap (option_map (tidy z.kept)) (steps_by z f (InGraph l n) slots o w a below g i (acts_here z f (InGraph l n) slots o w a below g) refl)) ∙ e)
