-- The facts of the rows, where those of pieces are known: the native half is had of the program alone.
use Rattle.std.proofs.Common.{◌≡◌, ℕ, ◌+◌, ◌*◌, ◌<◌, ◌≤◌, Bool, true, false, List, length, Option, Some, refl}
use Rattle.cpc_base.specs.Bytes.{Text}
use Rattle.cpc_store.specs.Store.{Value, Blocks}
use Rattle.cpc_tree.specs.Points.{Point, Found}
use Rattle.cpc_tree.specs.Registers.{variables}
use Rattle.cpc_tree.specs.Syntax.{Function, Program}
use Rattle.cpc_meaning.specs.Act.{AtArrival}
use Rattle.cpc_meaning.specs.Agenda.{Agenda}
use Rattle.cpc_meaning.specs.Eval.{Slot}
use Rattle.cpc_meaning.specs.Events.{Callback}
use Rattle.cpc_meaning.specs.Plain.{Frame as CallFrame}
use Rattle.cpc_meaning.specs.Runs.{slots_registers}
use Rattle.cpc_meaning.specs.Threads.{Thread, is_cps_mode}
use Rattle.cpc_forms.specs.Flow.{Place}
use Rattle.cpc_forms.specs.Split.{Position, InGraph}
use Rattle.cpc_convert_routines.specs.Named.{IsCps}
use Rattle.cpc_lifted_laws.specs.Related.Bounds.{Bounds}
use Rattle.cpc_chains_laws.specs.Related.Running.{Places}
use Rattle.cpc_chains_laws.proofs.Related.Entry.{EntryFacts}
use Rattle.cpc_chains_laws.proofs.Related.Inside.{PieceAt}
use Rattle.cpc_chains_laws.proofs.Related.Joined.{MainIs, RowFacts}
use Rattle.cpc_chains_laws.proofs.Related.Onwards.{Beside}
use Rattle.cpc_chains_laws.proofs.Related.Relation.{Shared}
use Rattle.cpc_chains_laws.proofs.Related.Setting.{Setting, from_form, KeepsFacts, Known}
use Rattle.cpc_chains_laws.proofs.Related.Standing.{here}
use Rattle.cpc_lifted_laws.specs.Native.Convertible.{Convertible}
use Rattle.cpc_lifted_laws.specs.Native.Instance.{may_be}
use Rattle.cpc_chains_laws.proofs.Native.CpsMains.{cps_main_is}
use Rattle.cpc_chains_laws.proofs.Native.Facts.{native_facts}
use Rattle.cpc_chains_laws.proofs.Native.Globals.{globals_stay}
use Rattle.cpc_chains_laws.proofs.Native.Instance.{setting_of}
use Rattle.cpc_chains_laws.proofs.Native.Natives.{main_stays, natives_do}
use Rattle.cpc_chains_laws.proofs.Native.Spawners.{all_spawn}

-- what is known of the pieces of a setting
pub record PieceFacts (z : Setting) (bounds : Bounds) : Type 0 where
  pub keeps : KeepsFacts z
  pub entry : EntryFacts z bounds
  pub pieces : (f : Text) (l : Place) (lower pointer result frame : Value) (w : Shared) (bs : Blocks) (c : Agenda Callback) (n : ℕ) (slots : List Slot) (o : Option Value) (piece : CallFrame Point) (o' : Option Value) (a : Agenda (Thread Position)) (below : List (CallFrame Position))
      → z.there f l n slots o lower piece o' → Beside z bs a c below lower → Known z (here z f (InGraph l n) slots o w a below) → PieceAt z bounds f l lower pointer result frame w bs c n slots o piece o'
  pub thin : (f : Text) (l : Place) (n : ℕ) (slots : List Slot) (o : Option Value) (lower : Value) (piece : CallFrame Point) (o' : Option Value) → z.there f l n slots o lower piece o' → slots_registers piece.slots ≤ bounds.piece
  pub arrivals : (f : Text) (l : Place) (n : ℕ) (slots : List Slot) (v lower : Value) (piece : CallFrame Point) → z.there f l n slots (Some v) lower piece (Some v) → (g : Found) × ((from_form z).code.stood f (InGraph l n) ≡ AtArrival g)

module _ (p : Program) (h : Convertible p) (there : Places) (fine : CallFrame Position → Option Value → Type 0) (given : Text → List Value → Type 0) (bounds : Bounds) (leads : (g : Function) → IsCps p g → 7 + 2 * length (variables g) < bounds.leads) (mains : 9 ≤ bounds.mains) where
  abbrev z : Setting
  z = setting_of p there fine given

  main_is : MainIs z bounds
  main_is = go (is_cps_mode h.main.function.mode) refl
    where
      go : (b : Bool) → is_cps_mode h.main.function.mode ≡ b → MainIs (setting_of p there fine given) bounds
      go true e = cps_main_is p h there fine given bounds mains e
      go false e = main_stays p h there fine given bounds e

  pub row_facts : ((frame : CallFrame Position) (o : Option Value) → fine frame o → may_be p frame.function frame.point ≡ true) → PieceFacts z bounds → RowFacts z bounds
  row_facts stands facts = record {
    native = native_facts p h there fine given;
    keeps = facts.keeps;
    entry = facts.entry;
    main = main_is;
    globals = globals_stay p h;
    natives = natives_do p h there fine given bounds (all_spawn p h there fine given bounds leads) stands;
    pieces = facts.pieces;
    thin = facts.thin;
    arrivals = facts.arrivals;
  }
