-- What the rows ask of the beginning of pieces, where it is known what frames hold that leaders take up, and what the arguments of calls are.
use Rattle.std.proofs.Common.{◌≡◌, inl, inr, ℕ, ◌+◌, ◌*◌, ◌≤◌, List, length, Option, Some, None, refl, sym, subst}
use Rattle.cpc_base.specs.Bytes.{Text}
use Rattle.cpc_tree.specs.Registers.{variables}
use Rattle.cpc_tree.specs.Syntax.{Function, Program}
use Rattle.cpc_store.specs.Store.{Value, Unset, Blocks, Store}
use Rattle.cpc_meaning.specs.Answer.{Gives}
use Rattle.cpc_meaning.specs.Eval.{Slot}
use Rattle.cpc_meaning.specs.Plain.{Frame as CallFrame}
use Rattle.cpc_meaning.specs.Slots.{call_slots}
use Rattle.cpc_forms.specs.Flow.{Place, At}
use Rattle.cpc_forms.specs.Split.{Position, InGraph}
use Rattle.cpc_lift_laws.specs.Lifted.{tidy_slots}
use Rattle.cpc_chains_store_laws.specs.Chains.{Saved, Top}
use Rattle.cpc_chains_store_laws.specs.Driver.{DriverFacts}
use Rattle.cpc_convert_flat_laws.specs.Walks.{World}
use Rattle.cpc_chains_event.specs.BoxingLaws.{VariablesHaveSizes}
use Rattle.cpc_chains_event.specs.Converted.{converted}
use Rattle.cpc_convert_routines.specs.Named.{IsNamed, IsCps}
use Rattle.cpc_convert_routines.specs.Names.{piece_name}
use Rattle.cpc_chains_event.proofs.BoxesThere.{structs_there}
use Rattle.cpc_chains_event.proofs.Lookups.{functions_found}
use Rattle.cpc_lifted_laws.specs.Related.Bounds.{Bounds}
use Rattle.cpc_chains_laws.specs.Related.Items.{saved_at, first_saved}
use Rattle.cpc_chains_laws.proofs.Related.Entry.{Opens, EntryFacts}
use Rattle.cpc_chains_laws.proofs.Related.Setting.{Setting, from_form}
use Rattle.cpc_lifted_laws.specs.Native.Instance.{cut_of}
use Rattle.cpc_chains_laws.proofs.Native.Instance.{setting_of}
use Rattle.cpc_lifted_laws.specs.Piece.Known.{CpsKnown}
use Rattle.cpc_chains_laws.specs.Piece.Stood.{Stood}
use Rattle.cpc_chains_laws.specs.Entry.Taken.{LeaderTaken, CallTaken, FramesTaken, CallsTaken}
use Rattle.cpc_chains_laws.proofs.Entry.Begins.{call_opens}
use Rattle.cpc_chains_laws.proofs.Entry.Resuming.{leader_opens}

-- the driver is there where some function is cps
pub driver_facts : (p : Program) → IsNamed p → (f : Function) → IsCps p f → DriverFacts (converted p)
driver_facts p names f cps = record { function = (functions_found p names).driver f cps; struct = (structs_there p names).any f cps }

module _ (p : Program) (fine : CallFrame Position → Option Value → Type 0) (given : Text → List Value → Type 0) (bounds : Bounds) (known : (f : Function) → IsCps p f → CpsKnown p f) (sizes : (f : Function) → IsCps p f → VariablesHaveSizes p f)
    (frames : FramesTaken p fine) (calls : CallsTaken p given) (resumes : (f : Function) → IsCps p f → 8 + length (variables f) ≤ bounds.resumes) (begins : (f : Function) → IsCps p f → 21 + 5 * length (variables f) ≤ bounds.begins)
    (takes : (f : Function) → IsCps p f → 10 + 2 * length (variables f) ≤ bounds.takes) (opens : (f : Function) → IsCps p f → 21 + 4 * length (variables f) ≤ bounds.opens) where
  abbrev pub z : Setting
  z = setting_of p (Stood p) fine given

  pub leader_resumes : (w : World) (bs : Blocks) (s : Store) (x : Text) (n : ℕ) (slots : List Slot) (v : Value) (below : List Saved) (k : ℕ) (next : Value) (owned : List ℕ)
      → LeaderTaken p x n slots (Some v) → Top bs (saved_at (cut_of p) x slots n) below k next v owned → Opens z bounds.resumes bounds.takes (piece_name x (At n)) w bs s k x (At n) n slots (Some v) next s
  leader_resumes w bs s x n slots v below k next owned h top =
      let f = h.function in
      subst (λ y. Opens z bounds.resumes bounds.takes (piece_name y (At n)) w bs s k y (At n) n slots (Some v) next s) h.called
      (leader_opens p fine given f (known f h.taken.cps) bounds.resumes bounds.takes (resumes f h.taken.cps) (takes f h.taken.cps) w bs s n slots (Some v) v below k next owned h.taken (inr refl) (h.taken.arrives v refl)
      (subst (λ y. Top bs (saved_at (cut_of p) y slots n) below k next v owned) (sym h.called) top))

  pub leader_jumps : (w : World) (bs : Blocks) (s : Store) (x : Text) (n : ℕ) (slots : List Slot) (below : List Saved) (k : ℕ) (next : Value) (owned : List ℕ)
      → LeaderTaken p x n slots None → Top bs (saved_at (cut_of p) x slots n) below k next Unset owned → Opens z bounds.resumes bounds.takes (piece_name x (At n)) w bs s k x (At n) n slots None next s
  leader_jumps w bs s x n slots below k next owned h top =
      let f = h.function in
      subst (λ y. Opens z bounds.resumes bounds.takes (piece_name y (At n)) w bs s k y (At n) n slots None next s) h.called
      (leader_opens p fine given f (known f h.taken.cps) bounds.resumes bounds.takes (resumes f h.taken.cps) (takes f h.taken.cps) w bs s n slots None Unset below k next owned h.taken (inl refl) (λ e. refl)
      (subst (λ y. Top bs (saved_at (cut_of p) y slots n) below k next Unset owned) (sym h.called) top))

  -- a start of a function of this name
  abbrev pub Begins : World → Blocks → Store → Store → Text → Function → List Value → List Slot → ℕ → Value → Type 0
  Begins w bs s t x g vs slots k next =
      (l : Place) × (n : ℕ) × (g.called ≡ x) × ((from_form z).code.first x ≡ InGraph l n) × Opens z bounds.begins bounds.opens (first_saved z.cut x vs).piece w bs s k x l n (tidy_slots (z.kept x (InGraph l n)) slots) None next t

  pub start_begins : (w : World) (bs : Blocks) (s t : Store) (x : Text) (g : Function) (vs : List Value) (slots : List Slot) (v : Value) (below : List Saved) (k : ℕ) (next : Value) (owned : List ℕ)
      → CallTaken p g vs × (g.called ≡ x) → call_slots p g vs s ≡ Gives (slots, t) → Top bs (first_saved (cut_of p) x vs) below k next v owned → Begins w bs s t x g vs slots k next
  start_begins w bs s t x g vs slots v below k next owned h made top =
      let cps = h.0.cps in
      let opens =
      call_opens p fine given g (known g cps) (sizes g cps) vs h.0 w bs s t slots made v below k next owned (subst (λ y. Top bs (first_saved (cut_of p) y vs) below k next v owned) (sym h.1) top)
      (driver_facts p (known g cps).names g cps) bounds.begins bounds.opens (begins g cps) (opens g cps) in
      subst (λ y. Begins w bs s t y g vs slots k next) h.1 (opens.0, opens.1, refl, opens.2, opens.3)

  -- the facts, in a program with a cps function
  pub entry_facts : (f : Function) → IsCps p f → EntryFacts z bounds
  entry_facts f cps = record {
    driver = driver_facts p (known f cps).names f cps;
    resumes = λ w bs s x n slots v below k next owned fit top. leader_resumes w bs s x n slots v below k next owned (frames x n slots (Some v) fit) top;
    jumps = λ w bs s x n slots below k next owned fit top. leader_jumps w bs s x n slots below k next owned (frames x n slots None fit) top;
    begins = λ w bs s t x g vs slots v below k next owned named args made top. start_begins w bs s t x g vs slots v below k next owned (calls x g vs named args) made top;
  }
