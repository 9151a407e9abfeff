-- The laws that can be told without the relation, as statements: of the agenda's items, of walks, and of returns.
use Rattle.std.specs.Prelude.{◌≡◌, ℕ, List, [], ◌∷◌, Option}
use Rattle.cpc_meaning.specs.Agenda.{Agenda}
use Rattle.cpc_tree.specs.Trace.{Mark}
use Rattle.cpc_tree.specs.Syntax.{Program}
use Rattle.cpc_store.specs.Store.{Value, Store}
use Rattle.cpc_meaning.specs.Answer.{Gives}
use Rattle.cpc_meaning.specs.Plain.{Form, Frame, Returned, frames_step}
use Rattle.cpc_convert_flat_laws.specs.Walks.{Here, Quiet, Walk}
use Rattle.cpc_convert_flat_laws.specs.Blocks.{count}
use Rattle.cpc_lifted_laws.specs.Related.Sums.{total}
use Rattle.cpc_lifted_laws.specs.Related.Cut.{Tagged, owned_in}

-- the blocks of an agenda are owned as often as its items own them together
abbrev pub ItemsOwn : Type 0
ItemsOwn = (b : ℕ) (a : Agenda Tagged) → count b (owned_in a) ≡ total (λ (t : Tagged). count b t.owned) a

-- a walk from a quiet state comes to a quiet one
abbrev pub WalksStayQuiet : Type 0
WalksStayQuiet = (q : Program) (trace : List Mark) (n : ℕ) (s t : Here) → Quiet trace s → Walk q trace n s t → Quiet trace t

-- a value is returned to nobody by a step of the last frame alone
abbrev pub ReturnsComeLast : (P : Type 0) → Type 0
ReturnsComeLast P = (p : Form P) (s : Store) (frame : Frame P) (below : List (Frame P)) (v : Value) (t : Store) (o : Option Value) → frames_step p s o (frame ∷ below) ≡ Gives (Returned v t) → below ≡ []
