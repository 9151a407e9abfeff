-- The lines of statements of other kinds.
use Rattle.std.proofs.Common.{◌≡◌, ℕ, [], ◌∷◌, Option, refl, Vec, Global}
use Rattle.cpc_base.specs.declared.stop.Place.{Place}
use Rattle.cpc_num.specs.declared.kinds.Op.{Op}
use Rattle.cpc_tree.specs.Erase.{Names, stmt_of}
use Rattle.cpc_tree.specs.declared.program.CType.{CType}
use Rattle.cpc_tree.specs.declared.program.Expr.{Expr}
use Rattle.cpc_tree.specs.declared.program.Statement.{Statement}
use Rattle.cpc_tree.specs.declared.program.Statement.TheVariants as T
use Rattle.cpc_tree.specs.declared.program.Word.{Word}
use Rattle.cpc_convert_image_laws.specs.Images.{Readings}
use Rattle.cpc_convert_routines.specs.Routines.{Routine}
use Rattle.cpc_chains_event.specs.Lines.{passes, behind_arrival, simple_lines, framed_lines}

-- in place of any other statement there is a way
pub only_passed : (r : Routine) (names : Readings) (from : Names) (s : Statement) (next : Option ℕ)
    → ((p : Place) (v : Option Expr) → s ≡ T.Return p v → ⊥)
    → ((p : Place) (f : Word) (es : Vec Expr Global) → s ≡ T.Spawn p f es → ⊥)
    → ((p : Place) (x : Word) (t : CType) (o : Option Expr) → s ≡ T.Declare p x t o → ⊥)
    → ((p o : Place) (e : Expr) (op : Option Op) (v : Expr) → s ≡ T.Assign p o e op v → ⊥)
    → ((p o : Place) (e : Option Expr) (f : Expr) (es : Vec Expr Global) → s ≡ T.Call p o e f es → ⊥)
    → simple_lines r names (stmt_of from s) next ≡ passes next ∷ []
only_passed r names from (T.Return p v) next h1 h2 h3 h4 h5 = absurd (h1 p v refl)
only_passed r names from (T.Spawn p f es) next h1 h2 h3 h4 h5 = absurd (h2 p f es refl)
only_passed r names from (T.Declare p x t o) next h1 h2 h3 h4 h5 = absurd (h3 p x t o refl)
only_passed r names from (T.Assign p o e op v) next h1 h2 h3 h4 h5 = absurd (h4 p o e op v refl)
only_passed r names from (T.Call p o e f es) next h1 h2 h3 h4 h5 = absurd (h5 p o e f es refl)
only_passed r names from s next h1 h2 h3 h4 h5 = refl

-- over a frame only calls are left
pub only_framed : (r : Routine) (names : Readings) (from : Names) (s : Statement) (arrival : Option ℕ)
    → ((p o : Place) (e : Option Expr) (f : Expr) (es : Vec Expr Global) → s ≡ T.Call p o e f es → ⊥)
    → framed_lines r names (stmt_of from s) arrival ≡ passes (behind_arrival r arrival) ∷ []
only_framed r names from (T.Call p o e f es) arrival h = absurd (h p o e f es refl)
only_framed r names from s arrival h = refl
