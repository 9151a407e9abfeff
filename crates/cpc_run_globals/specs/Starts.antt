-- The parts of what a global starts with.
use Rattle.std.specs.Prelude.{ℕ, ℤ, pos, ◌-ℤ◌, List, [], ◌∷◌, slice_get, Option, Some, None}
use Rattle.cpc_base.specs.Bytes.{Text}
use Rattle.cpc_num.specs.declared.kinds.Kind.{Kind}
use Rattle.cpc_num.specs.declared.kinds.Kind.TheVariants.{Char}
use Rattle.cpc_num.specs.Number.{convert}
use Rattle.cpc_store.specs.declared.values.Scalar.{Scalar}
use Rattle.cpc_store.specs.declared.values.Scalar.TheVariants as S
use Rattle.cpc_store.specs.Store.{Value, Whole}
use Rattle.cpc_tree.specs.Syntax.{Expr, EInteger, ECharacter, EUnary}
use Rattle.cpc_tree.specs.declared.program.UnaryOp.TheVariants.{Minus}
pub use Rattle.cpc_tree.specs.Syntax.{text_in}
use Rattle.cpc_meaning.specs.Start.{zero_of}

-- a byte in a cell, or what the cell holds where there is none
abbrev pub byte_or : Option ℕ → Scalar → Value
byte_or (Some b) scalar = Whole Char (convert Char (pos b))
byte_or None scalar = zero_of scalar

-- the i-th of the cells over which a string is written
abbrev pub text_cell : Text → ℕ → Scalar → Value
text_cell bs i scalar = byte_or (slice_get bs i) scalar

-- the kind of an integer that is the only cell
abbrev pub only_kind : List Scalar → Option Kind
only_kind (S.Int kind ∷ []) = Some kind
only_kind _ = None

-- the number of a literal behind a minus, as a value of the kind
abbrev pub minus_number : Kind → Expr → Option ℤ
minus_number kind (EInteger j z) = Some (convert kind (convert j (pos 0 -ℤ z)))
minus_number kind _ = None

-- the number that is written, as a value of the kind
abbrev pub start_number : Kind → Expr → Option ℤ
start_number kind (EInteger j z) = Some (convert kind z)
start_number kind (ECharacter z) = Some (convert kind z)
start_number kind (EUnary Minus e) = minus_number kind e
start_number kind _ = None

-- the one cell of an integer
abbrev pub number_cells : Kind → Option ℤ → List Value
number_cells kind (Some z) = Whole kind z ∷ []
number_cells kind None = Whole kind (pos 0) ∷ []
