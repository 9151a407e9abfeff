-- In which style a program is printed, and what its text is then.
use Rattle.std.specs.Prelude.{◌≡◌, Bool, false, nat_lt, List, All}
use Rattle.cpc_base.specs.Bytes.{Text}
use Rattle.cpc_base.specs.declared.stop.Dialect.{Dialect}
use Rattle.cpc_tree.specs.Syntax.{Program}
use Rattle.cpc_tree.specs.Located.{LProgram, bare}
use Rattle.cpc_tree.specs.Grammar.{Parses}
use Rattle.cpc_tree.specs.Tokens.{Lexeme}
use Rattle.cpc_tree.specs.Spelling.{IsSpellable, CutsTo}
use Rattle.cpc_printer_layout.specs.Layout.{IsLaidOut}
use Rattle.cpc_tree.specs.ItemPrint.{program_row, program_depth}

-- the tight style is for programs that nest deeper than is read, with all stars
abbrev pub is_tight_for : Program → Bool
is_tight_for program = nat_lt 256 (program_depth false program)

-- the tokens of a program in its style
abbrev pub printed_row : Program → List Lexeme
printed_row program = program_row (is_tight_for program) program

-- A text of a program: its tokens as they are spelled, and blanks. In a dialect that spells all of them it is cut into these tokens.
pub record IsPrint (text : Text) (program : Program) : Type 0 where
  pub laid : IsLaidOut (printed_row program) text
  pub cuts : (dialect : Dialect) → All (IsSpellable dialect) (printed_row program) → CutsTo dialect text (printed_row program)

-- The text is cut and read as a program that is equal but for its places.
abbrev pub ReadsBack : Dialect → Text → Program → Type 0
ReadsBack dialect text program = (q : LProgram) × Parses dialect text q × (bare q ≡ program)
