-- That pieces are flat bodies, and where their lines stand, as statements.
use Rattle.std.specs.Prelude.{◌≡◌, ℕ, ◌+◌, suc, true, List, ◌++◌, length}
use Rattle.cpc_tree.specs.Syntax.{Stmt, NoStmt, Program}
use Rattle.cpc_tree.specs.Typing.{Scope}
use Rattle.cpc_tree.specs.Registers.{outer_scope}
use Rattle.cpc_forms.specs.Flow.{Place}
use Rattle.cpc_convert_flat_laws.specs.Flat.{before, are_flat, are_lines, Stands}
use Rattle.cpc_chains_store_laws.specs.Frames.{taken_scope}
use Rattle.cpc_convert_routines.specs.Names.{piece_name, frame_name}
use Rattle.cpc_convert_routines.specs.Routines.{Routine}
use Rattle.cpc_chains_event.specs.Rows.{piece_statements}
use Rattle.cpc_chains_event.specs.Pieces.{loads_of, declares_of, boxing_of, piece_body, piece_function}

-- how many statements open a piece: its frame, what it loads, what it declares, its boxes, and the frame given back
abbrev pub opening : Program → Routine → Place → ℕ
opening p r l = suc (((1 + length (loads_of p r l)) + length (declares_of p r l)) + length (boxing_of r l))

-- what is in scope behind it
abbrev pub piece_scope : Program → Routine → Place → Scope
piece_scope p r l = taken_scope (outer_scope (piece_function p r l)) 1 frame_name (piece_name r.function.called l) (loads_of p r l) (declares_of p r l)

-- how many variables a piece has, its pointer and its frame among them
abbrev pub piece_count : Program → Routine → Place → ℕ
piece_count p r l = (2 + length (loads_of p r l)) + length (declares_of p r l)

-- a piece is a flat body, and behind its opening it declares nothing
abbrev pub PiecesAreFlat : Type 0
PiecesAreFlat = (p : Program) (r : Routine) (l : Place) → (are_flat (piece_body p r l) ≡ true) × (are_lines (before (piece_statements p r l) NoStmt) ≡ true)

-- each of its statements stands so many lines behind the opening, in the scope of the piece
abbrev pub StatementsStand : Type 0
StatementsStand =
    (p : Program) (r : Routine) (l : Place) (front rest : List Stmt) → piece_statements p r l ≡ front ++ rest
    → Stands (piece_function p r l) (piece_body p r l) (opening p r l + length front) (piece_scope p r l) (piece_count p r l) (before rest NoStmt)
