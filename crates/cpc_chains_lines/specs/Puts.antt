-- The statements of lines.
use Rattle.std.specs.Prelude.{ℕ, Bool, true, false, List, [], ◌∷◌, map, slice_get, Option, Some, None}
use Rattle.cpc_base.specs.Bytes.{Text}
use Rattle.cpc_tree.specs.Syntax.{Ty, Expr, Exprs, Stmt, Variable, Program}
use Rattle.cpc_convert_image_laws.specs.Images.{Readings}
use Rattle.cpc_forms.specs.Graph.{at_node}
use Rattle.cpc_chains_store_laws.specs.Driver.{value_field}
use Rattle.cpc_convert_flat_laws.specs.Locals.{loads_one, saves_one, declares_one}
use Rattle.cpc_chains_store_laws.specs.Frames.{gives_one, frame_through}
use Rattle.cpc_convert_routines.specs.Names.{frame_name, value_name, to_name}
use Rattle.cpc_convert_flat_laws.specs.Boxes.{unboxes_one}
use Rattle.cpc_convert_routines.specs.Routines.{Routine, local_of}
use Rattle.cpc_chains_event.specs.Lines.{Line, node_lines, gives_from, save_of}
use Rattle.cpc_chains_event.specs.Pieces.{load_of}
use Rattle.cpc_chains_event.specs.Rows.{put_lines, put_statement}

-- lines before this number, as statements
abbrev pub statements_before : (following : Option ℕ) → List Line → List Stmt
statements_before o ls = map put_statement (put_lines o ls)

-- the lines of the node of a number
abbrev pub lines_at : Program → Routine → ℕ → List Line
lines_at p r n = at_node [] (node_lines p r) (slice_get r.split.graph.nodes n)

-- the place for a value that arrives, where there is one
abbrev pub place_in : Option (Option Expr) → Option Expr
place_in (Some o) = o
place_in None = None

-- the value of this type that arrives, loaded where it is put somewhere
abbrev pub loads_if : (is_put : Bool) → Ty → List Stmt
loads_if true t = loads_one frame_name (record { variable = value_name; type = t; field = value_field }) ∷ []
loads_if false t = []

-- these boxes are given back
abbrev pub unboxes : Routine → List ℕ → List Stmt
unboxes r ks = map (λ k. unboxes_one (local_of r k).called) ks

-- arguments are evaluated into the fields of these parameters in a frame of this tag, the first of which is the k-th
abbrev pub gives : (tag : Text) → (k : ℕ) → List Variable → Readings → Exprs → List Stmt
gives tag k xs names es = map (gives_one (frame_through to_name tag)) (gives_from k xs names es)

-- a variable is saved in a frame of this tag
abbrev pub saves : Routine → (pointer tag : Text) → ℕ → Stmt
saves r to tag k = saves_one (frame_through to tag) (save_of (local_of r k))

-- the local of a variable is loaded, or declared
abbrev pub loads : Routine → ℕ → Stmt
loads r k = loads_one frame_name (load_of (local_of r k))

abbrev pub declares : Routine → ℕ → Stmt
declares r k = declares_one (local_of r k)
