-- Split graphs of the code.
use Rattle.std.specs.Prelude.{◌≡◌, ℕ, List, map, Option, option_map}
use Rattle.cpc_tree.specs.Erase.{Names, function_of}
use Rattle.cpc_forms.specs.Graph.{graph_of}
use Rattle.cpc_forms.specs.Flow as P
use Rattle.cpc_forms.specs.Split as S
use Rattle.cpc_forms_code.specs.declared.graph.GraphFunction.{GraphFunction}
use Rattle.cpc_forms_code.specs.declared.split.Owner.{Owner}
use Rattle.cpc_forms_code.specs.declared.split.Owner.TheVariants as O
use Rattle.cpc_forms_code.specs.Programs.{program_by, IsSpelled}
use Rattle.cpc_forms_code.specs.Graphs.{graph_seen}

-- the place of an owner
abbrev pub place_of : Owner → P.Place
place_of O.Start = P.Start
place_of (O.Leader n) = P.At n

-- the owners, as places
abbrev pub places_of : List (Option Owner) → List (Option P.Place)
places_of os = map (option_map place_of) os

-- a graph with these owners and leaders
abbrev pub split_seen : Names → GraphFunction → List (Option Owner) → List ℕ → S.Split
split_seen names g os ls = record { graph = graph_seen names g.boxed.now.variables.items g.nodes.items; owners = places_of os; leaders = ls }

-- these are the owners and leaders of a graph, by any texts that tell the names of its program
pub record IsSplit (g : GraphFunction) (os : List (Option Owner)) (ls : List ℕ) : Type 0 where
  pub split : (names : Names) → IsSpelled names g.boxed.now.source.now g.boxed.now.function.now
      → split_seen names g os ls ≡ S.split_of (graph_of (program_by names g.boxed.now.source.now) (function_of names g.boxed.now.function.now))
