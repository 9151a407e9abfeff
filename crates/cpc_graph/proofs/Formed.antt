-- The nodes that are made are the graph of the function.
use Rattle.std.proofs.Common.{◌≡◌, ℕ, ◌+◌, ◌≤◌, List, [], ◌∷◌, ◌++◌, length, map, take, Option, Some, None, refl, sym, ap, ◌∙◌, arith, length-append}
use Rattle.std.proofs.lemmas.List.{length-map, take_all}
use Rattle.cpc_base.specs.Bytes.{Text}
use Rattle.cpc_tree.specs.Erase.{Names, stmt_of, function_of}
use Rattle.cpc_tree.specs.Syntax.{Program, Function}
use Rattle.cpc_tree.specs.Points.{Point, End}
use Rattle.cpc_forms.specs.Order.{points, points_of}
use Rattle.cpc_forms.specs.Graph as G
use Rattle.cpc_forms.specs.Table as T
use Rattle.cpc_forms.specs.Table.{labels_of, from_body, nodes_of}
use Rattle.cpc_graph_laws.proofs.Tabled.{nodes_made, tables_are_graphs}
use Rattle.cpc_forms_code.specs.declared.boxed.Variable.{Variable}
use Rattle.cpc_forms_code.specs.declared.boxed.BoxedFunction.{BoxedFunction}
use Rattle.cpc_forms_code.specs.declared.graph.Node.{Node}
use Rattle.cpc_forms_code.specs.declared.graph.GraphFunction.{GraphFunction}
use Rattle.cpc_forms_code.specs.Programs.{program_by}
use Rattle.cpc_forms_code.specs.declared.boxed.BoxedPoint as B
use Rattle.cpc_forms_code.specs.Points.{BoxedPoint, point_seen, IsBoxed}
use Rattle.cpc_forms_code.specs.Graphs.{node_seen, IsGraph}
use Rattle.cpc_forms_code.proofs.Forgotten.{point_of, points_forgotten}
use Rattle.cpc_graph.specs.declared.marks.Mark.{Mark}
use Rattle.cpc_graph.specs.declared.labels.Labels.{Labels}
use Rattle.cpc_graph.specs.declared.onward.Way.{Way}
use Rattle.cpc_graph.specs.Ends.{ends_of}
use Rattle.cpc_graph.specs.Labels.{labels_seen, AreLabels, FindsLabels}
use Rattle.cpc_graph.specs.Ways.{way, ways_of}
use Rattle.cpc_graph.specs.Joined.{joined}
use Rattle.cpc_graph.proofs.Nodes.{as_many, nodes_join}

-- where control goes on from a body whose end has this number
abbrev pub onward : ℕ → (Text → Option ℕ) → T.Onward
onward end label = record { next = Some end; broken = None; continued = None; label = label }

abbrev graph : List G.Node → G.Graph
graph ns = record { entry = 0; nodes = ns }

-- there are as many ways as nodes
same_length : (p : Program) (f : Function) (xs : List BoxedPoint) (bs : List B.BoxedPoint) (ways : List Way) → length xs ≡ length bs → xs ≡ map point_of (nodes_of p f) → ways ≡ ways_of f.body 0 (from_body f.body) ++ way None None ∷ [] → length bs ≡ length ways
same_length p f xs bs ways c e g =
    let h = ap length e in
    let i = length-map (nodes_of p f) point_of in
    let j = ap length (sym (nodes_made p f)) in
    let k = length-map (points f.body) (G.node_of p f) in
    let l = length-append (points_of f.body) (End ∷ []) in
    let m = ap length g in
    let n = length-append (ways_of f.body 0 (from_body f.body)) (way None None ∷ []) in
    let o = as_many f.body 0 (from_body f.body) in
    let q : length {A = Point} (End ∷ []) ≡ 1 = refl in
    let r : length (way None None ∷ []) ≡ 1 = refl in
    omega arith

pub is_graph : (b : BoxedFunction) (marks : List Mark) (ends : List ℕ) (end : ℕ) (t : Labels) (ways : List Way) (nodes : List Node)
    → ((names : Names) → end ≡ 0 + length (points_of (stmt_of names b.function.now.body)))
    → ((names : Names) → ends ≡ ends_of (stmt_of names b.function.now.body) 0)
    → ((names : Names) → labels_seen names marks ≡ labels_of (stmt_of names b.function.now.body) 0)
    → AreLabels marks t
    → ((names : Names) (label : Text → Option ℕ) → FindsLabels names t label → ends ≡ ends_of (stmt_of names b.function.now.body) 0 → ways ≡ ways_of (stmt_of names b.function.now.body) 0 (onward end label) ++ way None None ∷ [])
    → ((names : Names) (vs : List Variable) → length b.points.items ≡ length ways → map (node_seen names vs) nodes ≡ joined 0 (map (point_seen names vs) b.points.items) ways)
    → IsBoxed b.source.now b.function.now b.variables.items b.points.items → IsGraph b nodes
is_graph b marks ends end t ways nodes number numbers labels table gone made is = record {
  graph = λ names told.
      let p = program_by names b.source.now in
      let f = function_of names b.function.now in
      let vs = b.variables.items in
      let finds : FindsLabels names t (T.marked (labels_of f.body 0)) = record { each = λ x. table.each names told.spells.apart x ∙ ap (λ l. T.marked l (names x)) (labels names) } in
      let at : end ≡ length (points_of f.body) = let h : end ≡ 0 + length (points_of f.body) = number names in omega arith in
      let ws : ways ≡ ways_of f.body 0 (from_body f.body) ++ way None None ∷ [] =
      gone names (T.marked (labels_of f.body 0)) finds (numbers names) ∙ ap (λ k. ways_of f.body 0 (onward k (T.marked (labels_of f.body 0))) ++ way None None ∷ []) at in
      let ps : map (point_seen names vs) b.points.items ≡ map point_of (nodes_of p f) = is.points names told ∙ (points_forgotten p f ∙ ap (map point_of) (nodes_made p f)) in
      let long : length b.points.items ≡ length ways = same_length p f (map (point_seen names vs) b.points.items) b.points.items ways (length-map b.points.items (point_seen names vs)) ps ws in
      ap graph (made names vs long ∙ (ap (λ l. joined 0 l ways) ps ∙ (ap (joined 0 (map point_of (nodes_of p f))) ws ∙ sym (nodes_join p f))))
      ∙ sym (tables_are_graphs p f);
}

map_both : (xs : List GraphFunction) → map (λ (g : GraphFunction). g.boxed.now.function.now) xs ≡ map (λ (b : BoxedFunction). b.function.now) (map (λ (g : GraphFunction). g.boxed.now) xs)
map_both [] = refl
map_both (x ∷ xs) = ap (λ l. x.boxed.now.function.now ∷ l) (map_both xs)

-- the functions of the graphs are those that were boxed
pub functions_same : (gs : List GraphFunction) (bs : List BoxedFunction) (i : ℕ) → map (λ (g : GraphFunction). g.boxed.now) gs ≡ take i bs → length bs ≤ i → map (λ (g : GraphFunction). g.boxed.now.function.now) gs ≡ map (λ (b : BoxedFunction). b.function.now) bs
functions_same gs bs i e h = map_both gs ∙ ap (map (λ (b : BoxedFunction). b.function.now)) (e ∙ take_all i bs h)
