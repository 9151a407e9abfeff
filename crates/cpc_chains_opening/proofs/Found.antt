-- A cps function is found where it is called.
use Rattle.std.proofs.Common.{◌≡◌, ℕ, suc, ◌+◌, ◌<◌, ◌≤◌, ◌||◌, drop, Bool, true, false, List, length, get_or, is_some, map, slice_get, nat_lt, Option, Some, None, option_map, refl, sym, ◌∙◌, ap, arith}
use Rattle.std.proofs.Math.Seq.{drop-cons}
use Rattle.std.proofs.lemmas.Bool.Decides.{nat_tests}
use Rattle.std.proofs.lemmas.List.{drop_all}
use Rattle.std.proofs.lemmas.Option.{slice_get-map, slice_get_read, slice_get_past}
use Rattle.cpc_base.specs.Bytes.{Text}
use Rattle.cpc_tree.specs.Erase.{Names}
use Rattle.cpc_tree.specs.Syntax.{Expr, ENamed, Exprs, Stmt, Call, Program}
use Rattle.cpc_tree.specs.Points.{Simple}
use Rattle.cpc_tree.specs.Typing.{function_named}
use Rattle.cpc_meaning.specs.Act.{AtStatement}
use Rattle.cpc_meaning.specs.Threads.{is_cps}
use Rattle.cpc_forms.specs.Graph as G
use Rattle.cpc_forms_code.specs.declared.boxed.Variable as V
use Rattle.cpc_forms_code.specs.declared.graph.Node.{Node}
use Rattle.cpc_forms_code.specs.Graphs.{node_seen}
use Rattle.cpc_chains_event.specs.Pieces.{is_entry}
use Rattle.cpc_convert_routines.specs.Taken.{any_node}
use Rattle.cpc_convert_routines.specs.Routines.{Routine}
use Rattle.cpc_convert_names.specs.Book.{find}
use Rattle.cpc_convert_names.specs.declared.called.Called.{Called}

-- a call is that of a cps function where one is found
pub entered : (p : Program) (from : Names) (cs : List Called) (s : Stmt) (o : Option Expr) (f : Text) (es : Exprs) (b : Bool) → s ≡ Call o (ENamed f) es → is_cps (function_named p f) ≡ is_some (find from cs f) → b ≡ is_some (find from cs f) → b ≡ is_entry p (AtStatement (Simple s))
entered p from cs s o f es b e meant h = h ∙ (sym meant ∙ ap (λ x. is_entry p (AtStatement (Simple x))) (sym e))

-- ---- nodes

-- what is at the node of a number
pub node_there : (from : Names) (vs : List V.Variable) (ns found : List Node) (nodes : List G.Node) (k : ℕ) (n : Node) (test : G.Node → Bool) → map (node_seen from vs) ns ≡ nodes → found ≡ ns → true ≡ nat_lt k (length found) → n ≡ get_or found k n
    → test (node_seen from vs n) ≡ G.at_node false test (slice_get nodes k)
node_there from vs ns found nodes k n test e same lt is =
    let below : k < length found = grind (arith, nat_tests) in
    let at : slice_get ns k ≡ Some n = ap (λ (l : List Node). slice_get l k) (sym same) ∙ slice_get_read found (length found) k n refl below is in
    sym (ap (λ (l : List G.Node). G.at_node false test (slice_get l k)) (sym e) ∙ ap (G.at_node false test) (slice_get-map (node_seen from vs) ns k ∙ ap (option_map (node_seen from vs)) at))

pub node_past : (from : Names) (vs : List V.Variable) (ns found : List Node) (nodes : List G.Node) (k : ℕ) (test : G.Node → Bool) → map (node_seen from vs) ns ≡ nodes → found ≡ ns → false ≡ nat_lt k (length found) → false ≡ G.at_node false test (slice_get nodes k)
node_past from vs ns found nodes k test e same ge =
    let past : length found ≤ k = grind (arith, nat_tests) in
    let at : slice_get ns k ≡ None = ap (λ (l : List Node). slice_get l k) (sym same) ∙ slice_get_past found k past in
    sym (ap (λ (l : List G.Node). G.at_node false test (slice_get l k)) (sym e) ∙ ap (G.at_node false test) (slice_get-map (node_seen from vs) ns k ∙ ap (option_map (node_seen from vs)) at))

-- ---- a search

module _ (r : Routine) (test : G.Node → Bool) where
  searched : (ns : List ℕ) (i : ℕ) → i < length ns → any_node r test (drop i ns) ≡ (G.at_node false test (slice_get r.split.graph.nodes (get_or ns i 0)) || any_node r test (drop (i + 1) ns))
  searched ns i lt =
      let step : suc i ≡ i + 1 = omega arith in
      ap (any_node r test) (drop-cons ns i 0 lt) ∙ ap (λ k. G.at_node false test (slice_get r.split.graph.nodes (get_or ns i 0)) || any_node r test (drop k ns)) step

  -- one is so
  pub one_found : (ns : List ℕ) (i : ℕ) (b total : Bool) → i < length ns → b ≡ true → b ≡ G.at_node false test (slice_get r.split.graph.nodes (get_or ns i 0)) → any_node r test (drop i ns) ≡ total → true ≡ total
  one_found ns i b total lt t e before = ap (λ x. x || any_node r test (drop (i + 1) ns)) (sym t ∙ e) ∙ (sym (searched ns i lt) ∙ before)

  -- one is not
  pub one_past : (ns : List ℕ) (i : ℕ) (b total : Bool) → i < length ns → b ≡ false → b ≡ G.at_node false test (slice_get r.split.graph.nodes (get_or ns i 0)) → any_node r test (drop i ns) ≡ total → any_node r test (drop (i + 1) ns) ≡ total
  one_past ns i b total lt t e before = ap (λ x. x || any_node r test (drop (i + 1) ns)) (sym t ∙ e) ∙ (sym (searched ns i lt) ∙ before)

  -- none is
  pub none_found : (ns : List ℕ) (i : ℕ) (total : Bool) → length ns ≤ i → any_node r test (drop i ns) ≡ total → false ≡ total
  none_found ns i total past before = ap (any_node r test) (sym (drop_all i ns past)) ∙ before
