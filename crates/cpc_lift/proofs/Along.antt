-- Gathered along the nodes, ways and uses are those of the code of the split graph.
use Rattle.std.proofs.Common.{◌≡◌, ℕ, zero, suc, List, [], ◌∷◌, ◌++◌, cond, length, slice_get, Option, Some, None, option_map, refl, sym, ap, ◌∙◌, append_assoc, length-append, arith}
use Rattle.cpc_base.specs.Bytes.{Text}
use Rattle.cpc_tree.specs.Syntax.{Program}
use Rattle.cpc_tree.specs.Points.{Nothing}
use Rattle.cpc_meaning.specs.Act.{AtStatement}
use Rattle.cpc_forms.specs.Flow.{Place}
use Rattle.cpc_forms.specs.Graph.{Node, at_node}
use Rattle.cpc_forms.specs.Split.{Split, come_to, InGraph}
use Rattle.cpc_lift_laws.specs.Nodes.{links_to, way_to, ways_from, uses_from, ways_of_nodes, uses_of_nodes}
use Rattle.cpc_lift_laws.specs.Used.{used_at, is_left}
use Rattle.cpc_forms_code.specs.Lifts.{owner_number, position_owner, positions_from, code_of}
use Rattle.cpc_lift.specs.Ways.{way_of}
use Rattle.cpc_lift.specs.Gathered.{ways_by, uses_by, ways_along, uses_along}

get_middle : (xs ys : List Node) (n : ℕ) (x : Node) → n ≡ length xs → slice_get (xs ++ x ∷ ys) n ≡ Some x
get_middle [] ys zero x e = refl
get_middle [] ys (suc n) x e = absurd (let h : suc n ≡ 0 = e in omega arith)
get_middle (y ∷ xs) ys zero x e = absurd (let h : 0 ≡ length (y ∷ xs) = e in omega arith)
get_middle (y ∷ xs) ys (suc n) x e = get_middle xs ys n x (let h : suc n ≡ length (y ∷ xs) = e in omega arith)

module _ (p : Program) (s : Split) (f : Text) (boxes : List ℕ) where
  one_way : (l : Place) (o : Option ℕ) → way_to (code_of p s) f position_owner (owner_number l) (option_map (come_to (Some s) l) o) ≡ way_of l s.owners o
  one_way l None = refl
  one_way l (Some m) = refl

  -- the ways from a node
  node_ways : (l : Place) (n : ℕ) (node : Node) → slice_get s.graph.nodes n ≡ Some node → ways_from (code_of p s) f position_owner (InGraph l n) ≡ ways_by s.owners l node
  node_ways l n node e =
      ap (λ (o : Option Node). way_to (code_of p s) f position_owner (owner_number l) (option_map (come_to (Some s) l) (at_node None (λ x. x.yes) o))
      ++ (way_to (code_of p s) f position_owner (owner_number l) (option_map (come_to (Some s) l) (at_node None (λ x. x.no) o))
      ++ way_to (code_of p s) f position_owner (owner_number l) (option_map (come_to (Some s) l) (at_node None (λ x. x.arrival) o)))) e
      ∙ (ap (λ v. v ++ (way_to (code_of p s) f position_owner (owner_number l) (option_map (come_to (Some s) l) node.no) ++ way_to (code_of p s) f position_owner (owner_number l) (option_map (come_to (Some s) l) node.arrival))) (one_way l node.yes)
      ∙ (ap (λ v. way_of l s.owners node.yes ++ (v ++ way_to (code_of p s) f position_owner (owner_number l) (option_map (come_to (Some s) l) node.arrival))) (one_way l node.no)
      ∙ ap (λ v. way_of l s.owners node.yes ++ (way_of l s.owners node.no ++ v)) (one_way l node.arrival)))

  -- what a node uses
  node_uses : (l : Place) (n : ℕ) (node : Node) → slice_get s.graph.nodes n ≡ Some node → uses_from (code_of p s) f position_owner boxes (InGraph l n) ≡ uses_by boxes l node
  node_uses l n node e =
      ap (λ (o : Option Node). links_to (owner_number l)
      (used_at (at_node [] (λ x. x.scope) o) (at_node (AtStatement Nothing) (λ x. x.stood) o) ++ cond (is_left (at_node (AtStatement Nothing) (λ x. x.stood) o)) boxes [])) e

  longer : (done : List Node) (node : Node) (n : ℕ) → n ≡ length done → suc n ≡ length (done ++ node ∷ [])
  longer done node n e = let h = length-append done (node ∷ []) in let i : length (node ∷ []) ≡ 1 = refl in omega arith

  -- along the nodes that are left, the first of which has the number n
  pub ways_are : (done rest : List Node) (os : List (Option Place)) (n : ℕ) → s.graph.nodes ≡ done ++ rest → n ≡ length done → length rest ≡ length os
      → ways_of_nodes (code_of p s) f position_owner (positions_from n os) ≡ ways_along s.owners rest os
  ways_are done [] [] n e c k = refl
  ways_are done [] (o ∷ os) n e c k = absurd (let h : 0 ≡ length (o ∷ os) = k in omega arith)
  ways_are done (node ∷ rest) [] n e c k = absurd (let h : length (node ∷ rest) ≡ 0 = k in omega arith)
  ways_are done (node ∷ rest) (None ∷ os) n e c k =
      ways_are (done ++ node ∷ []) rest os (suc n) (e ∙ sym (append_assoc done (node ∷ []) rest)) (longer done node n c) (let h : length (node ∷ rest) ≡ length (None ∷ os) = k in omega arith)
  ways_are done (node ∷ rest) (Some l ∷ os) n e c k =
      ap (λ v. v ++ ways_of_nodes (code_of p s) f position_owner (positions_from (suc n) os)) (node_ways l n node (ap (λ ns. slice_get ns n) e ∙ get_middle done rest n node c))
      ∙ ap (λ v. ways_by s.owners l node ++ v)
      (ways_are (done ++ node ∷ []) rest os (suc n) (e ∙ sym (append_assoc done (node ∷ []) rest)) (longer done node n c) (let h : length (node ∷ rest) ≡ length (Some l ∷ os) = k in omega arith))

  pub uses_are : (done rest : List Node) (os : List (Option Place)) (n : ℕ) → s.graph.nodes ≡ done ++ rest → n ≡ length done → length rest ≡ length os
      → uses_of_nodes (code_of p s) f position_owner boxes (positions_from n os) ≡ uses_along boxes rest os
  uses_are done [] [] n e c k = refl
  uses_are done [] (o ∷ os) n e c k = absurd (let h : 0 ≡ length (o ∷ os) = k in omega arith)
  uses_are done (node ∷ rest) [] n e c k = absurd (let h : length (node ∷ rest) ≡ 0 = k in omega arith)
  uses_are done (node ∷ rest) (None ∷ os) n e c k =
      uses_are (done ++ node ∷ []) rest os (suc n) (e ∙ sym (append_assoc done (node ∷ []) rest)) (longer done node n c) (let h : length (node ∷ rest) ≡ length (None ∷ os) = k in omega arith)
  uses_are done (node ∷ rest) (Some l ∷ os) n e c k =
      ap (λ v. v ++ uses_of_nodes (code_of p s) f position_owner boxes (positions_from (suc n) os)) (node_uses l n node (ap (λ ns. slice_get ns n) e ∙ get_middle done rest n node c))
      ∙ ap (λ v. uses_by boxes l node ++ v)
      (uses_are (done ++ node ∷ []) rest os (suc n) (e ∙ sym (append_assoc done (node ∷ []) rest)) (longer done node n c) (let h : length (node ∷ rest) ≡ length (Some l ∷ os) = k in omega arith))
