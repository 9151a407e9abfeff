-- What a routine keeps is what the lifted machine keeps.
use Rattle.std.proofs.Common.{◌≡◌, ℕ, List, [], ◌∷◌, ◌++◌, length, Option, Some, option_map, refl, sym, ◌∙◌, ap}
use Rattle.cpc_base.specs.Bytes.{Text}
use Rattle.cpc_tree.specs.Syntax.{Function, Program}
use Rattle.cpc_tree.specs.Points.{Point}
use Rattle.cpc_tree.specs.Registers.{variables}
use Rattle.cpc_meaning.specs.Plain.{Code}
use Rattle.cpc_meaning.specs.Ways.{ways}
use Rattle.cpc_forms.specs.Graph.{graph_of, graph_if, graph_where}
use Rattle.cpc_forms.specs.Flow.{Place}
use Rattle.cpc_forms.specs.Split.{Split, split_of, splits, split_code, Position}
use Rattle.cpc_lift_laws.specs.Search.{Link, closure}
use Rattle.cpc_lift_laws.specs.Nodes.{ways_from, ways_of_nodes, uses_from, uses_of_nodes}
use Rattle.cpc_lift_laws.specs.Lift.{boxes, variables_in, variable_count}
use Rattle.cpc_convert_routines.specs.Routines.{routine_of, keeper, owner_number, position_owner}
use Rattle.cpc_convert_routines.specs.Named.{IsNamed, IsCps}
use Rattle.cpc_convert_routines.specs.ClosureLaws.{positions_where, ClosuresAreLifted}

module _ (c : Code Point) (parts : Text → Option Split) (f : Text) where
  -- the code of one function alone
  same_ways : (nodes : List Position) → ways_of_nodes (split_code c parts) f position_owner nodes ≡ ways_of_nodes (split_code c (λ x. parts f)) f position_owner nodes
  same_ways [] = refl
  same_ways (a ∷ nodes) = ap (λ ws. ways_from (split_code c parts) f position_owner a ++ ws) (same_ways nodes)

  same_uses : (bs : List ℕ) (nodes : List Position) → uses_of_nodes (split_code c parts) f position_owner bs nodes ≡ uses_of_nodes (split_code c (λ x. parts f)) f position_owner bs nodes
  same_uses bs [] = refl
  same_uses bs (a ∷ nodes) = ap (λ us. uses_from (split_code c parts) f position_owner bs a ++ us) (same_uses bs nodes)

module _ (p : Program) (ok : IsNamed p) (f : Function) (c : IsCps p f) where
  -- a cps function is split
  is_split : splits p f.called ≡ Some (split_of (graph_of p f))
  is_split = ap (option_map split_of) (ap (graph_where p) (ok.found f c.has) ∙ ap (λ b. graph_if b p f) c.mode)

  is_counted : variable_count p f.called ≡ length (variables f)
  is_counted = ap variables_in (ok.found f c.has)

  abbrev links_with : Option Split → List Link
  links_with o = ways_of_nodes (split_code (ways p).code (λ x. o)) f.called position_owner (positions_where o)

  abbrev uses_with : Option Split → List Link
  uses_with o = uses_of_nodes (split_code (ways p).code (λ x. o)) f.called position_owner (boxes p f.called) (positions_where o)

  -- each closure
  closure_lifted : (l : Place)
      → closure (links_with (Some (split_of (graph_of p f)))) (uses_with (Some (split_of (graph_of p f)))) (length (variables f)) (owner_number l)
      ≡ closure (ways_of_nodes (split_code (ways p).code (splits p)) f.called position_owner (positions_where (splits p f.called))) (uses_of_nodes (split_code (ways p).code (splits p)) f.called position_owner (boxes p f.called) (positions_where (splits p f.called))) (variable_count p f.called) (owner_number l)
  closure_lifted l =
      ap (λ ws. closure ws (uses_with (Some (split_of (graph_of p f)))) (length (variables f)) (owner_number l)) (ap links_with (sym is_split) ∙ sym (same_ways (ways p).code (splits p) f.called (positions_where (splits p f.called))))
      ∙ (ap (λ us. closure (ways_of_nodes (split_code (ways p).code (splits p)) f.called position_owner (positions_where (splits p f.called))) us (length (variables f)) (owner_number l))
      (ap uses_with (sym is_split) ∙ sym (same_uses (ways p).code (splits p) f.called (boxes p f.called) (positions_where (splits p f.called))))
      ∙ ap (λ n. closure (ways_of_nodes (split_code (ways p).code (splits p)) f.called position_owner (positions_where (splits p f.called))) (uses_of_nodes (split_code (ways p).code (splits p)) f.called position_owner (boxes p f.called) (positions_where (splits p f.called))) n (owner_number l)) (sym is_counted))

pub closures_lifted : ClosuresAreLifted
closures_lifted p ok f c l = closure_lifted p ok f c (keeper (routine_of p f).split l)
