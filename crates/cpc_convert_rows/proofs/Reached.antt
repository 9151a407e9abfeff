-- What a piece reaches, and the leaders among it.
use Rattle.std.proofs.Common.{◌≡◌, ℕ, ◌+◌, ◌<◌, not, true, List, [], ◌∷◌, ◌++◌, length, take, slice_get, get_or, Option, Some, None, option_map, refl, sym, ◌∙◌, ap, subst}
use Rattle.std.proofs.lemmas.List.{append_assoc, take_more, length-map}
use Rattle.std.proofs.lemmas.Option.{slice_get-map}
use Rattle.cpc_base.proofs.Lists.{append_empty}
use Rattle.cpc_forms.specs.Graph.{Node, at_node}
use Rattle.cpc_forms.specs.Flow.{as_list}
use Rattle.cpc_convert_routines.specs.Routines.{Routine}
use Rattle.cpc_chains_event.specs.Rows.{onwards, onwards_all}
use Rattle.cpc_convert_routines.specs.Nodes.{has_row, stands_with}
use Rattle.cpc_convert_rows.specs.declared.steps.Step.{Step}
use Rattle.cpc_convert_rows.specs.declared.stepped.Stepped.{Stepped}
use Rattle.cpc_convert_rows.specs.Marks.{AreMarked}
use Rattle.cpc_convert_rows.specs.Steps.{no_step, step_of, step_at, IsStepped}

-- a step that may be absent
abbrev pub step_or : Option Step → Step
step_or None = no_step
step_or (Some s) = s

-- where control goes on in a step
abbrev pub step_leads : Step → List ℕ
step_leads s = as_list s.yes ++ (as_list s.no ++ as_list s.behind)

-- where control goes on from a node
pub onwards_of : (r : Routine) (n : ℕ) → at_node [] (onwards r) (slice_get r.split.graph.nodes n) ≡ step_leads (step_at r n)
onwards_of r n = go (slice_get r.split.graph.nodes n)
  where
    go : (o : Option Node) → at_node [] (onwards r) o ≡ step_leads (at_node no_step (step_of r) o)
    go None = refl
    go (Some node) = refl

row_of_step : (r : Routine) (n : ℕ) → has_row r.split n ≡ (step_at r n).has_row
row_of_step r n = go (slice_get r.split.graph.nodes n)
  where
    go : (o : Option Node) → at_node true (λ node. not (stands_with node.stood node.manner)) o ≡ (at_node no_step (step_of r) o).has_row
    go None = refl
    go (Some node) = refl

-- whether a number has a row, as its step says
pub row_is : (r : Routine) (n : ℕ) (s : Step) → s ≡ step_at r n → s.has_row ≡ has_row r.split n
row_is r n s e = ap (λ (x : Step). x.has_row) e ∙ sym (row_of_step r n)

-- the step that code reads
pub step_read : (r : Routine) (s : Stepped) (n : ℕ) (o : Option Step) → IsStepped r s → o ≡ slice_get s.steps.items n → step_or o ≡ step_at r n
step_read r s n o is e =
    ap step_or (e ∙ (ap (λ xs. slice_get xs n) is.steps ∙ slice_get-map (step_of r) r.split.graph.nodes n)) ∙ go (slice_get r.split.graph.nodes n)
  where
    go : (o : Option Node) → step_or (option_map (step_of r) o) ≡ at_node no_step (step_of r) o
    go None = refl
    go (Some node) = refl

-- three marks at once
pub marked_three : (marks : List ℕ) (ns a b c : List ℕ) → AreMarked marks (((ns ++ a) ++ b) ++ c) → AreMarked marks (ns ++ (a ++ (b ++ c)))
marked_three marks ns a b c = subst (AreMarked marks) (append_assoc (ns ++ a) b c ∙ append_assoc ns a (b ++ c))

-- the marks of where control goes on
pub marked_onwards : (r : Routine) (n : ℕ) (s : Step) (marks : List ℕ) (ns : List ℕ) → s ≡ step_at r n → AreMarked marks (((ns ++ as_list s.yes) ++ as_list s.no) ++ as_list s.behind)
    → AreMarked marks (ns ++ at_node [] (onwards r) (slice_get r.split.graph.nodes n))
marked_onwards r n s marks ns e are =
    subst (λ x. AreMarked marks (ns ++ x)) (ap step_leads e ∙ sym (onwards_of r n))
    (marked_three marks ns (as_list s.yes) (as_list s.no) (as_list s.behind) are)

all_both : (r : Routine) (ms ns : List ℕ) → onwards_all r (ms ++ ns) ≡ onwards_all r ms ++ onwards_all r ns
all_both r [] ns = refl
all_both r (m ∷ ms) ns =
    ap (λ x. at_node [] (onwards r) (slice_get r.split.graph.nodes m) ++ x) (all_both r ms ns)
    ∙ sym (append_assoc (at_node [] (onwards r) (slice_get r.split.graph.nodes m)) (onwards_all r ms) (onwards_all r ns))

-- one node more
pub all_more : (r : Routine) (ns : List ℕ) (i : ℕ) → i < length ns → onwards_all r (take i ns) ++ at_node [] (onwards r) (slice_get r.split.graph.nodes (get_or ns i 0)) ≡ onwards_all r (take (i + 1) ns)
all_more r ns i lt =
    sym (ap (onwards_all r) (take_more ns i 0 lt) ∙ (all_both r (take i ns) (get_or ns i 0 ∷ [])
    ∙ ap (λ x. onwards_all r (take i ns) ++ x) (append_empty (at_node [] (onwards r) (slice_get r.split.graph.nodes (get_or ns i 0))))))

pub as_many : (r : Routine) (s : Stepped) → IsStepped r s → length r.split.graph.nodes ≡ length s.steps.items
as_many r s is = sym (ap (λ l. length l) is.steps ∙ length-map r.split.graph.nodes (step_of r))
