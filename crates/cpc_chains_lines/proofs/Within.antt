-- The nodes of the function whose lines are written, the variables that its leaders keep, and what is found by a name.
use Rattle.std.proofs.Common.{◌≡◌, ℕ, zero, suc, ◌+◌, ◌<◌, ◌≤◌, Bool, true, false, if◌then◌else◌, nat_lt, bytes_eq, List, [], ◌∷◌, length, Some, None, option_map, slice_get, get_or, All, arith, sym, ap, subst, ◌∙◌}
use Rattle.std.proofs.lemmas.Bool.Decides.{nat_tests}
use Rattle.std.proofs.lemmas.List.{length-map}
use Rattle.std.proofs.lemmas.List.Elements.{All-get_or}
use Rattle.std.proofs.lemmas.Option.{slice_get-map, slice_get_within, slice_get_past, get_or_from_slice_get}
use Rattle.cpc_base.specs.Bytes.{Text}
use Rattle.cpc_base.proofs.Lists.{none_not_some, if_some_gives}
use Rattle.cpc_tree.specs.Erase.{Names, Table}
use Rattle.cpc_tree.specs.Registers as R
use Rattle.cpc_tree.specs.Lists.{holds_number}
use Rattle.cpc_tree.specs.Syntax as S
use Rattle.cpc_forms.specs.Flow.{Place}
use Rattle.cpc_forms.specs.Graph as G
use Rattle.cpc_forms_code.specs.Graphs.{node_seen}
use Rattle.cpc_forms_code.specs.declared.graph.Node.{Node}
use Rattle.cpc_lift_laws.specs.Search.{Link, keepers, closure_from}
use Rattle.cpc_convert_routines.specs.Routines.{Routine, closure_of}
use Rattle.cpc_convert_names.specs.Book.{find}
use Rattle.cpc_convert_names.specs.Called.{name_in, variables_in, nodes_in}
use Rattle.cpc_convert_names.specs.declared.called.Called.{Called}
use Rattle.cpc_chains_lines.specs.declared.around.Around.{Around}
use Rattle.cpc_convert_needs.specs.Known.{plain_seen}
use Rattle.cpc_chains_lines.specs.Around.{Stands, Knows, IsVariable}
use Rattle.cpc_chains_lines.proofs.Standing.{variables_are}

-- ---- nodes

pub knows_at : (source : Table) (from to : Names) (p : S.Program) (r : Routine) (a : Around) → Stands source from to p r a → (k : ℕ) (n : Node) → slice_get (nodes_in a.called.now.lifted.now) k ≡ Some n → Knows source from to p a n
knows_at source from to p r a st k n at =
    let ns = nodes_in a.called.now.lifted.now in
    subst (Knows source from to p a) (get_or_from_slice_get ns k n n at) (All-get_or (Knows source from to p a) ns k n (slice_get_within ns k n at) st.routine.known)

pub node_at : (source : Table) (from to : Names) (p : S.Program) (r : Routine) (a : Around) → Stands source from to p r a → (k : ℕ) (n : Node) → slice_get (nodes_in a.called.now.lifted.now) k ≡ Some n
    → slice_get r.split.graph.nodes k ≡ Some (node_seen from (variables_in a.called.now.lifted.now) n)
node_at source from to p r a st k n at =
    let seen = node_seen from (variables_in a.called.now.lifted.now) in
    ap (λ (l : List G.Node). slice_get l k) (sym st.routine.nodes) ∙ (slice_get-map seen (nodes_in a.called.now.lifted.now) k ∙ ap (option_map seen) at)

pub no_node_at : (source : Table) (from to : Names) (p : S.Program) (r : Routine) (a : Around) → Stands source from to p r a → (k : ℕ) (xs : List Node) → xs ≡ nodes_in a.called.now.lifted.now → false ≡ nat_lt k (length xs)
    → slice_get r.split.graph.nodes k ≡ None
no_node_at source from to p r a st k xs same test =
    let ns = nodes_in a.called.now.lifted.now in
    let seen = node_seen from (variables_in a.called.now.lifted.now) in
    let long : length xs ≡ length ns = ap length same in
    let le : length xs ≤ k = grind (arith, nat_tests) in
    let past : length ns ≤ k = omega (arith, long, le) in
    ap (λ (l : List G.Node). slice_get l k) (sym st.routine.nodes) ∙ (slice_get-map seen ns k ∙ ap (option_map seen) (slice_get_past ns k past))

-- ---- what leaders keep

more_small : (m : ℕ) (b : Bool) (k : ℕ) (ks : List ℕ) → k < m → All (λ j. j < m) ks → All (λ j. j < m) (if b then k ∷ ks else ks)
more_small m true k ks lt all zero d h = lt
more_small m true k ks lt all (suc i) d h = all i d (omega (arith, h))
more_small m false k ks lt all i d h = all i d h

closure_small : (ways uses : List Link) (l m k n : ℕ) → k + n ≡ m → All (λ j. j < m) (closure_from ways uses l k n)
closure_small ways uses l m k zero e i d h = absurd (omega (arith, h))
closure_small ways uses l m k (suc n) e i d h =
    more_small m (holds_number (keepers ways uses k) l) k (closure_from ways uses l (suc k) n) (omega (arith, e)) (closure_small ways uses l m (suc k) n (omega (arith, e))) i d h

-- they are variables of the function
pub kept_are : (source : Table) (from to : Names) (p : S.Program) (r : Routine) (a : Around) → Stands source from to p r a → (l : Place) → All (IsVariable a) (closure_of r l)
kept_are source from to p r a st l i d h =
    let long : length (R.variables r.function) ≡ length (variables_in a.called.now.lifted.now) =
    ap length (variables_are source from to p r a st) ∙ length-map (variables_in a.called.now.lifted.now) (plain_seen to) in
    let small : get_or (closure_of r l) i d < length (R.variables r.function) = closure_small r.ways r.uses _ (length (R.variables r.function)) 0 (length (R.variables r.function)) (omega arith) i d h in
    omega (arith, long, small)

-- ---- what is found

pub found : (P : Called → Type 0) (names : Names) (cs : List Called) (x : Text) (c : Called) → All P cs → find names cs x ≡ Some c → P c
found P names [] x c all e = absurd (none_not_some c e)
found P names (d ∷ cs) x c all e = if_some_gives P d c (bytes_eq (name_in names d.lifted.now) x) (find names cs x) (all 0 d (omega arith)) (found P names cs x c (λ k u h. all (suc k) u (omega (arith, h)))) e
