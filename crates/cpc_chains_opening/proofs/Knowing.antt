-- What is known of a function and its variables.
use Rattle.std.proofs.Common.{◌≡◌, ℕ, suc, ◌+◌, ◌<◌, ◌≤◌, not, Bool, true, false, List, [], ◌++◌, length, drop, get_or, All, refl, sym, ◌∙◌, ap, subst, arith}
use Rattle.std.proofs.lemmas.List.{append_assoc, length-map, drop_all}
use Rattle.std.proofs.Math.Seq.{drop-cons}
use Rattle.cpc_base.proofs.Lists.{append_empty}
use Rattle.cpc_tree.specs.Erase.{Names, Table, parameter_of}
use Rattle.cpc_tree.specs.Syntax.{Function, Program}
use Rattle.cpc_forms.specs.Flow.{Place}
use Rattle.cpc_forms_code.specs.declared.boxed.Variable as V
use Rattle.cpc_forms_code.specs.declared.split.Owner.{Owner}
use Rattle.cpc_forms_code.specs.declared.split.Owner.TheVariants as O
use Rattle.cpc_forms_code.specs.Graphs.{node_seen}
use Rattle.cpc_forms_code.specs.Splits.{place_of}
use Rattle.cpc_convert_routines.specs.Routines.{Routine, owner_number, keeper, closure_of, number_before, chosen}
use Rattle.cpc_chains_event.specs.Pieces.{loaded, begun}
use Rattle.cpc_chains_event.specs.Rows.{number_where, numbers_of}
use Rattle.cpc_convert_names.specs.Called.{function_in, variables_in, nodes_in, name_in}
use Rattle.cpc_chains_lines.specs.Around.{Stands, IsVariable, IsNode}
use Rattle.cpc_forms_code.specs.Lifts.{unless}
use Rattle.cpc_chains_lines.specs.Known.{boxes_among}
use Rattle.cpc_chains_lines.specs.declared.around.Around.{Around}
use Rattle.cpc_convert_rows.specs.Steps.{IsOwner, step_of}
use Rattle.cpc_convert_rows.specs.declared.stepped.Stepped.{Stepped}
use Rattle.cpc_chains_opening.specs.Whole.{IsWhole, rows_in}
use Rattle.cpc_chains_opening.proofs.Within.{loaded_all, begun_all, boxes_within, rows_all, stubs_all, numbers_all}

module _ (source : Table) (from to : Names) (p : Program) (r : Routine) (a : Around) (s : Stands source from to p r a) where
  pub called_is : name_in to a.called.now.lifted.now ≡ r.function.called
  called_is = sym (ap (λ (f : Function). f.called) (s.routine.function ∙ s.routine.alike.function))

  pub many_parameters : length (function_in a.called.now.lifted.now).parameters.items ≡ length r.function.parameters
  many_parameters = sym (ap (λ (f : Function). length f.parameters) s.routine.function ∙ length-map (function_in a.called.now.lifted.now).parameters.items (parameter_of from))

-- the closure of the keeper
pub kept_by : (from : Names) (p : Program) (r : Routine) (a : Around) (s : Stepped) (l : Place) → IsWhole from p r a s → owner_number (keeper r.split l) < length (rows_in a) → get_or (rows_in a) (owner_number (keeper r.split l)) [] ≡ closure_of r l
kept_by from p r a s l w below = w.complete.closures (owner_number (keeper r.split l)) below

where_before : (b : Bool) (n : ℕ) (rest : List ℕ) → number_where b n ++ rest ≡ number_before b n rest
where_before true n rest = refl
where_before false n rest = refl

-- when none is left
pub chosen_done : (test : ℕ → Bool) (ns : List ℕ) (i : ℕ) (all x : List ℕ) → length ns ≤ i → all ++ chosen test (drop i ns) ≡ x → all ≡ x
chosen_done test ns i all x past e = sym (append_empty all) ∙ (ap (λ ks. all ++ chosen test ks) (sym (drop_all i ns past)) ∙ e)

where_unless : (b : Bool) (n : ℕ) (rest : List ℕ) → number_where (not b) n ++ rest ≡ unless b n rest
where_unless true n rest = refl
where_unless false n rest = refl

-- the boxes that are left, behind one more
pub boxes_left : (vs : List V.Variable) (i : ℕ) (d : V.Variable) (all new : List ℕ) → i < length vs → new ≡ all ++ number_where (not (get_or vs i d).is_register) i
    → new ++ boxes_among (i + 1) (drop (i + 1) vs) ≡ all ++ boxes_among i (drop i vs)
boxes_left vs i d all new lt e =
    let step : suc i ≡ i + 1 = omega arith in
    let b = (get_or vs i d).is_register in
    ap (λ r. r ++ boxes_among (i + 1) (drop (i + 1) vs)) e
    ∙ (append_assoc all (number_where (not b) i) (boxes_among (i + 1) (drop (i + 1) vs))
    ∙ ap (λ r. all ++ r) (ap (λ k. number_where (not b) i ++ boxes_among k (drop k vs)) (sym step)
    ∙ (where_unless b i (boxes_among (suc i) (drop (suc i) vs)) ∙ ap (boxes_among i) (sym (drop-cons vs i d lt)))))

-- a step for each node
pub many : (from : Names) (p : Program) (r : Routine) (a : Around) (s : Stepped) → IsWhole from p r a s → length s.steps.items ≡ length (nodes_in a.called.now.lifted.now)
many from p r a s w =
    ap length w.stepped.steps
    ∙ (length-map r.split.graph.nodes (step_of r)
    ∙ (ap length (sym w.complete.of.nodes) ∙ length-map (nodes_in a.called.now.lifted.now) (node_seen from (variables_in a.called.now.lifted.now))))

-- an owner that is no start is a node
pub owner_within : (from : Names) (p : Program) (r : Routine) (a : Around) (s : Stepped) (n : ℕ) → IsWhole from p r a s → suc n < suc (length s.steps.items) → n < length (nodes_in a.called.now.lifted.now)
owner_within from p r a s n w lt = subst (λ k. n < k) (many from p r a s w) (omega (arith, lt))

-- it is there
pub keeper_below : (from : Names) (p : Program) (r : Routine) (a : Around) (s : Stepped) (o : Owner) → IsWhole from p r a s → IsOwner s o → owner_number (keeper r.split (place_of o)) < length (rows_in a)
keeper_below from p r a s O.Start w of = w.complete.keeps
keeper_below from p r a s (O.Leader n) w of = subst (λ k. suc n < k) (sym w.complete.long) (let lt = owner_within from p r a s n w of in omega (arith, lt))

-- what a piece loads are variables
pub loaded_within : (from : Names) (p : Program) (r : Routine) (a : Around) (s : Stepped) (l : Place) → IsWhole from p r a s → All (IsVariable a) (loaded r l)
loaded_within from p r a s l w = loaded_all (IsVariable a) r l (w.complete.kept l)

-- and what it begins
pub begun_within : (source : Table) (from to : Names) (p : Program) (r : Routine) (a : Around) (s : Stepped) (l : Place) → Stands source from to p r a → IsWhole from p r a s → All (IsVariable a) (begun r l)
begun_within source from to p r a s l st w =
    let vs = variables_in a.called.now.lifted.now in
    begun_all (IsVariable a) r l (w.complete.kept l) (subst (All (IsVariable a)) (sym st.routine.boxes) (boxes_within (length vs) 0 vs (omega arith)))

-- the numbers of its rows are nodes
pub numbers_within : (source : Table) (from to : Names) (p : Program) (r : Routine) (a : Around) (s : Stepped) (l : Place) → Stands source from to p r a → IsWhole from p r a s → All (IsNode a) (numbers_of p r l)
numbers_within source from to p r a s l st w =
    numbers_all (IsNode a) p r l (rows_all (IsNode a) r.split l (λ n e. w.complete.owned l n e)) (stubs_all (IsNode a) r l (subst (All (IsNode a)) (sym st.routine.leaders) st.routine.led))
