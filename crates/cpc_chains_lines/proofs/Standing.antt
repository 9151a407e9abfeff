-- What stands around lines: the function's name, its variables and its nodes.
use Rattle.std.proofs.Common.{◌≡◌, ℕ, ◌<◌, true, nat_lt, List, map, length, Some, option_map, slice_get, get_or, arith, refl, sym, ap, ◌∙◌}
use Rattle.std.proofs.lemmas.Bool.Decides.{nat_tests}
use Rattle.std.proofs.lemmas.Option.{slice_get-map, slice_get_read}
use Rattle.cpc_tree.specs.Erase.{Names, Table}
use Rattle.cpc_tree.specs.Registers as R
use Rattle.cpc_tree.specs.Syntax as S
use Rattle.cpc_forms_code.specs.declared.boxed.Variable as V
use Rattle.cpc_convert_routines.specs.Routines.{Routine, variable_of, variable_or}
use Rattle.cpc_convert_names.specs.Called.{name_in, variables_in}
use Rattle.cpc_chains_lines.specs.declared.around.Around.{Around}
use Rattle.cpc_convert_needs.specs.Known.{plain_seen}
use Rattle.cpc_chains_lines.specs.Around.{Stands}

pub read : {X : Type 0} (ys xs : List X) (k : ℕ) (x : X) → xs ≡ ys → true ≡ nat_lt k (length xs) → x ≡ get_or xs k x → slice_get ys k ≡ Some x
read {X = X} ys xs k x same test is =
    let lt : k < length xs = grind (arith, nat_tests) in
    ap (λ (l : List X). slice_get l k) (sym same) ∙ slice_get_read xs (length xs) k x refl lt is

pub called_is : (source : Table) (from to : Names) (p : S.Program) (r : Routine) (a : Around) → Stands source from to p r a → name_in to a.called.now.lifted.now ≡ r.function.called
called_is source from to p r a st = sym (ap (λ (f : S.Function). f.called) (st.routine.function ∙ st.routine.alike.function))

pub variables_are : (source : Table) (from to : Names) (p : S.Program) (r : Routine) (a : Around) → Stands source from to p r a → R.variables r.function ≡ map (plain_seen to) (variables_in a.called.now.lifted.now)
variables_are source from to p r a st = ap R.variables st.routine.function ∙ (sym st.routine.alike.are ∙ st.routine.alike.variables)

-- a variable of the function, as the code has it
pub variable_at : (source : Table) (from to : Names) (p : S.Program) (r : Routine) (a : Around) → Stands source from to p r a → (k : ℕ) (v : V.Variable) → slice_get (variables_in a.called.now.lifted.now) k ≡ Some v
    → variable_of r k ≡ plain_seen to v
variable_at source from to p r a st k v at =
    ap (λ (xs : List S.Variable). variable_or (slice_get xs k)) (variables_are source from to p r a st)
    ∙ ap variable_or (slice_get-map (plain_seen to) (variables_in a.called.now.lifted.now) k ∙ ap (option_map (plain_seen to)) at)
