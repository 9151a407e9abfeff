-- The names of a piece's locals have marks, so that they hide no name without.
use Rattle.std.proofs.Common.{◌≡◌, ℕ, suc, ◌+◌, Bool, true, false, not, ◌||◌, cond, List, [], ◌∷◌, ◌++◌, map, length, decimal, refl, sym, ◌∙◌, ap, codes}
use Rattle.cpc_base.specs.Bytes.{Text}
use Rattle.cpc_tree.specs.Syntax.{Ty, TyPointer, TyStruct, Variable, Program}
use Rattle.cpc_tree.specs.Lists.{is_empty}
use Rattle.cpc_tree.specs.Typing.{Scope, ALocal, named, item_named}
use Rattle.cpc_tree.specs.Registers.{outer_scope}
use Rattle.cpc_meaning.proofs.Functions.{texts_differ}
use Rattle.cpc_convert_common.specs.Marks.{has_marks}
use Rattle.cpc_convert_common.proofs.Marks.{marked_has}
use Rattle.cpc_forms.specs.Flow.{Place}
use Rattle.cpc_convert_flat_laws.specs.Locals.{Load, loaded_scope, declared_scope}
use Rattle.cpc_convert_routines.specs.Names.{piece_name, frame_name, variable_name}
use Rattle.cpc_convert_routines.specs.Routines.{Routine, locals_of}
use Rattle.cpc_convert_routines.specs.Arriving.{arriving_type}
use Rattle.cpc_convert_routines.specs.Nodes.{rows_nodes}
use Rattle.cpc_chains_event.specs.Rows.{stubs_of}
use Rattle.cpc_chains_event.specs.Pieces.{load_of, value_load, loaded, loads_of, is_wait, is_entry, words_if, words_of, begun, declares_of, piece_function}
use Rattle.cpc_convert_routines.specs.Taken.{takes_value, any_node, is_result}
use Rattle.cpc_chains_event.specs.FlatLaws.{piece_scope}
use Rattle.cpc_chains_event.specs.ScopeLaws.{NothingIsHidden}

-- the names of all of these have marks
abbrev MarkedScope : Scope → Type 0
MarkedScope [] = Unit {0}
MarkedScope (l ∷ scope) = (has_marks l.called ≡ true) × MarkedScope scope

abbrev pub MarkedLoads : List Load → Type 0
MarkedLoads [] = Unit {0}
MarkedLoads (l ∷ ls) = (has_marks l.variable ≡ true) × MarkedLoads ls

abbrev pub MarkedVariables : List Variable → Type 0
MarkedVariables [] = Unit {0}
MarkedVariables (x ∷ xs) = (has_marks x.called ≡ true) × MarkedVariables xs

loaded_marked : (scope : Scope) (n : ℕ) (ls : List Load) → MarkedScope scope → MarkedLoads ls → MarkedScope (loaded_scope scope n ls)
loaded_marked scope n [] h g = h
loaded_marked scope n (l ∷ ls) h g = loaded_marked (record { called = l.variable; type = l.type; slot = n } ∷ scope) (suc n) ls (g.0, h) g.1

declared_marked : (scope : Scope) (n : ℕ) (xs : List Variable) → MarkedScope scope → MarkedVariables xs → MarkedScope (declared_scope scope n xs)
declared_marked scope n [] h g = h
declared_marked scope n (x ∷ xs) h g = declared_marked (record { called = x.called; type = x.type; slot = n } ∷ scope) (suc n) xs (g.0, h) g.1

loads_append : (xs ys : List Load) → MarkedLoads xs → MarkedLoads ys → MarkedLoads (xs ++ ys)
loads_append [] ys h g = g
loads_append (x ∷ xs) ys h g = (h.0, loads_append xs ys h.1 g)

variables_append : (xs ys : List Variable) → MarkedVariables xs → MarkedVariables ys → MarkedVariables (xs ++ ys)
variables_append [] ys h g = g
variables_append (x ∷ xs) ys h g = (h.0, variables_append xs ys h.1 g)

-- a variable's name has marks
variable_marked : (k : ℕ) (x : Text) → has_marks (variable_name k x) ≡ true
unfolding variable_name
variable_marked k x = marked_has x (decimal k)

locals_marked : (r : Routine) (ks : List ℕ) → MarkedVariables (locals_of r ks)
locals_marked r [] = tt
locals_marked r (k ∷ ks) = (variable_marked k _, locals_marked r ks)

local_loads : (xs : List Variable) → MarkedVariables xs → MarkedLoads (map load_of xs)
local_loads [] h = tt
local_loads (x ∷ xs) h = (h.0, local_loads xs h.1)

words_marked : (a b c : Bool) (t : Ty) → MarkedVariables (words_if a b c t)
words_marked true true true t = (refl, (refl, (refl, tt)))
words_marked true true false t = (refl, (refl, tt))
words_marked true false true t = (refl, (refl, tt))
words_marked true false false t = (refl, tt)
words_marked false true true t = (refl, (refl, tt))
words_marked false true false t = (refl, tt)
words_marked false false true t = (refl, tt)
words_marked false false false t = tt

module _ (p : Program) (r : Routine) (l : Place) where
  value_marked : MarkedLoads (value_load p r l)
  value_marked = go (takes_value r l)
    where
      go : (b : Bool) → MarkedLoads (cond b (record { variable = codes "value__"; type = arriving_type p r l; field = codes "value__" } ∷ []) [])
      go true = (refl, tt)
      go false = tt

  pub loads_marked : MarkedLoads (loads_of p r l)
  loads_marked = (refl, loads_append (value_load p r l) _ value_marked (local_loads (locals_of r (loaded r l)) (locals_marked r (loaded r l))))

  pub declares_marked : MarkedVariables (declares_of p r l)
  declares_marked =
      variables_append (words_of p r l) (locals_of r (begun r l)) (words_marked (not (is_empty (stubs_of r l)) || any_node r (λ node. is_wait node.manner node.stood) (rows_nodes r.split l)) (any_node r (λ node. is_entry p node.stood) (rows_nodes r.split l)) (any_node r (λ node. is_result node.stood) (rows_nodes r.split l)) r.function.result) (locals_marked r (begun r l))

  scope_marked : MarkedScope (piece_scope p r l)
  scope_marked =
      let tag = piece_name r.function.called l in
      let first : Scope = record { called = frame_name; type = TyPointer (TyStruct tag); slot = 1 } ∷ outer_scope (piece_function p r l) in
      declared_marked (loaded_scope first 2 (loads_of p r l)) (2 + length (loads_of p r l)) (declares_of p r l) (loaded_marked first 2 (loads_of p r l) (refl, (refl, tt)) loads_marked) declares_marked

-- names with marks hide none without
hides_nothing : (q : Program) (scope : Scope) (x : Text) → has_marks x ≡ false → MarkedScope scope → named q scope x ≡ item_named 0 q x
hides_nothing q [] x e h = refl
hides_nothing q (l ∷ scope) x e h =
    ap (λ b. cond b (ALocal l.slot l.type) (named q scope x)) (texts_differ l.called x (λ (k : l.called ≡ x). let z : true ≡ false = sym h.0 ∙ ap has_marks k ∙ e in absurd (cc))) ∙ hides_nothing q scope x e h.1

pub nothing_hidden : NothingIsHidden
nothing_hidden p q r l x e = hides_nothing q (piece_scope p r l) x e (scope_marked p r l)
