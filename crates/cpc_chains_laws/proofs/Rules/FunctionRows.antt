-- The rows of functions that are made: their prototypes, the driver, and their definitions, whose bodies break no rule.
use Rattle.std.proofs.Common.{◌≡◌, ℕ, zero, suc, ◌&&◌, not, Bool, true, false, List, [], ◌∷◌, map, length, decimal, slice_get, Some, refl, ◌∙◌, ap, codes}
use Rattle.cpc_base.specs.Bytes.{Text}
use Rattle.cpc_base.specs.declared.stop.Dialect.TheVariants as D
use Rattle.cpc_base.proofs.Truth.{and_holds}
use Rattle.cpc_num.specs.declared.kinds.Kind.TheVariants.{Int}
use Rattle.cpc_tree.specs.declared.program.Mode.TheVariants.{Native}
use Rattle.cpc_tree.specs.Registers.{variables}
use Rattle.cpc_tree.specs.Syntax.{TyInt, Variable, Function, FunctionItem, Program}
use Rattle.cpc_tree.specs.Typing.{same_type, is_scalar, parameter_type}
use Rattle.cpc_check_rules.specs.declared.rule.Rule.TheVariants.{Reserved, Twice, Disagree, Undeclared, Incomplete}
use Rattle.cpc_check_rules.specs.Rule.{at_if}
use Rattle.cpc_check_rules.specs.Scopes.{Scope}
use Rattle.cpc_check_rules.specs.FunctionRules.{is_kept, repeated, reserved_breaks, parameter_names}
use Rattle.cpc_check_rules.specs.ItemRules.{outside, same_mode, same_list, agrees, is_item, is_function, is_clash, is_disagreeing, is_extern, is_host_like, types, field_names, cps_breaks, parameters_breaks, sized_breaks, item_breaks}
use Rattle.cpc_check_rules.proofs.Sameness.{type_itself, list_itself}
use Rattle.cpc_check_laws.proofs.Native.NativeValues.{both_none}
use Rattle.cpc_check_laws.proofs.Native.OnePlace.{here, ident_here, variable_here, parameter_here, item_here}
use Rattle.cpc_convert_common.specs.Converted.{prototype, function_item}
use Rattle.cpc_convert_common.specs.Members.{Has}
use Rattle.cpc_convert_flat_laws.specs.Structs.{ScalarFields, NoFields, AndField}
use Rattle.cpc_convert_routines.specs.Names.{variable_name}
use Rattle.cpc_convert_routines.specs.Routines.{variable_if, passed_from, passed}
use Rattle.cpc_chains_event.specs.Pieces.{parameter_of}
use Rattle.cpc_convert_routines.specs.Named.{IsCps}
use Rattle.cpc_chains_event.proofs.Apart.{behind, piece_is, spawner_is}
use Rattle.cpc_chains_event.proofs.Fields.{passed_rise, frame_fields, fields_behind}
use Rattle.cpc_chains_event.proofs.Made.{Made, MadeSpawner, MadePiece}
use Rattle.cpc_chains_laws.specs.Rules.Laws.{BodyFine}
use Rattle.cpc_chains_laws.proofs.Rules.KeptRows.{Source}
use Rattle.cpc_lifted_laws.proofs.Rules.Names.{made_unkept}
use Rattle.cpc_lifted_laws.proofs.Rules.Source.{signature, types_here}
use Rattle.cpc_chains_laws.proofs.Rules.Types.{scalar_sized, scalars_apart}

-- ---- heads

-- what the rules ask of the head of a native function
pub record HeadFine (g : Function) : Type 0 where
  pub native : g.mode ≡ Native
  pub free : is_kept g.called ≡ false
  pub parameters : parameters_breaks D.Event (map parameter_here g.parameters) ≡ []
  pub sized : (s : Scope) → sized_breaks s (map parameter_here g.parameters) ≡ []

-- it agrees with its own prototype
pub agrees_itself : (g : Function) (is_defined : Bool) → g.mode ≡ Native → agrees (signature g.mode g.result g.parameters is_defined) g.mode g.result (map parameter_type g.parameters) ≡ true
agrees_itself g is_defined e =
    ap (λ m. same_mode m m && (same_type g.result g.result && same_list (types (map parameter_here g.parameters)) (map parameter_type g.parameters))) e
    ∙ and_holds (same_type g.result g.result) _ (type_itself g.result) (ap (λ ts. same_list ts (map parameter_type g.parameters)) (types_here g.parameters) ∙ list_itself (map parameter_type g.parameters))

-- a name that is not kept is not reserved
pub free_name : (x : Text) → is_kept x ≡ false → reserved_breaks D.Event (ident_here x ∷ []) ≡ []
free_name x e = both_none _ _ (ap (λ b. at_if b here Reserved) e) refl

-- the prototype of a function whose name is not declared before, and which the program defines
pub prototype_fine : (q before : Program) (g : Function) → HeadFine g → is_item g.called before ≡ false → is_clash g.called (signature g.mode g.result g.parameters false) before ≡ false
    → is_disagreeing g.called (signature g.mode g.result g.parameters false) before ≡ false → is_function g.called q ≡ true → item_breaks D.Event q before (item_here (prototype g)) ≡ []
prototype_fine q before g head fresh c d defined =
    both_none _ _ (free_name g.called head.free) (both_none _ _ (ap (λ m. cps_breaks D.Event m here) head.native)
    (both_none _ _ (both_none _ _ (ap (λ b. at_if b here Twice) c) (ap (λ b. at_if b here Disagree) d))
    (both_none _ _ (ap (λ m. at_if (is_extern m && not (is_host_like g.result (types (map parameter_here g.parameters)))) here Disagree) head.native)
    (both_none _ _ (ap (λ b. at_if (not (is_extern g.mode) && not b) here Undeclared) defined ∙ ap (λ b. at_if b here Undeclared) (never (not (is_extern g.mode)))) head.parameters))))
  where
    never : (b : Bool) → (b && not true) ≡ false
    never true = refl
    never false = refl

-- its definition, where it may stand beside what was declared and its body breaks no rule
pub definition_fine : (q before : Program) (g : Function) → HeadFine g → is_clash g.called (signature g.mode g.result g.parameters true) before ≡ false → is_disagreeing g.called (signature g.mode g.result g.parameters true) before ≡ false
    → BodyFine before g → item_breaks D.Event q before (item_here (function_item g)) ≡ []
definition_fine q before g head c d b =
    both_none _ _ (free_name g.called head.free) (both_none _ _ (ap (λ m. cps_breaks D.Event m here) head.native)
    (both_none _ _ (both_none _ _ (ap (λ b. at_if b here Twice) c) (ap (λ b. at_if b here Disagree) d)) (both_none _ _ head.parameters (both_none _ _ (head.sized (outside D.Event before).scope) (both_none _ _ b.body
    (both_none _ _ b.names (both_none _ _ b.labelled (both_none _ _ b.stray b.few))))))))

-- ---- parameters

names_same : (xs : List Variable) → parameter_names (map parameter_here (map parameter_of xs)) ≡ field_names (map variable_here xs)
names_same [] = refl
names_same (x ∷ xs) = ap (λ ys. ident_here x.called ∷ ys) (names_same xs)

scalar_parameters : (s : Scope) (xs : List Variable) → ScalarFields xs → sized_breaks s (map parameter_here (map parameter_of xs)) ≡ []
scalar_parameters s _ NoFields = refl
scalar_parameters s _ (AndField x xs e n h) = both_none _ _ (ap (λ b. at_if (not b) here Incomplete) (scalar_sized s x.type e)) (scalar_parameters s xs h)

free_if : (b : Bool) (x : Variable) (xs : List Variable) → is_kept x.called ≡ false → reserved_breaks D.Event (field_names (map variable_here xs)) ≡ [] → reserved_breaks D.Event (field_names (map variable_here (variable_if b x xs))) ≡ []
free_if true x xs e h = both_none _ _ (ap (λ b. at_if b here Reserved) e) h
free_if false x xs e h = h

-- nor is it as the name of a variable
pub variable_free : (k : ℕ) (x : Text) → is_kept x ≡ false → is_kept (variable_name k x) ≡ false
unfolding variable_name
variable_free k x e = made_unkept x (decimal k) e

passed_free : (k count : ℕ) (xs : List Variable) → ((j : ℕ) (x : Variable) → slice_get xs j ≡ Some x → is_kept x.called ≡ false) → reserved_breaks D.Event (field_names (map variable_here (passed_from k count xs))) ≡ []
passed_free k zero xs h = refl
passed_free k (suc n) [] h = refl
passed_free k (suc n) (x ∷ xs) h =
    free_if (is_scalar x.type) (record { called = variable_name k x.called; type = x.type }) (passed_from (suc k) n xs) (variable_free k x.called (h 0 x refl)) (passed_free (suc k) n xs (λ j y e. h (suc j) y e))

module _ (p : Program) (source : Source p) where
  free : (f : Function) → Has (FunctionItem f) p → is_kept f.called ≡ false
  free f h = (source.names.items (FunctionItem f) h).unkept

  -- the head of a piece and of a spawner
  pub head_fine : (g : Function) → Made p p g → HeadFine g
  head_fine _ (MadePiece f l h c o) = record { native = refl; free = ap is_kept (piece_is f.called l) ∙ made_unkept f.called (behind l) (free f h); parameters = refl; sized = λ s. refl }
  head_fine _ (MadeSpawner f h c) =
      let cps : IsCps p f = record { has = h; mode = c } in
      let scalars = fields_behind (TyInt Int) (passed f) (frame_fields (TyInt Int) 0 (passed f) refl (passed_rise p source.named f cps)) in
      let names : reserved_breaks D.Event (field_names (map variable_here (passed f))) ≡ [] = passed_free 0 (length f.parameters) (variables f) (λ j x e. ((source.names.functions f h).plain j x e).unkept) in record {
        native = refl;
        free = ap is_kept (spawner_is f.called) ∙ made_unkept f.called (codes "spawn") (free f h);
        parameters = both_none _ _ (ap (repeated Twice []) (names_same (passed f)) ∙ scalars_apart (passed f) scalars) (ap (reserved_breaks D.Event) (names_same (passed f)) ∙ names);
        sized = λ s. scalar_parameters s (passed f) scalars;
      }
