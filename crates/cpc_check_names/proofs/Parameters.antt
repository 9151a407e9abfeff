-- The names of parameters, one by one.
use Rattle.std.proofs.Common.{◌≡◌, ℕ, ◌+◌, ◌<◌, ◌≤◌, List, [], ◌∷◌, ◌++◌, length, get_or, drop, map, refl, sym, ap, ◌∙◌, append_assoc, Option, Some, None}
use Rattle.std.proofs.lemmas.List.{append-nil, drop_all}
use Rattle.cpc_base.proofs.Lists.{drop_to_item}
use Rattle.cpc_tree.specs.declared.program.Parameter.{Parameter}
use Rattle.cpc_tree.specs.Syntax.{Ty}
use Rattle.cpc_tree.specs.Located.{Ident, LParameter}
use Rattle.cpc_tree.specs.Erase.{Names}
use Rattle.cpc_tree.specs.Locate.{located_parameter}
use Rattle.cpc_check_rules.specs.FunctionRules.{parameter_names}

called_first : (o : Option Ident) (t : Ty) (ps : List LParameter) → parameter_names (record { called = o; type = t } ∷ ps) ≡ parameter_names (record { called = o; type = t } ∷ []) ++ parameter_names ps
called_first None t ps = refl
called_first (Some x) t ps = refl

names_cons : (p : LParameter) (ps : List LParameter) → parameter_names (p ∷ ps) ≡ parameter_names (p ∷ []) ++ parameter_names ps
names_cons p ps = called_first p.called p.type ps

-- the names so far, one more parameter and the rest
pub named_more : (names : Names) (x y : List Ident) (ps : List Parameter) (i : ℕ) (p : Parameter) → i < length ps → p ≡ get_or ps i p
    → y ≡ x ++ parameter_names (located_parameter names p ∷ [])
    → y ++ parameter_names (map (located_parameter names) (drop (i + 1) ps)) ≡ x ++ parameter_names (map (located_parameter names) (drop i ps))
named_more names x y ps i p h e k =
    let rest = parameter_names (map (located_parameter names) (drop (i + 1) ps)) in
    ap (λ v. v ++ rest) k ∙ (append_assoc x (parameter_names (located_parameter names p ∷ [])) rest
    ∙ ap (λ v. x ++ v) (sym (ap (λ qs. parameter_names (map (located_parameter names) qs)) (drop_to_item ps i p h e) ∙ names_cons (located_parameter names p) (map (located_parameter names) (drop (i + 1) ps)))))

pub named_end : (names : Names) (x : List Ident) (ps : List Parameter) (i : ℕ) → length ps ≤ i
    → x ++ parameter_names (map (located_parameter names) (drop i ps)) ≡ x
named_end names x ps i h = ap (λ qs. x ++ parameter_names (map (located_parameter names) qs)) (drop_all i ps h) ∙ append-nil x
