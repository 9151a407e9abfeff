-- The number that a name stands for, one variable after the other.
use Rattle.std.proofs.Common.{◌≡◌, ℕ, suc, ◌+◌, ◌<◌, ◌≤◌, List, [], ◌∷◌, ◌++◌, length, map, get_or, drop, if◌then◌else◌, add-one, refl, sym, ap, ◌∙◌}
use Rattle.std.specs.Prelude.{bytes_eq}
use Rattle.std.proofs.lemmas.List.{drop_more, drop_all}
use Rattle.cpc_base.specs.Bytes.{Text}
use Rattle.cpc_tree.specs.Erase.{Names, parameter_of}
use Rattle.cpc_tree.specs.Syntax as S
use Rattle.cpc_tree.specs.Typing.{Scope}
use Rattle.cpc_tree.specs.Registers.{slot_of, or_empty, parameter_scope}
use Rattle.cpc_tree.specs.declared.program.Parameter.{Parameter}
use Rattle.cpc_eval_variables.specs.declared.scope.Local.{Local}
use Rattle.cpc_eval_variables.specs.Scoped.{local_of, scope_over}

-- behind parameters from the n-th on, where the name stands for this before them
abbrev pub slot_from : Text → ℕ → List ℕ → List S.Parameter → List ℕ
slot_from x n o [] = o
slot_from x n o (p ∷ ps) = slot_from x (suc n) (if bytes_eq (or_empty p.called) x then n ∷ [] else o) ps

-- behind these locals
abbrev pub slot_over : Names → Text → List ℕ → List Local → List ℕ
slot_over names x o [] = o
slot_over names x o (l ∷ ls) = slot_over names x (if bytes_eq (names l.name) x then l.slot ∷ [] else o) ls

pub parameters_say : (x : Text) (n : ℕ) (ps : List S.Parameter) (scope : Scope) → slot_of (parameter_scope n ps scope) x ≡ slot_from x n (slot_of scope x) ps
parameters_say x n [] scope = refl
parameters_say x n (p ∷ ps) scope = parameters_say x (suc n) ps (record { called = or_empty p.called; type = p.type; slot = n } ∷ scope)

pub locals_say : (names : Names) (x : Text) (ls : List Local) (scope : Scope) → slot_of (scope_over names scope ls) x ≡ slot_over names x (slot_of scope x) ls
locals_say names x [] scope = refl
locals_say names x (l ∷ ls) scope = locals_say names x ls (local_of names l ∷ scope)

pub scope_more : (names : Names) (ls : List Local) (l : Local) (scope : Scope) → scope_over names scope (ls ++ l ∷ []) ≡ local_of names l ∷ scope_over names scope ls
scope_more names [] l scope = refl
scope_more names (k ∷ ks) l scope = scope_more names ks l (local_of names k ∷ scope)

-- one more parameter
pub parameter_more : (names : Names) (x : Text) (ps : List Parameter) (i : ℕ) (p : Parameter) (o r : List ℕ) → i < length ps → p ≡ get_or ps i p
    → r ≡ (if bytes_eq (or_empty (parameter_of names p).called) x then i ∷ [] else o)
    → slot_from x i o (map (parameter_of names) (drop i ps)) ≡ slot_from x (i + 1) r (map (parameter_of names) (drop (i + 1) ps))
parameter_more names x ps i p o r h e is =
    ap (λ qs. slot_from x i o (map (parameter_of names) qs)) (drop_more ps i p h)
    ∙ ap (λ (q : Parameter). slot_from x (suc i) (if bytes_eq (or_empty (parameter_of names q).called) x then i ∷ [] else o) (map (parameter_of names) (drop (i + 1) ps))) (sym e)
    ∙ ap (λ s. slot_from x (suc i) s (map (parameter_of names) (drop (i + 1) ps))) (sym is)
    ∙ ap (λ n. slot_from x n r (map (parameter_of names) (drop (i + 1) ps))) (sym (add-one i))

pub parameters_end : (names : Names) (x : Text) (ps : List Parameter) (i n : ℕ) (o : List ℕ) → length ps ≤ i → slot_from x n o (map (parameter_of names) (drop i ps)) ≡ o
parameters_end names x ps i n o h = ap (λ qs. slot_from x n o (map (parameter_of names) qs)) (drop_all i ps h)

-- one more local
pub local_more : (names : Names) (x : Text) (ls : List Local) (i : ℕ) (l : Local) (o r : List ℕ) → i < length ls → l ≡ get_or ls i l
    → r ≡ (if bytes_eq (names l.name) x then l.slot ∷ [] else o) → slot_over names x o (drop i ls) ≡ slot_over names x r (drop (i + 1) ls)
local_more names x ls i l o r h e is =
    ap (slot_over names x o) (drop_more ls i l h)
    ∙ ap (λ (k : Local). slot_over names x (if bytes_eq (names k.name) x then k.slot ∷ [] else o) (drop (i + 1) ls)) (sym e)
    ∙ ap (λ s. slot_over names x s (drop (i + 1) ls)) (sym is)

pub locals_end : (names : Names) (x : Text) (ls : List Local) (i : ℕ) (o : List ℕ) → length ls ≤ i → slot_over names x o (drop i ls) ≡ o
locals_end names x ls i o h = ap (slot_over names x o) (drop_all i ls h)
