-- What a name stands for along rows and paths.
use Rattle.std.proofs.Common.{◌≡◌, ℕ, ◌+◌, ◌^◌, ◌<◌, if◌then◌else◌, bytes_eq, map, add-one, List, [], ◌∷◌, length, get_or, drop, Some, refl, sym, ap, ◌∙◌, arith}
use Rattle.cpc_base.specs.Bytes.{Text}
use Rattle.cpc_base.proofs.Lists.{drop_to_item}
use Rattle.cpc_tree.specs.Syntax as S
use Rattle.cpc_tree.specs.Syntax.{Stmt, AndStmt}
use Rattle.cpc_tree.specs.Erase.{Names, type_of, parameter_of}
use Rattle.cpc_native_points.specs.declared.parts.Part.{Part}
use Rattle.cpc_native_points.specs.Seen.{part_of, path_of}
use Rattle.cpc_eval_values.specs.Counted.{capped}
use Rattle.cpc_eval_locals.specs.Held.{Held, held_from, held_after, held_at}
use Rattle.std.proofs.lemmas.List.{drop_more}
use Rattle.cpc_tree.specs.declared.program.Parameter as GParameter
use Rattle.cpc_tree.specs.Registers.{or_empty}

-- one more part of a path
pub path_more : (ps : List Part) (i : ℕ) (d : Part) → i < length ps → path_of (drop i ps) ≡ part_of (get_or ps i d) ∷ path_of (drop (i + 1) ps)
path_more ps i d h = ap path_of (drop_more ps i d h)

-- ---- parameters

from_more : (x : Text) (i : ℕ) (p : S.Parameter) (rest : List S.Parameter) (o r : Held) → i < 2 ^ 64 → r ≡ (if bytes_eq (or_empty p.called) x then Some (i, p.type) else o)
    → held_from x (i + 1) r rest ≡ held_from x i o (p ∷ rest)
from_more x i p rest o r h e =
    let c : i ≡ capped i = omega arith in
    ap (λ q. held_from x (i + 1) q rest) (e ∙ ap (λ n. if bytes_eq (or_empty p.called) x then Some (n, p.type) else o) c)
    ∙ ap (λ n. held_from x n (if bytes_eq (or_empty p.called) x then Some (capped i, p.type) else o) rest) (add-one i)

-- one more parameter
pub parameter_more : (names : Names) (x : Text) (ps : List GParameter.Parameter) (i : ℕ) (p : GParameter.Parameter) (o r : Held) → i < length ps → i < 2 ^ 64 → p ≡ get_or ps i p
    → r ≡ (if bytes_eq (or_empty (parameter_of names p).called) x then Some (i, type_of names p.of) else o)
    → held_from x (i + 1) r (map (parameter_of names) (drop (i + 1) ps)) ≡ held_from x i o (map (parameter_of names) (drop i ps))
parameter_more names x ps i p o r h fits is e =
    from_more x i (parameter_of names p) (map (parameter_of names) (drop (i + 1) ps)) o r fits e
    ∙ ap (λ qs. held_from x i o (map (parameter_of names) qs)) (sym (drop_to_item ps i p h is))

-- ---- the end of a path

pub held_there : (x : Text) (n : ℕ) (o : Held) (s : Stmt) → held_at x n o s [] ≡ held_after x n o s
held_there x n o (S.Block ss) = refl
held_there x n o S.Empty = refl
held_there x n o (S.Declare y t start) = refl
held_there x n o (S.Assign e op v) = refl
held_there x n o (S.Call e f es) = refl
held_there x n o (S.Detach e f es) = refl
held_there x n o (S.Spawn f es) = refl
held_there x n o (S.If t a b) = refl
held_there x n o (S.While t s) = refl
held_there x n o (S.DoWhile s t) = refl
held_there x n o (S.For first t step s) = refl
held_there x n o (S.Goto l) = refl
held_there x n o (S.Label l s) = refl
held_there x n o S.Break = refl
held_there x n o S.Continue = refl
held_there x n o (S.Return v) = refl
