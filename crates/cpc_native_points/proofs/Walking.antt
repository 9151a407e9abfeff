-- What stands at a path, one part after the other.
use Rattle.std.proofs.Common.{◌≡◌, ℕ, ◌+◌, ◌<◌, ◌≤◌, List, [], ◌∷◌, ◌++◌, length, drop, get_or, refl, ap, ◌∙◌}
use Rattle.std.proofs.lemmas.List.{drop_all, drop_more, map-append}
use Rattle.cpc_tree.specs.Syntax.{Stmt, MaybeStmt, Absent, Present}
use Rattle.cpc_tree.specs.Points.{Part, Path}
use Rattle.cpc_native_points.specs.declared.parts.Part as G
use Rattle.cpc_native_points.specs.Parts.{child, child_in, statement_in, statement_at}
use Rattle.cpc_native_points.specs.Seen.{part_of, path_of}

none_in : (p : Path) → statement_in Absent p ≡ Absent
none_in [] = refl
none_in (n ∷ p) = none_in p

part_in : (o : MaybeStmt) (p : Path) (n : Part) → statement_in o (p ++ n ∷ []) ≡ child_in (statement_in o p) n
part_in o [] n = refl
part_in o (m ∷ p) n = part_in (child_in o m) p n

-- one part further
pub part_there : (body around : Stmt) (inner : MaybeStmt) (way : List G.Part) (n : G.Part) → statement_at body (path_of way) ≡ Present around → child around (part_of n) ≡ inner → statement_at body (path_of (way ++ n ∷ [])) ≡ inner
part_there body around inner way n e k = ap (statement_at body) (map-append part_of way (n ∷ [])) ∙ part_in (Present body) (path_of way) (part_of n) ∙ ap (λ o. child_in o (part_of n)) e ∙ k

-- ---- along a path

pub along_all : (s : Stmt) (path : List G.Part) (i : ℕ) → length path ≤ i → statement_at s (path_of (drop i path)) ≡ Present s
along_all s path i h = ap (λ p. statement_at s (path_of p)) (drop_all i path h)

pub along_more : (s : Stmt) (path : List G.Part) (i : ℕ) (d : G.Part) (inner : Stmt) → i < length path → child s (part_of (get_or path i d)) ≡ Present inner
    → statement_at s (path_of (drop i path)) ≡ statement_at inner (path_of (drop (i + 1) path))
along_more s path i d inner h e = ap (λ p. statement_at s (path_of p)) (drop_more path i d h) ∙ ap (λ o. statement_in o (path_of (drop (i + 1) path))) e

pub along_none : (s : Stmt) (path : List G.Part) (i : ℕ) (d : G.Part) → i < length path → child s (part_of (get_or path i d)) ≡ Absent → statement_at s (path_of (drop i path)) ≡ Absent
along_none s path i d h e =
    let rest = path_of (drop (i + 1) path) in
    ap (λ p. statement_at s (path_of p)) (drop_more path i d h) ∙ ap (λ o. statement_in o rest) e ∙ none_in rest
