-- One mark that is as deep as a path was followed.
use Rattle.std.proofs.Common.{◌≡◌, ℕ, zero, suc, ◌+◌, List, [], ◌∷◌, drop, Some, None, refl, sym, ap, ◌∙◌, arith}
use Rattle.std.specs.Prelude.{slice_get}
use Rattle.std.specs.Ordering.{nat_cmp}
use Rattle.std.specs.declared.cmp.Ordering.TheVariants.{Equal}
use Rattle.std.proofs.lemmas.List.{drop_all}
use Rattle.std.proofs.lemmas.Option.{get_or_from_slice_get, slice_get_within}
use Rattle.cpc_base.specs.Bytes.{Text}
use Rattle.cpc_tree.specs.Points as P
use Rattle.cpc_tree.specs.Points.{Path}
use Rattle.cpc_native_points.specs.declared.parts.Part.{Part}
use Rattle.cpc_native_points.specs.Seen.{part_of, path_of}
use Rattle.cpc_eval_locals.specs.declared.marks.Key.{Key}
use Rattle.cpc_eval_locals.specs.declared.marks.Key.TheVariants as K
use Rattle.cpc_eval_locals.specs.Held.{Held}
use Rattle.cpc_eval_locals.specs.Marks.{Mark, Way, Off, way, look}
use Rattle.cpc_eval_locals.proofs.Holding.{path_more}
use Rattle.cpc_eval_locals.proofs.Marking.{order_same, one, look_way}

-- a path from one of its parts on
pub path_at : (path : List Part) (d : ℕ) (part : Part) → slice_get path d ≡ Some part → path_of (drop d path) ≡ part_of part ∷ path_of (drop (d + 1) path)
path_at path d part e =
    path_more path d part (slice_get_within path d part e)
    ∙ ap (λ q. part_of q ∷ path_of (drop (d + 1) path)) (get_or_from_slice_get path d part part e)

past_end : (path : List Part) (d : ℕ) → slice_get path d ≡ None → path_of (drop d path) ≡ []
past_end [] d e = ap path_of (drop_all d [] (omega arith))
past_end (p ∷ path) zero e = cc
past_end (p ∷ path) (suc d) e = past_end path d e

way_end : (k : Key) → way k [] ≡ Off
way_end (K.Row i) = refl
way_end (K.Head i) = refl
way_end K.Yes = refl
way_end K.No = refl
way_end K.Body = refl

as_deep : (d e : ℕ) → d ≡ e → nat_cmp d e ≡ Equal
as_deep d e h = ap (nat_cmp d) (sym h) ∙ order_same d

-- where a part of the path comes
pub way_there : (x : Text) (n : ℕ) (o : Held) (d : ℕ) (p : Path) (m : Mark) (rest : List Mark) (part : P.Part) (q : Path) (w : Way) → d ≡ m.depth → p ≡ part ∷ q → w ≡ way m.key (part ∷ q)
    → look x n o d p (m ∷ rest) ≡ one x n o d p m rest Equal w
way_there x n o d p m rest part q w same along e = look_way x n o d p m rest w (as_deep d m.depth same) (ap (way m.key) along ∙ sym e)

-- at the end of the path
pub at_end : (x : Text) (n : ℕ) (o : Held) (d : ℕ) (path : List Part) (m : Mark) (rest : List Mark) → d ≡ m.depth → slice_get path d ≡ None → look x n o d (path_of (drop d path)) (m ∷ rest) ≡ o
at_end x n o d path m rest same e = look_way x n o d (path_of (drop d path)) m rest Off (as_deep d m.depth same) (ap (way m.key) (past_end path d e) ∙ way_end m.key)
