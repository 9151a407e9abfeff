-- Links and variables that are pushed one after the other.
use Rattle.std.proofs.Common.{◌≡◌, ℕ, ◌+◌, ◌<◌, List, [], ◌∷◌, ◌++◌, length, get_or, drop, slice_get, Option, Some, refl, sym, ap, ◌∙◌, append_assoc, Vec, Box, Global}
use Rattle.std.proofs.lemmas.List.{drop_more}
use Rattle.cpc_base.specs.declared.stop.Place as B
use Rattle.cpc_tree.specs.declared.program.Expr as GExpr
use Rattle.cpc_tree.specs.declared.program.Expr.TheVariants as E
use Rattle.cpc_tree.specs.Erase.{Names, expr_of, exprs_of}
use Rattle.cpc_tree.specs.Typing.{Scope}
use Rattle.cpc_eval_variables.proofs.Nodes.{call_seen}
use Rattle.cpc_forms.specs.Flow.{Place}
use Rattle.cpc_forms.specs.Split.{owner_or}
use Rattle.cpc_lift_laws.specs.Search as S
use Rattle.cpc_lift_laws.specs.Nodes.{links_to}
use Rattle.cpc_lift_laws.specs.Used.{used_in, used_among}
use Rattle.cpc_lift_closures.specs.declared.links.Link.{Link}
use Rattle.cpc_lift_closures.specs.Rows.{links_of}
use Rattle.cpc_forms_code.specs.Lifts.{owner_number}
use Rattle.cpc_lift.specs.Ways.{way_of}

links_both : (xs ys : List Link) → links_of (xs ++ ys) ≡ links_of xs ++ links_of ys
links_both [] ys = refl
links_both (w ∷ xs) ys = ap (λ l. record { from = w.from; to = w.to } ∷ l) (links_both xs ys)

-- a link more
pub pushed : (old new : List Link) (w : Link) → new ≡ old ++ w ∷ [] → links_of new ≡ links_of old ++ record { from = w.from; to = w.to } ∷ []
pushed old new w e = ap links_of e ∙ links_both old (w ∷ [])

abbrev link : ℕ → ℕ → S.Link
link a b = record { from = a; to = b }

-- the way to a node that is there
pub way_is : (l x : Place) (os : List (Option Place)) (o : Option ℕ) (m a b : ℕ) → o ≡ Some m → x ≡ owner_or l (slice_get os m) → a ≡ owner_number l → b ≡ owner_number x
    → link a b ∷ [] ≡ way_of l os o
way_is l x os o m a b at is from to =
    ap (λ n. link n b ∷ []) from ∙ (ap (λ n. link (owner_number l) n ∷ []) (to ∙ ap owner_number is) ∙ ap (way_of l os) (sym at))

-- an owner's links, with one more of those that are left
pub links_more : (l : ℕ) (ks : List ℕ) (i : ℕ) → i < length ks → (old new : List Link) (w : Link) → new ≡ old ++ w ∷ [] → w ≡ record { from = l; to = get_or ks i 0 }
    → links_of new ++ links_to l (drop (i + 1) ks) ≡ links_of old ++ links_to l (drop i ks)
links_more l ks i h old new w n is =
    let k = get_or ks i 0 in
    ap (λ v. v ++ links_to l (drop (i + 1) ks)) (pushed old new w n ∙ ap (λ (x : Link). links_of old ++ link x.from x.to ∷ []) is)
    ∙ (append_assoc (links_of old) (link l k ∷ []) (links_to l (drop (i + 1) ks)) ∙ ap (λ v. links_of old ++ links_to l v) (sym (drop_more ks i 0 h)))

-- the variables of a call
pub call_uses : (names : Names) (scope : Scope) (e : GExpr.Expr) (place : B.Place) (function : Box GExpr.Expr Global) (arguments : Vec GExpr.Expr Global) → e ≡ E.CallIn place function arguments
    → used_in scope (expr_of names e) ≡ used_in scope (expr_of names function.value) ++ used_among scope (exprs_of names arguments.items)
call_uses names scope e place function arguments h = ap (used_in scope) (call_seen names e place function arguments h)
