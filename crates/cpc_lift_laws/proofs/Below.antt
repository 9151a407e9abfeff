-- What is used has a number below n where each name in scope has.
use Rattle.std.proofs.Common.{◌≡◌, ◌<◌, ℕ, true, List, [], ◌∷◌, ◌++◌, Option, Some, None, subst}
use Rattle.cpc_base.specs.Bytes.{Text}
use Rattle.cpc_tree.specs.Lists.{holds_number}
use Rattle.cpc_tree.specs.Syntax.{Expr, ENamed, EInteger, ECharacter, EText, EUnary, EBinary, EAnd, EOr, EChoose, ECast, ESizeOf, EIndex, EMember, EArrow, ECall, Exprs, NoExpr, AndExpr, Stmt, Declare, Assign, Call, Detach, Spawn, Return}
use Rattle.cpc_tree.specs.Typing.{Scope}
use Rattle.cpc_tree.specs.Registers.{slot_of}
use Rattle.cpc_tree.specs.Points.{Found, Simple, Test, Nothing}
use Rattle.cpc_meaning.specs.Act.{Stood, AtStatement, AtArrival, AtEnd, target_of}
use Rattle.cpc_lift_laws.specs.Used.{used_in, used_among, used_if, used_by, used_found, used_place, used_at, UsedAreBelow}
use Rattle.cpc_lift_laws.proofs.Search.{one_more, at_first, further}

module _ (scope : Scope) (n : ℕ) (names : (x : Text) (k : ℕ) → holds_number (slot_of scope x) k ≡ true → k < n) where
  abbrev Below : List ℕ → Type 0
  Below xs = (k : ℕ) → holds_number xs k ≡ true → k < n

  nothing_below : Below []
  nothing_below k e = absurd (cc)

  both_below : (xs ys : List ℕ) → Below xs → Below ys → Below (xs ++ ys)
  both_below [] ys h g k e = g k e
  both_below (x ∷ xs) ys h g k e = one_more x k (xs ++ ys) (k < n) (λ i. subst (λ y. y < n) i (h x (at_first x xs))) (λ i. both_below xs ys (λ j m. h j (further x j xs m)) g k i) e

  mutual
    used_below : (e : Expr) → Below (used_in scope e)
    used_below (ENamed x) = names x
    used_below (EUnary sign e) = used_below e
    used_below (EBinary op a b) = both_below _ _ (used_below a) (used_below b)
    used_below (EAnd a b) = both_below _ _ (used_below a) (used_below b)
    used_below (EOr a b) = both_below _ _ (used_below a) (used_below b)
    used_below (EChoose t a b) = both_below _ _ (used_below t) (both_below _ _ (used_below a) (used_below b))
    used_below (ECast t e) = used_below e
    used_below (EIndex a i) = both_below _ _ (used_below a) (used_below i)
    used_below (EMember e x) = used_below e
    used_below (EArrow e x) = used_below e
    used_below (ECall f es) = both_below _ _ (used_below f) (among_below es)
    used_below (EInteger kind z) = nothing_below
    used_below (ECharacter z) = nothing_below
    used_below (EText bytes) = nothing_below
    used_below (ESizeOf t) = nothing_below

    among_below : (es : Exprs) → Below (used_among scope es)
    among_below NoExpr = nothing_below
    among_below (AndExpr e es) = both_below _ _ (used_below e) (among_below es)

  if_below : (o : Option Expr) → Below (used_if scope o)
  if_below None = nothing_below
  if_below (Some e) = used_below e

  by_below : (s : Stmt) → Below (used_by scope s)
  by_below (Declare x t (Some v)) = both_below _ _ (names x) (used_below v)
  by_below (Declare x t None) = nothing_below
  by_below (Assign e op v) = both_below _ _ (used_below e) (used_below v)
  by_below (Call to f es) = both_below _ _ (if_below to) (both_below _ _ (used_below f) (among_below es))
  by_below (Detach to f es) = both_below _ _ (if_below to) (among_below es)
  by_below (Spawn f es) = among_below es
  by_below (Return v) = if_below v
  by_below _ = nothing_below

  found_below : (f : Found) → Below (used_found scope f)
  found_below (Simple s) = by_below s
  found_below (Test t) = if_below t
  found_below Nothing = nothing_below

  place_below : (o : Option (Option Expr)) → Below (used_place scope o)
  place_below None = nothing_below
  place_below (Some to) = if_below to

  pub at_below : (st : Stood) → Below (used_at scope st)
  at_below (AtStatement f) = found_below f
  at_below (AtArrival f) = place_below (target_of f)
  at_below AtEnd = nothing_below

pub used_are_below : UsedAreBelow
used_are_below scope n names st k e = at_below scope n names st k e
