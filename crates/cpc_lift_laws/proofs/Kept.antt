-- From the numbers of the variables that occur to the names that are kept.
use Rattle.std.proofs.Common.{◌≡◌, ℕ, ◌==◌, ◌||◌, Bool, true, false, List, [], ◌∷◌, ◌++◌, bytes_eq, cond, refl, ◌∙◌, ap}
use Rattle.cpc_base.specs.Bytes.{Text}
use Rattle.cpc_base.proofs.Truth.{eq_reflexive, or_by_first, or_by_second}
use Rattle.cpc_tree.specs.Lists.{holds_number}
use Rattle.cpc_tree.specs.Syntax.{Ty, Expr, ENamed, EInteger, ECharacter, EText, EUnary, EBinary, EAnd, EOr, EChoose, ECast, ESizeOf, EIndex, EMember, EArrow, ECall, Program}
use Rattle.cpc_tree.specs.Typing.{Local, Scope, Meant, ALocal, named}
use Rattle.cpc_tree.specs.Registers.{slot_of}
use Rattle.cpc_tree.proofs.Named.{no_local}
use Rattle.cpc_meaning.proofs.SameValues.{AllNames}
use Rattle.cpc_lift_laws.specs.Used.{used_in}

-- each of these numbers is kept
abbrev pub Kept : (keep : ℕ → Bool) → List ℕ → Type 0
Kept keep ks = (k : ℕ) → holds_number ks k ≡ true → keep k ≡ true

-- ---- lists of numbers

pub either : (a b c : Bool) → (a ≡ true → c ≡ true) → (b ≡ true → c ≡ true) → (a || b) ≡ true → c ≡ true
either true b c h g e = h refl
either false b c h g e = g e

pub holds_front : (xs ys : List ℕ) (k : ℕ) → holds_number xs k ≡ true → holds_number (xs ++ ys) k ≡ true
holds_front [] ys k e = absurd (cc)
holds_front (x ∷ xs) ys k e = either (x == k) (holds_number xs k) ((x == k) || holds_number (xs ++ ys) k) (λ h. or_by_first (x == k) (holds_number (xs ++ ys) k) h) (λ h. or_by_second (x == k) (holds_number (xs ++ ys) k) (holds_front xs ys k h)) e

pub holds_back : (xs ys : List ℕ) (k : ℕ) → holds_number ys k ≡ true → holds_number (xs ++ ys) k ≡ true
holds_back [] ys k e = e
holds_back (x ∷ xs) ys k e = or_by_second (x == k) (holds_number (xs ++ ys) k) (holds_back xs ys k e)

pub holds_either : (xs ys : List ℕ) (k : ℕ) (c : Bool) → (holds_number xs k ≡ true → c ≡ true) → (holds_number ys k ≡ true → c ≡ true) → holds_number (xs ++ ys) k ≡ true → c ≡ true
holds_either [] ys k c h g e = g e
holds_either (x ∷ xs) ys k c h g e =
    either (x == k) (holds_number (xs ++ ys) k) c (λ i. h (or_by_first (x == k) (holds_number xs k) i)) (holds_either xs ys k c (λ i. h (or_by_second (x == k) (holds_number xs k) i)) g) e

module _ (keep : ℕ → Bool) where
  pub kept_front : (xs ys : List ℕ) → Kept keep (xs ++ ys) → Kept keep xs
  kept_front xs ys h k e = h k (holds_front xs ys k e)

  pub kept_back : (xs ys : List ℕ) → Kept keep (xs ++ ys) → Kept keep ys
  kept_back xs ys h k e = h k (holds_back xs ys k e)

  pub kept_both : (xs ys : List ℕ) → Kept keep xs → Kept keep ys → Kept keep (xs ++ ys)
  kept_both xs ys h g k e = holds_either xs ys k (keep k) (h k) (g k) e

-- ---- names

this_local : (b : Bool) (l : Local) (k : ℕ) (t : Ty) (outer : Meant) (slots : List ℕ) → (outer ≡ ALocal k t → holds_number slots k ≡ true)
    → cond b (ALocal l.slot l.type) outer ≡ ALocal k t → holds_number (cond b (l.slot ∷ []) slots) k ≡ true
this_local true l k t outer slots h e =
    let i : l.slot ≡ k = cc in
    ap (λ n. (n == k) || false) i ∙ or_by_first (k == k) false (eq_reflexive k)
this_local false l k t outer slots h e = h e

-- the number of the local that a name means
pub number_of : (p : Program) (scope : Scope) (x : Text) (k : ℕ) (t : Ty) → named p scope x ≡ ALocal k t → holds_number (slot_of scope x) k ≡ true
number_of p [] x k t e = absurd (no_local 0 p x k t e)
number_of p (l ∷ scope) x k t e = this_local (bytes_eq l.called x) l k t (named p scope x) (slot_of scope x) (number_of p scope x k t) e

module _ (p : Program) (keep : ℕ → Bool) (scope : Scope) where
  -- where a name means a local, it is kept
  abbrev pub KeptName : Text → Type 0
  KeptName x = (k : ℕ) (t : Ty) → named p scope x ≡ ALocal k t → keep k ≡ true

  pub kept_name : (x : Text) → Kept keep (slot_of scope x) → KeptName x
  kept_name x h k t e = h k (number_of p scope x k t e)

  pub kept_names : (e : Expr) → Kept keep (used_in scope e) → AllNames KeptName e
  kept_names (ENamed x) h = kept_name x h
  kept_names (EInteger kind z) h = tt
  kept_names (ECharacter z) h = tt
  kept_names (EText bytes) h = tt
  kept_names (EUnary sign e) h = kept_names e h
  kept_names (EBinary op a b) h = (kept_names a (kept_front keep _ _ h), kept_names b (kept_back keep (used_in scope a) _ h))
  kept_names (EAnd a b) h = (kept_names a (kept_front keep _ _ h), kept_names b (kept_back keep (used_in scope a) _ h))
  kept_names (EOr a b) h = (kept_names a (kept_front keep _ _ h), kept_names b (kept_back keep (used_in scope a) _ h))
  kept_names (EChoose c a b) h =
      let rest = kept_back keep (used_in scope c) (used_in scope a ++ used_in scope b) h in
      (kept_names c (kept_front keep _ _ h), kept_names a (kept_front keep _ _ rest), kept_names b (kept_back keep (used_in scope a) _ rest))
  kept_names (ECast t e) h = kept_names e h
  kept_names (ESizeOf t) h = tt
  kept_names (EIndex a i) h = (kept_names a (kept_front keep _ _ h), kept_names i (kept_back keep (used_in scope a) _ h))
  kept_names (EMember e x) h = kept_names e h
  kept_names (EArrow e x) h = kept_names e h
  kept_names (ECall f es) h = tt
