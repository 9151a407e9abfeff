-- One statement of a flat block: where it is entered, what stands there, and where control goes from it.
use Rattle.std.proofs.Common.{◌≡◌, ℕ, Bool, true, false, ◌||◌, cond, [], ◌∷◌, ◌++◌, Some, None, bytes_eq, refl, sym, ◌∙◌, ap}
use Rattle.cpc_base.specs.Bytes.{Text}
use Rattle.cpc_tree.specs.Syntax.{Expr, Stmt, Block, Empty, Declare, Assign, Call, Detach, Spawn, If, While, DoWhile, For, Goto, Label, Break, Continue, Return, Absent, Present}
use Rattle.cpc_tree.specs.Typing.{Scope}
use Rattle.cpc_tree.specs.Points.{TheYes, TheBody, Path, found, Simple, enter, Move, Into, Out, under, if_holds, after, labelled, path_under, locals, extended, scope_at}
use Rattle.cpc_convert_flat_laws.specs.Flat.{is_plain, is_line, is_flat, bare, standing, onward, has_label}

-- ---- plain statements

-- what holds of a plain statement
pub record PlainOne (s : Stmt) : Type 0 where
  pub enters : enter s ≡ []
  pub stands : found s [] ≡ Simple s
  pub is_standing : standing s ≡ Simple s
  pub is_bare : bare s ≡ s
  pub scope : (scope : Scope) (n : ℕ) (p : Path) → scope_at scope n s p ≡ scope
  pub declares : locals s ≡ []
  pub extends : (scope : Scope) (n : ℕ) → extended scope n s ≡ scope
  pub labels : (l : Text) → labelled l s ≡ None
  pub goes : (h : Bool) → after s [] h ≡ onward s

pub plain_one : (s : Stmt) → is_plain s ≡ true → PlainOne s
plain_one Empty e = record { enters = refl; stands = refl; is_standing = refl; is_bare = refl; scope = λ scope n p. refl; declares = refl; extends = λ scope n. refl; labels = λ l. refl; goes = λ h. refl }
plain_one (Assign x op v) e = record { enters = refl; stands = refl; is_standing = refl; is_bare = refl; scope = λ scope n p. refl; declares = refl; extends = λ scope n. refl; labels = λ l. refl; goes = λ h. refl }
plain_one (Call x f es) e = record { enters = refl; stands = refl; is_standing = refl; is_bare = refl; scope = λ scope n p. refl; declares = refl; extends = λ scope n. refl; labels = λ l. refl; goes = λ h. refl }
plain_one (Detach x f es) e = record { enters = refl; stands = refl; is_standing = refl; is_bare = refl; scope = λ scope n p. refl; declares = refl; extends = λ scope n. refl; labels = λ l. refl; goes = λ h. refl }
plain_one (Spawn f es) e = record { enters = refl; stands = refl; is_standing = refl; is_bare = refl; scope = λ scope n p. refl; declares = refl; extends = λ scope n. refl; labels = λ l. refl; goes = λ h. refl }
plain_one (Goto m) e = record { enters = refl; stands = refl; is_standing = refl; is_bare = refl; scope = λ scope n p. refl; declares = refl; extends = λ scope n. refl; labels = λ l. refl; goes = λ h. refl }
plain_one (Return v) e = record { enters = refl; stands = refl; is_standing = refl; is_bare = refl; scope = λ scope n p. refl; declares = refl; extends = λ scope n. refl; labels = λ l. refl; goes = λ h. refl }
plain_one (Block ss) e = absurd (cc)
plain_one (Declare x t start) e = absurd (cc)
plain_one (If t a b) e = absurd (cc)
plain_one (While t a) e = absurd (cc)
plain_one (DoWhile a t) e = absurd (cc)
plain_one (For a t b c) e = absurd (cc)
plain_one (Label m a) e = absurd (cc)
plain_one Break e = absurd (cc)
plain_one Continue e = absurd (cc)

-- ---- lines

-- where control goes from a line, as a test holds or not
abbrev pub leads : Stmt → Bool → Move
leads (Label l s) h = under TheBody (leads s h)
leads (If e a b) h = if_holds h (Into (TheYes ∷ [])) Out
leads s h = onward s

-- what holds of a line
pub record LineOne (s : Stmt) : Type 0 where
  pub stands : found s (enter s) ≡ standing (bare s)
  pub scope : (scope : Scope) (n : ℕ) (p : Path) → scope_at scope n s p ≡ scope
  pub declares : locals s ≡ []
  pub extends : (scope : Scope) (n : ℕ) → extended scope n s ≡ scope
  pub labels : (l : Text) → labelled l s ≡ cond (has_label l s) (Some (enter s)) None
  pub goes : (h : Bool) → after s (enter s) h ≡ leads s h

of_plain : (s : Stmt) → (o : PlainOne s) → ((l : Text) → has_label l s ≡ false) → ((h : Bool) → leads s h ≡ onward s) → LineOne s
of_plain s o none same = record {
  stands = ap (found s) o.enters ∙ o.stands ∙ sym o.is_standing ∙ ap standing (sym o.is_bare);
  scope = o.scope;
  declares = o.declares;
  extends = o.extends;
  labels = λ l. o.labels l ∙ ap (λ b. cond b (Some (enter s)) None) (sym (none l));
  goes = λ h. ap (λ p. after s p h) o.enters ∙ o.goes h ∙ sym (same h);
}

of_test : (t : Expr) (a : Stmt) → PlainOne a → LineOne (If t a Absent)
of_test t a o = record {
  stands = refl;
  scope = λ scope n p. in_test scope n p;
  declares = ap (λ xs. xs ++ []) o.declares;
  extends = λ scope n. refl;
  labels = λ l. rw (o.labels l) refl;
  goes = λ h. ap (λ p. if_holds h (Into (TheYes ∷ p)) Out) o.enters;
}
  where
    in_test : (scope : Scope) (n : ℕ) (p : Path) → scope_at scope n (If t a Absent) p ≡ scope
    in_test scope n [] = refl
    in_test scope n (TheYes ∷ p) = o.scope scope n p
    in_test scope n (_ ∷ p) = refl

of_label : (m : Text) (s : Stmt) → LineOne s → LineOne (Label m s)
of_label m s o = record {
  stands = o.stands;
  scope = λ scope n p. in_label scope n p;
  declares = o.declares;
  extends = λ scope n. refl;
  labels = λ l. labels l (bytes_eq m l) (has_label l s) (o.labels l);
  goes = λ h. ap (under TheBody) (o.goes h);
}
  where
    in_label : (scope : Scope) (n : ℕ) (p : Path) → scope_at scope n (Label m s) p ≡ scope
    in_label scope n [] = refl
    in_label scope n (TheBody ∷ p) = o.scope scope n p
    in_label scope n (_ ∷ p) = refl

    labels : (l : Text) (b c : Bool) → labelled l s ≡ cond c (Some (enter s)) None
        → cond b (Some (TheBody ∷ enter s)) (path_under TheBody (labelled l s)) ≡ cond (b || c) (Some (TheBody ∷ enter s)) None
    labels l true c e = refl
    labels l false true e = ap (path_under TheBody) e
    labels l false false e = ap (path_under TheBody) e

pub line_one : (s : Stmt) → is_line s ≡ true → LineOne s
line_one (Label m s) e = of_label m s (line_one s e)
line_one (If t a Absent) e = of_test t a (plain_one a e)
line_one (If t a (Present b)) e = absurd (cc)
line_one Empty e = of_plain Empty (plain_one Empty e) (λ l. refl) (λ h. refl)
line_one (Assign x op v) e = of_plain (Assign x op v) (plain_one (Assign x op v) e) (λ l. refl) (λ h. refl)
line_one (Call x f es) e = of_plain (Call x f es) (plain_one (Call x f es) e) (λ l. refl) (λ h. refl)
line_one (Detach x f es) e = of_plain (Detach x f es) (plain_one (Detach x f es) e) (λ l. refl) (λ h. refl)
line_one (Spawn f es) e = of_plain (Spawn f es) (plain_one (Spawn f es) e) (λ l. refl) (λ h. refl)
line_one (Goto m) e = of_plain (Goto m) (plain_one (Goto m) e) (λ l. refl) (λ h. refl)
line_one (Return v) e = of_plain (Return v) (plain_one (Return v) e) (λ l. refl) (λ h. refl)
line_one (Block ss) e = absurd (cc)
line_one (Declare x t start) e = absurd (cc)
line_one (While t a) e = absurd (cc)
line_one (DoWhile a t) e = absurd (cc)
line_one (For a t b c) e = absurd (cc)
line_one Break e = absurd (cc)
line_one Continue e = absurd (cc)

-- a line is flat
pub line_flat : (s : Stmt) → is_line s ≡ true → is_flat s ≡ true
line_flat (Declare x t start) e = refl
line_flat (Label m s) e = e
line_flat (If t a b) e = e
line_flat Empty e = refl
line_flat (Assign x op v) e = refl
line_flat (Call x f es) e = refl
line_flat (Detach x f es) e = refl
line_flat (Spawn f es) e = refl
line_flat (Goto m) e = refl
line_flat (Return v) e = refl
line_flat (Block ss) e = e
line_flat (While t a) e = e
line_flat (DoWhile a t) e = e
line_flat (For a t b c) e = e
line_flat Break e = e
line_flat Continue e = e
