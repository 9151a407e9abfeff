-- What stands at the points of a plain program's functions.
use Rattle.std.proofs.Common.{◌≡◌, ℕ, zero, suc, Bool, true, false, ◌&&◌, ◌==◌, not, [], ◌∷◌, ◌++◌, Option, Some, None, bytes_eq, codes, cond, refl, sym, ◌∙◌, ap, subst}
use Rattle.std.proofs.lemmas.Bool.{eqb-true}
use Rattle.cpc_base.specs.Bytes.{Text}
use Rattle.cpc_base.proofs.Truth.{and_first, and_second, not_holds, or_neither}
use Rattle.cpc_tree.specs.Syntax.{Stmt, Block, Empty, Declare, Assign, Call, Detach, Spawn, If, While, DoWhile, For, Goto, Label, Break, Continue, Return, Stmts, NoStmt, AndStmt, MaybeStmt, Absent, Present, Function, StructItem, GlobalItem, PrototypeItem, FunctionItem, Program}
use Rattle.cpc_tree.specs.Typing.{function_named}
use Rattle.cpc_tree.specs.Points.{Nth, TheTest, TheYes, TheNo, TheStep, TheBody, Path, Point, Here, Arrival, End, Found, Simple, Test, Nothing, found, found_in, found_arm}
use Rattle.cpc_check_rules.specs.Operators.{is_cps}
use Rattle.cpc_check_rules.specs.FunctionRules.{begins_with, holds_underscores}
use Rattle.cpc_meaning.specs.Act.{Stood, AtStatement, AtArrival, AtEnd}
use Rattle.cpc_meaning.specs.Trees.{stood_at}
use Rattle.cpc_meaning.specs.Start.{begins_with_underscores, cut_where, before_underscores}
use Rattle.cpc_meaning.specs.Threads as T
use Rattle.cpc_meaning.specs.Threads.{shown_in}
use Rattle.cpc_meaning.proofs.Functions.{named_so}
use Rattle.cpc_check_laws.specs.Run.Plain.{is_plain_stmt, are_plain, is_plain_arm, is_plain_function, is_plain}

-- ---- bodies

abbrev pub IsPlainFound : Found → Type 0
IsPlainFound (Simple s) = is_plain_stmt s ≡ true
IsPlainFound (Test t) = Unit {0}
IsPlainFound Nothing = Unit {0}

mutual
  pub plain_at : (s : Stmt) → is_plain_stmt s ≡ true → (p : Path) → IsPlainFound (found s p)
  plain_at (Block NoStmt) h [] = refl
  plain_at (Block (AndStmt s ss)) h (Nth n ∷ p) = plain_in (AndStmt s ss) h n p
  plain_at (If t a b) h (TheTest ∷ []) = tt
  plain_at (If t a b) h (TheYes ∷ p) = plain_at a (and_first (is_plain_stmt a) (is_plain_arm b) h) p
  plain_at (If t a b) h (TheNo ∷ p) = plain_arm b (and_second (is_plain_stmt a) (is_plain_arm b) h) p
  plain_at (While t s) h (TheTest ∷ []) = tt
  plain_at (While t s) h (TheBody ∷ p) = plain_at s h p
  plain_at (DoWhile s t) h (TheTest ∷ []) = tt
  plain_at (DoWhile s t) h (TheBody ∷ p) = plain_at s h p
  plain_at (For first t step s) h (Nth n ∷ p) = plain_in first (and_first (are_plain first) (is_plain_arm step && is_plain_stmt s) h) n p
  plain_at (For first t step s) h (TheTest ∷ []) = tt
  plain_at (For first t step s) h (TheStep ∷ p) = plain_arm step (and_first (is_plain_arm step) (is_plain_stmt s) (and_second (are_plain first) (is_plain_arm step && is_plain_stmt s) h)) p
  plain_at (For first t step s) h (TheBody ∷ p) = plain_at s (and_second (is_plain_arm step) (is_plain_stmt s) (and_second (are_plain first) (is_plain_arm step && is_plain_stmt s) h)) p
  plain_at (Label l s) h (TheBody ∷ p) = plain_at s h p
  plain_at Empty h [] = refl
  plain_at (Declare x t start) h [] = refl
  plain_at (Assign e op v) h [] = refl
  plain_at (Call e f es) h [] = h
  plain_at (Detach e f es) h p = absurd cc
  plain_at (Spawn f es) h p = absurd cc
  plain_at (Goto l) h [] = refl
  plain_at Break h [] = refl
  plain_at Continue h [] = refl
  plain_at (Return v) h [] = refl
  plain_at _ h _ = tt

  pub plain_in : (ss : Stmts) → are_plain ss ≡ true → (n : ℕ) (p : Path) → IsPlainFound (found_in ss n p)
  plain_in (AndStmt s ss) h zero p = plain_at s (and_first (is_plain_stmt s) (are_plain ss) h) p
  plain_in (AndStmt s ss) h (suc n) p = plain_in ss (and_second (is_plain_stmt s) (are_plain ss) h) n p
  plain_in NoStmt h n p = tt

  pub plain_arm : (o : MaybeStmt) → is_plain_arm o ≡ true → (p : Path) → IsPlainFound (found_arm o p)
  plain_arm Absent h p = tt
  plain_arm (Present s) h p = plain_at s h p

-- ---- functions

-- a function of a plain program is plain
pub function_plain : (p : Program) → is_plain p ≡ true → (x : Text) (f : Function) → function_named p x ≡ Some f → is_plain_function f ≡ true
function_plain [] h x f e = absurd cc
function_plain (FunctionItem g ∷ items) h x f e = go (bytes_eq g.called x) (function_plain items (and_second (is_plain_function g) (is_plain items) h) x f) e
  where
    go : (b : Bool) → (function_named items x ≡ Some f → is_plain_function f ≡ true) → cond b (Some g) (function_named items x) ≡ Some f → is_plain_function f ≡ true
    go true later k = let i : g ≡ f = cc in ap is_plain_function (sym i) ∙ and_first (is_plain_function g) (is_plain items) h
    go false later k = later k
function_plain (StructItem tag fs ∷ items) h x f e = function_plain items h x f e
function_plain (GlobalItem g t start ∷ items) h x f e = function_plain items h x f e
function_plain (PrototypeItem mode g r ps ∷ items) h x f e = function_plain items (and_second (not (is_cps mode)) (is_plain items) h) x f e

abbrev pub IsPlainStood : Stood → Type 0
IsPlainStood (AtStatement f) = IsPlainFound f
IsPlainStood (AtArrival f) = Unit {0}
IsPlainStood AtEnd = Unit {0}

pub plain_stood : (p : Program) → is_plain p ≡ true → (x : Text) (point : Point) → IsPlainStood (stood_at (function_named p x) point)
plain_stood p h x point = go (function_named p x) refl point
  where
    go : (o : Option Function) → function_named p x ≡ o → (point : Point) → IsPlainStood (stood_at o point)
    go None e point = tt
    go (Some f) e (Here path) =
        let k = function_plain p h x f e in
        plain_at f.body (and_second (not (holds_underscores f.called)) (is_plain_stmt f.body) (and_second (not (is_cps f.mode)) (not (holds_underscores f.called) && is_plain_stmt f.body) k)) path
    go (Some f) e (Arrival path) = tt
    go (Some f) e End = tt

-- ---- names

no_underscores_first : (b : ℕ) (bs : Text) → begins_with (codes "__") (b ∷ bs) ≡ false → begins_with_underscores (b ∷ bs) ≡ false
no_underscores_first b [] e = refl
no_underscores_first b (c ∷ bs) e = go (b == 95) refl (c == 95) refl
  where
    go : (s : Bool) → (b == 95) ≡ s → (t : Bool) → (c == 95) ≡ t → (s && t) ≡ false
    go true i true j =
        let both : begins_with (codes "__") (95 ∷ 95 ∷ bs) ≡ false =
        subst (λ y. begins_with (codes "__") (95 ∷ y ∷ bs) ≡ false) (eqb-true c 95 j) (subst (λ y. begins_with (codes "__") (y ∷ c ∷ bs) ≡ false) (eqb-true b 95 i) e) in
        absurd cc
    go true i false j = refl
    go false i t j = refl

-- a name without two underscores in a row is shown whole
pub whole : (x : Text) → holds_underscores x ≡ false → before_underscores x ≡ x
whole [] h = refl
whole (b ∷ bs) h =
    let e = or_neither (begins_with (codes "__") (b ∷ bs)) (holds_underscores bs) h in
    ap (λ here. cut_where here (b ∷ before_underscores bs)) (no_underscores_first b bs e.0) ∙ ap (λ t. b ∷ t) (whole bs e.1)

-- a function of a plain program is shown alike in faults
pub shown_alike : (p : Program) → is_plain p ≡ true → (x : Text) (f : Function) → function_named p x ≡ Some f → shown_in p x ≡ before_underscores x
shown_alike p h x f e =
    let k = function_plain p h x f e in
    let native : is_cps f.mode ≡ false = not_holds (is_cps f.mode) (and_first (not (is_cps f.mode)) (not (holds_underscores f.called) && is_plain_stmt f.body) k) in
    let name : holds_underscores f.called ≡ false = not_holds (holds_underscores f.called) (and_first (not (holds_underscores f.called)) (is_plain_stmt f.body) (and_second (not (is_cps f.mode)) (not (holds_underscores f.called) && is_plain_stmt f.body) k)) in
    let is_x : f.called ≡ x = named_so p x f e in
    ap (λ o. cond (T.is_cps o) (before_underscores (x ++ codes "__")) x) e
    ∙ ap (λ b. cond b (before_underscores (x ++ codes "__")) x) native
    ∙ sym (whole x (ap holds_underscores (sym is_x) ∙ name))

-- nor is anything shown where no function runs
pub nothing_shown : (p : Program) → shown_in p [] ≡ before_underscores []
nothing_shown p = go (T.is_cps (function_named p []))
  where
    go : (b : Bool) → cond b (before_underscores (codes "__")) [] ≡ before_underscores []
    go true = refl
    go false = refl
