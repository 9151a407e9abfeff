-- Rows of arguments that are evaluated one after the other.
use Rattle.std.proofs.Common.{◌≡◌, ℕ, ◌+◌, ◌<◌, ◌≤◌, ◌==◌, true, List, [], ◌∷◌, ◌++◌, length, map, get_or, drop, Option, Some, None, option_map, Result, Ok, Err, refl, sym, ap, subst, ◌∙◌, append-nil}
use Rattle.std.specs.Prelude.{slice_get}
use Rattle.std.proofs.lemmas.Bool.{eqb-true}
use Rattle.std.proofs.lemmas.Option.{slice_get-map}
use Rattle.std.proofs.lemmas.List.{drop_more, drop_all, map-append}
use Rattle.cpc_base.specs.declared.stop.Stop.{Stop}
use Rattle.cpc_num.specs.declared.kinds.Fault.{Fault}
use Rattle.cpc_tree.specs.declared.program.Expr.{Expr}
use Rattle.cpc_tree.specs.Erase.{Names, expr_of, exprs_of}
use Rattle.cpc_tree.specs.Syntax as Y
use Rattle.cpc_tree.specs.Syntax.{EText, Exprs, NoExpr, AndExpr, Program}
use Rattle.cpc_tree.specs.Primitives as P
use Rattle.cpc_store.specs.Store.{Value}
use Rattle.cpc_store.specs.declared.values.Value as V
use Rattle.cpc_meaning.specs.Answer.{◌>>=◌, needed}
use Rattle.cpc_meaning.specs.Eval as E
use Rattle.cpc_meaning.specs.Act as M
use Rattle.cpc_meaning.specs.Requests.{taken_as}
use Rattle.cpc_eval_values.specs.Meets.{Meets}
use Rattle.cpc_eval_values.specs.Shown.{value_of, values_of}
use Rattle.cpc_eval_values.specs.Takes.{taken_of}
use Rattle.cpc_eval_values.specs.declared.assignment.Taken.{Taken}
use Rattle.cpc_eval.specs.Numbers.{HasNumbers, AllNumbers}
use Rattle.cpc_native_plans.specs.Stops.{MeetsOr}
use Rattle.cpc_native_plans.specs.Rows.{by_nth, text_in}
use Rattle.cpc_native_plans.specs.Parts.{Stands}
use Rattle.cpc_native_plans.proofs.Rowing.{after, one_more, none_more}
use Rattle.cpc_native_plans.proofs.Stopping.{or_stands}

-- the first argument that is left
pub first_left : (names : Names) (args : List Expr) (i : ℕ) (x : Expr) → i < length args → x ≡ get_or args i x → exprs_of names (drop i args) ≡ AndExpr (expr_of names x) (exprs_of names (drop (i + 1) args))
first_left names args i x h e = ap (exprs_of names) (drop_more args i x h ∙ ap (λ y. y ∷ drop (i + 1) args) (sym e))

module _ (names : Names) (c : E.Context) (args : List Expr) (i : ℕ) (row : List V.Value) where
  -- what is known where so many arguments are evaluated
  abbrev pub SoFar : Type 0
  SoFar = AllNumbers c.program (exprs_of names (drop i args)) × Stands (after (values_of names row) (E.values c (exprs_of names (drop i args)))) (E.values c (exprs_of names args))

  numbers_left : (x : Expr) → i < length args → x ≡ get_or args i x → SoFar → HasNumbers c.program (expr_of names x) × AllNumbers c.program (exprs_of names (drop (i + 1) args))
  numbers_left x h e known = let P : Exprs → Type 0 = AllNumbers c.program in subst P (first_left names args i x h e) known.0

  stands_left : (x : Expr) → i < length args → x ≡ get_or args i x → SoFar → Stands (after (values_of names row) (E.values c (AndExpr (expr_of names x) (exprs_of names (drop (i + 1) args))))) (E.values c (exprs_of names args))
  stands_left x h e known = let P : Exprs → Type 0 = λ es. Stands (after (values_of names row) (E.values c es)) (E.values c (exprs_of names args)) in subst P (first_left names args i x h e) known.1

  pub value_not : (x : Expr) (s : Stop Fault) → i < length args → x ≡ get_or args i x → SoFar → (HasNumbers c.program (expr_of names x) → MeetsOr {A = Value} (Err s) (E.value c (expr_of names x))) → MeetsOr {A = List Value} (Err s) (E.values c (exprs_of names args))
  value_not x s h e known m =
      let left = E.values c (exprs_of names (drop (i + 1) args)) in
      or_stands (Err s) _ (E.values c (exprs_of names args)) (stands_left x h e known) (none_more (values_of names row) s (E.value c (expr_of names x)) left (m (numbers_left x h e known).0))

  pub all_evaluated : length args ≤ i → SoFar → Meets (Ok (values_of names row)) (E.values c (exprs_of names args))
  all_evaluated h known =
      let P : Exprs → Type 0 = λ es. Stands (after (values_of names row) (E.values c es)) (E.values c (exprs_of names args)) in
      (subst P (ap (exprs_of names) (drop_all i args h)) known.1) (Ok (values_of names row)) (ap Ok (sym (append-nil (values_of names row))))

pub value_more : (names : Names) (c : E.Context) (args : List Expr) (i : ℕ) (row new : List V.Value) (x : Expr) (w : V.Value) → i < length args → x ≡ get_or args i x → new ≡ row ++ w ∷ [] → SoFar names c args i row
    → (HasNumbers c.program (expr_of names x) → Meets (Ok (value_of names w)) (E.value c (expr_of names x))) → SoFar names c args (i + 1) new
value_more names c args i row new x w h e is known m =
    let numbers = numbers_left names c args i row x h e known in
    let left = E.values c (exprs_of names (drop (i + 1) args)) in
    let made : values_of names new ≡ values_of names row ++ value_of names w ∷ [] = ap (values_of names) is ∙ map-append (value_of names) row (w ∷ []) in
    let P : List Value → Type 0 = λ vs. Stands (after vs left) (E.values c (exprs_of names args)) in
    (numbers.1, subst P (sym made) (λ r k. stands_left names c args i row x h e known r (one_more (values_of names row) (value_of names w) (E.value c (expr_of names x)) left (m numbers.0) r k)))

-- ---- what a primitive takes

nth_taken : (takes : List Taken) (ts : List P.Taken) (i : ℕ) → map Some takes ≡ map taken_of ts → option_map Some (slice_get takes i) ≡ option_map taken_of (slice_get ts i)
nth_taken takes ts i h = sym (slice_get-map Some takes i) ∙ (ap (λ l. slice_get l i) h ∙ slice_get-map taken_of ts i)

pub taken_nth : (takes : List Taken) (ts : List P.Taken) (i : ℕ) (taken : Taken) (v : Value) (r : Result Value Fault) → Some taken ≡ slice_get takes i → map Some takes ≡ map taken_of ts
    → ((t : P.Taken) → taken_of t ≡ Some taken → Meets r (taken_as t v)) → Meets r (by_nth taken_as ts i v)
taken_nth takes ts i taken v r e h g = go (slice_get ts i) (ap (option_map Some) e ∙ nth_taken takes ts i h)
  where
    go : (o : Option P.Taken) → Some (Some taken) ≡ option_map taken_of o → Meets r (needed o >>= (λ t. taken_as t v))
    go None f = tt
    go (Some t) f = g t cc

pub none_taken : (takes : List Taken) (ts : List P.Taken) (i : ℕ) (v : Value) (r : Result Value Fault) → None ≡ slice_get takes i → map Some takes ≡ map taken_of ts → Meets r (by_nth taken_as ts i v)
none_taken takes ts i v r e h = go (slice_get ts i) (ap (option_map Some) e ∙ nth_taken takes ts i h)
  where
    go : (o : Option P.Taken) → None ≡ option_map taken_of o → Meets r (needed o >>= (λ t. taken_as t v))
    go None f = tt
    go (Some t) f = absurd cc

-- ---- the string of `cpc_puts`

one_text : (e : Y.Expr) → text_in e ≡ M.puts_text P.Puts (AndExpr e NoExpr)
one_text (EText bytes) = refl
one_text _ = refl

more_text : (e d : Y.Expr) (es : Exprs) → None ≡ M.puts_text P.Puts (AndExpr e (AndExpr d es))
more_text (EText bytes) d es = refl
more_text _ d es = refl

pub text_alone : (names : Names) (args : List Expr) (d : Expr) → (length args == 1) ≡ true → text_in (expr_of names (get_or args 0 d)) ≡ M.puts_text P.Puts (exprs_of names args)
text_alone names [] d h = absurd cc
text_alone names (e ∷ []) d h = one_text (expr_of names e)
text_alone names (e ∷ x ∷ rest) d h = let one : length (e ∷ x ∷ rest) ≡ 1 = eqb-true (length (e ∷ x ∷ rest)) 1 h in absurd cc

pub text_not : (names : Names) (args : List Expr) → (length args ≡ 1 → ⊥) → None ≡ M.puts_text P.Puts (exprs_of names args)
text_not names [] h = refl
text_not names (e ∷ []) h = absurd (h refl)
text_not names (e ∷ x ∷ rest) h = more_text (expr_of names e) (expr_of names x) (exprs_of names rest)
