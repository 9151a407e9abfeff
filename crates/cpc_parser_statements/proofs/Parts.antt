-- The parts of statements that end with a mark of theirs are read exactly.
use Rattle.std.proofs.Common.{◌≡◌, ℕ, true, false, is_some, List, [], ◌∷◌, ◌++◌, Option, Some, None, refl, ap, subst, ◌∙◌, arith, inl, inr}
use Rattle.cpc_base.specs.declared.stop.Place.{Place}
use Rattle.cpc_base.proofs.Truth.{or_by_either, or_either}
use Rattle.cpc_tree.specs.declared.token.Keyword.TheVariants as K
use Rattle.cpc_tree.specs.declared.token.Punctuator.TheVariants as P
use Rattle.cpc_tree.specs.Tokens.{Lexeme, Word, Mark, Placed}
use Rattle.cpc_tree.specs.Syntax.{Ty}
use Rattle.cpc_tree.specs.Located.{LExpr, LStmt}
use Rattle.cpc_tree.specs.TypeGrammar.{mark}
use Rattle.cpc_tree.specs.ExprGrammar.{Whole, Reads}
use Rattle.cpc_tree.specs.StmtGrammar.{given, Right, Value, Calls, Section, ReadsSimple, ReadsMaybe, no_value, some_value, ReadsFirst, no_first, simple_first, local_first, ReadsStep, no_step, some_step}
use Rattle.cpc_parser_reading.specs.Phrase.{Mapped, Either, Optional}
use Rattle.cpc_parser_reading.specs.Exact.{Any, Absent, Stops, Exact, Starts}
use Rattle.cpc_parser_reading.proofs.Readers.{branch, exact_after, exact_as, exact_either, exact_mapped, exact_optional, last_all, starts_as, starts_either, starts_mapped}
use Rattle.cpc_parser_types.specs.Views.{lexeme}
use Rattle.cpc_parser_types.specs.TypeReaders.{starts_base}
use Rattle.cpc_parser_expressions.specs.Shapes.{Calling, Postfixed, Other}
use Rattle.cpc_parser_expressions.specs.ExprReaders.{starts_expr, ShapeEnd}
use Rattle.cpc_parser_statements.specs.SimpleReaders.{RightEnd, Simple, Begun, Given, Updated, SteppedBehind, SteppedBefore, Detached, stmt_of, simple_class, SimpleEnd}
use Rattle.cpc_parser_statements.specs.LocalReaders.{Local, Locals, declared, PartEnd, LocalEnd}
use Rattle.cpc_parser_statements.specs.StmtReaders.{starts_simple, test_at, maybe_at, Opening, Stating, Declaring, opening_of, starts_opening, opening_at, first_at, last_of, last_at, sentence_at, StmtEnd}
use Rattle.cpc_parser_expressions.proofs.ExprStarts.{starts_reads}
use Rattle.cpc_parser_expressions.proofs.ExprExact.{expr_exact}
use Rattle.cpc_parser_statements.proofs.Ends.{semicolon_unary, right_unary, semicolon_whole, right_whole, semicolon_declarator}
use Rattle.cpc_parser_statements.proofs.Marks.{here, as_mark, mark_is, marks}
use Rattle.cpc_parser_statements.proofs.Ended.{Ended, exact_ended}
use Rattle.cpc_parser_statements.proofs.SimpleExact.{Simply, starts_simply, of_simply, to_simply, simple_exact}
use Rattle.cpc_parser_statements.proofs.Locals.{Declared, of_declared, to_declared}
use Rattle.cpc_parser_statements.proofs.LocalExact.{local_exact, starts_local}

-- The marks that end simple statements and declarations may stand behind them.
right_semicolon : (r : Right) → RightEnd r (Mark P.Semicolon)
right_semicolon (Value v) = semicolon_whole
right_semicolon (Calls v vs) = semicolon_whole
right_semicolon (Section q x vs) = tt

right_right : (r : Right) → RightEnd r (Mark P.RightParen)
right_right (Value v) = right_whole
right_right (Calls v vs) = right_whole
right_right (Section q x vs) = tt

pub simple_semicolon : (s : Simple) → SimpleEnd s (Mark P.Semicolon)
simple_semicolon (Begun q (Calling o v vs)) = (semicolon_unary, refl)
simple_semicolon (Begun q (Postfixed v)) = (semicolon_unary, refl)
simple_semicolon (Begun q (Other v)) = (semicolon_unary, refl)
simple_semicolon (Given q o v r) = right_semicolon r
simple_semicolon (Updated q o v op w) = semicolon_whole
simple_semicolon (SteppedBehind q o v op) = tt
simple_semicolon (SteppedBefore q v op) = semicolon_unary
simple_semicolon (Detached q x vs) = tt

simple_right : (s : Simple) → SimpleEnd s (Mark P.RightParen)
simple_right (Begun q (Calling o v vs)) = (right_unary, refl)
simple_right (Begun q (Postfixed v)) = (right_unary, refl)
simple_right (Begun q (Other v)) = (right_unary, refl)
simple_right (Given q o v r) = right_right r
simple_right (Updated q o v op w) = right_whole
simple_right (SteppedBehind q o v op) = tt
simple_right (SteppedBefore q v op) = right_unary
simple_right (Detached q x vs) = tt

part_semicolon : (base : Ty) (x : Local) → PartEnd base x (Mark P.Semicolon)
part_semicolon base (x, None) = (semicolon_declarator base x, refl)
part_semicolon base (x, Some r) = right_semicolon r

pub local_semicolon : (v : Locals) → LocalEnd v (Mark P.Semicolon)
local_semicolon v = (last_all (PartEnd v.0.1.0) v.1 (Mark P.Semicolon) (part_semicolon v.0.1.0), refl)

-- A test in parentheses.
abbrev pub Tested : List Placed → LExpr → ℕ → Type 0
Tested f v h = (q : Place) × (g : List Placed) × (r : Place) × (f ≡ mark q P.LeftParen ∷ (g ++ mark r P.RightParen ∷ [])) × Reads Whole g v h

pub test_exact : (n : ℕ) → Exact lexeme n 1 (λ d. test_at d) Tested Any
test_exact n = exact_as (exact_after (marks P.LeftParen) (exact_ended (expr_exact n) P.RightParen (λ v. right_whole))) (λ d ts a b. refl)
    (λ f v h (t, k, e, p, (g, r, e1, x)). (t.place, g, r, subst (λ u. f ≡ u ∷ (g ++ mark r P.RightParen ∷ [])) (as_mark t P.LeftParen (mark_is P.LeftParen t.lexeme p)) (e ∙ ap (λ u. t ∷ u) e1), x))
    (λ f v h (q, g, r, e, x). (mark q P.LeftParen, g ++ mark r P.RightParen ∷ [], e, refl, (g, r, refl, x)))

-- An expression that can be absent.
of_maybe : (f : List Placed) (o : Option LExpr) (h : ℕ) → Optional (Reads Whole) f o h → ReadsMaybe f o h
of_maybe f None h r = rw (r.0, r.1) no_value
of_maybe f (Some v) h r = some_value f v h r

to_maybe : (f : List Placed) (o : Option LExpr) (h : ℕ) → ReadsMaybe f o h → Optional (Reads Whole) f o h
to_maybe f o h no_value = (refl, refl)
to_maybe f o h (some_value g v i r) = r

maybe_ends : (o : Option LExpr) → Absent starts_expr (λ v. ShapeEnd Whole) o (Mark P.Semicolon)
maybe_ends None = refl
maybe_ends (Some v) = semicolon_whole

pub maybe_exact : (n : ℕ) → Exact lexeme n 0 (λ d. maybe_at d) (Ended P.Semicolon ReadsMaybe) Any
maybe_exact n = exact_ended (exact_as (exact_optional starts_reads (expr_exact n)) (λ d ts a b. refl) of_maybe to_maybe) P.Semicolon maybe_ends

-- The first part of a for: nothing that begins a type begins a simple statement.
abbrev Openings : List Placed → Opening → ℕ → Type 0
Openings = Either (Mapped Declaring Declared) (Mapped Stating Simply)

abbrev OpeningEnd : Opening → Lexeme → Type 0
OpeningEnd (Stating s) k = SimpleEnd s k
OpeningEnd (Declaring v) k = LocalEnd v k

pub no_base : (k : Lexeme) → is_some (simple_class k) ≡ true → starts_base k ≡ false
no_base (Word K.CpcDetached) e = refl
no_base (Word K.Sizeof) e = refl
no_base (Word w) e = absurd cc
no_base k e = refl

opening_apart : (f : List Placed) (v : Opening) (h : ℕ) (rest : List Placed) → Mapped Stating Simply f v h → Stops lexeme (OpeningEnd v) rest → Stops lexeme (λ k. starts_base k ≡ false) (f ++ rest)
opening_apart f v h rest (s, e, r) q = let b = starts_simply.head f s h r in rw b.2 (no_base b.0.lexeme b.3)

opening_exact : (n : ℕ) → Exact lexeme n 1 (λ d. opening_at d) Openings OpeningEnd
opening_exact n = exact_either (branch (starts_mapped starts_local Declaring) (exact_mapped Declaring OpeningEnd (local_exact n) (λ w k q. q) (λ w k q. q)))
    (exact_mapped Stating OpeningEnd (simple_exact n) (λ w k q. q) (λ w k q. q)) (omega arith) opening_apart

starts_opened : Starts lexeme (λ k. starts_opening k ≡ true) Openings
starts_opened = starts_as (starts_either (starts_mapped starts_local Declaring) (starts_mapped starts_simply Stating)) (λ k e. or_by_either (starts_base k) (starts_simple k) e) (λ k e. or_either (starts_base k) (starts_simple k) e)
    (λ f v h q. q) (λ f v h q. q)

opening_ends : (o : Option Opening) → Absent starts_opening OpeningEnd o (Mark P.Semicolon)
opening_ends None = refl
opening_ends (Some (Stating s)) = simple_semicolon s
opening_ends (Some (Declaring v)) = local_semicolon v

-- in the words of the grammar
of_opening : (f : List Placed) (o : Option Opening) (h : ℕ) → Optional Openings f o h → ReadsFirst f (opening_of o) h
of_opening f None h r = rw (r.0, r.1) no_first
of_opening f (Some o) h (inl (v, e, r)) = rw e (local_first f (declared v) h (of_declared f v h r))
of_opening f (Some o) h (inr (s, e, r)) = rw e (simple_first f (stmt_of s) h (of_simply f s h r))

to_opening : (f : List Placed) (ss : List LStmt) (h : ℕ) → ReadsFirst f ss h → (o : Option Opening) × (ss ≡ opening_of o) × Optional Openings f o h
to_opening f ss h no_first = (None, refl, (refl, refl))
to_opening f ss h (simple_first g s i r) = let k = to_simply g s i r in (Some (Stating k.0), ap (λ z. z ∷ []) k.1, inr (k.0, refl, k.2))
to_opening f ss h (local_first g rs i r) = let k = to_declared g rs i r in (Some (Declaring k.0), k.1, inl (k.0, refl, k.2))

pub first_exact : (n : ℕ) → Exact lexeme n 0 (λ d. first_at d) (Ended P.Semicolon ReadsFirst) Any
first_exact n = exact_as (exact_mapped opening_of Any (exact_ended (exact_optional starts_opened (opening_exact n)) P.Semicolon opening_ends) (λ w k q. tt) (λ w k q. tt)) (λ d ts a b. refl)
    (λ f v h (o, e, (g, r, e1, x)). (g, r, e1, rw e (of_opening g o h x)))
    (λ f v h (g, r, e, x). let k = to_opening g v h x in (k.0, k.1, (g, r, e, k.2)))

-- The last part of a for.
step_ends : (o : Option Simple) → Absent starts_simple SimpleEnd o (Mark P.RightParen)
step_ends None = refl
step_ends (Some s) = simple_right s

of_step : (f : List Placed) (o : Option Simple) (h : ℕ) → Optional Simply f o h → ReadsStep f (last_of o) h
of_step f None h r = rw (r.0, r.1) no_step
of_step f (Some s) h r = some_step f (stmt_of s) h (of_simply f s h r)

to_step : (f : List Placed) (o : Option LStmt) (h : ℕ) → ReadsStep f o h → (p : Option Simple) × (o ≡ last_of p) × Optional Simply f p h
to_step f o h no_step = (None, refl, (refl, refl))
to_step f o h (some_step g s i r) = let k = to_simply g s i r in (Some k.0, ap (λ z. Some z) k.1, k.2)

pub last_exact : (n : ℕ) → Exact lexeme n 0 (λ d. last_at d) (Ended P.RightParen ReadsStep) Any
last_exact n = exact_as (exact_mapped last_of Any (exact_ended (exact_optional starts_simply (simple_exact n)) P.RightParen step_ends) (λ w k q. tt) (λ w k q. tt)) (λ d ts a b. refl)
    (λ f v h (o, e, (g, r, e1, x)). (g, r, e1, rw e (of_step g o h x)))
    (λ f v h (g, r, e, x). let k = to_step g v h x in (k.0, k.1, (g, r, e, k.2)))

-- No simple statement dangles.
closed_given : (q o : Place) (v : LExpr) (r : Right) (k : Lexeme) → StmtEnd (given q o v r) k
closed_given q o v (Value w) k d = absurd cc
closed_given q o v (Calls w vs) k d = absurd cc
closed_given q o v (Section p x vs) k d = absurd cc

closed_simple : (s : Simple) (k : Lexeme) → StmtEnd (stmt_of s) k
closed_simple (Begun q (Calling o v vs)) k d = absurd cc
closed_simple (Begun q (Postfixed v)) k d = absurd cc
closed_simple (Begun q (Other v)) k d = absurd cc
closed_simple (Given q o v r) k d = closed_given q o v r k d
closed_simple (Updated q o v op w) k d = absurd cc
closed_simple (SteppedBehind q o v op) k d = absurd cc
closed_simple (SteppedBefore q v op) k d = absurd cc
closed_simple (Detached q x vs) k d = absurd cc

-- A simple statement and its semicolon.
pub sentence_exact : (n : ℕ) → Exact lexeme n 1 (λ d. sentence_at d) (Ended P.Semicolon ReadsSimple) StmtEnd
sentence_exact n = exact_as (exact_mapped stmt_of StmtEnd (exact_ended (simple_exact n) P.Semicolon simple_semicolon) (λ w k q. closed_simple w k) (λ w k q. tt)) (λ d ts a b. refl)
    (λ f v h (s, e, (g, r, e1, x)). (g, r, e1, rw e (of_simply g s h x)))
    (λ f v h (g, r, e, x). let k = to_simply g v h x in (k.0, k.1, (g, r, e, k.2)))

-- how it begins
pub starts_sentence : Starts lexeme (λ k. starts_simple k ≡ true) (Ended P.Semicolon ReadsSimple)
starts_sentence = record {
  head = λ f v h (g, r, e, x). let s = to_simply g v h x in let b = starts_simply.head g s.0 h s.2 in (b.0, b.1 ++ mark r P.Semicolon ∷ [], e ∙ ap (λ u. u ++ mark r P.Semicolon ∷ []) b.2, b.3);
  each = λ t e. let k = starts_simply.each t e in let o = k.1 in (k.0, record { rest = o.rest ++ mark here P.Semicolon ∷ []; value = stmt_of o.value; nest = o.nest; reads = (t ∷ o.rest, here, refl, of_simply (t ∷ o.rest) o.value o.nest o.reads); fits = o.fits });
}
