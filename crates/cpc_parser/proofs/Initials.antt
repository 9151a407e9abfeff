-- What a global starts with is read exactly.
use Rattle.std.proofs.Common.{◌≡◌, ℕ, ◌≤◌, List, [], ◌∷◌, Some, None, pos, refl, sym, ap, subst, arith}
use Rattle.cpc_base.specs.declared.stop.Place.{Place}
use Rattle.cpc_base.proofs.Lists.{some_is}
use Rattle.cpc_num.specs.declared.kinds.Kind.TheVariants as N
use Rattle.cpc_tree.specs.declared.token.Punctuator.TheVariants as P
use Rattle.cpc_tree.specs.Tokens.{Lexeme, Mark, Number, Character, Quoted, Placed}
use Rattle.cpc_tree.specs.Located.{LExpr, LInteger}
use Rattle.cpc_tree.specs.ItemGrammar.{ReadsInitial, an_integer, a_negative, a_character, a_text}
use Rattle.cpc_parser_reading.specs.Reading.{one}
use Rattle.cpc_parser_reading.specs.Phrase.{One, After, Made, Headed, OneOf}
use Rattle.cpc_parser_reading.specs.Exact.{Any, Opens, Exact, Branch, Starts}
use Rattle.cpc_parser_reading.proofs.Readers.{branch, exact_as, exact_made, exact_one, exact_one_of, exact_after, headed_branch}
use Rattle.cpc_parser_types.specs.Views.{lexeme}
use Rattle.cpc_parser_types.proofs.Bases.{token, spot}
use Rattle.cpc_parser_types.proofs.BaseWords.{at}
use Rattle.cpc_parser.specs.ItemReaders.{Initial, Literal, Negative, initial_class, initial_low, integer_in, literal_in, same, negative, initial_part, initial_at, start_at, is_equal}
use Rattle.cpc_parser.proofs.Marks.{equals}
use Rattle.cpc_parser.proofs.Places.{exact_less}

-- an integer
abbrev Integer : List Placed → LExpr → ℕ → Type 0
Integer = One (λ t. integer_in t.place t.lexeme)

-- the initials of each class, in the readers' words
abbrev Initials : Initial → List Placed → LExpr → ℕ → Type 0
Initials Literal = Made same (One (λ t. literal_in t.place t.lexeme))
Initials Negative = Headed lexeme (λ k. initial_class k ≡ Some Negative) (λ t. Made (negative t.place) (Made same Integer))

integer_none : (q r : Place) (k : Lexeme) → integer_in q k ≡ None → integer_in r k ≡ None
integer_none q r (Number kind z) e = absurd cc
integer_none q r k e = refl

literal_none : (q r : Place) (k : Lexeme) → literal_in q k ≡ None → literal_in r k ≡ None
literal_none q r (Character z) e = absurd cc
literal_none q r (Quoted bytes) e = absurd cc
literal_none q r (Number kind z) e = absurd cc
literal_none q r k e = refl

integer_exact : (n : ℕ) → Exact lexeme n 0 (λ d. one (λ t. integer_in t.place t.lexeme)) Integer Any
integer_exact n = exact_one n (λ t. integer_in t.place t.lexeme) (token (Number N.Int (pos 0))) (LInteger spot N.Int (pos 0)) refl
    (λ t u e i. integer_none t.place u.place u.lexeme (subst (λ k. integer_in t.place k ≡ None) e i))

literal_exact : (n : ℕ) → Exact lexeme n 0 (λ d. one (λ t. literal_in t.place t.lexeme)) (One (λ t. literal_in t.place t.lexeme)) Any
literal_exact n = exact_one n (λ t. literal_in t.place t.lexeme) (token (Number N.Int (pos 0))) (LInteger spot N.Int (pos 0)) refl
    (λ t u e i. literal_none t.place u.place u.lexeme (subst (λ k. literal_in t.place k ≡ None) e i))

literal_class : (q : Place) (k : Lexeme) (v : LExpr) → literal_in q k ≡ Some v → initial_class k ≡ Some Literal
literal_class q (Character z) v e = refl
literal_class q (Quoted bytes) v e = refl
literal_class q (Number kind z) v e = refl
literal_class q k v e = absurd cc

literal_each : (q : Place) (k : Lexeme) → initial_class k ≡ Some Literal → (v : LExpr) × (literal_in q k ≡ Some v)
literal_each q (Character z) e = (_, refl)
literal_each q (Quoted bytes) e = (_, refl)
literal_each q (Number kind z) e = (_, refl)
literal_each q (Mark P.Minus) e = absurd cc
literal_each q k e = absurd cc

starts_literal : Starts lexeme (λ k. initial_class k ≡ Some Literal) (Initials Literal)
starts_literal = record {
  head = λ f v h r. let b = r.4 in (b.0, [], b.1, literal_class b.0.place b.0.lexeme r.0 b.2);
  each = λ t e. let b = literal_each t.place t.lexeme e in (1, record { rest = []; value = b.0; nest = 1; reads = (b.0, 0, refl, refl, (t, refl, b.1, refl)); fits = omega arith });
}

part_exact : (n : ℕ) (c : Initial) → Branch lexeme (λ k. initial_class k ≡ Some c) n (initial_low c) (λ d. initial_part d c) (Initials c) Any
part_exact n Literal = branch starts_literal (exact_less (exact_made same Any (literal_exact n) (λ w k q. tt) (λ w k q. tt)))
part_exact n Negative = headed_branch (λ t e. exact_less (exact_less (exact_made (negative t.place) Any (exact_made same Any (integer_exact n) (λ w k q. tt) (λ w k q. tt)) (λ w k q. tt) (λ w k q. tt))))

minus_is : (q : Place) (k : Lexeme) → initial_class k ≡ Some Negative → k ≡ Mark P.Minus
minus_is q (Mark P.Minus) e = refl
minus_is q k e = absurd cc

of_integer : (q : Place) (k : Lexeme) (v : LExpr) → integer_in q k ≡ Some v → ReadsInitial (at q k ∷ []) v 1
of_integer q (Number kind z) v e = rw (← some_is _ v e) (an_integer q kind z)
of_integer q k v e = absurd cc

of_literal : (q : Place) (k : Lexeme) (v : LExpr) → literal_in q k ≡ Some v → ReadsInitial (at q k ∷ []) v 1
of_literal q (Character z) v e = rw (← some_is _ v e) (a_character q z)
of_literal q (Quoted bytes) v e = rw (← some_is _ v e) (a_text q bytes)
of_literal q (Number kind z) v e = rw (← some_is _ v e) (an_integer q kind z)
of_literal q k v e = absurd cc

of_negative : (q r : Place) (k : Lexeme) (v : LExpr) → integer_in r k ≡ Some v → ReadsInitial (at q (Mark P.Minus) ∷ at r k ∷ []) (negative q v) 2
of_negative q r (Number kind z) v e = rw (← some_is _ v e) (a_negative q r kind z)
of_negative q r k v e = absurd cc

of_initial : (f : List Placed) (v : LExpr) (h : ℕ) → OneOf Initials f v h → ReadsInitial f v h
of_initial f v h (Literal, (w, i, e, m, (t, e1, p, z))) = rw (e, m, e1, z) (of_literal t.place t.lexeme w p)
of_initial f v h (Negative, (t, g, e, p, (w, i, e1, m, (u, j, e2, m2, (s, e3, b, z))))) =
    let x : t ≡ at t.place (Mark P.Minus) = ap (at t.place) (minus_is t.place t.lexeme p) in
    rw (e, e1, m, m2, e2, e3, z) (subst (λ y. ReadsInitial (y ∷ s ∷ []) (negative t.place u) 2) (sym x) (of_negative t.place s.place s.lexeme u b))

to_initial : (f : List Placed) (v : LExpr) (h : ℕ) → ReadsInitial f v h → OneOf Initials f v h
to_initial f v h (an_integer q kind z) = (Literal, (v, 0, refl, refl, (at q (Number kind z), refl, refl, refl)))
to_initial f v h (a_character q z) = (Literal, (v, 0, refl, refl, (at q (Character z), refl, refl, refl)))
to_initial f v h (a_text q bytes) = (Literal, (v, 0, refl, refl, (at q (Quoted bytes), refl, refl, refl)))
to_initial f v h (a_negative q r kind z) = (Negative, (at q (Mark P.Minus), at r (Number kind z) ∷ [], refl, refl, (LInteger r kind z, 1, refl, refl, (LInteger r kind z, 0, refl, refl, (at r (Number kind z), refl, refl, refl)))))

initial_sample : Opens (OneOf Initials) 1 []
initial_sample = record { rest = token (Number N.Int (pos 0)) ∷ []; value = LInteger spot N.Int (pos 0); nest = 1; reads = to_initial _ _ _ (an_integer spot N.Int (pos 0)); fits = omega arith }

initial_least : (c : Initial) → 1 ≤ initial_low c
initial_least Literal = omega arith
initial_least Negative = omega arith

-- what a global starts with is read exactly
pub initial_exact : (n : ℕ) → Exact lexeme n 1 (λ d. initial_at d) ReadsInitial Any
initial_exact n = exact_as (exact_one_of initial_class (part_exact n) initial_least initial_sample) (λ d ts a b. refl) of_initial to_initial

-- a mark and what a global starts with
abbrev pub Start : List Placed → LExpr → ℕ → Type 0
Start = After (λ t. is_equal t.lexeme) ReadsInitial

pub start_exact : (n : ℕ) → Exact lexeme n 1 (λ d. start_at d) Start Any
start_exact n = exact_after equals (initial_exact n)
