-- Further uses: a part that depends on the one before, a choice by a test, and tokens alone.
use Rattle.std.proofs.Common.{◌≡◌, ℕ, suc, false, List, ◌++◌, Option, Some, None, refl, sym, subst, arith, nat_eq, if◌then◌else◌}
use Rattle.cpc_parser_reading.specs.Reading.{expect, one, before, after, bind, made, either, below}
use Rattle.cpc_parser_reading.specs.Phrase.{Expect, One, Before, After, Bound, Made, Either}
use Rattle.cpc_parser_reading.specs.Exact.{Stops, Any, Exact, Sample}
use Rattle.cpc_parser_reading.specs.SmallExpressions.{Kind, name, opening, Token, kind_of, Expr, named, is_closing, is_comma, text, whole, Reads, read}
use Rattle.cpc_parser_reading.specs.SmallStatements.{is_opening}
use Rattle.cpc_parser_reading.proofs.Readers.{any_stops, branch, exact_after, exact_before, exact_bind, exact_either, exact_expect, exact_made, exact_one, starts_after, starts_made}
use Rattle.cpc_parser_reading.proofs.SmallExpressions.{closer, closes_whole, exact_read, field_exact, divider}

-- the number of a name, unless it is the one before
abbrev unless : ℕ → Option ℕ → Option ℕ
unless m None = None
unless m (Some n) = if nat_eq m n then None else Some n

other_name : (m : ℕ) → unless m (Some (suc m)) ≡ Some (suc m)
other_name m = let e : nat_eq m (suc m) ≡ false = grind arith in rw e refl

-- Two names that differ.
pub exact_two_names : (n : ℕ) → Exact kind_of n 0 (λ d. bind (one (λ (t : Token). text t.kind)) (λ m. one (λ (t : Token). unless m (text t.kind))))
    (Bound (One (λ t. text t.kind)) (λ m. One (λ t. unless m (text t.kind)))) Any
exact_two_names n = exact_bind (field_exact n)
    (λ m. exact_one n (λ (t : Token). unless m (text t.kind)) (record { place = 0; kind = name (suc m) }) (suc m) (other_name m) (λ t u e i. subst (λ k. unless m (text k) ≡ None) e i))
    (λ u g v h rest r s. any_stops kind_of u (g ++ rest))

opener : Sample kind_of is_opening
opener = record { token = record { place = 0; kind = opening }; holds = refl }

-- a name is no opening mark
not_opening : (k : Kind) (n : ℕ) → text k ≡ Some n → is_opening k ≡ false
not_opening opening n e = absurd cc
not_opening k n e = refl

abbrev Round : List Token → Expr → ℕ → Type 0
Round = Made (λ v. v) (After (λ t. is_opening t.kind) (Before (Reads whole) (λ t. is_closing t.kind)))

abbrev Word : List Token → Expr → ℕ → Type 0
Word = Made named (One (λ t. text t.kind))

word_apart : (f : List Token) (v : Expr) (h : ℕ) (rest : List Token) → Word f v h → Stops kind_of (λ k. is_opening k ≡ false) (f ++ rest)
word_apart f v h rest (n, i, e, m, (t, e', p, z)) = subst (λ u. Stops kind_of (λ k. is_opening k ≡ false) (u ++ rest)) (sym e') (not_opening t.kind n p)

closed_exact : (n : ℕ) → Exact kind_of n 1 (λ d. before (λ ts. read d whole ts) (λ t. is_closing t.kind)) (Before (Reads whole) (λ t. is_closing t.kind)) Any
closed_exact n = exact_before (exact_read n whole) closer (λ v k e. closes_whole k e)

-- An expression in parentheses, or a name.
pub exact_round_or_word : (n : ℕ) → Exact kind_of (suc n) 1
    (λ d. either (λ t. is_opening t.kind) 2 d (made (λ v. v) (after (λ t. is_opening t.kind) (before (λ ts. read (below d) whole ts) (λ t. is_closing t.kind)))) (made named (one (λ t. text t.kind))))
    (Either Round Word) Any
exact_round_or_word n =
    exact_either (branch (starts_made (starts_after (closed_exact n).sample) (λ v. v)) (exact_made (λ v. v) Any (exact_after opener (closed_exact n)) (λ w k q. tt) (λ w k q. tt)))
    (exact_made named Any (field_exact n) (λ w k q. tt) (λ w k q. tt)) (omega arith) (λ f v h rest r s. word_apart f v h rest r)

-- A comma.
pub exact_comma : (n : ℕ) → Exact kind_of n 0 (λ d. expect (λ t. is_comma t.kind)) (Expect (λ t. is_comma t.kind)) Any
exact_comma n = exact_expect n divider
