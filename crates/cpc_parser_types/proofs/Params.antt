-- Parameters are read exactly.
use Rattle.std.proofs.Common.{◌≡◌, ℕ, ◌+◌, Bool, true, false, ◌||◌, is_some, inl, inr, List, [], ◌∷◌, ◌++◌, Option, Some, None, max, pos, refl, sym, subst, arith, nat_lt}
use Rattle.cpc_num.specs.declared.kinds.Kind.TheVariants as N
use Rattle.cpc_tree.specs.declared.token.Punctuator.TheVariants as P
use Rattle.cpc_base.specs.declared.stop.Place.{Place}
use Rattle.cpc_base.proofs.Lists.{none_not_some}
use Rattle.cpc_base.proofs.Truth.{by_false_true}
use Rattle.cpc_tree.specs.Tokens.{Lexeme, Word, Mark, Named, Number, Placed}
use Rattle.cpc_tree.specs.Located.{Ident, LParameter}
use Rattle.cpc_tree.specs.Syntax.{Ty}
use Rattle.cpc_tree.specs.TypeGrammar.{named, ReadsParams}
use Rattle.cpc_parser_reading.specs.Reading.{Reader, one, after, pair, optional}
use Rattle.cpc_parser_reading.specs.Phrase.{Either, Nothing, One, Expect, Before, After, Mapped, Made, Headed, Both, Optional}
use Rattle.cpc_parser_reading.specs.Chain.{Chained, Joint}
use Rattle.cpc_parser_reading.specs.Lists.{Separated}
use Rattle.cpc_parser_reading.specs.Exact.{Any, Absent, Stops, Exact, Branch, Starts, Sample, Opens}
use Rattle.cpc_parser_reading.proofs.Readers.{Over, last_all, starts_chain, starts_mapped, starts_separated, exact_separated, exact_after, exact_before, exact_chain, exact_expect, exact_mapped, exact_nothing, exact_optional, exact_pair, headed_branch, fits_room, free_room}
use Rattle.cpc_parser_types.specs.Views.{lexeme}
use Rattle.cpc_parser_types.specs.TypeReaders.{Ending, Done, LongWord, SignedWord, UnsignedWord, next_word, ident_in, ident_of, star_class, is_star, Piece, Open, Known, Closed, Going, Name, Brackets, Code, piece_class, Part, name_part, bracket_part, code_part, pieced, is_left, is_right, is_unbracket, is_comma, is_number, is_name, ident_at, going_least, code_of, bracket_of, name_of, piece_part, param_at, params_of, params_at, itself, lists, starts_base, is_struct, first_word, tagged}
use Rattle.cpc_parser_types.proofs.BaseWords.{at}
use Rattle.cpc_parser_types.proofs.Bases.{token, nobody, name_exact, Tagged, WordsEnd, Typed, typed_exact}

-- a first token of a class
abbrev pub Begins : Going → Lexeme → Type 0
Begins c k = (p : Piece) × (piece_class p k ≡ Some c)

-- Samples of single marks.
pub rights : Sample lexeme is_right
rights = record { token = token (Mark P.RightParen); holds = refl }

pub lefts : Sample lexeme is_left
lefts = record { token = token (Mark P.LeftParen); holds = refl }

pub unbrackets : Sample lexeme is_unbracket
unbrackets = record { token = token (Mark P.RightBracket); holds = refl }

pub numbers : Sample lexeme is_number
numbers = record { token = token (Number N.Int (pos 0)); holds = refl }

pub stars : Sample lexeme is_star
stars = record { token = token (Mark P.Star); holds = refl }

starts_expect : {p : Lexeme → Bool} → Starts lexeme (λ k. p k ≡ true) (Expect (λ t. p t.lexeme))
starts_expect = record {
  head = λ f v h r. (r.0, [], r.1, r.2);
  each = λ t e. (0, record { rest = []; value = tt; nest = 0; reads = (t, refl, e, refl); fits = omega arith });
}

pub text_is : (q : Place) (t : Lexeme) (x : Ident) → ident_in q t ≡ Some x → is_name t ≡ true
text_is q (Named y) x e = refl
text_is q t x e = absurd (none_not_some x e)

name_each : (q : Place) (t : Lexeme) → is_name t ≡ true → (m : ℕ) × Opens (One ident_of) m (at q t ∷ [])
name_each q (Named y) e = let x : Ident = record { place = q; text = y } in (0, record { rest = []; value = x; nest = 0; reads = (named x, refl, refl, refl); fits = omega arith })
name_each q t e = by_false_true e

starts_name : Starts lexeme (λ k. is_name k ≡ true) (One ident_of)
starts_name = record { head = λ f v h r. (r.0, [], r.1, text_is r.0.place r.0.lexeme v r.2); each = λ t e. name_each t.place t.lexeme e }

not_number : (o : Option (Unit {0})) (k : Lexeme) → is_unbracket k ≡ true → Absent is_number Any o k
not_number None (Mark P.RightBracket) e = refl
not_number (Some u) k e = tt
not_number o k e = by_false_true e

not_name : (o : Option Ident) (k : Lexeme) → is_right k ≡ true → Absent is_name Any o k
not_name None (Mark P.RightParen) e = refl
not_name (Some u) k e = tt
not_name o k e = by_false_true e

-- What may stand behind what has been read of a parameter.
abbrev pub PieceEnd : Piece → Lexeme → Type 0
PieceEnd (Open v) k = WordsEnd v k × (star_class k ≡ None)
PieceEnd (Known t x) k = Unit {0}
PieceEnd (Closed t o) k = Unit {0}

word_ends : (e : Ending) (k : Lexeme) (c : Going) (t : Ty) → piece_class (Open (t, e)) k ≡ Some c → next_word e k ≡ None
word_ends Done k c t e = refl
word_ends (LongWord i) (Word k) c t e = absurd (none_not_some c e)
word_ends (LongWord i) k c t e = refl
word_ends SignedWord (Word k) c t e = absurd (none_not_some c e)
word_ends SignedWord k c t e = refl
word_ends UnsignedWord (Word k) c t e = absurd (none_not_some c e)
word_ends UnsignedWord k c t e = refl

no_star_class : (v : Ty × Ending) (k : Lexeme) (c : Going) → piece_class (Open v) k ≡ Some c → star_class k ≡ None
no_star_class v (Mark P.Star) c e = absurd (none_not_some c e)
no_star_class v k c e = refl

piece_clear : (p : Piece) (k : Lexeme) (c : Going) → piece_class p k ≡ Some c → PieceEnd p k
piece_clear (Open v) k c e = ((tt, word_ends v.1 k c v.0 e), no_star_class v k c e)
piece_clear (Known t x) k c e = tt
piece_clear (Closed t o) k c e = tt

piece_to : (c : Going) (p : Piece) (w : Part) (k : Lexeme) → PieceEnd (pieced c p w) k
piece_to c p (name_part x) k = tt
piece_to c p bracket_part k = tt
piece_to c p (code_part o ps) k = tt

pub piece_joint : (n : ℕ) → Joint lexeme n 0 piece_class (λ d c h. nat_lt d (max (h + 0) (going_least c + 0))) pieced (λ c h j. max (h + 0) (j + 0)) (λ p c. Unit {0}) Begins PieceEnd (λ c w k. Unit {0}) (λ c. 0) (λ c. 0) going_least
piece_joint n = record {
  begins = λ p k c e. (p, e);
  clear = λ p k c e ok. piece_clear p k c e;
  suits = λ p k c e q. tt;
  to = λ c p w k q. piece_to c p w k;
  of = λ c p w k q. tt;
  grows = λ c h j. refl;
  fits = λ d c h lo hi le e. fits_room d (h + 0) (going_least c + 0) e;
  free = λ d c h a b. free_room d (h + 0) (going_least c + 0) a b;
}

pub right_words : (v : Ty × Ending) → next_word v.1 (Mark P.RightParen) ≡ None
right_words (t, Done) = refl
right_words (t, LongWord i) = refl
right_words (t, SignedWord) = refl
right_words (t, UnsignedWord) = refl

comma_words : (v : Ty × Ending) → next_word v.1 (Mark P.Comma) ≡ None
comma_words (t, Done) = refl
comma_words (t, LongWord i) = refl
comma_words (t, SignedWord) = refl
comma_words (t, UnsignedWord) = refl

-- what may stand behind a parameter
abbrev pub ParamEnd : Piece → Lexeme → Type 0
ParamEnd p k = PieceEnd p k × (piece_class p k ≡ None)

right_piece : (p : Piece) → ParamEnd p (Mark P.RightParen)
right_piece (Open v) = (((tt, right_words v), refl), refl)
right_piece (Known t x) = (tt, refl)
right_piece (Closed t o) = (tt, refl)

pub comma_piece : (p : Piece) → ParamEnd p (Mark P.Comma)
comma_piece (Open v) = (((tt, comma_words v), refl), refl)
comma_piece (Known t x) = (tt, refl)
comma_piece (Closed t o) = (tt, refl)

pub right_mark : (k : Lexeme) → is_right k ≡ true → k ≡ Mark P.RightParen
right_mark (Mark P.RightParen) e = refl
right_mark k e = by_false_true e

pub comma_mark : (k : Lexeme) → is_comma k ≡ true → k ≡ Mark P.Comma
comma_mark (Mark P.Comma) e = refl
comma_mark k e = by_false_true e

pub commas : Sample lexeme is_comma
commas = record { token = token (Mark P.Comma); holds = refl }

closes : (o : Option (List Piece)) (k : Lexeme) → is_right k ≡ true → Absent starts_base (Over is_comma ParamEnd) o k
closes None k e = rw (right_mark k e) refl
closes (Some ps) k e = (last_all ParamEnd ps k (λ p. subst (λ u. ParamEnd p u) (sym (right_mark k e)) (right_piece p)), rw (right_mark k e) refl)

or_true : (b : Bool) → b || true ≡ true
or_true true = refl
or_true false = refl

struct_starts : (t : Lexeme) → is_struct t ≡ true → starts_base t ≡ true
struct_starts t e = rw e refl

word_starts : (t : Lexeme) (v : Ty × Ending) → first_word t ≡ Some v → starts_base t ≡ true
word_starts t v e = rw e (or_true (is_struct t))

-- the first token of a base type
abbrev pub Firsts : List Placed → Ty × Ending → ℕ → Type 0
Firsts = Either Tagged (One (λ t. first_word t.lexeme))

each_by : (t : Placed) (b : Bool) → is_struct t.lexeme ≡ b → (o : Option (Ty × Ending)) → first_word t.lexeme ≡ o → b || is_some o ≡ true → (m : ℕ) × Opens Firsts m (t ∷ [])
each_by t true i o j e =
    let x = token (Named []) in
    (0, record { rest = x ∷ []; value = tagged nobody; nest = 0; reads = inl (t, x ∷ [], refl, i, (nobody, refl, (x, refl, refl, refl))); fits = omega arith })
each_by t false i (Some v) j e = (0, record { rest = []; value = v; nest = 0; reads = inr (t, refl, j, refl); fits = omega arith })
each_by t false i None j e = by_false_true e

head_by : (f : List Placed) (v : Ty × Ending) (h : ℕ) → Firsts f v h → (t : Placed) × (g : List Placed) × (f ≡ t ∷ g) × (starts_base t.lexeme ≡ true)
head_by f v h (inl (t, g, e, p, r)) = (t, g, e, struct_starts t.lexeme p)
head_by f v h (inr (t, e, p, z)) = (t, [], e, word_starts t.lexeme v p)

-- how a base type begins
starts_first : Starts lexeme (λ k. starts_base k ≡ true) Firsts
starts_first = record { head = head_by; each = λ t e. each_by t (is_struct t.lexeme) refl (first_word t.lexeme) refl e }

-- how a base type and its stars begin
pub starts_typed : Starts lexeme (λ k. starts_base k ≡ true) Typed
starts_typed = starts_chain (starts_chain starts_first)

-- a parameter list behind its opening mark, which counts one
abbrev pub Listed : List Placed → List LParameter → ℕ → Type 0
Listed = Made itself (Before ReadsParams (λ t. is_right t.lexeme))

-- a pointer to a function behind its opening mark
abbrev pub Coded : List Placed → Option Ident × List LParameter → ℕ → Type 0
Coded = After (λ t. is_star t.lexeme) (Both (Optional (One ident_of)) (After (λ t. is_right t.lexeme) (After (λ t. is_left t.lexeme) Listed)))

-- the parts, in the readers' words
abbrev pub Parts : Going → List Placed → Part → ℕ → Type 0
Parts Name = Headed lexeme (Begins Name) (λ t. Mapped (name_of (ident_at t)) Nothing)
Parts Brackets = Headed lexeme (Begins Brackets) (λ t. Mapped bracket_of (Before (Optional (Expect (λ t. is_number t.lexeme))) (λ t. is_unbracket t.lexeme)))
Parts Code = Headed lexeme (Begins Code) (λ t. Mapped code_of Coded)

-- a parameter, in the readers' words
abbrev pub Param : List Placed → Piece → ℕ → Type 0
Param = Chained lexeme piece_class (λ p c. Unit {0}) pieced (λ c h j. max (h + 0) (j + 0)) (Mapped Open Typed) Parts

-- parameters and the mark behind them, in the readers' words
abbrev pub Params : List Placed → List LParameter → ℕ → Type 0
Params = Mapped params_of (Before (Optional (Separated (λ t. is_comma t.lexeme) Param)) (λ t. is_right t.lexeme))

module _ (n : ℕ) (y : Exact lexeme n 1 (λ d. lists d) Listed Any) where
  abbrev inner : ℕ → Reader Placed (List LParameter)
  inner d ts = lists d ts

  pub closed_exact : Exact lexeme n 1 (λ d. after (λ t. is_right t.lexeme) (after (λ t. is_left t.lexeme) (inner d))) (After (λ t. is_right t.lexeme) (After (λ t. is_left t.lexeme) Listed)) Any
  closed_exact = exact_after rights (exact_after lefts y)

  joins : (u : Option Ident) (g : List Placed) (v : List LParameter) (h : ℕ) (rest : List Placed) → After (λ t. is_right t.lexeme) (After (λ t. is_left t.lexeme) Listed) g v h → Stops lexeme (Absent is_name Any u) (g ++ rest)
  joins u g v h rest (t, g', e, p, r) = rw e (not_name u t.lexeme p)

  pub coded_exact : Exact lexeme n 1 (λ d. after (λ t. is_star t.lexeme) (pair (optional (λ t. is_name t.lexeme) 0 d (one ident_of)) (after (λ t. is_right t.lexeme) (after (λ t. is_left t.lexeme) (inner d))))) Coded Any
  coded_exact = exact_after stars (exact_pair (exact_optional starts_name (name_exact n)) closed_exact (λ u g v h rest r s. joins u g v h rest r))

  pub parts : (c : Going) → Branch lexeme (Begins c) n (going_least c) (λ d. piece_part (inner d) d c) (Parts c) (λ w k. Unit {0})
  parts Name = headed_branch (λ t e. exact_mapped (name_of (ident_at t)) (λ w k. Unit {0}) (exact_nothing n) (λ w k q. tt) (λ w k q. tt))
  parts Brackets = headed_branch (λ t e. exact_mapped bracket_of (λ w k. Unit {0}) (exact_before (exact_optional starts_expect (exact_expect n numbers)) unbrackets not_number) (λ w k q. tt) (λ w k q. tt))
  parts Code = headed_branch (λ t e. exact_mapped code_of (λ w k. Unit {0}) coded_exact (λ w k q. tt) (λ w k q. tt))

  -- a parameter is read exactly
  pub param_exact : Exact lexeme n 0 (λ d. param_at (inner d) d) Param (λ p k. PieceEnd p k × (piece_class p k ≡ None))
  param_exact = exact_chain (piece_joint n) parts (λ c. omega arith) (λ d c. piece_part (inner d) d c) (λ d c t rest a b i. refl)
      (exact_mapped Open PieceEnd (typed_exact n) (λ w k q. q) (λ w k q. q))

  starts_row : Starts lexeme (λ k. starts_base k ≡ true) (Separated (λ t. is_comma t.lexeme) Param)
  starts_row = starts_separated (starts_chain (starts_mapped starts_typed Open))

  -- a parameter list is read exactly, if those inside it are
  pub params_exact : Exact lexeme n 0 (λ d. params_at (inner d) d) Params Any
  params_exact = exact_mapped params_of Any
      (exact_before (exact_optional starts_row (exact_separated commas param_exact (λ p k e. subst (λ u. ParamEnd p u) (sym (comma_mark k e)) (comma_piece p)))) rights closes)
      (λ w k q. tt) (λ w k q. tt)
