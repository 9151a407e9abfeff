-- Declarations of locals are read exactly.
use Rattle.std.proofs.Common.{◌≡◌, ℕ, suc, ◌+◌, ◌≤◌, Bool, true, false, List, [], ◌∷◌, ◌++◌, Some, None, max, refl, ap, arith, nat_lt}
use Rattle.cpc_base.specs.declared.stop.Place.{Place}
use Rattle.cpc_num.specs.declared.kinds.Kind.{Kind}
use Rattle.cpc_num.specs.declared.kinds.Kind.TheVariants as N
use Rattle.cpc_tree.specs.declared.token.Keyword.TheVariants as K
use Rattle.cpc_tree.specs.declared.token.Punctuator.TheVariants as P
use Rattle.cpc_tree.specs.Tokens.{Lexeme, Word, Mark, Named, Placed}
use Rattle.cpc_tree.specs.Syntax.{Ty, TyVoid, TyInt, TyCondvar, TyStruct}
use Rattle.cpc_tree.specs.Located.{LVariable}
use Rattle.cpc_tree.specs.TypeGrammar.{word, mark, named, ReadsKind, ReadsBase, ReadsStars, no_star, a_star, ReadsDeclarator}
use Rattle.cpc_tree.specs.TypeGrammar as G
use Rattle.cpc_tree.specs.StmtGrammar.{Right, Value, Calls, Section}
use Rattle.cpc_parser_reading.specs.Reading.{after, made, below}
use Rattle.cpc_parser_reading.specs.Phrase.{Made}
use Rattle.cpc_parser_reading.specs.Lists.{separated, alone, and_more}
use Rattle.cpc_parser_reading.specs.Operators.{Trails, bare, tailed}
use Rattle.cpc_parser_reading.specs.Exact.{Any, Stops, Opens, Exact, Starts}
use Rattle.cpc_parser_reading.proofs.Readers.{Over, after_branch, any_stops, exact_bind, exact_made, exact_mapped, exact_nothing, exact_pair, exact_separated, exact_stop, exact_trail, starts_bind}
use Rattle.cpc_parser_types.specs.Views.{lexeme}
use Rattle.cpc_parser_types.specs.TypeReaders.{Ending, Done, LongWord, SignedWord, UnsignedWord, next_word, starts_base}
use Rattle.cpc_parser_types.specs.Declarators.{declarator_at, DeclaratorEnd}
use Rattle.cpc_parser_statements.specs.SimpleReaders.{RightEnd}
use Rattle.cpc_parser_statements.specs.LocalReaders.{Local, itself, behind_of, start_at, part_at, local_at, PartEnd, LocalEnd}
use Rattle.cpc_parser_types.proofs.Bases.{Words, WordsEnd, words_exact}
use Rattle.cpc_parser_types.proofs.BaseWords.{of_base, to_base}
use Rattle.cpc_parser_types.proofs.Declarators.{declarator_exact}
use Rattle.cpc_parser_statements.proofs.Ends.{equal_declarator, comma_declarator, comma_whole}
use Rattle.cpc_parser_statements.proofs.Standing.{exact_standing, starts_standing}
use Rattle.cpc_parser_statements.proofs.Within.{exact_within}
use Rattle.cpc_parser_statements.proofs.Marks.{mark_is, marks}
use Rattle.cpc_parser_statements.proofs.Sides.{right_exact}
use Rattle.cpc_parser_statements.proofs.Locals.{Start, Any', Part, Parts, Declared}
use Rattle.cpc_parser_types.specs.Begins.{is_mark}

start_some : (n : ℕ) → Exact lexeme (suc n) 1 (λ d. start_at d) Start RightEnd
start_some n = exact_mapped behind_of RightEnd (exact_pair (exact_made itself Any (exact_nothing n) (λ w k q. tt) (λ w k q. tt)) (right_exact (suc n)) (λ u g v h rest r s. any_stops lexeme u (g ++ rest))) (λ w k q. q) (λ w k q. q)

start_exact : (n : ℕ) → Exact lexeme n 1 (λ d. start_at d) Start RightEnd
start_exact n = exact_within (omega arith) (start_some n)

equal_after : (base : Ty) (x : LVariable) (k : Lexeme) → is_mark P.Equal k ≡ true → DeclaratorEnd base x k
equal_after base x k e = rw (mark_is P.Equal k e) (equal_declarator base x)

part_room : (d h : ℕ) → 1 ≤ h → h ≤ d → nat_lt d 2 ≡ false → (h + 0 ≤ d) × (1 + 1 ≤ d)
part_room d h lo hi e = let a : 2 ≤ d = grind arith in (omega arith, omega arith)

pub part_free : (d : ℕ) → 2 ≤ d → nat_lt d 2 ≡ false
part_free d a = grind arith

part_to : (base : Ty) (v : Local) (k : Lexeme) → Trails (is_mark P.Equal) (DeclaratorEnd base) RightEnd v k → PartEnd base v k
part_to base (x, None) k q = q
part_to base (x, Some r) k q = q

part_from : (base : Ty) (v : Local) (k : Lexeme) → PartEnd base v k → Trails (is_mark P.Equal) (DeclaratorEnd base) RightEnd v k
part_from base (x, None) k q = q
part_from base (x, Some r) k q = q

pub part_exact : (n : ℕ) (base : Ty) → Exact lexeme (suc n) 1 (λ d. part_at base d) (Part base) (PartEnd base)
part_exact n base = exact_stop (PartEnd base)
    (exact_trail lexeme (suc n) 1 (is_mark P.Equal) Any' (DeclaratorEnd base) RightEnd (λ x k e ok. equal_after base x k e) (λ x k e q. tt) (λ d h. nat_lt d 2) (λ h j. max h (j + 1)) 0 1 1 (λ h j. omega arith)
    (λ d h lo hi le e. part_room d h lo hi e) (λ d h a b. part_free d (omega (arith, b)))
    (λ d. made itself (declarator_at base (below d))) (Made itself (ReadsDeclarator base)) (exact_made itself (DeclaratorEnd base) (declarator_exact n base) (λ w k q. q) (λ w k q. q))
    n (λ d. after (λ t. is_mark P.Equal t.lexeme) (start_at d)) _ (after_branch (marks P.Equal) (start_exact n)) (omega arith) (λ d. after (λ t. is_mark P.Equal t.lexeme) (start_at (below d))) (λ d t rest a b e. refl))
    (part_to base) (part_from base)

right_comma : (r : Right) → RightEnd r (Mark P.Comma)
right_comma (Value v) = comma_whole
right_comma (Calls v vs) = comma_whole
right_comma (Section q x vs) = tt

part_comma : (base : Ty) (v : Local) → PartEnd base v (Mark P.Comma)
part_comma base (x, None) = (comma_declarator base x, refl)
part_comma base (x, Some r) = right_comma r

pub comma_after : (base : Ty) (v : Local) (k : Lexeme) → is_mark P.Comma k ≡ true → PartEnd base v k
comma_after base v k e = rw (mark_is P.Comma k e) (part_comma base v)

parts_exact : (n : ℕ) (base : Ty) → Exact lexeme (suc n) 1 (λ d. separated (λ t. is_mark P.Comma t.lexeme) (part_at base d)) (Parts base) (Over (is_mark P.Comma) (PartEnd base))
parts_exact n base = exact_separated (marks P.Comma) (part_exact n base) (comma_after base)

-- what begins a declarator
abbrev starts_declarator : Lexeme → Bool
starts_declarator (Mark P.Star) = true
starts_declarator (Mark P.LeftParen) = true
starts_declarator (Named x) = true
starts_declarator k = false

abbrev First : (Lexeme → Bool) → List Placed → Type 0
First p f = (t : Placed) × (g : List Placed) × (f ≡ t ∷ g) × (p t.lexeme ≡ true)

-- stars, or what stands behind them
stars_first : (base t : Ty) (f g : List Placed) (h : ℕ) → ReadsStars base f t h → First starts_declarator g → First starts_declarator (f ++ g)
stars_first base t f g h no_star x = x
stars_first base t f g h (a_star k q u i r) x = let a = stars_first base u k (mark q P.Star ∷ []) i r (mark q P.Star, [], refl, refl) in (a.0, a.1 ++ g, ap (λ z. z ++ g) a.2, a.3)

declarator_first : (base : Ty) (f : List Placed) (x : LVariable) (h : ℕ) → ReadsDeclarator base f x h → First starts_declarator f
declarator_first base f x h (G.plain g t y i r) = stars_first base t g (named y ∷ []) i r (named y, [], refl, refl)
declarator_first base f x h (G.array g t y q r s kind n i m e) = stars_first base t g _ i m (named y, _, refl, refl)
declarator_first base f x h (G.code g k t y q r s u v ps i j m e) = stars_first base t g _ i m (mark q P.LeftParen, _, refl, refl)

part_first : (base : Ty) (f : List Placed) (x : Local) (h : ℕ) → Part base f x h → First starts_declarator f
part_first base f x h (bare g a i (w, j, e, n, r)) = declarator_first base g w j r
part_first base f x h (tailed g k a b i j (w, u, e, n, r) ok s) = let d = declarator_first base g w u r in (d.0, d.1 ++ k, ap (λ z. z ++ k) d.2, d.3)

parts_first : (base : Ty) (f : List Placed) (xs : List Local) (h : ℕ) → Parts base f xs h → First starts_declarator f
parts_first base f xs h (alone g x i r) = part_first base g x i r
parts_first base f xs h (and_more g k t x ys i j r p m) = let d = part_first base g x i r in (d.0, d.1 ++ t ∷ k, ap (λ z. z ++ t ∷ k) d.2, d.3)

-- none of them goes on a base type
no_word : (e : Ending) (k : Lexeme) → starts_declarator k ≡ true → next_word e k ≡ None
no_word Done k i = refl
no_word (LongWord kind) (Word w) i = absurd cc
no_word (LongWord kind) k i = refl
no_word SignedWord (Word w) i = absurd cc
no_word SignedWord k i = refl
no_word UnsignedWord (Word w) i = absurd cc
no_word UnsignedWord k i = refl

local_joins : (u : Place × (Ty × Ending)) (g : List Placed) (xs : List Local) (h : ℕ) (rest : List Placed) → Parts u.1.0 g xs h → Stops lexeme (λ k. Over (is_mark P.Comma) (PartEnd u.1.0) xs k) rest → Stops lexeme (WordsEnd u.1) (g ++ rest)
local_joins u g xs h rest r s = let d = parts_first u.1.0 g xs h r in rw d.2 (tt, no_word u.1.1 d.0.lexeme d.3)

-- how base types begin
kind_first : (f : List Placed) (kind : Kind) → ReadsKind f kind → First starts_base f
kind_first f kind (G.char q) = (word q K.Char, [], refl, refl)
kind_first f kind (G.signed_char q r) = (word q K.Signed, _, refl, refl)
kind_first f kind (G.unsigned_char q r) = (word q K.Unsigned, _, refl, refl)
kind_first f kind (G.int q) = (word q K.Int, [], refl, refl)
kind_first f kind (G.signed q) = (word q K.Signed, [], refl, refl)
kind_first f kind (G.signed_int q r) = (word q K.Signed, _, refl, refl)
kind_first f kind (G.unsigned q) = (word q K.Unsigned, [], refl, refl)
kind_first f kind (G.unsigned_int q r) = (word q K.Unsigned, _, refl, refl)
kind_first f kind (G.long q) = (word q K.Long, [], refl, refl)
kind_first f kind (G.long_int q r) = (word q K.Long, _, refl, refl)
kind_first f kind (G.signed_long q r) = (word q K.Signed, _, refl, refl)
kind_first f kind (G.signed_long_int q r s) = (word q K.Signed, _, refl, refl)
kind_first f kind (G.unsigned_long q r) = (word q K.Unsigned, _, refl, refl)
kind_first f kind (G.unsigned_long_int q r s) = (word q K.Unsigned, _, refl, refl)

base_first : (f : List Placed) (t : Ty) (h : ℕ) → ReadsBase f t h → First starts_base f
base_first f t h (G.void_base q) = (word q K.Void, [], refl, refl)
base_first f t h (G.kind_base g kind r) = kind_first g kind r
base_first f t h (G.condvar_base q) = (word q K.CpcCondvar, [], refl, refl)
base_first f t h (G.struct_base q x) = (word q K.Struct, _, refl, refl)

words_first : (f : List Placed) (v : Ty × Ending) (h : ℕ) → Words f v h → First starts_base f
words_first f v h w = base_first f v.0 0 (of_base f v h w).0

-- a token begins a base type
based : (t : Placed) (g : List Placed) (base : Ty) → ReadsBase (t ∷ g) base 0 → (m : ℕ) × Opens Words m (t ∷ [])
based t g base r = let e = to_base (t ∷ g) base 0 r in (0, record { rest = g; value = (base, e.0); nest = 0; reads = e.1; fits = omega arith })

base_each : (q : Place) (k : Lexeme) → starts_base k ≡ true → (m : ℕ) × Opens Words m (record { place = q; lexeme = k } ∷ [])
base_each q (Word K.Void) e = based (word q K.Void) [] TyVoid (G.void_base q)
base_each q (Word K.CpcCondvar) e = based (word q K.CpcCondvar) [] TyCondvar (G.condvar_base q)
base_each q (Word K.Char) e = based (word q K.Char) [] (TyInt N.Char) (G.kind_base _ N.Char (G.char q))
base_each q (Word K.Int) e = based (word q K.Int) [] (TyInt N.Int) (G.kind_base _ N.Int (G.int q))
base_each q (Word K.Long) e = based (word q K.Long) [] (TyInt N.Long) (G.kind_base _ N.Long (G.long q))
base_each q (Word K.Signed) e = based (word q K.Signed) [] (TyInt N.Int) (G.kind_base _ N.Int (G.signed q))
base_each q (Word K.Unsigned) e = based (word q K.Unsigned) [] (TyInt N.UInt) (G.kind_base _ N.UInt (G.unsigned q))
base_each q (Word K.Struct) e = based (word q K.Struct) (named (record { place = q; text = [] }) ∷ []) (TyStruct []) (G.struct_base q (record { place = q; text = [] }))
base_each q k e = absurd cc

pub starts_words : Starts lexeme (λ k. starts_base k ≡ true) Words
starts_words = record { head = words_first; each = λ t e. base_each t.place t.lexeme e }

local_some : (n : ℕ) → Exact lexeme (suc n) 1 (λ d. local_at d) Declared LocalEnd
local_some n = exact_bind (exact_standing (words_exact (suc n)) (λ f v h r. let b = words_first f v h r in (b.0, b.1, b.2))) (λ v. parts_exact n v.1.0) local_joins

-- Declarations of locals are read exactly.
pub local_exact : (n : ℕ) → Exact lexeme n 1 (λ d. local_at d) Declared LocalEnd
local_exact n = exact_within (omega arith) (local_some n)

-- they begin as base types do
pub starts_local : Starts lexeme (λ k. starts_base k ≡ true) Declared
starts_local = starts_bind (starts_standing starts_words) (λ v. (parts_exact 0 v.1.0).sample)
