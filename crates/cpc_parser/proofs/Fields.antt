-- The fields of a struct are read exactly.
use Rattle.std.proofs.Common.{◌≡◌, ℕ, Bool, true, false, List, [], ◌∷◌, ◌++◌, max, refl, sym, ap, subst, ◌∙◌, append_assoc, arith}
use Rattle.std.proofs.lemmas.List.{append-nil}
use Rattle.cpc_base.specs.declared.stop.Place.{Place}
use Rattle.cpc_tree.specs.declared.token.Punctuator.TheVariants as P
use Rattle.cpc_tree.specs.Tokens.{Lexeme, Mark, Named, Placed}
use Rattle.cpc_tree.specs.Syntax.{Ty}
use Rattle.cpc_tree.specs.Located.{Ident, LVariable, LItem}
use Rattle.cpc_tree.specs.TypeGrammar.{mark, named, ReadsBase, ReadsStars, no_star, a_star, ReadsDeclarator, plain, array, code}
use Rattle.cpc_tree.specs.ItemGrammar.{ReadsVariables, last_variable, more_variables, ReadsFields, last_fields, more_fields}
use Rattle.cpc_parser_reading.specs.Phrase.{Before, After, Mapped, Both, Bound}
use Rattle.cpc_parser_reading.specs.Chain.{first}
use Rattle.cpc_parser_reading.specs.Lists.{Many, no_more, one_more, Separated, alone, and_more}
use Rattle.cpc_parser_reading.specs.Exact.{Any, Stops, Opens, Exact, Starts}
use Rattle.cpc_parser_reading.proofs.Readers.{Over, branch, any_stops, exact_after, exact_as, exact_before, exact_bind, exact_many, exact_mapped, exact_pair, exact_separated, last_all, starts_after, starts_as, starts_bind, starts_mapped}
use Rattle.cpc_parser_types.specs.Views.{lexeme}
use Rattle.cpc_parser_types.specs.TypeReaders.{Ending, Done, LongWord, SignedWord, UnsignedWord, is_comma, starts_base}
use Rattle.cpc_parser_types.specs.Declarators.{DeclaratorEnd, is_bracket}
use Rattle.cpc_parser_types.proofs.Bases.{Words, WordsEnd, words_exact}
use Rattle.cpc_parser_types.proofs.BaseWords.{of_base, to_base, of_typed}
use Rattle.cpc_parser_types.proofs.Params.{starts_typed, commas}
use Rattle.cpc_parser_types.proofs.Declarators.{declarator_exact}
use Rattle.cpc_parser_types.proofs.Lists.{comma_is}
use Rattle.cpc_parser_statements.proofs.LocalExact.{starts_words}
use Rattle.cpc_parser.specs.ItemReaders.{is_semicolon, is_brace, is_unbrace, second, line_at, rows, joined, fields_at, structure, structure_at}
use Rattle.cpc_parser.proofs.Marks.{semicolons, braces, unbraces, semicolon_is, brace_is, unbrace_is}
use Rattle.cpc_parser.proofs.Places.{Led}
use Rattle.cpc_parser.proofs.Globals.{led_stops, semicolon_comma}

words_head : (f : List Placed) (v : Ty × Ending) (h : ℕ) → Words f v h → Led (λ k. starts_base k ≡ true) f
words_head f v h r = starts_typed.head f v h (first f v h r)

same_head : (t u : Placed) (rest a g : List Placed) → t ∷ rest ≡ (u ∷ a) ++ g → u ≡ t
same_head t u rest a g e = cc

words_each : (t : Placed) → starts_base t.lexeme ≡ true → (m : ℕ) × Opens Words m (t ∷ [])
words_each t e =
    let o = (starts_typed.each t e).1 in
    let b = of_typed (t ∷ o.rest) o.value o.nest o.reads in
    let w = to_base b.0 b.2 0 b.4 in
    let l = words_head b.0 (b.2, w.0) 0 w.1 in
    let i : l.0 ≡ t = same_head t l.0 o.rest l.1 b.1 (b.3 ∙ ap (λ u. u ++ b.1) l.2) in
    (0, record { rest = l.1; value = (b.2, w.0); nest = 0; reads = subst (λ u. Words (u ∷ l.1) (b.2, w.0) 0) i (subst (λ u. Words u (b.2, w.0) 0) l.2 w.1); fits = omega arith })

-- what begins behind a base type
abbrev pub begins_behind : Lexeme → Bool
begins_behind (Mark P.Star) = true
begins_behind (Mark P.LeftParen) = true
begins_behind (Named x) = true
begins_behind k = false

-- no further word of the base type
pub behind_words : (v : Ty × Ending) (k : Lexeme) → begins_behind k ≡ true → WordsEnd v k
behind_words (t, Done) k e = (tt, refl)
behind_words (t, LongWord i) (Mark p) e = (tt, refl)
behind_words (t, LongWord i) (Named x) e = (tt, refl)
behind_words (t, SignedWord) (Mark p) e = (tt, refl)
behind_words (t, SignedWord) (Named x) e = (tt, refl)
behind_words (t, UnsignedWord) (Mark p) e = (tt, refl)
behind_words (t, UnsignedWord) (Named x) e = (tt, refl)
behind_words v k e = absurd cc

-- stars, and what can stand behind them
pub stars_led : (b : Ty) (f : List Placed) (t : Ty) (h : ℕ) → ReadsStars b f t h → (g : List Placed) → Led (λ k. begins_behind k ≡ true) g → Led (λ k. begins_behind k ≡ true) (f ++ g)
stars_led b f t h no_star g l = l
stars_led b f t h (a_star k q u i r) g l = rw (append_assoc k (mark q P.Star ∷ []) g) (stars_led b k u i r (mark q P.Star ∷ g) (mark q P.Star, g, refl, refl))

declarator_led : (b : Ty) (f : List Placed) (x : LVariable) (h : ℕ) → ReadsDeclarator b f x h → (g : List Placed) → Led (λ k. begins_behind k ≡ true) (f ++ g)
declarator_led b f x h (plain k t y _ r) g = rw (append_assoc k (named y ∷ []) g) (stars_led b k t h r _ (named y, _, refl, refl))
declarator_led b f x h (array k t y q r s kind n _ m lt) g = rw (append_assoc k (named y ∷ _) g) (stars_led b k t h m _ (named y, _, refl, refl))
declarator_led b f x h (code k l t y q r s u v ps i j m p) g = rw (append_assoc k (mark q P.LeftParen ∷ _) g) (stars_led b k t i m _ (mark q P.LeftParen, _, refl, refl))

-- the fields of one declaration behind its base type
abbrev pub Fields : Ty → List Placed → List LVariable → ℕ → Type 0
Fields b = Before (Separated (λ t. is_comma t.lexeme) (ReadsDeclarator b)) (λ t. is_semicolon t.lexeme)

-- the fields of one declaration
abbrev pub Line : List Placed → List LVariable → ℕ → Type 0
Line = Mapped second (Bound Words (λ v. Fields v.0))

pub comma_bracket : (k : Lexeme) → is_comma k ≡ true → is_bracket k ≡ false
comma_bracket (Mark P.Comma) e = refl
comma_bracket k e = absurd cc

semicolon_bracket : (k : Lexeme) → is_semicolon k ≡ true → is_bracket k ≡ false
semicolon_bracket (Mark P.Semicolon) e = refl
semicolon_bracket k e = absurd cc

row_ends : (b : Ty) (xs : List LVariable) (k : Lexeme) → is_semicolon k ≡ true → Over is_comma (DeclaratorEnd b) xs k
row_ends b xs k e = (last_all (DeclaratorEnd b) xs k (λ x f h r. semicolon_bracket k e), semicolon_comma k e)

fields_led : (b : Ty) (f : List Placed) (xs : List LVariable) (h : ℕ) → Separated (λ t. is_comma t.lexeme) (ReadsDeclarator b) f xs h → (g : List Placed) → Led (λ k. begins_behind k ≡ true) (f ++ g)
fields_led b f xs h (alone _ x _ r) g = declarator_led b f x h r g
fields_led b f xs h (and_more k l t x ys i j r e m) g = rw (append_assoc k (t ∷ l) g) (declarator_led b k x i r (t ∷ l ++ g))

line_joins : (u : Ty × Ending) (g : List Placed) (xs : List LVariable) (h : ℕ) (rest : List Placed) → Fields u.0 g xs h → Stops lexeme (WordsEnd u) (g ++ rest)
line_joins u g xs h rest (a, t, e, p, r) = rw e (led_stops (a ++ t ∷ []) rest (fields_led u.0 a xs h r (t ∷ [])) (behind_words u))

of_variables : (b : Ty) (f : List Placed) (xs : List LVariable) (h : ℕ) → Separated (λ t. is_comma t.lexeme) (ReadsDeclarator b) f xs h → ReadsVariables b f xs h
of_variables b f xs h (alone _ x _ r) = last_variable f x h r
of_variables b f xs h (and_more k l t x ys i j r e m) = rw (comma_is t e) (more_variables k l t.place x ys i j r (of_variables b l ys j m))

to_variables : (b : Ty) (f : List Placed) (xs : List LVariable) (h : ℕ) → ReadsVariables b f xs h → Separated (λ t. is_comma t.lexeme) (ReadsDeclarator b) f xs h
to_variables b f xs h (last_variable _ x _ r) = alone f x h r
to_variables b f xs h (more_variables k l q x ys i j r m) = and_more k l (mark q P.Comma) x ys i j r refl (to_variables b l ys j m)

-- a declaration in the words of the grammar
record Declares (f : List Placed) (xs : List LVariable) (h : ℕ) : Type 0 where
  base : Ty
  a : List Placed
  g : List Placed
  q : Place
  whole : f ≡ a ++ (g ++ mark q P.Semicolon ∷ [])
  is_base : ReadsBase a base 0
  are : ReadsVariables base g xs h

of_line : (f : List Placed) (xs : List LVariable) (h : ℕ) → Line f xs h → Declares f xs h
of_line f xs h (v, e, r) =
    let s = r.second in
    let b = of_base r.left v.0 r.i r.first in
    let m : r.j ≡ h = let n = r.nest in omega (arith, b.1, n) in
    record {
      base = v.0.0;
      a = r.left;
      g = s.0;
      q = s.1.place;
      whole = r.whole ∙ ap (λ u. r.left ++ u) (s.2 ∙ ap (λ u. s.0 ++ u ∷ []) (semicolon_is s.1 s.3));
      is_base = b.0;
      are = subst (λ u. ReadsVariables v.0.0 s.0 xs u) m (subst (λ u. ReadsVariables v.0.0 s.0 u r.j) (sym e) (of_variables v.0.0 s.0 v.1 r.j s.4));
    }

to_line : (a g : List Placed) (q : Place) (base : Ty) (xs : List LVariable) (i h : ℕ) → ReadsBase a base i → ReadsVariables base g xs h → Line (a ++ (g ++ mark q P.Semicolon ∷ [])) xs h
to_line a g q base xs i h b r =
    let w = to_base a base i b in
    (((base, w.0), xs), refl, record { left = a; right = g ++ mark q P.Semicolon ∷ []; i = 0; j = h; whole = refl; nest = omega arith; first = w.1; second = (g, mark q P.Semicolon, refl, refl, to_variables base g xs h r) })

of_rows : (f : List Placed) (rs : List (List LVariable)) (h : ℕ) → Many Line f rs h → (l : List Placed) (xs : List LVariable) (i : ℕ) → Line l xs i → ReadsFields (l ++ f) (xs ++ rows rs) (max i h)
of_rows f rs h no_more l xs i r =
    let d = of_line l xs i r in
    let m : max i 0 ≡ i = omega arith in
    rw (m, append-nil xs, append-nil l, d.whole) (last_fields d.a d.g d.q d.base xs 0 i d.is_base d.are)
of_rows f rs h (one_more a k ys zs i1 j1 r' m) l xs i r =
    let d = of_line l xs i r in
    rw (d.whole, append_assoc d.a (d.g ++ mark d.q P.Semicolon ∷ []) (a ++ k), append_assoc d.g (mark d.q P.Semicolon ∷ []) (a ++ k))
    (more_fields d.a d.g (a ++ k) d.q d.base xs (ys ++ rows zs) 0 i (max i1 j1) d.is_base d.are (of_rows k zs j1 m a ys i1 r'))

-- rows of fields: the first, and further ones
record Rows (f : List Placed) (xs : List LVariable) (h : ℕ) : Type 0 where
  one : List LVariable
  more : List (List LVariable)
  front : List Placed
  back : List Placed
  i : ℕ
  j : ℕ
  whole : f ≡ front ++ back
  high : h ≡ max i j
  are : xs ≡ one ++ rows more
  reads : Line front one i
  row : Many Line back more j

to_rows : (f : List Placed) (xs : List LVariable) (h : ℕ) → ReadsFields f xs h → Rows f xs h
to_rows f xs h (last_fields a k q base _ i _ b r) = record {
  one = xs;
  more = [];
  front = f;
  back = [];
  i = h;
  j = 0;
  whole = sym (append-nil f);
  high = omega arith;
  are = sym (append-nil xs);
  reads = to_line a k q base xs i h b r;
  row = no_more;
}
to_rows f xs h (more_fields a k g q base ys zs i h1 j b r m) =
    let t = to_rows g zs j m in
    record {
      one = ys;
      more = t.one ∷ t.more;
      front = a ++ (k ++ mark q P.Semicolon ∷ []);
      back = g;
      i = h1;
      j = max t.i t.j;
      whole = rw (append_assoc a (k ++ mark q P.Semicolon ∷ []) g, append_assoc k (mark q P.Semicolon ∷ []) g) refl;
      high = let n = t.high in omega (arith, n);
      are = ap (λ u. ys ++ u) t.are;
      reads = to_line a k q base ys i h1 b r;
      row = subst (λ u. Many Line u (t.one ∷ t.more) (max t.i t.j)) (sym t.whole) (one_more t.front t.back t.one t.more t.i t.j t.reads t.row);
    }

-- the fields of a struct, in the readers' words
abbrev Lines : List Placed → List LVariable → ℕ → Type 0
Lines = Mapped joined (Both Line (Many Line))

of_fields : (f : List Placed) (xs : List LVariable) (h : ℕ) → Lines f xs h → ReadsFields f xs h
of_fields f xs h (v, e, r) = rw (e, r.whole, r.nest) (of_rows r.right v.1 r.j r.second r.left v.0 r.i r.first)

to_fields : (f : List Placed) (xs : List LVariable) (h : ℕ) → ReadsFields f xs h → Lines f xs h
to_fields f xs h r = let t = to_rows f xs h r in ((t.one, t.more), t.are, record { left = t.front; right = t.back; i = t.i; j = t.j; whole = t.whole; nest = t.high; first = t.reads; second = t.row })

unbrace_base : (k : Lexeme) → is_unbrace k ≡ true → starts_base k ≡ false
unbrace_base (Mark P.RightBrace) e = refl
unbrace_base k e = absurd cc

-- a struct behind its tag
abbrev pub Structure : Ident → List Placed → List LItem → ℕ → Type 0
Structure tag f v h = (g : List Placed) × (r : Place) × (s : Place) × (t : Place) × (xs : List LVariable) × (f ≡ mark r P.LeftBrace ∷ (g ++ mark s P.RightBrace ∷ mark t P.Semicolon ∷ [])) × (v ≡ structure tag xs) × ReadsFields g xs h

of_structure : (tag : Ident) (f : List Placed) (v : List LItem) (h : ℕ)
    → Mapped (structure tag) (After (λ t. is_brace t.lexeme) (Before (Before ReadsFields (λ t. is_unbrace t.lexeme)) (λ t. is_semicolon t.lexeme))) f v h → Structure tag f v h
of_structure tag f v h (xs, e, (t, g, e1, p, (k, u, e2, q, (l, w, e3, o, r)))) = (
  l,
  t.place,
  w.place,
  u.place,
  xs,
  rw (e1, e2, e3, ← brace_is t p, ← semicolon_is u q, ← unbrace_is w o, append_assoc l (w ∷ []) (u ∷ [])) refl,
  e,
  r,
)

to_structure : (tag : Ident) (f : List Placed) (v : List LItem) (h : ℕ) → Structure tag f v h
    → Mapped (structure tag) (After (λ t. is_brace t.lexeme) (Before (Before ReadsFields (λ t. is_unbrace t.lexeme)) (λ t. is_semicolon t.lexeme))) f v h
to_structure tag f v h (g, r, s, t, xs, e, i, m) = (
  xs,
  i,
  (
    mark r P.LeftBrace,
    g ++ mark s P.RightBrace ∷ mark t P.Semicolon ∷ [],
    e,
    refl,
    (g ++ mark s P.RightBrace ∷ [], mark t P.Semicolon, sym (append_assoc g (mark s P.RightBrace ∷ []) (mark t P.Semicolon ∷ [])), refl, (g, mark s P.RightBrace, refl, refl, m)),
  ),
)

module _ (n : ℕ) where
  pub line_exact : Exact lexeme n 0 (λ d. line_at d) Line Any
  line_exact = exact_mapped second Any
      (exact_bind (words_exact n) (λ v. exact_before (exact_separated commas (declarator_exact n v.0) (λ x k e f h r. comma_bracket k e)) semicolons (row_ends v.0)) (λ u g v h rest r s. line_joins u g v h rest r))
      (λ w k q. tt) (λ w k q. tt)

  pub line_sample : (u : Ty × Ending) → Opens (Fields u.0) 0 []
  line_sample u = (exact_before (exact_separated commas (declarator_exact n u.0) (λ x k e f h r. comma_bracket k e)) semicolons (row_ends u.0)).sample

  lines_exact : Exact lexeme n 0 (λ d. fields_at d) ReadsFields (λ v k. starts_base k ≡ false)
  lines_exact = exact_as (exact_mapped joined (λ v k. starts_base k ≡ false)
      (exact_pair line_exact (exact_many (branch (starts_mapped (starts_bind starts_words line_sample) second) line_exact) (λ v k e. tt)) (λ u g v h rest r s. any_stops lexeme u (g ++ rest)))
      (λ w k q. q.1) (λ w k q. (last_all Any w.1 k (λ v. tt), q)))
      (λ d ts a b. refl) of_fields to_fields

  -- a struct is read exactly behind its tag
  pub structure_exact : (tag : Ident) → Exact lexeme n 0 (λ d. structure_at tag d) (Structure tag) Any
  structure_exact tag = exact_as (exact_mapped (structure tag) Any (exact_after braces (exact_before (exact_before lines_exact unbraces (λ v k e. unbrace_base k e)) semicolons (λ v k e. tt))) (λ w k q. tt) (λ w k q. tt))
      (λ d ts a b. refl) (of_structure tag) (to_structure tag)

-- how it begins
pub starts_structure : (tag : Ident) → Starts lexeme (λ k. is_brace k ≡ true) (Structure tag)
starts_structure tag = starts_as (starts_mapped (starts_after (exact_before (exact_before (lines_exact 0) unbraces (λ v k e. unbrace_base k e)) semicolons (λ v k e. tt)).sample) (structure tag))
    (λ k e. e) (λ k e. e) (of_structure tag) (to_structure tag)
