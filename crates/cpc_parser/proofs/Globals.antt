-- What stands behind the first variable of a declaration is read exactly.
use Rattle.std.proofs.Common.{◌≡◌, ℕ, ◌+◌, ◌≤◌, Bool, true, false, List, [], ◌∷◌, ◌++◌, map, Option, Some, None, max, refl, sym, ap, subst, ◌∙◌, append_assoc, arith, nat_lt}
use Rattle.std.proofs.lemmas.List.{append-nil}
use Rattle.cpc_base.specs.declared.stop.Place.{Place}
use Rattle.cpc_tree.specs.declared.token.Punctuator.TheVariants as P
use Rattle.cpc_tree.specs.Tokens.{Lexeme, Mark, Placed}
use Rattle.cpc_tree.specs.Syntax.{Ty}
use Rattle.cpc_tree.specs.Located.{LExpr, LVariable, LItem}
use Rattle.cpc_tree.specs.TypeGrammar.{mark, ReadsDeclarator}
use Rattle.cpc_tree.specs.ItemGrammar.{ReadsGlobal, unset, set, ReadsGlobals, last_global, more_globals}
use Rattle.cpc_parser_reading.specs.Phrase.{Before, After, Mapped, Both, Optional}
use Rattle.cpc_parser_reading.specs.Lists.{Many, no_more, one_more}
use Rattle.cpc_parser_reading.specs.Operators.{Tailed, bare, tailed, Trails}
use Rattle.cpc_parser_reading.specs.Exact.{Any, Absent, Stops, Exact}
use Rattle.cpc_parser_reading.proofs.Readers.{Over, after_branch, exact_before, exact_many, exact_mapped, exact_optional, exact_pair, exact_trail, last_all, starts_after}
use Rattle.cpc_parser_types.specs.Views.{lexeme}
use Rattle.cpc_parser_types.specs.TypeReaders.{is_comma}
use Rattle.cpc_parser_types.specs.Declarators.{declarator_at, DeclaratorEnd, is_bracket}
use Rattle.cpc_parser_types.proofs.Declarators.{declarator_exact}
use Rattle.cpc_parser_types.proofs.Lists.{comma_is}
use Rattle.cpc_parser_types.proofs.Params.{commas}
use Rattle.cpc_parser.specs.ItemReaders.{is_semicolon, is_equal, start_at, global_at, global_of, globals_of, globals_at, First, Alone, Closed, Called, first_class}
use Rattle.cpc_parser.proofs.Marks.{semicolons, equals, semicolon_is, equal_is}
use Rattle.cpc_parser.proofs.Initials.{Start, start_exact, initial_exact}
use Rattle.cpc_parser.proofs.Places.{Led}

-- a further global
abbrev pub Global : Ty → List Placed → LVariable × Option LExpr → ℕ → Type 0
Global b = Tailed (λ h j. max h j) (ReadsDeclarator b) (λ x. Unit {0}) Start

-- what may stand behind it
abbrev pub GlobalEnd : Ty → LVariable × Option LExpr → Lexeme → Type 0
GlobalEnd b = Trails is_equal (DeclaratorEnd b) Any

-- further globals
abbrev pub Row : Ty → List Placed → List (LVariable × Option LExpr) → ℕ → Type 0
Row b = Many (After (λ t. is_comma t.lexeme) (Global b))

-- what stands behind the first variable, in the readers' words
abbrev pub Globals : Ty → LVariable → List Placed → List LItem → ℕ → Type 0
Globals b x = Mapped (globals_of x) (Both (Optional Start) (Before (Row b) (λ t. is_semicolon t.lexeme)))

-- what may stand behind a global
abbrev ends_on : Lexeme → Bool
ends_on (Mark P.Comma) = true
ends_on (Mark P.Semicolon) = true
ends_on k = false

-- what may stand behind the first variable
abbrev pub goes_on : Lexeme → Bool
goes_on (Mark P.Equal) = true
goes_on k = ends_on k

pub comma_ends : (k : Lexeme) → is_comma k ≡ true → ends_on k ≡ true
comma_ends (Mark P.Comma) e = refl
comma_ends k e = absurd cc

semicolon_ends : (k : Lexeme) → is_semicolon k ≡ true → ends_on k ≡ true
semicolon_ends (Mark P.Semicolon) e = refl
semicolon_ends k e = absurd cc

equal_goes : (k : Lexeme) → is_equal k ≡ true → goes_on k ≡ true
equal_goes (Mark P.Equal) e = refl
equal_goes k e = absurd cc

ends_go : (k : Lexeme) → ends_on k ≡ true → goes_on k ≡ true
ends_go (Mark P.Comma) e = refl
ends_go (Mark P.Semicolon) e = refl
ends_go k e = absurd cc

goes_bracket : (k : Lexeme) → goes_on k ≡ true → is_bracket k ≡ false
goes_bracket (Mark P.Equal) e = refl
goes_bracket (Mark P.Comma) e = refl
goes_bracket (Mark P.Semicolon) e = refl
goes_bracket k e = absurd cc

ends_equal : (k : Lexeme) → ends_on k ≡ true → is_equal k ≡ false
ends_equal (Mark P.Comma) e = refl
ends_equal (Mark P.Semicolon) e = refl
ends_equal k e = absurd cc

pub semicolon_comma : (k : Lexeme) → is_semicolon k ≡ true → is_comma k ≡ false
semicolon_comma (Mark P.Semicolon) e = refl
semicolon_comma k e = absurd cc

-- what goes on with globals goes on with nothing else
pub goes_alone : (v : First) (k : Lexeme) → goes_on k ≡ true → first_class v k ≡ None
goes_alone (Alone x t) (Mark P.Equal) e = refl
goes_alone (Alone x t) (Mark P.Comma) e = refl
goes_alone (Alone x t) (Mark P.Semicolon) e = refl
goes_alone (Closed x) k e = refl
goes_alone (Called x) k e = refl
goes_alone v k e = absurd cc

pub ends_global : (b : Ty) (v : LVariable × Option LExpr) (k : Lexeme) → ends_on k ≡ true → GlobalEnd b v k
ends_global b (x, None) k e = (λ f h r. goes_bracket k (ends_go k e), ends_equal k e)
ends_global b (x, Some w) k e = tt

ends_row : (b : Ty) (vs : List (LVariable × Option LExpr)) (k : Lexeme) → is_semicolon k ≡ true → Over is_comma (GlobalEnd b) vs k
ends_row b vs k e = (last_all (GlobalEnd b) vs k (λ v. ends_global b v k (semicolon_ends k e)), semicolon_comma k e)

-- what begins with a token of a class may stand where such tokens may
pub led_stops : {P Q : Lexeme → Type 0} (f rest : List Placed) → Led P f → ((k : Lexeme) → P k → Q k) → Stops lexeme Q (f ++ rest)
led_stops f rest (t, g, e, p) to = rw e (to t.lexeme p)

row_led : (b : Ty) (f : List Placed) (vs : List (LVariable × Option LExpr)) (h : ℕ) (t : Placed) → is_semicolon t.lexeme ≡ true → Row b f vs h → Led (λ k. ends_on k ≡ true) (f ++ t ∷ [])
row_led b f vs h t e no_more = (t, [], refl, semicolon_ends t.lexeme e)
row_led b f vs h t e (one_more g k v ws i j (u, a, e1, p, r) m) = (u, a ++ k ++ t ∷ [], rw (e1, append_assoc (u ∷ a) k (t ∷ [])) refl, comma_ends u.lexeme p)

absent_start : (o : Option LExpr) (k : Lexeme) → ends_on k ≡ true → Absent is_equal Any o k
absent_start None k e = ends_equal k e
absent_start (Some w) k e = tt

joins : (b : Ty) (o : Option LExpr) (g : List Placed) (vs : List (LVariable × Option LExpr)) (h : ℕ) (rest : List Placed) → Before (Row b) (λ t. is_semicolon t.lexeme) g vs h → Stops lexeme (Absent is_equal Any o) (g ++ rest)
joins b o g vs h rest (a, t, e, p, r) = rw e (led_stops (a ++ t ∷ []) rest (row_led b a vs h t p r) (absent_start o))

start_led : (o : Option LExpr) (l : List Placed) (h : ℕ) → Optional Start l o h → (f : List Placed) → Led (λ k. ends_on k ≡ true) f → Led (λ k. goes_on k ≡ true) (l ++ f)
start_led None l h r f (t, g, e, p) = (t, g, rw (r.0) e, ends_go t.lexeme p)
start_led (Some w) l h (t, g, e, p, r) f k = (t, g ++ f, rw e refl, equal_goes t.lexeme p)

-- how it begins
pub globals_led : (b : Ty) (x : LVariable) (f : List Placed) (vs : List LItem) (h : ℕ) → Globals b x f vs h → Led (λ k. goes_on k ≡ true) f
globals_led b x f vs h (v, e, r) =
    let s = r.second in
    rw (r.whole, s.2) (start_led v.0 r.left r.i r.first (s.0 ++ s.1 ∷ []) (row_led b s.0 v.1 r.j s.1 s.3 s.4))

of_global : (b : Ty) (f : List Placed) (v : LVariable × Option LExpr) (h : ℕ) → Global b f v h → ReadsGlobal b f (global_of v) h
of_global b f v h (bare _ x _ r) = unset f x h r
of_global b f v h (tailed g k x w i j r ok (t, l, e, p, s)) = rw (e, equal_is t p) (set g l t.place x w i j r s)

of_row : (b : Ty) (g : List Placed) (vs : List (LVariable × Option LExpr)) (j : ℕ) → Row b g vs j → (f : List Placed) (x : LItem) (i : ℕ) → ReadsGlobal b f x i → ReadsGlobals b (f ++ g) (x ∷ map global_of vs) (max i j)
of_row b g vs j no_more f x i r = let m : max i 0 ≡ i = omega arith in rw (m, append-nil f) (last_global f x i r)
of_row b g vs j (one_more a k v ws i1 j1 (t, l, e, p, s) m) f x i r =
    rw (e, comma_is t p) (more_globals f (l ++ k) t.place x (global_of v ∷ map global_of ws) i (max i1 j1) r (of_row b k ws j1 m l (global_of v) i1 (of_global b l v i1 s)))

first_global : (b : Ty) (x : LVariable) (o : Option LExpr) (l : List Placed) (h : ℕ) → Optional Start l o h → (f : List Placed) (i : ℕ) → ReadsDeclarator b f x i → ReadsGlobal b (f ++ l) (global_of (x, o)) (max i h)
first_global b x None l h (e, z) f i r = let m : max i h ≡ i = omega (arith, z) in rw (m, e, append-nil f) (unset f x i r)
first_global b x (Some w) l h (t, g, e, p, s) f i r = rw (e, equal_is t p) (set f g t.place x w i h r s)

-- with the first variable these are the globals of a declaration, and its end
pub of_globals : (b : Ty) (x : LVariable) (g : List Placed) (vs : List LItem) (j : ℕ) → Globals b x g vs j → (f : List Placed) (i : ℕ) → ReadsDeclarator b f x i
    → (k : List Placed) × (q : Place) × (f ++ g ≡ k ++ mark q P.Semicolon ∷ []) × ReadsGlobals b k vs (max i j)
of_globals b x g vs j (v, e, r) f i d =
    let s = r.second in
    let m : max i j ≡ max (max i r.i) r.j = omega (arith, r.nest) in
    let w : f ++ g ≡ (f ++ r.left ++ s.0) ++ mark s.1.place P.Semicolon ∷ [] =
    rw (r.whole, s.2, ← semicolon_is s.1 s.3, append_assoc (f ++ r.left) s.0 (s.1 ∷ []), append_assoc f r.left (s.0 ++ s.1 ∷ [])) refl in
    (f ++ r.left ++ s.0, s.1.place, w, rw (e, m) (of_row b s.0 v.1 r.j s.4 (f ++ r.left) (global_of (x, v.0)) (max i r.i) (first_global b x v.0 r.left r.i r.first f i d)))

to_global : (b : Ty) (f : List Placed) (x : LItem) (h : ℕ) → ReadsGlobal b f x h → (v : LVariable × Option LExpr) × (x ≡ global_of v) × Global b f v h
to_global b f x h (unset _ y _ r) = ((y, None), refl, bare f y h r)
to_global b f x h (set g l q y w i j r s) = ((y, Some w), refl, tailed g (mark q P.Equal ∷ l) y w i j r tt (mark q P.Equal, l, refl, refl, s))

-- globals: the first, and further ones
record Rows (b : Ty) (f : List Placed) (xs : List LItem) (h : ℕ) : Type 0 where
  one : LVariable × Option LExpr
  more : List (LVariable × Option LExpr)
  front : List Placed
  back : List Placed
  i : ℕ
  j : ℕ
  whole : f ≡ front ++ back
  high : h ≡ max i j
  are : xs ≡ global_of one ∷ map global_of more
  reads : Global b front one i
  row : Row b back more j

to_rows : (b : Ty) (f : List Placed) (xs : List LItem) (h : ℕ) → ReadsGlobals b f xs h → Rows b f xs h
to_rows b f xs h (last_global _ x _ r) =
    let g = to_global b f x h r in
    record { one = g.0; more = []; front = f; back = []; i = h; j = 0; whole = sym (append-nil f); high = omega arith; are = ap (λ u. u ∷ []) g.1; reads = g.2; row = no_more }
to_rows b f xs h (more_globals g k q x ys i j r m) =
    let v = to_global b g x i r in
    let t = to_rows b k ys j m in
    record {
      one = v.0;
      more = t.one ∷ t.more;
      front = g;
      back = mark q P.Comma ∷ k;
      i = i;
      j = max t.i t.j;
      whole = refl;
      high = omega (arith, t.high);
      are = ap (λ u. u ∷ ys) v.1 ∙ ap (λ u. global_of v.0 ∷ u) t.are;
      reads = v.2;
      row = subst (λ u. Row b (mark q P.Comma ∷ u) (t.one ∷ t.more) (max t.i t.j)) (sym t.whole) (one_more (mark q P.Comma ∷ t.front) t.back t.one t.more t.i t.j (mark q P.Comma, t.front, refl, refl, t.reads) t.row);
    }

-- the globals of a declaration: the first variable, and what stands behind it
pub record Divided (b : Ty) (f : List Placed) (xs : List LItem) (h : ℕ) : Type 0 where
  pub variable : LVariable
  pub front : List Placed
  pub back : List Placed
  pub i : ℕ
  pub j : ℕ
  pub whole : f ≡ front ++ back
  pub high : h ≡ max i j
  pub reads : ReadsDeclarator b front variable i
  pub rest : (q : Place) → Globals b variable (back ++ mark q P.Semicolon ∷ []) xs j

divide : (b : Ty) (g k : List Placed) (v : LVariable × Option LExpr) (vs : List (LVariable × Option LExpr)) (i j : ℕ) → Global b g v i → Row b k vs j → Divided b (g ++ k) (global_of v ∷ map global_of vs) (max i j)
divide b g k v vs i j (bare _ x _ r) m = record {
  variable = x;
  front = g;
  back = k;
  i = i;
  j = j;
  whole = refl;
  high = refl;
  reads = r;
  rest = λ q. ((None, vs), refl, record { left = []; right = k ++ mark q P.Semicolon ∷ []; i = 0; j = j; whole = refl; nest = omega arith; first = (refl, refl); second = (k, mark q P.Semicolon, refl, refl, m) });
}
divide b g k v vs i j (tailed l s x w i1 i2 r ok e) m = record {
  variable = x;
  front = l;
  back = s ++ k;
  i = i1;
  j = max i2 j;
  whole = append_assoc l s k;
  high = omega arith;
  reads = r;
  rest = λ q. ((Some w, vs), refl, record { left = s; right = k ++ mark q P.Semicolon ∷ []; i = i2; j = j; whole = append_assoc s k (mark q P.Semicolon ∷ []); nest = refl; first = e; second = (k, mark q P.Semicolon, refl, refl, m) });
}

pub to_globals : (b : Ty) (f : List Placed) (xs : List LItem) (h : ℕ) → ReadsGlobals b f xs h → Divided b f xs h
to_globals b f xs h r =
    let t = to_rows b f xs h r in
    let a = divide b t.front t.back t.one t.more t.i t.j t.reads t.row in
    let c : Divided b f (global_of t.one ∷ map global_of t.more) (max t.i t.j) = subst (λ u. Divided b u (global_of t.one ∷ map global_of t.more) (max t.i t.j)) (sym t.whole) a in
    subst (λ u. Divided b f xs u) (sym t.high) (subst (λ u. Divided b f u (max t.i t.j)) (sym t.are) c)

room_one : (d : ℕ) → nat_lt d 1 ≡ false → 1 + 0 ≤ d
room_one d e = grind arith

one_room : (d : ℕ) → 1 + 0 ≤ d → nat_lt d 1 ≡ false
one_room d e = grind arith

module _ (n : ℕ) (b : Ty) where
  pub global_exact : Exact lexeme n 0 (λ d. global_at b d) (Global b) (GlobalEnd b)
  global_exact = exact_trail lexeme n 0 is_equal (λ x. Unit {0}) (DeclaratorEnd b) Any (λ a k e ok f h r. goes_bracket k (equal_goes k e)) (λ a k e q. tt)
      (λ d h. nat_lt d 1) (λ h j. max h j) 0 0 1 (λ h j. omega arith) (λ d h lo hi le e. (omega arith, room_one d e)) (λ d h l m. one_room d m)
      (λ d. declarator_at b d) (ReadsDeclarator b) (declarator_exact n b) n (λ d. start_at d) Start (after_branch equals (initial_exact n)) (omega arith) (λ d. start_at d) (λ d t rest l m i. refl)

  -- what stands behind the first variable of a declaration is read exactly
  pub globals_exact : (x : LVariable) → Exact lexeme n 0 (λ d. globals_at b x d) (Globals b x) Any
  globals_exact x = exact_mapped (globals_of x) Any
      (exact_pair (exact_optional (starts_after ((initial_exact n).sample)) (start_exact n)) (exact_before (exact_many (after_branch commas global_exact) (λ v k e. ends_global b v k (comma_ends k e))) semicolons (ends_row b)) (λ u g v h rest r s. joins b u g v h rest r))
      (λ w k q. tt) (λ w k q. tt)
