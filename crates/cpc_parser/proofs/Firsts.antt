-- What stands first behind a base type is read exactly.
use Rattle.std.proofs.Common.{◌≡◌, ℕ, ◌+◌, ◌<◌, ◌^◌, true, false, List, [], ◌∷◌, ◌++◌, Some, None, max, pos, refl, sym, ap, subst, ◌∙◌, arith, nat_lt, inl, inr}
use Rattle.cpc_base.specs.declared.stop.Place.{Place}
use Rattle.cpc_num.specs.declared.kinds.Kind.{Kind}
use Rattle.cpc_num.specs.declared.kinds.Kind.TheVariants as N
use Rattle.cpc_tree.specs.declared.token.Punctuator.TheVariants as P
use Rattle.cpc_tree.specs.Tokens.{Lexeme, Mark, Number, Placed}
use Rattle.cpc_tree.specs.Syntax.{Ty, TyArray, TyCode}
use Rattle.cpc_tree.specs.Located.{Ident, LVariable, LParameter}
use Rattle.cpc_tree.specs.TypeGrammar.{mark, named, number, types, ReadsStars, ReadsParams, ReadsDeclarator, plain, array, code}
use Rattle.cpc_parser_reading.specs.Reading.{one}
use Rattle.cpc_parser_reading.specs.Phrase.{One, Before, After, Mapped, Headed, Bound, Either}
use Rattle.cpc_parser_reading.specs.Chain.{Chained, first, further, Joint}
use Rattle.cpc_parser_reading.specs.Exact.{Any, Stops, Exact, Branch}
use Rattle.cpc_parser_reading.proofs.Readers.{exact_before, exact_bind, exact_chain, exact_either, exact_mapped, exact_one, exact_stop, exact_after, branch, starts_after, starts_mapped, headed_branch}
use Rattle.cpc_parser_types.specs.Views.{lexeme}
use Rattle.cpc_parser_types.specs.TypeReaders.{ident_of, star_class, is_left, is_unbracket}
use Rattle.cpc_parser_types.specs.Declarators.{StarsEnd, length_in}
use Rattle.cpc_parser_types.proofs.Bases.{token, name_exact}
use Rattle.cpc_parser_types.proofs.BaseWords.{at, named_is}
use Rattle.cpc_parser_types.proofs.Params.{lefts, unbrackets}
use Rattle.cpc_parser_types.proofs.ParamWords.{right_is, left_is, star_mark, unbracket_is}
use Rattle.cpc_parser_types.proofs.Lists.{ListEnclosed, list_exact}
use Rattle.cpc_parser_types.proofs.Declarators.{stars_exact, CodeRest, code_exact, length_is, length_some}
use Rattle.cpc_parser.specs.ItemReaders.{second, First, Alone, Closed, Called, Going, Brackets, Parens, first_class, Part, size_part, list_part, first_make, first_part, named_at, alone, coded, pointer_at, first_at, Seen, Variable, Function, seen}
use Rattle.cpc_parser.proofs.Places.{Led}
use Rattle.cpc_parser.proofs.Fields.{begins_behind, stars_led}

-- no condition
abbrev pub Always : First → Going → Type 0
Always v c = Unit {0}

-- a first token of a class
abbrev pub Goes : Going → Lexeme → Type 0
Goes c k = (v : First) × (first_class v k ≡ Some c)

-- what goes on, in the readers' words
abbrev pub Parts : Going → List Placed → Part → ℕ → Type 0
Parts Brackets = Headed lexeme (Goes Brackets) (λ t. Mapped size_part (Before (One (λ u. length_in u.lexeme)) (λ u. is_unbracket u.lexeme)))
Parts Parens = Headed lexeme (Goes Parens) (λ t. Mapped list_part ListEnclosed)

-- a name and what goes on, in the readers' words
abbrev NamedWords : Ty → List Placed → First → ℕ → Type 0
NamedWords t = Chained lexeme first_class Always first_make (λ c h j. max h j) (Mapped (alone t) (One ident_of)) Parts

-- a pointer to a function, in the readers' words
abbrev PointerWords : Ty → List Placed → First → ℕ → Type 0
PointerWords t = Mapped (coded t) (After (λ u. is_left u.lexeme) CodeRest)

-- what stands first behind a base type, in the readers' words
abbrev pub FirstWords : Ty → List Placed → First → ℕ → Type 0
FirstWords b = Mapped second (Bound (ReadsStars b) (λ t. Either (PointerWords t) (NamedWords t)))

-- A name and what goes on, in the words of the grammar.
abbrev NamedShape : Ty → List Placed → First → ℕ → Type 0
NamedShape t f (Alone x u) h = (u ≡ t) × (f ≡ named x ∷ []) × (h ≡ 0)
NamedShape t f (Closed y) h = (x : Ident) × (q : Place) × (r : Place) × (s : Place) × (kind : Kind) × (n : ℕ) × (f ≡ named x ∷ mark q P.LeftBracket ∷ number s kind (pos n) ∷ mark r P.RightBracket ∷ []) × (n < 2 ^ 64) × (y ≡ record { called = x; type = TyArray t n }) × (h ≡ 0)
NamedShape t f (Called y) h = (x : Ident) × (q : Place) × (r : Place) × (g : List Placed) × (ps : List LParameter) × (f ≡ named x ∷ mark q P.LeftParen ∷ (g ++ mark r P.RightParen ∷ [])) × (y ≡ record { called = x; result = t; parameters = ps }) × ReadsParams g ps h

brackets_is : (v : First) (k : Lexeme) → first_class v k ≡ Some Brackets → k ≡ Mark P.LeftBracket
brackets_is (Alone x t) (Mark P.LeftBracket) e = refl
brackets_is v k e = absurd cc

parens_is : (v : First) (k : Lexeme) → first_class v k ≡ Some Parens → k ≡ Mark P.LeftParen
parens_is (Alone x t) (Mark P.LeftParen) e = refl
parens_is v k e = absurd cc

with_part : (t : Ty) (f k : List Placed) (u : Placed) (c : Going) (v : First) (w : Part) (h j : ℕ) → NamedShape t f v h → first_class v u.lexeme ≡ Some c → Parts c (u ∷ k) w j → NamedShape t (f ++ u ∷ k) (first_make c v w) (max h j)
with_part t f k u Brackets (Alone x s) w h j (a, b, z) e (u', g, e0, p, (n, e1, (l, v, e2, o, (y, e3, i, z2)))) =
    let m : u ≡ at u.place (Mark P.LeftBracket) = ap (at u.place) (brackets_is (Alone x s) u.lexeme e) in
    let tl : k ≡ y ∷ v ∷ [] = let d : k ≡ g = cc in d ∙ (e2 ∙ ap (λ z. z ++ v ∷ []) e3) in
    let ln = length_is y.place y.lexeme n i in
    let hd : f ++ u ∷ k ≡ named x ∷ mark u.place P.LeftBracket ∷ number y.place ln.0 (pos n) ∷ mark v.place P.RightBracket ∷ [] = rw (b, tl, ← m, ← (ln.2), ← unbracket_is v o) refl in
    rw e1 (x, u.place, v.place, y.place, ln.0, n, hd, ln.1, ap (λ z. record { called = x; type = TyArray z n }) a, omega (arith, z, z2))
with_part t f k u Parens (Alone x s) w h j (a, b, z) e (u', g, e0, p, (ps, e1, (l, r, e2, q))) =
    let m : u ≡ at u.place (Mark P.LeftParen) = ap (at u.place) (parens_is (Alone x s) u.lexeme e) in
    let tl : k ≡ l ++ mark r P.RightParen ∷ [] = let d : k ≡ g = cc in d ∙ e2 in
    let hd : f ++ u ∷ k ≡ named x ∷ mark u.place P.LeftParen ∷ (l ++ mark r P.RightParen ∷ []) = rw (b, tl, ← m) refl in
    let n : max h j ≡ j = omega (arith, z) in
    rw (e1, n) (x, u.place, r, l, ps, hd, ap (λ z. record { called = x; result = z; parameters = ps }) a, q)
with_part t f k u c (Closed y) w h j r e q = absurd cc
with_part t f k u c (Called y) w h j r e q = absurd cc

of_named : (t : Ty) (f : List Placed) (v : First) (h : ℕ) → NamedWords t f v h → NamedShape t f v h
of_named t f v h (first g u i (x, e, (y, e1, p, z))) = rw e (refl, e1 ∙ ap (λ u. u ∷ []) (named_is y x p), z)
of_named t f v h (further g k u c w p i j r e ok q) = with_part t g k u c w p i j (of_named t g w i r) e q

to_alone : (t : Ty) (x : Ident) → NamedWords t (named x ∷ []) (Alone x t) 0
to_alone t x = first (named x ∷ []) (Alone x t) 0 (x, refl, (named x, refl, refl, refl))

within : (n : ℕ) → n < 2 ^ 64 → nat_lt n (2 ^ 64) ≡ true
within n l = grind (arith, l)

to_sized : (t : Ty) (x : Ident) (q r s : Place) (kind : Kind) (n : ℕ) → n < 2 ^ 64
    → NamedWords t (named x ∷ mark q P.LeftBracket ∷ number s kind (pos n) ∷ mark r P.RightBracket ∷ []) (Closed (record { called = x; type = TyArray t n })) 0
to_sized t x q r s kind n l =
    further (named x ∷ []) (number s kind (pos n) ∷ mark r P.RightBracket ∷ []) (mark q P.LeftBracket) Brackets (Alone x t) (size_part n) 0 0 (to_alone t x) refl tt
    (mark q P.LeftBracket, number s kind (pos n) ∷ mark r P.RightBracket ∷ [], refl, (Alone x t, refl), (n, refl, (number s kind (pos n) ∷ [], mark r P.RightBracket, refl, refl, (number s kind (pos n), refl, length_some kind n l, refl))))

to_called : (t : Ty) (x : Ident) (q r : Place) (g : List Placed) (ps : List LParameter) (h : ℕ) → ReadsParams g ps h
    → NamedWords t (named x ∷ mark q P.LeftParen ∷ (g ++ mark r P.RightParen ∷ [])) (Called (record { called = x; result = t; parameters = ps })) h
to_called t x q r g ps h p =
    let n : max 0 h ≡ h = omega arith in
    subst (λ z. NamedWords t (named x ∷ mark q P.LeftParen ∷ (g ++ mark r P.RightParen ∷ [])) (Called (record { called = x; result = t; parameters = ps })) z) n
    (further (named x ∷ []) (g ++ mark r P.RightParen ∷ []) (mark q P.LeftParen) Parens (Alone x t) (list_part ps) 0 h (to_alone t x) refl tt
    (mark q P.LeftParen, g ++ mark r P.RightParen ∷ [], refl, (Alone x t, refl), (ps, refl, (g, r, refl, p))))

of_pointer : (b t : Ty) (g f : List Placed) (v : First) (i h : ℕ) → ReadsStars b g t i → PointerWords t f v h → (x : LVariable) × (v ≡ Closed x) × ReadsDeclarator b (g ++ f) x (max i h)
of_pointer b t g f v i h row (p, e, (o, f1, e1, c1, (s, f2, e2, c2, y))) =
    let x = y.first in
    let z = y.second in
    let w = z.4 in
    let l = w.4 in
    let m : max i h ≡ max i (l.1 + 1) = let n = y.nest in omega (arith, n, x.3, l.3) in
    let k = l.4 in
    let whole : f ≡ mark o.place P.LeftParen ∷ mark s.place P.Star ∷ named p.0 ∷ mark z.0.place P.RightParen ∷ mark w.0.place P.LeftParen ∷ (k.0 ++ mark k.1.place P.RightParen ∷ []) =
    rw (← left_is o c1, ← star_mark s c2, ← named_is x.0 p.0 x.2, ← right_is z.0 z.3, ← left_is w.0 w.3, ← right_is k.1 k.3, ← (k.2), ← (w.2), ← (z.2), e1, e2, y.whole, x.1) refl in
    (record { called = p.0; type = TyCode t (types p.1) }, e, rw (whole, m) (code g k.0 t p.0 o.place s.place z.0.place w.0.place k.1.place p.1 i l.1 row (subst (λ a. ReadsParams k.0 a l.1) (sym l.2) k.4)))

to_pointer : (t : Ty) (x : Ident) (q r s u v : Place) (k : List Placed) (ps : List LParameter) (j : ℕ) → ReadsParams k ps j
    → PointerWords t (mark q P.LeftParen ∷ mark r P.Star ∷ named x ∷ mark s P.RightParen ∷ mark u P.LeftParen ∷ (k ++ mark v P.RightParen ∷ [])) (Closed (record { called = x; type = TyCode t (types ps) })) (j + 1)
to_pointer t x q r s u v k ps j p =
    let last : List Placed = k ++ mark v P.RightParen ∷ [] in
    let close : List Placed = mark s P.RightParen ∷ mark u P.LeftParen ∷ last in (
      (x, ps),
      refl,
      (
        mark q P.LeftParen,
        mark r P.Star ∷ named x ∷ close,
        refl,
        refl,
        (
          mark r P.Star,
          named x ∷ close,
          refl,
          refl,
          record {
            left = named x ∷ [];
            right = close;
            i = 0;
            j = j + 1;
            whole = refl;
            nest = omega arith;
            first = (named x, refl, refl, refl);
            second = (mark s P.RightParen, mark u P.LeftParen ∷ last, refl, refl, (mark u P.LeftParen, last, refl, refl, (ps, j, refl, refl, (k, mark v P.RightParen, refl, refl, p))));
          },
        ),
      ),
    )

-- what stands first behind a base type, in the words of the grammar: a variable, or the name of a function and its parameters
pub data ReadsFirst (b : Ty) : List Placed → Seen → ℕ → Type 0 where
  variable : (f : List Placed) (x : LVariable) (h : ℕ) → ReadsDeclarator b f x h → ReadsFirst b f (Variable x) h
  function : (f g : List Placed) (q r : Place) (t : Ty) (x : Ident) (ps : List LParameter) (h j : ℕ) → ReadsStars b f t h → ReadsParams g ps j
      → ReadsFirst b (f ++ named x ∷ mark q P.LeftParen ∷ (g ++ mark r P.RightParen ∷ [])) (Function (record { called = x; result = t; parameters = ps })) (max h j)

of_shape : (b t : Ty) (g f : List Placed) (v : First) (i h : ℕ) → ReadsStars b g t i → NamedShape t f v h → ReadsFirst b (g ++ f) (seen v) (max i h)
of_shape b t g f (Alone x u) i h row (a, e, z) =
    let m : max i h ≡ i = omega (arith, z) in
    rw (e, m, a) (variable _ _ i (plain g t x i row))
of_shape b t g f (Closed y) i h row (x, q, r, s, kind, n, e, l, a, z) =
    let m : max i h ≡ i = omega (arith, z) in
    rw (e, m, a) (variable _ _ i (array g t x q r s kind n i row l))
of_shape b t g f (Called y) i h row (x, q, r, k, ps, e, a, p) = rw (e, a) (function g k q r t x ps i h row p)

pub of_first : (b : Ty) (f : List Placed) (v : First) (h : ℕ) → FirstWords b f v h → ReadsFirst b f (seen v) h
of_first b f v h ((t, w), e, y) = rw (e, y.whole, y.nest) (by_kind y.second) where
  by_kind : Either (PointerWords t) (NamedWords t) y.right w y.j → ReadsFirst b (y.left ++ y.right) (seen w) (max y.i y.j)
  by_kind (inl p) = let k = of_pointer b t y.left y.right w y.i y.j y.first p in subst (λ z. ReadsFirst b (y.left ++ y.right) (seen z) (max y.i y.j)) (sym k.1) (variable _ k.0 _ k.2)
  by_kind (inr n) = of_shape b t y.left y.right w y.i y.j y.first (of_named t y.right w y.j n)

-- what is read where the grammar has a variable or a function
pub record Found (b : Ty) (f : List Placed) (s : Seen) (h : ℕ) : Type 0 where
  pub value : First
  pub is : seen value ≡ s
  pub reads : FirstWords b f value h

behind_stars : (b t : Ty) (g f : List Placed) (v : First) (i h : ℕ) → ReadsStars b g t i → Either (PointerWords t) (NamedWords t) f v h → FirstWords b (g ++ f) v (max i h)
behind_stars b t g f v i h row r = ((t, v), refl, record { left = g; right = f; i = i; j = h; whole = refl; nest = refl; first = row; second = r })

pub to_first : (b : Ty) (f : List Placed) (s : Seen) (h : ℕ) → ReadsFirst b f s h → Found b f s h
to_first b f s h (variable _ _ _ (plain g t x i row)) =
    let m : max i 0 ≡ i = omega arith in
    record { value = Alone x t; is = refl; reads = subst (λ z. FirstWords b (g ++ named x ∷ []) (Alone x t) z) m (behind_stars b t g (named x ∷ []) (Alone x t) i 0 row (inr (to_alone t x))) }
to_first b f s h (variable _ _ _ (array g t x q r u kind n i row l)) =
    let m : max i 0 ≡ i = omega arith in
    let y : First = Closed (record { called = x; type = TyArray t n }) in
    let k : List Placed = named x ∷ mark q P.LeftBracket ∷ number u kind (pos n) ∷ mark r P.RightBracket ∷ [] in
    record { value = y; is = refl; reads = subst (λ z. FirstWords b (g ++ k) y z) m (behind_stars b t g k y i 0 row (inr (to_sized t x q r u kind n l))) }
to_first b f s h (variable _ _ _ (code g k t x q r u v w ps i j row p)) =
    record { value = Closed (record { called = x; type = TyCode t (types ps) }); is = refl; reads = behind_stars b t g _ _ i (j + 1) row (inl (to_pointer t x q r u v w k ps j p)) }
to_first b f s h (function g k q r t x ps i j row p) =
    record { value = Called (record { called = x; result = t; parameters = ps }); is = refl; reads = behind_stars b t g _ _ i j row (inr (to_called t x q r k ps j p)) }

-- what may stand behind what was read first
abbrev pub FirstEnd : First → Lexeme → Type 0
FirstEnd v k = first_class v k ≡ None

pub named_joint : (n : ℕ) → Joint lexeme n 0 first_class (λ d c h. false) first_make (λ c h j. max h j) Always Goes (λ v k. Unit {0}) (λ c w k. Unit {0}) (λ c. 0) (λ c. 0) (λ c. 0)
named_joint n = record {
  begins = λ v k c e. (v, e);
  clear = λ v k c e ok. tt;
  suits = λ v k c e q. tt;
  to = λ c v w k q. tt;
  of = λ c v w k q. tt;
  grows = λ c h j. omega arith;
  fits = λ d c h lo hi le e. (omega arith, omega arith);
  free = λ d c h a b. refl;
}

-- a name or an opening mark behind stars
pointer_led : (t : Ty) (f : List Placed) (v : First) (h : ℕ) → PointerWords t f v h → Led (λ k. begins_behind k ≡ true) f
pointer_led t f v h (p, e, (o, f1, e1, c1, r)) = (o, f1, e1, opens_behind o.lexeme c1) where
  opens_behind : (k : Lexeme) → is_left k ≡ true → begins_behind k ≡ true
  opens_behind (Mark P.LeftParen) e = refl
  opens_behind k e = absurd cc

named_led : (t : Ty) (f : List Placed) (v : First) (h : ℕ) → NamedWords t f v h → (x : Ident) × (g : List Placed) × (f ≡ named x ∷ g)
named_led t f v h (first g u i (x, e, (y, e1, p, z))) = (x, [], e1 ∙ ap (λ u. u ∷ []) (named_is y x p))
named_led t f v h (further g k u c w p i j r e ok q) = let b = named_led t g w i r in (b.0, b.1 ++ u ∷ k, ap (λ z. z ++ u ∷ k) b.2)

star_free : (k : Lexeme) (f g : List Placed) (v : First) → is_left k ≡ true → star_class k ≡ None
star_free (Mark P.LeftParen) f g v e = refl
star_free k f g v e = absurd cc

-- no star begins it
first_joins : (u : Ty) (g : List Placed) (v : First) (h : ℕ) (rest : List Placed) → Either (PointerWords u) (NamedWords u) g v h → Stops lexeme (StarsEnd u) (g ++ rest)
first_joins u g v h rest (inl (p, e, (o, f1, e1, c1, r))) = rw e1 (star_free o.lexeme g rest v c1)
first_joins u g v h rest (inr n) = let b = named_led u g v h n in rw b.2 refl

named_apart : (t : Ty) (f : List Placed) (v : First) (h : ℕ) (rest : List Placed) → NamedWords t f v h → Stops lexeme (λ k. is_left k ≡ false) (f ++ rest)
named_apart t f v h rest r = let b = named_led t f v h r in rw b.2 refl

-- how it begins
pub first_led : (b : Ty) (f : List Placed) (v : First) (h : ℕ) → FirstWords b f v h → Led (λ k. begins_behind k ≡ true) f
first_led b f v h ((t, w), e, y) = rw (y.whole) (stars_led b y.left t y.i y.first y.right (by_kind y.second)) where
  by_kind : Either (PointerWords t) (NamedWords t) y.right w y.j → Led (λ k. begins_behind k ≡ true) y.right
  by_kind (inl p) = pointer_led t y.right w y.j p
  by_kind (inr n) = let k = named_led t y.right w y.j n in (named k.0, k.1, k.2, refl)

module _ (n : ℕ) where
  length_exact : Exact lexeme n 0 (λ d. one (λ t. length_in t.lexeme)) (One (λ t. length_in t.lexeme)) Any
  length_exact = exact_one n (λ t. length_in t.lexeme) (token (Number N.Int (pos 0))) 0 refl (λ t u e i. rw (← e) i)

  pub parts : (c : Going) → Branch lexeme (Goes c) n 0 (λ d. first_part d c) (Parts c) (λ w k. Unit {0})
  parts Brackets = headed_branch (λ t e. exact_mapped size_part (λ w k. Unit {0}) (exact_before length_exact unbrackets (λ v k e. tt)) (λ w k q. tt) (λ w k q. tt))
  parts Parens = headed_branch (λ t e. exact_mapped list_part (λ w k. Unit {0}) (list_exact n) (λ w k q. tt) (λ w k q. tt))

  named_exact : (t : Ty) → Exact lexeme n 0 (λ d. named_at t d) (NamedWords t) FirstEnd
  named_exact t = exact_stop FirstEnd (exact_chain (named_joint n) parts (λ c. omega arith) (λ d c. first_part d c) (λ d c t rest a b i. refl)
      (exact_mapped (alone t) (λ v k. Unit {0}) (name_exact n) (λ w k q. tt) (λ w k q. tt)))
      (λ v k q. q.1) (λ v k q. (tt, q))

  pointer_exact : (t : Ty) → Branch lexeme (λ k. is_left k ≡ true) n 1 (λ d. pointer_at t d) (PointerWords t) FirstEnd
  pointer_exact t = branch (starts_mapped (starts_after (code_exact n).sample) (coded t)) (exact_mapped (coded t) FirstEnd (exact_after lefts (code_exact n)) (λ w k q. refl) (λ w k q. tt))

  -- what stands first behind a base type is read exactly
  pub first_exact : (b : Ty) → Exact lexeme n 0 (λ d. first_at b d) (FirstWords b) FirstEnd
  first_exact b = exact_mapped second FirstEnd
      (exact_bind (stars_exact n b) (λ t. exact_either (pointer_exact t) (named_exact t) (omega arith) (λ f v h rest r s. named_apart t f v h rest r)) (λ u g v h rest r s. first_joins u g v h rest r))
      (λ w k q. q) (λ w k q. q)
