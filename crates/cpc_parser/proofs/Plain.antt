-- What stands behind the base type of a declaration is read exactly, and so are heads of functions.
use Rattle.std.proofs.Common.{◌≡◌, ℕ, true, List, [], ◌∷◌, ◌++◌, max, refl, sym, ap, subst, ◌∙◌, append_assoc, arith}
use Rattle.cpc_base.specs.declared.stop.Place.{Place}
use Rattle.cpc_tree.specs.declared.program.Mode.TheVariants as M
use Rattle.cpc_tree.specs.declared.token.Punctuator.TheVariants as P
use Rattle.cpc_tree.specs.Tokens.{Placed}
use Rattle.cpc_tree.specs.Syntax.{Ty}
use Rattle.cpc_tree.specs.Located.{Ident, LParameter, LItem}
use Rattle.cpc_tree.specs.TypeGrammar.{mark, named, ReadsStars, ReadsParams}
use Rattle.cpc_tree.specs.ItemGrammar.{Head, ReadsHead, head, ReadsGlobals}
use Rattle.cpc_parser_reading.specs.Phrase.{One, After, Mapped, Both, Bound}
use Rattle.cpc_parser_reading.specs.Exact.{Any, Stops, Exact}
use Rattle.cpc_parser_reading.proofs.Heads.{stops_all}
use Rattle.cpc_parser_reading.proofs.Readers.{any_stops, exact_after, exact_as, exact_bind, exact_mapped, exact_pair}
use Rattle.cpc_parser_types.specs.Views.{lexeme}
use Rattle.cpc_parser_types.specs.TypeReaders.{Ending, ident_of, is_left}
use Rattle.cpc_parser_types.specs.Declarators.{StarsEnd}
use Rattle.cpc_parser_types.proofs.Bases.{Words, WordsEnd, words_exact, name_exact}
use Rattle.cpc_parser_types.proofs.BaseWords.{of_base, to_base, named_is}
use Rattle.cpc_parser_types.proofs.Params.{lefts}
use Rattle.cpc_parser_types.proofs.ParamWords.{left_is}
use Rattle.cpc_parser_types.proofs.Lists.{ListEnclosed, list_exact}
use Rattle.cpc_parser_types.proofs.Declarators.{stars_exact}
use Rattle.cpc_parser.specs.ItemReaders.{second, head_of, head_at, First, Alone, Closed, Called, Seen, Variable, Function, seen, further_at, plain_at}
use Rattle.cpc_parser.proofs.Places.{Led}
use Rattle.cpc_parser.proofs.Globals.{Globals, globals_led, goes_alone, led_stops, of_globals, to_globals, globals_exact}
use Rattle.cpc_parser.proofs.Fields.{begins_behind, behind_words, stars_led}
use Rattle.cpc_parser.proofs.Behinds.{ReadsBehind, behind_exact}
use Rattle.cpc_parser.proofs.Firsts.{FirstWords, FirstEnd, ReadsFirst, variable, function, of_first, Found, to_first, first_led, first_exact}

-- The head of a function, in the readers' words.
abbrev Name : List Placed → Ident × List LParameter → ℕ → Type 0
Name = Both (One ident_of) (After (λ t. is_left t.lexeme) ListEnclosed)

abbrev HeadWords : List Placed → Head → ℕ → Type 0
HeadWords = Mapped head_of (Bound Words (λ v. Both (ReadsStars v.0) Name))

of_name : (f : List Placed) (v : Ident × List LParameter) (h : ℕ) → Name f v h → (g : List Placed) × (q : Place) × (r : Place) × (f ≡ named v.0 ∷ mark q P.LeftParen ∷ (g ++ mark r P.RightParen ∷ [])) × ReadsParams g v.1 h
of_name f v h y =
    let x = y.first in
    let z = y.second in
    let l = z.4 in
    let m : y.j ≡ h = let n = y.nest in omega (arith, n, x.3) in
    let whole : f ≡ named v.0 ∷ mark z.0.place P.LeftParen ∷ (l.0 ++ mark l.1 P.RightParen ∷ []) = rw (← named_is x.0 v.0 x.2, ← left_is z.0 z.3, ← (l.2), ← (z.2), y.whole, x.1) refl in
    (l.0, z.0.place, l.1, whole, subst (λ u. ReadsParams l.0 v.1 u) m l.3)

to_name : (g : List Placed) (q r : Place) (x : Ident) (ps : List LParameter) (h : ℕ) → ReadsParams g ps h → Name (named x ∷ mark q P.LeftParen ∷ (g ++ mark r P.RightParen ∷ [])) (x, ps) h
to_name g q r x ps h p = record {
  left = named x ∷ [];
  right = mark q P.LeftParen ∷ (g ++ mark r P.RightParen ∷ []);
  i = 0;
  j = h;
  whole = refl;
  nest = omega arith;
  first = (named x, refl, refl, refl);
  second = (mark q P.LeftParen, g ++ mark r P.RightParen ∷ [], refl, refl, (g, r, refl, p));
}

of_head : (f : List Placed) (x : Head) (h : ℕ) → HeadWords f x h → ReadsHead f x h
of_head f x h (v, e, y) =
    let b = of_base y.left v.0 y.i y.first in
    let s = y.second in
    let k = of_name s.right v.1.1 s.j s.second in
    let m : h ≡ max s.i s.j = let n = y.nest in let o = s.nest in omega (arith, n, o, b.1) in
    rw (e, m, y.whole, s.whole, k.3) (head y.left s.left k.0 k.1 k.2 v.0.0 v.1.0 v.1.1.0 v.1.1.1 0 s.i s.j b.0 s.first k.4)

to_head : (f : List Placed) (x : Head) (h : ℕ) → ReadsHead f x h → HeadWords f x h
to_head f x h (head a k g q r base t y ps i i1 j b s p) =
    let w = to_base a base i b in (
      ((base, w.0), (t, (y, ps))),
      refl,
      record {
        left = a;
        right = k ++ named y ∷ mark q P.LeftParen ∷ (g ++ mark r P.RightParen ∷ []);
        i = 0;
        j = max i1 j;
        whole = refl;
        nest = omega arith;
        first = w.1;
        second = record { left = k; right = named y ∷ mark q P.LeftParen ∷ (g ++ mark r P.RightParen ∷ []); i = i1; j = j; whole = refl; nest = refl; first = s; second = to_name g q r y ps j p };
      },
    )

name_stars : (u : Ty) (g : List Placed) (v : Ident × List LParameter) (h : ℕ) (rest : List Placed) → Name g v h → Stops lexeme (StarsEnd u) (g ++ rest)
name_stars u g v h rest y = let k = of_name g v h y in rw (k.3) refl

name_words : (u : Ty × Ending) (g : List Placed) (v : Ty × (Ident × List LParameter)) (h : ℕ) (rest : List Placed) → Both (ReadsStars u.0) Name g v h → Stops lexeme (WordsEnd u) (g ++ rest)
name_words u g v h rest y =
    let k = of_name y.right v.1 y.j y.second in
    rw (y.whole) (led_stops (y.left ++ y.right) rest (stars_led u.0 y.left v.0 y.i y.first y.right (named v.1.0, _, k.3, refl)) (behind_words u))

-- the head of a function is read exactly
pub head_exact : (n : ℕ) → Exact lexeme n 0 (λ d. head_at d) ReadsHead Any
head_exact n = exact_as (exact_mapped head_of Any
    (exact_bind (words_exact n) (λ v. exact_pair (stars_exact n v.0) (exact_pair (name_exact n) (exact_after lefts (list_exact n)) (λ u g v h rest r s. any_stops lexeme u (g ++ rest))) (λ u g v h rest r s. name_stars u g v h rest r))
    (λ u g v h rest r s. name_words u g v h rest r)) (λ w k q. tt) (λ w k q. tt))
    (λ d ts a b. refl) of_head to_head

-- what stands behind the first variable or function
abbrev Further : Place → Ty → Seen → List Placed → List LItem → ℕ → Type 0
Further q b (Variable x) = Globals b x
Further q b (Function x) = ReadsBehind q M.Native x

abbrev PlainWords : Place → Ty → List Placed → List LItem → ℕ → Type 0
PlainWords q b = Mapped second (Bound (FirstWords b) (λ v. Further q b (seen v)))

-- what stands behind the base type of a declaration that begins at the place: globals, or a function or prototype
pub data ReadsPlain (q : Place) (b : Ty) : List Placed → List LItem → ℕ → Type 0 where
  variables : (f : List Placed) (r : Place) (xs : List LItem) (h : ℕ) → ReadsGlobals b f xs h → ReadsPlain q b (f ++ mark r P.Semicolon ∷ []) xs h
  called : (f g : List Placed) (x : Head) (v : List LItem) (h j : ℕ) → ReadsFirst b f (Function x) h → ReadsBehind q M.Native x g v j → ReadsPlain q b (f ++ g) v (max h j)

of_further : (q : Place) (b : Ty) (s : Seen) (f g : List Placed) (v : List LItem) (i j : ℕ) → ReadsFirst b f s i → Further q b s g v j → ReadsPlain q b (f ++ g) v (max i j)
of_further q b s f g v i j (variable _ x _ d) r = let k = of_globals b x g v j r f i d in rw (k.2) (variables k.0 k.1 v (max i j) k.3)
of_further q b s f g v i j (function k l o p t x ps i1 j1 row list) r = called f g _ v i j (function k l o p t x ps i1 j1 row list) r

of_plain : (q : Place) (b : Ty) (f : List Placed) (v : List LItem) (h : ℕ) → PlainWords q b f v h → ReadsPlain q b f v h
of_plain q b f v h (w, e, y) = rw (e, y.whole, y.nest) (of_further q b (seen w.0) y.left y.right w.1 y.i y.j (of_first b y.left w.0 y.i y.first) y.second)

found : (q : Place) (b : Ty) (s : Seen) (f g : List Placed) (v : List LItem) (i j : ℕ) → Found b f s i → Further q b s g v j → PlainWords q b (f ++ g) v (max i j)
found q b s f g v i j k r = ((k.value, v), refl, record { left = f; right = g; i = i; j = j; whole = refl; nest = refl; first = k.reads; second = subst (λ u. Further q b u g v j) (sym k.is) r })

to_plain : (q : Place) (b : Ty) (f : List Placed) (v : List LItem) (h : ℕ) → ReadsPlain q b f v h → PlainWords q b f v h
to_plain q b f v h (variables k r _ _ m) =
    let d = to_globals b k v h m in
    let e : k ++ mark r P.Semicolon ∷ [] ≡ d.front ++ (d.back ++ mark r P.Semicolon ∷ []) = ap (λ u. u ++ mark r P.Semicolon ∷ []) d.whole ∙ append_assoc d.front d.back (mark r P.Semicolon ∷ []) in
    subst (λ u. PlainWords q b u v h) (sym e) (subst (λ u. PlainWords q b (d.front ++ (d.back ++ mark r P.Semicolon ∷ [])) v u) (sym d.high)
    (found q b (Variable d.variable) d.front (d.back ++ mark r P.Semicolon ∷ []) v d.i d.j (to_first b d.front (Variable d.variable) d.i (variable d.front d.variable d.i d.reads)) (d.rest r)))
to_plain q b f v h (called k g x _ i j m r) = found q b (Function x) k g v i j (to_first b k (Function x) i m) r

further_stops : (q : Place) (b : Ty) (u : First) (g : List Placed) (v : List LItem) (h : ℕ) (rest : List Placed) → Further q b (seen u) g v h → Stops lexeme (FirstEnd u) (g ++ rest)
further_stops q b (Alone x t) g v h rest r = led_stops g rest (globals_led b _ g v h r) (goes_alone (Alone x t))
further_stops q b (Closed x) g v h rest r = led_stops g rest (globals_led b x g v h r) (goes_alone (Closed x))
further_stops q b (Called x) g v h rest r = stops_all lexeme (FirstEnd (Called x)) (λ k. refl) (g ++ rest)

-- how it begins
pub plain_led : (q : Place) (b : Ty) (f : List Placed) (v : List LItem) (h : ℕ) → ReadsPlain q b f v h → Led (λ k. begins_behind k ≡ true) f
plain_led q b f v h r = by_words (to_plain q b f v h r) where
  by_words : PlainWords q b f v h → Led (λ k. begins_behind k ≡ true) f
  by_words (w, e, y) = let k = first_led b y.left w.0 y.i y.first in (k.0, k.1 ++ y.right, y.whole ∙ ap (λ u. u ++ y.right) k.2, k.3)

module _ (n : ℕ) (q : Place) (b : Ty) where
  further_exact : (s : Seen) → Exact lexeme n 0 (λ d. further_at q b s d) (Further q b s) Any
  further_exact (Variable x) = globals_exact n b x
  further_exact (Function x) = behind_exact n q M.Native x

  -- what stands behind the base type of a declaration is read exactly
  pub plain_exact : Exact lexeme n 0 (λ d. plain_at q b d) (ReadsPlain q b) Any
  plain_exact = exact_as (exact_mapped second Any (exact_bind (first_exact n b) (λ v. further_exact (seen v)) (λ u g v h rest r s. further_stops q b u g v h rest r)) (λ w k q. tt) (λ w k q. tt))
      (λ d ts a b. refl) (of_plain q b) (to_plain q b)
