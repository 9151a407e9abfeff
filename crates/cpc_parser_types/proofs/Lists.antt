-- Parameter lists are read exactly, as the grammar has them.
use Rattle.std.proofs.Common.{◌≡◌, ℕ, zero, suc, ◌+◌, ◌≤◌, true, List, [], ◌∷◌, ◌++◌, map, Option, Some, None, max, refl, sym, ap, subst, ◌∙◌, append_assoc, arith}
use Rattle.std.proofs.lemmas.List.{append-nil}
use Rattle.cpc_tree.specs.declared.token.Punctuator.TheVariants as P
use Rattle.cpc_base.specs.declared.stop.Place.{Place}
use Rattle.cpc_tree.specs.Tokens.{Mark, Placed}
use Rattle.cpc_tree.specs.Located.{Ident, LParameter}
use Rattle.cpc_tree.specs.Syntax.{Ty, TyPointer, TyCode}
use Rattle.cpc_tree.specs.TypeGrammar.{mark, named, number, ident_row, types, without_void, ReadsParam, plain_param, array_param, sized_param, code_param, ReadsParamRow, last_param, more_params, ReadsParams, no_params, some_params}
use Rattle.cpc_parser_reading.specs.Reading.{made, below}
use Rattle.cpc_parser_reading.specs.Phrase.{Before, Expect, One, Optional}
use Rattle.cpc_parser_reading.specs.Chain.{first, further}
use Rattle.cpc_parser_reading.specs.Lists.{Separated, alone, and_more}
use Rattle.cpc_parser_reading.specs.Exact.{Any, Exact, Opens}
use Rattle.cpc_parser_reading.proofs.Readers.{exact_as, exact_made, exact_start}
use Rattle.cpc_parser_types.specs.Views.{lexeme}
use Rattle.cpc_parser_types.specs.TypeReaders.{Ending, ident_of, Piece, Open, Known, Closed, Name, Brackets, Code, name_part, bracket_part, code_part, is_number, is_right, is_comma, param_of, params_of, params_at, itself, lists, list_at}
use Rattle.cpc_parser_types.proofs.Bases.{token, Typed}
use Rattle.cpc_parser_types.proofs.BaseWords.{at, to_typed}
use Rattle.cpc_parser_types.proofs.Params.{Listed, Param, Params, params_exact, comma_mark}
use Rattle.cpc_parser_types.proofs.ParamWords.{right_is, Shaped, Named_type, without, with_name, named_type, with_part}

of_shape : (f : List Placed) (p : Piece) (h : ℕ) → Param f p h → Shaped f p h
of_shape f p h (first g u i (v, e, r)) = rw e r
of_shape f p h (further g k t c u w i j r e ok q) = with_part g k t c u w i j (of_shape g u i r) e q

plain_of : (f : List Placed) (p : Piece) (h : ℕ) → Named_type f p h → ReadsParam f (param_of p) h
plain_of f (Open v) h (a, s, base, e, b, r) = rw e (plain_param a s base v.0 None 0 h b r)
plain_of f (Known t x) h (a, s, base, e, b, r) = rw e (plain_param a s base t (Some x) 0 h b r)
plain_of f (Closed t o) h (a, s, base, e, b, r) = rw e (plain_param a s base t o 0 h b r)

shaped_param : (f : List Placed) (p : Piece) (h : ℕ) → Shaped f p h → ReadsParam f (param_of p) h
shaped_param f (Open v) h r = plain_of f (Open v) h (named_type f (Open v) h (without v) r)
shaped_param f (Known t x) h r = plain_of f (Known t x) h (named_type f (Known t x) h (with_name t x) r)
shaped_param f (Closed t o) h r = r

pub comma_is : (t : Placed) → is_comma t.lexeme ≡ true → t ≡ mark t.place P.Comma
comma_is t e = ap (λ k. at t.place k) (comma_mark t.lexeme e)

of_row : (f : List Placed) (ps : List Piece) (h : ℕ) → Separated (λ t. is_comma t.lexeme) Param f ps h → ReadsParamRow f (map param_of ps) h
of_row f ps h (alone _ v _ r) = last_param f (param_of v) h (shaped_param f v h (of_shape f v h r))
of_row f ps h (and_more g k t v vs i j r e m) = rw (comma_is t e) (more_params g k t.place (param_of v) (map param_of vs) i j (shaped_param g v i (of_shape g v i r)) (of_row k vs j m))

of_optional : (g : List Placed) (o : Option (List Piece)) (h : ℕ) → Optional (Separated (λ t. is_comma t.lexeme) Param) g o h → ReadsParams g (params_of o) h
of_optional g None h q = rw (q.0, q.1) no_params
of_optional g (Some ps) h q = some_params g (map param_of ps) h (of_row g ps h q)

-- what is read is a parameter list of the grammar
pub of_params : (f : List Placed) (ps : List LParameter) (h : ℕ) → Params f ps h → Before ReadsParams (λ t. is_right t.lexeme) f ps h
of_params f ps h (o, e, (g, u, e1, c, q)) = (g, u, e1, c, rw e (of_optional g o h q))

opened : (f : List Placed) (v : Ty × Ending) (h : ℕ) → Typed f v h → Param f (Open v) h
opened f v h r = first f (Open v) h (v, refl, r)

known : (f : List Placed) (v : Ty × Ending) (x : Ident) (h : ℕ) → Typed f v h → Param (f ++ named x ∷ []) (Known v.0 x) h
known f v x h r =
    let m : max (h + 0) (0 + 0) ≡ h = omega arith in
    subst (λ z. Param (f ++ named x ∷ []) (Known v.0 x) z) m
    (further f [] (named x) Name (Open v) (name_part x) h 0 (opened f v h r) refl tt (named x, [], refl, (Open v, refl), (tt, refl, (refl, refl))))

front : (f : List Placed) (v : Ty × Ending) (o : Option Ident) (h : ℕ) → Typed f v h → (p : Piece) × (record { called = o; type = v.0 } ≡ param_of p) × Param (f ++ ident_row o) p h
front f v None h r = (Open v, refl, subst (λ y. Param y (Open v) h) (sym (append-nil f)) (opened f v h r))
front f v (Some x) h r = (Known v.0 x, refl, known f v x h r)

bracketed : (q r : Place) (f g : List Placed) (v : Ty × Ending) (o : Option Ident) (h : ℕ) → Typed f v h → (n : Option (Unit {0})) → Optional (Expect (λ t. is_number t.lexeme)) g n 0
    → (p : Piece) × (record { called = o; type = TyPointer v.0 } ≡ param_of p) × Param ((f ++ ident_row o) ++ mark q P.LeftBracket ∷ (g ++ mark r P.RightBracket ∷ [])) p h
bracketed q r f g v None h a n b =
    let m : max (h + 0) (0 + 0) ≡ h = omega arith in
    let l : List Placed = g ++ mark r P.RightBracket ∷ [] in
    let p : Piece = Closed (TyPointer v.0) None in (
      p,
      refl,
      subst (λ z. Param ((f ++ []) ++ mark q P.LeftBracket ∷ l) p z) m
          (further (f ++ []) l (mark q P.LeftBracket) Brackets (Open v) bracket_part h 0 (subst (λ y. Param y (Open v) h) (sym (append-nil f)) (opened f v h a)) refl tt
          (mark q P.LeftBracket, l, refl, (Open v, refl), (n, refl, (g, mark r P.RightBracket, refl, refl, b)))),
    )
bracketed q r f g v (Some x) h a n b =
    let m : max (h + 0) (0 + 0) ≡ h = omega arith in
    let l : List Placed = g ++ mark r P.RightBracket ∷ [] in
    let p : Piece = Closed (TyPointer v.0) (Some x) in (
      p,
      refl,
      subst (λ z. Param ((f ++ named x ∷ []) ++ mark q P.LeftBracket ∷ l) p z) m
          (further (f ++ named x ∷ []) l (mark q P.LeftBracket) Brackets (Known v.0 x) bracket_part h 0 (known f v x h a) refl tt
          (mark q P.LeftBracket, l, refl, (Known v.0 x, refl), (n, refl, (g, mark r P.RightBracket, refl, refl, b)))),
    )

maybe_name : (o : Option Ident) → Optional (One ident_of) (ident_row o) o 0
maybe_name None = (refl, refl)
maybe_name (Some x) = (named x, refl, refl, refl)

coded : (q r s u z : Place) (f g : List Placed) (v : Ty × Ending) (o : Option Ident) (ps : List LParameter) (h j : ℕ) → Typed f v h → ReadsParams g ps j
    → Param (f ++ mark q P.LeftParen ∷ mark r P.Star ∷ (ident_row o ++ mark s P.RightParen ∷ mark u P.LeftParen ∷ (g ++ mark z P.RightParen ∷ []))) (Closed (TyCode v.0 (types ps)) o) (max h (j + 1))
coded q r s u z f g v o ps h j a b =
    let l : List Placed = g ++ mark z P.RightParen ∷ [] in
    let k : List Placed = mark s P.RightParen ∷ mark u P.LeftParen ∷ l in
    let m : max (h + 0) ((j + 1) + 0) ≡ max h (j + 1) = omega arith in
    let b' : Listed l ps (j + 1) = (ps, j, refl, refl, (g, mark z P.RightParen, refl, refl, b)) in
    subst (λ y. Param (f ++ mark q P.LeftParen ∷ mark r P.Star ∷ (ident_row o ++ k)) (Closed (TyCode v.0 (types ps)) o) y) m
    (further f (mark r P.Star ∷ (ident_row o ++ k)) (mark q P.LeftParen) Code (Open v) (code_part o ps) h (j + 1) (opened f v h a) refl tt (
      mark q P.LeftParen,
      mark r P.Star ∷ (ident_row o ++ k),
      refl,
      (Open v, refl),
      (
        (o, ps),
        refl,
        (
          mark r P.Star,
          ident_row o ++ k,
          refl,
          refl,
          record {
            left = ident_row o;
            right = k;
            i = 0;
            j = j + 1;
            whole = refl;
            nest = omega arith;
            first = maybe_name o;
            second = (mark s P.RightParen, mark u P.LeftParen ∷ l, refl, refl, (mark u P.LeftParen, l, refl, refl, b'));
          },
        ),
      ),
    ))

to_param : (f : List Placed) (q : LParameter) (h : ℕ) → ReadsParam f q h → (p : Piece) × (q ≡ param_of p) × Param f p h
to_param f q h (plain_param a g base t o i _ b r) =
    let w = to_typed a base i b g t h r in
    let k = front (a ++ g) (t, w.0) o h w.1 in
    (k.0, k.1, subst (λ c. Param c k.0 h) (append_assoc a g (ident_row o)) k.2)
to_param f q h (array_param a g base t o y z i _ b r) =
    let w = to_typed a base i b g t h r in
    let l : List Placed = mark y P.LeftBracket ∷ mark z P.RightBracket ∷ [] in
    let k = bracketed y z (a ++ g) [] (t, w.0) o h w.1 None (refl, refl) in
    (k.0, k.1, subst (λ c. Param c k.0 h) (append_assoc (a ++ g) (ident_row o) l ∙ append_assoc a g (ident_row o ++ l)) k.2)
to_param f q h (sized_param a g base t o y z s kind n i _ b r) =
    let w = to_typed a base i b g t h r in
    let l : List Placed = mark y P.LeftBracket ∷ number s kind n ∷ mark z P.RightBracket ∷ [] in
    let k = bracketed y z (a ++ g) (number s kind n ∷ []) (t, w.0) o h w.1 (Some tt) (number s kind n, refl, refl, refl) in
    (k.0, k.1, subst (λ c. Param c k.0 h) (append_assoc (a ++ g) (ident_row o) l ∙ append_assoc a g (ident_row o ++ l)) k.2)
to_param f q h (code_param a g s base t o c1 c2 c3 c4 c5 ps i m j b r x) =
    let w = to_typed a base i b g t m r in
    let l : List Placed = mark c1 P.LeftParen ∷ mark c2 P.Star ∷ (ident_row o ++ mark c3 P.RightParen ∷ mark c4 P.LeftParen ∷ (s ++ mark c5 P.RightParen ∷ [])) in
    let p : Piece = Closed (TyCode t (types ps)) o in
    (p, refl, subst (λ c. Param c p (max m (j + 1))) (append_assoc a g l) (coded c1 c2 c3 c4 c5 (a ++ g) s (t, w.0) o ps m j w.1 x))

to_row : (f : List Placed) (ps : List LParameter) (h : ℕ) → ReadsParamRow f ps h → (ws : List Piece) × (ps ≡ map param_of ws) × Separated (λ t. is_comma t.lexeme) Param f ws h
to_row f ps h (last_param _ p _ r) = let k = to_param f p h r in (k.0 ∷ [], ap (λ z. z ∷ []) k.1, alone f k.0 h k.2)
to_row f ps h (more_params g s y p qs i j r m) =
    let k = to_param g p i r in
    let l = to_row s qs j m in
    (k.0 ∷ l.0, ap (λ z. z ∷ qs) k.1 ∙ ap (λ z. param_of k.0 ∷ z) l.1, and_more g s (mark y P.Comma) k.0 l.0 i j k.2 refl l.2)

-- a parameter list of the grammar is read
pub to_params : (f : List Placed) (u : Placed) (ps : List LParameter) (h : ℕ) → ReadsParams f ps h → is_right u.lexeme ≡ true → Params (f ++ u ∷ []) ps h
to_params f u ps h no_params c = (None, refl, ([], u, refl, c, (refl, refl)))
to_params f u ps h (some_params _ qs _ r) c = let k = to_row f qs h r in (Some k.0, ap without_void k.1, (f, u, refl, c, k.2))

pub lists_is : (d : ℕ) (ts : List Placed) → 1 ≤ d → made itself (params_at (λ us. lists (below d) us) (below d)) ts ≡ lists d ts
unfolding lists
lists_is zero ts a = absurd (omega arith)
lists_is (suc d) ts a = refl

shortest : Opens Listed 1 []
shortest = record { rest = token (Mark P.RightParen) ∷ []; value = []; nest = 1; reads = ([], 0, refl, refl, ([], token (Mark P.RightParen), refl, refl, no_params)); fits = omega arith }

-- Parameter lists are read exactly, with any room.
pub lists_exact : (n : ℕ) → Exact lexeme n 1 (λ d. lists d) Listed Any
lists_exact zero = exact_start (λ d. lists d) Any (omega arith) shortest (λ f v h r. omega (arith, r.3))
lists_exact (suc n) = exact_as (exact_made itself Any (params_exact n (lists_exact n)) (λ w k q. tt) (λ w k q. tt)) (λ d ts a b. lists_is d ts a)
    (λ f v h r. (r.0, r.1, r.2, r.3, of_params f r.0 r.1 r.4))
    (λ f v h r. let b = r.4 in (r.0, r.1, r.2, r.3, rw (b.2) (to_params b.0 b.1 r.0 r.1 b.4 b.3)))

-- the parameter list of a function itself, with its closing mark
abbrev pub ListEnclosed : List Placed → List LParameter → ℕ → Type 0
ListEnclosed f ps h = (g : List Placed) × (r : Place) × (f ≡ g ++ mark r P.RightParen ∷ []) × ReadsParams g ps h

of_list : (f : List Placed) (ps : List LParameter) (h : ℕ) → Params f ps h → ListEnclosed f ps h
of_list f ps h r = let b = of_params f ps h r in (b.0, b.1.place, subst (λ z. f ≡ b.0 ++ z ∷ []) (right_is b.1 b.3) b.2, b.4)

to_list : (f : List Placed) (ps : List LParameter) (h : ℕ) → ListEnclosed f ps h → Params f ps h
to_list f ps h (g, q, e, r) = rw e (to_params g (mark q P.RightParen) ps h r refl)

-- The parameter list of a function is read exactly, with any room.
pub list_exact : (n : ℕ) → Exact lexeme n 0 (λ d. list_at d) ListEnclosed Any
list_exact n = exact_as (params_exact n (lists_exact n)) (λ d ts a b. refl) of_list to_list
