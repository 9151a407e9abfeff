-- How code goes along parameters with commas between them.
use Rattle.std.proofs.Common.{◌≡◌, ℕ, ◌≤◌, false, List, [], ◌∷◌, ◌++◌, length, map, max, refl, sym, ap, subst, ◌∙◌, arith}
use Rattle.cpc_base.specs.declared.stop.Place.{Place}
use Rattle.cpc_base.proofs.Lists.{map_of_push}
use Rattle.cpc_tree.specs.declared.token.Punctuator.TheVariants as P
use Rattle.cpc_tree.specs.Tokens.{Placed}
use Rattle.cpc_tree.specs.Located.{LParameter}
use Rattle.cpc_tree.specs.TypeGrammar.{mark}
use Rattle.cpc_parser_reading.specs.Reading.{Reading, Read, Fault, Deep, Reader, ◌>>=◌, after}
use Rattle.cpc_parser_reading.specs.Chain.{links}
use Rattle.cpc_parser_reading.specs.Lists.{separated, several}
use Rattle.cpc_parser_reading.proofs.Readers.{links_end, links_stop, separated_on}
use Rattle.cpc_parser_types.specs.Begins.{begins}
use Rattle.cpc_parser_types.specs.TypeReaders.{Piece, is_comma, lists, param_at, param_of}
use Rattle.cpc_parser_types.specs.TypeViews.{parameter_at, row_at}
use Rattle.cpc_parser_types.specs.Views.{Refuses}
use Rattle.cpc_parser_types.specs.declared.refusal.Refusal as GRefusal
use Rattle.cpc_parser_types.specs.declared.refusal.Refusal.TheVariants as R
use Rattle.cpc_parser_types.proofs.Giving.{read_is, goes_on}
use Rattle.cpc_parser_types.proofs.Params.{commas, param_exact, ParamEnd, comma_mark, comma_piece}
use Rattle.cpc_parser_types.proofs.Lists.{lists_exact}

-- what is left of a row
abbrev pub rest_at : ℕ → List Piece → ℕ → Reader Placed (List Piece)
rest_at d ps h = links (several (λ t. is_comma t.lexeme) false (after (λ t. is_comma t.lexeme) (param_at (λ us. lists d us) d))) ps h

piece_of : (r : Reading Placed Piece) (p : LParameter) (h : ℕ) (us : List Placed) → (r >>= λ x. Read (param_of x.0, x.1, x.2)) ≡ Read (p, h, us) → (x : Piece) × (param_of x ≡ p) × (r ≡ Read (x, h, us))
piece_of (Read (x, n, ts)) p h us e =
    let i = read_is (param_of x, n, ts) (p, h, us) e in
    let m : n ≡ h = ap (λ z. z.1) i in
    let l : ts ≡ us = ap (λ z. z.2) i in
    (x, ap (λ z. z.0) i, rw (m, l) refl)
piece_of (Fault left) p h us e = absurd cc
piece_of (Deep left) p h us e = absurd cc

-- the first parameter
pub row_first : (d : ℕ) (ts us : List Placed) (p : LParameter) (h : ℕ) → parameter_at d ts ≡ Read (p, h, us)
    → (x : Piece) × (param_of x ≡ p) × (rest_at d (x ∷ []) h us ≡ separated (λ t. is_comma t.lexeme) (param_at (λ us. lists d us) d) ts)
row_first d ts us p h e = let k = piece_of (param_at (λ us. lists d us) d ts) p h us e in (k.0, k.1, ap (λ r. (r >>= λ x. Read (x.0 ∷ [], x.1, x.2)) >>= λ x. rest_at d x.0 x.1 x.2) (sym k.2))

-- one parameter more
row_on : (d : ℕ) (ps : List Piece) (h : ℕ) (q : Place) (rest : List Placed) → h ≤ d
    → rest_at d ps h (mark q P.Comma ∷ rest) ≡ (param_at (λ us. lists d us) d rest >>= λ z. rest_at d (ps ++ z.0 ∷ []) (max h z.1) z.2)
row_on d ps h q rest hi =
    separated_on commas (param_exact d (lists_exact d)) (λ p k e. subst (λ u. ParamEnd p u) (sym (comma_mark k e)) (comma_piece p)) d (omega arith) ps h (mark q P.Comma) rest (omega arith) hi refl

pub row_next : (d : ℕ) (ps : List Piece) (h : ℕ) (q : Place) (rest us : List Placed) (p : LParameter) (n : ℕ) → h ≤ d → parameter_at d rest ≡ Read (p, n, us)
    → (x : Piece) × (param_of x ≡ p) × (rest_at d (ps ++ x ∷ []) (max h n) us ≡ rest_at d ps h (mark q P.Comma ∷ rest))
row_next d ps h q rest us p n hi e =
    let k = piece_of (param_at (λ us. lists d us) d rest) p n us e in
    (k.0, k.1, sym (row_on d ps h q rest hi ∙ ap (λ r. r >>= λ z. rest_at d (ps ++ z.0 ∷ []) (max h z.1) z.2) k.2))

pub row_last : (d : ℕ) (ps : List Piece) (h : ℕ) (ts : List Placed) → begins P.Comma ts ≡ false → rest_at d ps h ts ≡ Read (ps, h, ts)
row_last d ps h [] e = links_end (several (λ t. is_comma t.lexeme) false (after (λ t. is_comma t.lexeme) (param_at (λ us. lists d us) d))) ps h
row_last d ps h (u ∷ rest) e =
    links_stop (several (λ t. is_comma t.lexeme) false (after (λ t. is_comma t.lexeme) (param_at (λ us. lists d us) d))) ps h u rest (rw e refl)

left_of : Reading Placed LParameter → List Placed
left_of (Read x) = []
left_of (Fault left) = left
left_of (Deep left) = left

fault_is : (a b : List Placed) (x y : Reading Placed LParameter) → x ≡ y → x ≡ Fault a → y ≡ Fault b → a ≡ b
unfolding left_of
fault_is a b x y e i j = sym (ap left_of i) ∙ (ap left_of e ∙ ap left_of j)

deep_is : (a b : List Placed) (x y : Reading Placed LParameter) → x ≡ y → x ≡ Deep a → y ≡ Deep b → a ≡ b
unfolding left_of
deep_is a b x y e i j = sym (ap left_of i) ∙ (ap left_of e ∙ ap left_of j)

-- a refusal of a part that is seen as another value
pub err_seen : (e : GRefusal.Refusal) (r : Reading Placed Piece) (k : Piece × ℕ × List Placed → Reading Placed (List Piece)) → Refuses e (r >>= λ x. Read (param_of x.0, x.1, x.2))
    → Refuses e ((r >>= k) >>= λ x. Read (map param_of x.0, x.1, x.2))
err_seen R.Memory r k g = tt
err_seen (R.Syntax n) (Read x) k g = let i = g.2 in absurd cc
err_seen (R.Syntax n) (Fault left) k g = (left, subst (λ l. length l ≡ n) (sym (fault_is left g.0 (Fault left) (Fault g.0) g.2 refl refl)) g.1, refl)
err_seen (R.Syntax n) (Deep left) k g = let i = g.2 in absurd cc
err_seen (R.Deep n) (Read x) k g = let i = g.2 in absurd cc
err_seen (R.Deep n) (Fault left) k g = let i = g.2 in absurd cc
err_seen (R.Deep n) (Deep left) k g = (left, subst (λ l. length l ≡ n) (sym (deep_is left g.0 (Deep left) (Deep g.0) g.2 refl refl)) g.1, refl)

pub row_first_err : (d : ℕ) (ts : List Placed) (e : GRefusal.Refusal) → Refuses e (parameter_at d ts) → Refuses e (row_at d ts)
row_first_err d ts e g =
    subst (λ r. Refuses e (r >>= λ x. Read (map param_of x.0, x.1, x.2))) (sym (goes_on (param_at (λ us. lists d us) d ts) (λ x. Read (x.0 ∷ [], x.1, x.2)) (λ x. rest_at d x.0 x.1 x.2)))
    (err_seen e (param_at (λ us. lists d us) d ts) (λ x. rest_at d (x.0 ∷ []) x.1 x.2) g)

pub row_err : (d : ℕ) (ps : List Piece) (h : ℕ) (q : Place) (rest : List Placed) (e : GRefusal.Refusal) (s : Reading Placed (List Piece)) → h ≤ d → rest_at d ps h (mark q P.Comma ∷ rest) ≡ s → Refuses e (parameter_at d rest)
    → Refuses e (s >>= λ x. Read (map param_of x.0, x.1, x.2))
row_err d ps h q rest e s hi i g =
    subst (λ r. Refuses e (r >>= λ x. Read (map param_of x.0, x.1, x.2))) (sym (row_on d ps h q rest hi) ∙ i) (err_seen e (param_at (λ us. lists d us) d rest) (λ z. rest_at d (ps ++ z.0 ∷ []) (max h z.1) z.2) g)

pub pushed : {A B C : Type 0} (f : A → C) (g : B → C) (xs : List A) (ys zs : List B) (x : A) (y : B) → map f xs ≡ map g ys → f x ≡ g y → zs ≡ ys ++ y ∷ [] → map f (xs ++ x ∷ []) ≡ map g zs
pushed f g xs ys zs x y e i j = map_of_push f xs x ∙ (ap (λ l. l ++ f x ∷ []) e ∙ (ap (λ z. map g ys ++ z ∷ []) i ∙ (sym (map_of_push g ys y) ∙ ap (map g) (sym j))))
