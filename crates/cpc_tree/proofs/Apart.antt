-- Tokens that are laid out with blanks between them are cut into the same tokens.
use Rattle.std.proofs.Common.{◌≡◌, ℕ, ◌<◌, true, false, suc, List, [], ◌∷◌, ◌++◌, length, Option, Some, None, refl, sym, ap, subst, ◌∙◌, arith, append_assoc, ◌⊎◌, inl, inr}
use Rattle.std.proofs.lemmas.List.{append-nil}
use Rattle.std.specs.Prelude.{is_some, codes}
use Rattle.std.specs.List.{AllPass}
use Rattle.cpc_base.specs.Bytes.{Text}
use Rattle.cpc_base.specs.declared.stop.Dialect.{Dialect}
use Rattle.cpc_tree.specs.declared.token.Punctuator.{Punctuator}
use Rattle.cpc_tree.specs.declared.token.Punctuator.TheVariants as P
use Rattle.cpc_tree.specs.Tokens.{Lexeme, Placed, punctuator_of}
use Rattle.cpc_tree.specs.Pieces.{Piece, Space, Token, State, Gap, Run, Sign, LineComment, BlockComment, BlockCommentStar, Open, Whole, Wrong, is_blank, in_word, is_plain, next_byte, next_quoted, first_state, next_state, state_behind, state_of, in_state, piece_of}
use Rattle.cpc_tree.specs.Cut.{place_behind, IsLongest, nothing, a_space, a_token}
use Rattle.cpc_tree.specs.Spelling.{joins, IsApart, CutsTo}
use Rattle.cpc_tree.proofs.Runs.{blank_is, blank_no_word, next_run}
use Rattle.cpc_tree.proofs.States.{Stops, state_of_more, state_of_one, piece_state, piece_none, longest_stops}

none_is : (o : Option State) → is_some o ≡ false → o ≡ None
none_is None e = refl
none_is (Some s) e = absurd cc

state_none : state_of [] ≡ None
unfolding state_of
state_none = refl

apart_stops : (w : Text) (s : State) (text : Text) → state_of w ≡ Some s → IsApart w text → Stops s text
unfolding joins
apart_stops [] s text e apart = let d : None ≡ Some s = sym state_none ∙ e in absurd cc
apart_stops (c ∷ w) s [] e apart = tt
apart_stops (c ∷ w) s (b ∷ text) e apart = none_is (next_state s b) (ap (λ o. is_some o) (sym (state_of_more (c ∷ w) s b e)) ∙ apart)

-- where the next byte does not go on a piece, no longer front is one
pub longest_apart : (dialect : Dialect) (w text : Text) (x : Piece) → piece_of dialect w ≡ Some x → IsApart w text → IsLongest dialect w text x
longest_apart dialect w text x e apart =
    let s = piece_state dialect w x e in
    subst (λ y. IsLongest dialect w text y) s.2 (longest_stops dialect w text s.0 s.1 (apart_stops w s.0 text s.1 apart))

-- no blank goes on a punctuator or a run
mark_space : (p : Punctuator) → next_state (Sign p) 32 ≡ None
unfolding next_state punctuator_of
mark_space P.LeftParen = refl
mark_space _ = refl

mark_tab : (p : Punctuator) → next_state (Sign p) 9 ≡ None
unfolding next_state punctuator_of
mark_tab P.LeftParen = refl
mark_tab _ = refl

mark_line : (p : Punctuator) → next_state (Sign p) 10 ≡ None
unfolding next_state punctuator_of
mark_line P.LeftParen = refl
mark_line _ = refl

mark_return : (p : Punctuator) → next_state (Sign p) 13 ≡ None
unfolding next_state punctuator_of
mark_return P.LeftParen = refl
mark_return _ = refl

mark_blank : (p : Punctuator) (b : ℕ) → is_blank b ≡ true → next_state (Sign p) b ≡ None
mark_blank p b e = at (blank_is b e) where
  at : (b ≡ 32) ⊎ ((b ≡ 9) ⊎ ((b ≡ 10) ⊎ (b ≡ 13))) → next_state (Sign p) b ≡ None
  at (inl h) = rw h (mark_space p)
  at (inr (inl h)) = rw h (mark_tab p)
  at (inr (inr (inl h))) = rw h (mark_line p)
  at (inr (inr (inr h))) = rw h (mark_return p)

run_blank : (b : ℕ) → is_blank b ≡ true → next_state Run b ≡ None
run_blank b e = next_run b false (blank_no_word b e)

pub whole_blank : (x : Lexeme) (b : ℕ) → next_state (Whole x) b ≡ None
unfolding next_state
whole_blank x b = refl

state_blank : (dialect : Dialect) (w : Text) (s : State) (x : Lexeme) (b : ℕ) → in_state dialect w s ≡ Token x → is_blank b ≡ true → next_state s b ≡ None
state_blank dialect w Gap x b e f = absurd cc
state_blank dialect w Run x b e f = run_blank b f
state_blank dialect w (Sign p) x b e f = mark_blank p b f
state_blank dialect w LineComment x b e f = absurd cc
state_blank dialect w BlockComment x b e f = absurd cc
state_blank dialect w BlockCommentStar x b e f = absurd cc
state_blank dialect w (Open quote held part) x b e f = absurd cc
state_blank dialect w (Whole y) x b e f = whole_blank y b
state_blank dialect w Wrong x b e f = absurd cc

-- a blank goes on no token
pub blank_apart : (dialect : Dialect) (w : Text) (x : Lexeme) (b : ℕ) → piece_of dialect w ≡ Some (Token x) → is_blank b ≡ true → joins w b ≡ false
unfolding joins
blank_apart dialect [] x b e f = refl
blank_apart dialect (c ∷ w) x b e f =
    let s = piece_state dialect (c ∷ w) (Token x) e in
    ap (λ o. is_some o) (state_of_more (c ∷ w) s.0 b s.1 ∙ state_blank dialect (c ∷ w) s.0 x b s.2 f)

pub first_blank : (b : ℕ) → is_blank b ≡ true → first_state b ≡ Some Gap
unfolding first_state
first_blank b e = rw e refl

gap_stops : (text : Text) → Stops Gap text
unfolding next_state
gap_stops [] = tt
gap_stops (b ∷ text) = refl

blank_longest : (dialect : Dialect) (b : ℕ) (text : Text) → is_blank b ≡ true → IsLongest dialect (b ∷ []) text Space
blank_longest dialect b text e = longest_stops dialect (b ∷ []) text Gap (state_of_one b ∙ first_blank b e) (gap_stops text)

pub cuts_end : (dialect : Dialect) → CutsTo dialect [] []
cuts_end dialect = λ p. ([], p, nothing p [], refl)

pub cuts_blank : (dialect : Dialect) (b : ℕ) (text : Text) (list : List Lexeme) → is_blank b ≡ true → CutsTo dialect text list → CutsTo dialect (b ∷ text) list
cuts_blank dialect b text list e c = λ p. let r = c (place_behind p (b ∷ [])) in (r.0, r.1, a_space (b ∷ []) p r.1 text [] r.0 (blank_longest dialect b text e) r.2, r.3)

pub cuts_blanks : (dialect : Dialect) (blanks text : Text) (list : List Lexeme) → AllPass is_blank blanks → CutsTo dialect text list → CutsTo dialect (blanks ++ text) list
cuts_blanks dialect [] text list e c = c
cuts_blanks dialect (b ∷ blanks) text list e c = cuts_blank dialect b (blanks ++ text) list (e 0 b (omega arith)) (cuts_blanks dialect blanks text list (λ k d lt. e (suc k) d (omega arith)) c)

pub cuts_token : (dialect : Dialect) (w text : Text) (x : Lexeme) (list : List Lexeme) → piece_of dialect w ≡ Some (Token x) → IsApart w text → CutsTo dialect text list → CutsTo dialect (w ++ text) (x ∷ list)
cuts_token dialect w text x list e apart c = λ p.
    let r = c (place_behind p w) in
    let first : Placed = record { place = p; lexeme = x } in
    (first ∷ r.0, r.1, a_token w x p r.1 text [] r.0 (longest_apart dialect w text (Token x) e apart) r.2, ap (λ u. x ∷ u) r.3)

-- What is written so far is cut into the tokens done, whatever comes behind that does not go on the last of them.
abbrev pub CutsSoFar : Dialect → List Lexeme → (written last : Text) → Type 0
CutsSoFar dialect done written last = (rest : Text) (list : List Lexeme) → IsApart last rest → CutsTo dialect rest list → CutsTo dialect (written ++ rest) (done ++ list)

pub so_far_none : (dialect : Dialect) → CutsSoFar dialect [] [] []
so_far_none dialect rest list apart c = c

-- the last token, or nothing before the first
abbrev pub IsLast : Dialect → Text → Type 0
IsLast dialect [] = Unit {0}
IsLast dialect (c ∷ w) = (x : Lexeme) × (piece_of dialect (c ∷ w) ≡ Some (Token x))

-- no byte goes on nothing
none_apart : (text : Text) → IsApart [] text
unfolding joins
none_apart [] = tt
none_apart (b ∷ text) = refl

blanks_apart : (dialect : Dialect) (last blanks : Text) → IsLast dialect last → AllPass is_blank blanks → (rest : Text) → 0 < length blanks → IsApart last (blanks ++ rest)
blanks_apart dialect [] blanks known all rest lt = none_apart (blanks ++ rest)
blanks_apart dialect (c ∷ w) [] known all rest lt = absurd (omega arith)
blanks_apart dialect (c ∷ w) (b ∷ blanks) known all rest lt = blank_apart dialect (c ∷ w) known.0 b known.1 (all 0 b (omega arith))

next_apart : (last w rest : Text) → 0 < length w → IsApart last w → IsApart last (w ++ rest)
next_apart last [] rest lt apart = absurd (omega arith)
next_apart last (b ∷ w) rest lt apart = apart

some_bytes : (dialect : Dialect) (w : Text) (x : Piece) → piece_of dialect w ≡ Some x → 0 < length w
some_bytes dialect [] x e = let d : None ≡ Some x = sym (piece_none dialect) ∙ e in absurd cc
some_bytes dialect (b ∷ w) x e = omega arith

between_apart : (dialect : Dialect) (last blanks w rest : Text) (x : Piece) → IsLast dialect last → AllPass is_blank blanks → (blanks ≡ [] → IsApart last w) → piece_of dialect w ≡ Some x → IsApart last (blanks ++ (w ++ rest))
between_apart dialect last [] w rest x known all apart e = next_apart last w rest (some_bytes dialect w x e) (apart refl)
between_apart dialect last (b ∷ blanks) w rest x known all apart e = blanks_apart dialect last (b ∷ blanks) known all (w ++ rest) (omega arith)

-- one more token, behind blanks where it would go on the last
pub so_far_more : (dialect : Dialect) (done : List Lexeme) (written last blanks w : Text) (x : Lexeme) → CutsSoFar dialect done written last → IsLast dialect last → AllPass is_blank blanks → (blanks ≡ [] → IsApart last w) → piece_of dialect w ≡ Some (Token x)
    → CutsSoFar dialect (done ++ x ∷ []) ((written ++ blanks) ++ w) w
so_far_more dialect done written last blanks w x so_far known all apart e rest list next_to cuts =
    let r = so_far (blanks ++ (w ++ rest)) (x ∷ list) (between_apart dialect last blanks w rest (Token x) known all apart e) (cuts_blanks dialect blanks (w ++ rest) (x ∷ list) all (cuts_token dialect w rest x list e next_to cuts)) in
    let f : ((written ++ blanks) ++ w) ++ rest ≡ written ++ (blanks ++ (w ++ rest)) = append_assoc (written ++ blanks) w rest ∙ append_assoc written blanks (w ++ rest) in
    let g : (done ++ x ∷ []) ++ list ≡ done ++ x ∷ list = append_assoc done (x ∷ []) list in
    rw (f, g) r

-- behind the last token only blanks
pub so_far_all : (dialect : Dialect) (done : List Lexeme) (written last blanks : Text) → CutsSoFar dialect done written last → IsLast dialect last → AllPass is_blank blanks → CutsTo dialect (written ++ blanks) done
so_far_all dialect done written last blanks so_far known all =
    let cuts : CutsTo dialect blanks [] = subst (λ u. CutsTo dialect u []) (append-nil blanks) (cuts_blanks dialect blanks [] [] all (cuts_end dialect)) in
    subst (λ u. CutsTo dialect (written ++ blanks) u) (append-nil done) (so_far blanks [] (alone blanks all) cuts) where
      alone : (blanks : Text) → AllPass is_blank blanks → IsApart last blanks
      alone [] e = none_end last where
        none_end : (last : Text) → IsApart last []
        none_end last = tt
      alone (b ∷ blanks) e = subst (λ u. IsApart last u) (append-nil (b ∷ blanks)) (blanks_apart dialect last (b ∷ blanks) known e [] (omega arith))

-- which bytes go on which tokens: a / *p is no comment, - -x no decrement, and int x no name
slash_star : joins (codes "/") 42 ≡ true
unfolding joins state_of state_behind first_state next_state is_blank in_word punctuator_of
slash_star = refl

minus_minus : joins (codes "-") 45 ≡ true
unfolding joins state_of state_behind first_state next_state is_blank in_word punctuator_of
minus_minus = refl

int_x : joins (codes "int") 120 ≡ true
unfolding joins state_of state_behind first_state next_state is_blank in_word punctuator_of
int_x = refl

star_name : joins (codes "*") 112 ≡ false
unfolding joins state_of state_behind first_state next_state is_blank in_word punctuator_of
star_name = refl

string_letter : joins (codes "\"a\"") 98 ≡ false
unfolding joins state_of state_behind first_state next_state next_quoted next_byte is_plain is_blank in_word punctuator_of
string_letter = refl
