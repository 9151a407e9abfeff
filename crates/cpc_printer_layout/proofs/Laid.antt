-- The text of the tokens so far is cut into them.
use Rattle.std.proofs.Common.{◌≡◌, ℕ, suc, ◌+◌, ◌<◌, ◌≤◌, Bool, false, List, [], ◌∷◌, ◌++◌, length, get_or, take, Option, Some, None, refl, sym, ap, subst, ◌∙◌, arith, add-one}
use Rattle.std.specs.Prelude.{map, All}
use Rattle.std.specs.List.{AllPass}
use Rattle.std.proofs.Math.Seq.{take-suc, take-append_seam}
use Rattle.std.proofs.lemmas.List.{get_or-map, take_all, length-map}
use Rattle.std.proofs.lemmas.List.Elements.{All-take}
use Rattle.cpc_base.specs.Bytes.{Text}
use Rattle.cpc_base.specs.declared.stop.Dialect.{Dialect}
use Rattle.cpc_tree.specs.Erase.{Names}
use Rattle.cpc_tree.specs.Tokens as T
use Rattle.cpc_tree.specs.Pieces.{Token, is_blank, piece_of}
use Rattle.cpc_tree.specs.Spelling.{spelling, joins, IsApart, IsSpellable, CutsTo}
use Rattle.cpc_tree.proofs.Apart.{CutsSoFar, IsLast, so_far_none, so_far_more, so_far_all}
use Rattle.cpc_tree.proofs.Spelled.{spelling_piece}
use Rattle.cpc_printer_layout.specs.declared.sheet.Lexeme.{Lexeme}
use Rattle.cpc_printer_layout.specs.declared.sheet.Piece.{Piece}
use Rattle.cpc_printer_layout.specs.Sheets.{lexeme_of}
use Rattle.cpc_printer_layout.specs.Layout.{IsPrevious, previous_spelling, IsSetBehind, IsLaid, NothingLaid, LaidNext, IsLaidOut}

-- no byte goes on nothing
apart_nothing : (w : Text) → IsApart [] w
unfolding joins
apart_nothing [] = tt
apart_nothing (b ∷ w) = refl

pub apart_none : (o : Option Lexeme) (names : Names) (w : Text) → o ≡ None → IsApart (previous_spelling names o) w
apart_none None names w e = apart_nothing w
apart_none (Some x) names w e = absurd cc

apart_first : (s w : Text) (b : ℕ) → ((d : ℕ) → b ≡ get_or w 0 d) → joins s b ≡ false → IsApart s w
apart_first s [] b e f = tt
apart_first s (c ∷ w) b e f = subst (λ (d : ℕ). joins s d ≡ false) (e 0) f

pub apart_some : (o : Option Lexeme) (x : Lexeme) (names : Names) (dialect : Dialect) (w : Text) (b : ℕ) (p : Bool) → o ≡ Some x
    → ((names : Names) (dialect : Dialect) → IsSpellable dialect (lexeme_of names x) → joins (spelling (lexeme_of names x)) b ≡ p)
    → p ≡ false → ((d : ℕ) → b ≡ get_or w 0 d) → IsPrevious dialect names o → IsApart (previous_spelling names o) w
apart_some None x names dialect w b p e goes none first known = absurd cc
apart_some (Some y) x names dialect w b p e goes none first known =
    let h : y ≡ x = cc in
    let s = subst (λ z. IsSpellable dialect (lexeme_of names z)) h known in
    subst (λ z. IsApart (spelling (lexeme_of names z)) w) (sym h) (apart_first (spelling (lexeme_of names x)) w b first (goes names dialect s ∙ none))

abbrev pub row : Names → List Piece → List T.Lexeme
row names pieces = map (λ (piece : Piece). lexeme_of names piece.lexeme) pieces

-- the text of the first n tokens, the last of which is given
pub record LaidSoFar (names : Names) (pieces : List Piece) (n : ℕ) (written : Text) (last : Option Lexeme) : Type 0 where
  pub spelled : IsLaid (take n (row names pieces)) written
  pub laid : (dialect : Dialect) → All (IsSpellable dialect) (take n (row names pieces)) → CutsSoFar dialect (take n (row names pieces)) written (previous_spelling names last) × IsPrevious dialect names last

pub laid_none : (names : Names) (pieces : List Piece) → LaidSoFar names pieces 0 [] None
laid_none names pieces = record { spelled = NothingLaid; laid = λ dialect all. (so_far_none dialect, tt) }

last_of : (dialect : Dialect) (w : Text) (x : T.Lexeme) → piece_of dialect w ≡ Some (Token x) → IsLast dialect w
last_of dialect [] x e = tt
last_of dialect (c ∷ w) x e = (x, e)

is_last : (dialect : Dialect) (names : Names) (last : Option Lexeme) → IsPrevious dialect names last → IsLast dialect (previous_spelling names last)
is_last dialect names None known = tt
is_last dialect names (Some x) known = last_of dialect (spelling (lexeme_of names x)) (lexeme_of names x) (spelling_piece dialect (lexeme_of names x) known)

all_front : {X : Type 0} (P : X → Type 0) (xs ys : List X) → All P (xs ++ ys) → All P xs
all_front P xs ys all = subst (λ u. All P u) (take-append_seam xs ys) (All-take P (length xs) (xs ++ ys) all)

all_last : {X : Type 0} (P : X → Type 0) (xs : List X) (y : X) → All P (xs ++ y ∷ []) → P y
all_last P [] y all = all 0 y (omega arith)
all_last P (x ∷ xs) y all = all_last P xs y (λ k d lt. all (suc k) d (omega arith))

more : (dialect : Dialect) (names : Names) (done : List T.Lexeme) (x : Lexeme) (was now : Text) (last : Option Lexeme) → IsSetBehind names last x was now
    → CutsSoFar dialect done was (previous_spelling names last) → IsPrevious dialect names last → IsSpellable dialect (lexeme_of names x) → CutsSoFar dialect (done ++ lexeme_of names x ∷ []) now (spelling (lexeme_of names x))
more dialect names done x was now last set so_far known spellable =
    let y = lexeme_of names x in
    subst (λ u. CutsSoFar dialect (done ++ y ∷ []) u (spelling y)) (sym set.put)
    (so_far_more dialect done was (previous_spelling names last) set.blanks (spelling y) y so_far (is_last dialect names last known) set.all (λ e. set.apart e dialect known) (spelling_piece dialect y spellable))

-- one token more
row_more : (names : Names) (pieces : List Piece) (n : ℕ) (p : Piece) → n < length pieces → p ≡ get_or pieces n p → take (n + 1) (row names pieces) ≡ take n (row names pieces) ++ lexeme_of names p.lexeme ∷ []
row_more names pieces n p lt e =
    let y = lexeme_of names p.lexeme in
    let within : n < length (row names pieces) = rw length-map lt in
    let here : get_or (row names pieces) n y ≡ y = get_or-map (λ (piece : Piece). lexeme_of names piece.lexeme) pieces n p y lt ∙ ap (λ (q : Piece). lexeme_of names q.lexeme) (sym e) in
    ap (λ (k : ℕ). take k (row names pieces)) (add-one n) ∙ (take-suc (row names pieces) n y within ∙ ap (λ u. take n (row names pieces) ++ u ∷ []) here)

pub laid_more : (names : Names) (pieces : List Piece) (n : ℕ) (was now : Text) (last : Option Lexeme) (p : Piece) → n < length pieces → p ≡ get_or pieces n p
    → LaidSoFar names pieces n was last → IsSetBehind names last p.lexeme was now → LaidSoFar names pieces (n + 1) now (Some p.lexeme)
laid_more names pieces n was now last p lt e laid set =
    let y = lexeme_of names p.lexeme in
    let done = take n (row names pieces) in
    let next : take (n + 1) (row names pieces) ≡ done ++ y ∷ [] = row_more names pieces n p lt e in
    record {
      spelled = subst (λ u. IsLaid u now) (sym next) (subst (λ u. IsLaid (done ++ y ∷ []) u) (sym set.put) (LaidNext done y was set.blanks laid.spelled set.all));
      laid = λ dialect all.
          let parts = subst (λ u. All (IsSpellable dialect) u) next all in
          let before = laid.laid dialect (all_front (IsSpellable dialect) done (y ∷ []) parts) in
          let spellable = all_last (IsSpellable dialect) done y parts in
          (subst (λ u. CutsSoFar dialect u now (spelling y)) (sym next) (more dialect names done p.lexeme was now last set before.0 before.1 spellable), spellable);
    }

-- at the end there are only blanks
pub laid_all : (names : Names) (pieces : List Piece) (n : ℕ) (written blanks text : Text) (last : Option Lexeme) → LaidSoFar names pieces n written last → length pieces ≤ n → AllPass is_blank blanks → text ≡ written ++ blanks
    → (dialect : Dialect) → All (IsSpellable dialect) (row names pieces) → CutsTo dialect text (row names pieces)
laid_all names pieces n written blanks text last laid end blank e dialect all =
    let le : length (row names pieces) ≤ n = rw length-map end in
    let whole : take n (row names pieces) ≡ row names pieces = take_all n (row names pieces) le in
    let known = laid.laid dialect (subst (λ u. All (IsSpellable dialect) u) (sym whole) all) in
    let cuts = so_far_all dialect (take n (row names pieces)) written (previous_spelling names last) blanks known.0 (is_last dialect names last known.1) blank in
    subst (λ u. CutsTo dialect u (row names pieces)) (sym e) (subst (λ u. CutsTo dialect (written ++ blanks) u) whole cuts)

pub laid_out : (names : Names) (pieces : List Piece) (n : ℕ) (written blanks text : Text) (last : Option Lexeme) → LaidSoFar names pieces n written last → length pieces ≤ n → AllPass is_blank blanks → text ≡ written ++ blanks
    → IsLaidOut (row names pieces) text
laid_out names pieces n written blanks text last laid end blank e =
    let le : length (row names pieces) ≤ n = rw length-map end in
    record { tokens = written; blanks = blanks; laid = subst (λ u. IsLaid u written) (take_all n (row names pieces) le) laid.spelled; all = blank; whole = e }
