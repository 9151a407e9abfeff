-- Each text has exactly one cut or exactly one fault.
use Rattle.std.proofs.Common.{◌≡◌, ℕ, zero, suc, ◌≤◌, ◌<◌, List, [], ◌∷◌, ◌++◌, length, take, drop, Option, Some, None, refl, sym, ap, subst, ◌∙◌, arith, length-append}
use Rattle.std.proofs.lemmas.List.{take-append-drop, length-take-le, length-drop, take_at, drop_at, append-nil}
use Rattle.cpc_base.specs.Bytes.{Text}
use Rattle.cpc_base.specs.declared.stop.Place.{Place}
use Rattle.cpc_base.specs.declared.stop.Dialect.{Dialect}
use Rattle.cpc_tree.specs.Tokens.{Lexeme, Placed}
use Rattle.cpc_tree.specs.Pieces.{Piece, Space, Token, Fault, piece_of}
use Rattle.cpc_tree.specs.Cut.{text_start, place_behind, IsLongest, Row, nothing, a_space, a_token, IsFaulty, no_piece, no_token, Answer, Tokens, Stopped, Answers, HasOneAnswer}
use Rattle.cpc_tree.proofs.States.{size, size_le, size_fits, size_long, piece_none}

abbrev put : List Placed → Answer → Answer
put list (Tokens more) = Tokens (list ++ more)
put list (Stopped place number) = Stopped place number

-- what a piece at the front makes of the answer for the rest
abbrev picked : Place → Option Piece → Answer → Answer
picked place None more = Stopped place 1
picked place (Some Space) more = more
picked place (Some (Token x)) more = put (record { place = place; lexeme = x } ∷ []) more
picked place (Some (Fault number)) more = Stopped place number

-- the answer from a place on, from left to right; n is at least the text's length
cut_by : Dialect → ℕ → Place → Text → Answer
cut_by dialect n place [] = Tokens []
cut_by dialect zero place (b ∷ t) = Stopped place 1
cut_by dialect (suc n) place (b ∷ t) =
    let w : Text = take (size (b ∷ t)) (b ∷ t) in
    picked place (piece_of dialect w) (cut_by dialect n (place_behind place w) (drop (size (b ∷ t)) (b ∷ t)))

abbrev Told : Dialect → Place → Text → Answer → Type 0
Told dialect place t (Tokens list) = (end : Place) × Row dialect place t list end []
Told dialect place t (Stopped at number) = (list : List Placed) × (rest : Text) × Row dialect place t list at rest × IsFaulty dialect rest number

longest_here : (dialect : Dialect) (t : Text) (x : Piece) → piece_of dialect (take (size t) t) ≡ Some x → IsLongest dialect (take (size t) t) (drop (size t) t) x
longest_here dialect t x e = record {
  piece = e;
  longest = λ a b z f m. let g : a ++ b ≡ t = f ∙ take-append-drop (size t) t in let l = subst (λ u. length a ≤ size u) g (size_long dialect a b z m) in omega (arith, l, length-take-le (size t) t (size_le t));
}

told_space : (dialect : Dialect) (w : Text) (p : Place) (t : Text) (r : Answer) → IsLongest dialect w t Space → Told dialect (place_behind p w) t r → Told dialect p (w ++ t) r
told_space dialect w p t (Tokens list) l (q, r) = (q, a_space w p q t [] list l r)
told_space dialect w p t (Stopped at number) l (list, rest, r, bad) = (list, rest, a_space w p at t rest list l r, bad)

told_token : (dialect : Dialect) (w : Text) (x : Lexeme) (p : Place) (t : Text) (r : Answer) → IsLongest dialect w t (Token x) → Told dialect (place_behind p w) t r → Told dialect p (w ++ t) (put (record { place = p; lexeme = x } ∷ []) r)
told_token dialect w x p t (Tokens list) l (q, r) = (q, a_token w x p q t [] list l r)
told_token dialect w x p t (Stopped at number) l (list, rest, r, bad) = (record { place = p; lexeme = x } ∷ list, rest, a_token w x p at t rest list l r, bad)

told_longest : (dialect : Dialect) (w : Text) (x : Piece) (p : Place) (t : Text) (r : Answer) → IsLongest dialect w t x → Told dialect (place_behind p w) t r → Told dialect p (w ++ t) (picked p (Some x) r)
told_longest dialect w Space p t r l k = told_space dialect w p t r l k
told_longest dialect w (Token x) p t r l k = told_token dialect w x p t r l k
told_longest dialect w (Fault number) p t r l k = ([], w ++ t, nothing p (w ++ t), no_token w t number l)

told_piece : (dialect : Dialect) (p : Place) (t : Text) (x : Piece) (r : Answer) → piece_of dialect (take (size t) t) ≡ Some x → Told dialect (place_behind p (take (size t) t)) (drop (size t) t) r → Told dialect p t (picked p (Some x) r)
told_piece dialect p t x r e k = subst (λ u. Told dialect p u (picked p (Some x) r)) (take-append-drop (size t) t) (told_longest dialect (take (size t) t) x p (drop (size t) t) r (longest_here dialect t x e) k)

size_zero : (dialect : Dialect) (t a c : Text) (x : Piece) → size t ≡ 0 → a ++ c ≡ t → piece_of dialect a ≡ Some x → ⊥
size_zero dialect t [] c x z e f = let d : None ≡ Some x = sym (piece_none dialect) ∙ f in cc
size_zero dialect t (b ∷ a) c x z e f = let l = size_long dialect (b ∷ a) c x f in let s = subst (λ u. length (b ∷ a) ≤ size u) e l in omega (arith, s)

told_here : (dialect : Dialect) (b : ℕ) (p : Place) (t : Text) (n : ℕ) (r : Answer) → size (b ∷ t) ≡ n → (0 < n → Told dialect (place_behind p (take n (b ∷ t))) (drop n (b ∷ t)) r) → Told dialect p (b ∷ t) (picked p (piece_of dialect (take n (b ∷ t))) r)
told_here dialect b p t zero r z k = rw piece_none ([], b ∷ t, nothing p (b ∷ t), no_piece b t (λ a c x f m. size_zero dialect (b ∷ t) a c x z f m))
told_here dialect b p t (suc n) r z k =
    let f = size_fits dialect (b ∷ t) (omega arith) in
    let m : piece_of dialect (take (suc n) (b ∷ t)) ≡ Some f.0 = subst (λ (i : ℕ). piece_of dialect (take i (b ∷ t)) ≡ Some f.0) z f.1 in
    let k' = subst (λ (i : ℕ). Told dialect (place_behind p (take i (b ∷ t))) (drop i (b ∷ t)) r) (sym z) (k (omega arith)) in
    rw m (told_piece dialect p (b ∷ t) f.0 r f.1 k')

told : (dialect : Dialect) (n : ℕ) (p : Place) (t : Text) → length t ≤ n → Told dialect p t (cut_by dialect n p t)
unfolding cut_by
told dialect n p [] le = (p, nothing p [])
told dialect zero p (b ∷ t) le = absurd (omega arith)
told dialect (suc n) p (b ∷ t) le = told_here dialect b p t (size (b ∷ t)) (cut_by dialect n (place_behind p (take (size (b ∷ t)) (b ∷ t))) (drop (size (b ∷ t)) (b ∷ t))) refl (λ lt. told dialect n (place_behind p (take (size (b ∷ t)) (b ∷ t))) (drop (size (b ∷ t)) (b ∷ t)) (omega (arith, length-drop (size (b ∷ t)) (b ∷ t), size_le (b ∷ t))))

-- The other way: whatever row there is, cut_by goes along it.
put_none : (r : Answer) → put [] r ≡ r
put_none (Tokens list) = refl
put_none (Stopped place number) = refl

put_more : (x : Placed) (list : List Placed) (r : Answer) → put (x ∷ []) (put list r) ≡ put (x ∷ list) r
put_more x list (Tokens more) = refl
put_more x list (Stopped place number) = refl

size_is : (dialect : Dialect) (w text : Text) (x : Piece) → IsLongest dialect w text x → size (w ++ text) ≡ length w
size_is dialect w text x l = at (size (w ++ text)) refl where
  at : (n : ℕ) → size (w ++ text) ≡ n → n ≡ length w
  at zero e = let k = size_long dialect w text x l.piece in omega (arith, k)
  at (suc n) e =
      let k = size_long dialect w text x l.piece in
      let f = size_fits dialect (w ++ text) (omega arith) in
      let j = l.longest (take (size (w ++ text)) (w ++ text)) (drop (size (w ++ text)) (w ++ text)) f.0 (take-append-drop (size (w ++ text)) (w ++ text)) f.1 in
      omega (arith, k, j, length-take-le (size (w ++ text)) (w ++ text) (size_le (w ++ text)))

moved : (dialect : Dialect) (n : ℕ) (p : Place) (v w d e : Text) (x : Option Piece) → v ≡ w → d ≡ e → piece_of dialect w ≡ x → picked p (piece_of dialect v) (cut_by dialect n (place_behind p v) d) ≡ picked p x (cut_by dialect n (place_behind p w) e)
moved dialect n p v w d e x f g h = cc

abbrev Steps : Dialect → ℕ → Place → Text → Text → Piece → Type 0
Steps dialect n p w text x = (m : ℕ) × (length text ≤ m) × (cut_by dialect n p (w ++ text) ≡ picked p (Some x) (cut_by dialect m (place_behind p w) text))

step : (dialect : Dialect) (n : ℕ) (p : Place) (w text : Text) (x : Piece) → IsLongest dialect w text x → length (w ++ text) ≤ n → Steps dialect n p w text x
unfolding cut_by
step dialect n p [] text x l le = let d : None ≡ Some x = sym (piece_none dialect) ∙ l.piece in absurd cc
step dialect zero p (b ∷ w) text x l le = absurd (omega arith)
step dialect (suc n) p (b ∷ w) text x l le =
    let z : size (b ∷ (w ++ text)) ≡ length (b ∷ w) = size_is dialect (b ∷ w) text x l in
    let e : take (size (b ∷ (w ++ text))) (b ∷ (w ++ text)) ≡ b ∷ w = ap (λ (i : ℕ). take i (b ∷ (w ++ text))) z ∙ take_at (b ∷ w) text _ refl in
    let f : drop (size (b ∷ (w ++ text))) (b ∷ (w ++ text)) ≡ text = ap (λ (i : ℕ). drop i (b ∷ (w ++ text))) z ∙ drop_at (b ∷ w) text _ refl in
    (n, omega (arith, length-append w text), moved dialect n p _ (b ∷ w) _ text (Some x) e f l.piece)

follows : {dialect : Dialect} {p q : Place} {t rest : Text} {list : List Placed} → Row dialect p t list q rest → (n : ℕ) → length t ≤ n → (r : Answer) → ((m : ℕ) → length rest ≤ m → cut_by dialect m q rest ≡ r) → cut_by dialect n p t ≡ put list r
follows (nothing p text) n le r k = k n le ∙ sym (put_none r)
follows {dialect} (a_space w p q text rest list l row) n le r k =
    let s = step dialect n p w text Space l le in
    s.2 ∙ follows row s.0 s.1 r k
follows {dialect} (a_token w x p q text rest list l row) n le r k =
    let s = step dialect n p w text (Token x) l le in
    s.2 ∙ (ap (λ u. put (record { place = p; lexeme = x } ∷ []) u) (follows row s.0 s.1 r k) ∙ put_more (record { place = p; lexeme = x }) list r)

none_there : (dialect : Dialect) (b : ℕ) (rest : Text) → ((a c : Text) (x : Piece) → a ++ c ≡ b ∷ rest → piece_of dialect a ≡ Some x → ⊥) → size (b ∷ rest) ≡ 0
none_there dialect b rest none = at (size (b ∷ rest)) refl where
  at : (n : ℕ) → size (b ∷ rest) ≡ n → n ≡ 0
  at zero e = refl
  at (suc n) e = let f = size_fits dialect (b ∷ rest) (omega arith) in absurd (none _ _ f.0 (take-append-drop (size (b ∷ rest)) (b ∷ rest)) f.1)

faults : {dialect : Dialect} {rest : Text} {k : ℕ} → IsFaulty dialect rest k → (q : Place) (n : ℕ) → length rest ≤ n → cut_by dialect n q rest ≡ Stopped q k
unfolding cut_by
faults {dialect} (no_piece b rest none) q zero le = absurd (omega arith)
faults {dialect} (no_piece b rest none) q (suc n) le =
    let z = none_there dialect b rest none in
    let e : piece_of dialect (take (size (b ∷ rest)) (b ∷ rest)) ≡ None = ap (λ (i : ℕ). piece_of dialect (take i (b ∷ rest))) z ∙ piece_none dialect in
    rw e refl
faults {dialect} (no_token w rest k l) q n le = (step dialect n q w rest (Fault k) l le).2

ends : (dialect : Dialect) (m : ℕ) (q : Place) → cut_by dialect m q [] ≡ Tokens []
unfolding cut_by
ends dialect m q = refl

only_at : (dialect : Dialect) (n : ℕ) (p : Place) (t : Text) → length t ≤ n → (r : Answer) → Told dialect p t r → r ≡ cut_by dialect n p t
only_at dialect n p t le (Tokens list) (q, row) = sym (follows row n le (Tokens []) (λ m l. ends dialect m q) ∙ ap (λ u. Tokens u) (append-nil list))
only_at dialect n p t le (Stopped at number) (list, rest, row, bad) = sym (follows row n le (Stopped at number) (λ m l. faults bad at m l))

told_answers : (text : Text) (dialect : Dialect) (r : Answer) → Told dialect text_start text r → Answers text dialect r
told_answers text dialect (Tokens list) k = k
told_answers text dialect (Stopped at number) k = k

answers_told : (text : Text) (dialect : Dialect) (r : Answer) → Answers text dialect r → Told dialect text_start text r
answers_told text dialect (Tokens list) k = k
answers_told text dialect (Stopped at number) k = k

pub one_answer : (text : Text) (dialect : Dialect) → HasOneAnswer text dialect
one_answer text dialect = record {
  answer = cut_by dialect (length text) text_start text;
  answers = told_answers text dialect _ (told dialect (length text) text_start text (omega arith));
  only = λ r a. only_at dialect (length text) text_start text (omega arith) r (answers_told text dialect r a);
}
