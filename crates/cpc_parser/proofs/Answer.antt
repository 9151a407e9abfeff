-- What reading all of the tokens answers, in the words of the grammar: a program, or its one fault.
use Rattle.std.proofs.Common.{◌≡◌, ℕ, ◌≤◌, List, [], ◌∷◌, ◌++◌, refl, sym, ap, subst, ◌∙◌, append_assoc, arith}
use Rattle.std.proofs.lemmas.List.{append-nil}
use Rattle.cpc_base.specs.declared.stop.Place.{Place}
use Rattle.cpc_base.specs.declared.stop.Dialect.{Dialect}
use Rattle.cpc_tree.specs.Tokens.{Placed}
use Rattle.cpc_tree.specs.Located.{LItem, LProgram}
use Rattle.cpc_tree.specs.ItemGrammar.{ReadsItems}
use Rattle.cpc_tree.specs.Grammar.{syntax_fault, deep_fault, nesting_limit, IsProgram, IsOpen, IsBegun, FaultsAt, syntax_at, syntax_at_end, deep_at, first_place, IsParseFault}
use Rattle.cpc_parser_reading.specs.Reading.{Reading, Read, Fault, Deep}
use Rattle.cpc_parser_reading.specs.Exact.{Opens}
use Rattle.cpc_parser_reading.specs.Answers.{whole, SyntaxAt, DeepAt, Answers}
use Rattle.cpc_parser_reading.proofs.Readers.{answers, complete}
use Rattle.cpc_parser_types.specs.Views.{lexeme}
use Rattle.cpc_parser_statements.proofs.Simples.{same_cons}
use Rattle.cpc_parser.specs.ItemReaders.{program_at}
use Rattle.cpc_parser.proofs.Items.{items_exact}

-- what an answer says of the tokens
abbrev pub AnswerIs : Dialect → List Placed → Place → Reading Placed (List LItem) → Type 0
AnswerIs dialect ts end (Read x) = (x.2 ≡ []) × IsProgram dialect ts end (record { items = x.0; end = end })
AnswerIs dialect ts end (Fault left) = (front : List Placed) × (ts ≡ front ++ left) × FaultsAt dialect front left syntax_fault
AnswerIs dialect ts end (Deep left) = (front : List Placed) × (ts ≡ front ++ left) × FaultsAt dialect front left deep_fault

open_of : (d : ℕ) (front : List Placed) → Opens ReadsItems d front → IsOpen d front
open_of d front o = (o.rest, o.value, o.nest, o.fits, o.reads)

-- behind a token more may stand
behind : (front : List Placed) (t : Placed) (rest : List Placed) (v : List LItem) (h : ℕ) → ReadsItems (front ++ t ∷ [] ++ rest) v h → ReadsItems (front ++ t ∷ rest) v h
behind front t rest v h r = subst (λ u. ReadsItems u v h) (append_assoc front (t ∷ []) rest) r

of_syntax : (dialect : Dialect) (ts : List Placed) (left : List Placed) → SyntaxAt lexeme ReadsItems (nesting_limit dialect) ts left → (front : List Placed) × (ts ≡ front ++ left) × FaultsAt dialect front left syntax_fault
of_syntax dialect ts [] s = (s.front, s.whole, syntax_at_end (open_of _ s.front s.opens) (λ v h r. s.closed [] v h tt (subst (λ u. ReadsItems u v h) (sym (append-nil s.front)) r)))
of_syntax dialect ts (t ∷ left) s =
    (s.front, s.whole, syntax_at t left (open_of _ s.front s.opens) (λ b. let o = b.1 in s.closed (t ∷ o.0) o.1 o.2 refl (behind s.front t o.0 o.1 o.2 o.4)))

of_deep : (dialect : Dialect) (ts : List Placed) (left : List Placed) → DeepAt lexeme ReadsItems (nesting_limit dialect) ts left → (front : List Placed) × (ts ≡ front ++ left) × FaultsAt dialect front left deep_fault
of_deep dialect ts [] s = let i = s.is in absurd cc
of_deep dialect ts (t ∷ left) s =
    let i : s.next ≡ t = let k = s.is in cc in
    let begun : IsBegun (s.front ++ t ∷ []) = (s.most, subst (λ u. IsOpen s.most (s.front ++ u ∷ [])) i (open_of s.most (s.front ++ s.next ∷ []) s.deeper)) in
    (s.front, s.whole, deep_at t left (open_of _ s.front s.opens) begun (λ o. let lt = s.shut (t ∷ o.0) o.1 o.2 refl (behind s.front t o.0 o.1 o.2 o.4) in let le = o.3 in absurd (omega (arith, lt, le))))

of_answer : (dialect : Dialect) (ts : List Placed) (end : Place) (r : Reading Placed (List LItem)) → Answers lexeme ReadsItems (nesting_limit dialect) ts r → AnswerIs dialect ts end r
of_answer dialect ts end (Read x) a = (a.0, (refl, x.1, a.1, a.2))
of_answer dialect ts end (Fault left) a = of_syntax dialect ts left a
of_answer dialect ts end (Deep left) a = of_deep dialect ts left a

-- Of two fronts of a list one begins with the other.
data Fronts (f l g k : List Placed) : Type 0 where
  equal : f ≡ g → l ≡ k → Fronts f l g k
  left_longer : (t : Placed) (m : List Placed) → f ≡ g ++ t ∷ m → k ≡ t ∷ (m ++ l) → Fronts f l g k
  right_longer : (t : Placed) (m : List Placed) → g ≡ f ++ t ∷ m → l ≡ t ∷ (m ++ k) → Fronts f l g k

with_head : (t u : Placed) (f l g k : List Placed) → t ≡ u → Fronts f l g k → Fronts (t ∷ f) l (u ∷ g) k
with_head t u f l g k e (equal a b) = equal (rw (e, a) refl) b
with_head t u f l g k e (left_longer x m a b) = left_longer x m (rw (e, a) refl) b
with_head t u f l g k e (right_longer x m a b) = right_longer x m (rw (← e, a) refl) b

fronts : (f l g k : List Placed) → f ++ l ≡ g ++ k → Fronts f l g k
fronts [] l [] k e = equal refl e
fronts [] l (t ∷ g) k e = right_longer t g refl e
fronts (t ∷ f) l [] k e = left_longer t f refl (sym e)
fronts (t ∷ f) l (u ∷ g) k e = let h = same_cons t u (f ++ l) (g ++ k) e in with_head t u f l g k h.0 (fronts f l g k h.1)

-- what is open is so up to each of its tokens
open_front : (d : ℕ) (f g : List Placed) (t : Placed) (m : List Placed) → IsOpen d g → g ≡ f ++ t ∷ m → IsOpen d (f ++ t ∷ [])
open_front d f g t m (rest, v, h, le, r) e =
    (m ++ rest, v, h, le, subst (λ u. ReadsItems u v h) (ap (λ u. u ++ rest) e ∙ (append_assoc f (t ∷ m) rest ∙ sym (append_assoc f (t ∷ []) (m ++ rest)))) r)

open_at : (dialect : Dialect) (f l : List Placed) (n : ℕ) → FaultsAt dialect f l n → IsOpen (nesting_limit dialect) f
open_at dialect f l n (syntax_at t left o c) = o
open_at dialect f l n (syntax_at_end o c) = o
open_at dialect f l n (deep_at t left o b c) = o

-- what is open ends before a fault
no_longer : (dialect : Dialect) (f l g : List Placed) (n : ℕ) (t : Placed) (m : List Placed) → FaultsAt dialect f l n → IsOpen (nesting_limit dialect) g → g ≡ f ++ t ∷ m → (rest : List Placed) → l ≡ t ∷ rest → ⊥
no_longer dialect f l g n t m (syntax_at u left o c) so e rest i =
    let h = same_cons u t left rest i in
    c (nesting_limit dialect, subst (λ w. IsOpen (nesting_limit dialect) (f ++ w ∷ [])) (sym h.0) (open_front (nesting_limit dialect) f g t m so e))
no_longer dialect f l g n t m (syntax_at_end o c) so e rest i = absurd cc
no_longer dialect f l g n t m (deep_at u left o b c) so e rest i =
    let h = same_cons u t left rest i in
    c (subst (λ w. IsOpen (nesting_limit dialect) (f ++ w ∷ [])) (sym h.0) (open_front (nesting_limit dialect) f g t m so e))

same_number : (dialect : Dialect) (f l : List Placed) (n i : ℕ) → FaultsAt dialect f l n → FaultsAt dialect f l i → n ≡ i
same_number dialect f l n i (syntax_at t left o c) (syntax_at u left' o' c') = refl
same_number dialect f l n i (syntax_at t left o c) (deep_at u left' o' b c') = absurd (c b)
same_number dialect f l n i (syntax_at_end o c) (syntax_at_end o' c') = refl
same_number dialect f l n i (deep_at t left o b c) (syntax_at u left' o' c') = absurd (c' b)
same_number dialect f l n i (deep_at t left o b c) (deep_at u left' o' b' c') = refl

one_by : (dialect : Dialect) (end : Place) (f l g k : List Placed) (n i : ℕ) → FaultsAt dialect f l n → FaultsAt dialect g k i → Fronts f l g k → (first_place end l ≡ first_place end k) × (n ≡ i)
one_by dialect end f l g k n i a b (equal e m) =
    (ap (first_place end) m, same_number dialect f l n i a (subst (λ u. FaultsAt dialect f u i) (sym m) (subst (λ u. FaultsAt dialect u k i) (sym e) b)))
one_by dialect end f l g k n i a b (left_longer t m e w) = absurd (no_longer dialect g k f i t m b (open_at dialect f l n a) e (m ++ l) w)
one_by dialect end f l g k n i a b (right_longer t m e w) = absurd (no_longer dialect f l g n t m a (open_at dialect g k i b) e (m ++ k) w)

-- tokens have one fault at most
pub one_fault : (dialect : Dialect) (ts : List Placed) (end p q : Place) (n i : ℕ) → IsParseFault dialect ts end p n → IsParseFault dialect ts end q i → (p ≡ q) × (n ≡ i)
one_fault dialect ts end p q n i (f, l, e, e1, a) (g, k, w, w1, b) =
    let o = one_by dialect end f l g k n i a b (fronts f l g k (sym e ∙ w)) in
    (e1 ∙ (o.0 ∙ sym w1), o.1)

none_by : (dialect : Dialect) (f l : List Placed) (n : ℕ) → FaultsAt dialect f l n → (v : List LItem) (h : ℕ) → h ≤ nesting_limit dialect → ReadsItems (f ++ l) v h → ⊥
none_by dialect f l n (syntax_at t left o c) v h le r = c (h, (left, v, h, omega arith, subst (λ u. ReadsItems u v h) (sym (append_assoc f (t ∷ []) left)) r))
none_by dialect f l n (syntax_at_end o c) v h le r = c v h (subst (λ u. ReadsItems u v h) (append-nil f) r)
none_by dialect f l n (deep_at t left o b c) v h le r = c (left, v, h, le, subst (λ u. ReadsItems u v h) (sym (append_assoc f (t ∷ []) left)) r)

-- a program has no fault
pub no_fault : (dialect : Dialect) (ts : List Placed) (end p : Place) (n : ℕ) (q : LProgram) → IsProgram dialect ts end q → IsParseFault dialect ts end p n → ⊥
no_fault dialect ts end p n q (e, h, le, r) (f, l, w, e1, a) = none_by dialect f l n a q.items h le (subst (λ u. ReadsItems u q.items h) w r)

module _ (dialect : Dialect) (ts : List Placed) (end : Place) where
  -- each answer is right
  pub answer_is : AnswerIs dialect ts end (whole (program_at (nesting_limit dialect) ts))
  answer_is = of_answer dialect ts end _ (answers (λ n. items_exact n) (nesting_limit dialect) (omega arith) ts)

  -- a program is read
  pub program_read : (q : LProgram) → IsProgram dialect ts end q → (h : ℕ) × (whole (program_at (nesting_limit dialect) ts) ≡ Read (q.items, h, []))
  program_read q (e, h, le, r) = (h, complete (λ n. items_exact n) (nesting_limit dialect) ts q.items h r le)
