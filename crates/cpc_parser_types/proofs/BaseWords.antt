-- What the readers of base types and stars read is what the grammar has.
use Rattle.std.proofs.Common.{◌≡◌, ℕ, ◌+◌, true, List, [], ◌∷◌, ◌++◌, Some, max, refl, sym, ap, subst, ◌∙◌, append_assoc, arith, inl, inr}
use Rattle.std.proofs.lemmas.List.{append-nil}
use Rattle.cpc_num.specs.declared.kinds.Kind.{Kind}
use Rattle.cpc_num.specs.declared.kinds.Kind.TheVariants as N
use Rattle.cpc_tree.specs.declared.token.Keyword.TheVariants as K
use Rattle.cpc_tree.specs.declared.token.Punctuator.TheVariants as P
use Rattle.cpc_base.specs.declared.stop.Place.{Place}
use Rattle.cpc_base.proofs.Lists.{some_is, none_not_some}
use Rattle.cpc_base.proofs.Truth.{by_false_true}
use Rattle.cpc_tree.specs.Tokens.{Lexeme, Word, Mark, Named, Placed}
use Rattle.cpc_tree.specs.Located.{Ident}
use Rattle.cpc_tree.specs.Syntax.{Ty, TyInt, TyStruct}
use Rattle.cpc_tree.specs.TypeGrammar.{word, mark, named, ReadsKind, char, signed_char, unsigned_char, int, signed, signed_int, unsigned, unsigned_int, long, long_int, signed_long, signed_long_int, unsigned_long, unsigned_long_int, ReadsBase, void_base, kind_base, condvar_base, struct_base, ReadsStars, no_star, a_star}
use Rattle.cpc_parser_reading.specs.Chain.{first, further}
use Rattle.cpc_parser_types.specs.TypeReaders.{Ending, Done, LongWord, SignedWord, UnsignedWord, first_word, next_word, is_struct, ident_in, ident_of, star_class}
use Rattle.cpc_parser_types.proofs.Bases.{Words, Typed}

-- a token where it stands
abbrev pub at : Place → Lexeme → Placed
at q k = record { place = q; lexeme = k }

-- what has been read of a base type, in the words of the grammar
abbrev Based : List Placed → Ty × Ending → Type 0
Based f (t, Done) = ReadsBase f t 0
Based f (t, LongWord kind) = (t ≡ TyInt kind) × ReadsKind f kind × ((q : Place) → ReadsKind (f ++ word q K.Int ∷ []) kind)
Based f (t, SignedWord) = (q : Place) × (f ≡ word q K.Signed ∷ []) × (t ≡ TyInt N.Int)
Based f (t, UnsignedWord) = (q : Place) × (f ≡ word q K.Unsigned ∷ []) × (t ≡ TyInt N.UInt)

base_of : (f : List Placed) (v : Ty × Ending) → Based f v → ReadsBase f v.0 0
base_of f (t, Done) b = b
base_of f (t, LongWord kind) b = rw (b.0) (kind_base f kind b.1)
base_of f (t, SignedWord) b = rw (b.1, b.2) (kind_base _ N.Int (signed b.0))
base_of f (t, UnsignedWord) b = rw (b.1, b.2) (kind_base _ N.UInt (unsigned b.0))

of_first : (q : Place) (t : Lexeme) (v : Ty × Ending) → first_word t ≡ Some v → Based (at q t ∷ []) v
of_first q (Word K.Void) v e = subst (λ w. Based (word q K.Void ∷ []) w) (some_is _ v e) (void_base q)
of_first q (Word K.CpcCondvar) v e = subst (λ w. Based (word q K.CpcCondvar ∷ []) w) (some_is _ v e) (condvar_base q)
of_first q (Word K.Char) v e = subst (λ w. Based (word q K.Char ∷ []) w) (some_is _ v e) (kind_base _ N.Char (char q))
of_first q (Word K.Int) v e = subst (λ w. Based (word q K.Int ∷ []) w) (some_is _ v e) (kind_base _ N.Int (int q))
of_first q (Word K.Long) v e = subst (λ w. Based (word q K.Long ∷ []) w) (some_is _ v e) (refl, long q, long_int q)
of_first q (Word K.Signed) v e = subst (λ w. Based (word q K.Signed ∷ []) w) (some_is _ v e) (q, refl, refl)
of_first q (Word K.Unsigned) v e = subst (λ w. Based (word q K.Unsigned ∷ []) w) (some_is _ v e) (q, refl, refl)
of_first q t v e = absurd (none_not_some v e)

with_word : (f : List Placed) (v : Ty × Ending) (q : Place) (t : Lexeme) (c : Kind × Ending) → Based f v → next_word v.1 t ≡ Some c → Based (f ++ at q t ∷ []) (TyInt c.0, c.1)
with_word f (u, LongWord kind) q (Word K.Int) c b e = subst (λ w. Based (f ++ word q K.Int ∷ []) (TyInt w.0, w.1)) (some_is _ c e) (kind_base _ kind (b.2 q))
with_word f (u, SignedWord) q (Word K.Char) c b e = subst (λ w. Based (f ++ word q K.Char ∷ []) (TyInt w.0, w.1)) (some_is _ c e) (rw (b.1) (kind_base _ N.Char (signed_char b.0 q)))
with_word f (u, SignedWord) q (Word K.Int) c b e = subst (λ w. Based (f ++ word q K.Int ∷ []) (TyInt w.0, w.1)) (some_is _ c e) (rw (b.1) (kind_base _ N.Int (signed_int b.0 q)))
with_word f (u, SignedWord) q (Word K.Long) c b e = subst (λ w. Based (f ++ word q K.Long ∷ []) (TyInt w.0, w.1)) (some_is _ c e) (rw (b.1) (refl, signed_long b.0 q, signed_long_int b.0 q))
with_word f (u, UnsignedWord) q (Word K.Char) c b e = subst (λ w. Based (f ++ word q K.Char ∷ []) (TyInt w.0, w.1)) (some_is _ c e) (rw (b.1) (kind_base _ N.UChar (unsigned_char b.0 q)))
with_word f (u, UnsignedWord) q (Word K.Int) c b e = subst (λ w. Based (f ++ word q K.Int ∷ []) (TyInt w.0, w.1)) (some_is _ c e) (rw (b.1) (kind_base _ N.UInt (unsigned_int b.0 q)))
with_word f (u, UnsignedWord) q (Word K.Long) c b e = subst (λ w. Based (f ++ word q K.Long ∷ []) (TyInt w.0, w.1)) (some_is _ c e) (rw (b.1) (refl, unsigned_long b.0 q, unsigned_long_int b.0 q))
with_word f v q t c b e = absurd (none_not_some c e)

struct_is : (q : Place) (t : Lexeme) → is_struct t ≡ true → at q t ≡ word q K.Struct
struct_is q (Word K.Struct) e = refl
struct_is q t e = by_false_true e

-- a token with the text of a name is the name
pub named_in : (q : Place) (k : Lexeme) (x : Ident) → ident_in q k ≡ Some x → at q k ≡ named x
named_in q (Named y) x e = ap (λ z. named z) (some_is _ x e)
named_in q k x e = absurd (none_not_some x e)

pub named_is : (t : Placed) (x : Ident) → ident_of t ≡ Some x → t ≡ named x
named_is t x e = named_in t.place t.lexeme x e

of_words : (f : List Placed) (v : Ty × Ending) (h : ℕ) → Words f v h → Based f v × (h ≡ 0)
of_words f v h (first g u i (inl (t, g', e, p, (x, e1, (y, e2, q, z))))) = (rw (e, e2, e1, struct_is t.place t.lexeme p, named_is y x q) (struct_base t.place x), z)
of_words f v h (first g u i (inr (t, e, p, z))) = (rw e (of_first t.place t.lexeme u p), z)
of_words f v h (further g k t c u w i j r e ok (t', g', e', p, (e1, z))) =
    let b = of_words g u i r in
    let tl : k ≡ [] = cc in
    let m : max i j ≡ 0 = omega (arith, b.1, z) in
    (rw tl (with_word g u t.place t.lexeme c b.0 e), m)

-- what is read is a base type of the grammar, and nests nothing
pub of_base : (f : List Placed) (v : Ty × Ending) (h : ℕ) → Words f v h → ReadsBase f v.0 0 × (h ≡ 0)
of_base f v h r = let b = of_words f v h r in (base_of f v b.0, b.1)

start : (t : Placed) (v : Ty × Ending) → first_word t.lexeme ≡ Some v → Words (t ∷ []) v 0
start t v e = first (t ∷ []) v 0 (inr (t, refl, e, refl))

go : (f : List Placed) (v : Ty × Ending) (t : Placed) (c : Kind × Ending) → Words f v 0 → next_word v.1 t.lexeme ≡ Some c → Words (f ++ t ∷ []) (TyInt c.0, c.1) 0
go f v t c r e = further f [] t c v tt 0 0 r e tt (t, [], refl, (v, e), (refl, refl))

to_kind : (f : List Placed) (kind : Kind) → ReadsKind f kind → (e : Ending) × Words f (TyInt kind, e) 0
to_kind f kind (char q) = (Done, start (word q K.Char) _ refl)
to_kind f kind (signed_char q r) = (Done, go (word q K.Signed ∷ []) (TyInt N.Int, SignedWord) (word r K.Char) (N.Char, Done) (start (word q K.Signed) _ refl) refl)
to_kind f kind (unsigned_char q r) = (Done, go (word q K.Unsigned ∷ []) (TyInt N.UInt, UnsignedWord) (word r K.Char) (N.UChar, Done) (start (word q K.Unsigned) _ refl) refl)
to_kind f kind (int q) = (Done, start (word q K.Int) _ refl)
to_kind f kind (signed q) = (SignedWord, start (word q K.Signed) _ refl)
to_kind f kind (signed_int q r) = (Done, go (word q K.Signed ∷ []) (TyInt N.Int, SignedWord) (word r K.Int) (N.Int, Done) (start (word q K.Signed) _ refl) refl)
to_kind f kind (unsigned q) = (UnsignedWord, start (word q K.Unsigned) _ refl)
to_kind f kind (unsigned_int q r) = (Done, go (word q K.Unsigned ∷ []) (TyInt N.UInt, UnsignedWord) (word r K.Int) (N.UInt, Done) (start (word q K.Unsigned) _ refl) refl)
to_kind f kind (long q) = (LongWord N.Long, start (word q K.Long) _ refl)
to_kind f kind (long_int q r) = (Done, go (word q K.Long ∷ []) (TyInt N.Long, LongWord N.Long) (word r K.Int) (N.Long, Done) (start (word q K.Long) _ refl) refl)
to_kind f kind (signed_long q r) = (LongWord N.Long, go (word q K.Signed ∷ []) (TyInt N.Int, SignedWord) (word r K.Long) (N.Long, LongWord N.Long) (start (word q K.Signed) _ refl) refl)
to_kind f kind (signed_long_int q r s) =
    (Done, go (word q K.Signed ∷ word r K.Long ∷ []) (TyInt N.Long, LongWord N.Long) (word s K.Int) (N.Long, Done) (go (word q K.Signed ∷ []) (TyInt N.Int, SignedWord) (word r K.Long) (N.Long, LongWord N.Long) (start (word q K.Signed) _ refl) refl) refl)
to_kind f kind (unsigned_long q r) = (LongWord N.ULong, go (word q K.Unsigned ∷ []) (TyInt N.UInt, UnsignedWord) (word r K.Long) (N.ULong, LongWord N.ULong) (start (word q K.Unsigned) _ refl) refl)
to_kind f kind (unsigned_long_int q r s) =
    (Done, go (word q K.Unsigned ∷ word r K.Long ∷ []) (TyInt N.ULong, LongWord N.ULong) (word s K.Int) (N.ULong, Done) (go (word q K.Unsigned ∷ []) (TyInt N.UInt, UnsignedWord) (word r K.Long) (N.ULong, LongWord N.ULong) (start (word q K.Unsigned) _ refl) refl) refl)

-- a base type of the grammar is read
pub to_base : (f : List Placed) (t : Ty) (h : ℕ) → ReadsBase f t h → (e : Ending) × Words f (t, e) 0
to_base f t h (void_base q) = (Done, start (word q K.Void) _ refl)
to_base f t h (kind_base g kind r) = to_kind g kind r
to_base f t h (condvar_base q) = (Done, start (word q K.CpcCondvar) _ refl)
to_base f t h (struct_base q x) = (Done, first (word q K.Struct ∷ named x ∷ []) (TyStruct x.text, Done) 0 (inl (word q K.Struct, named x ∷ [], refl, refl, (x, refl, (named x, refl, refl, refl)))))

pub star_is : (q : Place) (t : Lexeme) (c : Unit {0}) → star_class t ≡ Some c → at q t ≡ mark q P.Star
star_is q (Mark P.Star) c e = refl
star_is q t c e = absurd (none_not_some c e)

-- What is read is a base type and stars of the grammar.
pub of_typed : (f : List Placed) (v : Ty × Ending) (h : ℕ) → Typed f v h → (a : List Placed) × (g : List Placed) × (base : Ty) × (f ≡ a ++ g) × ReadsBase a base 0 × ReadsStars base g v.0 h
of_typed f v h (first g u i r) = let b = of_base g u i r in (g, [], u.0, sym (append-nil g), b.0, rw (b.1) no_star)
of_typed f v h (further g k t c u w i j r e ok (t', g', e', p, (e1, z))) =
    let b = of_typed g u i r in
    let tl : k ≡ [] = cc in
    let m : max (i + 1) j ≡ i + 1 = omega (arith, z) in
    let star : Placed = mark t.place P.Star in
    let tk : t ∷ k ≡ star ∷ [] = rw (tl, star_is t.place t.lexeme c e) refl in
    let whole : g ++ t ∷ k ≡ b.0 ++ (b.1 ++ star ∷ []) = ap (λ y. g ++ y) tk ∙ (ap (λ y. y ++ star ∷ []) b.3 ∙ append_assoc b.0 b.1 (star ∷ [])) in
    (b.0, b.1 ++ star ∷ [], b.2, whole, b.4, rw m (a_star b.1 t.place u.0 i b.5))

-- a base type and stars of the grammar are read
pub to_typed : (a : List Placed) (base : Ty) (i : ℕ) → ReadsBase a base i → (g : List Placed) (t : Ty) (h : ℕ) → ReadsStars base g t h → (e : Ending) × Typed (a ++ g) (t, e) h
to_typed a base i b g t h no_star = let w = to_base a base i b in (w.0, rw append-nil (first a (base, w.0) 0 w.1))
to_typed a base i b g t h (a_star f q u j r) =
    let w = to_typed a base i b f u j r in
    let m : max (j + 1) 0 ≡ j + 1 = omega arith in
    (Done, rw (← m, ← append_assoc a f (mark q P.Star ∷ [])) (further (a ++ f) [] (mark q P.Star) tt (u, w.0) tt j 0 w.1 refl tt (mark q P.Star, [], refl, refl, (refl, refl))))
