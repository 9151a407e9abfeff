-- How code goes along a base type and its stars.
use Rattle.std.proofs.Common.{◌≡◌, ℕ, ◌+◌, ◌≤◌, Bool, true, false, List, [], ◌∷◌, length, Some, None, max, refl, arith, nat_lt}
use Rattle.cpc_num.specs.declared.kinds.Kind.{Kind}
use Rattle.cpc_tree.specs.declared.token.Keyword.TheVariants as K
use Rattle.cpc_base.specs.declared.stop.Place.{Place}
use Rattle.cpc_base.proofs.Truth.{lt_zero}
use Rattle.cpc_tree.specs.declared.token.Punctuator.TheVariants as P
use Rattle.cpc_tree.specs.declared.token.TokenKind.TheVariants as T
use Rattle.cpc_tree.specs.declared.token.Token.{Token}
use Rattle.cpc_tree.specs.Erase.{Names}
use Rattle.cpc_tree.specs.Tokens.{Lexeme, Mark, Placed, lexeme_of, placed_of}
use Rattle.cpc_tree.specs.Located.{Ident}
use Rattle.cpc_tree.specs.TypeGrammar.{mark}
use Rattle.cpc_tree.specs.Syntax.{Ty, TyInt, TyPointer, TyStruct}
use Rattle.cpc_parser_reading.specs.Reading.{Reading, Read, Fault, Deep, ◌>>=◌, headed, nothing, one, mapped}
use Rattle.cpc_parser_reading.specs.Chain.{links}
use Rattle.cpc_parser_reading.proofs.Readers.{links_end, links_stop, links_deep, links_on}
use Rattle.cpc_parser_types.specs.TypeReaders.{Ending, Done, next_word, tagged, ident_of, word_links, star_class}
use Rattle.cpc_parser_types.specs.Declarators.{pointer_links}
use Rattle.cpc_parser_types.specs.TypeViews.{base_reader, only_type, words_at}
use Rattle.cpc_parser_types.specs.Begins.{is_mark, begins, begins_word}
use Rattle.cpc_parser_types.specs.Views.{placed}
use Rattle.cpc_parser_types.proofs.SameMarks.{first_word_is}
use Rattle.cpc_parser_types.proofs.Bases.{Goes, Stars, words_joint, step_branch}
use Rattle.cpc_parser_types.proofs.Declarators.{pointers_joint}

pub words_end : (v : Ty × Ending) → words_at v [] ≡ Read (v.0, 0, [])
words_end v = rw (links_end word_links v 0) refl

pub words_stop : (v : Ty × Ending) (t : Placed) (rest : List Placed) → next_word v.1 t.lexeme ≡ None → words_at v (t ∷ rest) ≡ Read (v.0, 0, t ∷ rest)
words_stop v t rest e = rw (links_stop word_links v 0 t rest e) refl

pub words_on : (v : Ty × Ending) (c : Kind × Ending) (t : Placed) (rest : List Placed) → next_word v.1 t.lexeme ≡ Some c → words_at v (t ∷ rest) ≡ words_at (TyInt c.0, c.1) rest
words_on v c t rest e =
    rw (links_on (words_joint 0) (λ c. step_branch 0 Goes c) (λ c. omega arith) (λ d c. headed (λ t. nothing)) (λ d c t rest a b i. refl) 0 (omega arith) c v 0 t rest (omega arith) (omega arith) e refl) refl

pub words_none : (names : Names) (v : Ty × Ending) (ts : List Token) → length ts ≡ 0 → words_at v (placed names ts) ≡ Read (v.0, 0, placed names ts)
words_none names v [] e = words_end v
words_none names v (t ∷ rest) e = absurd (omega arith)

-- with the token that was looked at
pub words_next : (names : Names) (v : Ty × Ending) (c : Kind × Ending) (ts : List Token) (t : Token) (rest : List Token) → ts ≡ t ∷ rest → next_word v.1 (lexeme_of names t.kind) ≡ Some c
    → words_at v (placed names ts) ≡ words_at (TyInt c.0, c.1) (placed names rest)
words_next names v c ts t rest e i = rw e (words_on v c (placed_of names t) (placed names rest) i)

pub words_last : (names : Names) (v : Ty × Ending) (ts : List Token) (t : Token) (rest : List Token) → ts ≡ t ∷ rest → next_word v.1 (lexeme_of names t.kind) ≡ None
    → words_at v (placed names ts) ≡ Read (v.0, 0, placed names ts)
words_last names v ts t rest e i = rw e (words_stop v (placed_of names t) (placed names rest) i)

done_stays : (t : Ty) (h : ℕ) (ts : List Placed) → links word_links (t, Done) h ts ≡ Read ((t, Done), h, ts)
done_stays t h [] = links_end word_links (t, Done) h
done_stays t h (u ∷ rest) = links_stop word_links (t, Done) h u rest refl

with_tag : (r : Reading Placed Ident) → (mapped only_type (λ ts. (r >>= λ x. Read (tagged x.0, x.1, x.2)) >>= λ x. links word_links x.0 x.1 x.2) [] ≡ (r >>= λ x. Read (TyStruct x.0.text, x.1, x.2)))
with_tag (Read x) = rw (done_stays (TyStruct x.0.text) x.1 x.2) refl
with_tag (Fault left) = refl
with_tag (Deep left) = refl

-- a struct's type
pub struct_read : (names : Names) (d : ℕ) (ts : List Token) (t : Token) (rest : List Token) (b : Bool) → ts ≡ t ∷ rest → ((names : Names) → b ≡ begins_word K.Struct (placed names ts)) → b ≡ true
    → base_reader d (placed names ts) ≡ (one ident_of (placed names rest) >>= λ x. Read (TyStruct x.0.text, x.1, x.2))
struct_read names d ts t rest b e f i =
    let k = first_word_is ts t rest K.Struct b e f i in
    rw (k, lt_zero d) (with_tag (one ident_of (placed names rest)))

star_of : (k : Lexeme) → is_mark P.Star k ≡ true → star_class k ≡ Some tt
star_of (Mark P.Star) e = refl
star_of (Mark p) e = absurd cc
star_of k e = absurd cc

no_star_of : (k : Lexeme) → is_mark P.Star k ≡ false → star_class k ≡ None
no_star_of (Mark P.Star) e = absurd cc
no_star_of (Mark p) e = refl
no_star_of k e = refl

stars_on : (d h : ℕ) (t : Ty) (u : Placed) (rest : List Placed) → h + 1 ≤ d → star_class u.lexeme ≡ Some tt → links (pointer_links d) t h (u ∷ rest) ≡ links (pointer_links d) (TyPointer t) (h + 1) rest
stars_on d h t u rest le e =
    let m : max (h + 1) 0 ≡ h + 1 = omega arith in
    let f : nat_lt d (h + 1) ≡ false = grind arith in
    rw (links_on (pointers_joint d) (λ c. step_branch d Stars c) (λ c. omega arith) (λ d c. headed (λ t. nothing)) (λ d c t rest a b i. refl) d (omega arith) tt t h u rest (omega arith) (omega (arith, le)) e f, m) refl

-- what code knows of the tokens: a star is the first, with and without room, or none
pub stars_next : (names : Names) (d h : ℕ) (t : Ty) (ts rest : List Token) (q : Place) → h + 1 ≤ d → ts ≡ record { place = q; kind = T.Punctuator P.Star } ∷ rest
    → links (pointer_links d) t h (placed names ts) ≡ links (pointer_links d) (TyPointer t) (h + 1) (placed names rest)
stars_next names d h t ts rest q le e = rw e (stars_on d h t (mark q P.Star) (placed names rest) le refl)

stars_deep_at : (d h : ℕ) (t : Ty) (ts : List Placed) → d ≤ h → begins P.Star ts ≡ true → links (pointer_links d) t h ts ≡ Deep ts
stars_deep_at d h t [] le e = absurd cc
stars_deep_at d h t (u ∷ rest) le e = links_deep (pointer_links d) t h u rest tt (star_of u.lexeme e) (grind arith)

pub stars_deep : (names : Names) (d h : ℕ) (t : Ty) (ts : List Token) → d ≤ h → begins P.Star (placed names ts) ≡ true → links (pointer_links d) t h (placed names ts) ≡ Deep (placed names ts)
stars_deep names d h t ts le e = stars_deep_at d h t (placed names ts) le e

pub stars_last : (d h : ℕ) (t : Ty) (ts : List Placed) → begins P.Star ts ≡ false → links (pointer_links d) t h ts ≡ Read (t, h, ts)
stars_last d h t [] e = links_end (pointer_links d) t h
stars_last d h t (u ∷ rest) e = links_stop (pointer_links d) t h u rest (no_star_of u.lexeme e)
