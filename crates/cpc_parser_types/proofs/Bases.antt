-- Base types and stars are read exactly.
use Rattle.std.proofs.Common.{◌≡◌, ℕ, ◌+◌, ◌≤◌, false, List, [], ◌++◌, Some, None, max, refl, subst, arith, nat_lt}
use Rattle.cpc_num.specs.declared.kinds.Kind.{Kind}
use Rattle.cpc_num.specs.declared.kinds.Kind.TheVariants as N
use Rattle.cpc_tree.specs.declared.token.Keyword.TheVariants as K
use Rattle.cpc_tree.specs.declared.token.Punctuator.TheVariants as P
use Rattle.cpc_base.specs.declared.stop.Place.{Place}
use Rattle.cpc_tree.specs.Tokens.{Lexeme, Word, Mark, Named, Placed}
use Rattle.cpc_tree.specs.Located.{Ident}
use Rattle.cpc_tree.specs.Syntax.{Ty, TyInt}
use Rattle.cpc_parser_reading.specs.Reading.{nothing, one, after, mapped, headed, either}
use Rattle.cpc_parser_reading.specs.Phrase.{Nothing, One, After, Mapped, Headed, Either}
use Rattle.cpc_parser_reading.specs.Chain.{Chained, Joint}
use Rattle.cpc_parser_reading.specs.Exact.{Any, Stops, Exact, Branch, Sample}
use Rattle.cpc_parser_reading.proofs.Readers.{after_branch, exact_chain, exact_either, exact_mapped, exact_nothing, exact_one, headed_branch}
use Rattle.cpc_parser_reading.proofs.Levels.{Always}
use Rattle.cpc_parser_types.specs.Views.{lexeme}
use Rattle.cpc_parser_types.specs.TypeReaders.{Ending, Done, LongWord, SignedWord, UnsignedWord, first_word, next_word, is_struct, ident_in, ident_of, tagged, worded, starred, base_at, star_class, typed_at}

-- a token of a sample, and its name
abbrev pub spot : Place
spot = record { line = 0; column = 0 }

abbrev pub token : Lexeme → Placed
token k = record { place = spot; lexeme = k }

abbrev pub nobody : Ident
nobody = record { place = spot; text = [] }

-- a struct's tag behind its word
abbrev pub Tagged : List Placed → Ty × Ending → ℕ → Type 0
Tagged = After (λ t. is_struct t.lexeme) (Mapped tagged (One ident_of))

-- one word, as a step of a chain
abbrev pub Steps : {C : Type 0} → (C → Lexeme → Type 0) → C → List Placed → Unit {0} → ℕ → Type 0
Steps P c = Headed lexeme (P c) (λ t. Nothing)

-- a word that goes on
abbrev pub Goes : Kind × Ending → Lexeme → Type 0
Goes c k = (v : Ty × Ending) × (next_word v.1 k ≡ Some c)

-- the words of a base type
abbrev pub Words : List Placed → Ty × Ending → ℕ → Type 0
Words = Chained lexeme (λ v k. next_word v.1 k) Always worded (λ c h j. max h j) (Either Tagged (One (λ t. first_word t.lexeme))) (Steps Goes)

structs : Sample lexeme is_struct
structs = record { token = token (Word K.Struct); holds = refl }

not_struct : (k : Lexeme) (v : Ty × Ending) → first_word k ≡ Some v → is_struct k ≡ false
not_struct (Word K.Struct) v e = absurd cc
not_struct k v e = refl

no_name : (q r : Place) (k : Lexeme) → ident_in q k ≡ None → ident_in r k ≡ None
no_name q r (Named x) e = absurd cc
no_name q r k e = refl

pub name_exact : (n : ℕ) → Exact lexeme n 0 (λ d. one ident_of) (One ident_of) Any
name_exact n = exact_one n ident_of (token (Named [])) nobody refl (λ t u e i. subst (λ k. ident_in u.place k ≡ None) e (no_name t.place u.place t.lexeme i))

tag_exact : (n : ℕ) → Exact lexeme n 0 (λ d. mapped tagged (one ident_of)) (Mapped tagged (One ident_of)) Any
tag_exact n = exact_mapped tagged Any (name_exact n) (λ w k q. tt) (λ w k q. tt)

word_exact : (n : ℕ) → Exact lexeme n 0 (λ d. one (λ t. first_word t.lexeme)) (One (λ t. first_word t.lexeme)) Any
word_exact n = let v : Ty × Ending = (TyInt N.Int, Done) in exact_one n (λ t. first_word t.lexeme) (token (Word K.Int)) v refl (λ t u e i. rw (← e) i)

first_apart : (f : List Placed) (v : Ty × Ending) (h : ℕ) (rest : List Placed) → One (λ (t : Placed). first_word t.lexeme) f v h → Stops lexeme (λ k. is_struct k ≡ false) (f ++ rest)
first_apart f v h rest (t, e, p, z) = rw e (not_struct t.lexeme v p)

-- a first word, or a struct's tag
pub first_exact : (n : ℕ) → Exact lexeme n 0 (λ d. either (λ t. is_struct t.lexeme) 0 d (after (λ t. is_struct t.lexeme) (mapped tagged (one ident_of))) (one (λ t. first_word t.lexeme))) (Either Tagged (One (λ t. first_word t.lexeme))) Any
first_exact n = exact_either (after_branch structs (tag_exact n)) (word_exact n) (omega arith) (λ f v h rest r s. first_apart f v h rest r)

-- a step takes its token alone
pub step_branch : {C : Type 0} (n : ℕ) (P : C → Lexeme → Type 0) (c : C) → Branch lexeme (P c) n 0 (λ d. headed (λ t. nothing)) (Steps P c) (λ w k. Unit {0})
step_branch n P c = headed_branch (λ t e. exact_nothing n)

pub words_joint : (n : ℕ) → Joint lexeme n 0 (λ (v : Ty × Ending) k. next_word v.1 k) (λ d c h. false) worded (λ c h j. max h j) Always Goes (λ v k. Unit {0}) (λ c w k. Unit {0}) (λ c. 0) (λ c. 0) (λ c. 0)
words_joint n = record {
  begins = λ v k c e. (v, e);
  clear = λ v k c e ok. tt;
  suits = λ v k c e q. tt;
  to = λ c v w k q. tt;
  of = λ c v w k q. tt;
  grows = λ c h j. omega arith;
  fits = λ d c h lo hi le e. (omega arith, omega arith);
  free = λ d c h a b. refl;
}

-- What may stand behind a base type: nothing that goes on with it.
abbrev pub WordsEnd : Ty × Ending → Lexeme → Type 0
WordsEnd v k = Unit {0} × (next_word v.1 k ≡ None)

-- the words of a base type are read exactly
pub words_exact : (n : ℕ) → Exact lexeme n 0 (λ d. base_at d) Words WordsEnd
words_exact n = exact_chain (words_joint n) (λ c. step_branch n Goes c) (λ c. omega arith) (λ d c. headed (λ t. nothing)) (λ d c t rest a b i. refl) (first_exact n)

-- a star
abbrev pub Stars : Unit {0} → Lexeme → Type 0
Stars c k = star_class k ≡ Some c

-- a base type and its stars
abbrev pub Typed : List Placed → Ty × Ending → ℕ → Type 0
Typed = Chained lexeme (λ v k. star_class k) Always starred (λ c h j. max (h + 1) j) Words (Steps Stars)

star_ends : (v : Ty × Ending) (k : Lexeme) (c : Unit {0}) → star_class k ≡ Some c → WordsEnd v k
star_ends (t, Done) k c e = (tt, refl)
star_ends (t, LongWord i) (Mark P.Star) c e = (tt, refl)
star_ends (t, SignedWord) (Mark P.Star) c e = (tt, refl)
star_ends (t, UnsignedWord) (Mark P.Star) c e = (tt, refl)
star_ends v k c e = absurd cc

stars_joint : (n : ℕ) → Joint lexeme n 0 (λ (v : Ty × Ending) k. star_class k) (λ d c h. nat_lt d (h + 1)) starred (λ c h j. max (h + 1) j) Always Stars WordsEnd (λ c w k. Unit {0}) (λ c. 1) (λ c. 0) (λ c. 0)
stars_joint n = record {
  begins = λ v k c e. e;
  clear = λ v k c e ok. star_ends v k c e;
  suits = λ v k c e q. tt;
  to = λ c v w k q. (tt, refl);
  of = λ c v w k q. tt;
  grows = λ c h j. omega arith;
  fits = λ d c h lo hi le e. let i : h + 1 ≤ d = grind arith in (i, omega arith);
  free = λ d c h a b. grind arith;
}

-- a base type and its stars are read exactly
pub typed_exact : (n : ℕ) → Exact lexeme n 0 (λ d. typed_at d) Typed (λ v k. WordsEnd v k × (star_class k ≡ None))
typed_exact n = exact_chain (stars_joint n) (λ c. step_branch n Stars c) (λ c. omega arith) (λ d c. headed (λ t. nothing)) (λ d c t rest a b i. refl) (words_exact n)
