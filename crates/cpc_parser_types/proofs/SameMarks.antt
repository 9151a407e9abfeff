-- The same marks and keywords are equal.
use Rattle.std.proofs.Common.{◌≡◌, ◌↔◌, IsTrue, Bool, true, List, [], ◌∷◌, Some, refl, sym, ap, subst, ◌∙◌}
use Rattle.cpc_base.proofs.Lists.{some_is, none_not_some}
use Rattle.cpc_base.proofs.Truth.{equal_truth, by_false_true}
use Rattle.cpc_tree.specs.declared.token.Keyword.{Keyword}
use Rattle.cpc_tree.specs.declared.token.Keyword.TheVariants as K
use Rattle.cpc_tree.specs.declared.token.Punctuator.{Punctuator}
use Rattle.cpc_tree.specs.declared.token.Punctuator.TheVariants as P
use Rattle.cpc_tree.specs.declared.token.Token.{Token}
use Rattle.cpc_tree.specs.declared.token.TokenKind.{TokenKind}
use Rattle.cpc_tree.specs.declared.token.TokenKind.TheVariants as T
use Rattle.cpc_tree.specs.Erase.{Names}
use Rattle.cpc_tree.specs.Tokens.{lexeme_of}
use Rattle.cpc_parser_types.specs.Begins.{same_mark, same_word, is_mark, is_word, begins, begins_word}
use Rattle.cpc_parser_types.specs.Views.{placed, mark_in, word_in, first_mark, first_word}

pub mark_self : (p : Punctuator) → same_mark p p ≡ true
mark_self P.LeftParen = refl
mark_self p = refl

pub word_self : (p : Keyword) → same_word p p ≡ true
word_self K.Auto = refl
word_self p = refl

pub mark_equal : (p q : Punctuator) → same_mark p q ≡ true → p ≡ q
mark_equal P.LeftParen P.LeftParen e = refl
mark_equal P.RightParen P.RightParen e = refl
mark_equal P.LeftBrace P.LeftBrace e = refl
mark_equal P.RightBrace P.RightBrace e = refl
mark_equal P.LeftBracket P.LeftBracket e = refl
mark_equal P.RightBracket P.RightBracket e = refl
mark_equal P.Semicolon P.Semicolon e = refl
mark_equal P.Comma P.Comma e = refl
mark_equal P.Colon P.Colon e = refl
mark_equal P.Question P.Question e = refl
mark_equal P.Dot P.Dot e = refl
mark_equal P.Arrow P.Arrow e = refl
mark_equal P.Increment P.Increment e = refl
mark_equal P.Decrement P.Decrement e = refl
mark_equal P.Plus P.Plus e = refl
mark_equal P.Minus P.Minus e = refl
mark_equal P.Star P.Star e = refl
mark_equal P.Slash P.Slash e = refl
mark_equal P.Percent P.Percent e = refl
mark_equal P.Ampersand P.Ampersand e = refl
mark_equal P.Bar P.Bar e = refl
mark_equal P.Caret P.Caret e = refl
mark_equal P.Tilde P.Tilde e = refl
mark_equal P.Exclamation P.Exclamation e = refl
mark_equal P.Less P.Less e = refl
mark_equal P.Greater P.Greater e = refl
mark_equal P.LessEqual P.LessEqual e = refl
mark_equal P.GreaterEqual P.GreaterEqual e = refl
mark_equal P.EqualEqual P.EqualEqual e = refl
mark_equal P.NotEqual P.NotEqual e = refl
mark_equal P.AndAnd P.AndAnd e = refl
mark_equal P.OrOr P.OrOr e = refl
mark_equal P.ShiftLeft P.ShiftLeft e = refl
mark_equal P.ShiftRight P.ShiftRight e = refl
mark_equal P.Equal P.Equal e = refl
mark_equal P.PlusEqual P.PlusEqual e = refl
mark_equal P.MinusEqual P.MinusEqual e = refl
mark_equal P.StarEqual P.StarEqual e = refl
mark_equal P.SlashEqual P.SlashEqual e = refl
mark_equal P.PercentEqual P.PercentEqual e = refl
mark_equal P.AmpersandEqual P.AmpersandEqual e = refl
mark_equal P.BarEqual P.BarEqual e = refl
mark_equal P.CaretEqual P.CaretEqual e = refl
mark_equal P.ShiftLeftEqual P.ShiftLeftEqual e = refl
mark_equal P.ShiftRightEqual P.ShiftRightEqual e = refl
mark_equal p q e = by_false_true e

pub word_equal : (p q : Keyword) → same_word p q ≡ true → p ≡ q
word_equal K.Auto K.Auto e = refl
word_equal K.Break K.Break e = refl
word_equal K.Case K.Case e = refl
word_equal K.Char K.Char e = refl
word_equal K.Const K.Const e = refl
word_equal K.Continue K.Continue e = refl
word_equal K.Default K.Default e = refl
word_equal K.Do K.Do e = refl
word_equal K.Double K.Double e = refl
word_equal K.Else K.Else e = refl
word_equal K.Enum K.Enum e = refl
word_equal K.Extern K.Extern e = refl
word_equal K.Float K.Float e = refl
word_equal K.For K.For e = refl
word_equal K.Goto K.Goto e = refl
word_equal K.If K.If e = refl
word_equal K.Int K.Int e = refl
word_equal K.Long K.Long e = refl
word_equal K.Register K.Register e = refl
word_equal K.Return K.Return e = refl
word_equal K.Short K.Short e = refl
word_equal K.Signed K.Signed e = refl
word_equal K.Sizeof K.Sizeof e = refl
word_equal K.Static K.Static e = refl
word_equal K.Struct K.Struct e = refl
word_equal K.Switch K.Switch e = refl
word_equal K.Typedef K.Typedef e = refl
word_equal K.Union K.Union e = refl
word_equal K.Unsigned K.Unsigned e = refl
word_equal K.Void K.Void e = refl
word_equal K.Volatile K.Volatile e = refl
word_equal K.While K.While e = refl
word_equal K.Inline K.Inline e = refl
word_equal K.Restrict K.Restrict e = refl
word_equal K.Cps K.Cps e = refl
word_equal K.Detached K.Detached e = refl
word_equal K.CpcSpawn K.CpcSpawn e = refl
word_equal K.CpcDetached K.CpcDetached e = refl
word_equal K.CpcCondvar K.CpcCondvar e = refl
word_equal p q e = by_false_true e

pub kind_mark : (names : Names) (k : TokenKind) (mark : Punctuator) → is_mark mark (lexeme_of names k) ≡ true → k ≡ T.Punctuator mark
kind_mark names (T.Punctuator p) mark e = ap (λ q. T.Punctuator q) (sym (mark_equal mark p e))
kind_mark names (T.Keyword w) mark e = by_false_true e
kind_mark names (T.Name n) mark e = by_false_true e
kind_mark names (T.Integer kind z) mark e = by_false_true e
kind_mark names (T.Character z) mark e = by_false_true e
kind_mark names (T.Text bytes) mark e = by_false_true e

pub kind_word : (names : Names) (k : TokenKind) (word : Keyword) → is_word word (lexeme_of names k) ≡ true → k ≡ T.Keyword word
kind_word names (T.Keyword w) word e = ap (λ q. T.Keyword q) (sym (word_equal word w e))
kind_word names (T.Punctuator p) word e = by_false_true e
kind_word names (T.Name n) word e = by_false_true e
kind_word names (T.Integer kind z) word e = by_false_true e
kind_word names (T.Character z) word e = by_false_true e
kind_word names (T.Text bytes) word e = by_false_true e

-- a mark is begun with exactly if it is the first
begun : (names : Names) (ts : List Token) (mark : Punctuator) → begins mark (placed names ts) ≡ true → first_mark ts ≡ Some mark
begun names [] mark e = by_false_true e
begun names (t ∷ rest) mark e = rw (kind_mark names t.kind mark e) refl

mark_of_kind : (names : Names) (k : TokenKind) (mark : Punctuator) → mark_in k ≡ Some mark → is_mark mark (lexeme_of names k) ≡ true
mark_of_kind names (T.Punctuator p) mark e = rw (some_is p mark e) (mark_self mark)
mark_of_kind names (T.Keyword w) mark e = absurd (none_not_some mark e)
mark_of_kind names (T.Name n) mark e = absurd (none_not_some mark e)
mark_of_kind names (T.Integer kind z) mark e = absurd (none_not_some mark e)
mark_of_kind names (T.Character z) mark e = absurd (none_not_some mark e)
mark_of_kind names (T.Text bytes) mark e = absurd (none_not_some mark e)

begin_mark : (names : Names) (ts : List Token) (mark : Punctuator) → first_mark ts ≡ Some mark → begins mark (placed names ts) ≡ true
begin_mark names [] mark e = absurd (none_not_some mark e)
begin_mark names (t ∷ rest) mark e = mark_of_kind names t.kind mark e

pub begins_is : (names : Names) (ts : List Token) (mark : Punctuator) (b : Bool) → (IsTrue b ↔ (first_mark ts ≡ Some mark)) → b ≡ begins mark (placed names ts)
begins_is names ts mark b e = equal_truth b (begins mark (placed names ts)) (λ i. begin_mark names ts mark (e.0 i)) (λ i. e.1 (begun names ts mark i))

-- the same of keywords
word_begun : (names : Names) (ts : List Token) (word : Keyword) → begins_word word (placed names ts) ≡ true → first_word ts ≡ Some word
word_begun names [] word e = by_false_true e
word_begun names (t ∷ rest) word e = rw (kind_word names t.kind word e) refl

word_of_kind : (names : Names) (k : TokenKind) (word : Keyword) → word_in k ≡ Some word → is_word word (lexeme_of names k) ≡ true
word_of_kind names (T.Keyword w) word e = rw (some_is w word e) (word_self word)
word_of_kind names (T.Punctuator p) word e = absurd (none_not_some word e)
word_of_kind names (T.Name n) word e = absurd (none_not_some word e)
word_of_kind names (T.Integer kind z) word e = absurd (none_not_some word e)
word_of_kind names (T.Character z) word e = absurd (none_not_some word e)
word_of_kind names (T.Text bytes) word e = absurd (none_not_some word e)

begin_word : (names : Names) (ts : List Token) (word : Keyword) → first_word ts ≡ Some word → begins_word word (placed names ts) ≡ true
begin_word names [] word e = absurd (none_not_some word e)
begin_word names (t ∷ rest) word e = word_of_kind names t.kind word e

pub word_is : (names : Names) (ts : List Token) (word : Keyword) (b : Bool) → (IsTrue b ↔ (first_word ts ≡ Some word)) → b ≡ begins_word word (placed names ts)
word_is names ts word b e = equal_truth b (begins_word word (placed names ts)) (λ i. begin_word names ts word (e.0 i)) (λ i. e.1 (word_begun names ts word i))

-- one spelling of names; any other would do
pub unnamed : Names
unnamed n = []

-- the first token, where it is the mark
pub first_is : (ts : List Token) (t : Token) (rest : List Token) (mark : Punctuator) (b : Bool) → ts ≡ t ∷ rest → ((names : Names) → b ≡ begins mark (placed names ts)) → b ≡ true
    → ts ≡ record { place = t.place; kind = T.Punctuator mark } ∷ rest
first_is ts t rest mark b e f i =
    let k : begins mark (placed unnamed (t ∷ rest)) ≡ true = subst (λ z. begins mark (placed unnamed z) ≡ true) e (sym (f unnamed) ∙ i) in
    let h : t ≡ record { place = t.place; kind = T.Punctuator mark } = ap (λ z. record { place = t.place; kind = z }) (kind_mark unnamed t.kind mark k) in
    e ∙ ap (λ z. z ∷ rest) h

pub first_word_is : (ts : List Token) (t : Token) (rest : List Token) (word : Keyword) (b : Bool) → ts ≡ t ∷ rest → ((names : Names) → b ≡ begins_word word (placed names ts)) → b ≡ true
    → ts ≡ record { place = t.place; kind = T.Keyword word } ∷ rest
first_word_is ts t rest word b e f i =
    let k : begins_word word (placed unnamed (t ∷ rest)) ≡ true = subst (λ z. begins_word word (placed unnamed z) ≡ true) e (sym (f unnamed) ∙ i) in
    let h : t ≡ record { place = t.place; kind = T.Keyword word } = ap (λ z. record { place = t.place; kind = z }) (kind_word unnamed t.kind word k) in
    e ∙ ap (λ z. z ∷ rest) h
