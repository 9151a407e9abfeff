-- The first tokens of statements.
use Rattle.std.proofs.Common.{◌≡◌, true, false, is_some, Option, Some, None, refl}
use Rattle.cpc_tree.specs.declared.token.Keyword.TheVariants as K
use Rattle.cpc_tree.specs.declared.token.Punctuator.TheVariants as P
use Rattle.cpc_tree.specs.Tokens.{Lexeme, Word, Mark, Named}
use Rattle.cpc_parser_types.specs.TypeReaders.{is_name, starts_base}
use Rattle.cpc_parser_statements.specs.SimpleReaders.{First, simple_class}
use Rattle.cpc_parser_statements.specs.StmtReaders.{Class, Braced, Blank, IfWord, WhileWord, DoWord, ForWord, GotoWord, BreakWord, ContinueWord, ReturnWord, SpawnWord, Sentence, if_simple, stmt_class, starts_stmt, starts_entry}
use Rattle.cpc_parser_types.specs.Begins.{is_word}

-- the token of each class
abbrev pub Is : Class → Lexeme → Type 0
Is Braced k = k ≡ Mark P.LeftBrace
Is Blank k = k ≡ Mark P.Semicolon
Is IfWord k = k ≡ Word K.If
Is WhileWord k = k ≡ Word K.While
Is DoWord k = k ≡ Word K.Do
Is ForWord k = k ≡ Word K.For
Is GotoWord k = k ≡ Word K.Goto
Is BreakWord k = k ≡ Word K.Break
Is ContinueWord k = k ≡ Word K.Continue
Is ReturnWord k = k ≡ Word K.Return
Is SpawnWord k = k ≡ Word K.CpcSpawn
Is Sentence k = is_some (simple_class k) ≡ true

sentence_is : (k : Lexeme) (o : Option First) (c : Class) → simple_class k ≡ o → if_simple o ≡ Some c → Is c k
sentence_is k (Some f) Sentence i e = rw i refl
sentence_is k (Some f) c i e = absurd cc
sentence_is k None c i e = absurd cc

pub class_is : (k : Lexeme) (c : Class) → stmt_class k ≡ Some c → Is c k
class_is (Mark P.LeftBrace) Braced e = refl
class_is (Mark P.LeftBrace) c e = absurd cc
class_is (Mark P.Semicolon) Blank e = refl
class_is (Mark P.Semicolon) c e = absurd cc
class_is (Word K.If) IfWord e = refl
class_is (Word K.If) c e = absurd cc
class_is (Word K.While) WhileWord e = refl
class_is (Word K.While) c e = absurd cc
class_is (Word K.Do) DoWord e = refl
class_is (Word K.Do) c e = absurd cc
class_is (Word K.For) ForWord e = refl
class_is (Word K.For) c e = absurd cc
class_is (Word K.Goto) GotoWord e = refl
class_is (Word K.Goto) c e = absurd cc
class_is (Word K.Break) BreakWord e = refl
class_is (Word K.Break) c e = absurd cc
class_is (Word K.Continue) ContinueWord e = refl
class_is (Word K.Continue) c e = absurd cc
class_is (Word K.Return) ReturnWord e = refl
class_is (Word K.Return) c e = absurd cc
class_is (Word K.CpcSpawn) SpawnWord e = refl
class_is (Word K.CpcSpawn) c e = absurd cc
class_is k c e = sentence_is k (simple_class k) c refl e

sentence_of : (o : Option First) → is_some o ≡ true → if_simple o ≡ Some Sentence
sentence_of (Some f) e = refl
sentence_of None e = absurd cc

-- and back
pub class_sentence : (k : Lexeme) → is_some (simple_class k) ≡ true → stmt_class k ≡ Some Sentence
class_sentence (Mark P.LeftBrace) e = absurd cc
class_sentence (Mark P.Semicolon) e = absurd cc
class_sentence (Word K.If) e = absurd cc
class_sentence (Word K.While) e = absurd cc
class_sentence (Word K.Do) e = absurd cc
class_sentence (Word K.For) e = absurd cc
class_sentence (Word K.Goto) e = absurd cc
class_sentence (Word K.Break) e = absurd cc
class_sentence (Word K.Continue) e = absurd cc
class_sentence (Word K.Return) e = absurd cc
class_sentence (Word K.CpcSpawn) e = absurd cc
class_sentence k e = sentence_of (simple_class k) e

some_class : (k : Lexeme) (o : Option Class) → is_some o ≡ true → (c : Class) × (o ≡ Some c)
some_class k (Some c) e = (c, refl)
some_class k None e = absurd cc

pub class_of : (k : Lexeme) → starts_stmt k ≡ true → (c : Class) × (stmt_class k ≡ Some c)
class_of k e = some_class k (stmt_class k) e

pub starts_of : (k : Lexeme) (c : Class) → stmt_class k ≡ Some c → starts_stmt k ≡ true
starts_of k c e = rw e refl

pub name_class : (k : Lexeme) → is_name k ≡ true → stmt_class k ≡ Some Sentence
name_class (Named x) e = refl
name_class k e = absurd cc

-- no statement begins with a type
pub not_base : (k : Lexeme) → starts_stmt k ≡ true → starts_base k ≡ false
not_base (Word K.Void) e = absurd cc
not_base (Word K.CpcCondvar) e = absurd cc
not_base (Word K.Char) e = absurd cc
not_base (Word K.Int) e = absurd cc
not_base (Word K.Long) e = absurd cc
not_base (Word K.Signed) e = absurd cc
not_base (Word K.Unsigned) e = absurd cc
not_base (Word K.Struct) e = absurd cc
not_base k e = refl

-- nothing of a block begins with else
pub not_else : (k : Lexeme) → starts_entry k ≡ true → is_word K.Else k ≡ false
not_else (Word K.Else) e = absurd cc
not_else k e = refl
