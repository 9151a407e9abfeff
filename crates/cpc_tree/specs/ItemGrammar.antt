-- How a program is written (C11 6.9): which rows of tokens are which items, and how deep they nest.
-- The body block of a function counts one; its parameter list counts nothing.
use Rattle.std.specs.Prelude.{◌≡◌, ℕ, ◌+◌, Bool, true, ◌&&◌, List, [], ◌∷◌, ◌++◌, Option, Some, None, is_some, max, ℤ}
use Rattle.cpc_base.specs.Bytes.{Text}
use Rattle.cpc_base.specs.declared.stop.Place.{Place}
use Rattle.cpc_num.specs.declared.kinds.Kind.{Kind}
use Rattle.cpc_tree.specs.declared.program.Mode.{Mode}
use Rattle.cpc_tree.specs.declared.program.Mode.TheVariants as M
use Rattle.cpc_tree.specs.declared.program.UnaryOp.TheVariants as U
use Rattle.cpc_tree.specs.declared.token.Keyword.TheVariants as K
use Rattle.cpc_tree.specs.declared.token.Punctuator.TheVariants as P
use Rattle.cpc_tree.specs.Tokens.{Placed}
use Rattle.cpc_tree.specs.Syntax.{Ty}
use Rattle.cpc_tree.specs.Located.{Ident, LExpr, LInteger, LCharacter, LText, LUnary, LStmt, Block, LVariable, LParameter, LItem, LStruct, LGlobal, LPrototype, LFunctionItem}
use Rattle.cpc_tree.specs.TypeGrammar.{word, mark, named, number, ReadsBase, ReadsStars, ReadsParams, ReadsDeclarator}
use Rattle.cpc_tree.specs.ExprGrammar.{character, quoted}
use Rattle.cpc_tree.specs.StmtGrammar.{stmts, begin, ReadsBlock}

-- every parameter has its name
abbrev pub all_named : {A B : Type 0} → (A → Option B) → List A → Bool
all_named called [] = true
all_named called (p ∷ ps) = is_some (called p) && all_named called ps

-- the word before a function
pub data ReadsMode : List Placed → Mode → Type 0 where
  native : ReadsMode [] M.Native
  cps : (q : Place) → ReadsMode (word q K.Cps ∷ []) M.Cps
  detached : (q : Place) → ReadsMode (word q K.Detached ∷ []) M.Detached

-- the word before a prototype
pub data ReadsPrototypeMode : List Placed → Mode → Type 0 where
  extern : (q : Place) → ReadsPrototypeMode (word q K.Extern ∷ []) M.Extern
  of_function : (f : List Placed) (mode : Mode) → ReadsMode f mode → ReadsPrototypeMode f mode

-- variables of one base type, with commas between them
pub data ReadsVariables (base : Ty) : List Placed → List LVariable → ℕ → Type 0 where
  last_variable : (f : List Placed) (x : LVariable) (h : ℕ) → ReadsDeclarator base f x h → ReadsVariables base f (x ∷ []) h
  more_variables : (f g : List Placed) (q : Place) (x : LVariable) (xs : List LVariable) (h j : ℕ) → ReadsDeclarator base f x h → ReadsVariables base g xs j
      → ReadsVariables base (f ++ mark q P.Comma ∷ g) (x ∷ xs) (max h j)

-- the fields of a struct, one declaration at least
pub data ReadsFields : List Placed → List LVariable → ℕ → Type 0 where
  last_fields : (a f : List Placed) (q : Place) (base : Ty) (xs : List LVariable) (i h : ℕ) → ReadsBase a base i → ReadsVariables base f xs h → ReadsFields (a ++ (f ++ mark q P.Semicolon ∷ [])) xs h
  more_fields : (a f g : List Placed) (q : Place) (base : Ty) (xs ys : List LVariable) (i h j : ℕ) → ReadsBase a base i → ReadsVariables base f xs h → ReadsFields g ys j
      → ReadsFields (a ++ (f ++ mark q P.Semicolon ∷ g)) (xs ++ ys) (max h j)

-- what a global starts with
pub data ReadsInitial : List Placed → LExpr → ℕ → Type 0 where
  an_integer : (q : Place) (kind : Kind) (z : ℤ) → ReadsInitial (number q kind z ∷ []) (LInteger q kind z) 1
  a_negative : (q r : Place) (kind : Kind) (z : ℤ) → ReadsInitial (mark q P.Minus ∷ number r kind z ∷ []) (LUnary q U.Minus (LInteger r kind z)) 2
  a_character : (q : Place) (z : ℤ) → ReadsInitial (character q z ∷ []) (LCharacter q z) 1
  a_text : (q : Place) (bytes : Text) → ReadsInitial (quoted q bytes ∷ []) (LText q bytes) 1

-- a declared global
pub data ReadsGlobal (base : Ty) : List Placed → LItem → ℕ → Type 0 where
  unset : (f : List Placed) (x : LVariable) (h : ℕ) → ReadsDeclarator base f x h → ReadsGlobal base f (LGlobal x.called x.type None) h
  set : (f g : List Placed) (q : Place) (x : LVariable) (v : LExpr) (h j : ℕ) → ReadsDeclarator base f x h → ReadsInitial g v j
      → ReadsGlobal base (f ++ mark q P.Equal ∷ g) (LGlobal x.called x.type (Some v)) (max h j)

-- declared globals with commas between them
pub data ReadsGlobals (base : Ty) : List Placed → List LItem → ℕ → Type 0 where
  last_global : (f : List Placed) (x : LItem) (h : ℕ) → ReadsGlobal base f x h → ReadsGlobals base f (x ∷ []) h
  more_globals : (f g : List Placed) (q : Place) (x : LItem) (xs : List LItem) (h j : ℕ) → ReadsGlobal base f x h → ReadsGlobals base g xs j
      → ReadsGlobals base (f ++ mark q P.Comma ∷ g) (x ∷ xs) (max h j)

-- the head of a function: its result, its name and its parameters
pub record Head : Type 0 where
  pub called : Ident
  pub result : Ty
  pub parameters : List LParameter

pub data ReadsHead : List Placed → Head → ℕ → Type 0 where
  head : (a f g : List Placed) (q r : Place) (base t : Ty) (x : Ident) (ps : List LParameter) (i h j : ℕ) → ReadsBase a base i → ReadsStars base f t h → ReadsParams g ps j
      → ReadsHead (a ++ (f ++ named x ∷ mark q P.LeftParen ∷ (g ++ mark r P.RightParen ∷ []))) (record { called = x; result = t; parameters = ps }) (max h j)

-- the item of a function whose body begins at the second place
abbrev pub defined : Place → Place → Mode → Head → List LStmt → LItem
defined q r mode x ss = LFunctionItem (record { place = q; mode = mode; called = x.called; result = x.result; parameters = x.parameters; body = Block r (stmts ss) })

-- the tokens are an item, or the items of one declaration
pub data ReadsItem : List Placed → List LItem → ℕ → Type 0 where
  struct : (f : List Placed) (q r s t : Place) (tag : Ident) (xs : List LVariable) (h : ℕ) → ReadsFields f xs h
      → ReadsItem (word q K.Struct ∷ named tag ∷ mark r P.LeftBrace ∷ (f ++ mark s P.RightBrace ∷ mark t P.Semicolon ∷ [])) (LStruct tag xs ∷ []) h
  globals : (a f : List Placed) (q : Place) (base : Ty) (xs : List LItem) (i h : ℕ) → ReadsBase a base i → ReadsGlobals base f xs h → ReadsItem (a ++ (f ++ mark q P.Semicolon ∷ [])) xs h
  function : (m f g : List Placed) (q r : Place) (mode : Mode) (x : Head) (ss : List LStmt) (h j : ℕ) → ReadsMode m mode → ReadsHead f x h → all_named (λ (p : LParameter). p.called) x.parameters ≡ true → ReadsBlock g ss j
      → ReadsItem (m ++ (f ++ mark q P.LeftBrace ∷ (g ++ mark r P.RightBrace ∷ []))) (defined (begin (m ++ f)) q mode x ss ∷ []) (max h (j + 1))
  prototype : (m f : List Placed) (q : Place) (mode : Mode) (x : Head) (h : ℕ) → ReadsPrototypeMode m mode → ReadsHead f x h
      → ReadsItem (m ++ (f ++ mark q P.Semicolon ∷ [])) (LPrototype (begin (m ++ f)) mode x.called x.result x.parameters ∷ []) h

-- the tokens are the items of a program
pub data ReadsItems : List Placed → List LItem → ℕ → Type 0 where
  no_item : ReadsItems [] [] 0
  items : (f g : List Placed) (xs ys : List LItem) (h j : ℕ) → ReadsItem f xs h → ReadsItems g ys j → ReadsItems (f ++ g) (xs ++ ys) (max h j)
