-- A row of lexemes fits tokens where it has no more opening parentheses, and can be spelled where they can.
use Rattle.std.proofs.Common.{◌≡◌, ◌+◌, ◌≤◌, List, [], ◌∷◌, ◌++◌, refl, subst, ap, arith}
use Rattle.std.proofs.lemmas.List.{map-append}
use Rattle.std.proofs.lemmas.List.Elements.{All-nil, All-cons, All-head, All-tail}
use Rattle.std.specs.Prelude.{All}
use Rattle.cpc_base.specs.declared.stop.Dialect.{Dialect}
use Rattle.cpc_tree.specs.Tokens.{Lexeme, Placed}
use Rattle.cpc_tree.specs.Spelling.{IsSpellable}
use Rattle.cpc_tree.specs.ItemPrint.{lexemes}
use Rattle.cpc_printer_laws.specs.Fewest.{left, lefts}

-- each lexeme can be spelled
abbrev pub Spelled : Dialect → List Lexeme → Type 0
Spelled d [] = Unit {0}
Spelled d (x ∷ f) = IsSpellable d x × Spelled d f

pub spelled_all : (d : Dialect) (f : List Lexeme) → Spelled d f → All (IsSpellable d) f
spelled_all d [] s = All-nil (IsSpellable d)
spelled_all d (x ∷ f) (a, s) = All-cons (IsSpellable d) x f a (spelled_all d f s)

pub all_spelled : (d : Dialect) (f : List Lexeme) → All (IsSpellable d) f → Spelled d f
all_spelled d [] s = tt
all_spelled d (x ∷ f) s = (All-head (IsSpellable d) x f s, all_spelled d f (All-tail (IsSpellable d) x f s))

pub spelled_both : (d : Dialect) (f g : List Lexeme) → Spelled d f → Spelled d g → Spelled d (f ++ g)
spelled_both d [] g s t = t
spelled_both d (x ∷ f) g (a, s) t = (a, spelled_both d f g s t)

pub spelled_parts : (d : Dialect) (f g : List Lexeme) → Spelled d (f ++ g) → Spelled d f × Spelled d g
spelled_parts d [] g s = (tt, s)
spelled_parts d (x ∷ f) g (a, s) = let (b, c) = spelled_parts d f g s in ((a, b), c)

pub lefts_both : (f g : List Lexeme) → lefts (f ++ g) ≡ lefts f + lefts g
lefts_both [] g = omega arith
lefts_both (x ∷ f) g = omega (arith, lefts_both f g)

-- one row against another
pub record Within (d : Dialect) (f g : List Lexeme) : Type 0 where
  pub fewer : lefts g ≤ lefts f
  pub spelled : Spelled d f → Spelled d g

-- a row against tokens
pub record Fits (d : Dialect) (ts : List Placed) (g : List Lexeme) : Type 0 where
  pub fewer : lefts g ≤ lefts (lexemes ts)
  pub spelled : Spelled d (lexemes ts) → Spelled d g

-- a row that costs nothing: it may be added anywhere
pub record Free (d : Dialect) (g : List Lexeme) : Type 0 where
  pub none : lefts g ≡ 0
  pub spelled : Spelled d g

pub same : {d : Dialect} {f : List Lexeme} → Within d f f
same = record { fewer = omega arith; spelled = λ s. s }

pub chain : {d : Dialect} {f g h : List Lexeme} → Within d f g → Within d g h → Within d f h
chain a b = record { fewer = omega (arith, a.fewer, b.fewer); spelled = λ s. b.spelled (a.spelled s) }

pub both : {d : Dialect} {f g h k : List Lexeme} → Within d f h → Within d g k → Within d (f ++ g) (h ++ k)
both {d} {f} {g} {h} {k} a b = record {
  fewer = omega (arith, a.fewer, b.fewer, lefts_both f g, lefts_both h k);
  spelled = λ s. let (x, y) = spelled_parts d f g s in spelled_both d h k (a.spelled x) (b.spelled y);
}

pub token : {d : Dialect} {x : Lexeme} {f g : List Lexeme} → Within d f g → Within d (x ∷ f) (x ∷ g)
token a = record { fewer = omega (arith, a.fewer); spelled = λ s. (s.0, a.spelled s.1) }

pub free_nothing : {d : Dialect} → Free d []
free_nothing = record { none = refl; spelled = tt }

pub free_both : {d : Dialect} {f g : List Lexeme} → Free d f → Free d g → Free d (f ++ g)
free_both {d} {f} {g} a b = record { none = omega (arith, a.none, b.none, lefts_both f g); spelled = spelled_both d f g a.spelled b.spelled }

pub free_token : {d : Dialect} {x : Lexeme} {f : List Lexeme} → left x ≡ 0 → IsSpellable d x → Free d f → Free d (x ∷ f)
free_token e s a = record { none = omega (arith, e, a.none); spelled = (s, a.spelled) }

pub free : {d : Dialect} {f g : List Lexeme} → Free d g → Within d f g
free a = record { fewer = omega (arith, a.none); spelled = λ s. a.spelled }

pub added_before : {d : Dialect} {f g h : List Lexeme} → Free d h → Within d f g → Within d f (h ++ g)
added_before {d} {f} {g} {h} a b = record { fewer = omega (arith, a.none, b.fewer, lefts_both h g); spelled = λ s. spelled_both d h g a.spelled (b.spelled s) }

pub added_after : {d : Dialect} {f g h : List Lexeme} → Free d h → Within d f g → Within d f (g ++ h)
added_after {d} {f} {g} {h} a b = record { fewer = omega (arith, a.none, b.fewer, lefts_both g h); spelled = λ s. spelled_both d g h (b.spelled s) a.spelled }

pub dropped_before : {d : Dialect} {f g : List Lexeme} (h : List Lexeme) → Within d f g → Within d (h ++ f) g
dropped_before {d} {f} {g} h a = record { fewer = omega (arith, a.fewer, lefts_both h f); spelled = λ s. a.spelled (spelled_parts d h f s).1 }

pub dropped_after : {d : Dialect} {f g : List Lexeme} (h : List Lexeme) → Within d f g → Within d (f ++ h) g
dropped_after {d} {f} {g} h a = record { fewer = omega (arith, a.fewer, lefts_both f h); spelled = λ s. a.spelled (spelled_parts d f h s).0 }

pub dropped_token : {d : Dialect} {x : Lexeme} {f g : List Lexeme} → Within d f g → Within d (x ∷ f) g
dropped_token a = record { fewer = omega (arith, a.fewer); spelled = λ s. a.spelled s.1 }

-- the same for tokens
pub at : {d : Dialect} {ts : List Placed} {f g : List Lexeme} → Fits d ts f → Within d f g → Fits d ts g
at a b = record { fewer = omega (arith, a.fewer, b.fewer); spelled = λ s. b.spelled (a.spelled s) }

pub at_none : {d : Dialect} → Fits d [] []
at_none = record { fewer = omega arith; spelled = λ s. s }

pub at_free : {d : Dialect} {ts : List Placed} {g : List Lexeme} → Free d g → Fits d ts g
at_free a = record { fewer = omega (arith, a.none); spelled = λ s. a.spelled }

lexemes_both : (a b : List Placed) → lexemes (a ++ b) ≡ lexemes a ++ lexemes b
lexemes_both a b = map-append (λ (t : Placed). t.lexeme) a b

pub at_both : {d : Dialect} {a b : List Placed} {f g : List Lexeme} → Fits d a f → Fits d b g → Fits d (a ++ b) (f ++ g)
at_both {d} {a} {b} {f} {g} x y = record {
  fewer = omega (arith, x.fewer, y.fewer, lefts_both f g, lefts_both (lexemes a) (lexemes b), ap lefts (lexemes_both a b));
  spelled = λ s. let (u, v) = spelled_parts d (lexemes a) (lexemes b) (subst (Spelled d) (lexemes_both a b) s) in spelled_both d f g (x.spelled u) (y.spelled v);
}

pub at_token : {d : Dialect} {t : Placed} {b : List Placed} {g : List Lexeme} → Fits d b g → Fits d (t ∷ b) (t.lexeme ∷ g)
at_token a = record { fewer = omega (arith, a.fewer); spelled = λ s. (s.0, a.spelled s.1) }

pub at_drop : {d : Dialect} {t : Placed} {b : List Placed} {g : List Lexeme} → Fits d b g → Fits d (t ∷ b) g
at_drop a = record { fewer = omega (arith, a.fewer); spelled = λ s. a.spelled s.1 }

pub at_added : {d : Dialect} {ts : List Placed} {f g : List Lexeme} → Fits d ts f → Free d g → Fits d ts (f ++ g)
at_added a b = at a (added_after b same)

pub at_first : {d : Dialect} {a : List Placed} {g : List Lexeme} (b : List Placed) → Fits d a g → Fits d (a ++ b) g
at_first {d} {a} b x = record {
  fewer = omega (arith, x.fewer, lefts_both (lexemes a) (lexemes b), ap lefts (lexemes_both a b));
  spelled = λ s. x.spelled (spelled_parts d (lexemes a) (lexemes b) (subst (Spelled d) (lexemes_both a b) s)).0;
}

-- A row against tokens behind a row that costs nothing, as a base type: it may be written again and again.
pub record Based (d : Dialect) (c : List Lexeme) (ts : List Placed) (g : List Lexeme) : Type 0 where
  pub fewer : lefts g ≤ lefts (lexemes ts)
  pub spelled : Spelled d c → Spelled d (lexemes ts) → Spelled d g

pub of_fits : {d : Dialect} {c : List Lexeme} {ts : List Placed} {g : List Lexeme} → Fits d ts g → Based d c ts g
of_fits a = record { fewer = a.fewer; spelled = λ b. a.spelled }

pub itself : {d : Dialect} {c : List Lexeme} → lefts c ≡ 0 → Based d c [] c
itself e = record { fewer = omega (arith, e); spelled = λ b s. b }

pub based_both : {d : Dialect} {c : List Lexeme} {a b : List Placed} {f g : List Lexeme} → Based d c a f → Based d c b g → Based d c (a ++ b) (f ++ g)
based_both {d} {c} {a} {b} {f} {g} x y = record {
  fewer = omega (arith, x.fewer, y.fewer, lefts_both f g, lefts_both (lexemes a) (lexemes b), ap lefts (lexemes_both a b));
  spelled = λ k s. let (u, v) = spelled_parts d (lexemes a) (lexemes b) (subst (Spelled d) (lexemes_both a b) s) in spelled_both d f g (x.spelled k u) (y.spelled k v);
}

pub based_drop : {d : Dialect} {c : List Lexeme} {t : Placed} {b : List Placed} {g : List Lexeme} → Based d c b g → Based d c (t ∷ b) g
based_drop a = record { fewer = omega (arith, a.fewer); spelled = λ k s. a.spelled k s.1 }

pub based_added : {d : Dialect} {c : List Lexeme} {ts : List Placed} {f g : List Lexeme} → Based d c ts f → Free d g → Based d c ts (f ++ g)
based_added {d} {c} {ts} {f} {g} a b = record { fewer = omega (arith, a.fewer, b.none, lefts_both f g); spelled = λ k s. spelled_both d f g (a.spelled k s) b.spelled }

pub based_before : {d : Dialect} {c : List Lexeme} {ts : List Placed} {f g : List Lexeme} → Free d g → Based d c ts f → Based d c ts (g ++ f)
based_before {d} {c} {ts} {f} {g} b a = record { fewer = omega (arith, a.fewer, b.none, lefts_both g f); spelled = λ k s. spelled_both d g f b.spelled (a.spelled k s) }

-- what the tokens spell already, and no parenthesis, may be written again
pub based_again : {d : Dialect} {c : List Lexeme} {ts : List Placed} {f g : List Lexeme} → Based d c ts f → Fits d ts g → lefts g ≡ 0 → Based d c ts (f ++ g)
based_again {d} {c} {ts} {f} {g} a b e = record { fewer = omega (arith, a.fewer, e, lefts_both f g); spelled = λ k s. spelled_both d f g (a.spelled k s) (b.spelled s) }

pub close : {d : Dialect} {c : List Lexeme} {a ts : List Placed} {g : List Lexeme} → Fits d a c → Based d c ts g → Fits d (a ++ ts) g
close {d} {c} {a} {ts} {g} x y = record {
  fewer = omega (arith, y.fewer, lefts_both (lexemes a) (lexemes ts), ap lefts (lexemes_both a ts));
  spelled = λ s. let (u, v) = spelled_parts d (lexemes a) (lexemes ts) (subst (Spelled d) (lexemes_both a ts) s) in y.spelled (x.spelled u) v;
}

pub based_first : {d : Dialect} {c : List Lexeme} {a : List Placed} {g : List Lexeme} (b : List Placed) → Based d c a g → Based d c (a ++ b) g
based_first {d} {c} {a} {g} b x = record {
  fewer = omega (arith, x.fewer, lefts_both (lexemes a) (lexemes b), ap lefts (lexemes_both a b));
  spelled = λ k s. x.spelled k (spelled_parts d (lexemes a) (lexemes b) (subst (Spelled d) (lexemes_both a b) s)).0;
}
