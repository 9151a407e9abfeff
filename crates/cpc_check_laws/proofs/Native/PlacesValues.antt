-- Which rules expressions and calls break does not depend on places.
use Rattle.std.proofs.Common.{◌≡◌, suc, ◌==◌, Bool, true, false, ◌&&◌, not, if◌then◌else◌, List, [], ◌∷◌, ◌++◌, length, map, Option, Some, None, is_some, refl, sym, ap, ap₂, ◌∙◌}
use Rattle.std.specs.Option.{is_none}
use Rattle.std.proofs.lemmas.List.{map-append}
use Rattle.cpc_base.specs.declared.stop.Place.{Place}
use Rattle.cpc_num.specs.declared.kinds.Op.{Op}
use Rattle.cpc_num.specs.declared.kinds.Op.TheVariants.{Add}
use Rattle.cpc_tree.specs.declared.program.Mode.{Mode}
use Rattle.cpc_tree.specs.declared.program.Mode.TheVariants as M
use Rattle.cpc_tree.specs.declared.program.UnaryOp.TheVariants as U
use Rattle.cpc_tree.specs.Syntax.{Ty, TyVoid, TyInt, TyCondvar, TyPointer, TyCode, TyStruct, TyArray}
use Rattle.cpc_tree.specs.Typing.{Meant, ALocal, AGlobal, AFunction, NotMeant, Typed, fields, used, typed_place}
use Rattle.cpc_tree.specs.Primitives.{Primitive, Print, Putc, Puts, Now, CondNew, CondFree, Signal, SignalAll, Exit, Malloc, Free, Yield, Sleep, IoWait, Wait, RtFrame, RtBox, RtFrameFree, RtUnbox, RtReady, RtWait, RtSleep, RtIo, RtDetach, primitive_named, takes_first}
use Rattle.cpc_tree.specs.Located.{Ident, LExpr, LNamed, LInteger, LCharacter, LText, LUnary, LBinary, LAnd, LOr, LChoose, LCast, LSizeOf, LIndex, LMember, LArrow, LCall, LExprs, NoLExpr, AndLExpr, bare_expr, bare_exprs}
use Rattle.cpc_check_rules.specs.Rule.{Broken, at_if}
use Rattle.cpc_check_rules.specs.declared.rule.Rule.{Rule}
use Rattle.cpc_check_rules.specs.declared.rule.Rule.TheVariants.{Disagree, NoPlace, NoField, Incomplete, NotClosed, CpsAsValue, CpsInNative, RtCall, CpsForm, WrongNumber, CallInside}
use Rattle.cpc_check_rules.specs.Scopes.{Scope, meant, typed, takes_typed}
use Rattle.cpc_check_rules.specs.Operators.{Where, typed_at, first, is_detached, is_cps, open_name, name_breaks, no_rule, binary_breaks, is_incomplete_sum, address_breaks, field_breaks, member_breaks, pointed, arrow_breaks, used_of}
use Rattle.cpc_check_rules.specs.Calls.{Wanted, Integer, Of, Callback, String, ForSection, Callee, Takes, NoCallee, third, section_of, wants, wanted_of, detached_wants, gives, gives_up, is_closed, is_rt, is_event, primitive_breaks, function_breaks, unmeant_callee, named_callee, code_callee, callee, no_code, pointer_breaks, unmeant_breaks, named_breaks, count, number_breaks, wanted, is_callee, is_function_name, suits, suit_breaks, Anything}
use Rattle.cpc_check_rules.specs.ExprRules.{expr_breaks, args_breaks, arg_breaks, called_breaks, call_breaks}
use Rattle.cpc_check_laws.specs.Native.Rows.{rules_of}
use Rattle.cpc_check_laws.proofs.Native.OnePlace.{expr_here, exprs_here, expr_again}

-- an expression with one place everywhere
abbrev pub moved : LExpr → LExpr
moved e = expr_here (bare_expr e)

abbrev pub all_moved : LExprs → LExprs
all_moved es = exprs_here (bare_exprs es)

-- ---- rows at other places

pub both_same : (a b c d : Broken) → rules_of a ≡ rules_of c → rules_of b ≡ rules_of d → rules_of (a ++ b) ≡ rules_of (c ++ d)
both_same a b c d e f = map-append (λ x. x.1) a b ∙ (ap₂ (λ x y. x ++ y) e f ∙ sym (map-append (λ x. x.1) c d))

pub same_if : (b c : Bool) (q r : Place) (rule : Rule) → b ≡ c → rules_of (at_if b q rule) ≡ rules_of (at_if c r rule)
same_if b c q r rule e = go b ∙ ap (λ b. rules_of (at_if b r rule)) e
  where
    go : (b : Bool) → rules_of (at_if b q rule) ≡ rules_of (at_if b r rule)
    go true = refl
    go false = refl

-- ---- names and operators

open_same : (around mode : Mode) (q r : Place) → rules_of (open_name around q mode) ≡ rules_of (open_name around r mode)
open_same around mode q r = same_if _ _ q r NotClosed refl

name_same : (around : Mode) (q r : Place) (m : Meant) → rules_of (name_breaks around q m) ≡ rules_of (name_breaks around r m)
name_same around q r (ALocal slot t) = refl
name_same around q r (AGlobal block t) = same_if _ _ q r NotClosed refl
name_same around q r (AFunction M.Native t ps) = open_same around M.Native q r
name_same around q r (AFunction M.Detached t ps) = refl
name_same around q r (AFunction M.Cps t ps) = ap (λ x. CpsAsValue ∷ x) (open_same around M.Cps q r)
name_same around q r (AFunction M.Extern t ps) = ap (λ x. Disagree ∷ x) (open_same around M.Extern q r)
name_same around q r NotMeant = refl

-- an operator, whose parts have the same types
rule_same : (a b : Bool) (o p : Option Typed) (q r : Place) → a ≡ b → o ≡ p → rules_of (no_rule a o q) ≡ rules_of (no_rule b p r)
rule_same a b o p q r e f = same_if _ _ q r Disagree (ap₂ (λ a o. a && is_none o) e f)

binary_at : (s : Scope) (op : Op) (a b o : Option Typed) (q r : Place) → rules_of (binary_breaks s op a b o q) ≡ rules_of (binary_breaks s op a b o r)
binary_at s op a b o q r = go (is_incomplete_sum s op a b)
  where
    go : (c : Bool) → rules_of (if c then (q, Incomplete) ∷ [] else no_rule (is_some a && is_some b) o q) ≡ rules_of (if c then (r, Incomplete) ∷ [] else no_rule (is_some a && is_some b) o r)
    go true = refl
    go false = rule_same _ _ o o q r refl refl

pub binary_same : (s : Scope) (op : Op) (a b o c d p : Option Typed) (q r : Place) → a ≡ c → b ≡ d → o ≡ p
    → rules_of (binary_breaks s op a b o q) ≡ rules_of (binary_breaks s op c d p r)
binary_same s op a b o c d p q r e f g = binary_at s op a b o q r ∙ (ap (λ a. rules_of (binary_breaks s op a b o r)) e
    ∙ ap₂ (λ b o. rules_of (binary_breaks s op c b o r)) f g)

field_same : (s : Scope) (t : Option Ty) (q r : Place) (x y : Ident) (o : Option Typed) → rules_of (field_breaks s t q x o) ≡ rules_of (field_breaks s t r y o)
field_same s None q r x y o = refl
field_same s (Some TyVoid) q r x y o = refl
field_same s (Some (TyInt kind)) q r x y o = refl
field_same s (Some TyCondvar) q r x y o = refl
field_same s (Some (TyPointer t)) q r x y o = refl
field_same s (Some (TyCode t ps)) q r x y o = refl
field_same s (Some (TyArray t n)) q r x y o = refl
field_same s (Some (TyStruct tag)) q r x y o = go (is_none (fields s.items tag))
  where
    go : (b : Bool) → rules_of (if b then (q, Incomplete) ∷ [] else at_if (is_none o) x.place NoField) ≡ rules_of (if b then (r, Incomplete) ∷ [] else at_if (is_none o) y.place NoField)
    go true = refl
    go false = same_if _ _ x.place y.place NoField refl

member_at : (s : Scope) (d : Option Typed) (q r : Place) (x y : Ident) (o : Option Typed) → rules_of (member_breaks s d q x o) ≡ rules_of (member_breaks s d r y o)
member_at s None q r x y o = refl
member_at s (Some d) q r x y o = field_same s (typed_place d) q r x y o

member_same : (s : Scope) (d e : Option Typed) (q r : Place) (x y : Ident) (o p : Option Typed) → d ≡ e → o ≡ p → rules_of (member_breaks s d q x o) ≡ rules_of (member_breaks s e r y p)
member_same s d e q r x y o p f g = member_at s d q r x y o ∙ ap₂ (λ d o. rules_of (member_breaks s d r y o)) f g

arrow_at : (s : Scope) (d : Option Typed) (q r : Place) (x y : Ident) (o : Option Typed) → rules_of (arrow_breaks s d q x o) ≡ rules_of (arrow_breaks s d r y o)
arrow_at s None q r x y o = refl
arrow_at s (Some d) q r x y o = field_same s (pointed (used d)) q r x y o

arrow_same : (s : Scope) (d e : Option Typed) (q r : Place) (x y : Ident) (o p : Option Typed) → d ≡ e → o ≡ p → rules_of (arrow_breaks s d q x o) ≡ rules_of (arrow_breaks s e r y p)
arrow_same s d e q r x y o p f g = arrow_at s d q r x y o ∙ ap₂ (λ d o. rules_of (arrow_breaks s d r y o)) f g

-- ---- types

-- the type of an expression where it stands
pub typed_same : (w : Where) (e : LExpr) → typed_at w e ≡ typed_at w (moved e)
typed_same w e = ap (typed w.scope) (sym (expr_again (bare_expr e)))

some_same : (w : Where) (e : LExpr) → is_some (typed_at w e) ≡ is_some (typed_at w (moved e))
some_same w e = ap (λ (o : Option Typed). is_some o) (typed_same w e)

-- ---- what is called

section_same : (s : Scope) (e : LExpr) → section_of s (Some e) ≡ section_of s (Some (moved e))
section_same s (LNamed x) = refl
section_same s (LInteger q kind z) = refl
section_same s (LCharacter q z) = refl
section_same s (LText q bytes) = refl
section_same s (LUnary q op v) = refl
section_same s (LBinary q op v u) = refl
section_same s (LAnd q v u) = refl
section_same s (LOr q v u) = refl
section_same s (LChoose q c v u) = refl
section_same s (LCast q t v) = refl
section_same s (LSizeOf q t) = refl
section_same s (LIndex q v u) = refl
section_same s (LMember q v x) = refl
section_same s (LArrow q v x) = refl
section_same s (LCall q f vs) = refl

third_same : (s : Scope) (es : LExprs) → section_of s (third es) ≡ section_of s (third (all_moved es))
third_same s NoLExpr = refl
third_same s (AndLExpr a NoLExpr) = refl
third_same s (AndLExpr a (AndLExpr b NoLExpr)) = refl
third_same s (AndLExpr a (AndLExpr b (AndLExpr c es))) = section_same s c

count_same : (es : LExprs) → length (count es) ≡ length (count (all_moved es))
count_same NoLExpr = refl
count_same (AndLExpr e es) = ap suc (count_same es)

wants_same : (s : Scope) (p : Primitive) (es : LExprs) → wants s p es ≡ wants s p (all_moved es)
wants_same s Print es = refl
wants_same s Putc es = refl
wants_same s Puts es = refl
wants_same s Now es = refl
wants_same s CondNew es = refl
wants_same s CondFree es = refl
wants_same s Signal es = refl
wants_same s SignalAll es = refl
wants_same s Exit es = refl
wants_same s Malloc es = refl
wants_same s Free es = refl
wants_same s Yield es = refl
wants_same s Sleep es = refl
wants_same s IoWait es = refl
wants_same s Wait es = refl
wants_same s RtFrame es = refl
wants_same s RtBox es = refl
wants_same s RtFrameFree es = refl
wants_same s RtUnbox es = refl
wants_same s RtReady es = refl
wants_same s RtWait es = refl
wants_same s RtSleep es = refl
wants_same s RtIo es = refl
wants_same s RtDetach es = ap₂ (λ n c. map wanted_of (takes_first RtDetach) ++ detached_wants n c) (count_same es) (third_same s es)

primitive_callee : (s : Scope) (o : Option Primitive) (es : LExprs) → unmeant_callee s o es ≡ unmeant_callee s o (all_moved es)
primitive_callee s None es = refl
primitive_callee s (Some p) es = ap (λ ws. Takes ws (gives p)) (wants_same s p es)

named_same : (w : Where) (f : LExpr) (es : LExprs) (m : Meant) (o : Option Primitive) → named_callee w f es m o ≡ named_callee w (moved f) (all_moved es) m o
named_same w f es (ALocal n t) o = ap (λ d. code_callee (used_of d)) (typed_same w f)
named_same w f es (AGlobal n t) o = ap (λ d. code_callee (used_of d)) (typed_same w f)
named_same w f es (AFunction mode t ps) o = refl
named_same w f es NotMeant o = primitive_callee w.scope o es

pub callee_same : (w : Where) (f : LExpr) (es : LExprs) → callee w f es ≡ callee w (moved f) (all_moved es)
callee_same w (LNamed x) es = named_same w (LNamed x) es (meant w.scope x.text) (primitive_named x.text)
callee_same w (LInteger q kind z) es = ap (λ d. code_callee (used_of d)) (typed_same w (LInteger q kind z))
callee_same w (LCharacter q z) es = ap (λ d. code_callee (used_of d)) (typed_same w (LCharacter q z))
callee_same w (LText q bytes) es = ap (λ d. code_callee (used_of d)) (typed_same w (LText q bytes))
callee_same w (LUnary q op v) es = ap (λ d. code_callee (used_of d)) (typed_same w (LUnary q op v))
callee_same w (LBinary q op v u) es = ap (λ d. code_callee (used_of d)) (typed_same w (LBinary q op v u))
callee_same w (LAnd q v u) es = ap (λ d. code_callee (used_of d)) (typed_same w (LAnd q v u))
callee_same w (LOr q v u) es = ap (λ d. code_callee (used_of d)) (typed_same w (LOr q v u))
callee_same w (LChoose q c v u) es = ap (λ d. code_callee (used_of d)) (typed_same w (LChoose q c v u))
callee_same w (LCast q t v) es = ap (λ d. code_callee (used_of d)) (typed_same w (LCast q t v))
callee_same w (LSizeOf q t) es = ap (λ d. code_callee (used_of d)) (typed_same w (LSizeOf q t))
callee_same w (LIndex q v u) es = ap (λ d. code_callee (used_of d)) (typed_same w (LIndex q v u))
callee_same w (LMember q v x) es = ap (λ d. code_callee (used_of d)) (typed_same w (LMember q v x))
callee_same w (LArrow q v x) es = ap (λ d. code_callee (used_of d)) (typed_same w (LArrow q v x))
callee_same w (LCall q f vs) es = ap (λ d. code_callee (used_of d)) (typed_same w (LCall q f vs))

-- ---- what calls break

primitive_same : (w : Where) (q r : Place) (p : Primitive) → rules_of (primitive_breaks w q p) ≡ rules_of (primitive_breaks w r p)
primitive_same w q r p = both_same _ _ _ _ (same_if (gives_up p && not (is_cps w.mode)) _ q r CpsInNative refl)
    (both_same _ _ _ _ (same_if (is_detached w.mode && not (is_closed p)) _ q r NotClosed refl)
    (both_same _ _ _ _ (same_if (is_rt p && not (is_event w.dialect)) _ q r RtCall refl) (same_if (gives_up p && is_event w.dialect) _ q r CpsForm refl)))

function_same : (w : Where) (q r : Place) (mode : Mode) → rules_of (function_breaks w q mode) ≡ rules_of (function_breaks w r mode)
function_same w q r mode = both_same _ _ _ _ (same_if (is_cps mode && not (is_cps w.mode)) _ q r CpsInNative refl) (same_if (is_detached w.mode && not (is_detached mode)) _ q r NotClosed refl)

code_same : (o p : Option Typed) (q r : Place) → o ≡ p → rules_of (no_code o q) ≡ rules_of (no_code p r)
code_same o p q r e = go o ∙ ap (λ o. rules_of (no_code o r)) e
  where
    go : (o : Option Typed) → rules_of (no_code o q) ≡ rules_of (no_code o r)
    go None = refl
    go (Some d) = same_if _ _ q r Disagree refl

pointer_same : (w : Where) (f : LExpr) (a b : Broken) → rules_of a ≡ rules_of b → rules_of (pointer_breaks w f a) ≡ rules_of (pointer_breaks w (moved f) b)
pointer_same w f a b h = both_same _ _ _ _ h (both_same _ _ _ _ (same_if (is_detached w.mode) _ (first f) (first (moved f)) NotClosed refl)
    (code_same (typed_at w f) (typed_at w (moved f)) (first f) (first (moved f)) (typed_same w f)))

unmeant_same : (w : Where) (q r : Place) (o : Option Primitive) → rules_of (unmeant_breaks w q o) ≡ rules_of (unmeant_breaks w r o)
unmeant_same w q r None = refl
unmeant_same w q r (Some p) = primitive_same w q r p

called_name : (w : Where) (f : LExpr) (q r : Place) (a b : Broken) → rules_of a ≡ rules_of b → (m : Meant) (o : Option Primitive)
    → rules_of (named_breaks w f q a m o) ≡ rules_of (named_breaks w (moved f) r b m o)
called_name w f q r a b h (ALocal n t) o = pointer_same w f a b h
called_name w f q r a b h (AGlobal n t) o = pointer_same w f a b h
called_name w f q r a b h (AFunction mode t ps) o = function_same w q r mode
called_name w f q r a b h NotMeant o = unmeant_same w q r o

called_same : (w : Where) (f : LExpr) (a b : Broken) → rules_of a ≡ rules_of b → rules_of (called_breaks w f a) ≡ rules_of (called_breaks w (moved f) b)
called_same w (LNamed x) a b h = called_name w (LNamed x) x.place _ a b h (meant w.scope x.text) (primitive_named x.text)
called_same w (LInteger q kind z) a b h = pointer_same w (LInteger q kind z) a b h
called_same w (LCharacter q z) a b h = pointer_same w (LCharacter q z) a b h
called_same w (LText q bytes) a b h = pointer_same w (LText q bytes) a b h
called_same w (LUnary q op v) a b h = pointer_same w (LUnary q op v) a b h
called_same w (LBinary q op v u) a b h = pointer_same w (LBinary q op v u) a b h
called_same w (LAnd q v u) a b h = pointer_same w (LAnd q v u) a b h
called_same w (LOr q v u) a b h = pointer_same w (LOr q v u) a b h
called_same w (LChoose q c v u) a b h = pointer_same w (LChoose q c v u) a b h
called_same w (LCast q t v) a b h = pointer_same w (LCast q t v) a b h
called_same w (LSizeOf q t) a b h = pointer_same w (LSizeOf q t) a b h
called_same w (LIndex q v u) a b h = pointer_same w (LIndex q v u) a b h
called_same w (LMember q v x) a b h = pointer_same w (LMember q v x) a b h
called_same w (LArrow q v x) a b h = pointer_same w (LArrow q v x) a b h
called_same w (LCall q f vs) a b h = pointer_same w (LCall q f vs) a b h

-- ---- arguments

number_at : (c : Callee) (es : LExprs) (q r : Place) → rules_of (number_breaks c es q) ≡ rules_of (number_breaks c (all_moved es) r)
number_at NoCallee es q r = refl
number_at (Takes ws t) es q r = same_if _ _ q r WrongNumber (ap (λ n. not (n == length ws)) (count_same es))

pub number_same : (c d : Callee) (es : LExprs) (q r : Place) → c ≡ d → rules_of (number_breaks c es q) ≡ rules_of (number_breaks d (all_moved es) r)
number_same c d es q r e = number_at c es q r ∙ ap (λ c. rules_of (number_breaks c (all_moved es) r)) e

function_name_same : (s : Scope) (e : LExpr) → is_function_name s e ≡ is_function_name s (moved e)
function_name_same s (LNamed x) = refl
function_name_same s (LInteger q kind z) = refl
function_name_same s (LCharacter q z) = refl
function_name_same s (LText q bytes) = refl
function_name_same s (LUnary q op v) = refl
function_name_same s (LBinary q op v u) = refl
function_name_same s (LAnd q v u) = refl
function_name_same s (LOr q v u) = refl
function_name_same s (LChoose q c v u) = refl
function_name_same s (LCast q t v) = refl
function_name_same s (LSizeOf q t) = refl
function_name_same s (LIndex q v u) = refl
function_name_same s (LMember q v x) = refl
function_name_same s (LArrow q v x) = refl
function_name_same s (LCall q f vs) = refl

-- an expression that is taken at a type
pub takes_same : (t : Ty) (e : LExpr) (d : Typed) → takes_typed t (bare_expr e) d ≡ takes_typed t (bare_expr (moved e)) d
takes_same t e d = ap (λ x. takes_typed t x d) (sym (expr_again (bare_expr e)))

suits_same : (s : Scope) (t : Wanted) (e : LExpr) (d : Typed) → suits s t e d ≡ suits s t (moved e) d
suits_same s Integer e d = refl
suits_same s (Of t) e d = takes_same t e d
suits_same s (Callback t) e d = ap₂ (λ a b. a && b) (function_name_same s e) (takes_same t e d)
suits_same s String e d = refl
suits_same s ForSection e d = ap is_callee (section_same s e)
suits_same s Anything e d = refl

suit_same : (w : Where) (t : Wanted) (e : LExpr) → rules_of (suit_breaks w.scope t e (typed_at w e)) ≡ rules_of (suit_breaks w.scope t (moved e) (typed_at w (moved e)))
suit_same w t e = go (typed_at w e) ∙ ap (λ o. rules_of (suit_breaks w.scope t (moved e) o)) (typed_same w e)
  where
    go : (o : Option Typed) → rules_of (suit_breaks w.scope t e o) ≡ rules_of (suit_breaks w.scope t (moved e) o)
    go None = refl
    go (Some d) = same_if _ _ (first e) (first (moved e)) Disagree (ap not (suits_same w.scope t e d))

plain_same : (w : Where) (t : Wanted) (e : LExpr) (a b : Broken) → rules_of a ≡ rules_of b
    → rules_of (a ++ suit_breaks w.scope t e (typed_at w e)) ≡ rules_of (b ++ suit_breaks w.scope t (moved e) (typed_at w (moved e)))
plain_same w t e a b h = both_same _ _ _ _ h (suit_same w t e)

string_same : (w : Where) (e : LExpr) (a b : Broken) → rules_of a ≡ rules_of b → rules_of (arg_breaks w String e a) ≡ rules_of (arg_breaks w String (moved e) b)
string_same w (LText q bytes) a b h = refl
string_same w (LNamed x) a b h = plain_same w String (LNamed x) a b h
string_same w (LInteger q kind z) a b h = plain_same w String (LInteger q kind z) a b h
string_same w (LCharacter q z) a b h = plain_same w String (LCharacter q z) a b h
string_same w (LUnary q op v) a b h = plain_same w String (LUnary q op v) a b h
string_same w (LBinary q op v u) a b h = plain_same w String (LBinary q op v u) a b h
string_same w (LAnd q v u) a b h = plain_same w String (LAnd q v u) a b h
string_same w (LOr q v u) a b h = plain_same w String (LOr q v u) a b h
string_same w (LChoose q c v u) a b h = plain_same w String (LChoose q c v u) a b h
string_same w (LCast q t v) a b h = plain_same w String (LCast q t v) a b h
string_same w (LSizeOf q t) a b h = plain_same w String (LSizeOf q t) a b h
string_same w (LIndex q v u) a b h = plain_same w String (LIndex q v u) a b h
string_same w (LMember q v x) a b h = plain_same w String (LMember q v x) a b h
string_same w (LArrow q v x) a b h = plain_same w String (LArrow q v x) a b h
string_same w (LCall q f vs) a b h = plain_same w String (LCall q f vs) a b h

arg_same : (w : Where) (t : Wanted) (e : LExpr) (a b : Broken) → rules_of a ≡ rules_of b → rules_of (arg_breaks w t e a) ≡ rules_of (arg_breaks w t (moved e) b)
arg_same w Integer e a b h = plain_same w Integer e a b h
arg_same w (Of t) e a b h = plain_same w (Of t) e a b h
arg_same w (Callback t) e a b h = plain_same w (Callback t) e a b h
arg_same w String e a b h = string_same w e a b h
arg_same w ForSection e a b h = plain_same w ForSection e a b h
arg_same w Anything e a b h = plain_same w Anything e a b h

-- ---- expressions

-- an operator on one operand, which is not &
one_same : (w : Where) (v e : LExpr) (q r : Place) (a b : Broken) → rules_of a ≡ rules_of b
    → rules_of (a ++ no_rule (is_some (typed_at w v)) (typed_at w e) q) ≡ rules_of (b ++ no_rule (is_some (typed_at w (moved v))) (typed_at w (moved e)) r)
one_same w v e q r a b h = both_same _ _ _ _ h (rule_same _ _ _ _ q r (some_same w v) (typed_same w e))

-- an operator on two operands
two_same : (w : Where) (op : Op) (v u e : LExpr) (q r : Place) (a b c d : Broken) → rules_of a ≡ rules_of c → rules_of b ≡ rules_of d
    → rules_of (a ++ (b ++ binary_breaks w.scope op (typed_at w v) (typed_at w u) (typed_at w e) q))
    ≡ rules_of (c ++ (d ++ binary_breaks w.scope op (typed_at w (moved v)) (typed_at w (moved u)) (typed_at w (moved e)) r))
two_same w op v u e q r a b c d h k = both_same _ _ _ _ h (both_same _ _ _ _ k (binary_same w.scope op _ _ _ _ _ _ q r (typed_same w v) (typed_same w u) (typed_same w e)))

-- && and ||
logic_same : (w : Where) (v u e : LExpr) (q r : Place) (a b c d : Broken) → rules_of a ≡ rules_of c → rules_of b ≡ rules_of d
    → rules_of (a ++ (b ++ no_rule (is_some (typed_at w v) && is_some (typed_at w u)) (typed_at w e) q))
    ≡ rules_of (c ++ (d ++ no_rule (is_some (typed_at w (moved v)) && is_some (typed_at w (moved u))) (typed_at w (moved e)) r))
logic_same w v u e q r a b c d h k = both_same _ _ _ _ h (both_same _ _ _ _ k (rule_same _ _ _ _ q r (ap₂ (λ a b. a && b) (some_same w v) (some_same w u)) (typed_same w e)))

-- & of a place
address_same : (w : Where) (v e : LExpr) (q r : Place) (a b : Broken) → rules_of a ≡ rules_of b
    → rules_of (a ++ address_breaks (typed_at w v) (typed_at w e) q) ≡ rules_of (b ++ address_breaks (typed_at w (moved v)) (typed_at w (moved e)) r)
address_same w v e q r a b h = both_same _ _ _ _ h (same_if _ _ q r NoPlace (ap₂ (λ a o. a && is_none o) (some_same w v) (typed_same w e)))

mutual
  pub expr_same : (w : Where) (e : LExpr) → rules_of (expr_breaks w e) ≡ rules_of (expr_breaks w (moved e))
  expr_same w (LNamed x) = name_same w.mode x.place _ (meant w.scope x.text)
  expr_same w (LInteger q kind z) = refl
  expr_same w (LCharacter q z) = refl
  expr_same w (LText q bytes) = refl
  expr_same w (LUnary q U.AddressOf v) = address_same w v (LUnary q U.AddressOf v) (first v) (first (moved v)) _ _ (expr_same w v)
  expr_same w (LUnary q U.Minus v) = one_same w v (LUnary q U.Minus v) q _ _ _ (expr_same w v)
  expr_same w (LUnary q U.Plus v) = one_same w v (LUnary q U.Plus v) q _ _ _ (expr_same w v)
  expr_same w (LUnary q U.Not v) = one_same w v (LUnary q U.Not v) q _ _ _ (expr_same w v)
  expr_same w (LUnary q U.Complement v) = one_same w v (LUnary q U.Complement v) q _ _ _ (expr_same w v)
  expr_same w (LUnary q U.Dereference v) = one_same w v (LUnary q U.Dereference v) q _ _ _ (expr_same w v)
  expr_same w (LBinary q op v u) = two_same w op v u (LBinary q op v u) q _ _ _ _ _ (expr_same w v) (expr_same w u)
  expr_same w (LAnd q v u) = logic_same w v u (LAnd q v u) q _ _ _ _ _ (expr_same w v) (expr_same w u)
  expr_same w (LOr q v u) = logic_same w v u (LOr q v u) q _ _ _ _ _ (expr_same w v) (expr_same w u)
  expr_same w (LChoose q c v u) = both_same _ _ _ _ (expr_same w c) (both_same _ _ _ _ (expr_same w v) (both_same _ _ _ _ (expr_same w u)
      (rule_same _ _ _ _ q _ (ap₂ (λ a b. a && b) (some_same w c) (ap₂ (λ a b. a && b) (some_same w v) (some_same w u))) (typed_same w (LChoose q c v u)))))
  expr_same w (LCast q t v) = one_same w v (LCast q t v) q _ _ _ (expr_same w v)
  expr_same w (LSizeOf q t) = same_if _ _ q _ Incomplete refl
  expr_same w (LIndex q v u) = two_same w Add v u (LIndex q v u) q _ _ _ _ _ (expr_same w v) (expr_same w u)
  expr_same w (LMember q v x) = both_same _ _ _ _ (expr_same w v) (member_same w.scope _ _ q _ x _ _ _ (typed_same w v) (typed_same w (LMember q v x)))
  expr_same w (LArrow q v x) = both_same _ _ _ _ (expr_same w v) (arrow_same w.scope _ _ q _ x _ _ _ (typed_same w v) (typed_same w (LArrow q v x)))
  expr_same w (LCall q f vs) = ap (λ x. CallInside ∷ x) (both_same _ _ _ _ (called_same w f _ _ (expr_same w f))
      (both_same _ _ _ _ (number_same _ _ vs (first f) _ (callee_same w f vs))
      (args_same w (wanted (callee w f vs)) vs ∙ ap (λ c. rules_of (args_breaks w (wanted c) (all_moved vs))) (callee_same w f vs))))

  pub args_same : (w : Where) (ts : List Wanted) (es : LExprs) → rules_of (args_breaks w ts es) ≡ rules_of (args_breaks w ts (all_moved es))
  args_same w ts NoLExpr = refl
  args_same w [] (AndLExpr e es) = both_same _ _ _ _ (expr_same w e) (args_same w [] es)
  args_same w (t ∷ ts) (AndLExpr e es) = both_same _ _ _ _ (arg_same w t e _ _ (expr_same w e)) (args_same w ts es)

-- a call: what is called, and its arguments
pub call_same : (w : Where) (f : LExpr) (es : LExprs) → rules_of (call_breaks w f es) ≡ rules_of (call_breaks w (moved f) (all_moved es))
call_same w f es = both_same _ _ _ _ (called_same w f _ _ (expr_same w f))
    (both_same _ _ _ _ (number_same _ _ es (first f) _ (callee_same w f es))
    (args_same w (wanted (callee w f es)) es ∙ ap (λ c. rules_of (args_breaks w (wanted c) (all_moved es))) (callee_same w f es)))
