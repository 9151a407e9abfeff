-- What follows the first expression of a statement: which token begins it, and what it makes of the statement.
use Rattle.std.proofs.Common.{◌≡◌, Bool, true, false, Option, Some, None, refl, inl, inr, ◌⊎◌}
use Rattle.cpc_base.specs.declared.stop.Place.{Place}
use Rattle.cpc_num.specs.declared.kinds.Op.{Op}
use Rattle.cpc_tree.specs.declared.token.Punctuator.{Punctuator}
use Rattle.cpc_tree.specs.declared.token.Punctuator.TheVariants as P
use Rattle.cpc_tree.specs.Tokens.{Lexeme, Mark}
use Rattle.cpc_tree.specs.StmtGrammar.{assigning, stepping}
use Rattle.cpc_parser_expressions.specs.Shapes.{Shape, Calling, Postfixed, Other, extra}
use Rattle.cpc_parser_statements.specs.SimpleReaders.{Simple, Begun, More, Sets, Updates, Steps, or_more, sets, updates, steps, more_mark, more_shape, more_class, more_left}

-- whether it is a call, and whether it is a postfix expression
abbrev pub was_call : Shape → Bool
was_call (Calling q v vs) = true
was_call (Postfixed v) = false
was_call (Other v) = false

abbrev pub is_post : Shape → Bool
is_post (Calling q v vs) = true
is_post (Postfixed v) = true
is_post (Other v) = false

pub shape_is : (s : Shape) (p : Punctuator) → more_shape s p ≡ more_mark (is_post s) (was_call s) p
shape_is (Calling q v vs) p = refl
shape_is (Postfixed v) p = refl
shape_is (Other v) p = refl

-- what each class says of the mark
abbrev pub Says : Bool → Bool → Punctuator → More → Type 0
Says post b p (Sets c) = (p ≡ P.Equal) × (c ≡ b)
Says post b p (Updates op c) = (assigning p ≡ Some op) × (c ≡ b)
Says post b p (Steps op c) = (post ≡ true) × (stepping p ≡ Some op) × (c ≡ b)

sets_say : (post b : Bool) (p : Punctuator) (c : More) → sets b p ≡ Some c → Says post b p c
sets_say post b P.Equal (Sets c) e = (refl, cc)
sets_say post b P.Equal c e = absurd cc
sets_say post b p c e = absurd cc

updates_say : (post b : Bool) (p : Punctuator) (c : More) (o : Option Op) → assigning p ≡ o → updates b o ≡ Some c → Says post b p c
updates_say post b p (Updates op c) (Some oq) i e = (cc, cc)
updates_say post b p c (Some oq) i e = absurd cc
updates_say post b p c None i e = absurd cc

steps_say : (post b : Bool) (p : Punctuator) (c : More) (o : Option Op) → stepping p ≡ o → steps post b o ≡ Some c → Says post b p c
steps_say true b p (Steps op c) (Some oq) i e = (refl, cc, cc)
steps_say true b p c (Some oq) i e = absurd cc
steps_say true b p c None i e = absurd cc
steps_say false b p c o i e = absurd cc

or_say : (first second : Option More) (c : More) → or_more first second ≡ Some c → (first ≡ Some c) ⊎ (second ≡ Some c)
or_say None second c e = inr e
or_say (Some d) second c e = inl e

mark_says : (post b : Bool) (p : Punctuator) (c : More) → more_mark post b p ≡ Some c → Says post b p c
mark_says post b p c e = elim (or_say (sets b p) (or_more (updates b (assigning p)) (steps post b (stepping p))) c e) [
  | inl a ↦ sets_say post b p c a
  | inr a ↦ elim (or_say (updates b (assigning p)) (steps post b (stepping p)) c a) [ inl i ↦ updates_say post b p c (assigning p) refl i | inr i ↦ steps_say post b p c (stepping p) refl i ]
]

-- what is begun goes on at a mark, and only that
pub class_says : (v : Simple) (k : Lexeme) (c : More) → more_class v k ≡ Some c → (q : Place) × (s : Shape) × (p : Punctuator) × (v ≡ Begun q s) × (k ≡ Mark p) × Says (is_post s) (was_call s) p c
class_says (Begun q (Calling o v vs)) (Mark p) c e = (q, Calling o v vs, p, refl, refl, mark_says true true p c e)
class_says (Begun q (Postfixed v)) (Mark p) c e = (q, Postfixed v, p, refl, refl, mark_says true false p c e)
class_says (Begun q (Other v)) (Mark p) c e = (q, Other v, p, refl, refl, mark_says false false p c e)
class_says v k c e = absurd cc

-- and back
pub equal_class : (post b : Bool) → more_mark post b P.Equal ≡ Some (Sets b)
equal_class post b = refl

update_class : (post b : Bool) (p : Punctuator) (op : Op) → sets b p ≡ None → assigning p ≡ Some op → more_mark post b p ≡ Some (Updates op b)
update_class post b p op n e = rw (n, e) refl

no_equal : (b : Bool) (p : Punctuator) (op : Op) → assigning p ≡ Some op → sets b p ≡ None
no_equal b P.Equal op e = absurd cc
no_equal b p op e = refl

pub assign_class : (post b : Bool) (p : Punctuator) (op : Op) → assigning p ≡ Some op → more_mark post b p ≡ Some (Updates op b)
assign_class post b p op e = update_class post b p op (no_equal b p op e) e

pub step_class : (b : Bool) (p : Punctuator) (op : Op) → stepping p ≡ Some op → more_mark true b p ≡ Some (Steps op b)
step_class b P.Increment op e = cc
step_class b P.Decrement op e = cc
step_class b p op e = absurd cc

-- a call counts one more as an expression
pub left_extra : (s : Shape) → (b : Bool) → b ≡ was_call s → (op : Op) → (more_left (Sets b) ≡ extra s) × (more_left (Updates op b) ≡ extra s) × (more_left (Steps op b) ≡ extra s)
left_extra (Calling q v vs) true e op = (refl, refl, refl)
left_extra (Calling q v vs) false e op = absurd cc
left_extra (Postfixed v) false e op = (refl, refl, refl)
left_extra (Postfixed v) true e op = absurd cc
left_extra (Other v) false e op = (refl, refl, refl)
left_extra (Other v) true e op = absurd cc
