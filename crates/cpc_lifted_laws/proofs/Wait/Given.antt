-- Arguments that come to values one by one in the source do so in the piece, as images, whatever the new frame of the call holds already.
use Rattle.std.proofs.Common.{◌≡◌, ℕ, List, [], ◌∷◌, ◌++◌, Some, ◌∙◌, ap, subst}
use Rattle.std.specs.List.{All}
use Rattle.cpc_base.specs.Bytes.{Text}
use Rattle.cpc_num.specs.declared.kinds.Fault.{Fault}
use Rattle.cpc_tree.specs.Syntax.{Ty, Expr, Exprs, NoExpr, AndExpr, Function, Program}
use Rattle.cpc_tree.specs.Typing.{Scope, named}
use Rattle.cpc_store.specs.declared.values.Class.TheVariants.{Frame}
use Rattle.cpc_store.specs.Store.{Value, Blocks, Store, alloc}
use Rattle.cpc_meaning.specs.Answer.{Answer, Gives, Faults, NoAnswer, ◌>>=◌}
use Rattle.cpc_meaning.specs.Eval.{Slot, Context, value}
use Rattle.cpc_meaning.proofs.Functions.{gives_then}
use Rattle.cpc_check_laws.specs.Kept.Fits.{FitAll}
use Rattle.cpc_convert_image_laws.specs.Held.{IsHeld, IsHeldSlot, IsHeldStore, beside}
use Rattle.cpc_convert_image_laws.specs.Images.{Readings, image, images}
use Rattle.cpc_meaning.specs.Names.{AllNames, AllNamesAmong}
use Rattle.cpc_convert_image_laws.specs.OneByOne as O
use Rattle.cpc_convert_image_laws.specs.Relations.{Common, Means}
use Rattle.cpc_convert_image_laws.proofs.Acts.{value_alike}
use Rattle.cpc_convert_image_laws.proofs.Answers as A
use Rattle.cpc_convert_image_laws.proofs.Live.{IsReadLive}
use Rattle.cpc_convert_flat_laws.specs.Locals.{at}
use Rattle.cpc_convert_flat_laws.proofs.Fits.{assigned_fits}
use Rattle.cpc_convert_routines.specs.Given.{GivesAll, NoneGiven, OneGiven, OneFaults, ThisFaults, NextFaults}

-- what a fault behind one value is
behind_value : (a : Answer (List Value)) (w : Value) (fault : Fault) → (a >>= λ ws. Gives (w ∷ ws)) ≡ Faults fault → a ≡ Faults fault
behind_value (Gives ws) w fault e = absurd (cc)
behind_value (Faults other) w fault e = let i : other ≡ fault = cc in ap (λ x. Faults x) i
behind_value NoAnswer w fault e = absurd (cc)

-- arguments that were converted fit
pub all_fit : (c : Context) (ts : List Ty) (es : Exprs) (a : Answer (List Value)) → O.OneByOne c ts es a → (vs : List Value) → a ≡ Gives vs → FitAll ts vs
all_fit c _ _ _ O.NoneLeft vs e = let i : [] ≡ vs = cc in subst (FitAll []) i tt
all_fit c _ _ _ (O.OneFaults t ts e es fault i) vs is = absurd (cc)
all_fit c _ _ _ (O.OneMore t ts e es v w a is_value is_assigned more) vs is =
    let k = gives_then a _ vs is in
    let i : w ∷ k.0 ≡ vs = let j = k.2 in cc in
    subst (FitAll (t ∷ ts)) i (assigned_fits t v w is_assigned, all_fit c ts es a more k.0 k.1)

module _ (C : Text → Type 0) (R : Function → Function → Type 0) (P : ℕ → Ty → ℕ → Type 0) (p q : Program) (common : Common C R p q) (L : Text → Type 0) (r : Readings) (scope scope' : Scope) (slots slots' : List Slot) (names : (x : Text) → L x → Means C P q scope' slots slots' x (r x) (named p scope x)) (s : Store) (source : IsHeldStore C s) (held : All (IsHeldSlot C) slots) (live : (x : Text) → IsReadLive s slots (r x)) (frames : Blocks) where
  abbrev here : Context
  here = at p scope slots s

  -- an expression that has a value has it in the piece, whatever the newest frame holds
  value_there : (e : Expr) → AllNames L e → (v : Value) → value here e ≡ Gives v → (cells : List Value) → value (at q scope' slots' (alloc Frame cells (beside frames s))) (image r e) ≡ Gives v
  value_there e l v is cells = (A.gives_then (IsHeld C) (value here e) _ v (value_alike C R P p q common L r scope scope' slots slots' names s source held live (frames ++ Some cells ∷ []) e l) is).0

  fault_there : (e : Expr) → AllNames L e → (fault : Fault) → value here e ≡ Faults fault → (cells : List Value) → value (at q scope' slots' (alloc Frame cells (beside frames s))) (image r e) ≡ Faults fault
  fault_there e l fault is cells = A.faults_then _ (value here e) _ fault (value_alike C R P p q common L r scope scope' slots slots' names s source held live (frames ++ Some cells ∷ []) e l) is

  -- all have values
  pub all_given : (ts : List Ty) (es : Exprs) (a : Answer (List Value)) → O.OneByOne here ts es a → AllNamesAmong L es → (vs : List Value) → a ≡ Gives vs → GivesAll q scope' slots' (beside frames s) ts (images r es) vs
  all_given _ _ _ O.NoneLeft l vs is = let i : [] ≡ vs = cc in subst (GivesAll q scope' slots' (beside frames s) [] NoExpr) i NoneGiven
  all_given _ _ _ (O.OneFaults t ts e es fault i) l vs is = absurd (cc)
  all_given _ _ _ (O.OneMore t ts e es v w a is_value is_assigned more) l vs is =
      let k = gives_then a _ vs is in
      let i : w ∷ k.0 ≡ vs = let j = k.2 in cc in
      subst (GivesAll q scope' slots' (beside frames s) (t ∷ ts) (AndExpr (image r e) (images r es))) i
      (OneGiven t v w ts (image r e) (images r es) k.0 (value_there e l.0 v is_value) is_assigned (all_given ts es a more l.1 k.0 k.1))

  -- or one faults
  pub one_faults : (ts : List Ty) (es : Exprs) (a : Answer (List Value)) → O.OneByOne here ts es a → AllNamesAmong L es → (fault : Fault) → a ≡ Faults fault → OneFaults q scope' slots' (beside frames s) fault ts (images r es)
  one_faults _ _ _ O.NoneLeft l fault is = absurd (cc)
  one_faults _ _ _ (O.OneFaults t ts e es other i) l fault is = let k : other ≡ fault = cc in ThisFaults t ts (image r e) (images r es) (fault_there e l.0 fault (i ∙ ap (λ x. Faults x) k))
  one_faults _ _ _ (O.OneMore t ts e es v w a is_value is_assigned more) l fault is =
      NextFaults t v w ts (image r e) (images r es) (value_there e l.0 v is_value) is_assigned (one_faults ts es a more l.1 fault (behind_value a w fault is))
