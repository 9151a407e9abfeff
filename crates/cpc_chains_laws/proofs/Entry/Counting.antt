-- How many statements the start of a function has before its rows, by the number of the function's variables.
use Rattle.std.proofs.Common.{◌≡◌, ℕ, zero, suc, ◌+◌, ◌*◌, ◌≤◌, Bool, true, false, not, ◌&&◌, cond, List, [], ◌∷◌, length, refl, sym, ◌∙◌, ap, arith}
use Rattle.cpc_base.specs.Bytes.{Text}
use Rattle.cpc_base.proofs.Truth.{and_first, and_with_false}
use Rattle.cpc_base.proofs.Lists.{length_of_map, length_of_append}
use Rattle.cpc_tree.specs.Lists.{holds_number}
use Rattle.cpc_tree.specs.Registers.{variables}
use Rattle.cpc_tree.specs.Syntax.{Function, Program}
use Rattle.cpc_tree.specs.Typing.{is_scalar}
use Rattle.cpc_forms.specs.Flow.{Start}
use Rattle.cpc_lift_laws.specs.Boxes.{is_box}
use Rattle.cpc_lift_laws.specs.Lift.{boxes_from}
use Rattle.cpc_lift_laws.specs.Search.{Link, keepers, closure_from}
use Rattle.cpc_lift_laws.proofs.Lift.{boxes_exact}
use Rattle.cpc_convert_routines.specs.Named.{IsNamed, IsCps}
use Rattle.cpc_chains_event.specs.Pieces.{load_of, loads_of, loaded, words_of, begun, declares_of, box_lines, fills_if, boxing_lines, boxing_of}
use Rattle.cpc_convert_routines.specs.Routines.{Routine, routine_of, is_plain, is_parameter, number_before, chosen, closure_of, owner_number, keeper, locals_of, local_of, variable_of}
use Rattle.cpc_chains_event.proofs.Locals.{counted}
use Rattle.cpc_chains_laws.proofs.Entry.Resuming.{words_of_number}

-- of some numbers in a row those of which one or the other of two tests holds, and those of which a third holds: no two at once
module _ (p : Program) (f : Text) (ways uses : List Link) (l : ℕ) (a c : ℕ → Bool) (out : (k : ℕ) → is_box p f k ≡ true → (a k ≡ false) × (c k ≡ false)) (apart : (k : ℕ) → a k ≡ true → c k ≡ false) where
  shared : (k n : ℕ) → (length (chosen a (closure_from ways uses l k n)) + length (chosen c (closure_from ways uses l k n))) + length (boxes_from p f k n) ≤ n
  shared k zero = omega arith
  shared k (suc n) = go (holds_number (keepers ways uses k) l) (is_box p f k) refl (a k) refl (c k) refl (shared (suc k) n)
    where
      ks : List ℕ
      ks = closure_from ways uses l (suc k) n

      bs : List ℕ
      bs = boxes_from p f (suc k) n

      Few : List ℕ → List ℕ → ℕ → Type 0
      Few ks bs m = (length (chosen a ks) + length (chosen c ks)) + length bs ≤ m

      more : (b d : Bool) (js is : List ℕ) → a k ≡ b → c k ≡ d → length (chosen a js) ≡ length (chosen a js) → length (number_before b k (chosen a js)) + length (number_before d k (chosen c js)) ≡ length (chosen a (k ∷ js)) + length (chosen c (k ∷ js))
      more b d js is e g h = ap (λ x. length (number_before x k (chosen a js)) + length (number_before d k (chosen c js))) (sym e) ∙ ap (λ x. length (number_before (a k) k (chosen a js)) + length (number_before x k (chosen c js))) (sym g)

      go : (kept box : Bool) → is_box p f k ≡ box → (b : Bool) → a k ≡ b → (d : Bool) → c k ≡ d → Few ks bs n → Few (cond kept (k ∷ ks) ks) (cond box (k ∷ bs) bs) (suc n)
      go false false x b e d g h = omega (arith, h)
      go false true x b e d g h = omega (arith, h)
      go true box x true e true g h = let z : true ≡ false = sym g ∙ apart k e in absurd (cc)
      go true true x true e false g h = let z : true ≡ false = sym e ∙ (out k x).0 in absurd (cc)
      go true true x false e true g h = let z : true ≡ false = sym g ∙ (out k x).1 in absurd (cc)
      go true true x false e false g h = let m = more false false ks bs e g refl in omega (arith, h, m)
      go true false x true e false g h = let m = more true false ks bs e g refl in omega (arith, h, m)
      go true false x false e true g h = let m = more false true ks bs e g refl in omega (arith, h, m)
      go true false x false e false g h = let m = more false false ks bs e g refl in omega (arith, h, m)

module _ (p : Program) (ok : IsNamed p) (f : Function) (cps : IsCps p f) where
  abbrev r : Routine
  r = routine_of p f

  abbrev passes : ℕ → Bool
  passes k = is_parameter f k && is_plain r k

  abbrev begins : ℕ → Bool
  begins k = not (is_parameter f k) && is_plain r k

  not_boxed : (k : ℕ) → is_box p f.called k ≡ true → (passes k ≡ false) × (begins k ≡ false)
  not_boxed k e =
      let boxed : is_plain r k ≡ false = ap not ((boxes_exact p f.called k).1 e) in
      (ap (λ b. is_parameter f k && b) boxed ∙ and_with_false (is_parameter f k), ap (λ b. not (is_parameter f k) && b) boxed ∙ and_with_false (not (is_parameter f k)))

  -- the variables that the start loads, those that it begins, and its boxes
  pub variables_shared : (length (loaded r Start) + length (chosen begins (closure_of r Start))) + length r.boxes ≤ length (variables f)
  variables_shared =
      let all = shared p f.called r.ways r.uses (owner_number (keeper r.split Start)) passes begins not_boxed (λ k e. ap (λ b. not b && is_plain r k) (and_first (is_parameter f k) (is_plain r k) e)) 0 (length (variables f)) in
      let same : length r.boxes ≡ length (boxes_from p f.called 0 (length (variables f))) = ap (λ n. length (boxes_from p f.called 0 n)) (counted p ok f cps) in
      omega (arith, all, same)

  fills_number : (b : Bool) (x y : Text) → length (fills_if b x y) ≤ 1
  fills_number true x y = omega arith
  fills_number false x y = omega arith

  boxing_number : (ks : List ℕ) → length (boxing_lines r ks) ≤ 2 * length ks
  boxing_number [] = omega arith
  boxing_number (k ∷ ks) =
      let e = length_of_append (box_lines r k (variable_of r k)) (boxing_lines r ks) in
      let g = fills_number (is_parameter f k && is_scalar (variable_of r k).type) (local_of r k).called (variable_of r k).called in
      let h = boxing_number ks in
      omega (arith, e, g, h)

  -- the steps of the opening of the start
  -- the locals of the start
  pub start_locals : suc (suc (length (loads_of p r Start) + length (declares_of p r Start))) ≤ 7 + length (variables f)
  start_locals =
      let a = variables_shared in
      let b = length_of_map load_of (locals_of r (loaded r Start)) in
      let c = length_of_map (local_of r) (loaded r Start) in
      let d = length_of_append (words_of p r Start) (locals_of r (begun r Start)) in
      let e = length_of_map (local_of r) (begun r Start) in
      let g = length_of_append (chosen begins (closure_of r Start)) r.boxes in
      let h = words_of_number p r Start in
      omega (arith, a, b, c, d, e, g, h)

  pub start_number : suc (length (loads_of p r Start) + length (declares_of p r Start)) + (length (boxing_of r Start) + 1) ≤ 6 + 3 * length (variables f)
  start_number =
      let a = variables_shared in
      let b = length_of_map load_of (locals_of r (loaded r Start)) in
      let c = length_of_map (local_of r) (loaded r Start) in
      let d = length_of_append (words_of p r Start) (locals_of r (begun r Start)) in
      let e = length_of_map (local_of r) (begun r Start) in
      let g = length_of_append (chosen begins (closure_of r Start)) r.boxes in
      let h = words_of_number p r Start in
      let i = boxing_number r.boxes in
      omega (arith, a, b, c, d, e, g, h, i)
