-- The fields of frames are scalar, and their names are apart.
use Rattle.std.proofs.Common.{◌≡◌, ℕ, zero, suc, ◌+◌, ◌<◌, ◌≤◌, ◌^◌, Bool, true, false, not, cond, List, [], ◌∷◌, ◌++◌, map, length, get_or, slice_get, decimal, bytes_eq, Some, refl, sym, ◌∙◌, ap, subst, codes, arith}
use Rattle.std.proofs.lemmas.Option.{slice_get-get_or}
use Rattle.cpc_base.specs.Bytes.{Text}
use Rattle.cpc_base.proofs.Truth.{and_both}
use Rattle.cpc_tree.specs.Lists.{holds_number}
use Rattle.cpc_tree.specs.Syntax.{Ty, TyVoid, Variable, Function, Program}
use Rattle.cpc_tree.specs.Typing.{is_scalar}
use Rattle.cpc_tree.specs.Registers.{variables, as_variable, is_register, addressed}
use Rattle.cpc_tree.specs.Points.{locals}
use Rattle.cpc_meaning.proofs.Functions.{texts_differ}
use Rattle.cpc_convert_common.specs.Marks.{has_marks}
use Rattle.cpc_convert_common.specs.Converted.{marked}
use Rattle.cpc_convert_common.proofs.Marks.{marked_is, no_bar_decimal, decimal_is, bar_piece}
use Rattle.cpc_convert_image_laws.specs.Locals.{local_type}
use Rattle.cpc_forms.specs.Flow.{Place}
use Rattle.cpc_lift_laws.specs.Boxes.{is_box, has_block, is_box_in}
use Rattle.cpc_lift_laws.specs.Search.{Link, keepers, closure_from}
use Rattle.cpc_lift_laws.specs.Lift.{boxes}
use Rattle.cpc_lift_laws.proofs.Lift.{boxes_exact}
use Rattle.cpc_convert_flat_laws.specs.Structs.{NotCalled, NoneSo, NotSo, ScalarFields, NoFields, AndField}
use Rattle.cpc_chains_store_laws.specs.Driver.{head_fields}
use Rattle.cpc_convert_routines.specs.Names.{box_tag, variable_name}
use Rattle.cpc_convert_routines.specs.Routines.{routine_of, closure_of, is_plain, variable_or, stood_variable, local_of, locals_of, variable_if, passed_from, passed}
use Rattle.cpc_convert_routines.specs.Named.{IsNamed, IsCps}

-- ---- names

pub variable_is : (k : ℕ) (x : Text) → variable_name k x ≡ marked x (decimal k)
unfolding variable_name
variable_is k x = refl

-- variables of different numbers
pub variables_apart : (j k : ℕ) (x y : Text) → j < 2 ^ 63 → k < 2 ^ 63 → has_marks x ≡ false → has_marks y ≡ false → (j ≡ k → ⊥) → bytes_eq (variable_name j x) (variable_name k y) ≡ false
variables_apart j k x y hj hk hx hy d =
    texts_differ (variable_name j x) (variable_name k y)
    (λ (e : variable_name j x ≡ variable_name k y). d (decimal_is j k hj hk (marked_is x y (decimal j) (decimal k) hx hy (no_bar_decimal j hj) (no_bar_decimal k hk) (sym (variable_is j x) ∙ e ∙ variable_is k y)).1))

-- a word and a variable
pub word_apart : (w : Text) (k : ℕ) (x : Text) → has_marks w ≡ false → has_marks x ≡ false → k < 2 ^ 63 → bytes_eq (marked w []) (variable_name k x) ≡ false
word_apart w k x hw hx h = ap (bytes_eq (marked w [])) (variable_is k x) ∙ bar_piece w x k hw hx h

-- ---- fields with numbers

-- scalar fields that are called by variables and their numbers, which rise from this one on
pub data Rising : ℕ → List Variable → Type 0 where
  NoneRises : (low : ℕ) → Rising low []
  OneRises : (low k : ℕ) (x : Text) (t : Ty) (vs : List Variable) → low ≤ k → k < 2 ^ 63 → has_marks x ≡ false → is_scalar t ≡ true → Rising (suc k) vs → Rising low (record { called = variable_name k x; type = t } ∷ vs)

-- also from a lower number on
rising_lower : (low high : ℕ) (vs : List Variable) → low ≤ high → Rising high vs → Rising low vs
rising_lower low high _ h (NoneRises _) = NoneRises low
rising_lower low high _ h (OneRises _ k x t vs l hk hx s r) = OneRises low k x t vs (omega arith) hk hx s r

not_later : (j : ℕ) (x : Text) (low : ℕ) (vs : List Variable) → j < low → j < 2 ^ 63 → has_marks x ≡ false → Rising low vs → NotCalled (variable_name j x) vs
not_later j x low _ h hj hx (NoneRises _) = NoneSo
not_later j x low _ h hj hx (OneRises _ k y t vs l hk hy s r) = NotSo _ _ (variables_apart j k x y hj hk hx hy (λ e. absurd (omega arith))) (not_later j x (suc k) vs (omega arith) hj hx r)

no_word : (w : Text) (low : ℕ) (vs : List Variable) → has_marks w ≡ false → Rising low vs → NotCalled (marked w []) vs
no_word w low _ hw (NoneRises _) = NoneSo
no_word w low _ hw (OneRises _ k y t vs l hk hy s r) = NotSo _ _ (word_apart w k y hw hy hk) (no_word w (suc k) vs hw r)

rising_fields : (low : ℕ) (vs : List Variable) → Rising low vs → ScalarFields vs
rising_fields low _ (NoneRises _) = NoFields
rising_fields low _ (OneRises _ k x t vs l hk hx s r) = AndField _ _ s (not_later k x (suc k) vs (omega arith) hk hx r) (rising_fields (suc k) vs r)

-- the fields of a frame
pub frame_fields : (t : Ty) (low : ℕ) (vs : List Variable) → is_scalar t ≡ true → Rising low vs → ScalarFields (head_fields t vs)
frame_fields t low vs s r =
    AndField _ _ refl (NotSo _ _ refl (NotSo _ _ refl (no_word (codes "code") low vs refl r)))
    (AndField _ _ refl (NotSo _ _ refl (no_word (codes "next") low vs refl r)) (AndField _ _ s (no_word (codes "value") low vs refl r) (rising_fields low vs r)))

-- those behind its head
pub fields_behind : (t : Ty) (vs : List Variable) → ScalarFields (head_fields t vs) → ScalarFields vs
fields_behind t vs (AndField _ _ _ _ (AndField _ _ _ _ (AndField _ _ _ _ s))) = s

-- ---- parameters

-- no more are passed than there are variables
pub passed_length : (k n : ℕ) (xs : List Variable) → length (passed_from k n xs) ≤ length xs
passed_length k zero xs = omega arith
passed_length k (suc n) [] = omega arith
passed_length k (suc n) (x ∷ xs) = go (is_scalar x.type) (passed_length (suc k) n xs)
  where
    go : (b : Bool) → length (passed_from (suc k) n xs) ≤ length xs → length (variable_if b (record { called = variable_name k x.called; type = x.type }) (passed_from (suc k) n xs)) ≤ suc (length xs)
    go true h = omega (arith, h)
    go false h = omega (arith, h)

-- those from the k-th on
passed_rises : (k count : ℕ) (xs : List Variable) → k + count < 2 ^ 63 → ((j : ℕ) (x : Variable) → slice_get xs j ≡ Some x → has_marks x.called ≡ false) → Rising k (passed_from k count xs)
passed_rises k zero xs h names = NoneRises k
passed_rises k (suc n) [] h names = NoneRises k
passed_rises k (suc n) (x ∷ xs) h names = go (is_scalar x.type) refl (passed_rises (suc k) n xs (omega arith) (λ j y e. names (suc j) y e))
  where
    go : (b : Bool) → is_scalar x.type ≡ b → Rising (suc k) (passed_from (suc k) n xs) → Rising k (variable_if b (record { called = variable_name k x.called; type = x.type }) (passed_from (suc k) n xs))
    go true e r = OneRises k k x.called x.type _ (omega arith) (omega arith) (names 0 x refl) e r
    go false e r = rising_lower k (suc k) _ (omega arith) r

-- ---- variables that are kept

pub local_scalar : (b : Bool) (t : Ty) (tag : Text) → (b ≡ true → is_scalar t ≡ true) → is_scalar (local_type b t tag) ≡ true
local_scalar true t tag h = h refl
local_scalar false t tag h = refl

module _ (p : Program) (ok : IsNamed p) (f : Function) (c : IsCps p f) where
  -- a register is scalar
  pub plain_scalar : (k : ℕ) (x : Variable) → slice_get (variables f) k ≡ Some x → is_plain (routine_of p f) k ≡ true → is_scalar x.type ≡ true
  plain_scalar k x e h = (and_both (is_scalar x.type) (not (holds_number (addressed f) k)) (by_box (is_register f k x) refl)).0
    where
      is_boxed : is_box p f.called k ≡ not (is_register f k x)
      is_boxed = ap (λ o. is_box_in o k) (ok.found f c.has) ∙ ap (has_block f k) e

      not_held : (b : Bool) → holds_number (boxes p f.called) k ≡ b → not b ≡ true → b ≡ true → ⊥
      not_held true g i j = absurd (cc)
      not_held false g i j = absurd (cc)

      by_box : (b : Bool) → is_register f k x ≡ b → b ≡ true
      by_box true g = refl
      by_box false g =
          let boxed : is_box p f.called k ≡ true = is_boxed ∙ ap not g in
          let held : holds_number (boxes p f.called) k ≡ true = (boxes_exact p f.called k).1 boxed in
          absurd (not_held (holds_number (boxes p f.called) k) refl h held)

  -- those of a closure
  closure_rises : (ways uses : List Link) (l k n : ℕ) → k + n ≤ length (variables f) → Rising k (locals_of (routine_of p f) (closure_from ways uses l k n))
  closure_rises ways uses l k zero h = NoneRises k
  closure_rises ways uses l k (suc n) h = go (holds_number (keepers ways uses k) l) (closure_rises ways uses l (suc k) n (omega arith))
    where
      there : (x : Variable) → slice_get (variables f) k ≡ Some x → Rising (suc k) (locals_of (routine_of p f) (closure_from ways uses l (suc k) n)) → Rising k (stood_variable (routine_of p f) k x ∷ locals_of (routine_of p f) (closure_from ways uses l (suc k) n))
      there x e r =
          let few = ok.few f c.has in
          OneRises k k x.called (local_type (is_plain (routine_of p f) k) x.type (box_tag f.called k)) _ (omega arith) (let z : k < 2 ^ 63 = omega (arith, few, h) in z) (ok.unmarked_variables f c.has k x e)
          (local_scalar (is_plain (routine_of p f) k) x.type (box_tag f.called k) (plain_scalar k x e)) r

      here : Rising (suc k) (locals_of (routine_of p f) (closure_from ways uses l (suc k) n)) → Rising k (local_of (routine_of p f) k ∷ locals_of (routine_of p f) (closure_from ways uses l (suc k) n))
      here r =
          let nothing : Variable = record { called = []; type = TyVoid } in
          let e = slice_get-get_or (variables f) k nothing (let z : k < length (variables f) = omega (arith, h) in z) in
          subst (λ o. Rising k (stood_variable (routine_of p f) k (variable_or o) ∷ locals_of (routine_of p f) (closure_from ways uses l (suc k) n))) (sym e) (there (get_or (variables f) k nothing) e r)

      go : (b : Bool) → Rising (suc k) (locals_of (routine_of p f) (closure_from ways uses l (suc k) n))
          → Rising k (locals_of (routine_of p f) (cond b (k ∷ closure_from ways uses l (suc k) n) (closure_from ways uses l (suc k) n)))
      go true r = here r
      go false r = rising_lower k (suc k) _ (omega arith) r

  pub kept_rises : (l : Place) → Rising 0 (locals_of (routine_of p f) (closure_of (routine_of p f) l))
  kept_rises l = closure_rises _ _ _ 0 (length (variables f)) (omega arith)

  -- the parameters of a call
  pub passed_rise : Rising 0 (passed f)
  passed_rise = passed_rises 0 (length f.parameters) (variables f) (omega (arith, ok.few f c.has, parameters_first)) (ok.unmarked_variables f c.has)
    where
      counted : {X Y : Type 0} (g : X → Y) (xs : List X) (ys : List Y) → length xs ≤ length (map g xs ++ ys)
      counted g [] ys = omega arith
      counted g (x ∷ xs) ys = let h = counted g xs ys in omega (arith, h)

      parameters_first : length f.parameters ≤ length (variables f)
      parameters_first = counted as_variable f.parameters (locals f.body)
