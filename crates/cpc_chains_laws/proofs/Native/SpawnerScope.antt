-- What names mean in a spawner: its parameters and its frame hide no name of an item.
use Rattle.std.proofs.Common.{◌≡◌, ℕ, suc, ◌<◌, ◌^◌, Bool, true, false, cond, List, [], ◌∷◌, map, decimal, bytes_eq, refl, sym, ◌∙◌, ap, codes, arith}
use Rattle.std.proofs.lemmas.Fmt.{decimal_is_IsNumeral}
use Rattle.cpc_base.specs.Bytes.{Text}
use Rattle.cpc_base.proofs.Truth.{bytes_eq_fails_back, not_under_ten}
use Rattle.cpc_tree.specs.Registers.{parameter_scope}
use Rattle.cpc_tree.specs.Syntax.{Variable, Program}
use Rattle.cpc_tree.specs.Typing.{Local, Scope, ALocal, named, item_named}
use Rattle.cpc_meaning.proofs.Functions.{texts_differ}
use Rattle.cpc_convert_common.specs.Marks.{has_marks}
use Rattle.cpc_convert_common.specs.Converted.{marked}
use Rattle.cpc_convert_common.proofs.Marks.{differs_marked, marked_is, no_bar_decimal, not_digits}
use Rattle.cpc_forms.specs.Flow.{Start}
use Rattle.cpc_chains_store_laws.specs.Driver.{drive_name}
use Rattle.cpc_convert_flat_laws.specs.Structs.{NotCalled, NoneSo, NotSo}
use Rattle.cpc_convert_routines.specs.Names.{piece_name, frame_name, variable_name}
use Rattle.cpc_chains_event.specs.Pieces.{parameter_of}
use Rattle.cpc_chains_event.proofs.Apart.{behind, piece_is, driver_is, no_underscore_behind, no_bar_nothing, piece_nothing}
use Rattle.cpc_chains_event.proofs.Fields.{word_apart, Rising, NoneRises, OneRises, variable_is}

-- ---- texts

-- a number is not spelled so
no_start : (n : ℕ) → n < 2 ^ 63 → decimal n ≡ codes "start" → ⊥
no_start n h k = not_digits 115 (decimal n) _ (not_under_ten 28 (omega arith)) (decimal_is_IsNumeral n (omega arith)).0.1 k

-- ---- names that no variable has

none_called : (y : Text) → ((k : ℕ) (x : Text) → k < 2 ^ 63 → has_marks x ≡ false → bytes_eq y (variable_name k x) ≡ false) → (low : ℕ) (vs : List Variable) → Rising low vs → NotCalled y vs
none_called y apart low _ (NoneRises _) = NoneSo
none_called y apart low _ (OneRises _ k x t vs l hk hx s r) = NotSo _ _ (apart k x hk hx) (none_called y apart (suc k) vs r)

module _ (low : ℕ) (vs : List Variable) (rising : Rising low vs) where
  pub no_plain : (y : Text) → has_marks y ≡ false → NotCalled y vs
  no_plain y hy = none_called y (λ k x hk hx. ap (bytes_eq y) (variable_is k x) ∙ differs_marked x (decimal k) y hy) low vs rising

  pub no_frame : NotCalled frame_name vs
  no_frame = none_called (marked (codes "e") []) (λ k x hk hx. word_apart (codes "e") k x refl hx hk) low vs rising

  pub no_driver : NotCalled drive_name vs
  no_driver = none_called drive_name (λ k x hk hx. ap (λ y. bytes_eq y (variable_name k x)) driver_is ∙ word_apart (codes "drive") k x refl hx hk) low vs rising

  pub no_piece : (f : Text) → has_marks f ≡ false → NotCalled (piece_name f Start) vs
  no_piece f hf =
      none_called (piece_name f Start) (λ k x hk hx. texts_differ (piece_name f Start) (variable_name k x)
      (λ (e : piece_name f Start ≡ variable_name k x). no_start k hk (sym (marked_is f x (behind Start) (decimal k) hf hx (no_underscore_behind Start) (no_bar_decimal k hk) (sym (piece_is f Start) ∙ e ∙ variable_is k x)).1))) low vs rising

-- nor has the frame
pub frame_piece : (f : Text) → has_marks f ≡ false → bytes_eq frame_name (piece_name f Start) ≡ false
frame_piece f hf =
    texts_differ (marked (codes "e") []) (piece_name f Start)
    (λ (e : marked (codes "e") [] ≡ piece_name f Start). piece_nothing Start (sym (marked_is (codes "e") f [] (behind Start) refl hf no_bar_nothing (no_underscore_behind Start) (e ∙ piece_is f Start)).1))

-- ---- scopes

-- a name that no parameter has
pub past : (q : Program) (y : Text) (k : ℕ) (xs : List Variable) (scope : Scope) → NotCalled y xs → named q (parameter_scope k (map parameter_of xs) scope) y ≡ named q scope y
past q y k _ scope NoneSo = refl
past q y k _ scope (NotSo v vs e more) =
    past q y (suc k) vs (record { called = v.called; type = v.type; slot = k } ∷ scope) more ∙ ap (λ b. cond b (ALocal k v.type) (named q scope y)) (bytes_eq_fails_back y v.called e)

-- nor the variable on top
pub past_both : (q : Program) (top : Local) (xs : List Variable) (y : Text) → bytes_eq top.called y ≡ false → NotCalled y xs → named q (top ∷ parameter_scope 0 (map parameter_of xs) []) y ≡ item_named 0 q y
past_both q top xs y e n = ap (λ b. cond b (ALocal top.slot top.type) (named q (parameter_scope 0 (map parameter_of xs) []) y)) e ∙ past q y 0 xs [] n

-- where a name means no variable in a program, it means an item in each
pub unhidden : (p q : Program) (scope : Scope) (x : Text) → ((k : ℕ) (t : _) → named p scope x ≡ ALocal k t → ⊥) → named q scope x ≡ item_named 0 q x
unhidden p q [] x none = refl
unhidden p q (l ∷ scope) x none = go (bytes_eq l.called x) none (unhidden p q scope x)
  where
    go : (b : Bool) → ((k : ℕ) (t : _) → cond b (ALocal l.slot l.type) (named p scope x) ≡ ALocal k t → ⊥) → (((k : ℕ) (t : _) → named p scope x ≡ ALocal k t → ⊥) → named q scope x ≡ item_named 0 q x) → cond b (ALocal l.slot l.type) (named q scope x) ≡ item_named 0 q x
    go true none rest = absurd (none l.slot l.type refl)
    go false none rest = rest none
