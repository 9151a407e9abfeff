-- A callback of what code asks with, and rows of one.
use Rattle.std.proofs.Common.{◌≡◌, ◌<◌, List, [], ◌∷◌, length, get_or, refl, ap, ◌∙◌, arith}
use Rattle.cpc_base.specs.declared.names.Name.{Name}
use Rattle.cpc_tree.specs.Erase.{Names}
use Rattle.cpc_tree.specs.Primitives.{RtDetach}
use Rattle.cpc_store.specs.declared.values.Value as V
use Rattle.cpc_meaning.specs.Events.{CallWith}
use Rattle.cpc_eval_values.specs.Shown.{value_of}
use Rattle.cpc_run.specs.Going.{HasCallback}
use Rattle.cpc_run_code.specs.declared.items.Callback.{Callback}
use Rattle.cpc_run_code.specs.declared.items.Item.TheVariants as I
use Rattle.cpc_run.specs.States.{callback_of}

-- the callback of a function with a pointer
pub callback_is : (names : Names) (c : Callback) (f : Name) (v : V.Value) → c.function ≡ f → c.pointer ≡ v → callback_of names (I.With c) ≡ CallWith (names f) (value_of names v)
callback_is names c f v e h = ap (λ x. CallWith (names x) (value_of names c.pointer)) e ∙ ap (λ y. CallWith (names f) (value_of names y)) h

-- a row of one
pub one_is : {X : Type 0} (xs : List X) (d : X) → length xs ≡ 1 → get_or xs 0 d ∷ [] ≡ xs
one_is [] d h = absurd (omega (arith, h))
one_is (x ∷ []) d h = refl
one_is (x ∷ y ∷ xs) d h = absurd (omega (arith, h))

-- a section is asked for with three values or more
pub detach_many : (vs : List V.Value) → length vs < 3 → HasCallback RtDetach vs → ⊥
detach_many [] h k = k
detach_many (v ∷ []) h k = k
detach_many (v ∷ w ∷ []) h k = k
detach_many (v ∷ w ∷ x ∷ vs) h k = absurd (omega (arith, h))
