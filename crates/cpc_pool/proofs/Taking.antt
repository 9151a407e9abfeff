-- Completions of the same job, by their places.
use Rattle.std.proofs.Common.{◌≡◌, ℕ, zero, suc, ◌<◌, List, [], ◌∷◌, length, slice_get, Option, Some, sym, subst, arith}
use Rattle.std.specs.Prelude.{MatchOption}
use Rattle.cpc_pool_ends.specs.declared.done.Done.{Done}
use Rattle.cpc_pool.specs.Acts.{IsAt}

module _ {J E : Type 0} (same : J → J → Type 0) where
  abbrev Of : J → Option (Done J E) → Type 0
  Of j o = MatchOption o ⊥ (λ d. same d.job j)

  -- nothing stands behind the last
  pub none_behind : (ds : List (Done J E)) (at : ℕ) (j : J) → (at < length ds → ⊥) → IsAt same ds at j → ⊥
  none_behind [] at j none is = is
  none_behind (d ∷ ds) zero j none is = none (omega arith)
  none_behind (d ∷ ds) (suc at) j none is = none_behind ds at j (λ (h : at < length ds). none (omega (arith, h))) is

  -- the job of the completion that stands at a place
  pub at_place : (ds : List (Done J E)) (at : ℕ) (d : Done J E) (j : J) → slice_get ds at ≡ Some d → same d.job j → IsAt same ds at j
  at_place ds at d j e s = subst (Of j) (sym e) s

  pub of_place : (ds : List (Done J E)) (at : ℕ) (d : Done J E) (j : J) → slice_get ds at ≡ Some d → IsAt same ds at j → same d.job j
  of_place ds at d j e is = subst (Of j) e is
