-- What one worker has of a list of completions.
use Rattle.std.proofs.Common.{◌≡◌, ◌≢◌, ℕ, ◌<◌, List, [], ◌∷◌, ◌++◌}
use Rattle.std.specs.List.{AllByRecursion}
use Rattle.cpc_pool_jobs.proofs.Lists.{had_mine, had_other, had_none}
use Rattle.cpc_pool_ends.specs.declared.done.Done.{Done}
use Rattle.cpc_pool_ends.specs.Views.{by}

module _ {J E : Type 0} where
  pub by_mine : (w : ℕ) (ds : List (Done J E)) (d : Done J E) → d.worker ≡ w → by w (ds ++ d ∷ []) ≡ by w ds ++ d ∷ []
  by_mine w ds d is = had_mine (λ (x : Done J E). x.worker) (λ (x : Done J E). x) w ds d is

  pub by_other : (w : ℕ) (ds : List (Done J E)) (d : Done J E) → d.worker ≢ w → by w (ds ++ d ∷ []) ≡ by w ds
  by_other w ds d other = had_other (λ (x : Done J E). x.worker) (λ (x : Done J E). x) w ds d other

  pub by_none : (w : ℕ) (ds : List (Done J E)) → AllByRecursion (λ (d : Done J E). d.worker < w) ds → by w ds ≡ []
  by_none w ds a = had_none (λ (x : Done J E). x.worker) (λ (x : Done J E). x) w ds a
