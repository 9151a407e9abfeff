use Rattle.std.proofs.Common.{◌≡◌, ◌∙◌, ℕ, Option, ap}
use Rattle.cpc_base.specs.Bytes.{Text}
use Rattle.cpc_tree.specs.Syntax.{Ty}
use Rattle.cpc_eval_locals.specs.Held.{Held}
use Rattle.cpc_eval_locals.specs.Marks.{own_after}
use Rattle.cpc_eval_locals.proofs.locals.outside.Goals as goal

begun : (x : Text) (n : ℕ) (held outer among : Held) (own known : Option (Text × Ty)) → held ≡ own_after x n outer own → outer ≡ among → own ≡ known → held ≡ own_after x n among known
begun x n held outer among own known after last is = after ∙ ap (λ (o : Held). own_after x n o own) last ∙ ap (own_after x n among) is

pub returns-clause-held : goal.returns-clause-held
returns-clause-held c = λ names told.
    let after = c.own_after-held.ensures names told.apart in
    let last = c.last_parameter-outer.ensures names told in
    let own = c.own_of-own.ensures names in
    begun _ _ _ _ _ _ _ after last own
