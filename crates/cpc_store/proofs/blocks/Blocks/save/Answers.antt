use Rattle.std.proofs.Common.{◌≡◌, ap, sym, ◌∙◌, subst, refl}
use Rattle.std.proofs.lemmas.Result.{on_err_weaker}
use Rattle.std.specs.Prelude.{nat_eq, slice_get, IsSome, OnErr}
use Rattle.std.specs.HashMap as hash
use Rattle.cpc_store.specs.Store as S
use Rattle.cpc_store.specs.Seen.{seen, result_with}
use Rattle.cpc_store.specs.Blocks.{seen_block, blocks_seen, IsClass}
use Rattle.cpc_store.proofs.BlockLemmas.{live_is, IsClass-saved, result-saved, blocks_seen-kept}
use Rattle.cpc_store.proofs.blocks.Blocks.save.Goals as goal
use Rattle.cpc_store.proofs.blocks.Blocks.save.Goals.{in-Some, in-None}

pub invariant_of-self : goal.invariant_of-self
invariant_of-self c =
    elim c.match-get_mut.branch [
      | in-Some w ↦ (let u = ((c.get_mut.follows.holds w.save_cell.new.cells).3 (subst IsSome w.in-Some.ensures.value refl)).0 in
          subst (λ inside. IsClass inside.made (hash.get nat_eq inside.live)) (sym w.self-inside-is)
          (IsClass-saved c.self.inside.made (hash.get nat_eq c.self.inside.live) (hash.get nat_eq (c.get_mut.follows.lender w.save_cell.new.cells)) c.args.number w.in-Some.cells.now w.save_cell.new.cells c.self.invariant (sym w.in-Some.ensures.value) u w.save_cell.ensures.lawful))
      | in-None w ↦ subst (λ inside. IsClass inside.made (hash.get nat_eq inside.live)) (sym (w.self-inside-is ∙ ap (λ live. record { made = c.self.inside.made; live = live }) c.get_mut.follows.holds-at-none)) c.self.invariant
    ]

pub returns-clause-value : goal.returns-clause-value
returns-clause-value c =
    elim c.match-get_mut.branch [
      | in-Some w ↦ (let u = ((c.get_mut.follows.holds w.save_cell.new.cells).3 (subst IsSome w.in-Some.ensures.value refl)).0 in
          subst (λ inside. result_with (blocks_seen inside.made (hash.get nat_eq inside.live)) c.match-get_mut.result ≡ S.save_in (S.live (slice_get c.args.self.now c.args.number)) c.args.self.now c.args.number c.args.offset (seen c.args.value)) (sym w.self-inside-is)
          (subst (λ r. result_with (blocks_seen c.self.inside.made (hash.get nat_eq (c.get_mut.follows.lender w.save_cell.new.cells))) r ≡ S.save_in (S.live (slice_get c.args.self.now c.args.number)) c.args.self.now c.args.number c.args.offset (seen c.args.value)) (sym w.result-is)
          (result-saved c.self.inside.made (hash.get nat_eq c.self.inside.live) (hash.get nat_eq (c.get_mut.follows.lender w.save_cell.new.cells)) c.args.self.now c.args.number c.args.offset c.args.value w.in-Some.cells.now w.save_cell.new.cells w.save_cell.result c.self.view_is c.self.invariant (sym w.in-Some.ensures.value) u w.save_cell.ensures.value)))
      | in-None w ↦ (let l = live_is c.self.inside.made (hash.get nat_eq c.self.inside.live) c.args.self.now c.args.number c.self.view_is c.self.invariant ∙ ap seen_block (sym w.in-None.ensures.value) in
          ap (result_with (blocks_seen c.match-get_mut.self-inside.made (hash.get nat_eq c.match-get_mut.self-inside.live))) w.result-is ∙ sym (ap (λ cells. S.save_in cells c.args.self.now c.args.number c.args.offset (seen c.args.value)) l))
    ]

pub returns-clause-err : goal.returns-clause-err
returns-clause-err c =
    elim c.match-get_mut.branch [
      | in-Some w ↦ (let u = ((c.get_mut.follows.holds w.save_cell.new.cells).3 (subst IsSome w.in-Some.ensures.value refl)).0 in
          subst (λ inside. OnErr c.match-get_mut.result (blocks_seen inside.made (hash.get nat_eq inside.live) ≡ c.args.self.now)) (sym w.self-inside-is)
          (subst (λ r. OnErr r (blocks_seen c.self.inside.made (hash.get nat_eq (c.get_mut.follows.lender w.save_cell.new.cells)) ≡ c.args.self.now)) (sym w.result-is)
          (on_err_weaker w.save_cell.result (blocks_seen-kept c.self.inside.made (hash.get nat_eq c.self.inside.live) (hash.get nat_eq (c.get_mut.follows.lender w.save_cell.new.cells)) c.args.self.now c.args.number w.in-Some.cells.now w.save_cell.new.cells c.self.view_is c.self.invariant (sym w.in-Some.ensures.value) u) w.save_cell.ensures.err)))
      | in-None w ↦ (let same : blocks_seen c.match-get_mut.self-inside.made (hash.get nat_eq c.match-get_mut.self-inside.live) ≡ c.args.self.now
          = ap (λ inside. blocks_seen inside.made (hash.get nat_eq inside.live)) (w.self-inside-is ∙ ap (λ live. record { made = c.self.inside.made; live = live }) c.get_mut.follows.holds-at-none) ∙ c.self.view_is in
          subst (λ r. OnErr r (blocks_seen c.match-get_mut.self-inside.made (hash.get nat_eq c.match-get_mut.self-inside.live) ≡ c.args.self.now)) (sym w.result-is) same)
    ]
