use Rattle.std.proofs.Common.{◌++◌, ◌^◌, ◌-◌, arith, refl, sym, ap, subst, ◌∙◌}
use Rattle.std.proofs.lemmas.List.{append-nil}
use Rattle.cpc_meaning.specs.Events.{callbacks}
use Rattle.cpc_meaning.specs.Machine.{try_step}
use Rattle.cpc_run.specs.States.{CameTo, Stands, program_in}
use Rattle.cpc_run.specs.Shorts.{Counts, IsBeyond}
use Rattle.cpc_run.proofs.Weighed.{turned_on, turned_over, turned_broke, made_full, behind_all}
use Rattle.cpc_run.proofs.looped.Loop.idles.Goals as goal

pub returns-in-Ok-Over-clause-made : goal.returns-in-Ok-Over-clause-made
returns-in-Ok-Over-clause-made g c = λ names fits sent s within stands.
    let l = c.args.self.now in
    let front = sent ++ c.args.pending.now.items in
    let none = sym (append-nil front) ∙ ap (λ t. front ++ t) (sym c.new-text.ensures.items) in
    let printed = front ++ c.schedules.new.pending.items in
    let o = try_step (callbacks (program_in names l)) s in
    turned_over names c.args.cap c.schedules.new.self s front printed front c.in-Ok-Over.outcome o
    (subst (λ x. CameTo names x c.schedules.new.self printed s o) c.in-Ok-Over.field-0-is (c.in-Ok-Over.ensures.did names fits front s within (subst (λ t. Stands names l t s) none stands))) refl

pub returns-in-Ok-Broke-clause-made : goal.returns-in-Ok-Broke-clause-made
returns-in-Ok-Broke-clause-made g c = λ names fits sent s within stands.
    let l = c.args.self.now in
    let front = sent ++ c.args.pending.now.items in
    let none = sym (append-nil front) ∙ ap (λ t. front ++ t) (sym c.new-text.ensures.items) in
    let printed = front ++ c.schedules.new.pending.items in
    let o = try_step (callbacks (program_in names l)) s in
    let more = c.in_ok-extend_from_slice-in-Ok-Broke.ensures.items ∙ ap (λ t. c.args.pending.now.items ++ t) c.as_slice.ensures.value in
    turned_broke names c.args.cap c.schedules.new.self s front printed (sent ++ c.extend_from_slice.new.self.items) c.in-Ok-Broke.fault c.in-Ok-Broke.function o
    (behind_all sent c.args.pending.now.items c.schedules.new.pending.items c.extend_from_slice.new.self.items more)
    (subst (λ x. CameTo names x c.schedules.new.self printed s o) c.in-Ok-Broke.field-0-is (c.in-Ok-Broke.ensures.did names fits front s within (subst (λ t. Stands names l t s) none stands)))

pub returns-in-Ok-On-clause-made : goal.returns-in-Ok-On-clause-made
returns-in-Ok-On-clause-made g c = λ names fits sent s within stands.
    let l = c.args.self.now in
    let front = sent ++ c.args.pending.now.items in
    let none = sym (append-nil front) ∙ ap (λ t. front ++ t) (sym c.new-text.ensures.items) in
    let printed = front ++ c.schedules.new.pending.items in
    let o = try_step (callbacks (program_in names l)) s in
    let more = c.in_ok-extend_from_slice-in-Ok-On.ensures.items ∙ ap (λ t. c.args.pending.now.items ++ t) c.as_slice-in-Ok-On.ensures.value in
    turned_on names c.args.cap c.schedules.new.self s front printed (sent ++ c.extend_from_slice-in-Ok-On.new.self.items) c.cells.result (2 ^ 64 - 1) o
    (behind_all sent c.args.pending.now.items c.schedules.new.pending.items c.extend_from_slice-in-Ok-On.new.self.items more)
    (subst (λ x. CameTo names x c.schedules.new.self printed s o) c.in-Ok-On.field-0-is (c.in-Ok-On.ensures.did names fits front s within (subst (λ t. Stands names l t s) none stands)))
    (λ t i. c.cells.ensures names printed t i) (omega (arith, c.requires.cap)) (c.in-Ok-On.ensures.capped names fits front s within stands)

pub returns-in-Err-Beyond-clause-made : goal.returns-in-Err-Beyond-clause-made
returns-in-Err-Beyond-clause-made g c = λ names fits sent s within stands.
    let l = c.args.self.now in
    let front = sent ++ c.args.pending.now.items in
    let o = try_step (callbacks (program_in names l)) s in
    made_full names c.args.cap c.schedules.new.self s front front c.in-Err-Beyond.cells o
    (subst (λ short. Counts (IsBeyond c.args.cap short) o) c.in-Err-Beyond.field-0-is (c.in-Err-Beyond.ensures.short names fits front s within stands)) refl
