use Rattle.std.proofs.Common.{◌∙◌, map, ap}
use Rattle.std.proofs.lemmas.List.{take_all}
use Rattle.cpc_tree.specs.Erase.{field_of}
use Rattle.cpc_tree.specs.declared.program.Field as GField
use Rattle.cpc_tree.specs.Syntax.{Stmt, ENamed}
use Rattle.cpc_convert_flat_laws.specs.Locals.{saves_one}
use Rattle.cpc_chains_event.specs.Lines.{save_of}
use Rattle.cpc_convert_routines.specs.Names.{frame_name}
use Rattle.cpc_chains_lines.specs.Written.{written, puts}
use Rattle.cpc_convert_respawning.proofs.Growing.{mapped_twice}
use Rattle.cpc_chains_items.proofs.Putting.{put_more}
use Rattle.cpc_chains_items.proofs.spawning.save_all.Goals as goal

pub loop-argument-preserved : goal.loop-argument-preserved
loop-argument-preserved c = λ source to b.
    put_more (λ f. saves_one (ENamed frame_name) (save_of (field_of to f))) _ _ _ c.args.arguments.now c.loop-argument.argument-index c.argument-item.result c.loop-argument-test.true c.argument-item.is
    (c.loop-argument.invariant source to b) (c.in_ok-save.ensures source to b)

pub returns : goal.returns
returns c = λ source to b.
    let g : GField.Field → Stmt = λ f. saves_one (ENamed frame_name) (save_of (field_of to f)) in
    c.loop-argument.invariant source to b ∙ (ap (λ u. puts (written to c.args.out.now) (map g u)) (take_all _ c.args.arguments.now c.loop-argument-test.false)
    ∙ ap (puts (written to c.args.out.now)) (mapped_twice (saves_one (ENamed frame_name)) (λ f. save_of (field_of to f)) c.args.arguments.now ∙ ap (map (saves_one (ENamed frame_name))) (mapped_twice save_of (field_of to) c.args.arguments.now)))
