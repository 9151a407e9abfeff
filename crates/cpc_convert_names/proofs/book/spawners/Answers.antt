use Rattle.std.proofs.Common.{◌+◌, map, ap, arith, refl}
use Rattle.cpc_tree.specs.Erase.{text_of}
use Rattle.cpc_convert_names.proofs.Growing.{grown_none, grown_more, spells_before}
use Rattle.cpc_convert_names.proofs.Copied.{reads_there, spawners_more}
use Rattle.cpc_convert_names.proofs.book.spawners.Goals as goal

pub loop-number-init : goal.loop-number-init
loop-number-init c = record { grown = grown_none _; are = λ to g s. ap (map (text_of to)) c.new-all.ensures.items }

pub loop-number-preserved : goal.loop-number-preserved
loop-number-preserved c = record {
  grown = grown_more _ _ _ c.loop-number.invariant.grown c.in_ok-name-in-Some.ensures.grown;
  are = λ to g s.
      let now = grown_more _ _ _ g c.loop-number.invariant.grown in
      let reads = reads_there c.args.source.now c.spawner.new.names to (record { 0 = c.loop-number.number }) c.in-Some.field-0.now (grown_more _ _ _ now c.in_ok-name-in-Some.ensures.grown) s c.in-Some.ensures.text in
      spawners_more c.args.source.now to c.loop-number.all.items c.push.new.self.items c.loop-number.number (c.loop-number.number + 1) (record { 0 = c.loop-number.number }) c.in_ok-name-in-Some.name c.in-Some.field-0.now
      c.in_ok-push-in-Some.ensures.items (c.loop-number.invariant.are to g (spells_before _ _ to c.in_ok-name-in-Some.ensures.grown s)) refl c.in-Some.ensures.text reads (c.in_ok-name-in-Some.ensures.is c.args.source.now to now s reads) (omega arith);
}
