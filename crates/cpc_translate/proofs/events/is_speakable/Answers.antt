use Rattle.cpc_translate.proofs.Speakable.{read_is_speakable}
use Rattle.cpc_translate.proofs.events.is_speakable.Goals as goal

pub returns : goal.returns
returns c = read_is_speakable c.args.source.now c.requires.read c.requires.within c.are_distinct.ensures
