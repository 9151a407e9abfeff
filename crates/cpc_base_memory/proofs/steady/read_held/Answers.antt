use Rattle.std.proofs.Common.{◌≡◌, Some, refl}
use Rattle.cpc_base_memory.specs.Memory.{files_of}
use Rattle.cpc_base_memory.proofs.MemoryLemmas.{held_never_rises, if_ok_told}
use Rattle.cpc_base_memory.proofs.steady.read_held.Goals as goal

pub returns-clause-whole : goal.returns-clause-whole
returns-clause-whole c =
    if_ok_told (λ files bytes. files c.args.name.now ≡ Some bytes.items) (files_of c.args.shelf.now.files) c.read_file.result c.read_file.ensures.whole

pub returns-clause-too_long : goal.returns-clause-too_long
returns-clause-too_long c = λ long. c.read_file.ensures.too_long long (files_of c.args.shelf.now.files) refl

pub returns-clause-read : goal.returns-clause-read
returns-clause-read c = λ fails.
    held_never_rises c.args.shelf.now.files c.read_file.new.shelf.files c.args.shelf.now.misses c.read_file.new.shelf.misses c.args.name.now c.read_file.ensures.stays c.requires
    (c.read_file.ensures.unread fails)
