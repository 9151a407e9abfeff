-- There are texts that tell the names of an accepted program.
use Rattle.cpc_base.specs.Texts.{AreDistinct}
use Rattle.cpc_base.specs.declared.stop.Dialect.TheVariants as D
use Rattle.cpc_tree.specs.declared.program.Program as GProgram
use Rattle.cpc_tree.specs.Locate.{located}
use Rattle.cpc_check.specs.Accepted.{IsRead, IsWithin}
use Rattle.cpc_forms_code.specs.Programs.{IsSpeakable}
use Rattle.cpc_native_laws.proofs.Accepted.{spelled}

-- those of its table, and others for all other names
pub read_is_speakable : (p : GProgram.Program) → IsRead D.Cpc (located p) → IsWithin p → AreDistinct p.names → IsSpeakable p
read_is_speakable p read within distinct =
    let texts = spelled p D.Cpc ∣ read ∣₁ ∣ within ∣₁ distinct in
    ∣ (texts.0, record { spells = texts.1.spells; told = texts.1.told }) ∣₁
