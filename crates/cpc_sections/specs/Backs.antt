-- What sections that are over come to, with the cells that go back.
use Rattle.std.specs.Prelude.{◌≡◌, Result, Ok, Err}
use Rattle.cpc_base.specs.declared.names.Name.{Name}
use Rattle.cpc_num.specs.declared.kinds.Fault.{Fault}
use Rattle.cpc_tree.specs.Erase.{Names}
use Rattle.cpc_store.specs.Store.{Store}
use Rattle.cpc_store.specs.declared.values.Value.{Value}
use Rattle.cpc_meaning.specs.Copies as C
use Rattle.cpc_eval_values.specs.Shown.{value_of, values_of}
use Rattle.cpc_sections.specs.Jobs.{IsLawfulJob, IsLawfulEnd}
use Rattle.cpc_sections.specs.declared.collected.Finished.{Finished}
use Rattle.cpc_sections.specs.declared.collected.Collected.{Collected}
use Rattle.cpc_sections.specs.declared.collected.Collected.TheVariants as D

-- a section, which left this store
abbrev pub one_collected : Names → (rest : Store → C.Collected) → Store → Result Value (Fault × Name) → C.Collected
one_collected names rest s (Ok v) = C.and_value (value_of names v) (rest s)
one_collected names rest s (Err e) = C.OneFailed e.0 (names e.1)

-- what the code came to, which left this store
abbrev pub collected_of : Names → Store → Collected → C.Collected
collected_of names s (D.AllGave vs) = C.AllGave (values_of names vs.items) s
collected_of names s (D.OneFailed fault f) = C.OneFailed fault (names f)

-- its values are lawful
pub record IsLawfulFinished (x : Finished) : Type 0 where
  pub job : IsLawfulJob x.job
  pub end : IsLawfulEnd x.end

-- what the code came to is what the definition says; where that is not clear nothing is said
abbrev pub CollectsAs : C.Collected → C.Collected → Type 0
CollectsAs c (C.AllGave vs s) = c ≡ C.AllGave vs s
CollectsAs c (C.OneFailed fault f) = c ≡ C.OneFailed fault f
CollectsAs c C.NotClear = Unit {0}
