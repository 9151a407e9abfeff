-- What joins the conversion, as statements.
use Rattle.cpc_lifted_laws.specs.Accepted.Accepted.{OfAccepted}
use Rattle.cpc_forms.specs.Split.{split_form}
use Rattle.cpc_lifted_laws.specs.Known.Jobs.{SectionsTake}
use Rattle.cpc_lifted_laws.specs.Native.Instance.{NamesDetached}

-- its sections run detached functions, which take a pointer to integers, and integers
abbrev pub AcceptedSectionsTake : Type 0
AcceptedSectionsTake = OfAccepted (λ p. SectionsTake (split_form p) (NamesDetached p))
