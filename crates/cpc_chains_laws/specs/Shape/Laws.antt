-- What is known of the shape of event programs.
use Rattle.cpc_chains_event.specs.Converted.{converted}
use Rattle.cpc_lifted_laws.specs.Accepted.Accepted.{OfAccepted}
use Rattle.cpc_chains_laws.specs.Shape.Shape.{Shape}

-- an accepted program of threads is converted to an event program of its shape
abbrev pub AcceptedShape : Type 0
AcceptedShape = OfAccepted (λ p. Shape p (converted p))
