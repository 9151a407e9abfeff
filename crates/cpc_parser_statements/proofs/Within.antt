-- What is exact with much room is exact with less.
use Rattle.std.proofs.Common.{ℕ, ◌≤◌, List, arith}
use Rattle.cpc_parser_reading.specs.Reading.{Reader}
use Rattle.cpc_parser_reading.specs.Exact.{Exact}

pub exact_within : {T K A : Type 0} {kind : T → K} {n m low : ℕ} {F : ℕ → Reader T A} {R : List T → A → ℕ → Type 0} {Q : A → K → Type 0}
    → n ≤ m → Exact kind m low F R Q → Exact kind n low F R Q
exact_within le x = record { sample = x.sample; least = x.least; at = λ d a b. x.at d a (omega arith); keeps = λ d e a b l ts. x.keeps d e a b (omega arith) ts }
