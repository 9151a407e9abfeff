use Rattle.std.proofs.Common.{◌≡◌, ◌++◌, drop}
use Rattle.std.specs.List.{All}
use Rattle.cpc_tree.specs.Erase.{Names}
use Rattle.cpc_store.specs.Seen.{seen, IsLawful}
use Rattle.cpc_meaning.specs.Requests.{byte_values}
use Rattle.cpc_eval_values.specs.Shown.{values_of}
use Rattle.cpc_native_acts.specs.Taken.{IsByte}
use Rattle.cpc_native_acts.proofs.taken.byte_values.Given as goal

-- the bytes that are left
abbrev pub invariant-loop-byte : goal.invariant-loop-byte
invariant-loop-byte l = record {
  lawful : All (λ v. IsLawful (seen v)) l.row.items;
  bytes : All IsByte l.row.items;
  rest : (names : Names) → values_of names l.row.items ++ byte_values (drop l.byte-index l.bytes) ≡ byte_values l.bytes;
}
