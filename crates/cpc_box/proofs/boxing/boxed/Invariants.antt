use Rattle.std.proofs.Common.{◌≡◌, All, map, take}
use Rattle.cpc_forms_code.specs.Programs.{cps_functions}
use Rattle.cpc_box.proofs.boxing.boxed.Given as goal

-- the functions so far
abbrev pub invariant-loop-place : goal.invariant-loop-place
invariant-loop-place l = record {
  functions : map (λ f. f.function.now) l.functions.items ≡ cps_functions (take l.place l.item-items);
  sources : All (λ f. f.source.now ≡ l.source) l.functions.items;
}
