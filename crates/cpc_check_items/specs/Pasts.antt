-- What earlier items declare of a name.
use Rattle.std.specs.Prelude.{◌≡◌, Bool, true, false, ◌&&◌, ◌||◌, not, if◌then◌else◌, nat_eq, Option, Some, None, is_some}
use Rattle.std.specs.HashMap as hash
use Rattle.cpc_base.specs.Bytes.{Text}
use Rattle.cpc_base.specs.declared.names.Name.{Name}
use Rattle.cpc_tree.specs.Syntax.{Program}
use Rattle.cpc_tree.specs.Erase.{Names, type_of}
use Rattle.cpc_check_rules.specs.ItemRules as R
use Rattle.cpc_check_items.specs.Signatures.{types_of, signature_of, are_mixed}
use Rattle.cpc_check_items.specs.declared.signatures.Signature.{Signature}
use Rattle.cpc_check_items.specs.declared.earlier.Past.{Past}
use Rattle.cpc_check_items.specs.declared.earlier.Past.TheVariants as P
use Rattle.cpc_check_items.specs.declared.earlier.Earlier.{Earlier}

-- a function may not be declared beside these
abbrev pub is_clash_beside : Option Past → R.Signature → Bool
is_clash_beside None new = false
is_clash_beside (Some P.Taken) new = true
is_clash_beside (Some (P.Functions s is_same)) new = R.clashes new s.mode s.is_defined

-- two declarations of functions agree
abbrev pub agrees_with : Names → R.Signature → Signature → Bool
agrees_with names new s = R.agrees new s.mode (type_of names s.result.now) (types_of names s.parameters.now)

-- a function that may be declared beside these disagrees with one of them
abbrev pub is_disagreeing_beside : Names → Option Past → R.Signature → Bool
is_disagreeing_beside names None new = false
is_disagreeing_beside names (Some P.Taken) new = false
is_disagreeing_beside names (Some (P.Functions s is_same)) new = not (agrees_with names new s && is_same)

-- with a body, where either has one
abbrev pub defined_by : Signature → Signature → Signature
defined_by s new = record { mode = s.mode; result = s.result; parameters = s.parameters; is_defined = s.is_defined || new.is_defined }

-- with one more declaration of a function
abbrev pub joined : Names → Option Past → Signature → Past
joined names None new = P.Functions new true
joined names (Some P.Taken) new = P.Taken
joined names (Some (P.Functions s is_same)) new =
    if are_mixed s.mode new.mode then P.Taken else P.Functions (defined_by s new) (is_same && agrees_with names (signature_of names s) new)

-- This is what items tell of a text.
pub record Tells (names : Names) (before : Program) (x : Text) (past : Option Past) : Type 0 where
  pub item : R.is_item x before ≡ is_some past
  pub clash : (new : R.Signature) → R.is_clash x new before ≡ is_clash_beside past new
  pub disagreement : (new : R.Signature) → is_clash_beside past new ≡ false → R.is_disagreeing x new before ≡ is_disagreeing_beside names past new

-- This is what items tell of each name.
pub record AreEarlier (names : Names) (before : Program) (e : Earlier) : Type 0 where
  pub told : (n : Name) → Tells names before (names n) (hash.get nat_eq e.past n.0)
