-- The faults of a text, by their numbers.
use Rattle.std.specs.Prelude.{ℕ, ◌==◌, if◌then◌else◌, codes}
use Rattle.cpc_base.specs.Bytes.{Text}
use Rattle.cpc_base.specs.declared.stop.Stop.{Stop}
use Rattle.cpc_base.specs.declared.stop.Stop.TheVariants.{Memory, Fault}
use Rattle.cpc_tree.specs.Pieces.{stray_byte, unclosed, too_wide, too_long}

-- how a fault is told
abbrev pub fault_name : ℕ → Text
fault_name number =
    if number == stray_byte then codes "stray byte"
    else (if number == unclosed then codes "unclosed"
    else (if number == too_wide then codes "literal too wide"
    else (if number == too_long then codes "name too long" else codes "malformed")))

-- what holds of a fault, where want of memory was not the cause
abbrev pub IfFault : {F : Type 0} → Stop F → (F → Type 0) → Type 0
IfFault Memory P = Unit {0}
IfFault (Fault fault) P = P fault
