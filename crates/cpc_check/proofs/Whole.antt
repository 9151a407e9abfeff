-- What is noted of a whole program, by the texts of its table.
use Rattle.std.specs.Prelude.{Result}
use Rattle.std.proofs.Common.{◌≡◌, Option, None, Err, ap, ◌∙◌, map}
use Rattle.cpc_base.specs.Texts.{AreDistinct}
use Rattle.cpc_base.specs.declared.stop.Place.{Place}
use Rattle.cpc_base.specs.declared.stop.Dialect.{Dialect}
use Rattle.cpc_base.specs.declared.stop.Stop.{Stop}
use Rattle.cpc_base.specs.declared.stop.Stop.TheVariants.{Fault}
use Rattle.cpc_tree.specs.declared.program.Program as GProgram
use Rattle.cpc_tree.specs.Erase.{Names}
use Rattle.cpc_tree.specs.Locate.{located, located_item}
use Rattle.cpc_check_rules.specs.declared.rule.Rule.{Rule}
use Rattle.cpc_check_rules.specs.declared.first.Breach.{Breach}
use Rattle.cpc_check_rules.specs.Apart.{Spells}
use Rattle.cpc_check_rules.specs.Noted.{noted}
use Rattle.cpc_check_rules.specs.Rules.{breaks}
use Rattle.cpc_check.specs.Accepted.{IsWithin}
use Rattle.cpc_check.proofs.Spelled.{spelling, spells}

-- What is noted for every spelling by which names are told apart is noted for the table's own texts, since all names are in it.
pub noted_whole : (dialect : Dialect) (p : GProgram.Program) → (o : Option (Place × Rule)) → AreDistinct p.names → IsWithin p
    → ((names : Names) → Spells p.names names → o ≡ noted None (breaks dialect (record { items = map (located_item names) p.items.items; end = p.end })))
    → o ≡ noted None (breaks dialect (located p))
noted_whole dialect p o distinct within told =
    let s = spells p.names distinct in
    told (spelling p.names) s ∙ ap (λ items. noted None (breaks dialect (record { items = items; end = p.end }))) (within.alike (spelling p.names) s.inside)

pub error_is : {X E : Type 0} (x y : E) → ◌≡◌ {A = Result X E} (Err x) (Err y) → x ≡ y
error_is x y e = cc

pub fault_is : {F : Type 0} (a b : F) → ◌≡◌ {A = Stop F} (Fault a) (Fault b) → a ≡ b
fault_is a b e = cc

-- what a refusal tells
pub breach_is : {A : Type 0} (p q : GProgram.Program) (a b : Breach) → ◌≡◌ {A = Result A (GProgram.Program × Stop Breach)} (Err (p, Fault a)) (Err (q, Fault b)) → a ≡ b
breach_is p q a b e = fault_is a b (ap (λ x. x.1) (error_is (p, Fault a) (q, Fault b) e))
