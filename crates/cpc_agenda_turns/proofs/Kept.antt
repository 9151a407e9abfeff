-- A poll leaves the round as it is.
use Rattle.std.proofs.Common.{◌≡◌, ℕ, List, [], ◌∷◌, Err, refl, ap, ◌∙◌, max, subst}
use Rattle.cpc_base.specs.declared.stop.Stop.{Stop}
use Rattle.cpc_base.specs.declared.stop.Stop.TheVariants.{Fault}
use Rattle.cpc_base.specs.declared.poll.Event.{Event}
use Rattle.cpc_base.specs.declared.poll.Event.TheVariants.{Done, Ready}
use Rattle.cpc_tree.specs.Trace.{Told}
use Rattle.cpc_store.specs.Store.{Value}
use Rattle.cpc_meaning.specs.Agenda as A
use Rattle.cpc_agenda.specs.Acts.{IfFault}

finished : {T : Type 0} (ns : List ℕ) (vs : List Value) (a : A.Agenda T) → (A.finish_sections ns vs a).round ≡ a.round
finished [] vs a = refl
finished (n ∷ ns) [] a = refl
finished (n ∷ ns) (v ∷ vs) a = finished ns vs (A.finish_section n v a)

woken : {T : Type 0} (es : List Event) (a : A.Agenda T) → (A.wake_all es a).round ≡ a.round
woken [] a = refl
woken (Done n ∷ es) a = woken es a
woken (Ready fd way ∷ es) a = woken es (A.wake (Ready fd way) a)

pub poll_keeps_round : {T : Type 0} (told : Told) (vs : List Value) (a : A.Agenda T) → (A.poll told vs a).round ≡ a.round
poll_keeps_round told vs a =
    let at = record a { now = max a.now told.clock } in
    woken told.events (A.finish_sections (A.completed told.events) vs at) ∙ finished (A.completed told.events) vs at

pub round_stays : {T : Type 0} (told : Told) (vs : List Value) (a b : A.Agenda T) → b ≡ A.poll told vs a → a.round ≡ [] → b.round ≡ []
round_stays told vs a b e h = ap (λ x. A.Agenda.round x) e ∙ poll_keeps_round told vs a ∙ h

-- what is said of a fault is said of this one
pub fault_told : (X : Type 0) {F : Type 0} (s : Stop F) (fault : F) (P : F → Type 0) → s ≡ Fault fault → IfFault {X = X} (Err s) P → P fault
fault_told X s fault P e h = subst (λ t. IfFault {X = X} (Err t) P) e h
