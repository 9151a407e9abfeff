-- The laws, from the lemmas over any relations.
use Rattle.cpc_convert_image_laws.specs.Laws.{ImagesArePlaces, NamesGrow, SectionsCopyAlike, ScalarsAreWritten, ImagesTakeNoAddress, ArgumentsOneByOne, ReturnsAndArrivals, NativeSpawnsAreCalls, ScopesAreRead, VariablesStand, ValuesFit, StoresAreBeside, ImagesHaveTypes, ImagesHaveValues, ImagesAreArguments, ImagesAreWritten, StatementsDoSame, TestsDoSame, ArrivalsDoSame, ArrivalsAreAssigned, ResultsAreStored, SpawnsAreCalls, WaitsAreCalls, SectionsAreCalls, VariablesStay, NativeStepsDoSame, CallsAreEntered}
use Rattle.cpc_convert_image_laws.specs.Frames.{IsIn, AreIn, StandsIn}
use Rattle.cpc_convert_image_laws.proofs.Types.{same_null}
use Rattle.cpc_convert_image_laws.proofs.Live.{read_live}
use Rattle.cpc_convert_image_laws.proofs.Acts as acts
use Rattle.cpc_convert_image_laws.proofs.Statements as statements
use Rattle.cpc_convert_image_laws.proofs.Rows as rows
use Rattle.cpc_convert_image_laws.proofs.Slots as slots
use Rattle.cpc_convert_image_laws.proofs.Natives as natives
use Rattle.cpc_convert_image_laws.proofs.Entering as entering
use Rattle.cpc_convert_image_laws.proofs.Locals as locals
use Rattle.cpc_convert_image_laws.proofs.Addresses.{no_addresses}
use Rattle.cpc_convert_image_laws.proofs.Names.{names_more_of}
use Rattle.cpc_convert_image_laws.proofs.Stacks.{native_step, native_answered}
use Rattle.cpc_convert_image_laws.specs.StackLaws.{At, NativeStacksStep, NativeStacksAreAnswered}
use Rattle.cpc_convert_image_laws.proofs.Values.{places}
use Rattle.cpc_convert_image_laws.proofs.OneByOne.{one_by_one}
use Rattle.cpc_convert_image_laws.proofs.Beside as beside
use Rattle.cpc_convert_image_laws.proofs.Copies as copies

pub images_have_types : ImagesHaveTypes
images_have_types t e l = (acts.type_alike (IsIn t.programs.codes) (AreIn t.programs.pairs) (StandsIn t.stands) t.programs.source t.programs.target t.programs.common (IsIn t.used) t.readings t.scope t.scope' t.slots t.slots' t.names t.store t.is_source t.held (λ x. read_live t.store t.slots (t.readings x) t.live) t.frames e l, λ w. acts.written_less (IsIn t.programs.codes) (AreIn t.programs.pairs) (StandsIn t.stands) t.programs.source t.programs.target t.programs.common (IsIn t.used) t.readings t.scope t.scope' t.slots t.slots' t.names t.store t.is_source t.held (λ x. read_live t.store t.slots (t.readings x) t.live) t.frames e w l, same_null t.readings e)

pub images_have_values : ImagesHaveValues
images_have_values t e l = (acts.value_alike (IsIn t.programs.codes) (AreIn t.programs.pairs) (StandsIn t.stands) t.programs.source t.programs.target t.programs.common (IsIn t.used) t.readings t.scope t.scope' t.slots t.slots' t.names t.store t.is_source t.held (λ x. read_live t.store t.slots (t.readings x) t.live) t.frames e l, λ u. acts.assigned_alike (IsIn t.programs.codes) (AreIn t.programs.pairs) (StandsIn t.stands) t.programs.source t.programs.target t.programs.common (IsIn t.used) t.readings t.scope t.scope' t.slots t.slots' t.names t.store t.is_source t.held (λ x. read_live t.store t.slots (t.readings x) t.live) t.frames u e l)

pub images_are_arguments : ImagesAreArguments
images_are_arguments t es l = (acts.values_alike (IsIn t.programs.codes) (AreIn t.programs.pairs) (StandsIn t.stands) t.programs.source t.programs.target t.programs.common (IsIn t.used) t.readings t.scope t.scope' t.slots t.slots' t.names t.store t.is_source t.held (λ x. read_live t.store t.slots (t.readings x) t.live) t.frames es l, λ ts. acts.arguments_alike (IsIn t.programs.codes) (AreIn t.programs.pairs) (StandsIn t.stands) t.programs.source t.programs.target t.programs.common (IsIn t.used) t.readings t.scope t.scope' t.slots t.slots' t.names t.store t.is_source t.held (λ x. read_live t.store t.slots (t.readings x) t.live) t.frames ts es l, λ ts. acts.taken_alike (IsIn t.programs.codes) (AreIn t.programs.pairs) (StandsIn t.stands) t.programs.source t.programs.target t.programs.common (IsIn t.used) t.readings t.scope t.scope' t.slots t.slots' t.names t.store t.is_source t.held (λ x. read_live t.store t.slots (t.readings x) t.live) t.frames ts es l)

pub images_are_written : ImagesAreWritten
images_are_written t o v n l h = acts.deliver_alike (IsIn t.programs.codes) (AreIn t.programs.pairs) (StandsIn t.stands) t.programs.source t.programs.target t.programs.common (IsIn t.used) t.readings t.scope t.scope' t.slots t.slots' t.names t.store t.is_source t.held (λ x. read_live t.store t.slots (t.readings x) t.live) t.frames o v n l h

pub statements_do_same : StatementsDoSame
statements_do_same t result result' s h l = statements.simple_alike (IsIn t.programs.codes) (AreIn t.programs.pairs) (StandsIn t.stands) t.programs.source t.programs.target t.programs.common (IsIn t.used) t.readings t.scope t.scope' t.slots t.slots' t.names t.store t.is_source t.held (λ x. read_live t.store t.slots (t.readings x) t.live) t.frames result result' s h l

pub tests_do_same : TestsDoSame
tests_do_same t o l = acts.test_alike (IsIn t.programs.codes) (AreIn t.programs.pairs) (StandsIn t.stands) t.programs.source t.programs.target t.programs.common (IsIn t.used) t.readings t.scope t.scope' t.slots t.slots' t.names t.store t.is_source t.held (λ x. read_live t.store t.slots (t.readings x) t.live) t.frames o l

pub arrivals_do_same : ArrivalsDoSame
arrivals_do_same t s o h i l = statements.arrival_image (IsIn t.programs.codes) (AreIn t.programs.pairs) (StandsIn t.stands) t.programs.source t.programs.target t.programs.common (IsIn t.used) t.readings t.scope t.scope' t.slots t.slots' t.names t.store t.is_source t.held (λ x. read_live t.store t.slots (t.readings x) t.live) t.frames s o h i l

pub arrivals_are_assigned : ArrivalsAreAssigned
arrivals_are_assigned t e v y k' u n f h l i = rows.arrival_alike (IsIn t.programs.codes) (AreIn t.programs.pairs) (StandsIn t.stands) t.programs.source t.programs.target t.programs.common (IsIn t.used) t.readings t.scope t.scope' t.slots t.slots' t.names t.store t.is_source t.held (λ x. read_live t.store t.slots (t.readings x) t.live) t.frames e v y k' u n f h l i

pub results_are_stored : ResultsAreStored
results_are_stored t u e y k' v n f l = rows.stored_alike (IsIn t.programs.codes) (AreIn t.programs.pairs) (StandsIn t.stands) t.programs.source t.programs.target t.programs.common (IsIn t.used) t.readings t.scope t.scope' t.slots t.slots' t.names t.store t.is_source t.held (λ x. read_live t.store t.slots (t.readings x) t.live) t.frames u e y k' v n f l

pub spawns_are_calls : SpawnsAreCalls
spawns_are_calls t f x es g u us n e h l = statements.spawn_alike (IsIn t.programs.codes) (AreIn t.programs.pairs) (StandsIn t.stands) t.programs.source t.programs.target t.programs.common (IsIn t.used) t.readings t.scope t.scope' t.slots t.slots' t.names t.store t.is_source t.held (λ x. read_live t.store t.slots (t.readings x) t.live) t.frames f x es g u us n e h l

pub waits_are_calls : WaitsAreCalls
waits_are_calls t prim prim' es a b d k h i j e f g l = rows.wait_alike (IsIn t.programs.codes) (AreIn t.programs.pairs) (StandsIn t.stands) t.programs.source t.programs.target t.programs.common (IsIn t.used) t.readings t.scope t.scope' t.slots t.slots' t.names t.store t.is_source t.held (λ x. read_live t.store t.slots (t.readings x) t.live) t.frames prim prim' es a b d k h i j e f g l

pub sections_are_calls : SectionsAreCalls
sections_are_calls t f es a b c d k code e g h i l = rows.section_alike (IsIn t.programs.codes) (AreIn t.programs.pairs) (StandsIn t.stands) t.programs.source t.programs.target t.programs.common (IsIn t.used) t.readings t.scope t.scope' t.slots t.slots' t.names t.store t.is_source t.held (λ x. read_live t.store t.slots (t.readings x) t.live) t.frames f es a b c d k code e g h i l

pub variables_stay : VariablesStay
variables_stay C P one q scope xs ys a b x o m c h = slots.means_kept (StandsIn P) one xs ys (IsIn C) q scope a b x o m c h

pub native_steps_do_same : NativeStepsDoSame
native_steps_do_same t result o s h i l = natives.native_act (IsIn t.programs.codes) (AreIn t.programs.pairs) t.programs.source t.programs.target t.programs.common (IsIn t.used) t.scope t.slots t.names t.store t.is_source t.held t.frames result o s h i l

pub calls_are_entered : CallsAreEntered
calls_are_entered C p q types f g marks frames n xs vs s source h = entering.slots_beside (IsIn C) p q types f g marks frames n xs vs s source h

pub scopes_are_read : ScopesAreRead
scopes_are_read C P p q marks spelled boxes scope scope' xs ys x h i = locals.scope_means (IsIn C) (StandsIn P) p q marks spelled boxes scope scope' xs ys x h i

pub variables_stand : VariablesStand
variables_stand P one xs ys mark k k' t h i = (λ a b c. locals.stands_kept (StandsIn P) xs ys one a b mark k k' t c h i, λ j' x d. locals.stands_apart (StandsIn P) xs ys mark k k' j' x d i)

pub values_fit : ValuesFit
values_fit = (λ P one xs ys a b k k' t c h fits. locals.fits_kept (StandsIn P) xs ys one a b k k' t c h fits, locals.arguments_fit)

pub stores_are_beside : StoresAreBeside
stores_are_beside C frames s h = (beside.saves (IsIn C) frames s h, beside.allocated_alike (IsIn C) frames s h, beside.freed_alike (IsIn C) frames s h, λ xs. beside.slots_free (IsIn C) frames xs s h)

pub arguments_one_by_one : ArgumentsOneByOne
arguments_one_by_one c ts es h k = one_by_one c ts es h k

pub returns_and_arrivals : ReturnsAndArrivals
returns_and_arrivals = (rows.returns_by_value, rows.arrives_by_target)

pub native_spawns_are_calls : NativeSpawnsAreCalls
native_spawns_are_calls t f x es g u us n e h l = natives.native_spawn (IsIn t.programs.codes) (AreIn t.programs.pairs) t.programs.source t.programs.target t.programs.common (IsIn t.used) t.scope t.slots t.names t.store t.is_source t.held t.frames f x es g u us n e h l

pub images_take_no_address : ImagesTakeNoAddress
images_take_no_address p marks spelled scope scope' used h e d t l i = no_addresses p marks spelled scope scope' (IsIn used) h e (d, t) l i

pub sections_copy_alike : SectionsCopyAlike
sections_copy_alike C frames s source v h = (λ p q types f g head. copies.copy_alike (IsIn C) frames s source p q types f g head v h, λ vs i. copies.write_alike (IsIn C) frames v vs s source h i)

pub scalars_are_written : ScalarsAreWritten
scalars_are_written c e t h i = rows.scalar_is_written c e t h i

pub names_grow : NamesGrow
names_grow used more h s l = names_more_of (IsIn used) (IsIn more) h s l

pub images_are_places : ImagesArePlaces
images_are_places t e l = places (IsIn t.programs.codes) (StandsIn t.stands) t.programs.source t.programs.target t.programs.common.types (IsIn t.used) t.readings t.scope t.scope' t.slots t.slots' t.names t.store t.is_source t.held (λ x. read_live t.store t.slots (t.readings x) t.live) t.frames e l

pub native_stacks_step : (A B : Type 0) → NativeStacksStep A B
native_stacks_step A B t k o h = native_step (IsIn t.codes) (AreIn t.pairs) (At t.positions) (AreIn t.below) t.ends t.source t.target t.common t.enters k.frames k.store k.is_source k.function k.here k.there k.slots k.xs k.ys k.held k.stacks (IsIn k.used) o k.point h

pub native_stacks_are_answered : (A B : Type 0) → NativeStacksAreAnswered A B
native_stacks_are_answered A B t k v written h = native_answered (IsIn t.codes) (AreIn t.pairs) (At t.positions) (AreIn t.below) t.ends t.source t.target t.common t.enters k.frames k.store k.is_source k.function k.here k.there k.slots k.xs k.ys k.held k.stacks (IsIn k.used) v k.point written h
