-- A poll that is made of what a world tells is within the limits of a history.
use Rattle.std.proofs.Common.{◌≡◌, ℕ, min, nat_le, Bool, true, false, List, [], ◌∷◌, ◌++◌, ◌&&◌, cond, filter, refl, arith}
use Rattle.cpc_base.specs.declared.poll.Event.{Event}
use Rattle.cpc_base.specs.declared.poll.Event.TheVariants.{Done, Ready}
use Rattle.cpc_base.proofs.Truth.{le_holds}
use Rattle.cpc_tree.specs.Trace.{Told, clock_limit}
use Rattle.cpc_meaning.specs.History.{event_fits, events_fit, polls_fit}
use Rattle.cpc_live.specs.Turns.{dones, is_ready, poll_of}

-- events behind others
both_fit : (xs ys : List Event) → events_fit xs ≡ true → events_fit ys ≡ true → events_fit (xs ++ ys) ≡ true
both_fit [] ys h i = i
both_fit (x ∷ xs) ys h i = more (event_fits x) (events_fit xs) h (both_fit xs ys)
  where
    more : (a b : Bool) → a && b ≡ true → (b ≡ true → events_fit ys ≡ true → events_fit (xs ++ ys) ≡ true) → a && events_fit (xs ++ ys) ≡ true
    more true b h k = k h i
    more false b h k = h

-- an event that is kept where it fits
kept_fits : (b : Bool) (e : Event) (rest : List Event) → event_fits e ≡ b → events_fit rest ≡ true → events_fit (cond b (e ∷ rest) rest) ≡ true
kept_fits true e rest fits h = simp (fits, h) refl
kept_fits false e rest fits h = h

one_fits : (e : Event) (rest : List Event) → events_fit rest ≡ true → events_fit (cond (is_ready e) (e ∷ rest) rest) ≡ true
one_fits (Done n) rest h = h
one_fits (Ready fd way) rest h = kept_fits (is_ready (Ready fd way)) (Ready fd way) rest refl h

-- what a world tells of descriptors
ready_fit : (es : List Event) → events_fit (filter is_ready es) ≡ true
ready_fit [] = refl
ready_fit (e ∷ es) = one_fits e (filter is_ready es) (ready_fit es)

pub made_fits : (told : Told) (accepted : List ℕ) → events_fit (dones accepted) ≡ true → polls_fit (poll_of told accepted ∷ []) ≡ true
made_fits told accepted h =
    let clock : nat_le (min told.clock clock_limit) clock_limit ≡ true = le_holds (min told.clock clock_limit) clock_limit (omega arith) in
    let events : events_fit (dones accepted ++ filter is_ready told.events) ≡ true = both_fit (dones accepted) (filter is_ready told.events) h (ready_fit told.events) in
    simp (clock, events) refl
