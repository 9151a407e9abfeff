-- Polls that are read are within the limits.
use Rattle.std.proofs.Common.{◌≡◌, ℕ, suc, Bool, true, false, ◌&&◌, nat_le, List, [], ◌∷◌, Option, Some, None, Result, Ok, Err, pos, refl, sym, ap, ◌∙◌, codes, arith}
use Rattle.std.specs.Prelude.{bytes_eq, if◌then◌else◌, ◌==◌}
use Rattle.cpc_base.specs.Bytes.{Text}
use Rattle.cpc_base.specs.declared.poll.Direction.{Direction}
use Rattle.cpc_base.specs.declared.poll.Direction.TheVariants.{Read, Write}
use Rattle.cpc_base.specs.declared.poll.Event.{Event}
use Rattle.cpc_base.specs.declared.poll.Event.TheVariants.{Done, Ready}
use Rattle.cpc_base.proofs.Truth.{and_holds}
use Rattle.cpc_tree.specs.Trace.{Told, clock_limit, descriptor_limit, section_limit}
use Rattle.cpc_tree.specs.Texts as T
use Rattle.cpc_tree.specs.Texts.{◌>>=◌}
use Rattle.cpc_meaning.specs.History.{event_fits, events_fit, polls_fit}

-- what is read has P
abbrev Holds : {A : Type 0} → (A → Type 0) → Result A T.LineFault → Type 0
Holds P (Ok x) = P x
Holds P (Err e) = Unit {0}

then_holds : {A B : Type 0} (P : A → Type 0) (Q : B → Type 0) (r : Result A T.LineFault) (k : A → Result B T.LineFault) → Holds P r → ((x : A) → P x → Holds Q (k x)) → Holds Q (r >>= k)
then_holds P Q (Ok x) k h f = f x h
then_holds P Q (Err e) k h f = tt

pick : {A : Type 0} (P : A → Type 0) (b : Bool) (x y : Result A T.LineFault) → Holds P x → Holds P y → Holds P (if b then x else y)
pick P true x y h g = h
pick P false x y h g = g

abbrev IsWithin : ℕ → ℕ → Type 0
IsWithin limit n = nat_le n limit ≡ true

number_fits : (limit : ℕ) (w : Text) → Holds (IsWithin limit) (T.number_word limit w)
number_fits limit w = go (T.number_of w)
  where
    inside : (n : ℕ) (b : Bool) → nat_le n limit ≡ b → Holds (IsWithin limit) (if b then Ok n else Err T.BadNumber)
    inside n true e = e
    inside n false e = tt

    go : (o : Option ℕ) → Holds (IsWithin limit) (T.at_most limit o)
    go None = tt
    go (Some n) = inside n (nat_le n limit) refl

abbrev EventFits : Event → Type 0
EventFits e = event_fits e ≡ true

section_fits : (w : Text) → Holds EventFits (T.section_word w)
section_fits w = then_holds (IsWithin section_limit) EventFits (T.number_word section_limit w) (λ n. Ok (Done n)) (number_fits section_limit w) (λ n h. h)

least : (n : ℕ) → nat_le 0 n ≡ true
least n = grind arith

descriptor_fits : (way : Direction) (w : Text) → Holds EventFits (T.descriptor_word way w)
descriptor_fits way w =
    then_holds (IsWithin descriptor_limit) EventFits (T.number_word descriptor_limit w) (λ n. Ok (Ready (pos n) way)) (number_fits descriptor_limit w)
    (λ n h. and_holds (nat_le 0 n) (nat_le n descriptor_limit) (least n) h)

event_fits_read : (w : Text) → Holds EventFits (T.event_word w)
event_fits_read [] = tt
event_fits_read (b ∷ w) =
    pick EventFits (b == 100) _ _ (section_fits w) (pick EventFits (b == 114) _ _ (descriptor_fits Read w) (pick EventFits (b == 119) _ _ (descriptor_fits Write w) tt))

abbrev EventsFit : List Event → Type 0
EventsFit es = events_fit es ≡ true

events_fit_read : (ws : List Text) → Holds EventsFit (T.event_words ws)
events_fit_read [] = refl
events_fit_read (w ∷ ws) =
    then_holds EventFits EventsFit (T.event_word w) _ (event_fits_read w)
    (λ e h. then_holds EventsFit EventsFit (T.event_words ws) _ (events_fit_read ws) (λ es g. and_holds (event_fits e) (events_fit es) h g))

-- a poll within the limits, or none
abbrev LineFits : Option Told → Type 0
LineFits None = Unit {0}
LineFits (Some told) = (nat_le told.clock clock_limit && events_fit told.events) ≡ true

poll_fits_read : (ws : List Text) → Holds LineFits (T.poll_words ws)
poll_fits_read [] = tt
poll_fits_read (w ∷ ws) =
    then_holds (IsWithin clock_limit) LineFits (T.number_word clock_limit w) _ (number_fits clock_limit w)
    (λ n h. then_holds EventsFit LineFits (T.event_words ws) _ (events_fit_read ws) (λ es g. and_holds (nat_le n clock_limit) (events_fit es) h g))

line_fits_read : (ws : List Text) → Holds LineFits (T.line_words ws)
line_fits_read [] = tt
line_fits_read (w ∷ ws) = pick LineFits (T.is_comment w) _ _ tt (pick LineFits (bytes_eq w (codes "poll")) _ _ (poll_fits_read ws) tt)

-- all polls are within the limits
abbrev ReadFits : T.HistoryRead → Type 0
ReadFits (T.Polls polls) = polls_fit polls ≡ true
ReadFits (T.BadLine n fault) = Unit {0}

more_fits : (line : Result (Option Told) T.LineFault) (n : ℕ) (rest : T.HistoryRead) → Holds LineFits line → ReadFits rest → ReadFits (T.and_line line n rest)
more_fits (Ok None) n rest h g = g
more_fits (Ok (Some told)) n (T.Polls polls) h g = and_holds (nat_le told.clock clock_limit && events_fit told.events) (polls_fit polls) h g
more_fits (Ok (Some told)) n (T.BadLine m fault) h g = tt
more_fits (Err fault) n rest h g = tt

lines_fit : (n : ℕ) (ls : List Text) → ReadFits (T.read_lines n ls)
lines_fit n [] = refl
lines_fit n (l ∷ ls) = more_fits (T.line_words (T.words l)) n (T.read_lines (suc n) ls) (line_fits_read (T.words l)) (lines_fit (suc n) ls)

-- the polls of a text are within the limits
pub read_fits : (text : Text) (polls : List Told) → T.read_history text ≡ T.Polls polls → polls_fit polls ≡ true
read_fits text polls h = go (T.read_history text) h (lines_fit 1 (T.lines text))
  where
    go : (r : T.HistoryRead) → r ≡ T.Polls polls → ReadFits r → polls_fit polls ≡ true
    go (T.Polls ps) e f = let g : ps ≡ polls = cc in ap polls_fit (sym g) ∙ f
    go (T.BadLine n fault) e f = cc
