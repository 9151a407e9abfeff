-- Where clap takes the words, a subcommand was entered that has a value for its operand, FILE or N.
use Rattle.std.proofs.Common.{◌≡◌, ◌∙◌, ◌&&◌, ◌||◌, ◌⊎◌, inl, inr, ℕ, Bool, cond, codes, true, false, true≢false, List, [], ◌∷◌, Option, Some, None, is_some, refl, sym, ap, subst}
use Rattle.std.specs.Prelude.{if◌then◌else◌, find, not, option_and_then, option_map, slice_get}
use Rattle.std.specs.List.{list_any}
use Rattle.std.specs.Option.{option_map_or}
use Rattle.std.specs.Str.{bytes_eq}
use Rattle.clap.specs.Kinds.{Kinds, check_kinds}
use Rattle.clap.specs.Facts.{explicit_source}
use Rattle.clap.specs.Takes.{is_given}
use Rattle.clap.specs.Walk.{Names, Row, Rule, Text, answers_to, finished, first_of, nothing_held, settled, walk, walk_from}
use Rattle.clap.specs.Simple.{App, Shape, built, entered, label_of, names_of, rows_at, subcommand_of}
use Rattle.clap.specs.Faults.{check_fault, defaults_fault, entered_fault, fault_of, level_fault, settle_fault, walk_fault}
use Rattle.clap.proofs.OnLiterals.{clap_on_literals}
use Rattle.std.proofs.lemmas.Slice.Eq.{bytes_eq-Decides}
use Rattle.cpc_base.proofs.Truth.{bytes_eq_exchanged}
use Rattle.cpc_cli_command.specs.Commands.{Check, Command, Exec, Options, Run, Sample, Translate, command_in, cells_in, command_named, command_of, cpc_app, file_command_in, if_taken, is_given as was_given, options_with, sample_in, section_steps_in, steps_in, threads_in, workers_in}
use Rattle.cpc_cli_command.specs.Usage.{BreaksNumber, EntersOperand, HasOperand, is_verb, operand_of}
use Rattle.cpc_cli_command.proofs.CommandLemmas.{entered_command}
use Rattle.cpc_cli_command.proofs.FullRows.{Full, HasSome, IsFed, finished_full, no_kind, or_none, walk_full}

first_some : (vs : List Text) → HasSome vs → (t : Text) × (slice_get vs 0 ≡ Some t)
first_some [] h = absurd h
first_some (v ∷ vs) h = (v, refl)

-- what was given has a value
given_some : (id : Text) (rows : List Row) → Full rows → is_given id rows ≡ true → (t : Text) × (first_of id rows ≡ Some t)
given_some id [] f e = absurd (true≢false (sym e))
given_some id (r ∷ rs) f e = go (bytes_eq r.id id) e (given_some id rs f.1)
  where
    found : Bool → Option Row
    found b = cond b (Some r) (find (λ x. bytes_eq x.id id) rs)

    go : (b : Bool) → option_map_or (λ x. explicit_source x.source) (found b) false ≡ true → (is_given id rs ≡ true → (t : Text) × (first_of id rs ≡ Some t)) → (t : Text) × (option_and_then (λ x. slice_get x.values 0) (found b) ≡ Some t)
    go true e below = first_some r.values f.0
    go false e below = below e

-- the subcommand's first argument is this one, and it is required
abbrev Needs : (id : Text) → List Rule → Type 0
Needs id [] = ⊥
Needs id (a ∷ rest) = (a.id ≡ id) × (a.required ≡ true)

-- the subcommand's first argument is its operand, and no use of an argument is without a value
abbrev TakesOperand : Shape → Type 0
TakesOperand s = IsFed s.rules × Needs (operand_of s.name) s.rules × (s.subcommand_negates_reqs ≡ false) × (is_verb s.name ≡ true)

abbrev AllTakeOperand : List Shape → Type 0
AllTakeOperand [] = Unit {0}
AllTakeOperand (s ∷ rest) = TakesOperand s × AllTakeOperand rest

abbrev IfTakesOperand : Option Shape → Type 0
IfTakesOperand None = Unit {0}
IfTakesOperand (Some s) = TakesOperand s

find_takes : (p : Shape → Bool) (subs : List Shape) → AllTakeOperand subs → IfTakesOperand (find p subs)
find_takes p [] all = tt
find_takes p (s ∷ rest) all = go (p s) (find_takes p rest all.1)
  where
    go : (b : Bool) → IfTakesOperand (find p rest) → IfTakesOperand (cond b (Some s) (find p rest))
    go true below = all.0
    go false below = below

check_parts : (help sub arg : Bool) → check_kinds help sub arg ≡ [] → (sub ≡ false) × (arg ≡ false)
check_parts true sub arg e = absurd (no_kind _ _ e)
check_parts false true arg e = absurd (no_kind _ _ e)
check_parts false false true e = absurd (no_kind _ _ e)
check_parts false false false e = (refl, refl)

needed_given : (id : Text) (rules : List Rule) (rows : List Row) (negates : Bool) → Needs id rules → negates ≡ false
    → (not (negates && false) && list_any (λ a. a.required && not (is_given a.id rows)) rules) ≡ false → is_given id rows ≡ true
needed_given id [] rows negates n z e = absurd n
needed_given id (a ∷ rest) rows true n z e = absurd (true≢false z)
needed_given id (a ∷ rest) rows false n z e = subst (λ (t : Text). is_given t rows ≡ true) n.0 (go a.required (is_given a.id rows) _ n.1 e)
  where
    go : (b g other : Bool) → b ≡ true → ((b && not g) || other) ≡ false → g ≡ true
    go true true other r e = refl
    go true false other r e = absurd (true≢false e)
    go false g other r e = absurd (true≢false (sym r))

-- one level of a parse with no fault: the walk, what is below, the last use, and the last checks
level_parts : (s : Shape) (names : Names) (words : List Text) (sub : Bool) (below : Kinds) → level_fault s names nothing_held words sub below ≡ []
    → (walk_fault s names (walk_from nothing_held) words ≡ []) × (below ≡ []) × (settle_fault s.rules s.args_override_self (walk s.rules names nothing_held words).held ≡ [])
    × (check_fault s (finished s.rules (walk s.rules names nothing_held words).held) sub ≡ [])
level_parts s names words sub below e =
    let end = (walk s.rules names nothing_held words).held in
    let one = or_none (walk_fault s names (walk_from nothing_held) words) _ e in
    let two = or_none below _ one.1 in
    let three = or_none (settle_fault s.rules s.args_override_self end) _ two.1 in
    let four = or_none (defaults_fault (settled s.rules end).rows s.rules) _ three.1 in
    (one.0, two.0, three.0, four.1)

sub_has_operand : (s : Shape) (words : List Text) → TakesOperand s → level_fault s [] nothing_held words false [] ≡ [] → HasOperand (rows_at s words)
sub_has_operand s words t e =
    let parts = level_parts s [] words false [] e in
    let w = walk s.rules [] nothing_held words in
    let full = finished_full s.rules s.args_override_self w.held t.0 parts.2 (walk_full s [] words (walk_from nothing_held) t.0 parts.0 tt) in
    let given = needed_given (operand_of s.name) s.rules (finished s.rules w.held) s.subcommand_negates_reqs t.1 t.2 (check_parts _ _ _ parts.3).1 in
    let some = given_some (operand_of s.name) (finished s.rules w.held) full given in
    (t.3, some.0, some.1)

enters : (a : App) (stop : Option (Text × List Text)) → AllTakeOperand a.subs → a.top.subcommand_required ≡ true
    → (not (is_some (entered a stop)) && a.top.subcommand_required) ≡ false → entered_fault a stop ≡ []
    → (met : Text × List Row) × (entered a stop ≡ Some met) × HasOperand met
enters a None all needs missing e = absurd (true≢false (sym needs ∙ missing))
enters a (Some p) all needs missing e = go (find (λ s. answers_to p.0 (label_of s)) a.subs) (find_takes _ a.subs all) missing e
  where
    at : Option Shape → Option (Text × List Row)
    at o = option_map (λ s. rows_at s p.1) o

    go : (o : Option Shape) → IfTakesOperand o → (not (is_some (at o)) && a.top.subcommand_required) ≡ false
        → option_map_or (λ s. level_fault s [] nothing_held p.1 false []) o [] ≡ [] → (met : Text × List Row) × (at o ≡ Some met) × HasOperand met
    go None t missing e = absurd (true≢false (sym needs ∙ missing))
    go (Some s) t missing e = (rows_at s p.1, refl, sub_has_operand s p.1 t e)

abbrev IsOperandApp : App → Type 0
IsOperandApp a = AllTakeOperand (built a).subs × ((built a).top.subcommand_required ≡ true) × (a.top.no_binary_name ≡ true)

operand_app : IsOperandApp cpc_app
unfolding cpc_app clap_on_literals
operand_app = (((refl, (refl, refl), refl, refl), ((refl, (refl, refl), refl, refl), ((refl, (refl, refl), refl, refl), ((refl, (refl, refl), refl, refl), ((refl, (refl, refl), refl, refl), tt))))), refl, refl)

app_enters : (app : App) (words : List Text) → IsOperandApp app → fault_of app words ≡ [] → (met : Text × List Row) × (subcommand_of app words ≡ Some met) × HasOperand met
app_enters app words is e =
    let a = built app in
    let given = Rattle.clap.specs.Simple.argument_words app words in
    let stop = (walk a.top.rules (names_of a) nothing_held given).stopped in
    let parts = level_parts a.top (names_of a) given (is_some (entered a stop)) (entered_fault a stop) e in
    enters a stop is.0 is.1 (check_parts _ _ _ parts.3).0 parts.1

pub enters_operand : (words : List Text) → fault_of cpc_app words ≡ [] → EntersOperand words
enters_operand words e = app_enters cpc_app words operand_app e

-- ---- so only a number can be wrong

-- what may be wrong with a number
abbrev IsWrong : Text → List Row → Type 0
IsWrong name rows = steps_in rows ≡ None ⊎ (cells_in rows ≡ None ⊎ (section_steps_in rows ≡ None ⊎ (workers_in rows ≡ None ⊎ ((name ≡ codes "sample") × (threads_in rows ≡ None)))))

option_wrong : (name file : Text) (rows : List Row) → bytes_eq name (codes "sample") ≡ false → is_verb name ≡ true → command_named name file rows ≡ None → IsWrong name rows
option_wrong name file rows other v e = go (bytes_eq name (codes "check")) (bytes_eq name (codes "translate")) (bytes_eq name (codes "run")) (bytes_eq name (codes "exec"))
    (bytes_eq name (codes "sample")) (steps_in rows) (cells_in rows) (section_steps_in rows) (workers_in rows) other
    (rw (bytes_eq_exchanged name (codes "check"), bytes_eq_exchanged name (codes "translate"), bytes_eq_exchanged name (codes "run"), bytes_eq_exchanged name (codes "exec"), bytes_eq_exchanged name (codes "sample")) v) e
  where
    asks : (o p q w : Option ℕ) → Option Options
    asks o p q w = option_and_then (λ steps. option_and_then (λ cells. option_and_then (λ more. option_map (options_with rows steps cells more) w) q) p) o

    runs : (o p q w : Option ℕ) → Option Command
    runs o p q w = option_map (λ options. Run file options (was_given (codes "text") rows)) (asks o p q w)

    -- which number is wrong, where there are no options
    wrong : (o p q w : Option ℕ) → asks o p q w ≡ None
        → o ≡ None ⊎ (p ≡ None ⊎ (q ≡ None ⊎ (w ≡ None ⊎ ((name ≡ codes "sample") × (threads_in rows ≡ None)))))
    wrong None p q w e = inl refl
    wrong (Some n) None q w e = inr (inl refl)
    wrong (Some n) (Some m) None w e = inr (inr (inl refl))
    wrong (Some n) (Some m) (Some l) None e = inr (inr (inr (inl refl)))
    wrong (Some n) (Some m) (Some l) (Some k) e = cc

    no_options : (make : Options → Command) (o : Option Options) → option_map make o ≡ None → o ≡ None
    no_options make None e = refl
    no_options make (Some x) e = cc

    go : (c t r x s : Bool) (o p q w : Option ℕ) → s ≡ false → (c || (t || (r || (x || (s || false))))) ≡ true
        → (if c then Some (Check file) else (if t then Some (Translate file) else (if r then runs o p q w else (if x then option_map (Exec file) (asks o p q w) else None)))) ≡ None
        → o ≡ None ⊎ (p ≡ None ⊎ (q ≡ None ⊎ (w ≡ None ⊎ ((name ≡ codes "sample") × (threads_in rows ≡ None)))))
    go true t r x s o p q w f v e = cc
    go false true r x s o p q w f v e = cc
    go false false true x s o p q w f v e = wrong o p q w (no_options (λ options. Run file options (was_given (codes "text") rows)) (asks o p q w) e)
    go false false false true s o p q w f v e = wrong o p q w (no_options (Exec file) (asks o p q w) e)
    go false false false false true o p q w f v e = absurd (true≢false f)
    go false false false false false o p q w f v e = absurd (true≢false (sym v))

none_of : (o : Option ℕ) → option_map Sample o ≡ None → o ≡ None
none_of None e = refl
none_of (Some n) e = cc

number_wrong : (name value : Text) (rows : List Row) → is_verb name ≡ true → first_of (operand_of name) rows ≡ Some value → command_in (name, rows) ≡ None → IsWrong name rows
number_wrong name value rows v has e = go (bytes_eq name (codes "sample")) refl has e
  where
    go : (s : Bool) → bytes_eq name (codes "sample") ≡ s → first_of (if s then codes "N" else codes "FILE") rows ≡ Some value
        → (if s then sample_in rows else file_command_in (name, rows)) ≡ None → IsWrong name rows
    go true is h e = inr (inr (inr (inr ((bytes_eq-Decides name (codes "sample")).0 is, none_of (threads_in rows) e))))
    go false is h e = option_wrong name value rows is v (sym (ap (option_and_then (λ f. command_named name f rows)) h) ∙ e)

pub breaks_number : (words : List Text) → fault_of cpc_app words ≡ [] → command_of words ≡ None → BreaksNumber words
breaks_number words e none =
    let has = enters_operand words e in
    let met = has.0 in
    let taken = ap (λ kinds. if_taken kinds (option_and_then command_in (subcommand_of cpc_app words))) e in
    let is : command_of words ≡ command_in (met.0, met.1) = taken ∙ entered_command (subcommand_of cpc_app words) met.0 met.1 has.1 in
    (met, has.1, number_wrong met.0 has.2.1 met.1 has.2.0 has.2.2 (sym is ∙ none))
