-- Where clap takes the words, each row that it has found holds a value.
use Rattle.std.proofs.Common.{◌≡◌, ◌==◌, ◌&&◌, ◌||◌, ℕ, Bool, cond, zero, suc, true, false, true≢false, List, [], ◌∷◌, ◌++◌, length, drop, Option, Some, None, is_some, nat_lt, refl, sym, ap}
use Rattle.std.specs.Prelude.{if◌then◌else◌, encode_utf8, find, fold, slice_get}
use Rattle.std.specs.List.{list_all}
use Rattle.std.specs.Option.{option_map_or}
use Rattle.std.specs.Str.{bytes_eq, chars}
use Rattle.cpc_base.proofs.Truth.{and_both}
use Rattle.clap.specs.Lexer.{long_of, short_of}
use Rattle.clap.specs.Facts.{unwrap_or_range}
use Rattle.clap.specs.Matches.{count_text}
use Rattle.clap.specs.Kinds.{Kinds, or_else, range_kinds}
use Rattle.clap.specs.Walk.{Held, Names, Outcome, Row, Rule, Step, Text, Waiting, Walk, action_of, after_flag, after_step, arg_by_id, arg_by_index, arg_by_long, arg_by_short, at_row, attached_value, bundle, bundle_met, bundle_step, count_of, counted, default_rows, done, idle, is_pending, long_met, long_or_other, more_values, most_values, new_count, next, option, option_met, option_word, plain, plain_word, positional, positional_held, reacted, reading_by, refused, settled, settled_rows, short_met, short_or_plain, subcommand, subcommand_met, subcommand_or_other, takes_several, takes_values, to_positional, trailing, used, used_as, used_by_id, value, values_or_missing, waits, walked, walked_from, with_count, with_default, with_values, without, word_met}
use Rattle.clap.specs.Simple.{Shape}
use Rattle.clap.specs.Faults.{bundle_step_fault, flag_word_fault, flags_fault, long_fault, option_fault, other_fault, react_fault, settle_fault, short_fault, step_fault, turn_fault, use_fault, walk_fault, word_fault}
use Rattle.clap.specs.declared.builder.action.ArgAction.{ArgAction}
use Rattle.clap.specs.declared.builder.action.ArgAction.TheVariants as action
use Rattle.clap.specs.declared.builder.value_parser.Reading.{Reading}
use Rattle.clap.specs.declared.error.kind.ErrorKind.{ErrorKind}
use Rattle.clap.specs.declared.error.kind.ErrorKind.TheVariants as kind
use Rattle.clap.specs.declared.parser.matches.ValueSource.{ValueSource}
use Rattle.clap.specs.declared.parser.matches.ValueSource.TheVariants.{CommandLine, DefaultValue}

-- ---- lists of kinds and values

abbrev pub HasSome : List Text → Type 0
HasSome [] = ⊥
HasSome (_ ∷ _) = Unit {0}

abbrev pub has_some : List Text → Bool
has_some [] = false
has_some (_ ∷ _) = true

some_of : (vs : List Text) → has_some vs ≡ true → HasSome vs
some_of [] e = absurd (true≢false (sym e))
some_of (v ∷ vs) e = tt

abbrev is_none : Kinds → Bool
is_none [] = true
is_none (_ ∷ _) = false

pub no_kind : (k : ErrorKind) (ks : Kinds) → k ∷ ks ≡ [] → ⊥
no_kind k ks e = true≢false (sym (ap is_none e))

pub or_none : (a b : Kinds) → or_else a b ≡ [] → (a ≡ []) × (b ≡ [])
or_none [] b e = (refl, e)
or_none (k ∷ ks) b e = absurd (no_kind k ks e)

-- ---- rows

-- each row has a value
abbrev pub Full : List Row → Type 0
Full [] = Unit {0}
Full (r ∷ rs) = HasSome r.values × Full rs

full_append : (xs ys : List Row) → Full xs → Full ys → Full (xs ++ ys)
full_append [] ys f g = g
full_append (x ∷ xs) ys f g = (f.0, full_append xs ys f.1 g)

at_full : (id : Text) (change : Row → List Row) (missing : List Row) → ((r : Row) → HasSome r.values → Full (change r)) → Full missing
    → (rows : List Row) → Full rows → Full (at_row id change missing rows)
at_full id change missing keeps m [] f = m
at_full id change missing keeps m (r ∷ rs) f = go (bytes_eq r.id id) (at_full id change missing keeps m rs f.1)
  where
    go : (b : Bool) → Full (at_row id change missing rs) → Full (if b then change r ++ rs else r ∷ at_row id change missing rs)
    go true rest = full_append (change r) rs (keeps r f.0) f.1
    go false rest = (f.0, rest)

without_full : (id : Text) (rows : List Row) → Full rows → Full (without id rows)
without_full id rows f = at_full id (λ _. []) [] (λ r h. tt) tt rows f

more_some : (xs ys : List Text) → HasSome xs → HasSome (xs ++ ys)
more_some [] ys h = absurd h
more_some (x ∷ xs) ys h = tt

with_full : (id : Text) (how : Reading) (s : ValueSource) (vs : List Text) (rows : List Row) → HasSome vs → Full rows → Full (with_values id how s vs rows)
with_full id how s vs rows h f = at_full id (more_values s vs) (record { id = id; values = vs; count = None; source = Some s; reading = how } ∷ []) (λ r g. (more_some r.values vs g, tt)) (h, tt) rows f

count_full : (id : Text) (how : Reading) (s : ValueSource) (n : ℕ) (rows : List Row) → Full rows → Full (with_count id how s n rows)
count_full id how s n rows f = at_full id (new_count s n) (record { id = id; values = count_text n ∷ []; count = Some n; source = Some s; reading = how } ∷ []) (λ r g. (more_some r.values (count_text n ∷ []) g, tt)) (tt, tt) rows f

-- ---- one use

-- a use of the argument with no fault has a value
abbrev pub feeds : Rule → Bool
feeds a = nat_lt 0 (unwrap_or_range a.range).start_inclusive || has_some a.missing

abbrev pub IsFed : List Rule → Type 0
IsFed rules = list_all feeds rules ≡ true

abbrev Fed : Option Rule → Type 0
Fed None = Unit {0}
Fed (Some a) = feeds a ≡ true

find_fed : (p : Rule → Bool) (rules : List Rule) → IsFed rules → Fed (find p rules)
find_fed p [] e = tt
find_fed p (a ∷ rest) e =
    let two = and_both (feeds a) (list_all feeds rest) e in
    go (p a) two.0 (find_fed p rest two.1)
  where
    go : (b : Bool) → feeds a ≡ true → Fed (find p rest) → Fed (cond b (Some a) (find p rest))
    go true here below = here
    go false here below = below

as_full : (act : ArgAction) (id : Text) (how : Reading) (vs : List Text) (rows : List Row) → HasSome vs → Full rows → Full (used_as act id how vs rows)
as_full action.Set id how vs rows h f = with_full id how CommandLine vs (without id rows) h (without_full id rows f)
as_full action.SetTrue id how vs rows h f = with_full id how CommandLine vs (without id rows) h (without_full id rows f)
as_full action.SetFalse id how vs rows h f = with_full id how CommandLine vs (without id rows) h (without_full id rows f)
as_full action.Append id how vs rows h f = with_full id how CommandLine vs rows h f
as_full action.Count id how [] rows h f = absurd h
as_full action.Count id how (v ∷ vs) rows h f = with_full id how CommandLine (v ∷ vs) (without id rows) h (without_full id rows f)
as_full action.Help id how vs rows h f = f
as_full action.HelpShort id how vs rows h f = f
as_full action.HelpLong id how vs rows h f = f
as_full action.Version id how vs rows h f = f

use_some : (a : Rule) (vs : List Text) → feeds a ≡ true → range_kinds (unwrap_or_range a.range).start_inclusive (most_values a) (length vs) ≡ [] → HasSome (values_or_missing a vs)
use_some a (v ∷ vs) e k = tt
use_some a [] e k = go (nat_lt 0 (unwrap_or_range a.range).start_inclusive) _ e k
  where
    go : (b : Bool) (ks : Kinds) → (b || has_some a.missing) ≡ true → (if (b && 0 == 0) then kind.InvalidValue ∷ [] else ks) ≡ [] → HasSome a.missing
    go true ks e k = absurd (no_kind _ _ k)
    go false ks e k = some_of a.missing e

used_full : (again : Bool) (a : Rule) (vs : List Text) (rows : List Row) → feeds a ≡ true → use_fault again a vs rows ≡ [] → Full rows → Full (used a vs rows)
used_full again a vs rows e k f =
    as_full (action_of a) a.id (reading_by a) (values_or_missing a vs) rows (use_some a vs e (or_none _ _ k).0) f

-- ---- the walk

settled_full : (c : List Rule) (again : Bool) (h : Held) → IsFed c → settle_fault c again h ≡ [] → Full h.rows → Full (settled c h).rows
settled_full c again h fed e f = go h.pending e
  where
    by : (o : Option Rule) (vs : List Text) → Fed o → option_map_or (λ a. use_fault again a vs h.rows) o [] ≡ [] → Full (used_by_id o vs h.rows)
    by None vs g k = f
    by (Some a) vs g k = used_full again a vs h.rows g k f

    go : (o : Option (Text × List Text)) → option_map_or (λ p. option_map_or (λ a. use_fault again a p.1 h.rows) (arg_by_id c p.0) []) o [] ≡ []
        → Full (settled_rows c o h.rows)
    go None k = f
    go (Some p) k = by (arg_by_id c p.0) p.1 (find_fed _ c fed) k

reacted_full : (c : List Rule) (again : Bool) (a : Rule) (vs : List Text) (h : Held) → IsFed c → feeds a ≡ true → react_fault c again a vs h ≡ []
    → Full h.rows → Full (reacted c a vs h).rows
reacted_full c again a vs h fed g e f =
    let two = or_none (settle_fault c again h) _ e in
    used_full again a vs (settled c h).rows g two.1 (settled_full c again h fed two.0 f)

option_full : (c : List Rule) (again : Bool) (a : Rule) (v : Option Text) (h : Held) → IsFed c → feeds a ≡ true → option_fault c again a v h ≡ []
    → Full h.rows → Full (option_met c a v h).0.rows
option_full c again a (Some v) h fed g e f = reacted_full c again a (v ∷ []) h fed g e f
option_full c again a None h fed g e f = settled_full c again h fed e f

long_full : (c : List Rule) (again : Bool) (o : Option Rule) (v : Option Text) (h : Held) → IsFed c → Fed o → long_fault c again o v h ≡ []
    → Full h.rows → Full (long_met c o v h).0.rows
long_full c again None v h fed g e f = f
long_full c again (Some a) v h fed g e f = go (takes_values a) v e
  where
    go : (b : Bool) (v : Option Text) → (if b then option_fault c again a v h else (if is_some v then kind.TooManyValues ∷ [] else react_fault c again a [] h)) ≡ []
        → Full (if b then option_met c a v h else Rattle.clap.specs.Walk.flag_met c a v h).0.rows
    go true v e = option_full c again a v h fed g e f
    go false (Some v) e = f
    go false None e = reacted_full c again a [] h fed g e f

short_full : (c : List Rule) (again : Bool) (o : Option Rule) (rest : Text) (h : Held) (fault : Held → Kinds) (more : Held → Held × Outcome) → IsFed c → Fed o
    → ((g : Held) → fault g ≡ [] → Full g.rows → Full (more g).0.rows) → short_fault c again o rest h fault ≡ []
    → Full h.rows → Full (short_met c o rest h more).0.rows
short_full c again None rest h fault more fed g step e f = f
short_full c again (Some a) rest h fault more fed g step e f = go (takes_values a) e
  where
    go : (b : Bool) → (if b then option_fault c again a (attached_value rest) h else or_else (react_fault c again a [] h) (fault (reacted c a [] h))) ≡ []
        → Full (if b then option_met c a (attached_value rest) h else more (reacted c a [] h)).0.rows
    go true e = option_full c again a (attached_value rest) h fed g e f
    go false e =
        let two = or_none (react_fault c again a [] h) _ e in
        step (reacted c a [] h) two.1 (reacted_full c again a [] h fed g two.0 f)

bundle_full : (c : List Rule) (again : Bool) (k : ℕ) (flags : Text) (skip : ℕ) (so_far : Outcome) (h : Held) → IsFed c → flags_fault c again k flags skip h ≡ []
    → Full h.rows → Full (bundle_met c k flags skip so_far h).0.rows
unfolding bundle_met flags_fault
bundle_full c again zero flags skip so_far h fed e f = f
bundle_full c again (suc k) flags skip so_far h fed e f =
    go (slice_get (chars flags) 0) skip e (λ rest skip so_far g none full. bundle_full c again k rest skip so_far g fed none full)
  where
    go : (o : Option ℕ) (skip : ℕ) → bundle_step_fault c again o flags skip h (flags_fault c again k) ≡ []
        → ((rest : Text) (skip : ℕ) (so_far : Outcome) (g : Held) → flags_fault c again k rest skip g ≡ [] → Full g.rows → Full (bundle_met c k rest skip so_far g).0.rows)
        → Full (bundle_step c o flags skip so_far h (bundle_met c k)).0.rows
    go None skip e on = f
    go (Some x) zero e on = short_full c again (arg_by_short c x) (drop (length (encode_utf8 x)) flags) h
        (flags_fault c again k (drop (length (encode_utf8 x)) flags) 0) (bundle_met c k (drop (length (encode_utf8 x)) flags) 0 done) fed (find_fed _ c fed)
        (λ g none full. on (drop (length (encode_utf8 x)) flags) 0 done g none full) e f
    go (Some x) (suc skip) e on = on (drop (length (encode_utf8 x)) flags) skip so_far h e f

plain_full : (c : List Rule) (waiting : Waiting) (word : Text) (h : Held) → Full h.rows → Full (plain_word c waiting word h).0.rows
plain_full c idle word h f = f
plain_full c positional word h f = f
plain_full c (option id) word h f = go (arg_by_id c id)
  where
    go : (o : Option Rule) → Full (option_word o id word h).0.rows
    go None = f
    go (Some a) = f

after_full : (c : List Rule) (waiting : Waiting) (word : Text) (h : Held) (o : Outcome) → Full h.rows → Full (after_flag c waiting word h o).0.rows
after_full c waiting word h done f = f
after_full c waiting word h (waits id) f = f
after_full c waiting word h plain f = plain_full c waiting word h f
after_full c waiting word h refused f = plain_full c waiting word h f

flag_full : (s : Shape) (waiting : Waiting) (word : Text) (h : Held) → IsFed s.rules → flag_word_fault s.rules s.args_override_self (long_of word) word h ≡ []
    → Full h.rows → Full (long_or_other s.rules waiting word (long_of word) h).0.rows
flag_full s waiting word h fed e f = go (long_of word) e
  where
    other : (o : Option Text) → option_map_or (λ flags. Rattle.clap.specs.Faults.bundle_fault s.rules s.args_override_self flags h) o [] ≡ []
        → Full (short_or_plain s.rules waiting word o h).0.rows
    other None e = plain_full s.rules waiting word h f
    other (Some flags) e = after_full s.rules waiting word (bundle s.rules flags h).0 (bundle s.rules flags h).1
        (bundle_full s.rules s.args_override_self (length flags) flags h.skip plain (record h { skip = 0 }) fed e f)

    go : (o : Option (Text × Option Text)) → flag_word_fault s.rules s.args_override_self o word h ≡ [] → Full (long_or_other s.rules waiting word o h).0.rows
    go None e = other (short_of word) e
    go (Some p) e = after_full s.rules waiting word _ (long_met s.rules (arg_by_long s.rules p.0) p.1 h).1
        (long_full s.rules s.args_override_self (arg_by_long s.rules p.0) p.1 h fed (find_fed _ s.rules fed) e f)

word_full : (s : Shape) (names : Names) (is_trailing : Bool) (waiting : Waiting) (position : ℕ) (word : Text) (h : Held) → IsFed s.rules
    → word_fault s names is_trailing waiting word h ≡ [] → Full h.rows → Full (word_met s.rules names is_trailing waiting position word h).0.rows
word_full s names true waiting position word h fed e f = f
word_full s names false waiting position word h fed e f = go (subcommand_met names waiting word) e
  where
    end : (b : Bool) → (if b then [] else flag_word_fault s.rules s.args_override_self (long_of word) word h) ≡ []
        → Full (if b then (h, trailing position) else long_or_other s.rules waiting word (long_of word) h).0.rows
    end true e = f
    end false e = flag_full s waiting word h fed e f

    go : (o : Option Text) → other_fault s o word h ≡ [] → Full (subcommand_or_other s.rules o waiting position word h).0.rows
    go (Some name) e = f
    go None e = end (bytes_eq word (45 ∷ 45 ∷ [])) e

step_full : (s : Shape) (word : Text) (w : Walk) (h : Held) (step : Step) → IsFed s.rules → step_fault s w.position h step ≡ []
    → Full h.rows → Full (after_step s.rules word w h step).held.rows
step_full s word w h (next waiting) fed e f = f
step_full s word w h (trailing position) fed e f = f
step_full s word w h (subcommand name) fed e f = f
step_full s word w h value fed e f = go (arg_by_index s.rules w.position) e
  where
    held : (b : Bool) (a : Rule) → (if b then [] else settle_fault s.rules s.args_override_self h) ≡ [] → Full (if b then h else settled s.rules h).rows
    held true a e = f
    held false a e = settled_full s.rules s.args_override_self h fed e f

    go : (o : Option Rule) → option_map_or (λ a. Rattle.clap.specs.Faults.positional_fault s.rules s.args_override_self a h) o (Rattle.clap.specs.Faults.stray_fault s) ≡ []
        → Full (to_positional s.rules o word w h).held.rows
    go None e = f
    go (Some a) e = held (is_pending a h.pending && takes_several a) a e

turn_full : (s : Shape) (names : Names) (w : Walk) (word : Text) → IsFed s.rules → turn_fault s names w word ≡ [] → Full w.held.rows
    → Full (walked s.rules names w word).held.rows
unfolding walked
turn_full s names w word fed e f = go w.stopped e
  where
    met : Held × Step
    met = word_met s.rules names w.is_trailing w.waiting w.position word w.held

    go : (o : Option (Text × List Text)) → (if is_some o then [] else or_else (word_fault s names w.is_trailing w.waiting word w.held)
        (step_fault s w.position met.0 met.1)) ≡ [] → Full (walked_from s.rules names o w word).held.rows
    go (Some p) e = f
    go None e =
        let two = or_none (word_fault s names w.is_trailing w.waiting word w.held) _ e in
        step_full s word w met.0 met.1 fed two.1 (word_full s names w.is_trailing w.waiting w.position word w.held fed two.0 f)

pub walk_full : (s : Shape) (names : Names) (words : List Text) (w : Walk) → IsFed s.rules → walk_fault s names w words ≡ [] → Full w.held.rows
    → Full (fold (walked s.rules names) w words).held.rows
unfolding walk_fault
walk_full s names [] w fed e f = f
walk_full s names (word ∷ rest) w fed e f =
    let two = or_none (turn_fault s names w word) _ e in
    walk_full s names rest (walked s.rules names w word) fed two.1 (turn_full s names w word fed two.0 f)

-- ---- after the walk

default_full : (rows : List Row) (a : Rule) → Full rows → Full (with_default rows a)
default_full rows a f = go (Rattle.clap.specs.Walk.has_row a.id rows) a.defaults
  where
    go : (b : Bool) (vs : List Text) → Full (if b then rows else default_rows a.id (reading_by a) vs rows)
    go true vs = f
    go false [] = f
    go false (v ∷ vs) = with_full a.id (reading_by a) DefaultValue (v ∷ vs) rows tt f

defaults_full : (c : List Rule) (rows : List Row) → Full rows → Full (fold with_default rows c)
defaults_full [] rows f = f
defaults_full (a ∷ rest) rows f = defaults_full rest (with_default rows a) (default_full rows a f)

pub finished_full : (c : List Rule) (again : Bool) (h : Held) → IsFed c → settle_fault c again h ≡ [] → Full h.rows → Full (Rattle.clap.specs.Walk.finished c h)
finished_full c again h fed e f = defaults_full c (settled c h).rows (settled_full c again h fed e f)
