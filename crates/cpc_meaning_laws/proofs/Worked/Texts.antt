-- The texts of histories: how they are printed, read and refused.
use Rattle.std.specs.Prelude.{◌≡◌, [], ◌∷◌, pos, codes, refl}
use Rattle.std.specs.Fmt.{digits}
use Rattle.cpc_base.specs.declared.poll.Event.TheVariants.{Done, Ready}
use Rattle.cpc_base.specs.declared.poll.Direction.TheVariants.{Read, Write}
use Rattle.cpc_tree.specs.Texts.{history_text, read_history, Polls, BadLine, BadForm, BadNumber}
use Rattle.cpc_meaning_laws.specs.Worked.Shown.{told}

-- the printed form has one space between words
pub polls_are_printed : history_text (told 3 (Done 0 ∷ Ready (pos 12) Read ∷ Ready (pos 1) Write ∷ []) ∷ told 0 [] ∷ []) ≡ codes "poll 3 d0 r12 w1\npoll 0\n"
unfolding digits
polls_are_printed = refl

-- comments and empty lines are skipped, and zeros that lead
pub polls_are_read : read_history (codes "# a line that is skipped\n\tpoll  003 d0\tr12\n\npoll 0") ≡ Polls (told 3 (Done 0 ∷ Ready (pos 12) Read ∷ []) ∷ told 0 [] ∷ [])
polls_are_read = refl

-- a word that is no number
pub a_bad_word_is_told_by_its_line : read_history (codes "poll 1\npoll x") ≡ BadLine 2 BadForm
a_bad_word_is_told_by_its_line = refl

-- a clock above its limit, before another bad word
pub the_first_bad_word_decides : read_history (codes "\npoll 9007199254740993 q\npoll x") ≡ BadLine 2 BadNumber
the_first_bad_word_decides = refl

-- a poll has a clock
pub a_poll_has_a_clock : read_history (codes "poll") ≡ BadLine 1 BadForm
a_poll_has_a_clock = refl
