-- What goes out for marks, one behind the others, and the last line.
use Rattle.std.proofs.Common.{◌≡◌, Bool, true, false, List, [], ◌∷◌, ◌++◌, map, take, refl, sym, ap, ◌∙◌, append_assoc}
use Rattle.std.proofs.lemmas.List.{append-nil}
use Rattle.cpc_base.specs.Bytes.{Text}
use Rattle.cpc_tree.specs.Erase.{Names}
use Rattle.cpc_tree.specs.Texts.{Stop, mark_text, last_text, trace_text, output, output_of, history_text, poll_text}
use Rattle.cpc_tree.specs.Trace as T
use Rattle.cpc_tree.specs.Trace.{Mark}
use Rattle.cpc_history_marks.specs.declared.marks.Told.{Told}
use Rattle.cpc_history_marks.specs.Views.{told_of}
use Rattle.cpc_run_shown.specs.declared.outcome.Ended.{Ended}
use Rattle.cpc_run_shown.specs.declared.outcome.Ended.TheVariants as E
use Rattle.cpc_run_shown.specs.Shown.{lines_of, shown, shown_of, all_shown, last_of}

lines_more : (ms : List Mark) (m : Mark) → lines_of (ms ++ m ∷ []) ≡ lines_of ms ++ (mark_text m ++ 10 ∷ [])
lines_more [] m = refl
lines_more (x ∷ ms) m = ap (λ t. mark_text x ++ 10 ∷ t) (lines_more ms m) ∙ sym (append_assoc (mark_text x) (10 ∷ lines_of ms) (mark_text m ++ 10 ∷ []))

output_more : (ms : List Mark) (m : Mark) → output (ms ++ m ∷ []) ≡ output ms ++ output_of m
output_more [] m = append-nil (output_of m)
output_more (x ∷ ms) m = ap (λ t. output_of x ++ t) (output_more ms m) ∙ sym (append_assoc (output_of x) (output ms) (output_of m))

-- one more mark goes out behind the others
pub shown_more : (trace : Bool) (ms : List Mark) (m : Mark) → shown trace (ms ++ m ∷ []) ≡ shown trace ms ++ shown_of trace m
shown_more true ms m = lines_more ms m
shown_more false ms m = output_more ms m

-- the last line is behind all marks
traced_is : (ms : List Mark) (stop : Stop) → trace_text ms stop ≡ lines_of ms ++ (last_text stop ++ 10 ∷ [])
traced_is [] stop = refl
traced_is (m ∷ ms) stop = ap (λ t. mark_text m ++ 10 ∷ t) (traced_is ms stop) ∙ sym (append_assoc (mark_text m) (10 ∷ lines_of ms) (last_text stop ++ 10 ∷ []))

-- all that goes out of a run that was left so
pub all_is : (names : Names) (trace : Bool) (e : Ended) (ms : List Mark) → all_shown names trace e ms ≡ shown trace ms ++ last_of names trace e
all_is names true (E.Over outcome) ms = traced_is ms _
all_is names true E.Steps ms = traced_is ms _
all_is names true (E.Full cells) ms = traced_is ms _
all_is names true E.WriteFault ms = sym (append-nil (lines_of ms))
all_is names true E.Memory ms = sym (append-nil (lines_of ms))
all_is names true (E.NoHost x) ms = sym (append-nil (lines_of ms))
all_is names false e ms = sym (append-nil (output ms))

-- there is no last line where the sink failed
pub no_last : (names : Names) (trace : Bool) (ms : List Mark) → all_shown names trace E.WriteFault ms ≡ shown trace ms
no_last names true ms = refl
no_last names false ms = refl

-- nor where memory was wanting
pub none_last : (names : Names) (trace : Bool) (ms : List Mark) → all_shown names trace E.Memory ms ≡ shown trace ms
none_last names true ms = refl
none_last names false ms = refl

-- nothing goes out for no marks
pub nothing_shown : (trace : Bool) → shown trace [] ≡ []
nothing_shown true = refl
nothing_shown false = refl

-- what goes out for a mark that outputs nothing, where no trace is wanted
pub silent : (trace : Bool) (m : Mark) (old : Text) → output_of m ≡ [] → trace ≡ false → old ≡ old ++ shown_of trace m
silent trace m old e f = sym (append-nil old) ∙ ap (λ t. old ++ t) (sym e) ∙ ap (λ b. old ++ shown_of b m) (sym f)

-- the line of a poll is that of a history
pub poll_line : (xs : List Told) (told : T.Told) (left : List T.Told) → map told_of xs ≡ told ∷ left → history_text (map told_of (take 1 xs)) ≡ shown_of true (T.Polled told)
poll_line [] told left e = absurd (cc e)
poll_line (x ∷ xs) told left e = let same : told_of x ≡ told = cc e in ap (λ t. poll_text t ++ 10 ∷ []) same
