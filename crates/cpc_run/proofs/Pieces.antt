-- What waits is written.
use Rattle.std.proofs.Common.{◌≡◌, ℕ, ◌<◌, ◌≤◌, ◌+◌, ◌-◌, ◌^◌, min, [], ◌++◌, length, length-append, length-take-le, take, drop, Option, refl, sym, ap, ◌∙◌, arith, append_assoc, inl, inr, Bool, true, subst}
use Rattle.std.proofs.lemmas.List.{append-nil, take-append-drop}
use Rattle.std.specs.Io.KnownBytes.{append_known}
use Rattle.cpc_base.specs.Bytes.{Text}
use Rattle.cpc_base.specs.Outside.{Rose}
use Rattle.cpc_base.proofs.Pieces.{append_known-append}
use Rattle.cpc_tree.specs.Erase.{Table, in_table}
use Rattle.cpc_run_shown.specs.declared.outcome.Ended.{Ended}
use Rattle.cpc_run_shown.specs.declared.outcome.Ended.TheVariants as E
use Rattle.cpc_run_shown.specs.Shown.{last_of}
use Rattle.cpc_run.specs.Reports.{IsCutShort, Wrote, Drained, EndsSo, with_last}
use Rattle.cpc_run_shown.specs.Known.{IsInTable}

module _ (told old now : Option Text) (sent text : Text) (so_far : old ≡ append_known told sent) where
  -- all of it
  pub all_written : now ≡ append_known old text → now ≡ append_known told (sent ++ text)
  all_written e = e ∙ ap (λ k. append_known k text) so_far ∙ append_known-append told sent text

  pub drained : (pending left : Text) → text ≡ pending → left ≡ [] → now ≡ append_known old text → Drained told now sent pending left
  drained pending left is none e = (sent ++ text, all_written e, ap (λ t. (sent ++ text) ++ t) none ∙ append-nil (sent ++ text) ∙ ap (λ t. sent ++ t) is)

  -- only the first bytes of it
  pub part_written : (pending : Text) (n : ℕ) → text ≡ pending → n < length text → now ≡ append_known old (take n text) → Wrote told now (λ o. IsCutShort o (sent ++ pending))
  part_written pending n is less e = (
    sent ++ take n text,
    e ∙ ap (λ k. append_known k (take n text)) so_far ∙ append_known-append told sent (take n text),
    record {
      part = record { rest = drop n text; whole = ap (λ t. sent ++ t) (sym is ∙ sym (take-append-drop n text)) ∙ sym (append_assoc sent (take n text) (drop n text)) };
      short =
          let size = ap length is in
          let front = length-append sent (take n text) in
          let taken = length-take-le n text (omega (arith, less)) in
          let all = length-append sent pending in
          omega (arith, size, front, taken, all, less);
    },
  )

-- nothing was written yet
pub none_written : (told now : Option Text) (sent pending : Text) → now ≡ append_known told sent → Drained told now sent pending pending
none_written told now sent pending e = (sent, e, refl)

-- what was put out with the last line is what was put out, and the last line
module _ (table : Table) (trace : Bool) (due : Ended) (sent pending mid : Text) (known : IsInTable table due) (last : mid ≡ pending ++ last_of (in_table table) trace due) where
  with_it : sent ++ mid ≡ with_last table trace due (sent ++ pending)
  with_it = ap (λ t. sent ++ t) last ∙ sym (append_assoc sent pending (last_of (in_table table) trace due))

  -- all that waited is written, and the end is the one that was due
  pub all_told : (told now : Option Text) (left : Text) → left ≡ [] → Drained told now sent mid left → Wrote told now (λ o. EndsSo table trace due due o (sent ++ pending))
  all_told told now left none (front, e, is) = (front, e, inl (known, refl, sym (append-nil front) ∙ ap (λ t. front ++ t) (sym none) ∙ is ∙ with_it))

  -- the sink failed
  pub part_told : (told now : Option Text) → Wrote told now (λ o. IsCutShort o (sent ++ mid)) → Wrote told now (λ o. EndsSo table trace due E.WriteFault o (sent ++ pending))
  part_told told now (front, e, part) = (front, e, inr (inl (known, refl, subst (IsCutShort front) with_it part)))

-- memory was wanting for the last line
pub starved_told : (table : Table) (trace : Bool) (due : Ended) (sent pending : Text) (told now : Option Text) → trace ≡ true → now ≡ append_known told sent → Wrote told now (λ o. EndsSo table trace due E.Memory o (sent ++ pending))
starved_told table trace due sent pending told now traced e = (sent, e, inr (inr (refl, traced, record { rest = pending; whole = refl })))

-- a count that rose later rose
pub rose_later : (old mid new : ℕ) → old ≤ mid → Rose mid new → Rose old new
rose_later old mid new le rose = let h : min (mid + 1) (2 ^ 64 - 1) ≤ new = rose in omega arith
