use Rattle.std.proofs.Common.{◌≡◌, ◌<◌, ◌≤◌, None, length, get_or, sym, ap, ◌∙◌, subst}
use Rattle.std.proofs.lemmas.List.{append-nil}
use Rattle.cpc_tree.specs.Erase.{in_table}
use Rattle.cpc_printer_layout.proofs.Blanks.{no_blanks, one_line}
use Rattle.cpc_printer_layout.proofs.Laid.{LaidSoFar, laid_none, laid_more, laid_all, laid_out}
use Rattle.cpc_printer_layout.proofs.page.text.Goals as goal
use Rattle.cpc_printer_layout.proofs.page.text.Goals.{then-is_some+in_ok-push, else-is_some}

pub loop-piece-init : goal.loop-piece-init
loop-piece-init c = subst (λ u. LaidSoFar (in_table c.args.names.now) c.args.sheet.now.pieces.items 0 u None) (sym c.new-out.ensures.items) (laid_none (in_table c.args.names.now) c.args.sheet.now.pieces.items)

pub loop-piece-preserved : goal.loop-piece-preserved
loop-piece-preserved c =
    let n = c.loop-piece.piece-index in
    let piece = c.piece-item.result in
    let same = c.deref-piece-items.ensures.value in
    laid_more (in_table c.args.names.now) c.args.sheet.now.pieces.items n _ _ _ piece (subst (λ u. n < length u) same c.loop-piece-test.true) (subst (λ u. piece ≡ get_or u n piece) same c.piece-item.is) c.loop-piece.invariant c.in_ok-set.ensures

pub returns-clause-laid : goal.returns-clause-laid
returns-clause-laid c =
    let n = c.loop-piece.piece-index in
    let end = subst (λ u. length u ≤ n) c.deref-piece-items.ensures.value c.loop-piece-test.false in
    elim c.if-is_some.branch [
      | then-is_some+in_ok-push w ↦ laid_out (in_table c.args.names.now) c.args.sheet.now.pieces.items n _ _ _ _ c.loop-piece.invariant end one_line (ap (λ v. v.items) w.out-is ∙ w.in_ok-push.ensures.items)
      | else-is_some w ↦ laid_out (in_table c.args.names.now) c.args.sheet.now.pieces.items n _ _ _ _ c.loop-piece.invariant end no_blanks (ap (λ v. v.items) w.out-is ∙ sym (append-nil c.loop-piece.out.items))
    ]

pub returns-clause-cuts : goal.returns-clause-cuts
returns-clause-cuts c =
    let n = c.loop-piece.piece-index in
    let end = subst (λ u. length u ≤ n) c.deref-piece-items.ensures.value c.loop-piece-test.false in
    elim c.if-is_some.branch [
      | then-is_some+in_ok-push w ↦ laid_all (in_table c.args.names.now) c.args.sheet.now.pieces.items n _ _ _ _ c.loop-piece.invariant end one_line (ap (λ v. v.items) w.out-is ∙ w.in_ok-push.ensures.items)
      | else-is_some w ↦ laid_all (in_table c.args.names.now) c.args.sheet.now.pieces.items n _ _ _ _ c.loop-piece.invariant end no_blanks (ap (λ v. v.items) w.out-is ∙ sym (append-nil c.loop-piece.out.items))
    ]
