use Rattle.std.proofs.Common.{false, arith}
use Rattle.cpc_printer_layout.proofs.Blanks.{one_blank, one_line, two_lines, some_more, then_more}
use Rattle.cpc_printer_layout.proofs.page.put_gap.Goals as goal

pub returns-in_ok-push-in-None : goal.returns-in_ok-push-in-None
returns-in_ok-push-in-None c = some_more c.args.is_needed _ _ _ one_blank (omega arith) c.in_ok-push-in-None.ensures.items

pub returns-in_ok-push-in-Blank : goal.returns-in_ok-push-in-Blank
returns-in_ok-push-in-Blank c = some_more c.args.is_needed _ _ _ one_blank (omega arith) c.in_ok-push-in-Blank.ensures.items

pub returns-in_ok-put_levels-in-Line : goal.returns-in_ok-put_levels-in-Line
returns-in_ok-put_levels-in-Line c =
    then_more c.args.is_needed false _ _ _ (some_more c.args.is_needed _ _ _ one_line (omega arith) c.in_ok-push-in-Line.ensures.items) c.in_ok-put_levels-in-Line.ensures

pub returns-in_ok-extend_from_slice-in-Paragraph : goal.returns-in_ok-extend_from_slice-in-Paragraph
returns-in_ok-extend_from_slice-in-Paragraph c = some_more c.args.is_needed _ _ _ two_lines (omega arith) c.in_ok-extend_from_slice-in-Paragraph.ensures.items
