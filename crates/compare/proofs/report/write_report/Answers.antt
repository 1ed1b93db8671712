use Rattle.std.proofs.Common.{◌≤◌, length, ap, arith}
use Rattle.std.specs.List.{flat_map}
use Rattle.compare.specs.Report.{entry_line}
use Rattle.text.proofs.Puts.{puts_then, puts_as}
use Rattle.compare.proofs.Reports.{reported_all}
use Rattle.compare.proofs.report.write_report.Goals as goal

pub returns : goal.returns
returns c =
    let put = puts_then (puts_as c.first_line-head.ensures c.put_line-at.ensures) (puts_as (ap (flat_map entry_line) c.shown-entries.ensures) c.put_lines.ensures) in
    let fits : c.put_lines.result ≤ length c.args.report.now = omega arith in
    let p = reported_all c.args.report.now _ _ _ put fits in
    record { answers = p.0; fills = p.1; within = fits }
