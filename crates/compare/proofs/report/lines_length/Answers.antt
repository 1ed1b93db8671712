use Rattle.std.proofs.Common.{◌≡◌, length, sym, ◌∙◌, rules}
use Rattle.std.proofs.lemmas.List.Concat.{length-flat_map}
use Rattle.std.specs.List.{sum_by}
use Rattle.compare.specs.Report.{entry_line}
use Rattle.compare.proofs.report.lines_length.Goals as goal

pub returns : goal.returns
returns c = let total : c.sum.result ≡ sum_by (λ e. length (entry_line e)) c.args.entries.now = search rules in total ∙ sym (length-flat_map entry_line c.args.entries.now)
