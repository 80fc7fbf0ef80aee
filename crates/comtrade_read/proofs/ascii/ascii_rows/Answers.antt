use Rattle.std.proofs.Common.{refl}
use Rattle.std.proofs.lemmas.Result.{err_from_is_err_and}
use Rattle.comtrade_read.specs.Ascii.{rows, data_lines}
use Rattle.comtrade_read.proofs.ascii.ascii_rows.Goals as goal

pub returns-in_err-end : goal.returns-in_err-end
unfolding rows data_lines
returns-in_err-end g c =
    let p = err_from_is_err_and c.from_residual-in_err-end.result c.from_residual-in_err-end.ensures.1 in
    rw (p.1, p.2) (λ n. rw (← c.before_end_mark-text.ensures, ← c.of-left.ensures, c.in_ok-rows.ensures, c.in_err-end.ensures n) refl)
