use Rattle.std.proofs.Common.{◌≡◌, max, refl, arith}
use Rattle.std.proofs.lemmas.Result.{err_from_is_err_and}
use Rattle.comtrade_read.specs.Head.{tail}
use Rattle.comtrade_read.proofs.head.tail_of.Goals as goal

pub returns-in_err-rates-clause-value : goal.returns-in_err-rates-clause-value
unfolding tail
returns-in_err-rates-clause-value g c =
    let p = err_from_is_err_and c.from_residual-in_err-rates.result c.from_residual-in_err-rates.ensures.1 in
    let count : c.max.result ≡ max 1 c.in_ok-nrates.nrates = omega (arith, c.max.ensures) in
    rw (p.1, p.2) (λ n. rw (c.in_ok-line_freq.ensures, c.in_ok-nrates.ensures.value, ← count, c.in_err-rates.ensures n) refl)

pub returns-in_err-end-clause-value : goal.returns-in_err-end-clause-value
unfolding tail
returns-in_err-end-clause-value g c =
    let p = err_from_is_err_and c.from_residual-in_err-end.result c.from_residual-in_err-end.ensures.1 in
    let count : c.max.result ≡ max 1 c.in_ok-nrates.nrates = omega (arith, c.max.ensures) in
    rw (p.1, p.2) (λ n. rw (c.in_ok-line_freq.ensures, c.in_ok-nrates.ensures.value, ← count, c.in_ok-rates.ensures, c.in_err-end.ensures n) refl)
