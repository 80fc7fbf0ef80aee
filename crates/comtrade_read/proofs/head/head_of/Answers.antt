use Rattle.std.proofs.Common.{rules, refl, w64}
use Rattle.std.proofs.lemmas.Int.{to_z-of_z}
use Rattle.std.proofs.lemmas.Result.{err_from_is_err_and}
use Rattle.comtrade_read.specs.Head.{head}
use Rattle.comtrade_read.proofs.head.head_of.Goals as goal

pub returns-in_err-analog : goal.returns-in_err-analog
unfolding head
returns-in_err-analog g c =
    let p = err_from_is_err_and c.from_residual-in_err-analog.result c.from_residual-in_err-analog.ensures.1 in
    rw (p.1, p.2) (λ n. rw (← c.of-left.ensures, c.in_ok-names.ensures, c.in_ok-analog_count.ensures.value, c.in_err-analog.ensures n) refl)

pub returns-in_err-status : goal.returns-in_err-status
unfolding head
returns-in_err-status g c =
    let p = err_from_is_err_and c.from_residual-in_err-status.result c.from_residual-in_err-status.ensures.1 in
    rw (p.1, p.2) (λ n. rw (← c.of-left.ensures, c.in_ok-names.ensures, c.in_ok-analog_count.ensures.value, c.in_ok-analog.ensures, c.in_err-status.ensures n) refl)

pub returns-in_err-tail : goal.returns-in_err-tail
unfolding head
returns-in_err-tail g c =
    let p = err_from_is_err_and c.from_residual-in_err-tail.result c.from_residual-in_err-tail.ensures.1 in
    rw (p.1, p.2) (λ n. rw (← c.of-left.ensures, c.in_ok-names.ensures, c.in_ok-analog_count.ensures.value, c.in_ok-analog.ensures, c.in_ok-status.ensures, c.in_err-tail.ensures.value n) refl)

pub returns : goal.returns
unfolding head
returns g c =
    let first = to_z-of_z w64 c.in_ok-tail.tail.end.first (search rules) in
    let trigger = to_z-of_z w64 c.in_ok-tail.tail.end.trigger (search rules) in
    rw (
      ← c.of-left.ensures,
      c.in_ok-names.ensures,
      c.in_ok-analog_count.ensures.value,
      c.in_ok-analog.ensures,
      c.in_ok-status.ensures,
      c.in_ok-tail.ensures.value,
      first,
      trigger,
      c.of.ensures,
      c.of-2.ensures,
      c.of-3.ensures,
    ) refl
