use Rattle.std.proofs.Common.{refl, sym, ◌∙◌}
use Rattle.comtrade_read.proofs.Digits.{date_is}
use Rattle.comtrade_read.proofs.instant.date.Goals as goal

pub returns-clause-value : goal.returns-clause-value
returns-clause-value c =
    c.day_at.ensures.value
    ∙ date_is c.args.text.now c.in_ok-day.day.now c.in_ok-day.rest.now c.in_ok-month.month.now c.in_ok-month.year.now _ _ _
    (c.in_ok-day.ensures.found.0 refl) c.in_ok-day.ensures.front c.in_ok-day.ensures.rest
    (c.in_ok-month.ensures.found.0 refl) c.in_ok-month.ensures.front c.in_ok-month.ensures.rest
    (sym c.in_ok-digits.ensures.value) (sym c.in_ok-digits-2.ensures.value) (sym c.in_ok-digits-3.ensures.value)
