use Rattle.std.proofs.Common.{◌≡◌, arith, ap, sym, ◌∙◌, codes, decimal}
use Rattle.std.proofs.lemmas.Fmt.{decimal_digit}
use Rattle.itoa.proofs.Decimal.{decimal_four}
use Rattle.comtrade_format.specs.Ascii.{reading_text}
use Rattle.comtrade_format.proofs.value_text.value_of.Goals as goal

missing : decimal 99_999 ≡ codes "99999"
missing = rw (decimal_four 99_999 (omega arith) (omega arith), decimal_digit 9 (omega arith))

pub returns-in-Missing-clause-text : goal.returns-in-Missing-clause-text
returns-in-Missing-clause-text c = missing ∙ ap reading_text (sym c.in-Missing.is)
