use Rattle.std.proofs.Common.{sym, arith}
use Rattle.std.proofs.lemmas.Bool.Decides.{nat_tests}
use Rattle.comtrade_values.proofs.PlainNumbers.{no_digit, short_end, short_comma, short_stops}
use Rattle.comtrade_values.proofs.plain_numbers.behind_digits.Goals as goal

pub returns-then-count-eq0-clause-plain : goal.returns-then-count-eq0-clause-plain
returns-then-count-eq0-clause-plain c = sym (no_digit c.args.text.now (rw c.if-count-eq0.true at c.requires.all))

pub returns-in_default-clause-plain : goal.returns-in_default-clause-plain
returns-in_default-clause-plain c =
    let d = c.requires in
    sym (short_end c.args.text.now c.args.count d.within (grind (arith, nat_tests, c.get.ensures.lookup, c.in_default.is)) c.if-count-eq0.false d.few d.digits)

pub returns-then-next-ne44-clause-plain : goal.returns-then-next-ne44-clause-plain
returns-then-next-ne44-clause-plain c =
    let d = c.requires in
    sym (short_stops c.args.text.now c.args.count (grind (arith, nat_tests, c.get.ensures.lookup, c.in-Some.is)) d.digits d.all (grind (arith, c.get.ensures.lookup, c.in-Some.is, c.if-next-ne44.true)))

pub returns-clause-plain : goal.returns-clause-plain
returns-clause-plain c =
    let d = c.requires in
    sym (short_comma c.args.text.now c.args.count (grind (arith, nat_tests, c.get.ensures.lookup, c.in-Some.is)) c.if-count-eq0.false d.few d.digits (grind (arith, c.get.ensures.lookup, c.in-Some.is, c.if-next-ne44.false)))
