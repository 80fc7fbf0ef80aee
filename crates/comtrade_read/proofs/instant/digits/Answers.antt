use Rattle.std.proofs.Common.{rules, ◌<◌, ◌≤◌, ◌^◌, arith, sym}
use Rattle.std.proofs.Math.Nat.{pow-le-pow_right}
use Rattle.comtrade_read.proofs.Digits.{few_digits, no_digits, not_so_long, too_long}
use Rattle.comtrade_read.proofs.instant.digits.Goals as goal

pub returns-then-text-low-clause-value : goal.returns-then-text-low-clause-value
returns-then-text-low-clause-value c = not_so_long c.args.low c.args.high c.args.text.now c.if-text-low.true

pub returns-then-high-text-clause-value : goal.returns-then-high-text-clause-value
returns-then-high-text-clause-value c = too_long c.args.low c.args.high c.args.text.now c.if-high-text.true

pub overflow_cast-result : goal.overflow_cast-result
overflow_cast-result c =
    let p = few_digits c.args.low c.args.high c.in-Some.number c.args.text.now c.requires.high c.if-text-low.false c.if-high-text.false (sym c.in-Some.ensures) in
    let top : 10 ^ c.args.high ≤ 10 ^ 6 = pow-le-pow_right {n = 10} (omega arith) {i = c.args.high} {j = 6} c.requires.high in
    let lt : c.in-Some.number < 10 ^ 6 = omega (arith, p.2) in
    search (rules, arith)

pub returns-in-Some-clause-value : goal.returns-in-Some-clause-value
returns-in-Some-clause-value c = sym (few_digits c.args.low c.args.high c.in-Some.number c.args.text.now c.requires.high c.if-text-low.false c.if-high-text.false (sym c.in-Some.ensures)).0

pub returns-in-Some-clause-short : goal.returns-in-Some-clause-short
returns-in-Some-clause-short c =
    (c.if-high-text.false, (few_digits c.args.low c.args.high c.in-Some.number c.args.text.now c.requires.high c.if-text-low.false c.if-high-text.false (sym c.in-Some.ensures)).1)

pub returns-in-Some-clause-bound : goal.returns-in-Some-clause-bound
returns-in-Some-clause-bound c = (few_digits c.args.low c.args.high c.in-Some.number c.args.text.now c.requires.high c.if-text-low.false c.if-high-text.false (sym c.in-Some.ensures)).2

pub returns-in-None-clause-value : goal.returns-in-None-clause-value
returns-in-None-clause-value c = no_digits c.args.low c.args.high c.args.text.now c.requires.low c.if-text-low.false (sym c.in-None.ensures)
