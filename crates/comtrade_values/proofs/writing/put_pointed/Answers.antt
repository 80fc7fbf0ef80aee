use Rattle.std.proofs.Common.{arith}
use Rattle.std.proofs.lemmas.Grind.{common_steps}
use Rattle.comtrade_values.proofs.Points.{pointed_none, pointed_inside, pointed_before}
use Rattle.comtrade_values.proofs.writing.put_pointed.Goals as goal

pub returns-then-places-eq0 : goal.returns-then-places-eq0
returns-then-places-eq0 g c = let e = c.if-places-eq0.true in rw (e, pointed_none) (grind (arith, common_steps))

pub returns-then-places-digits : goal.returns-then-places-digits
returns-then-places-digits g c =
    let e = pointed_inside c.args.places c.args.digits.now (omega arith) (omega arith) in
    rw e (grind (arith, common_steps))

pub returns : goal.returns
returns g c =
    let e = pointed_before c.args.places c.args.digits.now (omega arith) (omega arith) in
    rw e (grind (arith, common_steps))
