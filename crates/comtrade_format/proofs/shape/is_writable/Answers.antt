use Rattle.std.proofs.Common.{rules, tests}
use Rattle.comtrade_format.proofs.shape.is_writable.Goals as goal

pub returns-then-instant-geminus62135596800000000 :
    goal.returns-then-instant-geminus62135596800000000
returns-then-instant-geminus62135596800000000 c = search (tests, rules)
