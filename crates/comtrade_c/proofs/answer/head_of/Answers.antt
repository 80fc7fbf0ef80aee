use Rattle.std.proofs.Common.{rules}
use Rattle.comtrade_c.proofs.answer.head_of.Goals as goal

pub returns-in-Err-clause-fault : goal.returns-in-Err-clause-fault
returns-in-Err-clause-fault g c = λ is. record {
  why = c.in-Err.why;
  faulty = c.in-Err.ensures.fault (search rules);
  numbers = c.of_read.ensures;
  unread = c.in-Err.ensures.unread (search rules);
}
