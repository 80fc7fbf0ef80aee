use Rattle.std.proofs.lemmas.Result.{IfOk-weaker, IfErr-weaker}
use Rattle.std.proofs.Common.{map}
use Rattle.comtrade_values.specs.Lines.{lines, fields}
use Rattle.comtrade_read.proofs.HeadSays.{head_said}
use Rattle.comtrade_read.proofs.TextSpelled.{cfg_spelled, cfg_found, cfg_fault}
use Rattle.comtrade_read.proofs.OneFile.{no_head}
use Rattle.comtrade_read.proofs.head.read_cfg.Goals as goal

pub returns-clause-found : goal.returns-clause-found
returns-clause-found g c = IfOk-weaker c.head_of.result _ _ (cfg_spelled c.args.text.now) (cfg_found c.args.text.now c.head_of.result c.head_of.ensures)

pub returns-clause-few : goal.returns-clause-few
returns-clause-few g c = IfOk-weaker c.head_of.result _ _ (λ x s. (head_said (map fields (lines c.args.text.now)) x s).1) (cfg_found c.args.text.now c.head_of.result c.head_of.ensures)

pub returns-clause-fault : goal.returns-clause-fault
returns-clause-fault g c = cfg_fault c.args.text.now c.head_of.result c.head_of.ensures

pub returns-clause-unread : goal.returns-clause-unread
returns-clause-unread g c = IfErr-weaker c.head_of.result _ _ (λ x f n. no_head c.args.text.now x (f n)) (cfg_fault c.args.text.now c.head_of.result c.head_of.ensures)
