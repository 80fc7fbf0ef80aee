use Rattle.comtrade_read.proofs.ReadBack.{read_back}
use Rattle.comtrade_read.proofs.laws.read_back.Goals as goal

pub returns : goal.returns
returns c = read_back
