use Rattle.comtrade_table.proofs.InPieces.{pieces_read}
use Rattle.comtrade_table.proofs.laws.read_in_pieces.Goals as goal

pub returns : goal.returns
returns c = pieces_read
