use Rattle.comtrade_format.specs.Parts.{FileParts}
use Rattle.comtrade_read.specs.ReadBack.{HasNumbers}
use Rattle.comtrade_read.proofs.ReadBack.{read_back}
use Rattle.comtrade_read.proofs.laws.file_reads_back.Goals as goal

pub returns : goal.returns
returns g c =
    let f : FileParts = c.args.file.now in
    let numbers : HasNumbers f.head = rw (← c.file.view_is) c.numbers.ensures in
    read_back f numbers
