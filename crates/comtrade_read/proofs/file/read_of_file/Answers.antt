use Rattle.std.proofs.Common.{◌∙◌, List, ℕ}
use Rattle.comtrade_format.specs.Parts.{FileParts}
use Rattle.comtrade_read.proofs.ReadAgain.{IsWritten, written_reads, same_again, reads_again}
use Rattle.comtrade_read.proofs.file.read_of_file.Goals as goal

pub returns-in-Ok-read : goal.returns-in-Ok-read
returns-in-Ok-read g c =
    let f : FileParts = c.args.file.now in
    let cfg : List ℕ = c.as_slice.result.now in
    let dat : List ℕ = c.as_slice-2.result.now in
    let written : IsWritten f cfg dat = record {
      reads = c.file_reads_back.ensures c.in-Ok.ensures.0 c.in-Ok-dat_bytes.ensures.0;
      cfg_text = c.as_slice.ensures.value ∙ c.in-Ok.ensures.1;
      dat_text = c.as_slice-2.ensures.value ∙ c.in-Ok-dat_bytes.ensures.1;
    } in
    record {
      same = same_again f c.in-Ok-read.again cfg dat written c.in-Ok-read.ensures.found;
      reads = reads_again f c.in-Ok-read.again cfg dat written c.in-Ok-read.ensures.found;
      fault = tt;
    }

pub unreachable-requires : goal.unreachable-requires
unreachable-requires g c =
    let f : FileParts = c.args.file.now in
    let cfg : List ℕ = c.as_slice.result.now in
    let dat : List ℕ = c.as_slice-2.result.now in
    let written : IsWritten f cfg dat = record {
      reads = c.file_reads_back.ensures c.in-Ok.ensures.0 c.in-Ok-dat_bytes.ensures.0;
      cfg_text = c.as_slice.ensures.value ∙ c.in-Ok.ensures.1;
      dat_text = c.as_slice-2.ensures.value ∙ c.in-Ok-dat_bytes.ensures.1;
    } in
    c.in-Err-read.ensures.unread c.in_default.not-Memory f (written_reads f cfg dat written)

pub returns-in-Memory-clause-fault : goal.returns-in-Memory-clause-fault
returns-in-Memory-clause-fault g c = tt
