-- A file that is written is read again, or an allocation failed.
use Rattle.std.proofs.Common.{◌≡◌, sym, subst, List, ℕ}
use Rattle.comtrade_format.specs.Parts.{FileParts}
use Rattle.comtrade_format.specs.Cfg.{cfg}
use Rattle.comtrade_format.specs.Data.{dat}
use Rattle.comtrade_read.specs.Reads.{Reads}
use Rattle.comtrade_read.proofs.OneFile.{one_file}

-- a file that its own texts read to, and these texts
pub record IsWritten (f : FileParts) (c d : List ℕ) : Type 0 where
  pub reads : Reads (cfg f.head) (dat f.head.kind f) f
  pub cfg_text : c ≡ cfg f.head
  pub dat_text : d ≡ dat f.head.kind f

pub written_reads : (f : FileParts) (c d : List ℕ) → IsWritten f c d → Reads c d f
written_reads f c d w =
    subst (λ (x : List ℕ). Reads x d f) (sym w.cfg_text) (subst (λ (y : List ℕ). Reads (cfg f.head) y f) (sym w.dat_text) w.reads)

pub same_again : (f g : FileParts) (c d : List ℕ) → IsWritten f c d → Reads c d g → g ≡ f
same_again f g c d w r = one_file c d g f r (written_reads f c d w)

pub reads_again : (f g : FileParts) (c d : List ℕ) → IsWritten f c d → Reads c d g → Reads (cfg g.head) (dat g.head.kind g) g
reads_again f g c d w r =
    subst (λ (x : FileParts). Reads (cfg x.head) (dat x.head.kind x) x) (sym (same_again f g c d w r)) w.reads
