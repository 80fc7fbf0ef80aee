-- What is printed of a pair that was read, and of one that has a fault.
use Rattle.std.proofs.Common.{◌≡◌, ◌≢◌, refl, true, false, Bool, ℕ, List, Option, Result, Ok, Err, subst, sym}
use Rattle.std.specs.Prelude.{IfOk, OnOk}
use Rattle.std.specs.Io.KnownBytes.{Appends}
use Rattle.comtrade_read.specs.declared.fault.ReadFault.{ReadFault}
use Rattle.comtrade_read.specs.declared.fault.ReadFault.TheVariants.{Memory}
use Rattle.comtrade_read.specs.declared.pair.Part.{Part}
use Rattle.comtrade_read.specs.Reads.{Reads, FaultyPair, IsNoFile}
use Rattle.comtrade_format.specs.Parts.{FileParts}
use Rattle.dfr_program.specs.Pairs.{ReportsPair, PrintsPair, CutsPair}
use Rattle.dfr_program.specs.ReadTexts.{file_text, read_fault_text}
use Rattle.dfr_program.specs.Writing.{Cut}

pub file_cut : (cfg dat : List ℕ) (file : FileParts) (a b : Option (List ℕ)) → Reads cfg dat file → Cut a b (file_text file) → CutsPair cfg dat a b
file_cut cfg dat file a b reads cut = record {
  done = true;
  text = file_text file;
  reports = record { file = file; reads = reads; same = refl };
  cut = cut;
}

reports_fault : (cfg dat : List ℕ) (part : Part) (fault : ReadFault) → fault ≢ Memory → FaultyPair cfg dat part fault → IsNoFile cfg dat → ReportsPair cfg dat false (read_fault_text part fault)
reports_fault cfg dat part fault named faulty unread =
    record { part = part; fault = fault; named = named; faulty = faulty; unread = unread; same = refl }

pub fault_printed : {E : Type 0} (r : Result Bool E) (cfg dat : List ℕ) (part : Part) (fault : ReadFault) (a b : Option (List ℕ)) → (fault ≢ Memory → FaultyPair cfg dat part fault) → (fault ≢ Memory → IsNoFile cfg dat) → OnOk r (Appends a b (read_fault_text part fault)) → IfOk r (λ done. (done ≡ false) × (fault ≢ Memory)) → IfOk r (λ done. PrintsPair cfg dat done a b)
fault_printed (Ok done) cfg dat part fault a b faulty unread h p =
    subst (λ (v : Bool). PrintsPair cfg dat v a b) (sym p.0) (record {
      text = read_fault_text part fault;
      reports = reports_fault cfg dat part fault p.1 (faulty p.1) (unread p.1);
      written = h;
    })
fault_printed (Err e) cfg dat part fault a b faulty unread h p = tt
