-- What is written is read.
use Rattle.std.proofs.Common.{◌≡◌, true, length, None, sym}
use Rattle.std.specs.Prelude.{◌&&◌}
use Rattle.std.specs.List.{AllByRecursion}
use Rattle.comtrade_values.specs.Faults.{fault_unless}
use Rattle.comtrade_format.specs.declared.bounds.Bounds.{Bounds}
use Rattle.comtrade_format.specs.declared.fault.WriteFault.TheVariants as faults
use Rattle.comtrade_format.specs.declared.file.Kind.{Kind}
use Rattle.comtrade_format.specs.declared.file.Kind.TheVariants.{Ascii, Binary}
use Rattle.comtrade_format.specs.Parts.{FileParts}
use Rattle.comtrade_format.specs.Data.{dat, dat_refusal}
use Rattle.comtrade_format.specs.Shape.{head_shaped, is_some_of, rates_end, rows_shaped, is_shaped}
use Rattle.comtrade_format.specs.Refusals.{ascii_bounds, binary_bounds, value_refusal, stamp_refusal, rows_refusal, data_refusal, text_refusal, cfg_refusal}
use Rattle.comtrade_read.specs.Reads.{ReadsAs}
use Rattle.comtrade_read.specs.ReadBack.{ReadBackLaw}
use Rattle.comtrade_read.proofs.WrittenRows.{RowTaken, rows_taken, ascii_written, binary_written}
use Rattle.comtrade_read.proofs.HeadTaken.{HeadTaken, head_taken}
use Rattle.comtrade_read.proofs.WrittenHead.{head_written, last_row}
use Rattle.std.proofs.lemmas.Bool.{and_parts}
use Rattle.dfr_channels.proofs.Lawful.{or-none, unless-none}

rows_of : (b : Bounds) (f : FileParts) → rows_shaped f.head f.rows ≡ true → data_refusal b f ≡ None → AllByRecursion (RowTaken b (length f.head.analog) (length f.head.status)) f.rows
unfolding data_refusal
rows_of b f shaped e =
    let p = or-none (fault_unless (is_shaped f) faults.Shape) (rows_refusal b f.rows) e in
    let q = or-none (value_refusal b f.rows) (stamp_refusal b f.rows) p.1 in
    rows_taken b (length f.head.analog) (length f.head.status) 1 f.rows shaped q.0 q.1

data_written : (kind : Kind) (f : FileParts) → rows_shaped f.head f.rows ≡ true → dat_refusal kind f ≡ None → ReadsAs kind (length f.head.analog) (length f.head.status) (dat kind f) f.rows
data_written Ascii f shaped e = ascii_written (length f.head.analog) (length f.head.status) f.rows (rows_of ascii_bounds f shaped e)
data_written Binary f shaped e = binary_written (length f.head.analog) (length f.head.status) f.rows (rows_of binary_bounds f shaped e)

pub read_back : ReadBackLaw
unfolding cfg_refusal is_shaped
read_back f n c d =
    let p = or-none (fault_unless (is_shaped f) faults.Shape) (text_refusal f.head) c in
    let shaped = unless-none (is_shaped f) faults.Shape p.0 in
    let a = and_parts (head_shaped f.head && is_some_of (rates_end 0 f.head.rates) (length f.rows)) (rows_shaped f.head f.rows) shaped in
    let b = and_parts (head_shaped f.head) (is_some_of (rates_end 0 f.head.rates) (length f.rows)) a.0 in
    let t : HeadTaken f.head (length f.rows) = head_taken f.head (length f.rows) n b.0 b.1 p.1 in
    record {
      head = head_written f.head (length f.rows) t;
      rows = record { count = sym (last_row f.head (length f.rows) t); each = data_written f.head.kind f a.1 d };
    }
