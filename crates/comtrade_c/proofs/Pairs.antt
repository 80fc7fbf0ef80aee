-- What is said of a pair by the rows that its data say under its head.
use Rattle.std.proofs.Common.{ℕ, List}
use Rattle.std.specs.Prelude.{ℤ}
use Rattle.comtrade_format.specs.Parts.{HeadParts}
use Rattle.comtrade_read.specs.Reads.{ReadsHead}
use Rattle.comtrade_c.specs.Tables.{Tabulates, LacksRoom, TabulatesRows, RowsLackRoom}

pub tabulates : {cfg dat t : List ℕ} {s : List ℤ} {b : List ℕ} (h : HeadParts) → ReadsHead cfg h → TabulatesRows h dat t s b → Tabulates cfg dat t s b
tabulates h found told = record {
  file = record { head = h; rows = told.rows };
  reads = record { head = found; rows = told.reads };
  stamps_are = told.stamps_are;
  samples_are = told.samples_are;
  bits_are = told.bits_are;
}

pub lacks_room : {cfg dat t : List ℕ} {s : List ℤ} {b : List ℕ} (h : HeadParts) → ReadsHead cfg h → RowsLackRoom h dat t s b → LacksRoom cfg dat t s b
lacks_room h found told = record {
  file = record { head = h; rows = told.rows };
  reads = record { head = found; rows = told.reads };
  lengths = told.lengths;
}
