-- Where a text reads there is no fault, and it reads to one thing only.
use Rattle.std.proofs.Common.{◌≡◌, ℕ, ◌*◌, Bool, true, false, cond, eqb, List, length, refl, sym, arith}
use Rattle.std.specs.Prelude.{Ok, Err}
use Rattle.std.proofs.lemmas.Bool.{eqb-true}
use Rattle.std.proofs.lemmas.Bool.Decides.{nat_tests}
use Rattle.comtrade_format.specs.declared.file.Kind.{Kind}
use Rattle.comtrade_format.specs.declared.file.Kind.TheVariants.{Ascii, Binary}
use Rattle.comtrade_format.specs.Parts.{HeadParts, RowParts, FileParts}
use Rattle.comtrade_read.specs.declared.fault.ReadFault.{ReadFault}
use Rattle.comtrade_read.specs.declared.fault.ReadFault.TheVariants as faults
use Rattle.comtrade_read.specs.declared.pair.Part.{Part}
use Rattle.comtrade_read.specs.declared.pair.Part.TheVariants.{Cfg, Dat}
use Rattle.comtrade_read.specs.Head.{last_sample}
use Rattle.comtrade_read.specs.Inner.BinaryRows.{rows_at}
use Rattle.comtrade_read.specs.Inner.RowValues.{rows_as, rows_under}
use Rattle.comtrade_read.specs.Reads.{ReadsHead, ReadsAs, ReadsRows, Reads, FaultyHead, row_size, FaultyAs, FaultyData, FaultyPair, Nothing, AtMostOne}
use Rattle.comtrade_read.proofs.BinaryNumbers.{AllBytes}
use Rattle.comtrade_read.proofs.HeadSays.{test_said}
use Rattle.comtrade_read.proofs.RowBytes.{binary_spelled, binary_only}
use Rattle.comtrade_read.proofs.TextSpelled.{cfg_only, ascii_spelled, ascii_only}

-- ---- rows

as_spelled : (kind : Kind) (k m n : ℕ) (dat : List ℕ) (rows : List RowParts) → AllBytes dat → rows_as kind k m n dat ≡ Ok rows → (length rows ≡ n) × ReadsAs kind k m dat rows
as_spelled Ascii k m n dat rows b e = ascii_spelled k m n dat rows e
as_spelled Binary k m n dat rows b e =
    let p = test_said (eqb (length dat) (n * row_size k m)) _ faults.Length rows e in
    binary_spelled k m n dat rows b (eqb-true (length dat) (n * row_size k m) p.0) (sym p.1)

as_only : (kind : Kind) (k m : ℕ) (dat : List ℕ) (rows : List RowParts) → ReadsAs kind k m dat rows → rows_as kind k m (length rows) dat ≡ Ok rows
as_only Ascii k m dat rows r = ascii_only k m dat rows r
as_only Binary k m dat rows r =
    let p = binary_only k m dat rows r in
    let long : length dat ≡ length rows * row_size k m = p.0 in
    let t : eqb (length dat) (length rows * row_size k m) ≡ true = grind (arith, nat_tests) in
    rw (t, ← p.1) refl

fault_said : (kind : Kind) (k m n : ℕ) (dat : List ℕ) (e : ReadFault) → FaultyAs kind k m n dat e → rows_as kind k m n dat ≡ Err e
fault_said Ascii k m n dat e f = f
fault_said Binary k m n dat e f =
    let t : eqb (length dat) (n * row_size k m) ≡ false = with_test (eqb (length dat) (n * row_size k m)) refl in
    rw (t, f.1) refl
  where
    with_test : (b : Bool) → eqb (length dat) (n * row_size k m) ≡ b → b ≡ false
    with_test true t = absurd (f.0 (eqb-true _ _ t))
    with_test false t = refl

said_fault : (kind : Kind) (k m n : ℕ) (dat : List ℕ) (e : ReadFault) → rows_as kind k m n dat ≡ Err e → FaultyAs kind k m n dat e
said_fault Ascii k m n dat e f = f
said_fault Binary k m n dat e f = with_test (eqb (length dat) (n * row_size k m)) refl f
  where
    with_test : (b : Bool) → eqb (length dat) (n * row_size k m) ≡ b → cond b (Ok (rows_at k m dat n)) (Err faults.Length) ≡ Err e → FaultyAs Binary k m n dat e
    with_test true t h = absurd cc
    with_test false t h = (λ same. let not : eqb (length dat) (n * row_size k m) ≡ true = grind (arith, nat_tests) in absurd cc, cc)

pub rows_spelled : (h : HeadParts) (dat : List ℕ) (rows : List RowParts) → AllBytes dat → rows_under h dat ≡ Ok rows → ReadsRows h dat rows
rows_spelled h dat rows b s = let p = as_spelled h.kind (length h.analog) (length h.status) (last_sample h.rates) dat rows b s in record { count = p.0; each = p.1 }

rows_only : (h : HeadParts) (dat : List ℕ) (rows : List RowParts) → ReadsRows h dat rows → rows_under h dat ≡ Ok rows
rows_only h dat rows r = rw r.count at (as_only h.kind (length h.analog) (length h.status) dat rows r.each)

no_rows : (h : HeadParts) (dat : List ℕ) (e : ReadFault) → FaultyData h dat e → (rows : List RowParts) → ReadsRows h dat rows → ⊥
no_rows h dat e f rows r =
    let a : rows_under h dat ≡ Err e = fault_said h.kind (length h.analog) (length h.status) (last_sample h.rates) dat e f in
    let b = rows_only h dat rows r in
    absurd cc

pub data_faulty : (h : HeadParts) (dat : List ℕ) (e : ReadFault) → rows_under h dat ≡ Err e → FaultyData h dat e × Nothing (ReadsRows h dat)
data_faulty h dat e s = let f = said_fault h.kind (length h.analog) (length h.status) (last_sample h.rates) dat e s in (f, no_rows h dat e f)

-- ---- heads and files

pub no_head : (cfg : List ℕ) (e : ReadFault) → FaultyHead cfg e → (h : HeadParts) → ReadsHead cfg h → ⊥
no_head cfg e f h r = let g = cfg_only cfg h r in absurd cc

pub one_head : (cfg : List ℕ) (g h : HeadParts) → ReadsHead cfg g → ReadsHead cfg h → g ≡ h
one_head cfg g h r s = let a = cfg_only cfg g r in let b = cfg_only cfg h s in cc

pub rows_same : (h : HeadParts) (dat : List ℕ) (a b : List RowParts) → ReadsRows h dat a → ReadsRows h dat b → a ≡ b
rows_same h dat a b r s = let x = rows_only h dat a r in let y = rows_only h dat b s in cc

pub one_file : (cfg dat : List ℕ) → AtMostOne (Reads cfg dat)
one_file cfg dat f g r s =
    let heads : g.head ≡ f.head = one_head cfg g.head f.head s.head r.head in
    let rows : f.rows ≡ g.rows = rows_same f.head dat f.rows g.rows r.rows (rw heads at s.rows) in
    rw (rows, ← heads) refl

pub no_file : (cfg dat : List ℕ) (p : Part) (e : ReadFault) → FaultyPair cfg dat p e → (f : FileParts) → Reads cfg dat f → ⊥
no_file cfg dat Cfg e f file r = no_head cfg e f file.head r.head
no_file cfg dat Dat e f file r =
    let same : file.head ≡ f.0 = one_head cfg file.head f.0 r.head f.1.0 in
    no_rows f.0 dat e f.1.1 file.rows (rw same at r.rows)
